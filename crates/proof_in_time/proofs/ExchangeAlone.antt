-- Where an event puts nothing on the air, nor a payload of a node among what the chip has for the host, what is on its way between the two alone stays so.
use Rattle.std.proofs.Common.{◌≡◌, ◌≤◌, ℕ, ◌+◌, List, ◌∷◌, ◌++◌, length, sym, ap, ◌∙◌, subst, append_assoc}
use Rattle.zw_base.proofs.Each.{all-append}
use Rattle.serial_frame.specs.Frame.{FrameParts}
use Rattle.air_frames.specs.Flown.{Flown}
use Rattle.world_model.specs.State.{Machine}
use Rattle.proof_answered.specs.proof_calm.proof_traffic.OnAir.{on_air}
use Rattle.proof_answered.specs.proof_calm.proof_work.proof_walk.Phases.{Phase}
use Rattle.proof_answered.specs.proof_calm.Tied.{unheard}
use Rattle.proof_in_time.specs.Coming.{Stands, brings, one_later, ticks_left}
use Rattle.proof_in_time.specs.Exchange.{Aired, BringsNone, Flies, GoesHome, IsHome, IsOut, IsSilentIn, NoneFly, NoneGo, NoneTold, OutAlone, TellsAlone, Told}
use Rattle.proof_in_time.proofs.Carried.{Fits, many_on_air, near, stands_within}
use Rattle.proof_in_time.proofs.PartsCarried.{Wraps, all_wrapped}

-- what it leaves; within so many ticks, and then within so many
pub record LeavesAlone (n left then_left : ℕ) (here next : Phase) (m later : Machine) : Type 0 where
  pub air : on_air later.outside.outer.air.frames ≡ on_air m.outside.outer.air.frames
  pub told : Wraps (BringsNone n) (unheard m.outside.outer) (unheard later.outside.outer)
  pub silent : IsSilentIn here m → IsSilentIn next later
  pub fits : Fits n (many_on_air m) here left next then_left

-- it is alone among more that bring none
pub alone_wrapped : (n : ℕ) (payload : List ℕ) (old new : List FrameParts) → Wraps (BringsNone n) old new → TellsAlone n payload old → TellsAlone n payload new
alone_wrapped n payload old new wraps alone = record {
  before = wraps.front ++ alone.before;
  behind = alone.behind ++ wraps.more;
  are = wraps.are
      ∙ (ap (λ (fs : List FrameParts). wraps.front ++ (fs ++ wraps.more)) alone.are
      ∙ (ap (λ (fs : List FrameParts). wraps.front ++ fs) (append_assoc alone.before (brings n payload ∷ alone.behind) wraps.more) ∙ sym (append_assoc wraps.front alone.before (brings n payload ∷ (alone.behind ++ wraps.more)))));
  first = all-append (BringsNone n) wraps.front alone.before wraps.before alone.first;
  last = all-append (BringsNone n) alone.behind wraps.more alone.last wraps.behind;
}

module _ (n left then_left : ℕ) (here next : Phase) (m later : Machine) (leaves : LeavesAlone n left then_left here next m later) where
  none_fly : NoneFly n (on_air m.outside.outer.air.frames) → NoneFly n (on_air later.outside.outer.air.frames)
  none_fly none = subst (NoneFly n) (sym leaves.air) none

  none_told : NoneTold n (unheard m.outside.outer) → NoneTold n (unheard later.outside.outer)
  none_told none = all_wrapped (BringsNone n) (unheard m.outside.outer) (unheard later.outside.outer) leaves.told none

  -- nothing is on its way still
  pub none_go : NoneGo n m → NoneGo n later
  none_go none = record { flies = none_fly none.flies; told = none_told none.told }

  near_then : (Is : Flown → Type 0) (at : Stands Is (on_air m.outside.outer.air.frames)) → ticks_left here + one_later here (length at.before) ≤ left → ticks_left next + one_later next (length at.before) ≤ then_left
  near_then Is at few =
      near (ticks_left next + one_later next (length at.before)) (ticks_left here + one_later here (length at.before)) left then_left (leaves.fits.joint (length at.before) (stands_within Is (on_air m.outside.outer.air.frames) at)) few

  -- a payload of its device, and nothing else of it
  pub home_alone : (Is : List ℕ → Type 0) → GoesHome n Is left here m → GoesHome n Is then_left next later
  home_alone Is (Flies at front behind none silent few) =
      Flies (record { before = at.before; frame = at.frame; behind = at.behind; are = leaves.air ∙ at.are; is = at.is }) front behind (none_told none) (leaves.silent silent) (near_then (IsHome n Is) at few)
  home_alone Is (Told payload is none alone silent few) =
      Told payload is (none_fly none) (alone_wrapped n payload (unheard m.outside.outer) (unheard later.outside.outer) leaves.told alone) (leaves.silent silent) (near (ticks_left next) (ticks_left here) left then_left leaves.fits.alone few)

  -- a payload for it on the air, and nothing else
  pub out_alone : (Is : List ℕ → Type 0) (at : Stands (IsOut n Is) (on_air m.outside.outer.air.frames)) → ticks_left here + one_later here (length at.before) ≤ left → NoneFly n at.before → NoneFly n at.behind → NoneTold n (unheard m.outside.outer)
      → OutAlone n Is then_left next later
  out_alone Is at few front behind none = record {
    out = Aired (record { before = at.before; frame = at.frame; behind = at.behind; are = leaves.air ∙ at.are; is = at.is }) (near_then (IsOut n Is) at few);
    alone = (front, behind);
    told = none_told none;
  }
