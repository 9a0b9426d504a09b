-- What the host puts out is entered outside, in order, with the number of the tick before the first of it.
use Rattle.std.proofs.Common.{◌≡◌, ℕ, ◌&&◌, ◌||◌, not, Bool, true, false, if◌then◌else◌, List, [], ◌∷◌, ◌++◌, refl, sym, ap, ◌∙◌, append-nil, append_assoc}
use Rattle.std.specs.Prelude.{Option, Some, None}
use Rattle.std.specs.List.{AllByRecursion}
use Rattle.serial_frame.specs.Items.{unit_text}
use Rattle.serial_pipes.specs.State.{fits, garbled, mark_for}
use Rattle.serial_pipes.specs.Events.{told_by}
use Rattle.serial_pipes.specs.declared.marks.Mark.{Mark}
use Rattle.serial_pipes.specs.declared.marks.Mark.TheVariants.{Free, Lost, Changed}
use Rattle.zw_words.specs.declared.side.Side.TheVariants.{Host}
use Rattle.zw_text.specs.declared.entry.Entry.{Entry}
use Rattle.zw_text.specs.declared.entry.Entry.TheVariants as entry
use Rattle.proof_line.specs.host_model.declared.out.HostOut.{HostOut}
use Rattle.proof_line.specs.host_model.declared.out.HostOut.TheVariants.{Write, Note}
use Rattle.proof_line.specs.outside_model.State.{OuterState, Outside}
use Rattle.proof_line.specs.outside_model.Events.{OuterEvent, Host_writes, Host_notes, Host_begins, stamp, has_entered, ticked_entry, happens, outcome, devices_after}
use Rattle.proof_line.specs.outside_model.Did.{happens_all, entries_all}
use Rattle.proof_line.specs.world_model.State.{begun_in, noted_by, routed}
use Rattle.proof_line.proofs.Times.{time_of}
use Rattle.proof_alone.specs.Steps.{AreTold, IsOfUnit}

-- ---- the number of a tick

abbrev pub Time3 : Type 0
Time3 = Bool × Bool × ℕ

-- once something was entered it is not to be entered any more
pub entered : (in_tick stamped : Bool) → in_tick && not (in_tick || stamped) ≡ false
entered true stamped = refl
entered false stamped = refl

pub entered_still : (in_tick stamped : Bool) → in_tick || (in_tick || stamped) ≡ in_tick || stamped
entered_still true stamped = refl
entered_still false stamped = refl

-- only the time says which it is
pub same_stamp : (o p : OuterState) (told : List Entry) → time_of p ≡ time_of o → stamp p told ≡ stamp o told
same_stamp o p [] same = refl
same_stamp o p (e ∷ told) same = ap (λ (t : Time3). (if t.0 && not t.1 then entry.Time t.2 ∷ [] else []) ++ e ∷ told) same

pub same_entered : (o p : OuterState) (told : List Entry) → time_of p ≡ time_of o → time_of (has_entered p told) ≡ time_of (has_entered o told)
same_entered o p [] same = same
same_entered o p (e ∷ told) same = ap (λ (t : Time3). (t.0, t.0 || t.1, t.2)) same

-- one list of entries after another
pub stamp_both : (o : OuterState) (a b : List Entry) → stamp o a ++ stamp (has_entered o a) b ≡ stamp o (a ++ b)
stamp_both o [] b = refl
stamp_both o (e ∷ a) [] = append-nil (stamp o (e ∷ a)) ∙ sym (ap (λ (l : List Entry). stamp o (e ∷ l)) (append-nil a))
stamp_both o (e ∷ a) (f ∷ b) =
    ap (λ (x : Bool). stamp o (e ∷ a) ++ ((if x then entry.Time o.clock ∷ [] else []) ++ f ∷ b)) (entered o.in_tick o.stamped)
    ∙ append_assoc (ticked_entry o) (e ∷ a) (f ∷ b)

pub entered_both : (o : OuterState) (a b : List Entry) → time_of (has_entered (has_entered o a) b) ≡ time_of (has_entered o (a ++ b))
entered_both o [] b = refl
entered_both o (e ∷ a) [] = refl
entered_both o (e ∷ a) (f ∷ b) = ap (λ (x : Bool). (o.in_tick, x, o.clock)) (entered_still o.in_tick o.stamped)

-- ---- what was told

-- of what was put out; and then it is later, and the way to the host is the same
pub record OutsTold (w later : Outside) (outs : List HostOut) (all : List Entry) : Type 0 where
  pub told : List Entry
  pub are : AreTold outs told
  pub stamped : all ≡ stamp w.outer told
  pub time : time_of later.outer ≡ time_of (has_entered w.outer told)
  pub to_host : later.outer.to_host ≡ w.outer.to_host

-- what became of a unit of the host
overrun_of_unit : (b : Bool) → AllByRecursion IsOfUnit (if b then [] else entry.Overrun Host ∷ [])
overrun_of_unit true = tt
overrun_of_unit false = (tt, tt)

marks_of_unit : (bytes : List ℕ) (mark : Mark) (text : List ℕ) → AllByRecursion IsOfUnit (told_by Host bytes mark text)
marks_of_unit bytes Free text = overrun_of_unit (fits bytes text)
marks_of_unit bytes Lost text = (tt, tt)
marks_of_unit bytes (Changed garble) text = (tt, overrun_of_unit (fits bytes (garbled garble text)))

-- a note, and what is put out after it
noted_told : (w : Outside) (e : Entry) (outs : List HostOut) (events : List OuterEvent)
    → ((v : Outside) → OutsTold v (happens_all v events) outs (entries_all v events)) → OutsTold w (happens_all w (Host_notes e ∷ events)) (Note e ∷ outs) (entries_all w (Host_notes e ∷ events))
unfolding outcome devices_after
noted_told w e outs events more =
    let v : Outside = happens w (Host_notes e) in
    let rest = more v in
    record {
      told = e ∷ rest.told;
      are = (rest.told, refl, rest.are);
      stamped = ap (λ (l : List Entry). stamp w.outer (e ∷ []) ++ l) rest.stamped ∙ stamp_both w.outer (e ∷ []) rest.told;
      time = rest.time ∙ entered_both w.outer (e ∷ []) rest.told;
      to_host = rest.to_host;
    }

-- where a session begins the air learns of it first
begun_told : (w : Outside) (begun : Option (ℕ × ℕ)) (e : Entry) (outs : List HostOut) (events : List OuterEvent)
    → ((v : Outside) → OutsTold v (happens_all v events) outs (entries_all v events))
    → OutsTold w (happens_all w (noted_by begun e ++ events)) (Note e ∷ outs) (entries_all w (noted_by begun e ++ events))
unfolding outcome devices_after
begun_told w None e outs events more = noted_told w e outs events more
begun_told w (Some begun) e outs events more =
    let v : Outside = happens w (Host_begins begun.0 begun.1) in
    let rest = noted_told v e outs events more in
    record {
      told = rest.told;
      are = rest.are;
      stamped = rest.stamped ∙ same_stamp w.outer v.outer rest.told refl;
      time = rest.time ∙ same_entered w.outer v.outer rest.told refl;
      to_host = rest.to_host;
    }

pub outs_told : (outs : List HostOut) (w : Outside) → OutsTold w (happens_all w (routed outs)) outs (entries_all w (routed outs))
unfolding outcome devices_after
outs_told [] w = record { told = []; are = refl; stamped = refl; time = refl; to_host = refl }
outs_told (Write unit ∷ outs) w =
    let v : Outside = happens w (Host_writes unit) in
    let rest = outs_told outs v in
    let marks : List Entry = told_by Host w.outer.to_chip.bytes (mark_for w.outer.to_chip.marks unit) (unit_text unit) in
    let one : List Entry = entry.Written Host (unit_text unit) ∷ marks in
    record {
      told = one ++ rest.told;
      are = (marks, rest.told, refl, marks_of_unit w.outer.to_chip.bytes (mark_for w.outer.to_chip.marks unit) (unit_text unit), rest.are);
      stamped = ap (λ (l : List Entry). stamp w.outer one ++ l) (rest.stamped ∙ same_stamp (has_entered w.outer one) v.outer rest.told refl) ∙ stamp_both w.outer one rest.told;
      time = rest.time ∙ same_entered (has_entered w.outer one) v.outer rest.told refl ∙ entered_both w.outer one rest.told;
      to_host = rest.to_host;
    }
outs_told (Note e ∷ outs) w = begun_told w (begun_in e) e outs (routed outs) (λ v. outs_told outs v)
