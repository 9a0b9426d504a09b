-- What the chip does at its events, one after another, and which of them may happen.
use Rattle.std.proofs.Common.{◌≡◌, ℕ, ◌≤◌, ◌-◌, ◌&&◌, ◌||◌, Bool, true, false, List, [], ◌∷◌, ◌++◌, length, map, refl, ap, sym, ◌∙◌, subst, inl, inr, arith, filter}
use Rattle.std.specs.Prelude.{Option, Some, None, nat_lt, nat_le, if◌then◌else◌, IsSome}
use Rattle.std.specs.List.{AllByRecursion, flat_map, range_with_len}
use Rattle.std.specs.Option.{is_some}
use Rattle.std.proofs.lemmas.Bool.{ltb-true, leb-true, and_parts}
use Rattle.std.proofs.lemmas.List.{append-nil}
use Rattle.zw_base.proofs.Each.{all-append}
use Rattle.serial_frame.specs.declared.unit.Unit.{Unit as LineUnit}
use Rattle.world_model.specs.serial_pipes.State.{WayState}
use Rattle.world_model.specs.serial_pipes.Events.{Writes}
use Rattle.world_model.specs.serial_pipes.Events as way
use Rattle.route_table.specs.Network.{linked}
use Rattle.world_model.specs.chip_sim.State.{ChipState, ChipParts}
use Rattle.world_model.specs.chip_sim.Events.{ChipEvent, Joined, Linked, after, outs, May, OwesCall, FitsProfile}
use Rattle.world_model.specs.chip_sim.Did.{MayAll, after_all, outs_all}
use Rattle.world_model.specs.chip_sim.Link.{chip_units}
use Rattle.world_model.specs.chip_sim.declared.out.Sending.{Sending}
use Rattle.world_model.specs.chip_sim.declared.out.ChipOut.{ChipOut}
use Rattle.world_model.specs.chip_sim.declared.out.ChipOut.TheVariants as chip_out
use Rattle.world_model.proofs.chip_sim_EventLists.{after_all-append, outs_all-append, may_all-append}
use Rattle.world_model.specs.device_kinds.declared.kind.Kind.{Kind}
use Rattle.world_model.specs.device_kinds.declared.kind.Kind.TheVariants.{Relay, Switch, Dimmer, Lock, Sensor, Thermostat, Strip, Configurable}
use Rattle.world_model.specs.device_sim.Kind.{classes_of}
use Rattle.world_model.specs.device_sim.State.{State}
use Rattle.world_model.specs.mesh_sim.Air.{AirState}
use Rattle.world_model.specs.outside_model.State.{OuterState, each, with_chip}
use Rattle.world_model.specs.outside_model.Chip.{put_out, chip_does}
use Rattle.world_model.specs.outside_model.Results.{owes_call, told_profile, profile_of}
use Rattle.world_model.specs.outside_model.Air.{to_chip}
use Rattle.world_model.specs.outside_model.Nodes.{pairs_of, all_pairs, is_known}
use Rattle.proof_serial.specs.Way.{written_all}
use Rattle.proof_serial.specs.Chip.{ChipDoes}

-- ---- lists of events

pub units-append : (a b : List ChipOut) → chip_units (a ++ b) ≡ chip_units a ++ chip_units b
units-append [] b = refl
units-append (chip_out.Write u ∷ a) b = ap (λ (l : List LineUnit). u ∷ l) (units-append a b)
units-append (chip_out.OnAir to route payload ∷ a) b = units-append a b
units-append (chip_out.NoRoute ∷ a) b = units-append a b
units-append (chip_out.AskInfo n ∷ a) b = units-append a b
units-append (chip_out.Full ∷ a) b = units-append a b

pub written_all-append : (w : WayState) (a b : List LineUnit) → written_all w (a ++ b) ≡ written_all (written_all w a) b
written_all-append w [] b = refl
written_all-append w (u ∷ a) b = written_all-append (way.after w (Writes u)) a b

pub does_both : (a b : List ChipEvent) (o p q : OuterState) → ChipDoes a o p → ChipDoes b p q → ChipDoes (a ++ b) o q
does_both a b o p q first later =
    let s = o.chip.state in
    let all_outs : chip_units (outs_all s (a ++ b)) ≡ chip_units (outs_all s a) ++ chip_units (outs_all (after_all s a) b) =
    ap chip_units (outs_all-append s a b) ∙ units-append (outs_all s a) (outs_all (after_all s a) b) in
    record {
      may = may_all-append s a b first.may (subst (λ (t : ChipState). MayAll t b) first.state later.may);
      state = later.state ∙ ap (λ (t : ChipState). after_all t b) first.state ∙ sym (after_all-append s a b);
      to_host = later.to_host
          ∙ ap (λ (w : WayState). written_all w (chip_units (outs_all p.chip.state b))) first.to_host
          ∙ ap (λ (t : ChipState). written_all (written_all o.to_host (chip_units (outs_all s a))) (chip_units (outs_all t b))) first.state
          ∙ sym (written_all-append o.to_host (chip_units (outs_all s a)) (chip_units (outs_all (after_all s a) b)))
          ∙ ap (λ (l : List LineUnit). written_all o.to_host l) (sym all_outs);
      decoder = later.decoder ∙ first.decoder;
      to_chip = later.to_chip ∙ first.to_chip;
    }

-- nothing of the chip and of the line changed
pub record IsStill (old new : OuterState) : Type 0 where
  pub chip : new.chip ≡ old.chip
  pub to_host : new.to_host ≡ old.to_host
  pub to_chip : new.to_chip ≡ old.to_chip

pub still_does : (o n : OuterState) → IsStill o n → ChipDoes [] o n
still_does o n still = record {
  may = tt;
  state = ap (λ (c : ChipParts). c.state) still.chip;
  to_host = still.to_host;
  decoder = ap (λ (c : ChipParts). c.decoder) still.chip;
  to_chip = still.to_chip;
}

-- ---- one event of the chip

-- what it puts out
pub record Puts (o n : OuterState) (put : List ChipOut) : Type 0 where
  pub chip : n.chip ≡ o.chip
  pub to_host : n.to_host ≡ written_all o.to_host (chip_units put)
  pub to_chip : n.to_chip ≡ o.to_chip

put_more : (o p n : OuterState) (put : List ChipOut) (units : List LineUnit) → p.chip ≡ o.chip → p.to_host ≡ written_all o.to_host units → p.to_chip ≡ o.to_chip → Puts p n put
    → (out : ChipOut) → chip_units (out ∷ put) ≡ units ++ chip_units put → Puts o n (out ∷ put)
put_more o p n put units chip to_host to_chip later out are = record {
  chip = later.chip ∙ chip;
  to_host = later.to_host ∙ ap (λ (w : WayState). written_all w (chip_units put)) to_host ∙ sym (written_all-append o.to_host units (chip_units put)) ∙ ap (λ (l : List LineUnit). written_all o.to_host l) (sym are);
  to_chip = later.to_chip ∙ to_chip;
}

puts_all : (o : OuterState) (put : List ChipOut) → Puts o (each put_out o put).outer put
puts_all o [] = record { chip = refl; to_host = refl; to_chip = refl }
puts_all o (chip_out.Write u ∷ put) = put_more o (put_out o (chip_out.Write u)).outer _ put (u ∷ []) refl refl refl (puts_all (put_out o (chip_out.Write u)).outer put) (chip_out.Write u) refl
puts_all o (chip_out.OnAir to route payload ∷ put) = put_more o (put_out o (chip_out.OnAir to route payload)).outer _ put [] refl refl refl (puts_all (put_out o (chip_out.OnAir to route payload)).outer put) (chip_out.OnAir to route payload) refl
puts_all o (chip_out.NoRoute ∷ put) = put_more o (put_out o chip_out.NoRoute).outer _ put [] refl refl refl (puts_all (put_out o chip_out.NoRoute).outer put) chip_out.NoRoute refl
puts_all o (chip_out.AskInfo n ∷ put) = put_more o (put_out o (chip_out.AskInfo n)).outer _ put [] refl refl refl (puts_all (put_out o (chip_out.AskInfo n)).outer put) (chip_out.AskInfo n) refl
puts_all o (chip_out.Full ∷ put) = put_more o (put_out o chip_out.Full).outer _ put [] refl refl refl (puts_all (put_out o chip_out.Full).outer put) chip_out.Full refl

pub does_one : (o : OuterState) (e : ChipEvent) → May o.chip.state e → ChipDoes (e ∷ []) o (chip_does o e).outer
unfolding chip_does
does_one o e may =
    let puts = puts_all (with_chip o (after o.chip.state e)) (outs o.chip.state e) in
    record {
      may = (may, tt);
      state = ap (λ (c : ChipParts). c.state) puts.chip;
      to_host = puts.to_host ∙ ap (λ (l : List ChipOut). written_all o.to_host (chip_units l)) (sym (append-nil (outs o.chip.state e)));
      decoder = ap (λ (c : ChipParts). c.decoder) puts.chip;
      to_chip = puts.to_chip;
    }

-- events that may happen, one after another
pub does_each : (o : OuterState) (events : List ChipEvent) → MayAll o.chip.state events → ChipDoes events o (each chip_does o events).outer
does_each o [] may = still_does o o (record { chip = refl; to_host = refl; to_chip = refl })
does_each o (e ∷ events) may =
    let one = does_one o e may.0 in
    let mid = (chip_does o e).outer in
    does_both (e ∷ []) events o mid (each chip_does mid events).outer one (does_each mid events (subst (λ (s : ChipState). MayAll s events) (sym one.state) may.1))

-- ---- calls that are owed

pub owes : (s : ChipState) → owes_call s ≡ true → OwesCall s
owes s e = by (nat_lt 0 s.aborted) refl e
  where
    sends : (sending : Option Sending) → is_some sending ≡ true → IsSome sending
    sends None bad = bad
    sends (Some x) good = good

    by : (b : Bool) → nat_lt 0 s.aborted ≡ b → (b || is_some s.sending) ≡ true → OwesCall s
    by true some all = inl (ltb-true 0 s.aborted some)
    by false none all = inr (sends s.sending all)

-- the chip's table changes
pub quiet_one : (o : OuterState) (e : ChipEvent) → May o.chip.state e → outs o.chip.state e ≡ [] → ChipDoes (e ∷ []) o (with_chip o (after o.chip.state e))
quiet_one o e may none = record {
  may = (may, tt);
  state = refl;
  to_host = ap (λ (l : List ChipOut). written_all o.to_host (chip_units l)) (sym (append-nil (outs o.chip.state e) ∙ none));
  decoder = refl;
  to_chip = refl;
}

-- ---- the information of a node

pub few_classes : (kind : Kind) → length (classes_of kind) ≤ 246
few_classes Relay = omega arith
few_classes Switch = omega arith
few_classes Dimmer = omega arith
few_classes Lock = omega arith
few_classes Sensor = omega arith
few_classes Thermostat = omega arith
few_classes Strip = omega arith
few_classes Configurable = omega arith

pub told_fits : (device : Option State) → FitsProfile (told_profile device)
told_fits None = tt
told_fits (Some device) = by device.awake
  where
    by : (b : Bool) → FitsProfile (if b then Some (profile_of device.kind) else None)
    by true = few_classes device.kind
    by false = tt

pub fits_for : (b : Bool) (device : Option State) → FitsProfile (if b then told_profile device else None)
fits_for true device = told_fits device
fits_for false device = tt

-- ---- a payload

pub short_payload : (payload : List ℕ) → (nat_le 1 (length payload) && nat_le (length payload) 46) ≡ true → (1 ≤ length payload) × (length payload ≤ 46)
short_payload payload e =
    let both = and_parts (nat_le 1 (length payload)) (nat_le (length payload) 46) e in
    (leb-true 1 (length payload) both.0, leb-true (length payload) 46 both.1)

-- ---- nodes

-- events that set the chip's table
abbrev pub SetsTable : ChipEvent → Type 0
SetsTable (Joined n listening) = Unit {0}
SetsTable (Linked a b live) = Unit {0}
SetsTable event = ⊥

pub sets_may : (s : ChipState) (events : List ChipEvent) → AllByRecursion SetsTable events → MayAll s events × (outs_all s events ≡ [])
sets_may s [] all = (tt, refl)
sets_may s (Joined n listening ∷ events) all = let more = sets_may (after s (Joined n listening)) events all.1 in ((tt, more.0), more.1)
sets_may s (Linked a b live ∷ events) all = let more = sets_may (after s (Linked a b live)) events all.1 in ((tt, more.0), more.1)
sets_may s (e ∷ events) all = absurd all.0

pub sets_map : {X : Type 0} (f : X → ChipEvent) → ((x : X) → SetsTable (f x)) → (xs : List X) → AllByRecursion SetsTable (map f xs)
sets_map f sets [] = tt
sets_map f sets (x ∷ xs) = (sets x, sets_map f sets xs)

sets_flat : {X : Type 0} (f : X → List ChipEvent) → ((x : X) → AllByRecursion SetsTable (f x)) → (xs : List X) → AllByRecursion SetsTable (flat_map f xs)
sets_flat f sets [] = tt
sets_flat f sets (x ∷ xs) = all-append SetsTable (f x) (flat_map f xs) (sets x) (sets_flat f sets xs)

pub all_pairs_set : (air : AirState) → AllByRecursion SetsTable (all_pairs air)
unfolding all_pairs
all_pairs_set air =
    sets_flat (λ (node : ℕ). pairs_of air node)
    (λ (node : ℕ). sets_map (λ (other : ℕ). Linked node other (linked air.network node other)) (λ (other : ℕ). tt) (filter (λ (other : ℕ). is_known air other) (range_with_len 1 (node - 1))))
    (filter (λ (node : ℕ). is_known air node) (range_with_len 1 232))
