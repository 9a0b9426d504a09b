-- What calls of the parts make of the outside.
use Rattle.std.proofs.Common.{rules, ◌≡◌, ℕ, zero, suc, ◌≤◌, ◌<◌, ◌⊎◌, inl, inr, Bool, true, false, All, List, [], ◌++◌, length, drop, refl, ap, sym, ◌∙◌, subst, Result, OnOk}
use Rattle.std.specs.Prelude.{Option, Some, None, IsSome, nat_lt, nat_le, ◌||◌, ◌&&◌, if◌then◌else◌}
use Rattle.std.specs.Option.{is_some}
use Rattle.std.proofs.lemmas.Bool.{lt-ltb, le-leb}
use Rattle.std.proofs.lemmas.List.{append-nil}
use Rattle.zw_base.specs.declared.profile.Profile.{Profile}
use Rattle.serial_frame.specs.Stream.{Rest, after_tick}
use Rattle.chip_functions.specs.declared.notice.TransmitStatus.{TransmitStatus}
use Rattle.chip_sim.specs.State.{ChipState, ChipParts}
use Rattle.chip_sim.specs.Events.{ChipEvent, Ticked, Heard, Done, Informed, after, outs, May, OwesCall}
use Rattle.chip_sim.specs.declared.out.Sending.{Sending}
use Rattle.chip_sim.specs.declared.out.ChipOut.{ChipOut}
use Rattle.zw_text.specs.declared.entry.Entry.{Entry}
use Rattle.outside_model.specs.State.{OuterState, each, silent, Does}
use Rattle.outside_model.specs.Chip.{IsSendable, put_out, chip_does, chip_ticks}
use Rattle.outside_model.specs.Results.{owes_call, call_back, no_route, no_routes}
use Rattle.outside_model.specs.Air.{to_chip}
use Rattle.outside_step.proofs.Answered.{map_ok}
use Rattle.outside_step.proofs.Outcomes.{does_rest, does_whole}
use Rattle.outside_step.proofs.Parts.{chip_is}
use Rattle.outside_step.proofs.Sendable.{sendable}

-- what the chip put out may be sent
pub sendable_outs : (s : ChipState) (e : ChipEvent) (start outputs : List ChipOut) → start ≡ [] → outputs ≡ start ++ outs s e → May s e → All IsSendable outputs
sendable_outs s e start outputs none put may = subst (λ (l : List ChipOut). All IsSendable l) (sym (put ∙ ap (λ (l : List ChipOut). l ++ outs s e) none)) (sendable s e may)

-- an event of the chip, and what it put out
pub does_chip : (o : OuterState) (moved : ChipParts) (decoder : Rest) (e : ChipEvent) (new : OuterState) (start outputs : List ChipOut) (before all : List Entry)
    → moved.decoder ≡ decoder → moved.state ≡ after o.chip.state e → start ≡ [] → outputs ≡ start ++ outs o.chip.state e
    → Does (each put_out (record o { chip = moved }) outputs) new before all
    → Does (chip_does (record o { chip = record { decoder = decoder; state = o.chip.state } }) e) new before all
unfolding chip_does
does_chip o moved decoder e new start outputs before all same state none put done =
    subst (λ (l : List ChipOut). Does (each put_out (record o { chip = record { decoder = decoder; state = after o.chip.state e } }) l) new before all) (put ∙ ap (λ (l : List ChipOut). l ++ outs o.chip.state e) none)
    (subst (λ (p : OuterState). Does (each put_out p outputs) new before all)
    (chip_is (record o { chip = record { decoder = decoder; state = o.chip.state } }) moved (after o.chip.state e) same state) done)

-- the chip ticked
pub ticked : {V E : Type 0} (r : Result V E) (o new : OuterState) (moved : ChipParts) (start outputs : List ChipOut) (before all : List Entry)
    → moved.decoder ≡ after_tick o.chip.decoder → moved.state ≡ after o.chip.state Ticked → start ≡ [] → outputs ≡ start ++ outs o.chip.state Ticked
    → OnOk r (Does (each put_out (record o { chip = moved }) outputs) new before all) → OnOk r (Does (chip_ticks o) new before all)
ticked r o new moved start outputs before all decoder state none put done =
    map_ok r (Does (each put_out (record o { chip = moved }) outputs) new before all) (Does (chip_ticks o) new before all)
    (does_chip o moved (after_tick o.chip.decoder) Ticked new start outputs before all decoder state none put) done

-- the chip was given the information of a node
pub informed : {V E : Type 0} (r : Result V E) (o new : OuterState) (node : ℕ) (given : Option Profile) (moved : ChipParts) (start outputs : List ChipOut) (before all : List Entry)
    → moved.decoder ≡ o.chip.decoder → moved.state ≡ after o.chip.state (Informed node given) → start ≡ [] → outputs ≡ start ++ outs o.chip.state (Informed node given)
    → OnOk r (Does (each put_out (record o { chip = moved }) outputs) new before all) → OnOk r (Does (chip_does o (Informed node given)) new before all)
informed r o new node given moved start outputs before all decoder state none put done =
    map_ok r (Does (each put_out (record o { chip = moved }) outputs) new before all) (Does (chip_does o (Informed node given)) new before all)
    (does_chip o moved o.chip.decoder (Informed node given) new start outputs before all decoder state none put) done

-- the chip waits for a result
or_true : (b : Bool) → (b || true) ≡ true
or_true true = refl
or_true false = refl

owes_yes : (s : ChipState) → OwesCall s → owes_call s ≡ true
owes_yes s owes = by_parts s.aborted s.sending owes
  where
    by_parts : (n : ℕ) (o : Option Sending) → (0 < n) ⊎ IsSome o → (nat_lt 0 n || is_some o) ≡ true
    by_parts n o (inl some) = ap (λ (b : Bool). b || is_some o) (lt-ltb 0 n some)
    by_parts n (Some sending) (inr some) = or_true (nat_lt 0 n)
    by_parts n None (inr some) = absurd (search (rules, some))

-- the chip was given a result
module _ (o new : OuterState) (status : TransmitStatus) (before all : List Entry) where
  pub called_back : (moved : ChipParts) (start outputs : List ChipOut) → OwesCall o.chip.state → moved.decoder ≡ o.chip.decoder → moved.state ≡ after o.chip.state (Done status)
      → start ≡ [] → outputs ≡ start ++ outs o.chip.state (Done status)
      → Does (each put_out (record o { calls = drop 1 o.calls; chip = moved }) outputs) new before all → Does (call_back o status) new before all
  called_back moved start outputs owes same state none put done =
      let q : OuterState = record o { calls = drop 1 o.calls } in
      subst (λ (b : Bool). Does (if b then chip_does q (Done status) else silent q) new before all) (sym (owes_yes o.chip.state owes))
      (does_chip q moved o.chip.decoder (Done status) new start outputs before all same state none put done)

  pub not_called : owes_call o.chip.state ≡ false → Does (silent (record o { calls = drop 1 o.calls })) new before all → Does (call_back o status) new before all
  not_called none done =
      let q : OuterState = record o { calls = drop 1 o.calls } in
      subst (λ (b : Bool). Does (if b then chip_does q (Done status) else silent q) new before all) (sym none) done

-- one result without a route more
pub routes_more : (k : ℕ) (o mid new : OuterState) (before some all : List Entry) → Does (no_routes k o) mid before some → Does (no_route mid) new some all → Does (no_routes (suc k) o) new before all
routes_more zero o mid new before some all done later =
    let told : some ≡ before = done.entries ∙ append-nil before in
    record {
      outer = later.outer ∙ ap (λ (p : OuterState). (no_route p).outer) done.outer;
      entries = later.entries ∙ (ap (λ (l : List Entry). l ++ (no_route mid).entries) told
          ∙ (ap (λ (p : OuterState). before ++ (no_route p).entries) done.outer ∙ ap (λ (l : List Entry). before ++ l) (sym (append-nil (no_route o).entries))));
    }
routes_more (suc k) o mid new before some all done later =
    does_whole (no_route o) (λ p. no_routes (suc k) p) new before all
    (routes_more k (no_route o).outer mid new (before ++ (no_route o).entries) some all
    (does_rest (no_route o) (λ p. no_routes k p) mid before some done) later)

-- a payload came to the chip
pub reached : (o new : OuterState) (from : ℕ) (payload : List ℕ) (moved : ChipParts) (start outputs : List ChipOut) (before all : List Entry)
    → 1 ≤ length payload → length payload ≤ 46 → moved.decoder ≡ o.chip.decoder → moved.state ≡ after o.chip.state (Heard from payload)
    → start ≡ [] → outputs ≡ start ++ outs o.chip.state (Heard from payload)
    → Does (each put_out (record o { chip = moved }) outputs) new before all → Does (to_chip o from payload) new before all
reached o new from payload moved start outputs before all low high same state none put done =
    subst (λ (b : Bool). Does (if b && nat_le (length payload) 46 then chip_does o (Heard from payload) else silent o) new before all) (sym (le-leb 1 (length payload) low))
    (subst (λ (b : Bool). Does (if b then chip_does o (Heard from payload) else silent o) new before all) (sym (le-leb (length payload) 46 high))
    (does_chip o moved o.chip.decoder (Heard from payload) new start outputs before all same state none put done))

-- a result was given, after the call was taken out
pub called : {V E : Type 0} (r : Result V E) (o q new : OuterState) (status : TransmitStatus) (moved : ChipParts) (start outputs : List ChipOut) (before all : List Entry)
    → q ≡ record o { calls = drop 1 o.calls } → OwesCall q.chip.state → moved.decoder ≡ q.chip.decoder → moved.state ≡ after q.chip.state (Done status)
    → start ≡ [] → outputs ≡ start ++ outs q.chip.state (Done status)
    → OnOk r (Does (each put_out (record q { chip = moved }) outputs) new before all) → OnOk r (Does (call_back o status) new before all)
called r o q new status moved start outputs before all is owes same state none put done =
    let back : q.chip ≡ o.chip = ap (λ (p : OuterState). p.chip) is in
    map_ok r (Does (each put_out (record q { chip = moved }) outputs) new before all) (Does (call_back o status) new before all)
    (λ did. called_back o new status before all moved start outputs
    (subst (λ (p : ChipParts). OwesCall p.state) back owes) (same ∙ ap (λ (p : ChipParts). p.decoder) back) (state ∙ ap (λ (p : ChipParts). after p.state (Done status)) back)
    none (put ∙ ap (λ (p : ChipParts). start ++ outs p.state (Done status)) back)
    (subst (λ (p : OuterState). Does (each put_out (record p { chip = moved }) outputs) new before all) is did)) done

pub reached_ok : {V E : Type 0} (r : Result V E) (o new : OuterState) (from : ℕ) (payload : List ℕ) (moved : ChipParts) (start outputs : List ChipOut) (before all : List Entry)
    → 1 ≤ length payload → length payload ≤ 46 → moved.decoder ≡ o.chip.decoder → moved.state ≡ after o.chip.state (Heard from payload)
    → start ≡ [] → outputs ≡ start ++ outs o.chip.state (Heard from payload)
    → OnOk r (Does (each put_out (record o { chip = moved }) outputs) new before all) → OnOk r (Does (to_chip o from payload) new before all)
reached_ok r o new from payload moved start outputs before all low high same state none put done =
    map_ok r (Does (each put_out (record o { chip = moved }) outputs) new before all) (Does (to_chip o from payload) new before all)
    (reached o new from payload moved start outputs before all low high same state none put) done
