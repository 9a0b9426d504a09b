-- Frames that go on the air are numbered: the air has sent as many as the entries so far show.
use Rattle.std.proofs.Common.{◌≡◌, ℕ, ◌+◌, ◌&&◌, ◌⊎◌, not, Bool, true, false, if◌then◌else◌, inl, inr, List, [], ◌∷◌, ◌++◌, length, refl, ap, sym, subst, ◌∙◌, append-nil}
use Rattle.std.specs.Prelude.{Some}
use Rattle.std.specs.Option.{unwrap_or}
use Rattle.std.proofs.lemmas.Grind.{flat_map-append}
use Rattle.std.proofs.lemmas.List.{length-append}
use Rattle.zw_text.specs.declared.entry.Entry.{Entry}
use Rattle.zw_text.specs.declared.entry.Entry.TheVariants as entry
use Rattle.zw_text.specs.Transcript.{AirFrame, frame_at, frames}
use Rattle.law_host.specs.law_transcript.Fates.{MayAir}
use Rattle.law_host.specs.law_transcript.Nodes.{controller}
use Rattle.air_frames.specs.declared.frame.Heading.TheVariants.{Outward, Homeward}
use Rattle.air_frames.specs.Ages.{refusal_of}
use Rattle.air_frames.specs.Flown.{Flown}
use Rattle.air_frames.specs.Frames.{putting, landing}
use Rattle.proof_air.specs.mesh_sim.Air.{AirState, no_route, departing}
use Rattle.proof_air.specs.mesh_sim.Steps.{landed}
use Rattle.proof_air.specs.mesh_sim.Steps as mesh
use Rattle.proof_air.specs.outside_model.State.{OuterState, Outside, Outcome}
use Rattle.proof_air.specs.outside_model.Chip.{shown_via}
use Rattle.proof_air.specs.outside_model.Events.{OuterEvent, Begins_line, Begins_tick, Host_notes, Arrives, Repeats, Loses, is_own, outcome, stamp, has_entered, steps, repeats, happens as happens_outside, entries as entries_outside, May as MayOutside}
use Rattle.proof_air.specs.world_model.State.{Machine}
use Rattle.proof_air.specs.world_model.Events.{Event, Outside_does, happens, entries, May}
use Rattle.proof_air.specs.world_model.Did.{happens_all, entries_all, MayAll}
use Rattle.proof_air.specs.world_lines.Spoken.{Spoken, after, after_all, entries_of, transcript_of}
use Rattle.proof_air.specs.world_lines.Done.{AreDone}
use Rattle.proof_transcript.proofs.Plain.{IsNoAir, plain_no_air}
use Rattle.proof_transcript.proofs.KeptOverLists.{Keeps, Airs, Goes, keeps_none, keeps_both}
use Rattle.proof_transcript.proofs.Arrivals.{IsFate, IsAgain, arrives_lands, repeats_again}
use Rattle.proof_transcript.proofs.Events.{Stamps, stamped_keeps, lands_keep, event_keeps, calm_keeps}

-- as many frames were sent as are shown
abbrev pub Counts : List Entry → AirState → Type 0
Counts past air = length (frames past) ≡ air.frames.sent

abbrev pub Counted : List Entry → OuterState → Type 0
Counted past o = Counts past o.air

-- ---- other entries

fate_none : (frame : Flown) (number : ℕ) (e : Entry) → IsFate frame number e → IsNoAir e
fate_none frame number (entry.Air sent sender receiver repeaters payload) is = absurd is
fate_none frame number _ is = tt

may_other : (past : List Entry) (e : Entry) → IsNoAir e → MayAir past e
may_other past (entry.Air frame sender receiver repeaters payload) none = absurd none
may_other past _ none = tt

none_shown : (e : Entry) → IsNoAir e → frames (e ∷ []) ≡ []
none_shown (entry.Air frame sender receiver repeaters payload) none = absurd none
none_shown _ none = refl

as_many : (past : List Entry) (e : Entry) → IsNoAir e → frames (past ++ e ∷ []) ≡ frames past
as_many past e none = flat_map-append frame_at past (e ∷ []) ∙ (ap (λ (l : List AirFrame). frames past ++ l) (none_shown e none) ∙ append-nil (frames past))

-- such a one stands anywhere
other_keeps : (old new : AirState) (e : Entry) → IsNoAir e → new.frames.sent ≡ old.frames.sent → Keeps MayAir Counts old (e ∷ []) new
other_keeps old new e none same past counts = ((may_other past e none, tt), ap length (as_many past e none) ∙ (counts ∙ sym same))

-- ---- a frame goes on the air

air_keeps : (old new : AirState) (sender receiver : ℕ) (repeaters payload : List ℕ) → (sender ≡ controller) ⊎ (receiver ≡ controller) → new.frames.sent ≡ old.frames.sent + 1
    → Keeps MayAir Counts old (entry.Air (old.frames.sent + 1) sender receiver repeaters payload ∷ []) new
air_keeps old new sender receiver repeaters payload end more past counts =
    let this : List Entry = entry.Air (old.frames.sent + 1) sender receiver repeaters payload ∷ [] in (
      ((ap (λ (n : ℕ). n + 1) (sym counts), end), tt),
      ap length (flat_map-append frame_at past this) ∙ (length-append (frames past) (frames this) ∙ (ap (λ (n : ℕ). n + 1) counts ∙ sym more)),
    )

airs : Airs MayAir Counts
unfolding putting
airs = record {
  plain = λ air e plain. other_keeps air air e (plain_no_air e plain) refl;
  same = λ old new same past counts. (tt, ap (λ (l : List Entry). length (frames l)) (append-nil past) ∙ (counts ∙ sym same.sent));
  out = λ air to route payload. air_keeps air (departing air to Outward (Some route) payload) 1 to (shown_via route) payload (inl refl) refl;
  home = λ air node way payload. air_keeps air (departing air node Homeward way payload) node 1 (shown_via (unwrap_or way no_route)) payload (inr refl) refl;
}

-- ---- the number of a tick

ticked : (b : Bool) (air : AirState) (clock : ℕ) → Keeps MayAir Counts air (if b then entry.Time clock ∷ [] else []) air
ticked true air clock = other_keeps air air (entry.Time clock) tt refl
ticked false air clock = keeps_none MayAir Counts air

stamps : Stamps MayAir Counts Counted
stamps = record {
  first = λ past o p time known. ticked (p.in_tick && not p.stamped) o.air p.clock past known;
  entered = λ past p knows. knows;
  silent = λ past o p time goes known. goes known;
}

-- ---- events

fate_keeps : (air : AirState) (frame : Flown) (e : Entry) → IsFate frame (air.frames.landed + 1) e → Keeps MayAir Counts air (e ∷ []) (landed air)
unfolding landing
fate_keeps air frame e is = other_keeps air (landed air) e (fate_none frame (air.frames.landed + 1) e is) refl

module _ (w : Outside) where
  goes_keeps : (x : Outcome) → Goes MayAir Counts w.outer x → Keeps MayAir Counted w.outer (stamp x.outer x.entries) (has_entered x.outer x.entries)
  goes_keeps x goes = stamped_keeps MayAir Counts Counted stamps w.outer x.outer x.entries goes.keeps goes.time

  again_keeps : (number : ℕ) (x : Outcome) → Goes MayAir Counts w.outer x ⊎ IsAgain MayAir Counts number w.outer x → Keeps MayAir Counted w.outer (stamp x.outer x.entries) (has_entered x.outer x.entries)
  again_keeps number x (inl goes) = goes_keeps x goes
  again_keeps number x (inr again) =
      stamped_keeps MayAir Counts Counted stamps w.outer x.outer x.entries
      (subst (λ (l : List Entry). Keeps MayAir Counts w.outer.air l x.outer.air) (sym again.told)
      (keeps_both MayAir Counts w.outer.air w.outer.air x.outer.air (entry.Heard number ∷ []) again.rest (other_keeps w.outer.air w.outer.air (entry.Heard number) tt refl) again.keeps))
      again.time

outer_keeps : (w : Outside) (event : OuterEvent) → is_own event ≡ true → MayOutside w event → Keeps MayAir Counted w.outer (entries_outside w event) (happens_outside w event).outer
unfolding outcome MayOutside
outer_keeps w Begins_line own may = keeps_none MayAir Counted w.outer
outer_keeps w Begins_tick own may = keeps_none MayAir Counted w.outer
outer_keeps w (Host_notes entry) own may = absurd (none own)
  where
    none : false ≡ true → ⊥
    none e = cc
outer_keeps w (Arrives drawn route) own may =
    lands_keep MayAir Counts Counted stamps w.outer (steps w (mesh.Arrives drawn route)) (arrives_lands MayAir Counts airs w drawn route may) (λ frame e next is. fate_keeps w.outer.air frame e is)
outer_keeps w (Repeats number drawn route) own may =
    again_keeps w number (repeats w (refusal_of w.outer.air.frames number) (mesh.Repeats number drawn route)) (repeats_again MayAir Counts airs w (refusal_of w.outer.air.frames number) number drawn route refl)
outer_keeps w (Loses count) own may = keeps_none MayAir Counted w.outer
outer_keeps w event own may = event_keeps MayAir Counts Counted stamps airs w event tt

event_numbers : (m : Machine) (event : Event) → May m event → Keeps MayAir Counted m.outside.outer (entries m event) (happens m event).outside.outer
unfolding happens entries May
event_numbers m (Outside_does event) may = outer_keeps m.outside event may.0 may.1
event_numbers m event may = calm_keeps MayAir Counts Counted stamps airs m event tt

-- ---- lines

events_number : (m : Machine) (events : List Event) → MayAll m events → Keeps MayAir Counted m.outside.outer (entries_all m events) (happens_all m events).outside.outer
events_number m [] may = keeps_none MayAir Counted m.outside.outer
events_number m (event ∷ events) may =
    keeps_both MayAir Counted m.outside.outer (happens m event).outside.outer (happens_all (happens m event) events).outside.outer
    (entries m event) (entries_all (happens m event) events) (event_numbers m event may.0) (events_number (happens m event) events may.1)

pub lines_number : (m : Machine) (lines : List Spoken) → AreDone m lines → Keeps MayAir Counted m.outside.outer (transcript_of m lines) (after_all m lines).outside.outer
lines_number m [] are = keeps_none MayAir Counted m.outside.outer
lines_number m (spoken ∷ more) are =
    keeps_both MayAir Counted m.outside.outer (after m spoken).outside.outer (after_all (after m spoken) more).outside.outer (entries_of m spoken) (transcript_of (after m spoken) more)
    (keeps_both MayAir Counted m.outside.outer m.outside.outer (after m spoken).outside.outer (entry.Said spoken.words ∷ []) (entries_all m spoken.events)
    (other_keeps m.outside.outer.air m.outside.outer.air (entry.Said spoken.words) tt refl) (events_number m spoken.events are.0.may))
    (lines_number (after m spoken) more are.1)
