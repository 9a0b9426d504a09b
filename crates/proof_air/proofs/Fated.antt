-- A frame that arrives has its fate, which is entered first of all that it brings about; one that is heard again had its fate before.
use Rattle.std.proofs.Common.{◌≡◌, ℕ, ◌+◌, ◌&&◌, not, ◌⊎◌, inl, inr, Bool, true, false, if◌then◌else◌, List, [], ◌∷◌, ◌++◌, length, refl, sym, ap, subst, ◌∙◌, append-nil, append_assoc}
use Rattle.std.proofs.lemmas.List.{length-append}
use Rattle.std.specs.Prelude.{Option, Some, None, slice_get, slice_set}
use Rattle.std.specs.Option.{option_map}
use Rattle.zw_base.proofs.Each.{all-append}
use Rattle.route_table.specs.declared.route.Route.{Route}
use Rattle.air_frames.specs.declared.frame.Heading.{Heading}
use Rattle.air_frames.specs.declared.frame.Heading.TheVariants.{Outward, Homeward}
use Rattle.air_frames.specs.declared.ages.Refusal.{Refusal}
use Rattle.air_frames.specs.declared.ages.Refusal.TheVariants.{NeverSent, Forgotten, Stale}
use Rattle.air_frames.specs.Ages.{refusal_of}
use Rattle.air_frames.specs.Flown.{Flown}
use Rattle.air_frames.specs.Frames.{landing, next_of, remembered}
use Rattle.law_wire.specs.device_sim.State.{State}
use Rattle.law_wire.specs.device_sim.Event.{DeviceEvent, Hears, device_after, device_replies}
use Rattle.proof_walk.specs.mesh_sim.declared.event.AirEvent.{AirEvent}
use Rattle.proof_walk.specs.mesh_sim.declared.event.AirEvent.TheVariants as air_event
use Rattle.proof_walk.specs.mesh_sim.declared.fate.Fate.{Fate}
use Rattle.proof_walk.specs.mesh_sim.declared.fate.Fate.TheVariants as fate
use Rattle.proof_walk.specs.mesh_sim.Air.{AirState, is_joined}
use Rattle.proof_walk.specs.mesh_sim.Fates.{Mesh, awake_at, dead_hop_of, fate_of, is_awake, listener_of, place_of}
use Rattle.proof_walk.specs.mesh_sim.Routes.{backwards}
use Rattle.proof_walk.specs.mesh_sim.Steps.{MayArriveIf, MayHappen, acknowledged, air_hearing, arrival_outs, arrival_outs_as, arriving, arriving_as, done_of, heard_again, heard_at, landed, mesh_after, mesh_outs, outs_again, outs_at, repeat_outs, repeat_outs_by, repeating, repeating_by, status_of}
use Rattle.proof_walk.specs.mesh_sim.Steps as mesh
use Rattle.zw_text.specs.declared.entry.Entry.{Entry}
use Rattle.zw_text.specs.declared.entry.Entry.TheVariants as entry
use Rattle.law_wire.specs.law_transcript.Fates.{first_fate, first_fates}
use Rattle.law_wire.specs.law_transcript.Lists.{shown_after}
use Rattle.law_wire.specs.law_transcript.Restarts.{repeats as answers_repeat}
use Rattle.proof_walk.specs.outside_model.State.{OuterState, Outside, Outcome, and_then, each, tells}
use Rattle.proof_walk.specs.outside_model.Air.{deals}
use Rattle.proof_walk.specs.outside_model.Events.{Arrives, Repeats, May as MayOutside, entries as entries_outside, happens as happens_outside, has_entered, mesh_of, outcome, repeats, stamp, steps, ticked_entry}
use Rattle.proof_walk.proofs.ChangesOutside.{fate_listens}
use Rattle.proof_walk.proofs.Entering.{hearing, hearing_are, number_are, stamp_are}
use Rattle.proof_walk.proofs.Times.{IsSameTime, outcome_time, same_number}
use Rattle.proof_walk.proofs.Shown.{shown_both}
use Rattle.proof_air.proofs.Fateless.{IsFateless, AreFateless, Rests, TellNoFate, TellsNoFate, all_deals_rest, answered_if_landed, entered_landed, landed_in}

-- ---- what entries show

fateless_at : (past : List Entry) (e : Entry) → IsFateless e → first_fate past e ≡ []
fateless_at past (entry.Heard frame) none = absurd none
fateless_at past (entry.Lost frame) none = absurd none
fateless_at past (entry.Unheard frame) none = absurd none
fateless_at past e none = refl

none_fated : (past told : List Entry) → AreFateless told → shown_after first_fate past told ≡ []
none_fated past [] none = refl
none_fated past (e ∷ told) none =
    ap (λ (l : List ℕ). l ++ shown_after first_fate (past ++ e ∷ []) told) (fateless_at past e none.0) ∙ none_fated (past ++ e ∷ []) told none.1

pub same_fates : (past told : List Entry) → AreFateless told → first_fates (past ++ told) ≡ first_fates past
same_fates past told none =
    shown_both first_fate [] past told ∙ (ap (λ (l : List ℕ). first_fates past ++ l) (none_fated past told none) ∙ append-nil (first_fates past))

-- with one entry that may show one
one_fate : (past : List Entry) (e : Entry) (told : List Entry) → AreFateless told → first_fates (past ++ e ∷ told) ≡ first_fates past ++ first_fate past e
one_fate past e told none =
    shown_both first_fate [] past (e ∷ told)
    ∙ ap (λ (l : List ℕ). first_fates past ++ l) (ap (λ (l : List ℕ). first_fate past e ++ l) (none_fated (past ++ e ∷ []) told none) ∙ append-nil (first_fate past e))

-- it says what became of a frame, or that one was heard
abbrev IsFate : Entry → Type 0
IsFate (entry.Heard frame) = Unit {0}
IsFate (entry.Lost frame) = Unit {0}
IsFate (entry.Unheard frame) = Unit {0}
IsFate _ = ⊥

abbrev pub IsHeard : Entry → Type 0
IsHeard (entry.Heard frame) = Unit {0}
IsHeard _ = ⊥

counts : (past : List Entry) (e : Entry) → IsFate e → answers_repeat past ≡ false → length (first_fate past e) ≡ 1
counts past (entry.Heard frame) is apart = ap (λ (b : Bool). length (if b then [] else frame ∷ [])) apart
counts past (entry.Lost frame) is apart = refl
counts past (entry.Unheard frame) is apart = refl
counts past e is apart = absurd is

counts_none : (past : List Entry) (e : Entry) → IsHeard e → answers_repeat past ≡ true → first_fate past e ≡ []
counts_none past (entry.Heard frame) is again = ap (λ (b : Bool). if b then [] else frame ∷ []) again
counts_none past e is again = absurd is

-- ---- what an outcome enters

-- such an entry and no fate after it, and then so many have landed
pub record Becomes (Is : Entry → Type 0) (lands : ℕ) (x : Outcome) : Type 0 where
  pub first : Entry
  pub rest : List Entry
  pub told : x.entries ≡ first ∷ rest
  pub is : Is first
  pub once : AreFateless rest
  pub now : landed_in x.outer ≡ lands

becomes : (Is : Entry → Type 0) (lands : ℕ) (devices : List State) (o : OuterState) (event : AirEvent) (first : Entry) (events : List AirEvent) → deals devices o event ≡ tells o (first ∷ []) → Is first
    → TellNoFate events → landed_in o ≡ lands → Becomes Is lands (each (deals devices) o (event ∷ events))
becomes Is lands devices o event first events deal is none now =
    let rests = all_deals_rest devices events o none in
    subst (λ (x : Outcome). Becomes Is lands (and_then x (λ later. each (deals devices) later events))) (sym deal) (record {
      first = first;
      rest = (each (deals devices) o events).entries;
      told = refl;
      is = is;
      once = rests.fateless;
      now = rests.lands ∙ now;
    })

-- ---- what is told after it

pub done_none : (heading : Heading) (number status : ℕ) (dead : Option (ℕ × ℕ)) → TellNoFate (done_of heading number status dead)
done_none Outward number status dead = (tt, tt)
done_none Homeward number status dead = tt

pub hearing_none : (air : AirState) (node : ℕ) (route : Option Route) (device : State) (event : DeviceEvent) → TellNoFate (hearing air node route device event)
hearing_none air node route device event = hearing_are TellsNoFate node (λ at. tt) (λ frame over payload. tt) air route device event

hearing_landed : (air : AirState) (node : ℕ) (route : Option Route) (device : State) (event : DeviceEvent) → (air_hearing air node route device event).frames.landed ≡ air.frames.landed
hearing_landed air node route device event = answered_if_landed (is_joined air node) air node (option_map backwards route) (device_replies device event)

-- ---- the next frame arrives

-- a device that is awake is there
pub listens_there : (devices : List State) (at : Option ℕ) (place : ℕ) → awake_at devices at ≡ Some place → slice_get devices place ≡ None → ⊥
listens_there devices None place listens none = cc
listens_there devices (Some there) place listens none = by (is_awake (slice_get devices there)) refl listens
  where
    by : (b : Bool) → is_awake (slice_get devices there) ≡ b → (if b then Some there else None) ≡ Some place → ⊥
    by true awake here =
        let same : there ≡ place = cc in
        let never : true ≡ false = sym awake ∙ ap is_awake (ap (λ (n : ℕ). slice_get devices n) same ∙ none) in cc
    by false awake here = cc

module _ (w : Outside) (frame : Flown) where
  abbrev own_number : ℕ
  own_number = w.outer.air.frames.landed + 1

  abbrev base : Mesh
  base = record { air = landed (acknowledged w.outer.air); devices = w.devices }

  -- these events are told, with that air and those devices
  abbrev Arrived : Mesh → List AirEvent → Type 0
  Arrived after events = Becomes IsFate (landed_in w.outer + 1) (each (deals after.devices) (record w.outer { air = after.air }) events)

  device_hears : (place : ℕ) (found : Option State) (route : Option Route) (event : DeviceEvent) → (found ≡ None → ⊥)
      → Arrived (heard_at base place found frame.node route event) (outs_at base found own_number frame.node route event ++ air_event.Done own_number (status_of w.outer.air) None ∷ [])
  unfolding landing
  device_hears place None route event there = absurd (there refl)
  device_hears place (Some device) route event there =
      let end : List AirEvent = air_event.Done own_number (status_of w.outer.air) None ∷ [] in
      becomes IsFate (landed_in w.outer + 1) (slice_set w.devices place (device_after device event)) (record w.outer { air = air_hearing base.air frame.node route device event }) (air_event.Heard own_number)
      (entry.Heard own_number) (hearing base.air frame.node route device event ++ end) refl tt
      (all-append TellsNoFate (hearing base.air frame.node route device event) end (hearing_none base.air frame.node route device event) (tt, tt))
      (hearing_landed base.air frame.node route device event)

  arrives_as : (x : Fate) (drawn : List ℕ) (route : Option Route) → fate_of w.outer.air.network w.devices frame ≡ x
      → Arrived (arriving_as (mesh_of w) frame x drawn route) (arrival_outs_as (mesh_of w) own_number frame x drawn route)
  unfolding landing
  arrives_as fate.Lost drawn route is =
      becomes IsFate (landed_in w.outer + 1) w.devices (record w.outer { air = landed w.outer.air }) (air_event.Lost own_number) (entry.Lost own_number) (done_of frame.heading own_number 1 None) refl tt
      (done_none frame.heading own_number 1 None) refl
  arrives_as (fate.Dead from to) drawn route is =
      becomes IsFate (landed_in w.outer + 1) w.devices (record w.outer { air = landed w.outer.air }) (air_event.Unheard own_number) (entry.Unheard own_number) (done_of frame.heading own_number 1 (Some (from, to))) refl tt
      (done_none frame.heading own_number 1 (Some (from, to))) refl
  arrives_as fate.Missed drawn route is =
      becomes IsFate (landed_in w.outer + 1) w.devices (record w.outer { air = landed w.outer.air }) (air_event.Unheard own_number) (entry.Unheard own_number) (done_of frame.heading own_number 1 None) refl tt
      (done_none frame.heading own_number 1 None) refl
  arrives_as fate.AtChip drawn route is =
      becomes IsFate (landed_in w.outer + 1) w.devices (record w.outer { air = landed w.outer.air }) (air_event.Heard own_number) (entry.Heard own_number)
      (air_event.ToChip own_number frame.node frame.payload ∷ []) refl tt (tt, tt) refl
  arrives_as (fate.AtDevice place) drawn route is =
      device_hears place (slice_get w.devices place) route (Hears frame.payload drawn)
      (listens_there w.devices (place_of frame.node w.devices) place (fate_listens frame.lost (dead_hop_of w.outer.air.network frame) frame.heading (listener_of frame.node w.devices) place is))

arrives_if : (w : Outside) (found : Option Flown) (drawn : List ℕ) (route : Option Route) → MayArriveIf (mesh_of w) found route
    → Becomes IsFate (landed_in w.outer + 1) (each (deals (arriving (mesh_of w) found drawn route).devices) (record w.outer { air = (arriving (mesh_of w) found drawn route).air }) (arrival_outs (mesh_of w) found drawn route))
arrives_if w None drawn route may = absurd may
arrives_if w (Some frame) drawn route may = arrives_as w frame (fate_of w.outer.air.network w.devices frame) drawn route refl

arrives_fated : (w : Outside) (drawn : List ℕ) (route : Option Route) → MayHappen (mesh_of w) (mesh.Arrives drawn route) → Becomes IsFate (landed_in w.outer + 1) (steps w (mesh.Arrives drawn route))
unfolding mesh_after mesh_outs MayHappen
arrives_fated w drawn route may = arrives_if w (next_of w.outer.air.frames) drawn route may.0

-- ---- a frame is heard again

module _ (w : Outside) where
  -- it is told first, or nothing is
  abbrev Again : Mesh → List AirEvent → Type 0
  Again after events =
      Rests (landed_in w.outer) (each (deals after.devices) (record w.outer { air = after.air }) events)
      ⊎ Becomes IsHeard (landed_in w.outer) (each (deals after.devices) (record w.outer { air = after.air }) events)

  nothing_again : Again (mesh_of w) []
  nothing_again = inl (record { fateless = tt; lands = refl })

  place_again : (place : ℕ) (found : Option State) (number node : ℕ) (route : Option Route) (event : DeviceEvent)
      → Again (heard_at (mesh_of w) place found node route event) (outs_at (mesh_of w) found number node route event)
  place_again place None number node route event = nothing_again
  place_again place (Some device) number node route event =
      inr (becomes IsHeard (landed_in w.outer) (slice_set w.devices place (device_after device event)) (record w.outer { air = air_hearing w.outer.air node route device event })
      (air_event.Heard number) (entry.Heard number) (hearing w.outer.air node route device event) refl tt (hearing_none w.outer.air node route device event)
      (hearing_landed w.outer.air node route device event))

  listener_again : (place : Option ℕ) (number node : ℕ) (route : Option Route) (event : DeviceEvent)
      → Again (heard_again (mesh_of w) place node route event) (outs_again (mesh_of w) place number node route event)
  listener_again None number node route event = nothing_again
  listener_again (Some place) number node route event = place_again place (slice_get w.devices place) number node route event

  again_by : (heading : Heading) (number : ℕ) (frame : Flown) (drawn : List ℕ) (route : Option Route)
      → Again (repeating_by heading (mesh_of w) frame drawn route) (repeat_outs_by heading (mesh_of w) number frame drawn route)
  again_by Homeward number frame drawn route =
      inr (becomes IsHeard (landed_in w.outer) w.devices w.outer (air_event.Heard number) (entry.Heard number) (air_event.ToChip number frame.node frame.payload ∷ []) refl tt (tt, tt) refl)
  again_by Outward number frame drawn route = listener_again (listener_of frame.node w.devices) number frame.node route (Hears frame.payload drawn)

  again_if : (number : ℕ) (found : Option Flown) (drawn : List ℕ) (route : Option Route)
      → Again (repeating (mesh_of w) found drawn route) (repeat_outs (mesh_of w) number found drawn route)
  again_if number None drawn route = nothing_again
  again_if number (Some frame) drawn route = again_by frame.heading number frame drawn route

  steps_again : (number : ℕ) (drawn : List ℕ) (route : Option Route)
      → Rests (landed_in w.outer) (steps w (mesh.Repeats number drawn route)) ⊎ Becomes IsHeard (landed_in w.outer) (steps w (mesh.Repeats number drawn route))
  unfolding mesh_after mesh_outs
  steps_again number drawn route = again_if number (remembered w.outer.air.frames number) drawn route

  pub repeats_again : (refused : Option Refusal) (number : ℕ) (drawn : List ℕ) (route : Option Route)
      → Rests (landed_in w.outer) (repeats w refused (mesh.Repeats number drawn route)) ⊎ Becomes IsHeard (landed_in w.outer) (repeats w refused (mesh.Repeats number drawn route))
  repeats_again None number drawn route = steps_again number drawn route
  repeats_again (Some NeverSent) number drawn route = inl (record { fateless = (tt, tt); lands = refl })
  repeats_again (Some Forgotten) number drawn route = inl (record { fateless = (tt, tt); lands = refl })
  repeats_again (Some (Stale later)) number drawn route = inl (record { fateless = (tt, tt); lands = refl })

-- ---- both, with the number of the tick

-- one more has its fate
arrives_so : (past : List Entry) (w : Outside) (x : Outcome) → IsSameTime w.outer x.outer → answers_repeat (past ++ ticked_entry w.outer) ≡ false → Becomes IsFate (landed_in w.outer + 1) x
    → (length (first_fates (past ++ stamp x.outer x.entries)) ≡ length (first_fates past) + 1) × (landed_in (has_entered x.outer x.entries) ≡ landed_in w.outer + 1)
arrives_so past w x time apart fated =
    let number : List Entry = ticked_entry w.outer in
    let told : stamp x.outer x.entries ≡ number ++ fated.first ∷ fated.rest =
    ap (stamp x.outer) fated.told ∙ ap (λ (l : List Entry). l ++ fated.first ∷ fated.rest) (same_number w.outer x.outer time) in
    let fates : first_fates (past ++ stamp x.outer x.entries) ≡ first_fates past ++ first_fate (past ++ number) fated.first =
    ap (λ (l : List Entry). first_fates (past ++ l)) told
    ∙ (ap first_fates (sym (append_assoc past number (fated.first ∷ fated.rest)))
    ∙ (one_fate (past ++ number) fated.first fated.rest fated.once
    ∙ ap (λ (l : List ℕ). l ++ first_fate (past ++ number) fated.first) (same_fates past number (number_are IsFateless (λ tick. tt) w.outer)))) in (
      ap length fates ∙ (length-append (first_fates past) (first_fate (past ++ number) fated.first) ∙ ap (λ (n : ℕ). length (first_fates past) + n) (counts (past ++ number) fated.first fated.is apart)),
      entered_landed x.outer x.entries ∙ fated.now,
    )

pub arrival_fates : (past : List Entry) (w : Outside) (drawn : List ℕ) (route : Option Route) → MayOutside w (Arrives drawn route) → answers_repeat (past ++ ticked_entry w.outer) ≡ false
    → (length (first_fates (past ++ entries_outside w (Arrives drawn route))) ≡ length (first_fates past) + 1) × (landed_in (happens_outside w (Arrives drawn route)).outer ≡ landed_in w.outer + 1)
unfolding outcome MayOutside
arrival_fates past w drawn route may apart = arrives_so past w (steps w (mesh.Arrives drawn route)) (outcome_time w (Arrives drawn route) tt) apart (arrives_fated w drawn route may)

-- none has, directly after the words of the line
again_so : (past : List Entry) (w : Outside) (x : Outcome) → IsSameTime w.outer x.outer → answers_repeat past ≡ true → w.outer.in_tick ≡ false
    → Rests (landed_in w.outer) x ⊎ Becomes IsHeard (landed_in w.outer) x
    → (first_fates (past ++ stamp x.outer x.entries) ≡ first_fates past) × (landed_in (has_entered x.outer x.entries) ≡ landed_in w.outer)
again_so past w x time again out (inl rests) =
    (same_fates past (stamp x.outer x.entries) (stamp_are IsFateless (λ tick. tt) x.outer x.entries rests.fateless), entered_landed x.outer x.entries ∙ rests.lands)
again_so past w x time again out (inr heard) =
    let number : ticked_entry x.outer ≡ [] =
    same_number w.outer x.outer time ∙ ap (λ (b : Bool). if b && not w.outer.stamped then entry.Time w.outer.clock ∷ [] else []) out in
    let told : stamp x.outer x.entries ≡ heard.first ∷ heard.rest = ap (stamp x.outer) heard.told ∙ ap (λ (l : List Entry). l ++ heard.first ∷ heard.rest) number in (
      ap (λ (l : List Entry). first_fates (past ++ l)) told
          ∙ (one_fate past heard.first heard.rest heard.once ∙ (ap (λ (l : List ℕ). first_fates past ++ l) (counts_none past heard.first heard.is again) ∙ append-nil (first_fates past))),
      entered_landed x.outer x.entries ∙ heard.now,
    )

pub again_fates : (past : List Entry) (w : Outside) (number : ℕ) (drawn : List ℕ) (route : Option Route) → answers_repeat past ≡ true → w.outer.in_tick ≡ false
    → (first_fates (past ++ entries_outside w (Repeats number drawn route)) ≡ first_fates past) × (landed_in (happens_outside w (Repeats number drawn route)).outer ≡ landed_in w.outer)
unfolding outcome
again_fates past w number drawn route again out =
    again_so past w (repeats w (refusal_of w.outer.air.frames number) (mesh.Repeats number drawn route)) (outcome_time w (Repeats number drawn route) tt) again out
    (repeats_again w (refusal_of w.outer.air.frames number) number drawn route)
