-- How many marks that lose acknowledgements are left, by the transcript and in the air: a frame of the controller that is heard in its tick uses one up, and nothing else does.
use Rattle.std.proofs.Common.{◌≡◌, ◌≢◌, ◌⊎◌, inl, inr, ℕ, ◌+◌, ◌-◌, ◌==◌, ◌&&◌, not, Bool, true, false, if◌then◌else◌, List, [], ◌∷◌, ◌++◌, refl, sym, ap, ap₂, subst, ◌∙◌, append-nil, append_assoc}
use Rattle.std.proofs.lemmas.Bool.{ne_eqb}
use Rattle.std.specs.Prelude.{Option, Some, None, slice_get, slice_set}
use Rattle.std.specs.Option.{option_map}
use Rattle.std.specs.List.{AllByRecursion, list_any}
use Rattle.zw_base.proofs.Each.{all-append, all-left, all-right}
use Rattle.route_table.specs.declared.route.Route.{Route}
use Rattle.air_frames.specs.declared.ages.Refusal.{Refusal}
use Rattle.air_frames.specs.declared.frame.Heading.{Heading}
use Rattle.air_frames.specs.declared.frame.Heading.TheVariants.{Outward, Homeward}
use Rattle.air_frames.specs.Ages.{refusal_of}
use Rattle.air_frames.specs.Flown.{Flown}
use Rattle.air_frames.specs.Frames.{next_of, remembered}
use Rattle.device_sim.specs.State.{State}
use Rattle.device_sim.specs.Event.{DeviceEvent, Hears, device_after, device_replies}
use Rattle.mesh_sim.specs.declared.event.AirEvent.{AirEvent}
use Rattle.mesh_sim.specs.declared.event.AirEvent.TheVariants as air_event
use Rattle.mesh_sim.specs.declared.fate.Fate.{Fate}
use Rattle.mesh_sim.specs.declared.fate.Fate.TheVariants as fate
use Rattle.mesh_sim.specs.Air.{AirState, is_joined}
use Rattle.mesh_sim.specs.Fates.{Mesh, dead_hop_of, fate_of, listener_of}
use Rattle.mesh_sim.specs.Routes.{backwards}
use Rattle.mesh_sim.specs.Steps.{MayArriveIf, MayHappen, acknowledged, air_hearing, arrival_outs, arrival_outs_as, arriving, arriving_as, heard_again, heard_at, landed, mesh_after, mesh_outs, outs_at, repeating, repeating_by, status_of}
use Rattle.mesh_sim.specs.Steps as mesh
use Rattle.zw_text.specs.declared.entry.Entry.{Entry}
use Rattle.zw_text.specs.declared.entry.Entry.TheVariants as entry
use Rattle.zw_text.specs.Transcript.{AirFrame, frames}
use Rattle.law_transcript.specs.Lists.{listed}
use Rattle.law_transcript.specs.Nodes.{controller}
use Rattle.law_transcript.specs.Repeats.{frame_of}
use Rattle.law_transcript.specs.Restarts.{repeats as answers_repeat}
use Rattle.law_wire.specs.Results.{ack_mark_step, ack_marks, ack_marks_after, is_outward}
use Rattle.outside_model.specs.State.{OuterState, Outside, Outcome, and_then, each, tells}
use Rattle.outside_model.specs.Air.{deals}
use Rattle.outside_model.specs.Events.{OuterEvent, Arrives, Repeats, May as MayOutside, mesh_of, outcome, repeats, stamp, steps, ticked_entry}
use Rattle.world_model.specs.State.{Machine}
use Rattle.world_model.specs.Events.{Event, Outside_does, entries, happens, May}
use Rattle.proof_air.proofs.ChangesOutside.{fate_home, fate_out}
use Rattle.proof_air.proofs.Entering.{HearsNone, hearing, number_are, stamp_are}
use Rattle.proof_air.specs.proof_walk.Outside.{CoversOuter, HasNoWords}
use Rattle.proof_air.proofs.Alone.{event_wordless}
use Rattle.proof_air.proofs.Fated.{Becomes, IsHeard, done_none, hearing_none, repeats_again}
use Rattle.proof_air.proofs.Fateless.{IsFateless, AreFateless, Rests, TellNoFate, TellsNoFate, all_deals_rest, event_fateless, landed_in}
use Rattle.proof_air.proofs.Leaving.{Left, all_deals_leave, answered_if_leaves, entered_leaves, machine_leaves}
use Rattle.proof_air.proofs.Times.{IsSameTime, outcome_time, same_number}
use Rattle.proof_routes.specs.Forgetting.{passages, passage_flown, HasPassages}
use Rattle.proof_routes.proofs.Arriving.{apart_got, frame_got}
use Rattle.proof_routes.proofs.Passages.{IsNoFrame, frames_same, next_passage, passage_got}
use Rattle.proof_devices.specs.Acks.{MarksNone}
use Rattle.proof_devices.proofs.Again.{only}
use Rattle.proof_devices.proofs.FateShown.{listener_stands}
use Rattle.proof_devices.proofs.Stamped.{enters_first, number_none}

-- ---- the transcript

acks_both : (marks : ℕ) (past told more : List Entry) → ack_marks_after marks past (told ++ more) ≡ ack_marks_after (ack_marks_after marks past told) (past ++ told) more
acks_both marks past [] more = ap (λ (l : List Entry). ack_marks_after marks l more) (sym (append-nil past))
acks_both marks past (e ∷ told) more =
    let now : ℕ = ack_mark_step past marks e in
    acks_both now (past ++ e ∷ []) told more
    ∙ ap (λ (l : List Entry). ack_marks_after (ack_marks_after now (past ++ e ∷ []) told) l more) (append_assoc past (e ∷ []) told)

pub acks_grow : (past told : List Entry) → ack_marks (past ++ told) ≡ ack_marks_after (ack_marks past) past told
acks_grow past told = acks_both 0 [] past told

-- neither of lines nor of fates
step_mute : (past : List Entry) (marks : ℕ) (e : Entry) → IsFateless e → HasNoWords e → ack_mark_step past marks e ≡ marks
step_mute past marks (entry.Said words) none wordless = absurd wordless
step_mute past marks (entry.Heard number) none wordless = absurd none
step_mute past marks e none wordless = refl

acks_mute : (marks : ℕ) (past told : List Entry) → AreFateless told → AllByRecursion HasNoWords told → ack_marks_after marks past told ≡ marks
acks_mute marks past [] none wordless = refl
acks_mute marks past (e ∷ told) none wordless =
    ap (λ (n : ℕ). ack_marks_after n (past ++ e ∷ []) told) (step_mute past marks e none.0 wordless.0) ∙ acks_mute marks (past ++ e ∷ []) told none.1 wordless.1

-- one entry among such
acks_one : (past number : List Entry) (first : Entry) (rest : List Entry) → AreFateless number → AreFateless rest → AllByRecursion HasNoWords (number ++ first ∷ rest)
    → ack_marks (past ++ (number ++ first ∷ rest)) ≡ ack_mark_step (past ++ number) (ack_marks past) first
acks_one past number first rest timed none wordless =
    let here : List Entry = past ++ number in
    let before : ack_marks_after (ack_marks past) past number ≡ ack_marks past
    = acks_mute (ack_marks past) past number timed (all-left HasNoWords number (first ∷ rest) wordless) in
    acks_grow past (number ++ first ∷ rest)
    ∙ (acks_both (ack_marks past) past number (first ∷ rest)
    ∙ (ap (λ (n : ℕ). ack_marks_after n here (first ∷ rest)) before
    ∙ acks_mute (ack_mark_step here (ack_marks past) first) (here ++ first ∷ []) rest none (all-right HasNoWords number (first ∷ rest) wordless).1))

-- ---- the air

abbrev Quiet : OuterEvent → Type 0
Quiet event = MarksNone event × HearsNone event

abbrev acks_of : AirState → ℕ
acks_of air = air.ack_losing

acks_left : Left Quiet acks_of
acks_left = record {
  hears = λ event quiet. quiet.1;
  departs = λ air node heading way payload. refl;
  begins = λ air node sessions. refl;
  links = λ air a b live. refl;
  joins = λ air node listening. refl;
  loses = λ air count. refl;
  acks = λ air count quiet. absurd quiet.0;
}

-- ---- an event by which no frame arrives or is heard again

quiet_both : (event : Event) → CoversOuter MarksNone event → CoversOuter HearsNone event → CoversOuter Quiet event
quiet_both (Outside_does event) none hears = (none, hears)
quiet_both event none hears = tt

pub quiet_acks : (past : List Entry) (m : Machine) (event : Event) → CoversOuter MarksNone event → CoversOuter HearsNone event → May m event → ack_marks past ≡ m.outside.outer.air.ack_losing
    → ack_marks (past ++ entries m event) ≡ (happens m event).outside.outer.air.ack_losing
quiet_acks past m event none hears may known =
    acks_grow past (entries m event)
    ∙ (acks_mute (ack_marks past) past (entries m event) (event_fateless m event hears may) (event_wordless m event may)
    ∙ (known
    ∙ sym (machine_leaves Quiet acks_of acks_left (record { writes = λ unit. (tt, tt); takes = λ count. (tt, tt); notes = λ note is. (tt, tt) }) (λ node sessions. (tt, tt)) (λ note is. (tt, tt))
    m event (quiet_both event none hears) may)))

-- ---- a frame arrives

-- what is left after its fate, which is entered first: one less where a frame of the controller is heard
abbrev IsAcked : ℕ → ℕ → Heading → Entry → ℕ → Type 0
IsAcked acks number Outward (entry.Heard n) left = (n ≡ number) × (left ≡ acks - 1)
IsAcked acks number Homeward (entry.Heard n) left = (n ≡ number) × (left ≡ acks)
IsAcked acks number heading (entry.Lost n) left = left ≡ acks
IsAcked acks number heading (entry.Unheard n) left = left ≡ acks
IsAcked acks number heading e left = ⊥

record Acked (acks number : ℕ) (heading : Heading) (x : Outcome) : Type 0 where
  first : Entry
  rest : List Entry
  told : x.entries ≡ first ∷ rest
  once : AreFateless rest
  is : IsAcked acks number heading first x.outer.air.ack_losing

acked : (acks number : ℕ) (heading : Heading) (devices : List State) (o : OuterState) (event : AirEvent) (first : Entry) (events : List AirEvent) → deals devices o event ≡ tells o (first ∷ [])
    → TellNoFate events → IsAcked acks number heading first o.air.ack_losing → Acked acks number heading (each (deals devices) o (event ∷ events))
acked acks number heading devices o event first events deal none is =
    subst (λ (x : Outcome). Acked acks number heading (and_then x (λ later. each (deals devices) later events))) (sym deal) (record {
      first = first;
      rest = (each (deals devices) o events).entries;
      told = refl;
      once = (all_deals_rest devices events o none).fateless;
      is = subst (IsAcked acks number heading first) (sym (all_deals_leave Quiet acks_of acks_left devices events o)) is;
    })

lost_acked : (heading : Heading) (acks number n : ℕ) → IsAcked acks number heading (entry.Lost n) acks
lost_acked Outward acks number n = refl
lost_acked Homeward acks number n = refl

unheard_acked : (heading : Heading) (acks number n : ℕ) → IsAcked acks number heading (entry.Unheard n) acks
unheard_acked Outward acks number n = refl
unheard_acked Homeward acks number n = refl

module _ (w : Outside) (frame : Flown) where
  abbrev own_number : ℕ
  own_number = w.outer.air.frames.landed + 1

  abbrev acks : ℕ
  acks = w.outer.air.ack_losing

  abbrev base : Mesh
  base = record { air = landed (acknowledged w.outer.air); devices = w.devices }

  -- these events are told, with that air and those devices
  abbrev Arrived : Mesh → List AirEvent → Type 0
  Arrived after events = Acked acks own_number frame.heading (each (deals after.devices) (record w.outer { air = after.air }) events)

  device_hears : (place : ℕ) (found : Option State) (route : Option Route) (event : DeviceEvent) → frame.heading ≡ Outward → (found ≡ None → ⊥)
      → Arrived (heard_at base place found frame.node route event) (outs_at base found own_number frame.node route event ++ air_event.Done own_number (status_of w.outer.air) None ∷ [])
  device_hears place None route event heads there = absurd (there refl)
  device_hears place (Some device) route event heads there =
      let end : List AirEvent = air_event.Done own_number (status_of w.outer.air) None ∷ [] in
      let later : OuterState = record w.outer { air = air_hearing base.air frame.node route device event } in
      acked acks own_number frame.heading (slice_set w.devices place (device_after device event)) later (air_event.Heard own_number) (entry.Heard own_number)
      (hearing base.air frame.node route device event ++ end) refl
      (all-append TellsNoFate (hearing base.air frame.node route device event) end (hearing_none base.air frame.node route device event) (tt, tt))
      (subst (λ (h : Heading). IsAcked acks own_number h (entry.Heard own_number) later.air.ack_losing) (sym heads)
      (refl, answered_if_leaves Quiet acks_of acks_left (is_joined base.air frame.node) base.air frame.node (option_map backwards route) (device_replies device event)))

  arrives_as : (x : Fate) (drawn : List ℕ) (route : Option Route) → fate_of w.outer.air.network w.devices frame ≡ x
      → Arrived (arriving_as (mesh_of w) frame x drawn route) (arrival_outs_as (mesh_of w) own_number frame x drawn route)
  arrives_as fate.Lost drawn route is =
      acked acks own_number frame.heading w.devices (record w.outer { air = landed w.outer.air }) (air_event.Lost own_number) (entry.Lost own_number) _ refl
      (done_none frame.heading own_number 1 None) (lost_acked frame.heading acks own_number own_number)
  arrives_as (fate.Dead from to) drawn route is =
      acked acks own_number frame.heading w.devices (record w.outer { air = landed w.outer.air }) (air_event.Unheard own_number) (entry.Unheard own_number) _ refl
      (done_none frame.heading own_number 1 (Some (from, to))) (unheard_acked frame.heading acks own_number own_number)
  arrives_as fate.Missed drawn route is =
      acked acks own_number frame.heading w.devices (record w.outer { air = landed w.outer.air }) (air_event.Unheard own_number) (entry.Unheard own_number) _ refl
      (done_none frame.heading own_number 1 None) (unheard_acked frame.heading acks own_number own_number)
  arrives_as fate.AtChip drawn route is =
      let heads = fate_home frame.lost (dead_hop_of w.outer.air.network frame) frame.heading (listener_of frame.node w.devices) is in
      acked acks own_number frame.heading w.devices (record w.outer { air = landed w.outer.air }) (air_event.Heard own_number) (entry.Heard own_number)
      (air_event.ToChip own_number frame.node frame.payload ∷ []) refl (tt, tt)
      (subst (λ (h : Heading). IsAcked acks own_number h (entry.Heard own_number) acks) (sym heads) (refl, refl))
  arrives_as (fate.AtDevice place) drawn route is =
      let out = fate_out frame.lost (dead_hop_of w.outer.air.network frame) frame.heading (listener_of frame.node w.devices) place is in
      device_hears place (slice_get w.devices place) route (Hears frame.payload drawn) out.0 (listener_stands w.devices frame.node place out.1)

-- the next frame arrives
record Comes (w : Outside) (x : Outcome) : Type 0 where
  frame : Flown
  next : next_of w.outer.air.frames ≡ Some frame
  fated : Acked w.outer.air.ack_losing (w.outer.air.frames.landed + 1) frame.heading x

comes_if : (w : Outside) (found : Option Flown) (drawn : List ℕ) (route : Option Route) → next_of w.outer.air.frames ≡ found → MayArriveIf (mesh_of w) found route
    → Comes w (each (deals (arriving (mesh_of w) found drawn route).devices) (record w.outer { air = (arriving (mesh_of w) found drawn route).air }) (arrival_outs (mesh_of w) found drawn route))
comes_if w None drawn route is may = absurd may
comes_if w (Some frame) drawn route is may = record { frame = frame; next = is; fated = arrives_as w frame (fate_of w.outer.air.network w.devices frame) drawn route refl }

comes : (w : Outside) (drawn : List ℕ) (route : Option Route) → MayHappen (mesh_of w) (mesh.Arrives drawn route) → Comes w (steps w (mesh.Arrives drawn route))
unfolding mesh_after mesh_outs MayHappen
comes w drawn route may = comes_if w (next_of w.outer.air.frames) drawn route refl may.0

-- ---- whose frame it is by the transcript

module _ (past : List Entry) (w : Outside) (has : HasPassages (passages past) w.outer.air.frames) where
  abbrev here : List Entry
  here = past ++ ticked_entry w.outer

  timed : AllByRecursion IsNoFrame (ticked_entry w.outer)
  timed = number_are IsNoFrame (λ tick. tt) w.outer

  sender_is : (frame : Flown) → next_of w.outer.air.frames ≡ Some frame → is_outward here (w.outer.air.frames.landed + 1) ≡ ((passage_flown frame).sender == controller)
  sender_is frame next =
      let at : ℕ = w.outer.air.frames.landed in
      let got = passage_got [] past at (passage_flown frame) (next_passage (passages past) w.outer.air.frames frame has next).1 in
      let shown : AirFrame = got.0 in
      let found : frame_of here (at + 1) ≡ Some shown
      = frame_got (frames here) at shown (ap (λ (l : List AirFrame). slice_get l at) (frames_same past (ticked_entry w.outer) timed) ∙ got.1) in
      ap (λ (o : Option AirFrame). list_any (λ (f : AirFrame). f.sender == controller) (listed o)) found
      ∙ (only (shown.sender == controller) ∙ ap (λ (n : ℕ). n == controller) got.2.sender)

  outward : (frame : Flown) → next_of w.outer.air.frames ≡ Some frame → frame.heading ≡ Outward → is_outward here (w.outer.air.frames.landed + 1) ≡ true
  outward frame next heads = sender_is frame next ∙ by frame.heading heads
    where
      by : (h : Heading) → h ≡ Outward → ((passage_flown (record frame { heading = h })).sender == controller) ≡ true
      by Outward heads = refl
      by Homeward heads = absurd cc

  homeward : (frame : Flown) → next_of w.outer.air.frames ≡ Some frame → frame.heading ≡ Homeward → is_outward here (w.outer.air.frames.landed + 1) ≡ false
  homeward frame next heads =
      let at : ℕ = w.outer.air.frames.landed in
      let apart = apart_got (passages past) at (passage_flown frame) has.apart (next_passage (passages past) w.outer.air.frames frame has next).1 in
      sender_is frame next ∙ by frame.heading heads apart
    where
      by : (h : Heading) → h ≡ Homeward → (passage_flown (record frame { heading = h })).sender ≢ (passage_flown (record frame { heading = h })).receiver
          → ((passage_flown (record frame { heading = h })).sender == controller) ≡ false
      by Outward heads apart = absurd cc
      by Homeward heads apart = ne_eqb frame.node controller apart

  -- one less is left by the transcript too
  step_is : (frame : Flown) (first : Entry) (left : ℕ) → next_of w.outer.air.frames ≡ Some frame → answers_repeat here ≡ false
      → IsAcked w.outer.air.ack_losing (w.outer.air.frames.landed + 1) frame.heading first left → ack_mark_step here w.outer.air.ack_losing first ≡ left
  step_is frame first left next apart is = by frame.heading refl first is
    where
      acks : ℕ
      acks = w.outer.air.ack_losing

      number : ℕ
      number = w.outer.air.frames.landed + 1

      marks : Bool → Bool → ℕ
      marks again out = if not again && out then w.outer.air.ack_losing - 1 else w.outer.air.ack_losing

      by : (h : Heading) → frame.heading ≡ h → (e : Entry) → IsAcked w.outer.air.ack_losing (w.outer.air.frames.landed + 1) h e left → ack_mark_step here w.outer.air.ack_losing e ≡ left
      by Outward heads (entry.Heard n) is =
          ap₂ (λ (again out : Bool). if not again && out then w.outer.air.ack_losing - 1 else w.outer.air.ack_losing) apart
          (ap (is_outward here) is.0 ∙ outward frame next heads) ∙ sym is.1
      by Homeward heads (entry.Heard n) is =
          ap₂ (λ (again out : Bool). if not again && out then w.outer.air.ack_losing - 1 else w.outer.air.ack_losing) apart
          (ap (is_outward here) is.0 ∙ homeward frame next heads) ∙ sym is.1
      by Outward heads (entry.Lost n) is = sym is
      by Homeward heads (entry.Lost n) is = sym is
      by Outward heads (entry.Unheard n) is = sym is
      by Homeward heads (entry.Unheard n) is = sym is
      by Outward heads e is = absurd is
      by Homeward heads e is = absurd is

pub arrival_acks : (past : List Entry) (m : Machine) (drawn : List ℕ) (route : Option Route) → May m (Outside_does (Arrives drawn route)) → HasPassages (passages past) m.outside.outer.air.frames
    → answers_repeat (past ++ ticked_entry m.outside.outer) ≡ false → ack_marks past ≡ m.outside.outer.air.ack_losing
    → ack_marks (past ++ entries m (Outside_does (Arrives drawn route))) ≡ (happens m (Outside_does (Arrives drawn route))).outside.outer.air.ack_losing
unfolding entries happens outcome May MayOutside
arrival_acks past m drawn route may has apart known =
    let w : Outside = m.outside in
    let x : Outcome = steps w (mesh.Arrives drawn route) in
    let came = comes w drawn route may.1 in
    let number : List Entry = ticked_entry w.outer in
    let told : entries m (Outside_does (Arrives drawn route)) ≡ number ++ came.fated.first ∷ came.fated.rest = enters_first w (Arrives drawn route) came.fated.first came.fated.rest tt came.fated.told in
    let wordless = subst (AllByRecursion HasNoWords) told (event_wordless m (Outside_does (Arrives drawn route)) may) in
    ap (λ (l : List Entry). ack_marks (past ++ l)) told
    ∙ (acks_one past number came.fated.first came.fated.rest (number_are IsFateless (λ tick. tt) w.outer) came.fated.once wordless
    ∙ (ap (λ (n : ℕ). ack_mark_step (past ++ number) n came.fated.first) known
    ∙ (step_is past w has came.frame came.fated.first x.outer.air.ack_losing came.next apart came.fated.is
    ∙ sym (entered_leaves Quiet acks_of acks_left x.outer x.entries))))

-- ---- a frame is heard again

-- a fate that answers a `repeat` leaves them
step_again : (before : List Entry) (marks : ℕ) (e : Entry) → HasNoWords e → answers_repeat before ≡ true → ack_mark_step before marks e ≡ marks
step_again before marks (entry.Said words) wordless again = absurd wordless
step_again before marks (entry.Heard number) wordless again = ap (λ (b : Bool). if not b && is_outward before number then marks - 1 else marks) again
step_again before marks e wordless again = refl

module _ (w : Outside) where
  place_again : (place : ℕ) (found : Option State) (node : ℕ) (route : Option Route) (event : DeviceEvent) → (heard_at (mesh_of w) place found node route event).air.ack_losing ≡ w.outer.air.ack_losing
  place_again place None node route event = refl
  place_again place (Some device) node route event =
      answered_if_leaves Quiet acks_of acks_left (is_joined w.outer.air node) w.outer.air node (option_map backwards route) (device_replies device event)

  listener_again : (place : Option ℕ) (node : ℕ) (route : Option Route) (event : DeviceEvent) → (heard_again (mesh_of w) place node route event).air.ack_losing ≡ w.outer.air.ack_losing
  listener_again None node route event = refl
  listener_again (Some place) node route event = place_again place (slice_get w.devices place) node route event

  again_by : (heading : Heading) (frame : Flown) (drawn : List ℕ) (route : Option Route) → (repeating_by heading (mesh_of w) frame drawn route).air.ack_losing ≡ w.outer.air.ack_losing
  again_by Homeward frame drawn route = refl
  again_by Outward frame drawn route = listener_again (listener_of frame.node w.devices) frame.node route (Hears frame.payload drawn)

  again_if : (found : Option Flown) (drawn : List ℕ) (route : Option Route) → (repeating (mesh_of w) found drawn route).air.ack_losing ≡ w.outer.air.ack_losing
  again_if None drawn route = refl
  again_if (Some frame) drawn route = again_by frame.heading frame drawn route

  steps_again : (number : ℕ) (drawn : List ℕ) (route : Option Route) → (mesh_after (mesh_of w) (mesh.Repeats number drawn route)).air.ack_losing ≡ w.outer.air.ack_losing
  unfolding mesh_after
  steps_again number drawn route = again_if (remembered w.outer.air.frames number) drawn route

  repeats_leave : (refused : Option Refusal) (number : ℕ) (drawn : List ℕ) (route : Option Route) → (repeats w refused (mesh.Repeats number drawn route)).outer.air.ack_losing ≡ w.outer.air.ack_losing
  repeats_leave (Some refused) number drawn route = refl
  repeats_leave None number drawn route =
      let after : Mesh = mesh_after (mesh_of w) (mesh.Repeats number drawn route) in
      all_deals_leave Quiet acks_of acks_left after.devices (mesh_outs (mesh_of w) (mesh.Repeats number drawn route)) (record w.outer { air = after.air }) ∙ steps_again number drawn route

again_so : (past : List Entry) (w : Outside) (x : Outcome) → IsSameTime w.outer x.outer → answers_repeat past ≡ true → w.outer.in_tick ≡ false → AllByRecursion HasNoWords (stamp x.outer x.entries)
    → Rests (landed_in w.outer) x ⊎ Becomes IsHeard (landed_in w.outer) x → ack_marks (past ++ stamp x.outer x.entries) ≡ ack_marks past
again_so past w x time again out wordless (inl rests) =
    let told : List Entry = stamp x.outer x.entries in
    acks_grow past told ∙ acks_mute (ack_marks past) past told (stamp_are IsFateless (λ tick. tt) x.outer x.entries rests.fateless) wordless
again_so past w x time again out wordless (inr heard) =
    let first : Entry = heard.first in
    let rest : List Entry = heard.rest in
    let told : stamp x.outer x.entries ≡ first ∷ rest
    = ap (stamp x.outer) heard.told ∙ ap (λ (l : List Entry). l ++ first ∷ rest) (same_number w.outer x.outer time ∙ number_none w out) in
    let words = subst (AllByRecursion HasNoWords) told wordless in
    ap (λ (l : List Entry). ack_marks (past ++ l)) told
    ∙ (acks_grow past (first ∷ rest)
    ∙ (ap (λ (n : ℕ). ack_marks_after n (past ++ first ∷ []) rest) (step_again past (ack_marks past) first words.0 again)
    ∙ acks_mute (ack_marks past) (past ++ first ∷ []) rest heard.once words.1))

pub again_acks : (past : List Entry) (m : Machine) (number : ℕ) (drawn : List ℕ) (route : Option Route) → May m (Outside_does (Repeats number drawn route)) → answers_repeat past ≡ true
    → m.outside.outer.in_tick ≡ false → ack_marks past ≡ m.outside.outer.air.ack_losing
    → ack_marks (past ++ entries m (Outside_does (Repeats number drawn route))) ≡ (happens m (Outside_does (Repeats number drawn route))).outside.outer.air.ack_losing
unfolding entries happens outcome
again_acks past m number drawn route may again out known =
    let w : Outside = m.outside in
    let refused : Option Refusal = refusal_of w.outer.air.frames number in
    let x : Outcome = repeats w refused (mesh.Repeats number drawn route) in
    again_so past w x (outcome_time w (Repeats number drawn route) tt) again out (event_wordless m (Outside_does (Repeats number drawn route)) may) (repeats_again w refused number drawn route)
    ∙ (known ∙ sym (entered_leaves Quiet acks_of acks_left x.outer x.entries ∙ repeats_leave w refused number drawn route))
