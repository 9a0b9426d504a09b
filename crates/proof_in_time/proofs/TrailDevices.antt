-- What the device of a node alone that listens makes of a payload that it answers plainly; and that the session which it took stays, at each other event.
use Rattle.std.proofs.Common.{◌≡◌, ◌≤◌, ℕ, suc, ◌%◌, inl, inr, Bool, true, List, [], ◌∷◌, length, refl, sym, ap, ◌∙◌, subst}
use Rattle.std.specs.Prelude.{◌⊎◌, Option, Some, None, slice_get}
use Rattle.std.specs.List.{AllByRecursion}
use Rattle.class_info.specs.InfoSpelling.{form}
use Rattle.class_info.specs.declared.message.InfoMessage.TheVariants.{TransportComplete}
use Rattle.route_table.specs.declared.route.Route.{Route}
use Rattle.supervision.specs.Device.{Taken}
use Rattle.supervision.specs.Session.{wire_id}
use Rattle.transport_segments.specs.Runs.{IsPart}
use Rattle.chip_functions.specs.Field.{IsNode}
use Rattle.chip_sim.specs.Nodes.{is_marked}
use Rattle.air_frames.specs.Flown.{Flown}
use Rattle.air_frames.specs.Frames.{next_of as next_frame}
use Rattle.air_frames.specs.declared.frame.Heading.{Heading}
use Rattle.air_frames.specs.declared.frame.Heading.TheVariants.{Homeward, Outward}
use Rattle.device_kinds.specs.Answers.{report_status}
use Rattle.device_kinds.specs.Kind.{lists}
use Rattle.device_kinds.specs.declared.kind.Kind.TheVariants.{Configurable}
use Rattle.device_sim.specs.Event.{Hears, device_after, device_replies}
use Rattle.device_sim.specs.State.{State}
use Rattle.mesh_sim.specs.Fates.{dead_hop_of, fate_of, listener_of, place_of}
use Rattle.mesh_sim.specs.declared.fate.Fate.{Fate}
use Rattle.mesh_sim.specs.declared.fate.Fate.TheVariants.{AtChip, AtDevice}
use Rattle.host_orders.specs.Wrapping.{message_of}
use Rattle.host_heard.specs.declared.told.Told.TheVariants.{Report}
use Rattle.host_model.specs.Events.{Accepts}
use Rattle.host_model.specs.Pumping.{no_more_event}
use Rattle.outside_model.specs.Events.{Arrives, Cuts, Shows, Wakes_device}
use Rattle.world_model.specs.Events.{Event, Host_does, Outside_does, Refuses, Shows_values, happens}
use Rattle.world_model.specs.State.{Machine}
use Rattle.world_model.proofs.Hosting.{devices_host-all}
use Rattle.proof_messages.specs.Reporting.{TellsOwn, TellsPlainly, asks_now}
use Rattle.proof_messages.specs.Slices.{AnswersAgain, Repeats, Silent}
use Rattle.proof_course_plain.proofs.ChangesOutside.{get_set, place_set}
use Rattle.proof_course_plain.proofs.Replies.{one_place, one_stands}
use Rattle.proof_spoken.proofs.KeptKinds.{event_same}
use Rattle.proof_answered.specs.proof_calm.proof_traffic.OnAir.{on_air}
use Rattle.proof_answered.specs.proof_calm.proof_work.proof_walk.Phases.{Phase, Arriving, Between, Doing, Giving, Goes, Moved, Moving, Said_line, Sleeping, Submitting, Ticking_chip, Ticking_decoder, Ticking_devices, Ticking_host, To_tick}
use Rattle.proof_answered.specs.proof_calm.Awaited.{Awaits, AwaitsAt}
use Rattle.proof_answered.specs.proof_calm.Resting.{IsEffect, LineAt}
use Rattle.proof_answered.specs.proof_calm.Routed.{IsRouted}
use Rattle.proof_answered.specs.Listening.{HasListener}
use Rattle.proof_answered.specs.proof_calm.Live.{HasLive}
use Rattle.proof_answered.specs.Outward.{AllListen, IsOf}
use Rattle.proof_answered.specs.Said.{SaysAt}
use Rattle.proof_answered.specs.Sleepers.{All_listen, IsAlone}
use Rattle.proof_answered.specs.Workers.{OnlySpeak}
use Rattle.proof_answered.proofs.AwakeNodes.{all_heard}
use Rattle.proof_answered.proofs.Outwards.{IsOut, next_flight, next_is_live}
use Rattle.proof_answered.proofs.Speaking.{hears_at}
use Rattle.proof_answered.proofs.Walking.{none_given, takes_still}
use Rattle.proof_answered.proofs.proof_traffic_Parts.{Airs}
use Rattle.proof_in_time.specs.Answering.{AnswersSession}
use Rattle.proof_in_time.specs.Coming.{IsMessage}
use Rattle.proof_in_time.specs.InStep.{HasInStep}
use Rattle.proof_in_time.specs.Parts.{Parts}
use Rattle.proof_in_time.specs.Trail.{HasTaken, Is_again, Is_whole, IsHeardPlainly, last_begun}
use Rattle.proof_in_time.proofs.Bounded.{Devices, counted_devices, cuts_devices, decoder_devices, line_devices, refuses_devices, shows_devices, tick_devices, values_devices}
use Rattle.proof_in_time.proofs.Busy.{arrived_devices}
use Rattle.proof_in_time.proofs.Landed.{home_so}
use Rattle.proof_in_time.proofs.Lasting.{most_then}
use Rattle.proof_in_time.proofs.PartsArriving.{SegmentLaws, TakenStays, home_devices}
use Rattle.proof_in_time.proofs.PartsGoing.{Around, IsOver, RunsThen, Then, arrive_so, goes_parts}
use Rattle.proof_in_time.proofs.PartsInStep.{hears_there, only_kind}
use Rattle.proof_in_time.proofs.PartsPhases.{FirstStays, same_first, ticks_first, wakes_first}
use Rattle.proof_in_time.proofs.Settled.{chip_devices}

-- ---- no frame arrives

-- a frame arrives
pub record LandsAt (here next : Phase) (event : Event) : Type 0 where
  pub frames : ℕ
  pub ticks : ℕ
  pub drawn : List ℕ
  pub route : Option Route
  pub at : here ≡ Arriving (suc frames) ticks
  pub to : next ≡ Arriving frames ticks
  pub is : event ≡ Outside_does (Arrives drawn route)

as_then : (n : ℕ) (m : Machine) (event is : Event) → event ≡ is → FirstStays n m.outside.devices (happens m is).outside.devices → FirstStays n m.outside.devices (happens m event).outside.devices
as_then n m event is same stays = subst (λ (e : Event). FirstStays n m.outside.devices (happens m e).outside.devices) (sym same) stays

still_then : (n : ℕ) (m : Machine) (event : Event) → (happens m event).outside.devices ≡ m.outside.devices → FirstStays n m.outside.devices (happens m event).outside.devices
still_then n m event same = same_first n m.outside.devices (happens m event).outside.devices same

effect_first : (n : ℕ) (m : Machine) (event : Event) → IsEffect event → FirstStays n m.outside.devices (happens m event).outside.devices
effect_first n m (Outside_does (Wakes_device node route)) is = wakes_first n m node route
effect_first n m (Outside_does (Shows node)) is = still_then n m (Outside_does (Shows node)) (shows_devices m node)
effect_first n m (Outside_does (Cuts size)) is = still_then n m (Outside_does (Cuts size)) (cuts_devices m size)
effect_first n m (Host_does (Accepts order carriage)) is = still_then n m (Host_does (Accepts order carriage)) (devices_host-all m (Accepts order carriage ∷ []))
effect_first n m (Refuses line refusal) is = still_then n m (Refuses line refusal) (refuses_devices m line refusal)
effect_first n m (Shows_values node) is = still_then n m (Shows_values node) (values_devices m node)
effect_first n m (Outside_does event) is = absurd is
effect_first n m (Host_does event) is = absurd is
effect_first n m event is = absurd is

-- the first device of a node stays, and so do its number of sessions and what it keeps, where no frame arrives
pub first_on : (airs : Airs) (n : ℕ) (here next : Phase) (m : Machine) (event : Event) → Goes here m event next → LineAt here m → AwaitsAt here m → IsRouted m.outside.outer → FirstStays n m.outside.devices (happens m event).outside.devices ⊎ LandsAt here next event
first_on airs n (Said_line line) next m event (is, to) at awaits routed = inl (as_then n m event _ is (still_then n m _ (line_devices m)))
first_on airs n (Doing line (first ∷ left)) next m event (is, to) at awaits routed = inl (as_then n m event first is (effect_first n m first at.0.0))
first_on airs n (To_tick (suc ticks)) next m event (is, to) at awaits routed = inl (as_then n m event _ is (still_then n m _ (tick_devices m)))
first_on airs n (Arriving (suc frames) ticks) next m event (drawn, route, is, to) at awaits routed = inr (record { frames = frames; ticks = ticks; drawn = drawn; route = route; at = refl; to = to; is = is })
first_on airs n (Giving (suc results) ticks) next m event (route, is, to) at awaits routed = absurd (none_given m results routed awaits.many)
first_on airs n (Ticking_devices place (suc count) ticks) next m event (drawn, route, is, to) at awaits routed = inl (as_then n m event _ is (ticks_first n m place drawn route))
first_on airs n (Ticking_chip ticks) next m event (is, to) at awaits routed = inl (as_then n m event _ is (still_then n m _ (counted_devices m)))
first_on airs n (Ticking_decoder ticks) next m event (is, to) at awaits routed = inl (as_then n m event _ is (still_then n m _ (decoder_devices m)))
first_on airs n (Ticking_host (first ∷ events) ticks) next m event (is, to) at awaits routed = inl (as_then n m event (Host_does first) is (still_then n m (Host_does first) (devices_host-all m (first ∷ []))))
first_on airs n (Sleeping passes ticks) next m event (node, wants, is, to) at awaits routed =
    inl (as_then n m event _ is (still_then n m (Host_does (no_more_event m.host.state node)) (devices_host-all m (no_more_event m.host.state node ∷ []))))
first_on airs n (Submitting passes ticks) next m event (asked, next_is, is, to) at awaits routed = inl (as_then n m event (Host_does asked) is (still_then n m (Host_does asked) (devices_host-all m (asked ∷ []))))
first_on airs n (Moving passes ticks) next m event (rest, ways, is, to) at awaits routed = inl (as_then n m event _ is (still_then n m _ (chip_devices m (length m.outside.outer.to_chip.bytes) rest ways)))
first_on airs n (Moved b passes ticks) next m event (rest, items, done, is, to) at awaits routed = inl (as_then n m event _ is (still_then n m _ (takes_still airs m (length m.outside.outer.to_host.bytes) rest items done)))
first_on airs n here next m event goes at awaits routed = absurd goes

-- where segments go on, the number of sessions that it took stays
pub taken_of : (n : ℕ) (olds news : List State) → FirstStays n olds news → TakenStays n olds news
taken_of n olds news stays first = let s = stays first in (s.0, s.1.0)

module _ (airs : Airs) (laws : SegmentLaws) (these : List Bool) (many : length these ≡ 233) (n session : ℕ) (alone : IsAlone these n) (is_node : IsNode n) where
  -- the segments go on, and it stays; or they are over
  abbrev pub GoesOrOver : ℕ → Phase → Phase → Machine → Event → Type 0
  GoesOrOver left here next m event =
      (Parts these n session (most_then left here) next (happens m event) × TakenStays n m.outside.devices (happens m event).outside.devices) ⊎ IsOver airs laws these many n session alone is_node (most_then left here) next (happens m event)

  pub taken_on : (here next : Phase) (m : Machine) (event : Event) (left : ℕ) → Goes here m event next → Around airs laws these many n session alone is_node here next m event → RunsThen airs laws these many n session alone is_node m event → Parts these n session left here m
      → GoesOrOver left here next m event
  taken_on here next m event left goes a run parts = by (first_on airs n here next m event goes a.line a.awaits a.routed)
    where
      arrives : (q to : Phase) (e : Event) (l : LandsAt q to e) → Around airs laws these many n session alone is_node q to m e → Parts these n session left q m → GoesOrOver left q to m e
      arrives q to e l b there =
          subst (λ (p : Phase). GoesOrOver left p to m e) (sym l.at)
          (subst (λ (p : Phase). GoesOrOver left (Arriving (suc l.frames) l.ticks) p m e) (sym l.to)
          (subst (λ (x : Event). GoesOrOver left (Arriving (suc l.frames) l.ticks) (Arriving l.frames l.ticks) m x) (sym l.is)
          (arrive_so airs laws these many n session alone is_node l.frames l.ticks m l.drawn l.route
          (subst (λ (x : Event). Around airs laws these many n session alone is_node (Arriving (suc l.frames) l.ticks) (Arriving l.frames l.ticks) m x) l.is
          (subst (λ (p : Phase). Around airs laws these many n session alone is_node (Arriving (suc l.frames) l.ticks) p m e) l.to (subst (λ (p : Phase). Around airs laws these many n session alone is_node p to m e) l.at b))) left
          (subst (λ (p : Phase). Parts these n session left p m) l.at there))))

      by : FirstStays n m.outside.devices (happens m event).outside.devices ⊎ LandsAt here next event → GoesOrOver left here next m event
      by (inl stays) = of (goes_parts airs laws these many n session alone is_node here next m event left goes a run parts)
        where
          of : Then airs laws these many n session alone is_node left here next m event → GoesOrOver left here next m event
          of (inl on) = inl (on, taken_of n m.outside.devices (happens m event).outside.devices stays)
          of (inr over) = inr over
      by (inr lands) = arrives here next event lands a parts

-- so the session that it took stays, where the host has begun no other
pub taken_so : (n : ℕ) (m later : Machine) → last_begun n later ≡ last_begun n m → FirstStays n m.outside.devices later.outside.devices → HasTaken n m → HasTaken n later
taken_so n m later begun stays t = let first = stays t.first in record { first = first.0; taken = begun ∙ (t.taken ∙ sym first.1.0) }

-- what was answered plainly is, where the session is the same
pub heard_so : (n : ℕ) (m later : Machine) (payload : List ℕ) → last_begun n later ≡ last_begun n m → (HasTaken n m → HasTaken n later) → IsHeardPlainly n m payload → IsHeardPlainly n later payload
heard_so n m later payload begun taken (Is_whole some message) = Is_whole (subst (λ (s : ℕ). 1 ≤ s) (sym begun) some) (subst (λ (s : ℕ). IsMessage s payload) (sym begun) message)
heard_so n m later payload begun taken (Is_again some was message part) = Is_again (subst (λ (s : ℕ). 1 ≤ s) (sym begun) some) (taken was) message (subst (λ (s : ℕ). IsPart message (s % 16) payload) (sym begun) part)

-- ---- a frame arrives

-- what is proved of a device that has taken the session
pub record AgainLaws : Type 0 where
  pub again : (device : State) (message segment drawn : List ℕ) (session : ℕ) → device.awake ≡ true → device.kind ≡ Configurable → IsPart message (session % 16) segment → session ≡ device.sessions.taken → 1 ≤ session
      → AnswersAgain session segment device (device_after device (Hears segment drawn)) (device_replies device (Hears segment drawn))
  pub complete : (id : ℕ) → TellsPlainly (form (TransportComplete id))

own_plainly : (new : State) (payload : List ℕ) → TellsOwn new payload → TellsPlainly payload
own_plainly new payload tells = record { told = Report (wire_id new.sessions.taken) (report_status new.sessions.status) (asks_now new); heard = tells; plain = tt }

-- it has taken the session then, and tells plainly what it answers
pub record IsHeardSo (session : ℕ) (new : State) (replies : List (List ℕ)) : Type 0 where
  pub taken : new.sessions.taken ≡ session
  pub plain : AllByRecursion TellsPlainly replies

again_so : (laws : AgainLaws) (session : ℕ) (segment : List ℕ) (device new : State) (replies : List (List ℕ)) → session ≡ device.sessions.taken → AnswersAgain session segment device new replies → IsHeardSo session new replies
again_so laws session segment device new replies taken (Silent more left none) = record { taken = ap (λ (t : Taken). t.taken) left.0.sessions ∙ sym taken; plain = subst (AllByRecursion TellsPlainly) (sym none) tt }
again_so laws session segment device new replies taken (Repeats payload last left says tells long) =
    record { taken = ap (λ (t : Taken). t.taken) left.0.sessions ∙ sym taken; plain = subst (AllByRecursion TellsPlainly) (sym says) (laws.complete (session % 16), (own_plainly new payload tells, tt)) }

module _ (airs : Airs) (devices : Devices) (laws : AgainLaws) (these : List Bool) (n : ℕ) (alone : IsAlone these n) (m : Machine) (is : Awaits m) (listen : AllListen these m) (step : HasInStep n m) (cut : lists step.device.kind 0x55 ≡ true) where
  listener : HasListener n m.outside.devices
  listener = listen.nodes n alone.marked

  awake : step.device.awake ≡ true
  awake =
      subst (λ (d : State). d.awake ≡ true)
      (one_stands m.outside.devices listener.place step.place listener.device step.device listener.stands step.stands (one_place n m.outside.devices listener.place step.place listener.first step.first)) listener.is_up.awake

  -- the device hears a payload
  pub plainly_so : (payload drawn : List ℕ) → IsHeardPlainly n m payload → IsHeardSo (last_begun n m) (device_after step.device (Hears payload drawn)) (device_replies step.device (Hears payload drawn))
  plainly_so payload drawn (Is_whole some message) =
      subst (λ (p : List ℕ). IsHeardSo (last_begun n m) (device_after step.device (Hears p drawn)) (device_replies step.device (Hears p drawn))) (sym message.is)
      (of (device_after step.device (Hears (message_of message.carriage message.order (last_begun n m)) drawn)) (device_replies step.device (Hears (message_of message.carriage message.order (last_begun n m)) drawn))
      (devices.heard step.device drawn message.carriage message.order (last_begun n m) message.fit message.end awake step.plain.openly (step.step some)))
    where
      of : (new : State) (replies : List (List ℕ)) → AnswersSession (last_begun n m) new replies → IsHeardSo (last_begun n m) new replies
      of new replies a = record { taken = a.taken; plain = subst (AllByRecursion TellsPlainly) (sym a.says) (own_plainly new a.payload a.tells, tt) }
  plainly_so payload drawn (Is_again some was message part) =
      let own : was.first.device ≡ step.device =
      one_stands m.outside.devices was.first.place step.place was.first.device step.device was.first.stands step.stands (one_place n m.outside.devices was.first.place step.place was.first.first step.first) in
      let taken : last_begun n m ≡ step.device.sessions.taken = was.taken ∙ ap (λ (d : State). d.sessions.taken) own in
      again_so laws (last_begun n m) payload step.device (device_after step.device (Hears payload drawn)) (device_replies step.device (Hears payload drawn)) taken
      (laws.again step.device message payload drawn (last_begun n m) awake (only_kind step.device.kind cut) part taken some)

  module _ (speak : OnlySpeak these m) (live : HasLive these m.outside.outer) (drawn : List ℕ) (route : Option Route) (frame : Flown) (next : next_frame m.outside.outer.air.frames ≡ Some frame) where
    own_node : is_marked these frame.node ≡ true
    own_node =
        let first = next_flight airs is.log (on_air m.outside.outer.air.frames) m.outside.outer.air.frames frame is.follows.fly next in
        (subst (AllByRecursion (IsOf these)) first.1 speak.frames).0

    -- one of the host is heard by this device
    fate_out : frame.heading ≡ Outward → fate_of m.outside.outer.air.network m.outside.devices frame ≡ AtDevice step.place
    fate_out out =
        let there = all_heard airs these Between [] m (Outside_does (Arrives [] None)) is live (All_listen listen) frame next out in
        hears_there n m step m.outside.outer.air.network frame there.0 (alone.only frame.node own_node) there.1

    -- which has taken the session then
    pub out_taken : frame.heading ≡ Outward → IsHeardPlainly n m frame.payload → last_begun n (happens m (Outside_does (Arrives drawn route))) ≡ last_begun n m → HasTaken n (happens m (Outside_does (Arrives drawn route)))
    out_taken out plainly begun =
        let heard = plainly_so frame.payload drawn plainly in
        let new : State = device_after step.device (Hears frame.payload drawn) in
        let are = arrived_devices m drawn route frame step.place step.device next (fate_out out) step.stands in
        record {
          first = record {
            place = step.place;
            device = new;
            first = ap (λ (ds : List State). place_of n ds) are ∙ (place_set n m.outside.devices step.place step.device new step.stands (event_same step.device (Hears frame.payload drawn)).node ∙ step.first);
            stands = ap (λ (ds : List State). slice_get ds step.place) are ∙ get_set m.outside.devices step.place step.device new step.stands;
          };
          taken = begun ∙ sym heard.taken;
        }

    -- one of a device is heard by none
    pub home_first : frame.heading ≡ Homeward → FirstStays n m.outside.devices (happens m (Outside_does (Arrives drawn route))).outside.devices
    home_first home =
        still_then n m (Outside_does (Arrives drawn route)) (home_devices m drawn route frame next home (next_is_live these m.outside.outer live frame next (λ out. own_node)))

  -- whatever the frame is that arrives, what is answered to it tells plainly
  pub says_plainly : OnlySpeak these m → HasLive these m.outside.outer → AllByRecursion (IsOut (λ (frame : Flown). IsHeardPlainly n m frame.payload)) (on_air m.outside.outer.air.frames) → (drawn : List ℕ) (route : Option Route)
      → SaysAt these TellsPlainly m.outside (Arrives drawn route)
  says_plainly speak live flying drawn route = λ frame place device next marked fate there. by frame place device next marked fate there frame.heading refl
    where
      by : (frame : Flown) (place : ℕ) (device : State) → next_frame m.outside.outer.air.frames ≡ Some frame → is_marked these frame.node ≡ true → fate_of m.outside.outer.air.network m.outside.devices frame ≡ AtDevice place
          → slice_get m.outside.devices place ≡ Some device → (heading : Heading) → frame.heading ≡ heading → AllByRecursion TellsPlainly (device_replies device (Hears frame.payload drawn))
      by frame place device next marked fate there Homeward home =
          let live_it = next_is_live these m.outside.outer live frame next (λ out. marked) in
          let chip = home_so frame.lost (dead_hop_of m.outside.outer.air.network frame) frame.heading (listener_of frame.node m.outside.devices) live_it.0 live_it.1 home in
          absurd (let wrong : ◌≡◌ {A = Fate} AtChip (AtDevice place) = sym chip ∙ fate in cc)
      by frame place device next marked fate there Outward out =
          let first = next_flight airs is.log (on_air m.outside.outer.air.frames) m.outside.outer.air.frames frame is.follows.fly next in
          let plainly : IsHeardPlainly n m frame.payload = (subst (AllByRecursion (IsOut (λ (one : Flown). IsHeardPlainly n m one.payload))) first.1 flying).0 out in
          let own : place_of n m.outside.devices ≡ Some place = subst (λ (k : ℕ). place_of k m.outside.devices ≡ Some place) (alone.only frame.node marked) (hears_at m.outside.outer.air.network m.outside.devices frame place fate) in
          let same : step.device ≡ device = one_stands m.outside.devices step.place place step.device device step.stands there (one_place n m.outside.devices step.place place step.first own) in
          subst (λ (d : State). AllByRecursion TellsPlainly (device_replies d (Hears frame.payload drawn))) same (plainly_so frame.payload drawn plainly).plain
