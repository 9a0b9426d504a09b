-- A frame arrives in a tick: segments are on their way still, or the message was heard, and the report of the end is on the air, or the device is at work on the session.
use Rattle.std.proofs.Common.{◌≡◌, ◌≤◌, ◌<◌, ℕ, suc, ◌+◌, ◌-◌, ◌*◌, ◌%◌, inl, inr, Bool, true, List, ◌++◌, map, length, sym, ap, ◌∙◌, subst, arith}
use Rattle.std.specs.Prelude.{◌⊎◌, Option, Some, None, slice_get, slice_set}
use Rattle.serial_frame.specs.Frame.{FrameParts}
use Rattle.route_table.specs.declared.route.Route.{Route}
use Rattle.transport_segments.specs.Segment.{segment_text}
use Rattle.transport_segments.specs.Parts.{slice_at}
use Rattle.transport_segments.specs.Runs.{IsPart}
use Rattle.chip_sim.specs.Nodes.{is_marked}
use Rattle.air_frames.specs.Flown.{Flown}
use Rattle.air_frames.specs.Frames.{next_of}
use Rattle.air_frames.specs.declared.frame.Heading.TheVariants.{Homeward, Outward}
use Rattle.device_kinds.specs.declared.kind.Kind.TheVariants.{Configurable}
use Rattle.device_sim.specs.Event.{Hears, device_after, device_replies}
use Rattle.device_sim.specs.State.{State}
use Rattle.mesh_sim.specs.Air.{is_joined}
use Rattle.mesh_sim.specs.Fates.{Mesh, dead_hop_of, fate_of, listener_of, place_of}
use Rattle.mesh_sim.specs.Steps.{arriving, arriving_as, mesh_after}
use Rattle.mesh_sim.specs.declared.fate.Fate.{Fate}
use Rattle.mesh_sim.specs.declared.fate.Fate.TheVariants.{AtDevice}
use Rattle.host_model.specs.Facts.{HostFacts}
use Rattle.host_model.specs.Sessions.{segment_at, segment_count}
use Rattle.host_model.specs.State.{HostState, node_of}
use Rattle.outside_model.specs.Events.{Arrives, devices_after, mesh_of}
use Rattle.world_model.specs.Events.{Outside_does, happens}
use Rattle.world_model.specs.State.{Machine}
use Rattle.proof_messages.specs.Slices.{IsSlice}
use Rattle.proof_course_plain.specs.Host.{asked_of}
use Rattle.proof_course_plain.specs.Making.{KeepsNext}
use Rattle.proof_course_plain.specs.Meaning.{Asked, IsSegmentOf}
use Rattle.proof_course_plain.proofs.ChangesOutside.{get_set, place_set}
use Rattle.proof_course_plain.proofs.Replies.{one_place, one_stands}
use Rattle.proof_course_plain.proofs.Segments.{kept_slices}
use Rattle.proof_spoken.proofs.KeptKinds.{event_same}
use Rattle.proof_answered.specs.proof_calm.proof_traffic.OnAir.{on_air}
use Rattle.proof_answered.specs.proof_calm.proof_traffic.OutsideTraffic.{outward}
use Rattle.proof_answered.specs.proof_calm.proof_work.proof_walk.Phases.{Arriving}
use Rattle.proof_answered.specs.proof_calm.Awaited.{Awaits}
use Rattle.proof_answered.specs.proof_calm.Live.{IsLive}
use Rattle.proof_answered.specs.proof_calm.Resting.{IsGiven}
use Rattle.proof_answered.specs.proof_calm.Tied.{unheard}
use Rattle.proof_answered.proofs.proof_traffic_Parts.{Airs}
use Rattle.proof_in_time.specs.Answering.{AnswersPart, IsDoneOrAtWork, IsInStep}
use Rattle.proof_in_time.specs.Coming.{IsReport, Stands, IsBusy}
use Rattle.proof_in_time.specs.Openly.{GoOpenly}
use Rattle.proof_in_time.specs.Parts.{AreInside, Asks_one, Asks_two, HasCall, HasFirst, Hears_one, Hears_two, IsCut, IsWithin, OnWay, Parts, ToHear, heard_first}
use Rattle.proof_in_time.specs.Untold.{NoneEnds}
use Rattle.proof_in_time.proofs.Busy.{arrived_devices}
use Rattle.proof_in_time.proofs.Grown.{Arrived}
use Rattle.proof_in_time.proofs.Landed.{home_so}
use Rattle.proof_in_time.proofs.PartsArrived.{HearsNow, arrives_or, outside_host}
use Rattle.proof_in_time.proofs.PartsFlying.{one_out, plain_out}
use Rattle.proof_in_time.proofs.PartsGiven.{few_bytes, part_of}
use Rattle.proof_in_time.proofs.PartsHeard.{HearsPart, SliceLaws, part_heard}
use Rattle.proof_in_time.proofs.PartsPhases.{cut_so, same_first, within_so}
use Rattle.proof_in_time.proofs.PartsTaken.{AskIsHeard, IsTakenNow, On, Over, PartsThen, part_then}

-- ---- what is proved of segments, and of who takes them

pub record SegmentLaws : Type 0 where
  pub slices : SliceLaws
  pub part : (message : List ℕ) (session place : ℕ) → 1 ≤ length message → length message ≤ 512 → 39 * place < length message → IsPart message (session % 16) (segment_text (session % 16) (length message) (39 * place) (slice_at message place))
  pub carried : (message : List ℕ) (session place : ℕ) → 1 ≤ length message → length message ≤ 512 → 39 * place < length message → IsSlice place (segment_text (session % 16) (length message) (39 * place) (slice_at message place))
  pub asks : AskIsHeard
  pub answered : (orders : List Asked) (commands : List ℕ) (device : State) (drawn payload : List ℕ) (session : ℕ) (is : IsSegmentOf orders commands session payload) → device.awake ≡ true → device.kind ≡ Configurable → IsInStep session device
      → KeepsNext orders commands (device.sessions.taken + 1) device.reassembly → AnswersPart session is.place is.message payload device (device_after device (Hears payload drawn)) (device_replies device (Hears payload drawn))

-- the first device of a node takes its commands in segments, awake and in step with the host
pub record TakesParts (n session : ℕ) (m : Machine) : Type 0 where
  pub stands : HasFirst n m.outside.devices
  pub awake : stands.device.awake ≡ true
  pub kind : stands.device.kind ≡ Configurable
  pub step : IsInStep session stands.device
  pub at : IsDoneOrAtWork stands.device
  pub untold : session ≡ stands.device.sessions.taken + 1 → NoneEnds n session m
  pub keeps : KeepsNext (map asked_of m.host.state.commands) (node_of m.host.state n).book.commands (stands.device.sessions.taken + 1) stands.device.reassembly

pub one_first : (n : ℕ) (devices : List State) (a b : HasFirst n devices) → a.device ≡ b.device
one_first n devices a b = one_stands devices a.place b.place a.device b.device a.stands b.stands (one_place n devices a.place b.place a.first b.first)

-- ---- devices

-- a frame of a device is heard by none
pub home_devices : (m : Machine) (drawn : List ℕ) (route : Option Route) (frame : Flown) → next_of m.outside.outer.air.frames ≡ Some frame → frame.heading ≡ Homeward → IsLive m.outside.outer.air.network frame
    → (happens m (Outside_does (Arrives drawn route))).outside.devices ≡ m.outside.devices
unfolding happens devices_after mesh_after
home_devices m drawn route frame next home live =
    let at : Mesh = mesh_of m.outside in
    ap (λ (f : Option Flown). (arriving at f drawn route).devices) next
    ∙ ap (λ (x : Fate). (arriving_as at frame x drawn route).devices) (home_so frame.lost (dead_hop_of m.outside.outer.air.network frame) frame.heading (listener_of frame.node m.outside.devices) live.0 live.1 home)

-- the first device of a node takes no session
abbrev pub TakenStays : ℕ → List State → List State → Type 0
TakenStays n olds news = (first : HasFirst n olds) → (then_first : HasFirst n news) × (then_first.device.sessions.taken ≡ first.device.sessions.taken)

inside_first : (hears : ToHear) (count : ℕ) → AreInside hears count → heard_first hears < count
inside_first (Hears_one place) count is = is
inside_first (Hears_two place other) count is = is.0
inside_first (Asks_one place) count is = is
inside_first (Asks_two place other) count is = is.0

-- ---- a frame arrives

module _ (airs : Airs) (laws : SegmentLaws) (these : List Bool) (n session : ℕ) (marked : is_marked these n ≡ true) (within : n < 233) (m : Machine) (is : Awaits m) (drawn : List ℕ) (route : Option Route) (at : Arrived airs m is drawn route) (given : IsGiven 0 m)
    (then_given : IsGiven 0 (happens m (Outside_does (Arrives drawn route)))) (room : length m.outside.outer.chip.state.port.waiting ≤ 31) (live : IsLive m.outside.outer.air.network at.frame) (frames ticks : ℕ) (behind : frames ≤ length at.rest)
    (facts : HostFacts m.host.state) (go : GoOpenly these m.host.state.commands) (joined : is_joined m.outside.outer.air n ≡ true) (takes : TakesParts n session m)
    (hears_it : at.frame.node ≡ n → at.frame.heading ≡ Outward → fate_of m.outside.outer.air.network m.outside.devices at.frame ≡ AtDevice takes.stands.place) where
  abbrev then_there : Machine
  then_there = happens m (Outside_does (Arrives drawn route))

  -- what is to come then
  abbrev pub Then_comes : ℕ → Type 0
  Then_comes left =
      (Parts these n session left (Arriving frames ticks) then_there × TakenStays n m.outside.devices then_there.outside.devices)
      ⊎ ((Stands (IsReport n session) (on_air then_there.outside.outer.air.frames) ⊎ ((busy : IsBusy n session then_there.outside.devices) × (busy.device.work_left ≤ 5))) × ((5 ≤ left) × IsTakenNow these n session frames then_there))

  module _ (left : ℕ) (parts : Parts these n session left (Arriving (suc frames) ticks) m)
      (calls : outward (on_air m.outside.outer.air.frames) ≡ 1 → outward (on_air then_there.outside.outer.air.frames) ≡ 0 → (more : List FrameParts) → unheard then_there.outside.outer ≡ unheard m.outside.outer ++ more
      → HasCall then_there.host.state.requests.last_id more) where
    cut_then : IsCut n session parts.message then_there.host.state
    cut_then = cut_so n session parts.message m.host.state then_there.host.state (outside_host m (Arrives drawn route)) parts.cut

    count_then : (node_of then_there.host.state n).segments ≡ segment_count parts.message
    count_then = ap (λ (h : HostState). (node_of h n).segments) (outside_host m (Arrives drawn route)) ∙ parts.count

    text_then : (node_of then_there.host.state n).text ≡ None
    text_then = ap (λ (h : HostState). (node_of h n).text) (outside_host m (Arrives drawn route)) ∙ parts.no_text

    pending_then : (node_of then_there.host.state n).pending ≡ None
    pending_then = ap (λ (h : HostState). (node_of h n).pending) (outside_host m (Arrives drawn route)) ∙ parts.no_pending

    -- one of a device
    stays : at.frame.heading ≡ Homeward → OnWay these n session parts.message parts.next parts.later (Arriving frames ticks) then_there parts.hears → Parts these n session left (Arriving frames ticks) then_there
    stays home way =
        let first = same_first n m.outside.devices then_there.outside.devices (home_devices m drawn route at.frame at.next home live) parts.stands in
        record {
          message = parts.message;
          cut = cut_then;
          count = count_then;
          no_text = text_then;
          no_pending = pending_then;
          stands = first.0;
          hears = parts.hears;
          inside = parts.inside;
          next = parts.next;
          later = parts.later;
          way = way;
          ticks = parts.ticks;
          within = within_so session parts.message parts.stands.device first.0.device first.1 parts.hears parts.next parts.ticks parts.within;
          few = parts.few;
        }

    few_long : length parts.message ≤ 273
    few_long = few_bytes these m.host.state n facts go marked session parts.message parts.cut

    -- the segment that is heard next
    module _ (h : HearsNow airs these n session parts.message m is drawn route at given then_given room live frames ticks parts.next parts.hears) where
      abbrev device : State
      device = takes.stands.device

      place_in : h.place < segment_count parts.message
      place_in = subst (λ (k : ℕ). k < segment_count parts.message) h.first_is (inside_first parts.hears (segment_count parts.message) parts.inside)

      byte_in : 39 * h.place < length parts.message
      byte_in = let inside = place_in in omega (arith, inside)

      some : 1 ≤ length parts.message
      some = let inside = byte_in in omega (arith, inside)

      few : length parts.message ≤ 512
      few = let long = few_long in omega (arith, long)

      text : segment_at session parts.message h.place ≡ at.frame.payload
      text = sym h.frame_is.is

      part : IsPart parts.message (session % 16) at.frame.payload
      part = subst (IsPart parts.message (session % 16)) text (laws.part parts.message session h.place some few byte_in)

      slice : IsSlice h.place at.frame.payload
      slice = subst (IsSlice h.place) text (laws.carried parts.message session h.place some few byte_in)

      abbrev new : State
      new = device_after takes.stands.device (Hears at.frame.payload drawn)

      answered : AnswersPart session h.place parts.message at.frame.payload device new (device_replies takes.stands.device (Hears at.frame.payload drawn))
      answered = by (segment_at session parts.message h.place) text (part_of these m.host.state n facts go marked session parts.message parts.cut h.place place_in)
        where
          by : (payload : List ℕ) → payload ≡ at.frame.payload
              → (of : IsSegmentOf (map asked_of m.host.state.commands) (node_of m.host.state n).book.commands session payload) × ((of.message ≡ parts.message) × (of.place ≡ h.place))
              → AnswersPart session h.place parts.message at.frame.payload device new (device_replies takes.stands.device (Hears at.frame.payload drawn))
          by payload same (of, (message_is, place_is)) =
              subst (λ (p : List ℕ). AnswersPart session h.place parts.message p device (device_after takes.stands.device (Hears p drawn)) (device_replies takes.stands.device (Hears p drawn))) same
              (subst (λ (k : ℕ). AnswersPart session k parts.message payload device (device_after takes.stands.device (Hears payload drawn)) (device_replies takes.stands.device (Hears payload drawn))) place_is
              (subst (λ (t : List ℕ). AnswersPart session of.place t payload device (device_after takes.stands.device (Hears payload drawn)) (device_replies takes.stands.device (Hears payload drawn))) message_is
              (laws.answered (map asked_of m.host.state.commands) (node_of m.host.state n).book.commands takes.stands.device drawn payload session of takes.awake takes.kind takes.step takes.keeps)))

      within_it : IsWithin session parts.message parts.hears parts.next device parts.ticks
      within_it = subst (λ (d : State). IsWithin session parts.message parts.hears parts.next d parts.ticks) (one_first n m.outside.devices parts.stands takes.stands) parts.within

      -- where it has asked for something the session was not taken
      untold : (first other : ℕ) → parts.hears ≡ Hears_two first other → NoneEnds n session m
      untold first other two = by within_it
        where
          by : IsWithin session parts.message parts.hears parts.next device parts.ticks → NoneEnds n session m
          by (inl turn) = absurd (let wrong : Hears_two first other ≡ Hears_one turn.place = sym two ∙ turn.alone in cc)
          by (inr wanted) = takes.untold wanted.next

      heard : HearsPart session device.sessions.taken parts.message parts.hears parts.next parts.ticks new (device_replies takes.stands.device (Hears at.frame.payload drawn))
      heard =
          part_heard laws.slices session parts.message at.frame.payload h.place device part slice place_in
          (kept_slices (map asked_of m.host.state.commands) (node_of m.host.state n).book.commands (takes.stands.device.sessions.taken + 1) takes.stands.device.reassembly takes.keeps) parts.hears parts.next parts.ticks h.first_is new
          (device_replies takes.stands.device (Hears at.frame.payload drawn)) takes.at within_it answered

      fate : fate_of m.outside.outer.air.network m.outside.devices at.frame ≡ AtDevice takes.stands.place
      fate = hears_it h.frame_is.node h.frame_is.out

      -- the device that it is then
      first_then : HasFirst n then_there.outside.devices
      first_then =
          subst (HasFirst n) (sym (arrived_devices m drawn route at.frame takes.stands.place device at.next fate takes.stands.stands))
          (record {
            place = takes.stands.place;
            device = new;
            first = place_set n m.outside.devices takes.stands.place device new takes.stands.stands (event_same device (Hears at.frame.payload drawn)).node ∙ takes.stands.first;
            stands = get_set m.outside.devices takes.stands.place device new takes.stands.stands;
          })

      device_then : first_then.device ≡ new
      device_then = by (slice_set m.outside.devices takes.stands.place new) (arrived_devices m drawn route at.frame takes.stands.place device at.next fate takes.stands.stands)
        where
          by : (devices : List State) → then_there.outside.devices ≡ slice_set m.outside.devices takes.stands.place new → first_then.device ≡ new
          by devices are =
              let stood : slice_get then_there.outside.devices takes.stands.place ≡ Some new = ap (λ (ds : List State). slice_get ds takes.stands.place) are ∙ get_set m.outside.devices takes.stands.place device new takes.stands.stands in
              let first : place_of n then_there.outside.devices ≡ Some takes.stands.place =
              ap (λ (ds : List State). place_of n ds) are ∙ (place_set n m.outside.devices takes.stands.place device new takes.stands.stands (event_same device (Hears at.frame.payload drawn)).node ∙ takes.stands.first) in
              one_stands then_there.outside.devices first_then.place takes.stands.place first_then.device new first_then.stands stood (one_place n then_there.outside.devices first_then.place takes.stands.place first_then.first first)

      taken : PartsThen airs laws.asks these n session parts.message few m is drawn route at given then_given room live frames ticks behind (segment_count parts.message) parts.ticks device.sessions.taken new
      taken =
          part_then airs laws.asks these n session parts.message few m is drawn route at given then_given room live frames ticks behind parts.next parts.ticks parts.hears h takes.stands.place device takes.stands.first takes.stands.stands fate joined within marked untold
          parts.count parts.inside (calls (ap outward at.were ∙ one_out at.frame at.rest h.frame_is.out (plain_out these at.rest h.plain))) heard

      pub hears_then : Then_comes left
      hears_then = by taken
        where
          by : PartsThen airs laws.asks these n session parts.message few m is drawn route at given then_given room live frames ticks behind (segment_count parts.message) parts.ticks device.sessions.taken new → Then_comes left
          by (On hears next way inside then_within some_ticks stays_so) =
              let all = parts.few in
              inl (
                record {
                  message = parts.message;
                  cut = cut_then;
                  count = count_then;
                  no_text = text_then;
                  no_pending = pending_then;
                  stands = first_then;
                  hears = hears;
                  inside = inside;
                  next = next;
                  later = 1;
                  way = way;
                  ticks = parts.ticks - 1;
                  within = subst (λ (d : State). IsWithin session parts.message hears next d (parts.ticks - 1)) (sym device_then) then_within;
                  few = omega (arith, all, some_ticks);
                },
                λ first. (first_then, ap (λ (d : State). d.sessions.taken) device_then ∙ (stays_so ∙ sym (ap (λ (d : State). d.sessions.taken) (one_first n m.outside.devices first takes.stands)))),
              )
          by (Over ends five next added taken_it other are plain says told) =
              let all = parts.few in
              inr (
                ends,
                (
                  omega (arith, all, five),
                  record {
                    message = parts.message;
                    cut = cut_then;
                    count = count_then;
                    no_text = text_then;
                    no_pending = pending_then;
                    stands = first_then;
                    taken = ap (λ (d : State). d.sessions.taken) device_then ∙ taken_it;
                    next = next;
                    other = other;
                    rest = at.rest;
                    added = added;
                    are = are;
                    plain = plain;
                    says = says;
                    behind = behind;
                    told = told;
                  },
                ),
              )

    pub parts_arrive : Then_comes left
    parts_arrive = by (arrives_or airs these n session parts.message m is drawn route at given then_given room live frames ticks parts.next parts.later parts.hears parts.way)
      where
        by : ((at.frame.heading ≡ Homeward) × OnWay these n session parts.message parts.next parts.later (Arriving frames ticks) then_there parts.hears)
            ⊎ HearsNow airs these n session parts.message m is drawn route at given then_given room live frames ticks parts.next parts.hears → Then_comes left
        by (inl (home, way)) =
            inl (
              stays home way,
              λ first. let on = same_first n m.outside.devices then_there.outside.devices (home_devices m drawn route at.frame at.next home live) first in (on.0, on.1.0),
            )
        by (inr h) = hears_then h
