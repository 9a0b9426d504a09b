-- What the host has on the air or on its way to the chip is answered plainly, and an attempt that has segments is of a session that was taken: so it is at each event, but where an attempt of the node starts.
use Rattle.std.proofs.Common.{◌≡◌, ◌≤◌, ◌<◌, ℕ, inl, inr, Bool, true, false, List, [], ◌∷◌, length, refl, sym, ap, ◌∙◌, subst, arith}
use Rattle.std.proofs.lemmas.Bool.Decides.{nat_tests}
use Rattle.std.proofs.lemmas.List.{get_or-set_same}
use Rattle.std.specs.Prelude.{◌⊎◌, Option, Some, None}
use Rattle.std.specs.Option.{is_some}
use Rattle.std.specs.List.{AllByRecursion}
use Rattle.zw_base.proofs.Each.{all-append, all-weaker}
use Rattle.serial_frame.specs.Stream.{Rest}
use Rattle.serial_frame.specs.declared.item.Item.{Item}
use Rattle.serial_link.specs.declared.turn.Turn.{Turn}
use Rattle.serial_link.specs.declared.turn.Turn.TheVariants.{Copied, Idle as no_turn, Paused}
use Rattle.route_table.specs.declared.route.Route.{Route}
use Rattle.supervision.specs.Host.{begun_of, command_at as command_of_session, open_session}
use Rattle.chip_functions.specs.Field.{IsNode}
use Rattle.chip_sim.specs.Nodes.{is_marked}
use Rattle.chip_sim.specs.declared.out.Sending.{Sending}
use Rattle.air_frames.specs.Flown.{Flown}
use Rattle.air_frames.specs.declared.frame.Heading.{Heading}
use Rattle.air_frames.specs.declared.frame.Heading.TheVariants.{Homeward, Outward}
use Rattle.device_kinds.specs.Kind.{lists}
use Rattle.host_node.specs.Search.{next_of}
use Rattle.host_node.specs.State.{NodeState, unknown}
use Rattle.host_node.specs.Steps.{after_begin, after_block, after_segment}
use Rattle.host_requests.specs.Frames.{frame_of}
use Rattle.host_requests.specs.declared.task.Purpose.TheVariants.{Attempt}
use Rattle.host_requests.specs.declared.under_way.Progress.TheVariants.{Submitted}
use Rattle.host_model.specs.After.{after, is_busy}
use Rattle.host_model.specs.Events.{HostEvent, Begin_unkept, Begins, Gives_segment, Starts}
use Rattle.host_model.specs.Facts.{HasSegments, HostFacts}
use Rattle.host_model.specs.May.{May as MayHost, IsFree}
use Rattle.host_model.specs.Pumping.{IsNext}
use Rattle.host_model.specs.Sessions.{message_for, segment_at, segment_count}
use Rattle.host_model.specs.State.{HostState, node_of}
use Rattle.host_model.proofs.Submitted.{SubmittedAre, next_is}
use Rattle.outside_model.specs.Events.{Arrives, Chip_takes}
use Rattle.world_model.specs.Events.{Event, Host_does, May, Outside_does, happens}
use Rattle.world_model.specs.State.{Machine}
use Rattle.world_model.proofs.Hosting.{devices_host-all}
use Rattle.proof_course_plain.proofs.HostEvents.{open_is}
use Rattle.proof_answered.specs.proof_calm.proof_traffic.Facts.{one_if}
use Rattle.proof_answered.specs.proof_calm.proof_traffic.OnAir.{on_air}
use Rattle.proof_answered.specs.proof_calm.proof_traffic.OutsideTraffic.{outward}
use Rattle.proof_answered.specs.proof_calm.proof_work.proof_walk.Phases.{Phase, Goes, Moved, Moving, Submitting}
use Rattle.proof_answered.specs.proof_calm.Passes.{ChipMayTake, chip_taken}
use Rattle.proof_answered.specs.proof_calm.Tied.{on_line}
use Rattle.proof_answered.specs.Outward.{AllListen, IsSentTo}
use Rattle.proof_answered.specs.Sleepers.{IsAlone}
use Rattle.proof_answered.specs.Workers.{OnlySpeak}
use Rattle.proof_answered.proofs.Calm.{does_calm}
use Rattle.proof_answered.proofs.Outwards.{IsOut, awaits_of, home_out}
use Rattle.proof_answered.proofs.SleeperAloft.{none_aborted, none_fly}
use Rattle.proof_answered.proofs.proof_traffic_Parts.{Airs}
use Rattle.proof_in_time.specs.Coming.{IsAsking}
use Rattle.proof_in_time.specs.InStep.{HasInStep}
use Rattle.proof_in_time.specs.Openly.{GoOpenly}
use Rattle.proof_in_time.specs.Parts.{By_attempt, IsCut}
use Rattle.proof_in_time.specs.Trail.{GivesPlainly, HasTaken, Is_again, IsHeardPlainly, last_begun}
use Rattle.proof_in_time.proofs.Aired.{Departs, frame_departs, never_idle, request_taken}
use Rattle.proof_in_time.proofs.AskedSo.{outs_still}
use Rattle.proof_in_time.proofs.Bounded.{Devices}
use Rattle.proof_in_time.proofs.Grown.{Arrived, arrives_there}
use Rattle.proof_in_time.proofs.OpenBeside.{StartsNone}
use Rattle.proof_in_time.proofs.PartsArrived.{outside_host}
use Rattle.proof_in_time.proofs.PartsArriving.{SegmentLaws}
use Rattle.proof_in_time.proofs.PartsFlying.{sends_as}
use Rattle.proof_in_time.proofs.PartsGiven.{few_bytes, given_at, some_bytes}
use Rattle.proof_in_time.proofs.PartsHosted.{host_then}
use Rattle.proof_in_time.proofs.PartsMoved.{busy_air, carried_sends, free_air}
use Rattle.proof_in_time.proofs.PartsPhases.{FirstStays, same_first}
use Rattle.proof_in_time.proofs.PartsSupplied.{TiedAt}
use Rattle.proof_in_time.proofs.RequestStays.{GoesSteady}
use Rattle.proof_in_time.proofs.Settled.{chip_devices}
use Rattle.proof_in_time.proofs.TrailDevices.{AgainLaws, LandsAt, first_on, heard_so, home_first, out_taken, taken_so}

-- ---- what is known beside

-- what the host has out, and of which session its attempt is
pub record IsOutPlainly (n : ℕ) (here : Phase) (m : Machine) : Type 0 where
  pub flying : AllByRecursion (IsOut (λ (frame : Flown). IsHeardPlainly n m frame.payload)) (on_air m.outside.outer.air.frames)
  pub given : IsAsking here → (on_line m.host.state.side.turn ≡ []) ⊎ GivesPlainly n m
  pub taken : 1 ≤ (node_of m.host.state n).segments → HasTaken n m

no_line : (turn : Turn) → is_busy turn ≡ false → on_line turn ≡ []
no_line no_turn free = refl
no_line (Copied f copies ticks) free = absurd (let wrong : true ≡ false = free in cc)
no_line (Paused f copies ticks) free = absurd (let wrong : true ≡ false = free in cc)

-- ---- a segment of the session that was taken

-- each is answered plainly
pub part_plainly : (laws : SegmentLaws) (these : List Bool) (n : ℕ) (marked : is_marked these n ≡ true) (m : Machine) (facts : HostFacts m.host.state) (go : GoOpenly these m.host.state.commands) (message : List ℕ) (place : ℕ)
    → IsCut n (last_begun n m) message m.host.state → place < segment_count message → 1 ≤ last_begun n m → HasTaken n m → IsHeardPlainly n m (segment_at (last_begun n m) message place)
part_plainly laws these n marked m facts go message place cut less some taken =
    let many = few_bytes these m.host.state n facts go marked (last_begun n m) message cut in
    let any = some_bytes these m.host.state n facts go marked (last_begun n m) message cut in
    Is_again some taken message (laws.part message (last_begun n m) place any (omega (arith, many)) (omega (arith, less)))

module _ (airs : Airs) (devices : Devices) (laws : SegmentLaws) (again : AgainLaws) (these : List Bool) (many : length these ≡ 233) (n : ℕ) (alone : IsAlone these n) (is_node : IsNode n) where
  within : n < 233
  within = let few = is_node.1 in omega (arith, few)

  -- ---- the host submits something

  module _ (passes ticks : ℕ) (m : Machine) (tied : TiedAt these (Submitting passes ticks) m) (go : GoOpenly these m.host.state.commands) (unsealed : (node_of m.host.state n).text ≡ None) (workers : (k : ℕ) → next_of m.host.state.nodes m.host.state.served ≡ Some k → is_marked these k ≡ true)
      (empty : m.host.state.requests.queue ≡ []) where
    own : (k : ℕ) → next_of m.host.state.nodes m.host.state.served ≡ Some k → k ≡ n
    own k is = alone.only k (workers k is)

    -- what the request is then, and the session
    record Asks (event : HostEvent) : Type 0 where
      given : (on_line (happens m (Host_does event)).host.state.side.turn ≡ []) ⊎ GivesPlainly n (happens m (Host_does event))
      taken : 1 ≤ (node_of (happens m (Host_does event)).host.state n).segments → HasTaken n (happens m (Host_does event))

    abbrev Was : Type 0
    Was = 1 ≤ (node_of m.host.state n).segments → HasTaken n m

    abbrev Is : HostEvent → Type 0
    Is event = MayHost m.host.state event → StartsNone n (Host_does event) → Asks event

    -- the devices are as they were
    taken_then : (event : HostEvent) → begun_of (node_of (after m.host.state event) n).book ≡ begun_of (node_of m.host.state n).book → HasTaken n m → HasTaken n (happens m (Host_does event))
    taken_then event begun taken =
        taken_so n m (happens m (Host_does event)) (ap (λ (g : HostState). begun_of (node_of g n).book) (host_then m event) ∙ begun) (same_first n m.outside.devices (happens m (Host_does event)).outside.devices (devices_host-all m (event ∷ []))) taken

    -- nothing is given
    nothing : (was : Was) (event : HostEvent) → (after m.host.state event).side.turn ≡ m.host.state.side.turn → IsFree m.host.state
        → (1 ≤ (node_of (after m.host.state event) n).segments → (1 ≤ (node_of m.host.state n).segments) × (begun_of (node_of (after m.host.state event) n).book ≡ begun_of (node_of m.host.state n).book)) → Asks event
    nothing was event side free segments = record {
      given = inl (ap (λ (g : HostState). on_line g.side.turn) (host_then m event) ∙ (ap on_line side ∙ no_line m.host.state.side.turn free.free_line));
      taken = λ some.
          let before = segments (subst (λ (g : HostState). 1 ≤ (node_of g n).segments) (host_then m event) some) in
          taken_then event before.1 (was before.0);
    }

    -- the next segment
    has_cut : 1 ≤ (node_of m.host.state n).segments → HasSegments m.host.state.commands (node_of m.host.state n)
    has_cut some = by (tied.peopled.facts.owns n).segments
      where
        by : ((node_of m.host.state n).segments ≡ 0) ⊎ HasSegments m.host.state.commands (node_of m.host.state n) → HasSegments m.host.state.commands (node_of m.host.state n)
        by (inl none) = absurd (omega (arith, some, none))
        by (inr has) = has

    gives_segment : (was : Was) (more : Bool) (payload : List ℕ) → MayHost m.host.state (Gives_segment n more payload) → Asks (Gives_segment n more payload)
    gives_segment was more payload may = record {
      given = inr (record {
        request = record { purpose = Attempt n more payload; progress = Submitted };
        payload = payload;
        under_way = ap (λ (g : HostState). g.requests.under_way) (host_then m (Gives_segment n more payload));
        carries = By_attempt more refl;
        line = ap (λ (g : HostState). on_line g.side.turn) (host_then m (Gives_segment n more payload))
            ∙ ap (λ (g : HostState). frame_of (Attempt n more payload) g.requests.last_id ∷ []) (sym (host_then m (Gives_segment n more payload)));
        plainly = heard_so n m (happens m (Host_does (Gives_segment n more payload))) payload begun (λ taken. taken_then (Gives_segment n more payload) same_begun taken) plainly;
      });
      taken = λ some. taken_then (Gives_segment n more payload) same_begun taken;
    }
      where
        node : node_of (after m.host.state (Gives_segment n more payload)) n ≡ after_segment (node_of m.host.state n)
        node = get_or-set_same m.host.state.nodes n (after_segment (node_of m.host.state n)) (unknown 0) (subst (λ (l : ℕ). n < l) (sym tied.peopled.facts.nodes.places) within)

        same_begun : begun_of (node_of (after m.host.state (Gives_segment n more payload)) n).book ≡ begun_of (node_of m.host.state n).book
        same_begun = ap (λ (x : NodeState). begun_of x.book) node

        begun : last_begun n (happens m (Host_does (Gives_segment n more payload))) ≡ last_begun n m
        begun = ap (λ (g : HostState). begun_of (node_of g n).book) (host_then m (Gives_segment n more payload)) ∙ same_begun

        some : 1 ≤ (node_of m.host.state n).segments
        some = let less : (node_of m.host.state n).next_segment < (node_of m.host.state n).segments = grind (arith, nat_tests, may.4) in omega (arith, less)

        taken : HasTaken n m
        taken = was some

        has : HasSegments m.host.state.commands (node_of m.host.state n)
        has = has_cut some

        last : (has.session ≡ begun_of (node_of m.host.state n).book) × (0 < begun_of (node_of m.host.state n).book)
        last = open_is (node_of m.host.state n).book has.session has.opened

        cut : IsCut n (last_begun n m) (message_for has.command (last_begun n m)) m.host.state
        cut = record {
          number = has.number;
          command = has.command;
          carried = subst (λ (s : ℕ). command_of_session (node_of m.host.state n).book.commands s ≡ Some has.number) last.0 has.carried;
          found = has.found;
          form = has.form;
          text = refl;
        }

        plainly : IsHeardPlainly n m payload
        plainly =
            let at = given_at n (last_begun n m) (message_for has.command (last_begun n m)) m.host.state cut (node_of m.host.state n).next_segment payload (has.opened ∙ ap (λ (s : ℕ). Some s) last.0) may.2 in
            subst (IsHeardPlainly n m) (sym at.1)
            (part_plainly laws these n alone.marked m tied.peopled.facts go (message_for has.command (last_begun n m)) (node_of m.host.state n).next_segment cut at.0 (let some_begun : 0 < last_begun n m = last.1 in omega (arith, some_begun)) taken)

    -- a session begins for it: none is open, and no attempt runs
    idle_none : open_session (node_of m.host.state n).book ≡ None → (node_of m.host.state n).segments ≡ 0
    idle_none closed = by (tied.peopled.facts.owns n).segments
      where
        by : ((node_of m.host.state n).segments ≡ 0) ⊎ HasSegments m.host.state.commands (node_of m.host.state n) → (node_of m.host.state n).segments ≡ 0
        by (inl none) = none
        by (inr has) = absurd (let wrong : None ≡ Some has.session = sym closed ∙ has.opened in cc)

    begins_none : (was : Was) (session command : ℕ) → MayHost m.host.state (Begins n session command) → Asks (Begins n session command)
    begins_none was session command may =
        nothing was (Begins n session command) refl may.0.free
        (λ some.
        let there : node_of (after m.host.state (Begins n session command)) n ≡ after_begin (node_of m.host.state n) =
        get_or-set_same m.host.state.nodes n (after_begin (node_of m.host.state n)) (unknown 0) (subst (λ (l : ℕ). n < l) (sym tied.peopled.facts.nodes.places) within) in
        let before : 1 ≤ (node_of m.host.state n).segments = subst (λ (x : NodeState). 1 ≤ x.segments) there some in
        let none = idle_none may.1.1 in
        absurd (omega (arith, before, none)))

    unkept_none : (was : Was) → MayHost m.host.state (Begin_unkept n) → Asks (Begin_unkept n)
    unkept_none was may =
        nothing was (Begin_unkept n) refl may.0.free
        (λ some.
        let there : node_of (after m.host.state (Begin_unkept n)) n ≡ after_block (node_of m.host.state n) =
        get_or-set_same m.host.state.nodes n (after_block (node_of m.host.state n)) (unknown 0) (subst (λ (l : ℕ). n < l) (sym tied.peopled.facts.nodes.places) within) in
        let before : 1 ≤ (node_of m.host.state n).segments = subst (λ (x : NodeState). 1 ≤ x.segments) there some in
        let none = idle_none may.1.1 in
        absurd (omega (arith, before, none)))

    each : Was → SubmittedAre Is
    each was = record {
      abort = λ may none. absurd (let wrong : false ≡ true = sym tied.tie.paid ∙ may.1 in cc);
      front = λ may none. absurd (may.2 empty);
      starts = λ k plan more payload may none. absurd (none plan more payload (ap (λ (j : ℕ). Host_does (Starts j plan more payload)) (own k may.0.next)));
      text = λ k payload may none. absurd (let wrong : None ≡ Some payload = sym unsealed ∙ subst (λ (j : ℕ). (node_of m.host.state j).text ≡ Some payload) (own k may.0.next) may.1 in cc);
      segment = λ k more payload may none.
          subst (λ (j : ℕ). Asks (Gives_segment j more payload)) (sym (own k may.0.next)) (gives_segment was more payload (subst (λ (j : ℕ). MayHost m.host.state (Gives_segment j more payload)) (own k may.0.next) may));
      begins = λ k session command may none.
          subst (λ (j : ℕ). Asks (Begins j session command)) (sym (own k may.0.next)) (begins_none was session command (subst (λ (j : ℕ). MayHost m.host.state (Begins j session command)) (own k may.0.next) may));
      unkept = λ k may none. subst (λ (j : ℕ). Asks (Begin_unkept j)) (sym (own k may.0.next)) (unkept_none was (subst (λ (j : ℕ). MayHost m.host.state (Begin_unkept j)) (own k may.0.next) may));
    }

    -- no frame of the host is on the air then
    pub submits_plainly : (event : HostEvent) → IsNext m.host.state event → May m (Host_does event) → StartsNone n (Host_does event) → Was → IsOutPlainly n (Submitting passes ticks) (happens m (Host_does event))
    unfolding May
    submits_plainly event next may none was =
        let asks = next_is Is (each was) m.host.state event next may.0 none in
        record {
          flying = subst (AllByRecursion (IsOut (λ (frame : Flown). IsHeardPlainly n (happens m (Host_does event)) frame.payload))) (sym (does_calm airs m event).on)
              (home_out (λ (frame : Flown). IsHeardPlainly n (happens m (Host_does event)) frame.payload) (on_air m.outside.outer.air.frames)
              (none_fly (Submitting passes ticks) m tied.line tied.awaits tied.tie next.0.none_under_way));
          given = λ asking. asks.given;
          taken = asks.taken;
        }

  -- ---- the chip takes what is on its way to it

  module _ (passes ticks : ℕ) (m : Machine) (rest : Rest) (ways : List (Item × Option Route)) (may : ChipMayTake m rest ways) (tied : TiedAt these (Moving passes ticks) m) (then_tied : TiedAt these (Moved true passes ticks) (chip_taken m rest ways))
      (sent : IsSentTo these m (Outside_does (Chip_takes (length m.outside.outer.to_chip.bytes) rest ways))) where
    -- the frames are as they were, where none of the host is on its way to it
    quiet_air : on_line m.host.state.side.turn ≡ [] → on_air (chip_taken m rest ways).outside.outer.air.frames ≡ on_air m.outside.outer.air.frames
    quiet_air none = by m.outside.outer.chip.state.sending refl
      where
        sends : one_if (is_some m.outside.outer.chip.state.sending) ≡ outward (on_air m.outside.outer.air.frames)
        sends = sends_as m tied.awaits tied.routed (none_aborted (Moving passes ticks) m tied.line)

        then_sends : one_if (is_some (chip_taken m rest ways).outside.outer.chip.state.sending) ≡ outward (on_air (chip_taken m rest ways).outside.outer.air.frames)
        then_sends = sends_as (chip_taken m rest ways) then_tied.awaits then_tied.routed (none_aborted (Moved true passes ticks) (chip_taken m rest ways) then_tied.line)

        by : (sending : Option Sending) → m.outside.outer.chip.state.sending ≡ sending → on_air (chip_taken m rest ways).outside.outer.air.frames ≡ on_air m.outside.outer.air.frames
        by None is =
            free_air airs these many n 0 alone.marked is_node within passes ticks m rest ways tied.awaits may tied.line tied.room tied.tie then_tied.line then_tied.tie sent tied.peopled sends then_sends (record { quiet = is; silent = none })
        by (Some sending) is =
            let one : one_if (is_some m.outside.outer.chip.state.sending) ≡ 1 = ap (λ (s : Option Sending). one_if (is_some s)) is in
            busy_air airs these many n 0 alone.marked is_node within passes ticks m rest ways tied.awaits may tied.line tied.room tied.tie then_tied.line then_tied.tie sent tied.peopled sends then_sends (sym sends ∙ one)

    -- the payload that is given goes on the air
    given_air : (g : GivesPlainly n m) → Departs n g.payload (on_air m.outside.outer.air.frames) (on_air (chip_taken m rest ways).outside.outer.air.frames)
    given_air g =
        let sends = carried_sends n g.payload g.request.purpose g.carries in
        frame_departs airs m tied.awaits n g.payload within these alone.marked (never_idle m n g.payload g.request g.under_way sends g.line)
        (λ t f turn takes_it. request_taken m n g.payload g.request g.under_way sends g.line t f turn tied.tie takes_it) passes rest ways may tied.line tied.room tied.tie tied.peopled

    same_begun : last_begun n (chip_taken m rest ways) ≡ last_begun n m
    same_begun = ap (λ (g : HostState). begun_of (node_of g n).book) (outside_host m (Chip_takes (length m.outside.outer.to_chip.bytes) rest ways))

    taken_there : HasTaken n m → HasTaken n (chip_taken m rest ways)
    taken_there taken =
        taken_so n m (chip_taken m rest ways) same_begun (same_first n m.outside.devices (chip_taken m rest ways).outside.devices (chip_devices m (length m.outside.outer.to_chip.bytes) rest ways)) taken

    -- so it is answered plainly
    pub takes_plainly : IsOutPlainly n (Moving passes ticks) m → IsOutPlainly n (Moved true passes ticks) (chip_taken m rest ways)
    takes_plainly out = record {
      flying = by (out.given tt);
      given = λ asking. absurd asking;
      taken = λ some. taken_there (out.taken (subst (λ (g : HostState). 1 ≤ (node_of g n).segments) (outside_host m (Chip_takes (length m.outside.outer.to_chip.bytes) rest ways)) some));
    }
      where
        as_was : AllByRecursion (IsOut (λ (frame : Flown). IsHeardPlainly n (chip_taken m rest ways) frame.payload)) (on_air m.outside.outer.air.frames)
        as_was =
            all-weaker (IsOut (λ (frame : Flown). IsHeardPlainly n m frame.payload)) (IsOut (λ (frame : Flown). IsHeardPlainly n (chip_taken m rest ways) frame.payload))
            (λ frame is going. heard_so n m (chip_taken m rest ways) frame.payload same_begun taken_there (is going)) (on_air m.outside.outer.air.frames) out.flying

        by : (on_line m.host.state.side.turn ≡ []) ⊎ GivesPlainly n m → AllByRecursion (IsOut (λ (frame : Flown). IsHeardPlainly n (chip_taken m rest ways) frame.payload)) (on_air (chip_taken m rest ways).outside.outer.air.frames)
        by (inl none) = subst (AllByRecursion (IsOut (λ (frame : Flown). IsHeardPlainly n (chip_taken m rest ways) frame.payload))) (sym (quiet_air none)) as_was
        by (inr g) =
            let d = given_air g in
            let plainly : IsHeardPlainly n (chip_taken m rest ways) d.frame.payload = subst (IsHeardPlainly n (chip_taken m rest ways)) (sym d.is.is) (heard_so n m (chip_taken m rest ways) g.payload same_begun taken_there g.plainly) in
            subst (AllByRecursion (IsOut (λ (frame : Flown). IsHeardPlainly n (chip_taken m rest ways) frame.payload))) (sym d.are)
            (all-append (IsOut (λ (frame : Flown). IsHeardPlainly n (chip_taken m rest ways) frame.payload)) (on_air m.outside.outer.air.frames) (d.frame ∷ []) as_was ((λ going. plainly), tt))

  -- ---- at each other event

  module _ (here next : Phase) (m : Machine) (event : Event) (goes : Goes here m event next) (may : May m event) (tied : TiedAt these here m) (then_tied : TiedAt these next (happens m event)) (speak : OnlySpeak these m) (listen : AllListen these m) (step : HasInStep n m)
      (cut : lists step.device.kind 0x55 ≡ true) (flying : AllByRecursion (IsOut (λ (frame : Flown). IsHeardPlainly n m frame.payload)) (on_air m.outside.outer.air.frames)) where
    -- the session that was taken stays so, where the host begins none
    keeps_taken : last_begun n (happens m event) ≡ last_begun n m → HasTaken n m → HasTaken n (happens m event)
    keeps_taken begun taken = by (first_on airs n here next m event goes tied.line tied.awaits tied.routed)
      where
        arrives : (drawn : List ℕ) (route : Option Route) → event ≡ Outside_does (Arrives drawn route) → HasTaken n (happens m event)
        arrives drawn route is = subst (λ (e : Event). HasTaken n (happens m e)) (sym is) (of at.frame.heading refl)
          where
            at : Arrived airs m (awaits_of here m tied.awaits) drawn route
            at = arrives_there airs m (awaits_of here m tied.awaits) drawn route (subst (May m) is may)

            same : last_begun n (happens m (Outside_does (Arrives drawn route))) ≡ last_begun n m
            same = subst (λ (e : Event). last_begun n (happens m e) ≡ last_begun n m) is begun

            of : (heading : Heading) → at.frame.heading ≡ heading → HasTaken n (happens m (Outside_does (Arrives drawn route)))
            of Homeward home =
                taken_so n m (happens m (Outside_does (Arrives drawn route))) same
                (home_first airs devices again these n alone m (awaits_of here m tied.awaits) listen step cut speak tied.peopled.live drawn route at.frame at.next home) taken
            of Outward out =
                out_taken airs devices again these n alone m (awaits_of here m tied.awaits) listen step cut speak tied.peopled.live drawn route at.frame at.next out
                ((subst (AllByRecursion (IsOut (λ (frame : Flown). IsHeardPlainly n m frame.payload))) at.were flying).0 out) same

        by : FirstStays n m.outside.devices (happens m event).outside.devices ⊎ LandsAt here next event → HasTaken n (happens m event)
        by (inl stays) = taken_so n m (happens m event) begun stays taken
        by (inr lands) = arrives lands.drawn lands.route lands.is

    pub steady_plainly : GoesSteady m.host.state (happens m event).host.state → ((count : ℕ) (rest : Rest) (ways : List (Item × Option Route)) → event ≡ Outside_does (Chip_takes count rest ways) → ⊥) → (IsAsking next → ⊥)
        → (1 ≤ (node_of m.host.state n).segments → HasTaken n m) → IsOutPlainly n next (happens m event)
    steady_plainly steady none calm was = record {
      flying = all-weaker (IsOut (λ (frame : Flown). IsHeardPlainly n m frame.payload)) (IsOut (λ (frame : Flown). IsHeardPlainly n (happens m event) frame.payload))
          (λ frame is going. heard_so n m (happens m event) frame.payload begun (keeps_taken begun) (is going)) (on_air (happens m event).outside.outer.air.frames)
          (outs_still airs these many (λ (frame : Flown). IsHeardPlainly n m frame.payload) here next m event goes may tied.line tied.awaits none flying);
      given = λ asking. absurd (calm asking);
      taken = λ some. keeps_taken begun (was (before some (steady.segments n within)));
    }
      where
        begun : last_begun n (happens m event) ≡ last_begun n m
        begun = ap (λ (l : List ℕ). length l) (steady.sessions n within)

        before : 1 ≤ (node_of (happens m event).host.state n).segments → ((node_of (happens m event).host.state n).segments ≡ 0) ⊎ ((node_of (happens m event).host.state n).segments ≡ (node_of m.host.state n).segments) → 1 ≤ (node_of m.host.state n).segments
        before some (inl none_are) = absurd (omega (arith, some, none_are))
        before some (inr same) = omega (arith, some, same)
