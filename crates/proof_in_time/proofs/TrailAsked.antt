-- The rest of the tick in which a device takes its session while what it asked for before is with the host: the host judges that and gives the segment, which the device has.
use Rattle.std.proofs.Common.{◌≡◌, ◌≢◌, ◌≤◌, ◌<◌, ℕ, zero, suc, ◌+◌, ◌*◌, ◌%◌, inl, inr, Bool, true, Option, Some, None, List, [], ◌∷◌, ◌++◌, length, refl, sym, ap, ◌∙◌, subst, arith}
use Rattle.std.specs.Prelude.{◌⊎◌, drop, slice_index}
use Rattle.std.specs.List.{AllByRecursion}
use Rattle.zw_base.proofs.Each.{all-append, all-right, all-weaker}
use Rattle.serial_frame.specs.Frame.{FrameParts}
use Rattle.serial_frame.specs.Stream.{Rest}
use Rattle.serial_frame.specs.declared.item.Item.{Item}
use Rattle.route_table.specs.declared.route.Route.{Route}
use Rattle.transport_segments.specs.Runs.{IsPart}
use Rattle.supervision.specs.Host.{begun_of, open_session}
use Rattle.chip_functions.specs.Field.{IsNode}
use Rattle.chip_functions.specs.declared.notice.Notice.TheVariants.{ApplicationUpdate}
use Rattle.chip_functions.specs.declared.notice.TransmitStatus.{TransmitStatus}
use Rattle.chip_functions.specs.declared.notice.Update.{Update}
use Rattle.chip_sim.specs.Answers.{notice_frame}
use Rattle.chip_sim.specs.Nodes.{is_marked}
use Rattle.chip_sim.specs.Requests.{callback_frame}
use Rattle.chip_sim.specs.declared.out.Sending.{Sending}
use Rattle.air_frames.specs.Flown.{Flown}
use Rattle.air_frames.specs.declared.frame.Heading.TheVariants.{Homeward, Outward}
use Rattle.mesh_sim.specs.Air.{AirState}
use Rattle.host_heard.specs.declared.payload.Heard.TheVariants.{Messages}
use Rattle.host_heard.specs.declared.told.Told.TheVariants.{SegmentRequest}
use Rattle.host_requests.specs.declared.task.Task.TheVariants.{Segment}
use Rattle.host_node.specs.Search.{next_of}
use Rattle.host_node.specs.declared.series.Series.TheVariants as series
use Rattle.host_model.specs.After.{after}
use Rattle.host_model.specs.Events.{HostEvent, Submits_front}
use Rattle.host_model.specs.Pumping.{IsNext}
use Rattle.host_model.specs.Sessions.{segment_at, segment_count}
use Rattle.host_model.specs.State.{HostState, node_of}
use Rattle.host_model.specs.Ticking.{tick_events}
use Rattle.outside_model.specs.Events.{Arrives, Chip_takes, Chip_ticks, Device_ticks}
use Rattle.world_model.specs.Events.{Decoder_ticks, Event, Host_does, Host_takes, Outside_does, happens}
use Rattle.world_model.specs.State.{Machine}
use Rattle.world_model.proofs.Hosting.{devices_host-all}
use Rattle.proof_messages.specs.Reporting.{IsPlainTold, TellsOpenly, TellsPlainly}
use Rattle.proof_answered.specs.proof_calm.proof_traffic.OnAir.{on_air}
use Rattle.proof_answered.specs.proof_calm.proof_work.proof_walk.Phases.{Phase, Arriving, Begun, Between, Doing, Giving, Goes, Moved, Moving, Said_line, Sleeping, Submitting, Ticked, Ticking_chip, Ticking_decoder, Ticking_devices, Ticking_host, To_tick, Turns, after_pump}
use Rattle.proof_answered.specs.proof_calm.Awaited.{AwaitsAt}
use Rattle.proof_answered.specs.proof_calm.Calls.{answer_taken}
use Rattle.proof_answered.specs.proof_calm.Live.{IsLive}
use Rattle.proof_answered.specs.proof_calm.Passes.{chip_taken}
use Rattle.proof_answered.specs.proof_calm.Resting.{LineAt}
use Rattle.proof_answered.specs.proof_calm.Tied.{on_line, unheard}
use Rattle.proof_answered.specs.Outward.{IsOfSaying}
use Rattle.proof_answered.specs.Sleepers.{IsAlone}
use Rattle.proof_answered.specs.Workers.{IsFromSaying}
use Rattle.proof_answered.proofs.Awaiting.{sends_nothing}
use Rattle.proof_answered.proofs.Calm.{does_calm, takes_calm}
use Rattle.proof_answered.proofs.Outwards.{next_is_live}
use Rattle.proof_answered.proofs.Unheard.{all_behind, all_piled, chip_part_says, counts_says, decoder_says, device_says, does_says, event_says}
use Rattle.proof_answered.proofs.Walking.{none_given, takes_still}
use Rattle.proof_answered.proofs.proof_traffic_Parts.{Airs}
use Rattle.proof_in_time.specs.Coming.{IsAsking, IsOnAir, brings}
use Rattle.proof_in_time.specs.Owed.{IsFreeIn, IsFreeNow, IsOwed}
use Rattle.proof_in_time.specs.Parts.{Aired, Aired_told, Aired_two, AllPlain, AllTold, Amid, AreInside, Asked, Asks, Asks_one, Asks_told, Asks_told_two, Asks_two, AsksForPart, ComesPlainly, Given, HasFirst, Hears_one, Hears_two, IsAsk, IsCut, IsToGive, OnWay, Owed, To_give, To_give_two, ToHear, Waits}
use Rattle.proof_in_time.specs.Trail.{ArriveUnended, FirstUnended, GivesPlainly, HasTaken, IsHeardPlainly, IsQuiet, IsToAnswer, Is_again, Is_asked, Is_waiting, Trail, last_begun}
use Rattle.proof_in_time.specs.Untold.{EndsNone, NoneFliesEnds, NoneToldEnds}
use Rattle.proof_in_time.proofs.Bounded.{begun_where, counted_air, counted_devices, decoder_devices, open_where}
use Rattle.proof_in_time.proofs.Grown.{Arrived, arrives_there}
use Rattle.proof_in_time.proofs.InTurn.{no_sending, takes_free}
use Rattle.proof_in_time.proofs.PartsArrived.{call_told, outside_host, update_told}
use Rattle.proof_in_time.proofs.PartsArriving.{SegmentLaws, home_devices}
use Rattle.proof_in_time.proofs.PartsCarried.{HasDue, Is_told, SameFor, Task_waits, Wraps, all_wrapped, asked_on, itself_wraps, more_wraps, same_for, some_there, wraps_pile}
use Rattle.proof_in_time.proofs.PartsFlying.{amid_out, plain_out, sends_as}
use Rattle.proof_in_time.proofs.PartsGiven.{few_bytes, some_bytes}
use Rattle.proof_in_time.proofs.PartsGoing.{Around, IsOver, TiedThen}
use Rattle.proof_in_time.proofs.PartsHosted.{cut_stays, gives, host_then, same, tick_asks}
use Rattle.proof_in_time.proofs.PartsJudged.{As_was, Gives_one, Gives_two, JudgedSo, JudgedTo, way_judged}
use Rattle.proof_in_time.proofs.PartsKept.{GivesAs, LeavesAsked, LeavesParts}
use Rattle.proof_in_time.proofs.PartsLanded.{home_leaves, homeward_unheard}
use Rattle.proof_in_time.proofs.PartsMoved.{answer_told, free_air}
use Rattle.proof_in_time.proofs.PartsPhases.{FirstStays, GrowsPlain, StaysSo, cut_so, none_due, same_first, ticks_first, ticks_plain}
use Rattle.proof_in_time.proofs.PartsRuns.{RunsAt}
use Rattle.proof_in_time.proofs.PartsSubmitted.{IsPartEvent, asked_none, front_given, front_next, given_on}
use Rattle.proof_in_time.proofs.PartsTaken.{AsksStill, IsTakenNow}
use Rattle.proof_in_time.proofs.RunsStill.{IsStill, judges_runs, part_runs, still_runs, way_opens}
use Rattle.proof_in_time.proofs.Settled.{chip_devices}

-- ---- what is owed

free_of : (q : Phase) (m : Machine) → IsOwed q m → IsFreeIn q m
free_of (Sleeping passes ticks) m owed = owed
free_of (Submitting passes ticks) m owed = owed
free_of (Moving passes ticks) m owed = owed
free_of (Moved b passes ticks) m owed = owed
free_of q m owed = tt

silent_of : (q : Phase) (m : Machine) → IsOwed q m → IsAsking q → on_line m.host.state.side.turn ≡ []
silent_of (Submitting passes ticks) m owed asking = owed.silent
silent_of (Moving passes ticks) m owed asking = owed.silent
silent_of q m owed asking = absurd asking

-- ---- what is on the air asks for nothing

all_says : (these : List Bool) (flights : List Flown) → AllPlain these flights → AllByRecursion (IsOfSaying these TellsPlainly) flights
all_says these flights all = all-weaker (ComesPlainly these) (IsOfSaying these TellsPlainly) (λ frame plain. (plain.of, λ home. plain.plain)) flights all

abbrev AllHeard : ℕ → Machine → List Flown → Type 0
AllHeard n m flights = AllByRecursion (λ (frame : Flown). frame.heading ≡ Outward → IsHeardPlainly n m frame.payload) flights

none_outward : (these : List Bool) (n : ℕ) (m : Machine) (flights : List Flown) → AllPlain these flights → AllHeard n m flights
none_outward these n m flights all =
    all-weaker (ComesPlainly these) (λ (frame : Flown). frame.heading ≡ Outward → IsHeardPlainly n m frame.payload) (λ frame plain out. absurd (let wrong : Homeward ≡ Outward = sym plain.home ∙ out in cc)) flights all

asks_plainly_not : (session place : ℕ) (payload : List ℕ) → TellsPlainly payload → AsksForPart session place payload → ⊥
asks_plainly_not session place payload plain asks =
    let same : plain.told ≡ SegmentRequest (session % 16) (39 * place) = (let both : Messages (plain.told ∷ []) ≡ Messages (SegmentRequest (session % 16) (39 * place) ∷ []) = sym plain.heard ∙ asks.heard in cc) in
    subst IsPlainTold same plain.plain

none_asks : (these : List Bool) (n session place : ℕ) (flights : List Flown) → AllPlain these flights → Amid (ComesPlainly these) (IsAsk n session place) flights → ⊥
none_asks these n session place flights all at =
    let parts = all-right (ComesPlainly these) at.before (at.one ∷ at.behind) (subst (AllPlain these) at.are all) in
    asks_plainly_not session place at.one.payload parts.0.plain at.is.asks

none_flies : (these : List Bool) (n : ℕ) (payload : List ℕ) (flights : List Flown) → AllPlain these flights → Amid (ComesPlainly these) (IsOnAir n payload) flights → ⊥
none_flies these n payload flights all at =
    let none = plain_out these flights all in
    let one = amid_out these (IsOnAir n payload) flights (λ frame f. f.out) at in
    omega (arith, none, one)

-- ---- what is known, of a session

record Trailing (these : List Bool) (n session : ℕ) (here : Phase) (m : Machine) : Type 0 where
  pub begun : last_begun n m ≡ session
  pub running : (node_of m.host.state n).series ≡ series.Running
  pub message : List ℕ
  pub place : ℕ
  pub cut : IsCut n session message m.host.state
  pub inside : place < segment_count message
  pub count : (node_of m.host.state n).segments ≡ segment_count message
  pub no_text : (node_of m.host.state n).text ≡ None
  pub no_pending : (node_of m.host.state n).pending ≡ None
  pub first : HasFirst n m.outside.devices
  pub taken : session ≡ first.device.sessions.taken
  pub owed : IsOwed here m
  pub flying : AllPlain these (on_air m.outside.outer.air.frames)
  pub soon : ArriveUnended n session here m
  pub untold : NoneToldEnds n session (unheard m.outside.outer)
  pub answer : IsToAnswer these n session message place here m

trailing_of : (these : List Bool) (n : ℕ) (here : Phase) (m : Machine) → Trail these n here m → Trailing these n (last_begun n m) here m
trailing_of these n here m t = record {
  begun = refl;
  running = t.running;
  message = t.message;
  place = t.place;
  cut = t.cut;
  inside = t.inside;
  count = t.count;
  no_text = t.no_text;
  no_pending = t.no_pending;
  first = t.taken.first;
  taken = t.taken.taken;
  owed = t.owed;
  flying = t.flying;
  soon = t.soon;
  untold = t.untold;
  answer = t.answer;
}

trail_of : (these : List Bool) (n session : ℕ) (here : Phase) (m : Machine) → Trailing these n session here m → Trail these n here m
trail_of these n session here m t = record {
  running = t.running;
  message = t.message;
  place = t.place;
  cut = subst (λ (s : ℕ). IsCut n s t.message m.host.state) (sym t.begun) t.cut;
  inside = t.inside;
  count = t.count;
  no_text = t.no_text;
  no_pending = t.no_pending;
  taken = record { first = t.first; taken = t.begun ∙ t.taken };
  owed = t.owed;
  flying = t.flying;
  soon = subst (λ (s : ℕ). ArriveUnended n s here m) (sym t.begun) t.soon;
  untold = subst (λ (s : ℕ). NoneToldEnds n s (unheard m.outside.outer)) (sym t.begun) t.untold;
  answer = subst (λ (s : ℕ). IsToAnswer these n s t.message t.place here m) (sym t.begun) t.answer;
}

-- ---- what the chip is given

module _ (these : List Bool) (n session : ℕ) where
  abbrev Comes : FrameParts → Type 0
  Comes frame = IsFromSaying these TellsPlainly frame

  abbrev Unends : FrameParts → Type 0
  Unends frame = (payload : List ℕ) → frame ≡ brings n payload → EndsNone session payload

  -- it asks for nothing, and tells no end
  abbrev Tells : FrameParts → Type 0
  Tells frame = Comes frame × Unends frame

  update_tells : (update : Update) → Tells (notice_frame (ApplicationUpdate update))
  update_tells update = (update_told these update, λ payload e. let no = ap (λ (f : FrameParts). f.func) e in absurd cc)

  call_tells : (sent : Sending) (status : TransmitStatus) → Tells (callback_frame sent status)
  call_tells sent status = (call_told these sent status, λ payload e. let no = ap (λ (f : FrameParts). f.func) e in absurd cc)

  answer_unends : Unends answer_taken
  answer_unends payload e = let no = ap (λ (f : FrameParts). f.kind) e in absurd cc

  -- one of a device
  frame_tells : (frame : Flown) → ComesPlainly these frame → (frame.node ≡ n → frame.heading ≡ Homeward → EndsNone session frame.payload) → Tells (brings frame.node frame.payload)
  frame_tells frame plain unended = (told, untold)
    where
      told : Comes (brings frame.node frame.payload)
      told k payload e =
          let from : frame.node ≡ k = ap (λ (f : FrameParts). slice_index f.body 1) e in
          let text : frame.payload ≡ payload = ap (λ (f : FrameParts). drop 3 f.body) e in
          (subst (λ (j : ℕ). is_marked these j ≡ true) from plain.of, subst TellsPlainly text plain.plain)

      untold : Unends (brings frame.node frame.payload)
      untold payload e =
          let from : frame.node ≡ n = ap (λ (f : FrameParts). slice_index f.body 1) e in
          let text : frame.payload ≡ payload = ap (λ (f : FrameParts). drop 3 f.body) e in
          subst (EndsNone session) text (unended from plain.home)

  weaker_wraps : (Is : FrameParts → Type 0) → ((frame : FrameParts) → Tells frame → Is frame) → (old new : List FrameParts) → Wraps Tells old new → Wraps Is old new
  weaker_wraps Is each old new w = record { front = w.front; more = w.more; are = w.are; before = all-weaker Tells Is each w.front w.before; behind = all-weaker Tells Is each w.more w.behind }

  itself : (m : Machine) → Wraps Tells (unheard m.outside.outer) (unheard m.outside.outer)
  itself m = itself_wraps Tells (unheard m.outside.outer)

  -- ---- where what the host has of it is as it was

  module _ (here to : Phase) (m then_m : Machine) (same_so : SameFor n here m.host.state then_m.host.state) (books : (node_of then_m.host.state n).book.commands ≡ (node_of m.host.state n).book.commands)
      (cuts : (message : List ℕ) → IsCut n session message m.host.state → IsCut n session message then_m.host.state) (runs : (node_of then_m.host.state n).series ≡ series.Running) (stays : FirstStays n m.outside.devices then_m.outside.devices)
      (plain : AllPlain these (on_air m.outside.outer.air.frames) → AllPlain these (on_air then_m.outside.outer.air.frames)) (told : Wraps Tells (unheard m.outside.outer) (unheard then_m.outside.outer)) (soon : ArriveUnended n session to then_m)
      (owed : IsOwed to then_m) where
    comes : Wraps Comes (unheard m.outside.outer) (unheard then_m.outside.outer)
    comes = weaker_wraps Comes (λ frame tells. tells.0) (unheard m.outside.outer) (unheard then_m.outside.outer) told

    trailing_on : Trailing these n session here m → Trailing these n session to then_m
    trailing_on t =
        let first_then = stays t.first in
        record {
          begun = ap (λ (cs : List ℕ). length cs) books ∙ t.begun;
          running = runs;
          message = t.message;
          place = t.place;
          cut = cuts t.message t.cut;
          inside = t.inside;
          count = same_so.count ∙ t.count;
          no_text = same_so.text_is ∙ t.no_text;
          no_pending = same_so.pending_is ∙ t.no_pending;
          first = first_then.0;
          taken = t.taken ∙ sym first_then.1.0;
          owed = owed;
          flying = plain t.flying;
          soon = soon;
          untold = all_wrapped Unends (unheard m.outside.outer) (unheard then_m.outside.outer) (weaker_wraps Unends (λ frame tells. tells.1) (unheard m.outside.outer) (unheard then_m.outside.outer) told) t.untold;
          answer = by t.answer;
        }
      where
        by : IsToAnswer these n session t.message t.place here m → IsToAnswer these n session t.message t.place to then_m
        by (Is_asked none asked) =
            Is_asked (same_so.queue ∙ none)
            (asked_on these n session t.message here to m then_m same_so (λ is due. owed) (λ is home. free_of to then_m owed)
            (λ asking frame on. absurd (let wrong : [] ≡ frame ∷ [] = sym (silent_of here m t.owed asking) ∙ on in cc)) comes t.place asked)
        by (Is_waiting waits all) = Is_waiting (same_so.queue ∙ waits) (all_wrapped Comes (unheard m.outside.outer) (unheard then_m.outside.outer) comes all)

  -- at an event outside the host
  outside_on : (here to : Phase) (m then_m : Machine) → then_m.host.state ≡ m.host.state → FirstStays n m.outside.devices then_m.outside.devices
      → (AllPlain these (on_air m.outside.outer.air.frames) → AllPlain these (on_air then_m.outside.outer.air.frames)) → Wraps Tells (unheard m.outside.outer) (unheard then_m.outside.outer) → ArriveUnended n session to then_m → IsOwed to then_m
      → Trailing these n session here m → Trailing these n session to then_m
  outside_on here to m then_m host stays plain told soon owed t =
      trailing_on here to m then_m (same_for n here m.host.state then_m.host.state host) (ap (λ (h : HostState). (node_of h n).book.commands) host) (λ message cut. cut_so n session message m.host.state then_m.host.state host cut)
      (ap (λ (h : HostState). (node_of h n).series) host ∙ t.running) stays plain told soon owed t

  -- another phase
  turn_on : (here to : Phase) (m : Machine) → ArriveUnended n session to m → IsOwed to m → Trailing these n session here m → Trailing these n session to m
  turn_on here to m soon owed t = outside_on here to m m refl (same_first n m.outside.devices m.outside.devices refl) (λ all. all) (itself m) soon owed t

-- ---- with no event

trail_turned : (these : List Bool) (n : ℕ) (here to : Phase) (m : Machine) → ArriveUnended n (last_begun n m) to m → IsOwed to m → Trail these n here m → Trail these n to m
trail_turned these n here to m soon owed t = trail_of these n (last_begun n m) to m (turn_on these n (last_begun n m) here to m soon owed (trailing_of these n here m t))

due_of : (these : List Bool) (n : ℕ) (here : Phase) (m : Machine) → Trail these n here m → HasDue n m
due_of these n here m t = by t.answer
  where
    by : IsToAnswer these n (last_begun n m) t.message t.place here m → HasDue n m
    by (Is_asked none asked) = Is_told (λ empty. some_there asked.at.before asked.at.one asked.at.behind (sym asked.at.are ∙ empty))
    by (Is_waiting waits all) = Task_waits (Segment n (segment_at (last_begun n m) t.message t.place)) waits

pub trail_turn : (these : List Bool) (n : ℕ) (is_node : IsNode n) (here next : Phase) (m : Machine) → Turns here m next → AwaitsAt here m → LineAt here m → TiedThen these next m → Trail these n here m → Trail these n next m
trail_turn these n is_node (Begun line) next m turns awaits at tied t = absurd t.owed
trail_turn these n is_node (Doing line []) next m turns awaits at tied t = absurd t.owed
trail_turn these n is_node (To_tick zero) next m turns awaits at tied t = absurd t.owed
trail_turn these n is_node (Ticked ticks) next m turns awaits at tied t = absurd t.soon
trail_turn these n is_node (Arriving zero ticks) next m same_is awaits at tied t = subst (λ (q : Phase). Trail these n q m) (sym same_is) (trail_turned these n (Arriving zero ticks) (Giving _ ticks) m tt tt t)
trail_turn these n is_node (Giving zero ticks) next m same_is awaits at tied t =
    subst (λ (q : Phase). Trail these n q m) (sym same_is) (trail_turned these n (Giving zero ticks) (Ticking_devices 0 (length m.outside.devices) ticks) m tt tt t)
trail_turn these n is_node (Ticking_devices place zero ticks) next m same_is awaits at tied t = subst (λ (q : Phase). Trail these n q m) (sym same_is) (trail_turned these n (Ticking_devices place zero ticks) (Ticking_chip ticks) m tt tt t)
trail_turn these n is_node (Ticking_host [] ticks) next m same_is awaits at tied t =
    subst (λ (q : Phase). Trail these n q m) (sym same_is)
    (trail_turned these n (Ticking_host [] ticks) (Sleeping 64 ticks) m tt (record { quiet = no_sending m.outside.outer.chip.state.sending (sends_nothing m awaits); silent = ap on_line at.1.at_host.turn_is }) t)
trail_turn these n is_node (Sleeping passes ticks) next m (none_wants, same_is) awaits at tied t = subst (λ (q : Phase). Trail these n q m) (sym same_is) (trail_turned these n (Sleeping passes ticks) (Submitting passes ticks) m tt t.owed t)
trail_turn these n is_node (Submitting passes ticks) next m (pumped, same_is) awaits at tied t =
    subst (λ (q : Phase). Trail these n q m) (sym same_is) (pump passes t (subst (λ (q : Phase). TiedThen these q m) same_is tied))
  where
    pump : (left : ℕ) → Trail these n (Submitting left ticks) m → TiedThen these (after_pump left ticks) m → Trail these n (after_pump left ticks) m
    pump zero there tied_then = absurd (none_due these n m tied_then is_node there.running (due_of these n (Submitting zero ticks) m there) there.owed)
    pump (suc left) there tied_then = trail_turned these n (Submitting (suc left) ticks) (Moving left ticks) m tt there.owed there
trail_turn these n is_node (Moving passes ticks) next m (still, same_is) awaits at tied t = subst (λ (q : Phase). Trail these n q m) (sym same_is) (trail_turned these n (Moving passes ticks) (Moved _ passes ticks) m tt t.owed t)
trail_turn these n is_node (Moved b passes ticks) next m (still, same_is) awaits at tied t = subst (λ (q : Phase). Trail these n q m) (sym same_is) (trail_turned these n (Moved b passes ticks) (Sleeping _ ticks) m tt t.owed t)
trail_turn these n is_node here next m turns awaits at tied t = absurd turns

-- ---- the frames that arrive in this tick

next_unended : (n session frames : ℕ) (flights : List Flown) (first : Flown) (rest later : List Flown) → flights ≡ first ∷ rest → later ≡ rest → FirstUnended n session (suc frames) flights
    → (first.node ≡ n → first.heading ≡ Homeward → EndsNone session first.payload) × FirstUnended n session frames later
next_unended n session frames flights first rest later were later_is s = by s.before s.are s.fewer s.flying
  where
    by : (before : List Flown) → flights ≡ before ++ s.behind → suc frames ≤ length before → NoneFliesEnds n session before
        → (first.node ≡ n → first.heading ≡ Homeward → EndsNone session first.payload) × FirstUnended n session frames later
    by [] are fewer flying = absurd (omega (arith, fewer))
    by (x ∷ before) are fewer flying =
        let same_is : first ∷ rest ≡ x ∷ (before ++ s.behind) = sym were ∙ are in
        let one : x ≡ first = cc in
        let all : rest ≡ before ++ s.behind = cc in (
          subst (λ (f : Flown). f.node ≡ n → f.heading ≡ Homeward → EndsNone session f.payload) one flying.0,
          record { before = before; behind = s.behind; are = later_is ∙ all; fewer = omega (arith, fewer); flying = flying.1 },
        )

-- ---- at an event

module _ (airs : Airs) (laws : SegmentLaws) (these : List Bool) (many : length these ≡ 233) (n : ℕ) (alone : IsAlone these n) (is_node : IsNode n) where
  below : n < 233
  below = let few = is_node.1 in omega (arith, few)

  abbrev Beside : Phase → Phase → Machine → Event → Type 0
  Beside here next m event = Around airs laws these many n (last_begun n m) alone is_node here next m event

  abbrev Runs_then : Machine → Event → Type 0
  Runs_then m event = (node_of (happens m event).host.state n).series ≡ series.Running

  abbrev Comes_home : FrameParts → Type 0
  Comes_home frame = IsFromSaying these TellsPlainly frame

  abbrev Then : Phase → Machine → Type 0
  Then next m = Trail these n next m ⊎ IsQuiet these n next m

  as_is : (here next to : Phase) (m : Machine) (event is : Event) → event ≡ is → next ≡ to → (Beside here to m is → Runs_then m is → Then to (happens m is)) → Beside here next m event → Runs_then m event → Then next (happens m event)
  as_is here next to m event is event_is next_is leads a runs =
      subst (λ (e : Event). Then next (happens m e)) (sym event_is)
      (subst (λ (q : Phase). Then q (happens m is)) (sym next_is)
      (leads (subst (λ (q : Phase). Beside here q m is) next_is (subst (λ (e : Event). Beside here next m e) event_is a)) (subst (Runs_then m) event_is runs)))

  -- nothing waits then
  quiet_of : (here : Phase) (m : Machine) → HasTaken n m → m.host.state.requests.queue ≡ [] → AllPlain these (on_air m.outside.outer.air.frames) → AllTold these (unheard m.outside.outer)
      → (IsAsking here → (on_line m.host.state.side.turn ≡ []) ⊎ GivesPlainly n m) → IsQuiet these n here m
  quiet_of here m taken none plain told given = record {
    no_task = none;
    speak = record { frames = all_says these (on_air m.outside.outer.air.frames) plain; pending = told };
    flying = none_outward these n m (on_air m.outside.outer.air.frames) plain;
    given = given;
    taken = λ some. taken;
  }

  -- what is to be given is one that the device has
  module _ (session : ℕ) (message : List ℕ) (place : ℕ) (some : 1 ≤ session) (part : IsPart message (session % 16) (segment_at session message place)) where
    given_or : (here : Phase) (m : Machine) → last_begun n m ≡ session → HasTaken n m → AllPlain these (on_air m.outside.outer.air.frames) → AllTold these (unheard m.outside.outer) → (next : ℕ) → IsToGive n session message place next here m
        → (m.host.state.requests.queue ≡ Segment n (segment_at session message place) ∷ [] → IsOwed here m → Trail these n here m) → Then here m
    given_or here m begun taken plain told next (Owed owed none next_is less follows) waits_then = inr (quiet_of here m taken none plain told (λ asking. inl (silent_of here m owed asking)))
    given_or here m begun taken plain told next (Waits owed waits next_is) waits_then = inl (waits_then waits owed)
    given_or here m begun taken plain told next (Given request asking none under_way carries line next_is) waits_then =
        inr
        (quiet_of here m taken none plain told
        (λ asks.
        inr (record {
          request = request;
          payload = segment_at session message place;
          under_way = under_way;
          carries = carries;
          line = line;
          plainly = Is_again (subst (λ (s : ℕ). 1 ≤ s) (sym begun) some) taken message (subst (λ (s : ℕ). IsPart message (s % 16) (segment_at session message place)) (sym begun) part);
        })))

  -- the segment that is asked for
  module _ (here next : Phase) (m : Machine) (event : Event) (a : Beside here next m event) (t : Trail these n here m) where
    abbrev now : ℕ
    now = last_begun n m

    places : length m.host.state.nodes ≡ 233
    places = a.peopled.facts.nodes.places

    opened : open_session (node_of m.host.state n).book ≡ Some now
    opened = open_where (node_of m.host.state n) (a.peopled.facts.nodes.facts n) t.running

    some : 1 ≤ now
    some = begun_where (node_of m.host.state n) (a.peopled.facts.nodes.facts n) t.running

    part : IsPart t.message (now % 16) (segment_at now t.message t.place)
    part =
        let inside = t.inside in
        let few = few_bytes these m.host.state n a.peopled.facts a.go alone.marked now t.message t.cut in
        laws.part t.message now t.place (some_bytes these m.host.state n a.peopled.facts a.go alone.marked now t.message t.cut) (omega (arith, few)) (omega (arith, inside))

    only : (k : ℕ) → next_of m.host.state.nodes m.host.state.served ≡ Some k → k ≡ n
    only k found = alone.only k (a.workers k found)

  -- ---- a frame arrives

  module _ (frames ticks : ℕ) (m : Machine) (drawn : List ℕ) (route : Option Route) (a : Beside (Arriving (suc frames) ticks) (Arriving frames ticks) m (Outside_does (Arrives drawn route))) (at : Arrived airs m a.awaits.awaits drawn route)
      (live : IsLive m.outside.outer.air.network at.frame) (t : Trail these n (Arriving (suc frames) ticks) m) where
    abbrev then_there : Machine
    then_there = happens m (Outside_does (Arrives drawn route))

    plain : ComesPlainly these at.frame × AllPlain these at.rest
    plain = subst (AllPlain these) at.were t.flying

    air : on_air then_there.outside.outer.air.frames ≡ at.rest
    air = home_leaves airs m a.awaits.awaits drawn route at plain.0.home live

    soon_then : (at.frame.node ≡ n → at.frame.heading ≡ Homeward → EndsNone (last_begun n m) at.frame.payload) × FirstUnended n (last_begun n m) frames (on_air then_there.outside.outer.air.frames)
    soon_then = next_unended n (last_begun n m) frames (on_air m.outside.outer.air.frames) at.frame at.rest (on_air then_there.outside.outer.air.frames) at.were air t.soon

    arrives_with : Trail these n (Arriving frames ticks) then_there
    arrives_with =
        trail_of these n (last_begun n m) (Arriving frames ticks) then_there
        (outside_on these n (last_begun n m) (Arriving (suc frames) ticks) (Arriving frames ticks) m then_there (outside_host m (Arrives drawn route))
        (same_first n m.outside.devices then_there.outside.devices (home_devices m drawn route at.frame at.next plain.0.home live)) (λ all. subst (AllPlain these) (sym air) plain.1)
        (more_wraps (Tells these n (last_begun n m)) (unheard m.outside.outer) (unheard then_there.outside.outer)
        (homeward_unheard (Tells these n (last_begun n m)) (update_tells these n (last_begun n m)) (call_tells these n (last_begun n m)) m drawn route a.line a.then_line at.frame at.next plain.0.home live
        (frame_tells these n (last_begun n m) at.frame plain.0 soon_then.0))) soon_then.1 tt (trailing_of these n (Arriving (suc frames) ticks) m t))

  arrives_on : (frames ticks : ℕ) (m : Machine) (drawn : List ℕ) (route : Option Route) → Beside (Arriving (suc frames) ticks) (Arriving frames ticks) m (Outside_does (Arrives drawn route)) → Trail these n (Arriving (suc frames) ticks) m
      → Trail these n (Arriving frames ticks) (happens m (Outside_does (Arrives drawn route)))
  arrives_on frames ticks m drawn route a t =
      let at = arrives_there airs m a.awaits.awaits drawn route a.may in
      arrives_with frames ticks m drawn route a at (next_is_live these m.outside.outer a.peopled.live at.frame at.next (a.owns at.frame at.next)) t

  -- ---- in a tick

  decoder_host : (m : Machine) → (happens m Decoder_ticks).host.state ≡ m.host.state
  unfolding happens
  decoder_host m = refl

  decoder_air : (m : Machine) → on_air (happens m Decoder_ticks).outside.outer.air.frames ≡ on_air m.outside.outer.air.frames
  unfolding happens
  decoder_air m = refl

  -- at an event outside the host
  apart_on : (here to : Phase) (m then_m : Machine) → then_m.host.state ≡ m.host.state → FirstStays n m.outside.devices then_m.outside.devices → (AllPlain these (on_air m.outside.outer.air.frames) → AllPlain these (on_air then_m.outside.outer.air.frames))
      → Wraps (Tells these n (last_begun n m)) (unheard m.outside.outer) (unheard then_m.outside.outer) → ArriveUnended n (last_begun n m) to then_m → IsOwed to then_m → Trail these n here m → Trail these n to then_m
  apart_on here to m then_m host stays plain told soon owed t =
      trail_of these n (last_begun n m) to then_m (outside_on these n (last_begun n m) here to m then_m host stays plain told soon owed (trailing_of these n here m t))

  grown : (m then_m : Machine) → GrowsPlain these (on_air m.outside.outer.air.frames) (on_air then_m.outside.outer.air.frames) → AllPlain these (on_air m.outside.outer.air.frames) → AllPlain these (on_air then_m.outside.outer.air.frames)
  grown m then_m grows all = subst (AllPlain these) (sym grows.are) (all-append (ComesPlainly these) (on_air m.outside.outer.air.frames) grows.more all grows.plain)

  same_plainly : (m then_m : Machine) → on_air then_m.outside.outer.air.frames ≡ on_air m.outside.outer.air.frames → AllPlain these (on_air m.outside.outer.air.frames) → AllPlain these (on_air then_m.outside.outer.air.frames)
  same_plainly m then_m air all = subst (AllPlain these) (sym air) all

  -- the host's own
  host_on : (first : HostEvent) (events : List HostEvent) (ticks : ℕ) (m : Machine) → Beside (Ticking_host (first ∷ events) ticks) (Ticking_host events ticks) m (Host_does first) → Runs_then m (Host_does first) → Trail these n (Ticking_host (first ∷ events) ticks) m
      → Trail these n (Ticking_host events ticks) (happens m (Host_does first))
  host_on first events ticks m a runs t =
      trail_of these n (last_begun n m) (Ticking_host events ticks) (happens m (Host_does first))
      (trailing_on these n (last_begun n m) (Ticking_host (first ∷ events) ticks) (Ticking_host events ticks) m (happens m (Host_does first))
      (same airs these n (last_begun n m) below (Ticking_host (first ∷ events) ticks) (Ticking_host events ticks) m first (λ asking. asking) leaves.0 leaves.1 a.peopled.facts.nodes.places run_then)
      (ap (λ (h : HostState). (node_of h n).book.commands) (host_then m first) ∙ as_was.commands_are)
      (λ message cut. subst (IsCut n (last_begun n m) message) (sym (host_then m first)) (cut_stays n (last_begun n m) message m.host.state first as_was.commands_are cut)) runs
      (same_first n m.outside.devices (happens m (Host_does first)).outside.devices (devices_host-all m (first ∷ []))) (same_plainly m (happens m (Host_does first)) (does_calm airs m first).on)
      (does_says (Tells these n (last_begun n m)) (Wraps (Tells these n (last_begun n m)) (unheard m.outside.outer)) (wraps_pile (Tells these n (last_begun n m)) (unheard m.outside.outer)) airs m first (itself these n (last_begun n m) m)) tt tt
      (trailing_of these n (Ticking_host (first ∷ events) ticks) m t))
    where
      leaves : LeavesParts m.host.state first × LeavesAsked first
      leaves = tick_asks m.host.state a.tie.counted first events a.tie.left a.line.1.at_host.turn_is

      run_then : (node_of (after m.host.state first) n).series ≡ series.Running
      run_then = subst (λ (h : HostState). (node_of h n).series ≡ series.Running) (host_then m first) runs

      as_was : GivesAs (node_of m.host.state n) (node_of (after m.host.state first) n).book.commands (node_of (after m.host.state first) n).next_segment (node_of (after m.host.state first) n).segments (node_of (after m.host.state first) n).text (node_of (after m.host.state first) n).pending
      as_was =
          gives airs these n (last_begun n m) below (Ticking_host (first ∷ events) ticks) (Ticking_host events ticks) m first (λ asking. asking) leaves.0 leaves.1 a.peopled.facts.nodes.places run_then

  -- ---- in a settling

  submits_on : (passes ticks : ℕ) (m : Machine) (asked : HostEvent) → IsNext m.host.state asked → Beside (Submitting passes ticks) (Submitting passes ticks) m (Host_does asked) → (t : Trail these n (Submitting passes ticks) m)
      → Then (Submitting passes ticks) (happens m (Host_does asked))
  submits_on passes ticks m asked next_is a t = by t.answer
    where
      opens : open_session (node_of m.host.state n).book ≡ Some (last_begun n m)
      opens = opened (Submitting passes ticks) (Submitting passes ticks) m (Host_does asked) a t

      served : (k : ℕ) → next_of m.host.state.nodes m.host.state.served ≡ Some k → k ≡ n
      served = only (Submitting passes ticks) (Submitting passes ticks) m (Host_does asked) a t

      all_places : length m.host.state.nodes ≡ 233
      all_places = a.peopled.facts.nodes.places

      waiting : m.host.state.requests.queue ≡ Segment n (segment_at (last_begun n m) t.message t.place) ∷ [] → AllTold these (unheard m.outside.outer) → Then (Submitting passes ticks) (happens m (Host_does asked))
      waiting waits told =
          given_or (last_begun n m) t.message t.place (some (Submitting passes ticks) (Submitting passes ticks) m (Host_does asked) a t) (part (Submitting passes ticks) (Submitting passes ticks) m (Host_does asked) a t) (Submitting passes ticks)
          (happens m (Host_does asked)) begun (record { first = first.0; taken = begun ∙ (t.taken.taken ∙ sym first.1.0) }) (same_plainly m (happens m (Host_does asked)) (does_calm airs m asked).on t.flying)
          (all_wrapped Comes_home (unheard m.outside.outer) (unheard (happens m (Host_does asked)).outside.outer)
          (does_says Comes_home (Wraps Comes_home (unheard m.outside.outer)) (wraps_pile Comes_home (unheard m.outside.outer)) airs m asked (itself_wraps Comes_home (unheard m.outside.outer))) told) (node_of m.host.state n).next_segment
          (given_on airs these n (last_begun n m) below passes ticks m asked next_is a.tie all_places opens t.running t.no_text served t.message t.cut t.count t.place (node_of m.host.state n).next_segment (Waits t.owed waits refl))
          (λ waits_then owed. absurd (let wrong : [] ≡ Segment n (segment_at (last_begun n m) t.message t.place) ∷ [] = sym queue ∙ waits_then in cc))
        where
          is : asked ≡ Submits_front
          is = front_next n (last_begun n m) t.message m.host.state t.cut opens t.running t.no_text served a.tie.paid asked next_is (Segment n (segment_at (last_begun n m) t.message t.place)) waits

          host : (happens m (Host_does asked)).host.state ≡ after m.host.state Submits_front
          host = host_then m asked ∙ ap (after m.host.state) is

          queue : (happens m (Host_does asked)).host.state.requests.queue ≡ []
          queue = ap (λ (h : HostState). h.requests.queue) host ∙ (front_given m.host.state (Segment n (segment_at (last_begun n m) t.message t.place)) waits).0

          begun : last_begun n (happens m (Host_does asked)) ≡ last_begun n m
          begun = ap (λ (h : HostState). begun_of (node_of h n).book) host

          first : (then_is : HasFirst n (happens m (Host_does asked)).outside.devices) × StaysSo t.taken.first.device then_is.device
          first = same_first n m.outside.devices (happens m (Host_does asked)).outside.devices (devices_host-all m (asked ∷ [])) t.taken.first

      by : IsToAnswer these n (last_begun n m) t.message t.place (Submitting passes ticks) m → Then (Submitting passes ticks) (happens m (Host_does asked))
      by (Is_asked none asked_it) =
          absurd
          (asked_none airs these n (last_begun n m) below passes ticks m asked next_is a.tie all_places opens t.running t.no_text served t.message t.cut t.count t.place (node_of m.host.state n).next_segment
          (record { no_task = none; next_is = refl }) asked_it)
      by (Is_waiting waits told) = waiting waits told

  -- the chip takes nothing of the host's
  moves_on : (passes ticks : ℕ) (m : Machine) (rest : Rest) (ways : List (Item × Option Route)) → Beside (Moving passes ticks) (Moved true passes ticks) m (Outside_does (Chip_takes (length m.outside.outer.to_chip.bytes) rest ways)) → Trail these n (Moving passes ticks) m
      → Trail these n (Moved true passes ticks) (chip_taken m rest ways)
  moves_on passes ticks m rest ways a t =
      apart_on (Moving passes ticks) (Moved true passes ticks) m (chip_taken m rest ways) (outside_host m (Chip_takes (length m.outside.outer.to_chip.bytes) rest ways))
      (same_first n m.outside.devices (chip_taken m rest ways).outside.devices (chip_devices m (length m.outside.outer.to_chip.bytes) rest ways))
      (same_plainly m (chip_taken m rest ways)
      (free_air airs these many n (last_begun n m) alone.marked is_node below passes ticks m rest ways a.awaits a.may a.line a.room a.tie a.then_line a.then_tie a.sent a.peopled (sends_as m a.awaits a.routed a.none_aborted)
      (sends_as (chip_taken m rest ways) a.then_awaits a.then_routed a.then_none) t.owed))
      (chip_part_says (Tells these n (last_begun n m)) (Wraps (Tells these n (last_begun n m)) (unheard m.outside.outer)) (wraps_pile (Tells these n (last_begun n m)) (unheard m.outside.outer))
      (answer_told these, answer_unends these n (last_begun n m)) passes m rest ways a.may a.line a.room a.tie a.then_line (itself these n (last_begun n m) m)) tt
      (takes_free airs these n alone.marked is_node passes ticks m rest ways a.may a.line a.room a.tie a.then_line a.then_tie t.owed) t

  -- ---- the host judges

  module _ (moved : Bool) (passes ticks : ℕ) (m : Machine) (rest : Rest) (items : List Item) (done : List HostEvent)
      (a : Beside (Moved moved passes ticks) (Sleeping passes ticks) m (Host_takes (length m.outside.outer.to_host.bytes) rest items done)) (t : Trail these n (Moved moved passes ticks) m)
      (runs : (node_of (happens m (Host_takes (length m.outside.outer.to_host.bytes) rest items done)).host.state n).series ≡ series.Running) where
    abbrev judges : Event
    judges = Host_takes (length m.outside.outer.to_host.bytes) rest items done

    abbrev then_judged : Machine
    then_judged = happens m (Host_takes (length m.outside.outer.to_host.bytes) rest items done)

    abbrev session_is : ℕ
    session_is = last_begun n m

    opens_then : (node_of m.host.state n).series ≡ series.Running → open_session (node_of m.host.state n).book ≡ Some (last_begun n m)
    opens_then run = opened (Moved moved passes ticks) (Sleeping passes ticks) m judges a t

    all_places : length m.host.state.nodes ≡ 233
    all_places = a.peopled.facts.nodes.places

    abbrev Judged_so : ToHear → Type 0
    Judged_so hears = JudgedSo airs these n session_is below alone.marked is_node alone.only moved passes ticks m rest items done a.may a.line a.tie all_places opens_then a.then_line runs t.message (node_of m.host.state n).next_segment 1 hears

    abbrev Judged_to : ToHear → Type 0
    Judged_to hears = JudgedTo airs these n session_is below alone.marked is_node alone.only moved passes ticks m rest items done a.may a.line a.tie all_places opens_then a.then_line runs t.message (node_of m.host.state n).next_segment 1 hears

    judged_way : (hears : ToHear) → AreInside hears (segment_count t.message) → OnWay these n session_is t.message (node_of m.host.state n).next_segment 1 (Moved moved passes ticks) m hears → Judged_so hears
    judged_way hears inside way =
        way_judged airs these n session_is below alone.marked is_node alone.only moved passes ticks m rest items done a.may a.line a.tie all_places opens_then a.then_line runs t.message t.cut t.no_pending (node_of m.host.state n).next_segment 1 hears inside way

    plain_judged : AllPlain these (on_air then_judged.outside.outer.air.frames)
    plain_judged = same_plainly m then_judged (takes_calm airs m (length m.outside.outer.to_host.bytes) rest items done).on t.flying

    untold_judged : NoneToldEnds n session_is (unheard then_judged.outside.outer)
    untold_judged =
        event_says (Unends these n session_is) (AllByRecursion (Unends these n session_is)) (all_piled (Unends these n session_is)) airs (answer_unends these n session_is) (Moved moved passes ticks) (Sleeping passes ticks) m judges
        (λ judged. all_behind (Unends these n session_is)) (rest, items, done, refl, refl) a.may (a.line, a.room, a.routed, a.tie)
        (λ drawn route is given then_given. absurd (let wrong : Host_takes (length m.outside.outer.to_host.bytes) rest items done ≡ Outside_does (Arrives drawn route) = is in cc)) a.awaits t.untold a.then_line

    first_judged : (then_is : HasFirst n then_judged.outside.devices) × StaysSo t.taken.first.device then_is.device
    first_judged = same_first n m.outside.devices then_judged.outside.devices (takes_still airs m (length m.outside.outer.to_host.bytes) rest items done) t.taken.first

    module _ (hears : ToHear) (so : Judged_so hears) where
      begun_judged : last_begun n then_judged ≡ session_is
      begun_judged = ap (λ (cs : List ℕ). length cs) so.node.commands_are

      taken_judged : HasTaken n then_judged
      taken_judged = record { first = first_judged.0; taken = begun_judged ∙ (t.taken.taken ∙ sym first_judged.1.0) }

      trail_judged : IsFreeNow then_judged → IsToAnswer these n session_is t.message t.place (Sleeping passes ticks) then_judged → Trail these n (Sleeping passes ticks) then_judged
      trail_judged owed answer =
          trail_of these n session_is (Sleeping passes ticks) then_judged
          (record {
            begun = begun_judged;
            running = runs;
            message = t.message;
            place = t.place;
            cut = so.cut;
            inside = t.inside;
            count = so.node.count ∙ t.count;
            no_text = so.node.text_is ∙ t.no_text;
            no_pending = so.node.pending_is ∙ t.no_pending;
            first = first_judged.0;
            taken = t.taken.taken ∙ sym first_judged.1.0;
            owed = owed;
            flying = plain_judged;
            soon = tt;
            untold = untold_judged;
            answer = answer;
          })

      -- as the one of that place is to be given, or asked for
      gives_then : (place late : ℕ) → place ≡ t.place → IsToGive n session_is t.message place (node_of m.host.state n).next_segment (Sleeping passes ticks) then_judged → AllTold these (unheard then_judged.outside.outer) → Then (Sleeping passes ticks) then_judged
      gives_then place late is give told =
          given_or session_is t.message t.place (some (Moved moved passes ticks) (Sleeping passes ticks) m judges a t) (part (Moved moved passes ticks) (Sleeping passes ticks) m judges a t) (Sleeping passes ticks) then_judged begun_judged taken_judged
          plain_judged told (node_of m.host.state n).next_segment (subst (λ (k : ℕ). IsToGive n session_is t.message k (node_of m.host.state n).next_segment (Sleeping passes ticks) then_judged) is give)
          (λ waits owed. trail_judged owed (Is_waiting waits told))

      way_then : (late : ℕ) (then_hears : ToHear) → (then_hears ≡ Asks_one t.place) ⊎ (then_hears ≡ Hears_one t.place) → OnWay these n session_is t.message (node_of m.host.state n).next_segment late (Sleeping passes ticks) then_judged then_hears
          → Then (Sleeping passes ticks) then_judged
      way_then late then_hears (inl one) (To_give place is give all told some_late) = absurd (let wrong : Asks_one t.place ≡ Hears_one place = sym one ∙ is in cc)
      way_then late then_hears (inr one) (To_give place is give all told some_late) = gives_then place late (let both : Hears_one t.place ≡ Hears_one place = sym one ∙ is in let back : t.place ≡ place = cc in sym back) give told
      way_then late then_hears one (Aired place is other at told few) = absurd (none_flies these n (segment_at session_is t.message place) (on_air then_judged.outside.outer.air.frames) plain_judged at)
      way_then late then_hears one (Asks place is other is_free none at told few) = absurd (none_asks these n session_is place (on_air then_judged.outside.outer.air.frames) plain_judged at)
      way_then late then_hears (inl one) (Asks_told place is other owes all asked) =
          let same_place : place ≡ t.place = (let both : Asks_one t.place ≡ Asks_one place = sym one ∙ is in let back : t.place ≡ place = cc in sym back) in
          inl (trail_judged owes (Is_asked other.no_task (subst (λ (k : ℕ). Asked these n session_is k then_judged) same_place asked)))
      way_then late then_hears (inr one) (Asks_told place is other owes all asked) = absurd (let wrong : Hears_one t.place ≡ Asks_one place = sym one ∙ is in cc)
      way_then late then_hears (inl one) (To_give_two place other is give at later told some_late) = absurd (let wrong : Asks_one t.place ≡ Hears_two place other = sym one ∙ is in cc)
      way_then late then_hears (inr one) (To_give_two place other is give at later told some_late) = absurd (let wrong : Hears_one t.place ≡ Hears_two place other = sym one ∙ is in cc)
      way_then late then_hears (inl one) (Aired_two place other is else_is at told level few) = absurd (let wrong : Asks_one t.place ≡ Hears_two place other = sym one ∙ is in cc)
      way_then late then_hears (inr one) (Aired_two place other is else_is at told level few) = absurd (let wrong : Hears_one t.place ≡ Hears_two place other = sym one ∙ is in cc)
      way_then late then_hears (inl one) (Aired_told place other is else_is at asked few) = absurd (let wrong : Asks_one t.place ≡ Hears_two place other = sym one ∙ is in cc)
      way_then late then_hears (inr one) (Aired_told place other is else_is at asked few) = absurd (let wrong : Hears_one t.place ≡ Hears_two place other = sym one ∙ is in cc)
      way_then late then_hears (inl one) (Asks_told_two place other is else_is owes asked at later some_late) = absurd (let wrong : Asks_one t.place ≡ Asks_two place other = sym one ∙ is in cc)
      way_then late then_hears (inr one) (Asks_told_two place other is else_is owes asked at later some_late) = absurd (let wrong : Hears_one t.place ≡ Asks_two place other = sym one ∙ is in cc)

      judged_to : (hears ≡ Asks_one t.place) ⊎ (hears ≡ Hears_one t.place) → Judged_to hears → Then (Sleeping passes ticks) then_judged
      judged_to one (As_was way) = way_then 1 hears one way
      judged_to (inl one) (Gives_one place is way) =
          way_then (1 + 1) (Hears_one place) (inr (let both : Asks_one t.place ≡ Asks_one place = sym one ∙ is in let back : t.place ≡ place = cc in ap Hears_one (sym back))) way
      judged_to (inr one) (Gives_one place is way) = absurd (let wrong : Hears_one t.place ≡ Asks_one place = sym one ∙ is in cc)
      judged_to (inl one) (Gives_two place other is way) = absurd (let wrong : Asks_one t.place ≡ Asks_two place other = sym one ∙ is in cc)
      judged_to (inr one) (Gives_two place other is way) = absurd (let wrong : Hears_one t.place ≡ Asks_two place other = sym one ∙ is in cc)

    judges_on : Then (Sleeping passes ticks) then_judged
    judges_on = by t.answer
      where
        by : IsToAnswer these n (last_begun n m) t.message t.place (Moved moved passes ticks) m → Then (Sleeping passes ticks) (happens m (Host_takes (length m.outside.outer.to_host.bytes) rest items done))
        by (Is_asked none asked) =
            let so = judged_way (Asks_one t.place) t.inside (Asks_told t.place refl (record { no_task = none; next_is = refl }) t.owed t.flying asked) in
            judged_to (Asks_one t.place) so (inl refl) so.way
        by (Is_waiting waits told) =
            let so = judged_way (Hears_one t.place) t.inside (To_give t.place refl (Waits t.owed waits refl) t.flying told (omega arith)) in
            judged_to (Hears_one t.place) so (inr refl) so.way

  -- ---- at each event

  trail_on : (here next : Phase) (m : Machine) (event : Event) → Goes here m event next → Beside here next m event → Runs_then m event → Trail these n here m → Trail these n next (happens m event) ⊎ IsQuiet these n next (happens m event)
  trail_on (Said_line line) next m event (is, to) a runs t = absurd t.owed
  trail_on (Doing line (first ∷ left)) next m event (is, to) a runs t = absurd t.owed
  trail_on (To_tick (suc ticks)) next m event (is, to) a runs t = absurd t.owed
  trail_on (Arriving (suc frames) ticks) next m event (drawn, route, is, to) a runs t =
      as_is (Arriving (suc frames) ticks) next (Arriving frames ticks) m event _ is to (λ b run. inl (arrives_on frames ticks m drawn route b t)) a runs
  trail_on (Giving (suc results) ticks) next m event (route, is, to) a runs t = absurd (none_given m results a.routed a.awaits.many)
  trail_on (Ticking_devices place (suc count) ticks) next m event (drawn, route, is, to) a runs t =
      as_is (Ticking_devices place (suc count) ticks) next (Ticking_devices (place + 1) count ticks) m event _ is to
      (λ b run.
      inl (apart_on (Ticking_devices place (suc count) ticks) (Ticking_devices (place + 1) count ticks) m (happens m (Outside_does (Device_ticks place drawn route))) (outside_host m (Device_ticks place drawn route)) (ticks_first n m place drawn route)
      (grown m (happens m (Outside_does (Device_ticks place drawn route))) (ticks_plain airs these m b.awaits.awaits place drawn route (λ device there. b.plainly place drawn device there)))
      (device_says (Tells these n (last_begun n m)) (Wraps (Tells these n (last_begun n m)) (unheard m.outside.outer)) (wraps_pile (Tells these n (last_begun n m)) (unheard m.outside.outer)) m place drawn route (itself these n (last_begun n m) m)) tt tt t)) a runs
  trail_on (Ticking_chip ticks) next m event (is, to) a runs t =
      as_is (Ticking_chip ticks) next (Ticking_decoder ticks) m event _ is to
      (λ b run.
      inl (apart_on (Ticking_chip ticks) (Ticking_decoder ticks) m (happens m (Outside_does Chip_ticks)) (outside_host m Chip_ticks) (same_first n m.outside.devices (happens m (Outside_does Chip_ticks)).outside.devices (counted_devices m))
      (same_plainly m (happens m (Outside_does Chip_ticks)) (ap (λ (air : AirState). on_air air.frames) (counted_air m)))
      (counts_says (Tells these n (last_begun n m)) (Wraps (Tells these n (last_begun n m)) (unheard m.outside.outer)) (wraps_pile (Tells these n (last_begun n m)) (unheard m.outside.outer)) m b.line b.then_line (itself these n (last_begun n m) m)) tt tt t)) a runs
  trail_on (Ticking_decoder ticks) next m event (is, to) a runs t =
      as_is (Ticking_decoder ticks) next (Ticking_host _ ticks) m event _ is to
      (λ b run.
      inl (apart_on (Ticking_decoder ticks) (Ticking_host _ ticks) m (happens m Decoder_ticks) (decoder_host m) (same_first n m.outside.devices (happens m Decoder_ticks).outside.devices (decoder_devices m))
      (same_plainly m (happens m Decoder_ticks) (decoder_air m))
      (decoder_says (Tells these n (last_begun n m)) (Wraps (Tells these n (last_begun n m)) (unheard m.outside.outer)) (wraps_pile (Tells these n (last_begun n m)) (unheard m.outside.outer)) m (itself these n (last_begun n m) m)) tt tt t)) a runs
  trail_on (Ticking_host (first ∷ events) ticks) next m event (is, to) a runs t =
      as_is (Ticking_host (first ∷ events) ticks) next (Ticking_host events ticks) m event _ is to (λ b run. inl (host_on first events ticks m b run t)) a runs
  trail_on (Sleeping passes ticks) next m event (k, wants, is, to) a runs t = absurd (a.wants k wants)
  trail_on (Submitting passes ticks) next m event (asked, next_is, is, to) a runs t =
      as_is (Submitting passes ticks) next (Submitting passes ticks) m event _ is to (λ b run. submits_on passes ticks m asked next_is b t) a runs
  trail_on (Moving passes ticks) next m event (rest, ways, is, to) a runs t = as_is (Moving passes ticks) next (Moved true passes ticks) m event _ is to (λ b run. inl (moves_on passes ticks m rest ways b t)) a runs
  trail_on (Moved moved passes ticks) next m event (rest, items, done, is, to) a runs t =
      as_is (Moved moved passes ticks) next (Sleeping passes ticks) m event _ is to (λ b run. judges_on moved passes ticks m rest items done b t run) a runs
  trail_on here next m event goes a runs t = absurd goes

  -- ---- the attempt runs on

  run_at : (here next : Phase) (m : Machine) (event : Event) → Beside here next m event → Trail these n here m → RunsAt n (last_begun n m) m.host.state.nodes
  run_at here next m event a t = record { places = a.peopled.facts.nodes.places; opened = opened here next m event a t; running = t.running }

  told_opens : (here : Phase) (m : Machine) → Trail these n here m → AllByRecursion (IsFromSaying these TellsOpenly) (unheard m.outside.outer)
  told_opens here m t = by t.answer
    where
      by : IsToAnswer these n (last_begun n m) t.message t.place here m → AllByRecursion (IsFromSaying these TellsOpenly) (unheard m.outside.outer)
      by (Is_asked none asked) =
          way_opens these n (last_begun n m) alone.marked t.message (node_of m.host.state n).next_segment 1 here m (Asks_one t.place) (Asks_told t.place refl (record { no_task = none; next_is = refl }) t.owed t.flying asked)
      by (Is_waiting waits told) =
          way_opens these n (last_begun n m) alone.marked t.message (node_of m.host.state n).next_segment 1 here m (Hears_one t.place) (To_give t.place refl (Waits t.owed waits refl) t.flying told (omega arith))

  submits_part : (passes ticks : ℕ) (next : Phase) (m : Machine) (event : Event) (asked : HostEvent) → IsNext m.host.state asked → Beside (Submitting passes ticks) next m event → (t : Trail these n (Submitting passes ticks) m) → IsPartEvent n asked
  submits_part passes ticks next m event asked next_is a t = by t.answer
    where
      by : IsToAnswer these n (last_begun n m) t.message t.place (Submitting passes ticks) m → IsPartEvent n asked
      by (Is_asked none asked_it) =
          absurd
          (asked_none airs these n (last_begun n m) below passes ticks m asked next_is a.tie a.peopled.facts.nodes.places (opened (Submitting passes ticks) next m event a t) t.running t.no_text (only (Submitting passes ticks) next m event a t)
          t.message t.cut t.count t.place (node_of m.host.state n).next_segment (record { no_task = none; next_is = refl }) asked_it)
      by (Is_waiting waits told) =
          inr
          (front_next n (last_begun n m) t.message m.host.state t.cut (opened (Submitting passes ticks) next m event a t) t.running t.no_text (only (Submitting passes ticks) next m event a t) a.tie.paid asked next_is
          (Segment n (segment_at (last_begun n m) t.message t.place)) waits)

  still_on : (here next : Phase) (m : Machine) (event : Event) → IsStill here → Goes here m event next → Beside here next m event → (node_of m.host.state n).attempt_wait ≢ 1 → Trail these n here m → Runs_then m event
  still_on here next m event still goes a lasts t = (still_runs n (last_begun n m) below here next m event still goes a.line a.awaits a.tie lasts (run_at here next m event a t)).running

  trail_runs : (here next : Phase) (m : Machine) (event : Event) → Goes here m event next → Beside here next m event → (node_of m.host.state n).attempt_wait ≢ 1 → Trail these n here m → Runs_then m event
  trail_runs (Sleeping passes ticks) next m event (k, wants, is, to) a lasts t = absurd (a.wants k wants)
  trail_runs (Submitting passes ticks) next m event (asked, next_is, is, to) a lasts t =
      subst (Runs_then m) (sym is) (part_runs n (last_begun n m) below m asked (submits_part passes ticks next m event asked next_is a t) (run_at (Submitting passes ticks) next m event a t)).running
  trail_runs (Moved moved passes ticks) next m event goes a lasts t =
      judges_runs airs laws these many n (last_begun n m) alone is_node moved passes ticks next m event goes a (told_opens (Moved moved passes ticks) m t) t.untold
  trail_runs Between next m event goes a lasts t = absurd goes
  trail_runs (Said_line line) next m event goes a lasts t = absurd t.owed
  trail_runs (Begun line) next m event goes a lasts t = absurd goes
  trail_runs (Doing line es) next m event goes a lasts t = absurd t.owed
  trail_runs (To_tick ticks) next m event goes a lasts t = absurd t.owed
  trail_runs (Ticked ticks) next m event goes a lasts t = absurd goes
  trail_runs (Arriving frames ticks) next m event goes a lasts t = still_on (Arriving frames ticks) next m event tt goes a lasts t
  trail_runs (Giving results ticks) next m event goes a lasts t = still_on (Giving results ticks) next m event tt goes a lasts t
  trail_runs (Ticking_devices place count ticks) next m event goes a lasts t = still_on (Ticking_devices place count ticks) next m event tt goes a lasts t
  trail_runs (Ticking_chip ticks) next m event goes a lasts t = still_on (Ticking_chip ticks) next m event tt goes a lasts t
  trail_runs (Ticking_decoder ticks) next m event goes a lasts t = still_on (Ticking_decoder ticks) next m event tt goes a lasts t
  trail_runs (Ticking_host events ticks) next m event goes a lasts t = still_on (Ticking_host events ticks) next m event tt goes a lasts t
  trail_runs (Moving passes ticks) next m event goes a lasts t = still_on (Moving passes ticks) next m event tt goes a lasts t

  -- so it goes on
  pub trail_goes : (here next : Phase) (m : Machine) (event : Event) → Goes here m event next → Beside here next m event → (node_of m.host.state n).attempt_wait ≢ 1 → Trail these n here m → Trail these n next (happens m event) ⊎ IsQuiet these n next (happens m event)
  trail_goes here next m event goes a lasts t = trail_on here next m event goes a (trail_runs here next m event goes a lasts t) t

  -- ---- as the device takes the session

  over_trail : (frames ticks : ℕ) (m : Machine) → (node_of m.host.state n).series ≡ series.Running → IsTakenNow these n (last_begun n m) frames m → Trail these n (Arriving frames ticks) m ⊎ IsQuiet these n (Arriving frames ticks) m
  over_trail frames ticks m runs o = by o.told
    where
      plain_all : AllPlain these (on_air m.outside.outer.air.frames)
      plain_all = subst (AllPlain these) (sym o.are) (all-append (ComesPlainly these) o.rest o.added o.plain o.says)

      taken_now : HasTaken n m
      taken_now = record { first = o.stands; taken = sym o.taken }

      by : AllTold these (unheard m.outside.outer) ⊎ AsksStill these n (last_begun n m) (segment_count o.message) o.rest m → Trail these n (Arriving frames ticks) m ⊎ IsQuiet these n (Arriving frames ticks) m
      by (inl told) = inr (quiet_of (Arriving frames ticks) m taken_now o.other.no_task plain_all told (λ asking. absurd asking))
      by (inr asks) =
          inl (record {
            running = runs;
            message = o.message;
            place = asks.place;
            cut = o.cut;
            inside = asks.less;
            count = o.count;
            no_text = o.no_text;
            no_pending = o.no_pending;
            taken = taken_now;
            owed = tt;
            flying = plain_all;
            soon = record { before = o.rest; behind = o.added; are = o.are; fewer = o.behind; flying = asks.flying };
            untold = asks.told;
            answer = Is_asked o.other.no_task asks.asked;
          })

  -- where a frame arrived, the host is as it was
  arrived_host : (here next : Phase) (m : Machine) (event : Event) (frames ticks : ℕ) → Goes here m event next → next ≡ Arriving frames ticks → (happens m event).host.state ≡ m.host.state
  arrived_host (Said_line line) next m event frames ticks (is, to) at = absurd (let wrong : Begun line ≡ Arriving frames ticks = sym to ∙ at in cc)
  arrived_host (Doing line (first ∷ left)) next m event frames ticks (is, to) at = absurd (let wrong : Doing line left ≡ Arriving frames ticks = sym to ∙ at in cc)
  arrived_host (To_tick (suc more)) next m event frames ticks (is, to) at = absurd (let wrong : Ticked more ≡ Arriving frames ticks = sym to ∙ at in cc)
  arrived_host (Arriving (suc left) more) next m event frames ticks (drawn, route, is, to) at = subst (λ (e : Event). (happens m e).host.state ≡ m.host.state) (sym is) (outside_host m (Arrives drawn route))
  arrived_host (Giving (suc results) more) next m event frames ticks (route, is, to) at = absurd (let wrong : Giving results more ≡ Arriving frames ticks = sym to ∙ at in cc)
  arrived_host (Ticking_devices place (suc count) more) next m event frames ticks (drawn, route, is, to) at = absurd (let wrong : Ticking_devices (place + 1) count more ≡ Arriving frames ticks = sym to ∙ at in cc)
  arrived_host (Ticking_chip more) next m event frames ticks (is, to) at = absurd (let wrong : Ticking_decoder more ≡ Arriving frames ticks = sym to ∙ at in cc)
  arrived_host (Ticking_decoder more) next m event frames ticks (is, to) at = absurd (let wrong : Ticking_host (tick_events m.host.state) more ≡ Arriving frames ticks = sym to ∙ at in cc)
  arrived_host (Ticking_host (first ∷ events) more) next m event frames ticks (is, to) at = absurd (let wrong : Ticking_host events more ≡ Arriving frames ticks = sym to ∙ at in cc)
  arrived_host (Sleeping passes more) next m event frames ticks (k, wants, is, to) at = absurd (let wrong : Sleeping passes more ≡ Arriving frames ticks = sym to ∙ at in cc)
  arrived_host (Submitting passes more) next m event frames ticks (asked, next_is, is, to) at = absurd (let wrong : Submitting passes more ≡ Arriving frames ticks = sym to ∙ at in cc)
  arrived_host (Moving passes more) next m event frames ticks (rest, ways, is, to) at = absurd (let wrong : Moved true passes more ≡ Arriving frames ticks = sym to ∙ at in cc)
  arrived_host (Moved b passes more) next m event frames ticks (rest, items, done, is, to) at = absurd (let wrong : Sleeping passes more ≡ Arriving frames ticks = sym to ∙ at in cc)
  arrived_host here next m event frames ticks goes at = absurd goes

  pub over_trails : (here next : Phase) (m : Machine) (event : Event) → Goes here m event next → (left : ℕ) → (node_of m.host.state n).series ≡ series.Running → IsOver airs laws these many n (last_begun n m) alone is_node left next (happens m event)
      → Trail these n next (happens m event) ⊎ IsQuiet these n next (happens m event)
  over_trails here next m event goes left runs o =
      let host = arrived_host here next m event o.frames o.ticks goes o.arriving in
      let begun : last_begun n (happens m event) ≡ last_begun n m = ap (λ (h : HostState). begun_of (node_of h n).book) host in
      subst (λ (q : Phase). Then q (happens m event)) (sym o.arriving)
      (over_trail o.frames o.ticks (happens m event) (ap (λ (h : HostState). (node_of h n).series) host ∙ runs) (subst (λ (s : ℕ). IsTakenNow these n s o.frames (happens m event)) (sym begun) o.taken))
