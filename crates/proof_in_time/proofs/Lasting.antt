-- From phase to phase no wait of an attempt runs out.
use Rattle.std.proofs.Common.{◌≡◌, ◌≢◌, ◌≤◌, ◌<◌, ℕ, zero, suc, ◌+◌, ◌-◌, ◌&&◌, nat_le, nat_lt, inl, inr, Bool, true, false, if◌then◌else◌, List, [], ◌∷◌, ◌++◌, length, refl, sym, ap, ◌∙◌, subst, arith}
use Rattle.std.proofs.lemmas.Bool.Decides.{nat_tests}
use Rattle.std.specs.Prelude.{◌⊎◌, Some, None, slice_index_or}
use Rattle.std.specs.List.{AllByRecursion, list_any}
use Rattle.law_time.specs.Stretches.{is_keeper_fault}
use Rattle.zw_base.proofs.Each.{all-right}
use Rattle.zw_text.specs.declared.line.Line.{Line}
use Rattle.zw_text.specs.declared.entry.Entry.{Entry}
use Rattle.zw_text.specs.declared.entry.Entry.TheVariants as entry
use Rattle.serial_frame.specs.Frame.{FrameParts}
use Rattle.chip_functions.specs.Field.{IsNode}
use Rattle.chip_functions.specs.declared.notice.Notice.TheVariants.{ApplicationCommandHandler, ApplicationUpdate, SendData}
use Rattle.chip_functions.specs.declared.notice.Update.{Update}
use Rattle.chip_functions.specs.declared.notice.TransmitStatus.{TransmitStatus}
use Rattle.chip_sim.specs.Answers.{notice_frame}
use Rattle.chip_sim.specs.Nodes.{is_marked}
use Rattle.chip_sim.specs.State.{ChipState}
use Rattle.host_requests.specs.Frames.{frame_of}
use Rattle.host_requests.specs.declared.under_way.UnderWay.{UnderWay}
use Rattle.host_node.specs.Facts.{NodeFacts}
use Rattle.device_sim.specs.State.{State}
use Rattle.host_model.specs.Events.{HostEvent, Node_ticks}
use Rattle.host_node.specs.declared.series.Series.TheVariants as series
use Rattle.host_model.specs.State.{node_of}
use Rattle.outside_model.specs.Events.{Chip_takes}
use Rattle.world_model.specs.Events.{Event, Outside_does, Host_does, Host_takes, happens, entries, May}
use Rattle.world_model.specs.State.{Machine}
use Rattle.proof_answered.specs.proof_calm.proof_traffic.OnAir.{on_air}
use Rattle.proof_answered.specs.proof_calm.proof_work.Phases.{AsksNothing}
use Rattle.proof_answered.specs.proof_calm.proof_work.proof_walk.Phases.{Phase, Between, Said_line, Begun, Doing, To_tick, Ticked, Arriving, Giving, Ticking_devices, Ticking_chip, Ticking_decoder, Ticking_host, Sleeping, Submitting, Moving, Moved, Goes, Turns, after_pump, passes_after}
use Rattle.proof_answered.specs.proof_calm.proof_work.proof_walk.Walk.{WalkWhere}
use Rattle.proof_answered.proofs.proof_traffic_Parts.{Airs}
use Rattle.proof_answered.specs.proof_calm.Awaited.{Awaits, AwaitsAt}
use Rattle.proof_answered.specs.proof_calm.Calls.{answer_taken}
use Rattle.proof_answered.specs.proof_calm.Resting.{LineAt}
use Rattle.proof_answered.specs.proof_calm.Routed.{IsRouted}
use Rattle.proof_answered.specs.proof_calm.Tied.{Answers, At_chip, Brings, Called, Informs, IsOnWay, IsOf, IsPeopled, LeavesIt, LeaveIt, Nowhere, On_way, RoomAt, Tied, TieAt, TieOf, ends_of, on_line, unheard}
use Rattle.proof_answered.specs.proof_calm.Networks.{Members, members}
use Rattle.proof_answered.proofs.Links.{event_members}
use Rattle.proof_answered.proofs.Peopled.{covers_of}
use Rattle.proof_answered.proofs.Unmarked.{nothing_asked}
use Rattle.zw_text.specs.Transcript.{line_of, lines_run}
use Rattle.mesh_sim.specs.Air.{is_joined}
use Rattle.proof_answered.specs.proof_calm.Quiet.{AreQuiet}
use Rattle.proof_answered.specs.Few.{Knows}
use Rattle.proof_answered.specs.FirstAttempts.{AllFirst, AndInTime, IsInTime, KnowFirst}
use Rattle.proof_answered.specs.Heard.{IsHeardThen}
use Rattle.proof_answered.specs.Outward.{AllFor, AllListen, IsSentTo}
use Rattle.proof_answered.specs.Sleepers.{AllHear, All_listen, AreWokenSo, HasSleeper, IsAlone, One_sleeps, SaysAs, SleeperAt, StaysUp}
use Rattle.proof_answered.specs.Workers.{IsWorkedFor, KnowStaff, KnowWorkers, KnowsWorkers, Staffed}
use Rattle.proof_answered.proofs.AwakeNodes.{all_heard}
use Rattle.proof_answered.proofs.Outwards.{awaits_of, marked_within}
use Rattle.proof_answered.proofs.Staffing.{sent_on}
use Rattle.proof_answered.proofs.Walking.{none_given}
use Rattle.proof_answered.proofs.Speaking.{either_mark}
use Rattle.proof_answered.proofs.Tying.{rests_unheard}
pub use Rattle.proof_in_time.specs.Coming.{most_then}
use Rattle.proof_in_time.specs.Coming.{AllWaitFor, AreInAir, AreWaiting, Asked, At_work, Coming, Flies, Has, IsAsking, IsBusy, IsKept, IsKeptFor, IsPlainStart, KnowPlainly, KnowWaits, Sent, Told, WaitsFor, brings, has_ticked, one_later, ticks_left}
use Rattle.proof_in_time.specs.InStep.{HasInStep}
use Rattle.proof_in_time.specs.Sleeping.{IsPlainlyUp}
use Rattle.proof_in_time.proofs.Aired.{request_airs}
use Rattle.proof_in_time.proofs.Bounded.{Devices, NoMore, arrives_wait, begins_waits, busy_still, chip_waits, effect_waits, idle_lasts, lasts_of, later_waits, line_waits, session_of, still_fits, tick_event, ticks_wait, turn_waits, unfinished_waits}
use Rattle.proof_in_time.proofs.Carried.{Fits, IsNearEnd, carry, many_on_air}
use Rattle.proof_in_time.proofs.Busy.{all_ticked, none_ticked, place_within, unless_ticking}
use Rattle.proof_in_time.proofs.Commands.{on_whole, plain_start}
use Rattle.proof_in_time.proofs.Grown.{same_adds}
use Rattle.proof_in_time.proofs.Keeping.{event_lines, judged_kept, kept_before, told_kept}
use Rattle.proof_in_time.proofs.Settled.{judges_wait, sleeps_wait, submits_wait, takes_wait}

-- ---- a request that is on its way is no more where nothing of the host is

no_answer : (id : ℕ) (status : TransmitStatus) → notice_frame (SendData id status) ≡ answer_taken → ⊥
no_answer id status is = let no_kind = ap (λ (f : FrameParts). f.kind) is in absurd cc

no_payload : (id : ℕ) (status : TransmitStatus) (n : ℕ) (payload : List ℕ) → notice_frame (SendData id status) ≡ notice_frame (ApplicationCommandHandler 0 n payload) → ⊥
no_payload id status n payload is = let no_function = ap (λ (f : FrameParts). f.func) is in absurd cc

no_update : (id : ℕ) (status : TransmitStatus) (update : Update) → notice_frame (SendData id status) ≡ notice_frame (ApplicationUpdate update) → ⊥
no_update id status update is = let no_function = ap (λ (f : FrameParts). f.func) is in absurd cc

pub no_call : (joined : List Bool) (id : ℕ) (status : TransmitStatus) → LeavesIt joined (notice_frame (SendData id status)) → ⊥
no_call joined id status (Answers is) = no_answer id status is
no_call joined id status (Brings n payload member some is) = no_payload id status n payload is
no_call joined id status (Informs update is) = no_update id status update is

pub not_both_ways : (m : Machine) (u : UnderWay) (frame : FrameParts) → IsOf u (ends_of m.host.state m.outside.outer.chip.state) → IsOnWay u (ends_of m.host.state m.outside.outer.chip.state) (unheard m.outside.outer) (frame ∷ [])
    → Tied true (ends_of m.host.state m.outside.outer.chip.state) (unheard m.outside.outer) [] → ⊥
not_both_ways m u frame of way (Nowhere is) = absurd (let wrong : Some u ≡ None = sym of.under_way ∙ is.none in cc)
not_both_ways m u frame of way (On_way v of_v fresh is) = absurd (let wrong = is.asked in cc)
not_both_ways m u frame of way (At_chip v of_v fresh is) = absurd (let wrong = sym way.idle ∙ is.is_sending in cc)
not_both_ways m u frame of way (Called v of_v fresh is) =
    let s : ChipState = m.outside.outer.chip.state in
    let parts = subst (LeaveIt s.joined) is.are way.leave in
    no_call s.joined m.host.state.requests.last_id is.status (all-right (LeavesIt s.joined) is.before (notice_frame (SendData m.host.state.requests.last_id is.status) ∷ is.behind) parts).0

pub none_asked : (m : Machine) (request : UnderWay) → m.host.state.requests.under_way ≡ Some request → on_line m.host.state.side.turn ≡ frame_of request.purpose m.host.state.requests.last_id ∷ [] → TieOf true m (on_line m.host.state.side.turn) → TieOf true m [] → ⊥
none_asked m request under_way line tie later = by (subst (λ (fs : List FrameParts). TieOf true m fs) line tie).tied
  where
    by : Tied true (ends_of m.host.state m.outside.outer.chip.state) (unheard m.outside.outer) (frame_of request.purpose m.host.state.requests.last_id ∷ []) → ⊥
    by (Nowhere is) = absurd (let wrong = is.nothing in cc)
    by (At_chip u of fresh is) = absurd (let wrong = is.nothing in cc)
    by (Called u of fresh is) = absurd (let wrong = is.nothing in cc)
    by (On_way u of fresh is) = not_both_ways m u (frame_of request.purpose m.host.state.requests.last_id) of is later.tied

-- ---- where a frame arrives

pub sooner : (place frames : ℕ) → place < frames → ◌≡◌ {A = ℕ} (if nat_lt place frames then 0 else 1) 0
sooner place frames less = ap (λ (b : Bool). if b then 0 else 1) (let so : nat_lt place frames ≡ true = grind (arith, nat_tests, less) in so)

pub never_sooner : (place : ℕ) → ◌≡◌ {A = ℕ} (if nat_lt place 0 then 0 else 1) 1
never_sooner place = ap (λ (b : Bool). if b then 0 else 1) (let so : nat_lt place 0 ≡ false = grind (arith, nat_tests) in so)

to_tick : (x was left : ℕ) → x ≡ 0 → 0 + 0 + was ≤ left → 0 + x + was ≤ left
to_tick x was left none few = omega (arith, none, few)

last_ticked : (x : ℕ) → x ≡ 1 → 0 + 1 ≤ 0 + x
last_ticked x one = omega (arith, one)

-- ---- where the host judges, what it is told is kept
abbrev pub KeepsAll : Event → Type 0
KeepsAll (Host_takes count rest items events) = AllByRecursion IsKept events
KeepsAll event = Unit {0}

pub keeps : (m : Machine) (event : Event) → list_any is_keeper_fault (entries m event) ≡ false → KeepsAll event
keeps m (Host_takes count rest items events) none = judged_kept m count rest items events none
keeps m event none = tt

-- ---- each node of these

pub node_within : (these : List Bool) → length these ≡ 233 → is_marked these 0 ≡ false → (n : ℕ) → is_marked these n ≡ true → IsNode n
node_within these many none zero marked = absurd (let wrong : true ≡ false = sym marked ∙ none in cc)
node_within these many none (suc n) marked = let less = marked_within these (suc n) marked in (omega arith, omega (arith, less, many))

module _ (airs : Airs) (these : List Bool) (many : length these ≡ 233) (laws : Devices) (whole : Bool) (n most : ℕ) (marked : is_marked these n ≡ true) (node : IsNode n) where
  below : n < 233
  below = let few = node.1 in omega (arith, few)

  -- ---- from phase to phase, by an event

  -- then it is within these, or an attempt of it that was due has started
  abbrev pub LaterOn : ℕ → Phase → Machine → Event → Type 0
  LaterOn few next m event = WaitsFor whole n few next (happens m event) ⊎ (((node_of m.host.state n).series ≡ series.Due) × WaitsFor whole n 6 next (happens m event))

  abbrev Leads : ℕ → Phase → Machine → Event → Type 0
  Leads few next m event = LineAt next (happens m event) → LaterOn few next m event

  as_is : (few : ℕ) (next to : Phase) (m : Machine) (event is : Event) → event ≡ is → next ≡ to → Leads few to m is → Leads few next m event
  as_is few next to m event is event_is next_is leads = subst (λ (e : Event). Leads few next m e) (sym event_is) (subst (λ (q : Phase). Leads few q m is) (sym next_is) leads)

  -- an attempt that starts gives a message whole
  abbrev pub Starts_plainly : Machine → Event → Type 0
  Starts_plainly m event = (asked : HostEvent) → event ≡ Host_does asked → IsPlainStart these m.host.state asked

  pub event_waits : (here next : Phase) (m : Machine) (event : Event) → Goes here m event next → May m event → HasInStep n m → KeepsAll event → Starts_plainly m event → LineAt here m → AwaitsAt here m → RoomAt here m → IsRouted m.outside.outer → TieAt here m → IsPeopled these m
      → IsHeardThen m event → IsSentTo these m event → AreInAir these m → WaitsFor whole n most here m → Leads (most_then most here) next m event
  event_waits (Said_line line) next m event (is, to) may step keeps starts line_at awaits room routed tie peopled hears sent joined w = as_is most next (Begun line) m event _ is to (λ later. inl (line_waits airs these many laws whole n most marked node line m w))
  event_waits (Doing line (first ∷ left)) next m event (is, to) may step keeps starts line_at awaits room routed tie peopled hears sent joined w =
      as_is most next (Doing line left) m event first is to (λ later. inl (effect_waits airs these many laws whole n most marked node line left m first line_at.0.0 awaits peopled.facts.nodes.places w))
  event_waits (To_tick (suc ticks)) next m event (is, to) may step keeps starts line_at awaits room routed tie peopled hears sent joined w = as_is (most - 1) next (Ticked ticks) m event _ is to (λ later. inl (begins_waits airs these many laws whole n most marked node ticks m w))
  event_waits (Arriving (suc frames) ticks) next m event (drawn, route, is, to) may step keeps starts line_at awaits room routed tie peopled hears sent joined w =
      as_is most next (Arriving frames ticks) m event _ is to
      (λ later.
      inl (arrives_wait airs these many laws whole n most marked node frames ticks m drawn route (subst (May m) is may) step (joined n marked) (peopled.facts.nodes.facts n) awaits.awaits (subst (IsHeardThen m) is hears) peopled.live line_at later
      (omega (arith, room)) w))
  event_waits (Giving (suc results) ticks) next m event (route, is, to) may step keeps starts line_at awaits room routed tie peopled hears sent joined w = absurd (none_given m results routed awaits.many)
  event_waits (Ticking_devices place (suc count) ticks) next m event (drawn, route, is, to) may step keeps starts line_at awaits room routed tie peopled hears sent joined w =
      as_is most next (Ticking_devices (place + 1) count ticks) m event _ is to (λ later. inl (ticks_wait airs these many laws whole n most marked node place count ticks m drawn route step (joined n marked) awaits.awaits w))
  event_waits (Ticking_chip ticks) next m event (is, to) may step keeps starts line_at awaits room routed tie peopled hears sent joined w =
      as_is most next (Ticking_decoder ticks) m event _ is to (λ later. inl (chip_waits airs these many laws whole n most marked node ticks m line_at later w))
  event_waits (Ticking_decoder ticks) next m event (is, to) may step keeps starts line_at awaits room routed tie peopled hears sent joined w = as_is most next (Ticking_host _ ticks) m event _ is to (λ later. inl (unfinished_waits airs these many laws whole n most marked node ticks m w))
  event_waits (Ticking_host (first ∷ events) ticks) next m event (is, to) may step keeps starts line_at awaits room routed tie peopled hears sent joined w =
      as_is most next (Ticking_host events ticks) m event _ is to
      (λ later.
      inl (tick_event airs these many laws whole n most marked node first events ticks m line_at.0.0 line_at.1.at_host.turn_is peopled.facts.nodes.places
      (lasts_of whole n most (Ticking_host (first ∷ events) ticks) m (peopled.facts.nodes.facts n) w) w))
  event_waits (Sleeping passes ticks) next m event (k, wants, is, to) may step keeps starts line_at awaits room routed tie peopled hears sent joined w =
      as_is most next (Sleeping passes ticks) m event _ is to (λ later. inl (sleeps_wait airs these many whole n most marked node below passes ticks m k peopled.facts.nodes.places w))
  event_waits (Submitting passes ticks) next m event (asked, next_is, is, to) may step keeps starts line_at awaits room routed tie peopled hears sent joined w =
      as_is most next (Submitting passes ticks) m event _ is to
      (λ later.
      submits_wait airs these many whole n most marked node below passes ticks m asked next_is (subst (May m) is may) (starts asked is) peopled.facts.nodes.places
      (peopled.facts.nodes.facts n) w)
  event_waits (Moving passes ticks) next m event (rest, ways, is, to) may step keeps starts line_at awaits room routed tie peopled hears sent joined w =
      let takes : Event = Outside_does (Chip_takes (length m.outside.outer.to_chip.bytes) rest ways) in
      as_is most next (Moved true passes ticks) m event _ is to
      (λ later.
      inl (takes_wait airs these many whole n most marked node below passes ticks m rest ways awaits (subst (May m) is may) line_at room tie later (subst (IsSentTo these m) is sent)
      (λ asks. request_airs airs m awaits n (session_of n m) below asks these marked passes rest ways (subst (May m) is may) line_at room tie peopled) w))
  event_waits (Moved b passes ticks) next m event (rest, items, done, is, to) may step keeps starts line_at awaits room routed tie peopled hears sent joined w =
      let takes : Event = Host_takes (length m.outside.outer.to_host.bytes) rest items done in
      as_is most next (Sleeping passes ticks) m event _ is to
      (λ later.
      inl (judges_wait airs these many whole n most marked node below b passes ticks m rest items done (subst (May m) is may) line_at tie (subst KeepsAll is keeps) peopled.facts.nodes.places (peopled.facts.nodes.facts n) w))
  event_waits here next m event goes may step keeps starts line_at awaits room routed tie peopled hears sent joined w = absurd goes

  -- ---- and with no event

  stays : (here next : Phase) (m : Machine) → NoMore n here next → (IsAsking here → ⊥) → ((left : ℕ) → Fits n (many_on_air m) here left next left)
      → ((left : ℕ) (at : IsBusy n (session_of n m) m.outside.devices) → IsNearEnd n (session_of n m) left here m.outside.devices at → Coming n (session_of n m) left next m) → WaitsFor whole n most here m → WaitsFor whole n most next m
  stays here next m less none fits works w =
      turn_waits whole n most here next less m
      (λ left comes. carry n (session_of n m) left left here next m m (λ asking asks six. absurd (none asking)) (works left) (same_adds m.outside.outer m.outside.outer refl) (λ x has. has) (fits left) comes) w

  to_is : (next to : Phase) (m : Machine) → next ≡ to → WaitsFor whole n most to m → WaitsFor whole n most next m
  to_is next to m same w = subst (λ (q : Phase). WaitsFor whole n most q m) (sym same) w

  simply : (here next : Phase) (m : Machine) → (IsAsking here → ⊥) → ((place : ℕ) → ticks_left next + one_later next place ≤ ticks_left here + one_later here place) → ticks_left next ≤ ticks_left here
      → ((place : ℕ) → ticks_left next + has_ticked next place ≤ ticks_left here + has_ticked here place) → NoMore n here next → WaitsFor whole n most here m → WaitsFor whole n most next m
  simply here next m none joint alone near less w = stays here next m less none (λ left. still_fits n (many_on_air m) left here next joint alone) (λ left. busy_still n (session_of n m) left here next m m refl near) w

  -- a settling is over, and the line rests
  pumped_waits : (passes ticks : ℕ) (m : Machine) → LineAt (after_pump passes ticks) m → WaitsFor whole n most (Submitting passes ticks) m → WaitsFor whole n most (after_pump passes ticks) m
  pumped_waits zero ticks m rests w = turn_waits whole n most (Submitting zero ticks) (To_tick ticks) (omega arith) m goes w
    where
      goes : (left : ℕ) → Coming n (session_of n m) left (Submitting zero ticks) m → Coming n (session_of n m) left (To_tick ticks) m
      goes left (Asked asking asks six) = absurd (let wrong = sym (ap on_line rests.at_host.turn_is) ∙ asks.frame in cc)
      goes left (Sent at few) = Sent at (omega (arith, few))
      goes left (Flies at few) = Flies at (omega (arith, few))
      goes left (At_work at few) = At_work at (omega (arith, few))
      goes left (Told payload tells has few) = absurd (subst (Has (brings n payload)) (rests_unheard m rests) has)
  pumped_waits (suc passes) ticks m rests w =
      turn_waits whole n most (Submitting (suc passes) ticks) (Moving passes ticks) (omega arith) m
      (λ left comes.
      carry n (session_of n m) left left (Submitting (suc passes) ticks) (Moving passes ticks) m m (λ asking asks six. Asked tt asks six)
      (busy_still n (session_of n m) left (Submitting (suc passes) ticks) (Moving passes ticks) m m refl (λ place. omega arith)) (same_adds m.outside.outer m.outside.outer refl) (λ x has. has)
      (still_fits n (many_on_air m) left (Submitting (suc passes) ticks) (Moving passes ticks) (λ place. omega arith) (omega arith)) comes)
      w

  still_waits : (passes ticks : ℕ) (m : Machine) → TieOf true m (on_line m.host.state.side.turn) → TieOf true m [] → WaitsFor whole n most (Moving passes ticks) m → WaitsFor whole n most (Moved false passes ticks) m
  still_waits passes ticks m tie later w =
      turn_waits whole n most (Moving passes ticks) (Moved false passes ticks) (omega arith) m
      (λ left comes.
      carry n (session_of n m) left left (Moving passes ticks) (Moved false passes ticks) m m (λ asking asks six. absurd (none_asked m asks.request asks.under_way asks.frame tie later))
      (busy_still n (session_of n m) left (Moving passes ticks) (Moved false passes ticks) m m refl (λ place. omega arith)) (same_adds m.outside.outer m.outside.outer refl) (λ x has. has)
      (still_fits n (many_on_air m) left (Moving passes ticks) (Moved false passes ticks) (λ place. omega arith) (omega arith)) comes)
      w

  arriving_waits : (ticks : ℕ) (m : Machine) → Awaits m → WaitsFor whole n most (Ticked ticks) m → WaitsFor whole n most (Arriving (m.outside.outer.air.frames.sent - m.outside.outer.air.frames.landed) ticks) m
  arriving_waits ticks m is w =
      stays (Ticked ticks) (Arriving (m.outside.outer.air.frames.sent - m.outside.outer.air.frames.landed) ticks) m (omega arith) (λ a. a)
      (λ left. record {
        joint = λ place less.
            let soon = sooner place (m.outside.outer.air.frames.sent - m.outside.outer.air.frames.landed)
            (subst (λ (k : ℕ). place < k) (airs.count is.log (on_air m.outside.outer.air.frames) m.outside.outer.air.frames is.follows.fly) less) in
            omega (arith, soon);
        alone = omega arith;
      })
      (λ left. busy_still n (session_of n m) left (Ticked ticks) (Arriving (m.outside.outer.air.frames.sent - m.outside.outer.air.frames.landed) ticks) m m refl (λ place. omega arith)) w

  giving_waits : (results ticks : ℕ) (m : Machine) → WaitsFor whole n most (Arriving zero ticks) m → WaitsFor whole n most (Giving results ticks) m
  giving_waits results ticks m w =
      stays (Arriving zero ticks) (Giving results ticks) m (omega arith) (λ a. a) (λ left. record { joint = λ place less. let late = never_sooner place in omega (arith, late); alone = omega arith })
      (λ left. busy_still n (session_of n m) left (Arriving zero ticks) (Giving results ticks) m m refl (λ place. omega arith)) w

  -- the devices are to tick
  devices_wait : (ticks : ℕ) (m : Machine) → WaitsFor whole n most (Giving zero ticks) m → WaitsFor whole n most (Ticking_devices 0 (length m.outside.devices) ticks) m
  devices_wait ticks m w =
      stays (Giving zero ticks) (Ticking_devices 0 (length m.outside.devices) ticks) m (omega arith) (λ a. a)
      (λ left. still_fits n (many_on_air m) left (Giving zero ticks) (Ticking_devices 0 (length m.outside.devices) ticks) (λ place. omega arith) (omega arith)) (λ left at few.
      At_work at
      (to_tick (unless_ticking (nat_le 0 at.place && nat_lt at.place (0 + length m.outside.devices))) at.device.work_left left (none_ticked (length m.outside.devices) at.place (place_within m.outside.devices at.place at.device at.stands)) few)) w

  pub turns_wait : (here next : Phase) (m : Machine) → Turns here m next → AwaitsAt here m → TieAt here m → LineAt next m → TieAt next m → WaitsFor whole n most here m → WaitsFor whole n most next m
  turns_wait (Begun line) next m (inl (events, is, same)) awaits tie line_next tie_next w = to_is next (Doing line events) m same (simply (Begun line) (Doing line events) m (λ a. a) (λ place. omega arith) (omega arith) (λ place. omega arith) (omega arith) w)
  turns_wait (Begun line) next m (inr (ticks, is, same)) awaits tie line_next tie_next w = to_is next (To_tick ticks) m same (simply (Begun line) (To_tick ticks) m (λ a. a) (λ place. omega arith) (omega arith) (λ place. omega arith) (omega arith) w)
  turns_wait (Doing line []) next m same awaits tie line_next tie_next w = to_is next (Sleeping 64 0) m same (simply (Doing line []) (Sleeping 64 0) m (λ a. a) (λ place. omega arith) (omega arith) (λ place. omega arith) (omega arith) w)
  turns_wait (To_tick zero) next m same awaits tie line_next tie_next w = to_is next Between m same (simply (To_tick zero) Between m (λ a. a) (λ place. omega arith) (omega arith) (λ place. omega arith) (omega arith) w)
  turns_wait (Ticked ticks) next m same awaits tie line_next tie_next w = to_is next (Arriving _ ticks) m same (arriving_waits ticks m awaits w)
  turns_wait (Arriving zero ticks) next m same awaits tie line_next tie_next w = to_is next (Giving _ ticks) m same (giving_waits _ ticks m w)
  turns_wait (Giving zero ticks) next m same awaits tie line_next tie_next w = to_is next (Ticking_devices 0 (length m.outside.devices) ticks) m same (devices_wait ticks m w)
  turns_wait (Ticking_devices place zero ticks) next m same awaits tie line_next tie_next w =
      to_is next (Ticking_chip ticks) m same (simply (Ticking_devices place zero ticks) (Ticking_chip ticks) m (λ a. a) (λ at. omega arith) (omega arith) (λ at. last_ticked (unless_ticking (nat_le place at && nat_lt at (place + 0))) (all_ticked place at)) (omega arith) w)
  turns_wait (Ticking_host [] ticks) next m same awaits tie line_next tie_next w = to_is next (Sleeping 64 ticks) m same (simply (Ticking_host [] ticks) (Sleeping 64 ticks) m (λ a. a) (λ place. omega arith) (omega arith) (λ place. omega arith) (omega arith) w)
  turns_wait (Sleeping passes ticks) next m (none, same) awaits tie line_next tie_next w =
      to_is next (Submitting passes ticks) m same (simply (Sleeping passes ticks) (Submitting passes ticks) m (λ a. a) (λ place. omega arith) (omega arith) (λ place. omega arith) (omega arith) w)
  turns_wait (Submitting passes ticks) next m (pumped, same) awaits tie line_next tie_next w =
      to_is next (after_pump passes ticks) m same (pumped_waits passes ticks m (subst (λ (q : Phase). LineAt q m) same line_next) w)
  turns_wait (Moving passes ticks) next m (still, same) awaits tie line_next tie_next w =
      to_is next (Moved false passes ticks) m same (still_waits passes ticks m tie (subst (λ (q : Phase). TieAt q m) same tie_next) w)
  turns_wait (Moved b passes ticks) next m (still, same) awaits tie line_next tie_next w =
      to_is next (Sleeping (passes_after b passes) ticks) m same (simply (Moved b passes ticks) (Sleeping (passes_after b passes) ticks) m (λ a. a) (λ place. omega arith) (omega arith) (λ place. omega arith) (omega arith) w)
  turns_wait here next m turns awaits tie line_next tie_next w = absurd turns

  pub said_waits : (line : Line) (m : Machine) → WaitsFor whole n most Between m → WaitsFor whole n most (Said_line line) m
  said_waits line m w = simply Between (Said_line line) m (λ a. a) (λ place. omega arith) (omega arith) (λ place. omega arith) (omega arith) w

-- ---- the walk

node_in_time : (these : List Bool) (here : Phase) (m : Machine) (n : ℕ) → NodeFacts (node_of m.host.state n) → AllWaitFor these here m → KnowsWorkers these m.host.state → (is_marked these n ≡ true) ⊎ (is_marked these n ≡ false) → (node_of m.host.state n).attempt_wait ≢ 1
node_in_time these here m n facts all knows (inl marked) = lasts_of true n 6 here m facts (all n marked)
node_in_time these here m n facts all knows (inr other) = idle_lasts (node_of m.host.state n) facts (knows.others n other).idle

pub in_time : (these : List Bool) (here : Phase) (past : List Entry) (m : Machine) (event : Event) → IsKeptFor these past → KnowWaits these here past m → IsInTime m event
in_time these here past m (Host_does (Node_ticks n)) is known =
    let stretched = is.worked.stretched in
    let at = known is in
    let tied = (at.0.0.0 stretched).0.tied stretched.quiet in
    node_in_time these here m n (tied.7.facts.nodes.facts n) at.1.waits (at.0.0.1 stretched) (either_mark these n)
in_time these here past m (Host_does event) is known = tt
in_time these here past m event is known = tt

-- ---- with the first attempts

-- what is known on a walk, and that each series is at its first attempt
module _ (these : List Bool) (Has : Machine → Event → Type 0) (Knows : Phase → List Entry → Machine → Type 0) (walk : WalkWhere Has AsksNothing Knows)
    (staff : (here : Phase) (past : List Entry) (m : Machine) → IsKeptFor these past → Knows here past m → KnowWorkers these here past m × Staffed these here m)
    (heard : (here : Phase) (past : List Entry) (m : Machine) (event : Event) → IsKeptFor these past → Knows here past m → AndInTime IsHeardThen m event) where
  pub with_first : WalkWhere (AndInTime IsHeardThen) AsksNothing (KnowFirst (IsWorkedFor these) (KnowStaff these)) → WalkWhere Has AsksNothing (λ here past m. Knows here past m × (IsKeptFor these past → AllFirst m.host.state))
  with_first first = record {
    said = λ past m words line read known. (
      tt,
      (
        (walk.said past m words line read known.0).1,
        λ is.
            let before = kept_before these past (entry.Said words ∷ []) is in
            ((first.said past m words line read (λ worked. staff Between past m before known.0, λ worked. known.1 before)).1).1 is.worked,
      ),
    );
    event = λ here next past m event goes may has known. (
      nothing_asked past (entries m event),
      (
        (walk.event here next past m event goes may has known.0).1,
        λ is.
            let before = kept_before these past (entries m event) is in
            ((first.event here next past m event goes may (heard here past m event before known.0) (λ worked. staff here past m before known.0, λ worked. known.1 before)).1).1 is.worked,
      ),
    );
    turn = λ here next past m turns known. (
      walk.turn here next past m turns known.0,
      λ is. ((first.turn here next past m turns (λ worked. staff here past m is known.0, λ worked. known.1 is)).1) is.worked,
    );
  }

-- what is proved of the frames of the host, and of the device of a node that listens, or sleeps
pub record Hearing (these : List Bool) : Type 0 where
  pub frames : (here next : Phase) (past : List Entry) (m : Machine) (event : Event) → Goes here m event next → May m event → AreQuiet past → Knows these here past m → IsSentTo these m event → AllFor these m → AllFor these (happens m event)
  pub listening : (here next : Phase) (past : List Entry) (m : Machine) (event : Event) → Goes here m event next → May m event → AreQuiet past → Knows these here past m → IsSentTo these m event → AllListen these m
      → AllListen these (happens m event)
  pub said : (n : ℕ) → is_marked these n ≡ true → (device : State) (past : List Entry) (m : Machine) (words : List ℕ) (line : Line) → line_of (entry.Said words) ≡ line ∷ [] → AreWokenSo these (past ++ entry.Said words ∷ [])
      → SleeperAt n device Between past m → SleeperAt n device (Said_line line) (past ++ entry.Said words ∷ []) m
  pub turn : (n : ℕ) (device : State) (here next : Phase) (past : List Entry) (m : Machine) → Turns here m next → LineAt here m → SleeperAt n device here past m → SleeperAt n device next past m
  pub event : (n : ℕ) → IsAlone these n → (here next : Phase) (past : List Entry) (m : Machine) (event : Event) → Goes here m event next → May m event → IsWorkedFor these (past ++ entries m event) → KnowStaff these here past m
      → KnowStaff these next (past ++ entries m event) (happens m event) → lines_run (entries m event) ≡ [] → is_joined m.outside.outer.air n ≡ true → IsInTime m event → StaysUp these m event → SaysAs these m event
      → (is : HasSleeper n m.outside.devices) → (later : HasSleeper n (happens m event).outside.devices) → SleeperAt n is.device here past m → SleeperAt n later.device next (past ++ entries m event) (happens m event)
  pub stays : (n : ℕ) (m : Machine) (event : Event) → HasSleeper n m.outside.devices → HasSleeper n (happens m event).outside.devices

-- each of these stays joined in the air
pub joined_on : (these : List Bool) (here next : Phase) (m : Machine) (event : Event) → Goes here m event next → LineAt here m → May m event → AreInAir these m → AreInAir these (happens m event)
joined_on these here next m event goes at may joined n marked =
    let same : members (happens m event).outside.outer ≡ members m.outside.outer = event_members (members m.outside.outer) m event (covers_of here next m event goes at) may refl in
    ap (λ (ms : Members). slice_index_or ms.in_air n false) same ∙ joined n marked

module _ (airs : Airs) (these : List Bool) (many : length these ≡ 233) (none : is_marked these 0 ≡ false) (laws : Devices) (ears : Hearing these) (staff : WalkWhere IsHeardThen AsksNothing (KnowStaff these)) where
  six_most : (here : Phase) → most_then 6 here ≤ 6
  six_most (To_tick (suc ticks)) = omega arith
  six_most here = omega arith

  with_six : (n : ℕ) (here next : Phase) (m : Machine) (event : Event) → WaitsFor true n (most_then 6 here) next (happens m event) ⊎ (((node_of m.host.state n).series ≡ series.Due) × WaitsFor true n 6 next (happens m event)) → WaitsFor true n 6 next (happens m event)
  with_six n here next m event (inl w) = later_waits true n (most_then 6 here) 6 next (happens m event) (six_most here) w
  with_six n here next m event (inr (due, w)) = w

  -- ---- what is known at an event

  -- each frame of the host that arrives is heard
  pub heard_then : (here : Phase) (past : List Entry) (m : Machine) (event : Event) → IsKeptFor these past → KnowWaits these here past m → IsHeardThen m event
  heard_then here past m event is known =
      let stretched = is.worked.stretched in
      let at = known is in
      let tied = (at.0.0.0 stretched).0.tied stretched.quiet in
      all_heard airs these here past m event (awaits_of here m tied.1) tied.7.live at.1.hears

  pub sent_then : (here next : Phase) (past : List Entry) (m : Machine) (event : Event) → Goes here m event next → May m event → IsKeptFor these past → KnowWaits these here past m → IsSentTo these m event
  sent_then here next past m event goes may is known =
      let stretched = is.worked.stretched in
      let at = known is in
      let tied = (at.0.0.0 stretched).0.tied stretched.quiet in
      sent_on these here next m event goes may tied.0 tied.6 (at.0.0.1 stretched).request

  staff_then : (here next : Phase) (past : List Entry) (m : Machine) (event : Event) → Goes here m event next → May m event → IsKeptFor these past → KnowWaits these here past m → KnowStaff these next (past ++ entries m event) (happens m event)
  staff_then here next past m event goes may is known = (staff.event here next past m event goes may (heard_then here past m event is known) (λ worked. (known is).0)).1

  -- the device of a node that sleeps is where that may be
  pub sleeper_on : (here next : Phase) (past : List Entry) (m : Machine) (event : Event) → Goes here m event next → May m event → IsPlainlyUp these m event → IsKeptFor these (past ++ entries m event) → KnowWaits these here past m
      → (n : ℕ) → IsAlone these n → (is : HasSleeper n m.outside.devices) → (later : HasSleeper n (happens m event).outside.devices) → SleeperAt n is.device here past m → SleeperAt n later.device next (past ++ entries m event) (happens m event)
  sleeper_on here next past m event goes may has is known n alone sleeper later at =
      let before = kept_before these past (entries m event) is in
      let up = has.1 n alone.marked sleeper in
      ears.event n alone here next past m event goes may is.worked (λ worked. (known before).0) (staff_then here next past m event goes may before known) (event_lines m event may) ((known before).1.joined n alone.marked)
      (in_time these here past m event before known) up.0 up.1 sleeper later at

  hears_on : (here next : Phase) (past : List Entry) (m : Machine) (event : Event) → Goes here m event next → May m event → IsPlainlyUp these m event → IsKeptFor these (past ++ entries m event) → KnowWaits these here past m
      → AllHear these here past m → AllHear these next (past ++ entries m event) (happens m event)
  hears_on here next past m event goes may has is known hears = by hears
    where
      before : IsKeptFor these past
      before = kept_before these past (entries m event) is

      quiet : AreQuiet past
      quiet = before.worked.stretched.quiet

      knows : Knows these here past m
      knows = ((known before).0.0.0 before.worked.stretched).0

      sent : IsSentTo these m event
      sent = sent_then here next past m event goes may before known

      by : AllHear these here past m → AllHear these next (past ++ entries m event) (happens m event)
      by (All_listen all) = All_listen (ears.listening here next past m event goes may quiet knows sent all)
      by (One_sleeps n alone frames sleeper at) =
          let later = ears.stays n m event sleeper in
          One_sleeps n alone (ears.frames here next past m event goes may quiet knows sent frames) later (sleeper_on here next past m event goes may has is known n alone sleeper later at)

  hears_said : (past : List Entry) (m : Machine) (words : List ℕ) (line : Line) → line_of (entry.Said words) ≡ line ∷ [] → IsKeptFor these (past ++ entry.Said words ∷ []) → AllHear these Between past m
      → AllHear these (Said_line line) (past ++ entry.Said words ∷ []) m
  hears_said past m words line read is (All_listen all) = All_listen all
  hears_said past m words line read is (One_sleeps n alone frames sleeper at) = One_sleeps n alone frames sleeper (ears.said n alone.marked sleeper.device past m words line read is.worked.woken at)

  hears_turn : (here next : Phase) (past : List Entry) (m : Machine) → Turns here m next → LineAt here m → AllHear these here past m → AllHear these next past m
  hears_turn here next past m turns line (All_listen all) = All_listen all
  hears_turn here next past m turns line (One_sleeps n alone frames sleeper at) = One_sleeps n alone frames sleeper (ears.turn n sleeper.device here next past m turns line at)

  -- ---- from phase to phase

  all_on : (here next : Phase) (past : List Entry) (m : Machine) (event : Event) → Goes here m event next → May m event → IsPlainlyUp these m event → (is : IsKeptFor these (past ++ entries m event)) → KnowWaits these here past m
      → KnowStaff these next (past ++ entries m event) (happens m event) → AreWaiting these next (past ++ entries m event) (happens m event)
  all_on here next past m event goes may has is known later =
      let before = kept_before these past (entries m event) is in
      let stretched = before.worked.stretched in
      let at = known before in
      let tied = (at.0.0.0 stretched).0.tied stretched.quiet in
      let next_tied = ((later is.worked).0.0 is.worked.stretched).0.tied is.worked.stretched.quiet in
      let sent = sent_then here next past m event goes may before known in
      let was = at.1 in
      record {
        waits = λ n marked.
            with_six n here next m event
            (event_waits airs these many laws true n 6 marked (node_within these many none n marked) here next m event goes may (has.0 n marked).step (keeps m event (told_kept these past (entries m event) is))
            (λ asked same. plain_start these m asked (subst (May m) same may) tied.7.facts was.whole) tied.0 tied.1 tied.2 tied.3 tied.6 tied.7
            (heard_then here past m event before known) sent was.joined (was.waits n marked) next_tied.0);
        whole = on_whole these here next m event goes tied.0 may (λ n marked. (was.waits n marked).openly) has.0 was.whole;
        joined = joined_on these here next m event goes tied.0 may was.joined;
        hears = hears_on here next past m event goes may has is known was.hears;
      }

  pub waits_walk : WalkWhere (IsPlainlyUp these) AsksNothing (KnowWaits these)
  waits_walk = record {
    said = λ past m words line read known. (
      tt,
      λ is.
          let was = known (kept_before these past (entry.Said words ∷ []) is) in (
            (staff.said past m words line read (λ worked. was.0)).1 is.worked,
            record {
              waits = λ n marked. said_waits airs these many laws true n 6 marked (node_within these many none n marked) line m (was.1.waits n marked);
              whole = was.1.whole;
              joined = was.1.joined;
              hears = hears_said past m words line read is was.1.hears;
            },
          ),
    );
    event = λ here next past m event goes may has known. (
      nothing_asked past (entries m event),
      λ is.
          let later = staff_then here next past m event goes may (kept_before these past (entries m event) is) known in
          (later is.worked, all_on here next past m event goes may has is known later),
    );
    turn = λ here next past m turns known is.
        let was = known is in
        let later = staff.turn here next past m turns (λ worked. was.0) is.worked in
        let stretched = is.worked.stretched in
        let tied = (was.0.0.0 stretched).0.tied stretched.quiet in
        let next_tied = (later.0.0 stretched).0.tied stretched.quiet in (
          later,
          record {
            waits = λ n marked. turns_wait airs these many laws true n 6 marked (node_within these many none n marked) here next m turns tied.1 tied.6 next_tied.0 next_tied.6 (was.1.waits n marked);
            whole = was.1.whole;
            joined = was.1.joined;
            hears = hears_turn here next past m turns tied.0 was.1.hears;
          },
        );
  }

  -- so each series stays at its first attempt
  pub plainly_walk : WalkWhere (AndInTime IsHeardThen) AsksNothing (KnowFirst (IsWorkedFor these) (KnowStaff these)) → WalkWhere (IsPlainlyUp these) AsksNothing (KnowPlainly these)
  plainly_walk first =
      with_first these (IsPlainlyUp these) (KnowWaits these) waits_walk (λ here past m is known. (known is).0)
      (λ here past m event is known. (heard_then here past m event is known, in_time these here past m event is known)) first
