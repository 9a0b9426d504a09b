-- At each step of a host alone that goes by what is heeded, and wherever a part begins, each node is tied to its attempts, where what waits at a request is what waits by the transcript.
use Rattle.std.proofs.Common.{◌≡◌, ℕ, ◌+◌, ◌-◌, ◌≤◌, ◌<◌, ◌||◌, Bool, true, false, inl, inr, List, [], ◌∷◌, ◌++◌, length, map, Option, Some, None, refl, sym, ap, ◌∙◌, subst, append-nil, append_assoc, arith}
use Rattle.std.specs.Prelude.{is_some, nat_le}
use Rattle.std.specs.List.{AllByRecursion, list_any}
use Rattle.std.proofs.lemmas.Bool.{both_ways, le-leb, or_left}
use Rattle.zw_base.proofs.Each.{all-append}
use Rattle.serial_frame.specs.Frame.{FrameParts}
use Rattle.serial_frame.specs.Items.{unit_text}
use Rattle.serial_frame.specs.declared.item.Item.{Item}
use Rattle.serial_frame.specs.declared.item.Item.TheVariants.{Good, Refused as refused_item}
use Rattle.serial_frame.specs.declared.item.Refusal.TheVariants.{Stray, BadLength, BadSum, BadKind, Aborted}
use Rattle.serial_frame.specs.declared.unit.TheConstants.{ACK}
use Rattle.serial_frame.specs.declared.unit.Unit.{Unit as LineUnit}
use Rattle.serial_frame.specs.declared.unit.Unit.TheVariants.{Ack, Nak, Can, Framed}
use Rattle.serial_link.specs.State.{Side, turn_refused}
use Rattle.zw_words.specs.declared.side.Side.TheVariants.{Host, Chip}
use Rattle.zw_text.specs.declared.line.Line.{Line}
use Rattle.zw_text.specs.declared.line.Line.TheVariants as lines
use Rattle.zw_text.specs.declared.entry.Refusal.{Refusal}
use Rattle.zw_text.specs.declared.entry.Entry.{Entry}
use Rattle.zw_text.specs.declared.entry.Entry.TheVariants as entry
use Rattle.host_heard.specs.declared.told.Told.{Told}
use Rattle.law_transcript.specs.Restarts.{is_restart}
use Rattle.law_transcript.specs.Units.{Carried, is_frame, notice_in}
use Rattle.law_time.specs.Attempts.{ends_badly, is_bad}
use Rattle.law_time.specs.Ends.{ending, giving_up, silence}
use Rattle.law_time.specs.Judged.{is_data}
use Rattle.law_time.specs.Heeds.{Heeds}
use Rattle.law_time.specs.Moments.{clock}
use Rattle.law_time.specs.Requests.{Asked as AskedLast, asked, is_answer}
use Rattle.host_requests.specs.Events.{RequestsEvent, end_at}
use Rattle.host_requests.specs.Events.RequestsEvent.{Fails, IsSent, Ticks}
use Rattle.host_requests.specs.Next.{at_sent, sent_from}
use Rattle.host_requests.specs.State.{RequestsState}
use Rattle.host_requests.specs.declared.end.End.{End}
use Rattle.host_requests.specs.declared.end.How.{How}
use Rattle.host_requests.specs.declared.end.How.TheVariants.{LinkFailed}
use Rattle.host_requests.specs.declared.next.Next.TheVariants.{Ends}
use Rattle.host_requests.specs.declared.task.Purpose.{Purpose}
use Rattle.host_requests.specs.declared.task.Purpose.TheVariants.{Attempt}
use Rattle.host_requests.specs.declared.under_way.Progress.{Progress}
use Rattle.host_requests.specs.declared.under_way.Progress.TheVariants.{Answered, Sent, Submitted}
use Rattle.host_requests.specs.declared.under_way.UnderWay.{UnderWay}
use Rattle.supervision.specs.Host.{open_session}
use Rattle.host_node.specs.declared.attempt.Moment.{Moment}
use Rattle.host_node.specs.declared.attempt.Moment.TheVariants.{BeforeItsTick}
use Rattle.host_node.specs.declared.series.Series.TheVariants.{Running}
use Rattle.host_node.specs.State.{NodeState, is_idle}
use Rattle.host_model.specs.State.{HostState, node_of}
use Rattle.host_model.specs.After.{after, gives_up, is_busy, is_full}
use Rattle.host_model.specs.Ends.{part_end}
use Rattle.host_model.specs.Did.{MayAll}
use Rattle.host_model.specs.Events.{HostEvent, Begins, Begin_unkept, Hears, Interview_unkept, Interviews, Line_ticks, Node_ticks, Requests_do, Starts, Submits_abort, Submits_front, Gives_text, Gives_segment, Works}
use Rattle.host_model.specs.Facts.{HostFacts}
use Rattle.host_model.specs.May.{May as May_event}
use Rattle.host_model.specs.Outs.{answer_to, answers, outs, request_entries}
use Rattle.host_model.specs.Pumping.{IsNext, no_more_event}
use Rattle.host_model.specs.Taking.{told_if}
use Rattle.host_model.specs.Ticking.{tick_events, ticking_nodes}
use Rattle.host_model.specs.declared.out.HostOut.TheVariants.{Write}
use Rattle.host_model.proofs.Submitted.{SleepersAre, next_is, no_more_is}
use Rattle.world_model.specs.Events.{OpensFrom, shown_values}
use Rattle.proof_host.specs.Facts.{Facts}
use Rattle.proof_queue.specs.Heeding.{HeedsAs}
use Rattle.proof_queue.specs.proof_attempts.Since.{KnowsSince, InTick, IsElse, is_to_tick, node_clock}
use Rattle.proof_queue.specs.proof_attempts.proof_requests.Asking.{TieAsked, doing_of}
use Rattle.proof_queue.specs.proof_attempts.proof_requests.Ends.{GivenUp}
use Rattle.proof_queue.specs.proof_attempts.proof_requests.proof_waking.Judged.{TieFrames}
use Rattle.proof_queue.specs.proof_attempts.proof_work.Doing.{IsTold}
use Rattle.proof_queue.specs.proof_attempts.proof_requests.Walking.{AddsWell, Ground as RequestsGround, HalfTick, BeforeTick, IsNodeTick, IsTied, KnowsAsked, KnowsTick}
use Rattle.proof_queue.specs.proof_attempts.proof_requests.law_host.Heard.{heeds_alone}
use Rattle.proof_queue.specs.proof_attempts.proof_requests.proof_alone.State.{HostMachine, done}
use Rattle.proof_queue.specs.proof_attempts.proof_requests.proof_alone.Steps.{AreTold, IsAskedBy, IsOfOthers, IsOfUnit, Step, Tells, Comes, Misses, Says, Says_nothing, Asks, Refuses, Shows, Restarts, Begins_tick, Numbers, Judges, Does, entries, happens}
use Rattle.proof_queue.specs.proof_attempts.proof_requests.proof_alone.Phases.{Phase, Resting, Asked, Risen, Ticking, Open, Behind, Sleeping, Submitting, IsBetween, IsJudgedNow, IsNumbered, May, MayCome, Turns}
use Rattle.proof_queue.proofs.Doings.{node_after}
use Rattle.proof_queue.proofs.EndsLate.{denied_here}
use Rattle.proof_queue.proofs.Holding.{clock_now}
use Rattle.proof_queue.proofs.InOrder.{is_asked}
use Rattle.proof_queue.proofs.Queued.{PayloadsBring}
use Rattle.proof_queue.proofs.Queueing.{opened_asks}
use Rattle.proof_queue.proofs.Stepping.{asked_on, behind_notes, first_same, node_notes, none_on, not_awaiting, sleep_notes, time_told, IsSubmission, all_nodes, left_same, submissions}
use Rattle.proof_queue.proofs.proof_attempts_Walking.{event_quiet, noted_notes, others_quiet}
use Rattle.proof_queue.proofs.proof_requests_EndsHere.{cannot_end, ends_same}
use Rattle.proof_queue.proofs.proof_requests_Telling.{IsQuiet, quiet_on, mark_quiet}
use Rattle.proof_queue.proofs.proof_requests_Judging.{or_false}
use Rattle.proof_queue.proofs.Wrote.{chip_told}
use Rattle.proof_queue.proofs.Late.{less}
use Rattle.proof_queue.proofs.Lasting.{between_else}
use Rattle.proof_queue.proofs.proof_waking_Parts.{unit_told}
use Rattle.proof_giving.specs.Told.{LeavesAttempts}
use Rattle.proof_giving.specs.Stays.{ShowsSessions}
use Rattle.proof_giving.specs.Tie.{AttemptsAs, AttemptsSo, IsRequest, WaitsAsTold, is_bad_part, is_good_for, is_inner_now}
use Rattle.proof_giving.specs.Walking.{CountsAttempts, CountsBefore, EndsAsTold, EndsSo, Grounds, IsMild, KnowsAttempts, WaitsAt, gives_sign, request_clock, works_among, works_at}
use Rattle.proof_giving.proofs.Along.{is_opened, shown}
use Rattle.proof_giving.proofs.Asked.{asked_goes}
use Rattle.proof_giving.proofs.Asking.{asks_goes}
use Rattle.proof_giving.proofs.Badly.{last_true}
use Rattle.proof_giving.proofs.Fewer.{end_opens}
use Rattle.proof_giving.proofs.Finished.{EndsWith}
use Rattle.proof_giving.proofs.Framed.{judged_goes, mild_ends, mild_signs}
use Rattle.proof_giving.proofs.Inner.{inner_kept, inner_told}
use Rattle.proof_giving.proofs.Interviewed.{interviewed_goes}
use Rattle.proof_giving.proofs.Mild.{IsNoSign}
use Rattle.proof_giving.proofs.Orders.{event_keeps}
use Rattle.proof_giving.proofs.Quiet.{answered_so, begins_goes, missed_so, quiet_so, said_so, starts_goes, vain_so}
use Rattle.proof_giving.proofs.Requesting.{bad_failed, event_ends, failing_no_good, request_goes, sent_no_good}
use Rattle.proof_giving.proofs.Staying.{IsCalm, calm_goes, works_goes}
use Rattle.proof_giving.proofs.Stays.{over_of, stays_quiet}
use Rattle.proof_giving.proofs.Ticked.{TicksWith, line_ticks_so, node_ticks_so, not_ticking, request_ticks_so}

-- ---- the ground

pub ground : {heeds : Heeds} (here : Phase) (past : List Entry) (m : HostMachine) → Grounds heeds here past m → RequestsGround here past m
ground here past m g = g.sleep.0.0.0.1.0

asked_so : {heeds : Heeds} (here : Phase) (past : List Entry) (m : HostMachine) → Grounds heeds here past m → KnowsAsked here past m
asked_so here past m g = g.sleep.0.0.0.1.1

pub in_tick : {heeds : Heeds} (here : Phase) (past : List Entry) (m : HostMachine) → Grounds heeds here past m → KnowsSince InTick here past m
in_tick here past m g = g.sleep.0.0.0.0.0.0.0.0.1

tables : {heeds : Heeds} (here : Phase) (past : List Entry) (m : HostMachine) → Grounds heeds here past m → Facts past m.state
tables here past m g = (ground here past m g).0.0.0.0.0.facts

-- ---- entries of others

others_leave : (e : Entry) → IsOfOthers e → LeavesAttempts e
others_leave (entry.Air frame sender receiver repeaters payload) others = tt
others_leave (entry.Heard frame) others = tt
others_leave (entry.Lost frame) others = tt
others_leave (entry.Unheard frame) others = tt
others_leave (entry.Dev node by setting) others = tt
others_leave (entry.Device node setting) others = tt
others_leave (entry.Forget first second) others = tt
others_leave entry.ChipFull others = tt
others_leave (entry.Cleared side count) others = tt
others_leave e others = absurd others

-- ---- which events come where

abbrev IsSleeper : HostEvent → Type 0
IsSleeper event = IsCalm event × IsNoSign event

sleepers : SleepersAre IsSleeper
sleepers = record { queues = λ n. (tt, tt); drops = λ n. (tt, tt) }

abbrev IsNoFrame : Item → Type 0
IsNoFrame (Good (Framed f)) = ⊥
IsNoFrame item = Unit {0}

nak_quiet : (told : List Entry) → AreTold (Write Nak ∷ []) told → AllByRecursion IsQuiet told
nak_quiet told are = unit_told IsQuiet mark_quiet Nak told refl are

-- what an item that is no frame is answered is quiet
item_quiet : (item : Item) (told : List Entry) → IsNoFrame item → AreTold (answer_to item) told → AllByRecursion IsQuiet told
item_quiet (Good (Framed f)) told none are = absurd none
item_quiet (Good Ack) told none are = subst (AllByRecursion IsQuiet) (sym are) tt
item_quiet (Good Nak) told none are = subst (AllByRecursion IsQuiet) (sym are) tt
item_quiet (Good Can) told none are = subst (AllByRecursion IsQuiet) (sym are) tt
item_quiet (refused_item (BadSum want got)) told none are = nak_quiet told are
item_quiet (refused_item (BadKind x)) told none are = nak_quiet told are
item_quiet (refused_item (Stray x)) told none are = subst (AllByRecursion IsQuiet) (sym are) tt
item_quiet (refused_item (BadLength n)) told none are = subst (AllByRecursion IsQuiet) (sym are) tt
item_quiet (refused_item Aborted) told none are = subst (AllByRecursion IsQuiet) (sym are) tt

-- the line gives the last request up at this time
given_up_badly : (inner : Bool) (past : List Entry) (now : ℕ) → giving_up (asked past) ≡ now ∷ [] → ends_badly (asked past) inner now ≡ true
given_up_badly inner past now given =
    last_true (list_any (λ one. is_frame one.unit 1 || list_any (is_bad inner) (notice_in one.unit)) (ending (asked past))) (list_any (λ tick. nat_le tick now) (silence (asked past)))
    (list_any (λ tick. nat_le tick now) (giving_up (asked past)))
    (ap (λ (l : List ℕ). list_any (λ tick. nat_le tick now) l) given ∙ or_left (nat_le now now) false (le-leb now now (omega arith)))

-- an acknowledgement ends no attempt
sent_not : (u : UnderWay) (n : ℕ) (more : Bool) (payload : List ℕ) (how : How) → u.purpose ≡ Attempt n more payload → at_sent u ≡ Ends how → ⊥
sent_not u n more payload how purpose ends = by u.progress (sym (ap (λ (p : Purpose). sent_from p u.progress) purpose) ∙ ends)
  where
    by : (progress : Progress) → sent_from (Attempt n more payload) progress ≡ Ends how → ⊥
    by Submitted is = cannot_end _ how is
    by (Sent left) is = cannot_end _ how is
    by (Answered sent left) is = cannot_end _ how is

node_left : (left : List HostEvent) (now : ℕ) → AllByRecursion IsNodeTick left → request_clock (Ticking left) now ≡ now
node_left [] now all = refl
node_left (Node_ticks n ∷ left) now all = refl
node_left (event ∷ left) now all = absurd all.0

numbered_else : (here : Phase) (past : List Entry) (m : HostMachine) → m.awaits ≡ true → RequestsGround here past m → IsElse here
numbered_else (Asked line) past m awaits g = absurd (both_ways m.awaits g.0.0.1.unnumbered awaits)
numbered_else here past m awaits g = tt

unkept_quiet : (h : HostState) (k : ℕ) (told : List Entry) → AreTold (outs h (Begin_unkept k)) told → AllByRecursion IsQuiet told
unkept_quiet h k told (rest, is, none) = subst (AllByRecursion IsQuiet) (sym (is ∙ ap (λ (l : List Entry). entry.Unkept k ∷ l) none)) (tt, tt)

abbrev May_at : HostMachine → HostEvent → Type 0
May_at m event = May_event m.state event

module _ (ends : EndsWith) (ticks : TicksWith) (brings : PayloadsBring) (taken : List Entry → Carried → List Told) where
  abbrev heeds : Heeds
  heeds = heeds_alone taken

  abbrev Tie : Phase → List Entry → HostState → ℕ → Type 0
  Tie here past h now = CountsAttempts heeds here past h now

  abbrev Know : Phase → List Entry → HostMachine → Type 0
  Know here past m = KnowsAttempts heeds here past m

  abbrev Ground : Phase → List Entry → HostMachine → Type 0
  Ground here past m = Grounds heeds here past m

  known_to : (next to : Phase) (past : List Entry) (m : HostMachine) → next ≡ to → Know to past m → Know next past m
  known_to next to past m is known = subst (λ (p : Phase). Know p past m) (sym is) known

  known_at : (here is : Phase) (past : List Entry) (m : HostMachine) → here ≡ is → Know here past m → Know is past m
  known_at here is past m same known = subst (λ (p : Phase). Know p past m) same known

  ground_at : (here is : Phase) (past : List Entry) (m : HostMachine) → here ≡ is → Ground here past m → Ground is past m
  ground_at here is past m same g = subst (λ (p : Phase). Ground p past m) same g

  -- where no line was just said
  tie_of : (here : Phase) (past : List Entry) (m : HostMachine) → IsElse here → Know here past m → Tie here past m.state m.clock
  tie_of (Asked line) past m other known = absurd other
  tie_of here past m other known = known

  know_of : (here : Phase) (past : List Entry) (m : HostMachine) → IsElse here → Tie here past m.state m.clock → Know here past m
  know_of (Asked line) past m other tie = absurd other
  know_of here past m other tie = tie

  host : (here : Phase) (past : List Entry) (m : HostMachine) → Ground here past m → HostFacts m.state
  host here past m g = (tables here past m g).host

  -- ---- entries

  ends_quiet : (past told : List Entry) (now : ℕ) (h : HostState) (left : List HostEvent) → AllByRecursion IsQuiet told → EndsAsTold past now h left → EndsAsTold (past ++ told) now h left
  ends_quiet past told now h [] quiet ended = tt
  ends_quiet past told now h (Requests_do event moment ∷ left) quiet (none, so) = (
    none,
    λ u n more payload how under purpose end_is.
        let was = so u n more payload how under purpose end_is in
        (ap (λ (a : AskedLast). is_data a.frame) (quiet_on past told quiet) ∙ was.0, stays_quiet more past now told was.0 quiet ∙ was.1),
  )
  ends_quiet past told now h (event ∷ left) quiet ended = ended

  module _ (past told : List Entry) (h : HostState) (now : ℕ) (quiet : AllByRecursion IsQuiet told) (leaves : AllByRecursion LeavesAttempts told) (facts : HostFacts h) (shows : (n : ℕ) → ShowsSessions heeds past h n)
      (showing : (n : ℕ) → ShowsSessions heeds (past ++ told) h n) where
    one_quiet : (b : Bool) (n time at : ℕ) → AttemptsAs b heeds n past h time at → AttemptsAs b heeds n (past ++ told) h time at
    one_quiet b n time at so = quiet_so taken n b past h time at so facts (shows n) told quiet leaves (showing n)

    quiet_tie : (here : Phase) → IsElse here → Tie here past h now → Tie here (past ++ told) h now
    quiet_tie (Asked line) other tie = absurd other
    quiet_tie (Behind left) other tie = ((λ n from to. one_quiet (gives_sign n h left) n now now (tie.0 n from to)), ends_quiet past told now h left quiet tie.1)
    quiet_tie Resting other tie = λ n from to. one_quiet false n now now (tie n from to)
    quiet_tie Risen other tie = λ n from to. one_quiet false n (now - 1) (now - 1) (tie n from to)
    quiet_tie (Ticking left) other tie = λ n from to. one_quiet false n (node_clock (Ticking left) now n) (request_clock (Ticking left) now) (tie n from to)
    quiet_tie Open other tie = λ n from to. one_quiet false n now now (tie n from to)
    quiet_tie Sleeping other tie = λ n from to. one_quiet false n now now (tie n from to)
    quiet_tie Submitting other tie = λ n from to. one_quiet false n now now (tie n from to)

  quiet_step : (here : Phase) (past told : List Entry) (m later : HostMachine) → later.state ≡ m.state → later.clock ≡ m.clock → IsElse here → AllByRecursion IsQuiet told → AllByRecursion LeavesAttempts told
      → Ground here past m → ((n : ℕ) → ShowsSessions heeds (past ++ told) m.state n) → Know here past m → Know here (past ++ told) later
  quiet_step here past told m later same at other quiet leaves g showing known =
      know_of here (past ++ told) later other
      (subst (λ (h : HostState). Tie here (past ++ told) h later.clock) (sym same)
      (subst (λ (k : ℕ). Tie here (past ++ told) m.state k) (sym at)
      (quiet_tie past told m.state m.clock quiet leaves (host here past m g) g.shows showing here other (tie_of here past m other known))))

  -- where no part of the host runs
  each_between : (here : Phase) (past later : List Entry) (h : HostState) (now : ℕ) → IsBetween here → ((n time at : ℕ) → AttemptsSo heeds n past h time at → AttemptsSo heeds n later h time at)
      → Tie here past h now → Tie here later h now
  each_between Resting past later h now between goes tie = λ n from to. goes n now now (tie n from to)
  each_between Risen past later h now between goes tie = λ n from to. goes n (now - 1) (now - 1) (tie n from to)
  each_between Open past later h now between goes tie = λ n from to. goes n now now (tie n from to)
  each_between here past later h now between goes tie = absurd between

  -- an answer of the chip
  answer_comes : (here : Phase) (past : List Entry) (m : HostMachine) (unit : LineUnit) → here ≡ Open → is_answer (unit_text unit) ≡ true → m.awaits ≡ false → Ground here past m
      → ((n : ℕ) → ShowsSessions heeds (past ++ entry.Written Chip (unit_text unit) ∷ []) m.state n) → Know here past m → Know here (past ++ entry.Written Chip (unit_text unit) ∷ []) (happens m (Comes unit))
  answer_comes here past m unit is answers numbered g showing known =
      let there : Ground Open past m = ground_at here Open past m is g in
      let tied : IsTied past m = asked_so Open past m there in
      known_to here Open (past ++ entry.Written Chip (unit_text unit) ∷ []) (happens m (Comes unit)) is
      (λ n from to.
      let so : AttemptsSo heeds n past m.state m.clock m.clock = known_at here Open past m is known n from to in
      answered_so taken n false past m.state m.clock m.clock so (host Open past m there) (there.shows n) (doing_of m.state) (unit_text unit) m.came
      (λ none own. over_of past m.clock m.clock m.came (doing_of m.state) tied none (so.sends own).0) answers (sym (clock_now past m (ground Open past m there).0.0.0.1 numbered))
      (ground Open past m there).0.0.1.frames (showing n))

  comes : (here : Phase) (past : List Entry) (m : HostMachine) (unit : LineUnit) → IsBetween here → m.awaits ≡ false → MayCome here unit → Ground here past m
      → ((n : ℕ) → ShowsSessions heeds (past ++ entry.Written Chip (unit_text unit) ∷ []) m.state n) → Know here past m → Know here (past ++ entry.Written Chip (unit_text unit) ∷ []) (happens m (Comes unit))
  comes here past m (Framed f) between numbered may g showing known =
      quiet_step here past (entry.Written Chip (unit_text (Framed f)) ∷ []) m (happens m (Comes (Framed f))) refl refl (between_else here between) (refl, tt) (tt, tt) g showing known
  comes here past m Ack between numbered (inl framed) g showing known = absurd framed
  comes here past m Nak between numbered (inl framed) g showing known = absurd framed
  comes here past m Can between numbered (inl framed) g showing known = absurd framed
  comes here past m Ack between numbered (inr there) g showing known = answer_comes here past m Ack there refl numbered g showing known
  comes here past m Nak between numbered (inr there) g showing known = answer_comes here past m Nak there refl numbered g showing known
  comes here past m Can between numbered (inr there) g showing known = answer_comes here past m Can there refl numbered g showing known

  -- ---- lines

  -- with the words of a line that does not start the host again
  on_words : (line : Line) (past : List Entry) (m : HostMachine) → is_restart (line ∷ []) ≡ false → Ground (Asked line) past m → CountsBefore heeds line past m.state m.clock → Tie Resting past m.state m.clock
  on_words line past m goes_on g known = λ n from to.
      subst (λ (l : List Entry). AttemptsSo heeds n l m.state m.clock m.clock) (sym known.are)
      (said_so taken n false known.before m.state m.clock m.clock (known.tie n from to) (host (Asked line) past m g) (known.shows n) known.words (ap is_restart known.read ∙ goes_on)
      (subst (λ (l : List Entry). ShowsSessions heeds l m.state n) known.are (g.shows n)))

  asks : (line : Line) (past : List Entry) (m : HostMachine) (event : HostEvent) → IsAskedBy line m.state event → MayAll m.state (event ∷ []) → Ground (Asked line) past m
      → Ground Open (past ++ answers m.state event) (done m event) → CountsBefore heeds line past m.state m.clock → Know Open (past ++ answers m.state event) (done m event)
  asks line past m event is may g later known = λ n from to.
      asked_goes taken n to past m.state event (is_asked line m.state event is) may.0 (tables (Asked line) past m g) (host Open (past ++ answers m.state event) (done m event) later) (g.shows n) (later.shows n)
      m.clock (on_words line past m (asked_on line m.state event is) g known n from to)

  refuses : (line : Line) (past : List Entry) (m : HostMachine) (refusal : Refusal) → Ground (Asked line) past m → ((n : ℕ) → ShowsSessions heeds (past ++ entry.Refused refusal ∷ []) m.state n)
      → CountsBefore heeds line past m.state m.clock → Tie Open (past ++ entry.Refused refusal ∷ []) m.state m.clock
  refuses line past m refusal g showing known = λ n from to.
      let all : past ++ entry.Refused refusal ∷ [] ≡ known.before ++ entry.Said known.words ∷ (entry.Refused refusal ∷ [])
      = ap (λ (l : List Entry). l ++ entry.Refused refusal ∷ []) known.are ∙ append_assoc known.before (entry.Said known.words ∷ []) (entry.Refused refusal ∷ []) in
      subst (λ (l : List Entry). AttemptsSo heeds n l m.state m.clock m.clock) (sym all)
      (vain_so taken n false known.before m.state m.clock m.clock (known.tie n from to) (host (Asked line) past m g) (known.shows n) known.words refusal
      (subst (λ (l : List Entry). ShowsSessions heeds l m.state n) all (showing n)))

  restarts : (past : List Entry) (m : HostMachine) (state : HostState) → OpensFrom m.keys m.records state → Ground (Asked lines.Restart) past m → CountsBefore heeds lines.Restart past m.state m.clock
      → Tie Open past state m.clock
  restarts past m state opens g known = λ n from to.
      let told = (ground (Asked lines.Restart) past m g).0.0.0.0.0.told in
      let none : state.requests.under_way ≡ None = ap (λ (p : Side × RequestsState). p.1.under_way) (opened_asks m.keys m.records state told opens) in
      subst (λ (l : List Entry). AttemptsSo heeds n l state m.clock m.clock) (sym known.are)
      (starts_goes taken n known.before known.words m.keys m.records state m.clock m.clock (ap is_restart known.read) told opens none from)

  -- ---- an item

  module _ (past : List Entry) (m : HostMachine) (rest : List LineUnit) (behind : List HostEvent) (told : List Entry) (g : Ground Open past m) (known : Tie Open past m.state m.clock) where
    frame_judged : (f : FrameParts) → IsJudgedNow m (Good (Framed f)) rest behind told → Ground (Behind behind) (past ++ told) (happens m (Judges (Good (Framed f)) rest behind told))
        → HeedsAs heeds past m (Judges (Good (Framed f)) rest behind told) → Tie (Behind behind) (past ++ told) (after m.state (Hears (Good (Framed f)))) m.clock
    frame_judged f now later (followed, heeded) = by now.told_so
      where
        heard : HostState
        heard = after m.state (Hears (Good (Framed f)))

        by : AreTold (Write Ack ∷ []) told → Tie (Behind behind) (past ++ told) heard m.clock
        by (marks, more, is, marked, none) =
            let became : AllByRecursion IsOfUnit (marks ++ more) = all-append IsOfUnit marks more marked (subst (AllByRecursion IsOfUnit) (sym none) tt) in
            let time : clock past ≡ m.clock = time_told Open past told m (ground Open past m g) now.numbered (entry.Written Host (unit_text Ack)) (marks ++ more) is in
            let numbered : m.awaits ≡ false = not_awaiting m.awaits (entry.Written Host (unit_text Ack)) told (marks ++ more) now.numbered is in
            let later_time : clock (past ++ told) ≡ m.clock
            = sym (clock_now (past ++ told) (happens m (Judges (Good (Framed f)) rest behind told)) (ground (Behind behind) (past ++ told) (happens m (Judges (Good (Framed f)) rest behind told)) later).0.0.0.1 numbered) in
            let frames = subst (λ (l : List LineUnit). TieFrames past l) now.takes (ground Open past m g).0.0.1.frames in
            let tied : TieAsked past m.clock m.clock (Framed f ∷ rest) (doing_of m.state)
            = subst (λ (l : List LineUnit). TieAsked past m.clock m.clock l (doing_of m.state)) now.takes (asked_so Open past m g) in
            let facts : HostFacts heard = host (Behind behind) (past ++ told) (happens m (Judges (Good (Framed f)) rest behind told)) later in
            let each : (n : ℕ) → 1 ≤ n → n ≤ 232
            → AttemptsAs (gives_sign n heard behind) heeds n (past ++ entry.Written Host (ACK ∷ []) ∷ (marks ++ more)) heard m.clock m.clock
            × EndsAsTold (past ++ entry.Written Host (ACK ∷ []) ∷ (marks ++ more)) m.clock heard behind
            = λ n from to.
            judged_goes taken n past (marks ++ more) f rest became frames m.state m.clock time tied behind (ap (λ (l : List Entry). clock (past ++ l)) (sym is) ∙ later_time) (known n from to) (g.shows n)
            (host Open past m g) facts (subst (λ (l : List Entry). ShowsSessions heeds (past ++ l) heard n) is (later.shows n)) followed heeded in
            subst (λ (l : List Entry). Tie (Behind behind) (past ++ l) heard m.clock) (sym is)
            ((λ n from to. (each n from to).0), (each 1 (omega arith) (omega arith)).1)

    -- of another item
    other_judged : (item : Item) → IsNoFrame item → IsJudgedNow m item rest behind told → Ground (Behind behind) (past ++ told) (happens m (Judges item rest behind told))
        → ((n : ℕ) → gives_sign n (after m.state (Hears item)) behind ≡ false) → EndsAsTold (past ++ told) m.clock (after m.state (Hears item)) behind
        → Tie (Behind behind) (past ++ told) (after m.state (Hears item)) m.clock
    other_judged item none now later unsigned ended = (
      λ n from to.
          subst (λ (b : Bool). AttemptsAs b heeds n (past ++ told) (after m.state (Hears item)) m.clock m.clock) (sym (unsigned n))
          (calm_goes taken n to past told m.state (Hears item) now.told_so (item_quiet item told none now.told_so) now.may.0 tt (host Open past m g)
          (host (Behind behind) (past ++ told) (happens m (Judges item rest behind told)) later) (g.shows n) (later.shows n) false m.clock m.clock tt (known n from to)),
      ended,
    )

    nothing_follows : (h : HostState) → behind ≡ [] → ((n : ℕ) → gives_sign n h behind ≡ false) × EndsAsTold (past ++ told) m.clock h behind
    nothing_follows h are = ((λ n. ap (λ (l : List HostEvent). gives_sign n h l) are), subst (λ (l : List HostEvent). EndsAsTold (past ++ told) m.clock h l) (sym are) tt)

    -- its frame was received
    ack_follows : (busy : Bool) (h : HostState) → behind ≡ told_if busy IsSent → ((n : ℕ) → gives_sign n h behind ≡ false) × EndsAsTold (past ++ told) m.clock h behind
    ack_follows false h are = nothing_follows h are
    ack_follows true h are = (
      λ n. ap (λ (l : List HostEvent). gives_sign n h l) are ∙ ap (λ (b : Bool). b || false) (sent_no_good n h.requests),
      subst (λ (l : List HostEvent). EndsAsTold (past ++ told) m.clock h l) (sym are) (
        refl,
        λ u n more payload how under purpose end_is.
            let e = event_ends h.requests IsSent (record { purpose = u.purpose; how = how }) tt end_is in
            let same : e.u ≡ u = let a = e.under in let both : Some e.u ≡ Some u = sym a ∙ under in cc in
            absurd (sent_not e.u n more payload e.how (ap (λ (v : UnderWay). v.purpose) same ∙ purpose) e.ends),
      ),
    )

    -- or it is given up
    denial_follows : (gives : Bool) (h : HostState) → told ≡ [] → behind ≡ told_if gives Fails → (gives ≡ true → (u : UnderWay) → h.requests.under_way ≡ Some u → GivenUp past m.clock h.requests.last_id u.purpose)
        → ((n : ℕ) → gives_sign n h behind ≡ false) × EndsAsTold (past ++ told) m.clock h behind
    denial_follows false h nothing are given = nothing_follows h are
    denial_follows true h nothing are given = (
      λ n. ap (λ (l : List HostEvent). gives_sign n h l) are ∙ ap (λ (b : Bool). b || false) (failing_no_good n h.requests),
      subst (λ (l : List HostEvent). EndsAsTold (past ++ told) m.clock h l) (sym are) (refl, subst (λ (l : List Entry). EndsSo (past ++ l) m.clock h Fails) (sym nothing) (subst (λ (l : List Entry). EndsSo l m.clock h Fails) (sym (append-nil past)) fails)),
    )
      where
        fails : EndsSo past m.clock h Fails
        fails u n more payload how under purpose end_is =
            let e = event_ends h.requests Fails (record { purpose = u.purpose; how = how }) tt end_is in
            let so = given refl u under in
            let how_is : LinkFailed ≡ how = ends_same LinkFailed e.how e.ends ∙ sym (let is = e.is in ap (λ (x : End). x.how) is) in
            (so.framed, given_up_badly more past m.clock so.gives_up ∙ sym (ap (λ (x : How). is_bad_part (part_end more x)) (sym how_is) ∙ ap is_bad_part (bad_failed more)))

    item_judged : (item : Item) → IsJudgedNow m item rest behind told → Ground (Behind behind) (past ++ told) (happens m (Judges item rest behind told))
        → HeedsAs heeds past m (Judges item rest behind told) → Tie (Behind behind) (past ++ told) (after m.state (Hears item)) m.clock
    item_judged (Good (Framed f)) now later heeded = frame_judged f now later heeded
    item_judged (Good Ack) now later heeded =
        let follows = ack_follows (is_busy m.state.side.turn) (after m.state (Hears (Good Ack))) now.followed in other_judged (Good Ack) tt now later follows.0 follows.1
    item_judged (Good Nak) now later heeded =
        let tied : TieAsked past m.clock m.clock (Nak ∷ rest) (doing_of m.state) = subst (λ (l : List LineUnit). TieAsked past m.clock m.clock l (doing_of m.state)) now.takes (asked_so Open past m g) in
        let follows = denial_follows (gives_up m.state.side.turn (turn_refused m.state.side.turn)) (after m.state (Hears (Good Nak))) now.told_so now.followed
        (λ gives u under. denied_here Nak (unit_text Nak) refl past m.clock rest (doing_of m.state) refl gives tied u under) in
        other_judged (Good Nak) tt now later follows.0 follows.1
    item_judged (Good Can) now later heeded =
        let tied : TieAsked past m.clock m.clock (Can ∷ rest) (doing_of m.state) = subst (λ (l : List LineUnit). TieAsked past m.clock m.clock l (doing_of m.state)) now.takes (asked_so Open past m g) in
        let follows = denial_follows (gives_up m.state.side.turn (turn_refused m.state.side.turn)) (after m.state (Hears (Good Can))) now.told_so now.followed
        (λ gives u under. denied_here Can (unit_text Can) refl past m.clock rest (doing_of m.state) refl gives tied u under) in
        other_judged (Good Can) tt now later follows.0 follows.1
    item_judged (refused_item refusal) now later heeded =
        let follows = nothing_follows (after m.state (Hears (refused_item refusal))) now.followed in other_judged (refused_item refusal) tt now later follows.0 follows.1

  -- ---- an event of a tick

  abbrev TicksTo : HostEvent → List HostEvent → List Entry → List Entry → HostMachine → Type 0
  TicksTo first left past told m =
      AreTold (outs m.state first) told → Ground (Ticking (first ∷ left)) past m → Ground (Ticking left) (past ++ told) (done m first) → Tie (Ticking (first ∷ left)) past m.state m.clock
      → Tie (Ticking left) (past ++ told) (after m.state first) m.clock

  line_tick : (nodes : List HostEvent) (past told : List Entry) (m : HostMachine) → IsNumbered m told → BeforeTick past m → TicksTo Line_ticks (Requests_do Ticks BeforeItsTick ∷ nodes) past told m
  line_tick nodes past told m numbered before are g later tie = λ n from to.
      let here : Phase = Ticking (Line_ticks ∷ (Requests_do Ticks BeforeItsTick ∷ nodes)) in
      let next : m.clock ≡ before.before + 1 = before.next in
      let was : m.clock - 1 ≡ before.before = omega (arith, next) in
      line_ticks_so ends taken n to past told m.state m.came before.before m.clock next (ground here past m g).0.1 (time_told here past told m (ground here past m g) numbered) are (host here past m g)
      (host (Ticking (Requests_do Ticks BeforeItsTick ∷ nodes)) (past ++ told) (done m Line_ticks) later) (g.shows n) (later.shows n) before.tie (m.clock - 1)
      (subst (λ (t : ℕ). AttemptsSo heeds n past m.state (m.clock - 1) t) was (tie n from to))

  request_tick : (left : List HostEvent) (past told : List Entry) (m : HostMachine) → HalfTick past m → TicksTo (Requests_do Ticks BeforeItsTick) left past told m
  request_tick left past told m half are g later tie = λ n from to.
      let here : Phase = Ticking (Requests_do Ticks BeforeItsTick ∷ left) in
      let ticks_left : KnowsSince InTick here past m = in_tick here past m g in
      let to_come : KnowsSince InTick (Ticking left) (past ++ told) (done m (Requests_do Ticks BeforeItsTick)) = in_tick (Ticking left) (past ++ told) (done m (Requests_do Ticks BeforeItsTick)) later in
      let h : HostState = after m.state (Requests_do Ticks BeforeItsTick) in
      let so : AttemptsSo heeds n (past ++ told) h (node_clock (Ticking left) m.clock n) m.clock
      = not_ticking taken n from to (past ++ told) h left ticks_left.0.1 m.clock ticks_left.1
      (request_ticks_so ends taken n to past told m.state m.came half.before m.clock half.next (event_quiet m.state (Requests_do Ticks BeforeItsTick) told (noted_notes (request_entries m.state Ticks)) are)
      (host here past m g) (g.shows n) (m.clock - 1) are (host (Ticking left) (past ++ told) (done m (Requests_do Ticks BeforeItsTick)) later) (later.shows n) half.tie (tie n from to)) in
      subst (λ (t : ℕ). AttemptsSo heeds n (past ++ told) h (node_clock (Ticking left) m.clock n) t)
      (sym (ap (λ (l : List HostEvent). request_clock (Ticking l) m.clock) ticks_left.0.1 ∙ node_left (map Node_ticks (ticking_nodes h)) m.clock (all_nodes (ticking_nodes h)))) so

  node_tick : (k : ℕ) (left : List HostEvent) (past told : List Entry) (m : HostMachine) → AllByRecursion IsNodeTick left → TicksTo (Node_ticks k) left past told m
  node_tick k left past told m all are g later tie = λ n from to.
      let here : Phase = Ticking (Node_ticks k ∷ left) in
      let ticks_left : KnowsSince InTick here past m = in_tick here past m g in
      subst (λ (t : ℕ). AttemptsSo heeds n (past ++ told) (after m.state (Node_ticks k)) (node_clock (Ticking left) m.clock n) t) (sym (node_left left m.clock all))
      (node_ticks_so ticks taken n to past told m.state k left are (event_quiet m.state (Node_ticks k) told (node_notes m.state (Node_ticks k) tt) are) (host here past m g)
      (host (Ticking left) (past ++ told) (done m (Node_ticks k)) later) (g.shows n) (later.shows n) m.clock ticks_left.1
      (λ same. subst (λ (j : ℕ). is_to_tick j left ≡ false) same ticks_left.0.0) (tie n from to))

  tick_goes : (first : HostEvent) (left : List HostEvent) (past told : List Entry) (m : HostMachine) → IsNumbered m told → KnowsTick (first ∷ left) past m → TicksTo first left past told m
  tick_goes first left past told m numbered (inl (nodes, is, all, before)) =
      subst (λ (e : HostEvent). TicksTo e left past told m) (sym (first_same first Line_ticks left (Requests_do Ticks BeforeItsTick ∷ nodes) is))
      (subst (λ (l : List HostEvent). TicksTo Line_ticks l past told m) (sym (left_same first Line_ticks left (Requests_do Ticks BeforeItsTick ∷ nodes) is)) (line_tick nodes past told m numbered before))
  tick_goes first left past told m numbered (inr (inl (nodes, is, all, half))) =
      subst (λ (e : HostEvent). TicksTo e left past told m) (sym (first_same first (Requests_do Ticks BeforeItsTick) left nodes is)) (request_tick left past told m half)
  tick_goes (Node_ticks k) left past told m numbered (inr (inr (all, tied))) = node_tick k left past told m all.1
  tick_goes first left past told m numbered (inr (inr (all, tied))) = absurd all.0

  -- ---- an event behind an item

  module _ (past told : List Entry) (h : HostState) (now : ℕ) (quiet : AllByRecursion IsQuiet told) (facts : HostFacts h) where
    -- the request hears of it
    module _ (event : RequestsEvent) (moment : Moment) (of_told : IsTold event) (are : AreTold (outs h (Requests_do event moment)) told) (others : HostFacts (after h (Requests_do event moment)))
        (n : ℕ) (to : n ≤ 232) (shows : ShowsSessions heeds past h n) (showing : ShowsSessions heeds (past ++ told) (after h (Requests_do event moment)) n) where
      abbrev g : HostState
      g = after h (Requests_do event moment)

      within : n < length h.nodes
      within = let all = facts.nodes.places in omega (arith, all, to)

      frame_is : (asked (past ++ told)).frame ≡ (asked past).frame
      frame_is = ap (λ (a : AskedLast). a.frame) (quiet_on past told quiet)

      inner_same : (node_of h n).series ≡ Running → is_inner_now heeds (past ++ told) n ≡ is_inner_now heeds past n
      inner_same runs =
          let opened = is_opened (node_of h n) (facts.nodes.facts n) (ap is_idle runs) in
          let keeps = event_keeps h (Requests_do event moment) n within tt in
          let open_still : open_session (node_of g n).book ≡ Some opened.0
          = ap (λ (t : NodeState). open_session t.book) (node_after h (Requests_do event moment) n within) ∙ end_opens n (node_of h n) (end_at h.requests event) moment ∙ opened.1 in
          inner_kept taken past (past ++ told) h g n opened.0 (shown taken n past h shows) (shown taken n (past ++ told) g showing) facts others
          (record { commands = keeps.commands; opens = keeps.opens }) keeps.orders open_still (asked (past ++ told)).frame
          ∙ ap (λ (unit : List ℕ). inner_told taken past n unit) frame_is

      hears_goes : EndsSo past now h event → AttemptsAs (is_good_for n (end_at h.requests event)) heeds n past h now now → AttemptsSo heeds n (past ++ told) g now now
      hears_goes so tie =
          request_goes ends taken n to past told h event moment now now now of_told are quiet facts others shows showing tie (λ own none inner. refl)
          (λ u it under ends_it end_is none more payload purpose runs.
          let was = so u n more payload it under purpose end_is in
          ap (λ (b : Bool). ends_badly (asked (past ++ told)) b now) (inner_same runs ∙ tie.inner runs u more payload under purpose) ∙ stays_quiet more past now told was.0 quiet ∙ was.1)

    -- or a node does something
    one_goes : (event : HostEvent) → IsMild event → May_event h event → AreTold (outs h event) told → HostFacts (after h event) → (n : ℕ) → n ≤ 232 → ShowsSessions heeds past h n
        → ShowsSessions heeds (past ++ told) (after h event) n → (b : Bool) → AttemptsAs (works_at n event || b) heeds n past h now now → AttemptsAs b heeds n (past ++ told) (after h event) now now
    one_goes (Requests_do event moment) mild may are others n to shows showing b tie = absurd mild
    one_goes (Works k id) mild may are others n to shows showing b tie = works_goes taken n to past told h k id are may facts others shows showing b now now tie
    one_goes (Interviews k listens classes update) mild may are others n to shows showing b tie =
        interviewed_goes taken n to past told h update (Interviews k listens classes update) refl (ap (λ (o : Option ℕ). is_some o) may.1.brought) may are quiet facts others shows showing now b tie
    one_goes (Interview_unkept k update) mild may are others n to shows showing b tie =
        interviewed_goes taken n to past told h update (Interview_unkept k update) refl may may are quiet facts others shows showing now b tie
    one_goes Line_ticks mild may are others n to shows showing b tie = absurd mild
    one_goes (Node_ticks k) mild may are others n to shows showing b tie = absurd mild
    one_goes Submits_abort mild may are others n to shows showing b tie = absurd mild
    one_goes Submits_front mild may are others n to shows showing b tie = absurd mild
    one_goes (Starts k plan more payload) mild may are others n to shows showing b tie = absurd mild
    one_goes (Gives_text k payload) mild may are others n to shows showing b tie = absurd mild
    one_goes (Gives_segment k more payload) mild may are others n to shows showing b tie = absurd mild
    one_goes (Begins k session command) mild may are others n to shows showing b tie = absurd mild
    one_goes event mild may are others n to shows showing b tie = calm_goes taken n to past told h event are quiet may mild facts others shows showing b now now mild tie

  behind_goes : (first : HostEvent) (left : List HostEvent) (past told : List Entry) (m : HostMachine) → AreTold (outs m.state first) told → May_event m.state first → Ground (Behind (first ∷ left)) past m
      → Ground (Behind left) (past ++ told) (done m first) → Tie (Behind (first ∷ left)) past m.state m.clock → Tie (Behind left) (past ++ told) (after m.state first) m.clock
  behind_goes first left past told m are may g later tie = by first refl tie.0 tie.1
    where
      here : Phase
      here = Behind (first ∷ left)

      quiet : AllByRecursion IsQuiet told
      quiet = event_quiet m.state first told (behind_notes first left past m (ground here past m g).0.0.1) are

      others : HostFacts (after m.state first)
      others = host (Behind left) (past ++ told) (done m first) later

      mildly : (event : HostEvent) → first ≡ event → IsMild event → AllByRecursion IsMild left → ((n : ℕ) → 1 ≤ n → n ≤ 232 → AttemptsAs (works_at n event || works_among n left) heeds n past m.state m.clock m.clock)
          → Tie (Behind left) (past ++ told) (after m.state first) m.clock
      mildly event is mild all so = (
        λ n from to.
            subst (λ (b : Bool). AttemptsAs b heeds n (past ++ told) (after m.state first) m.clock m.clock) (sym (mild_signs n (after m.state first) left all))
            (one_goes past told m.state m.clock quiet (host here past m g) first (subst IsMild (sym is) mild) may are others n to (g.shows n) (later.shows n) (works_among n left)
            (subst (λ (e : HostEvent). AttemptsAs (works_at n e || works_among n left) heeds n past m.state m.clock m.clock) (sym is) (so n from to))),
        mild_ends (past ++ told) m.clock (after m.state first) left all,
      )

      heard : (event : RequestsEvent) (moment : Moment) → first ≡ Requests_do event moment → left ≡ [] → EndsSo past m.clock m.state event
          → ((n : ℕ) → 1 ≤ n → n ≤ 232 → AttemptsAs (is_good_for n (end_at m.state.requests event) || works_among n left) heeds n past m.state m.clock m.clock)
          → Tie (Behind left) (past ++ told) (after m.state first) m.clock
      heard event moment is none so each =
          let adds : AddsWell first = (ground here past m g).1.1.0 in
          let of_told : IsTold event = chip_told event (subst AddsWell is adds) in
          let goes : Tie (Behind []) (past ++ told) (after m.state (Requests_do event moment)) m.clock
          = (
            λ n from to.
                hears_goes past told m.state m.clock quiet (host here past m g) event moment of_told (subst (λ (e : HostEvent). AreTold (outs m.state e) told) is are)
                (subst (λ (e : HostEvent). HostFacts (after m.state e)) is others) n to (g.shows n) (subst (λ (e : HostEvent). ShowsSessions heeds (past ++ told) (after m.state e) n) is (later.shows n)) so
                (subst (λ (b : Bool). AttemptsAs b heeds n past m.state m.clock m.clock)
                (ap (λ (l : List HostEvent). is_good_for n (end_at m.state.requests event) || works_among n l) none ∙ or_false (is_good_for n (end_at m.state.requests event))) (each n from to)),
            tt,
          ) in
          subst (λ (e : HostEvent). Tie (Behind left) (past ++ told) (after m.state e) m.clock) (sym is)
          (subst (λ (l : List HostEvent). Tie (Behind l) (past ++ told) (after m.state (Requests_do event moment)) m.clock) (sym none) goes)

      by : (event : HostEvent) → first ≡ event → ((n : ℕ) → 1 ≤ n → n ≤ 232 → AttemptsAs (gives_sign n m.state (first ∷ left)) heeds n past m.state m.clock m.clock)
          → EndsAsTold past m.clock m.state (first ∷ left) → Tie (Behind left) (past ++ told) (after m.state first) m.clock
      by event is each ended =
          at event is (λ n from to. subst (λ (e : HostEvent). AttemptsAs (gives_sign n m.state (e ∷ left)) heeds n past m.state m.clock m.clock) is (each n from to))
          (subst (λ (e : HostEvent). EndsAsTold past m.clock m.state (e ∷ left)) is ended)
        where
          at : (event : HostEvent) → first ≡ event → ((n : ℕ) → 1 ≤ n → n ≤ 232 → AttemptsAs (gives_sign n m.state (event ∷ left)) heeds n past m.state m.clock m.clock)
              → EndsAsTold past m.clock m.state (event ∷ left) → Tie (Behind left) (past ++ told) (after m.state first) m.clock
          at (Requests_do event moment) is each (none, so) = heard event moment is none so each
          at event is each (mild, all) = mildly event is mild all each

  -- ---- an event of a pump

  sleeps_goes : (node : ℕ) (past told : List Entry) (m : HostMachine) → AreTold (outs m.state (no_more_event m.state node)) told → May_event m.state (no_more_event m.state node) → Ground Sleeping past m
      → Ground Sleeping (past ++ told) (done m (no_more_event m.state node)) → Tie Sleeping past m.state m.clock → Tie Sleeping (past ++ told) (after m.state (no_more_event m.state node)) m.clock
  sleeps_goes node past told m are may g later tie = λ n from to.
      let event : HostEvent = no_more_event m.state node in
      let is : IsSleeper event = no_more_is IsSleeper sleepers m.state node in
      calm_goes taken n to past told m.state event are (event_quiet m.state event told (sleep_notes m.state (is_full m.state) node) are) may is.0 (host Sleeping past m g)
      (host Sleeping (past ++ told) (done m event) later) (g.shows n) (later.shows n) false m.clock m.clock is.1 (tie n from to)

  submits_goes : (event : HostEvent) (past told : List Entry) (m : HostMachine) → IsNext m.state event → MayAll m.state (event ∷ []) → AreTold (outs m.state event) told → IsNumbered m told → Ground Submitting past m
      → Ground Submitting (past ++ told) (done m event) → WaitsAsTold heeds past m.state m.clock → Tie Submitting past m.state m.clock
      → Tie Submitting (past ++ told) (after m.state event) m.clock
  submits_goes event past told m next may are numbered g later waits tie = by event refl (next_is IsSubmission submissions m.state event next)
    where
      asks_so : IsRequest event → Tie Submitting (past ++ told) (after m.state event) m.clock
      asks_so is = λ n from to.
          asks_goes taken past told m numbered (ground Submitting past m g) (asked_so Submitting past m g) waits n (let all = (host Submitting past m g).nodes.places in omega (arith, all, to))
          (tie n from to) (g.shows n) brings event is next may are (host Submitting (past ++ told) (done m event) later) (later.shows n)

      request : (these : HostEvent) → event ≡ these → IsRequest these → Tie Submitting (past ++ told) (after m.state event) m.clock
      request these is asks = asks_so (subst IsRequest (sym is) asks)

      by : (these : HostEvent) → event ≡ these → IsSubmission these → Tie Submitting (past ++ told) (after m.state event) m.clock
      by Submits_abort is sub = request Submits_abort is tt
      by Submits_front is sub = request Submits_front is tt
      by (Starts k plan more payload) is sub = request (Starts k plan more payload) is tt
      by (Gives_text k payload) is sub = request (Gives_text k payload) is tt
      by (Gives_segment k more payload) is sub = request (Gives_segment k more payload) is tt
      by (Begins k session command) is sub =
          begun k session command is (subst (λ (e : HostEvent). AreTold (outs m.state e) told) is are)
        where
          begun : (k session command : ℕ) → event ≡ Begins k session command → AreTold (outs m.state (Begins k session command)) told → Tie Submitting (past ++ told) (after m.state event) m.clock
          begun k session command is (rest, told_is, none) =
              let all : told ≡ entry.Begin k session command ∷ [] = told_is ∙ ap (λ (l : List Entry). entry.Begin k session command ∷ l) none in
              let others : HostFacts (after m.state (Begins k session command)) = subst (λ (e : HostEvent). HostFacts (after m.state e)) is (host Submitting (past ++ told) (done m event) later) in
              let goes : Tie Submitting (past ++ entry.Begin k session command ∷ []) (after m.state (Begins k session command)) m.clock
              = λ n from to.
              begins_goes taken n past m.state m.clock m.clock (tie n from to) k session command (let all = (host Submitting past m g).nodes.places in omega (arith, all, to)) next.0.none_under_way
              (host Submitting past m g) (g.shows n) others
              (subst (λ (e : HostEvent). ShowsSessions heeds (past ++ entry.Begin k session command ∷ []) (after m.state e) n) is
              (subst (λ (l : List Entry). ShowsSessions heeds (past ++ l) (after m.state event) n) all (later.shows n))) in
              subst (λ (e : HostEvent). Tie Submitting (past ++ told) (after m.state e) m.clock) (sym is)
              (subst (λ (l : List Entry). Tie Submitting (past ++ l) (after m.state (Begins k session command)) m.clock) (sym all) goes)
      by (Begin_unkept k) is sub = λ n from to.
          calm_goes taken n to past told m.state event are (unkept_quiet m.state k told (subst (λ (e : HostEvent). AreTold (outs m.state e) told) is are)) may.0
          (subst IsCalm (sym is) tt) (host Submitting past m g) (host Submitting (past ++ told) (done m event) later) (g.shows n) (later.shows n) false m.clock m.clock (subst IsNoSign (sym is) tt) (tie n from to)
      by these is sub = absurd sub

  does : (here next : Phase) (past : List Entry) (m : HostMachine) (event : HostEvent) (told : List Entry) → May here m (Does event told) next → Ground here past m
      → Ground next (past ++ told) (done m event) → WaitsAt heeds here past m → Know here past m → Know next (past ++ told) (done m event)
  does (Ticking (first ∷ left)) next past m event told may g later waits known =
      known_to next (Ticking left) (past ++ told) (done m event) may.0.1
      (subst (λ (e : HostEvent). Tie (Ticking left) (past ++ told) (after m.state e) m.clock) (sym may.0.0)
      (tick_goes first left past told m may.3 (asked_so (Ticking (first ∷ left)) past m g) (subst (λ (e : HostEvent). AreTold (outs m.state e) told) may.0.0 may.2) g
      (subst (λ (e : HostEvent). Ground (Ticking left) (past ++ told) (done m e)) may.0.0 (ground_at next (Ticking left) (past ++ told) (done m event) may.0.1 later)) known))
  does (Behind (first ∷ left)) next past m event told may g later waits known =
      known_to next (Behind left) (past ++ told) (done m event) may.0.1
      (subst (λ (e : HostEvent). Tie (Behind left) (past ++ told) (after m.state e) m.clock) (sym may.0.0)
      (behind_goes first left past told m (subst (λ (e : HostEvent). AreTold (outs m.state e) told) may.0.0 may.2) (subst (λ (e : HostEvent). May_at m e) may.0.0 may.1.0) g
      (subst (λ (e : HostEvent). Ground (Behind left) (past ++ told) (done m e)) may.0.0 (ground_at next (Behind left) (past ++ told) (done m event) may.0.1 later)) known))
  does Sleeping next past m event told may g later waits known =
      let (node, wants, is, next_sleeps) = may.0 in
      known_to next Sleeping (past ++ told) (done m event) next_sleeps
      (subst (λ (e : HostEvent). Tie Sleeping (past ++ told) (after m.state e) m.clock) (sym is)
      (sleeps_goes node past told m (subst (λ (e : HostEvent). AreTold (outs m.state e) told) is may.2) (subst (λ (e : HostEvent). May_at m e) is may.1.0) g
      (subst (λ (e : HostEvent). Ground Sleeping (past ++ told) (done m e)) is (ground_at next Sleeping (past ++ told) (done m event) next_sleeps later)) known))
  does Submitting next past m event told may g later waits known =
      known_to next Submitting (past ++ told) (done m event) may.0.1
      (submits_goes event past told m may.0.0 may.1 may.2 may.3 g (ground_at next Submitting (past ++ told) (done m event) may.0.1 later) waits known)
  does (Ticking []) next past m event told may g later waits known = absurd may.0
  does (Behind []) next past m event told may g later waits known = absurd may.0
  does Resting next past m event told may g later waits known = absurd may.0
  does (Asked line) next past m event told may g later waits known = absurd may.0
  does Risen next past m event told may g later waits known = absurd may.0
  does Open next past m event told may g later waits known = absurd may.0

  -- ---- the walk

  pub step_goes : (here next : Phase) (past : List Entry) (m : HostMachine) (one : Step) → May here m one next → Ground here past m → Ground next (past ++ entries m one) (happens m one)
      → HeedsAs heeds past m one → WaitsAt heeds here past m → Know here past m → Know next (past ++ entries m one) (happens m one)
  step_goes here next past m (Tells e) may g later heeded waits known =
      known_to next here (past ++ e ∷ []) m may.3
      (quiet_step here past (e ∷ []) m m refl refl (between_else here may.0) (others_quiet e may.1, tt) (others_leave e may.1, tt) g later.shows known)
  step_goes here next past m (Comes unit) may g later heeded waits known =
      known_to next here (past ++ entries m (Comes unit)) (happens m (Comes unit)) may.2 (comes here past m unit may.0 may.1 may.3 g later.shows known)
  step_goes here next past m (Misses text marks) may g later heeded waits known =
      known_to next here (past ++ entries m (Misses text marks)) m may.3
      (know_of here (past ++ entries m (Misses text marks)) m (between_else here may.0)
      (each_between here past (past ++ entries m (Misses text marks)) m.state m.clock may.0
      (λ n time at so. missed_so taken n false past m.state time at so (host here past m g) (g.shows n) text marks may.1 may.4 (later.shows n)) (tie_of here past m (between_else here may.0) known)))
  step_goes here next past m (Says words line) may g later heeded waits known =
      known_to next (Asked line) (past ++ entry.Said words ∷ []) (happens m (Says words line)) may.3
      (record {
        before = past;
        words = words;
        are = refl;
        read = may.2;
        shows = g.shows;
        tie = known_at here Resting past m may.0 known;
      })
  step_goes here next past m (Says_nothing words) may g later heeded waits known =
      known_to next Resting (past ++ entry.Said words ∷ []) (happens m (Says_nothing words)) (may.3 ∙ may.0)
      (λ n from to.
      said_so taken n false past m.state m.clock m.clock (known_at here Resting past m may.0 known n from to) (host here past m g) (g.shows n) words (ap is_restart may.2) (later.shows n))
  step_goes here next past m (Asks event) (line, here_is, is, may, numbered, next_opens) g later heeded waits known =
      known_to next Open (past ++ answers m.state event) (done m event) next_opens
      (asks line past m event is may (ground_at here (Asked line) past m here_is g) (ground_at next Open (past ++ answers m.state event) (done m event) next_opens later)
      (known_at here (Asked line) past m here_is known))
  step_goes here next past m (Refuses refusal) (line, here_is, why, numbered, next_opens) g later heeded waits known =
      known_to next Open (past ++ entry.Refused refusal ∷ []) m next_opens
      (refuses line past m refusal (ground_at here (Asked line) past m here_is g) later.shows (known_at here (Asked line) past m here_is known))
  step_goes here next past m (Shows node) may g later heeded waits known =
      let there : Ground (Asked (lines.Store node)) past m = ground_at here (Asked (lines.Store node)) past m may.0 g in
      known_to next Open (past ++ shown_values m.state node ∷ []) m may.2
      (quiet_tie past (shown_values m.state node ∷ []) m.state m.clock (tt, tt) (tt, tt) (host here past m g) g.shows later.shows Open tt
      (on_words (lines.Store node) past m refl there (known_at here (Asked (lines.Store node)) past m may.0 known)))
  step_goes here next past m (Restarts state) may g later heeded waits known =
      known_to next Open (past ++ []) (happens m (Restarts state)) may.2
      (subst (λ (l : List Entry). Tie Open l state m.clock) (sym (append-nil past))
      (restarts past m state may.1 (ground_at here (Asked lines.Restart) past m may.0 g) (known_at here (Asked lines.Restart) past m may.0 known)))
  step_goes here next past m (Begins_tick left) may g later heeded waits known =
      known_to next Risen (past ++ []) (happens m (Begins_tick left)) may.2
      (subst (λ (l : List Entry). Tie Risen l m.state (m.clock + 1)) (sym (append-nil past))
      (λ n from to. subst (λ (t : ℕ). AttemptsSo heeds n past m.state t t) (sym (less m.clock)) (known_at here Resting past m may.0 known n from to)))
  step_goes here next past m Numbers may g later heeded waits known =
      known_to next here (past ++ entry.Time m.clock ∷ []) (happens m Numbers) may.1
      (quiet_step here past (entry.Time m.clock ∷ []) m (happens m Numbers) refl refl (numbered_else here past m may.0 (ground here past m g)) (tt, tt) (tt, tt) g later.shows known)
  step_goes here next past m (Judges item rest behind told) may g later heeded waits known =
      known_to next (Behind behind) (past ++ told) (happens m (Judges item rest behind told)) may.2
      (item_judged past m rest behind told (ground_at here Open past m may.0 g) (known_at here Open past m may.0 known) item may.1
      (ground_at next (Behind behind) (past ++ told) (happens m (Judges item rest behind told)) may.2 later) heeded)
  step_goes here next past m (Does event told) may g later heeded waits known = does here next past m event told may g later waits known

  pub turn_goes : (here next : Phase) (past : List Entry) (m : HostMachine) → Turns here m next → Ground here past m → Know here past m → Know next past m
  turn_goes Resting next past m is g known = known_to next Open past m is known
  turn_goes (Asked line) next past m (inl (nothing, is)) g known = known_to next Open past m is (on_words line past m (none_on line nothing) g known)
  turn_goes (Asked line) next past m (inr (ticks, line_is, is)) g known =
      known_to next Resting past m is (on_words line past m (ap (λ (l : Line). is_restart (l ∷ [])) line_is) g known)
  turn_goes Risen next past m is g known = known_to next (Ticking (tick_events m.state)) past m is known
  turn_goes (Ticking []) next past m is g known = known_to next Open past m is known
  turn_goes (Ticking (first ∷ left)) next past m is g known = absurd is
  turn_goes Open next past m is g known = known_to next Sleeping past m is known
  turn_goes (Behind []) next past m is g known = known_to next Open past m is known.0
  turn_goes (Behind (first ∷ left)) next past m is g known = absurd is
  turn_goes Sleeping next past m is g known = known_to next Submitting past m is.1 known
  turn_goes Submitting next past m is g known = known_to next Resting past m is.1 known
