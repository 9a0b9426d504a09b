-- At each step of a host alone its transcript is read so far, with its last request over just where none is under way in it.
use Rattle.std.proofs.Common.{◌≡◌, ◌⊎◌, ◌<◌, ◌≤◌, ℕ, zero, suc, map, filter, ◌+◌, ◌-◌, ◌==◌, ◌&&◌, ◌||◌, not, Bool, true, false, if◌then◌else◌, inl, inr, List, [], ◌∷◌, ◌++◌, Option, Some, None, refl, sym, ap, ap₂, ◌∙◌, subst, append-nil, append_assoc, arith}
use Rattle.std.specs.Prelude.{is_none}
use Rattle.std.specs.List.{AllByRecursion, range_with_len}
use Rattle.std.proofs.lemmas.Bool.{both_ways, or_right}
use Rattle.zw_base.proofs.Each.{all-weaker}
use Rattle.serial_frame.specs.Frame.{FrameParts}
use Rattle.serial_frame.specs.Items.{unit_text}
use Rattle.serial_frame.specs.declared.item.Item.{Item}
use Rattle.serial_frame.specs.declared.item.Item.TheVariants.{Good, Refused as refused_item}
use Rattle.serial_frame.specs.declared.item.Refusal.TheVariants.{Stray, BadLength, BadSum, BadKind, Aborted}
use Rattle.serial_frame.specs.declared.unit.TheConstants.{ACK, NAK}
use Rattle.serial_frame.specs.declared.unit.Unit.{Unit as LineUnit}
use Rattle.serial_frame.specs.declared.unit.Unit.TheVariants.{Ack, Nak, Can, Framed}
use Rattle.serial_link.specs.State.{Side, pause_after, turn_ticked}
use Rattle.serial_link.specs.declared.turn.Turn.{Turn}
use Rattle.serial_link.specs.declared.turn.Turn.TheVariants.{Idle, Copied, Paused}
use Rattle.chip_functions.specs.Field.{IsNode}
use Rattle.chip_functions.specs.Response.{response_function}
use Rattle.chip_functions.specs.declared.notice.TransmitStatus.{TransmitStatus}
use Rattle.chip_functions.specs.declared.notice.Update.{Update}
use Rattle.chip_functions.specs.declared.notice.Update.TheVariants.{Received, RequestFailed}
use Rattle.chip_functions.specs.declared.response.Response.{Response}
use Rattle.chip_functions.specs.declared.response.Response.TheVariants as responses
use Rattle.zw_words.specs.declared.side.Side.TheVariants.{Host, Chip}
use Rattle.zw_text.specs.declared.line.Line.{Line}
use Rattle.zw_text.specs.declared.line.Line.TheVariants as lines
use Rattle.zw_text.specs.declared.entry.Refusal.{Refusal}
use Rattle.zw_text.specs.declared.entry.Entry.{Entry}
use Rattle.zw_text.specs.declared.entry.Entry.TheVariants as entry
use Rattle.zw_text.specs.Transcript.{line_after, line_last, line_of}
use Rattle.zw_text.proofs.Views.{folded-append}
use Rattle.law_transcript.specs.Lists.{EachAfter}
use Rattle.law_transcript.specs.Restarts.{is_restart}
use Rattle.law_time.specs.Moments.{clock, now_at}
use Rattle.law_time.specs.Ends.{has_ended, is_given_up, is_silent}
use Rattle.law_time.specs.Judged.{acknowledged, is_data}
use Rattle.law_time.specs.Requests.{asked}
use Rattle.law_time.specs.Sessions.{is_open}
use Rattle.law_time.specs.Waking.{is_awake_sleeper}
use Rattle.host_requests.specs.Events.{RequestsEvent, end_at, interviewed_by, interviewed_from}
use Rattle.host_requests.specs.Events.RequestsEvent.{CallsBack, Fails, IsSent, Responds, Ticks as request_ticks, Updates}
use Rattle.host_requests.specs.Next.{at_callback, at_response, at_sent, at_tick, at_update, counted_down, end_from, end_of, ends_at_update, is_answered, judged as judged_by, next_from, on_with, sent_from, went_on}
use Rattle.host_requests.specs.Frames.{function_of}
use Rattle.host_requests.specs.State.{RequestsState}
use Rattle.host_requests.specs.declared.end.How.{How}
use Rattle.host_requests.specs.declared.end.How.TheVariants.{AbortSent, AtCallback, AtResponse, AtUpdate, LinkFailed, Refused}
use Rattle.host_requests.specs.declared.next.Next.{Next}
use Rattle.host_requests.specs.declared.next.Next.TheVariants.{Ends as ends_with, GoesOn}
use Rattle.host_requests.specs.declared.task.Task.TheVariants.{Second}
use Rattle.host_requests.specs.declared.task.Purpose.{Purpose}
use Rattle.host_requests.specs.declared.task.Purpose.TheVariants.{Housekeeping, Attempt, Abort}
use Rattle.host_requests.specs.declared.under_way.Progress.{Progress}
use Rattle.host_requests.specs.declared.under_way.Progress.TheVariants.{Submitted, Sent, Answered}
use Rattle.host_requests.specs.declared.under_way.UnderWay.{UnderWay}
use Rattle.host_node.specs.State.{is_open as has_open, needs_tick}
use Rattle.host_node.specs.Steps.{falls_asleep, tick_end}
use Rattle.host_node.specs.declared.attempt.Moment.{Moment}
use Rattle.host_node.specs.declared.attempt.Moment.TheVariants.{BeforeItsTick, BetweenTicks}
use Rattle.host_model.specs.State.{HostState, node_of}
use Rattle.host_model.specs.Sessions.{open_command}
use Rattle.host_model.specs.Ends.{attempt_entries, end_entries, end_entries_if}
use Rattle.host_model.specs.After.{after, failing_if, gives_up, line_ticked, requests_do}
use Rattle.host_model.specs.Did.{after_all}
use Rattle.host_model.specs.Ticking.{first_ticks, tick_events, ticking_nodes}
use Rattle.host_model.specs.Events as happening
use Rattle.host_model.specs.Events.{HostEvent, Requests_do, Interviews, Interview_unkept, Line_ticks, Node_ticks, Begins, Begin_unkept}
use Rattle.host_model.specs.Outs.{answer_to, answers, copy_out, failing_entries, noted, outs, request_entries}
use Rattle.host_model.specs.Taking.{InterviewEvents, told_requests}
use Rattle.host_model.proofs.Submitted.{SleepersAre, next_is, no_more_is}
use Rattle.world_model.specs.Events.{shown_values}
use Rattle.proof_host.specs.Facts.{Facts}
use Rattle.proof_rests.specs.proof_requests.Asking.{Doing, TieAsked, TieUnderWay, doing_after, doing_from, doing_next, doing_of}
use Rattle.proof_rests.specs.proof_requests.Carrying.{CarriesSo}
use Rattle.proof_rests.specs.proof_requests.Ends.{AreToldOf, EndsBy, EndsFrom, EndsHere, GivenUp, KnowsEnds, LineEnds, OwesNoEnd, TellsEnd, TellsNoEnd, next_at}
use Rattle.proof_rests.specs.proof_requests.Standing.{standing_of}
use Rattle.proof_rests.specs.proof_requests.Walking.{BeforeTick, HalfTick, Ground as RequestsGround, IsNodeTick, KnowsAsked, KnowsTick}
use Rattle.proof_rests.specs.proof_requests.proof_alone.State.{HostMachine, done}
use Rattle.proof_rests.specs.proof_requests.proof_alone.Steps.{AreFrames, AreTold, DidNotCome, IsOfOthers, IsOfUnit, Step, Tells, Comes, Misses, Says, Says_nothing, Asks as asks_line, Refuses as refuses_line, Shows, Restarts as starts_again, Begins_tick, Numbers, Judges, Does, entries, happens}
use Rattle.proof_rests.specs.proof_requests.proof_alone.Phases.{Phase, Resting, Asked, Risen, Ticking, Open, Behind, Sleeping, Submitting, IsBetween, IsNumbered, May, Turns}
use Rattle.proof_rests.specs.proof_requests.proof_alone.Runs.{Knowledge, Walk, both_know}
use Rattle.proof_rests.proofs.Doing.{IsBeside as LeavesRequest, beside_same, end_if_asks}
use Rattle.proof_rests.proofs.EndsHere.{answers_it, cannot_end, ends_if, ends_same}
use Rattle.proof_rests.proofs.EndsLate.{silent_so}
use Rattle.proof_rests.proofs.Asleep.{asks_of, requested, slept, tables as facts_of, telling, well, work_of}
pub use Rattle.proof_rests.proofs.EndsTold.{Informs}
use Rattle.proof_rests.proofs.EndsTold.{asked_so, given_so, given_up_at, second_is, silent_at}
use Rattle.proof_rests.proofs.Queueing.{opened_asks}
use Rattle.proof_rests.proofs.Stepping.{IsSubmission, left_same, asked_beside, submissions, time_told}
use Rattle.proof_rests.proofs.proof_requests_Walking.{line_outs}
use Rattle.proof_rests.proofs.proof_waking_Judging.{asked_on, nothing_on}
use Rattle.proof_rests.specs.proof_attempts.Asleep.{KnowsSleep, TicksNode}
use Rattle.proof_rests.specs.proof_attempts.Carried.{UnderWayWell}
use Rattle.proof_rests.specs.proof_attempts.Since.{IsElse, IsOfItem, WalkBoth}
use Rattle.proof_rests.specs.proof_attempts.Slept.{SleepsIfTold}
use Rattle.proof_rests.specs.proof_attempts.Waking.{CountsAwake, KnowsWork}
use Rattle.proof_rests.proofs.KeptAwake.{noted_told}
use Rattle.proof_rests.proofs.Lasting.{numbered_else, rest_of}
use Rattle.proof_rests.proofs.Late.{unended_at}
use Rattle.proof_rests.proofs.Releasing.{not_is}
use Rattle.proof_rests.proofs.Requested.{Unsubmitted}
use Rattle.proof_rests.proofs.Slept.{frame_tells}
use Rattle.proof_rests.proofs.Wrote.{Wrote, first_same, paused_old, writes}
use Rattle.proof_rests.proofs.Wrote.Wrote.{Quietly, Again, Anew}
use Rattle.proof_ends.specs.Ends.{EndNotes, GiveUps, GivesUp, Reads, is_late, is_ticking, owes_end, owes_none, ticking_from, ticking_step}
use Rattle.proof_ends.specs.Ends.GiveUps.{None_yet, One_more}
use Rattle.proof_ends.specs.Ends.Reads.{Stands, Asks, Ends, Passes, Restarts, Refuses, Ticks, Ticks_late}
use Rattle.proof_ends.specs.Ascending.{Ascends}
use Rattle.proof_ends.proofs.Noting.{EndOf, IsLate, IsLoud, NodesSo, Noted, end_noted, interview_noted, late_so, loud_so, node_noted, owes_by}
use Rattle.proof_ends.proofs.Standing.{IsAside, NotesNoEnd, answers_aside, aside_read, behind_leaves, broken, event_aside, marks_read, may_by, missed_aside, none_owed, nothing_read, others_aside, unit_read}

-- ---- what is known

-- it is read so far, and its last request is over where none is under way
abbrev pub ReadsAt : List Entry → HostMachine → Type 0
ReadsAt past m = Reads (is_none m.state.requests.under_way) past

-- the words of a line stand last: so it is where they do not start the host again, or are refused; and where they do no request is under way
pub record ReadsSaid (line : Line) (past : List Entry) (m : HostMachine) : Type 0 where
  pub goes_on : is_restart (line ∷ []) ≡ false → ReadsAt past m
  pub anew : is_restart (line ∷ []) ≡ true → Reads true past
  pub in_vain : (refusal : Refusal) → Reads (is_none m.state.requests.under_way) (past ++ entry.Refused refusal ∷ [])

-- where the last request ends in the host's own part of a tick, or nothing is noted of it
abbrev pub LateReads : Bool → List Entry → List Entry → Type 0
LateReads over start ending =
    (Reads over start × (ending ≡ [])) ⊎ ((over ≡ true) × Reads false start × EndNotes start ending × ((is_silent start || is_given_up start) ≡ true) × (ending ≡ [] → ⊥))

-- nothing was noted before the line's part, and before that of the request no command was given up
abbrev pub IsFresh : List HostEvent → List Entry → List Entry → Type 0
IsFresh (Line_ticks ∷ left) ending chain = (ending ≡ []) × (chain ≡ [])
IsFresh (Requests_do event moment ∷ left) ending chain = chain ≡ []
IsFresh left ending chain = Unit {0}

-- in the host's own part of a tick: the end that was noted in it, and the commands that were given up
pub record ReadsTick (left : List HostEvent) (past : List Entry) (m : HostMachine) : Type 0 where
  pub start : List Entry
  pub ending : List Entry
  pub chain : List Entry
  pub last : ℕ
  pub are : past ≡ (start ++ ending) ++ chain
  pub reads : LateReads (is_none m.state.requests.under_way) start ending
  pub gives : GiveUps (start ++ ending) last chain
  pub ticks : m.awaits ≡ false → is_ticking start ≡ true
  pub unnumbered : m.awaits ≡ true → (ending ≡ []) × (chain ≡ [])
  pub above : Ascends last left
  pub fresh : IsFresh left ending chain

abbrev pub ReadsRisen : List Entry → HostMachine → Type 0
ReadsRisen past m = ReadsAt past m × (m.awaits ≡ false → is_ticking past ≡ true)

abbrev pub KnowsReads : Knowledge
KnowsReads (Asked line) past m = ReadsSaid line past m
KnowsReads Risen past m = ReadsRisen past m
KnowsReads (Ticking left) past m = ReadsTick left past m
KnowsReads here past m = ReadsAt past m

-- ---- in a tick

plain_past : (start ending chain : List Entry) → ending ≡ [] → chain ≡ [] → (start ++ ending) ++ chain ≡ start
plain_past start ending chain none nothing = ap₂ (λ (a b : List Entry). (start ++ a) ++ b) none nothing ∙ append-nil (start ++ []) ∙ append-nil start

-- so it is read
ticked_up : (left : List HostEvent) (past : List Entry) (m : HostMachine) → ReadsTick left past m → ReadsAt past m
ticked_up left past m known = by m.awaits refl known.reads
  where
    by : (b : Bool) → m.awaits ≡ b → LateReads (is_none m.state.requests.under_way) known.start known.ending → ReadsAt past m
    by false is (inl (reads, none)) =
        subst (Reads (is_none m.state.requests.under_way)) (sym known.are)
        (Ticks known.last known.chain refl (subst (λ (l : List Entry). is_ticking l ≡ true) (sym (same none)) (known.ticks is)) known.gives
        (subst (Reads (is_none m.state.requests.under_way)) (sym (same none)) reads))
      where
        same : known.ending ≡ [] → known.start ++ known.ending ≡ known.start
        same none = ap (λ (l : List Entry). known.start ++ l) none ∙ append-nil known.start
    by false is (inr (over, reads, notes, late, some)) =
        subst (λ (b : Bool). Reads b past) (sym over)
        (subst (Reads true) (sym known.are) (Ticks_late known.last known.ending known.chain refl (known.ticks is) notes late known.gives reads))
    by true is (inl (reads, none)) =
        subst (Reads (is_none m.state.requests.under_way)) (sym (known.are ∙ plain_past known.start known.ending known.chain none (known.unnumbered is).1)) reads
    by true is (inr (over, reads, notes, late, some)) = absurd (some (known.unnumbered is).0)

-- of what is known at a phase
pub read_at : (here : Phase) (past : List Entry) (m : HostMachine) → KnowsReads here past m → (over : Bool) × Reads over past
read_at (Asked line) past m known = by (is_restart (line ∷ [])) refl
  where
    by : (b : Bool) → is_restart (line ∷ []) ≡ b → (over : Bool) × Reads over past
    by true is = (true, known.anew is)
    by false is = (is_none m.state.requests.under_way, known.goes_on is)
read_at Risen past m known = (is_none m.state.requests.under_way, known.0)
read_at (Ticking left) past m known = (is_none m.state.requests.under_way, ticked_up left past m known)
read_at here past m known = (is_none m.state.requests.under_way, known)

leads : (next to : Phase) (past : List Entry) (m : HostMachine) → next ≡ to → KnowsReads to past m → KnowsReads next past m
leads next to past m is known = subst (λ (p : Phase). KnowsReads p past m) (sym is) known

as_known : (here is : Phase) (past : List Entry) (m : HostMachine) → here ≡ is → KnowsReads here past m → KnowsReads is past m
as_known here is past m same known = subst (λ (p : Phase). KnowsReads p past m) same known

-- what keeps the host's part of a tick to come
abbrev KeepsTick : Entry → Type 0
KeepsTick e = (past : List Entry) → ticking_step past true e ≡ true

ticking_more : (start : List Entry) (ticking : Bool) (told : List Entry) (e : Entry) → ticking_from start ticking (told ++ e ∷ []) ≡ ticking_step (start ++ told) (ticking_from start ticking told) e
ticking_more start ticking [] e = ap (λ (l : List Entry). ticking_step l ticking e) (sym (append-nil start))
ticking_more start ticking (x ∷ told) e =
    ticking_more (start ++ x ∷ []) (ticking_step start ticking x) told e ∙ ap (λ (l : List Entry). ticking_step l (ticking_from start ticking (x ∷ told)) e) (append_assoc start (x ∷ []) told)

ticking_one : (past : List Entry) (e : Entry) → is_ticking (past ++ e ∷ []) ≡ ticking_step past (is_ticking past) e
ticking_one past e = ticking_more [] false past e

keeps_tick : (past told : List Entry) → AllByRecursion KeepsTick told → is_ticking past ≡ true → is_ticking (past ++ told) ≡ true
keeps_tick past [] all is = ap is_ticking (append-nil past) ∙ is
keeps_tick past (e ∷ told) all is =
    ap is_ticking (sym (append_assoc past (e ∷ []) told))
    ∙ keeps_tick (past ++ e ∷ []) told all.1 (ticking_one past e ∙ ap (λ (b : Bool). ticking_step past b e) is ∙ all.0 past)

others_keep : (e : Entry) → IsOfOthers e → KeepsTick e
others_keep (entry.Air frame sender receiver repeaters payload) others = λ past. refl
others_keep (entry.Heard frame) others = λ past. refl
others_keep (entry.Lost frame) others = λ past. refl
others_keep (entry.Unheard frame) others = λ past. refl
others_keep (entry.Dev node by setting) others = λ past. refl
others_keep (entry.Device node setting) others = λ past. refl
others_keep (entry.Forget first second) others = λ past. refl
others_keep entry.ChipFull others = λ past. refl
others_keep (entry.Cleared side count) others = λ past. refl
others_keep e others = absurd others

mark_keeps : (e : Entry) → IsOfUnit e → KeepsTick e
mark_keeps (entry.Dropped Host) mark = λ past. refl
mark_keeps (entry.Garbled Host unit) mark = λ past. refl
mark_keeps (entry.Overrun Host) mark = λ past. refl
mark_keeps e mark = absurd mark

missed_keep : (text : List ℕ) (marks : List Entry) → DidNotCome marks → AllByRecursion KeepsTick (entry.Written Chip text ∷ marks)
missed_keep text (entry.Dropped Chip ∷ []) did = ((λ past. refl), ((λ past. refl), tt))
missed_keep text (entry.Overrun Chip ∷ []) did = ((λ past. refl), ((λ past. refl), tt))
missed_keep text (entry.Garbled Chip unit ∷ []) did = ((λ past. refl), ((λ past. refl), tt))
missed_keep text (entry.Garbled Chip unit ∷ entry.Overrun Chip ∷ []) did = ((λ past. refl), ((λ past. refl), ((λ past. refl), tt)))
missed_keep text marks did = absurd did

-- entries of others, where no part of the host runs
loose_goes : (here : Phase) (past told : List Entry) (m later : HostMachine) → IsBetween here → later.state.requests.under_way ≡ m.state.requests.under_way → later.awaits ≡ m.awaits
    → AllByRecursion IsAside told → AllByRecursion KeepsTick told → owes_end past ≡ false → KnowsReads here past m → KnowsReads here (past ++ told) later
loose_goes Resting past told m later between same numbered aside keeps owes known =
    subst (λ (o : Option UnderWay). Reads (is_none o) (past ++ told)) (sym same) (aside_read (is_none m.state.requests.under_way) past told aside owes known)
loose_goes Open past told m later between same numbered aside keeps owes known =
    subst (λ (o : Option UnderWay). Reads (is_none o) (past ++ told)) (sym same) (aside_read (is_none m.state.requests.under_way) past told aside owes known)
loose_goes Risen past told m later between same numbered aside keeps owes known = (
  subst (λ (o : Option UnderWay). Reads (is_none o) (past ++ told)) (sym same) (aside_read (is_none m.state.requests.under_way) past told aside owes known.0),
  λ is. keeps_tick past told keeps (known.1 (sym numbered ∙ is)),
)
loose_goes (Asked line) past told m later between same numbered aside keeps owes known = absurd between
loose_goes (Ticking left) past told m later between same numbered aside keeps owes known = absurd between
loose_goes (Behind left) past told m later between same numbered aside keeps owes known = absurd between
loose_goes Sleeping past told m later between same numbered aside keeps owes known = absurd between
loose_goes Submitting past told m later between same numbered aside keeps owes known = absurd between

-- ---- which nodes tick

pub ascends_from : (a b : ℕ) (left : List HostEvent) → a ≤ b → Ascends b left → Ascends a left
ascends_from a b [] less above = tt
ascends_from a b (Line_ticks ∷ left) less above = ascends_from a b left less above
ascends_from a b (Requests_do event moment ∷ left) less above = ascends_from a b left less above
ascends_from a b (Node_ticks n ∷ left) less above = let more = above.0 in (omega (arith, less, more), above.1)
ascends_from a b (event ∷ left) less above = absurd above

nodes_ascend : (p : ℕ → Bool) (last from count : ℕ) → last < from → Ascends last (map Node_ticks (filter p (range_with_len from count)))
nodes_ascend p last from zero less = tt
nodes_ascend p last from (suc count) less = by (p from) (nodes_ascend p from (from + 1) count (omega arith))
  where
    by : (b : Bool) → Ascends from (map Node_ticks (filter p (range_with_len (from + 1) count)))
        → Ascends last (map Node_ticks (if b then from ∷ filter p (range_with_len (from + 1) count) else filter p (range_with_len (from + 1) count)))
    by true rest = (less, rest)
    by false rest = ascends_from last from (map Node_ticks (filter p (range_with_len (from + 1) count))) (omega (arith, less)) rest

pub ticks_ascend : (h : HostState) → Ascends 0 (map Node_ticks (ticking_nodes h))
unfolding ticking_nodes
ticks_ascend h = nodes_ascend (λ n. needs_tick (node_of h n)) 0 1 232 (omega arith)

fresh_none : (left : List HostEvent) → IsFresh left [] []
fresh_none (Line_ticks ∷ left) = (refl, refl)
fresh_none (Requests_do event moment ∷ left) = refl
fresh_none [] = tt
fresh_none (event ∷ left) = tt

node_fresh : (left : List HostEvent) (ending chain : List Entry) → AllByRecursion IsNodeTick left → IsFresh left ending chain
node_fresh [] ending chain all = tt
node_fresh (Node_ticks n ∷ left) ending chain all = tt
node_fresh (event ∷ left) ending chain all = absurd all.0

as_over : (past : List Entry) (a b : Option UnderWay) → a ≡ b → Reads (is_none b) past → Reads (is_none a) past
as_over past a b same reads = subst (λ (o : Option UnderWay). Reads (is_none o) past) (sym same) reads

-- ---- lines and ticks

-- no line or tick may stand but where the last request has not ended
waits_by : (o : Option UnderWay) (late : Bool) → ((u : UnderWay) → o ≡ Some u → late ≡ false) → (is_none o || not late) ≡ true
waits_by None late none = refl
waits_by (Some u) late none = ap not (none u refl)

none_restarts : is_restart [] ≡ false
none_restarts = refl

last_said : (past : List Entry) (words : List ℕ) → line_last (past ++ entry.Said words ∷ []) ≡ line_of (entry.Said words)
last_said past words = folded-append line_after [] past (entry.Said words ∷ [])

module _ (past : List Entry) (words : List ℕ) (over : Bool) (reads : Reads over past) (waits : owes_none over past (entry.Said words) ≡ true) where
  said_on : is_restart (line_of (entry.Said words)) ≡ false → Reads over (past ++ entry.Said words ∷ [])
  said_on goes = Stands (entry.Said words) refl (may_by over past (entry.Said words) refl goes waits) reads

  said_anew : is_restart (line_of (entry.Said words)) ≡ true → Reads true (past ++ entry.Said words ∷ [])
  said_anew starts = Restarts words refl starts waits reads

  said_in_vain : (b : Bool) → is_restart (line_of (entry.Said words)) ≡ b → (refusal : Refusal) → Reads over ((past ++ entry.Said words ∷ []) ++ entry.Refused refusal ∷ [])
  said_in_vain true is refusal =
      subst (Reads over) (sym (append_assoc past (entry.Said words ∷ []) (entry.Refused refusal ∷ []))) (Refuses words refusal refl is waits reads)
  said_in_vain false is refusal =
      let later : List Entry = past ++ entry.Said words ∷ [] in
      Stands (entry.Refused refusal) refl
      (may_by over later (entry.Refused refusal) refl (ap is_restart (last_said past words) ∙ is)
      (none_owed over later (entry.Refused refusal) (or_right over true refl) (broken past (entry.Said words) (λ b. refl)))) (said_on is)

-- ---- a request may end

-- what is under way after it
pub next_way : (h : HostState) (next : UnderWay → Next) (o : Option UnderWay) → h.requests.under_way ≡ o → (next_from h.requests next o).under_way ≡ (doing_from (doing_of h) next o).under_way
next_way h next None is = is
next_way h next (Some u) is = by (next u)
  where
    by : (n : Next) → (went_on h.requests u n).under_way ≡ (doing_next (doing_of h) u n).under_way
    by (GoesOn progress) = refl
    by (ends_with how) = refl

pub event_way : (h : HostState) (event : RequestsEvent) (moment : Moment) (next : UnderWay → Next) → (requests_do h event).requests ≡ next_from h.requests next h.requests.under_way
    → (after h (Requests_do event moment)).requests.under_way ≡ (doing_after (doing_of h) next).under_way
event_way h event moment next is =
    ap (λ (p : Side × RequestsState). p.1.under_way) (end_if_asks (requests_do h event) (end_at h.requests event) moment) ∙ ap (λ (s : RequestsState). s.under_way) is
    ∙ next_way h next h.requests.under_way refl

-- where it does, and where it does not, this comes of it
module _ (past told : List Entry) (h g : HostState) (next : UnderWay → Next) (Q : Bool → Type 0) (nothing : (over : Bool) → told ≡ [] → Reads over past → Q over) where
  abbrev EndsRead : Type 0
  EndsRead = (u : UnderWay) (how : How) → h.requests.under_way ≡ Some u → next u ≡ ends_with how → told ≡ end_entries g (record { purpose = u.purpose; how = how }) → Reads false past → Q true

  next_reads : EndsRead → (u : UnderWay) → h.requests.under_way ≡ Some u → (n : Next) → next u ≡ n → told ≡ end_entries_if g (end_of u n) → Reads false past
      → Q (is_none (doing_next (doing_of h) u n).under_way)
  next_reads ends u is (GoesOn progress) same are reads = nothing false are reads
  next_reads ends u is (ends_with how) same are reads = ends u how is same are reads

  from_reads : EndsRead → (o : Option UnderWay) → h.requests.under_way ≡ o → told ≡ end_entries_if g (end_from next o) → Reads (is_none o) past
      → Q (is_none (doing_from (doing_of h) next o).under_way)
  from_reads ends None is are reads = nothing true are reads
  from_reads ends (Some u) is are reads = next_reads ends u is (next u) refl are reads

  request_reads : EndsRead → (k : HostState) → k.requests.under_way ≡ (doing_after (doing_of h) next).under_way → told ≡ end_entries_if g (end_from next h.requests.under_way)
      → Reads (is_none h.requests.under_way) past → Q (is_none k.requests.under_way)
  request_reads ends k does are reads = subst (λ (o : Option UnderWay). Q (is_none o)) (sym does) (from_reads ends h.requests.under_way refl are reads)

-- at a frame, or an answer; and in a tick
ended_now : (past told : List Entry) (id : ℕ) (p : Purpose) (how : How) → IsLoud how → Noted past told id p how → Reads false past → Reads true (past ++ told)
ended_now past told id p how loud (inl (notes, some, other, e)) reads = Ends told refl notes (loud_so past id p how other loud e) reads
ended_now past told id p how loud (inr (none, untold)) reads = nothing_read true past told none (Passes untold reads)

ended_late : (past told : List Entry) (id : ℕ) (p : Purpose) (how : How) → IsLate how → Noted past told id p how → Reads false past → LateReads true past told
ended_late past told id p how late (inl (notes, some, other, e)) reads = inr (refl, reads, notes, late_so past id p how late e, some)
ended_late past told id p how late (inr (none, untold)) reads = inl (Passes untold reads, none)

-- how it ends at a frame
judged_loud : (r : Response) (u : UnderWay) (how : How) → judged_by r u ≡ ends_with how → IsLoud how
judged_loud (responses.SendData answer) u how so = subst IsLoud (ends_if (answer == 0) Refused how _ so).1 tt
judged_loud (responses.RequestNodeInfo answer) u how so = subst IsLoud (ends_if (answer == 0) Refused how _ so).1 tt
judged_loud r u how so = subst IsLoud (ends_same (AtResponse r) how so) tt

response_loud : (r : Response) (u : UnderWay) (how : How) → at_response r u ≡ ends_with how → IsLoud how
response_loud r u how so = judged_loud r u how (answers_it (is_answered u.progress) (response_function r == function_of u.purpose) r u how so).1

callback_loud : (last id : ℕ) (status : TransmitStatus) (u : UnderWay) (how : How) → at_callback last id status u ≡ ends_with how → IsLoud how
callback_loud last id status u how so = subst IsLoud (ends_if _ (AtCallback status) how u.progress so).1 tt

update_loud : (first : Option ℕ) (update : Update) (u : UnderWay) (how : How) → at_update first update u ≡ ends_with how → IsLoud how
update_loud first update u how so = subst IsLoud (ends_if (ends_at_update update u) (AtUpdate update first) how u.progress so).1 tt

abort_loud : (p : Purpose) (progress : Progress) (how : How) → sent_from p progress ≡ ends_with how → IsLoud how
abort_loud Abort Submitted how is = subst IsLoud (ends_same AbortSent how is) tt
abort_loud Abort (Sent left) how is = absurd (let bad = is in cc)
abort_loud Abort (Answered sent left) how is = absurd (let bad = is in cc)
abort_loud (Housekeeping task) Submitted how is = absurd (let bad = is in cc)
abort_loud (Attempt n more payload) Submitted how is = absurd (let bad = is in cc)
abort_loud (Housekeeping task) (Sent left) how is = absurd (let bad = is in cc)
abort_loud (Attempt n more payload) (Sent left) how is = absurd (let bad = is in cc)
abort_loud (Housekeeping task) (Answered sent left) how is = absurd (let bad = is in cc)
abort_loud (Attempt n more payload) (Answered sent left) how is = absurd (let bad = is in cc)

tick_late : (o : Option Progress) (how : How) → on_with o ≡ ends_with how → IsLate how
tick_late (Some progress) how is = absurd (cannot_end progress how is)
tick_late None how is = subst IsLate (silent_so how is) tt

-- ---- the ground

abbrev pub ShowsOpen : Type 0
ShowsOpen = (past : List Entry) (h : HostState) (n : ℕ) → Facts past h → is_open n past ≡ has_open (node_of h n)

abbrev pub TellsWalk : Type 0
TellsWalk = Walk TellsEnd (both_know (both_know RequestsGround KnowsAsked) KnowsEnds)

-- the event of an item is behind it
items_of : (left : List HostEvent) (past : List Entry) (m : HostMachine) → KnowsWork (Behind left) past m → AllByRecursion IsOfItem left
items_of left past m work = work.0.1

module _ (here : Phase) (past : List Entry) (m : HostMachine) (ground : KnowsSleep here past m) (other : IsElse here) where
  sleeper_is : (n : ℕ) → IsNode n → is_awake_sleeper n past ≡ falls_asleep (node_of m.state n)
  sleeper_is n (from, to) =
      let tells = telling here past m ground in
      ap₂ (λ (a b : Bool). a && not b) (sym (rest_of CountsAwake here past m other tells.0.0.1 n from to)) (tells.0.0.0.1 n to)
      ∙ ap (λ (b : Bool). (node_of m.state n).awake && b) (not_is (node_of m.state n).listens)

  pub nodes_so : ShowsOpen → NodesSo past m.state
  nodes_so shows =
      let facts = facts_of here past m ground in record {
        begun = λ n. facts.begun n;
        facts = λ n. facts.host.nodes.facts n;
        sleeper = sleeper_is;
        opened = λ n. shows past m.state n facts;
      }

  -- what is known of an end of the request under way
  pub end_of_it : (told : List Entry) (u : UnderWay) (how : How) → m.state.requests.under_way ≡ Some u → CarriesSo u.purpose
      → ((e : Entry) (more : List Entry) → told ≡ e ∷ more → EndsHere past m.state.requests.last_id u.purpose how) → EndOf past told m.state.requests.last_id u.purpose how
  end_of_it told u how is carries ends =
      let request = (slept here past m ground other).request u is in
      let wells = well here past m ground other in record {
        request = request;
        carries = carries;
        well = subst UnderWayWell is wells;
        tells_so = frame_tells past m.state.requests u is wells request;
        ends = ends;
      }

pub requests_nodes : (past : List Entry) (h : HostState) (requests : RequestsState) → NodesSo past h → NodesSo past (record h { requests = requests })
requests_nodes past h requests nodes = record { begun = nodes.begun; facts = nodes.facts; sleeper = nodes.sleeper; opened = nodes.opened }

pub ticked_nodes : (past : List Entry) (h : HostState) → NodesSo past h → NodesSo past (line_ticked h)
ticked_nodes past h nodes = record { begun = nodes.begun; facts = nodes.facts; sleeper = nodes.sleeper; opened = nodes.opened }

-- what a request carries is known while it is under way
pub carries_by : (past : List Entry) (line_now now : ℕ) (came : List LineUnit) (d : Doing) (u : UnderWay) → d.under_way ≡ Some u → TieAsked past line_now now came d → CarriesSo u.purpose
carries_by past line_now now came d u is (inl none) = absurd (let nothing = none.none in let bad : None ≡ Some u = sym nothing ∙ is in cc)
carries_by past line_now now came d u is (inr (was, asks)) =
    (subst (λ (o : Option UnderWay). TieUnderWay (standing_of (asked past)) line_now now (acknowledged past) d.turn d.id d.leaving o) is asks.under_way).1.3

-- an acknowledged frame ends an abort and nothing else
sent_ends : (p : Purpose) (progress : Progress) (how : How) → sent_from p progress ≡ ends_with how → p ≡ Abort
sent_ends Abort progress how is = refl
sent_ends (Housekeeping task) Submitted how is = absurd (let bad = is in cc)
sent_ends (Attempt n more payload) Submitted how is = absurd (let bad = is in cc)
sent_ends (Housekeeping task) (Sent left) how is = absurd (let bad = is in cc)
sent_ends (Attempt n more payload) (Sent left) how is = absurd (let bad = is in cc)
sent_ends (Housekeeping task) (Answered sent left) how is = absurd (let bad = is in cc)
sent_ends (Attempt n more payload) (Answered sent left) how is = absurd (let bad = is in cc)

abort_tells : (g : HostState) (p : Purpose) (how : How) → p ≡ Abort → end_entries g (record { purpose = p; how = how }) ≡ []
abort_tells g p how is = ap (λ (q : Purpose). end_entries g (record { purpose = q; how = how })) is

-- the end of an interview whose information came
pub informs_so : (o : Option UnderWay) (first : Option ℕ) (n basic generic specific : ℕ) (classes : List ℕ) (capability : ℕ)
    → interviewed_from first (Received n basic generic specific classes) o ≡ Some capability → Informs o first (Received n basic generic specific classes) capability
informs_so o first n basic generic specific classes capability is = asked_so first (Received n basic generic specific classes) o capability is

pub failed_how : (how : How) → ends_with LinkFailed ≡ ends_with how → LinkFailed ≡ how
failed_how how is = cc

-- ---- in a tick

module _ (shows : ShowsOpen) (first : HostEvent) (left : List HostEvent) (past told : List Entry) (m : HostMachine) (ground : KnowsSleep (Ticking (first ∷ left)) past m) (tells : EachAfter TellsEnd past told)
    (numbered : IsNumbered m told) where
  nodes_tick : NodesSo past m.state
  nodes_tick = nodes_so (Ticking (first ∷ left)) past m ground tt shows

  time_tick : (e : Entry) (more : List Entry) → told ≡ e ∷ more → clock past ≡ m.clock
  time_tick e more are = time_told (Ticking (first ∷ left)) past told m (requested (Ticking (first ∷ left)) past m ground) numbered e more are

  end_tick : (u : UnderWay) (how : How) → m.state.requests.under_way ≡ Some u → CarriesSo u.purpose → ((e : Entry) (more : List Entry) → told ≡ e ∷ more → EndsHere past m.state.requests.last_id u.purpose how)
      → EndOf past told m.state.requests.last_id u.purpose how
  end_tick u how is carries ends = end_of_it (Ticking (first ∷ left)) past m ground tt told u how is carries ends

  line_asks : (more : List HostEvent) → first ∷ left ≡ Line_ticks ∷ more → both_know RequestsGround KnowsAsked (Ticking (Line_ticks ∷ more)) past m
  line_asks more is =
      subst (λ (l : List HostEvent). both_know RequestsGround KnowsAsked (Ticking l) past m) is (requested (Ticking (first ∷ left)) past m ground, asks_of (Ticking (first ∷ left)) past m ground)

  -- what was known before, and what is then
  module _ (known : ReadsTick (first ∷ left) past m) where
    late_nothing : (over : Bool) → told ≡ [] → Reads over past → LateReads over past told
    late_nothing over none reads = inl (reads, none)

    -- nothing was noted yet in the tick
    at_start : known.ending ≡ [] → known.chain ≡ [] → past ≡ known.start
    at_start none nothing = known.are ∙ plain_past known.start known.ending known.chain none nothing

    read_start : known.ending ≡ [] → known.chain ≡ [] → LateReads (is_none m.state.requests.under_way) known.start known.ending → ReadsAt past m
    read_start none nothing (inl (reads, still)) = subst (Reads (is_none m.state.requests.under_way)) (sym (at_start none nothing)) reads
    read_start none nothing (inr (over, reads, notes, late, some)) = absurd (some none)

    ticks_start : known.ending ≡ [] → known.chain ≡ [] → m.awaits ≡ false → is_ticking past ≡ true
    ticks_start none nothing is = ap is_ticking (at_start none nothing) ∙ known.ticks is

    made : (event : HostEvent) (start ending : List Entry) → past ++ told ≡ start ++ ending → LateReads (is_none (after m.state event).requests.under_way) start ending
        → (m.awaits ≡ false → is_ticking start ≡ true) → (m.awaits ≡ true → ending ≡ []) → Ascends 0 left → IsFresh left ending [] → ReadsTick left (past ++ told) (done m event)
    made event start ending are reads ticks unnumbered above fresh = record {
      start = start;
      ending = ending;
      chain = [];
      last = 0;
      are = are ∙ sym (append-nil (start ++ ending));
      reads = reads;
      gives = None_yet;
      ticks = ticks;
      unnumbered = λ is. (unnumbered is, refl);
      above = above;
      fresh = fresh;
    }

    -- the line gives it up
    fails_reads : (more : List HostEvent) → first ∷ left ≡ Line_ticks ∷ more → (before : ℕ) → TieAsked past before before m.came (doing_of m.state) → (b : Bool)
        → gives_up m.state.side.turn (turn_ticked m.state.side.turn) ≡ b → told ≡ failing_entries b (line_ticked m.state) → ReadsAt past m
        → LateReads (is_none (failing_if b (line_ticked m.state)).requests.under_way) past told
    fails_reads more is before tie false gives are reads = inl (reads, are)
    fails_reads more is before tie true gives are reads =
        let g : HostState = requests_do (line_ticked m.state) Fails in
        request_reads past told (line_ticked m.state) g (λ u. ends_with LinkFailed) (λ over. LateReads over past told) late_nothing
        (λ u how under same told_is. ended_late past told m.state.requests.last_id u.purpose how (subst IsLate (failed_how how same) tt)
        (end_noted past g (requests_nodes past (line_ticked m.state) _ (ticked_nodes past m.state nodes_tick)) told m.state.requests.last_id tells u.purpose how
        (end_tick u how under (carries_by past before before m.came (doing_of m.state) u under tie)
        (λ e rest told_so. subst (EndsHere past m.state.requests.last_id u.purpose) (failed_how how same) (given_up_at past m more u (line_asks more is) (time_tick e rest told_so) under gives))) told_is))
        (after (line_ticked m.state) (Requests_do Fails BeforeItsTick)) (event_way (line_ticked m.state) Fails BeforeItsTick (λ u. ends_with LinkFailed) refl) are reads

    -- what its tick leaves of the request, by the frame on it: a copy is written, or something may be noted
    abbrev line_left : Turn → Option UnderWay
    line_left turn = (failing_if (gives_up turn (turn_ticked turn)) (line_ticked m.state)).requests.under_way

    abbrev LineLeaves : Option UnderWay → Type 0
    LineLeaves way = LateReads (is_none way) past told ⊎ (Reads (is_none way) (past ++ told) × (is_ticking past ≡ true → is_ticking (past ++ told) ≡ true))

    copied_reads : (before : ℕ) → AreFrames m.came → TieAsked past before before m.came (doing_of m.state) → (f : FrameParts) (copies ticks : ℕ) → m.state.side.turn ≡ Paused f copies ticks
        → AreTold (line_outs m.state (Paused f copies ticks)) told → ReadsAt past m → LineLeaves (line_left (Paused f copies ticks))
    copied_reads before frames tie f copies ticks turn_is are reads = by (ticks + 1 == pause_after copies) are
      where
        by : (b : Bool)
            → AreTold (copy_out (if b then Some f else None) ++ noted (failing_entries (gives_up (Paused f copies ticks) (if b then Copied f (copies + 1) 0 else Paused f copies (ticks + 1))) (line_ticked m.state))) told
            → LineLeaves (failing_if (gives_up (Paused f copies ticks) (if b then Copied f (copies + 1) 0 else Paused f copies (ticks + 1))) (line_ticked m.state)).requests.under_way
        by true (marks, rest, is, all, nothing) =
            let unit : List ℕ = unit_text (Framed f) in
            let are : told ≡ entry.Written Host unit ∷ marks = is ∙ ap (λ (l : List Entry). entry.Written Host unit ∷ (marks ++ l)) nothing
            ∙ ap (λ (l : List Entry). entry.Written Host unit ∷ l) (append-nil marks) in
            let old = paused_old (Ticking (first ∷ left)) past told m before frames tie f copies ticks turn_is in
            inr (
              unit_read (is_none m.state.requests.under_way) past told marks _ unit old is all nothing (owes_by past ground.0.1) reads,
              λ ticks. ap (λ (l : List Entry). is_ticking (past ++ l)) are ∙ ap is_ticking (sym (append_assoc past (entry.Written Host unit ∷ []) marks))
                  ∙ keeps_tick (past ++ entry.Written Host unit ∷ []) marks (all-weaker IsOfUnit KeepsTick mark_keeps marks all)
                  (ticking_one past (entry.Written Host unit) ∙ ap₂ (λ (a b : Bool). a && is_data unit && not b) ticks old),
            )
        by false is = inl (inl (reads, is))

    line_reads : (more : List HostEvent) → first ∷ left ≡ Line_ticks ∷ more → (before : ℕ) → AreFrames m.came → TieAsked past before before m.came (doing_of m.state) → (turn : Turn)
        → m.state.side.turn ≡ turn → AreTold (line_outs m.state turn) told → ReadsAt past m → LineLeaves (line_left turn)
    line_reads more is before frames tie Idle turn_is are reads = inl (inl (reads, are))
    line_reads more is before frames tie (Copied f copies ticks) turn_is are reads =
        let gives : Bool = gives_up (Copied f copies ticks) (turn_ticked (Copied f copies ticks)) in
        inl (fails_reads more is before tie gives (ap (λ (t : Turn). gives_up t (turn_ticked t)) turn_is) (noted_told (failing_entries gives (line_ticked m.state)) told are) reads)
    line_reads more is before frames tie (Paused f copies ticks) turn_is are reads = copied_reads before frames tie f copies ticks turn_is are reads

    as_event : (event these : HostEvent) → event ≡ these → ReadsTick left (past ++ told) (done m these) → ReadsTick left (past ++ told) (done m event)
    as_event event these is reads = subst (λ (e : HostEvent). ReadsTick left (past ++ told) (done m e)) (sym is) reads

    -- the line's part
    line_goes : (nodes : List HostEvent) → first ∷ left ≡ first_ticks ++ nodes → BeforeTick past m → AreTold (outs m.state Line_ticks) told → ReadsTick left (past ++ told) (done m Line_ticks)
    line_goes nodes these before are = by (line_reads (Requests_do request_ticks BeforeItsTick ∷ nodes) these before.before (requested (Ticking (first ∷ left)) past m ground).0.1 before.tie m.state.side.turn refl are start)
      where
        left_is : left ≡ Requests_do request_ticks BeforeItsTick ∷ nodes
        left_is = left_same first Line_ticks left (Requests_do request_ticks BeforeItsTick ∷ nodes) these

        fresh : (known.ending ≡ []) × (known.chain ≡ [])
        fresh = subst (λ (l : List HostEvent). IsFresh l known.ending known.chain) these known.fresh

        start : ReadsAt past m
        start = read_start fresh.0 fresh.1 known.reads

        above : Ascends 0 left
        above = subst (Ascends 0) (sym left_is) (ascends_from 0 known.last (Requests_do request_ticks BeforeItsTick ∷ nodes) (omega arith) (subst (Ascends known.last) these known.above))

        fresh_then : (ending : List Entry) → IsFresh left ending []
        fresh_then ending = subst (λ (l : List HostEvent). IsFresh l ending []) (sym left_is) refl

        by : LineLeaves (line_left m.state.side.turn) → ReadsTick left (past ++ told) (done m Line_ticks)
        by (inl late) = made Line_ticks past told refl late (ticks_start fresh.0 fresh.1) numbered above (fresh_then told)
        by (inr (reads, keeps)) =
            made Line_ticks (past ++ told) [] (sym (append-nil (past ++ told))) (inl (reads, refl)) (λ is. keeps (ticks_start fresh.0 fresh.1 is)) (λ is. refl) above (fresh_then [])

    -- the request's part: its wait ends
    silent_reads : (nodes : List HostEvent) → first ∷ left ≡ Requests_do request_ticks BeforeItsTick ∷ nodes → HalfTick past m → AreTold (outs m.state (Requests_do request_ticks BeforeItsTick)) told → ReadsAt past m
        → LateReads (is_none (after m.state (Requests_do request_ticks BeforeItsTick)).requests.under_way) past told
    silent_reads nodes these half are reads =
        let g : HostState = requests_do m.state request_ticks in
        request_reads past told m.state g at_tick (λ over. LateReads over past told) late_nothing
        (λ u how under same told_is. ended_late past told m.state.requests.last_id u.purpose how (tick_late (counted_down u.progress) how same)
        (end_noted past g (requests_nodes past m.state _ nodes_tick) told m.state.requests.last_id tells u.purpose how
        (end_tick u how under (carries_by past m.clock half.before m.came (doing_of m.state) u under half.tie)
        (λ e rest told_so. silent_at past m nodes u how (subst (λ (l : List HostEvent). KnowsAsked (Ticking l) past m) these (asks_of (Ticking (first ∷ left)) past m ground)) (time_tick e rest told_so) under same)) told_is))
        (after m.state (Requests_do request_ticks BeforeItsTick)) (event_way m.state request_ticks BeforeItsTick at_tick refl) (noted_told (request_entries m.state request_ticks) told are) reads

    none_way : (o : Option UnderWay) → is_none o ≡ true → o ≡ None
    none_way None is = refl
    none_way (Some u) is = absurd (let bad : false ≡ true = is in cc)

    request_goes : (nodes : List HostEvent) → first ∷ left ≡ Requests_do request_ticks BeforeItsTick ∷ nodes → AllByRecursion IsNodeTick nodes → HalfTick past m
        → AreTold (outs m.state (Requests_do request_ticks BeforeItsTick)) told → ReadsTick left (past ++ told) (done m (Requests_do request_ticks BeforeItsTick))
    request_goes nodes these all half are = by known.reads refl
      where
        event : HostEvent
        event = Requests_do request_ticks BeforeItsTick

        left_is : left ≡ nodes
        left_is = left_same first event left nodes these

        nothing : known.chain ≡ []
        nothing = subst (λ (l : List HostEvent). IsFresh l known.ending known.chain) these known.fresh

        above : Ascends known.last left
        above = subst (Ascends known.last) (sym left_is) (subst (Ascends known.last) these known.above)

        fresh_then : (ending chain : List Entry) → IsFresh left ending chain
        fresh_then ending chain = node_fresh left ending chain (subst (AllByRecursion IsNodeTick) (sym left_is) all)

        by : (reads : LateReads (is_none m.state.requests.under_way) known.start known.ending) → known.reads ≡ reads → ReadsTick left (past ++ told) (done m event)
        by (inl (reads, none)) same =
            made event past told refl (silent_reads nodes these half are (read_start none nothing known.reads)) (ticks_start none nothing) numbered (ascends_from 0 known.last left (omega arith) above) (fresh_then told [])
        by (inr (over, reads, notes, late, some)) same =
            let idle : m.state.requests.under_way ≡ None = none_way m.state.requests.under_way over in
            let nothing_told : told ≡ [] = noted_told (request_entries m.state request_ticks) told are ∙ ap (λ (o : Option UnderWay). end_entries_if (requests_do m.state request_ticks) (end_from at_tick o)) idle in
            let way : (after m.state event).requests.under_way ≡ None = event_way m.state request_ticks BeforeItsTick at_tick refl ∙ ap (λ (o : Option UnderWay). (doing_from (doing_of m.state) at_tick o).under_way) idle in record {
              start = known.start;
              ending = known.ending;
              chain = known.chain;
              last = known.last;
              are = ap (λ (l : List Entry). past ++ l) nothing_told ∙ append-nil past ∙ known.are;
              reads = inr (ap (λ (o : Option UnderWay). is_none o) way, reads, notes, late, some);
              gives = known.gives;
              ticks = known.ticks;
              unnumbered = known.unnumbered;
              above = above;
              fresh = fresh_then known.ending known.chain;
            }

    -- a node's part
    node_goes : (n : ℕ) → first ≡ Node_ticks n → AllByRecursion IsNodeTick left → IsNode n → AreTold (outs m.state (Node_ticks n)) told → ReadsTick left (past ++ told) (done m (Node_ticks n))
    node_goes n first_is all is are = by (node_noted past m.state nodes_tick told n is (noted_told (attempt_entries n (tick_end (node_of m.state n)) (open_command (node_of m.state n))) told are))
      where
        above : (known.last < n) × Ascends n left
        above = subst (λ (e : HostEvent). Ascends known.last (e ∷ left)) first_is known.above

        reads : LateReads (is_none (after m.state (Node_ticks n)).requests.under_way) known.start known.ending
        reads = subst (λ (o : Option UnderWay). LateReads (is_none o) known.start known.ending) (sym (ap (λ (d : Doing). d.under_way) (beside_same m.state (Node_ticks n) tt))) known.reads

        by : (told ≡ []) ⊎ GivesUp past n told → ReadsTick left (past ++ told) (done m (Node_ticks n))
        by (inl none) = record {
          start = known.start;
          ending = known.ending;
          chain = known.chain;
          last = known.last;
          are = ap (λ (l : List Entry). past ++ l) none ∙ append-nil past ∙ known.are;
          reads = reads;
          gives = known.gives;
          ticks = known.ticks;
          unnumbered = known.unnumbered;
          above = let less = above.0 in ascends_from known.last n left (omega (arith, less)) above.1;
          fresh = node_fresh left known.ending known.chain all;
        }
        by (inr gives) = record {
          start = known.start;
          ending = known.ending;
          chain = known.chain ++ told;
          last = n;
          are = ap (λ (l : List Entry). l ++ told) known.are ∙ append_assoc (known.start ++ known.ending) known.chain told;
          reads = reads;
          gives = One_more n told refl above.0 (subst (λ (l : List Entry). GivesUp l n told) known.are gives) known.gives;
          ticks = known.ticks;
          unnumbered = λ awaits. ((known.unnumbered awaits).0, ap₂ (λ (a b : List Entry). a ++ b) (known.unnumbered awaits).1 (numbered awaits));
          above = above.1;
          fresh = node_fresh left known.ending (known.chain ++ told) all;
        }

    node_event : (event : HostEvent) → event ≡ first → IsNodeTick event → TicksNode event → AllByRecursion IsNodeTick left → AreTold (outs m.state event) told → ReadsTick left (past ++ told) (done m event)
    node_event (Node_ticks n) first_is node is all are = node_goes n (sym first_is) all is are
    node_event event first_is node is all are = absurd node

    tick_reads : (event : HostEvent) → event ≡ first → AreTold (outs m.state event) told → KnowsTick (first ∷ left) past m → ReadsTick left (past ++ told) (done m event)
    tick_reads event is are (inl (nodes, these, all, before)) =
        let line_is : event ≡ Line_ticks = is ∙ first_same first Line_ticks left (Requests_do request_ticks BeforeItsTick ∷ nodes) these in
        as_event event Line_ticks line_is (line_goes nodes these before (subst (λ (e : HostEvent). AreTold (outs m.state e) told) line_is are))
    tick_reads event is are (inr (inl (nodes, these, all, half))) =
        let request_is : event ≡ Requests_do request_ticks BeforeItsTick = is ∙ first_same first (Requests_do request_ticks BeforeItsTick) left nodes these in
        as_event event (Requests_do request_ticks BeforeItsTick) request_is (request_goes nodes these all half (subst (λ (e : HostEvent). AreTold (outs m.state e) told) request_is are))
    tick_reads event is are (inr (inr (all, known_so))) = node_event event is (subst IsNodeTick (sym is) all.0) (subst TicksNode (sym is) ground.1.1.0) all.1 are

-- ---- behind an item

module _ (shows : ShowsOpen) (first : HostEvent) (left : List HostEvent) (past told : List Entry) (m : HostMachine) (ground : KnowsSleep (Behind (first ∷ left)) past m) (tells : EachAfter TellsEnd past told)
    (numbered : IsNumbered m told) (are : AreTold (outs m.state first) told) (reads : ReadsAt past m) where
  nodes_behind : NodesSo past m.state
  nodes_behind = nodes_so (Behind (first ∷ left)) past m ground tt shows

  end_behind : (u : UnderWay) (how : How) → m.state.requests.under_way ≡ Some u → CarriesSo u.purpose → ((e : Entry) (more : List Entry) → told ≡ e ∷ more → EndsHere past m.state.requests.last_id u.purpose how)
      → EndOf past told m.state.requests.last_id u.purpose how
  end_behind u how is carries ends = end_of_it (Behind (first ∷ left)) past m ground tt told u how is carries ends

  time_behind : (e : Entry) (more : List Entry) → told ≡ e ∷ more → clock past ≡ m.clock
  time_behind e more is = time_told (Behind (first ∷ left)) past told m (requested (Behind (first ∷ left)) past m ground) numbered e more is

  abbrev Then : Type 0
  Then = ReadsAt (past ++ told) (done m first)

  then_at : (event : HostEvent) → first ≡ event → ReadsAt (past ++ told) (done m event) → Then
  then_at event is so = subst (λ (e : HostEvent). ReadsAt (past ++ told) (done m e)) (sym is) so

  told_at : (event : HostEvent) → first ≡ event → AreTold (outs m.state event) told
  told_at event is = subst (λ (e : HostEvent). AreTold (outs m.state e) told) is are

  -- nothing of a request
  apart_reads : TellsNoEnd first → Unsubmitted first → OwesNoEnd past → Then
  apart_reads none un owes =
      let it = behind_leaves first none (items_of (first ∷ left) past m (work_of (Behind (first ∷ left)) past m ground)).0 un in
      as_over (past ++ told) (after m.state first).requests.under_way m.state.requests.under_way (ap (λ (d : Doing). d.under_way) (beside_same m.state first it.0))
      (aside_read (is_none m.state.requests.under_way) past told (event_aside m.state first told it.1 are) (owes_by past owes) reads)

  -- the request hears of it, and may end
  abbrev ByEvent : (UnderWay → Next) → Type 0
  ByEvent next = EndsFrom past m.state.requests.last_id next m.state.requests.under_way

  ends_at : (next : UnderWay → Next) → ByEvent next → (u : UnderWay) (how : How) → m.state.requests.under_way ≡ Some u → next u ≡ ends_with how → EndsHere past m.state.requests.last_id u.purpose how
  ends_at next ends u how under same = subst (EndsBy past m.state.requests.last_id u) same (subst (EndsFrom past m.state.requests.last_id next) under ends)

  now_nothing : (over : Bool) → told ≡ [] → Reads over past → Reads over (past ++ told)
  now_nothing over none read = nothing_read over past told none read

  hears_reads : (event : RequestsEvent) (next : UnderWay → Next) → ((u : UnderWay) (how : How) → next u ≡ ends_with how → IsLoud how)
      → (requests_do m.state event).requests ≡ next_from m.state.requests next m.state.requests.under_way
      → end_from next m.state.requests.under_way ≡ end_at m.state.requests event → ByEvent next → first ≡ Requests_do event BetweenTicks → Then
  hears_reads event next loud does same ends is =
      let g : HostState = requests_do m.state event in
      then_at (Requests_do event BetweenTicks) is
      (request_reads past told m.state g next (λ over. Reads over (past ++ told)) now_nothing
      (λ u how under so told_is.
      let e = ends_at next ends u how under so in
      ended_now past told m.state.requests.last_id u.purpose how (loud u how so)
      (end_noted past g (requests_nodes past m.state _ nodes_behind) told m.state.requests.last_id tells u.purpose how (end_behind u how under e.carries (λ one more told_so. e)) told_is))
      (after m.state (Requests_do event BetweenTicks)) (event_way m.state event BetweenTicks next does)
      (noted_told (request_entries m.state event) told (told_at (Requests_do event BetweenTicks) is) ∙ ap (end_entries_if g) (sym same)) reads)

  -- the information of a node came, and is kept or not
  informed_reads : (event : HostEvent) (n basic generic specific : ℕ) (classes : List ℕ) (capability : ℕ) → first ≡ event
      → (after m.state event).requests.under_way ≡ (doing_after (doing_of m.state) (at_update m.state.requests.first (Received n basic generic specific classes))).under_way
      → (told ≡ entry.Interviewed n ∷ []) ⊎ (told ≡ entry.Unkept n ∷ []) → interviewed_by m.state.requests (Received n basic generic specific classes) ≡ Some capability
      → ByEvent (at_update m.state.requests.first (Received n basic generic specific classes)) → Then
  informed_reads event n basic generic specific classes capability is does notes brought ends =
      let update : Update = Received n basic generic specific classes in
      let it = informs_so m.state.requests.under_way m.state.requests.first n basic generic specific classes capability brought in
      let next : UnderWay → Next = at_update m.state.requests.first update in
      let goes : next it.u ≡ ends_with (AtUpdate update (Some capability)) =
      ap (λ (b : Bool). if b then ends_with (AtUpdate update m.state.requests.first) else GoesOn it.u.progress) it.ends ∙ ap (λ (o : Option ℕ). ends_with (AtUpdate update o)) it.brought in
      let e = ends_at next ends it.u (AtUpdate update (Some capability)) it.under_way goes in
      let purpose_is : it.u.purpose ≡ Housekeeping (Second n) = second_is it.u.purpose n basic generic specific classes it.ends in
      let end : EndOf past told m.state.requests.last_id (Housekeeping (Second n)) (AtUpdate update (Some capability)) =
      subst (λ (p : Purpose). EndOf past told m.state.requests.last_id p (AtUpdate update (Some capability))) purpose_is
      (end_behind it.u (AtUpdate update (Some capability)) it.under_way e.carries (λ one more told_so. e)) in
      let over : is_none (doing_after (doing_of m.state) next).under_way ≡ true =
      ap (λ (o : Option UnderWay). is_none (doing_from (doing_of m.state) next o).under_way) it.under_way ∙ ap (λ (k : Next). is_none (doing_next (doing_of m.state) it.u k).under_way) goes in
      let before : Reads false past = subst (λ (o : Option UnderWay). Reads (is_none o) past) it.under_way reads in
      then_at event is
      (as_over (past ++ told) (after m.state event).requests.under_way (doing_after (doing_of m.state) next).under_way does
      (subst (λ (b : Bool). Reads b (past ++ told)) (sym over)
      (ended_now past told m.state.requests.last_id (Housekeeping (Second n)) (AtUpdate update (Some capability)) tt
      (interview_noted past m.state nodes_behind told m.state.requests.last_id tells n basic generic specific classes capability end notes) before)))

  updated_reads : (update : Update) (brought : Option ℕ) → interviewed_by m.state.requests update ≡ brought → InterviewEvents update brought (first ∷ left)
      → ByEvent (at_update m.state.requests.first update) → Then
  updated_reads (Received n basic generic specific classes) (Some capability) is (inl these) ends =
      let event_is = first_same first (Interviews n _ classes (Received n basic generic specific classes)) left [] these in
      informed_reads (Interviews n _ classes (Received n basic generic specific classes)) n basic generic specific classes capability event_is
      (next_way m.state (at_update m.state.requests.first (Received n basic generic specific classes)) m.state.requests.under_way refl) (inl (noted_told (entry.Interviewed n ∷ []) told (told_at _ event_is))) is ends
  updated_reads (Received n basic generic specific classes) (Some capability) is (inr these) ends =
      let event_is = first_same first (Interview_unkept n (Received n basic generic specific classes)) left [] these in
      informed_reads (Interview_unkept n (Received n basic generic specific classes)) n basic generic specific classes capability event_is
      (next_way m.state (at_update m.state.requests.first (Received n basic generic specific classes)) m.state.requests.under_way refl) (inr (noted_told (entry.Unkept n ∷ []) told (told_at _ event_is))) is ends
  updated_reads RequestFailed (Some capability) is these ends = absurd (let bad : first ∷ left ≡ [] = these in cc)
  updated_reads (Received n basic generic specific classes) None is these ends =
      hears_reads (Updates (Received n basic generic specific classes)) (at_update m.state.requests.first (Received n basic generic specific classes))
      (update_loud m.state.requests.first (Received n basic generic specific classes)) refl refl ends (first_same first _ left [] these)
  updated_reads RequestFailed None is these ends =
      hears_reads (Updates RequestFailed) (at_update m.state.requests.first RequestFailed) (update_loud m.state.requests.first RequestFailed) refl refl ends (first_same first _ left [] these)

  framed_reads : (event : RequestsEvent) → AreToldOf m.state event (first ∷ left) → EndsFrom past m.state.requests.last_id (next_at m.state.requests event) m.state.requests.under_way → Then
  framed_reads (Responds r) these ends = hears_reads (Responds r) (at_response r) (response_loud r) refl refl ends (first_same first _ left [] these)
  framed_reads (CallsBack id status) these ends =
      hears_reads (CallsBack id status) (at_callback m.state.requests.last_id id status) (callback_loud m.state.requests.last_id id status) refl refl ends (first_same first _ left [] these)
  framed_reads (Updates update) these ends = updated_reads update (interviewed_by m.state.requests update) refl these ends
  framed_reads event these ends = absurd these

  -- the line tells
  lined_reads : (event : RequestsEvent) → first ∷ left ≡ told_requests event → LineEnds past m.clock m.state.requests.last_id event m.state.requests.under_way → Then
  lined_reads IsSent these ends =
      let is = first_same first (Requests_do IsSent BetweenTicks) left [] these in
      let g : HostState = requests_do m.state IsSent in
      then_at (Requests_do IsSent BetweenTicks) is
      (request_reads past told m.state g at_sent (λ over. Reads over (past ++ told)) now_nothing
      (λ u how under same told_is.
      let aborts : u.purpose ≡ Abort = sent_ends u.purpose u.progress how same in
      let none : told ≡ [] = told_is ∙ abort_tells g u.purpose how aborts in
      ended_now past told m.state.requests.last_id u.purpose how (abort_loud u.purpose u.progress how same)
      (end_noted past g (requests_nodes past m.state _ nodes_behind) told m.state.requests.last_id tells u.purpose how
      (end_behind u how under (subst CarriesSo (sym aborts) tt) (λ e more told_so. absurd (let bad : [] ≡ e ∷ more = sym none ∙ told_so in cc))) told_is))
      (after m.state (Requests_do IsSent BetweenTicks)) (event_way m.state IsSent BetweenTicks at_sent refl) (noted_told (request_entries m.state IsSent) told (told_at _ is)) reads)
  lined_reads Fails these ends =
      let is = first_same first (Requests_do Fails BetweenTicks) left [] these in
      let g : HostState = requests_do m.state Fails in
      then_at (Requests_do Fails BetweenTicks) is
      (request_reads past told m.state g (λ u. ends_with LinkFailed) (λ over. Reads over (past ++ told)) now_nothing
      (λ u how under same told_is.
      let gone : GivenUp past m.clock m.state.requests.last_id u.purpose = subst (LineEnds past m.clock m.state.requests.last_id Fails) under ends in
      ended_now past told m.state.requests.last_id u.purpose how (subst IsLoud (failed_how how same) tt)
      (end_noted past g (requests_nodes past m.state _ nodes_behind) told m.state.requests.last_id tells u.purpose how
      (end_behind u how under gone.carries
      (λ e more told_so. subst (EndsHere past m.state.requests.last_id u.purpose) (failed_how how same) (given_so past m.clock m.state.requests.last_id u.purpose (time_behind e more told_so) gone))) told_is))
      (after m.state (Requests_do Fails BetweenTicks)) (event_way m.state Fails BetweenTicks (λ u. ends_with LinkFailed) refl) (noted_told (request_entries m.state Fails) told (told_at _ is)) reads)
  lined_reads event these ends = absurd ends

  behind_reads : Unsubmitted first → KnowsEnds (Behind (first ∷ left)) past m → Then
  behind_reads un (inl (all, owes)) = apart_reads all.0 un owes
  behind_reads un (inr (inl by_frame)) = framed_reads by_frame.event by_frame.told by_frame.ends
  behind_reads un (inr (inr by_line)) = lined_reads by_line.event by_line.told by_line.ends

-- ---- in a pump

sleepers_none : SleepersAre NotesNoEnd
sleepers_none = record { queues = λ n. tt; drops = λ n. tt }

sleepers_leave : SleepersAre LeavesRequest
sleepers_leave = record { queues = λ n. tt; drops = λ n. tt }

aside_event : (past told : List Entry) (m : HostMachine) (event : HostEvent) → LeavesRequest event → NotesNoEnd event → AreTold (outs m.state event) told → owes_end past ≡ false → ReadsAt past m → ReadsAt (past ++ told) (done m event)
aside_event past told m event leaves none are owes reads =
    as_over (past ++ told) (after m.state event).requests.under_way m.state.requests.under_way (ap (λ (d : Doing). d.under_way) (beside_same m.state event leaves))
    (aside_read (is_none m.state.requests.under_way) past told (event_aside m.state event told none are) owes reads)

begins_leaves : (event : HostEvent) → IsSubmission event → Unsubmitted event → LeavesRequest event × NotesNoEnd event
begins_leaves (Begins n session command) sub un = (tt, tt)
begins_leaves (Begin_unkept n) sub un = (tt, tt)
begins_leaves happening.Submits_abort sub un = absurd un
begins_leaves happening.Submits_front sub un = absurd un
begins_leaves (happening.Starts n plan more payload) sub un = absurd un
begins_leaves (happening.Gives_text n payload) sub un = absurd un
begins_leaves (happening.Gives_segment n more payload) sub un = absurd un
begins_leaves event sub un = absurd sub

submit_reads : (past told : List Entry) (m : HostMachine) (event : HostEvent) → IsSubmission event → AreTold (outs m.state event) told → Wrote Submitting past told m.state event → owes_end past ≡ false → ReadsAt past m
    → ReadsAt (past ++ told) (done m event)
submit_reads past told m event sub are (Quietly un quiet) owes reads = let it = begins_leaves event sub un in aside_event past told m event it.0 it.1 are owes reads
submit_reads past told m event sub are (Again f rest un is old quiet) owes reads = let it = begins_leaves event sub un in aside_event past told m event it.0 it.1 are owes reads
submit_reads past told m event sub are (Anew purpose f marks here_is free is new all now) owes reads =
    let unit : List ℕ = unit_text (Framed f) in
    let before : Reads true past = subst (λ (o : Option UnderWay). Reads (is_none o) past) free.none_under_way reads in
    let one : Reads false (past ++ entry.Written Host unit ∷ []) = Asks unit refl new owes before in
    as_over (past ++ told) (after m.state event).requests.under_way (Some (record { purpose = purpose; progress = Submitted })) now
    (subst (λ (l : List Entry). Reads false (past ++ l)) (sym is)
    (subst (Reads false) (append_assoc past (entry.Written Host unit ∷ []) marks) (marks_read false (past ++ entry.Written Host unit ∷ []) marks all one)))

-- ---- an item

judged_reads : (over : Bool) (past told : List Entry) (item : Item) → AreTold (answer_to item) told → owes_end past ≡ false → Reads over past → Reads over (past ++ told)
judged_reads over past told (Good (Framed f)) (marks, rest, is, all, none) owes reads = unit_read over past told marks rest (ACK ∷ []) refl is all none owes reads
judged_reads over past told (Good Ack) are owes reads = nothing_read over past told are reads
judged_reads over past told (Good Nak) are owes reads = nothing_read over past told are reads
judged_reads over past told (Good Can) are owes reads = nothing_read over past told are reads
judged_reads over past told (refused_item (BadSum want got)) (marks, rest, is, all, none) owes reads = unit_read over past told marks rest (NAK ∷ []) refl is all none owes reads
judged_reads over past told (refused_item (BadKind x)) (marks, rest, is, all, none) owes reads = unit_read over past told marks rest (NAK ∷ []) refl is all none owes reads
judged_reads over past told (refused_item (Stray x)) are owes reads = nothing_read over past told are reads
judged_reads over past told (refused_item (BadLength n)) are owes reads = nothing_read over past told are reads
judged_reads over past told (refused_item Aborted) are owes reads = nothing_read over past told are reads

-- ---- each step

module _ (shows : ShowsOpen) (walk : TellsWalk) where
  tells_of : (here next : Phase) (past : List Entry) (m : HostMachine) (one : Step) → May here m one next → KnowsSleep here past m → EachAfter TellsEnd past (entries m one)
  tells_of here next past m one may ground = (walk.step here next past m one may ((requested here past m ground, asks_of here past m ground), ground.0.1)).0

  unsubmitted_of : (here : Phase) (past told : List Entry) (h : HostState) (event : HostEvent) → (here ≡ Submitting → ⊥) → Wrote here past told h event → Unsubmitted event
  unsubmitted_of here past told h event other (Quietly un quiet) = un
  unsubmitted_of here past told h event other (Again f rest un is old quiet) = un
  unsubmitted_of here past told h event other (Anew purpose f marks here_is free is new all now) = absurd (other here_is)

  behind_other : (left : List HostEvent) → Behind left ≡ Submitting → ⊥
  behind_other left is = cc

  does_reads : (here next : Phase) (past told : List Entry) (m : HostMachine) (event : HostEvent) → May here m (Does event told) next → KnowsSleep here past m → KnowsReads here past m
      → KnowsReads next (past ++ told) (done m event)
  does_reads (Ticking (first ∷ left)) next past told m event may ground known =
      leads next (Ticking left) (past ++ told) (done m event) may.0.1
      (tick_reads shows first left past told m ground (tells_of (Ticking (first ∷ left)) next past m (Does event told) may ground) may.3 known event may.0.0 may.2 (asks_of (Ticking (first ∷ left)) past m ground))
  does_reads (Behind (first ∷ left)) next past told m event may ground reads =
      let here : Phase = Behind (first ∷ left) in
      let un : Unsubmitted event = unsubmitted_of here past told m.state event (behind_other (first ∷ left)) (writes here next past told m event may (requested here past m ground) (asks_of here past m ground)) in
      leads next (Behind left) (past ++ told) (done m event) may.0.1
      (subst (λ (e : HostEvent). ReadsAt (past ++ told) (done m e)) (sym may.0.0)
      (behind_reads shows first left past told m ground (tells_of here next past m (Does event told) may ground) may.3 (subst (λ (e : HostEvent). AreTold (outs m.state e) told) may.0.0 may.2) reads
      (subst Unsubmitted may.0.0 un) ground.0.1))
  does_reads Sleeping next past told m event may ground reads =
      let (node, wants, is, to_is) = may.0 in
      leads next Sleeping (past ++ told) (done m event) to_is
      (aside_event past told m event (subst LeavesRequest (sym is) (no_more_is LeavesRequest sleepers_leave m.state node)) (subst NotesNoEnd (sym is) (no_more_is NotesNoEnd sleepers_none m.state node)) may.2 (owes_by past ground.0.1) reads)
  does_reads Submitting next past told m event may ground reads =
      leads next Submitting (past ++ told) (done m event) may.0.1
      (submit_reads past told m event (next_is IsSubmission submissions m.state event may.0.0) may.2
      (writes Submitting next past told m event may (requested Submitting past m ground) (asks_of Submitting past m ground)) (owes_by past ground.0.1) reads)
  does_reads here next past told m event may ground reads = absurd may.0

  -- the time of a line
  rested : (past : List Entry) (words : List ℕ) (m : HostMachine) → m.left ≡ 0 → KnowsSleep Resting past m → owes_none (is_none m.state.requests.under_way) past (entry.Said words) ≡ true
  rested past words m left ground =
      let time = (work_of Resting past m ground).0.0.1 in
      let now : now_at past (entry.Said words) ≡ m.clock = let all = time.asked in omega (arith, all, left) in
      none_owed (is_none m.state.requests.under_way) past (entry.Said words)
      (waits_by m.state.requests.under_way (is_late past (entry.Said words))
      (λ u is. ap (λ (n : ℕ). has_ended (asked past) n) now
      ∙ unended_at past m.clock m.came m.state (requested Resting past m ground).0.1 (asks_of Resting past m ground) u is)) (owes_by past ground.0.1)

  said_reads : (past : List Entry) (words : List ℕ) (line : Line) (m : HostMachine) → m.left ≡ 0 → line_of (entry.Said words) ≡ line ∷ [] → KnowsSleep Resting past m → ReadsAt past m
      → ReadsSaid line (past ++ entry.Said words ∷ []) m
  said_reads past words line m left is ground reads =
      let waits = rested past words m left ground in
      let over : Bool = is_none m.state.requests.under_way in record {
        goes_on = λ goes. said_on past words over reads waits (ap is_restart is ∙ goes);
        anew = λ starts. said_anew past words over reads waits (ap is_restart is ∙ starts);
        in_vain = λ refusal. said_in_vain past words over reads waits (is_restart (line_of (entry.Said words))) refl refusal;
      }

  module _ (past : List Entry) (m : HostMachine) (awaits : m.awaits ≡ true) where
    abbrev timed : List Entry
    timed = past ++ entry.Time m.clock ∷ []

    timed_ticks : is_ticking timed ≡ true
    timed_ticks = ticking_one past (entry.Time m.clock)

    time_reads : (here : Phase) → KnowsSleep here past m → (OwesNoEnd past) → ReadsAt past m → ReadsAt timed m
    time_reads here ground owes reads =
        let unended : (u : UnderWay) → m.state.requests.under_way ≡ Some u → has_ended (asked past) (m.clock - 1) ≡ false = ground.1.0 awaits in
        Stands (entry.Time m.clock) refl
        (may_by (is_none m.state.requests.under_way) past (entry.Time m.clock) refl refl
        (none_owed (is_none m.state.requests.under_way) past (entry.Time m.clock) (waits_by m.state.requests.under_way (is_late past (entry.Time m.clock)) unended) (owes_by past owes))) reads

    -- in a tick nothing was noted before
    ticking_timed : (left : List HostEvent) → KnowsSleep (Ticking left) past m → ReadsTick left past m → ReadsTick left timed (happens m Numbers)
    ticking_timed left ground known = record {
      start = timed;
      ending = [];
      chain = [];
      last = 0;
      are = sym (append-nil (timed ++ []) ∙ append-nil timed);
      reads = inl (time_reads (Ticking left) ground ground.0.1 (ticked_up left past m known), refl);
      gives = None_yet;
      ticks = λ is. timed_ticks;
      unnumbered = λ is. (refl, refl);
      above = ascends_from 0 known.last left (omega arith) known.above;
      fresh = fresh_none left;
    }

    -- behind a frame the number stands
    behind_timed : (left : List HostEvent) → KnowsSleep (Behind left) past m → ReadsAt past m → KnowsEnds (Behind left) past m → ReadsAt timed m
    behind_timed left ground reads (inl (all, owes)) = time_reads (Behind left) ground owes reads
    behind_timed left ground reads (inr (inl by_frame)) = absurd (both_ways m.awaits by_frame.unnumbered awaits)
    behind_timed left ground reads (inr (inr by_line)) = time_reads (Behind left) ground by_line.none reads

    number_goes : (here : Phase) → IsElse here → KnowsSleep here past m → KnowsReads here past m → KnowsReads here timed (happens m Numbers)
    number_goes (Asked line) other ground known = absurd other
    number_goes Risen other ground known = (time_reads Risen ground ground.0.1 known.0, λ is. timed_ticks)
    number_goes (Ticking left) other ground known = ticking_timed left ground known
    number_goes Resting other ground known = time_reads Resting ground ground.0.1 known
    number_goes Open other ground known = time_reads Open ground ground.0.1 known
    number_goes (Behind left) other ground known = behind_timed left ground known ground.0.1
    number_goes Sleeping other ground known = time_reads Sleeping ground ground.0.1 known
    number_goes Submitting other ground known = time_reads Submitting ground ground.0.1 known

  between_owes : (here : Phase) (past : List Entry) (m : HostMachine) → IsBetween here → KnowsEnds here past m → owes_end past ≡ false
  between_owes Resting past m between owes = owes_by past owes
  between_owes Risen past m between owes = owes_by past owes
  between_owes Open past m between owes = owes_by past owes
  between_owes (Asked line) past m between owes = absurd between
  between_owes (Ticking left) past m between owes = absurd between
  between_owes (Behind left) past m between owes = absurd between
  between_owes Sleeping past m between owes = absurd between
  between_owes Submitting past m between owes = absurd between

  asked_owes : (here : Phase) (line : Line) (past : List Entry) (m : HostMachine) → here ≡ Asked line → KnowsSleep here past m → owes_end past ≡ false
  asked_owes here line past m is ground = owes_by past (subst (λ (p : Phase). KnowsEnds p past m) is ground.0.1)

  step_reads : (here next : Phase) (past : List Entry) (m : HostMachine) (one : Step) → May here m one next → KnowsSleep here past m → KnowsReads here past m
      → KnowsReads next (past ++ entries m one) (happens m one)
  step_reads here next past m (Tells e) may ground known =
      leads next here (past ++ e ∷ []) m may.3 (loose_goes here past (e ∷ []) m m may.0 refl refl (others_aside e may.1, tt) (others_keep e may.1, tt) (between_owes here past m may.0 ground.0.1) known)
  step_reads here next past m (Comes unit) may ground known =
      leads next here (past ++ entries m (Comes unit)) (happens m (Comes unit)) may.2
      (loose_goes here past (entries m (Comes unit)) m (happens m (Comes unit)) may.0 refl refl ((refl, λ p. refl, λ p. refl, λ b. refl), tt) ((λ p. refl), tt) (between_owes here past m may.0 ground.0.1) known)
  step_reads here next past m (Misses text marks) may ground known =
      leads next here (past ++ entry.Written Chip text ∷ marks) m may.3
      (loose_goes here past (entry.Written Chip text ∷ marks) m m may.0 refl refl (missed_aside text marks may.1) (missed_keep text marks may.1) (between_owes here past m may.0 ground.0.1) known)
  step_reads here next past m (Says words line) may ground known =
      let said = said_reads past words line m may.1 may.2 (subst (λ (p : Phase). KnowsSleep p past m) may.0 ground) (as_known here Resting past m may.0 known) in
      leads next (Asked line) (past ++ entry.Said words ∷ []) (happens m (Says words line)) may.3 (record { goes_on = said.goes_on; anew = said.anew; in_vain = said.in_vain })
  step_reads here next past m (Says_nothing words) may ground known =
      leads next Resting (past ++ entry.Said words ∷ []) (happens m (Says_nothing words)) (may.3 ∙ may.0)
      (said_on past words (is_none m.state.requests.under_way) (as_known here Resting past m may.0 known) (rested past words m may.1 (subst (λ (p : Phase). KnowsSleep p past m) may.0 ground))
      (ap is_restart may.2 ∙ none_restarts))
  step_reads here next past m (asks_line event) (line, here_is, is, may, numbered, to_is) ground known =
      let reads : ReadsAt past m = (as_known here (Asked line) past m here_is known).goes_on (asked_on line m.state event is) in
      leads next Open (past ++ answers m.state event) (happens m (asks_line event)) to_is
      (as_over (past ++ answers m.state event) (after m.state event).requests.under_way m.state.requests.under_way
      (ap (λ (d : Doing). d.under_way) (beside_same m.state event (asked_beside line m.state event is)))
      (aside_read (is_none m.state.requests.under_way) past (answers m.state event) (answers_aside m.state event) (asked_owes here line past m here_is ground) reads))
  step_reads here next past m (refuses_line refusal) (line, here_is, why, numbered, to_is) ground known =
      leads next Open (past ++ entry.Refused refusal ∷ []) m to_is ((as_known here (Asked line) past m here_is known).in_vain refusal)
  step_reads here next past m (Shows node) may ground known =
      let reads : ReadsAt past m = (as_known here (Asked (lines.Store node)) past m may.0 known).goes_on refl in
      leads next Open (past ++ shown_values m.state node ∷ []) m may.2
      (aside_read (is_none m.state.requests.under_way) past (shown_values m.state node ∷ []) ((refl, λ p. refl, λ p. refl, λ b. refl), tt) (asked_owes here (lines.Store node) past m may.0 ground) reads)
  step_reads here next past m (starts_again state) may ground known =
      let asks_so : RequestsGround (Asked lines.Restart) past m = subst (λ (p : Phase). RequestsGround p past m) may.0 (requested here past m ground) in
      let reads : Reads true past = (as_known here (Asked lines.Restart) past m may.0 known).anew refl in
      let none : state.requests.under_way ≡ None = ap (λ (p : Side × RequestsState). p.1.under_way) (opened_asks m.keys m.records state asks_so.0.0.0.0.0.told may.1) in
      leads next Open (past ++ []) (happens m (starts_again state)) may.2
      (as_over (past ++ []) state.requests.under_way None none (nothing_read true past [] refl reads))
  step_reads here next past m (Begins_tick left) may ground known =
      leads next Risen (past ++ []) (happens m (Begins_tick left)) may.2
      (nothing_read (is_none m.state.requests.under_way) past [] refl (as_known here Resting past m may.0 known), λ (is : true ≡ false). absurd cc)
  step_reads here next past m Numbers may ground known =
      let other : IsElse here = numbered_else SleepsIfTold here past m may.0 ground.0.0.1 in
      leads next here (past ++ entry.Time m.clock ∷ []) (happens m Numbers) may.1 (number_goes past m may.0 here other ground known)
  step_reads here next past m (Judges item rest behind told) may ground known =
      leads next (Behind behind) (past ++ told) (happens m (Judges item rest behind told)) may.2
      (judged_reads (is_none m.state.requests.under_way) past told item may.1.told_so (owes_by past (subst (λ (p : Phase). KnowsEnds p past m) may.0 ground.0.1)) (as_known here Open past m may.0 known))
  step_reads here next past m (Does event told) may ground known = does_reads here next past told m event may ground known

  -- a tick begins with nothing noted
  rises : (past : List Entry) (m : HostMachine) → ReadsRisen past m → ReadsTick (tick_events m.state) past m
  rises past m known = record {
    start = past;
    ending = [];
    chain = [];
    last = 0;
    are = sym (append-nil (past ++ []) ∙ append-nil past);
    reads = inl (known.0, refl);
    gives = None_yet;
    ticks = known.1;
    unnumbered = λ is. (refl, refl);
    above = ticks_ascend (after_all m.state first_ticks);
    fresh = fresh_none (tick_events m.state);
  }

  turn_reads : (here next : Phase) (past : List Entry) (m : HostMachine) → Turns here m next → KnowsReads here past m → KnowsReads next past m
  turn_reads Resting next past m is known = leads next Open past m is known
  turn_reads (Asked line) next past m (inl (nothing, is)) known = leads next Open past m is (known.goes_on (nothing_on line nothing))
  turn_reads (Asked line) next past m (inr (ticks, line_is, is)) known = leads next Resting past m is (known.goes_on (ap (λ (l : Line). is_restart (l ∷ [])) line_is))
  turn_reads Risen next past m is known = leads next (Ticking (tick_events m.state)) past m is (rises past m known)
  turn_reads (Ticking []) next past m is known = leads next Open past m is (ticked_up [] past m known)
  turn_reads (Ticking (event ∷ left)) next past m is known = absurd is
  turn_reads Open next past m is known = leads next Sleeping past m is known
  turn_reads (Behind []) next past m is known = leads next Open past m is known
  turn_reads (Behind (event ∷ left)) next past m is known = absurd is
  turn_reads Sleeping next past m is known = leads next Submitting past m is.1 known
  turn_reads Submitting next past m is known = leads next Resting past m is.1 known

  pub reads_walk : WalkBoth KnowsSleep KnowsReads
  reads_walk = record {
    step = λ here next past m one may ground later known. step_reads here next past m one may ground known;
    turn = λ here next past m turns ground known. turn_reads here next past m turns known;
  }

  -- where a run rests, with no tick of its line to come
  pub rests_waits : (past : List Entry) (m : HostMachine) → m.left ≡ 0 → KnowsSleep Resting past m → owes_none (is_none m.state.requests.under_way) past (entry.Said []) ≡ true
  rests_waits past m left ground = rested past [] m left ground
