-- At each step of a host alone, and wherever a part begins, what it asks is known.
use Rattle.std.proofs.Common.{◌≡◌, ◌⊎◌, ◌≤◌, ℕ, Bool, true, false, if◌then◌else◌, inl, inr, List, [], ◌∷◌, ◌++◌, length, map, refl, sym, ap, ◌∙◌, subst, append-nil, append_assoc}
use Rattle.std.specs.Prelude.{Option, Some, None, IsTrue}
use Rattle.std.specs.List.{AllByRecursion}
use Rattle.std.proofs.lemmas.Bool.{both_ways}
use Rattle.serial_frame.specs.Frame.{FrameParts}
use Rattle.serial_frame.specs.Items.{unit_text}
use Rattle.serial_frame.specs.declared.item.Item.{Item}
use Rattle.serial_frame.specs.declared.item.Item.TheVariants.{Good, Refused as refused_item}
use Rattle.serial_frame.specs.declared.item.Refusal.TheVariants.{Stray, BadLength, BadSum, BadKind, Aborted}
use Rattle.serial_frame.specs.declared.unit.Unit.{Unit as LineUnit}
use Rattle.serial_frame.specs.declared.unit.Unit.TheVariants.{Ack, Nak, Can, Framed}
use Rattle.zw_words.specs.declared.side.Side.TheVariants.{Host, Chip}
use Rattle.zw_text.specs.declared.line.Line.{Line}
use Rattle.zw_text.specs.declared.line.Line.TheVariants as lines
use Rattle.zw_text.specs.declared.entry.Refusal.{Refusal}
use Rattle.zw_text.specs.declared.entry.Entry.{Entry}
use Rattle.zw_text.specs.declared.entry.Entry.TheVariants as entry
use Rattle.proof_waking.specs.law_transcript.Restarts.{is_restart}
use Rattle.proof_waking.specs.law_time.Moments.{clock}
use Rattle.proof_waking.specs.law_time.Requests.{is_answer}
use Rattle.host_requests.specs.Events.{task_begun}
use Rattle.host_requests.specs.Facts.{due_second, first_asked as due_after, first_of}
use Rattle.host_requests.proofs.Purposes.{due-paired}
use Rattle.host_requests.specs.Events.RequestsEvent.{Ticks as request_ticks}
use Rattle.serial_link.specs.declared.turn.Turn.TheVariants.{Copied}
use Rattle.host_requests.specs.Frames.{frame_of}
use Rattle.host_requests.specs.State.{next_id}
use Rattle.host_requests.specs.declared.task.Task.{Task}
use Rattle.host_requests.specs.declared.task.Purpose.{Purpose}
use Rattle.host_requests.specs.declared.task.Purpose.TheVariants.{Attempt, Abort, Housekeeping}
use Rattle.host_node.specs.Search.{next_of}
use Rattle.host_node.specs.Steps.{tick_end}
use Rattle.host_node.specs.declared.attempt.Moment.TheVariants.{BeforeItsTick}
use Rattle.proof_messages.specs.host_model.State.{HostState, first_host, node_of}
use Rattle.proof_messages.specs.host_model.Facts.{HostFacts}
use Rattle.proof_messages.specs.host_model.May.{IsFree, May as may_event}
use Rattle.proof_messages.specs.host_model.Sessions.{open_command}
use Rattle.supervision.specs.Host.{open_session}
use Rattle.proof_messages.specs.host_model.Ends.{attempt_entries}
use Rattle.proof_messages.specs.host_model.After.{after, is_full, task_purpose}
use Rattle.proof_messages.specs.host_model.Did.{MayAll, after_all}
use Rattle.proof_messages.specs.host_model.Events.{HostEvent, Accepts, Cancels, Hears, Requests_do, Line_ticks, Node_ticks, Queues_no_more, Drops_no_more, Submits_abort, Submits_front, Starts, Gives_text, Gives_segment, Begins, Begin_unkept}
use Rattle.proof_messages.specs.host_model.Outs.{answer_to, answers, outs}
use Rattle.proof_messages.specs.host_model.Pumping.{IsNext, no_more_event}
use Rattle.proof_messages.specs.host_model.Ticking.{first_ticks, tick_events, ticking_nodes}
use Rattle.proof_messages.specs.host_model.declared.out.HostOut.{HostOut}
use Rattle.proof_messages.specs.host_model.declared.out.HostOut.TheVariants.{Write}
use Rattle.proof_messages.proofs.Submitted.{SubmittedAre, next_is}
use Rattle.proof_waking.specs.world_model.Events.{shown_values}
use Rattle.proof_waking.specs.proof_alone.State.{HostMachine, done}
use Rattle.proof_waking.specs.proof_alone.Steps.{AreFrames, AreTold, AsksNothing as AsksNone, IsAskedBy, Step, Tells, Comes, Misses, Says, Says_nothing, Asks, Refuses, Shows, Restarts, Begins_tick, Numbers, Judges, Does, entries, happens}
use Rattle.proof_waking.specs.proof_alone.Phases.{Phase, Resting, Asked, Risen, Ticking, Open, Behind, Sleeping, Submitting, IsBetween, IsJudgedNow, IsNumbered, May, MayCome, Turns}
use Rattle.proof_waking.specs.proof_alone.Runs.{WalkOver}
use Rattle.proof_waking.proofs.Timing.{clock_is}
use Rattle.proof_waking.specs.Judged.{KnowsJudged, TieFrames}
use Rattle.proof_waking.proofs.Parts.{IsNote, WritesNothing, follow_notes, unit_told, writes_nothing}
pub use Rattle.proof_waking.proofs.Judging.{asked_on}
use Rattle.proof_waking.proofs.Settling.{behind_follows}
use Rattle.proof_requests.specs.Standing.{prior_of}
use Rattle.proof_requests.specs.Carrying.{CarriesSo}
use Rattle.proof_requests.specs.Asking.{AsksNothing, Doing, FollowsFirst, TieAsked, doing_of}
use Rattle.proof_requests.specs.Walking.{AreRead, AsksBefore, Ground, HalfTick, IsNodeTick, IsPaired, IsRead, IsTied, KnowsAsked, KnowsTick, ReadsAs}
use Rattle.proof_requests.proofs.Carried.{open_none, start_none}
use Rattle.proof_requests.proofs.Doing.{IsBeside, beside_same, same_asks}
use Rattle.proof_requests.proofs.OnLine.{IsAnswer}
use Rattle.proof_requests.proofs.Queued.{PayloadsBring, served_is_node}
use Rattle.proof_requests.proofs.Queueing.{opened_asks}
use Rattle.proof_requests.proofs.Spelled.{id_from, id_to, read_again}
use Rattle.proof_requests.proofs.Telling.{IsQuiet, mark_quiet, tie_anew, tie_in_vain, tie_missed, tie_quiet, tie_said}
use Rattle.proof_requests.proofs.Walking.{answer_comes_tie, at_end, event_quiet, frame_comes_tie, front_follows, judges_acknowledgement, judges_can, judges_frame, judges_nak, line_ticks_tie, noted_notes, others_quiet, owing_undue, request_ticks_tie, same_doing, submits_tie, submitted_doing}

-- ---- where no part of the host runs

between : (here : Phase) (past told : List Entry) (m later : HostMachine) → IsBetween here → later.clock ≡ m.clock
    → ((line_now now : ℕ) → TieAsked past line_now now m.came (doing_of m.state) → TieAsked (past ++ told) line_now now later.came (doing_of later.state))
    → KnowsAsked here past m → KnowsAsked here (past ++ told) later
between Resting past told m later is clock_is on known = subst (λ (n : ℕ). TieAsked (past ++ told) n n later.came (doing_of later.state)) (sym clock_is) (on m.clock m.clock known)
between Open past told m later is clock_is on known = subst (λ (n : ℕ). TieAsked (past ++ told) n n later.came (doing_of later.state)) (sym clock_is) (on m.clock m.clock known)
between Risen past told m later is clock_is on known = record { before = known.before; next = clock_is ∙ known.next; tie = on known.before known.before known.tie }
between (Asked line) past told m later is clock_is on known = absurd is
between (Ticking left) past told m later is clock_is on known = absurd is
between (Behind left) past told m later is clock_is on known = absurd is
between Sleeping past told m later is clock_is on known = absurd is
between Submitting past told m later is clock_is on known = absurd is

abbrev Goes : Phase → List Entry → HostMachine → Step → Type 0
Goes next past m one = KnowsAsked next (past ++ entries m one) (happens m one)

leads : (next to : Phase) (past : List Entry) (m : HostMachine) (one : Step) → next ≡ to → Goes to past m one → Goes next past m one
leads next to past m one same goes = subst (λ (p : Phase). Goes p past m one) (sym same) goes

as_known : (here is : Phase) (past : List Entry) (m : HostMachine) → here ≡ is → KnowsAsked here past m → KnowsAsked is past m
as_known here is past m same known = subst (λ (p : Phase). KnowsAsked p past m) same known

-- the ground at that phase
ground_at : (here is : Phase) (past : List Entry) (m : HostMachine) → here ≡ is → Ground here past m → Ground is past m
ground_at here is past m same ground = subst (λ (p : Phase). Ground p past m) same ground

pub not_awaiting : (awaits : Bool) (e : Entry) (told more : List Entry) → (awaits ≡ true → told ≡ []) → told ≡ e ∷ more → awaits ≡ false
not_awaiting false e told more numbered are = refl
not_awaiting true e told more numbered are = absurd (let bad : e ∷ more ≡ [] = sym are ∙ numbered refl in cc)

-- where something is told, the number of the tick stands
pub time_told : (here : Phase) (past told : List Entry) (m : HostMachine) → Ground here past m → IsNumbered m told → (e : Entry) (more : List Entry) → told ≡ e ∷ more → clock past ≡ m.clock
time_told here past told m ground numbered e more are = clock_is past m ground.0.0.0.1 (not_awaiting m.awaits e told more numbered are)

-- ---- units of the chip

frame_step : (here : Phase) (past : List Entry) (m : HostMachine) (f : FrameParts) → IsBetween here → KnowsAsked here past m → Goes here past m (Comes (Framed f))
frame_step here past m f is known =
    between here past (entry.Written Chip (unit_text (Framed f)) ∷ []) m (happens m (Comes (Framed f))) is refl (λ line_now now tie. frame_comes_tie past line_now now m.came (doing_of m.state) f tie) known

-- an answer comes where items may be judged
answer_goes : (here : Phase) (past : List Entry) (m : HostMachine) (unit : LineUnit) → m.awaits ≡ false → IsAnswer unit → is_answer (unit_text unit) ≡ true → here ≡ Open → Ground here past m
    → KnowsAsked here past m → Goes here past m (Comes unit)
answer_goes here past m unit numbered answers text is ground known =
    let there = ground_at here Open past m is ground in
    leads here Open past m (Comes unit) is
    (answer_comes_tie past m.clock m.came (doing_of m.state) unit answers text (clock_is past m there.0.0.0.1 numbered) there.0.0.1.frames (as_known here Open past m is known))

comes : (here : Phase) (past : List Entry) (m : HostMachine) (unit : LineUnit) → IsBetween here → m.awaits ≡ false → MayCome here unit → Ground here past m → KnowsAsked here past m
    → Goes here past m (Comes unit)
comes here past m (Framed f) is numbered may ground known = frame_step here past m f is known
comes here past m Ack is numbered (inl framed) ground known = absurd framed
comes here past m Nak is numbered (inl framed) ground known = absurd framed
comes here past m Can is numbered (inl framed) ground known = absurd framed
comes here past m Ack is numbered (inr there) ground known = answer_goes here past m Ack numbered tt refl there ground known
comes here past m Nak is numbered (inr there) ground known = answer_goes here past m Nak numbered tt refl there ground known
comes here past m Can is numbered (inr there) ground known = answer_goes here past m Can numbered tt refl there ground known

-- ---- lines

on_words : (line : Line) (past : List Entry) (m : HostMachine) → is_restart (line ∷ []) ≡ false → AsksBefore line past m → IsTied past m
on_words line past m goes_on known =
    subst (λ (l : List Entry). TieAsked l m.clock m.clock m.came (doing_of m.state)) (sym known.are)
    (tie_said known.before known.words m.clock m.clock m.came (doing_of m.state) (ap is_restart known.read ∙ goes_on) known.tie)

pub none_on : (line : Line) → AsksNone line → is_restart (line ∷ []) ≡ false
none_on lines.Restart is = absurd is
none_on line is = refl

beside_so : (event these : HostEvent) → event ≡ these → IsBeside these → IsBeside event
beside_so event these same beside = subst IsBeside (sym same) beside

pub asked_beside : (line : Line) (h : HostState) (event : HostEvent) → IsAskedBy line h event → IsBeside event
asked_beside (lines.Command order) h event is = beside_so event _ is tt
asked_beside (lines.Send node word) h event is = beside_so event _ is.1 (refl, refl)
asked_beside (lines.Get node end) h event is = beside_so event _ is.1 (refl, refl)
asked_beside (lines.Join node) h event is = beside_so event _ is tt
asked_beside (lines.Interview node) h event is = beside_so event _ is.1 tt
asked_beside (lines.Cancel command) h event is = beside_so event _ is tt
asked_beside lines.Discover h event is = beside_so event _ is.1 (refl, refl)
asked_beside (lines.Neighbours node) h event is = beside_so event _ is.1 (refl, refl)
asked_beside (lines.Failed node) h event is = beside_so event _ is.1 (refl, refl)
asked_beside lines.Probe h event is = beside_so event _ is.1 tt
asked_beside line h event is = absurd is

answers_quiet : (h : HostState) (event : HostEvent) → AllByRecursion IsQuiet (answers h event)
answers_quiet h (Accepts order carriage) = (tt, tt)
answers_quiet h (Cancels command) = (tt, tt)
answers_quiet h event = tt

asks : (line : Line) (past : List Entry) (m : HostMachine) (event : HostEvent) → IsAskedBy line m.state event → AsksBefore line past m → Goes Open past m (Asks event)
asks line past m event is known =
    tie_quiet past (answers m.state event) m.clock m.clock m.came (doing_of (after m.state event)) (answers_quiet m.state event)
    (same_doing past m.clock m.clock m.came (doing_of m.state) (doing_of (after m.state event)) (beside_same m.state event (asked_beside line m.state event is)) (on_words line past m (asked_on line m.state event is) known))

refuses : (line : Line) (past : List Entry) (m : HostMachine) (refusal : Refusal) → AsksBefore line past m → Goes Open past m (Refuses refusal)
refuses line past m refusal known =
    subst (λ (l : List Entry). TieAsked (l ++ entry.Refused refusal ∷ []) m.clock m.clock m.came (doing_of m.state)) (sym known.are)
    (subst (λ (l : List Entry). TieAsked l m.clock m.clock m.came (doing_of m.state)) (sym (append_assoc known.before (entry.Said known.words ∷ []) (entry.Refused refusal ∷ [])))
    (tie_in_vain known.before known.words refusal m.clock m.clock m.came (doing_of m.state) known.tie))

restarts : (past : List Entry) (m : HostMachine) (state : HostState) → doing_of state ≡ doing_of (first_host m.keys) → AsksBefore lines.Restart past m → Goes Open past m (Restarts state)
restarts past m state fresh known =
    at_end past m.clock m.clock [] (doing_of state)
    (subst (λ (l : List Entry). TieAsked l m.clock m.clock [] (doing_of state)) (sym known.are)
    (tie_anew known.before known.words m.clock m.clock [] (doing_of state) (ap is_restart known.read)
    (subst (AsksNothing []) (sym fresh) (record { unasked = refl; idle = refl; none = refl; paid = refl; undue = refl }))))

-- ---- the number of a tick

numbers : (here : Phase) (past : List Entry) (m : HostMachine) → m.awaits ≡ true → Ground here past m → KnowsAsked here past m → Goes here past m Numbers
numbers Resting past m awaits ground known = tie_quiet past (entry.Time m.clock ∷ []) m.clock m.clock m.came (doing_of m.state) (tt, tt) known
numbers Open past m awaits ground known = tie_quiet past (entry.Time m.clock ∷ []) m.clock m.clock m.came (doing_of m.state) (tt, tt) known
numbers Sleeping past m awaits ground known = tie_quiet past (entry.Time m.clock ∷ []) m.clock m.clock m.came (doing_of m.state) (tt, tt) known
numbers Submitting past m awaits ground known = tie_quiet past (entry.Time m.clock ∷ []) m.clock m.clock m.came (doing_of m.state) (tt, tt) known
numbers Risen past m awaits ground known =
    record { before = known.before; next = known.next; tie = tie_quiet past (entry.Time m.clock ∷ []) known.before known.before m.came (doing_of m.state) (tt, tt) known.tie }
numbers (Asked line) past m awaits ground known = absurd (both_ways m.awaits ground.0.0.1.unnumbered awaits)
numbers (Behind left) past m awaits ground known = tie_quiet past (entry.Time m.clock ∷ []) m.clock m.clock m.came (doing_of (after_all m.state left)) (tt, tt) known
numbers (Ticking left) past m awaits ground (inl (nodes, is, all, known)) =
    inl (nodes, is, all, record { before = known.before; next = known.next; tie = tie_quiet past (entry.Time m.clock ∷ []) known.before known.before m.came (doing_of m.state) (tt, tt) known.tie })
numbers (Ticking left) past m awaits ground (inr (inl (nodes, is, all, known))) =
    inr (inl (nodes, is, all, record { before = known.before; next = known.next; tie = tie_quiet past (entry.Time m.clock ∷ []) m.clock known.before m.came (doing_of m.state) (tt, tt) known.tie }))
numbers (Ticking left) past m awaits ground (inr (inr (all, known))) = inr (inr (all, tie_quiet past (entry.Time m.clock ∷ []) m.clock m.clock m.came (doing_of m.state) (tt, tt) known))

-- ---- items

abbrev Judged : List Entry → HostMachine → Item → List LineUnit → List HostEvent → List Entry → Type 0
Judged past m item rest behind told = TieAsked (past ++ told) m.clock m.clock rest (doing_of (after_all (after m.state (Hears item)) behind))

none_told : (past told : List Entry) (n : ℕ) (rest : List LineUnit) (d : Doing) → told ≡ [] → TieAsked past n n rest d → TieAsked (past ++ told) n n rest d
none_told past told n rest d is tie = subst (λ (l : List Entry). TieAsked (past ++ l) n n rest d) (sym is) (at_end past n n rest d tie)

-- one that is no unit: what is told is quiet, and nothing follows it
refused_goes : (past : List Entry) (m : HostMachine) (item : Item) (rest : List LineUnit) (behind : List HostEvent) (told : List Entry) → rest ≡ m.came → behind ≡ []
    → doing_of (after m.state (Hears item)) ≡ doing_of m.state → AllByRecursion IsQuiet told → IsTied past m → Judged past m item rest behind told
refused_goes past m item rest behind told rest_is behind_is same all tie =
    let d : Doing = doing_of (after_all (after m.state (Hears item)) behind) in
    let does : d ≡ doing_of m.state = ap (λ (l : List HostEvent). doing_of (after_all (after m.state (Hears item)) l)) behind_is ∙ same in
    subst (λ (l : List LineUnit). TieAsked (past ++ told) m.clock m.clock l d) (sym rest_is)
    (tie_quiet past told m.clock m.clock m.came d all (same_doing past m.clock m.clock m.came (doing_of m.state) d does tie))

nak_told : (told : List Entry) → AreTold (answer_to (refused_item (BadKind 0))) told → AllByRecursion IsQuiet told
nak_told told are = unit_told IsQuiet mark_quiet Nak told refl are

nothing_told : (told : List Entry) → told ≡ [] → AllByRecursion IsQuiet told
nothing_told told is = subst (AllByRecursion IsQuiet) (sym is) tt

item_goes : (past : List Entry) (m : HostMachine) (item : Item) (rest : List LineUnit) (behind : List HostEvent) (told : List Entry) → IsJudgedNow m item rest behind told → Ground Open past m
    → IsTied past m → Judged past m item rest behind told
item_goes past m (Good (Framed f)) rest behind told now ground tie =
    let (marks, more, is, all, none) = now.told_so in
    let are : told ≡ entry.Written Host (unit_text Ack) ∷ marks = is ∙ ap (λ (l : List Entry). entry.Written Host (unit_text Ack) ∷ (marks ++ l)) none
    ∙ ap (λ (l : List Entry). entry.Written Host (unit_text Ack) ∷ l) (append-nil marks) in
    subst (λ (l : List Entry). Judged past m (Good (Framed f)) rest behind l) (sym are)
    (judges_frame past m.clock m.state f rest behind marks (time_told Open past told m ground now.numbered (entry.Written Host (unit_text Ack)) marks are) now.followed all
    (subst (TieFrames past) now.takes ground.0.0.1.frames)
    (subst (λ (l : List LineUnit). TieAsked past m.clock m.clock l (doing_of m.state)) now.takes tie))
item_goes past m (Good Ack) rest behind told now ground tie =
    none_told past told m.clock rest (doing_of (after_all (after m.state (Hears (Good Ack))) behind)) now.told_so
    (judges_acknowledgement past m.clock m.state rest behind now.followed (subst (λ (l : List LineUnit). TieAsked past m.clock m.clock l (doing_of m.state)) now.takes tie))
item_goes past m (Good Nak) rest behind told now ground tie =
    none_told past told m.clock rest (doing_of (after_all (after m.state (Hears (Good Nak))) behind)) now.told_so
    (judges_nak past m.clock m.state rest behind now.followed (subst (λ (l : List LineUnit). TieAsked past m.clock m.clock l (doing_of m.state)) now.takes tie))
item_goes past m (Good Can) rest behind told now ground tie =
    none_told past told m.clock rest (doing_of (after_all (after m.state (Hears (Good Can))) behind)) now.told_so
    (judges_can past m.clock m.state rest behind now.followed (subst (λ (l : List LineUnit). TieAsked past m.clock m.clock l (doing_of m.state)) now.takes tie))
item_goes past m (refused_item (BadSum want got)) rest behind told now ground tie =
    refused_goes past m (refused_item (BadSum want got)) rest behind told now.takes now.followed refl (nak_told told now.told_so) tie
item_goes past m (refused_item (BadKind x)) rest behind told now ground tie =
    refused_goes past m (refused_item (BadKind x)) rest behind told now.takes now.followed refl (nak_told told now.told_so) tie
item_goes past m (refused_item (Stray x)) rest behind told now ground tie =
    refused_goes past m (refused_item (Stray x)) rest behind told now.takes now.followed refl (nothing_told told now.told_so) tie
item_goes past m (refused_item (BadLength n)) rest behind told now ground tie =
    refused_goes past m (refused_item (BadLength n)) rest behind told now.takes now.followed refl (nothing_told told now.told_so) tie
item_goes past m (refused_item Aborted) rest behind told now ground tie =
    refused_goes past m (refused_item Aborted) rest behind told now.takes now.followed refl (nothing_told told now.told_so) tie

-- ---- events of the host

-- one that leaves what the host asks, and notes at most
beside_goes : (past : List Entry) (m : HostMachine) (event : HostEvent) (told : List Entry) → IsBeside event → AllByRecursion IsNote (outs m.state event) → AreTold (outs m.state event) told
    → IsTied past m → IsTied (past ++ told) (done m event)
beside_goes past m event told beside notes is tie =
    tie_quiet past told m.clock m.clock m.came (doing_of (after m.state event)) (event_quiet m.state event told notes is)
    (same_doing past m.clock m.clock m.came (doing_of m.state) (doing_of (after m.state event)) (beside_same m.state event beside) tie)

-- of a tick
node_beside : (event : HostEvent) → IsNodeTick event → IsBeside event
node_beside (Node_ticks n) is = tt
node_beside event is = absurd is

pub node_notes : (h : HostState) (event : HostEvent) → IsNodeTick event → AllByRecursion IsNote (outs h event)
node_notes h (Node_ticks n) is = noted_notes (attempt_entries n (tick_end (node_of h n)) (open_command (node_of h n)))
node_notes h event is = absurd is

pub first_same : (first these : HostEvent) (left others : List HostEvent) → first ∷ left ≡ these ∷ others → first ≡ these
first_same first these left others is = cc

pub left_same : (first these : HostEvent) (left others : List HostEvent) → first ∷ left ≡ these ∷ others → left ≡ others
left_same first these left others is = cc

tick_does : (first : HostEvent) (left : List HostEvent) (past : List Entry) (m : HostMachine) (event : HostEvent) (told : List Entry) → event ≡ first → AreTold (outs m.state event) told → IsNumbered m told
    → Ground (Ticking (first ∷ left)) past m → KnowsTick (first ∷ left) past m → KnowsTick left (past ++ told) (done m event)
tick_does first left past m event told event_is is numbered ground (inl (nodes, are, all, known)) =
    let line_is : event ≡ Line_ticks = event_is ∙ first_same first Line_ticks left (Requests_do request_ticks BeforeItsTick ∷ nodes) are in
    inr (inl (
      nodes,
      left_same first Line_ticks left (Requests_do request_ticks BeforeItsTick ∷ nodes) are,
      all,
      subst (λ (e : HostEvent). HalfTick (past ++ told) (done m e)) (sym line_is)
          (record {
            before = known.before;
            next = known.next;
            tie = line_ticks_tie past told known.before m.clock m.came m.state known.next ground.0.1 (time_told (Ticking (first ∷ left)) past told m ground numbered)
                (subst (λ (e : HostEvent). AreTold (outs m.state e) told) line_is is) known.tie;
          }),
    ))
tick_does first left past m event told event_is is numbered ground (inr (inl (nodes, are, all, known))) =
    let request_is : event ≡ Requests_do request_ticks BeforeItsTick = event_is ∙ first_same first (Requests_do request_ticks BeforeItsTick) left nodes are in
    inr (inr (
      subst (AllByRecursion IsNodeTick) (sym (left_same first (Requests_do request_ticks BeforeItsTick) left nodes are)) all,
      subst (λ (e : HostEvent). IsTied (past ++ told) (done m e)) (sym request_is)
          (request_ticks_tie past told known.before m.clock m.came m.state known.next (subst (λ (e : HostEvent). AreTold (outs m.state e) told) request_is is) known.tie),
    ))
tick_does first left past m event told event_is is numbered ground (inr (inr (all, known))) =
    let node : IsNodeTick event = subst IsNodeTick (sym event_is) all.0 in
    inr (inr (all.1, beside_goes past m event told (node_beside event node) (node_notes m.state event node) is known))

-- behind an item
pub behind_notes : (first : HostEvent) (left : List HostEvent) (past : List Entry) (m : HostMachine) → KnowsJudged (Behind (first ∷ left)) past m → AllByRecursion IsNote (outs m.state first)
behind_notes first left past m judged = let (unit, may) = behind_follows first left past m judged.1 in follow_notes unit m.state first may

behind_does : (first : HostEvent) (left : List HostEvent) (past : List Entry) (m : HostMachine) (event : HostEvent) (told : List Entry) → event ≡ first → AreTold (outs m.state event) told
    → Ground (Behind (first ∷ left)) past m → KnowsAsked (Behind (first ∷ left)) past m → KnowsAsked (Behind left) (past ++ told) (done m event)
behind_does first left past m event told event_is is ground known =
    subst (λ (e : HostEvent). KnowsAsked (Behind left) (past ++ told) (done m e)) (sym event_is)
    (tie_quiet past told m.clock m.clock m.came (doing_of (after_all (after m.state first) left))
    (event_quiet m.state first told (behind_notes first left past m ground.0.0.1) (subst (λ (e : HostEvent). AreTold (outs m.state e) told) event_is is)) known)

-- of a pump
sleep_beside : (full : Bool) (n : ℕ) → IsBeside (if full then Drops_no_more n else Queues_no_more n)
sleep_beside true n = tt
sleep_beside false n = tt

pub sleep_notes : (h : HostState) (full : Bool) (n : ℕ) → AllByRecursion IsNote (outs h (if full then Drops_no_more n else Queues_no_more n))
sleep_notes h true n = (tt, tt)
sleep_notes h false n = tt

sleep_does : (past : List Entry) (m : HostMachine) (node : ℕ) (event : HostEvent) (told : List Entry) → event ≡ no_more_event m.state node → AreTold (outs m.state event) told → IsTied past m
    → IsTied (past ++ told) (done m event)
sleep_does past m node event told event_is is tie =
    beside_goes past m event told (subst IsBeside (sym event_is) (sleep_beside (is_full m.state) node))
    (subst (λ (e : HostEvent). AllByRecursion IsNote (outs m.state e)) (sym event_is) (sleep_notes m.state (is_full m.state) node)) is tie

-- what is submitted, by its purpose
free_of : (h : HostState) (event : HostEvent) → IsNext h event → IsFree h
free_of h event next = next.0

written_tie : (past told : List Entry) (m : HostMachine) (purpose : Purpose) (event : HostEvent) → doing_of (after m.state event) ≡ submitted_doing purpose m.state.requests.last_id m.state.requests.first
    → AreFrames m.came → IsFree m.state → FollowsFirst (prior_of past) purpose → CarriesSo purpose → ReadsAs m.state purpose → ((e : Entry) (more : List Entry) → told ≡ e ∷ more → clock past ≡ m.clock)
    → AreTold (Write (Framed (frame_of purpose (next_id m.state.requests.last_id))) ∷ []) told → IsTied past m → IsTied (past ++ told) (done m event)
written_tie past told m purpose event does frames free follows carries read time is tie =
    same_doing (past ++ told) m.clock m.clock m.came (submitted_doing purpose m.state.requests.last_id m.state.requests.first) (doing_of (after m.state event)) does
    (submits_tie past told m.clock m.state.requests.last_id m.came (doing_of m.state) purpose frames free.free_line free.none_under_way follows carries read time is tie)

-- which events a pump may submit
abbrev pub IsSubmission : HostEvent → Type 0
IsSubmission Submits_abort = Unit {0}
IsSubmission Submits_front = Unit {0}
IsSubmission (Starts n plan more payload) = Unit {0}
IsSubmission (Gives_text n payload) = Unit {0}
IsSubmission (Gives_segment n more payload) = Unit {0}
IsSubmission (Begins n session command) = Unit {0}
IsSubmission (Begin_unkept n) = Unit {0}
IsSubmission event = ⊥

pub submissions : SubmittedAre IsSubmission
submissions = record {
  abort = tt;
  front = tt;
  starts = λ n plan more payload. tt;
  text = λ n payload. tt;
  segment = λ n more payload. tt;
  begins = λ n session command. tt;
  unkept = λ n. tt;
}

owes_is : (b : Bool) → IsTrue b → b ≡ true
owes_is b is = is

-- the task that waited longest is under way
front_does : (h : HostState) (queue : List Task) → h.requests.queue ≡ queue → IsPaired queue → (queue ≡ [] → ⊥) → h.requests.owes ≡ false
    → doing_of (after h Submits_front) ≡ submitted_doing (task_purpose h.requests.queue) h.requests.last_id h.requests.first
front_does h [] is paired some paid = absurd (some refl)
front_does h (task ∷ rest) is paired some paid =
    front_by (h.requests.queue) is ∙ ap (λ (l : List Task). submitted_doing (task_purpose l) h.requests.last_id h.requests.first) (sym is)
  where
    front_by : (queue : List Task) → queue ≡ task ∷ rest
        → doing_of (record h { requests = task_begun h.requests queue; side = record { turn = Copied (frame_of (task_purpose queue) (next_id h.requests.last_id)) 1 0; collisions = h.side.collisions } })
        ≡ submitted_doing (task_purpose (task ∷ rest)) h.requests.last_id h.requests.first
    front_by [] are = absurd (let bad : [] ≡ task ∷ rest = are in cc)
    front_by (first ∷ others) are =
        let same : first ≡ task = cc in
        let those : others ≡ rest = cc in
        let due : due_second others ≡ first_of first =
        ap due_second those ∙ due-paired (first_of task) rest paired.1 ∙ ap first_of (sym same) in
        ap (λ (o : Option ℕ). record (submitted_doing (Housekeeping first) h.requests.last_id h.requests.first) { leaving = record { owes = h.requests.owes; first = h.requests.first }; due = o }) due
        ∙ ap (λ (t : Task). record (submitted_doing (Housekeeping t) h.requests.last_id h.requests.first) { leaving = record { owes = h.requests.owes; first = h.requests.first } }) same
        ∙ ap (λ (b : Bool). record (submitted_doing (Housekeeping task) h.requests.last_id h.requests.first) { leaving = record { owes = b; first = h.requests.first } }) paid

part_does : (h : HostState) (p : Purpose) (d : Doing)
    → d ≡ record (submitted_doing p h.requests.last_id h.requests.first) { leaving = record { owes = h.requests.owes; first = h.requests.first }; due = due_second h.requests.queue }
    → h.requests.owes ≡ false → due_second h.requests.queue ≡ due_after p → d ≡ submitted_doing p h.requests.last_id h.requests.first
part_does h p d is paid due =
    is ∙ ap (λ (b : Bool). record (submitted_doing p h.requests.last_id h.requests.first) { leaving = record { owes = b; first = h.requests.first }; due = due_second h.requests.queue }) paid
    ∙ ap (λ (o : Option ℕ). record (submitted_doing p h.requests.last_id h.requests.first) { due = o }) due

abort_does : (h : HostState) → due_second h.requests.queue ≡ None → doing_of (after h Submits_abort) ≡ submitted_doing Abort h.requests.last_id h.requests.first
abort_does h due = ap (λ (o : Option ℕ). record (submitted_doing Abort h.requests.last_id h.requests.first) { due = o }) due

-- the second request of an interview is submitted directly after the first
front_after : (past : List Entry) (m : HostMachine) (queue : List Task) → m.state.requests.queue ≡ queue → IsTied past m → FollowsFirst (prior_of past) (task_purpose queue)
front_after past m [] is tie = tt
front_after past m (task ∷ rest) is tie = front_follows past m.clock m.came (doing_of m.state) task (ap due_second is) tie

-- what is written is read as it
part_read : (h : HostState) (n : ℕ) (more : Bool) (payload : List ℕ) → next_of h.nodes h.served ≡ Some n → 1 ≤ length payload → ReadsAs h (Attempt n more payload)
part_read h n more payload next some =
    read_again (Attempt n more payload) (next_id h.requests.last_id) (served_is_node h n next, some, id_from h.requests.last_id, id_to h.requests.last_id)

-- and carries what it is for
front_carries : (queue : List Task) → AllByRecursion (λ task. CarriesSo (Housekeeping task)) queue → CarriesSo (task_purpose queue)
front_carries [] all = tt
front_carries (task ∷ rest) all = all.0

front_is_read : (h : HostState) (queue : List Task) → AreRead queue → ReadsAs h (task_purpose queue)
front_is_read h [] are = read_again Abort (next_id h.requests.last_id) tt
front_is_read h (task ∷ rest) are = read_again (Housekeeping task) (next_id h.requests.last_id) (are.0.0 (next_id h.requests.last_id) (id_from h.requests.last_id) (id_to h.requests.last_id))

pub event_is_read : PayloadsBring → (h : HostState) (event : HostEvent) → HostFacts h → may_event h event → AreRead h.requests.queue → IsRead h event
event_is_read brings h Submits_abort facts may are = read_again Abort (next_id h.requests.last_id) tt
event_is_read brings h Submits_front facts may are = front_is_read h h.requests.queue are
event_is_read brings h (Starts n plan more payload) facts may are = part_read h n more payload may.0.next (brings.starts h n plan more payload facts may.1).0
event_is_read brings h (Gives_text n payload) facts may are = part_read h n false payload may.0.next (brings.texts h n payload facts may.1)
event_is_read brings h (Gives_segment n more payload) facts may are =
    part_read h n more payload may.0.next (brings.segments h (node_of h n) (open_session (node_of h n).book) (node_of h n).next_segment payload may.2).0
event_is_read brings h event facts may are = tt

-- a request of this purpose is submitted; or a session begins, or cannot
pub record Submits (past : List Entry) (h : HostState) (event : HostEvent) : Type 0 where
  pub purpose : Purpose
  pub does : doing_of (after h event) ≡ submitted_doing purpose h.requests.last_id h.requests.first
  pub puts : outs h event ≡ Write (Framed (frame_of purpose (next_id h.requests.last_id))) ∷ []
  pub follows : FollowsFirst (prior_of past) purpose
  pub carries : CarriesSo purpose
  pub read : ReadsAs h purpose

abbrev pub IsBeginning : HostEvent → Type 0
IsBeginning (Begins n session command) = Unit {0}
IsBeginning (Begin_unkept n) = Unit {0}
IsBeginning event = ⊥

module _ (brings : PayloadsBring) (past : List Entry) (m : HostMachine) (ground : Ground Submitting past m) (tie : IsTied past m) where
  abbrev read_so : (event : HostEvent) → may_event m.state event → IsRead m.state event
  read_so event may = event_is_read brings m.state event ground.0.0.0.0.0.facts.host may ground.1.0

  -- a part of an attempt
  part_submits : (event : HostEvent) (n : ℕ) (more : Bool) (payload : List ℕ) → outs m.state event ≡ Write (Framed (frame_of (Attempt n more payload) (next_id m.state.requests.last_id))) ∷ []
      → doing_of (after m.state event) ≡ submitted_doing (Attempt n more payload) m.state.requests.last_id m.state.requests.first → CarriesSo (Attempt n more payload) → ReadsAs m.state (Attempt n more payload)
      → Submits past m.state event
  part_submits event n more payload puts does carries read = record { purpose = Attempt n more payload; does = does; puts = puts; follows = tt; carries = carries; read = read }

  submits_so : (event : HostEvent) → IsSubmission event → IsNext m.state event → MayAll m.state (event ∷ []) → Submits past m.state event ⊎ IsBeginning event
  submits_so Submits_abort sub next may =
      inl (record {
        purpose = Abort;
        does = abort_does m.state (owing_undue past m.clock m.came (doing_of m.state) (free_of m.state Submits_abort next).none_under_way (owes_is m.state.requests.owes may.0.1) tie);
        puts = refl;
        follows = tt;
        carries = tt;
        read = read_so Submits_abort may.0;
      })
  submits_so Submits_front sub next may =
      inl (record {
        purpose = task_purpose m.state.requests.queue;
        does = front_does m.state m.state.requests.queue refl ground.1.0.1 may.0.2 may.0.1;
        puts = refl;
        follows = front_after past m m.state.requests.queue refl tie;
        carries = front_carries m.state.requests.queue ground.1.0.2;
        read = read_so Submits_front may.0;
      })
  submits_so (Starts n plan more payload) sub next may =
      inl (part_submits (Starts n plan more payload) n more payload refl
      (part_does m.state (Attempt n more payload) (doing_of (after m.state (Starts n plan more payload))) refl may.0.0.paid (ap due_second may.0.0.no_task))
      (start_none m.state n plan more payload may.0.1) (read_so (Starts n plan more payload) may.0))
  submits_so (Gives_text n payload) sub next may =
      inl (part_submits (Gives_text n payload) n false payload refl
      (part_does m.state (Attempt n false payload) (doing_of (after m.state (Gives_text n payload))) refl may.0.0.paid (ap due_second may.0.0.no_task))
      ((ground.1.2 n (served_is_node m.state n may.0.0.next)).text payload may.0.1) (read_so (Gives_text n payload) may.0))
  submits_so (Gives_segment n more payload) sub next may =
      inl (part_submits (Gives_segment n more payload) n more payload refl
      (part_does m.state (Attempt n more payload) (doing_of (after m.state (Gives_segment n more payload))) refl may.0.0.paid (ap due_second may.0.0.no_task))
      (open_none m.state (node_of m.state n) (open_session (node_of m.state n).book) (node_of m.state n).next_segment payload may.0.2) (read_so (Gives_segment n more payload) may.0))
  submits_so (Begins n session command) sub next may = inr tt
  submits_so (Begin_unkept n) sub next may = inr tt
  submits_so event sub next may = absurd sub

  pub submitted_is : (event : HostEvent) → IsNext m.state event → MayAll m.state (event ∷ []) → Submits past m.state event ⊎ IsBeginning event
  submitted_is event next may = submits_so event (next_is IsSubmission submissions m.state event next) next may

beginning_beside : (event : HostEvent) → IsBeginning event → IsBeside event × WritesNothing event
beginning_beside (Begins n session command) is = (tt, tt)
beginning_beside (Begin_unkept n) is = (tt, tt)
beginning_beside event is = absurd is

submit_does : PayloadsBring → (past : List Entry) (m : HostMachine) (event : HostEvent) (told : List Entry) → IsNext m.state event → MayAll m.state (event ∷ []) → AreTold (outs m.state event) told
    → IsNumbered m told → Ground Submitting past m → IsTied past m → IsTied (past ++ told) (done m event)
submit_does brings past m event told next may is numbered ground tie = by (submitted_is brings past m ground tie event next may)
  where
    by : Submits past m.state event ⊎ IsBeginning event → IsTied (past ++ told) (done m event)
    by (inl s) =
        written_tie past told m s.purpose event s.does ground.0.1 (free_of m.state event next) s.follows s.carries s.read (time_told Submitting past told m ground numbered)
        (subst (λ (l : List HostOut). AreTold l told) s.puts is) tie
    by (inr begins) = let beside = beginning_beside event begins in beside_goes past m event told beside.0 (writes_nothing m.state event beside.1) is tie

does : PayloadsBring → (here next : Phase) (past : List Entry) (m : HostMachine) (event : HostEvent) (told : List Entry) → May here m (Does event told) next → Ground here past m → KnowsAsked here past m
    → Goes next past m (Does event told)
does brings (Ticking (first ∷ left)) next past m event told may ground known =
    leads next (Ticking left) past m (Does event told) may.0.1 (tick_does first left past m event told may.0.0 may.2 may.3 ground known)
does brings (Behind (first ∷ left)) next past m event told may ground known =
    leads next (Behind left) past m (Does event told) may.0.1 (behind_does first left past m event told may.0.0 may.2 ground known)
does brings Sleeping next past m event told may ground known =
    let (node, wants, is, next_is) = may.0 in
    leads next Sleeping past m (Does event told) next_is (sleep_does past m node event told is may.2 known)
does brings Submitting next past m event told may ground known =
    leads next Submitting past m (Does event told) may.0.1
    (submit_does brings past m event told may.0.0 may.1 may.2 may.3 ground known)
does brings (Ticking []) next past m event told may ground known = absurd may.0
does brings (Behind []) next past m event told may ground known = absurd may.0
does brings Resting next past m event told may ground known = absurd may.0
does brings (Asked line) next past m event told may ground known = absurd may.0
does brings Risen next past m event told may ground known = absurd may.0
does brings Open next past m event told may ground known = absurd may.0

-- ---- the walk

step_goes : PayloadsBring → (here next : Phase) (past : List Entry) (m : HostMachine) (one : Step) → May here m one next → Ground here past m → KnowsAsked here past m
    → Goes next past m one
step_goes brings here next past m (Tells e) may ground known =
    leads next here past m (Tells e) may.3
    (between here past (e ∷ []) m m may.0 refl (λ line_now now tie. tie_quiet past (e ∷ []) line_now now m.came (doing_of m.state) (others_quiet e may.1, tt) tie) known)
step_goes brings here next past m (Comes unit) may ground known =
    leads next here past m (Comes unit) may.2
    (comes here past m unit may.0 may.1 may.3 ground known)
step_goes brings here next past m (Misses text marks) may ground known =
    leads next here past m (Misses text marks) may.3
    (between here past (entry.Written Chip text ∷ marks) m m may.0 refl
    (λ line_now now tie. tie_missed past text marks line_now now m.came (doing_of m.state) may.1 may.4 tie) known)
step_goes brings here next past m (Says words line) may ground known =
    leads next (Asked line) past m (Says words line) may.3 (record { before = past; words = words; are = refl; read = may.2; tie = as_known here Resting past m may.0 known })
step_goes brings here next past m (Says_nothing words) may ground known =
    leads next Resting past m (Says_nothing words) (may.3 ∙ may.0)
    (tie_said past words m.clock m.clock m.came (doing_of m.state) (ap is_restart may.2) (as_known here Resting past m may.0 known))
step_goes brings here next past m (Asks event) may ground known =
    leads next Open past m (Asks event) may.5 (asks may.0 past m event may.2 (as_known here (Asked may.0) past m may.1 known))
step_goes brings here next past m (Refuses refusal) may ground known =
    leads next Open past m (Refuses refusal) may.4 (refuses may.0 past m refusal (as_known here (Asked may.0) past m may.1 known))
step_goes brings here next past m (Shows node) may ground known =
    leads next Open past m (Shows node) may.2
    (tie_quiet past (shown_values m.state node ∷ []) m.clock m.clock m.came (doing_of m.state) (tt, tt) (on_words (lines.Store node) past m refl (as_known here (Asked (lines.Store node)) past m may.0 known)))
step_goes brings here next past m (Restarts state) may ground known =
    leads next Open past m (Restarts state) may.2
    (restarts past m state (same_asks state (first_host m.keys) (opened_asks m.keys m.records state ground.0.0.0.0.0.told may.1)) (as_known here (Asked lines.Restart) past m may.0 known))
step_goes brings here next past m (Begins_tick left) may ground known =
    leads next Risen past m (Begins_tick left) may.2
    (record { before = m.clock; next = refl; tie = at_end past m.clock m.clock m.came (doing_of m.state) (as_known here Resting past m may.0 known) })
step_goes brings here next past m Numbers may ground known = leads next here past m Numbers may.1 (numbers here past m may.0 ground known)
step_goes brings here next past m (Judges item rest behind told) may ground known =
    leads next (Behind behind) past m (Judges item rest behind told) may.2
    (item_goes past m item rest behind told may.1 (ground_at here Open past m may.0 ground) (as_known here Open past m may.0 known))
step_goes brings here next past m (Does event told) may ground known = does brings here next past m event told may ground known

to : (next phase : Phase) (past : List Entry) (m : HostMachine) → next ≡ phase → KnowsAsked phase past m → KnowsAsked next past m
to next phase past m is known = subst (λ (p : Phase). KnowsAsked p past m) (sym is) known

pub all_nodes : (nodes : List ℕ) → AllByRecursion IsNodeTick (map Node_ticks nodes)
all_nodes [] = tt
all_nodes (n ∷ nodes) = (tt, all_nodes nodes)

-- of a tick whose events are gone
ticked : (past : List Entry) (m : HostMachine) → KnowsTick [] past m → IsTied past m
ticked past m (inl (nodes, are, all, known)) = absurd (let bad : [] ≡ Line_ticks ∷ (Requests_do request_ticks BeforeItsTick ∷ nodes) = are in cc)
ticked past m (inr (inl (nodes, are, all, known))) = absurd (let bad : [] ≡ Requests_do request_ticks BeforeItsTick ∷ nodes = are in cc)
ticked past m (inr (inr (all, known))) = known

turn_goes : (here next : Phase) (past : List Entry) (m : HostMachine) → Turns here m next → KnowsAsked here past m → KnowsAsked next past m
turn_goes Resting next past m is known = to next Open past m is known
turn_goes (Asked line) next past m (inl (nothing, is)) known = to next Open past m is (on_words line past m (none_on line nothing) known)
turn_goes (Asked line) next past m (inr (ticks, line_is, is)) known =
    to next Resting past m is (on_words line past m (ap (λ (l : Line). is_restart (l ∷ [])) line_is) known)
turn_goes Risen next past m is known =
    to next (Ticking (tick_events m.state)) past m is (inl (map Node_ticks (ticking_nodes (after_all m.state first_ticks)), refl, all_nodes (ticking_nodes (after_all m.state first_ticks)), known))
turn_goes (Ticking []) next past m is known = to next Open past m is (ticked past m known)
turn_goes (Ticking (first ∷ left)) next past m is known = absurd is
turn_goes Open next past m is known = to next Sleeping past m is known
turn_goes (Behind []) next past m is known = to next Open past m is known
turn_goes (Behind (first ∷ left)) next past m is known = absurd is
turn_goes Sleeping next past m is known = to next Submitting past m is.1 known
turn_goes Submitting next past m is known = to next Resting past m is.1 known

pub asked_walk : PayloadsBring → (First : List Entry → Entry → Type 0) → WalkOver Ground First First KnowsAsked
asked_walk brings First = record {
  step = λ here next past m one may ground stand known. (stand, step_goes brings here next past m one may ground known);
  turn = λ here next past m turns ground known. turn_goes here next past m turns known;
}

-- a host that asks for nothing, and has said nothing
pub first_asked : (m : HostMachine) → doing_of m.state ≡ doing_of (first_host m.keys) → KnowsAsked Resting [] m
first_asked m fresh =
    subst (λ (d : Doing). TieAsked [] m.clock m.clock m.came d) (sym fresh) (inl (record { unasked = refl; idle = refl; none = refl; paid = refl; undue = refl }))
