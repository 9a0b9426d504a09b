-- What a host alone enters at an event goes on with its last request, with another copy of it or without, or begins with the frame of a new one.
use Rattle.std.proofs.Common.{◌≡◌, ℕ, ◌+◌, ◌==◌, Bool, true, false, inl, inr, List, [], ◌∷◌, ◌++◌, Some, refl, sym, ap, ◌∙◌, subst, append-nil}
use Rattle.std.specs.List.{AllByRecursion}
use Rattle.serial_frame.specs.Frame.{FrameParts}
use Rattle.serial_frame.specs.Items.{unit_text}
use Rattle.serial_frame.specs.declared.unit.Unit.TheVariants.{Framed}
use Rattle.serial_link.specs.State.{pause_after}
use Rattle.serial_link.specs.declared.turn.Turn.{Turn}
use Rattle.serial_link.specs.declared.turn.Turn.TheVariants.{Idle, Copied, Paused}
use Rattle.zw_words.specs.declared.side.Side.TheVariants.{Host}
use Rattle.zw_text.specs.declared.entry.Entry.{Entry}
use Rattle.zw_text.specs.declared.entry.Entry.TheVariants as entry
use Rattle.proof_work.specs.law_time.Judged.{acknowledged}
use Rattle.proof_work.specs.law_time.Requests.{asked, is_new}
use Rattle.host_requests.specs.Events.{RequestsEvent}
use Rattle.host_requests.specs.Events.RequestsEvent.{CallsBack, Fails, IsSent, Responds, Ticks as request_ticks, Updates}
use Rattle.host_requests.specs.Frames.{frame_of}
use Rattle.host_requests.specs.Events.{task_begun}
use Rattle.host_requests.specs.State.{next_id}
use Rattle.host_requests.specs.declared.task.Purpose.{Purpose}
use Rattle.host_requests.specs.declared.task.Purpose.TheVariants.{Attempt, Abort}
use Rattle.host_requests.specs.declared.task.Task.{Task}
use Rattle.host_requests.specs.declared.under_way.Progress.TheVariants.{Submitted}
use Rattle.host_node.specs.declared.attempt.Moment.TheVariants.{BeforeItsTick}
use Rattle.proof_requests.specs.host_model.State.{HostState}
use Rattle.proof_requests.specs.host_model.After.{after, is_full, task_purpose}
use Rattle.proof_requests.specs.host_model.Did.{MayAll}
use Rattle.proof_requests.specs.host_model.May.{IsFree}
use Rattle.proof_requests.specs.host_model.Events.{HostEvent, Line_ticks, Node_ticks, Requests_do, Submits_abort, Submits_front, Starts, Gives_text, Gives_segment, Begins, Begin_unkept}
use Rattle.proof_requests.specs.host_model.Outs.{outs, request_entries}
use Rattle.proof_requests.specs.host_model.Pumping.{IsNext, no_more_event}
use Rattle.proof_requests.specs.host_model.declared.out.HostOut.TheVariants.{Write}
use Rattle.proof_requests.proofs.Submitted.{SleepersAre, next_is, no_more_is}
use Rattle.proof_work.proofs.HostNotes.{NoteOuts}
use Rattle.proof_requests.specs.proof_alone.State.{HostMachine}
use Rattle.proof_requests.specs.proof_alone.Steps.{AreFrames, AreTold, Does, IsOfUnit}
use Rattle.proof_requests.specs.proof_alone.Phases.{Phase, Ticking, Behind, Sleeping, Submitting, May}
use Rattle.proof_requests.specs.proof_waking.Judged.{KnowsJudged}
use Rattle.proof_requests.proofs.proof_waking_Followed.{MayFollow}
use Rattle.proof_requests.proofs.proof_waking_Settling.{behind_follows}
use Rattle.proof_requests.proofs.proof_waking_Parts.{IsNote}
use Rattle.proof_requests.specs.Asking.{TieAsked, TieLine, doing_of}
use Rattle.proof_requests.specs.Standing.{standing_of}
use Rattle.proof_work.specs.Doing.{IsTold}
use Rattle.proof_requests.specs.Walking.{AddsWell, Ground as RequestsGround, IsNodeTick, IsOfChip, IsTied, KnowsAsked, KnowsTick}
use Rattle.proof_requests.proofs.Stepping.{IsSubmission, behind_notes, node_notes, sleep_notes, submissions}
use Rattle.proof_requests.proofs.Telling.{IsQuiet}
use Rattle.proof_attempts.proofs.Requested.{Unsubmitted}
use Rattle.proof_requests.proofs.Walking.{copy_line, event_hosts, event_quiet, is_fresh, is_old, line_outs, noted_notes, quiet_line}

-- Where none is submitted: entries at which no request begins, or another copy of the last one, and such entries. In a pump: the frame of a new one, which is under way then, with what
-- became of it.
pub data Wrote (here : Phase) (past told : List Entry) (h : HostState) (event : HostEvent) : Type 0 where
  Quietly : Unsubmitted event → AllByRecursion IsQuiet told → Wrote here past told h event
  Again : (f : FrameParts) (rest : List Entry) → Unsubmitted event → told ≡ entry.Written Host (unit_text (Framed f)) ∷ rest → is_new (asked past) (unit_text (Framed f)) ≡ false → AllByRecursion IsQuiet rest →
      Wrote here past told h event
  Anew : (purpose : Purpose) (f : FrameParts) (marks : List Entry) → here ≡ Submitting → IsFree h → told ≡ entry.Written Host (unit_text (Framed f)) ∷ marks →
      is_new (asked past) (unit_text (Framed f)) ≡ true →
      AllByRecursion IsOfUnit marks → (after h event).requests.under_way ≡ Some (record { purpose = purpose; progress = Submitted }) → Wrote here past told h event

-- ---- the line's tick

idle_not : (turn : Turn) (f : FrameParts) (copies ticks : ℕ) → turn ≡ Idle → turn ≡ Paused f copies ticks → ⊥
idle_not turn f copies ticks idle paused = cc

module _ (here : Phase) (past told : List Entry) (m : HostMachine) (before : ℕ) (frames : AreFrames m.came) (tie : TieAsked past before before m.came (doing_of m.state)) where
  pub paused_old : (f : FrameParts) (copies ticks : ℕ) → m.state.side.turn ≡ Paused f copies ticks → is_new (asked past) (unit_text (Framed f)) ≡ false
  paused_old f copies ticks is = by tie
    where
      by : TieAsked past before before m.came (doing_of m.state) → is_new (asked past) (unit_text (Framed f)) ≡ false
      by (inl none) = absurd (idle_not m.state.side.turn f copies ticks none.idle is)
      by (inr (was, asks)) =
          is_old past before m.came f copies ticks frames (subst (λ (t : Turn). TieLine (standing_of (asked past)) before (acknowledged past) m.came t) is asks.line)

  line_by : (turn : Turn) → m.state.side.turn ≡ turn → AreTold (line_outs m.state turn) told → NoteOuts (line_outs m.state turn) → Wrote here past told m.state Line_ticks
  line_by Idle is are hosts = Quietly tt (quiet_line m.state Idle told refl hosts are)
  line_by (Copied f copies ticks) is are hosts = Quietly tt (quiet_line m.state (Copied f copies ticks) told refl hosts are)
  line_by (Paused f copies ticks) is are hosts = by (ticks + 1 == pause_after copies) refl
    where
      by : (b : Bool) → (ticks + 1 == pause_after copies) ≡ b → Wrote here past told m.state Line_ticks
      by true due = let wrote = copy_line m.state f copies ticks told due are in Again f wrote.rest tt wrote.are (paused_old f copies ticks is) wrote.quiet
      by false due = Quietly tt (quiet_line m.state (Paused f copies ticks) told due hosts are)

  line_writes : AreTold (outs m.state Line_ticks) told → Wrote here past told m.state Line_ticks
  line_writes are = line_by m.state.side.turn refl are (event_hosts m.state Line_ticks)

-- ---- what is submitted

written_new : (past told : List Entry) (m : HostMachine) (purpose : Purpose) (event : HostEvent) → IsFree m.state → IsTied past m
    → (after m.state event).requests.under_way ≡ Some (record { purpose = purpose; progress = Submitted }) → AreTold (Write (Framed (frame_of purpose (next_id m.state.requests.last_id))) ∷ []) told
    → Wrote Submitting past told m.state event
written_new past told m purpose event free tie now (marks, rest, is, all, none) =
    let f : FrameParts = frame_of purpose (next_id m.state.requests.last_id) in
    let unit : List ℕ = unit_text (Framed f) in
    let are : told ≡ entry.Written Host unit ∷ marks
    = is ∙ ap (λ (l : List Entry). entry.Written Host unit ∷ (marks ++ l)) none ∙ ap (λ (l : List Entry). entry.Written Host unit ∷ l) (append-nil marks) in
    Anew purpose f marks refl free are (is_fresh past m.clock m.came (doing_of m.state) f free.free_line tie) all now

pub front_now : (h : HostState) (queue : List Task) → h.requests.queue ≡ queue → (queue ≡ [] → ⊥)
    → (after h Submits_front).requests.under_way ≡ Some (record { purpose = task_purpose h.requests.queue; progress = Submitted })
front_now h [] is some = absurd (some refl)
front_now h (task ∷ rest) is some =
    subst (λ (l : List Task). (task_begun h.requests l).under_way ≡ Some (record { purpose = task_purpose l; progress = Submitted })) (sym is) refl

quietly : (here : Phase) (past told : List Entry) (h : HostState) (event : HostEvent) → Unsubmitted event → AllByRecursion IsNote (outs h event) → AreTold (outs h event) told → Wrote here past told h event
quietly here past told h event un notes are = Quietly un (event_quiet h event told notes are)

submit_writes : (past told : List Entry) (m : HostMachine) (event : HostEvent) → IsSubmission event → IsNext m.state event → MayAll m.state (event ∷ []) → AreTold (outs m.state event) told → IsTied past m
    → Wrote Submitting past told m.state event
submit_writes past told m Submits_abort sub next may are tie = written_new past told m Abort Submits_abort next.0 tie refl are
submit_writes past told m Submits_front sub next may are tie =
    written_new past told m (task_purpose m.state.requests.queue) Submits_front next.0 tie (front_now m.state m.state.requests.queue refl may.0.2) are
submit_writes past told m (Starts n plan more payload) sub next may are tie = written_new past told m (Attempt n more payload) (Starts n plan more payload) next.0 tie refl are
submit_writes past told m (Gives_text n payload) sub next may are tie = written_new past told m (Attempt n false payload) (Gives_text n payload) next.0 tie refl are
submit_writes past told m (Gives_segment n more payload) sub next may are tie = written_new past told m (Attempt n more payload) (Gives_segment n more payload) next.0 tie refl are
submit_writes past told m (Begins n session command) sub next may are tie = quietly Submitting past told m.state (Begins n session command) tt (tt, tt) are
submit_writes past told m (Begin_unkept n) sub next may are tie = quietly Submitting past told m.state (Begin_unkept n) tt (tt, tt) are
submit_writes past told m event sub next may are tie = absurd sub

-- ---- at each phase

pub first_same : (first these : HostEvent) (left others : List HostEvent) → first ∷ left ≡ these ∷ others → first ≡ these
first_same first these left others is = cc

as_wrote : (here : Phase) (past told : List Entry) (h : HostState) (event these : HostEvent) → event ≡ these → Wrote here past told h these → Wrote here past told h event
as_wrote here past told h event these is wrote = subst (λ (e : HostEvent). Wrote here past told h e) (sym is) wrote

told_as : (h : HostState) (event these : HostEvent) (told : List Entry) → event ≡ these → AreTold (outs h event) told → AreTold (outs h these) told
told_as h event these told is are = subst (λ (e : HostEvent). AreTold (outs h e) told) is are

node_unsubmitted : (event : HostEvent) → IsNodeTick event → Unsubmitted event
node_unsubmitted (Node_ticks n) is = tt
node_unsubmitted event is = absurd is

tick_writes : (first : HostEvent) (left : List HostEvent) (past told : List Entry) (m : HostMachine) (event : HostEvent) → event ≡ first → AreTold (outs m.state event) told → AreFrames m.came
    → KnowsTick (first ∷ left) past m → Wrote (Ticking (first ∷ left)) past told m.state event
tick_writes first left past told m event is are frames (inl (nodes, these, all, known)) =
    let line_is : event ≡ Line_ticks = is ∙ first_same first Line_ticks left (Requests_do request_ticks BeforeItsTick ∷ nodes) these in
    as_wrote (Ticking (first ∷ left)) past told m.state event Line_ticks line_is
    (line_writes (Ticking (first ∷ left)) past told m known.before frames known.tie (told_as m.state event Line_ticks told line_is are))
tick_writes first left past told m event is are frames (inr (inl (nodes, these, all, known))) =
    let request_is : event ≡ Requests_do request_ticks BeforeItsTick = is ∙ first_same first (Requests_do request_ticks BeforeItsTick) left nodes these in
    as_wrote (Ticking (first ∷ left)) past told m.state event (Requests_do request_ticks BeforeItsTick) request_is
    (quietly (Ticking (first ∷ left)) past told m.state (Requests_do request_ticks BeforeItsTick) tt (noted_notes (request_entries m.state request_ticks))
    (told_as m.state event (Requests_do request_ticks BeforeItsTick) told request_is are))
tick_writes first left past told m event is are frames (inr (inr (all, known))) =
    let node : IsNodeTick event = subst IsNodeTick (sym is) all.0 in quietly (Ticking (first ∷ left)) past told m.state event (node_unsubmitted event node) (node_notes m.state event node) are

-- behind an item
pub chip_told : (event : RequestsEvent) → IsOfChip event → IsTold event
chip_told IsSent is = tt
chip_told Fails is = tt
chip_told (Responds response) is = tt
chip_told (CallsBack id status) is = tt
chip_told (Updates update) is = tt
chip_told request_ticks is = tt
chip_told event is = absurd is

follow_unsubmitted : (unit : List ℕ) (event : HostEvent) → MayFollow unit event → AddsWell event → Unsubmitted event
follow_unsubmitted unit (Requests_do event moment) follows adds = chip_told event adds
follow_unsubmitted unit Submits_abort follows adds = absurd follows
follow_unsubmitted unit Submits_front follows adds = absurd follows
follow_unsubmitted unit (Starts n plan more payload) follows adds = absurd follows
follow_unsubmitted unit (Gives_text n payload) follows adds = absurd follows
follow_unsubmitted unit (Gives_segment n more payload) follows adds = absurd follows
follow_unsubmitted unit event follows adds = tt

behind_unsubmitted : (first : HostEvent) (left : List HostEvent) (past : List Entry) (m : HostMachine) → KnowsJudged (Behind (first ∷ left)) past m → AddsWell first → Unsubmitted first
behind_unsubmitted first left past m judged adds = let (unit, may) = behind_follows first left past m judged.1 in follow_unsubmitted unit first may adds

sleepers_unsubmitted : SleepersAre Unsubmitted
sleepers_unsubmitted = record { queues = λ n. tt; drops = λ n. tt }

pub writes : (here next : Phase) (past told : List Entry) (m : HostMachine) (event : HostEvent) → May here m (Does event told) next → RequestsGround here past m → KnowsAsked here past m
    → Wrote here past told m.state event
writes (Ticking (first ∷ left)) next past told m event may ground known = tick_writes first left past told m event may.0.0 may.2 ground.0.1 known
writes (Behind (first ∷ left)) next past told m event may ground known =
    as_wrote (Behind (first ∷ left)) past told m.state event first may.0.0
    (quietly (Behind (first ∷ left)) past told m.state first (behind_unsubmitted first left past m ground.0.0.1 ground.1.1.0) (behind_notes first left past m ground.0.0.1)
    (told_as m.state event first told may.0.0 may.2))
writes Sleeping next past told m event may ground known =
    let (node, wants, is, to_is) = may.0 in
    as_wrote Sleeping past told m.state event (no_more_event m.state node) is
    (quietly Sleeping past told m.state (no_more_event m.state node) (no_more_is Unsubmitted sleepers_unsubmitted m.state node) (sleep_notes m.state (is_full m.state) node)
    (told_as m.state event (no_more_event m.state node) told is may.2))
writes Submitting next past told m event may ground known = submit_writes past told m event (next_is IsSubmission submissions m.state event may.0.0) may.0.0 may.1 may.2 known
writes here next past told m event may ground known = absurd may.0
