-- What is known of the request of a host alone at each phase (this project's own rule), and on what ground: its tables, the time, what it has judged, that answers are judged as they
-- come, and that what waits to be asked can be read.
use Rattle.std.specs.Prelude.{Some, ◌≡◌, ◌⊎◌, ◌≤◌, ℕ, ◌+◌, false, List, [], ◌∷◌, ◌++◌}
use Rattle.std.specs.List.{AllByRecursion}
use Rattle.serial_frame.specs.Items.{unit_text}
use Rattle.serial_frame.specs.declared.unit.Unit.{Unit as LineUnit}
use Rattle.serial_frame.specs.declared.unit.Unit.TheVariants.{Framed}
use Rattle.chip_functions.specs.Field.{IsNode}
use Rattle.chip_functions.specs.Request.{IsRequest}
use Rattle.zw_text.specs.declared.line.Line.{Line}
use Rattle.zw_text.specs.declared.entry.Entry.{Entry}
use Rattle.zw_text.specs.declared.entry.Entry.TheVariants as entry
use Rattle.zw_text.specs.Transcript.{line_of}
use Rattle.proof_waking.specs.law_transcript.Units.{request_in}
use Rattle.proof_waking.specs.law_time.Requests.{asked}
use Rattle.host_requests.specs.Events.{RequestsEvent}
use Rattle.host_requests.specs.Events.RequestsEvent.{IsSent, Fails, Responds, CallsBack, Updates, Ticks}
use Rattle.host_requests.specs.Facts.{ArePaired, due_second}
use Rattle.host_requests.specs.Frames.{frame_of, request_of, task_request}
use Rattle.host_requests.specs.State.{next_id}
use Rattle.host_requests.specs.declared.task.Task.{Task}
use Rattle.host_requests.specs.declared.under_way.UnderWay.{UnderWay}
use Rattle.host_requests.specs.declared.task.Purpose.{Purpose}
use Rattle.host_requests.specs.declared.task.Purpose.TheVariants.{Attempt, Abort, Housekeeping}
use Rattle.host_node.specs.declared.attempt.Moment.TheVariants.{BeforeItsTick}
use Rattle.proof_messages.specs.host_model.State.{HostState, node_of}
use Rattle.proof_messages.specs.host_model.Events.{HostEvent, Queues, Queues_interview, Offers, Gives, Resends, Queues_no_more, Node_ticks, Requests_do, Submits_abort, Submits_front, Starts, Gives_text, Gives_segment}
use Rattle.proof_messages.specs.host_model.After.{task_purpose}
use Rattle.proof_messages.specs.host_model.Did.{after_all}
use Rattle.proof_messages.specs.host_model.Ticking.{first_ticks}
use Rattle.proof_waking.specs.proof_alone.State.{HostMachine}
use Rattle.proof_waking.specs.proof_alone.Steps.{AreFrames}
use Rattle.proof_waking.specs.proof_alone.Phases.{Phase, Asked, Risen, Ticking, Open, Behind, Sleeping}
use Rattle.proof_waking.specs.proof_alone.Runs.{Knowledge, both_know}
use Rattle.proof_waking.specs.proof_alone.Tables.{KnowsTables}
use Rattle.proof_waking.specs.proof_alone.Time.{KnowsClock}
use Rattle.proof_waking.specs.proof_alone.Listening.{KnowsListening}
use Rattle.proof_waking.specs.Judged.{KnowsJudged}
use Rattle.proof_messages.specs.Hosts.{HasTexts}
use Rattle.proof_requests.specs.Carrying.{CarriesSo, is_errand}
use Rattle.proof_requests.specs.Standing.{brought_before, prior_of}
use Rattle.proof_requests.specs.Asking.{Doing, TieAsked, doing_of}

-- ---- the ground

-- what the link and the chip tell the requests, and a tick
abbrev pub IsOfChip : RequestsEvent → Type 0
IsOfChip IsSent = Unit {0}
IsOfChip Fails = Unit {0}
IsOfChip (Responds response) = Unit {0}
IsOfChip (CallsBack id status) = Unit {0}
IsOfChip (Updates update) = Unit {0}
IsOfChip Ticks = Unit {0}
IsOfChip event = ⊥

-- what is submitted is read as the request that it is
abbrev pub ReadsAs : HostState → Purpose → Type 0
ReadsAs h purpose =
    request_in (unit_text (Framed (frame_of purpose (next_id h.requests.last_id)))) ≡ request_of purpose (next_id h.requests.last_id) ∷ []

abbrev pub IsRead : HostState → HostEvent → Type 0
IsRead h Submits_abort = ReadsAs h Abort
IsRead h Submits_front = ReadsAs h (task_purpose h.requests.queue)
IsRead h (Starts n plan more payload) = ReadsAs h (Attempt n more payload)
IsRead h (Gives_text n payload) = ReadsAs h (Attempt n false payload)
IsRead h (Gives_segment n more payload) = ReadsAs h (Attempt n more payload)
IsRead h event = Unit {0}

-- answers are judged before the host goes on
abbrev pub CameAt : Phase → List LineUnit → Type 0
CameAt Open came = Unit {0}
CameAt (Behind left) came = Unit {0}
CameAt Sleeping came = Unit {0}
CameAt here came = AreFrames came

abbrev pub KnowsCame : Knowledge
KnowsCame here past m = CameAt here m.came

-- a task can be read as its request, with each callback id
abbrev pub CanBeRead : Task → Type 0
CanBeRead task = (id : ℕ) → 1 ≤ id → id ≤ 255 → IsRequest (task_request task id)

-- what an event adds to those that wait can be
abbrev pub AddsWell : HostEvent → Type 0
AddsWell (Queues task) = CanBeRead task × CarriesSo (Housekeeping task)
AddsWell (Queues_interview n) = IsNode n
AddsWell (Offers n) = IsNode n
AddsWell (Gives n drawn) = IsNode n
AddsWell (Resends n payload) = IsNode n
AddsWell (Queues_no_more n) = IsNode n
AddsWell (Requests_do event moment) = IsOfChip event
AddsWell event = Unit {0}

-- so those that wait, and what is to come behind an item adds
abbrev pub AddAt : Phase → Type 0
AddAt (Behind left) = AllByRecursion AddsWell left
AddAt here = Unit {0}

-- the tasks that wait are such; those of an interview stand in pairs, but that the first one's may be gone
abbrev pub IsPaired : List Task → Type 0
IsPaired queue = ArePaired (due_second queue) queue

abbrev pub AreRead : List Task → Type 0
AreRead queue = AllByRecursion CanBeRead queue × IsPaired queue × AllByRecursion (λ task. CarriesSo (Housekeeping task)) queue

-- and no sealed text that a node is to be given is what a line asks for
abbrev pub HaveTexts : HostState → Type 0
HaveTexts h = (n : ℕ) → IsNode n → HasTexts (λ text. is_errand text ≡ false) (λ plain. Unit {0}) (node_of h n)

abbrev pub KnowsQueue : Knowledge
KnowsQueue here past m = AreRead m.state.requests.queue × AddAt here × HaveTexts m.state

abbrev pub KnowsHost : Knowledge
KnowsHost = both_know (both_know KnowsTables KnowsClock) KnowsJudged

abbrev pub Ground : Knowledge
Ground = both_know (both_know KnowsHost KnowsCame) KnowsQueue

-- ---- what is known

abbrev pub IsNodeTick : HostEvent → Type 0
IsNodeTick (Node_ticks n) = Unit {0}
IsNodeTick event = ⊥

-- the tick has begun, and the line has not counted; the line has, and the request has not
pub record BeforeTick (past : List Entry) (m : HostMachine) : Type 0 where
  pub before : ℕ
  pub next : m.clock ≡ before + 1
  pub tie : TieAsked past before before m.came (doing_of m.state)

pub record HalfTick (past : List Entry) (m : HostMachine) : Type 0 where
  pub before : ℕ
  pub next : m.clock ≡ before + 1
  pub tie : TieAsked past m.clock before m.came (doing_of m.state)

abbrev pub IsTied : List Entry → HostMachine → Type 0
IsTied past m = TieAsked past m.clock m.clock m.came (doing_of m.state)

-- of these events of a tick all are to come, or those behind the line's, or those of nodes
abbrev pub KnowsTick : List HostEvent → List Entry → HostMachine → Type 0
KnowsTick left past m =
    ((nodes : List HostEvent) × (left ≡ first_ticks ++ nodes) × AllByRecursion IsNodeTick nodes × BeforeTick past m)
    ⊎ (((nodes : List HostEvent) × (left ≡ Requests_do Ticks BeforeItsTick ∷ nodes) × AllByRecursion IsNodeTick nodes × HalfTick past m)
    ⊎ (AllByRecursion IsNodeTick left × IsTied past m))

-- the words of a line stand last, and the host asks what it did before them
pub record AsksBefore (line : Line) (past : List Entry) (m : HostMachine) : Type 0 where
  pub before : List Entry
  pub words : List ℕ
  pub are : past ≡ before ++ entry.Said words ∷ []
  pub read : line_of (entry.Said words) ≡ line ∷ []
  pub tie : IsTied before m

-- behind an item the transcript is ahead of the host by the events that are to come
abbrev pub KnowsAsked : Knowledge
KnowsAsked (Asked line) past m = AsksBefore line past m
KnowsAsked Risen past m = BeforeTick past m
KnowsAsked (Ticking left) past m = KnowsTick left past m
KnowsAsked (Behind left) past m = TieAsked past m.clock m.clock m.came (doing_of (after_all m.state left))
KnowsAsked here past m = IsTied past m

-- ---- what the request before the last one brought

-- while one is under way the host keeps it
abbrev pub KeepsBrought : List Entry → Doing → Type 0
KeepsBrought past d = (u : UnderWay) → d.under_way ≡ Some u → d.leaving.first ≡ brought_before (prior_of (asked past).before)

-- also behind an item, as long as that does not end it
abbrev pub KnowsBrought : Knowledge
KnowsBrought (Behind left) past m = KeepsBrought past (doing_of m.state)
KnowsBrought here past m = Unit {0}

abbrev pub KnowsInterviews : Knowledge
KnowsInterviews = both_know (both_know (both_know Ground KnowsAsked) KnowsBrought) KnowsListening
