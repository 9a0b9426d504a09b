-- The attempts of the series of a node, in a host alone and by its transcript (this project's own rule): as the transcript counts them while the request of the host is under way, and by
-- how that ended once it has; whether that request is of them, and carries what others follow; how many parts of the running one were sent; and
-- that a text that it has still to send is sealed, of a session that is carried so. A sign that is still to be given in the host is told already.
use Rattle.std.specs.Prelude.{◌≡◌, ℕ, ◌+◌, ◌≤◌, ◌==◌, ◌&&◌, ◌||◌, is_none, is_some, map, not, nat_lt, Bool, true, false, if◌then◌else◌, Option, Some, None, List, []}
use Rattle.std.specs.List.{list_any}
use Rattle.supervision.specs.Host.{command_at as command_of_session, open_session}
use Rattle.encap.specs.Opening.{begins_with}
use Rattle.host_orders.specs.Wrapping.{form_of}
use Rattle.host_orders.specs.declared.carriage.Form.TheVariants.{Sealed}
use Rattle.zw_words.specs.declared.side.Side.TheVariants.{Host}
use Rattle.zw_text.specs.declared.entry.Entry.{Entry}
use Rattle.zw_text.specs.declared.entry.Entry.TheVariants.{Out, Written}
use Rattle.law_time.specs.Attempts.{Attempts, anew, is_of_inner}
use Rattle.law_time.specs.Ends.{is_abort_frame}
use Rattle.law_time.specs.Heeds.{Heeds}
use Rattle.law_time.specs.Judged.{acknowledged, is_data, last_of}
use Rattle.law_time.specs.Moments.{clock}
use Rattle.law_time.specs.Queue.{queue_before}
use Rattle.law_time.specs.Requests.{are_none, asked, is_new}
use Rattle.law_time.specs.Sessions.{last_command}
use Rattle.host_requests.specs.declared.end.End.{End}
use Rattle.host_requests.specs.declared.end.How.{How}
use Rattle.host_requests.specs.declared.task.Purpose.{Purpose}
use Rattle.host_requests.specs.declared.task.Purpose.TheVariants.{Attempt, Housekeeping, Abort}
use Rattle.host_requests.specs.declared.under_way.UnderWay.{UnderWay}
use Rattle.host_node.specs.State.{NodeState, is_running}
use Rattle.host_node.specs.Steps.{after_sign}
use Rattle.host_node.specs.declared.series.Series.TheVariants.{Running}
use Rattle.host_model.specs.Ends.{PartEnd, Good, Passed_over, Bad, part_end}
use Rattle.host_model.specs.State.{Command, HostState, command_at, node_of}
use Rattle.host_model.specs.Events.{HostEvent, Submits_abort, Submits_front, Starts, Gives_text, Gives_segment}
use Rattle.proof_queue.specs.proof_attempts.Attempts.{AreAttempts, has_ended_badly}
use Rattle.proof_queue.specs.proof_attempts.proof_requests.Asking.{Doing, HasEnded, WasAsked}
use Rattle.proof_queue.specs.proof_attempts.proof_requests.Standing.{standing_of}
use Rattle.proof_queue.specs.Waiting.{want_of_task}
use Rattle.proof_giving.specs.Told.{attempts_so_far}

-- a request is of an attempt of the node
abbrev pub is_for : ℕ → Purpose → Bool
is_for n (Attempt node more payload) = node == n
is_for n purpose = false

-- the end of a part of an attempt that ends the attempt
abbrev pub is_bad_part : PartEnd → Bool
is_bad_part Good = false
is_bad_part Passed_over = false
is_bad_part Bad = true

-- one with which the node gives a sign
abbrev pub is_good : PartEnd → Bool
is_good Good = true
is_good Passed_over = false
is_good Bad = false

-- the end of a request is such a one, of an attempt of the node
abbrev pub is_bad_of : ℕ → Purpose → How → Bool
is_bad_of n (Attempt node more payload) how = (node == n) && is_bad_part (part_end more how)
is_bad_of n purpose how = false

abbrev pub is_good_of : ℕ → Purpose → How → Bool
is_good_of n (Attempt node more payload) how = (node == n) && is_good (part_end more how)
is_good_of n purpose how = false

abbrev pub is_bad_for : ℕ → Option End → Bool
is_bad_for n None = false
is_bad_for n (Some end) = is_bad_of n end.purpose end.how

abbrev pub is_good_for : ℕ → Option End → Bool
is_good_for n None = false
is_good_for n (Some end) = is_good_of n end.purpose end.how

-- the last session of the node carries the command
abbrev pub is_last_of : NodeState → ℕ → Bool
is_last_of node number = list_any (λ command. command == number) (last_of node.book.commands)

-- by an entry the attempts begin anew where the command of the last session ends, of which these are
abbrev pub anew_step : (ℕ → Bool) → Attempts → Entry → Attempts
anew_step last attempts (Out command ended) = if last command then anew attempts else attempts
anew_step last attempts entry = attempts

-- what waits where a request for this purpose is new: nothing where it is of an attempt, and something where it has waited
abbrev pub WantsFit : Purpose → List (List ℕ) → Type 0
WantsFit (Attempt node more payload) wants = wants ≡ []
WantsFit (Housekeeping task) wants = are_none wants ≡ false
WantsFit Abort wants = Unit {0}

-- an event at which a request is submitted
abbrev pub IsRequest : HostEvent → Type 0
IsRequest Submits_abort = Unit {0}
IsRequest Submits_front = Unit {0}
IsRequest (Starts n plan more payload) = Unit {0}
IsRequest (Gives_text n payload) = Unit {0}
IsRequest (Gives_segment n more payload) = Unit {0}
IsRequest event = ⊥

-- the last request has ended badly by a time, once it is no longer under way
abbrev pub is_badly_over : Heeds → ℕ → List Entry → HostState → ℕ → Bool
is_badly_over heeds n past h now = is_none h.requests.under_way && has_ended_badly heeds past (asked past) now n

-- of a running attempt something was sent, and of one that sends segments as many as were given; that has no text to seal
pub record SentAs (told : Attempts) (node : NodeState) : Type 0 where
  pub some : 1 ≤ told.sent
  pub segments : 1 ≤ node.segments → (told.sent ≡ node.next_segment) × (node.text ≡ None) × (node.pending ≡ None)

-- the attempt that runs is the third
abbrev pub is_third : NodeState → Bool
is_third node = is_running node.series && not (nat_lt (node.book.attempts + 1) 3)

-- of a node by its attempts as they are told: at a time, whether the last request has ended badly or not; and a text that it has still to send is sealed
pub record NodeSo (told : Attempts) (node : NodeState) (time : ℕ) (badly : Bool) : Type 0 where
  pub are : AreAttempts told node time badly
  pub sent : node.series ≡ Running → SentAs told node
  pub text : (sealed : List ℕ) → node.text ≡ Some sealed → begins_with sealed 0x98 0x81 ≡ true

-- a frame, and none that is an abort
abbrev pub IsNoAbort : List ℕ → Type 0
IsNoAbort frame = (is_data frame ≡ true) × (is_abort_frame frame ≡ false)

-- a node with a sign that it is still to be given, or as it is
abbrev pub signed : Bool → NodeState → NodeState
signed b node = if b then after_sign node else node

-- a sealed text, or one that waits to be sealed
abbrev pub has_text : NodeState → Bool
has_text node = is_some node.text || is_some node.pending

-- the command of the open session of a node is carried sealed
pub record IsSealing (h : HostState) (n : ℕ) : Type 0 where
  pub session : ℕ
  pub opened : open_session (node_of h n).book ≡ Some session
  pub number : ℕ
  pub carried : command_of_session (node_of h n).book.commands session ≡ Some number
  pub command : Command
  pub found : command_at h.commands number ≡ Some command
  pub form : form_of command.carriage.outer ≡ Sealed

-- whether the frame of the last request carries a segment of the open session of a node that others follow
abbrev pub is_inner_now : Heeds → List Entry → ℕ → Bool
is_inner_now heeds past n = list_any (is_of_inner heeds past n (asked past).frame) (last_command n past)

-- a node, looked at at its own time, and the request at that of the host
pub record AttemptsAs (signs : Bool) (heeds : Heeds) (n : ℕ) (past : List Entry) (h : HostState) (time now : ℕ) : Type 0 where
  pub node : NodeSo (attempts_so_far heeds n past) (signed signs (node_of h n)) time (is_badly_over heeds n past h now)
  pub own : (node_of h n).series ≡ Running → (u : UnderWay) → h.requests.under_way ≡ Some u → (attempts_so_far heeds n past).own ≡ is_for n u.purpose
  pub inner : (node_of h n).series ≡ Running → (u : UnderWay) (more : Bool) (payload : List ℕ) → h.requests.under_way ≡ Some u → u.purpose ≡ Attempt n more payload → is_inner_now heeds past n ≡ more
  pub sends : (attempts_so_far heeds n past).own ≡ true → IsNoAbort (asked past).frame
  pub seals : has_text (node_of h n) ≡ true → IsSealing h n

-- with no sign to come
abbrev pub AttemptsSo : Heeds → ℕ → List Entry → HostState → ℕ → ℕ → Type 0
AttemptsSo heeds n past h time now = AttemptsAs false heeds n past h time now

-- what waits by the transcript at a request at this time is what waits in the host
abbrev pub WaitsAsTold : Heeds → List Entry → HostState → ℕ → Type 0
WaitsAsTold heeds past h now = (unit : List ℕ) → is_new (asked past) unit ≡ true → clock past ≡ now → (queue_before heeds past (Written Host unit)).wants ≡ map want_of_task h.requests.queue

-- the last request was asked, and has ended by the time that the line has counted to
pub record IsOver (past : List Entry) (now : ℕ) (d : Doing) : Type 0 where
  pub was : WasAsked past
  pub ended : HasEnded (standing_of (asked past)) now (acknowledged past) d.leaving
