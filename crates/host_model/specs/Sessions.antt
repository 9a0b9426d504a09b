-- What goes on the air for a session (Supervision, Transport Service and Security 0 Command Classes; the wraps are those of the order).
use Rattle.std.specs.Prelude.{ℕ, ◌+◌, ◌*◌, ◌/◌, ◌%◌, nat_lt, Bool, false, if◌then◌else◌, List, [], ◌∷◌, length, Option, Some, None}
use Rattle.zw_base.specs.declared.property.Setting.{Setting}
use Rattle.supervision.specs.Host.{open_session, command_at as command_of_session}
use Rattle.transport_segments.specs.Segment.{segment_text}
use Rattle.transport_segments.specs.Parts.{slice_at}
use Rattle.host_node.specs.State.{NodeState}
use Rattle.host_node.specs.declared.attempt.Plan.{Plan}
use Rattle.host_node.specs.declared.attempt.Plan.TheVariants.{Whole, Segments, Sealed as seals}
use Rattle.host_orders.specs.Settings.{settings}
use Rattle.host_orders.specs.Wrapping.{message_of, form_of}
use Rattle.host_orders.specs.declared.carriage.Form.{Form}
use Rattle.host_orders.specs.declared.carriage.Form.TheVariants.{Plain, Cut, Sealed}
use Rattle.host_keep.specs.declared.final_status.FinalStatus.{FinalStatus}
use Rattle.host_keep.specs.declared.final_status.FinalStatus.TheVariants.{NoSupport, Fail, Success}
use Rattle.host_model.specs.State.{HostState, Command, command_at}

-- the command of a session of a node
abbrev pub command_by : NodeState → Option ℕ → Option ℕ
command_by n None = None
command_by n (Some session) = command_of_session n.book.commands session

-- the command of its open session
abbrev pub open_command : NodeState → Option ℕ
open_command n = command_by n (open_session n.book)

-- the message of a command's session, in its wraps but Security and Transport Service
abbrev pub message_for : Command → ℕ → List ℕ
message_for command session = message_of command.carriage command.order session

-- how many segments a message has, and the text of one of them, counted from 0
abbrev pub segment_count : List ℕ → ℕ
segment_count message = (length message + 38) / 39

abbrev pub segment_at : ℕ → List ℕ → ℕ → List ℕ
segment_at session message k = segment_text (session % 16) (length message) (39 * k) (slice_at message k)

-- a Nonce Get: bytes 98 and 40 (hexadecimal)
abbrev pub nonce_get : List ℕ
nonce_get = 152 ∷ 64 ∷ []

-- what an attempt gives at once, whether more of it follows, and what it has to give after that
pub record Start : Type 0 where
  pub plan : Plan
  pub payload : List ℕ
  pub more : Bool

-- an attempt of a session: the message whole, its first segment, or a Nonce Get
abbrev pub start_by : Form → ℕ → List ℕ → Start
start_by Plain session message = record { plan = Whole; payload = message; more = false }
start_by Cut session message =
    record { plan = Segments (segment_count message); payload = segment_at session message 0; more = nat_lt 1 (segment_count message) }
start_by Sealed session message = record { plan = seals message; payload = nonce_get; more = false }

abbrev pub start_of : Command → ℕ → Start
start_of command session = start_by (form_of command.carriage.outer) session (message_for command session)

-- a segment of a session's message, where the message is cut and has that segment
abbrev pub segment_by : Form → ℕ → List ℕ → ℕ → Option (List ℕ)
segment_by Plain session message k = None
segment_by Cut session message k = if nat_lt k (segment_count message) then Some (segment_at session message k) else None
segment_by Sealed session message k = None

abbrev pub segment_of : Option Command → ℕ → ℕ → Option (List ℕ)
segment_of None session k = None
segment_of (Some command) session k = segment_by (form_of command.carriage.outer) session (message_for command session) k

-- the command of that number, where there is one
abbrev pub command_if : List Command → Option ℕ → Option Command
command_if commands None = None
command_if commands (Some number) = command_at commands number

-- a segment of the open session of a node
abbrev pub open_segment : HostState → NodeState → Option ℕ → ℕ → Option (List ℕ)
open_segment h n None k = None
open_segment h n (Some session) k = segment_of (command_if h.commands (command_of_session n.book.commands session)) session k

-- the settings that a final status of a command confirms
abbrev pub settings_with : FinalStatus → Option Command → List Setting
settings_with status None = []
settings_with NoSupport (Some command) = []
settings_with Fail (Some command) = []
settings_with Success (Some command) = settings command.carriage.actuator command.order
