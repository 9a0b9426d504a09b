-- What payloads are to the sessions of one node (this project's own): a message of one of them, a report of one, or neither.
use Rattle.std.specs.Prelude.{◌≡◌, ℕ, ◌*◌, ◌%◌, ◌<◌, ◌≤◌, Bool, true, false, List, [], ◌∷◌, length}
use Rattle.zw_base.specs.declared.order.Order.{Order}
use Rattle.supervision.specs.Session.{wire_id, IsStatus}
use Rattle.proof_course.specs.Parts.{numbered}
use Rattle.proof_course.specs.Sessions.{Cargo, Command, Of_host, Answer, Of_node}
use Rattle.encap.specs.Opening.{begins_with}
use Rattle.transport_segments.specs.Segment.{segment_text}
use Rattle.transport_segments.specs.Parts.{slice_at}
use Rattle.host_orders.specs.Refusals.{IsFit}
use Rattle.host_orders.specs.Wrapping.{message_of}
use Rattle.host_orders.specs.declared.carriage.Carriage.{Carriage}
use Rattle.host_heard.specs.Telling.{heard_at}
use Rattle.host_heard.specs.declared.payload.Heard.TheVariants.{Messages}
use Rattle.host_heard.specs.declared.told.Told.TheVariants.{Report}
use Rattle.device_kinds.specs.Answers.{report_status}
use Rattle.proof_once.specs.proof_messages.Others.{IsOther}
use Rattle.proof_once.specs.proof_messages.Reporting.{TellsNone}

-- a command that was accepted: the order, and how it is carried
pub record Asked : Type 0 where
  pub order : Order
  pub carriage : Carriage

-- the whole message of a session: the command of that session is this number, and was accepted so
pub record IsMessageOf (orders : List Asked) (commands : List ℕ) (session : ℕ) (payload : List ℕ) : Type 0 where
  pub number : ℕ
  pub asked : Asked
  pub carried : numbered commands session ≡ number ∷ []
  pub accepted : numbered orders number ≡ asked ∷ []
  pub fit : IsFit asked.carriage.actuator asked.order
  pub end : asked.order.end ≤ 127
  pub text : payload ≡ message_of asked.carriage asked.order session

-- one segment of the message of a session
pub record IsSegmentOf (orders : List Asked) (commands : List ℕ) (session : ℕ) (payload : List ℕ) : Type 0 where
  pub message : List ℕ
  pub of : IsMessageOf orders commands session message
  pub most : length message ≤ 512
  pub place : ℕ
  pub within : 39 * place < length message
  pub text : payload ≡ segment_text (session % 16) (length message) (39 * place) (slice_at message place)

-- a message of a session: one segment of it, or the whole
abbrev pub IsMessage : Bool → List Asked → List ℕ → ℕ → List ℕ → Type 0
IsMessage true orders commands session payload = IsSegmentOf orders commands session payload
IsMessage false orders commands session payload = IsMessageOf orders commands session payload

-- a payload of the host: a message of a session, whole or one segment of it, or none
abbrev pub HostMeans : List Asked → List ℕ → List ℕ → Cargo → Type 0
HostMeans orders commands payload (Command message) = IsMessage message.is_segment orders commands message.session payload
HostMeans orders commands payload Of_host = IsOther payload
HostMeans orders commands payload (Answer session status) = ⊥
HostMeans orders commands payload Of_node = ⊥

-- one report of a session, and nothing else
pub record Reports (session status : ℕ) (payload : List ℕ) : Type 0 where
  pub asks : Bool
  pub heard : heard_at payload ≡ Messages (Report (wire_id session) (report_status status) asks ∷ [])
  pub is_status : IsStatus status

-- a payload of the node: a report of a session, or none, and not sealed
abbrev pub NodeMeans : List ℕ → Cargo → Type 0
NodeMeans payload (Command message) = ⊥
NodeMeans payload Of_host = ⊥
NodeMeans payload (Answer session status) = Reports session status payload
NodeMeans payload Of_node = TellsNone payload × (begins_with payload 0x98 0x81 ≡ false)
