-- What is on its way between the host and a lock (this project's own rule): sealed messages and reports, with their sessions and with the number of the nonce that each is sealed for; and
-- nonces, with their numbers.
use Rattle.std.specs.Prelude.{ℕ, false, List, Option, Some, None}
use Rattle.std.specs.List.{flat_map}
use Rattle.std.specs.Option.{option_to_list}
use Rattle.supervision.specs.Ends.{Report as SessionReport}
use Rattle.proof_course.specs.Sessions.{Message, Cargo as SessionCargo, Command, Of_host as no_command, Answer, Of_node as no_answer}
use Rattle.proof_course.specs.NodeNonces as node
use Rattle.proof_course.specs.HostNonces as host

-- what the host sends: the message of a session, sealed for a nonce of the node; a nonce of its own
pub data Sent : Type 0 where
  Sealed : (session number : ℕ) → Sent
  Offer : (number : ℕ) → Sent

-- what the node says: a report of a session, sealed for a nonce of the host; a nonce of its own
pub data Said : Type 0 where
  Reports : (session status number : ℕ) → Said
  Shows : (number : ℕ) → Said

-- what a frame holds: one of these, or nothing of these
pub data Held : Type 0 where
  Up : (sent : Sent) → Held
  Of_host : Held
  Down : (said : Said) → Held
  Of_node : Held

-- what is on its way to the host, with how many sessions had begun when it went on the air
pub record Late : Type 0 where
  pub said : Said
  pub begun : ℕ

-- ---- what each of the three courses has of them

abbrev pub picked : {A B : Type 0} → (A → Option B) → List A → List B
picked pick items = flat_map (λ item. option_to_list (pick item)) items

abbrev pub message_of : Sent → Option Message
message_of (Sealed session number) = Some (record { session = session; is_segment = false })
message_of (Offer number) = None

abbrev pub sealed_for : Sent → Option ℕ
sealed_for (Sealed session number) = Some number
sealed_for (Offer number) = None

abbrev pub offer_of : Sent → Option ℕ
offer_of (Sealed session number) = None
offer_of (Offer number) = Some number

abbrev pub report_of : Late → Option SessionReport
report_of late = by late.said late.begun
  where
    by : Said → ℕ → Option SessionReport
    by (Reports session status number) begun = Some (record { session = session; status = status; begun = begun })
    by (Shows number) begun = None

abbrev pub shown_by : Said → Option ℕ
shown_by (Reports session status number) = None
shown_by (Shows number) = Some number

abbrev pub answers_for : Said → Option ℕ
answers_for (Reports session status number) = Some number
answers_for (Shows number) = None

abbrev pub as_session : Held → SessionCargo
as_session (Up (Sealed session number)) = Command (record { session = session; is_segment = false })
as_session (Up (Offer number)) = no_command
as_session Of_host = no_command
as_session (Down (Reports session status number)) = Answer session status
as_session (Down (Shows number)) = no_answer
as_session Of_node = no_answer

abbrev pub as_node : Held → node.Cargo
as_node (Up (Sealed session number)) = node.Sealed number
as_node (Up (Offer number)) = node.Of_host
as_node Of_host = node.Of_host
as_node (Down (Reports session status number)) = node.Of_node
as_node (Down (Shows number)) = node.Offer number
as_node Of_node = node.Of_node

abbrev pub as_host : Held → host.Cargo
as_host (Up (Sealed session number)) = host.Of_host
as_host (Up (Offer number)) = host.Offer number
as_host Of_host = host.Of_host
as_host (Down (Reports session status number)) = host.Sealed number
as_host (Down (Shows number)) = host.Of_node
as_host Of_node = host.Of_node
