-- Why a host may ask its chip to send a payload, by its own tables (Supervision, Transport Service, Security 0 and Wake Up Command Classes; which of
-- them is sent when is this project's own rule).
use Rattle.std.specs.Prelude.{◌≡◌, ◌⊎◌, ℕ, List, [], ◌∷◌, length, Option, Some, None}
use Rattle.std.specs.List.{AllByRecursion}
use Rattle.serial_frame.specs.Frame.{FrameParts}
use Rattle.serial_frame.specs.declared.unit.Unit.{Unit as LineUnit}
use Rattle.serial_frame.specs.declared.unit.Unit.TheVariants.{Framed}
use Rattle.serial_link.specs.declared.turn.Turn.{Turn}
use Rattle.supervision.specs.Host.{begun_of, command_at as command_of_session}
use Rattle.s0_crypto.specs.declared.key_pair.Keys.{Keys}
use Rattle.s0_session.specs.declared.account.Account.{Account}
use Rattle.chip_functions.specs.Field.{IsNode}
use Rattle.s0_crypto.specs.Sealing.{sealed_text}
use Rattle.host_keep.specs.Kept.{Taken}
use Rattle.host_orders.specs.Wrapping.{form_of, message_of}
use Rattle.host_orders.specs.declared.carriage.Form.{Form}
use Rattle.host_orders.specs.declared.carriage.Form.TheVariants.{Plain as Whole, Cut, Sealed}
use Rattle.host_requests.specs.declared.task.Task.{Task}
use Rattle.host_requests.specs.declared.task.Task.TheVariants.{Plain, Offer, Segment}
use Rattle.host_requests.specs.declared.task.Purpose.{Purpose}
use Rattle.host_requests.specs.declared.task.Purpose.TheVariants.{Housekeeping, Attempt, Abort}
use Rattle.host_requests.specs.Events.{RequestsEvent}
use Rattle.host_requests.specs.Events.RequestsEvent.{Pushes, PushesInterview, PushesProbe}
use Rattle.host_requests.specs.Frames.{frame_of}
use Rattle.host_requests.specs.State.{next_id}
use Rattle.host_node.specs.State.{SealsText, ends_to}
use Rattle.host_model.specs.State.{HostState, node_of}
use Rattle.host_model.specs.Sessions.{nonce_get}
use Rattle.host_model.specs.declared.out.HostOut.{HostOut}
use Rattle.host_model.specs.declared.out.HostOut.TheVariants.{Write, Note}
use Rattle.host_model.specs.Events.{HostEvent, Queues, Requests_do, Offers, Gives, Takes_nonce}
use Rattle.proof_air.specs.law_transcript.Payloads.{IsSegmentOf}
use Rattle.proof_spoken.specs.proof_messages.Hosts.{HasTexts}
use Rattle.proof_air.specs.Carrying.{TurnHas}
use Rattle.proof_line.specs.proof_host.Tables.{taken_at}

-- ---- what others have said

-- a line asked for this Set or Get to a node; a node asked for a nonce, and gave this one
pub data Reason : Type 0 where
  Asked_for : (node : ℕ) (payload : List ℕ) → Reason
  Wants_nonce : (node : ℕ) → Reason
  Gave_nonce : (node : ℕ) (nonce : List ℕ) → Reason

-- ---- sessions

-- the last session of a node carries a command that was taken so
pub record IsLast (h : HostState) (node session : ℕ) (taken : Taken) : Type 0 where
  pub last : session ≡ begun_of (node_of h node).book
  pub number : ℕ
  pub carried : command_of_session (node_of h node).book.commands session ≡ Some number
  pub found : taken_at h.commands number ≡ Some taken

-- the message sealed under eight bytes of the host's own, for eight that the node gave
pub record IsSealedBy (Holds : Reason → Type 0) (keys : Keys) (node : ℕ) (message payload : List ℕ) : Type 0 where
  pub own : List ℕ
  pub nonce : List ℕ
  pub given : Holds (Gave_nonce node nonce)
  pub own_eight : length own ≡ 8
  pub eight : length nonce ≡ 8
  pub text : payload ≡ sealed_text keys own nonce (ends_to node) message

-- how a message is carried
abbrev pub IsCarriedBy : (Reason → Type 0) → Keys → ℕ → ℕ → Form → List ℕ → List ℕ → Type 0
IsCarriedBy Holds keys node session Whole message payload = payload ≡ message
IsCarriedBy Holds keys node session Cut message payload = IsSegmentOf message session payload
IsCarriedBy Holds keys node session Sealed message payload = IsSealedBy Holds keys node message payload

-- the payload is of the last session of a node
pub record IsPart (Holds : Reason → Type 0) (keys : Keys) (h : HostState) (node : ℕ) (payload : List ℕ) : Type 0 where
  pub session : ℕ
  pub taken : Taken
  pub last : IsLast h node session taken
  pub carried : IsCarriedBy Holds keys node session (form_of taken.carriage.outer) (message_of taken.carriage taken.order session) payload

-- a plain text that waits for a nonce is the message of the last session of its node, which is to be sealed
pub record IsToSeal (h : HostState) (node : ℕ) (plain : List ℕ) : Type 0 where
  pub session : ℕ
  pub taken : Taken
  pub last : IsLast h node session taken
  pub form : form_of taken.carriage.outer ≡ Sealed
  pub is : plain ≡ message_of taken.carriage taken.order session

-- ---- requests

-- what waits is due
abbrev pub IsDueTask : (Reason → Type 0) → Keys → HostState → Task → Type 0
IsDueTask Holds keys h (Plain node payload) = Holds (Asked_for node payload)
IsDueTask Holds keys h (Offer node nonce) = (length nonce ≡ 8) × Holds (Wants_nonce node)
IsDueTask Holds keys h (Segment node payload) = IsPart Holds keys h node payload
IsDueTask Holds keys h task = Unit {0}

-- what is submitted is: a part of an attempt is a Nonce Get, or a part of the last session
abbrev pub IsDuePurpose : (Reason → Type 0) → Keys → HostState → Purpose → Type 0
IsDuePurpose Holds keys h (Housekeeping task) = IsDueTask Holds keys h task
IsDuePurpose Holds keys h (Attempt node more payload) = (payload ≡ nonce_get) ⊎ IsPart Holds keys h node payload
IsDuePurpose Holds keys h Abort = Unit {0}

-- the frame of a purpose that is due, with the callback id after some other
pub record IsDueFrame (Holds : Reason → Type 0) (keys : Keys) (h : HostState) (f : FrameParts) : Type 0 where
  pub purpose : Purpose
  pub last : ℕ
  pub is : f ≡ frame_of purpose (next_id last)
  pub due : IsDuePurpose Holds keys h purpose

-- ---- the host

-- where a nonce is live it has eight bytes
abbrev pub IsEight : Option (List ℕ) → Type 0
IsEight None = Unit {0}
IsEight (Some nonce) = length nonce ≡ 8

abbrev pub HasEight : Account → Type 0
HasEight account = IsEight account.live

-- the host's keys are these; what it has on the line, which may be written again, is due, what waits is, and its live nonces have eight bytes
pub record HasWaiting (Frame : FrameParts → Type 0) (Waits : Task → Type 0) (theirs keys : Keys) (turn : Turn) (queue : List Task) (nonces : List Account) : Type 0 where
  pub same : keys ≡ theirs
  pub frame : TurnHas Frame turn
  pub tasks : AllByRecursion Waits queue
  pub eight : AllByRecursion HasEight nonces

-- all that a host has to send is due
pub record IsReasoned (Holds : Reason → Type 0) (keys : Keys) (h : HostState) : Type 0 where
  pub waiting : HasWaiting (IsDueFrame Holds keys h) (IsDueTask Holds keys h) keys h.keys h.side.turn h.requests.queue h.nonces
  pub texts : (node : ℕ) → IsNode node → HasTexts (IsPart Holds keys h node) (IsToSeal h node) (node_of h node)

-- each frame that it writes is
abbrev pub IsDueUnit : (Reason → Type 0) → Keys → HostState → LineUnit → Type 0
IsDueUnit Holds keys h (Framed f) = IsDueFrame Holds keys h f
IsDueUnit Holds keys h unit = Unit {0}

abbrev pub WritesDue : (Reason → Type 0) → Keys → HostState → List HostOut → Type 0
WritesDue Holds keys h [] = Unit {0}
WritesDue Holds keys h (Write unit ∷ puts) = IsDueUnit Holds keys h unit × WritesDue Holds keys h puts
WritesDue Holds keys h (Note note ∷ puts) = WritesDue Holds keys h puts

-- ---- what its events bring

-- the text is sealed for a nonce that the node gave
pub record IsSealedSo (Holds : Reason → Type 0) (h : HostState) (node : ℕ) (text : List ℕ) : Type 0 where
  pub own : List ℕ
  pub nonce : List ℕ
  pub seals : SealsText (node_of h node) h.keys own nonce text
  pub given : Holds (Gave_nonce node nonce)
  pub own_eight : length own ≡ 8
  pub eight : length nonce ≡ 8

-- a request by itself brings nothing
abbrev pub PushesNothing : RequestsEvent → Type 0
PushesNothing (Pushes task) = ⊥
PushesNothing (PushesInterview node) = ⊥
PushesNothing PushesProbe = ⊥
PushesNothing event = Unit {0}

-- what an event of the host brings to be sent has its reason
abbrev pub HasReason : (Reason → Type 0) → Keys → HostState → HostEvent → Type 0
HasReason Holds keys h (Queues task) = IsDueTask Holds keys h task
HasReason Holds keys h (Requests_do event moment) = PushesNothing event
HasReason Holds keys h (Offers node) = Holds (Wants_nonce node)
HasReason Holds keys h (Gives node drawn) = Holds (Wants_nonce node)
HasReason Holds keys h (Takes_nonce node seen text) = IsNode node × IsSealedSo Holds h node text
HasReason Holds keys h event = Unit {0}
