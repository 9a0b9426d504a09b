-- What the host asks the chip to send (Supervision, Transport Service, Security 0 and Wake Up Command Classes; which of them
-- is sent when is this project's own rule): the message of the last session, or what a node or a line asked for.
use Rattle.std.specs.Prelude.{◌≡◌, ◌⊎◌, ℕ, ◌%◌, if◌then◌else◌, List, [], ◌∷◌, ◌++◌, length, Option, Some, None, ⊤}
use Rattle.std.specs.List.{flat_map, AllByRecursion}
use Rattle.zw_base.specs.declared.order.Order.{Order}
use Rattle.host_heard.specs.Telling.{heard_at}
use Rattle.host_heard.specs.declared.payload.Heard.{Heard}
use Rattle.host_heard.specs.declared.payload.Heard.TheVariants.{Messages}
use Rattle.host_heard.specs.declared.told.Told.{Told}
use Rattle.host_heard.specs.declared.told.Told.TheVariants.{NonceGet, NonceReport}
use Rattle.host_orders.specs.Errands.{send_text, get_text}
use Rattle.host_orders.specs.Wrapping.{carriage_of, form_of}
use Rattle.host_orders.specs.declared.carriage.Form.{Form}
use Rattle.host_orders.specs.declared.carriage.Form.TheVariants.{Plain, Cut, Sealed}
use Rattle.supervision.specs.Host.{command_at}
use Rattle.transport_segments.specs.Segment.{segment_text}
use Rattle.transport_segments.specs.Parts.{slice_at}
use Rattle.std.specs.Prelude.{◌*◌, ◌<◌}
use Rattle.s0_crypto.specs.Sealing.{keys_of, sealed_text}
use Rattle.zw_words.specs.declared.side.Side.TheVariants.{Host}
use Rattle.zw_text.specs.declared.line.Line.{Line}
use Rattle.zw_text.specs.declared.line.Line.TheVariants as lines
use Rattle.zw_text.specs.declared.entry.Entry.{Entry}
use Rattle.zw_text.specs.declared.entry.Entry.TheVariants.{Begin, Written}
use Rattle.zw_text.specs.Transcript.{accepted, sessions, line_of}
use Rattle.law_transcript.specs.Lists.{EachAfter, Has, listed}
use Rattle.law_transcript.specs.Nodes.{controller, host_list}
use Rattle.law_transcript.specs.Restarts.{begins_refused}
use Rattle.law_transcript.specs.Commands.{order_of, classes_for, message_for}
use Rattle.law_transcript.specs.Units.{Carried, sending_in, payloads_from}

-- a Nonce Report of eight bytes, and a Nonce Get (Security 0)
abbrev pub nonce_report : List ℕ → List ℕ
nonce_report nonce = 0x98 ∷ 0x80 ∷ nonce

abbrev pub nonce_get : List ℕ
nonce_get = 0x98 ∷ 0x40 ∷ []

-- a No More Information (Wake Up)
abbrev pub no_more_information : List ℕ
no_more_information = 0x84 ∷ 8 ∷ []

-- what the payloads of a node tell as they came, in whatever wraps but that of Security 0
abbrev pub messages_of : Heard → List Told
messages_of (Messages messages) = messages
messages_of heard = []

abbrev pub told_by : ℕ → List Entry → List Told
told_by node past = flat_map (λ payload. messages_of (heard_at payload)) (payloads_from node past)

-- the node has told this in a payload that it sealed for the host with the network key, under nonces of eight bytes
pub record IsToldSealed (key : List ℕ) (past : List Entry) (node : ℕ) (message : Told) : Type 0 where
  pub payload : List ℕ
  pub brought : Has (payloads_from node past) payload
  pub own : List ℕ
  pub nonce : List ℕ
  pub plain : List ℕ
  pub own_eight : length own ≡ 8
  pub eight : length nonce ≡ 8
  pub text : payload ≡ sealed_text (keys_of key) own nonce (record { sender = node; receiver = controller }) plain
  pub tells : Has (messages_of (heard_at plain)) message

-- the node has told this, as it came or sealed
abbrev pub IsToldBy : List ℕ → List Entry → ℕ → Told → Type 0
IsToldBy key past node message = Has (told_by node past) message ⊎ IsToldSealed key past node message

-- ---- of a session

-- a segment of the message, with the session's number modulo 16
pub record IsSegmentOf (message : List ℕ) (session : ℕ) (payload : List ℕ) : Type 0 where
  pub place : ℕ
  pub within : 39 * place < length message
  pub text : payload ≡ segment_text (session % 16) (length message) (39 * place) (slice_at message place)

-- the message sealed under a nonce of the host's own for one that the node has given, of eight bytes each
pub record IsSealedFor (key : List ℕ) (past : List Entry) (node : ℕ) (message payload : List ℕ) : Type 0 where
  pub own : List ℕ
  pub nonce : List ℕ
  pub given : IsToldBy key past node (NonceReport nonce)
  pub own_eight : length own ≡ 8
  pub eight : length nonce ≡ 8
  pub text : payload ≡ sealed_text (keys_of key) own nonce (record { sender = controller; receiver = node }) message

-- how a message is carried
abbrev pub IsCarriedAs : Form → List ℕ → List Entry → ℕ → ℕ → List ℕ → List ℕ → Type 0
IsCarriedAs Plain key past node session message payload = payload ≡ message
IsCarriedAs Cut key past node session message payload = IsSegmentOf message session payload
IsCarriedAs Sealed key past node session message payload = IsSealedFor key past node message payload

-- the form of a command's message, by the classes that the node listed when it was accepted
abbrev pub form_by : List ℕ → Option Order → Form
form_by classes None = Plain
form_by classes (Some order) = form_of (carriage_of classes order).outer

-- the payload is of a session that carries this command
abbrev pub IsOfCommand : (List Entry → ℕ → List ℕ) → List ℕ → List Entry → Carried → ℕ → ℕ → Type 0
IsOfCommand listing key past carried session number =
    IsCarriedAs (form_by (classes_for listing past carried.node number) (order_of number (accepted carried.node past)))
    key past carried.node session (message_for listing past carried.node session number) carried.payload

-- the payload is of the last session of its node
abbrev pub IsOfSession : (List Entry → ℕ → List ℕ) → List ℕ → List Entry → Carried → ℕ → Type 0
IsOfSession listing key past carried session = IsOfCommands (listed (command_at (sessions carried.node past) session))
  where
    IsOfCommands : List ℕ → Type 0
    IsOfCommands [] = ⊥
    IsOfCommands (number ∷ more) = IsOfCommand listing key past carried session number

-- ---- of nodes and lines

-- the payload is a Nonce Report that a Nonce Get of the node asked for
pub record IsNonceReport (key : List ℕ) (past : List Entry) (carried : Carried) : Type 0 where
  pub nonce : List ℕ
  pub eight : length nonce ≡ 8
  pub asked : IsToldBy key past carried.node NonceGet
  pub text : carried.payload ≡ nonce_report nonce

-- the texts that a line asked for of a node with these classes
abbrev pub asked_by : (List Entry → ℕ → List ℕ) → List Entry → Line → List Carried
asked_by listing past (lines.Send node word) = record { node = node; payload = send_text (host_list listing past node) word } ∷ []
asked_by listing past (lines.Get node end) = record { node = node; payload = get_text (host_list listing past node) end } ∷ []
asked_by listing past _ = []

-- the texts that the lines asked for, each by the classes that its node had listed when the line was said; one that is refused asks for nothing
abbrev pub asked_from : (List Entry → ℕ → List ℕ) → List Entry → List Entry → List Carried
asked_from listing past [] = []
asked_from listing past (entry ∷ rest) =
    (if begins_refused rest then [] else flat_map (asked_by listing past) (line_of entry)) ++ asked_from listing (past ++ entry ∷ []) rest

abbrev pub asked_for : (List Entry → ℕ → List ℕ) → List Entry → List Carried
asked_for listing past = asked_from listing [] past

-- the payload is the Set or Get that a line asked for
abbrev pub IsAskedFor : (List Entry → ℕ → List ℕ) → List Entry → Carried → Type 0
IsAskedFor listing past carried = Has (asked_for listing past) carried

-- ---- each request

-- what may be sent after this past
abbrev pub IsDue : (List Entry → ℕ → List ℕ) → List ℕ → List Entry → Carried → Type 0
IsDue listing key past carried =
    IsOfSession listing key past carried (length (sessions carried.node past))
    ⊎ ((carried.payload ≡ nonce_get)
    ⊎ (IsNonceReport key past carried
    ⊎ ((carried.payload ≡ no_more_information) ⊎ IsAskedFor listing past carried)))

abbrev pub MayRequest : (List Entry → ℕ → List ℕ) → List ℕ → List Entry → Entry → Type 0
MayRequest listing key past (Written Host unit) = AllByRecursion (IsDue listing key past) (sending_in unit)
MayRequest listing key past _ = ⊤

-- every payload that the host asks to be sent is due
abbrev pub SendsWhatIsDue : (List Entry → ℕ → List ℕ) → List ℕ → List Entry → Type 0
SendsWhatIsDue listing key transcript = EachAfter (MayRequest listing key) [] transcript

-- ---- the unit of a session that begins

-- the unit asks to send to the node
abbrev pub GoesTo : ℕ → List Carried → Type 0
GoesTo node [] = ⊥
GoesTo node (carried ∷ more) = carried.node ≡ node

-- directly after a session that begins stands its unit
abbrev pub FollowsBegin : List Entry → Entry → Type 0
FollowsBegin [] entry = ⊤
FollowsBegin (Begin node session command ∷ []) (Written Host unit) = GoesTo node (sending_in unit)
FollowsBegin (Begin node session command ∷ []) entry = ⊥
FollowsBegin (last ∷ []) entry = ⊤
FollowsBegin (first ∷ next ∷ rest) entry = FollowsBegin (next ∷ rest) entry

abbrev pub BeginsWithUnit : List Entry → Type 0
BeginsWithUnit transcript = EachAfter FollowsBegin [] transcript
