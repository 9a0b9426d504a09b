-- What requests want of the chip, by their frames, by lines and by what nodes ask for (Serial API: the functions of each; Security 0 and
-- Transport Service Command Classes).
use Rattle.std.specs.Prelude.{ℕ, ◌/◌, ◌%◌, ◌==◌, ◌&&◌, nat_lt, Bool, if◌then◌else◌, List, [], ◌∷◌, ◌++◌, length}
use Rattle.std.specs.List.{flat_map}
use Rattle.chip_functions.specs.declared.function.TheConstants.{GET_INIT_DATA, GET_CAPABILITIES, SEND_DATA, GET_VERSION, MEMORY_GET_ID, GET_NODE_PROTOCOL_INFO, REQUEST_NODE_INFO, IS_FAILED_NODE, GET_ROUTING_INFO}
use Rattle.chip_functions.specs.declared.request.Request.{Request}
use Rattle.chip_functions.specs.declared.request.Request.TheVariants as requests
use Rattle.encap.specs.Opening.{begins_with}
use Rattle.host_heard.specs.declared.told.Told.{Told}
use Rattle.host_heard.specs.declared.told.Told.TheVariants.{NonceGet, SegmentRequest}
use Rattle.host_orders.specs.Errands.{send_text, get_text}
use Rattle.host_orders.specs.declared.carriage.Form.{Form}
use Rattle.host_orders.specs.declared.carriage.Form.TheVariants.{Cut}
use Rattle.zw_text.specs.declared.line.Line.{Line}
use Rattle.zw_text.specs.declared.line.Line.TheVariants as lines
use Rattle.zw_text.specs.declared.entry.Entry.{Entry}
use Rattle.law_wire.specs.law_transcript.Nodes.{host_list}
use Rattle.law_wire.specs.law_transcript.Payloads.{no_more_information}
use Rattle.law_wire.specs.law_transcript.Units.{Carried}
use Rattle.law_time.specs.Heeds.{Heeds}
use Rattle.law_time.specs.Sessions.{Session, is_open, last_command, session_of, segment_at}

-- ---- requests

-- what is wanted of a payload: of a Nonce Report which nonce it has is left out
abbrev pub told_of : List ℕ → List ℕ
told_of payload = if begins_with payload 0x98 0x80 then 0x98 ∷ 0x80 ∷ [] else payload

-- what a question about a node wants: its function and its node
abbrev pub want_of_node : Request → List ℕ
want_of_node (requests.GetNodeProtocolInfo node) = GET_NODE_PROTOCOL_INFO ∷ node ∷ []
want_of_node (requests.RequestNodeInfo node) = REQUEST_NODE_INFO ∷ node ∷ []
want_of_node (requests.IsFailedNode node) = IS_FAILED_NODE ∷ node ∷ []
want_of_node (requests.GetRoutingInfo node bad others id) = GET_ROUTING_INFO ∷ node ∷ []
want_of_node _ = []

-- one about the chip: its function
abbrev pub want_of_chip : Request → List ℕ
want_of_chip requests.GetInitData = GET_INIT_DATA ∷ []
want_of_chip requests.GetVersion = GET_VERSION ∷ []
want_of_chip requests.MemoryGetId = MEMORY_GET_ID ∷ []
want_of_chip requests.GetCapabilities = GET_CAPABILITIES ∷ []
want_of_chip _ = []

-- and a message: its function, its node and its payload, and not its callback id
abbrev pub want_of : Request → List ℕ
want_of (requests.SendData node payload options id) = SEND_DATA ∷ node ∷ told_of payload
want_of request = want_of_node request ++ want_of_chip request

-- No More Information, and a Nonce Report, to a node
abbrev pub no_more : ℕ → List ℕ
no_more node = SEND_DATA ∷ node ∷ no_more_information

abbrev pub nonce_report : ℕ → List ℕ
nonce_report node = SEND_DATA ∷ node ∷ 0x98 ∷ 0x80 ∷ []

-- ---- lines

-- what a line wants of the chip about itself, or about a node, in order
abbrev pub questions_of : Line → List (List ℕ)
questions_of lines.Discover = (GET_INIT_DATA ∷ []) ∷ []
questions_of lines.Probe = (GET_VERSION ∷ []) ∷ (MEMORY_GET_ID ∷ []) ∷ (GET_CAPABILITIES ∷ []) ∷ []
questions_of (lines.Interview node) = (GET_NODE_PROTOCOL_INFO ∷ node ∷ []) ∷ (REQUEST_NODE_INFO ∷ node ∷ []) ∷ []
questions_of (lines.Neighbours node) = (GET_ROUTING_INFO ∷ node ∷ []) ∷ []
questions_of (lines.Failed node) = (IS_FAILED_NODE ∷ node ∷ []) ∷ []
questions_of _ = []

-- and what it wants to be sent
abbrev pub wants_of : (List Entry → ℕ → List ℕ) → List Entry → Line → List (List ℕ)
wants_of listing past (lines.Send node word) = (SEND_DATA ∷ node ∷ send_text (host_list listing past node) word) ∷ []
wants_of listing past (lines.Get node end) = (SEND_DATA ∷ node ∷ get_text (host_list listing past node) end) ∷ []
wants_of listing past line = questions_of line

-- ---- nodes

-- a segment of a session's message begins at this offset, and the id is the session's
abbrev pub has_segment : ℕ → ℕ → Session → Bool
has_segment id offset session = (session.number % 16 == id) && (offset % 39 == 0) && nat_lt offset (length session.message)

-- that segment, where the message goes in segments
abbrev pub segment_asked : ℕ → ℕ → Session → Form → List (List ℕ)
segment_asked id offset session Cut =
    if has_segment id offset session then (SEND_DATA ∷ session.node ∷ segment_at session (offset / 39)) ∷ [] else []
segment_asked id offset session _ = []

-- the segment of the open session of a node that it asks for
abbrev pub segment_of : (List Entry → ℕ → List ℕ) → List Entry → ℕ → ℕ → ℕ → ℕ → List (List ℕ)
segment_of listing past node id offset command =
    let session : Session = session_of listing past node command in segment_asked id offset session session.form

abbrev pub segments_wanted : (List Entry → ℕ → List ℕ) → List Entry → ℕ → ℕ → ℕ → List (List ℕ)
segments_wanted listing past node id offset =
    if is_open node past then flat_map (segment_of listing past node id offset) (last_command node past) else []

-- what a node wants by a message: a nonce, or a segment
abbrev pub wants_told : (List Entry → ℕ → List ℕ) → List Entry → ℕ → Told → List (List ℕ)
wants_told listing past node NonceGet = nonce_report node ∷ []
wants_told listing past node (SegmentRequest id offset) = segments_wanted listing past node id offset
wants_told listing past node message = []

-- what it wants by the messages of a payload by which the host goes
abbrev pub wants_brought : Heeds → List Entry → List Entry → Carried → List (List ℕ)
wants_brought heeds past rest carried = flat_map (wants_told heeds.listing past carried.node) (heeds.taken past rest carried)
