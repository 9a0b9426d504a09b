-- What the chip has for the host, in order (Serial API: responses, callbacks and notices; their contents are this project's own
-- profile): the response to each request, what it hears, the callback of each SendData, and the information of nodes.
use Rattle.std.specs.Prelude.{◌≡◌, ◌⊎◌, ℕ, ◌+◌, ◌*◌, ◌==◌, ◌||◌, ◌&&◌, Bool, true, if◌then◌else◌, List, [], ◌∷◌, ◌++◌, map, filter, codes, Option, Some, None, nat_le, length}
use Rattle.std.specs.List.{flat_map, range_with_len}
use Rattle.serial_frame.specs.Frame.{FrameParts}
use Rattle.serial_frame.specs.Items.{unit_text}
use Rattle.serial_frame.specs.declared.frame.Kind.TheVariants.{Request as of_request, Response as of_response}
use Rattle.serial_frame.specs.declared.unit.Unit.TheVariants.{Framed}
use Rattle.route_table.specs.Walk.{Walk}
use Rattle.chip_functions.specs.Mask.{number_with, is_among}
use Rattle.chip_functions.specs.Response.{response_function, response_body}
use Rattle.chip_functions.specs.Notice.{notice_function, notice_body}
use Rattle.chip_functions.specs.declared.request.Request.{Request}
use Rattle.chip_functions.specs.declared.request.Request.TheVariants as asks
use Rattle.chip_functions.specs.declared.response.Response.{Response}
use Rattle.chip_functions.specs.declared.response.Response.TheVariants as answers
use Rattle.chip_functions.specs.declared.notice.Notice.{Notice}
use Rattle.chip_functions.specs.declared.notice.Notice.TheVariants as notices
use Rattle.chip_functions.specs.declared.notice.Update.TheVariants.{Received, RequestFailed}
use Rattle.law_transcript.specs.device_sim.State.{State}
use Rattle.zw_text.specs.declared.entry.Entry.{Entry}
use Rattle.zw_text.specs.declared.entry.Entry.TheVariants.{Said, Heard}
use Rattle.zw_text.specs.Transcript.{AirFrame}
use Rattle.law_transcript.specs.Lists.{shown_after, listed}
use Rattle.law_transcript.specs.Nodes.{controller, is_joined, device_of, listing_of}
use Rattle.law_transcript.specs.Repeats.{frame_of}
use Rattle.law_transcript.specs.Devices.{brought}
use Rattle.law_wire.specs.Networks.{are_linked, chip_links, listens_at, air_network}
use Rattle.law_wire.specs.Arriving.{lived_through}
use Rattle.law_wire.specs.Asked.{Course, Asked, requests_at, clock_of, takes, under_way}
use Rattle.law_wire.specs.Results.{Called, ended_at, came_due, ended_without, has_failed}

-- what the chip has for the host: a frame, or the information of a node, which comes when a device has lived so many ticks
pub data Given : Type 0 where
  Frame : (frame : FrameParts) → Given
  Information : (node : ℕ) (ticks : ℕ) (past : List Entry) → Given

abbrev pub response_frame : Response → FrameParts
response_frame response = record { kind = of_response; func = response_function response; body = response_body response }

abbrev pub notice_frame : Notice → FrameParts
notice_frame notice = record { kind = of_request; func = notice_function notice; body = notice_body notice }

-- ---- responses

-- the nodes of which something is true
abbrev pub nodes_where : (ℕ → Bool) → List ℕ
nodes_where is = filter is (range_with_len 1 232)

-- the functions that the chip knows, and the 32 bytes of a mask of them
abbrev pub known_functions : List ℕ
known_functions = 0x02 ∷ 0x04 ∷ 0x07 ∷ 0x13 ∷ 0x15 ∷ 0x16 ∷ 0x20 ∷ 0x41 ∷ 0x49 ∷ 0x60 ∷ 0x62 ∷ 0x80 ∷ []

abbrev pub function_mask : List ℕ
function_mask = map (λ i. number_with 8 (λ k. is_among known_functions (8 * i + k + 1))) (range_with_len 0 32)

-- the controller, and a joined node that listens, have bit 7 set
abbrev pub capability_of : List State → List Entry → ℕ → ℕ
capability_of devices past node = if (node == controller) || (is_joined past node && listens_at devices node) then 128 else 0

-- what the chip tells of itself: the nodes that have joined, its functions, its version and its home id
abbrev pub told_of_chip : List Entry → Request → List Response
told_of_chip past asks.GetInitData = answers.GetInitData 5 0 (nodes_where (λ node. (node == controller) || is_joined past node)) 7 0 ∷ []
told_of_chip past asks.GetCapabilities = answers.GetCapabilities 1 0 0 0 0 function_mask ∷ []
told_of_chip past asks.GetVersion = answers.GetVersion (codes "Z-Wave 0.00" ++ 0 ∷ []) 1 ∷ []
told_of_chip past asks.MemoryGetId = answers.MemoryGetId 1 controller ∷ []
told_of_chip past _ = []

-- what it tells of a node: whether it listens, whether it failed, and its neighbours
abbrev pub told_of_node : List State → Course → List Entry → Request → List Response
told_of_node devices course past (asks.GetNodeProtocolInfo node) = answers.GetNodeProtocolInfo (capability_of devices past node) 0 0 4 0 0 ∷ []
told_of_node devices course past (asks.IsFailedNode node) = answers.IsFailedNode (has_failed course past node) ∷ []
told_of_node devices course past (asks.GetRoutingInfo node a b c) = answers.GetRoutingInfo (nodes_where (are_linked (chip_links past) node)) ∷ []
told_of_node devices course past _ = []

-- whether it takes what it is to do
abbrev pub taken_or_not : Course → List Entry → Request → List Response
taken_or_not course past (asks.SendData node payload options id) =
    answers.SendData (if takes past (under_way course past) node payload then 1 else 0) ∷ []
taken_or_not course past (asks.RequestNodeInfo node) = answers.RequestNodeInfo 1 ∷ []
taken_or_not course past _ = []

-- the response to a request, where it has one
abbrev pub response_to : List State → Course → List Entry → Request → List Response
response_to devices course past request =
    told_of_chip past request ++ told_of_node devices course past request ++ taken_or_not course past request

abbrev pub responses_at : List State → Course → List Entry → Entry → List Given
responses_at devices course past entry =
    map (λ response. Frame (response_frame response)) (flat_map (response_to devices course past) (requests_at course past entry))

-- ---- notices

-- a frame that comes to the controller, with a payload that a handler frame has room for
abbrev pub is_passed : AirFrame → Bool
is_passed frame = (frame.receiver == controller) && (nat_le 1 (length frame.payload) && nat_le (length frame.payload) 46)

abbrev pub handler_of : AirFrame → List Given
handler_of frame =
    if is_passed frame then Frame (notice_frame (notices.ApplicationCommandHandler 0 frame.sender frame.payload)) ∷ [] else []

abbrev pub handlers_at : List Entry → Entry → List Given
handlers_at past (Heard number) = flat_map handler_of (listed (frame_of past number))
handlers_at past _ = []

-- the callback of a SendData
abbrev pub callback_of : Called → Given
callback_of one = Frame (notice_frame (notices.SendData one.sending.callback_id one.status))

-- the entries before results that come at an entry: the line of a later tick is none of them
abbrev pub before_results : List Entry → Entry → List Entry
before_results past (Said words) = past
before_results past entry = past ++ entry ∷ []

-- the information that was asked for
abbrev pub information_of : List Entry → Asked → Request → List Given
information_of past one (asks.RequestNodeInfo node) = Information node (clock_of one.past) past ∷ []
information_of past one _ = []

-- what comes at the next tick of what was asked
abbrev pub results_of : Course → List Entry → Entry → Asked → List Given
results_of course past entry one =
    information_of (before_results past entry) one one.request ++ map callback_of (ended_without course past one)

-- ---- all of it

abbrev pub given_at : List State → Course → List Entry → Entry → List Given
given_at devices course past entry =
    responses_at devices course past entry ++ handlers_at past entry ++ map callback_of (ended_at course past entry)
    ++ flat_map (results_of course past entry) (came_due course past entry)

abbrev pub given : List State → Course → List Entry → List Given
given devices course transcript = shown_after (given_at devices course) [] transcript

-- ---- as units

-- a device, where there is one, is awake when it has lived so many ticks
abbrev pub IsAwakeAt : ℕ → List Entry → Option State → Type 0
IsAwakeAt ticks past None = ⊥
IsAwakeAt ticks past (Some device) = (lived_through 0 ticks (brought device.node past) device).awake ≡ true

-- a node can tell its information: it is joined, the air has a route to it, and its device is awake
pub record CanTell (devices : List State) (node ticks : ℕ) (past : List Entry) : Type 0 where
  pub joined : is_joined past node ≡ true
  pub way : List ℕ
  pub route : Walk (air_network devices past) node way
  pub awake : IsAwakeAt ticks past (device_of node devices)

-- the information of a node as a unit: its class list where it can tell, else that it did not come
abbrev pub notice_text : Notice → List ℕ
notice_text notice = unit_text (Framed (notice_frame notice))

abbrev pub IsInformation : List State → ℕ → ℕ → List Entry → List ℕ → Type 0
IsInformation devices node ticks past unit =
    (CanTell devices node ticks past × (unit ≡ notice_text (notices.ApplicationUpdate (Received node 4 0 0 (listing_of devices node)))))
    ⊎ ((CanTell devices node ticks past → ⊥) × (unit ≡ notice_text (notices.ApplicationUpdate RequestFailed)))

-- a unit is what the chip has for the host
abbrev pub IsOf : List State → List ℕ → Given → Type 0
IsOf devices unit (Frame frame) = unit ≡ unit_text (Framed frame)
IsOf devices unit (Information node ticks past) = IsInformation devices node ticks past unit
