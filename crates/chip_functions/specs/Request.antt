-- Requests of the host (Serial API: Host Application Programming Guide; the range of a callback id is this project's own rule).
use Rattle.std.specs.Prelude.{◌≡◌, ℕ, ◌≤◌, List, [], length, Result, Ok, Err, ◌==◌, if◌then◌else◌}
use Rattle.chip_functions.specs.declared.fault.BodyFault.{BodyFault}
use Rattle.chip_functions.specs.declared.fault.BodyFault.TheVariants.{UnknownFunction}
use Rattle.chip_functions.specs.declared.function.TheConstants.{GET_INIT_DATA, GET_CAPABILITIES, SEND_DATA, GET_VERSION, SEND_DATA_ABORT, MEMORY_GET_ID, GET_NODE_PROTOCOL_INFO, ADD_NODE, REQUEST_NODE_INFO, IS_FAILED_NODE, GET_ROUTING_INFO}
use Rattle.chip_functions.specs.declared.request.Request.{Request}
use Rattle.chip_functions.specs.declared.request.Request.TheVariants.{GetInitData, GetCapabilities, SendData, GetVersion, SendDataAbort, MemoryGetId, GetNodeProtocolInfo, AddNode, RequestNodeInfo, IsFailedNode, GetRoutingInfo}
use Rattle.chip_functions.specs.Place.{Place, Reading, ◌>>=◌, start_of, ended_from}
use Rattle.chip_functions.specs.Field.{Field, byte, triple, byte_within, IsNode, node, counted, ◌then◌, read_as}
use Rattle.chip_functions.specs.AddNode.{add_request}

-- a SendData: the node, a payload of at least one byte after its length, the options and a callback id that is not 0
abbrev pub send_data : Field (ℕ × (List ℕ × (ℕ × ℕ)))
send_data = node then counted 1 then byte then byte_within 1 255

-- a GetRoutingInfo: the node, and three bytes as one field
abbrev pub get_routing_info : Field (ℕ × (ℕ × (ℕ × ℕ)))
get_routing_info = node then triple

-- the function of a request
abbrev pub request_function : Request → ℕ
request_function GetInitData = GET_INIT_DATA
request_function GetCapabilities = GET_CAPABILITIES
request_function (SendData n payload options id) = SEND_DATA
request_function GetVersion = GET_VERSION
request_function SendDataAbort = SEND_DATA_ABORT
request_function MemoryGetId = MEMORY_GET_ID
request_function (GetNodeProtocolInfo n) = GET_NODE_PROTOCOL_INFO
request_function (AddNode mode id) = ADD_NODE
request_function (RequestNodeInfo n) = REQUEST_NODE_INFO
request_function (IsFailedNode n) = IS_FAILED_NODE
request_function (GetRoutingInfo n x y z) = GET_ROUTING_INFO

-- the written form of a request
abbrev pub request_body : Request → List ℕ
request_body GetInitData = []
request_body GetCapabilities = []
request_body (SendData n payload options id) = send_data.spell (n, (payload, (options, id)))
request_body GetVersion = []
request_body SendDataAbort = []
request_body MemoryGetId = []
request_body (GetNodeProtocolInfo n) = node.spell n
request_body (AddNode mode id) = add_request.spell (mode, id)
request_body (RequestNodeInfo n) = node.spell n
request_body (IsFailedNode n) = node.spell n
request_body (GetRoutingInfo n x y z) = get_routing_info.spell (n, (x, (y, z)))

-- what a row asks of a request beside the types of its fields: a payload is not empty, and a callback id is not 0
abbrev pub HasRequestRow : Request → Type 0
HasRequestRow GetInitData = Unit {0}
HasRequestRow GetCapabilities = Unit {0}
HasRequestRow (SendData n payload options id) = (1 ≤ length payload) × (1 ≤ id)
HasRequestRow GetVersion = Unit {0}
HasRequestRow SendDataAbort = Unit {0}
HasRequestRow MemoryGetId = Unit {0}
HasRequestRow (GetNodeProtocolInfo n) = Unit {0}
HasRequestRow (AddNode mode id) = 1 ≤ id
HasRequestRow (RequestNodeInfo n) = Unit {0}
HasRequestRow (IsFailedNode n) = Unit {0}
HasRequestRow (GetRoutingInfo n x y z) = Unit {0}

-- a request that a row has
abbrev pub IsRequest : Request → Type 0
IsRequest GetInitData = Unit {0}
IsRequest GetCapabilities = Unit {0}
IsRequest (SendData n payload options id) = IsNode n × (1 ≤ length payload) × (1 ≤ id) × (id ≤ 255)
IsRequest GetVersion = Unit {0}
IsRequest SendDataAbort = Unit {0}
IsRequest MemoryGetId = Unit {0}
IsRequest (GetNodeProtocolInfo n) = IsNode n
IsRequest (AddNode mode id) = (1 ≤ id) × (id ≤ 255)
IsRequest (RequestNodeInfo n) = IsNode n
IsRequest (IsFailedNode n) = IsNode n
IsRequest (GetRoutingInfo n x y z) = IsNode n

-- the body of that function is the request, the whole of it
pub record IsRequestBody (func : ℕ) (body : List ℕ) (value : Request) : Type 0 where
  pub row : IsRequest value
  pub function : func ≡ request_function value
  pub text : body ≡ request_body value

-- the rows, as they are read
unfoldable pub send_data_at : Place → Reading Request
send_data_at p = read_as (λ x. SendData x.0 x.1.0 x.1.1.0 x.1.1.1) (send_data.read p)

unfoldable pub get_routing_info_at : Place → Reading Request
get_routing_info_at p = read_as (λ x. GetRoutingInfo x.0 x.1.0 x.1.1.0 x.1.1.1) (get_routing_info.read p)

unfoldable pub add_request_at : Place → Reading Request
add_request_at p = read_as (λ x. AddNode x.0 x.1) (add_request.read p)

-- the request of a function at a place
unfoldable pub request_at : ℕ → Place → Reading Request
request_at func p =
    if func == GET_INIT_DATA then Ok (GetInitData, p) else
    if func == GET_CAPABILITIES then Ok (GetCapabilities, p) else
    if func == SEND_DATA then send_data_at p else
    if func == GET_VERSION then Ok (GetVersion, p) else
    if func == SEND_DATA_ABORT then Ok (SendDataAbort, p) else
    if func == MEMORY_GET_ID then Ok (MemoryGetId, p) else
    if func == GET_NODE_PROTOCOL_INFO then read_as (λ n. GetNodeProtocolInfo n) (node.read p) else
    if func == ADD_NODE then add_request_at p else
    if func == REQUEST_NODE_INFO then read_as (λ n. RequestNodeInfo n) (node.read p) else
    if func == IS_FAILED_NODE then read_as (λ n. IsFailedNode n) (node.read p) else
    if func == GET_ROUTING_INFO then get_routing_info_at p else
    Err (UnknownFunction func)

-- the request that a body is, the whole of it, or the first fault from the left
unfoldable pub request_of : ℕ → List ℕ → Result Request BodyFault
request_of func body = request_at func (start_of body) >>= λ x. ended_from x.0 x.1.before x.1.rest
