-- Responses of the chip (Serial API: Host Application Programming Guide; that a tail is ignored is this project's own rule).
use Rattle.std.specs.Prelude.{◌≡◌, ℕ, ◌<◌, ◌^◌, Bool, true, false, List, ◌++◌, length, Option, Some, None, Result, Ok, Err, ◌==◌, if◌then◌else◌}
use Rattle.std.specs.Int.{w16, w32}
use Rattle.chip_functions.specs.declared.fault.BodyFault.{BodyFault}
use Rattle.chip_functions.specs.declared.fault.BodyFault.TheVariants.{UnknownFunction}
use Rattle.chip_functions.specs.declared.function.TheConstants.{GET_INIT_DATA, GET_CAPABILITIES, SEND_DATA, GET_VERSION, MEMORY_GET_ID, GET_NODE_PROTOCOL_INFO, REQUEST_NODE_INFO, IS_FAILED_NODE, GET_ROUTING_INFO}
use Rattle.chip_functions.specs.declared.mask.TheConstants.{MASK_BYTES}
use Rattle.chip_functions.specs.declared.response.Response.{Response}
use Rattle.chip_functions.specs.declared.response.Response.TheVariants.{GetInitData, GetCapabilities, SendData, GetVersion, MemoryGetId, GetNodeProtocolInfo, RequestNodeInfo, IsFailedNode, GetRoutingInfo}
use Rattle.chip_functions.specs.Mask.{AreNodes}
use Rattle.chip_functions.specs.Place.{Place, Reading, ◌>>=◌, start_of}
use Rattle.chip_functions.specs.Field.{Field, byte, piece, IsNode, node, mark, number, mask, coded, ◌then◌, read_as}

-- a GetInitData: version, capabilities, the length of the mask and the mask, chip type and chip version
abbrev pub init_data : Field (ℕ × (ℕ × (Unit {0} × (List ℕ × (ℕ × ℕ)))))
init_data = byte then byte then mark MASK_BYTES then mask then byte then byte

-- a GetCapabilities: version, revision, manufacturer, product type, product, and 32 bytes of functions
abbrev pub capabilities : Field (ℕ × (ℕ × (ℕ × (ℕ × (ℕ × List ℕ)))))
capabilities = byte then byte then number w16 then number w16 then number w16 then piece 32

-- a GetVersion: 12 bytes of text and the type of the library
abbrev pub version : Field (List ℕ × ℕ)
version = piece 12 then byte

-- a MemoryGetId: the home id and the chip's own node
abbrev pub memory_id : Field (ℕ × ℕ)
memory_id = number w32 then node

-- a GetNodeProtocolInfo: capability, security, reserved, and the basic, generic and specific device class
abbrev pub protocol_info : Field (ℕ × (ℕ × (ℕ × (ℕ × (ℕ × ℕ)))))
protocol_info = byte then byte then byte then byte then byte then byte

-- 1 for a failed node and 0 for one that has not failed
abbrev pub failed_code : Bool → ℕ
failed_code false = 0
failed_code true = 1

-- what such a byte says
abbrev pub failed_of : ℕ → Option Bool
failed_of b = if b == 0 then Some false else if b == 1 then Some true else None

-- the function of a response
abbrev pub response_function : Response → ℕ
response_function (GetInitData v c nodes t u) = GET_INIT_DATA
response_function (GetCapabilities v r m t p functions) = GET_CAPABILITIES
response_function (SendData answer) = SEND_DATA
response_function (GetVersion text t) = GET_VERSION
response_function (MemoryGetId home n) = MEMORY_GET_ID
response_function (GetNodeProtocolInfo c s r b g t) = GET_NODE_PROTOCOL_INFO
response_function (RequestNodeInfo answer) = REQUEST_NODE_INFO
response_function (IsFailedNode failed) = IS_FAILED_NODE
response_function (GetRoutingInfo nodes) = GET_ROUTING_INFO

-- the written form of a response
abbrev pub response_body : Response → List ℕ
response_body (GetInitData v c nodes t u) = init_data.spell (v, (c, (tt, (nodes, (t, u)))))
response_body (GetCapabilities v r m t p functions) = capabilities.spell (v, (r, (m, (t, (p, functions)))))
response_body (SendData answer) = byte.spell answer
response_body (GetVersion text t) = version.spell (text, t)
response_body (MemoryGetId home n) = memory_id.spell (home, n)
response_body (GetNodeProtocolInfo c s r b g t) = protocol_info.spell (c, (s, (r, (b, (g, t)))))
response_body (RequestNodeInfo answer) = byte.spell answer
response_body (IsFailedNode failed) = (coded failed_code failed_of).spell failed
response_body (GetRoutingInfo nodes) = mask.spell nodes

-- a response that a row has
abbrev pub IsResponse : Response → Type 0
IsResponse (GetInitData v c nodes t u) = AreNodes nodes
IsResponse (GetCapabilities v r m t p functions) = (m < 2 ^ 16) × (t < 2 ^ 16) × (p < 2 ^ 16) × (length functions ≡ 32)
IsResponse (SendData answer) = Unit {0}
IsResponse (GetVersion text t) = length text ≡ 12
IsResponse (MemoryGetId home n) = (home < 2 ^ 32) × IsNode n
IsResponse (GetNodeProtocolInfo c s r b g t) = Unit {0}
IsResponse (RequestNodeInfo answer) = Unit {0}
IsResponse (IsFailedNode failed) = Unit {0}
IsResponse (GetRoutingInfo nodes) = AreNodes nodes

-- the body of that function begins with the response
pub record IsResponseBody (func : ℕ) (body : List ℕ) (value : Response) : Type 0 where
  pub row : IsResponse value
  pub function : func ≡ response_function value
  pub tail : List ℕ
  pub text : body ≡ response_body value ++ tail

-- the rows, as they are read
unfoldable pub init_data_at : Place → Reading Response
init_data_at p = read_as (λ x. GetInitData x.0 x.1.0 x.1.1.1.0 x.1.1.1.1.0 x.1.1.1.1.1) (init_data.read p)

unfoldable pub capabilities_at : Place → Reading Response
capabilities_at p = read_as (λ x. GetCapabilities x.0 x.1.0 x.1.1.0 x.1.1.1.0 x.1.1.1.1.0 x.1.1.1.1.1) (capabilities.read p)

unfoldable pub version_at : Place → Reading Response
version_at p = read_as (λ x. GetVersion x.0 x.1) (version.read p)

unfoldable pub memory_id_at : Place → Reading Response
memory_id_at p = read_as (λ x. MemoryGetId x.0 x.1) (memory_id.read p)

unfoldable pub protocol_info_at : Place → Reading Response
protocol_info_at p = read_as (λ x. GetNodeProtocolInfo x.0 x.1.0 x.1.1.0 x.1.1.1.0 x.1.1.1.1.0 x.1.1.1.1.1) (protocol_info.read p)

-- the response of a function at a place
unfoldable pub response_at : ℕ → Place → Reading Response
response_at func p =
    if func == GET_INIT_DATA then init_data_at p else
    if func == GET_CAPABILITIES then capabilities_at p else
    if func == SEND_DATA then read_as (λ answer. SendData answer) (byte.read p) else
    if func == GET_VERSION then version_at p else
    if func == MEMORY_GET_ID then memory_id_at p else
    if func == GET_NODE_PROTOCOL_INFO then protocol_info_at p else
    if func == REQUEST_NODE_INFO then read_as (λ answer. RequestNodeInfo answer) (byte.read p) else
    if func == IS_FAILED_NODE then read_as (λ failed. IsFailedNode failed) ((coded failed_code failed_of).read p) else
    if func == GET_ROUTING_INFO then read_as (λ nodes. GetRoutingInfo nodes) (mask.read p) else
    Err (UnknownFunction func)

-- the response that a body begins with, or the first fault from the left
unfoldable pub response_of : ℕ → List ℕ → Result Response BodyFault
response_of func body = response_at func (start_of body) >>= λ x. Ok x.0
