-- What is asked of the chip (Serial API: Host Application Programming Guide; Security 0 Command Class: Nonce Report;
-- Wake Up Command Class: No More Information).
use Rattle.std.specs.Prelude.{ℕ, ◌≤◌, List, [], ◌∷◌, length}
use Rattle.serial_frame.specs.Frame.{FrameParts}
use Rattle.serial_frame.specs.declared.frame.Kind.TheVariants.{Request as of_request}
use Rattle.chip_functions.specs.declared.request.Request.{Request}
use Rattle.chip_functions.specs.declared.request.Request.TheVariants.{GetInitData, GetCapabilities, SendData, GetVersion, SendDataAbort, MemoryGetId, GetNodeProtocolInfo, RequestNodeInfo, IsFailedNode, GetRoutingInfo}
use Rattle.chip_functions.specs.declared.request.TheConstants.{TRANSMIT_OPTIONS}
use Rattle.chip_functions.specs.Request.{request_function, request_body}
use Rattle.host_requests.specs.declared.task.Task.{Task}
use Rattle.host_requests.specs.declared.task.Task.TheVariants.{Plain, Offer, Segment, NoMore, First, Second, Members, Neighbours, IsFailed, Version, MemoryId, Capabilities}
use Rattle.host_requests.specs.declared.task.Purpose.{Purpose}
use Rattle.host_requests.specs.declared.task.Purpose.TheVariants.{Housekeeping, Attempt, Abort}

-- a Nonce Report: bytes 98 and 80 (hexadecimal), then the nonce
abbrev pub nonce_report : List ℕ → List ℕ
nonce_report nonce = 152 ∷ 128 ∷ nonce

-- a No More Information: bytes 84 and 08 (hexadecimal)
abbrev pub no_more_information : List ℕ
no_more_information = 132 ∷ 8 ∷ []

-- a SendData of a payload, with the host's options
abbrev pub send : ℕ → List ℕ → ℕ → Request
send node payload id = SendData node payload TRANSMIT_OPTIONS id

-- the request of a task; a GetRoutingInfo has three zero bytes
abbrev pub task_request : Task → ℕ → Request
task_request (Plain n payload) id = send n payload id
task_request (Offer n nonce) id = send n (nonce_report nonce) id
task_request (Segment n payload) id = send n payload id
task_request (NoMore n) id = send n no_more_information id
task_request (First n) id = GetNodeProtocolInfo n
task_request (Second n) id = RequestNodeInfo n
task_request Members id = GetInitData
task_request (Neighbours n) id = GetRoutingInfo n 0 0 0
task_request (IsFailed n) id = IsFailedNode n
task_request Version id = GetVersion
task_request MemoryId id = MemoryGetId
task_request Capabilities id = GetCapabilities

-- the request of a purpose, with this callback id where it has one
abbrev pub request_of : Purpose → ℕ → Request
request_of (Housekeeping task) id = task_request task id
request_of (Attempt n more payload) id = send n payload id
request_of Abort id = SendDataAbort

-- the function of that request, whatever its callback id
abbrev pub function_of : Purpose → ℕ
function_of purpose = request_function (request_of purpose 0)

-- the frame of a request
abbrev pub request_frame : Request → FrameParts
request_frame request = record { kind = of_request; func = request_function request; body = request_body request }

-- the frame of a purpose's request
abbrev pub frame_of : Purpose → ℕ → FrameParts
frame_of purpose id = request_frame (request_of purpose id)

-- a task whose payload, where it brings one, is not empty
abbrev pub HasPayload : Task → Type 0
HasPayload (Plain n payload) = 1 ≤ length payload
HasPayload (Segment n payload) = 1 ≤ length payload
HasPayload task = Unit {0}

-- such a task, and not one of the two of an interview
abbrev pub StandsAlone : Task → Type 0
StandsAlone (First n) = ⊥
StandsAlone (Second n) = ⊥
StandsAlone task = HasPayload task
