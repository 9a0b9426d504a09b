-- What the chip answers to a request at once (Serial API: Host Application Programming Guide; the contents are this project's own).
use Rattle.std.specs.Prelude.{ℕ, Bool, true, false, ◌&&◌, ◌||◌, nat_eq, nat_le, Option, Some, None, IsNone, List, [], ◌∷◌, length, map, if◌then◌else◌, is_none}
use Rattle.serial_frame.specs.Frame.{FrameParts}
use Rattle.serial_frame.specs.declared.frame.Kind.TheVariants.{Response as of_response, Request as of_request}
use Rattle.route_table.specs.Network.{Network, linked}
use Rattle.chip_functions.specs.Response.{response_function, response_body}
use Rattle.chip_functions.specs.Notice.{notice_function, notice_body}
use Rattle.chip_functions.specs.declared.notice.Notice.{Notice}
use Rattle.chip_functions.specs.declared.response.Response.{Response}
use Rattle.chip_functions.specs.declared.response.Response.TheVariants.{GetInitData as InitData, GetCapabilities as Capabilities, GetVersion as Version, MemoryGetId as MemoryId, GetNodeProtocolInfo as ProtocolInfo, GetRoutingInfo as RoutingInfo}
use Rattle.chip_sim.specs.Nodes.{is_marked, nodes_where}
use Rattle.chip_sim.specs.State.{ChipState}
use Rattle.chip_sim.specs.declared.out.Sending.{Sending}
use Rattle.chip_sim.specs.declared.answers.TheConstants.{FUNCTIONS, VERSION_TEXT}

-- a response, and a notice, as frames
abbrev pub response_frame : Response → FrameParts
response_frame r = record { kind = of_response; func = response_function r; body = response_body r }

abbrev pub notice_frame : Notice → FrameParts
notice_frame n = record { kind = of_request; func = notice_function n; body = notice_body n }

-- no SendData is under way
abbrev pub is_idle : Option Sending → Bool
is_idle None = true
is_idle (Some sending) = false

-- a SendData is taken where the chip is idle, the node joined, and the payload of 1 to 46 bytes
abbrev pub takes : ChipState → ℕ → List ℕ → Bool
takes s n payload = is_idle s.sending && (is_marked s.joined n && (nat_le 1 (length payload) && nat_le (length payload) 46))

-- node 1, and a joined node that listens, have bit 7 set
abbrev pub capability_of : ChipState → ℕ → ℕ
capability_of s n = if nat_eq n 1 || (is_marked s.joined n && is_marked s.listening n) then 128 else 0

-- the joined nodes, and node 1
abbrev pub init_data : ChipState → Response
init_data s = InitData 5 0 (nodes_where (λ n. nat_eq n 1 || is_marked s.joined n)) 7 0

abbrev pub capabilities : Response
capabilities = Capabilities 1 0 0 0 0 FUNCTIONS

abbrev pub version : Response
version = Version VERSION_TEXT 1

abbrev pub memory_id : Response
memory_id = MemoryId 1 1

abbrev pub protocol_info : ChipState → ℕ → Response
protocol_info s n = ProtocolInfo (capability_of s n) 0 0 4 0 0

-- the neighbours of a node in the chip's table
abbrev pub routing_info : ChipState → ℕ → Response
routing_info s n = RoutingInfo (nodes_where (λ m. linked s.table n m))
