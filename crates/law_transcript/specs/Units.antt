-- What the units of a transcript say (Serial API: data frames with their type, function and body; what arrives of a unit is
-- this project's own rule).
use Rattle.std.specs.Prelude.{ℕ, ◌-◌, ◌==◌, ◌&&◌, Bool, if◌then◌else◌, List, [], ◌∷◌, take, drop, slice_index, Result, Ok, Err}
use Rattle.std.specs.List.{flat_map}
use Rattle.serial_frame.specs.declared.unit.TheConstants.{SOF}
use Rattle.chip_functions.specs.declared.fault.BodyFault.{BodyFault}
use Rattle.chip_functions.specs.declared.notice.Notice.{Notice}
use Rattle.chip_functions.specs.declared.notice.Notice.TheVariants.{ApplicationCommandHandler}
use Rattle.chip_functions.specs.declared.request.Request.{Request}
use Rattle.chip_functions.specs.declared.request.Request.TheVariants.{SendData}
use Rattle.chip_functions.specs.Notice.{notice_of}
use Rattle.chip_functions.specs.Request.{request_of}
use Rattle.zw_words.specs.declared.side.Side.{Side}
use Rattle.zw_words.specs.declared.side.Side.TheVariants.{Chip}
use Rattle.zw_text.specs.declared.entry.Entry.{Entry}
use Rattle.zw_text.specs.Transcript.{Way, units}
use Rattle.zw_text.specs.Transcript.Way.{Whole, Missed, Changed}

-- ---- units as frames

-- whether the unit is a data frame of this type: 0 a request, 1 a response
abbrev pub is_frame : List ℕ → ℕ → Bool
is_frame unit type = (slice_index unit 0 == SOF) && (slice_index unit 2 == type)

-- its function and its body
abbrev pub function_in : List ℕ → ℕ
function_in unit = slice_index unit 3

abbrev pub body_in : List ℕ → List ℕ
body_in unit = take (slice_index unit 1 - 3) (drop 4 unit)

-- what was read, where it was
abbrev pub read_well : {A : Type 0} → Result A BodyFault → List A
read_well (Ok value) = value ∷ []
read_well (Err fault) = []

-- the request that a unit of the host is, where it is one
abbrev pub request_in : List ℕ → List Request
request_in unit = if is_frame unit 0 then read_well (request_of (function_in unit) (body_in unit)) else []

-- the notice that a unit of the chip is, where it is one
abbrev pub notice_in : List ℕ → List Notice
notice_in unit = if is_frame unit 0 then read_well (notice_of (function_in unit) (body_in unit)) else []

-- ---- what they carry

-- a payload, and the node that it is to or from
pub record Carried : Type 0 where
  pub node : ℕ
  pub payload : List ℕ

-- what a request asks to be sent
abbrev pub sending_of : Request → List Carried
sending_of (SendData node payload options id) = record { node = node; payload = payload } ∷ []
sending_of _ = []

-- what a notice brings from a node
abbrev pub bringing_of : Notice → List Carried
bringing_of (ApplicationCommandHandler status source payload) = record { node = source; payload = payload } ∷ []
bringing_of _ = []

abbrev pub sending_in : List ℕ → List Carried
sending_in unit = flat_map sending_of (request_in unit)

abbrev pub bringing_in : List ℕ → List Carried
bringing_in unit = flat_map bringing_of (notice_in unit)

-- ---- what arrives

-- the bytes that arrive of a unit
abbrev pub arrived_of : List ℕ → Way → List (List ℕ)
arrived_of bytes Whole = bytes ∷ []
arrived_of bytes Missed = []
arrived_of bytes (Changed other) = other ∷ []

-- the units of a side that arrive, in order
abbrev pub arrived : Side → List Entry → List (List ℕ)
arrived side transcript = flat_map (λ unit. arrived_of unit.bytes unit.way) (units side transcript)

-- what the chip brought the host, by the units that arrive; some of it the host may not have judged yet
abbrev pub bringings : List Entry → List Carried
bringings transcript = flat_map bringing_in (arrived Chip transcript)

-- the payload, where it is to or from that node
abbrev pub from_node : ℕ → Carried → List (List ℕ)
from_node node carried = if carried.node == node then carried.payload ∷ [] else []

-- the payloads that came from a node
abbrev pub payloads_from : ℕ → List Entry → List (List ℕ)
payloads_from node transcript = flat_map (from_node node) (bringings transcript)
