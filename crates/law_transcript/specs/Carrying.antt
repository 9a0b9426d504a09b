-- What of the serial line goes on the air, and what of the air goes on the serial line (Serial API: SendData and
-- ApplicationCommandHandler; that each goes in order is this project's own rule).
use Rattle.std.specs.Prelude.{◌≡◌, ◌⊎◌, ℕ, ◌-◌, ◌==◌, ◌&&◌, nat_le, bytes_eq, Bool, if◌then◌else◌, List, [], ◌∷◌, ◌++◌, length, take, drop, Option, Some, None, ⊤}
use Rattle.std.specs.List.{flat_map}
use Rattle.serial_frame.specs.Items.{unit_text}
use Rattle.serial_frame.specs.declared.unit.Unit.TheVariants.{Framed}
use Rattle.serial_frame.specs.declared.frame.Kind.TheVariants as kinds
use Rattle.chip_functions.specs.Request.{request_of}
use Rattle.zw_words.specs.declared.side.Side.TheVariants.{Host, Chip}
use Rattle.zw_text.specs.declared.entry.Entry.{Entry}
use Rattle.zw_text.specs.declared.entry.Entry.TheVariants.{Air, Written}
use Rattle.zw_text.specs.Transcript.{AirFrame, Unit_on, frames, heard, units}
use Rattle.law_transcript.specs.Lists.{EachAfter}
use Rattle.law_transcript.specs.Nodes.{controller}
use Rattle.law_transcript.specs.Repeats.{frame_of}
use Rattle.law_transcript.specs.Units.{Carried, arrived_of, bringing_in, function_in, read_well, sending_of}

-- ---- what the host asks to be sent

-- the body of a frame that is all of these bytes: those between SOF, length, type and function, and the checksum
abbrev pub body_of : List ℕ → List ℕ
body_of unit = take (length unit - 5) (drop 4 unit)

-- the text of the request frame with that function and body
abbrev pub frame_text : List ℕ → List ℕ
frame_text unit = unit_text (Framed (record { kind = kinds.Request; func = function_in unit; body = body_of unit }))

-- whether the bytes are those of a request frame, all of them
abbrev pub is_request : List ℕ → Bool
is_request unit = nat_le 5 (length unit) && (nat_le (length unit) 257 && bytes_eq (frame_text unit) unit)

-- what the bytes of a unit ask to be sent
abbrev pub asked_by : List ℕ → List Carried
asked_by unit = if is_request unit then flat_map sending_of (read_well (request_of (function_in unit) (body_of unit))) else []

-- what units ask to be sent, by what arrives of them
abbrev pub asked_in : List Unit_on → List Carried
asked_in units = flat_map (λ unit. flat_map asked_by (arrived_of unit.bytes unit.way)) units

-- what the host has asked to be sent
abbrev pub asked : List Entry → List Carried
asked past = asked_in (units Host past)

-- ---- what goes on the air, and what comes from it

-- the first items are some of the second, in order
abbrev pub ArePicked : {A : Type 0} → List A → List A → Type 0
ArePicked [] items = ⊤
ArePicked (one ∷ more) [] = ⊥
ArePicked (one ∷ more) (item ∷ items) = ((one ≡ item) × ArePicked more items) ⊎ ArePicked (one ∷ more) items

-- the frames of the controller, with their nodes
abbrev pub outward : AirFrame → List Carried
outward frame = if frame.sender == controller then record { node = frame.receiver; payload = frame.payload } ∷ [] else []

abbrev pub sent_out : List Entry → List Carried
sent_out transcript = flat_map outward (frames transcript)

-- the frames that the controller heard, with their nodes
abbrev pub homeward : Option AirFrame → List Carried
homeward None = []
homeward (Some frame) = if frame.receiver == controller then record { node = frame.sender; payload = frame.payload } ∷ [] else []

abbrev pub heard_home : List Entry → List Carried
heard_home transcript = flat_map (λ number. homeward (frame_of transcript number)) (heard transcript)

-- a frame of the controller carries what a unit that came before, as a whole request frame, asked to be sent, one each and in order
abbrev pub MaySend : List Entry → Entry → Type 0
MaySend past (Air frame sender receiver repeaters payload) =
    ArePicked (sent_out (past ++ Air frame sender receiver repeaters payload ∷ [])) (asked past)
MaySend past _ = ⊤

abbrev pub CarriesUnits : List Entry → Type 0
CarriesUnits transcript = EachAfter MaySend [] transcript

-- what a unit brings was heard on the air before it
abbrev pub WereHeard : List Carried → List Carried → Type 0
WereHeard heard [] = ⊤
WereHeard heard (carried ∷ more) = ArePicked (carried ∷ []) heard × WereHeard heard more

abbrev pub MayBring : List Entry → Entry → Type 0
MayBring past (Written Chip unit) = WereHeard (heard_home past) (bringing_in unit)
MayBring past _ = ⊤

abbrev pub BringsWhatWasHeard : List Entry → Type 0
BringsWhatWasHeard transcript = EachAfter MayBring [] transcript
