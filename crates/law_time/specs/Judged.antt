-- What the host has judged of what the chip wrote (Serial API: each good data frame is acknowledged; that the host's notes
-- stand after the acknowledgement is this project's own rule).
use Rattle.std.specs.Prelude.{ℕ, ◌-◌, ◌==◌, ◌&&◌, ◌||◌, not, bytes_eq, Bool, true, false, if◌then◌else◌, List, [], ◌∷◌, length, take, drop, filter, slice_index}
use Rattle.std.specs.List.{flat_map, list_any}
use Rattle.serial_frame.specs.declared.unit.TheConstants.{SOF, ACK}
use Rattle.chip_functions.specs.declared.notice.Notice.{Notice}
use Rattle.chip_functions.specs.declared.response.Response.{Response}
use Rattle.chip_functions.specs.Response.{response_of}
use Rattle.host_heard.specs.Telling.{heard_at}
use Rattle.host_heard.specs.declared.payload.Heard.{Heard}
use Rattle.host_heard.specs.declared.payload.Heard.TheVariants.{Messages, Sealed, Unread}
use Rattle.host_heard.specs.declared.told.Told.{Told}
use Rattle.zw_words.specs.declared.side.Side.{Side}
use Rattle.zw_words.specs.declared.side.Side.TheVariants.{Host, Chip}
use Rattle.zw_text.specs.declared.entry.Entry.{Entry}
use Rattle.zw_text.specs.declared.entry.Entry.TheVariants.{Said, Accepted, Refused, Begin, Written, Dropped, Garbled, Overrun, Air, Heard as OnAir, Lost, Unheard, Dev, Forget, ChipFull, Cleared, Time}
use Rattle.zw_text.specs.Transcript.{Way, units, written, folded}
use Rattle.zw_text.specs.Transcript.Way.{Whole}
use Rattle.law_wire.specs.law_transcript.Restarts.{since_restart}
use Rattle.law_wire.specs.law_transcript.Units.{Carried, is_frame, function_in, body_in, read_well, notice_in, bringing_in, from_node}

-- whether a unit is a data frame, or the acknowledgement of one
abbrev pub is_data : List ℕ → Bool
is_data unit = slice_index unit 0 == SOF

abbrev pub is_acknowledgement : List ℕ → Bool
is_acknowledgement unit = bytes_eq unit (ACK ∷ [])

-- the data frame that a unit is, where it came whole
abbrev pub frame_whole : List ℕ → Way → List (List ℕ)
frame_whole bytes Whole = if is_data bytes then bytes ∷ [] else []
frame_whole bytes _ = []

-- the data frames of the chip that came whole since the host started
abbrev pub frames_come : List Entry → List (List ℕ)
frames_come past = flat_map (λ unit. frame_whole unit.bytes unit.way) (units Chip (since_restart past))

-- the acknowledgements of a side that came whole
abbrev pub acknowledgement_whole : List ℕ → Way → List (List ℕ)
acknowledgement_whole bytes Whole = if is_acknowledgement bytes then bytes ∷ [] else []
acknowledgement_whole bytes _ = []

abbrev pub acknowledgements_come : Side → List Entry → ℕ
acknowledgements_come side past = length (flat_map (λ unit. acknowledgement_whole unit.bytes unit.way) (units side past))

-- how many of the chip's frames the host has acknowledged
abbrev pub acknowledged : List Entry → ℕ
acknowledged past = length (filter is_acknowledgement (written Host (since_restart past)))

-- those that the host has judged: each good frame is acknowledged, in order
abbrev pub judged : List Entry → List (List ℕ)
judged past = take (acknowledged past) (frames_come past)

-- the last of some items, where there is one
abbrev pub last_of : {A : Type 0} → List A → List A
last_of items = drop (length items - 1) items

-- an entry of a line, or of a tick
abbrev pub is_of_line : Entry → Bool
is_of_line (Said words) = true
is_of_line (Accepted command node) = true
is_of_line (Refused refusal) = true
is_of_line (Time tick) = true
is_of_line _ = false

-- of the air, or of a device
abbrev pub is_of_air : Entry → Bool
is_of_air (Air frame sender receiver repeaters payload) = true
is_of_air (OnAir frame) = true
is_of_air (Lost frame) = true
is_of_air (Unheard frame) = true
is_of_air (Dev node by setting) = true
is_of_air _ = false

-- of the chip, or of both pipes
abbrev pub is_of_chip : Entry → Bool
is_of_chip (Written Chip unit) = true
is_of_chip (Forget first second) = true
is_of_chip ChipFull = true
is_of_chip (Cleared side count) = true
is_of_chip _ = false

-- what is no note of the host on what it judged: these, and a session that begins
abbrev pub is_no_note : Entry → Bool
is_no_note (Begin node session command) = true
is_no_note entry = is_of_line entry || is_of_air entry || is_of_chip entry

-- whether what stands next is after an acknowledgement of the host: its notes, and what became of the acknowledgement, are
abbrev pub after_step : Bool → Entry → Bool
after_step following (Written Host unit) = is_acknowledgement unit
after_step following entry = following && not (is_no_note entry)

abbrev pub is_following : List Entry → Bool
is_following past = folded after_step false past

-- the frame that was judged here: that of the acknowledgement after which the next entry stands
abbrev pub judged_here : List Entry → List (List ℕ)
judged_here past = if is_following past then last_of (judged past) else []

-- whether nothing stands between that acknowledgement and the next entry but what became of it
abbrev pub directly_step : Bool → Entry → Bool
directly_step directly (Written Host unit) = is_acknowledgement unit
directly_step directly (Dropped Host) = directly
directly_step directly (Overrun Host) = directly
directly_step directly (Garbled Host unit) = directly
directly_step directly _ = false

abbrev pub is_directly_after : List Entry → Bool
is_directly_after past = folded directly_step false past

-- whether an entry says what became of the host's unit just before
abbrev pub is_mark : Entry → Bool
is_mark (Dropped Host) = true
is_mark (Overrun Host) = true
is_mark (Garbled Host unit) = true
is_mark _ = false

-- ---- what a frame says

-- the response that a unit of the chip is, where it is one
abbrev pub response_in : List ℕ → List Response
response_in unit = if is_frame unit 1 then read_well (response_of (function_in unit) (body_in unit)) else []

-- the notices, responses and payloads that were judged here, and the payloads of a node
abbrev pub notices_here : List Entry → List Notice
notices_here past = flat_map notice_in (judged_here past)

abbrev pub responses_here : List Entry → List Response
responses_here past = flat_map response_in (judged_here past)

abbrev pub brought_here : List Entry → List Carried
brought_here past = flat_map bringing_in (judged_here past)

abbrev pub payloads_here : ℕ → List Entry → List (List ℕ)
payloads_here node past = flat_map (from_node node) (brought_here past)

-- whether a payload may tell such a thing: what is sealed may tell anything
abbrev pub may_tell : (Told → Bool) → Heard → Bool
may_tell such (Messages messages) = list_any such messages
may_tell such Sealed = true
may_tell such Unread = false

-- whether one of the payloads of a node that were judged here may
abbrev pub may_be_told : (Told → Bool) → ℕ → List Entry → Bool
may_be_told such node past = list_any (λ payload. may_tell such (heard_at payload)) (payloads_here node past)
