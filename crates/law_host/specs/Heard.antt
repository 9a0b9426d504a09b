-- What a host heard of a run, and what it knew of the nodes (Serial API; this project's own rule): what is of the air, of devices and of the chip
-- is left out, but for the units of the chip that came, as they came. The words of all lines stay, since they tell the time.
use Rattle.std.specs.Prelude.{ℕ, ◌||◌, Bool, true, false, if◌then◌else◌, List, [], ◌∷◌, ◌++◌}
use Rattle.std.specs.List.{flat_map}
use Rattle.chip_functions.specs.declared.notice.Notice.{Notice}
use Rattle.chip_functions.specs.declared.notice.Notice.TheVariants.{ApplicationUpdate}
use Rattle.chip_functions.specs.declared.notice.Update.TheVariants.{Received}
use Rattle.zw_words.specs.declared.side.Side.TheVariants.{Chip}
use Rattle.zw_text.specs.declared.line.Line.{Line}
use Rattle.zw_text.specs.declared.line.Line.TheVariants as lines
use Rattle.zw_text.specs.declared.entry.Entry.{Entry}
use Rattle.zw_text.specs.declared.entry.Entry.TheVariants.{Refused, Written, Dropped, Garbled, Overrun, Device, Interviewed}
use Rattle.zw_text.specs.Transcript.{line_of, where_same}
use Rattle.law_time.specs.law_transcript.Lists.{last_or, shown_after}
use Rattle.host_heard.specs.declared.told.Told.{Told}
use Rattle.law_time.specs.law_transcript.Units.{Carried}
use Rattle.law_time.specs.Heeds.{Heeds}
use Rattle.law_time.specs.Judged.{is_of_air, is_of_chip, notices_here}

-- ---- what it heard

-- whether a line is for the air, the devices, or the serial bytes on their way
abbrev pub is_of_others : List Line → Bool
is_of_others (lines.Repeat frame ∷ more) = true
is_of_others (lines.Wake node ∷ more) = true
is_of_others (lines.Local node value ∷ more) = true
is_of_others (lines.Show node ∷ more) = true
is_of_others _ = false

-- what becomes of a unit of the chip, and what is shown of a device
abbrev pub is_of_outside : Entry → Bool
is_of_outside (Dropped Chip) = true
is_of_outside (Garbled Chip unit) = true
is_of_outside (Overrun Chip) = true
is_of_outside (Device node setting) = true
is_of_outside entry = is_of_air entry || is_of_chip entry

-- a unit of the chip as it came, by what stands after it; of one that was changed, that it did not come as a frame
abbrev pub come_as : List ℕ → List Entry → List Entry
come_as unit (Dropped Chip ∷ rest) = []
come_as unit (Overrun Chip ∷ rest) = []
come_as unit (Garbled Chip changed ∷ Overrun Chip ∷ rest) = []
come_as unit (Garbled Chip changed ∷ rest) = Written Chip changed ∷ Garbled Chip changed ∷ []
come_as unit rest = Written Chip unit ∷ []

-- an entry as the host heard it
abbrev pub heard_as : Entry → List Entry → List Entry
heard_as (Written Chip unit) rest = come_as unit rest
heard_as entry rest = if is_of_outside entry then [] else entry ∷ []

-- a refusal of such a line
abbrev pub is_refusal_of_others : List Line → Entry → Bool
is_refusal_of_others before (Refused refusal) = is_of_others before
is_refusal_of_others before entry = false

abbrev pub heard_from : List Line → List Entry → List Entry
heard_from before [] = []
heard_from before (entry ∷ rest) = (if is_refusal_of_others before entry then [] else heard_as entry rest) ++ heard_from (line_of entry) rest

-- what the host heard of a transcript
abbrev pub heard_by_host : List Entry → List Entry
heard_by_host transcript = heard_from [] transcript

-- ---- what it knew

-- the classes that a notice lists of a node
abbrev pub classes_in : ℕ → Notice → List (List ℕ)
classes_in node (ApplicationUpdate (Received from basic generic specific classes)) = where_same from node classes
classes_in node notice = []

-- those of the interviews of a node that succeeded
abbrev pub classes_at : ℕ → List Entry → Entry → List (List ℕ)
classes_at node past (Interviewed interviewed) = where_same interviewed node (last_or [] (flat_map (classes_in node) (notices_here past)))
classes_at node past entry = []

-- what each node listed in its last interview
abbrev pub listing_heard : List Entry → ℕ → List ℕ
listing_heard heard node = last_or [] (shown_after (classes_at node) [] heard)

-- a host alone goes by that, by these messages of each payload, up to its acknowledgement, and from so many nonces on
abbrev pub heeds_from : (ℕ → ℕ) → (List Entry → Carried → List Told) → Heeds
heeds_from counted taken = record { listing = listing_heard; taken = λ past rest carried. taken past carried; counted = counted }

abbrev pub heeds_alone : (List Entry → Carried → List Told) → Heeds
heeds_alone taken = heeds_from (λ node. 0) taken
