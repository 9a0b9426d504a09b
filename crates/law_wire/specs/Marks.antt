-- What becomes of units on the serial line by marks that lines set (this project's own rule): a waiting `drop` loses the next unit of its
-- side, else the oldest `garble` changes its next data frame; and `collide` has the chip answer a good frame CAN.
use Rattle.std.specs.Prelude.{◌≡◌, ◌<◌, ℕ, ◌+◌, ◌-◌, ◌==◌, nat_lt, min, bit_xor, Bool, true, false, if◌then◌else◌, List, [], ◌∷◌, ◌++◌, map, filter, take, drop, length, slice_index, slice_set, ⊤}
use Rattle.std.specs.List.{flat_map}
use Rattle.serial_frame.specs.declared.unit.TheConstants.{CAN}
use Rattle.zw_words.specs.declared.side.Side.{Side}
use Rattle.zw_words.specs.declared.side.Side.TheVariants.{Chip}
use Rattle.zw_text.specs.declared.line.Line.{Line}
use Rattle.zw_text.specs.declared.line.Line.TheVariants as lines
use Rattle.zw_text.specs.declared.entry.Entry.{Entry}
use Rattle.zw_text.specs.declared.entry.Entry.TheVariants.{Said, Written, Dropped, Garbled}
use Rattle.zw_text.specs.Transcript.{folded, line_of, lines_run, same_side, written}
use Rattle.law_transcript.specs.Lists.{EachAfter}
use Rattle.law_wire.specs.Asked.{is_ack}

-- ---- drops and changes

-- a change of a byte: its place from a frame's type on, and what it is combined with
pub record Changing : Type 0 where
  pub place : ℕ
  pub xor : ℕ

-- the marks of a side that wait: how many drops, and the changes, oldest first
pub record Marks : Type 0 where
  pub drops : ℕ
  pub changes : List Changing

-- the marks after a line
abbrev pub marks_by : Side → Marks → List Line → Marks
marks_by side marks (lines.Drop on ∷ more) = if same_side side on then record marks { drops = marks.drops + 1 } else marks
marks_by side marks (lines.Garble on place xor ∷ more) =
    if same_side side on then record marks { changes = marks.changes ++ record { place = place; xor = xor } ∷ [] } else marks
marks_by side marks _ = marks

-- and after an entry, which may use one up
abbrev pub marks_step : Side → Marks → Entry → Marks
marks_step side marks (Said words) = marks_by side marks (line_of (Said words))
marks_step side marks (Dropped on) = if same_side side on then record marks { drops = marks.drops - 1 } else marks
marks_step side marks (Garbled on unit) = if same_side side on then record marks { changes = drop 1 marks.changes } else marks
marks_step side marks _ = marks

abbrev pub marks_of : Side → List Entry → Marks
marks_of side past = folded (marks_step side) (record { drops = 0; changes = [] }) past

-- a unit with the byte at a place combined, and a frame that is changed: its checksum where the place lies beyond it
abbrev pub combined_at : ℕ → ℕ → List ℕ → List ℕ
combined_at place xor unit = slice_set unit place (bit_xor (slice_index unit place) xor)

abbrev pub changed_by : Changing → List ℕ → List ℕ
changed_by change unit = combined_at (min (change.place + 2) (length unit - 1)) change.xor unit

-- what becomes of a unit with these marks, as an entry
abbrev pub becomes : Side → Marks → List ℕ → List Entry
becomes side marks unit =
    if nat_lt 0 marks.drops then Dropped side ∷ []
    else if length unit == 1 then [] else map (λ change. Garbled side (changed_by change unit)) (take 1 marks.changes)

-- what is to stand next, by the last entry
abbrev pub becomes_by : List Entry → Entry → List Entry
becomes_by past (Written side unit) = becomes side (marks_of side past) unit
becomes_by past _ = []

abbrev pub to_stand : List Entry → List Entry
to_stand past = flat_map (becomes_by past) (drop (length past - 1) past)

-- a unit that is lost or changed by a mark is told so directly after it, and no other is
abbrev pub IsMarked : List Entry → Entry → Type 0
IsMarked [] (Dropped side) = ⊥
IsMarked [] (Garbled side unit) = ⊥
IsMarked [] entry = ⊤
IsMarked (due ∷ more) entry = entry ≡ due

abbrev pub MarksUnits : List Entry → Type 0
MarksUnits transcript = EachAfter (λ past entry. IsMarked (to_stand past) entry) [] transcript

-- ---- collisions

-- how many collisions lines have asked for
abbrev pub collision_of : Line → List Line
collision_of lines.Collide = lines.Collide ∷ []
collision_of _ = []

abbrev pub collisions : List Entry → ℕ
collisions past = length (flat_map collision_of (lines_run past))

-- whether a unit is a CAN, and how many the chip wrote
abbrev pub is_can : List ℕ → Bool
is_can unit = slice_index unit 0 == CAN

abbrev pub cans : List Entry → ℕ
cans past = length (filter is_can (written Chip past))

-- the chip answers ACK where no collision is outstanding, and CAN where one is
abbrev pub AnswersBy : Bool → Bool → List Entry → Type 0
AnswersBy true can past = cans past ≡ collisions past
AnswersBy false true past = cans past < collisions past
AnswersBy false false past = ⊤

abbrev pub MayCollide : List Entry → Entry → Type 0
MayCollide past (Written Chip unit) = AnswersBy (is_ack unit) (is_can unit) past
MayCollide past _ = ⊤

abbrev pub CollidesWhenAsked : List Entry → Type 0
CollidesWhenAsked transcript = EachAfter MayCollide [] transcript
