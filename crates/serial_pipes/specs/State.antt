-- One direction of the serial line between host and chip (this project's own rule, docs/MACHINE.md).
use Rattle.std.specs.Prelude.{ℕ, ◌+◌, ◌-◌, Bool, nat_le, nat_lt, min, if◌then◌else◌, List, [], ◌∷◌, ◌++◌, length, drop, slice_set, slice_index, bit_xor}
use Rattle.serial_frame.specs.declared.unit.Unit.{Unit as LineUnit}
use Rattle.serial_frame.specs.declared.unit.Unit.TheVariants.{Ack, Nak, Can, Framed}
use Rattle.zw_words.specs.declared.side.Side.{Side}
use Rattle.zw_text.specs.declared.entry.Entry.{Entry}
use Rattle.zw_text.specs.declared.entry.Entry.TheVariants.{Overrun}
use Rattle.serial_pipes.specs.declared.pipe.TheConstants.{CAPACITY}
use Rattle.serial_pipes.specs.declared.marks.Garble.{Garble}
use Rattle.serial_pipes.specs.declared.marks.Mark.{Mark}
use Rattle.serial_pipes.specs.declared.marks.Mark.TheVariants.{Free, Lost, Changed}

-- how many of the next units are to be lost, and how the next data frames are to be changed, the oldest first
pub record MarksState : Type 0 where
  pub drops : ℕ
  pub garbles : List Garble

-- the bytes on their way, first to arrive first, and the marks
pub record WayState : Type 0 where
  pub bytes : List ℕ
  pub marks : MarksState

-- nothing is on its way or marked
abbrev pub empty_way : WayState
empty_way = record { bytes = []; marks = record { drops = 0; garbles = [] } }

-- the oldest change
abbrev pub oldest : List Garble → Mark
oldest [] = Free
oldest (garble ∷ garbles) = Changed garble

-- a unit that is not lost uses up the oldest change where it is a data frame
abbrev pub change_for : List Garble → LineUnit → Mark
change_for garbles Ack = Free
change_for garbles Nak = Free
change_for garbles Can = Free
change_for garbles (Framed frame) = oldest garbles

-- the mark that a unit uses up: a loss, else a change
abbrev pub mark_for : MarksState → LineUnit → Mark
mark_for marks unit = if nat_lt 0 marks.drops then Lost else change_for marks.garbles unit

-- the marks without it
abbrev pub used_up : MarksState → Mark → MarksState
used_up marks Free = marks
used_up marks Lost = record marks { drops = marks.drops - 1 }
used_up marks (Changed garble) = record marks { garbles = drop 1 marks.garbles }

-- the place of the byte that is changed: counted from the Type on, and that of the Checksum where it lies after it
abbrev pub garbled_place : Garble → List ℕ → ℕ
garbled_place garble text = min (2 + garble.place) (length text - 1)

-- a text with that byte changed by exclusive or
abbrev pub garbled : Garble → List ℕ → List ℕ
garbled garble text = slice_set text (garbled_place garble text) (bit_xor (slice_index text (garbled_place garble text)) garble.xor)

-- a text has room
abbrev pub fits : List ℕ → List ℕ → Bool
fits bytes text = nat_le (length bytes + length text) CAPACITY

-- it goes on its way whole where it has room, and else is lost
abbrev pub joined : List ℕ → List ℕ → List ℕ
joined bytes text = if fits bytes text then bytes ++ text else bytes

-- what is told of a text without room
abbrev pub overrun : Side → List ℕ → List ℕ → List Entry
overrun side bytes text = if fits bytes text then [] else Overrun side ∷ []
