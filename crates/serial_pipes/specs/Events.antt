-- What happens to one direction of the serial line, and what is told of it (this project's own rule, docs/MACHINE.md).
use Rattle.std.specs.Prelude.{ℕ, ◌+◌, List, [], ◌∷◌, ◌++◌, drop}
use Rattle.serial_frame.specs.declared.unit.Unit.{Unit as LineUnit}
use Rattle.serial_frame.specs.Items.{unit_text}
use Rattle.zw_words.specs.declared.side.Side.{Side}
use Rattle.zw_text.specs.declared.entry.Entry.{Entry}
use Rattle.zw_text.specs.declared.entry.Entry.TheVariants.{Written, Dropped, Garbled}
use Rattle.serial_pipes.specs.declared.marks.Garble.{Garble}
use Rattle.serial_pipes.specs.declared.marks.Mark.{Mark}
use Rattle.serial_pipes.specs.declared.marks.Mark.TheVariants.{Free, Lost, Changed}
use Rattle.serial_pipes.specs.State.{WayState, mark_for, used_up, garbled, joined, overrun}

-- a unit is written; so many bytes arrive; all bytes are lost; one more unit is to be lost; one more data frame is to be
-- changed
pub data WayEvent : Type 0 where
  Writes : (unit : LineUnit) → WayEvent
  Takes : (count : ℕ) → WayEvent
  Clears : WayEvent
  Loses : WayEvent
  Changes : (garble : Garble) → WayEvent

-- a text that was written goes on by its mark, and uses it up
abbrev pub passing : WayState → Mark → List ℕ → WayState
passing way Free text = record way { bytes = joined way.bytes text }
passing way Lost text = record way { marks = used_up way.marks Lost }
passing way (Changed garble) text = record { bytes = joined way.bytes (garbled garble text); marks = used_up way.marks (Changed garble) }

-- the direction after an event
abbrev pub after : WayState → WayEvent → WayState
after way (Writes unit) = passing way (mark_for way.marks unit) (unit_text unit)
after way (Takes count) = record way { bytes = drop count way.bytes }
after way Clears = record way { bytes = [] }
after way Loses = record way { marks = record way.marks { drops = way.marks.drops + 1 } }
after way (Changes garble) = record way { marks = record way.marks { garbles = way.marks.garbles ++ garble ∷ [] } }

-- what is told of a text by its mark
abbrev pub told_by : Side → List ℕ → Mark → List ℕ → List Entry
told_by side bytes Free text = overrun side bytes text
told_by side bytes Lost text = Dropped side ∷ []
told_by side bytes (Changed garble) text = Garbled side (garbled garble text) ∷ overrun side bytes (garbled garble text)

-- what is told of a unit that a side writes: the unit, and then what became of it
abbrev pub told : Side → WayState → LineUnit → List Entry
told side way unit = Written side (unit_text unit) ∷ told_by side way.bytes (mark_for way.marks unit) (unit_text unit)
