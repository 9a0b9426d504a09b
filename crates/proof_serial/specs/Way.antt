-- One direction of the serial line as the items that its bytes end (this project's own).
use Rattle.std.specs.Prelude.{ℕ, ◌-◌, ◌==◌, nat_lt, if◌then◌else◌, List, [], ◌∷◌, ◌++◌, length, take, drop, slice_index}
use Rattle.serial_frame.specs.Frame.{FrameParts, checksum}
use Rattle.serial_frame.specs.Items.{unit_text}
use Rattle.serial_frame.specs.Stream.{Rest, Feeds, no_rest}
use Rattle.serial_frame.specs.declared.unit.Unit.{Unit as LineUnit}
use Rattle.serial_frame.specs.declared.unit.Unit.TheVariants.{Ack, Nak, Can, Framed}
use Rattle.serial_frame.specs.declared.item.Item.{Item}
use Rattle.serial_frame.specs.declared.item.Item.TheVariants.{Good, Refused}
use Rattle.serial_frame.specs.declared.item.Refusal.TheVariants.{BadSum}
use Rattle.world_model.specs.serial_pipes.State.{WayState, MarksState, garbled, fits}
use Rattle.world_model.specs.serial_pipes.Events.{after, Writes}
use Rattle.world_model.specs.serial_pipes.declared.marks.Garble.{Garble}

-- ---- what is on its way

-- the bytes on their way, taken to their end by a side that has this unfinished, end exactly these items, and leave nothing unfinished
abbrev pub Carries : Rest → WayState → List Item → Type 0
Carries rest way items = Feeds rest way.bytes no_rest items

-- ---- what a unit becomes that is written

-- the text of a frame asks for this checksum, and has that one
abbrev pub wanted_sum : List ℕ → ℕ
wanted_sum text = checksum (take (length text - 3) (drop 2 text))

abbrev pub found_sum : List ℕ → ℕ
found_sum text = slice_index text (length text - 1)

-- the item of a frame that was changed: refused for its checksum, unless the change is none
abbrev pub changed_item : Garble → FrameParts → Item
changed_item garble f =
    if garble.xor == 0 then Good (Framed f)
    else Refused (BadSum (wanted_sum (garbled garble (unit_text (Framed f)))) (found_sum (garbled garble (unit_text (Framed f)))))

-- a data frame uses up the oldest change
abbrev pub frame_item : List Garble → FrameParts → Item
frame_item [] f = Good (Framed f)
frame_item (garble ∷ garbles) f = changed_item garble f

abbrev pub unit_item : List Garble → LineUnit → Item
unit_item garbles Ack = Good Ack
unit_item garbles Nak = Good Nak
unit_item garbles Can = Good Can
unit_item garbles (Framed f) = frame_item garbles f

-- a unit that is to be lost becomes no item
abbrev pub marked_items : MarksState → LineUnit → List Item
marked_items marks unit = if nat_lt 0 marks.drops then [] else unit_item marks.garbles unit ∷ []

-- nor does one without room
abbrev pub items_of : WayState → LineUnit → List Item
items_of way unit = if fits way.bytes (unit_text unit) then marked_items way.marks unit else []

-- ---- units one after another

abbrev pub written_all : WayState → List LineUnit → WayState
written_all way [] = way
written_all way (unit ∷ units) = written_all (after way (Writes unit)) units

abbrev pub items_all : WayState → List LineUnit → List Item
items_all way [] = []
items_all way (unit ∷ units) = items_of way unit ++ items_all (after way (Writes unit)) units
