-- What an event of one direction makes of the items on their way.
use Rattle.std.proofs.Common.{◌≡◌, ℕ, Bool, true, false, List, [], ◌∷◌, ◌++◌, length, refl, ap, sym, subst, append_assoc}
use Rattle.std.specs.Prelude.{nat_lt, nat_le, if◌then◌else◌, take, drop, ◌+◌}
use Rattle.std.specs.List.{AllByRecursion}
use Rattle.std.proofs.lemmas.List.{append-nil}
use Rattle.serial_frame.specs.Items.{unit_text, IsUnit, ItemText}
use Rattle.serial_frame.specs.Stream.{Rest, Feeds, no_rest}
use Rattle.serial_frame.specs.declared.unit.Unit.{Unit as LineUnit}
use Rattle.serial_frame.specs.declared.unit.Unit.TheVariants.{Ack, Nak, Can, Framed}
use Rattle.serial_frame.specs.declared.item.Item.{Item}
use Rattle.serial_frame.specs.declared.item.Item.TheVariants.{Good}
use Rattle.world_model.specs.serial_pipes.State.{WayState, garbled, joined, fits, change_for}
use Rattle.world_model.specs.serial_pipes.Events.{after, passing, Writes, Clears}
use Rattle.world_model.specs.serial_pipes.declared.pipe.TheConstants.{CAPACITY}
use Rattle.world_model.specs.serial_pipes.declared.marks.Garble.{Garble}
use Rattle.world_model.specs.serial_pipes.declared.marks.Mark.TheVariants.{Lost}
use Rattle.proof_serial.specs.Way.{Carries, items_of, unit_item, changed_item, written_all, items_all}
use Rattle.proof_serial.proofs.EndedItems.{feeds_more, feeds_left, LeftOf}
use Rattle.proof_serial.proofs.ChangedUnits.{changed_text, garbled_long}

-- ---- one unit

-- a text that goes on its way, or finds no room
text_joins : (rest : Rest) (way : WayState) (text : List ℕ) (items : List Item) (item : Item) → Carries rest way items → ItemText item text
    → Feeds rest (joined way.bytes text) no_rest (items ++ (if fits way.bytes text then item ∷ [] else []))
text_joins rest way text items item carries is = by (fits way.bytes text)
  where
    by : (b : Bool) → Feeds rest (if b then way.bytes ++ text else way.bytes) no_rest (items ++ (if b then item ∷ [] else []))
    by true = feeds_more rest way.bytes items text item carries is
    by false = subst (λ (l : List Item). Feeds rest way.bytes no_rest l) (sym (append-nil items)) carries

nothing_joins : (rest : Rest) (way : WayState) (b : Bool) (items : List Item) → Carries rest way items → Carries rest way (items ++ (if b then [] else []))
nothing_joins rest way true items carries = subst (λ (l : List Item). Carries rest way l) (sym (append-nil items)) carries
nothing_joins rest way false items carries = subst (λ (l : List Item). Carries rest way l) (sym (append-nil items)) carries

-- a changed text has room where the text has
pub same_room : (garble : Garble) (bytes text : List ℕ) → fits bytes (garbled garble text) ≡ fits bytes text
same_room garble bytes text = ap (λ (n : ℕ). nat_le (length bytes + n) CAPACITY) (garbled_long garble text)

-- a unit that is not lost
change_joins : (rest : Rest) (way : WayState) (garbles : List Garble) (unit : LineUnit) (items : List Item) → Carries rest way items → IsUnit unit
    → Carries rest (passing way (change_for garbles unit) (unit_text unit)) (items ++ (if fits way.bytes (unit_text unit) then unit_item garbles unit ∷ [] else []))
change_joins rest way garbles Ack items carries is = text_joins rest way (unit_text Ack) items (Good Ack) carries (tt, refl)
change_joins rest way garbles Nak items carries is = text_joins rest way (unit_text Nak) items (Good Nak) carries (tt, refl)
change_joins rest way garbles Can items carries is = text_joins rest way (unit_text Can) items (Good Can) carries (tt, refl)
change_joins rest way [] (Framed f) items carries is = text_joins rest way (unit_text (Framed f)) items (Good (Framed f)) carries (is, refl)
change_joins rest way (garble ∷ garbles) (Framed f) items carries is =
    subst
    (λ (b : Bool). Feeds rest (joined way.bytes (garbled garble (unit_text (Framed f)))) no_rest (items ++ (if b then changed_item garble f ∷ [] else [])))
    (same_room garble way.bytes (unit_text (Framed f)))
    (text_joins rest way (garbled garble (unit_text (Framed f))) items (changed_item garble f) carries (changed_text f garble is))

-- any unit that is written
pub carries_more : (rest : Rest) (way : WayState) (unit : LineUnit) (items : List Item) → Carries rest way items → IsUnit unit
    → Carries rest (after way (Writes unit)) (items ++ items_of way unit)
carries_more rest way unit items carries is = by (nat_lt 0 way.marks.drops)
  where
    by : (b : Bool) → Carries rest (passing way (if b then Lost else change_for way.marks.garbles unit) (unit_text unit))
        (items ++ (if fits way.bytes (unit_text unit) then (if b then [] else unit_item way.marks.garbles unit ∷ []) else []))
    by true = nothing_joins rest way (fits way.bytes (unit_text unit)) items carries
    by false = change_joins rest way way.marks.garbles unit items carries is

-- units one after another
pub carries_all : (rest : Rest) (way : WayState) (units : List LineUnit) (items : List Item) → Carries rest way items → AllByRecursion IsUnit units
    → Carries rest (written_all way units) (items ++ items_all way units)
carries_all rest way [] items carries are = subst (λ (l : List Item). Carries rest way l) (sym (append-nil items)) carries
carries_all rest way (unit ∷ units) items carries are =
    subst (λ (l : List Item). Carries rest (written_all (after way (Writes unit)) units) l) (append_assoc items (items_of way unit) (items_all (after way (Writes unit)) units))
    (carries_all rest (after way (Writes unit)) units (items ++ items_of way unit) (carries_more rest way unit items carries are.0) are.1)

-- ---- bytes that are taken, and those that are lost

pub carries_left : (old new : Rest) (count : ℕ) (way : WayState) (items judged : List Item) → Feeds old (take count way.bytes) new judged → Carries old way items
    → LeftOf new (drop count way.bytes) items judged
carries_left old new count way items judged taken carries = feeds_left old new count way.bytes items judged taken carries

pub carries_none : (way : WayState) → Carries no_rest (after way Clears) []
carries_none way = record { reads = (tt, refl); ticks = refl }
