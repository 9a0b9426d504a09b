-- A unit that is written on an unmarked way with room for it goes on its way whole.
use Rattle.std.proofs.Common.{◌≡◌, ◌≤◌, ℕ, true, List, ◌++◌, length, refl, sym, ◌∙◌, subst, arith}
use Rattle.std.proofs.lemmas.List.{length_push}
use Rattle.serial_frame.specs.Frame.{checksum}
use Rattle.serial_frame.specs.Items.{unit_text, counted_of, IsUnit}
use Rattle.serial_frame.specs.declared.unit.Unit.{Unit as LineUnit}
use Rattle.serial_frame.specs.declared.unit.Unit.TheVariants.{Ack, Nak, Can, Framed}
use Rattle.serial_pipes.specs.State.{WayState, MarksState, mark_for, fits, joined}
use Rattle.serial_pipes.specs.Events.{Writes, passing}
use Rattle.serial_pipes.specs.Events as way
use Rattle.proof_calm.specs.Marks.{no_marks}

pub unit_short : (unit : LineUnit) → IsUnit unit → length (unit_text unit) ≤ 257
unit_short Ack is = omega arith
unit_short Nak is = omega arith
unit_short Can is = omega arith
unit_short (Framed f) is = let pushed = length_push (counted_of f) (checksum (counted_of f)) in omega (arith, is, pushed)

-- there is room where at most so many bytes are on their way
pub has_room : (bytes : List ℕ) (unit : LineUnit) → IsUnit unit → length bytes ≤ 3000 → fits bytes (unit_text unit) ≡ true
has_room bytes unit is few = let short = unit_short unit is in grind (arith, short, few)

joined_whole : (bytes text : List ℕ) → fits bytes text ≡ true → joined bytes text ≡ bytes ++ text
joined_whole bytes text room = rw room refl

unmarked_bytes : (w : WayState) (unit written : LineUnit) → (passing w (mark_for no_marks unit) (unit_text written)).bytes ≡ joined w.bytes (unit_text written)
unmarked_bytes w Ack written = refl
unmarked_bytes w Nak written = refl
unmarked_bytes w Can written = refl
unmarked_bytes w (Framed f) written = refl

pub written_bytes : (w : WayState) (unit : LineUnit) → w.marks ≡ no_marks → IsUnit unit → length w.bytes ≤ 3000 → (way.after w (Writes unit)).bytes ≡ w.bytes ++ unit_text unit
written_bytes w unit none is few =
    subst (λ (marks : MarksState). (passing w (mark_for marks unit) (unit_text unit)).bytes ≡ joined w.bytes (unit_text unit)) (sym none) (unmarked_bytes w unit unit)
    ∙ joined_whole w.bytes (unit_text unit) (has_room w.bytes unit is few)
