-- What a unit becomes that is written: the text of the item that its mark says.
use Rattle.std.proofs.Common.{◌≡◌, ℕ, suc, ◌+◌, ◌-◌, ◌<◌, ◌≤◌, Bool, true, false, List, [], ◌∷◌, ◌++◌, length, get_or, refl, ap, sym, ◌∙◌, arith, length-append}
use Rattle.std.specs.Prelude.{◌≢◌, ◌==◌, bit_xor, min, take, if◌then◌else◌}
use Rattle.std.proofs.Math.ListN.{set, length-set}
use Rattle.std.proofs.lemmas.List.{append-nil, set-get_or, take_at, get_or_at}
use Rattle.std.proofs.lemmas.Nat.{xor_comm}
use Rattle.std.proofs.lemmas.Bool.{eqb-true, eqb-false}
use Rattle.std.specs.Int.Bits.{xor_self, xor_zero_l}
use Rattle.serial_frame.specs.Frame.{FrameParts, checksum, framed}
use Rattle.serial_frame.specs.Items.{counted_of, unit_text, ItemText}
use Rattle.serial_frame.specs.Stream.{Reads}
use Rattle.serial_frame.specs.declared.unit.Unit.TheVariants.{Framed}
use Rattle.serial_frame.specs.declared.item.Item.TheVariants.{Good, Refused}
use Rattle.serial_frame.specs.declared.item.Refusal.TheVariants.{BadSum}
use Rattle.serial_frame.proofs.Changed.{frame_changed, xor_back}
use Rattle.world_model.specs.serial_pipes.State.{garbled, garbled_place}
use Rattle.world_model.specs.serial_pipes.declared.marks.Garble.{Garble}
use Rattle.proof_serial.specs.Way.{wanted_sum, found_sum, changed_item}

-- ---- exclusive or

xor_nothing : (a : ℕ) → bit_xor a 0 ≡ a
xor_nothing a = xor_comm a 0 ∙ xor_zero_l a

xor_moves : (a b : ℕ) → bit_xor a b ≡ a → b ≡ 0
xor_moves a b e = sym (xor_back a b) ∙ ap (λ (t : ℕ). bit_xor a t) e ∙ xor_self a

-- ---- the sums of a text that is refused for them

sums_of : (counted : List ℕ) (got : ℕ) → (wanted_sum (framed counted got) ≡ checksum counted) × (found_sum (framed counted got) ≡ got)
sums_of counted got =
    let len : length (counted ++ got ∷ []) ≡ length counted + 1 = length-append counted (got ∷ []) in
    let less : length (framed counted got) - 3 ≡ length counted = omega arith in
    let last : length (framed counted got) - 1 ≡ suc (suc (length counted)) = omega arith in (
      ap (λ (n : ℕ). checksum (take n (counted ++ got ∷ []))) less ∙ ap checksum (take_at counted (got ∷ []) (length counted) refl),
      ap (λ (n : ℕ). get_or (framed counted got) n 0) last ∙ get_or_at counted got [] 0 (length counted) refl,
    )

refused_sums : (text : List ℕ) (want got : ℕ) → Reads text (Refused (BadSum want got) ∷ []) [] → ItemText (Refused (BadSum (wanted_sum text) (found_sum text))) text
refused_sums text want got (whole, more, (counted, counts, wants, differs, is), e, (none, nothing)) =
    let same : text ≡ framed counted got = e ∙ ap (λ (t : List ℕ). whole ++ t) nothing ∙ append-nil whole ∙ is in
    let wanted : wanted_sum text ≡ checksum counted = ap wanted_sum same ∙ (sums_of counted got).0 in
    let found : found_sum text ≡ got = ap found_sum same ∙ (sums_of counted got).1 in (
      counted,
      counts,
      wanted,
      λ bad. differs (sym found ∙ bad ∙ wanted ∙ sym wants),
      same ∙ ap (λ (n : ℕ). framed counted n) (sym found),
    )

-- ---- a frame that is changed

frame_long : (f : FrameParts) → length (unit_text (Framed f)) ≡ length f.body + 5
frame_long f = omega (arith, length-append (counted_of f) (checksum (counted_of f) ∷ []))

place_inside : (place long : ℕ) → 5 ≤ long → (2 ≤ min (2 + place) (long - 1)) × (min (2 + place) (long - 1) < long)
place_inside place long room = (omega arith, omega arith)

same_text : (f : FrameParts) (garble : Garble) → garble.xor ≡ 0 → garbled garble (unit_text (Framed f)) ≡ unit_text (Framed f)
same_text f garble none =
    let text = unit_text (Framed f) in
    let at = garbled_place garble text in
    ap (λ (b : ℕ). set text at (bit_xor (get_or text at 0) b)) none
    ∙ ap (λ (b : ℕ). set text at b) (xor_nothing (get_or text at 0))
    ∙ set-get_or text at 0

other_text : (f : FrameParts) (garble : Garble) → length f.body ≤ 252 → garble.xor ≢ 0
    → ItemText (Refused (BadSum (wanted_sum (garbled garble (unit_text (Framed f)))) (found_sum (garbled garble (unit_text (Framed f)))))) (garbled garble (unit_text (Framed f)))
other_text f garble fits some =
    let text = unit_text (Framed f) in
    let at = garbled_place garble text in
    let inside = place_inside garble.place (length text) (omega (arith, frame_long f)) in
    let found = frame_changed f at (bit_xor (get_or text at 0) garble.xor) fits inside.0 inside.1 (λ e. some (xor_moves (get_or text at 0) garble.xor e)) in
    refused_sums (garbled garble text) found.0 found.1 found.2

pub changed_text : (f : FrameParts) (garble : Garble) → length f.body ≤ 252 → ItemText (changed_item garble f) (garbled garble (unit_text (Framed f)))
changed_text f garble fits = by (garble.xor == 0) refl
  where
    by : (b : Bool) → (garble.xor == 0) ≡ b
        → ItemText (if b then Good (Framed f) else Refused (BadSum (wanted_sum (garbled garble (unit_text (Framed f)))) (found_sum (garbled garble (unit_text (Framed f)))))) (garbled garble (unit_text (Framed f)))
    by true e = (fits, same_text f garble (eqb-true garble.xor 0 e))
    by false e = other_text f garble fits (eqb-false garble.xor 0 e)

pub garbled_long : (garble : Garble) (text : List ℕ) → length (garbled garble text) ≡ length text
garbled_long garble text = length-set text _ _
