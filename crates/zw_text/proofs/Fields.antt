-- Fields of lines, both ways.
use Rattle.std.proofs.Common.{◌≡◌, ℕ, ◌<◌, ◌≤◌, ◌^◌, Ok, List, [], ◌∷◌, length, decimal, arith, ap, ◌∙◌}
use Rattle.hex.specs.Hex.{decode_of}
use Rattle.zw_base.specs.declared.order.Word.{Word}
use Rattle.zw_words.specs.declared.forms.Target.{Target}
use Rattle.zw_words.specs.declared.side.Side.{Side}
use Rattle.zw_words.specs.Fields.{Taken, last, next}
use Rattle.zw_words.specs.Forms.{between_in, hex_in, side_in, target_in, value_in}
use Rattle.zw_words.specs.Texts.{side_word, target_word, value_word}
use Rattle.zw_words.proofs.FieldLaws.{last_again, last_takes, next_again, next_takes}
use Rattle.zw_words.proofs.FormLaws.{IsLevel, between_again, between_takes, hex_again, hex_takes, side_again, side_takes, target_again, target_takes, value_again, value_takes}
use Rattle.zw_text.specs.Line.{IsIn}

abbrev prefix : List ℕ → List (List ℕ) → List (List ℕ)
prefix w rest = w ∷ rest

-- ---- what was read stands there

pub record NumberThen (least most : ℕ) (ws rest : List (List ℕ)) (n : ℕ) : Type 0 where
  pub range : IsIn least most n
  pub words_are : ws ≡ decimal n ∷ rest

pub next_number : (least most : ℕ) (ws : List (List ℕ)) (t : Taken ℕ) → next (between_in least most) ws ≡ Ok t → NumberThen least most ws t.rest t.value
next_number least most ws t e =
    let a = next_takes (between_in least most) ws t e in
    let b = between_takes least most a.word t.value a.stands in
    record { range = (b.low, b.high); words_are = a.words_are ∙ ap (λ w. prefix w t.rest) b.word_is }

pub last_number : (least most : ℕ) (ws : List (List ℕ)) (n : ℕ) → last (between_in least most) ws ≡ Ok n → NumberThen least most ws [] n
last_number least most ws n e =
    let a = last_takes (between_in least most) ws n e in
    let b = between_takes least most a.word n a.stands in
    record { range = (b.low, b.high); words_are = a.words_are ∙ ap (λ w. prefix w []) b.word_is }

pub next_side : (ws : List (List ℕ)) (t : Taken Side) → next side_in ws ≡ Ok t → ws ≡ side_word t.value ∷ t.rest
next_side ws t e =
    let a = next_takes side_in ws t e in a.words_are ∙ ap (λ w. prefix w t.rest) (side_takes a.word t.value a.stands)

pub last_side : (ws : List (List ℕ)) (side : Side) → last side_in ws ≡ Ok side → ws ≡ side_word side ∷ []
last_side ws side e =
    let a = last_takes side_in ws side e in a.words_are ∙ ap (λ w. prefix w []) (side_takes a.word side a.stands)

pub last_value : (ws : List (List ℕ)) (value : Word) → last value_in ws ≡ Ok value → IsLevel value × (ws ≡ value_word value ∷ [])
last_value ws value e =
    let a = last_takes value_in ws value e in
    let b = value_takes a.word value a.stands in
    (b.0, a.words_are ∙ ap (λ w. prefix w []) b.1)

pub record TargetThen (least : ℕ) (ws rest : List (List ℕ)) (t : Target) : Type 0 where
  pub range : IsIn least 232 t.node
  pub end : t.end ≤ 127
  pub words_are : ws ≡ target_word t.node t.end ∷ rest

pub next_target : (least : ℕ) (ws : List (List ℕ)) (t : Taken Target) → next (target_in least) ws ≡ Ok t → TargetThen least ws t.rest t.value
next_target least ws t e =
    let a = next_takes (target_in least) ws t e in
    let b = target_takes least a.word t.value a.stands in
    record { range = (b.low, b.high); end = b.end; words_are = a.words_are ∙ ap (λ w. prefix w t.rest) b.word_is }

pub last_target : (least : ℕ) (ws : List (List ℕ)) (t : Target) → last (target_in least) ws ≡ Ok t → TargetThen least ws [] t
last_target least ws t e =
    let a = last_takes (target_in least) ws t e in
    let b = target_takes least a.word t a.stands in
    record { range = (b.low, b.high); end = b.end; words_are = a.words_are ∙ ap (λ w. prefix w []) b.word_is }

pub record HexThen (least most : ℕ) (ws : List (List ℕ)) (bytes : List ℕ) : Type 0 where
  pub low : least ≤ length bytes
  pub high : length bytes ≤ most
  pub hex : List ℕ
  pub stands : decode_of hex ≡ Ok bytes
  pub words_are : ws ≡ hex ∷ []

pub last_hex : (least most : ℕ) (ws : List (List ℕ)) (bytes : List ℕ) → last (hex_in least most) ws ≡ Ok bytes → HexThen least most ws bytes
last_hex least most ws bytes e =
    let a = last_takes (hex_in least most) ws bytes e in
    let b = hex_takes least most a.word bytes a.stands in
    record { low = b.low; high = b.high; hex = a.word; stands = b.stands; words_are = a.words_are }

-- ---- what stands there is read

pub number_next : (least most n : ℕ) (rest : List (List ℕ)) → IsIn least most n → most < 2 ^ 64 → next (between_in least most) (decimal n ∷ rest) ≡ Ok (record { value = n; rest = rest })
number_next least most n rest range small = next_again (between_in least most) (decimal n) rest n (between_again least most n range.0 range.1 (omega (arith, range.1, small)))

pub number_last : (least most n : ℕ) → IsIn least most n → most < 2 ^ 64 → last (between_in least most) (decimal n ∷ []) ≡ Ok n
number_last least most n range small = last_again (between_in least most) (decimal n) n (between_again least most n range.0 range.1 (omega (arith, range.1, small)))

pub side_next : (side : Side) (rest : List (List ℕ)) → next side_in (side_word side ∷ rest) ≡ Ok (record { value = side; rest = rest })
side_next side rest = next_again side_in (side_word side) rest side (side_again side)

pub side_last : (side : Side) → last side_in (side_word side ∷ []) ≡ Ok side
side_last side = last_again side_in (side_word side) side (side_again side)

pub value_last : (value : Word) → IsLevel value → last value_in (value_word value ∷ []) ≡ Ok value
value_last value good = last_again value_in (value_word value) value (value_again value good)

pub target_next : (least node end : ℕ) (rest : List (List ℕ)) → IsIn least 232 node → end ≤ 127 → next (target_in least) (target_word node end ∷ rest) ≡ Ok (record { value = record { node = node; end = end }; rest = rest })
target_next least node end rest range high =
    next_again (target_in least) (target_word node end) rest (record { node = node; end = end }) (target_again least (record { node = node; end = end }) range.0 range.1 high)

pub target_last : (least node end : ℕ) → IsIn least 232 node → end ≤ 127 → last (target_in least) (target_word node end ∷ []) ≡ Ok (record { node = node; end = end })
target_last least node end range high =
    last_again (target_in least) (target_word node end) (record { node = node; end = end }) (target_again least (record { node = node; end = end }) range.0 range.1 high)

pub hex_last : (least most : ℕ) (hex bytes : List ℕ) → decode_of hex ≡ Ok bytes → least ≤ length bytes → length bytes ≤ most → last (hex_in least most) (hex ∷ []) ≡ Ok bytes
hex_last least most hex bytes stands low high = last_again (hex_in least most) hex bytes (hex_again least most hex bytes stands low high)
