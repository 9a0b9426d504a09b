-- What each form of a word stands for, both ways.
use Rattle.std.proofs.Common.{◌≡◌, ℕ, zero, suc, ◌+◌, ◌-◌, ◌/◌, ◌%◌, ◌<◌, ◌≤◌, ◌^◌, ◌==◌, Bool, true, false, cond, not, ◌&&◌, ◌||◌, ltb, Option, Some, None, Result, Ok, Err, List, [], ◌∷◌, ◌++◌, length, get_or, take, drop, codes, decimal, arith, ap, refl, rules, ◌∙◌, sym, subst, inl, inr, eq-eqb, ne_eqb, add-one, drop-cons}
use Rattle.std.specs.Prelude.{IsSome, is_some, option_and_then, option_map, bytes_eq, position, nat_le}
use Rattle.std.specs.List.{AllPass, AllByRecursion, list_all, position_or_len}
use Rattle.std.specs.Str.{all_ascii_digits}
use Rattle.std.specs.Char.{is_ascii_hexdigit}
use Rattle.std.specs.Int.{is_in_range}
use Rattle.std.proofs.lemmas.Bool.{eqb-true, ltb-true, lt-ltb, leb-true, le-leb, and_parts as both}
use Rattle.std.proofs.lemmas.Fmt.{decimal-digits_value, decimal_digit, decimal_is_IsNumeral, decimal_nonempty, digits_decimal, digits_value-decimal, first_decimal}
use Rattle.std.proofs.lemmas.List.Sums.{AllPass-from_list_all, list_all-from_AllPass}
use Rattle.std.proofs.lemmas.Str.Parse.{IsNumeralModel, digit_at, numerals_by_fold}
use Rattle.std.proofs.lemmas.Slice.Eq.{bytes_eq-Decides}
use Rattle.hex.specs.Hex.{decode_of, is_hex_digit}
use Rattle.hex.specs.declared.error.FromHexError.{FromHexError}
use Rattle.hex.proofs.HexLemmas.{decode_of-digits, decode_of-ok}
use Rattle.zw_base.specs.declared.order.Word.{Word}
use Rattle.zw_base.specs.declared.order.Word.TheVariants.{On, Off, Level}
use Rattle.std.proofs.lemmas.Bool.{le-ltb}
use Rattle.std.proofs.lemmas.List.{get_or_default, length-append, take-append-drop}
use Rattle.std.proofs.lemmas.List.Elements.{recursion_from_All}
use Rattle.std.proofs.lemmas.List.Quantifiers.{position-Some}
use Rattle.std.proofs.Math.Seq.{drop-append-add, take-append_seam}
use Rattle.zw_words.specs.declared.forms.Target.{Target}
use Rattle.zw_words.specs.declared.side.Side.{Side}
use Rattle.zw_words.specs.declared.side.Side.TheVariants.{Host, Chip}
use Rattle.zw_words.specs.Forms.{begins_number, between_in, decoded, digits_after, digits_in, end_after, hex_in, hex_length, node_in, number_in, side_in, target_at, target_in, value_in, within}
use Rattle.zw_words.specs.Texts.{side_word, target_word, value_word}
use Rattle.zw_words.proofs.Choices.{chosen, kept, not_some, some, some_is, then_some}

-- ---- hex

-- the two words for a hex digit
digit_tests : (a b d : Bool) (x y z : ℕ) → ((a || b) || d) ≡ is_some (cond b (Some x) (cond d (Some y) (cond a (Some z) None)))
digit_tests true true d x y z = refl
digit_tests true false true x y z = refl
digit_tests true false false x y z = refl
digit_tests false true d x y z = refl
digit_tests false false true x y z = refl
digit_tests false false false x y z = refl

same_digit : (c : ℕ) → is_ascii_hexdigit c ≡ is_hex_digit c
same_digit c = digit_tests (is_in_range 48 57 c) (is_in_range 65 70 c) (is_in_range 97 102 c) (c - 55) (c - 87) (c - 48)

hex_pass : (word : List ℕ) → list_all is_ascii_hexdigit word ≡ true → AllPass is_hex_digit word
hex_pass word all k d below = sym (same_digit (get_or word k d)) ∙ AllPass-from_list_all is_ascii_hexdigit word all k d below

hex_all : (word : List ℕ) → AllPass is_hex_digit word → list_all is_ascii_hexdigit word ≡ true
hex_all word pass = list_all-from_AllPass is_ascii_hexdigit word (λ k d below. same_digit (get_or word k d) ∙ pass k d below)

-- a word that is hex stands for bytes
pub hex_some : (least most : ℕ) (word : List ℕ) → (hex_length least most word && list_all is_ascii_hexdigit word) ≡ true → (bytes : List ℕ) × (hex_in least most word ≡ Some bytes)
unfolding hex_in
hex_some least most word good =
    let parts = both (hex_length least most word) (list_all is_ascii_hexdigit word) good in
    let even = both (length word % 2 == 0) _ parts.0 in
    let bytes = decode_of-digits word (eqb-true _ _ even.0) (hex_pass word parts.1) in
    (bytes.0, ap (λ t. cond t (decoded (decode_of word)) None) good ∙ ap decoded bytes.1)

pub hex_good : (least most : ℕ) (word : List ℕ) → (hex_length least most word && list_all is_ascii_hexdigit word) ≡ true → IsSome (hex_in least most word)
hex_good least most word good = let found = hex_some least most word good in ap is_some found.1

-- a word that is not stands for none
pub hex_bad : (least most : ℕ) (word : List ℕ) → (hex_length least most word && list_all is_ascii_hexdigit word) ≡ false → hex_in least most word ≡ None
unfolding hex_in
hex_bad least most word bad = ap (λ t. cond t (decoded (decode_of word)) None) bad

decoded_some : (r : Result (List ℕ) FromHexError) (bytes : List ℕ) → decoded r ≡ some bytes → r ≡ Ok bytes
decoded_some (Ok xs) bytes e = ap (λ ys. Ok ys) (some_is xs bytes e)
decoded_some (Err f) bytes e = absurd (not_some bytes e)

-- bytes in hex, and how many there are
pub record IsHexOf (least most : ℕ) (word bytes : List ℕ) : Type 0 where
  pub stands : decode_of word ≡ Ok bytes
  pub low : least ≤ length bytes
  pub high : length bytes ≤ most

pub hex_takes : (least most : ℕ) (word bytes : List ℕ) → hex_in least most word ≡ Some bytes → IsHexOf least most word bytes
unfolding hex_in
hex_takes least most word bytes e =
    elim (chosen (hex_length least most word && list_all is_ascii_hexdigit word) _ _ _ e) [
      | inl p ↦
          let stands = decoded_some (decode_of word) bytes p.1 in
          let long = decode_of-ok word bytes stands in
          let range = both (length word % 2 == 0) _ (both (hex_length least most word) _ p.0).0 in
          let ends = both (nat_le least (length word / 2)) _ range.1 in
          record { stands = stands; low = omega (arith, leb-true _ _ ends.0, long.2); high = omega (arith, leb-true _ _ ends.1, long.2) }
      | inr p ↦ absurd (not_some bytes p.1)
    ]

pub hex_again : (least most : ℕ) (word bytes : List ℕ) → decode_of word ≡ Ok bytes → least ≤ length bytes → length bytes ≤ most → hex_in least most word ≡ Some bytes
unfolding hex_in
hex_again least most word bytes stands low high =
    let long = decode_of-ok word bytes stands in
    let half : length word / 2 ≡ length bytes = omega (arith, long.2) in
    rw (eq-eqb (length word % 2) 0 long.0, le-leb least (length word / 2) (omega (arith, half, low)), le-leb (length word / 2) most (omega (arith, half, high)), hex_all word long.1, stands) refl

-- ---- numbers

-- digits and the number that they make
own : IsNumeralModel (λ ds. all_ascii_digits ds ≡ true) (digits_after 0)
own = numerals_by_fold _ (search rules) digits_after (search rules)

-- a number's text begins as one
begins_decimal : (n : ℕ) → n < 2 ^ 64 → begins_number (decimal n) ≡ true
begins_decimal zero small = rw (decimal_digit 0 (omega arith)) refl
begins_decimal (suc n) small =
    let first : (get_or (decimal (suc n)) 0 0 == 48) ≡ false = ne_eqb _ 48 (λ e. omega (arith, first_decimal (suc n) (omega arith) small, e)) in
    rw (lt-ltb 0 (length (decimal (suc n))) (decimal_nonempty (suc n) small), first) (or_yes (length (decimal (suc n)) == 1))
  where
    or_yes : (b : Bool) → (b || true) ≡ true
    or_yes true = refl
    or_yes false = refl

pub number_again : (n : ℕ) → n < 2 ^ 64 → number_in (decimal n) ≡ Some n
unfolding number_in digits_in
number_again n small =
    let value : digits_after 0 (decimal n) ≡ n = digits_value-decimal own n small in
    rw (begins_decimal n small, digits_decimal own n small, value, lt-ltb n (2 ^ 64) small) refl

-- what a number's word is
pub record IsNumber (word : List ℕ) (n : ℕ) : Type 0 where
  pub small : n < 2 ^ 64
  pub word_is : word ≡ decimal n

begun : (word : List ℕ) → begins_number word ≡ true → (0 < length word) × (get_or word 0 0 ≡ 48 → length word ≡ 1)
begun word e =
    let parts = both (ltb 0 (length word)) _ e in
    (ltb-true _ _ parts.0, λ zero_first. eqb-true _ _ (either (length word == 1) (get_or word 0 0 == 48) parts.1 (eq-eqb _ _ zero_first)))
  where
    either : (a b : Bool) → (a || not b) ≡ true → b ≡ true → a ≡ true
    either true b e f = refl
    either false true e f = cc
    either false false e f = cc

pub number_takes : (word : List ℕ) (n : ℕ) → number_in word ≡ Some n → IsNumber word n
unfolding number_in digits_in
number_takes word n e =
    elim (chosen (begins_number word) _ _ _ e) [
      | inl p ↦
          let begins = begun word p.0 in
          let made = kept (all_ascii_digits word && ltb (digits_after 0 word) (2 ^ 64)) _ n p.1 in
          let parts = both (all_ascii_digits word) _ made.0 in
          let small : digits_after 0 word < 2 ^ 64 = ltb-true _ _ parts.1 in
          let text : decimal (digits_after 0 word) ≡ word = decimal-digits_value own word parts.0 begins.0 begins.1 small in
          record { small = omega (arith, small, made.1); word_is = sym text ∙ ap decimal made.1 }
      | inr p ↦ absurd (not_some n p.1)
    ]

-- a number in its range
pub record IsBetween (least most : ℕ) (word : List ℕ) (n : ℕ) : Type 0 where
  pub low : least ≤ n
  pub high : n ≤ most
  pub word_is : word ≡ decimal n

pub between_takes : (least most : ℕ) (word : List ℕ) (n : ℕ) → between_in least most word ≡ Some n → IsBetween least most word n
unfolding between_in
between_takes least most word n e =
    let a = then_some (number_in word) (within least most) n e in
    let b = kept (nat_le least a.0 && nat_le a.0 most) a.0 n a.2 in
    let range = both (nat_le least a.0) _ b.0 in
    let read = number_takes word a.0 a.1 in
    record { low = omega (arith, leb-true _ _ range.0, b.1); high = omega (arith, leb-true _ _ range.1, b.1); word_is = read.word_is ∙ ap decimal b.1 }

pub between_again : (least most n : ℕ) → least ≤ n → n ≤ most → n < 2 ^ 64 → between_in least most (decimal n) ≡ Some n
unfolding between_in
between_again least most n low high small =
    ap (option_and_then (within least most)) (number_again n small) ∙ rw (le-leb least n low, le-leb n most high) refl

-- ---- values and sides

-- a level is up to 99
abbrev pub IsLevel : Word → Type 0
IsLevel On = Unit {0}
IsLevel Off = Unit {0}
IsLevel (Level level) = level ≤ 99

-- the word for a value
abbrev pub IsValueWord : List ℕ → Word → Type 0
IsValueWord word value = IsLevel value × (word ≡ value_word value)

-- the value of a step
mapped : {A B : Type 0} (f : A → B) (o : Option A) (y : B) → option_map f o ≡ some y → (x : A) × (o ≡ some x) × (f x ≡ y)
mapped f (Some x) y e = (x, refl, some_is (f x) y e)
mapped f None y e = absurd (not_some y e)

-- a test of a word
is_word : (word text : List ℕ) → bytes_eq word text ≡ true → word ≡ text
is_word word text e = (bytes_eq-Decides word text).0 e

-- a number's text does not begin with a letter
not_numeral : (text : List ℕ) (n : ℕ) → n < 2 ^ 64 → 57 < get_or text 0 0 → bytes_eq (decimal n) text ≡ false
not_numeral text n small letter =
    not_true (bytes_eq (decimal n) text) (λ e.
    omega (arith, digit_at (decimal n) 0 ((decimal_is_IsNumeral n small).0.1) (decimal_nonempty n small), ap (λ t. get_or t 0 0) (is_word (decimal n) text e), letter))
  where
    not_true : (b : Bool) → (b ≡ true → ⊥) → b ≡ false
    not_true true no_way = absurd (no_way refl)
    not_true false no_way = refl

pub value_takes : (word : List ℕ) (value : Word) → value_in word ≡ Some value → IsValueWord word value
unfolding value_in
value_takes word value e =
    elim (chosen (bytes_eq word (codes "on")) _ _ _ e) [
      | inl p ↦ subst (IsValueWord word) (some_is On value p.1) (tt, is_word word (codes "on") p.0)
      | inr p ↦
          elim (chosen (bytes_eq word (codes "off")) _ _ _ p.1) [
            | inl q ↦ subst (IsValueWord word) (some_is Off value q.1) (tt, is_word word (codes "off") q.0)
            | inr q ↦
                let level = mapped Level (between_in 0 99 word) value q.1 in
                let read = between_takes 0 99 word level.0 level.1 in
                subst (IsValueWord word) level.2 (read.high, read.word_is)
          ]
    ]

pub value_again : (value : Word) → IsLevel value → value_in (value_word value) ≡ Some value
unfolding value_in
value_again On good = refl
value_again Off good = refl
value_again (Level n) good =
    let other : (text : List ℕ) → 57 < get_or text 0 0 → bytes_eq (decimal n) text ≡ false = λ text letter. not_numeral text n (omega (arith, good)) letter in
    rw (other (codes "on") (omega arith), other (codes "off") (omega arith), between_again 0 99 n (omega arith) good (omega (arith, good))) refl

pub side_takes : (word : List ℕ) (side : Side) → side_in word ≡ Some side → word ≡ side_word side
unfolding side_in
side_takes word side e =
    elim (chosen (bytes_eq word (codes "h")) _ _ _ e) [
      | inl p ↦ subst (λ s. word ≡ side_word s) (some_is Host side p.1) (is_word word (codes "h") p.0)
      | inr p ↦
          elim (chosen (bytes_eq word (codes "c")) _ _ _ p.1) [
            | inl q ↦ subst (λ s. word ≡ side_word s) (some_is Chip side q.1) (is_word word (codes "c") q.0)
            | inr q ↦ absurd (not_some side q.1)
          ]
    ]

pub side_again : (side : Side) → side_in (side_word side) ≡ Some side
unfolding side_in
side_again Host = refl
side_again Chip = refl

-- ---- targets

-- the first point of a text that has none before it
point_at : (xs ys : List ℕ) → AllByRecursion (λ b. (b == 46) ≡ false) xs → position_or_len (λ b. b == 46) (xs ++ (46 ∷ ys)) ≡ length xs
point_at [] ys none = refl
point_at (x ∷ xs) ys none = rw none.0 (omega (arith, point_at xs ys none.1))

no_point : (xs : List ℕ) → AllByRecursion (λ b. (b == 46) ≡ false) xs → position_or_len (λ b. b == 46) xs ≡ length xs
no_point [] none = refl
no_point (x ∷ xs) none = rw none.0 (omega (arith, no_point xs none.1))

-- a number's text has no point
pointless : (n : ℕ) → n < 2 ^ 64 → AllByRecursion (λ b. (b == 46) ≡ false) (decimal n)
pointless n small =
    recursion_from_All (λ b. (b == 46) ≡ false) (decimal n) (λ k d below.
    ne_eqb _ 46 (λ e. omega (arith, digit_at (decimal n) k ((decimal_is_IsNumeral n small).0.1) below, get_or_default (decimal n) k 0 d below, e)))

-- what a target's word is
pub record IsTarget (least : ℕ) (word : List ℕ) (target : Target) : Type 0 where
  pub low : least ≤ target.node
  pub high : target.node ≤ 232
  pub end : target.end ≤ 127
  pub word_is : word ≡ target_word target.node target.end

ends_of : (node end : Option ℕ) (t : Target) → end_after node end ≡ some t → (n e : ℕ) × (node ≡ some n) × (end ≡ some e) × (record { node = n; end = e } ≡ t)
ends_of (Some n) (Some e) t h = (n, e, refl, refl, some_is (record { node = n; end = e }) t h)
ends_of (Some n) None t h = absurd (not_some t h)
ends_of None end t h = absurd (not_some t h)

pub target_alone : (node end : ℕ) → end ≡ 0 → target_word node end ≡ decimal node
target_alone node end e = let P : ℕ → Type 0 = λ n. target_word node n ≡ decimal node in subst P (sym e) refl

target_both : (node end : ℕ) → 1 ≤ end → target_word node end ≡ decimal node ++ (46 ∷ decimal end)
target_both node end some = ap (λ t. cond t (decimal node) (decimal node ++ (46 ∷ decimal end))) (ne_eqb end 0 (λ e. omega (arith, e, some)))

pub target_takes : (least : ℕ) (word : List ℕ) (t : Target) → target_in least word ≡ Some t → IsTarget least word t
unfolding target_in
target_takes least word t e = target_places least word t (position (λ b. b == 46) word) refl e
  where
    target_places : (least : ℕ) (word : List ℕ) (t : Target) (o : Option ℕ) → position (λ b. b == 46) word ≡ o → target_at least word o ≡ some t → IsTarget least word t
    target_places least word t None at e =
        let parts = ends_of (node_in least word) (Some 0) t e in
        let node = between_takes least 232 word parts.0 parts.2 in
        let root : 0 ≡ parts.1 = some_is 0 parts.1 parts.3 in
        subst (IsTarget least word) parts.4
        (record { low = node.low; high = node.high; end = omega (arith, root); word_is = node.word_is ∙ sym (target_alone parts.0 parts.1 (sym root)) })
    target_places least word t (Some at) where_is e =
        let parts = ends_of (node_in least (take at word)) (between_in 1 127 (drop (at + 1) word)) t e in
        let node = between_takes least 232 (take at word) parts.0 parts.2 in
        let end = between_takes 1 127 (drop (at + 1) word) parts.1 parts.3 in
        let here = position-Some (λ b. b == 46) word at 0 where_is in
        let whole : word ≡ take at word ++ (46 ∷ drop (at + 1) word) =
        rw (add-one at) (sym (take-append-drop at word) ∙ ap (λ r. take at word ++ r) (drop-cons word at 0 here.0) ∙ ap (λ b. take at word ++ (b ∷ drop (suc at) word)) (eqb-true (get_or word at 0) 46 here.1)) in
        subst (IsTarget least word) parts.4
        (record { low = node.low; high = node.high; end = end.high; word_is = whole ∙ ap (λ w. w ++ (46 ∷ drop (at + 1) word)) node.word_is ∙ ap (λ w. decimal parts.0 ++ (46 ∷ w)) end.word_is ∙ sym (target_both parts.0 parts.1 end.low) })

pub target_again : (least : ℕ) (t : Target) → least ≤ t.node → t.node ≤ 232 → t.end ≤ 127 → target_in least (target_word t.node t.end) ≡ Some t
unfolding target_in
target_again least t low high end = again least t.node t.end low high end
  where
    position_none : (xs : List ℕ) → position_or_len (λ b. b == 46) xs ≡ length xs → position (λ b. b == 46) xs ≡ None
    position_none xs e = rw (e, le-ltb (length xs) (length xs) (omega arith)) refl

    position_some : (xs ys : List ℕ) → position_or_len (λ b. b == 46) (xs ++ (46 ∷ ys)) ≡ length xs → position (λ b. b == 46) (xs ++ (46 ∷ ys)) ≡ Some (length xs)
    position_some xs ys e = rw (e, lt-ltb (length xs) (length (xs ++ (46 ∷ ys))) (simp length-append (omega arith))) refl

    again : (least node end : ℕ) → least ≤ node → node ≤ 232 → end ≤ 127 → target_at least (target_word node end) (position (λ b. b == 46) (target_word node end)) ≡ some (record { node = node; end = end })
    again least node zero low high end =
        rw (target_alone node zero refl, position_none (decimal node) (no_point (decimal node) (pointless node (omega (arith, high)))), between_again least 232 node low high (omega (arith, high))) refl
    again least node (suc end) low high last =
        let word = decimal node ++ (46 ∷ decimal (suc end)) in
        let prefix : take (length (decimal node)) word ≡ decimal node = take-append_seam (decimal node) (46 ∷ decimal (suc end)) in
        let back : drop (length (decimal node) + 1) word ≡ decimal (suc end) = drop-append-add (decimal node) (46 ∷ decimal (suc end)) 1 in
        ap (λ w. target_at least w (position (λ b. b == 46) w)) (target_both node (suc end) (omega arith))
        ∙ ap (target_at least word) (position_some (decimal node) (decimal (suc end)) (point_at (decimal node) (decimal (suc end)) (pointless node (omega (arith, high)))))
        ∙ ap (λ w. end_after (node_in least w) (between_in 1 127 (drop (length (decimal node) + 1) word))) prefix
        ∙ ap (λ w. end_after (node_in least (decimal node)) (between_in 1 127 w)) back
        ∙ rw (between_again least 232 node low high (omega (arith, high)), between_again 1 127 (suc end) (omega arith) last (omega (arith, last))) refl
