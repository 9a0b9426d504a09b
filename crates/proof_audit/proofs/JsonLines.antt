-- The stored values of a node, as they are shown, are one line.
use Rattle.std.proofs.Common.{◌≡◌, ℕ, zero, suc, ◌+◌, ◌/◌, ◌%◌, cond, eqb, not, Bool, true, false, true≢false, ◌||◌, nat_lt, List, [], ◌∷◌, ◌++◌, map, codes, decimal, arith, ap, refl, subst}
use Rattle.std.specs.Prelude.{Option, Some, None}
use Rattle.std.specs.List.{list_all}
use Rattle.std.specs.Fmt.{digit_glyph, digits, digits_onto}
use Rattle.std.specs.Char.{digit_char}
use Rattle.std.proofs.lemmas.Bool.{and_from, false≢true, ne_eqb}
use Rattle.json.specs.Print.{escape, escape_byte, escape_letter, quoted}
use Rattle.serde_json.specs.Data.{Data, number, unsigned, string, array, Members, member, no_members}
use Rattle.serde_json.specs.View.{items_of}
use Rattle.serde_json.specs.Written.{comma_if, compact_text, items_text, members_text}
use Rattle.value_store.specs.declared.stored.Held.{Held}
use Rattle.zw_base.specs.PropertyWord.{property_word}
use Rattle.value_store.specs.ValueText.{held_data, value_data, values_text}
use Rattle.zw_text.specs.Fits.{feeds}
use Rattle.zw_parse.proofs.Pieces.{Lacks, lacks-append}
use Rattle.zw_parse.proofs.EntryLaws.{feeds-none as none_counted}

abbrev is_no_feed : ℕ → Bool
is_no_feed b = not (eqb b 10)

other_byte : (b : ℕ) → (b ≡ 10 → ⊥) → is_no_feed b ≡ true
other_byte b other = ap not (ne_eqb b 10 other)

before : (b : ℕ) (bs : List ℕ) → is_no_feed b ≡ true → Lacks 10 bs → Lacks 10 (b ∷ bs)
before b bs first rest = and_from (is_no_feed b) (list_all is_no_feed bs) first rest

both : (xs ys : List ℕ) → Lacks 10 xs → Lacks 10 ys → Lacks 10 (xs ++ ys)
both xs ys first later = lacks-append is_no_feed xs ys first later

either : (b : Bool) (xs ys : List ℕ) → Lacks 10 xs → Lacks 10 ys → Lacks 10 (cond b xs ys)
either true xs ys one other = one
either false xs ys one other = other

-- ---- numbers

digit : (d : ℕ) → is_no_feed (digit_char d) ≡ true
digit d = by (nat_lt d 10)
  where
    by : (b : Bool) → is_no_feed (cond b (48 + d) (87 + d)) ≡ true
    by true = other_byte (48 + d) (λ same. omega (arith, same))
    by false = other_byte (87 + d) (λ same. omega (arith, same))

digits_lack : (k n : ℕ) (more : List ℕ) → Lacks 10 more → Lacks 10 (digits_onto k 10 false n more)
digits_lack zero n more lacks = lacks
digits_lack (suc k) n more lacks =
    let one : Lacks 10 (digit_glyph false (n % 10) ∷ more) = before (digit_glyph false (n % 10)) more (digit (n % 10)) lacks in
    either (eqb (n / 10) 0) (digit_glyph false (n % 10) ∷ more) (digits_onto k 10 false (n / 10) (digit_glyph false (n % 10) ∷ more)) one
    (digits_lack k (n / 10) (digit_glyph false (n % 10) ∷ more) one)

number_lacks : (n : ℕ) → Lacks 10 (decimal n)
unfolding digits
number_lacks n = digits_lack 64 n [] refl

-- ---- strings

short_escape : (a b c d e : Bool) → is_no_feed (cond a 98 (cond b 102 (cond c 110 (cond d 114 (cond e 116 0))))) ≡ true
short_escape true b c d e = refl
short_escape false true c d e = refl
short_escape false false true d e = refl
short_escape false false false true e = refl
short_escape false false false false true = refl
short_escape false false false false false = refl

letter : (x : ℕ) → is_no_feed (escape_letter x) ≡ true
letter x = by (eqb x 34 || eqb x 92) refl
  where
    by : (b : Bool) → (eqb x 34 || eqb x 92) ≡ b → is_no_feed (cond b x (cond (eqb x 8) 98 (cond (eqb x 12) 102 (cond (eqb x 10) 110 (cond (eqb x 13) 114 (cond (eqb x 9) 116 0)))))) ≡ true
    by true is = other_byte x (λ same. false≢true (subst (λ (y : ℕ). (eqb y 34 || eqb y 92) ≡ true) same is))
    by false is = short_escape (eqb x 8) (eqb x 12) (eqb x 10) (eqb x 13) (eqb x 9)

control : (x : ℕ) (b : Bool) → nat_lt x 32 ≡ b → Lacks 10 (cond b (92 ∷ 117 ∷ 48 ∷ 48 ∷ digit_char (x / 16) ∷ digit_char (x % 16) ∷ []) (x ∷ []))
control x true low = before (digit_char (x / 16)) (digit_char (x % 16) ∷ []) (digit (x / 16)) (before (digit_char (x % 16)) [] (digit (x % 16)) refl)
control x false high = before x [] (other_byte x (λ same. true≢false (subst (λ (y : ℕ). nat_lt y 32 ≡ false) same high))) refl

escaped_byte : (x : ℕ) → Lacks 10 (escape_byte x)
unfolding escape_byte
escaped_byte x =
    either (nat_lt 0 (escape_letter x)) (92 ∷ escape_letter x ∷ []) (cond (nat_lt x 32) (92 ∷ 117 ∷ 48 ∷ 48 ∷ digit_char (x / 16) ∷ digit_char (x % 16) ∷ []) (x ∷ []))
    (before (escape_letter x) [] (letter x) refl) (control x (nat_lt x 32) refl)

escaped : (text : List ℕ) → Lacks 10 (escape text)
escaped [] = refl
escaped (x ∷ text) = both (escape_byte x) (escape text) (escaped_byte x) (escaped text)

quoted_lacks : (text : List ℕ) → Lacks 10 (quoted text)
quoted_lacks text = both (escape text) (34 ∷ []) (escaped text) refl

-- ---- values

comma : (later : Bool) → Lacks 10 (comma_if later)
comma true = refl
comma false = refl

member_lacks : (later : Bool) (key : List ℕ) (value : Data) (more : Members) → Lacks 10 (compact_text value) → Lacks 10 (members_text true more)
    → Lacks 10 (members_text later (member key value more))
member_lacks later key value more first rest =
    both (comma_if later) (quoted key ++ 58 ∷ (compact_text value ++ members_text true more)) (comma later)
    (both (quoted key) (58 ∷ (compact_text value ++ members_text true more)) (quoted_lacks key) (both (compact_text value) (members_text true more) first rest))

value_lacks : (value : Option ℕ) → Lacks 10 (compact_text (value_data value))
value_lacks None = refl
value_lacks (Some value) = number_lacks value

held_lacks : (held : Held) → Lacks 10 (compact_text (held_data held))
held_lacks held =
    let property : Members = member (codes "property") (string (property_word held.property)) no_members in
    let heard : Members = member (codes "heard") (value_data held.stored.heard) property in
    member_lacks false (codes "confirmed") (value_data held.stored.confirmed) heard (value_lacks held.stored.confirmed)
    (member_lacks true (codes "heard") (value_data held.stored.heard) property (value_lacks held.stored.heard)
    (member_lacks true (codes "property") (string (property_word held.property)) no_members (quoted_lacks (property_word held.property)) refl))

items_lack : (later : Bool) (helds : List Held) → Lacks 10 (items_text later (items_of (map held_data helds)))
items_lack later [] = refl
items_lack later (held ∷ helds) =
    both (comma_if later) (compact_text (held_data held) ++ items_text true (items_of (map held_data helds))) (comma later)
    (both (compact_text (held_data held)) (items_text true (items_of (map held_data helds))) (held_lacks held) (items_lack true helds))

values_lack : (node : ℕ) (helds : List Held) → Lacks 10 (values_text node helds)
values_lack node helds =
    let values : Members = member (codes "values") (array (items_of (map held_data helds))) no_members in
    member_lacks false (codes "node") (number (unsigned node)) values (number_lacks node)
    (member_lacks true (codes "values") (array (items_of (map held_data helds))) no_members (items_lack false helds) refl)

-- ---- all of it

pub values_are_one_line : (node : ℕ) (helds : List Held) → feeds (values_text node helds) ≡ 0
values_are_one_line node helds = none_counted (values_text node helds) (values_lack node helds)
