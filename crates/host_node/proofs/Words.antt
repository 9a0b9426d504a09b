-- Words of bits: what a change of one bit leaves, and where the next bit is.
use Rattle.std.proofs.Common.{◌≡◌, ◌≢◌, ℕ, zero, suc, ◌+◌, ◌*◌, ◌/◌, ◌%◌, ◌^◌, ◌<◌, ◌≤◌, ◌-◌, Bool, true, false, List, ◌∷◌, length, get_or, set, replicate, Option, Some, None, IsSome, bit_and, bit_or, eqb, refl, sym, ap, ◌∙◌, inl, inr, arith, w64}
use Rattle.std.specs.Int.{bit_at, bit_not, trailing_zeros}
use Rattle.std.proofs.lemmas.Nat.{shr-shr, shr_le}
use Rattle.std.proofs.lemmas.Nat.Bits.{bit_at-zero, bit_at_above, bit_at_set_same, bit_at_set_other, bit_at_clear_same, bit_at_clear_other, bit_at-trailing_zeros}
use Rattle.std.proofs.lemmas.Bool.{cases_eq, cases_lt}
use Rattle.std.proofs.lemmas.List.{get_or-set_same, get_or-set_other}
use Rattle.std.specs.Option.{SomeIff}
use Rattle.host_node.specs.Search.{least_above}
use Rattle.host_node.proofs.Searches.{least_is_found, no_least_is_found}
use Rattle.host_node.specs.Marks.{is_set, bits_from, marks_of, HasNodes, no_marks, is_marked}

-- ---- one bit

-- bit n is so now, and every other one is as it was
pub record OneBit (new old : List ℕ) (n : ℕ) (b : Bool) : Type 0 where
  pub it : is_set new n ≡ b
  pub others : (q : ℕ) → q ≢ n → is_set new q ≡ is_set old q

same_number : (q n : ℕ) → q / 64 ≡ n / 64 → q % 64 ≡ n % 64 → q ≡ n
same_number q n h l = omega arith

one_bit : (words : List ℕ) (n v : ℕ) (b : Bool) → n / 64 < length words → eqb (bit_at v (n % 64)) 1 ≡ b
    → ((i : ℕ) → i < 64 → i ≢ n % 64 → bit_at v i ≡ bit_at (get_or words (n / 64) 0) i) → OneBit (set words (n / 64) v) words n b
unfolding is_set
one_bit words n v b within here kept = record {
  it = rw get_or-set_same here;
  others = λ q other. elim (cases_eq (q / 64) (n / 64)) [
    | inl word ↦ rw (word, get_or-set_same) (rw (kept (q % 64) (omega arith) (λ place. other (same_number q n word place))) refl)
    | inr word ↦ rw get_or-set_other refl
  ];
}

pub put_in : (words : List ℕ) (n : ℕ) → n / 64 < length words
    → OneBit (set words (n / 64) (bit_or (get_or words (n / 64) 0) (1 * 2 ^ (n % 64) % 2 ^ 64))) words n true
put_in words n within =
    let low : n % 64 < 64 = omega arith in
    one_bit words n _ true within (ap (λ x. eqb x 1) (bit_at_set_same w64 _ _ low)) (λ i _ other. bit_at_set_other w64 _ _ low i other)

pub taken_out : (words : List ℕ) (n : ℕ) → n / 64 < length words
    → OneBit (set words (n / 64) (bit_and (get_or words (n / 64) 0) (bit_not w64 (1 * 2 ^ (n % 64) % 2 ^ 64)))) words n false
taken_out words n within =
    let low : n % 64 < 64 = omega arith in
    one_bit words n _ false within (ap (λ x. eqb x 1) (bit_at_clear_same w64 _ _ low)) (λ i short other. bit_at_clear_other w64 _ _ low i short other)

-- ---- all bits

bits_left : (new old : List ℕ) (n : ℕ) (b : Bool) → OneBit new old n b → (from count : ℕ) → n < from → bits_from new from count ≡ bits_from old from count
bits_left new old n b o from zero above = refl
bits_left new old n b o from (suc more) above =
    rw (o.others from (omega (arith, above))) (ap (λ (l : List Bool). is_set old from ∷ l) (bits_left new old n b o (suc from) more (omega (arith, above))))

bits_with : (new old : List ℕ) (n : ℕ) (b : Bool) → OneBit new old n b → (from k count : ℕ) → from + k ≡ n → bits_from new from count ≡ set (bits_from old from count) k b
bits_with new old n b o from k zero e = refl
bits_with new old n b o from zero (suc more) e =
    let same : from ≡ n = omega (arith, e) in
    rw same (rw o.it (ap (λ (l : List Bool). b ∷ l) (bits_left new old n b o (suc n) more (omega arith))))
bits_with new old n b o from (suc k) (suc more) e =
    rw (o.others from (omega (arith, e))) (ap (λ (l : List Bool). is_set old from ∷ l) (bits_with new old n b o (suc from) k more (omega (arith, e))))

pub marks_with : (new old : List ℕ) (n : ℕ) (b : Bool) → OneBit new old n b → marks_of new ≡ set (marks_of old) n b
unfolding marks_of
marks_with new old n b o = bits_with new old n b o 0 n 233 (omega arith)

pub has_nodes_with : (new old : List ℕ) (n : ℕ) (b : Bool) → OneBit new old n b → 1 ≤ n → n ≤ 232 → HasNodes old → HasNodes new
has_nodes_with new old n b o from to has = λ q e. elim (cases_eq q n) [
  | inl same ↦ (omega (arith, from, same), omega (arith, to, same))
  | inr other ↦ has q (sym (o.others q other) ∙ e)
]

-- ---- no bit

-- all words are 0
pub record NoBits (words : List ℕ) : Type 0 where
  pub none : (q : ℕ) → is_set words q ≡ false

pub no_bits : (words : List ℕ) → ((k : ℕ) → get_or words k 0 ≡ 0) → NoBits words
unfolding is_set
no_bits words zeros = record { none = λ q. rw (zeros (q / 64)) (rw bit_at-zero refl) }

pub none_from : (words : List ℕ) → NoBits words → (from count : ℕ) → bits_from words from count ≡ replicate count false
none_from words n from zero = refl
none_from words n from (suc more) = rw (n.none from) (ap (λ (l : List Bool). false ∷ l) (none_from words n (suc from) more))

pub no_marks_of : (words : List ℕ) → NoBits words → marks_of words ≡ no_marks
unfolding marks_of no_marks
no_marks_of words n = none_from words n 0 233

pub no_nodes : (words : List ℕ) → NoBits words → HasNodes words
no_nodes words n = λ q e. absurd (not_both (is_set words q) e (n.none q))
  where
    not_both : (b : Bool) → b ≡ true → b ≡ false → ⊥
    not_both b e f = cc

-- ---- a mark is a bit

bit_of : (words : List ℕ) (from count k : ℕ) → k < count → get_or (bits_from words from count) k false ≡ is_set words (from + k)
bit_of words from zero k within = absurd (omega (arith, within))
bit_of words from (suc more) zero within = let e : from ≡ from + 0 = omega arith in ap (λ n. is_set words n) e
bit_of words from (suc more) (suc k) within =
    let e : suc from + k ≡ from + suc k = omega arith in bit_of words (suc from) more k (omega (arith, within)) ∙ ap (λ n. is_set words n) e

pub mark_is_bit : (words : List ℕ) (k : ℕ) → k ≤ 232 → is_marked (marks_of words) k ≡ is_set words k
unfolding marks_of
mark_is_bit words k within = let e : 0 + k ≡ k = omega arith in bit_of words 0 233 k (omega (arith, within)) ∙ ap (λ n. is_set words n) e

-- ---- the next bit of a word

bit_at-shr : (w k i : ℕ) → bit_at (w / 2 ^ k) i ≡ bit_at w (k + i)
bit_at-shr w k i = ap (λ x. x % 2) (shr-shr w k i)

-- the rest of the word of a number has no bit
pub record RestHasNone (words : List ℕ) (from : ℕ) : Type 0 where
  pub none : (q : ℕ) → from ≤ q → q < (from / 64 + 1) * 64 → is_set words q ≡ false

-- its first bit from there on stands so far from it
pub record RestHas (words : List ℕ) (from far : ℕ) : Type 0 where
  pub within : from + far < (from / 64 + 1) * 64
  pub it : is_set words (from + far) ≡ true
  pub before : (q : ℕ) → from ≤ q → q < from + far → is_set words q ≡ false

rest_bit : (words : List ℕ) (from q : ℕ) → from ≤ q → q < (from / 64 + 1) * 64
    → is_set words q ≡ eqb (bit_at (get_or words (from / 64) 0 / 2 ^ (from % 64)) (q - from)) 1
unfolding is_set
rest_bit words from q above below =
    let word : q / 64 ≡ from / 64 = omega (arith, above, below) in
    let place : q % 64 ≡ from % 64 + (q - from) = omega (arith, above, below) in
    rw (word, place) (ap (λ x. eqb x 1) (sym (bit_at-shr (get_or words (from / 64) 0) (from % 64) (q - from))))

pub rest_has_none : (words : List ℕ) (from : ℕ) → get_or words (from / 64) 0 / 2 ^ (from % 64) ≡ 0 → RestHasNone words from
rest_has_none words from empty = record {
  none = λ q above below. rest_bit words from q above below ∙ rw empty (rw bit_at-zero refl);
}

-- a bit of a word above some place, where the bits from that place on are a number
in_word : (w k t : ℕ) → w < 2 ^ 64 → bit_at (w / 2 ^ k) t ≡ 1 → k + t < 64
in_word w k t fits one = elim (cases_lt (k + t) 64) [
  | inl within ↦ within
  | inr past ↦
      let none : bit_at w (k + t) ≡ 0 = bit_at_above w 64 (k + t) fits past in
      let one_here : bit_at w (k + t) ≡ 1 = sym (bit_at-shr w k t) ∙ one in absurd (omega (arith, none, one_here))
]

pub rest_has : (words : List ℕ) (from : ℕ) → 0 < get_or words (from / 64) 0 / 2 ^ (from % 64) → get_or words (from / 64) 0 < 2 ^ 64
    → RestHas words from (trailing_zeros w64 (get_or words (from / 64) 0 / 2 ^ (from % 64)))
rest_has words from some fits =
    let word = get_or words (from / 64) 0 in
    let k = from % 64 in
    let rest = word / 2 ^ k in
    let t = trailing_zeros w64 rest in
    let less : rest ≤ word = shr_le word k in
    let low = bit_at-trailing_zeros w64 rest some (omega (arith, less, fits)) in
    let within : k + t < 64 = in_word word k t fits low.1 in
    let inside : from + t < (from / 64 + 1) * 64 = omega (arith, within) in
    let back : from + t - from ≡ t = omega arith in
    record {
      within = inside;
      it = rest_bit words from (from + t) (omega arith) inside ∙ ap (λ x. eqb (bit_at rest x) 1) back ∙ ap (λ x. eqb x 1) low.1;
      before = λ q above below.
          rest_bit words from q above (omega (arith, below, inside)) ∙ ap (λ x. eqb x 1) (low.2 (q - from) (omega (arith, above, below)));
    }

-- ---- the next node

-- no bit stands between a number and the one looked at
pub record Passed (words : List ℕ) (number from : ℕ) : Type 0 where
  pub above : number < from
  pub none : (q : ℕ) → number < q → q < from → is_set words q ≡ false

pub passed_word : (words : List ℕ) (number from : ℕ) → Passed words number from → RestHasNone words from → Passed words number ((from / 64 + 1) * 64)
passed_word words number from p r = record {
  above = omega (arith, p.above);
  none = λ q above below. elim (cases_lt q from) [ inl before ↦ p.none q above before | inr after ↦ r.none q after below ];
}

pub passed_rest : (words : List ℕ) (number from far : ℕ) → HasNodes words → Passed words number from → RestHas words from far
    → least_above (is_marked (marks_of words)) number ≡ Some (from + far)
passed_rest words number from far has p r =
    let node = has (from + far) r.it in
    least_is_found _ number (from + far) (omega (arith, p.above)) node.1 (mark_is_bit words (from + far) node.1 ∙ r.it)
    (λ q above below. mark_is_bit words q (omega (arith, below, node.1)) ∙ elim (cases_lt q from) [
      | inl before ↦ p.none q above before
      | inr after ↦ r.before q after below
    ])

pub passed_all : (words : List ℕ) (number from : ℕ) → 256 ≤ from → Passed words number from → least_above (is_marked (marks_of words)) number ≡ None
passed_all words number from past p =
    no_least_is_found _ number (λ q above within. mark_is_bit words q within ∙ p.none q above (omega (arith, within, past)))

-- ---- a value that is there exactly where a fact holds

pub some_where : {X : Type 0} (P : Type 0) (o : Option X) (v : X) → SomeIff o P v → P → o ≡ Some v
some_where P (Some x) v iff p = ap (λ x. Some x) iff.1
some_where P None v iff p = absurd (iff p)

pub is_some_of : {X : Type 0} (o : Option X) (v : X) → o ≡ Some v → IsSome o
is_some_of (Some x) v e = refl
is_some_of None v e = cc

pub value_of : {X : Type 0} (o : Option X) (v x : X) → o ≡ Some v → o ≡ Some x → x ≡ v
value_of o v x e f = let g : Some x ≡ Some v = sym f ∙ e in cc
