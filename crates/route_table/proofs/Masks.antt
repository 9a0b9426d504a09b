-- Masks of nodes: what a change of their words does to the nodes that they hold.
use Rattle.std.proofs.Common.{◌≡◌, ℕ, ◌+◌, ◌*◌, ◌/◌, ◌%◌, ◌^◌, ◌<◌, ◌≤◌, ◌≢◌, Bool, true, false, cond, not, ◌||◌, ◌&&◌, List, length, get_or, set, min, max, bit_and, bit_or, eqb, refl, sym, ap, ◌∙◌, arith, get_or-set_same, get_or-set_other, inl, inr, w64}
use Rattle.std.specs.Int.{bit_at, bit_not, trailing_zeros}
use Rattle.std.proofs.lemmas.Nat.Bits.{bit_at_or, bit_at_and, bit_at-zero, bit_at-lt, bit_at_set_same, bit_at_set_other, bit_at_clear_same, bit_at_clear_other, bit_at-trailing_zeros, shr_and_one}
use Rattle.std.proofs.lemmas.Bool.{cases_eq, cases_lt, ne_eqb, eq-eqb}
use Rattle.std.proofs.lemmas.List.{get_or_past}
use Rattle.std.proofs.lemmas.Bool.Decides.{nat_tests}
use Rattle.route_table.specs.NodeSet.{is_set}

one_of_max : (a b : ℕ) → a < 2 → b < 2 → eqb (max a b) 1 ≡ (eqb a 1 || eqb b 1)
one_of_max a b la lb = grind (arith, nat_tests)

one_of_min : (a b : ℕ) → a < 2 → b < 2 → eqb (min a b) 1 ≡ (eqb a 1 && eqb b 1)
one_of_min a b la lb = grind (arith, nat_tests)

cond_or : (b x : Bool) → cond b true x ≡ (b || x)
cond_or true x = refl
cond_or false x = refl

cond_and : (b x : Bool) → cond b false x ≡ (not b && x)
cond_and true x = refl
cond_and false x = refl

same_number : (q n : ℕ) → q / 64 ≡ n / 64 → q % 64 ≡ n % 64 → q ≡ n
same_number q n h l = omega arith

-- the test in the code
pub is_set-test : (words : List ℕ) (n : ℕ) → eqb (bit_and (get_or words (n / 64) 0 / 2 ^ (n % 64)) 1) 1 ≡ is_set words n
unfolding is_set
is_set-test words n = rw shr_and_one refl

pub is_set-or : (us ws vs : List ℕ) → ((k : ℕ) → get_or us k 0 ≡ bit_or (get_or ws k 0) (get_or vs k 0)) → (q : ℕ) → is_set us q ≡ (is_set ws q || is_set vs q)
unfolding is_set
is_set-or us ws vs each q =
    let a = bit_at (get_or ws (q / 64) 0) (q % 64) in
    let b = bit_at (get_or vs (q / 64) 0) (q % 64) in
    rw (each (q / 64)) (rw bit_at_or (one_of_max a b (bit_at-lt _ _) (bit_at-lt _ _)))

pub is_set-and : (us ws vs : List ℕ) → ((k : ℕ) → get_or us k 0 ≡ bit_and (get_or ws k 0) (get_or vs k 0)) → (q : ℕ) → is_set us q ≡ (is_set ws q && is_set vs q)
unfolding is_set
is_set-and us ws vs each q =
    let a = bit_at (get_or ws (q / 64) 0) (q % 64) in
    let b = bit_at (get_or vs (q / 64) 0) (q % 64) in
    rw (each (q / 64)) (rw bit_at_and (one_of_min a b (bit_at-lt _ _) (bit_at-lt _ _)))

-- a change of one word, where bit n of it becomes b and no other bit of it changes
changed : (words : List ℕ) (n v : ℕ) (b : Bool) → n / 64 < length words → eqb (bit_at v (n % 64)) 1 ≡ b → ((i : ℕ) → i < 64 → i ≢ n % 64 → bit_at v i ≡ bit_at (get_or words (n / 64) 0) i) → (q : ℕ) → is_set (set words (n / 64) v) q ≡ cond (eqb q n) b (is_set words q)
unfolding is_set
changed words n v b within here others q =
    elim (cases_eq (q / 64) (n / 64)) [
      | inl word ↦ elim (cases_eq (q % 64) (n % 64)) [
        | inl place ↦ rw (word, place, get_or-set_same) (rw (eq-eqb q n (same_number q n word place)) here)
        | inr place ↦ rw (word, get_or-set_same) (rw (others (q % 64) (omega arith) place) (rw (ne_eqb q n (λ e. place (ap (λ x. x % 64) e))) refl))
      ]
      | inr word ↦ rw get_or-set_other (rw (ne_eqb q n (λ e. word (ap (λ x. x / 64) e))) refl)
    ]

pub is_set-insert : (words : List ℕ) (n : ℕ) → n / 64 < length words → (q : ℕ) → is_set (set words (n / 64) (bit_or (get_or words (n / 64) 0) (1 * 2 ^ (n % 64) % 2 ^ 64))) q ≡ (eqb q n || is_set words q)
is_set-insert words n within q =
    let low : n % 64 < 64 = omega arith in
    changed words n _ true within (ap (λ x. eqb x 1) (bit_at_set_same w64 _ _ low)) (λ i _ other. bit_at_set_other w64 _ _ low i other) q ∙ cond_or (eqb q n) (is_set words q)

pub is_set-remove : (words : List ℕ) (n : ℕ) → n / 64 < length words → (q : ℕ) → is_set (set words (n / 64) (bit_and (get_or words (n / 64) 0) (bit_not w64 (1 * 2 ^ (n % 64) % 2 ^ 64)))) q ≡ (not (eqb q n) && is_set words q)
is_set-remove words n within q =
    let low : n % 64 < 64 = omega arith in
    changed words n _ false within (ap (λ x. eqb x 1) (bit_at_clear_same w64 _ _ low)) (λ i short other. bit_at_clear_other w64 _ _ low i short other) q ∙ cond_and (eqb q n) (is_set words q)

pub is_set-zeros : (words : List ℕ) → ((k : ℕ) → get_or words k 0 ≡ 0) → (q : ℕ) → is_set words q ≡ false
unfolding is_set
is_set-zeros words none q = rw (none (q / 64)) (rw bit_at-zero refl)

-- the lowest bit of the first word that is not 0 is the lowest of all
pub first_bit : (words : List ℕ) (i : ℕ) → ((k : ℕ) → k < i → get_or words k 0 ≡ 0) → get_or words i 0 ≢ 0 → get_or words i 0 < 2 ^ 64 → let n = i * 64 + trailing_zeros w64 (get_or words i 0) in (is_set words n ≡ true) × ((q : ℕ) → q < n → is_set words q ≡ false)
unfolding is_set
first_bit words i below some fits =
    let word = get_or words i 0 in
    let t = trailing_zeros w64 word in
    let positive : 0 < word = omega arith in
    let low = bit_at-trailing_zeros w64 word positive fits in
    let short : t < 64 = low.0 in
    let quotient : (i * 64 + t) / 64 ≡ i = omega arith in
    let remainder : (i * 64 + t) % 64 ≡ t = omega arith in (
      rw (quotient, remainder) (ap (λ x. eqb x 1) low.1),
      λ q less.
          elim (cases_lt (q / 64) i) [
            | inl before ↦ rw (below (q / 64) before) (rw bit_at-zero refl)
            | inr after ↦ let same : q / 64 ≡ i = omega arith in let lower : q % 64 < t = omega arith in rw same (ap (λ x. eqb x 1) (low.2 (q % 64) lower))
          ],
    )

-- past their ends two lists of words agree in zeros
pub no_word : (op : ℕ → ℕ → ℕ) → op 0 0 ≡ 0 → (ws vs : List ℕ) (k : ℕ) → length ws ≤ k → length vs ≤ k → get_or ws k 0 ≡ op (get_or ws k 0) (get_or vs k 0)
no_word op none ws vs k mine its =
    let w : get_or ws k 0 ≡ 0 = get_or_past ws k 0 mine in
    let v : get_or vs k 0 ≡ 0 = get_or_past vs k 0 its in
    rw (w, v) (sym none)
