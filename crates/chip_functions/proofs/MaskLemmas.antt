-- A mask and the nodes in it say the same.
use Rattle.std.proofs.Common.{◌≡◌, ◌≢◌, ℕ, zero, suc, ◌+◌, ◌-◌, ◌*◌, ◌/◌, ◌%◌, ◌^◌, ◌<◌, ◌≤◌, Bool, true, false, cond, eqb, ltb, List, [], ◌∷◌, ◌++◌, length, get_or, refl, sym, ap, subst, ◌∙◌, arith, inl, inr, eq-eqb, lit<, lit≤, get_or-set_same, get_or-set_other, add-one}
use Rattle.std.specs.Prelude.{map, filter, ◌↔◌, Contains, replicate, bit_and, bit_or, IsTrue}
use Rattle.std.proofs.Math.ListN.{set}
use Rattle.std.specs.List.{range_with_len}
use Rattle.std.specs.Int.{bit_at, w8}
use Rattle.std.proofs.lemmas.Bool.{cases_lt, cases_eq, ne_eqb, lt-ltb, le-ltb, or_left, or_right, false_from_ne_true, both_ways}
use Rattle.std.proofs.lemmas.List.{append-nil}
use Rattle.std.proofs.lemmas.List.FromFn.{fill_by_all, length-map-range_with_len, get_or-map-range_with_len}
use Rattle.std.proofs.lemmas.Nat.Bits.{shr_and_one, bit_at_set_same, bit_at_set_other, bit_at-lt, bit_at_cat_low, bit_at_cat_high, same_from_bits_below}
use Rattle.std.proofs.Math.Nat.{pow-suc}
use Rattle.chip_functions.specs.Mask.{IsBytes, with_node, AreNodesFrom, AreNodes, is_marked, is_among, nodes_of, number_with, mask_of}

-- ---- a number by its bits

number_with-lt : (k : ℕ) (test : ℕ → Bool) → number_with k test < 2 ^ k
number_with-lt zero test = lit< tt
number_with-lt (suc k) test =
    let ih = number_with-lt k test in
    let e : 2 ^ suc k ≡ 2 ^ k * 2 = pow-suc 2 k in
    elim (test k) as (λ b. cond b 1 0 * 2 ^ k + number_with k test < 2 ^ suc k) [ true ↦ omega (arith, ih, e) | false ↦ omega (arith, ih, e) ]

lowest : (b : Bool) → bit_at (cond b 1 0) 0 ≡ cond b 1 0
lowest true = refl
lowest false = refl

number_with-bit : (k : ℕ) (test : ℕ → Bool) (i : ℕ) → i < k → bit_at (number_with k test) i ≡ cond (test i) 1 0
number_with-bit zero test i lt = absurd (omega arith)
number_with-bit (suc k) test i lt =
    elim (cases_lt i k) [
      | inl below ↦ bit_at_cat_low (cond (test k) 1 0) k (number_with k test) i below ∙ number_with-bit k test i below
      | inr above ↦
          let same : i ≡ k = omega arith in
          let none : i - k ≡ 0 = omega arith in
          bit_at_cat_high (cond (test k) 1 0) k (number_with k test) i (number_with-lt k test) above ∙ ap (bit_at (cond (test k) 1 0)) none ∙ lowest (test k) ∙ ap (λ j. cond (test j) 1 0) (sym same)
    ]

bit_is_test : (b i : ℕ) → bit_at b i ≡ cond (eqb (bit_at b i) 1) 1 0
bit_is_test b i =
    elim (cases_eq (bit_at b i) 1) [
      | inl one ↦ one ∙ sym (ap (λ t. cond t 1 0) (eq-eqb _ _ one))
      | inr other ↦
          let none : bit_at b i ≡ 0 = omega (arith, bit_at-lt b i, other) in
          none ∙ sym (ap (λ t. cond t 1 0) (ne_eqb _ _ other))
    ]

-- a byte is the number with its bits
byte_again : (b : ℕ) (test : ℕ → Bool) → b < 256 → ((i : ℕ) → i < 8 → test i ≡ eqb (bit_at b i) 1) → b ≡ number_with 8 test
byte_again b test lt same = same_from_bits_below 8 b (number_with 8 test) lt (number_with-lt 8 test) (λ i below. bit_is_test b i ∙ ap (λ t. cond t 1 0) (sym (same i below)) ∙ sym (number_with-bit 8 test i below))

-- ---- the nodes that pass a test

none_below : (p : ℕ → Bool) (n a m : ℕ) → m < a → is_among (filter p (range_with_len a n)) m ≡ false
none_below p zero a m lt = refl
none_below p (suc n) a m lt =
    let ih = none_below p n (a + 1) m (omega arith) in
    let other : eqb a m ≡ false = ne_eqb a m (λ e. omega arith) in
    elim (p a) as (λ t. is_among (cond t (a ∷ filter p (range_with_len (a + 1) n)) (filter p (range_with_len (a + 1) n))) m ≡ false) [
      | true ↦ rw other ih
      | false ↦ ih
    ]

pub among_range : (p : ℕ → Bool) (n a m : ℕ) → a ≤ m → m < a + n → is_among (filter p (range_with_len a n)) m ≡ p m
among_range p zero a m le lt = absurd (omega arith)
among_range p (suc n) a m le lt =
    elim (cases_eq a m) [
      | inl same ↦
          let hit : eqb a m ≡ true = eq-eqb a m same in
          let none : is_among (filter p (range_with_len (a + 1) n)) m ≡ false = none_below p n (a + 1) m (omega arith) in
          let here : (t : Bool) → is_among (cond t (a ∷ filter p (range_with_len (a + 1) n)) (filter p (range_with_len (a + 1) n))) m ≡ t = λ (t : Bool). elim t as (λ t. is_among (cond t (a ∷ filter p (range_with_len (a + 1) n)) (filter p (range_with_len (a + 1) n))) m ≡ t) [ true ↦ rw hit refl | false ↦ none ] in
          here (p a) ∙ ap p same
      | inr other ↦
          let miss : eqb a m ≡ false = ne_eqb a m other in
          let ih : is_among (filter p (range_with_len (a + 1) n)) m ≡ p m = among_range p n (a + 1) m (omega arith) (omega arith) in
          elim (p a) as (λ t. is_among (cond t (a ∷ filter p (range_with_len (a + 1) n)) (filter p (range_with_len (a + 1) n))) m ≡ p m) [ true ↦ rw miss ih | false ↦ ih ]
    ]

place_of_bit : (i k : ℕ) → k < 8 → ((8 * i + k + 1 - 1) / 8 ≡ i) × ((8 * i + k + 1 - 1) % 8 ≡ k)
place_of_bit i k lt = (omega arith, omega arith)

-- the bytes of a mask are those of the nodes in it
pub mask_of-nodes_of : (bytes : List ℕ) → length bytes ≡ 29 → IsBytes bytes → bytes ≡ mask_of (nodes_of bytes)
unfolding mask_of nodes_of
mask_of-nodes_of bytes long fits =
    fill_by_all (λ i. number_with 8 (λ k. is_among (filter (is_marked bytes) (range_with_len 1 232)) (8 * i + k + 1))) bytes 29 0 long
    (λ i lt. byte_again (get_or bytes i 0) (λ k. is_among (filter (is_marked bytes) (range_with_len 1 232)) (8 * i + k + 1)) (fits i)
    (λ k below.
    let at = place_of_bit i k below in
    among_range (is_marked bytes) 232 1 (8 * i + k + 1) (omega arith) (omega arith) ∙ ap (λ (j : ℕ × ℕ). eqb (bit_at (get_or bytes j.0 0) j.1) 1) (cc)))

pub mask_len : (nodes : List ℕ) → length (mask_of nodes) ≡ 29
unfolding mask_of
mask_len nodes = length-map-range_with_len (λ i. number_with 8 (λ k. is_among nodes (8 * i + k + 1))) 0 29

-- ---- nodes in order

lower : (least : ℕ) (nodes : List ℕ) → AreNodesFrom (least + 1) nodes → AreNodesFrom least nodes
lower least [] h = tt
lower least (n ∷ nodes) h = (omega (arith, h.0), h.1, h.2)

rising_filter : (p : ℕ → Bool) (n a : ℕ) → a + n ≤ 233 → AreNodesFrom a (filter p (range_with_len a n))
rising_filter p zero a le = tt
rising_filter p (suc n) a le =
    let ih : AreNodesFrom (a + 1) (filter p (range_with_len (a + 1) n)) = rising_filter p n (a + 1) (omega arith) in
    elim (p a) as (λ t. AreNodesFrom a (cond t (a ∷ filter p (range_with_len (a + 1) n)) (filter p (range_with_len (a + 1) n)))) [
      | true ↦ (omega arith, omega arith, ih)
      | false ↦ lower a (filter p (range_with_len (a + 1) n)) ih
    ]

pub are_nodes : (bytes : List ℕ) → AreNodes (nodes_of bytes)
unfolding nodes_of
are_nodes bytes = rising_filter (is_marked bytes) 232 1 (lit≤ tt)

none_rising : (least : ℕ) (nodes : List ℕ) (m : ℕ) → AreNodesFrom least nodes → m < least → is_among nodes m ≡ false
none_rising least [] m h lt = refl
none_rising least (n ∷ nodes) m h lt =
    let miss : eqb n m ≡ false = ne_eqb n m (λ e. omega (arith, h.0)) in
    rw miss (none_rising (n + 1) nodes m h.2 (omega (arith, h.0)))

-- the nodes in order are those of the range that are among them
among_again : (p : ℕ → Bool) (n a : ℕ) (nodes : List ℕ) → a + n ≡ 233 → AreNodesFrom a nodes → ((m : ℕ) → a ≤ m → m < 233 → p m ≡ is_among nodes m) → filter p (range_with_len a n) ≡ nodes
among_again p zero a [] e h same = refl
among_again p zero a (m ∷ nodes) e h same = absurd (omega (arith, h.0, h.1))
among_again p (suc n) a [] e h same =
    let skip : p a ≡ false = same a (omega arith) (omega arith) in
    let ih : filter p (range_with_len (a + 1) n) ≡ [] = among_again p n (a + 1) [] (omega arith) tt (λ m le lt. same m (omega arith) lt) in
    rw skip ih
among_again p (suc n) a (m ∷ nodes) e h same =
    elim (cases_eq a m) [
      | inl here ↦
          let hit : eqb m a ≡ true = eq-eqb m a (sym here) in
          let keep : p a ≡ true = same a (omega arith) (omega arith) ∙ rw hit refl in
          let later : AreNodesFrom (a + 1) nodes = subst (λ (k : ℕ). AreNodesFrom (k + 1) nodes) (sym here) h.2 in
          let ih : filter p (range_with_len (a + 1) n) ≡ nodes = among_again p n (a + 1) nodes (omega arith) later (λ k le lt.
          let miss : eqb m k ≡ false = ne_eqb m k (λ q. omega arith) in
          same k (omega arith) lt ∙ rw miss refl) in
          rw keep (ap (λ (xs : List ℕ). a ∷ xs) ih ∙ ap (λ (k : ℕ). k ∷ nodes) here)
      | inr other ↦
          let above : AreNodesFrom (a + 1) (m ∷ nodes) = (omega (arith, h.0, other), h.1, h.2) in
          let skip : p a ≡ false = same a (omega arith) (omega arith) ∙ none_rising (a + 1) (m ∷ nodes) a above (omega arith) in
          let ih : filter p (range_with_len (a + 1) n) ≡ m ∷ nodes = among_again p n (a + 1) (m ∷ nodes) (omega arith) above (λ k le lt. same k (omega arith) lt) in
          rw skip ih
    ]

one_of : (t : Bool) → eqb (cond t 1 0) 1 ≡ t
one_of true = refl
one_of false = refl

marked_again : (nodes : List ℕ) (n : ℕ) → 1 ≤ n → n < 233 → is_marked (mask_of nodes) n ≡ is_among nodes n
unfolding mask_of
marked_again nodes n le lt =
    let f : ℕ → ℕ = λ (i : ℕ). number_with 8 (λ k. is_among nodes (8 * i + k + 1)) in
    let i = (n - 1) / 8 in
    let k = (n - 1) % 8 in
    let byte : get_or (map f (range_with_len 0 29)) i 0 ≡ f i = get_or-map-range_with_len f 0 29 i i 0 (omega arith) (omega arith) in
    let whole : 8 * i + k + 1 ≡ n = omega arith in
    ap (λ (b : ℕ). eqb (bit_at b k) 1) byte ∙ ap (λ (b : ℕ). eqb b 1) (number_with-bit 8 (λ (j : ℕ). is_among nodes (8 * i + j + 1)) k (omega arith)) ∙ one_of (is_among nodes (8 * i + k + 1)) ∙ ap (is_among nodes) whole

-- the nodes of the mask of nodes are these nodes
pub nodes_of-mask_of : (nodes : List ℕ) → AreNodes nodes → nodes_of (mask_of nodes) ≡ nodes
unfolding nodes_of
nodes_of-mask_of nodes h = among_again (is_marked (mask_of nodes)) 232 1 nodes (refl) h (λ m le lt. marked_again nodes m le lt)

-- ---- the calls of a mask

pub no_nodes : nodes_of (replicate 29 0) ≡ []
unfolding nodes_of
no_nodes = refl

-- a node that the test finds is in the list, and the other way round
found_in : (nodes : List ℕ) (n : ℕ) → is_among nodes n ≡ true → Contains nodes n
found_in [] n e = absurd cc
found_in (m ∷ nodes) n e =
    elim (cases_eq m n) [
      | inl same ↦ (0, omega arith, same)
      | inr other ↦
          let miss : eqb m n ≡ false = ne_eqb m n other in
          let r = found_in nodes n (rw miss at e) in
          (suc r.0, omega (arith, r.1), r.2)
    ]

is_there : (nodes : List ℕ) (n k : ℕ) → k < length nodes → get_or nodes k n ≡ n → is_among nodes n ≡ true
is_there [] n k lt e = absurd (omega arith)
is_there (m ∷ nodes) n zero lt e = or_left (eqb m n) (is_among nodes n) (eq-eqb m n e)
is_there (m ∷ nodes) n (suc k) lt e = or_right (eqb m n) (is_among nodes n) (is_there nodes n k (omega arith) e)

pub among_contains : (nodes : List ℕ) (n : ℕ) → (is_among nodes n ≡ true) ↔ Contains nodes n
among_contains nodes n = (found_in nodes n, λ h. is_there nodes n h.0 h.1 h.2)

-- a node's bit says whether the node is there
pub marked_contains : (bytes : List ℕ) (n : ℕ) → 1 ≤ n → n ≤ 232 → (is_marked bytes n ≡ true) ↔ Contains (nodes_of bytes) n
unfolding nodes_of
marked_contains bytes n le lt =
    let nodes = filter (is_marked bytes) (range_with_len 1 232) in
    let same : is_among nodes n ≡ is_marked bytes n = among_range (is_marked bytes) 232 1 n le (omega arith) in
    let known = among_contains nodes n in
    (λ h. known.0 (same ∙ h), λ h. sym same ∙ known.1 h)

-- the test of the bit that the code makes
pub test_contains : (bytes nodes : List ℕ) (n m : ℕ) → n ≡ m → 1 ≤ n → n ≤ 232 → nodes_of bytes ≡ nodes → IsTrue (eqb (bit_and (get_or bytes ((n - 1) / 8) 0 / 2 ^ ((n - 1) % 8)) 1) 1) ↔ Contains nodes m
test_contains bytes nodes n m same le lt view =
    let bit : eqb (bit_and (get_or bytes ((n - 1) / 8) 0 / 2 ^ ((n - 1) % 8)) 1) 1 ≡ is_marked bytes n = ap (λ (b : ℕ). eqb b 1) (shr_and_one (get_or bytes ((n - 1) / 8) 0) ((n - 1) % 8)) in
    let known = marked_contains bytes n le lt in (
      λ h. subst (λ (k : ℕ). Contains nodes k) same (subst (λ (ns : List ℕ). Contains ns n) view (known.0 (sym bit ∙ h))),
      λ h. bit ∙ known.1 (subst (λ (ns : List ℕ). Contains ns n) (sym view) (subst (λ (k : ℕ). Contains nodes k) (sym same) h)),
    )

-- the test for a node and the one for all others
filter_same : (p q : ℕ → Bool) (n a : ℕ) → ((m : ℕ) → a ≤ m → m < a + n → p m ≡ q m) → filter p (range_with_len a n) ≡ filter q (range_with_len a n)
filter_same p q zero a same = refl
filter_same p q (suc n) a same =
    let ih : filter p (range_with_len (a + 1) n) ≡ filter q (range_with_len (a + 1) n) = filter_same p q n (a + 1) (λ m le lt. same m (omega arith) (omega arith)) in
    rw (same a (omega arith) (omega arith), ih) refl

-- a node below all of these goes first
first_of_all : (n : ℕ) (nodes : List ℕ) → AreNodesFrom (n + 1) nodes → with_node n nodes ≡ n ∷ nodes
first_of_all n [] h = refl
first_of_all n (m ∷ nodes) h =
    let below : ltb n m ≡ true = lt-ltb n m (omega (arith, h.0)) in
    rw below refl

-- one more bit is one more node
one_more : (p q : ℕ → Bool) (k n a : ℕ) → a + n ≤ 233 → a ≤ k → k < a + n → q k ≡ true → ((m : ℕ) → a ≤ m → m ≢ k → q m ≡ p m) → filter q (range_with_len a n) ≡ with_node k (filter p (range_with_len a n))
one_more p q k zero a room le lt set others = absurd (omega arith)
one_more p q k (suc n) a room le lt set others =
    let ps = filter p (range_with_len (a + 1) n) in
    let qs = filter q (range_with_len (a + 1) n) in
    elim (cases_eq a k) [
      | inl here ↦
          let rest : qs ≡ ps = filter_same q p n (a + 1) (λ m low high. others m (omega arith) (λ e. omega arith)) in
          let above : AreNodesFrom (k + 1) ps = subst (λ (j : ℕ). AreNodesFrom (j + 1) ps) here (rising_filter p n (a + 1) (omega arith)) in
          let keep : q a ≡ true = ap q here ∙ set in
          let own : ltb k a ≡ false = le-ltb k a (omega arith) in
          let hit : eqb k a ≡ true = eq-eqb k a (sym here) in
          let old : (t : Bool) → a ∷ ps ≡ with_node k (cond t (a ∷ ps) ps) = λ (t : Bool). elim t as (λ t. a ∷ ps ≡ with_node k (cond t (a ∷ ps) ps)) [ true ↦ rw (own, hit) refl | false ↦ ap (λ (j : ℕ). j ∷ ps) here ∙ sym (first_of_all k ps above) ] in
          rw keep (ap (λ (xs : List ℕ). a ∷ xs) rest ∙ old (p a))
      | inr later ↦
          let ih : qs ≡ with_node k ps = one_more p q k n (a + 1) (omega arith) (omega (arith, later)) (omega arith) set (λ m low ne. others m (omega arith) ne) in
          let same : q a ≡ p a = others a (omega arith) later in
          let own : ltb k a ≡ false = le-ltb k a le in
          let miss : eqb k a ≡ false = ne_eqb k a (λ e. later (sym e)) in
          let old : (t : Bool) → cond t (a ∷ qs) qs ≡ with_node k (cond t (a ∷ ps) ps) = λ (t : Bool). elim t as (λ t. cond t (a ∷ qs) qs ≡ with_node k (cond t (a ∷ ps) ps)) [ true ↦ rw (own, miss) (ap (λ (xs : List ℕ). a ∷ xs) ih) | false ↦ ih ] in
          rw same (old (p a))
    ]

-- the mask with the bit of one more node
abbrev pub with_bit : ℕ → List ℕ → List ℕ
with_bit n bytes = set bytes ((n - 1) / 8) (bit_or (get_or bytes ((n - 1) / 8) 0) (1 * 2 ^ ((n - 1) % 8) % 256))

with_bit-same : (n : ℕ) (bytes : List ℕ) → length bytes ≡ 29 → 1 ≤ n → n ≤ 232 → is_marked (with_bit n bytes) n ≡ true
with_bit-same n bytes long le lt =
    let at : (n - 1) / 8 < length bytes = omega arith in
    let one = bit_at_set_same w8 (get_or bytes ((n - 1) / 8) 0) ((n - 1) % 8) (omega arith) in
    rw (get_or-set_same bytes ((n - 1) / 8) (bit_or (get_or bytes ((n - 1) / 8) 0) (1 * 2 ^ ((n - 1) % 8) % 256)) 0 at) (eq-eqb _ _ one)

with_bit-other : (n : ℕ) (bytes : List ℕ) → length bytes ≡ 29 → 1 ≤ n → n ≤ 232 → (m : ℕ) → 1 ≤ m → m ≢ n → is_marked (with_bit n bytes) m ≡ is_marked bytes m
with_bit-other n bytes long le lt m low ne =
    let i = (n - 1) / 8 in
    let k = (n - 1) % 8 in
    let new = bit_or (get_or bytes i 0) (1 * 2 ^ k % 256) in
    elim (cases_eq ((m - 1) / 8) i) [
      | inl same ↦
          let apart : (m - 1) % 8 ≢ k = λ e. ne (omega arith) in
          let bit : bit_at new ((m - 1) % 8) ≡ bit_at (get_or bytes i 0) ((m - 1) % 8) = bit_at_set_other w8 (get_or bytes i 0) k (omega arith) ((m - 1) % 8) apart in
          let at : get_or (set bytes i new) i 0 ≡ new = get_or-set_same bytes i new 0 (omega arith) in
          let whole : bit_at (get_or (set bytes i new) i 0) ((m - 1) % 8) ≡ bit_at (get_or bytes i 0) ((m - 1) % 8) = ap (λ (b : ℕ). bit_at b ((m - 1) % 8)) at ∙ bit in
          subst (λ (j : ℕ). eqb (bit_at (get_or (set bytes i new) j 0) ((m - 1) % 8)) 1 ≡ eqb (bit_at (get_or bytes j 0) ((m - 1) % 8)) 1) (sym same) (ap (λ (b : ℕ). eqb b 1) whole)
      | inr other ↦ ap (λ (b : ℕ). eqb (bit_at b ((m - 1) % 8)) 1) (get_or-set_other bytes i ((m - 1) / 8) new 0 other)
    ]

pub with_bit-nodes : (n : ℕ) (bytes : List ℕ) → length bytes ≡ 29 → 1 ≤ n → n ≤ 232 → nodes_of (with_bit n bytes) ≡ with_node n (nodes_of bytes)
unfolding nodes_of
with_bit-nodes n bytes long le lt = one_more (is_marked bytes) (is_marked (with_bit n bytes)) n 232 1 (lit≤ tt) le (omega arith) (with_bit-same n bytes long le lt) (λ m low ne. with_bit-other n bytes long le lt m low ne)

-- the nodes of a range with one more number
pub longer : (p : ℕ → Bool) (n a m : ℕ) → a + n ≡ m → filter p (range_with_len a (suc n)) ≡ filter p (range_with_len a n) ++ cond (p m) (m ∷ []) []
longer p zero a m e =
    let same : a ≡ m = omega arith in
    ap (λ (j : ℕ). cond (p j) (j ∷ []) []) same
longer p (suc n) a m e =
    let ih : filter p (range_with_len (a + 1) (suc n)) ≡ filter p (range_with_len (a + 1) n) ++ cond (p m) (m ∷ []) [] = longer p n (a + 1) m (omega arith) in
    let xs = filter p (range_with_len (a + 1) (suc n)) in
    let ys = filter p (range_with_len (a + 1) n) in
    let last = cond (p m) (m ∷ []) [] in
    let both : (t : Bool) → cond t (a ∷ xs) xs ≡ cond t (a ∷ ys) ys ++ last = λ (t : Bool). elim t as (λ t. cond t (a ∷ xs) xs ≡ cond t (a ∷ ys) ys ++ last) [ true ↦ ap (λ (zs : List ℕ). a ∷ zs) ih | false ↦ ih ] in
    both (p a)

-- the nodes so far, as the loop over all of them goes on
abbrev pub nodes_below : List ℕ → ℕ → List ℕ
nodes_below nodes count = filter (is_among nodes) (range_with_len 1 count)

pub next_below : (nodes : List ℕ) (count : ℕ) → nodes_below nodes (count + 1) ≡ nodes_below nodes count ++ cond (is_among nodes (count + 1)) ((count + 1) ∷ []) []
next_below nodes count =
    let more = longer (is_among nodes) count 1 (count + 1) (omega arith) in
    ap (λ (k : ℕ). filter (is_among nodes) (range_with_len 1 k)) (add-one count) ∙ more

pub all_below : (nodes : List ℕ) → AreNodes nodes → nodes_below nodes 232 ≡ nodes
all_below nodes h = among_again (is_among nodes) 232 1 nodes refl h (λ m le lt. refl)

-- a node that is not there adds nothing
pub skip_next : (nodes prefix : List ℕ) (place n : ℕ) (b : Bool) → n ≡ place + 1 → IsTrue b ↔ Contains nodes n → b ≡ false → prefix ≡ prefix ++ cond (is_among nodes (place + 1)) ((place + 1) ∷ []) []
skip_next nodes prefix place n b same known none =
    let miss : is_among nodes (place + 1) ≡ false =
    false_from_ne_true (is_among nodes (place + 1)) (λ t.
    let there : Contains nodes n = subst (λ (k : ℕ). Contains nodes k) (sym same) ((among_contains nodes (place + 1)).0 t) in
    both_ways b none (known.1 there)) in
    rw miss (sym (append-nil prefix))
