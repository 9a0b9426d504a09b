-- The nodes of which something is true, found one after another.
use Rattle.std.proofs.Common.{◌≡◌, ℕ, zero, suc, ◌+◌, ◌<◌, ◌≤◌, Bool, true, false, cond, eqb, ltb, List, [], ◌∷◌, ◌++◌, refl, sym, ap, ◌∙◌, arith, add-one}
use Rattle.std.specs.Prelude.{filter}
use Rattle.std.specs.List.{range_with_len}
use Rattle.std.proofs.lemmas.Bool.{le-ltb, ne_eqb}
use Rattle.std.proofs.lemmas.List.{append-nil}
use Rattle.chip_functions.specs.Mask.{with_node}
use Rattle.chip_sim.specs.Nodes.{nodes_where}
use Rattle.chip_functions.proofs.MaskLemmas.{longer}

-- all of these are below a number
abbrev Below : ℕ → List ℕ → Type 0
Below m [] = Unit {0}
Below m (k ∷ xs) = (k < m) × Below m xs

-- its numbers are below its end
all_below : (p : ℕ → Bool) (n a m : ℕ) → a + n ≤ m → Below m (filter p (range_with_len a n))
all_below p zero a m le = tt
all_below p (suc n) a m le =
    let ih = all_below p n (a + 1) m (omega arith) in
    let xs = filter p (range_with_len (a + 1) n) in
    let both : (t : Bool) → Below m (cond t (a ∷ xs) xs) = λ (t : Bool). elim t as (λ t. Below m (cond t (a ∷ xs) xs)) [ true ↦ (omega arith, ih) | false ↦ ih ] in
    both (p a)

-- a node above all others comes last
with_last : (n : ℕ) (xs : List ℕ) → Below n xs → with_node n xs ≡ xs ++ n ∷ []
with_last n [] h = refl
with_last n (m ∷ xs) h =
    let above : ltb n m ≡ false = le-ltb n m (omega (arith, h.0)) in
    let other : eqb n m ≡ false = ne_eqb n m (λ e. omega (arith, h.0, e)) in
    rw (above, other) (ap (λ (t : List ℕ). m ∷ t) (with_last n xs h.1))

-- the next node is one of them
pub next_in : (test : ℕ → Bool) (k n : ℕ) → n ≡ k + 1 → test n ≡ true → filter test (range_with_len 1 (k + 1)) ≡ with_node n (filter test (range_with_len 1 k))
next_in test k n e is_one =
    ap (λ (j : ℕ). filter test (range_with_len 1 j)) (add-one k)
    ∙ longer test k 1 n (omega arith)
    ∙ ap (λ (b : Bool). filter test (range_with_len 1 k) ++ cond b (n ∷ []) []) is_one
    ∙ sym (with_last n (filter test (range_with_len 1 k)) (all_below test k 1 n (omega arith)))

-- or it is not
pub next_out : (test : ℕ → Bool) (k n : ℕ) → n ≡ k + 1 → test n ≡ false → filter test (range_with_len 1 (k + 1)) ≡ filter test (range_with_len 1 k)
next_out test k n e is_none =
    ap (λ (j : ℕ). filter test (range_with_len 1 j)) (add-one k)
    ∙ longer test k 1 n (omega arith)
    ∙ ap (λ (b : Bool). filter test (range_with_len 1 k) ++ cond b (n ∷ []) []) is_none
    ∙ append-nil (filter test (range_with_len 1 k))

-- all of them
pub all_nodes : (test : ℕ → Bool) (k : ℕ) → k ≡ 232 → filter test (range_with_len 1 k) ≡ nodes_where test
unfolding nodes_where
all_nodes test k e = ap (λ (j : ℕ). filter test (range_with_len 1 j)) e
