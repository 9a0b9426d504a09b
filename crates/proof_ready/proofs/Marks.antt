-- The marks of a list of nodes.
use Rattle.std.proofs.Common.{◌≡◌, ℕ, zero, suc, ◌+◌, ◌<◌, ◌≤◌, ◌==◌, false, List, length, refl, ap, ◌∙◌, arith}
use Rattle.std.specs.List.{list_any}
use Rattle.chip_sim.specs.Nodes.{is_marked}
use Rattle.proof_ready.specs.Ready.{marks_from, marks_of}

marked_from : (nodes : List ℕ) (number count n : ℕ) → n < count → is_marked (marks_from nodes number count) n ≡ list_any (λ one. one == n + number) nodes
marked_from nodes number zero n within = absurd (omega (arith, within))
marked_from nodes number (suc count) zero within =
    let same : number ≡ 0 + number = omega arith in
    ap (λ (k : ℕ). list_any (λ one. one == k) nodes) same
marked_from nodes number (suc count) (suc n) within =
    let same : n + suc number ≡ suc n + number = omega arith in
    marked_from nodes (suc number) count n (omega (arith, within)) ∙ ap (λ (k : ℕ). list_any (λ one. one == k) nodes) same

many_from : (nodes : List ℕ) (number count : ℕ) → length (marks_from nodes number count) ≡ count
many_from nodes number zero = refl
many_from nodes number (suc count) = ap suc (many_from nodes (suc number) count)

none_beyond : (nodes : List ℕ) (number count n : ℕ) → count ≤ n → is_marked (marks_from nodes number count) n ≡ false
none_beyond nodes number zero n far = refl
none_beyond nodes number (suc count) zero far = absurd (omega (arith, far))
none_beyond nodes number (suc count) (suc n) far = none_beyond nodes (suc number) count n (omega (arith, far))

pub many_marks : (nodes : List ℕ) → length (marks_of nodes) ≡ 233
unfolding marks_of
many_marks nodes = many_from nodes 0 233

pub marked_is : (nodes : List ℕ) (n : ℕ) → n ≤ 232 → is_marked (marks_of nodes) n ≡ list_any (λ one. one == n) nodes
unfolding marks_of
marked_is nodes n within =
    let same : n + 0 ≡ n = omega arith in
    marked_from nodes 0 233 n (omega (arith, within)) ∙ ap (λ (k : ℕ). list_any (λ one. one == k) nodes) same

pub unmarked_beyond : (nodes : List ℕ) (n : ℕ) → 233 ≤ n → is_marked (marks_of nodes) n ≡ false
unfolding marks_of
unmarked_beyond nodes n far = none_beyond nodes 0 233 n far
