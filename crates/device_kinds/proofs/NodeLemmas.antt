-- What is left of the nodes that are gone through.
use Rattle.std.proofs.Common.{◌≡◌, ℕ, suc, ◌+◌, ◌-◌, ◌<◌, ◌≤◌, List, [], ◌∷◌, ◌++◌, length, take, Bool, true, false, refl, sym, ◌∙◌, ap, arith, append_assoc}
use Rattle.std.specs.Prelude.{filter, count_by, fold, cond, not, ◌==◌, ◌≢◌}
use Rattle.std.specs.List.{range_with_len}
use Rattle.device_kinds.specs.Kind.{nodes_from}
use Rattle.std.proofs.lemmas.Bool.Decides.{Decides-eqb}
use Rattle.std.proofs.lemmas.List.{take-append-le, take_all}
use Rattle.s0_crypto.proofs.SealingLemmas.{is_false}

pub nodes_more : (before : ℕ) → before < 232 → nodes_from before ≡ (before + 1) ∷ nodes_from (before + 1)
unfolding nodes_from
nodes_more before less =
    let more : 232 - before ≡ suc (232 - (before + 1)) = omega arith in
    ap (range_with_len (before + 1)) more

pub nodes_done : nodes_from 232 ≡ []
unfolding nodes_from
nodes_done = refl

count_from : (p : ℕ → Bool) (start : ℕ) (xs : List ℕ) → fold (λ a x. a + cond (p x) 1 0) start xs ≡ start + count_by p xs
count_from p start [] = omega arith
count_from p start (x ∷ xs) =
    let here = count_from p (start + cond (p x) 1 0) xs in
    let there : count_by p (x ∷ xs) ≡ (0 + cond (p x) 1 0) + count_by p xs = count_from p (0 + cond (p x) 1 0) xs in
    here ∙ omega (arith, there)

count_cons : (p : ℕ → Bool) (x : ℕ) (xs : List ℕ) → count_by p (x ∷ xs) ≡ cond (p x) 1 0 + count_by p xs
count_cons p x xs = count_from p (0 + cond (p x) 1 0) xs ∙ omega arith

pub count_in : (p : ℕ → Bool) (before count total : ℕ) → before < 232 → p (before + 1) ≡ true
    → count + count_by p (nodes_from before) ≡ total → (count + 1) + count_by p (nodes_from (before + 1)) ≡ total
count_in p before count total less in_it is =
    let more : count_by p (nodes_from before) ≡ cond (p (before + 1)) 1 0 + count_by p (nodes_from (before + 1)) = ap (count_by p) (nodes_more before less) ∙ count_cons p (before + 1) (nodes_from (before + 1)) in
    let one : ◌≡◌ {A = ℕ} (cond (p (before + 1)) 1 0) 1 = ap (λ (b : Bool). cond b 1 0) in_it in
    omega (arith, more, one)

pub count_out : (p : ℕ → Bool) (before count total : ℕ) → before < 232 → p (before + 1) ≡ false
    → count + count_by p (nodes_from before) ≡ total → count + count_by p (nodes_from (before + 1)) ≡ total
count_out p before count total less out is =
    let more : count_by p (nodes_from before) ≡ cond (p (before + 1)) 1 0 + count_by p (nodes_from (before + 1)) = ap (count_by p) (nodes_more before less) ∙ count_cons p (before + 1) (nodes_from (before + 1)) in
    let none : ◌≡◌ {A = ℕ} (cond (p (before + 1)) 1 0) 0 = ap (λ (b : Bool). cond b 1 0) out in
    omega (arith, more, none)

pub count_done : (p : ℕ → Bool) (count total : ℕ) → count + count_by p (nodes_from 232) ≡ total → count ≡ total
count_done p count total is =
    let none : count_by p (nodes_from 232) ≡ 0 = ap (count_by p) nodes_done in
    omega (arith, none)

pub not_zero : (n : ℕ) → n ≢ 0 → not (n == 0) ≡ true
not_zero n h = ap not (is_false (n == 0) (Decides-eqb n 0) h)

pub is_zero : (n : ℕ) → n ≡ 0 → not (n == 0) ≡ false
is_zero n e = ap (λ (k : ℕ). not (k == 0)) e

take_five : (xs ys : List ℕ) → length xs ≡ 5 → take 5 (xs ++ ys) ≡ take 5 xs
take_five xs ys e = take-append-le 5 xs ys (omega arith)

-- the members found so far, with one that is found
pub members_in : (p : ℕ → Bool) (before : ℕ) (found total : List ℕ) → before < 232 → p (before + 1) ≡ true
    → take 5 (found ++ filter p (nodes_from before)) ≡ total → take 5 ((found ++ (before + 1) ∷ []) ++ filter p (nodes_from (before + 1))) ≡ total
members_in p before found total less in_it is =
    let more : filter p (nodes_from before) ≡ (before + 1) ∷ filter p (nodes_from (before + 1)) =
    ap (filter p) (nodes_more before less) ∙ ap (λ (b : Bool). cond b ((before + 1) ∷ filter p (nodes_from (before + 1))) (filter p (nodes_from (before + 1)))) in_it in
    ap (take 5) (append_assoc found ((before + 1) ∷ []) (filter p (nodes_from (before + 1))) ∙ ap (λ (x : List ℕ). found ++ x) (sym more)) ∙ is

-- with one that is invalid
pub members_out : (p : ℕ → Bool) (before : ℕ) (found total : List ℕ) → before < 232 → p (before + 1) ≡ false
    → take 5 (found ++ filter p (nodes_from before)) ≡ total → take 5 (found ++ filter p (nodes_from (before + 1))) ≡ total
members_out p before found total less out is =
    let more : filter p (nodes_from before) ≡ filter p (nodes_from (before + 1)) =
    ap (filter p) (nodes_more before less) ∙ ap (λ (b : Bool). cond b ((before + 1) ∷ filter p (nodes_from (before + 1))) (filter p (nodes_from (before + 1)))) out in
    ap (λ (x : List ℕ). take 5 (found ++ x)) (sym more) ∙ is

-- with five of them no more are named
pub members_full : (p : ℕ → Bool) (before : ℕ) (found total : List ℕ) → length found ≡ 5
    → take 5 (found ++ filter p (nodes_from before)) ≡ total → take 5 (found ++ filter p (nodes_from (before + 1))) ≡ total
members_full p before found total five is =
    take_five found (filter p (nodes_from (before + 1))) five ∙ sym (take_five found (filter p (nodes_from before)) five) ∙ is

pub members_done : (p : ℕ → Bool) (found total : List ℕ) → length found ≤ 5 → take 5 (found ++ filter p (nodes_from 232)) ≡ total → found ≡ total
members_done p found total few is =
    sym (ap (λ (x : List ℕ). take 5 (found ++ filter p x)) nodes_done ∙ ap (take 5) (nothing_more found) ∙ take_all 5 found few) ∙ is
  where
    nothing_more : (xs : List ℕ) → xs ++ [] ≡ xs
    nothing_more [] = refl
    nothing_more (x ∷ xs) = ap (λ (more : List ℕ). x ∷ more) (nothing_more xs)
