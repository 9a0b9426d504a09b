-- Lists in which one place is set, side by side.
use Rattle.std.proofs.Common.{◌≡◌, ℕ, ◌≤◌, List, length, get_or, set, inl, inr, refl, sym, ◌∙◌, subst, arith}
use Rattle.std.proofs.lemmas.Bool.{cases_eq, cases_lt}
use Rattle.std.proofs.lemmas.List.{get_or_past, get_or-set_same, get_or-set_other, length-set}

carry : {X Y : Type 0} (P : X → Y → ℕ → Type 0) (a : X) (b : Y) (m : ℕ) {a' : X} {b' : Y} → a' ≡ a → b' ≡ b → P a b m → P a' b' m
carry P a b m {a'} {b'} p q h = subst (λ z. P z b' m) (sym p) (subst (λ z. P a z m) (sym q) h)

-- nothing is set past the end
past : {X : Type 0} (l : List X) (n : ℕ) (x d : X) → length l ≤ n → get_or (set l n x) n d ≡ get_or l n d
past l n x d h = get_or_past (set l n x) n d (omega (arith, length-set l n x)) ∙ sym (get_or_past l n d h)

module _ {X Y : Type 0} (d : X) (e : Y) (P : X → Y → ℕ → Type 0) (l : List X) (k : List Y) (n : ℕ) (x : X) (y : Y) (same_length : length k ≡ length l)
    (all : (m : ℕ) → P (get_or l m d) (get_or k m e) m) (here : P x y n) where
  at_place : P (get_or (set l n x) n d) (get_or (set k n y) n e) n
  at_place = elim (cases_lt n (length l)) [
    | inl within ↦ carry P x y n (get_or-set_same l n x d within) (get_or-set_same k n y e (omega arith)) here
    | inr beyond ↦ carry P (get_or l n d) (get_or k n e) n (past l n x d beyond) (past k n y e (omega arith)) (all n)
  ]

  -- what holds at each place of two lists, and of what is set, holds at each place then
  pub both_set : (m : ℕ) → P (get_or (set l n x) m d) (get_or (set k n y) m e) m
  both_set m = elim (cases_eq m n) [
    | inl same ↦ subst (λ (j : ℕ). P (get_or (set l n x) j d) (get_or (set k n y) j e) j) (sym same) at_place
    | inr other ↦ carry P (get_or l m d) (get_or k m e) m (get_or-set_other l n m x d other) (get_or-set_other k n m y e other) (all m)
  ]

-- and of one list
pub one_set : {X : Type 0} (d : X) (P : X → ℕ → Type 0) (l : List X) (n : ℕ) (x : X) → ((m : ℕ) → P (get_or l m d) m) → P x n → (m : ℕ) → P (get_or (set l n x) m d) m
one_set {X} d P l n x all here m = both_set d d (λ (a : X) (b : X) (j : ℕ). P a j) l l n x x refl all here m
