-- What is in a list, and whether a test holds of something in it.
use Rattle.std.proofs.Common.{◌≡◌, ◌⊎◌, ◌≤◌, ◌<◌, ℕ, zero, suc, ◌+◌, ◌==◌, ◌||◌, Bool, true, false, cond, List, [], ◌∷◌, filter, refl, sym, subst, inl, inr, arith}
use Rattle.std.proofs.lemmas.Bool.{cases_lt, eqb-true, eq-eqb, or_left, or_right}
use Rattle.std.specs.List.{list_any, range_with_len}
use Rattle.law_wire.specs.law_transcript.Lists.{Has}
use Rattle.law_wire.proofs.Deciding.{not_true as no_true}

-- two tests that agree hold of something in the same lists
pub any_agree : {A : Type 0} (p q : A → Bool) → ((x : A) → p x ≡ q x) → (xs : List A) → list_any p xs ≡ list_any q xs
any_agree p q same [] = refl
any_agree p q same (x ∷ xs) = λ i. same x i || any_agree p q same xs i

module _ (p : ℕ → Bool) where
  pub any_has : (xs : List ℕ) → list_any p xs ≡ true → (x : ℕ) × Has xs x × (p x ≡ true)
  any_has [] any = absurd (no_true any)
  any_has (x ∷ xs) any = by (p x) refl (any_has xs) any
    where
      later : (y : ℕ) × Has xs y × (p y ≡ true) → (y : ℕ) × Has (x ∷ xs) y × (p y ≡ true)
      later (y, has, is) = (y, inr has, is)

      by : (b : Bool) → p x ≡ b → (list_any p xs ≡ true → (y : ℕ) × Has xs y × (p y ≡ true)) → b || list_any p xs ≡ true → (y : ℕ) × Has (x ∷ xs) y × (p y ≡ true)
      by true is rest any = (x, inl refl, is)
      by false is rest any = later (rest any)

  pub has_any : (xs : List ℕ) (x : ℕ) → Has xs x → p x ≡ true → list_any p xs ≡ true
  has_any [] x has is = absurd has
  has_any (y ∷ xs) x (inl same) is = or_left (p y) (list_any p xs) (subst (λ (n : ℕ). p n ≡ true) (sym same) is)
  has_any (y ∷ xs) x (inr has) is = or_right (p y) (list_any p xs) (has_any xs x has is)

  pub filter_has : (xs : List ℕ) (x : ℕ) → Has xs x → p x ≡ true → Has (filter p xs) x
  filter_has [] x has is = absurd has
  filter_has (y ∷ xs) x (inl same) is = by (p y) (subst (λ (n : ℕ). p n ≡ true) (sym same) is)
    where
      by : (b : Bool) → b ≡ true → Has (cond b (y ∷ filter p xs) (filter p xs)) x
      by true passes = inl same
      by false passes = absurd (no_true passes)
  filter_has (y ∷ xs) x (inr has) is = by (p y) (filter_has xs x has is)
    where
      by : (b : Bool) → Has (filter p xs) x → Has (cond b (y ∷ filter p xs) (filter p xs)) x
      by true rest = inr rest
      by false rest = rest

  pub has_filter : (xs : List ℕ) (x : ℕ) → Has (filter p xs) x → Has xs x × (p x ≡ true)
  has_filter [] x has = absurd has
  has_filter (y ∷ xs) x has = by (p y) refl (has_filter xs x) has
    where
      more : Has xs x × (p x ≡ true) → Has (y ∷ xs) x × (p x ≡ true)
      more (rest, is) = (inr rest, is)

      by : (b : Bool) → p y ≡ b → (Has (filter p xs) x → Has xs x × (p x ≡ true)) → Has (cond b (y ∷ filter p xs) (filter p xs)) x → Has (y ∷ xs) x × (p x ≡ true)
      by true is rest (inl same) = (inl same, subst (λ (n : ℕ). p n ≡ true) same is)
      by true is rest (inr has) = more (rest has)
      by false is rest has = more (rest has)

-- ---- numbers

pub has_number : (xs : List ℕ) (x : ℕ) → list_any (λ one. one == x) xs ≡ true → Has xs x
has_number xs x any = let (one, has, is) = any_has (λ one. one == x) xs any in subst (λ (n : ℕ). Has xs n) (eqb-true one x is) has

pub number_has : (xs : List ℕ) (x : ℕ) → Has xs x → list_any (λ one. one == x) xs ≡ true
number_has xs x has = has_any (λ one. one == x) xs x has (eq-eqb x x refl)

pub range_has : (a n x : ℕ) → a ≤ x → x < a + n → Has (range_with_len a n) x
range_has a zero x low high = absurd (omega (arith, low, high))
range_has a (suc n) x low high = by (cases_lt a x) (range_has (a + 1) n x)
  where
    by : (a < x) ⊎ (x ≤ a) → (a + 1 ≤ x → x < (a + 1) + n → Has (range_with_len (a + 1) n) x) → Has (a ∷ range_with_len (a + 1) n) x
    by (inl above) rest = inr (rest (omega (arith, above)) (omega (arith, high)))
    by (inr below) rest = inl (omega (arith, below, low))
