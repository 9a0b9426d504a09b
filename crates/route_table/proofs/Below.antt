-- Tests over the numbers below a bound, and over their pairs.
use Rattle.std.proofs.Common.{◌≡◌, ℕ, zero, suc, ◌<◌, Bool, true, ◌||◌, List, [], ◌∷◌, map, refl, sym, ap, ◌∙◌, inl, inr, arith}
use Rattle.std.specs.List.{list_any, flat_map}
use Rattle.std.proofs.lemmas.List.Folds.{list_any-append}
use Rattle.std.proofs.lemmas.Bool.{cases_eq, or_left, or_right}
use Rattle.route_table.specs.Network.{Link}
use Rattle.route_table.specs.RouteTable.{numbers_below, pairs_below}

pub any_below : (p : ℕ → Bool) (n k : ℕ) → k < n → p k ≡ true → list_any p (numbers_below n) ≡ true
unfolding numbers_below
any_below p zero k less is = absurd (omega arith)
any_below p (suc n) k less is =
    elim (cases_eq k n) [
      | inl same ↦ or_left (p n) _ (ap p (sym same) ∙ is)
      | inr other ↦ or_right (p n) _ (any_below p n k (omega arith) is)
    ]

any-map : {X Y : Type 0} (p : Y → Bool) (f : X → Y) (xs : List X) → list_any p (map f xs) ≡ list_any (λ x. p (f x)) xs
any-map p f [] = refl
any-map p f (x ∷ xs) = ap (λ b. p (f x) || b) (any-map p f xs)

any-flat_map : {X Y : Type 0} (p : Y → Bool) (f : X → List Y) (xs : List X) → list_any p (flat_map f xs) ≡ list_any (λ x. list_any p (f x)) xs
any-flat_map p f [] = refl
any-flat_map p f (x ∷ xs) = list_any-append p (f x) (flat_map f xs) ∙ ap (λ b. list_any p (f x) || b) (any-flat_map p f xs)

pub any_pair : (p : Link → Bool) (n a b : ℕ) → a < n → b < n → p (record { low = a; high = b }) ≡ true → list_any p (pairs_below n) ≡ true
unfolding pairs_below
any_pair p n a b la lb is =
    any-flat_map p (λ x. map (λ y. record { low = x; high = y }) (numbers_below n)) (numbers_below n)
    ∙ any_below (λ x. list_any p (map (λ y. record { low = x; high = y }) (numbers_below n))) n a la (any-map p (λ y. record { low = a; high = y }) (numbers_below n) ∙ any_below (λ y. p (record { low = a; high = y })) n b lb is)
