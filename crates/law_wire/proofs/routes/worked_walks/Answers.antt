use Rattle.std.proofs.Common.{◌≡◌, ℕ, true, false, refl, inl, arith}
use Rattle.law_wire.proofs.Computing.{reckoning}
use Rattle.law_wire.proofs.Walks.{one_route, over_one}
use Rattle.law_wire.proofs.routes.worked_walks.Goals as goal

false_true : false ≡ true → ⊥
false_true e = cc

one_two : ◌≡◌ {A = ℕ} 2 1 → ⊥
one_two e = omega (arith, e)

ten_two : ◌≡◌ {A = ℕ} 2 10 → ⊥
ten_two e = omega (arith, e)

one_ten : ◌≡◌ {A = ℕ} 10 1 → ⊥
one_ten e = omega (arith, e)

two_ten : ◌≡◌ {A = ℕ} 10 2 → ⊥
two_ten e = omega (arith, e)

pub returns-clause-beside : goal.returns-clause-beside
unfolding reckoning
returns-clause-beside c = one_route _ _ 2 10 (over_one _ _ 2 10 one_ten two_ten refl refl refl) refl ((λ a b. absurd (false_true a)), ((λ a b. refl), tt))

pub returns-clause-late : goal.returns-clause-late
unfolding reckoning
returns-clause-late c = (refl, inl (one_route _ _ 10 2 (over_one _ _ 10 2 one_two ten_two refl refl refl) refl ((λ a b. refl), ((λ a b. refl), tt))))
