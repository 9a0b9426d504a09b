use Rattle.std.proofs.Common.{◌≡◌, ℕ, [], ◌∷◌, refl, ◌∙◌, arith}
use Rattle.law_wire.proofs.Computing.{reckoning}
use Rattle.law_wire.proofs.Walks.{direct, is_linked, one_route, over_one}
use Rattle.law_wire.proofs.routes.worked_reach.Goals as goal

one_two : ◌≡◌ {A = ℕ} 2 1 → ⊥
one_two e = omega (arith, e)

ten_two : ◌≡◌ {A = ℕ} 2 10 → ⊥
ten_two e = omega (arith, e)

one_ten : ◌≡◌ {A = ℕ} 10 1 → ⊥
one_ten e = omega (arith, e)

two_ten : ◌≡◌ {A = ℕ} 10 2 → ⊥
two_ten e = omega (arith, e)

pub returns-clause-plain : goal.returns-clause-plain
unfolding reckoning
returns-clause-plain c = record { repeaters = []; route = direct _ _ _ refl; live = is_linked _ _ 1 2 ∙ refl; back = []; way = (direct _ _ _ refl).walk }

pub returns-clause-over_one : goal.returns-clause-over_one
unfolding reckoning
returns-clause-over_one c = record {
  repeaters = 2 ∷ [];
  route = one_route _ _ 10 2 (over_one _ _ 10 2 one_two ten_two refl refl refl) refl ((λ a b. refl), ((λ a b. refl), tt));
  live = (is_linked _ _ 1 2 ∙ refl, is_linked _ _ 2 10 ∙ refl);
  back = 2 ∷ [];
  way = over_one _ _ 10 2 one_two ten_two refl refl refl;
}

pub returns-clause-other_way : goal.returns-clause-other_way
unfolding reckoning
returns-clause-other_way c = over_one _ _ 2 10 one_ten two_ten refl refl refl
