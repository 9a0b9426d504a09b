use Rattle.std.proofs.Common.{◌≡◌, ℕ, true, false, [], ◌∷◌, length, refl, sym, ap, ◌∙◌, inl, inr, arith}
use Rattle.std.specs.Prelude.{◌≤◌, ◌<◌}
use Rattle.law_wire.proofs.Computing.{reckoning}
use Rattle.law_wire.proofs.Walks.{direct, is_linked, is_repeater, over_one}
use Rattle.law_wire.proofs.routes.rejected_walks.Goals as goal

true_false : true ≡ false → ⊥
true_false e = cc

one_two : ◌≡◌ {A = ℕ} 2 1 → ⊥
one_two e = omega (arith, e)

ten_two : ◌≡◌ {A = ℕ} 2 10 → ⊥
ten_two e = omega (arith, e)

one_none : ◌≡◌ {A = ℕ} 1 0 → ⊥
one_none e = omega (arith, e)

two_none : ◌≡◌ {A = ℕ} 2 0 → ⊥
two_none e = omega (arith, e)

five_few : ◌≤◌ 5 4 → ⊥
five_few e = omega (arith, e)

none_fewer : ◌<◌ 1 0 → ⊥
none_fewer e = omega (arith, e)

one_fewer : ◌<◌ 1 1 → ⊥
one_fewer e = omega (arith, e)

pub returns-clause-sensor : goal.returns-clause-sensor
unfolding reckoning
returns-clause-sensor c = λ law. true_false (sym (law.walk.marked 0 0 (omega arith)) ∙ is_repeater _ _ 10)

pub returns-clause-unlinked : goal.returns-clause-unlinked
unfolding reckoning
returns-clause-unlinked c = λ law. true_false (sym law.walk.hops ∙ is_linked _ _ 1 10)

pub returns-clause-far : goal.returns-clause-far
unfolding reckoning
returns-clause-far c = λ law. five_few law.walk.few

pub returns-clause-longer : goal.returns-clause-longer
unfolding reckoning
returns-clause-longer c = λ law. elim (law.least [] (direct _ _ 10 refl).walk) [ inl fewer ↦ none_fewer fewer | inr same ↦ one_none same.0 ]

pub returns-clause-second_home : goal.returns-clause-second_home
unfolding reckoning
returns-clause-second_home c = λ law. elim law.1 [
  | inl route ↦ elim (route.least (2 ∷ []) (over_one _ _ 10 2 one_two ten_two refl refl refl)) [ inl fewer ↦ one_fewer fewer | inr same ↦ true_false (sym same.1) ]
  | inr none ↦ none.0 (2 ∷ []) (over_one _ _ 10 2 one_two ten_two refl refl refl)
]

pub returns-clause-turned : goal.returns-clause-turned
unfolding reckoning
returns-clause-turned c = λ law. elim law.1 [
  | inl route ↦ true_false (sym route.walk.hops.0 ∙ is_linked _ _ 1 10)
  | inr none ↦ two_none (ap length none.1)
]

pub returns-clause-late : goal.returns-clause-late
unfolding reckoning
returns-clause-late c = λ law. elim law.1 [
  | inl route ↦ true_false (sym route.walk.hops ∙ is_linked _ _ 1 10)
  | inr none ↦ none.0 (2 ∷ []) (over_one _ _ 10 2 one_two ten_two refl refl refl)
]
