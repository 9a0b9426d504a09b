use Rattle.std.proofs.Common.{◌≡◌, ℕ, true, false, [], ◌∷◌, refl, sym, ap, length, ◌∙◌, inl, inr, arith}
use Rattle.law_wire.proofs.Computing.{reckoning}
use Rattle.law_wire.proofs.Walks.{over_one, is_linked, is_repeater}
use Rattle.law_wire.proofs.routes.rejected_routes.Goals as goal

true_false : true ≡ false → ⊥
true_false e = cc

one_two : ◌≡◌ {A = ℕ} 2 1 → ⊥
one_two e = omega (arith, e)

ten_two : ◌≡◌ {A = ℕ} 2 10 → ⊥
ten_two e = omega (arith, e)

one_eighteen : ◌≡◌ {A = ℕ} 18 1 → ⊥
one_eighteen e = omega (arith, e)

ten_eighteen : ◌≡◌ {A = ℕ} 18 10 → ⊥
ten_eighteen e = omega (arith, e)

pub returns-clause-detoured : goal.returns-clause-detoured
unfolding reckoning
returns-clause-detoured c = λ law. true_false (sym (law.1.1.1.1.1.1.0.walk.marked 0 0 (omega arith)) ∙ is_repeater _ _ 10)

pub returns-clause-second : goal.returns-clause-second
unfolding reckoning
returns-clause-second c = λ law. elim (law.1.1.1.1.1.1.1.1.1.1.1.1.1.1.1.1.1.1.1.1.1.1.1.1.1.1.0.least (2 ∷ []) (over_one _ _ 10 2 one_two ten_two refl refl refl)) [
  | inl fewer ↦ absurd (omega (arith, fewer))
  | inr same ↦ true_false (sym same.1)
]

pub returns-clause-straight : goal.returns-clause-straight
unfolding reckoning
returns-clause-straight c = λ law. elim law.1.1.1.1.1.1.1.1.1.1.1.1.1.1.1.1.1.1.1.1.1.1.1.1.1.1.1.1.1.1.1.1.1.1.1.1.1.1.1.1.1.1.0.1 [
  | inl route ↦ true_false (sym route.walk.hops ∙ is_linked _ _ 1 10)
  | inr none ↦ none.0 (18 ∷ []) (over_one _ _ 10 18 one_eighteen ten_eighteen refl refl refl)
]

pub returns-clause-stranger : goal.returns-clause-stranger
unfolding reckoning
returns-clause-stranger c = λ law. true_false (sym law.1.1.1.1.1.1.1.1.1.1.1.1.0.0)

one_none : ◌≡◌ {A = ℕ} 1 0 → ⊥
one_none e = omega (arith, e)

pub returns-clause-shown : goal.returns-clause-shown
unfolding reckoning
returns-clause-shown c = λ law. elim law.1.0.1 [
  | inl route ↦ true_false (sym route.walk.hops.1 ∙ is_linked _ _ 2 5)
  | inr none ↦ one_none (ap length none.1)
]
