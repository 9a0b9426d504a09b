use Rattle.std.proofs.Common.{◌≡◌, ℕ, true, false, List, [], ◌∷◌, refl, sym, subst, ◌∙◌, inl, inr, arith}
use Rattle.route_table.specs.Walk.{ComesFirst, Hops}
use Rattle.law_wire.specs.Networks.{air_network}
use Rattle.law_wire.specs.Worked.{moved_away, the_switches}
use Rattle.law_wire.proofs.Computing.{reckoning}
use Rattle.law_wire.proofs.Walks.{apart, cannot_tell, direct, is_linked}
use Rattle.law_wire.proofs.routes.rejected_reach.Goals as goal

true_false : true ≡ false → ⊥
true_false e = cc

-- what comes before the walk without repeaters is that walk
no_repeaters : (via : List ℕ) → ComesFirst via [] → via ≡ []
no_repeaters [] first = refl
no_repeaters (node ∷ via) (inl fewer) = absurd (omega (arith, fewer))
no_repeaters (node ∷ via) (inr same) = absurd (omega (arith, same.0))

pub returns-clause-apart : goal.returns-clause-apart
unfolding reckoning
returns-clause-apart c = λ law. cannot_tell _ _ law.way

pub returns-clause-dead : goal.returns-clause-dead
unfolding reckoning
returns-clause-dead c = λ law. apart _ _ _ law.way

pub returns-clause-not_learned : goal.returns-clause-not_learned
unfolding reckoning
returns-clause-not_learned c = λ law. cannot_tell _ _ law.route.walk

pub returns-clause-moved_away : goal.returns-clause-moved_away
unfolding reckoning
returns-clause-moved_away c = λ law.
    let none = no_repeaters law.repeaters (law.route.least [] (direct _ _ 2 refl).walk) in
    true_false (sym (subst (λ (via : List ℕ). Hops (air_network the_switches moved_away) 1 via 2) none law.live) ∙ is_linked _ _ 1 2)
