use Rattle.std.proofs.Common.{◌≡◌, List, [], ◌∷◌}
use Rattle.law_wire.proofs.Computing.{reckoning}
use Rattle.zw_text.specs.Transcript.{Fate}
use Rattle.zw_text.specs.Transcript.Fate.{WasHeard, WasLost, WasUnheard}
use Rattle.law_wire.proofs.fates.rejected_fates.Goals as goal

heard_lost : ◌≡◌ {A = List Fate} (WasHeard ∷ []) (WasLost ∷ []) → ⊥
heard_lost e = cc

lost_heard : ◌≡◌ {A = List Fate} (WasLost ∷ []) (WasHeard ∷ []) → ⊥
lost_heard e = cc

unheard_heard : ◌≡◌ {A = List Fate} (WasUnheard ∷ []) (WasHeard ∷ []) → ⊥
unheard_heard e = cc

unheard_lost : ◌≡◌ {A = List Fate} (WasUnheard ∷ []) (WasLost ∷ []) → ⊥
unheard_lost e = cc

none_heard : ◌≡◌ {A = List Fate} [] (WasHeard ∷ []) → ⊥
none_heard e = cc

pub returns-clause-cut : goal.returns-clause-cut
unfolding reckoning
returns-clause-cut c = λ law. unheard_heard law

pub returns-clause-cut_lost : goal.returns-clause-cut_lost
unfolding reckoning
returns-clause-cut_lost c = λ law. unheard_lost law

pub returns-clause-home_before : goal.returns-clause-home_before
unfolding reckoning
returns-clause-home_before c = λ law. lost_heard law

pub returns-clause-home_after : goal.returns-clause-home_after
unfolding reckoning
returns-clause-home_after c = λ law. unheard_lost law

pub returns-clause-home_dead : goal.returns-clause-home_dead
unfolding reckoning
returns-clause-home_dead c = λ law. unheard_heard law

pub returns-clause-nobody : goal.returns-clause-nobody
unfolding reckoning
returns-clause-nobody c = λ law. unheard_heard law

pub returns-clause-unsent : goal.returns-clause-unsent
unfolding reckoning
returns-clause-unsent c = λ law. none_heard law

pub returns-clause-unmarked : goal.returns-clause-unmarked
unfolding reckoning
returns-clause-unmarked c = λ law. heard_lost law

pub returns-clause-asleep : goal.returns-clause-asleep
unfolding reckoning
returns-clause-asleep c = λ law. unheard_heard law

pub returns-clause-tired : goal.returns-clause-tired
unfolding reckoning
returns-clause-tired c = λ law. unheard_heard law

pub returns-clause-second : goal.returns-clause-second
unfolding reckoning
returns-clause-second c = λ law. unheard_heard law
