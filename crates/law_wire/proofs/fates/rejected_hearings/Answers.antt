use Rattle.std.proofs.Common.{◌≡◌, ℕ, true, false, refl, ap}
use Rattle.law_wire.proofs.Computing.{reckoning}
use Rattle.law_wire.proofs.Differing.{unlike}
use Rattle.zw_text.specs.declared.entry.Entry.{Entry}
use Rattle.zw_text.specs.declared.entry.Entry.TheVariants.{Heard, Refused}
use Rattle.zw_text.specs.declared.entry.Refusal.{Refusal}
use Rattle.law_wire.proofs.fates.rejected_hearings.Goals as goal

false_true : false ≡ true → ⊥
false_true e = cc

refused_heard : (refusal : Refusal) (frame : ℕ) → Refused refusal ≡ Heard frame → ⊥
refused_heard refusal frame e = cc

-- the frame that is heard
abbrev number_heard : Entry → ℕ
number_heard (Heard frame) = frame
number_heard _ = 0

pub returns-clause-nobody : goal.returns-clause-nobody
unfolding reckoning
returns-clause-nobody c = λ law. false_true law

pub returns-clause-unsent : goal.returns-clause-unsent
unfolding reckoning
returns-clause-unsent c = λ law. false_true law

pub returns-clause-refused : goal.returns-clause-refused
unfolding reckoning
returns-clause-refused c = λ law. refused_heard _ _ (law refl refl)

pub returns-clause-another : goal.returns-clause-another
unfolding reckoning
returns-clause-another c = λ law. unlike _ _ (ap number_heard (law refl refl)) refl
