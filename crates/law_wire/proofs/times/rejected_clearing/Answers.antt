use Rattle.std.proofs.Common.{ℕ, List, ◌∷◌, length, refl, ap}
use Rattle.zw_text.specs.declared.entry.Entry.{Entry}
use Rattle.zw_text.specs.declared.entry.Entry.TheVariants.{Cleared}
use Rattle.law_wire.specs.WorkedLinks.{miscounted, one_cleared, cleared_in_turn}
use Rattle.law_wire.proofs.Computing.{reckoning}
use Rattle.law_wire.proofs.Differing.{unlike}
use Rattle.law_wire.proofs.Losing.{told_of_both}
use Rattle.law_wire.proofs.times.rejected_clearing.Goals as goal

-- the number of bytes of the first entry
abbrev count_of : List Entry → ℕ
count_of (Cleared side count ∷ rest) = count
count_of _ = 0

pub returns-clause-count : goal.returns-clause-count
unfolding reckoning
returns-clause-count c = λ law. unlike _ _ (ap count_of (told_of_both miscounted refl law).0) refl

pub returns-clause-left_out : goal.returns-clause-left_out
unfolding reckoning
returns-clause-left_out c = λ law. unlike _ _ (ap length (told_of_both one_cleared refl law).0) refl

pub returns-clause-order : goal.returns-clause-order
unfolding reckoning
returns-clause-order c = λ law. unlike _ _ (ap count_of (told_of_both cleared_in_turn refl law).0) refl

pub returns-clause-again : goal.returns-clause-again
unfolding reckoning
returns-clause-again c = λ law. unlike _ _ (ap length law.only) refl
