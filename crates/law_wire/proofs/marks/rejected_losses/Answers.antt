use Rattle.std.proofs.Common.{◌≡◌, ℕ, List, [], refl, ap}
use Rattle.law_wire.proofs.Computing.{reckoning}
use Rattle.law_wire.proofs.Differing.{differ_at}
use Rattle.zw_text.specs.declared.entry.Entry.{Entry}
use Rattle.zw_text.specs.declared.entry.Entry.TheVariants.{Dropped, Garbled}
use Rattle.zw_words.specs.declared.side.Side.TheVariants.{Chip, Host}
use Rattle.law_wire.proofs.marks.rejected_losses.Goals as goal

chip_host : Dropped Chip ≡ Dropped Host → ⊥
chip_host e = cc

garbled_dropped : (unit : List ℕ) → Garbled Host unit ≡ Dropped Host → ⊥
garbled_dropped unit e = cc

-- the unit that was changed
abbrev unit_of : Entry → List ℕ
unit_of (Garbled side unit) = unit
unit_of _ = []

pub returns-clause-other_drop : goal.returns-clause-other_drop
unfolding reckoning
returns-clause-other_drop c = λ law. law

pub returns-clause-other_change : goal.returns-clause-other_change
unfolding reckoning
returns-clause-other_change c = λ law. law

pub returns-clause-used : goal.returns-clause-used
unfolding reckoning
returns-clause-used c = λ law. law

pub returns-clause-side : goal.returns-clause-side
unfolding reckoning
returns-clause-side c = λ law. chip_host law

pub returns-clause-change_first : goal.returns-clause-change_first
unfolding reckoning
returns-clause-change_first c = λ law. garbled_dropped _ law

pub returns-clause-answer : goal.returns-clause-answer
unfolding reckoning
returns-clause-answer c = λ law. law

pub returns-clause-place : goal.returns-clause-place
unfolding reckoning
returns-clause-place c = λ law. differ_at 5 _ _ (ap unit_of law) refl

pub returns-clause-sum : goal.returns-clause-sum
unfolding reckoning
returns-clause-sum c = λ law. differ_at 5 _ _ (ap unit_of law) refl

pub returns-clause-unwritten : goal.returns-clause-unwritten
unfolding reckoning
returns-clause-unwritten c = λ law. law
