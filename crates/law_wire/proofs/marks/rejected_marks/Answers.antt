use Rattle.std.proofs.Common.{◌≡◌, ℕ, List, ap, arith}
use Rattle.std.specs.Prelude.{slice_index}
use Rattle.zw_words.specs.declared.side.Side.TheVariants.{Host, Chip}
use Rattle.zw_text.specs.declared.entry.Entry.{Entry}
use Rattle.zw_text.specs.declared.entry.Entry.TheVariants.{Written, Dropped, Garbled, Time}
use Rattle.law_wire.proofs.Computing.{reckoning}
use Rattle.law_wire.proofs.marks.rejected_marks.Goals as goal

ticked_dropped : (tick : ℕ) → Time tick ≡ Dropped Host → ⊥
ticked_dropped tick e = cc

written_garbled : (unit other : List ℕ) → Written Chip unit ≡ Garbled Host other → ⊥
written_garbled unit other e = cc

-- the sixth byte of a unit that was changed
abbrev sixth_of : Entry → ℕ
sixth_of (Garbled side unit) = slice_index unit 5
sixth_of _ = 0

five_six : ◌≡◌ {A = ℕ} 5 6 → ⊥
five_six e = omega (arith, e)

zero_one : ◌≡◌ {A = ℕ} 0 1 → ⊥
zero_one e = omega (arith, e)

pub returns-clause-lost : goal.returns-clause-lost
unfolding reckoning
returns-clause-lost c = λ law. law.1.1.1.1.1.1.1.1.1.1.1.1.1.1.0

pub returns-clause-kept : goal.returns-clause-kept
unfolding reckoning
returns-clause-kept c = λ law. ticked_dropped 2 law.1.1.1.1.1.1.1.1.1.1.1.1.1.1.1.1.0

pub returns-clause-otherwise : goal.returns-clause-otherwise
unfolding reckoning
returns-clause-otherwise c = λ law. five_six (ap sixth_of law.1.1.1.1.1.0)

pub returns-clause-unchanged : goal.returns-clause-unchanged
unfolding reckoning
returns-clause-unchanged c = λ law. written_garbled _ _ law.1.1.1.1.1.0

pub returns-clause-freely : goal.returns-clause-freely
unfolding reckoning
returns-clause-freely c = λ law. omega (arith, law.1.1.1.1.0)

pub returns-clause-acknowledged : goal.returns-clause-acknowledged
unfolding reckoning
returns-clause-acknowledged c = λ law. zero_one law.1.1.1.1.1.0

pub returns-clause-out_of_turn : goal.returns-clause-out_of_turn
unfolding reckoning
returns-clause-out_of_turn c = λ law. five_six (ap sixth_of law.1.1.1.0)

pub returns-clause-twice : goal.returns-clause-twice
unfolding reckoning
returns-clause-twice c = λ law. law.1.1.1.1.0
