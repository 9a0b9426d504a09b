use Rattle.std.proofs.Common.{◌≡◌, ℕ, List, ◌∷◌, length, refl, ap, inl, inr, arith}
use Rattle.zw_text.specs.declared.line.Line.{Line}
use Rattle.zw_text.specs.declared.line.Line.TheVariants.{Repeat}
use Rattle.law_transcript.proofs.Computing.{computing}
use Rattle.law_transcript.proofs.air.rejected_fates.Goals as goal

one_none : ◌≡◌ {A = ℕ} 1 0 → ⊥
one_none e = omega (arith, e)

two_is_one : ◌≡◌ {A = ℕ} 2 1 → ⊥
two_is_one e = omega (arith, e)

three_two : ◌≡◌ {A = ℕ} 3 2 → ⊥
three_two e = omega (arith, e)

one_two : ◌≡◌ {A = ℕ} 1 2 → ⊥
one_two e = omega (arith, e)

three_one : ◌≡◌ {A = ℕ} 3 1 → ⊥
three_one e = omega (arith, e)

pub returns-clause-apart : goal.returns-clause-apart
unfolding computing
returns-clause-apart c = λ law. three_two law.1.1.1.1.1.1.1.1.1.1.1.1.0.0

pub returns-clause-others : goal.returns-clause-others
unfolding computing
returns-clause-others c = λ law. elim law.1.1.1.1.1.1.1.1.1.1.1.1.0.1 [ inl same ↦ two_is_one same | inr same ↦ three_one same ]

pub returns-clause-at_once : goal.returns-clause-at_once
unfolding computing
returns-clause-at_once c = λ law. omega (arith, law.1.1.1.1.1.1.1.1.1.1.1.1.1.0.1)

pub returns-clause-again : goal.returns-clause-again
unfolding computing
returns-clause-again c = λ law. one_two law.1.1.1.1.1.1.1.1.1.1.1.0.0

pub returns-clause-left : goal.returns-clause-left
unfolding computing
returns-clause-left c = λ law. one_two law.1.1.1.1.1.1.1.1.1.1.1.1.1.1.1.1.1.1.1.1.0

pub returns-clause-unsent : goal.returns-clause-unsent
unfolding computing
returns-clause-unsent c = λ law. one_none (ap length law.1.0.1)

pub returns-clause-marked : goal.returns-clause-marked
unfolding computing
returns-clause-marked c = λ law. law.1.1.1.1.1.1.1.1.1.1.1.0 (inl refl) (inl refl)

pub returns-clause-lost : goal.returns-clause-lost
unfolding computing
returns-clause-lost c = λ law. omega (arith, law.0.1)

pub returns-clause-unheard : goal.returns-clause-unheard
unfolding computing
returns-clause-unheard c = λ law. omega (arith, law.0.1)

-- the frame that a line repeats
abbrev repeated_by : List Line → ℕ
repeated_by (Repeat frame ∷ lines) = frame
repeated_by _ = 0

pub returns-clause-otherwise : goal.returns-clause-otherwise
unfolding computing
returns-clause-otherwise c = λ law. one_two (ap repeated_by law.1.1.1.1.1.1.1.1.1.1.1.1.1.1.1.1.1.1.1.1.1.1.0.0)

pub returns-clause-marked_unheard : goal.returns-clause-marked_unheard
unfolding computing
returns-clause-marked_unheard c = λ law. law.1.1.1.1.0 (inl refl)

none_one : ◌≡◌ {A = ℕ} 0 1 → ⊥
none_one e = omega (arith, e)

pub returns-clause-left_by_line : goal.returns-clause-left_by_line
unfolding computing
returns-clause-left_by_line c = λ law. none_one law.1.1.0

pub returns-clause-lost_again : goal.returns-clause-lost_again
unfolding computing
returns-clause-lost_again c = λ law. one_two law.1.1.1.0.0

pub returns-clause-unheard_again : goal.returns-clause-unheard_again
unfolding computing
returns-clause-unheard_again c = λ law. one_two law.1.1.1.0.0

pub returns-clause-both_marked : goal.returns-clause-both_marked
unfolding computing
returns-clause-both_marked c = λ law. law.1.1.1.1.1.1.1.0 (inl refl) (inr (inl refl))
