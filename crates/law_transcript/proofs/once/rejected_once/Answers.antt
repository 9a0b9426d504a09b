use Rattle.std.proofs.Common.{◌≡◌, ℕ, List, [], ◌∷◌, Option, unwrap_or, refl, sym, ap, inl, arith}
use Rattle.zw_base.specs.declared.property.Setting.{Setting}
use Rattle.law_transcript.proofs.Computing.{computing}
use Rattle.law_transcript.proofs.once.rejected_once.Goals as goal

-- on is not off
apart : ◌≡◌ {A = ℕ} 0 255 → ⊥
apart e = omega (arith, e)

-- the value of the first of some settings
abbrev first_value : List Setting → ℕ
first_value [] = 0
first_value (setting ∷ settings) = setting.value

pub returns-clause-twice : goal.returns-clause-twice
unfolding computing
returns-clause-twice c = λ law. omega (arith, law.changes.sessions_rise.0.0)

pub returns-clause-later : goal.returns-clause-later
unfolding computing
returns-clause-later c = λ law. omega (arith, law.changes.sessions_begun.1.0.1)

pub returns-clause-backwards : goal.returns-clause-backwards
unfolding computing
returns-clause-backwards c = λ law. omega (arith, law.carries.commands_rise.0.0)

pub returns-clause-unasked : goal.returns-clause-unasked
unfolding computing
returns-clause-unasked c = λ law. law.carries.commands_accepted.0

pub returns-clause-off : goal.returns-clause-off
unfolding computing
returns-clause-off c = λ law. apart (ap first_value law.changes.settings.0.0)

pub returns-clause-unchanged : goal.returns-clause-unchanged
unfolding computing
returns-clause-unchanged c = λ law. law.ends.successful.0 refl

pub returns-clause-otherwise : goal.returns-clause-otherwise
unfolding computing
returns-clause-otherwise c = λ law. law.ends.undone.0 tt (inl refl)

pub returns-clause-waits : goal.returns-clause-waits
unfolding computing
returns-clause-waits c = λ law. omega (arith, law.changes.sessions_begun.0.1)

pub returns-clause-plainly : goal.returns-clause-plainly
unfolding computing
returns-clause-plainly c = λ law. law.changes.never_plain.1.0 refl

pub returns-clause-value : goal.returns-clause-value
unfolding computing
returns-clause-value c = λ law. apart (sym (ap (λ (value : Option ℕ). unwrap_or value 0) (law.0.0 refl)))

pub returns-clause-none : goal.returns-clause-none
unfolding computing
returns-clause-none c = λ law. omega (arith, law.changes.sessions_begun.0.0)

pub returns-clause-unsupported : goal.returns-clause-unsupported
unfolding computing
returns-clause-unsupported c = λ law. law.ends.undone.0 tt (inl refl)

pub returns-clause-taken_back : goal.returns-clause-taken_back
unfolding computing
returns-clause-taken_back c = λ law. law.ends.undone.0 tt (inl refl)

pub returns-clause-changed_backwards : goal.returns-clause-changed_backwards
unfolding computing
returns-clause-changed_backwards c = λ law. omega (arith, law.changes.sessions_rise.0.0)

pub returns-clause-again : goal.returns-clause-again
unfolding computing
returns-clause-again c = λ law. omega (arith, law.carries.commands_rise.0.0)

pub returns-clause-for_another : goal.returns-clause-for_another
unfolding computing
returns-clause-for_another c = λ law. law.carries.commands_accepted.0

pub returns-clause-earlier : goal.returns-clause-earlier
unfolding computing
returns-clause-earlier c = λ law. apart (ap (λ (value : Option ℕ). unwrap_or value 0) (law.0.0 refl))
