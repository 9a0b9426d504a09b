use Rattle.std.proofs.Common.{ℕ, List, [], ◌∷◌, refl, ap, arith}
use Rattle.zw_base.specs.declared.property.Setting.{Setting}
use Rattle.law_transcript.specs.Worked.{the_switch, with_journal}
use Rattle.law_transcript.specs.WorkedWrong.{turned_off, turned_twice}
use Rattle.law_transcript.proofs.Computing.{computing}
use Rattle.law_transcript.proofs.Dues.{differ}
use Rattle.law_transcript.proofs.once.rejected_headline.Goals as goal

abbrev first_value : List Setting → ℕ
first_value [] = 0
first_value (setting ∷ settings) = setting.value

pub returns-clause-begun_early : goal.returns-clause-begun_early
unfolding computing
returns-clause-begun_early c = λ law. law.sessions_keep.1.1.1.1.1.0.1.0

pub returns-clause-told_early : goal.returns-clause-told_early
unfolding computing
returns-clause-told_early c = λ law. law.succeeds.1.1.1.1.1.1.1.1.1.1.1.0.shown

pub returns-clause-off : goal.returns-clause-off
unfolding computing
returns-clause-off c = λ law. differ 0 255 refl (ap first_value (law.devices 2 (with_journal the_switch turned_off) refl refl).once.changes.settings.0.0)

pub returns-clause-twice : goal.returns-clause-twice
unfolding computing
returns-clause-twice c = λ law. omega (arith, (law.devices 2 (with_journal the_switch turned_twice) refl refl).once.changes.sessions_rise.0.0)

pub returns-clause-second : goal.returns-clause-second
unfolding computing
returns-clause-second c = λ law. omega (arith, (law.devices 2 (with_journal the_switch turned_twice) refl refl).once.changes.sessions_rise.0.0)
