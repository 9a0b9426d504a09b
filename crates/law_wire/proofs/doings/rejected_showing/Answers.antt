use Rattle.std.proofs.Common.{◌≡◌, ℕ, ap, arith}
use Rattle.std.specs.Prelude.{codes}
use Rattle.zw_base.specs.declared.property.Setting.{Setting}
use Rattle.zw_text.specs.declared.entry.Entry.{Entry}
use Rattle.zw_text.specs.declared.entry.Entry.TheVariants.{Device, Said}
use Rattle.law_wire.proofs.Computing.{reckoning}
use Rattle.law_wire.proofs.doings.rejected_showing.Goals as goal

off_on : ◌≡◌ {A = ℕ} 0 255 → ⊥
off_on e = omega (arith, e)

said_shown : (setting : Setting) → Said (codes "tick 1") ≡ Device 2 setting → ⊥
said_shown setting e = cc

-- the value that an entry shows of a device
abbrev value_of : Entry → ℕ
value_of (Device node setting) = setting.value
value_of _ = 0

pub returns-clause-old : goal.returns-clause-old
unfolding reckoning
returns-clause-old c = λ law. off_on (ap value_of law.1.1.1.1.0)

pub returns-clause-left_out : goal.returns-clause-left_out
unfolding reckoning
returns-clause-left_out c = λ law. said_shown _ law.1.0

pub returns-clause-unasked : goal.returns-clause-unasked
unfolding reckoning
returns-clause-unasked c = λ law. law.1.1.0

pub returns-clause-table : goal.returns-clause-table
unfolding reckoning
returns-clause-table c = λ law. law.0
