use Rattle.std.proofs.Common.{arith}
use Rattle.zw_base.proofs.CrcLemmas.{times_x-low, times_x-high}
use Rattle.zw_base.proofs.crc.times_x.Goals as goal

pub returns-then-register-lt32768 : goal.returns-then-register-lt32768
returns-then-register-lt32768 c = λ p h. times_x-low p c.args.register (omega arith) h

pub returns-else-register-lt32768 : goal.returns-else-register-lt32768
returns-else-register-lt32768 c = λ p h. times_x-high p c.args.register (omega arith) h
