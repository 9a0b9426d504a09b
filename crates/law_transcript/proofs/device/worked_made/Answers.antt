use Rattle.std.proofs.Common.{refl, arith}
use Rattle.law_transcript.proofs.device.worked_made.Goals as goal

pub returns-clause-switch : goal.returns-clause-switch
returns-clause-switch c = record { from_two = omega arith; to_max = omega arith; made = refl }

pub returns-clause-lock : goal.returns-clause-lock
returns-clause-lock c = record { from_two = omega arith; to_max = omega arith; made = refl }
