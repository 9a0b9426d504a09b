-- The place at which each breaks a law.
use Rattle.std.proofs.Common.{◌<◌, arith}
use Rattle.proof_host.proofs.laws.wrong_transcripts_are_rejected.Goals as goal

pub returns-clause-late : goal.returns-clause-late
returns-clause-late c = λ laws. let wrong = laws.accepts.0 in omega (arith, wrong)

pub returns-clause-unasked : goal.returns-clause-unasked
returns-clause-unasked c = λ laws. let wrong = laws.carries.0.0 in cc

pub returns-clause-elsewhere : goal.returns-clause-elsewhere
returns-clause-elsewhere c = λ laws. let wrong = laws.carries.1.0.0 in cc

pub returns-clause-twice : goal.returns-clause-twice
returns-clause-twice c = λ laws. let wrong = laws.carries.1.1.1.0.1 in cc

pub returns-clause-early : goal.returns-clause-early
returns-clause-early c = λ laws. laws.sessions_keep.1.1.1.0.1.0

pub returns-clause-backwards : goal.returns-clause-backwards
returns-clause-backwards c = λ laws. let wrong : 2 < 1 = (laws.rise 2).0.0 in omega (arith, wrong)

pub returns-clause-cancelled : goal.returns-clause-cancelled
returns-clause-cancelled c = λ laws. let wrong = laws.carries.1.1.0.1 in cc

pub returns-clause-unbegun : goal.returns-clause-unbegun
returns-clause-unbegun c = λ laws. laws.ends.1.0

pub returns-clause-again : goal.returns-clause-again
returns-clause-again c = λ laws. laws.ends.1.1.1.0

pub returns-clause-cancelled_late : goal.returns-clause-cancelled_late
returns-clause-cancelled_late c = λ laws. let wrong = laws.ends.1.1.0.1 in cc
