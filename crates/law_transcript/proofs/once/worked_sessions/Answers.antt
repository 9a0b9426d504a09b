use Rattle.std.proofs.Common.{refl}
use Rattle.zw_text.specs.declared.entry.Ended.TheVariants as endings
use Rattle.law_transcript.specs.WorkedCases.{then_begins, of_two_nodes}
use Rattle.law_transcript.proofs.Computing.{computing}
use Rattle.law_transcript.proofs.Entries.{keeps_sessions}
use Rattle.law_transcript.proofs.Headlines.{plain, repeated, lossy, cancelled, restarted, sleeping, sealed, cut}
use Rattle.law_transcript.proofs.once.worked_sessions.Goals as goal

pub returns-clause-plain : goal.returns-clause-plain
returns-clause-plain c = plain.sessions_keep

pub returns-clause-repeated : goal.returns-clause-repeated
returns-clause-repeated c = repeated.sessions_keep

pub returns-clause-lossy : goal.returns-clause-lossy
returns-clause-lossy c = lossy.sessions_keep

pub returns-clause-cancelled : goal.returns-clause-cancelled
returns-clause-cancelled c = cancelled.sessions_keep

pub returns-clause-restarted : goal.returns-clause-restarted
returns-clause-restarted c = restarted.sessions_keep

pub returns-clause-sleeping : goal.returns-clause-sleeping
returns-clause-sleeping c = sleeping.sessions_keep

pub returns-clause-sealed : goal.returns-clause-sealed
returns-clause-sealed c = sealed.sessions_keep

pub returns-clause-cut : goal.returns-clause-cut
returns-clause-cut c = cut.sessions_keep

pub returns-clause-failed : goal.returns-clause-failed
unfolding computing
returns-clause-failed c = keeps_sessions (then_begins endings.Fail) ((refl, tt), ((refl, (tt, tt)), tt))

pub returns-clause-unsupported : goal.returns-clause-unsupported
unfolding computing
returns-clause-unsupported c = keeps_sessions (then_begins endings.NoSupport) ((refl, tt), ((refl, (tt, tt)), tt))

pub returns-clause-two : goal.returns-clause-two
unfolding computing
returns-clause-two c = keeps_sessions of_two_nodes ((refl, tt), ((refl, tt), tt))
