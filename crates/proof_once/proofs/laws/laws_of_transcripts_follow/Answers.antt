use Rattle.std.proofs.Common.{refl}
use Rattle.proof_once.proofs.ByTranscript.{confirms_so, once_so}
use Rattle.proof_once.proofs.laws.laws_of_transcripts_follow.Goals as goal

pub returns-clause-once : goal.returns-clause-once
returns-clause-once c = λ past h listing node device table is. once_so listing h.commands node past table is.commands_accepted device.journal is

pub returns-clause-confirms : goal.returns-clause-confirms
returns-clause-confirms c = λ past h listing node device facts table confirms.
    confirms_so listing h.commands node past table ((c.laws_follow.ensures.laws past h facts).accepted node) h device refl (c.laws_follow.ensures.stores past h facts) confirms
