-- Each clause is a lemma on a device that hears.
use Rattle.proof_messages.proofs.SessionMessages.{message_followed, message_unheard, asleep_after}
use Rattle.proof_messages.proofs.Verdicts.{makes_only}
use Rattle.proof_messages.proofs.messages.messages_do_what_is_asked.Goals as goal

pub returns-clause-heard : goal.returns-clause-heard
returns-clause-heard c = message_followed

pub returns-clause-asked : goal.returns-clause-asked
returns-clause-asked c = makes_only

pub returns-clause-asleep : goal.returns-clause-asleep
returns-clause-asleep c = asleep_after

pub returns-clause-deaf : goal.returns-clause-deaf
returns-clause-deaf c = message_unheard
