-- Each clause is a lemma on what is written.
use Rattle.proof_messages.proofs.OpenedMessages.{message_opens, target_is, all_read}
use Rattle.proof_messages.proofs.messages.messages_open.Goals as goal

pub returns-clause-opened : goal.returns-clause-opened
returns-clause-opened c = message_opens

pub returns-clause-target : goal.returns-clause-target
returns-clause-target c = target_is

pub returns-clause-read : goal.returns-clause-read
returns-clause-read c = all_read
