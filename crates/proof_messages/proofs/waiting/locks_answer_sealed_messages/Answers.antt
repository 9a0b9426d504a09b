-- Each clause is a lemma on what a lock hears.
use Rattle.proof_messages.proofs.LockSessions.{message_followed, message_waits, fresh_waits, waits_still, says_sealed}
use Rattle.proof_messages.proofs.waiting.locks_answer_sealed_messages.Goals as goal

pub returns-clause-follows : goal.returns-clause-follows
returns-clause-follows c = message_followed (record { heard = c.sealed_messages_do_what_is_asked.ensures.heard; answered = c.sealed_messages_do_what_is_asked.ensures.answered })

pub returns-clause-waits : goal.returns-clause-waits
returns-clause-waits c = message_waits (record { heard = c.sealed_messages_do_what_is_asked.ensures.heard; answered = c.sealed_messages_do_what_is_asked.ensures.answered })

pub returns-clause-fresh : goal.returns-clause-fresh
returns-clause-fresh c = fresh_waits

pub returns-clause-kept : goal.returns-clause-kept
returns-clause-kept c = waits_still

pub returns-clause-says : goal.returns-clause-says
returns-clause-says c = says_sealed
