-- Each clause is a lemma on a text, or on a device that hears.
use Rattle.proof_messages.proofs.OtherMessages.{nonce_get_other, nonce_report_other, no_more_other, send_other, get_other, other_left}
use Rattle.proof_messages.proofs.others.others_are_no_messages.Goals as goal

pub returns-clause-nonce_get : goal.returns-clause-nonce_get
returns-clause-nonce_get c = nonce_get_other

pub returns-clause-nonce_report : goal.returns-clause-nonce_report
returns-clause-nonce_report c = nonce_report_other

pub returns-clause-no_more : goal.returns-clause-no_more
returns-clause-no_more c = no_more_other

pub returns-clause-send : goal.returns-clause-send
returns-clause-send c = send_other

pub returns-clause-get : goal.returns-clause-get
returns-clause-get c = get_other

pub returns-clause-left : goal.returns-clause-left
returns-clause-left c = other_left
