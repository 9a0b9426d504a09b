-- Each clause is a lemma on texts.
use Rattle.proof_messages.proofs.Unnumbered.{nonce_get_unnumbered, no_more_unnumbered, wrapped_unnumbered, get_unnumbered, send_unnumbered, message_unnumbered, segment_unnumbered}
use Rattle.proof_messages.proofs.no_nonces.others_carry_no_nonce.Goals as goal

pub returns-clause-nonce_get : goal.returns-clause-nonce_get
returns-clause-nonce_get c = nonce_get_unnumbered

pub returns-clause-no_more : goal.returns-clause-no_more
returns-clause-no_more c = no_more_unnumbered

pub returns-clause-wrapped : goal.returns-clause-wrapped
returns-clause-wrapped c = wrapped_unnumbered

pub returns-clause-get : goal.returns-clause-get
returns-clause-get c = get_unnumbered

pub returns-clause-send : goal.returns-clause-send
returns-clause-send c = send_unnumbered

pub returns-clause-message : goal.returns-clause-message
returns-clause-message c = message_unnumbered

pub returns-clause-segment : goal.returns-clause-segment
returns-clause-segment c = segment_unnumbered
