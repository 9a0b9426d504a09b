-- Each clause is a lemma on what is kept in slices.
use Rattle.proof_messages.proofs.SlicesKept.{begins_slice, carries_slice, no_more, one_less, opened_long, segment_adds}
use Rattle.proof_messages.proofs.slices.messages_come_in_slices.Goals as goal

pub returns-clause-carried : goal.returns-clause-carried
returns-clause-carried c = carries_slice

pub returns-clause-adds : goal.returns-clause-adds
returns-clause-adds c = segment_adds

pub returns-clause-opened : goal.returns-clause-opened
returns-clause-opened c = opened_long

pub returns-clause-begins : goal.returns-clause-begins
returns-clause-begins c = begins_slice

pub returns-clause-no_more : goal.returns-clause-no_more
returns-clause-no_more c = no_more

pub returns-clause-one_less : goal.returns-clause-one_less
returns-clause-one_less c = one_less
