-- Each clause is a lemma on what a lock hears.
use Rattle.proof_messages.proofs.LockPayloads.{get_heard, unnumbered_heard, offer_heard, sealed_heard, other_event, sealed_unnamed}
use Rattle.proof_messages.proofs.locks.locks_hear_by_numbers.Goals as goal

pub returns-clause-unnumbered : goal.returns-clause-unnumbered
returns-clause-unnumbered c = unnumbered_heard

pub returns-clause-asked : goal.returns-clause-asked
returns-clause-asked c = get_heard

pub returns-clause-offer : goal.returns-clause-offer
returns-clause-offer c = offer_heard

pub returns-clause-sealed : goal.returns-clause-sealed
returns-clause-sealed c = sealed_heard

pub returns-clause-other : goal.returns-clause-other
returns-clause-other c = other_event

pub returns-clause-unnamed : goal.returns-clause-unnamed
returns-clause-unnamed c = sealed_unnamed
