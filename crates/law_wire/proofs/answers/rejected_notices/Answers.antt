use Rattle.std.proofs.Common.{[], refl, inl, inr}
use Rattle.law_wire.proofs.Computing.{reckoning}
use Rattle.law_wire.proofs.Differing.{differ_at}
use Rattle.law_wire.proofs.Walks.{direct}
use Rattle.law_wire.proofs.answers.rejected_notices.Goals as goal

pub returns-clause-own : goal.returns-clause-own
unfolding reckoning
returns-clause-own c = λ law. differ_at 3 _ _ law.1.0 refl

pub returns-clause-sender : goal.returns-clause-sender
unfolding reckoning
returns-clause-sender c = λ law. differ_at 5 _ _ law.0 refl

pub returns-clause-unasked : goal.returns-clause-unasked
unfolding reckoning
returns-clause-unasked c = λ law. law

pub returns-clause-classes : goal.returns-clause-classes
unfolding reckoning
returns-clause-classes c = λ law. elim law.1.0 [ inl told ↦ differ_at 13 _ _ told.1 refl | inr failed ↦ failed.0 (record { joined = refl; way = []; route = (direct _ _ 5 refl).walk; awake = refl }) ]

pub returns-clause-node : goal.returns-clause-node
unfolding reckoning
returns-clause-node c = λ law. elim law.1.0 [ inl told ↦ differ_at 5 _ _ told.1 refl | inr failed ↦ failed.0 (record { joined = refl; way = []; route = (direct _ _ 5 refl).walk; awake = refl }) ]

pub returns-clause-still : goal.returns-clause-still
unfolding reckoning
returns-clause-still c = λ law. elim law.1.0 [ inl told ↦ differ_at 1 _ _ told.1 refl | inr failed ↦ failed.0 (record { joined = refl; way = []; route = (direct _ _ 5 refl).walk; awake = refl }) ]

pub returns-clause-left_out : goal.returns-clause-left_out
unfolding reckoning
returns-clause-left_out c = λ law. differ_at 9 _ _ law.0 refl

pub returns-clause-again : goal.returns-clause-again
unfolding reckoning
returns-clause-again c = λ law. law.1

pub returns-clause-lost : goal.returns-clause-lost
unfolding reckoning
returns-clause-lost c = λ law. law
