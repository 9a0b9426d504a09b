use Rattle.std.proofs.Common.{[], refl}
use Rattle.law_wire.proofs.Computing.{reckoning}
use Rattle.law_wire.proofs.Walks.{direct}
use Rattle.law_wire.proofs.taking.rejected_airing.Goals as goal

pub returns-clause-dropped : goal.returns-clause-dropped
unfolding reckoning
returns-clause-dropped c = λ law. law.0 [] (direct _ _ 2 refl).walk

pub returns-clause-garbled : goal.returns-clause-garbled
unfolding reckoning
returns-clause-garbled c = λ law. law.0 [] (direct _ _ 2 refl).walk

pub returns-clause-overrun : goal.returns-clause-overrun
unfolding reckoning
returns-clause-overrun c = λ law. law.0 [] (direct _ _ 2 refl).walk

pub returns-clause-host : goal.returns-clause-host
unfolding reckoning
returns-clause-host c = λ law. law.0 [] (direct _ _ 2 refl).walk

pub returns-clause-answer : goal.returns-clause-answer
unfolding reckoning
returns-clause-answer c = λ law. law.0 [] (direct _ _ 2 refl).walk

pub returns-clause-line : goal.returns-clause-line
unfolding reckoning
returns-clause-line c = λ law. law.0 [] (direct _ _ 2 refl).walk

pub returns-clause-device : goal.returns-clause-device
unfolding reckoning
returns-clause-device c = λ law. law.0 [] (direct _ _ 2 refl).walk

pub returns-clause-dead : goal.returns-clause-dead
unfolding reckoning
returns-clause-dead c = λ law. law.0 [] (direct _ _ 2 refl).walk

pub returns-clause-unasked : goal.returns-clause-unasked
unfolding reckoning
returns-clause-unasked c = λ law. law.taken

pub returns-clause-other_request : goal.returns-clause-other_request
unfolding reckoning
returns-clause-other_request c = λ law. law.taken

pub returns-clause-refused : goal.returns-clause-refused
unfolding reckoning
returns-clause-refused c = λ law. law.taken
