use Rattle.std.proofs.Common.{refl, inl}
use Rattle.std.specs.Prelude.{codes, take}
use Rattle.law_wire.proofs.Computing.{reckoning}
use Rattle.law_wire.proofs.Walks.{apart}
use Rattle.law_wire.specs.Asked.{sending_of}
use Rattle.law_wire.specs.WorkedChip.{asked_to_send}
use Rattle.law_transcript.specs.Worked.{bytes}
use Rattle.law_wire.proofs.taking.worked_airing.Goals as goal

pub returns-clause-sent : goal.returns-clause-sent
unfolding reckoning
returns-clause-sent c = record { sending = sending_of (take 1 asked_to_send) 2 (bytes (codes "6C0101032501FF")) 1; taken = inl refl; to_node = refl; with_payload = refl }

pub returns-clause-dropped : goal.returns-clause-dropped
unfolding reckoning
returns-clause-dropped c = record { sending = sending_of (take 1 asked_to_send) 2 (bytes (codes "6C0101032501FF")) 1; taken = inl refl; to_node = refl; with_payload = refl }

pub returns-clause-garbled : goal.returns-clause-garbled
unfolding reckoning
returns-clause-garbled c = record { sending = sending_of (take 1 asked_to_send) 2 (bytes (codes "6C0101032501FF")) 1; taken = inl refl; to_node = refl; with_payload = refl }

pub returns-clause-overrun : goal.returns-clause-overrun
unfolding reckoning
returns-clause-overrun c = record { sending = sending_of (take 1 asked_to_send) 2 (bytes (codes "6C0101032501FF")) 1; taken = inl refl; to_node = refl; with_payload = refl }

pub returns-clause-full : goal.returns-clause-full
unfolding reckoning
returns-clause-full c = record { sending = sending_of (take 1 asked_to_send) 2 (bytes (codes "6C0101032501FF")) 1; taken = inl refl; to_node = refl; with_payload = refl }

pub returns-clause-nowhere : goal.returns-clause-nowhere
unfolding reckoning
returns-clause-nowhere c = (apart _ 2, tt)
