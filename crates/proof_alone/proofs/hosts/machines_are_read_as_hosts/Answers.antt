-- The walk of the reading, and that the run of each phase is what is known there.
use Rattle.proof_alone.specs.Runs.{Run}
use Rattle.proof_alone.specs.Careful.{RunCarefully}
use Rattle.proof_alone.proofs.ReadingWalk.{first_reads, host_knows, reading_walk}
use Rattle.proof_alone.proofs.hosts.machines_are_read_as_hosts.Goals as goal

pub returns-clause-walk : goal.returns-clause-walk
returns-clause-walk c = λ start. reading_walk start c.marks_go_on.ensures.walk

pub returns-clause-first : goal.returns-clause-first
returns-clause-first c = λ keys records devices. (c.marks_go_on.ensures.first keys records devices, first_reads keys records devices)

pub returns-clause-runs : goal.returns-clause-runs
returns-clause-runs c = λ start here past m reads. host_knows start (Run start) (λ stage at told n found. found.run) here past m reads.1

pub returns-clause-carefully : goal.returns-clause-carefully
returns-clause-carefully c = λ start here past m reads. host_knows start (RunCarefully start) (λ stage at told n found. (found.run, found.careful)) here past m reads.1
