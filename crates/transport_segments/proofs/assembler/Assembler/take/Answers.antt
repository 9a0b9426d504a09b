use Rattle.transport_segments.proofs.TakingLemmas.{takes_exactly}
use Rattle.transport_segments.proofs.assembler.Assembler.take.Goals as goal

pub returns-clause-exact : goal.returns-clause-exact
returns-clause-exact c =
    takes_exactly c.take_one.result c.args.self.now c.take_one.new.self c.args.bytes.now c.take_one.ensures.sound c.take_one.ensures.taken c.take_one.ensures.fault
