use Rattle.transport_segments.proofs.TakingLemmas.{completes_by, completes_fault}
use Rattle.transport_segments.proofs.assembler.Assembler.completes.Goals as goal

pub returns-in-Err : goal.returns-in-Err
returns-in-Err c = record { exact = completes_fault c.args.self.now c.args.bytes.now c.in-Err.fault c.in-Err.ensures.fault }

pub returns : goal.returns
returns c = record {
  exact =
      completes_by c.args.self.now c.args.bytes.now c.in_ok-joined_with.field-0 c.in-Ok.segment.id c.in-Ok.segment.size c.in-Ok.segment.offset c.in-Ok.segment.payload.now
      c.in-Ok.ensures.sound c.in-Ok.ensures.id c.in-Ok.ensures.size c.in-Ok.ensures.offset c.in-Ok.ensures.payload c.in_ok-joined_with.ensures;
}
