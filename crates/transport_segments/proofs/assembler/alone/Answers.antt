use Rattle.std.proofs.Common.{◌∙◌, arith, sym, ap, map, Some}
use Rattle.transport_segments.proofs.WrittenLemmas.{written_whole, written_part}
use Rattle.transport_segments.proofs.assembler.alone.Goals as goal

pub returns-in_ok-from_slice : goal.returns-in_ok-from_slice
returns-in_ok-from_slice c =
    written_whole c.args.size c.args.offset c.args.payload.now (omega arith) (omega arith) ∙ ap (map Some) (sym c.in_ok-from_slice.ensures)

pub returns-else-payload-size : goal.returns-else-payload-size
returns-else-payload-size c = written_part c.args.size c.args.offset c.args.payload.now (omega arith) (omega arith)
