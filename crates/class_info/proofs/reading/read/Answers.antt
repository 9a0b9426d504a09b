use Rattle.std.proofs.Common.{arith}
use Rattle.class_info.proofs.InfoLaws.{is_found, is_only}
use Rattle.class_info.proofs.reading.read.Goals as goal

pub returns-clause-found : goal.returns-clause-found
returns-clause-found c = is_found c.args.bytes.now c.read_row.result (λ i. omega (arith, c.type_inv.bytes i)) c.read_row.ensures

pub returns-clause-only : goal.returns-clause-only
returns-clause-only c message s = is_only c.args.bytes.now c.read_row.result message c.read_row.ensures s
