use Rattle.std.proofs.Common.{◌-◌, length, arith, sym}
use Rattle.transport_segments.proofs.PlacesLemmas.{there_at, missing_at, least_of}
use Rattle.transport_segments.proofs.assembler.answer.Goals as goal

pub returns-then-is_some : goal.returns-then-is_some
returns-then-is_some c = (
  least_of c.args.places.now c.least_missing.result c.least_missing.ensures.within c.least_missing.ensures.before c.least_missing.ensures.missing c.requires.missing,
  there_at c.args.places.now (length c.args.places.now - 1) (omega arith) (sym c.if-is_some.ensures),
)

pub returns-else-is_some : goal.returns-else-is_some
returns-else-is_some c = missing_at c.args.places.now (length c.args.places.now - 1) (omega arith) (sym c.if-is_some.ensures)
