use Rattle.transport_segments.proofs.PlacesLemmas.{there_at, there_more}
use Rattle.transport_segments.proofs.places.least_missing.Goals as goal

pub loop-i-preserved : goal.loop-i-preserved
loop-i-preserved c =
    there_more c.args.places.now c.loop-i.i c.loop-i.invariant (there_at c.args.places.now c.loop-i.i c.loop-i-test.true c.if-is_none.ensures)
