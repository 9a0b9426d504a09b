use Rattle.std.proofs.Common.{◌≡◌, length, arith}
use Rattle.std.proofs.lemmas.Grind.{common_steps}
use Rattle.transport_segments.specs.Places.{IsFull}
use Rattle.transport_segments.proofs.PlacesLemmas.{full_ends}
use Rattle.transport_segments.proofs.places.is_full.Goals as goal

pub returns : goal.returns
unfolding IsFull
returns c = (
  λ full. (let e : c.least_missing.result ≡ length c.args.places.now = grind (arith, common_steps) in λ at within. c.least_missing.ensures.before at (omega arith)),
  λ full. (let e : c.least_missing.result ≡ length c.args.places.now = full_ends c.args.places.now c.least_missing.result c.least_missing.ensures.within c.least_missing.ensures.missing full in grind (arith, common_steps)),
)
