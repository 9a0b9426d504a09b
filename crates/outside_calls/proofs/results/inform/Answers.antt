use Rattle.outside_calls.proofs.Giving.{informed}
use Rattle.outside_calls.proofs.results.inform.Goals as goal

pub returns : goal.returns
returns g c = informed c.inform.result c.args.core.now _ _ c.args.node _ _ _ _ c.in_ok-profile.ensures.found c.as_ref.ensures.value c.inform.ensures
