use Rattle.std.proofs.Common.{◌∙◌, ap, is_some}
use Rattle.std.specs.FinMap as map
use Rattle.value_store.specs.Values.{Values}
use Rattle.value_store.proofs.Seen.{stay_set}
use Rattle.value_store.proofs.store.Store.confirm.Goals as goal

-- what was kept stays
pub returns-clause-stay : goal.returns-clause-stay
returns-clause-stay c n p kept = ap (λ (v : Values). is_some (map.get v (n, p))) c.set.ensures ∙ stay_set c.args.self.now _ _ n p kept
