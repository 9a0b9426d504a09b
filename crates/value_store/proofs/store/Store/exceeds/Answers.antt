use Rattle.std.proofs.Common.{◌≤◌, subst, arith}
use Rattle.value_store.specs.Values.{Values, count_with}
use Rattle.value_store.proofs.Seen.{count-most}
use Rattle.value_store.proofs.store.Store.exceeds.Goals as goal

pub returns-then-most-le-MAX_PROPERTIES-clause-no : goal.returns-then-most-le-MAX_PROPERTIES-clause-no
returns-then-most-le-MAX_PROPERTIES-clause-no c = λ _.
    let most = count-most c.self.inside.entries.items c.self.invariant.0 c.args.node c.args.properties.now in
    let long = c.as_slice.ensures in
    subst (λ (v : Values). count_with v c.args.node c.args.properties.now ≤ 512) c.self.view_is (omega (arith, most, long))
