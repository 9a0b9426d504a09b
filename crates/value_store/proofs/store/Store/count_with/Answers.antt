use Rattle.std.proofs.Common.{◌≡◌, ◌+◌, subst, arith}
use Rattle.value_store.specs.Values.{Values, count_with}
use Rattle.value_store.proofs.Seen.{count-seen}
use Rattle.value_store.proofs.store.Store.count_with.Goals as goal

-- what is kept and what these add
pub returns : goal.returns
returns c =
    let all = count-seen c.self.inside.entries.items c.self.invariant.0 c.args.node c.args.properties.now in
    let kept = rw c.deref.ensures.value at c.count_of.ensures in
    let missing = rw c.deref-2.ensures.value at c.count_missing.ensures.count in
    subst (λ (v : Values). c.count_of.result + c.count_missing.result ≡ count_with v c.args.node c.args.properties.now) c.self.view_is
    (omega (arith, missing, kept, all))
