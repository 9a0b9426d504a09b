-- The entries of the others are left.
use Rattle.std.proofs.Common.{ap, sym, subst, ◌∙◌}
use Rattle.value_store.specs.Values.{Values, is_other, releasing}
use Rattle.value_store.specs.Entries.{Entries, IsInOrder, IsWithinLimit}
use Rattle.value_store.proofs.Released.{limit-where, order-where, seen-where}
use Rattle.value_store.proofs.Seen.{seen}
use Rattle.value_store.proofs.store.Store.release.Goals as goal

pub invariant_of-self : goal.invariant_of-self
invariant_of-self c =
    let es = c.self.inside.entries.items in
    let others = is_other c.args.node c.args.properties.now in
    subst (λ (new : Entries). IsInOrder new × IsWithinLimit new) (sym c.drop_all.ensures) (order-where others es c.self.invariant.0, limit-where others es c.self.invariant.1)

pub returns : goal.returns
returns c =
    ap seen c.drop_all.ensures
    ∙ seen-where (is_other c.args.node c.args.properties.now) c.self.inside.entries.items c.self.invariant.0
    ∙ ap (λ (old : Values). releasing old c.args.node c.args.properties.now) c.self.view_is
