use Rattle.std.proofs.Common.{◌∙◌, List, ap, map, subst, sym, length, arith}
use Rattle.std.proofs.lemmas.Result.{IfOk-weaker}
use Rattle.value_store.specs.declared.stored.Held.{Held}
use Rattle.value_store.specs.Values.{Values, held_of, if_valued, known_of, listed_of, property_cmp}
use Rattle.std.specs.List.Sorted.{IsStrictlySortedBy}
use Rattle.value_store.proofs.Listed.{listed-find, listed-order}
use Rattle.value_store.proofs.Seen.{fewer-held, get-seen, held-seen}
use Rattle.value_store.proofs.store.Store.list.Goals as goal

-- the entries list what the map has
pub returns-clause-ok : goal.returns-clause-ok
returns-clause-ok c =
    let held = held-seen c.self.inside.entries.items c.self.invariant.0 c.args.node in
    let view = ap (λ (v : Values). held_of v c.args.node) c.self.view_is in
    let listed = rw c.deref.ensures.value at c.held_of.ensures in
    IfOk-weaker c.held_of.result _ _ (λ v h. h ∙ sym held ∙ view) listed

-- no more than are kept
pub returns-clause-bound : goal.returns-clause-bound
returns-clause-bound c =
    let fewer = fewer-held c.self.inside.entries.items c.args.node in
    let limit = c.self.invariant.1 c.args.node in
    let listed = rw c.deref.ensures.value at c.held_of.ensures in
    IfOk-weaker c.held_of.result _ _ (λ v h. let same = ap (λ (l : List Held). length l) h in omega (arith, fewer, limit, same)) listed

-- each property is listed with what is known of it
pub returns-clause-each : goal.returns-clause-each
returns-clause-each c =
    let es = c.self.inside.entries.items in
    let listed = rw c.deref.ensures.value at c.held_of.ensures in
    IfOk-weaker c.held_of.result _ _ (λ v h property.
    ap (λ (l : List Held). listed_of l property) h ∙ listed-find es c.args.node property c.self.invariant.0
    ∙ ap if_valued (sym (get-seen es c.self.invariant.0 (c.args.node, property)))
    ∙ ap (λ (v : Values). known_of v c.args.node property) c.self.view_is) listed

-- in order
pub returns-clause-order : goal.returns-clause-order
returns-clause-order c =
    let listed = rw c.deref.ensures.value at c.held_of.ensures in
    IfOk-weaker c.held_of.result _ _ (λ v h. subst (λ (l : List Held). IsStrictlySortedBy property_cmp (map (λ (one : Held). one.property) l)) (sym h)
    (listed-order c.self.inside.entries.items c.args.node c.self.invariant.0)) listed
