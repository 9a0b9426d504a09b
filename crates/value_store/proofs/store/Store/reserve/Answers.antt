use Rattle.std.proofs.Common.{◌≡◌, ◌∙◌, ◌≤◌, ap, sym, subst, ◌++◌, arith}
use Rattle.std.specs.Set.{distinct_count}
use Rattle.zw_base.specs.PropertyOrder.{same_property}
use Rattle.value_store.specs.Values.{Reserves, Values, count_with}
use Rattle.value_store.specs.Entries.{Entries, IsInOrder, IsWithinLimit, keeping_all, properties_among}
use Rattle.value_store.proofs.Reserved.{limit-keeping_all, order-keeping_all}
use Rattle.value_store.proofs.Released.{reserved_are}
use Rattle.value_store.proofs.Seen.{count-seen, reserved_each, reserved_stay, reserves, seen}
use Rattle.value_store.proofs.store.Store.reserve.Goals as goal
use Rattle.value_store.proofs.store.Store.reserve.Goals.{After-keep_all}

-- the new entries are the old ones with these properties kept
kept : (c : After-keep_all) → c.keep_all.new.entries.items ≡ keeping_all c.self.inside.entries.items c.args.node c.args.properties.now
kept c = c.keep_all.ensures ∙ ap (λ (es : Entries). keeping_all es c.args.node c.args.properties.now) c.in_ok-reserve.ensures.items

pub returns-clause-ok : goal.returns-clause-ok
returns-clause-ok c =
    let law = reserves c.self.inside.entries.items c.self.invariant.0 c.args.node c.args.properties.now in
    subst (λ (old : Values). Reserves old (seen c.keep_all.new.entries.items) c.args.node c.args.properties.now) c.self.view_is
    (subst (λ (es : Entries). Reserves (seen c.self.inside.entries.items) (seen es) c.args.node c.args.properties.now) (sym (kept c)) law)

-- they are in order, and no node has too many
pub invariant_of-self-2 : goal.invariant_of-self-2
invariant_of-self-2 c =
    let es = c.self.inside.entries.items in
    let all = count-seen es c.self.invariant.0 c.args.node c.args.properties.now in
    let view = ap (λ (v : Values). count_with v c.args.node c.args.properties.now) c.self.view_is in
    let few = c.exceeds.ensures.no c.if-exceeds.false in
    let within : distinct_count same_property (c.args.properties.now ++ properties_among es c.args.node) ≤ 512 = omega (arith, all, view, few) in
    subst (λ (es : Entries). IsInOrder es × IsWithinLimit es) (sym (kept c))
    (order-keeping_all es c.args.node c.args.properties.now c.self.invariant.0, limit-keeping_all es c.args.node c.args.properties.now c.self.invariant.0 c.self.invariant.1 within)

pub returns-clause-reserved : goal.returns-clause-reserved
returns-clause-reserved c = reserved_each c.args.self.now _ c.args.node c.args.properties.now (returns-clause-ok c)

pub returns-clause-stay : goal.returns-clause-stay
returns-clause-stay c = reserved_stay c.args.self.now _ c.args.node c.args.properties.now (returns-clause-ok c)

pub returns-clause-state : goal.returns-clause-state
returns-clause-state c = reserved_are c.args.self.now _ c.args.node c.args.properties.now (returns-clause-ok c)
