use Rattle.std.proofs.Common.{is_some}
use Rattle.std.specs.FinMap.{find}
use Rattle.value_store.specs.Values.{key_cmp}
use Rattle.value_store.proofs.Reserved.{member-with}
use Rattle.value_store.proofs.Released.{missing_more, missing_less}
use Rattle.value_store.proofs.entries.missing_of.Goals as goal

-- one that is missing is found
pub loop-property-preserved-in_ok-push : goal.loop-property-preserved-in_ok-push
loop-property-preserved-in_ok-push c =
    missing_more (λ p. is_some (find key_cmp (c.args.node, p) c.args.entries.now)) c.loop-property.missing.items c.loop-property.rest.now c.in-Some.later.now _ c.in-Some.property.now _
    c.in-Some.ensures.cases.0 c.loop-property.invariant (member-with c.args.entries.now c.args.node c.in-Some.later.now c.in-Some.property.now) c.push.new.self.items
    c.if-is_missing.ensures c.in_ok-push.ensures.ok

-- any other is passed over
pub loop-property-preserved : goal.loop-property-preserved
loop-property-preserved c =
    missing_less (λ p. is_some (find key_cmp (c.args.node, p) c.args.entries.now)) c.loop-property.missing.items c.loop-property.rest.now c.in-Some.later.now _ c.in-Some.property.now _
    c.in-Some.ensures.cases.0 c.loop-property.invariant (member-with c.args.entries.now c.args.node c.in-Some.later.now c.in-Some.property.now) c.if-is_missing.ensures
