use Rattle.std.proofs.Common.{arith}
use Rattle.value_store.proofs.Reserved.{count-kept, count-more, count-same}
use Rattle.value_store.proofs.entries.count_missing.Goals as goal

-- one that is missing counts
pub loop-property-preserved-then-is_missing : goal.loop-property-preserved-then-is_missing
loop-property-preserved-then-is_missing c = record {
  counted = count-more _ _ _ _ _ _ c.in-Some.ensures.cases.0 c.loop-property.invariant.counted c.if-is_missing.ensures;
  bound = omega (arith, c.in-Some.ensures.cases.1);
}

-- any other does not
pub loop-property-preserved : goal.loop-property-preserved
loop-property-preserved c = record {
  counted = count-same _ _ _ _ _ _ c.in-Some.ensures.cases.0 c.loop-property.invariant.counted c.if-is_missing.ensures;
  bound = omega (arith, c.in-Some.ensures.cases.1);
}

-- in the end what is kept is left
pub returns-clause-count : goal.returns-clause-count
returns-clause-count c =
    let kept = count-kept c.args.entries.now c.args.node c.loop-property.rest.now c.requires c.in_default.ensures.cases in
    omega (arith, kept)
