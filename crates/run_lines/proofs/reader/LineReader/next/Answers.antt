use Rattle.std.proofs.Common.{◌<◌, ◌≤◌, refl, inl, inr, subst, arith, rules}
use Rattle.run_lines.specs.SourceLines.{Reading}
use Rattle.run_lines.specs.declared.reader.TheConstants.{MAX_INPUT}
use Rattle.run_lines.proofs.ReadSoFar.{has_read-start, goes-too_much, goes-fault-after, goes-more-after, wanted-after}
use Rattle.run_lines.proofs.reader.LineReader.next.Goals as goal

pub returns-then-self-gt-MAX_INPUT-clause-goes : goal.returns-then-self-gt-MAX_INPUT-clause-goes
returns-then-self-gt-MAX_INPUT-clause-goes g c = goes-too_much _ _ (subst (λ (r : Reading). MAX_INPUT < r.taken) c.self.view_is c.if-self-gt-MAX_INPUT.true)

pub loop-found-init : goal.loop-found-init
loop-found-init g c = record {
  read = has_read-start _ _ _ refl refl refl (subst (λ (r : Reading). r.taken ≤ MAX_INPUT) c.self.view_is c.if-self-gt-MAX_INPUT.false);
  falls = omega arith;
  touched = inl refl;
  at_end = search rules;
}

pub returns-in-Err-clause-goes : goal.returns-in-Err-clause-goes
returns-in-Err-clause-goes g c =
    goes-fault-after _ _ _ _ _ _ _ _ c.loop-found.invariant.read c.in_default.ensures.cut (search rules) c.in-Err.ensures.err

pub returns-in-Err-clause-untouched : goal.returns-in-Err-clause-untouched
returns-in-Err-clause-untouched g c = inr (wanted-after _ _ _ _ _ c.loop-found.invariant.read c.in_default.ensures.cut (search rules))

pub loop-found-preserved : goal.loop-found-preserved
loop-found-preserved g c = record {
  read = goes-more-after _ _ _ _ _ _ _ c.loop-found.invariant.read c.in_default.ensures.cut (search rules) c.in_default-fill.ensures.ok.0 c.in_default-fill.ensures.ok.1;
  falls = omega (arith, c.loop-found.invariant.falls, c.in_default-fill.ensures.never_falls);
  touched = inr (wanted-after _ _ _ _ _ c.loop-found.invariant.read c.in_default.ensures.cut (search rules));
  at_end = λ before after. c.in_default-fill.ensures.ended after;
}
