-- Tick after tick.
use Rattle.std.proofs.Common.{◌∙◌, refl, arith}
use Rattle.zw_base.proofs.Results.{on_err}
use Rattle.world_step.proofs.Passing.{no_ticks, tick_so_far, all_ticks, ticks_stop}
use Rattle.world_step.proofs.sides.Sides.ticks.Goals as goal

pub loop-init : goal.loop-init
loop-init g c = record { so_far = λ keys. no_ticks c.args.count _; kept = refl; never_fewer = omega arith; reads = refl }

pub loop-preserved : goal.loop-preserved
loop-preserved g c = record {
  so_far = λ keys. tick_so_far c.args.count c.loop.counter _ _ _ (omega (arith, c.loop-test.true)) (c.loop.invariant.so_far keys) (c.in_ok-tick.ensures.ok keys);
  kept = c.tick.ensures.kept ∙ c.loop.invariant.kept;
  never_fewer = omega (arith, c.loop.invariant.never_fewer, c.tick.ensures.never_fewer);
  reads = c.tick.ensures.reads ∙ c.loop.invariant.reads;
}

pub returns-in_err-tick-clause-err : goal.returns-in_err-tick-clause-err
returns-in_err-tick-clause-err g c = on_err c.from_residual.result
    (λ keys. ticks_stop c.args.count c.loop.counter _ _ _ (omega (arith, c.loop-test.true)) (c.loop.invariant.so_far keys) (c.in_err-tick.ensures.err keys))

pub returns-clause-ok : goal.returns-clause-ok
returns-clause-ok g c = λ keys. all_ticks c.args.count c.loop.counter _ _ (omega (arith, c.loop-test.false)) (c.loop.invariant.so_far keys)
