-- Pass after pass.
use Rattle.std.proofs.Common.{refl, ◌∙◌, subst, arith}
use Rattle.std.specs.Prelude.{Bool}
use Rattle.world_model.specs.Did.{Does, Scene}
use Rattle.world_model.specs.Settling.{Passes}
use Rattle.world_model.specs.Prefixes.{PassesPrefix}
use Rattle.world_step.specs.Scene.{scene_of}
use Rattle.world_step.specs.Moving.{Pass}
use Rattle.zw_base.proofs.Results.{on_err}
use Rattle.world_step.proofs.Passing.{nothing_so_far, pass_so_far, last_pass, all_passes, passes_stop}
use Rattle.world_step.proofs.sides.Sides.pass_all.Goals as goal

pub loop-init : goal.loop-init
loop-init g c = record { so_far = λ keys ds. nothing_so_far (Passes 64) (PassesPrefix 64) _; never_fewer = omega arith; reads = refl }

pub returns-in_err-pass-clause-err : goal.returns-in_err-pass-clause-err
returns-in_err-pass-clause-err g c = on_err c.from_residual.result
    (λ keys ds.
    passes_stop c.loop.counter (scene_of keys c.args.self.now.host c.args.self.now.outer ds (g.P.Keeper.shelf c.args.keeper.now) c.args.out.now.items)
    (scene_of keys c.loop.self.host c.loop.self.outer ds (g.P.Keeper.shelf c.loop.keeper) c.loop.out.items)
    (scene_of keys c.pass.new.self.host c.pass.new.self.outer ds (g.P.Keeper.shelf c.pass.new.keeper) c.pass.new.out.items)
    (omega (arith, c.loop-test.true)) (c.loop.invariant.so_far keys ds) (c.in_err-pass.ensures.err keys ds))

pub returns-then-not-branch-clause-ok : goal.returns-then-not-branch-clause-ok
returns-then-not-branch-clause-ok g c = λ keys ds.
    let t : Scene = scene_of keys c.loop.self.host c.loop.self.outer ds (g.P.Keeper.shelf c.loop.keeper) c.loop.out.items in
    let u : Scene = scene_of keys c.pass.new.self.host c.pass.new.self.outer ds (g.P.Keeper.shelf c.pass.new.keeper) c.pass.new.out.items in
    last_pass c.loop.counter (scene_of keys c.args.self.now.host c.args.self.now.outer ds (g.P.Keeper.shelf c.args.keeper.now) c.args.out.now.items) t u
    (omega (arith, c.loop-test.true)) (c.loop.invariant.so_far keys ds) (subst (λ (b : Bool). Does (Pass b) t u) c.if-not-branch.true (c.in_ok-pass.ensures.ok keys ds))

pub loop-preserved : goal.loop-preserved
loop-preserved g c = record {
  so_far = λ keys ds.
      let t : Scene = scene_of keys c.loop.self.host c.loop.self.outer ds (g.P.Keeper.shelf c.loop.keeper) c.loop.out.items in
      let u : Scene = scene_of keys c.pass.new.self.host c.pass.new.self.outer ds (g.P.Keeper.shelf c.pass.new.keeper) c.pass.new.out.items in
      pass_so_far c.loop.counter (scene_of keys c.args.self.now.host c.args.self.now.outer ds (g.P.Keeper.shelf c.args.keeper.now) c.args.out.now.items) t u
      (omega (arith, c.loop-test.true)) (c.loop.invariant.so_far keys ds) (subst (λ (b : Bool). Does (Pass b) t u) c.if-not-branch.false (c.in_ok-pass.ensures.ok keys ds));
  never_fewer = omega (arith, c.loop.invariant.never_fewer, c.pass.ensures.never_fewer);
  reads = c.pass.ensures.reads ∙ c.loop.invariant.reads;
}

pub returns-clause-ok : goal.returns-clause-ok
returns-clause-ok g c = λ keys ds.
    all_passes c.loop.counter (scene_of keys c.args.self.now.host c.args.self.now.outer ds (g.P.Keeper.shelf c.args.keeper.now) c.args.out.now.items)
    (scene_of keys c.loop.self.host c.loop.self.outer ds (g.P.Keeper.shelf c.loop.keeper) c.loop.out.items)
    (omega (arith, c.loop-test.false)) (c.loop.invariant.so_far keys ds)
