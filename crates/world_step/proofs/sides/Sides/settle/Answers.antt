-- The host pumps, and then the passes are made.
use Rattle.world_model.specs.Did.{Nothing}
use Rattle.world_model.specs.Settling.{IsPump, Passes}
use Rattle.world_model.specs.Prefixes.{PassesPrefix}
use Rattle.world_model.proofs.Schedules.{did_then, stopped_first, stopped_then}
use Rattle.world_step.specs.Scene.{scene_of}
use Rattle.zw_base.proofs.Results.{on_err}
use Rattle.world_step.proofs.Scenes.{ok_then, err_then}
use Rattle.world_step.proofs.sides.Sides.settle.Goals as goal

pub returns-in_err-pump-clause-err : goal.returns-in_err-pump-clause-err
returns-in_err-pump-clause-err g c = on_err c.from_residual.result
    (λ keys ds.
    stopped_first IsPump Nothing (PassesPrefix 64) (scene_of keys c.args.self.now.host c.args.self.now.outer ds (g.P.Keeper.shelf c.args.keeper.now) c.args.out.now.items)
    (scene_of keys c.pump.new.self.host c.pump.new.self.outer ds (g.P.Keeper.shelf c.pump.new.keeper) c.pump.new.out.items)
    (c.in_err-pump.ensures.err keys ds))

pub returns-clause-ok : goal.returns-clause-ok
returns-clause-ok g c = ok_then c.pass_all.result c.pass_all.ensures.ok
    (λ done keys ds.
    did_then IsPump (Passes 64) (scene_of keys c.args.self.now.host c.args.self.now.outer ds (g.P.Keeper.shelf c.args.keeper.now) c.args.out.now.items)
    (scene_of keys c.pump.new.self.host c.pump.new.self.outer ds (g.P.Keeper.shelf c.pump.new.keeper) c.pump.new.out.items)
    (scene_of keys c.pass_all.new.self.host c.pass_all.new.self.outer ds (g.P.Keeper.shelf c.pass_all.new.keeper) c.pass_all.new.out.items)
    (c.in_ok-pump.ensures.ok keys ds) (done keys ds))

pub returns-clause-err : goal.returns-clause-err
returns-clause-err g c = err_then c.pass_all.result c.pass_all.ensures.err
    (λ stops keys ds.
    stopped_then IsPump Nothing (PassesPrefix 64) (scene_of keys c.args.self.now.host c.args.self.now.outer ds (g.P.Keeper.shelf c.args.keeper.now) c.args.out.now.items)
    (scene_of keys c.pump.new.self.host c.pump.new.self.outer ds (g.P.Keeper.shelf c.pump.new.keeper) c.pump.new.out.items)
    (scene_of keys c.pass_all.new.self.host c.pass_all.new.self.outer ds (g.P.Keeper.shelf c.pass_all.new.keeper) c.pass_all.new.out.items)
    (c.in_ok-pump.ensures.ok keys ds) (stops keys ds))
