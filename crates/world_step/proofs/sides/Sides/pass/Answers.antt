-- Bytes move, and then the host pumps.
use Rattle.world_model.specs.Did.{Nothing}
use Rattle.world_model.specs.Settling.{IsMove, IsPump}
use Rattle.world_model.specs.Prefixes.{MovePrefix}
use Rattle.world_model.proofs.Schedules.{did_then, stopped_first, stopped_then}
use Rattle.world_step.specs.Scene.{scene_of}
use Rattle.world_step.specs.Moving.{Moves}
use Rattle.zw_base.proofs.Results.{on_err}
use Rattle.world_step.proofs.Bytes.{did_move}
use Rattle.world_step.proofs.sides.Sides.pass.Goals as goal

pub returns-in_err-moved-clause-err : goal.returns-in_err-moved-clause-err
returns-in_err-moved-clause-err g c = on_err c.from_residual.result
    (λ keys ds.
    stopped_first IsMove MovePrefix Nothing (scene_of keys c.args.self.now.host c.args.self.now.outer ds (g.P.Keeper.shelf c.args.keeper.now) c.args.out.now.items)
    (scene_of keys c.move_bytes.new.self.host c.move_bytes.new.self.outer ds (g.P.Keeper.shelf c.move_bytes.new.keeper) c.move_bytes.new.out.items)
    (c.in_err-moved.ensures.err keys ds))

pub returns-in_err-pump-clause-err : goal.returns-in_err-pump-clause-err
returns-in_err-pump-clause-err g c = on_err c.from_residual-in_err-pump.result
    (λ keys ds.
    stopped_then IsMove MovePrefix Nothing (scene_of keys c.args.self.now.host c.args.self.now.outer ds (g.P.Keeper.shelf c.args.keeper.now) c.args.out.now.items)
    (scene_of keys c.move_bytes.new.self.host c.move_bytes.new.self.outer ds (g.P.Keeper.shelf c.move_bytes.new.keeper) c.move_bytes.new.out.items)
    (scene_of keys c.pump.new.self.host c.pump.new.self.outer ds (g.P.Keeper.shelf c.pump.new.keeper) c.pump.new.out.items)
    (did_move c.in_ok-moved.moved _ _ (c.in_ok-moved.ensures.ok keys ds)) (c.in_err-pump.ensures.err keys ds))

pub returns-clause-ok : goal.returns-clause-ok
returns-clause-ok g c = λ keys ds.
    did_then (Moves c.in_ok-moved.moved) IsPump (scene_of keys c.args.self.now.host c.args.self.now.outer ds (g.P.Keeper.shelf c.args.keeper.now) c.args.out.now.items)
    (scene_of keys c.move_bytes.new.self.host c.move_bytes.new.self.outer ds (g.P.Keeper.shelf c.move_bytes.new.keeper) c.move_bytes.new.out.items)
    (scene_of keys c.pump.new.self.host c.pump.new.self.outer ds (g.P.Keeper.shelf c.pump.new.keeper) c.pump.new.out.items)
    (c.in_ok-moved.ensures.ok keys ds) (c.in_ok-pump.ensures.ok keys ds)
