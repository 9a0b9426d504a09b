-- Bytes move to the chip, and then to the host.
use Rattle.std.proofs.Common.{Bool, refl, sym, subst, arith, inl}
use Rattle.world_model.proofs.Schedules.{stopped_then}
use Rattle.world_model.specs.Did.{Scene, Does, Nothing}
use Rattle.world_model.specs.Settling.{IsChipPart}
use Rattle.world_model.specs.Prefixes.{MovePrefix}
use Rattle.world_step.specs.Scene.{scene_of}
use Rattle.world_step.specs.Moving.{Moves}
use Rattle.zw_base.proofs.Results.{on_err}
use Rattle.world_step.proofs.Scenes.{stopped_still}
use Rattle.world_step.proofs.Bytes.{both_moved, did_chip}
use Rattle.world_step.proofs.sides.Sides.move_bytes.Goals as goal

pub returns-in_err-chip-clause-err : goal.returns-in_err-chip-clause-err
returns-in_err-chip-clause-err g c = on_err c.from_residual.result
    (λ keys ds.
    stopped_still MovePrefix keys keys c.args.self.now.host c.chip_takes.new.self.host c.args.self.now.outer c.chip_takes.new.self.outer ds (g.P.Keeper.shelf c.args.keeper.now).records
    (g.P.Keeper.shelf c.args.keeper.now).records c.args.out.now.items c.chip_takes.new.out.items (g.P.Keeper.shelf c.args.keeper.now).faults (g.P.Keeper.shelf c.args.keeper.now).faults (inl refl) refl c.in_err-chip.ensures.err (omega arith))

pub returns-in_err-host-clause-err : goal.returns-in_err-host-clause-err
returns-in_err-host-clause-err g c = on_err c.from_residual-in_err-host.result
    (λ keys ds.
    stopped_then IsChipPart Nothing Nothing (scene_of keys c.args.self.now.host c.args.self.now.outer ds (g.P.Keeper.shelf c.args.keeper.now) c.args.out.now.items)
    (scene_of keys c.chip_takes.new.self.host c.chip_takes.new.self.outer ds (g.P.Keeper.shelf c.args.keeper.now) c.chip_takes.new.out.items)
    (scene_of keys c.host_takes.new.self.host c.host_takes.new.self.outer ds (g.P.Keeper.shelf c.host_takes.new.keeper) c.host_takes.new.out.items)
    (did_chip c.in_ok-chip.chip _ _ (c.in_ok-chip.ensures.ok keys ds (g.P.Keeper.shelf c.args.keeper.now).records (g.P.Keeper.shelf c.args.keeper.now).faults)) (c.in_err-host.ensures.err keys ds))

pub returns-clause-ok : goal.returns-clause-ok
returns-clause-ok g c = λ keys ds.
    let s : Scene = scene_of keys c.args.self.now.host c.args.self.now.outer ds (g.P.Keeper.shelf c.args.keeper.now) c.args.out.now.items in
    let u : Scene = scene_of keys c.host_takes.new.self.host c.host_takes.new.self.outer ds (g.P.Keeper.shelf c.host_takes.new.keeper) c.host_takes.new.out.items in
    subst (λ (b : Bool). Does (Moves b) s u) (sym c.either.ensures)
    (both_moved c.in_ok-chip.chip c.in_ok-host.host (scene_of keys c.args.self.now.host c.args.self.now.outer ds (g.P.Keeper.shelf c.args.keeper.now) c.args.out.now.items)
    (scene_of keys c.chip_takes.new.self.host c.chip_takes.new.self.outer ds (g.P.Keeper.shelf c.args.keeper.now) c.chip_takes.new.out.items)
    (scene_of keys c.host_takes.new.self.host c.host_takes.new.self.outer ds (g.P.Keeper.shelf c.host_takes.new.keeper) c.host_takes.new.out.items)
    (c.in_ok-chip.ensures.ok keys ds (g.P.Keeper.shelf c.args.keeper.now).records (g.P.Keeper.shelf c.args.keeper.now).faults) (c.in_ok-host.ensures.ok keys ds))
