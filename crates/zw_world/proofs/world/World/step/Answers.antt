-- A line begins, and then it is run.
use Rattle.std.proofs.Common.{refl}
use Rattle.outside_model.specs.Events.{Begins_line}
use Rattle.world_step.proofs.Scenes.{ok_then, did_quiet}
use Rattle.zw_world.specs.contracts.world.World.{the_view}
use Rattle.zw_world.proofs.KeeperLines.{line_quiet}
use Rattle.zw_world.proofs.Steps.{line_done, line_stops}
use Rattle.zw_world.proofs.world.World.step.Goals as goal

pub returns-clause-ok : goal.returns-clause-ok
returns-clause-ok g c =
    let w = the_view c.self.inside in
    rw (← c.self.view_is) (line_done c.run_line.result c.args.line.now _ _ _ (did_quiet Begins_line w.keys w.host w.outer c.begin_line.new.self _ (g.P.Keeper.shelf c.args.keeper.now).records c.args.out.now.items (g.P.Keeper.shelf c.args.keeper.now).faults refl c.begin_line.ensures) c.run_line.ensures.ok)

pub returns-clause-err : goal.returns-clause-err
returns-clause-err g c =
    let w = the_view c.self.inside in
    rw (← c.self.view_is) (line_stops c.run_line.result c.args.line.now _ _ _ (did_quiet Begins_line w.keys w.host w.outer c.begin_line.new.self _ (g.P.Keeper.shelf c.args.keeper.now).records c.args.out.now.items (g.P.Keeper.shelf c.args.keeper.now).faults refl c.begin_line.ensures) c.run_line.ensures.err)

pub returns-clause-keeps : goal.returns-clause-keeps
returns-clause-keeps g c = ok_then c.run_line.result c.run_line.ensures.keeps (λ keeps. keeps (line_quiet _ _ c.begin_line.ensures))
