-- However a pump ends, the tables stand in the records.
use Rattle.host_model.specs.Pumping.{Pumps}
use Rattle.host_step_bytes.specs.Calls.{Scene, scene}
use Rattle.host_core.proofs.Tables.{does_or_stops}
use Rattle.host_core.proofs.host.Host.pump.Goals as goal

pub returns-clause-tables : goal.returns-clause-tables
returns-clause-tables g c =
    let a : Scene = scene c.self.inside.core.state c.args.out.now.items (g.P.Keeper.shelf c.args.keeper.now) in
    let b : Scene = scene c.pump.new.core.state c.pump.new.out.items (g.P.Keeper.shelf c.pump.new.keeper) in
    rw (← c.self.view_is) (does_or_stops c.tables_stand_in_the_records.ensures.events (Pumps c.self.inside.core.state) c.pump.result a b c.pump.ensures.ok c.pump.ensures.err)
