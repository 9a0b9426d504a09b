-- A tick asks no keeper.
use Rattle.zw_base.proofs.Results.{on_err}
use Rattle.host_keep.specs.Keeping.{Shelf}
use Rattle.std.proofs.Common.{◌≡◌}
use Rattle.host_core.proofs.Loops.{tick_seen, tick_stops_seen}
use Rattle.host_core.proofs.host.Host.tick.Goals as goal

pub returns-in_err-tick-clause-err : goal.returns-in_err-tick-clause-err
returns-in_err-tick-clause-err g c =
    let same : c.self.inside.core ≡ c.args.self.now = c.self.view_is in
    let shelf : Shelf = g.P.Keeper.shelf c.args._keeper.now in
    on_err c.from_residual.result (tick_stops_seen c.self.inside.core c.args.self.now c.tick.new.core c.args.out.now.items c.tick.new.out.items shelf same c.in_err-tick.ensures.err)

pub returns-clause-ok : goal.returns-clause-ok
returns-clause-ok g c =
    let same : c.self.inside.core ≡ c.args.self.now = c.self.view_is in
    let shelf : Shelf = g.P.Keeper.shelf c.args._keeper.now in
    tick_seen c.self.inside.core c.args.self.now c.tick.new.core c.args.out.now.items c.tick.new.out.items shelf same c.in_ok-tick.ensures.ok

pub returns-in_err-tick-clause-tables : goal.returns-in_err-tick-clause-tables
returns-in_err-tick-clause-tables g c =
    let same : c.self.inside.core ≡ c.args.self.now = c.self.view_is in
    let shelf : Shelf = g.P.Keeper.shelf c.args._keeper.now in
    let stopped = tick_stops_seen c.self.inside.core c.args.self.now c.tick.new.core c.args.out.now.items c.tick.new.out.items shelf same c.in_err-tick.ensures.err in
    c.tables_stand_in_the_records.ensures.events stopped.events c.args.self.now.state c.tick.new.core.state c.args.out.now.items c.tick.new.out.items shelf shelf stopped.did

pub returns-clause-tables : goal.returns-clause-tables
returns-clause-tables g c =
    let same : c.self.inside.core ≡ c.args.self.now = c.self.view_is in
    let shelf : Shelf = g.P.Keeper.shelf c.args._keeper.now in
    let did = tick_seen c.self.inside.core c.args.self.now c.tick.new.core c.args.out.now.items c.tick.new.out.items shelf same c.in_ok-tick.ensures.ok in
    c.tables_stand_in_the_records.ensures.events did.events c.args.self.now.state c.tick.new.core.state c.args.out.now.items c.tick.new.out.items shelf shelf did.did
