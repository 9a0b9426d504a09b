-- However a feed ends, the tables stand in the records.
use Rattle.host_keep.specs.Keeping.{Shelf}
use Rattle.host_core.proofs.Tables.{fed_or_prefix}
use Rattle.host_core.proofs.host.Host.feed.Goals as goal

pub returns-clause-tables : goal.returns-clause-tables
returns-clause-tables g c =
    let law = c.tables_stand_in_the_records.ensures in
    let a : Shelf = g.P.Keeper.shelf c.args.keeper.now in
    let b : Shelf = g.P.Keeper.shelf c.feed.new.keeper in
    rw (← c.self.view_is) (fed_or_prefix c.feed.result c.self.inside.core c.args.piece.now c.feed.new.core c.args.out.now.items c.feed.new.out.items a b law.fed law.fed_prefix c.feed.ensures.ok c.feed.ensures.err)
