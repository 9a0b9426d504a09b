-- An order that is accepted.
use Rattle.std.proofs.Common.{[], ◌∷◌}
use Rattle.host_keep.specs.Keeping.{Shelf}
use Rattle.host_model.specs.Events.{Accepts}
use Rattle.host_model.specs.Asking.{carriage_for}
use Rattle.host_step_bytes.specs.Calls.{Are}
use Rattle.host_core.proofs.Asked.{accepted_does}
use Rattle.host_core.proofs.Tables.{does_or_leaves}
use Rattle.host_core.proofs.host.Host.command.Goals as goal

pub returns-clause-tables : goal.returns-clause-tables
returns-clause-tables g c =
    let a : Shelf = g.P.Keeper.shelf c.args.keeper.now in
    let b : Shelf = g.P.Keeper.shelf c.accept.new.keeper in
    let old = c.self.inside.core in
    rw (← c.self.view_is) (does_or_leaves c.tables_stand_in_the_records.ensures.events (Are (Accepts c.args.order.now (carriage_for old.state c.args.order.now) ∷ [])) c.accept.result old c.accept.new.self a b
    (accepted_does c.args.order.now old c.accept.new.self a b c.accept.result c.accept.ensures.judges c.accept.ensures.kept c.accept.ensures.in_range c.accept.ensures.state c.accept.ensures.never_falls)
    c.accept.ensures.err c.accept.ensures.no_record)

pub returns-clause-ok : goal.returns-clause-ok
returns-clause-ok g c =
    rw (← c.self.view_is) (accepted_does c.args.order.now c.self.inside.core c.accept.new.self
    (g.P.Keeper.shelf c.args.keeper.now)
    (g.P.Keeper.shelf c.accept.new.keeper)
    c.accept.result c.accept.ensures.judges c.accept.ensures.kept c.accept.ensures.in_range c.accept.ensures.state c.accept.ensures.never_falls)
