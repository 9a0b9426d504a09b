-- Whether its record was kept or not, the tables stand in the records.
use Rattle.host_keep.specs.RecordText.{record_text}
use Rattle.host_keep.specs.declared.record.Record.TheVariants.{Joined}
use Rattle.host_model.specs.Events.{Joins}
use Rattle.host_core.proofs.Tables.{nothing_kept, kept_or_not}
use Rattle.host_core.proofs.TablesKept.{joined_so}
use Rattle.host_core.proofs.host.Host.join.Goals as goal

pub returns-in_err-join-clause-tables : goal.returns-in_err-join-clause-tables
returns-in_err-join-clause-tables g c =
    rw (← c.self.view_is) (nothing_kept c.self.inside.core c.join.new.core (g.P.Keeper.shelf c.args.keeper.now).records (g.P.Keeper.shelf c.join.new.keeper).records c.in_err-join.ensures.err c.in_err-join.ensures.no_record)

pub returns-clause-tables : goal.returns-clause-tables
returns-clause-tables g c =
    rw (← c.self.view_is) (kept_or_not c.in_ok-join.field-0 (Joins c.args.node) (record_text (Joined c.args.node)) c.self.inside.core c.join.new.core (g.P.Keeper.shelf c.args.keeper.now) (g.P.Keeper.shelf c.join.new.keeper) (joined_so c.self.inside.core.state c.args.node) c.in_ok-join.ensures.kept c.in_ok-join.ensures.state)
