-- Whether its record was kept or not, the tables stand in the records.
use Rattle.host_keep.specs.RecordText.{record_text}
use Rattle.host_keep.specs.declared.record.Record.TheVariants.{Cancelled}
use Rattle.host_model.specs.Events.{Cancels}
use Rattle.host_core.proofs.Tables.{nothing_kept, kept_or_not}
use Rattle.host_core.proofs.TablesKept.{cancelled_so}
use Rattle.host_core.proofs.host.Host.cancel.Goals as goal

pub returns-in_err-cancel-clause-tables : goal.returns-in_err-cancel-clause-tables
returns-in_err-cancel-clause-tables g c =
    rw (← c.self.view_is) (nothing_kept c.self.inside.core c.cancel.new.core (g.P.Keeper.shelf c.args.keeper.now).records (g.P.Keeper.shelf c.cancel.new.keeper).records c.in_err-cancel.ensures.err c.in_err-cancel.ensures.no_record)

pub returns-clause-tables : goal.returns-clause-tables
returns-clause-tables g c =
    rw (← c.self.view_is) (kept_or_not c.in_ok-cancel.field-0 (Cancels c.args.command) (record_text (Cancelled c.args.command)) c.self.inside.core c.cancel.new.core (g.P.Keeper.shelf c.args.keeper.now) (g.P.Keeper.shelf c.cancel.new.keeper) (cancelled_so c.self.inside.core.state c.args.command) c.in_ok-cancel.ensures.kept c.in_ok-cancel.ensures.state)
