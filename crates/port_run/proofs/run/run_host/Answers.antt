use Rattle.std.proofs.Common.{sym, ◌∙◌}
use Rattle.port_run.specs.Lines.{texts_of}
use Rattle.port_run.specs.Ending.{desk}
use Rattle.port_run.proofs.Statuses.{read_fault_only, write_fault_only, keeper_fault_only}
use Rattle.port_run.proofs.Complete.{is_served}
use Rattle.port_run.proofs.run.run_host.Goals as goal

pub returns-clause-ran : goal.returns-clause-ran
returns-clause-ran g c = record { end = c.serve-served.result; status_is = c.status.ensures; ended = c.serve-served.ensures.ended }

pub returns-clause-read_fault : goal.returns-clause-read_fault
returns-clause-read_fault g c = λ same. c.serve-served.ensures.not_read (read_fault_only c.serve-served.result (sym c.status.ensures ∙ same))

pub returns-clause-write_fault : goal.returns-clause-write_fault
returns-clause-write_fault g c = λ same. c.serve-served.ensures.not_written (write_fault_only c.serve-served.result (sym c.status.ensures ∙ same))

pub returns-clause-keeper_fault : goal.returns-clause-keeper_fault
returns-clause-keeper_fault g c = λ same. c.serve-served.ensures.not_kept (keeper_fault_only c.serve-served.result (sym c.status.ensures ∙ same))

pub returns-clause-complete : goal.returns-clause-complete
returns-clause-complete g c = λ good read write kept.
    is_served c.status.result c.args.key (g.P.Keeper.number c.args.keeper.now) (texts_of c.args.lines.now)
    (desk (g.S.Source.left c.args.source.now) (g.K.Sink.written c.args.sink.now) (g.P.Keeper.shelf c.args.keeper.now))
    (desk (g.S.Source.left c.serve-served.new.source) (g.K.Sink.written c.serve-served.new.sink) (g.P.Keeper.shelf c.serve-served.new.keeper))
    (record { end = c.serve-served.result; status_is = c.status.ensures; ended = c.serve-served.ensures.ended }) good
    (λ same. read (c.serve-served.ensures.not_read (read_fault_only c.serve-served.result (sym c.status.ensures ∙ same))))
    (λ same. write (c.serve-served.ensures.not_written (write_fault_only c.serve-served.result (sym c.status.ensures ∙ same))))
    (λ same. kept (c.serve-served.ensures.not_kept (keeper_fault_only c.serve-served.result (sym c.status.ensures ∙ same))))
