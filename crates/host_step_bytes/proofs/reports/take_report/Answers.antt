-- A report of no open session, or of work.
use Rattle.std.proofs.Common.{refl, ap, sym, ◌∙◌, arith}
use Rattle.host_model.specs.State.{HostParts}
use Rattle.host_model.proofs.EventLists.{none_added}
use Rattle.host_step_bytes.specs.Calls.{Scene, scene}
use Rattle.std.proofs.lemmas.List.{append-nil}
use Rattle.host_step_bytes.proofs.Reported.{old_reported, work_reported}
use Rattle.host_step_bytes.proofs.reports.take_report.Goals as goal

pub returns-in_ok-old_report-in-Old-clause-ok : goal.returns-in_ok-old_report-in-Old-clause-ok
returns-in_ok-old_report-in-Old-clause-ok g c =
    let a : Scene = scene c.args.core.now.state c.args.out.now.items (g.P.Keeper.shelf c.args.keeper.now) in
    let b : Scene = scene c.args.core.now.state c.old_report.new.out.items (g.P.Keeper.shelf c.args.keeper.now) in
    old_reported c.args.node c.args.id c.args.status c.args.wake_request a b (sym c.told.ensures ∙ c.in-Old.is) refl c.in_ok-old_report-in-Old.ensures.outs (none_added a.shelf.records) (omega arith)

pub returns-in-Working-clause-ok : goal.returns-in-Working-clause-ok
returns-in-Working-clause-ok g c =
    let a : Scene = scene c.args.core.now.state c.args.out.now.items (g.P.Keeper.shelf c.args.keeper.now) in
    let b : Scene = scene c.works.new.self.state c.args.out.now.items (g.P.Keeper.shelf c.args.keeper.now) in
    work_reported c.args.node c.args.id c.args.status c.args.wake_request a b (sym c.told.ensures ∙ c.in-Working.is) (ap (λ (p : HostParts). p.state) c.works.ensures) (sym (append-nil a.outs)) (none_added a.shelf.records) (omega arith)
