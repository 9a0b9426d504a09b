-- A payload, a callback or an update.
use Rattle.std.proofs.Common.{List, [], refl, ap, arith}
use Rattle.zw_base.proofs.Results.{on_err}
use Rattle.host_model.specs.State.{HostParts}
use Rattle.host_model.specs.Events.{HostEvent}
use Rattle.host_model.proofs.EventLists.{none_added}
use Rattle.host_step_bytes.specs.Calls.{Scene, scene, Are}
use Rattle.chip_functions.specs.declared.notice.Notice.TheVariants.{SendData, AddNode}
use Rattle.host_requests.specs.Events.RequestsEvent.{CallsBack}
use Rattle.host_model.specs.Taking.{told_requests}
use Rattle.host_step_bytes.proofs.CallLists.{stops_at_once, does_nothing}
use Rattle.host_step_bytes.proofs.Followed.{notice_as, requests_alone}
use Rattle.host_step_bytes.proofs.judging.take_read.Goals as goal

pub returns-in_err-called_back-in-SendData-clause-err : goal.returns-in_err-called_back-in-SendData-clause-err
returns-in_err-called_back-in-SendData-clause-err g c =
    let a : Scene = scene c.args.core.now.state c.args.out.now.items (g.P.Keeper.shelf c.args.keeper.now) in
    let b : Scene = scene c.called_back.new.self.state c.called_back.new.out.items (g.P.Keeper.shelf c.args.keeper.now) in
    on_err c.from_residual-in_err-called_back-in-SendData.result (stops_at_once a b (ap (λ (p : HostParts). p.state) c.in_err-called_back-in-SendData.ensures.err.0) c.in_err-called_back-in-SendData.ensures.err.1 (none_added a.shelf.records) (omega arith))

pub returns-in-SendData-clause-ok : goal.returns-in-SendData-clause-ok
returns-in-SendData-clause-ok g c =
    let a : Scene = scene c.args.core.now.state c.args.out.now.items (g.P.Keeper.shelf c.args.keeper.now) in
    let b : Scene = scene c.called_back.new.self.state c.called_back.new.out.items (g.P.Keeper.shelf c.args.keeper.now) in
    notice_as (Are (told_requests (CallsBack c.in-SendData.callback_id c.in-SendData.status))) c.args.notice (SendData c.in-SendData.callback_id c.in-SendData.status) a b c.in-SendData.is
    (requests_alone (CallsBack c.in-SendData.callback_id c.in-SendData.status) a.host b.host a.outs b.outs tt (ap (λ (p : HostParts). p.state) c.in_ok-called_back-in-SendData.ensures.state) c.in_ok-called_back-in-SendData.ensures.outs a.shelf)
    (λ (events : List HostEvent) are. are)

pub returns-clause-ok : goal.returns-clause-ok
returns-clause-ok g c =
    let a : Scene = scene c.args.core.now.state c.args.out.now.items (g.P.Keeper.shelf c.args.keeper.now) in
    notice_as (Are []) c.args.notice (AddNode c.in-AddNode.callback_id c.in-AddNode.status c.in-AddNode.added) a a c.in-AddNode.is
    (does_nothing (Are []) a a refl refl refl (none_added a.shelf.records) (omega arith)) (λ (events : List HostEvent) are. are)
