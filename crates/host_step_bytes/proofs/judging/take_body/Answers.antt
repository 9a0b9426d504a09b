-- A response or a notice.
use Rattle.std.proofs.Common.{ap, arith}
use Rattle.zw_base.proofs.Results.{on_err}
use Rattle.host_model.specs.State.{HostParts}
use Rattle.host_model.proofs.EventLists.{none_added}
use Rattle.host_step_bytes.specs.Calls.{Scene, scene}
use Rattle.host_step_bytes.proofs.CallLists.{stops_at_once}
use Rattle.host_step_bytes.proofs.Followed.{frame_as}
use Rattle.serial_frame.specs.declared.frame.Kind.TheVariants as kind
use Rattle.host_step_bytes.proofs.judging.take_body.Goals as goal

pub returns-in_err-take_response-in-Response-clause-err : goal.returns-in_err-take_response-in-Response-clause-err
returns-in_err-take_response-in-Response-clause-err g c =
    let a : Scene = scene c.args.core.now.state c.args.out.now.items (g.P.Keeper.shelf c.args.keeper.now) in
    let b : Scene = scene c.take_response.new.core.state c.take_response.new.out.items (g.P.Keeper.shelf c.args.keeper.now) in
    on_err c.from_residual.result (stops_at_once a b (ap (λ (p : HostParts). p.state) c.in_err-take_response-in-Response.ensures.err.0) c.in_err-take_response-in-Response.ensures.err.1 (none_added a.shelf.records) (omega arith))

pub returns-in_ok-take_response-in-Response-clause-ok : goal.returns-in_ok-take_response-in-Response-clause-ok
returns-in_ok-take_response-in-Response-clause-ok g c =
    let a : Scene = scene c.args.core.now.state c.args.out.now.items (g.P.Keeper.shelf c.args.keeper.now) in
    let b : Scene = scene c.take_response.new.core.state c.take_response.new.out.items (g.P.Keeper.shelf c.args.keeper.now) in
    frame_as c.args.kind kind.Response c.args.func c.args.body.now a b c.in-Response.is (c.in_ok-take_response-in-Response.ensures.ok a.shelf)
