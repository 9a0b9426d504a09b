-- A notice that can be read.
use Rattle.std.proofs.Common.{refl, arith}
use Rattle.std.specs.Prelude.{Ok}
use Rattle.zw_base.proofs.Results.{on_err}
use Rattle.host_model.proofs.EventLists.{none_added}
use Rattle.host_step_bytes.specs.Calls.{Scene, scene}
use Rattle.host_step_bytes.proofs.CallLists.{stops_at_once}
use Rattle.host_step_bytes.proofs.Followed.{payload_is_short, read_as, unread_notice}
use Rattle.host_step_bytes.proofs.judging.take_notice.Goals as goal

pub take_read-requires : goal.take_read-requires
take_read-requires g c = payload_is_short c.args.func c.args.body.now c.in-Ok.notice c.in-Ok.ensures.found c.requires

pub returns-in_ok-take_read-in-Ok-clause-ok : goal.returns-in_ok-take_read-in-Ok-clause-ok
returns-in_ok-take_read-in-Ok-clause-ok g c =
    read_as _ (Ok c.in-Ok.notice) (scene c.args.core.now.state c.args.out.now.items (g.P.Keeper.shelf c.args.keeper.now)) (scene c.take_read.new.core.state c.take_read.new.out.items (g.P.Keeper.shelf c.take_read.new.keeper)) c.in-Ok.ensures.exact c.in_ok-take_read-in-Ok.ensures.ok

pub returns-in-Err-clause-ok : goal.returns-in-Err-clause-ok
returns-in-Err-clause-ok g c =
    let a : Scene = scene c.args.core.now.state c.args.out.now.items (g.P.Keeper.shelf c.args.keeper.now) in
    unread_notice c.unread.result c.in-Err.fault _ a c.unread.ensures.ok c.in-Err.ensures.exact

pub returns-in-Err-clause-err : goal.returns-in-Err-clause-err
returns-in-Err-clause-err g c =
    let a : Scene = scene c.args.core.now.state c.args.out.now.items (g.P.Keeper.shelf c.args.keeper.now) in
    on_err c.unread.result (stops_at_once a a refl refl (none_added a.shelf.records) (omega arith))
