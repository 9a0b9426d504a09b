-- A frame is what its parts are.
use Rattle.host_step_bytes.specs.Calls.{Scene, scene}
use Rattle.host_step_bytes.proofs.Followed.{parts_bring}
use Rattle.host_step_bytes.proofs.judging.take_frame.Goals as goal

pub returns-clause-ok : goal.returns-clause-ok
returns-clause-ok g c =
    let a : Scene = scene c.args.core.now.state c.args.out.now.items (g.P.Keeper.shelf c.args.keeper.now) in
    let b : Scene = scene c.take_body.new.core.state c.take_body.new.out.items (g.P.Keeper.shelf c.take_body.new.keeper) in
    parts_bring c.args.frame.now c.frame.inside.kind c.frame.inside.func c.frame.inside.body c.as_slice-body.result.now a b c.frame.view_is c.as_slice-body.ensures c.in_ok-take_body.ensures.ok
