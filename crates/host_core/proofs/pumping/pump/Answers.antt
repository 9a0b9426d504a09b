-- Nodes are let sleep, and then requests are submitted.
use Rattle.zw_base.proofs.Results.{on_err}
use Rattle.host_model.specs.Pumping.{LetsSleep}
use Rattle.host_step_bytes.specs.Calls.{Scene, scene}
use Rattle.host_step_bytes.proofs.CallLists.{then_stops}
use Rattle.host_core.proofs.Submitted.{whole_pump}
use Rattle.host_core.proofs.pumping.pump.Goals as goal

pub returns-in_err-let_sleep-clause-err : goal.returns-in_err-let_sleep-clause-err
returns-in_err-let_sleep-clause-err g c =
    on_err c.from_residual.result (c.in_err-let_sleep.ensures.err (g.P.Keeper.shelf c.args.keeper.now))

pub returns-in_err-submit-clause-err : goal.returns-in_err-submit-clause-err
returns-in_err-submit-clause-err g c =
    let a : Scene = scene c.args.core.now.state c.args.out.now.items (g.P.Keeper.shelf c.args.keeper.now) in
    let b : Scene = scene c.let_sleep.new.core.state c.let_sleep.new.out.items (g.P.Keeper.shelf c.args.keeper.now) in
    let d : Scene = scene c.submit.new.core.state c.submit.new.out.items (g.P.Keeper.shelf c.submit.new.keeper) in
    on_err c.from_residual-in_err-submit.result (then_stops (LetsSleep c.args.core.now.state) a b d (c.in_ok-let_sleep.ensures.ok a.shelf) c.in_err-submit.ensures.err)

pub returns-clause-ok : goal.returns-clause-ok
returns-clause-ok g c =
    let a : Scene = scene c.args.core.now.state c.args.out.now.items (g.P.Keeper.shelf c.args.keeper.now) in
    let b : Scene = scene c.let_sleep.new.core.state c.let_sleep.new.out.items (g.P.Keeper.shelf c.args.keeper.now) in
    let d : Scene = scene c.submit.new.core.state c.submit.new.out.items (g.P.Keeper.shelf c.submit.new.keeper) in
    whole_pump a b d (c.in_ok-let_sleep.ensures.ok a.shelf) c.in_ok-submit.ensures.ok
