-- One request after another is submitted.
use Rattle.std.proofs.Common.{refl, ◌∙◌, arith}
use Rattle.zw_base.proofs.Results.{on_err}
use Rattle.host_model.proofs.EventLists.{none_added}
use Rattle.host_step_bytes.specs.Calls.{Scene, scene}
use Rattle.host_model.specs.Pumping.{SubmitsSome}
use Rattle.host_step_bytes.proofs.CallLists.{does_nothing, then_stops}
use Rattle.host_core.proofs.Submitted.{one_more_turn, last_turn}
use Rattle.host_core.proofs.pumping.submit.Goals as goal

pub loop-init : goal.loop-init
loop-init g c =
    let a : Scene = scene c.args.core.now.state c.args.out.now.items (g.P.Keeper.shelf c.args.keeper.now) in
    record { submitted = does_nothing (SubmitsSome a.host) a a tt refl refl (none_added a.shelf.records) (omega arith); decoder = refl; never_fewer = omega arith; reads = refl }

pub returns-in_err-submit_next-clause-err : goal.returns-in_err-submit_next-clause-err
returns-in_err-submit_next-clause-err g c =
    let a : Scene = scene c.args.core.now.state c.args.out.now.items (g.P.Keeper.shelf c.args.keeper.now) in
    let b : Scene = scene c.loop.core.state c.loop.out.items (g.P.Keeper.shelf c.loop.keeper) in
    let d : Scene = scene c.submit_next.new.core.state c.submit_next.new.out.items (g.P.Keeper.shelf c.submit_next.new.keeper) in
    on_err c.from_residual.result (then_stops (SubmitsSome a.host) a b d c.loop.invariant.submitted c.in_err-submit_next.ensures.err)

pub loop-preserved : goal.loop-preserved
loop-preserved g c =
    let a : Scene = scene c.args.core.now.state c.args.out.now.items (g.P.Keeper.shelf c.args.keeper.now) in
    let b : Scene = scene c.loop.core.state c.loop.out.items (g.P.Keeper.shelf c.loop.keeper) in
    let d : Scene = scene c.submit_next.new.core.state c.submit_next.new.out.items (g.P.Keeper.shelf c.submit_next.new.keeper) in
    let turn = rw c.if-branch.true at c.in_ok-submit_next.ensures.turns in
    record {
      submitted = one_more_turn (record { one_more = c.turns_of_a_pump_go_on.ensures.submits_one_more; all = c.turns_of_a_pump_go_on.ensures.submits_all }) a b d c.loop.invariant.submitted turn;
      decoder = c.in_ok-submit_next.ensures.decoder ∙ c.loop.invariant.decoder;
      never_fewer = omega (arith, c.loop.invariant.never_fewer, c.submit_next.ensures.never_fewer);
      reads = c.submit_next.ensures.reads ∙ c.loop.invariant.reads;
    }

pub loop-smaller : goal.loop-smaller
loop-smaller g c = c.in_ok-submit_next.ensures.fewer c.if-branch.true

pub returns-clause-ok : goal.returns-clause-ok
returns-clause-ok g c =
    let a : Scene = scene c.args.core.now.state c.args.out.now.items (g.P.Keeper.shelf c.args.keeper.now) in
    let b : Scene = scene c.loop.core.state c.loop.out.items (g.P.Keeper.shelf c.loop.keeper) in
    let d : Scene = scene c.submit_next.new.core.state c.submit_next.new.out.items (g.P.Keeper.shelf c.submit_next.new.keeper) in
    let turn = rw c.if-branch.false at c.in_ok-submit_next.ensures.turns in
    last_turn (record { one_more = c.turns_of_a_pump_go_on.ensures.submits_one_more; all = c.turns_of_a_pump_go_on.ensures.submits_all }) a b d c.loop.invariant.submitted turn
