-- One message after another.
use Rattle.std.proofs.Common.{refl, ◌∙◌, arith, []}
use Rattle.zw_base.proofs.Results.{on_err}
use Rattle.host_model.specs.Taking.{AreTaken}
use Rattle.host_model.proofs.EventLists.{none_added}
use Rattle.host_step_bytes.specs.Calls.{Scene, scene}
use Rattle.host_step_bytes.proofs.CallLists.{does_nothing, then_stops}
use Rattle.host_step_bytes.proofs.Taken.{message_taken}
use Rattle.host_step_bytes.proofs.messages.take_all.Goals as goal

pub loop-message-init : goal.loop-message-init
loop-message-init g c =
    let a : Scene = scene c.args.core.now.state c.args.out.now.items (g.P.Keeper.shelf c.args.keeper.now) in
    record {
      taken = does_nothing (AreTaken c.args.core.now.state c.args.node c.args.payload.now c.args.sealed []) a a refl refl refl (none_added a.shelf.records) (omega arith);
      decoder = refl;
      never_fewer = omega arith;
      reads = refl;
    }

pub loop-message-preserved : goal.loop-message-preserved
loop-message-preserved g c =
    let a : Scene = scene c.args.core.now.state c.args.out.now.items (g.P.Keeper.shelf c.args.keeper.now) in
    let b : Scene = scene c.loop-message.core.state c.loop-message.out.items (g.P.Keeper.shelf c.loop-message.keeper) in
    let d : Scene = scene c.take.new.core.state c.take.new.out.items (g.P.Keeper.shelf c.take.new.keeper) in
    record {
      taken = message_taken (record { one = c.messages_go_on.ensures.one; both = c.messages_go_on.ensures.both }) c.args.node c.args.payload.now c.args.sealed c.args.messages.now c.loop-message.message-index c.message-item.result a b d c.message-item.is (omega arith) c.loop-message.invariant.taken c.in_ok-take.ensures.ok;
      decoder = c.in_ok-take.ensures.decoder ∙ c.loop-message.invariant.decoder;
      never_fewer = omega (arith, c.loop-message.invariant.never_fewer, c.take.ensures.never_fewer);
      reads = c.take.ensures.reads ∙ c.loop-message.invariant.reads;
    }

pub returns-in_err-take-clause-err : goal.returns-in_err-take-clause-err
returns-in_err-take-clause-err g c =
    let a : Scene = scene c.args.core.now.state c.args.out.now.items (g.P.Keeper.shelf c.args.keeper.now) in
    let b : Scene = scene c.loop-message.core.state c.loop-message.out.items (g.P.Keeper.shelf c.loop-message.keeper) in
    let d : Scene = scene c.take.new.core.state c.take.new.out.items (g.P.Keeper.shelf c.take.new.keeper) in
    on_err c.from_residual.result (then_stops _ a b d c.loop-message.invariant.taken c.in_err-take.ensures.err)
