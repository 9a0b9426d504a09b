-- Bytes are taken item by item.
use Rattle.std.proofs.Common.{refl, ◌∙◌, arith}
use Rattle.zw_base.proofs.Results.{on_err}
use Rattle.host_step_bytes.specs.Calls.{Scene, scene}
use Rattle.host_step_bytes.proofs.Pieces.{nothing_so_far, item_so_far, all_fed, prefix_fed}
use Rattle.host_step_bytes.proofs.judging.feed.Goals as goal

pub loop-rest-init : goal.loop-rest-init
loop-rest-init g c = record {
  fed = nothing_so_far c.args.core.now c.args.out.now.items (scene c.args.core.now.state c.args.out.now.items (g.P.Keeper.shelf c.args.keeper.now)).shelf c.args.piece.now;
  never_fewer = omega arith;
  reads = refl;
}

pub loop-rest-preserved : goal.loop-rest-preserved
loop-rest-preserved g c =
    let one = rw c.in-Some.is at c.in_ok-rest.ensures.takes in
    let a : Scene = scene c.loop-rest.core.state c.loop-rest.out.items (g.P.Keeper.shelf c.loop-rest.keeper) in
    let b : Scene = scene c.take_item.new.core.state c.take_item.new.out.items (g.P.Keeper.shelf c.take_item.new.keeper) in
    record {
      fed = item_so_far c.args.core.now c.args.out.now.items (scene c.args.core.now.state c.args.out.now.items (g.P.Keeper.shelf c.args.keeper.now)).shelf c.args.piece.now
          c.loop-rest.core a c.loop-rest.left.now c.take_item.new.core b c.in-Some.rest.now c.loop-rest.invariant.fed one;
      never_fewer = omega (arith, c.loop-rest.invariant.never_fewer, c.take_item.ensures.never_fewer);
      reads = c.take_item.ensures.reads ∙ c.loop-rest.invariant.reads;
    }

pub loop-rest-smaller : goal.loop-rest-smaller
loop-rest-smaller g c = let one = rw c.in-Some.is at c.in_ok-rest.ensures.takes in one.2

pub returns-in_err-rest-clause-err : goal.returns-in_err-rest-clause-err
returns-in_err-rest-clause-err g c =
    let a : Scene = scene c.loop-rest.core.state c.loop-rest.out.items (g.P.Keeper.shelf c.loop-rest.keeper) in
    let b : Scene = scene c.take_item.new.core.state c.take_item.new.out.items (g.P.Keeper.shelf c.take_item.new.keeper) in
    on_err c.from_residual.result
    (prefix_fed c.args.core.now c.args.out.now.items (scene c.args.core.now.state c.args.out.now.items (g.P.Keeper.shelf c.args.keeper.now)).shelf c.args.piece.now
    c.loop-rest.core a c.loop-rest.left.now c.take_item.new.core b c.loop-rest.invariant.fed c.in_err-rest.ensures.err)

pub returns-clause-ok : goal.returns-clause-ok
returns-clause-ok g c =
    let all = rw c.in_default.is at c.in_ok-rest.ensures.takes in
    let a : Scene = scene c.loop-rest.core.state c.loop-rest.out.items (g.P.Keeper.shelf c.loop-rest.keeper) in
    let b : Scene = scene c.take_item.new.core.state c.take_item.new.out.items (g.P.Keeper.shelf c.take_item.new.keeper) in
    all_fed c.args.core.now c.args.out.now.items (scene c.args.core.now.state c.args.out.now.items (g.P.Keeper.shelf c.args.keeper.now)).shelf c.args.piece.now
    c.loop-rest.core a c.loop-rest.left.now c.take_item.new.core b c.loop-rest.invariant.fed all
