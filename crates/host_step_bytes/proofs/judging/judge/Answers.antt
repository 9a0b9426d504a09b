-- An item is answered, and then followed.
use Rattle.std.proofs.Common.{refl, ap}
use Rattle.zw_base.proofs.Results.{on_err}
use Rattle.host_model.specs.State.{HostParts}
use Rattle.host_model.proofs.EventLists.{none_added}
use Rattle.std.proofs.Common.{arith, [], ◌∷◌}
use Rattle.host_model.specs.Events.{Hears}
use Rattle.host_step_bytes.specs.Calls.{Scene, scene, Are}
use Rattle.host_step_bytes.proofs.CallLists.{stops_at_once, then_stops}
use Rattle.host_step_bytes.proofs.Pieces.{judges, hears}
use Rattle.host_step_bytes.proofs.judging.judge.Goals as goal

pub returns-in_err-hear-clause-err : goal.returns-in_err-hear-clause-err
returns-in_err-hear-clause-err g c =
    let a : Scene = scene c.args.core.now.state c.args.out.now.items (g.P.Keeper.shelf c.args.keeper.now) in
    let b : Scene = scene c.hear.new.self.state c.hear.new.out.items (g.P.Keeper.shelf c.args.keeper.now) in
    on_err c.from_residual.result
    (stops_at_once a b (ap (λ (p : HostParts). p.state) c.in_err-hear.ensures.err.0) c.in_err-hear.ensures.err.1 (none_added a.shelf.records) (omega arith))

pub returns-in_err-follow-clause-err : goal.returns-in_err-follow-clause-err
returns-in_err-follow-clause-err g c =
    let a : Scene = scene c.args.core.now.state c.args.out.now.items (g.P.Keeper.shelf c.args.keeper.now) in
    let b : Scene = scene c.hear.new.self.state c.hear.new.out.items (g.P.Keeper.shelf c.args.keeper.now) in
    let d : Scene = scene c.follow.new.core.state c.follow.new.out.items (g.P.Keeper.shelf c.follow.new.keeper) in
    on_err c.from_residual-in_err-follow.result
    (then_stops (Are (Hears c.args.item.now ∷ [])) a b d (hears c.args.item.now a b (ap (λ (p : HostParts). p.state) c.in_ok-hear.ensures.state) c.in_ok-hear.ensures.outs refl) c.in_err-follow.ensures.err)

pub returns-clause-ok : goal.returns-clause-ok
returns-clause-ok g c =
    let a : Scene = scene c.args.core.now.state c.args.out.now.items (g.P.Keeper.shelf c.args.keeper.now) in
    let b : Scene = scene c.hear.new.self.state c.hear.new.out.items (g.P.Keeper.shelf c.args.keeper.now) in
    let d : Scene = scene c.follow.new.core.state c.follow.new.out.items (g.P.Keeper.shelf c.follow.new.keeper) in
    judges c.args.item.now a b d (ap (λ (p : HostParts). p.state) c.in_ok-hear.ensures.state) c.in_ok-hear.ensures.outs refl (c.in_ok-follow.ensures.ok c.args.core.now.state.side.turn c.is_busy-was_busy.ensures)
