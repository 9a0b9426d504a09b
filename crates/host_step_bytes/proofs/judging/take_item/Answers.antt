-- The first item is judged, or all bytes are unfinished.
use Rattle.std.proofs.Common.{refl, ap, subst, arith}
use Rattle.zw_base.proofs.Results.{on_err}
use Rattle.serial_frame.specs.Stream.{Rest, IsRest}
use Rattle.host_model.specs.State.{HostState, HostParts}
use Rattle.host_model.specs.Taking.{IsJudged}
use Rattle.host_model.proofs.EventLists.{none_added}
use Rattle.host_model.proofs.Feeding.{fed_none}
use Rattle.host_step_bytes.specs.Calls.{Scene, scene, Does}
use Rattle.host_step_bytes.proofs.CallLists.{stops_at_once}
use Rattle.host_step_bytes.proofs.Pieces.{takes_item, stops_in_item}
use Rattle.host_step_bytes.proofs.judging.take_item.Goals as goal

pub returns-in_err-found-clause-err : goal.returns-in_err-found-clause-err
returns-in_err-found-clause-err g c =
    let a : Scene = scene c.args.core.now.state c.args.out.now.items (g.P.Keeper.shelf c.args.keeper.now) in
    let b : Scene = scene c.next_item.new.self.state c.args.out.now.items (g.P.Keeper.shelf c.args.keeper.now) in
    on_err c.from_residual.result
    (stops_in_item c.args.core.now c.next_item.new.self a b c.args.piece.now (subst (λ (r : Rest). IsRest r) c.decoder.ensures.state c.decoder.ensures.is_rest) refl refl
    (stops_at_once a b (ap (λ (p : HostParts). p.state) c.in_err-found.ensures.err) refl (none_added a.shelf.records) (omega arith)))

pub returns-in_err-judge-clause-err : goal.returns-in_err-judge-clause-err
returns-in_err-judge-clause-err g c =
    let a : Scene = scene c.next_item.new.self.state c.args.out.now.items (g.P.Keeper.shelf c.args.keeper.now) in
    let b : Scene = scene c.judge.new.core.state c.judge.new.out.items (g.P.Keeper.shelf c.judge.new.keeper) in
    on_err c.from_residual-in_err-judge.result
    (stops_in_item c.args.core.now c.judge.new.core a b c.args.piece.now (subst (λ (r : Rest). IsRest r) c.decoder.ensures.state c.decoder.ensures.is_rest) c.in_ok-found.ensures.state refl c.in_err-judge.ensures.err)

pub returns-clause-takes : goal.returns-clause-takes
returns-clause-takes g c =
    let found = rw c.in-Some.is at c.in_ok-found.ensures.feeds in
    let shorter = rw c.in-Some.is at c.in_ok-found.ensures.shorter in
    let judged = subst (λ (h : HostState). Does (IsJudged h c.in-Some.item)
    (scene h c.args.out.now.items (g.P.Keeper.shelf c.args.keeper.now))
    (scene c.judge.new.core.state c.judge.new.out.items (g.P.Keeper.shelf c.judge.new.keeper))) c.in_ok-found.ensures.state c.in_ok-judge.ensures.ok in
    takes_item c.args.core.now c.next_item.new.self c.judge.new.core
    (scene c.args.core.now.state c.args.out.now.items (g.P.Keeper.shelf c.args.keeper.now))
    (scene c.judge.new.core.state c.judge.new.out.items (g.P.Keeper.shelf c.judge.new.keeper))
    c.args.piece.now found.0 _ c.in-Some.item refl c.in_ok-found.ensures.state refl c.in_ok-judge.ensures.decoder found.1 shorter found.2 found.3 judged

pub returns-in_default-clause-takes : goal.returns-in_default-clause-takes
returns-in_default-clause-takes g c =
    let found = rw c.in_default.is at c.in_ok-found.ensures.feeds in
    fed_none c.args.core.now c.args.piece.now c.next_item.new.self c.args.out.now.items c.args.out.now.items
    (scene c.args.core.now.state c.args.out.now.items (g.P.Keeper.shelf c.args.keeper.now)).shelf
    (scene c.args.core.now.state c.args.out.now.items (g.P.Keeper.shelf c.args.keeper.now)).shelf
    found.1 found.2 c.in_ok-found.ensures.state refl (none_added (g.P.Keeper.shelf c.args.keeper.now).records) (omega arith)
