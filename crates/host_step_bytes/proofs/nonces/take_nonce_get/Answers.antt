-- The live nonce is offered, or a new one is given.
use Rattle.std.proofs.Common.{rules, ap, sym, ◌∙◌, arith}
use Rattle.zw_base.proofs.Results.{on_err}
use Rattle.host_model.specs.State.{HostParts}
use Rattle.host_model.proofs.EventLists.{none_added}
use Rattle.host_step_bytes.specs.Calls.{Scene, scene}
use Rattle.host_step_bytes.proofs.CallLists.{stops_at_once}
use Rattle.host_step_bytes.proofs.OneNonce.{nonce_offered, nonce_given}
use Rattle.host_step_bytes.proofs.nonces.take_nonce_get.Goals as goal

pub returns-in_err-offer-in-Some-clause-err : goal.returns-in_err-offer-in-Some-clause-err
returns-in_err-offer-in-Some-clause-err g c =
    let a : Scene = scene c.args.core.now.state c.args.out.now.items (g.P.Keeper.shelf c.args.keeper.now) in
    let b : Scene = scene c.offer.new.self.state c.offer.new.out.items (g.P.Keeper.shelf c.args.keeper.now) in
    on_err c.from_residual.result
    (stops_at_once a b (ap (λ (p : HostParts). p.state) c.in_err-offer-in-Some.ensures.err.0) c.in_err-offer-in-Some.ensures.err.1 (none_added a.shelf.records) (omega arith))

pub returns-in_err-give-in-None-clause-err : goal.returns-in_err-give-in-None-clause-err
returns-in_err-give-in-None-clause-err g c =
    let a : Scene = scene c.args.core.now.state c.args.out.now.items (g.P.Keeper.shelf c.args.keeper.now) in
    let b : Scene = scene c.give.new.core.state c.give.new.out.items (g.P.Keeper.shelf c.give.new.keeper) in
    on_err c.from_residual-in_err-give-in-None.result
    (stops_at_once a b (ap (λ (p : HostParts). p.state) c.in_err-give-in-None.ensures.err.0) c.in_err-give-in-None.ensures.err.1 c.in_err-give-in-None.ensures.no_record c.give.ensures.never_falls)

pub returns-in_ok-offer-in-Some-clause-ok : goal.returns-in_ok-offer-in-Some-clause-ok
returns-in_ok-offer-in-Some-clause-ok g c =
    let a : Scene = scene c.args.core.now.state c.args.out.now.items (g.P.Keeper.shelf c.args.keeper.now) in
    let b : Scene = scene c.offer.new.self.state c.offer.new.out.items (g.P.Keeper.shelf c.args.keeper.now) in
    nonce_offered c.args.node _ a b (sym c.live.ensures ∙ c.in-Some.is) (ap (λ (p : HostParts). p.state) c.in_ok-offer-in-Some.ensures.state) c.in_ok-offer-in-Some.ensures.outs (none_added a.shelf.records) (omega arith)

pub returns-in_ok-give-in-None-clause-ok : goal.returns-in_ok-give-in-None-clause-ok
returns-in_ok-give-in-None-clause-ok g c =
    let a : Scene = scene c.args.core.now.state c.args.out.now.items (g.P.Keeper.shelf c.args.keeper.now) in
    let b : Scene = scene c.give.new.core.state c.give.new.out.items (g.P.Keeper.shelf c.give.new.keeper) in
    nonce_given c.args.node c.draw_bytes-drawn.result c.in_ok-give-in-None.field-0 a b (sym c.live.ensures ∙ c.in-None.is) (search rules) c.draw_bytes-drawn.ensures.bytes c.in_ok-give-in-None.ensures.in_range c.in_ok-give-in-None.ensures.kept (ap (λ (p : HostParts). p.state) c.in_ok-give-in-None.ensures.state) c.in_ok-give-in-None.ensures.outs c.give.ensures.never_falls
