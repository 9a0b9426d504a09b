-- A nonce is not taken, or a plain text is sealed to it.
use Rattle.std.proofs.Common.{rules, refl, ap, sym, ◌∙◌, arith}
use Rattle.zw_base.proofs.Results.{on_err}
use Rattle.host_model.specs.State.{HostParts}
use Rattle.host_model.proofs.EventLists.{none_added}
use Rattle.host_step_bytes.specs.Calls.{Scene, scene}
use Rattle.host_step_bytes.proofs.CallLists.{stops_at_once}
use Rattle.std.specs.Prelude.{slice_index}
use Rattle.host_node.specs.State.{NodeState, count_at}
use Rattle.host_step_bytes.proofs.OneNonce.{nonce_taken, no_nonce}
use Rattle.host_step_bytes.proofs.nonces.take_nonce.Goals as goal

pub returns-in_err-seen-clause-err : goal.returns-in_err-seen-clause-err
returns-in_err-seen-clause-err g c =
    let a : Scene = scene c.args.core.now.state c.args.out.now.items (g.P.Keeper.shelf c.args.keeper.now) in
    on_err c.from_residual.result (stops_at_once a a refl refl (none_added a.shelf.records) (omega arith))

pub returns-in_default-clause-ok : goal.returns-in_default-clause-ok
returns-in_default-clause-ok g c =
    let a : Scene = scene c.args.core.now.state c.args.out.now.items (g.P.Keeper.shelf c.args.keeper.now) in
    no_nonce c.args.node c.args.nonce a c.node.result.now _ c.node.ensures.value c.in_ok-seen.ensures.ok c.in_default.is

pub returns-in_err-text-clause-err : goal.returns-in_err-text-clause-err
returns-in_err-text-clause-err g c =
    let a : Scene = scene c.args.core.now.state c.args.out.now.items (g.P.Keeper.shelf c.args.keeper.now) in
    on_err c.from_residual-in_err-text.result (stops_at_once a a refl refl (none_added a.shelf.records) (omega arith))

pub returns-in_err-take_nonce-clause-err : goal.returns-in_err-take_nonce-clause-err
returns-in_err-take_nonce-clause-err g c =
    let a : Scene = scene c.args.core.now.state c.args.out.now.items (g.P.Keeper.shelf c.args.keeper.now) in
    let b : Scene = scene c.take_nonce.new.core.state c.take_nonce.new.out.items (g.P.Keeper.shelf c.take_nonce.new.keeper) in
    on_err c.from_residual-in_err-take_nonce.result
    (stops_at_once a b (ap (λ (p : HostParts). p.state) c.in_err-take_nonce.ensures.err.0) c.in_err-take_nonce.ensures.err.1 c.in_err-take_nonce.ensures.no_record c.take_nonce.ensures.never_falls)

pub returns-clause-ok : goal.returns-clause-ok
returns-clause-ok g c =
    let a : Scene = scene c.args.core.now.state c.args.out.now.items (g.P.Keeper.shelf c.args.keeper.now) in
    let b : Scene = scene c.take_nonce.new.core.state c.take_nonce.new.out.items (g.P.Keeper.shelf c.take_nonce.new.keeper) in
    nonce_taken c.args.node c.in-Some.seen c.in_ok-text.text c.next.result c.args.nonce c.in_ok-take_nonce.field-0 a b
    (ap (λ (s : NodeState). count_at s (slice_index c.args.nonce 0)) (sym c.node.ensures.value) ∙ sym c.in_ok-seen.ensures.ok ∙ c.in-Some.is) c.in_ok-text.ensures (search rules) c.in_ok-take_nonce.ensures.in_range c.in_ok-take_nonce.ensures.records c.in_ok-take_nonce.ensures.rose c.in_ok-take_nonce.ensures.unasked
    (ap (λ (p : HostParts). p.state) c.in_ok-take_nonce.ensures.state) c.in_ok-take_nonce.ensures.outs c.take_nonce.ensures.never_falls
