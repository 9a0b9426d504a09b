-- Sealed, or unread.
use Rattle.std.proofs.Common.{refl, sym, ◌∙◌, arith}
use Rattle.zw_base.proofs.Results.{on_err}
use Rattle.host_model.proofs.EventLists.{none_added}
use Rattle.host_step_bytes.specs.Calls.{Scene, scene}
use Rattle.host_step_bytes.proofs.CallLists.{stops_at_once}
use Rattle.host_step_bytes.proofs.Unsealed.{sealed_begins, payload_unread}
use Rattle.host_step_bytes.proofs.messages.take_payload.Goals as goal

pub returns-in_err-messages-clause-err : goal.returns-in_err-messages-clause-err
returns-in_err-messages-clause-err g c =
    let a : Scene = scene c.args.core.now.state c.args.out.now.items (g.P.Keeper.shelf c.args.keeper.now) in
    on_err c.from_residual.result (stops_at_once a a refl refl (none_added a.shelf.records) (omega arith))

pub take_sealed-requires-clause-header : goal.take_sealed-requires-clause-header
take_sealed-requires-clause-header g c = sealed_begins c.args.payload.now (sym c.in_ok-messages.ensures ∙ c.in-Sealed.is)

pub returns-in_err-unread-in-Unread-clause-err : goal.returns-in_err-unread-in-Unread-clause-err
returns-in_err-unread-in-Unread-clause-err g c =
    let a : Scene = scene c.args.core.now.state c.args.out.now.items (g.P.Keeper.shelf c.args.keeper.now) in
    let b : Scene = scene c.args.core.now.state c.unread.new.out.items (g.P.Keeper.shelf c.args.keeper.now) in
    on_err c.from_residual-in_err-unread-in-Unread.result (stops_at_once a b refl c.in_err-unread-in-Unread.ensures.err (none_added a.shelf.records) (omega arith))

pub returns-in_ok-unread-in-Unread-clause-ok : goal.returns-in_ok-unread-in-Unread-clause-ok
returns-in_ok-unread-in-Unread-clause-ok g c =
    let a : Scene = scene c.args.core.now.state c.args.out.now.items (g.P.Keeper.shelf c.args.keeper.now) in
    let b : Scene = scene c.args.core.now.state c.unread.new.out.items (g.P.Keeper.shelf c.args.keeper.now) in
    payload_unread c.args.node c.args.payload.now _ a b (sym c.in_ok-messages.ensures ∙ c.in-Unread.is) refl c.in_ok-unread-in-Unread.ensures.outs (none_added a.shelf.records) (omega arith)
