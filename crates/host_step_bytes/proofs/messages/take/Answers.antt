-- One message, by what it tells.
use Rattle.std.proofs.Common.{rules, ◌≡◌, List, [], ◌∷◌, refl, ap, sym, ◌∙◌, subst, arith}
use Rattle.std.specs.Prelude.{true, false}
use Rattle.zw_base.specs.declared.property.Setting.{Setting}
use Rattle.zw_base.proofs.Results.{on_err}
use Rattle.host_heard.specs.declared.told.Told.{Told}
use Rattle.host_model.specs.State.{HostParts, node_of}
use Rattle.host_model.specs.Events.{Unreads, Notifies}
use Rattle.host_model.specs.Taking.{IsTaken, is_secure, value_events}
use Rattle.host_model.proofs.EventLists.{none_added}
use Rattle.host_step_bytes.specs.Calls.{Scene, scene}
use Rattle.host_step_bytes.proofs.CallLists.{stops_at_once, does_one}
use Rattle.host_step_bytes.proofs.OneMessage.{report_unread, as_taken}
use Rattle.host_step_bytes.proofs.Unsealed.{unread_does}
use Rattle.host_step_bytes.proofs.messages.take.Goals as goal

pub returns-in_err-unread-in-Report-clause-err : goal.returns-in_err-unread-in-Report-clause-err
returns-in_err-unread-in-Report-clause-err g c =
    let a : Scene = scene c.args.core.now.state c.args.out.now.items (g.P.Keeper.shelf c.args.keeper.now) in
    let b : Scene = scene c.args.core.now.state c.unread.new.out.items (g.P.Keeper.shelf c.args.keeper.now) in
    on_err c.from_residual.result (stops_at_once a b refl c.in_err-unread-in-Report.ensures.err (none_added a.shelf.records) (omega arith))

pub returns-then-is_secure-clause-ok : goal.returns-then-is_secure-clause-ok
returns-then-is_secure-clause-ok g c =
    let a : Scene = scene c.args.core.now.state c.args.out.now.items (g.P.Keeper.shelf c.args.keeper.now) in
    let b : Scene = scene c.args.core.now.state c.unread.new.out.items (g.P.Keeper.shelf c.args.keeper.now) in
    let plain : c.args.sealed ≡ false = search rules in
    let secure : is_secure (node_of c.args.core.now.state c.args.node).classes ≡ true = search rules in
    unread_does (IsTaken c.args.core.now.state c.args.node c.args.payload.now c.args.sealed c.args.message.now) c.args.node c.args.payload.now a b
    (subst (λ (m : Told). IsTaken c.args.core.now.state c.args.node c.args.payload.now c.args.sealed m (Unreads c.args.node c.args.payload.now ∷ [])) (sym c.in-Report.is) (report_unread c.args.core.now.state c.args.node c.args.payload.now c.args.sealed _ _ _ (Unreads c.args.node c.args.payload.now ∷ []) plain secure refl))
    refl c.in_ok-unread-in-Report.ensures.outs (none_added a.shelf.records) (omega arith)

pub returns-in_err-notified-in-Notification-clause-err : goal.returns-in_err-notified-in-Notification-clause-err
returns-in_err-notified-in-Notification-clause-err g c =
    let a : Scene = scene c.args.core.now.state c.args.out.now.items (g.P.Keeper.shelf c.args.keeper.now) in
    let b : Scene = scene c.notified.new.self.state c.notified.new.out.items (g.P.Keeper.shelf c.args.keeper.now) in
    on_err c.from_residual-in_err-notified-in-Notification.result (stops_at_once a b (ap (λ (p : HostParts). p.state) c.in_err-notified-in-Notification.ensures.err.0) c.in_err-notified-in-Notification.ensures.err.1 (none_added a.shelf.records) (omega arith))

pub returns-in_ok-notified-in-Notification-clause-ok : goal.returns-in_ok-notified-in-Notification-clause-ok
returns-in_ok-notified-in-Notification-clause-ok g c =
    let a : Scene = scene c.args.core.now.state c.args.out.now.items (g.P.Keeper.shelf c.args.keeper.now) in
    let b : Scene = scene c.notified.new.self.state c.notified.new.out.items (g.P.Keeper.shelf c.args.keeper.now) in
    does_one (IsTaken c.args.core.now.state c.args.node c.args.payload.now c.args.sealed c.args.message.now) (Notifies c.args.node) a b
    (subst (λ (m : Told). IsTaken c.args.core.now.state c.args.node c.args.payload.now c.args.sealed m (Notifies c.args.node ∷ [])) (sym c.in-Notification.is) refl) tt tt (ap (λ (p : HostParts). p.state) c.in_ok-notified-in-Notification.ensures.state) c.in_ok-notified-in-Notification.ensures.outs (none_added a.shelf.records) tt (omega arith)

pub returns-in_ok-resend-in-SegmentRequest-clause-ok : goal.returns-in_ok-resend-in-SegmentRequest-clause-ok
returns-in_ok-resend-in-SegmentRequest-clause-ok g c =
    let a : Scene = scene c.args.core.now.state c.args.out.now.items (g.P.Keeper.shelf c.args.keeper.now) in
    let b : Scene = scene c.resend.new.core.state c.resend.new.out.items (g.P.Keeper.shelf c.args.keeper.now) in
    as_taken _ c.args.core.now.state c.args.node c.args.payload.now c.args.sealed c.args.message.now _ a b c.in-SegmentRequest.is (c.in_ok-resend-in-SegmentRequest.ensures.ok a.shelf) (λ events are. are)

pub returns-in_ok-hear_values-in-Values-clause-ok : goal.returns-in_ok-hear_values-in-Values-clause-ok
returns-in_ok-hear_values-in-Values-clause-ok g c =
    let a : Scene = scene c.args.core.now.state c.args.out.now.items (g.P.Keeper.shelf c.args.keeper.now) in
    let b : Scene = scene c.hear_values.new.core.state c.hear_values.new.out.items (g.P.Keeper.shelf c.args.keeper.now) in
    as_taken _ c.args.core.now.state c.args.node c.args.payload.now c.args.sealed c.args.message.now _ a b c.in-Values.is (c.in_ok-hear_values-in-Values.ensures.ok a.shelf)
    (λ events are. are ∙ ap (λ (l : List Setting). value_events c.args.core.now.state c.args.node l) c.as_slice.ensures)
