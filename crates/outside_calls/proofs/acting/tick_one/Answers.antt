use Rattle.std.proofs.Common.{[], ap, ◌∙◌, arith}
use Rattle.device_sim.specs.State.{State}
use Rattle.device_sim.specs.Event.{Ticks}
use Rattle.zw_base.proofs.Results.{on_err}
use Rattle.outside_calls.proofs.Single.{entered}
use Rattle.outside_calls.proofs.Ticking.{tick_keeps_node, has_told, has_acted}
use Rattle.outside_calls.proofs.acting.tick_one.Goals as goal

pub returns-in_err-tell_act-clause-err : goal.returns-in_err-tell_act-clause-err
returns-in_err-tell_act-clause-err g c = on_err c.from_residual-in_err-tell_act.result
    (has_acted c.args.core.now _ _ (Ticks []) _ c.in_ok-made.ensures.ok c.in_ok-made.ensures.replies _ _
    (c.node_of.ensures ∙ (ap (λ (d : State). d.node) c.in_ok-made.ensures.ok ∙ tick_keeps_node _ [])) c.in_err-tell_act.ensures.1)

pub returns-in_err-enter-clause-err : goal.returns-in_err-enter-clause-err
returns-in_err-enter-clause-err g c = on_err c.from_residual-in_err-enter.result
    (has_acted c.args.core.now _ _ (Ticks []) _ c.in_ok-made.ensures.ok c.in_ok-made.ensures.replies _ _
    (c.node_of.ensures ∙ (ap (λ (d : State). d.node) c.in_ok-made.ensures.ok ∙ tick_keeps_node _ [])) c.in_ok-tell_act.ensures.1)

pub returns-clause-ok : goal.returns-clause-ok
returns-clause-ok g c =
    let did = has_told c.args.core.now _ _ (Ticks []) _ c.in_ok-made.ensures.ok c.in_ok-made.ensures.replies _ _ _ _ _
    (c.node_of.ensures ∙ (ap (λ (d : State). d.node) c.in_ok-made.ensures.ok ∙ tick_keeps_node _ [])) (omega (arith, c.changes_of.ensures, c.in_ok-made.ensures.made)) c.in_ok-tell_act.ensures in
    (did.0, did.1, entered _ _ _ _ _ _ _ c.new-told.ensures did.2 c.in_ok-enter.ensures.outer c.in_ok-enter.ensures.entered)
