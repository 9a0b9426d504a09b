-- One value after another.
use Rattle.std.proofs.Common.{◌≡◌, List, [], refl, ap, ◌∙◌, subst, arith}
use Rattle.zw_base.proofs.Results.{on_err}
use Rattle.host_model.specs.State.{HostParts}
use Rattle.host_step_bytes.specs.Calls.{DoesAlone, Are}
use Rattle.host_step_bytes.proofs.CallLists.{nothing_alone, stops_alone, alone_then_stops}
use Rattle.std.proofs.Common.{take}
use Rattle.std.proofs.lemmas.Grind.{common_steps}
use Rattle.zw_base.specs.declared.property.Setting.{Setting}
use Rattle.host_model.specs.Taking.{value_events}
use Rattle.host_step_bytes.proofs.OneValue.{value_heard}
use Rattle.host_step_bytes.proofs.values.hear_values.Goals as goal

pub loop-value-init : goal.loop-value-init
loop-value-init c = record { heard = nothing_alone (Are []) c.args.core.now.state c.args.core.now.state c.args.out.now.items c.args.out.now.items refl refl refl; decoder = refl }

pub loop-value-preserved : goal.loop-value-preserved
loop-value-preserved c = record {
  heard = value_heard c.messages_go_on.ensures.values c.args.core.now.state c.args.node c.args.values.now c.loop-value.value-index c.value-item.result c.loop-value.core.state c.hear_value.new.self.state
      c.args.out.now.items c.loop-value.out.items c.hear_value.new.out.items c.value-item.is (omega arith) c.loop-value.invariant.heard
      (ap (λ (p : HostParts). p.state) c.in_ok-hear_value.ensures.state) c.in_ok-hear_value.ensures.outs;
  decoder = ap (λ (p : HostParts). p.decoder) c.in_ok-hear_value.ensures.state ∙ c.loop-value.invariant.decoder;
}

pub returns-in_err-hear_value-clause-err : goal.returns-in_err-hear_value-clause-err
returns-in_err-hear_value-clause-err c =
    on_err c.from_residual.result
    (alone_then_stops _ c.args.core.now.state c.loop-value.core.state c.hear_value.new.self.state c.args.out.now.items c.loop-value.out.items c.hear_value.new.out.items c.loop-value.invariant.heard
    (stops_alone c.loop-value.core.state c.hear_value.new.self.state c.loop-value.out.items c.hear_value.new.out.items (ap (λ (p : HostParts). p.state) c.in_err-hear_value.ensures.err.0) c.in_err-hear_value.ensures.err.1))

pub returns-in_err-hear_value-clause-decoder : goal.returns-in_err-hear_value-clause-decoder
returns-in_err-hear_value-clause-decoder c = ap (λ (p : HostParts). p.decoder) c.in_err-hear_value.ensures.err.0 ∙ c.loop-value.invariant.decoder

pub returns-clause-ok : goal.returns-clause-ok
returns-clause-ok c =
    let whole : take c.loop-value.value-index c.args.values.now ≡ c.args.values.now = grind (arith, common_steps) in
    subst (λ (l : List Setting). DoesAlone (Are (value_events c.args.core.now.state c.args.node l)) c.args.core.now.state c.args.out.now.items c.loop-value.core.state c.loop-value.out.items) whole c.loop-value.invariant.heard
