-- The next node is told, or none is left.
use Rattle.std.proofs.Common.{◌≡◌, refl, ap, sym, subst, ◌∙◌, ◌<◌}
use Rattle.zw_base.proofs.Results.{on_err}
use Rattle.host_model.specs.State.{HostState, HostParts}
use Rattle.std.specs.Prelude.{Some, None}
use Rattle.host_node.specs.Search.{first_wanting}
use Rattle.host_model.specs.Pumping.{sleepers_left}
use Rattle.host_step_bytes.specs.Calls.{Are}
use Rattle.host_core.proofs.Loops.{none_sleeps, one_more_sleeps, all_sleep}
use Rattle.host_step_bytes.proofs.CallLists.{stops_alone, alone_then_stops}
use Rattle.host_core.proofs.sleeping.let_sleep.Goals as goal

pub loop-node-init : goal.loop-node-init
loop-node-init c = record { so_far = none_sleeps c.args.core.now.state c.args.out.now.items; decoder = refl }

pub let_one_sleep-requires : goal.let_one_sleep-requires
let_one_sleep-requires c = sym c.first_wanting.ensures ∙ c.in-Some.is

pub loop-node-preserved : goal.loop-node-preserved
loop-node-preserved c = record {
  so_far = one_more_sleeps c.args.core.now.state c.args.out.now.items c.loop-node.core.state c.loop-node.out.items c.in-Some.node c.let_one_sleep.new.core.state c.let_one_sleep.new.out.items
      c.loop-node.invariant.so_far
      (c.turns_of_a_pump_go_on.ensures.lets_one_more c.args.core.now.state c.loop-node.invariant.so_far.events c.in-Some.node c.loop-node.invariant.so_far.lets
      (subst (λ (h : HostState). first_wanting h.nodes ≡ Some c.in-Some.node) c.loop-node.invariant.so_far.state (sym c.first_wanting.ensures ∙ c.in-Some.is)))
      (c.nodes_are_told_in_few_turns.ensures.may c.loop-node.core.state c.in-Some.node (sym c.first_wanting.ensures ∙ c.in-Some.is)) (ap (λ (p : HostParts). p.state) c.in_ok-let_one_sleep.ensures.state) c.in_ok-let_one_sleep.ensures.outs;
  decoder = ap (λ (p : HostParts). p.decoder) c.in_ok-let_one_sleep.ensures.state ∙ c.loop-node.invariant.decoder;
}

pub loop-node-smaller : goal.loop-node-smaller
loop-node-smaller c =
    subst (λ (h : HostState). sleepers_left h < sleepers_left c.loop-node.core.state) (sym (ap (λ (p : HostParts). p.state) c.in_ok-let_one_sleep.ensures.state))
    (c.nodes_are_told_in_few_turns.ensures.fewer c.loop-node.core.state c.in-Some.node (sym c.first_wanting.ensures ∙ c.in-Some.is))

pub returns-in_err-let_one_sleep-clause-err : goal.returns-in_err-let_one_sleep-clause-err
returns-in_err-let_one_sleep-clause-err c =
    on_err c.from_residual.result
    (alone_then_stops (Are c.loop-node.invariant.so_far.events) c.args.core.now.state c.loop-node.core.state c.let_one_sleep.new.core.state c.args.out.now.items c.loop-node.out.items c.let_one_sleep.new.out.items
    c.loop-node.invariant.so_far.did
    (stops_alone c.loop-node.core.state c.let_one_sleep.new.core.state c.loop-node.out.items c.let_one_sleep.new.out.items (ap (λ (p : HostParts). p.state) c.in_err-let_one_sleep.ensures.err.0) c.in_err-let_one_sleep.ensures.err.1))

pub returns-in_err-let_one_sleep-clause-decoder : goal.returns-in_err-let_one_sleep-clause-decoder
returns-in_err-let_one_sleep-clause-decoder c = ap (λ (p : HostParts). p.decoder) c.in_err-let_one_sleep.ensures.err.0 ∙ c.loop-node.invariant.decoder

pub returns-clause-ok : goal.returns-clause-ok
returns-clause-ok c = all_sleep c.args.core.now.state c.args.out.now.items c.loop-node.core.state c.loop-node.out.items c.loop-node.invariant.so_far
    (c.turns_of_a_pump_go_on.ensures.lets_all c.args.core.now.state c.loop-node.invariant.so_far.events c.loop-node.invariant.so_far.lets
    (subst (λ (h : HostState). first_wanting h.nodes ≡ None) c.loop-node.invariant.so_far.state (sym c.first_wanting.ensures ∙ c.in_default.is)))
