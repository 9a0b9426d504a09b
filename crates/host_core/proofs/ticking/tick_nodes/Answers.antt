-- The next node is ticked, or none is left.
use Rattle.std.proofs.Common.{ℕ, arith, refl, ap, sym, subst, ◌∙◌}
use Rattle.zw_base.proofs.Results.{on_err}
use Rattle.host_model.specs.State.{HostParts}
use Rattle.host_step_bytes.specs.Calls.{Are}
use Rattle.host_core.proofs.Loops.{TicksSoFar, none_so_far, one_more_so_far, all_so_far, ticked_next}
use Rattle.host_step_bytes.proofs.CallLists.{stops_alone, alone_then_stops}
use Rattle.host_core.proofs.ticking.tick_nodes.Goals as goal

pub loop-node-init : goal.loop-node-init
loop-node-init c = record { so_far = none_so_far c.args.core.now.state c.args.out.now.items (c.ticks_of_nodes_go_on.ensures.none c.args.core.now.state); decoder = refl }

pub tick_node-requires : goal.tick_node-requires
tick_node-requires c = (ticked_next c.loop-node.core.state c.loop-node.last c.in-Some.node (sym c.ticking_above.ensures ∙ c.in-Some.is)).may

pub loop-node-preserved : goal.loop-node-preserved
loop-node-preserved c = record {
  so_far = subst (λ (k : ℕ). TicksSoFar c.args.core.now.state c.args.out.now.items c.tick_node.new.self.state c.tick_node.new.out.items k) (sym c.number-last.ensures.value) (one_more_so_far c.args.core.now.state c.args.out.now.items c.loop-node.core.state c.loop-node.out.items c.loop-node.last c.in-Some.node c.tick_node.new.self.state c.tick_node.new.out.items
      c.loop-node.invariant.so_far
      (c.ticks_of_nodes_go_on.ensures.one_more c.args.core.now.state c.loop-node.core.state c.loop-node.last c.loop-node.invariant.so_far.events c.in-Some.node c.loop-node.invariant.so_far.ticked (sym c.ticking_above.ensures ∙ c.in-Some.is))
      (sym c.ticking_above.ensures ∙ c.in-Some.is) (ap (λ (p : HostParts). p.state) c.in_ok-tick_node.ensures.state) c.in_ok-tick_node.ensures.outs);
  decoder = ap (λ (p : HostParts). p.decoder) c.in_ok-tick_node.ensures.state ∙ c.loop-node.invariant.decoder;
}

pub loop-node-smaller : goal.loop-node-smaller
loop-node-smaller c =
    let next = ticked_next c.loop-node.core.state c.loop-node.last c.in-Some.node (sym c.ticking_above.ensures ∙ c.in-Some.is) in
    omega (arith, next.above, next.within, c.number-last.ensures.value)

pub returns-in_err-tick_node-clause-err : goal.returns-in_err-tick_node-clause-err
returns-in_err-tick_node-clause-err c =
    on_err c.from_residual.result
    (alone_then_stops (Are c.loop-node.invariant.so_far.events) c.args.core.now.state c.loop-node.core.state c.tick_node.new.self.state c.args.out.now.items c.loop-node.out.items c.tick_node.new.out.items
    c.loop-node.invariant.so_far.did
    (stops_alone c.loop-node.core.state c.tick_node.new.self.state c.loop-node.out.items c.tick_node.new.out.items (ap (λ (p : HostParts). p.state) c.in_err-tick_node.ensures.err.0) c.in_err-tick_node.ensures.err.1))

pub returns-in_err-tick_node-clause-decoder : goal.returns-in_err-tick_node-clause-decoder
returns-in_err-tick_node-clause-decoder c = ap (λ (p : HostParts). p.decoder) c.in_err-tick_node.ensures.err.0 ∙ c.loop-node.invariant.decoder

pub returns-clause-ok : goal.returns-clause-ok
returns-clause-ok c =
    all_so_far c.args.core.now.state c.args.out.now.items c.loop-node.core.state c.loop-node.out.items c.loop-node.last c.loop-node.invariant.so_far
    (c.ticks_of_nodes_go_on.ensures.all c.args.core.now.state c.loop-node.core.state c.loop-node.last c.loop-node.invariant.so_far.events c.loop-node.invariant.so_far.ticked c.loop-node.invariant.so_far.low
    (sym c.ticking_above.ensures ∙ c.in_default.is))
