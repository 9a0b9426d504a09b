use Rattle.host_model.specs.State.{HostState}
use Rattle.host_model.specs.Events.{Node_ticks}
use Rattle.host_step.specs.Inside.{state_of, parts_of}
use Rattle.host_step.proofs.Done.{facts_hold, always, host_stayed, may_here, state_done, outs_done, nothing_done}
use Rattle.host_step.proofs.host.HostCore.tick_node.Goals as goal

pub invariant_of-self : goal.invariant_of-self
invariant_of-self c =
    let h : HostState = state_of c.self.inside in
    let new : HostState = record h { nodes = c.tick_node.new.nodes; commands = c.tick_node.new.commands.items } in
    facts_hold c.tick_node.result h new (Node_ticks c.args.node) c.facts_are_kept.ensures.each c.self.invariant
    (always c.tick_node.result _ (may_here (parts_of c.self.inside) c.args.self.now (Node_ticks c.args.node) c.self.view_is c.requires))
    (c.tick_node.ensures.state h) (host_stayed c.tick_node.result _ _ (c.tick_node.ensures.err h))

pub returns-clause-state : goal.returns-clause-state
returns-clause-state c =
    let h : HostState = state_of c.self.inside in
    let new : HostState = record h { nodes = c.tick_node.new.nodes; commands = c.tick_node.new.commands.items } in
    state_done c.tick_node.result (parts_of c.self.inside) c.args.self.now new (Node_ticks c.args.node) c.self.view_is (c.tick_node.ensures.state h)

pub returns-clause-outs : goal.returns-clause-outs
returns-clause-outs c =
    outs_done c.tick_node.result (parts_of c.self.inside) c.args.self.now (Node_ticks c.args.node) c.args.out.now.items c.tick_node.new.out.items c.self.view_is (c.tick_node.ensures.outs (state_of c.self.inside))

pub returns-clause-err : goal.returns-clause-err
returns-clause-err c =
    let h : HostState = state_of c.self.inside in
    let new : HostState = record h { nodes = c.tick_node.new.nodes; commands = c.tick_node.new.commands.items } in
    nothing_done c.tick_node.result (parts_of c.self.inside) c.args.self.now new c.args.out.now.items c.tick_node.new.out.items c.self.view_is (c.tick_node.ensures.err h)
