use Rattle.host_model.specs.State.{HostState, HostParts}
use Rattle.host_model.specs.Events.{Line_ticks}
use Rattle.host_step.specs.Inside.{state_of, parts_of}
use Rattle.host_step.proofs.Done.{facts_hold, always, host_stayed, outs_done, line_done, line_stayed}
use Rattle.host_step.proofs.host.HostCore.tick_line.Goals as goal

pub invariant_of-self : goal.invariant_of-self
invariant_of-self c =
    let h : HostState = state_of c.self.inside in
    let new : HostState = record h { side = c.tick_line.new.link.side; requests = c.tick_line.new.requests; nodes = c.tick_line.new.nodes; commands = c.tick_line.new.commands.items } in
    facts_hold c.tick_line.result h new Line_ticks c.facts_are_kept.ensures.each c.self.invariant (always c.tick_line.result _ tt) (c.tick_line.ensures.state h) (host_stayed c.tick_line.result _ _ (c.tick_line.ensures.err h))

pub returns-clause-state : goal.returns-clause-state
returns-clause-state c =
    let h : HostState = state_of c.self.inside in
    let new : HostState = record h { side = c.tick_line.new.link.side; requests = c.tick_line.new.requests; nodes = c.tick_line.new.nodes; commands = c.tick_line.new.commands.items } in
    let all : HostParts = record { decoder = c.tick_line.new.link.decoder; state = new } in
    line_done c.tick_line.result (parts_of c.self.inside) c.args.self.now all c.self.view_is c.tick_line.ensures.decoder (c.tick_line.ensures.state h)

pub returns-clause-outs : goal.returns-clause-outs
returns-clause-outs c =
    outs_done c.tick_line.result (parts_of c.self.inside) c.args.self.now Line_ticks c.args.out.now.items c.tick_line.new.out.items c.self.view_is (c.tick_line.ensures.outs (state_of c.self.inside))

pub returns-clause-err : goal.returns-clause-err
returns-clause-err c =
    let h : HostState = state_of c.self.inside in
    let new : HostState = record h { side = c.tick_line.new.link.side; requests = c.tick_line.new.requests; nodes = c.tick_line.new.nodes; commands = c.tick_line.new.commands.items } in
    let all : HostParts = record { decoder = c.tick_line.new.link.decoder; state = new } in
    line_stayed c.tick_line.result (parts_of c.self.inside) c.args.self.now all c.args.out.now.items c.tick_line.new.out.items c.self.view_is c.tick_line.ensures.stays (c.tick_line.ensures.err h)
