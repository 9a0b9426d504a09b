use Rattle.host_model.specs.State.{HostState}
use Rattle.host_model.specs.Events.{Requests_do}
use Rattle.host_parts.specs.Heard.{heard_as}
use Rattle.host_step.specs.Inside.{state_of, parts_of}
use Rattle.host_step.proofs.Done.{facts_hold, always, host_stayed, heard_may, state_done, outs_done, nothing_done}
use Rattle.host_step.proofs.host.HostCore.request_hears.Goals as goal

pub invariant_of-self : goal.invariant_of-self
invariant_of-self c =
    let h : HostState = state_of c.self.inside in
    let new : HostState = record h { requests = c.request_hears.new.requests; nodes = c.request_hears.new.nodes; commands = c.request_hears.new.commands.items } in
    facts_hold c.request_hears.result h new (Requests_do (heard_as c.args.heard) c.args.moment) c.facts_are_kept.ensures.each c.self.invariant (always c.request_hears.result _ (heard_may h.requests c.args.heard))
    (c.request_hears.ensures.state h) (host_stayed c.request_hears.result _ _ (c.request_hears.ensures.err h))

pub returns-clause-state : goal.returns-clause-state
returns-clause-state c =
    let h : HostState = state_of c.self.inside in
    let new : HostState = record h { requests = c.request_hears.new.requests; nodes = c.request_hears.new.nodes; commands = c.request_hears.new.commands.items } in
    state_done c.request_hears.result (parts_of c.self.inside) c.args.self.now new (Requests_do (heard_as c.args.heard) c.args.moment) c.self.view_is (c.request_hears.ensures.state h)

pub returns-clause-outs : goal.returns-clause-outs
returns-clause-outs c =
    outs_done c.request_hears.result (parts_of c.self.inside) c.args.self.now (Requests_do (heard_as c.args.heard) c.args.moment) c.args.out.now.items c.request_hears.new.out.items c.self.view_is
    (c.request_hears.ensures.outs (state_of c.self.inside))

pub returns-clause-err : goal.returns-clause-err
returns-clause-err c =
    let h : HostState = state_of c.self.inside in
    let new : HostState = record h { requests = c.request_hears.new.requests; nodes = c.request_hears.new.nodes; commands = c.request_hears.new.commands.items } in
    nothing_done c.request_hears.result (parts_of c.self.inside) c.args.self.now new c.args.out.now.items c.request_hears.new.out.items c.self.view_is (c.request_hears.ensures.err h)
