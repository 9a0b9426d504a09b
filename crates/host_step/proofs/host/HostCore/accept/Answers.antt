use Rattle.std.proofs.Common.{◌≡◌, ◌+◌, length, subst}
use Rattle.std.specs.Prelude.{IfOk, OnOk}
use Rattle.host_keep.specs.Rows.{IsRecord}
use Rattle.host_keep.specs.declared.record.Record.TheVariants.{Accepted}
use Rattle.host_model.specs.State.{HostState, HostParts}
use Rattle.host_model.specs.Events.{Accepts}
use Rattle.host_model.specs.Asking.{carriage_for, refusal_for}
use Rattle.host_parts.specs.Choices.{Judges}
use Rattle.host_step.specs.Inside.{state_of, parts_of}
use Rattle.host_step.proofs.Done.{facts_hold, accepted_whole, refused_whole}
use Rattle.host_step.proofs.host.HostCore.accept.Goals as goal

pub invariant_of-self : goal.invariant_of-self
invariant_of-self g c =
    let h : HostState = state_of c.self.inside in
    let new : HostState = record h { nodes = c.accept.new.nodes; commands = c.accept.new.commands.items; store = c.accept.new.store } in
    facts_hold c.accept.result h new (Accepts c.args.order.now (carriage_for h c.args.order.now)) c.facts_are_kept.ensures.each c.self.invariant (c.accept.ensures.may h) (c.accept.ensures.state h) (c.accept.ensures.err h)

pub returns-clause-number : goal.returns-clause-number
returns-clause-number g c = subst (λ (s : HostParts). IfOk c.accept.result (λ number. number ≡ length s.state.commands + 1)) c.self.view_is c.accept.ensures.number

pub returns-clause-judges : goal.returns-clause-judges
returns-clause-judges g c = subst (λ (s : HostParts). Judges c.accept.result (refusal_for s.state c.args.order.now)) c.self.view_is (c.accept.ensures.judges (state_of c.self.inside))

pub returns-clause-in_range : goal.returns-clause-in_range
returns-clause-in_range g c = subst (λ (s : HostParts). OnOk c.accept.result (IsRecord (Accepted (length s.state.commands + 1) c.args.order.now))) c.self.view_is c.accept.ensures.in_range

pub returns-clause-kept : goal.returns-clause-kept
returns-clause-kept g c = rw (← c.self.view_is) c.accept.ensures.kept

pub returns-clause-state : goal.returns-clause-state
returns-clause-state g c =
    let h : HostState = state_of c.self.inside in
    let new : HostState = record h { nodes = c.accept.new.nodes; commands = c.accept.new.commands.items; store = c.accept.new.store } in
    accepted_whole c.accept.result (parts_of c.self.inside) c.args.self.now new c.args.order.now c.self.view_is (c.accept.ensures.state h)

pub returns-clause-err : goal.returns-clause-err
returns-clause-err g c =
    let h : HostState = state_of c.self.inside in
    let new : HostState = record h { nodes = c.accept.new.nodes; commands = c.accept.new.commands.items; store = c.accept.new.store } in
    refused_whole c.accept.result (parts_of c.self.inside) c.args.self.now new c.self.view_is (c.accept.ensures.err h)
