use Rattle.std.proofs.Common.{sym, subst}
use Rattle.supervision.specs.Host.{command_at as command_of_session}
use Rattle.host_model.specs.State.{HostParts, node_of}
use Rattle.host_model.specs.Facts.{HostFacts}
use Rattle.host_step.proofs.Found.{command_in_is_sound}
use Rattle.host_step.proofs.host.HostCore.segment.Goals as goal

pub segment-requires-clause-fit : goal.segment-requires-clause-fit
segment-requires-clause-fit c =
    let facts : HostFacts c.args.self.now.state = subst (λ (s : HostParts). HostFacts s.state) c.self.view_is c.self.invariant in
    let sound = command_in_is_sound c.args.self.now.state (command_of_session (node_of c.args.self.now.state c.args.node).book.commands c.args.session) c.in-Some.command.now facts (sym c.in-Some.ensures) in
    sound.fit

pub segment-requires-clause-form : goal.segment-requires-clause-form
segment-requires-clause-form c =
    let facts : HostFacts c.args.self.now.state = subst (λ (s : HostParts). HostFacts s.state) c.self.view_is c.self.invariant in
    let sound = command_in_is_sound c.args.self.now.state (command_of_session (node_of c.args.self.now.state c.args.node).book.commands c.args.session) c.in-Some.command.now facts (sym c.in-Some.ensures) in
    sound.form c.args.session
