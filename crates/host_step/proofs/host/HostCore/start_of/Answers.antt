use Rattle.std.proofs.Common.{sym, subst}
use Rattle.supervision.specs.Host.{command_at as command_of_session}
use Rattle.host_model.specs.State.{HostParts, node_of}
use Rattle.host_model.specs.Facts.{HostFacts}
use Rattle.host_step.proofs.Found.{command_in_is_sound}
use Rattle.host_step.proofs.host.HostCore.start_of.Goals as goal

pub start-requires-clause-fit : goal.start-requires-clause-fit
start-requires-clause-fit c =
    let facts : HostFacts c.args.self.now.state = subst (λ (s : HostParts). HostFacts s.state) c.self.view_is c.self.invariant in
    let sound = command_in_is_sound c.args.self.now.state (command_of_session (node_of c.args.self.now.state c.args.node).book.commands c.in-Some.session) c.in-Some-command_of.command.now facts (sym c.in-Some-command_of.ensures) in
    sound.fit

pub start-requires-clause-form : goal.start-requires-clause-form
start-requires-clause-form c =
    let facts : HostFacts c.args.self.now.state = subst (λ (s : HostParts). HostFacts s.state) c.self.view_is c.self.invariant in
    let sound = command_in_is_sound c.args.self.now.state (command_of_session (node_of c.args.self.now.state c.args.node).book.commands c.in-Some.session) c.in-Some-command_of.command.now facts (sym c.in-Some-command_of.ensures) in
    sound.form c.in-Some.session
