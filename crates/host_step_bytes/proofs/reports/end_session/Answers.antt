-- A final report that is kept, or not.
use Rattle.std.proofs.Common.{ℕ, ap, sym, ◌∙◌}
use Rattle.host_model.specs.State.{HostParts}
use Rattle.host_step_bytes.specs.Calls.{Scene, scene}
use Rattle.supervision.specs.Host.{command_at as command_of_session}
use Rattle.host_keep.specs.Status.{status_of}
use Rattle.host_node.specs.State.{NodeState}
use Rattle.host_step_bytes.proofs.Reported.{session_ended}
use Rattle.host_step_bytes.proofs.reports.end_session.Goals as goal

pub returns-clause-ok : goal.returns-clause-ok
returns-clause-ok g c =
    let a : Scene = scene c.args.core.now.state c.args.out.now.items (g.P.Keeper.shelf c.args.keeper.now) in
    let b : Scene = scene c.finish.new.core.state c.finish.new.out.items (g.P.Keeper.shelf c.finish.new.keeper) in
    session_ended c.args.node c.args.session c.args.id c.in-Some.command c.args.status c.in-Some-of.ended c.args.wake_request c.in_ok-finish.field-0 a b c.requires
    (ap (λ (n : NodeState). command_of_session n.book.commands c.args.session) (sym c.node.ensures.value) ∙ sym c.command_of.ensures ∙ c.in-Some.is)
    (ap (λ (k : ℕ). status_of k) (sym c.byte.ensures) ∙ sym c.of.ensures ∙ c.in-Some-of.is)
    c.in_ok-finish.ensures.in_range c.in_ok-finish.ensures.kept (ap (λ (p : HostParts). p.state) c.in_ok-finish.ensures.state) c.in_ok-finish.ensures.outs c.finish.ensures.never_falls
