use Rattle.std.proofs.Common.{ℕ, sym, subst}
use Rattle.std.specs.Prelude.{Contains}
use Rattle.host_model.specs.State.{node_of}
use Rattle.host_model.specs.Events.{Cancels}
use Rattle.host_model.specs.Facts.{HostFacts}
use Rattle.host_step.specs.Changes.{cancelling}
use Rattle.host_step_kept.proofs.orders.cancel.Goals as goal

pub cancel-requires-clause-waits : goal.cancel-requires-clause-waits
cancel-requires-clause-waits g c = subst (λ (n : ℕ). Contains (node_of c.args.core.now.state n).waiting c.args.command) (sym c.requires.node) c.requires.may

pub cancel-requires-clause-facts : goal.cancel-requires-clause-facts
cancel-requires-clause-facts g c =
    subst (λ (n : ℕ). HostFacts (cancelling c.args.core.now.state n c.args.command)) (sym c.requires.node)
    (c.facts_are_kept.ensures.each c.args.core.now.state (Cancels c.args.command) c.invariant_holds.ensures c.requires.may)
