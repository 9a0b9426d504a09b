use Rattle.std.proofs.Common.{◌≡◌, ℕ, true, sym, subst}
use Rattle.std.specs.Prelude.{Contains}
use Rattle.host_keep.specs.declared.record.Record.TheVariants.{Cancelled}
use Rattle.host_model.specs.State.{node_of}
use Rattle.host_model.specs.Facts.{HostFacts}
use Rattle.host_model.specs.Restoring.{may_restore}
use Rattle.host_step.specs.Changes.{cancelling}
use Rattle.host_step_kept.proofs.Waiting.{may_be_cancelled}
use Rattle.host_step_kept.proofs.restoring.restore_cancelled.Goals as goal

pub cancel-requires-clause-facts : goal.cancel-requires-clause-facts
cancel-requires-clause-facts c =
    let h = c.args.core.now.state in
    let command = c.args.command in
    let found = rw c.in-Some.is at c.waits_for.ensures.waits in
    let may : may_restore h (Cancelled command) ≡ true = may_be_cancelled h command (subst (λ (k : ℕ). Contains (node_of h k).waiting command) found.0 found.1) in
    subst (λ (n : ℕ). HostFacts (cancelling h n command)) (sym found.0) (c.a_record_restores_what_it_says.ensures.facts h (Cancelled command) c.invariant_holds.ensures may)
