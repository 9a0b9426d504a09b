-- It waits, or is refused.
use Rattle.std.proofs.Common.{refl}
use Rattle.std.specs.Prelude.{length}
use Rattle.zw_text.specs.declared.line.Line.TheVariants.{Get}
use Rattle.host_orders.specs.Refusals.{classes_of}
use Rattle.host_orders.specs.Errands.{get_refusal, get_text}
use Rattle.host_requests.specs.declared.task.Task.TheVariants.{Plain}
use Rattle.host_model.specs.State.{node_of}
use Rattle.host_model.specs.May.{known_of}
use Rattle.host_model.specs.Events.{Queues}
use Rattle.run_replay.specs.contracts.replay.Replay.{the_view}
use Rattle.run_replay.proofs.Asking.{asked}
use Rattle.run_replay.proofs.replay.Replay.get.Goals as goal

pub returns-clause-ok : goal.returns-clause-ok
returns-clause-ok c =
    let w = the_view c.self.inside in
    rw (← c.self.view_is) (asked c.unless_refused.result c.get-answer.result (get_refusal (known_of (node_of w.host.state c.args.node)) (length w.host.state.requests.queue) c.args.end) (Get c.args.node c.args.end) (Queues (Plain c.args.node (get_text (classes_of (known_of (node_of w.host.state c.args.node))) c.args.end))) w.host c.get-answer.new.self w.clock c.args.out.now.items c.unless_refused.new.out.items
    refl refl (λ r entered by. by) c.get-answer.ensures.judged c.get-answer.ensures.ok c.get-answer.ensures.decoder c.get-answer.ensures.err c.unless_refused.ensures.ok)
