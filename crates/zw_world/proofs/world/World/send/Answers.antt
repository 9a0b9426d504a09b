-- It waits, or is refused.
use Rattle.std.proofs.Common.{length, refl}
use Rattle.zw_text.specs.declared.line.Line.TheVariants.{Send}
use Rattle.host_orders.specs.Refusals.{classes_of}
use Rattle.host_orders.specs.Errands.{send_refusal, send_text}
use Rattle.host_requests.specs.declared.task.Task.TheVariants.{Plain}
use Rattle.host_model.specs.State.{node_of}
use Rattle.host_model.specs.May.{known_of}
use Rattle.host_model.specs.Events.{Queues}
use Rattle.zw_world.specs.contracts.world.World.{the_view}
use Rattle.zw_world.proofs.Asking.{asked, send_fair}
use Rattle.zw_world.proofs.world.World.send.Goals as goal

pub returns-clause-ok : goal.returns-clause-ok
returns-clause-ok c =
    let w = the_view c.self.inside in
    rw (← c.self.view_is) (asked c.unless_refused.result c.send-answer.result (send_refusal (known_of (node_of w.host.state c.args.node)) (length w.host.state.requests.queue) c.args.word) (Send c.args.node c.args.word) (Queues (Plain c.args.node (send_text (classes_of (known_of (node_of w.host.state c.args.node))) c.args.word))) w.keys c.unless_refused.new.self.keys w.host c.send-answer.new.self
    c.unless_refused.new.self.host w.outer c.unless_refused.new.self.outer c.args.out.now.items c.unless_refused.new.out.items
    ((λ h. refl), tt) (send_fair (known_of (node_of w.host.state c.args.node)) (length w.host.state.requests.queue) c.args.word) (λ ds r entered by. by)
    c.send-answer.ensures.judged c.send-answer.ensures.ok c.send-answer.ensures.decoder c.send-answer.ensures.err c.unless_refused.ensures.keys c.unless_refused.ensures.host c.unless_refused.ensures.ok)
