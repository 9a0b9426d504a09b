-- It waits, or is refused.
use Rattle.std.proofs.Common.{length, refl}
use Rattle.zw_text.specs.declared.line.Line.TheVariants.{Get}
use Rattle.host_orders.specs.Refusals.{classes_of}
use Rattle.host_orders.specs.Errands.{get_refusal, get_text}
use Rattle.host_requests.specs.declared.task.Task.TheVariants.{Plain}
use Rattle.host_model.specs.State.{node_of}
use Rattle.host_model.specs.May.{known_of}
use Rattle.host_model.specs.Events.{Queues}
use Rattle.zw_world.specs.contracts.world.World.{the_view}
use Rattle.zw_world.proofs.Asking.{asked, get_fair}
use Rattle.zw_world.proofs.world.World.get.Goals as goal

pub returns-clause-ok : goal.returns-clause-ok
returns-clause-ok c =
    let w = the_view c.self.inside in
    rw (← c.self.view_is) (asked c.unless_refused.result c.get-answer.result (get_refusal (known_of (node_of w.host.state c.args.node)) (length w.host.state.requests.queue) c.args.end) (Get c.args.node c.args.end) (Queues (Plain c.args.node (get_text (classes_of (known_of (node_of w.host.state c.args.node))) c.args.end))) w.keys c.unless_refused.new.self.keys w.host c.get-answer.new.self
    c.unless_refused.new.self.host w.outer c.unless_refused.new.self.outer c.args.out.now.items c.unless_refused.new.out.items
    ((λ h. refl), tt) (get_fair (known_of (node_of w.host.state c.args.node)) (length w.host.state.requests.queue) c.args.end) (λ ds r entered by. by)
    c.get-answer.ensures.judged c.get-answer.ensures.ok c.get-answer.ensures.decoder c.get-answer.ensures.err c.unless_refused.ensures.keys c.unless_refused.ensures.host c.unless_refused.ensures.ok)
