-- It waits, or is refused.
use Rattle.std.proofs.Common.{refl}
use Rattle.zw_text.specs.declared.line.Line.TheVariants.{Interview}
use Rattle.host_model.specs.State.{node_of}
use Rattle.host_model.specs.Asking.{interview_refusal}
use Rattle.host_model.specs.Events.{Queues_interview}
use Rattle.zw_world.specs.contracts.world.World.{the_view}
use Rattle.zw_world.proofs.Asking.{asked, or_none, interview_fair}
use Rattle.zw_world.proofs.world.World.interview.Goals as goal

pub returns-clause-ok : goal.returns-clause-ok
returns-clause-ok c =
    let w = the_view c.self.inside in
    rw (← c.self.view_is) (asked c.unless_refused.result c.interview-answer.result (interview_refusal w.host.state c.args.node) (Interview c.args.node) (Queues_interview c.args.node) w.keys c.unless_refused.new.self.keys w.host c.interview-answer.new.self
    c.unless_refused.new.self.host w.outer c.unless_refused.new.self.outer c.args.out.now.items c.unless_refused.new.out.items
    ((λ h. refl), tt) (interview_fair (node_of w.host.state c.args.node).joined w.host.state) (λ ds r entered by. by)
    (or_none c.interview-answer.result (interview_refusal w.host.state c.args.node) c.interview-answer.ensures.judged) c.interview-answer.ensures.ok c.interview-answer.ensures.decoder c.interview-answer.ensures.err c.unless_refused.ensures.keys c.unless_refused.ensures.host c.unless_refused.ensures.ok)
