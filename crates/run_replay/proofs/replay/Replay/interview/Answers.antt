-- It waits, or is refused.
use Rattle.std.proofs.Common.{refl}
use Rattle.zw_text.specs.declared.line.Line.TheVariants.{Interview}
use Rattle.host_model.specs.Asking.{interview_refusal}
use Rattle.host_model.specs.Events.{Queues_interview}
use Rattle.run_replay.specs.contracts.replay.Replay.{the_view}
use Rattle.run_replay.proofs.Asking.{asked, or_none}
use Rattle.run_replay.proofs.replay.Replay.interview.Goals as goal

pub returns-clause-ok : goal.returns-clause-ok
returns-clause-ok c =
    let w = the_view c.self.inside in
    rw (← c.self.view_is) (asked c.unless_refused.result c.interview-answer.result (interview_refusal w.host.state c.args.node) (Interview c.args.node) (Queues_interview c.args.node) w.host c.interview-answer.new.self w.clock c.args.out.now.items c.unless_refused.new.out.items
    refl refl (λ r entered by. by) (or_none c.interview-answer.result (interview_refusal w.host.state c.args.node) c.interview-answer.ensures.judged) c.interview-answer.ensures.ok c.interview-answer.ensures.decoder c.interview-answer.ensures.err c.unless_refused.ensures.ok)
