-- It waits, or is refused.
use Rattle.std.proofs.Common.{refl}
use Rattle.zw_text.specs.declared.line.Line.TheVariants.{Probe}
use Rattle.host_model.specs.Asking.{places_refusal}
use Rattle.host_model.specs.Events.{Queues_probe}
use Rattle.run_replay.specs.contracts.replay.Replay.{the_view}
use Rattle.run_replay.proofs.Asking.{asked, or_none}
use Rattle.run_replay.proofs.replay.Replay.probe.Goals as goal

pub returns-clause-ok : goal.returns-clause-ok
returns-clause-ok c =
    let w = the_view c.self.inside in
    rw (← c.self.view_is) (asked c.unless_refused.result c.ask-answer.result (places_refusal w.host.state 3) Probe Queues_probe w.host c.ask-answer.new.self w.clock c.args.out.now.items c.unless_refused.new.out.items
    refl refl (λ r entered by. by) (or_none c.ask-answer.result (places_refusal w.host.state 3) c.ask-answer.ensures.judged) c.ask-answer.ensures.ok c.ask-answer.ensures.decoder c.ask-answer.ensures.err c.unless_refused.ensures.ok)
