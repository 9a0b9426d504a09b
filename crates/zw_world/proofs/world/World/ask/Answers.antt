-- It waits, or is refused.
use Rattle.host_model.specs.Asking.{places_refusal}
use Rattle.host_core.specs.Orders.{places_of, question_event}
use Rattle.zw_world.specs.Effects.{line_of}
use Rattle.zw_world.specs.contracts.world.World.{the_view}
use Rattle.zw_world.proofs.Asking.{asked, or_none, places_fair, question_silent, question_refused}
use Rattle.zw_world.proofs.world.World.ask.Goals as goal

pub returns-clause-ok : goal.returns-clause-ok
returns-clause-ok c =
    let w = the_view c.self.inside in
    rw (← c.self.view_is) (asked c.unless_refused.result c.ask-answer.result (places_refusal w.host.state (places_of c.args.question)) (line_of c.args.question) (question_event c.args.question) w.keys c.unless_refused.new.self.keys w.host c.ask-answer.new.self
    c.unless_refused.new.self.host w.outer c.unless_refused.new.self.outer c.args.out.now.items c.unless_refused.new.out.items
    (question_silent c.args.question) (places_fair w.host.state (places_of c.args.question)) (λ ds r entered by. question_refused c.args.question w.keys w.host w.outer ds r entered by)
    (or_none c.ask-answer.result (places_refusal w.host.state (places_of c.args.question)) c.ask-answer.ensures.judged) c.ask-answer.ensures.ok c.ask-answer.ensures.decoder c.ask-answer.ensures.err c.unless_refused.ensures.keys c.unless_refused.ensures.host c.unless_refused.ensures.ok)
