use Rattle.outside_calls.specs.contracts.outside.Outside.{the_view}
use Rattle.outside_calls.proofs.Airing.{repeated_ok, repeated_err, repeat_cut_err, repeat_refused}
use Rattle.outside_calls.proofs.outside.Outside.repeat.Goals as goal

pub returns-in-Ok-clause-ok : goal.returns-in-Ok-clause-ok
returns-in-Ok-clause-ok g c =
    repeated_ok c.deal_and_enter.result c.args.self.now (the_view c.self.inside) c.repeat.new.self _ _ _ _ _ c.self.view_is _ _ c.new-events.ensures c.repeat.ensures.rest c.args.frame
    c.in-Ok.ensures.refused c.in-Ok.ensures.ok c.deal_and_enter.ensures.ok

pub returns-in-Ok-clause-err : goal.returns-in-Ok-clause-err
returns-in-Ok-clause-err g c =
    repeated_err c.deal_and_enter.result c.args.self.now (the_view c.self.inside) c.repeat.new.self c.args.self.now _ _ _ _ c.self.view_is _ _ c.new-events.ensures c.args.frame
    c.in-Ok.ensures.ok c.deal_and_enter.ensures.err

pub returns-clause-ok : goal.returns-clause-ok
returns-clause-ok g c =
    repeat_refused c.refuse_repeat.result c.args.self.now (the_view c.self.inside) c.repeat.new.self _ _ _ _ _ c.self.view_is c.args.frame c.in-Err.fault
    c.in-Err.ensures.err c.in-Err.ensures.refused c.repeat.ensures.still c.refuse_repeat.ensures.ok

pub returns-clause-err : goal.returns-clause-err
returns-clause-err g c =
    repeat_cut_err c.refuse_repeat.result c.args.self.now (the_view c.self.inside) c.repeat.new.self c.args.self.now _ _ _ _ c.self.view_is c.args.frame c.in-Err.ensures.cut c.refuse_repeat.ensures.err
