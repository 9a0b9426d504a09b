use Rattle.std.proofs.Common.{refl}
use Rattle.zw_base.proofs.Results.{on_err}
use Rattle.outside_calls.specs.contracts.outside.Outside.{the_view}
use Rattle.outside_calls.proofs.Airing.{arrived_ok, arrived_err, arrival_cut_err}
use Rattle.outside_calls.proofs.outside.Outside.arrive.Goals as goal

pub returns-in_err-arrive-clause-err : goal.returns-in_err-arrive-clause-err
returns-in_err-arrive-clause-err g c =
    arrival_cut_err c.from_residual.result c.args.self.now (the_view c.self.inside) c.arrive.new.self c.args.self.now _ _ _ _ c.self.view_is c.in_err-arrive.ensures.cut (on_err c.from_residual.result refl)

pub returns-clause-ok : goal.returns-clause-ok
returns-clause-ok g c =
    arrived_ok c.deal_and_enter.result c.args.self.now (the_view c.self.inside) c.arrive.new.self _ _ _ _ _ c.self.view_is _ _ c.new-events.ensures c.arrive.ensures.rest c.in_ok-arrive.ensures.ok c.deal_and_enter.ensures.ok

pub returns-clause-err : goal.returns-clause-err
returns-clause-err g c =
    arrived_err c.deal_and_enter.result c.args.self.now (the_view c.self.inside) c.arrive.new.self c.args.self.now _ _ _ _ c.self.view_is _ _ c.new-events.ensures c.in_ok-arrive.ensures.ok c.deal_and_enter.ensures.err
