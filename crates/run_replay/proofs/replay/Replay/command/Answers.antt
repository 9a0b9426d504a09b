-- An order is accepted, or refused.
use Rattle.std.proofs.Common.{[], ◌∷◌, refl, ap}
use Rattle.std.specs.Prelude.{Err}
use Rattle.zw_text.specs.declared.line.Line.TheVariants.{Command}
use Rattle.host_orders.specs.declared.refused.Refused.{Refused}
use Rattle.host_model.specs.Events.{Accepts}
use Rattle.host_model.specs.Asking.{carriage_for, refusal_for}
use Rattle.world_model.specs.Refusals.{shown}
use Rattle.world_model.specs.Events.{Host_does}
use Rattle.run_replay.specs.contracts.replay.Replay.{the_view}
use Rattle.host_core.proofs.Refusing.{judged_as, rose_entered}
use Rattle.run_replay.proofs.Asking.{accepted, event_stops, refusal_done, refusal_stops}
use Rattle.run_replay.proofs.replay.Replay.command.Goals as goal

pub returns-clause-ok : goal.returns-clause-ok
returns-clause-ok g c =
    let w = the_view c.self.inside in
    rw (← c.self.view_is) (accepted c.push.result c.args.order.now c.in-Ok.command w.host c.command.new.self w.clock (g.P.Keeper.shelf c.args.keeper.now).records (g.P.Keeper.shelf c.command.new.keeper).records c.args.out.now.items c.push.new.self.items (g.P.Keeper.shelf c.args.keeper.now).faults (g.P.Keeper.shelf c.command.new.keeper).faults c.in-Ok.ensures.ok c.in-Ok.ensures.decoder c.in-Ok.ensures.number c.push.ensures.ok)

pub returns-clause-err : goal.returns-clause-err
returns-clause-err g c =
    let w = the_view c.self.inside in
    rw (← c.self.view_is) (event_stops c.push.result (Accepts c.args.order.now (carriage_for w.host.state c.args.order.now)) w.host c.command.new.self w.clock (g.P.Keeper.shelf c.args.keeper.now).records (g.P.Keeper.shelf c.command.new.keeper).records c.args.out.now.items c.push.new.self.items (g.P.Keeper.shelf c.args.keeper.now).faults (g.P.Keeper.shelf c.command.new.keeper).faults c.in-Ok.ensures.ok c.push.ensures.err)

pub returns-in-Err-clause-ok : goal.returns-in-Err-clause-ok
returns-in-Err-clause-ok g c =
    let w = the_view c.self.inside in
    rw (← c.self.view_is) (refusal_done c.refuse.result (Command c.args.order.now) (Host_does (Accepts c.args.order.now (carriage_for w.host.state c.args.order.now)) ∷ []) (shown c.in-Err.refused) w.host c.command.new.self w.clock (g.P.Keeper.shelf c.args.keeper.now).records (g.P.Keeper.shelf c.command.new.keeper).records c.args.out.now.items c.refuse.new.out.items (g.P.Keeper.shelf c.args.keeper.now).faults (g.P.Keeper.shelf c.command.new.keeper).faults
    (λ entered seen. judged_as (Err c.in-Err.refused) c.in-Err.refused (refusal_for w.host.state c.args.order.now) entered refl seen c.in-Err.ensures.judged)
    (λ entered seen. rose_entered c.in-Err.refused entered (g.P.Keeper.shelf c.args.keeper.now).faults (g.P.Keeper.shelf c.command.new.keeper).faults seen (λ e. c.in-Err.ensures.failed (ap (λ (x : Refused). Err x) e)))
    c.in-Err.ensures.err c.in-Err.ensures.no_record c.in-Err.ensures.never_falls c.refuse.ensures.ok)

pub returns-in-Err-clause-err : goal.returns-in-Err-clause-err
returns-in-Err-clause-err g c =
    let w = the_view c.self.inside in
    rw (← c.self.view_is) (refusal_stops c.refuse.result w.host c.command.new.self w.clock (g.P.Keeper.shelf c.args.keeper.now).records (g.P.Keeper.shelf c.command.new.keeper).records c.args.out.now.items c.refuse.new.out.items (g.P.Keeper.shelf c.args.keeper.now).faults (g.P.Keeper.shelf c.command.new.keeper).faults c.in-Err.ensures.no_record c.in-Err.ensures.never_falls c.refuse.ensures.err)
