-- A command is taken back, or that is refused.
use Rattle.std.proofs.Common.{[], ◌∷◌, ap}
use Rattle.std.specs.Prelude.{Err}
use Rattle.zw_text.specs.declared.line.Line.TheVariants.{Cancel}
use Rattle.host_core.specs.declared.orders.CancelFault.{CancelFault}
use Rattle.host_model.specs.Events.{Cancels}
use Rattle.world_model.specs.Events.{Host_does}
use Rattle.host_core.specs.Orders.{shown_uncancelled}
use Rattle.run_replay.specs.contracts.replay.Replay.{the_view}
use Rattle.host_core.proofs.Refusing.{uncancelled_as, uncancelled_rose}
use Rattle.run_replay.proofs.Asking.{cancelled, event_stops, refusal_done, refusal_stops}
use Rattle.run_replay.proofs.replay.Replay.cancel.Goals as goal

pub returns-clause-ok : goal.returns-clause-ok
returns-clause-ok g c =
    let w = the_view c.self.inside in
    rw (← c.self.view_is) (cancelled c.push.result c.args.command w.host c.cancel.new.self w.clock (g.P.Keeper.shelf c.args.keeper.now).records (g.P.Keeper.shelf c.cancel.new.keeper).records c.args.out.now.items c.push.new.self.items (g.P.Keeper.shelf c.args.keeper.now).faults (g.P.Keeper.shelf c.cancel.new.keeper).faults c.in_default.ensures.ok c.in_default.ensures.decoder c.push.ensures.ok)

pub returns-clause-err : goal.returns-clause-err
returns-clause-err g c =
    let w = the_view c.self.inside in
    rw (← c.self.view_is) (event_stops c.push.result (Cancels c.args.command) w.host c.cancel.new.self w.clock (g.P.Keeper.shelf c.args.keeper.now).records (g.P.Keeper.shelf c.cancel.new.keeper).records c.args.out.now.items c.push.new.self.items (g.P.Keeper.shelf c.args.keeper.now).faults (g.P.Keeper.shelf c.cancel.new.keeper).faults c.in_default.ensures.ok c.push.ensures.err)

pub returns-in-Err-clause-ok : goal.returns-in-Err-clause-ok
returns-in-Err-clause-ok g c =
    let w = the_view c.self.inside in
    rw (← c.self.view_is) (refusal_done c.refuse_cancel.result (Cancel c.args.command) (Host_does (Cancels c.args.command) ∷ []) (shown_uncancelled c.args.command c.in-Err.fault) w.host c.cancel.new.self w.clock (g.P.Keeper.shelf c.args.keeper.now).records (g.P.Keeper.shelf c.cancel.new.keeper).records c.args.out.now.items c.refuse_cancel.new.out.items (g.P.Keeper.shelf c.args.keeper.now).faults (g.P.Keeper.shelf c.cancel.new.keeper).faults
    (λ entered seen. uncancelled_as (Unit {0}) w.host.state c.args.command c.in-Err.fault entered seen c.in-Err.ensures.judged)
    (λ entered seen. uncancelled_rose c.args.command c.in-Err.fault entered (g.P.Keeper.shelf c.args.keeper.now).faults (g.P.Keeper.shelf c.cancel.new.keeper).faults seen (λ e. c.in-Err.ensures.failed (ap (λ (x : CancelFault). Err x) e)))
    c.in-Err.ensures.err c.in-Err.ensures.no_record c.in-Err.ensures.never_falls c.refuse_cancel.ensures.ok)

pub returns-in-Err-clause-err : goal.returns-in-Err-clause-err
returns-in-Err-clause-err g c =
    let w = the_view c.self.inside in
    rw (← c.self.view_is) (refusal_stops c.refuse_cancel.result w.host c.cancel.new.self w.clock (g.P.Keeper.shelf c.args.keeper.now).records (g.P.Keeper.shelf c.cancel.new.keeper).records c.args.out.now.items c.refuse_cancel.new.out.items (g.P.Keeper.shelf c.args.keeper.now).faults (g.P.Keeper.shelf c.cancel.new.keeper).faults c.in-Err.ensures.no_record c.in-Err.ensures.never_falls c.refuse_cancel.ensures.err)
