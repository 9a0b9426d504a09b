-- A command is taken back, or that is refused.
use Rattle.std.proofs.Common.{[], ◌∷◌, refl, ap}
use Rattle.std.specs.Prelude.{Err}
use Rattle.zw_text.specs.declared.line.Line.TheVariants.{Cancel}
use Rattle.host_core.specs.declared.orders.CancelFault.{CancelFault}
use Rattle.host_model.specs.Events.{Cancels}
use Rattle.world_model.specs.Events.{Host_does}
use Rattle.host_core.specs.Orders.{shown_uncancelled}
use Rattle.zw_world.specs.contracts.world.World.{the_view}
use Rattle.host_core.proofs.Refusing.{uncancelled_as, uncancelled_rose}
use Rattle.zw_world.proofs.Asking.{cancelled, event_stops, refusal_done, refusal_stops}
use Rattle.zw_world.proofs.world.World.cancel.Goals as goal

pub returns-in-Ok-clause-ok : goal.returns-in-Ok-clause-ok
returns-in-Ok-clause-ok g c =
    let w = the_view c.self.inside in
    rw (← c.self.view_is) (cancelled c.note.result c.args.command w.keys w.keys w.host c.cancel.new.self c.cancel.new.self w.outer c.note.new.self (g.P.Keeper.shelf c.args.keeper.now).records (g.P.Keeper.shelf c.cancel.new.keeper).records
    c.args.out.now.items c.note.new.out.items (g.P.Keeper.shelf c.args.keeper.now).faults (g.P.Keeper.shelf c.cancel.new.keeper).faults c.in-Ok.ensures.ok c.in-Ok.ensures.decoder refl refl c.note.ensures.ok)

pub returns-in-Ok-clause-err : goal.returns-in-Ok-clause-err
returns-in-Ok-clause-err g c =
    let w = the_view c.self.inside in
    rw (← c.self.view_is) (event_stops c.note.result (Cancels c.args.command) w.keys w.keys w.host c.cancel.new.self c.cancel.new.self w.outer c.note.new.self (g.P.Keeper.shelf c.args.keeper.now).records (g.P.Keeper.shelf c.cancel.new.keeper).records
    c.args.out.now.items c.note.new.out.items (g.P.Keeper.shelf c.args.keeper.now).faults (g.P.Keeper.shelf c.cancel.new.keeper).faults c.in-Ok.ensures.ok c.note.ensures.no_entries)

pub returns-in-Err-clause-ok : goal.returns-in-Err-clause-ok
returns-in-Err-clause-ok g c =
    let w = the_view c.self.inside in
    rw (← c.self.view_is) (refusal_done c.uncancelled.result (Cancel c.args.command) (Host_does (Cancels c.args.command) ∷ []) (shown_uncancelled c.args.command c.in-Err.fault) w.keys c.uncancelled.new.self.keys w.host
    c.cancel.new.self c.uncancelled.new.self.host w.outer c.uncancelled.new.self.outer (g.P.Keeper.shelf c.args.keeper.now).records (g.P.Keeper.shelf c.cancel.new.keeper).records
    c.args.out.now.items c.uncancelled.new.out.items (g.P.Keeper.shelf c.args.keeper.now).faults (g.P.Keeper.shelf c.cancel.new.keeper).faults
    (λ entered seen ds. uncancelled_as (Unit {0}) w.host.state c.args.command c.in-Err.fault entered seen c.in-Err.ensures.judged)
    (λ entered seen. uncancelled_rose c.args.command c.in-Err.fault entered (g.P.Keeper.shelf c.args.keeper.now).faults (g.P.Keeper.shelf c.cancel.new.keeper).faults seen (λ e. c.in-Err.ensures.failed (ap (λ (x : CancelFault). Err x) e)))
    c.in-Err.ensures.err c.in-Err.ensures.no_record c.in-Err.ensures.never_falls c.uncancelled.ensures.keys c.uncancelled.ensures.host c.uncancelled.ensures.ok)

pub returns-in-Err-clause-err : goal.returns-in-Err-clause-err
returns-in-Err-clause-err g c =
    let w = the_view c.self.inside in
    rw (← c.self.view_is) (refusal_stops c.uncancelled.result w.keys c.uncancelled.new.self.keys w.host c.uncancelled.new.self.host w.outer c.uncancelled.new.self.outer (g.P.Keeper.shelf c.args.keeper.now).records (g.P.Keeper.shelf c.cancel.new.keeper).records
    c.args.out.now.items c.uncancelled.new.out.items (g.P.Keeper.shelf c.args.keeper.now).faults (g.P.Keeper.shelf c.cancel.new.keeper).faults c.in-Err.ensures.no_record c.in-Err.ensures.never_falls c.uncancelled.ensures.err)
