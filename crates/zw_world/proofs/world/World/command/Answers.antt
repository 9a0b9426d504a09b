-- An order is accepted, or refused.
use Rattle.std.proofs.Common.{[], ◌∷◌, refl, inl, inr, ap}
use Rattle.std.specs.Prelude.{Err}
use Rattle.zw_text.specs.declared.line.Line.TheVariants.{Command}
use Rattle.host_orders.specs.declared.refused.Refused.{Refused}
use Rattle.host_model.specs.Events.{Accepts}
use Rattle.host_model.specs.Asking.{carriage_for, refusal_for}
use Rattle.world_model.specs.Refusals.{shown}
use Rattle.world_model.specs.Events.{Host_does}
use Rattle.world_step.proofs.Scenes.{ok_then}
use Rattle.zw_world.specs.contracts.world.World.{the_view}
use Rattle.zw_world.proofs.KeeperLines.{refuses_next}
use Rattle.host_core.proofs.Refusing.{judged_as, rose_entered}
use Rattle.zw_world.proofs.Asking.{accepted, event_stops, refusal_done, refusal_stops}
use Rattle.zw_world.proofs.world.World.command.Goals as goal

pub returns-in-Ok-clause-ok : goal.returns-in-Ok-clause-ok
returns-in-Ok-clause-ok g c =
    let w = the_view c.self.inside in
    rw (← c.self.view_is) (accepted c.note.result c.args.order.now c.in-Ok.command w.keys w.keys w.host c.command.new.self c.command.new.self w.outer c.note.new.self (g.P.Keeper.shelf c.args.keeper.now).records (g.P.Keeper.shelf c.command.new.keeper).records
    c.args.out.now.items c.note.new.out.items (g.P.Keeper.shelf c.args.keeper.now).faults (g.P.Keeper.shelf c.command.new.keeper).faults c.in-Ok.ensures.ok c.in-Ok.ensures.decoder c.in-Ok.ensures.number refl refl c.note.ensures.ok)

pub returns-in-Ok-clause-err : goal.returns-in-Ok-clause-err
returns-in-Ok-clause-err g c =
    let w = the_view c.self.inside in
    rw (← c.self.view_is) (event_stops c.note.result (Accepts c.args.order.now (carriage_for w.host.state c.args.order.now)) w.keys w.keys w.host c.command.new.self c.command.new.self w.outer c.note.new.self (g.P.Keeper.shelf c.args.keeper.now).records (g.P.Keeper.shelf c.command.new.keeper).records
    c.args.out.now.items c.note.new.out.items (g.P.Keeper.shelf c.args.keeper.now).faults (g.P.Keeper.shelf c.command.new.keeper).faults c.in-Ok.ensures.ok c.note.ensures.no_entries)

pub returns-in-Err-clause-ok : goal.returns-in-Err-clause-ok
returns-in-Err-clause-ok g c =
    let w = the_view c.self.inside in
    rw (← c.self.view_is) (refusal_done c.refused.result (Command c.args.order.now) (Host_does (Accepts c.args.order.now (carriage_for w.host.state c.args.order.now)) ∷ []) (shown c.in-Err.refused) w.keys c.refused.new.self.keys w.host
    c.command.new.self c.refused.new.self.host w.outer c.refused.new.self.outer (g.P.Keeper.shelf c.args.keeper.now).records (g.P.Keeper.shelf c.command.new.keeper).records
    c.args.out.now.items c.refused.new.out.items (g.P.Keeper.shelf c.args.keeper.now).faults (g.P.Keeper.shelf c.command.new.keeper).faults
    (λ entered seen ds. judged_as (Err c.in-Err.refused) c.in-Err.refused (refusal_for w.host.state c.args.order.now) entered refl seen c.in-Err.ensures.judged)
    (λ entered seen. rose_entered c.in-Err.refused entered (g.P.Keeper.shelf c.args.keeper.now).faults (g.P.Keeper.shelf c.command.new.keeper).faults seen (λ e. c.in-Err.ensures.failed (ap (λ (x : Refused). Err x) e)))
    c.in-Err.ensures.err c.in-Err.ensures.no_record c.in-Err.ensures.never_falls c.refused.ensures.keys c.refused.ensures.host c.refused.ensures.ok)

pub returns-in-Err-clause-err : goal.returns-in-Err-clause-err
returns-in-Err-clause-err g c =
    let w = the_view c.self.inside in
    rw (← c.self.view_is) (refusal_stops c.refused.result w.keys c.refused.new.self.keys w.host c.refused.new.self.host w.outer c.refused.new.self.outer (g.P.Keeper.shelf c.args.keeper.now).records (g.P.Keeper.shelf c.command.new.keeper).records
    c.args.out.now.items c.refused.new.out.items (g.P.Keeper.shelf c.args.keeper.now).faults (g.P.Keeper.shelf c.command.new.keeper).faults c.in-Err.ensures.no_record c.in-Err.ensures.never_falls c.refused.ensures.err)

pub returns-in-Ok-clause-keeps : goal.returns-in-Ok-clause-keeps
returns-in-Ok-clause-keeps g c = ok_then c.note.result c.note.ensures.ok (λ goes quiet. inl c.in-Ok.ensures.more)

pub returns-in-Err-clause-keeps : goal.returns-in-Err-clause-keeps
returns-in-Err-clause-keeps g c =
    let w = the_view c.self.inside in
    rw (← c.self.view_is) (ok_then c.refused.result c.refused.ensures.ok (λ done quiet. inr (refuses_next done.0 _ _ _ _ quiet done.2)))
