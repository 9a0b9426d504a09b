-- A node joins, or that is refused.
use Rattle.std.proofs.Common.{[], ◌∷◌, refl, ap}
use Rattle.std.specs.Prelude.{Err}
use Rattle.zw_text.specs.declared.line.Line.TheVariants.{Join}
use Rattle.host_orders.specs.declared.refused.Refused.{Refused}
use Rattle.host_model.specs.Events.{Joins as joins_host}
use Rattle.host_model.specs.Asking.{join_refusal}
use Rattle.outside_model.specs.Events.{Joins}
use Rattle.world_model.specs.Refusals.{shown}
use Rattle.world_model.specs.Events.{Host_does, Outside_does}
use Rattle.zw_base.proofs.Results.{on_err}
use Rattle.world_step.proofs.Scenes.{ok_then, err_then}
use Rattle.zw_world.specs.contracts.world.World.{the_view}
use Rattle.host_core.proofs.Refusing.{kept_as, rose_entered}
use Rattle.zw_world.proofs.Asking.{joined, event_stops, refusal_done, refusal_stops}
use Rattle.zw_world.proofs.world.World.join.Goals as goal

pub returns-in-Ok-clause-ok : goal.returns-in-Ok-clause-ok
returns-in-Ok-clause-ok g c =
    let w = the_view c.self.inside in
    rw (← c.self.view_is) (joined c.join-in-Ok.result c.args.node w.keys w.host c.join.new.self w.outer c.join-in-Ok.new.self _ (g.P.Keeper.shelf c.args.keeper.now).records (g.P.Keeper.shelf c.join.new.keeper).records
    c.args.out.now.items (g.P.Keeper.shelf c.args.keeper.now).faults (g.P.Keeper.shelf c.join.new.keeper).faults c.in-Ok.ensures.ok c.in-Ok.ensures.decoder c.join-in-Ok.ensures.ok)

pub returns-in-Ok-clause-err : goal.returns-in-Ok-clause-err
returns-in-Ok-clause-err g c =
    let w = the_view c.self.inside in
    rw (← c.self.view_is) (err_then c.join-in-Ok.result (event_stops c.join-in-Ok.result (joins_host c.args.node) w.keys w.keys w.host c.join.new.self c.join.new.self w.outer c.join-in-Ok.new.self (g.P.Keeper.shelf c.args.keeper.now).records (g.P.Keeper.shelf c.join.new.keeper).records
    c.args.out.now.items c.args.out.now.items (g.P.Keeper.shelf c.args.keeper.now).faults (g.P.Keeper.shelf c.join.new.keeper).faults c.in-Ok.ensures.ok (on_err c.join-in-Ok.result refl)) (λ stops. stops _))

pub returns-in-Err-clause-ok : goal.returns-in-Err-clause-ok
returns-in-Err-clause-ok g c =
    let w = the_view c.self.inside in
    rw (← c.self.view_is) (ok_then c.refused.result (refusal_done c.refused.result (Join c.args.node) (Host_does (joins_host c.args.node) ∷ Outside_does (Joins c.args.node) ∷ []) (shown c.in-Err.refused) w.keys c.refused.new.self.keys w.host
    c.join.new.self c.refused.new.self.host w.outer c.refused.new.self.outer (g.P.Keeper.shelf c.args.keeper.now).records (g.P.Keeper.shelf c.join.new.keeper).records
    c.args.out.now.items c.refused.new.out.items (g.P.Keeper.shelf c.args.keeper.now).faults (g.P.Keeper.shelf c.join.new.keeper).faults
    (λ entered seen ds. kept_as c.in-Err.refused (join_refusal w.host.state c.args.node) entered seen c.in-Err.ensures.judged)
    (λ entered seen. rose_entered c.in-Err.refused entered (g.P.Keeper.shelf c.args.keeper.now).faults (g.P.Keeper.shelf c.join.new.keeper).faults seen (λ e. c.in-Err.ensures.failed (ap (λ (x : Refused). Err x) e)))
    c.in-Err.ensures.err c.in-Err.ensures.no_record c.in-Err.ensures.never_falls c.refused.ensures.keys c.refused.ensures.host c.refused.ensures.ok) (λ done. done _))

pub returns-in-Err-clause-err : goal.returns-in-Err-clause-err
returns-in-Err-clause-err g c =
    let w = the_view c.self.inside in
    rw (← c.self.view_is) (err_then c.refused.result (refusal_stops c.refused.result w.keys c.refused.new.self.keys w.host c.refused.new.self.host w.outer c.refused.new.self.outer (g.P.Keeper.shelf c.args.keeper.now).records (g.P.Keeper.shelf c.join.new.keeper).records
    c.args.out.now.items c.refused.new.out.items (g.P.Keeper.shelf c.args.keeper.now).faults (g.P.Keeper.shelf c.join.new.keeper).faults c.in-Err.ensures.no_record c.in-Err.ensures.never_falls c.refused.ensures.err) (λ stops. stops _))
