-- A node joins, or that is refused.
use Rattle.std.proofs.Common.{[], ◌∷◌, ap}
use Rattle.std.specs.Prelude.{Err}
use Rattle.zw_text.specs.declared.line.Line.TheVariants.{Join}
use Rattle.host_orders.specs.declared.refused.Refused.{Refused}
use Rattle.host_model.specs.Events.{Joins as joins_host}
use Rattle.host_model.specs.Asking.{join_refusal}
use Rattle.outside_model.specs.Events.{Joins}
use Rattle.world_model.specs.Refusals.{shown}
use Rattle.world_model.specs.Events.{Host_does, Outside_does}
use Rattle.run_replay.specs.contracts.replay.Replay.{the_view}
use Rattle.host_core.proofs.Refusing.{kept_as, rose_entered}
use Rattle.run_replay.proofs.Asking.{joined, refusal_done, refusal_stops}
use Rattle.run_replay.proofs.replay.Replay.join.Goals as goal

pub returns-clause-ok : goal.returns-clause-ok
returns-clause-ok g c =
    let w = the_view c.self.inside in
    rw (← c.self.view_is) (joined c.args.node w.host c.join.new.self w.clock (g.P.Keeper.shelf c.args.keeper.now).records (g.P.Keeper.shelf c.join.new.keeper).records c.args.out.now.items (g.P.Keeper.shelf c.args.keeper.now).faults (g.P.Keeper.shelf c.join.new.keeper).faults c.in_default.ensures.ok c.in_default.ensures.decoder)

pub returns-in-Err-clause-ok : goal.returns-in-Err-clause-ok
returns-in-Err-clause-ok g c =
    let w = the_view c.self.inside in
    rw (← c.self.view_is) (refusal_done c.refuse.result (Join c.args.node) (Host_does (joins_host c.args.node) ∷ Outside_does (Joins c.args.node) ∷ []) (shown c.in-Err.refused) w.host c.join.new.self w.clock (g.P.Keeper.shelf c.args.keeper.now).records (g.P.Keeper.shelf c.join.new.keeper).records c.args.out.now.items c.refuse.new.out.items (g.P.Keeper.shelf c.args.keeper.now).faults (g.P.Keeper.shelf c.join.new.keeper).faults
    (λ entered seen. kept_as c.in-Err.refused (join_refusal w.host.state c.args.node) entered seen c.in-Err.ensures.judged)
    (λ entered seen. rose_entered c.in-Err.refused entered (g.P.Keeper.shelf c.args.keeper.now).faults (g.P.Keeper.shelf c.join.new.keeper).faults seen (λ e. c.in-Err.ensures.failed (ap (λ (x : Refused). Err x) e)))
    c.in-Err.ensures.err c.in-Err.ensures.no_record c.in-Err.ensures.never_falls c.refuse.ensures.ok)

pub returns-in-Err-clause-err : goal.returns-in-Err-clause-err
returns-in-Err-clause-err g c =
    let w = the_view c.self.inside in
    rw (← c.self.view_is) (refusal_stops c.refuse.result w.host c.join.new.self w.clock (g.P.Keeper.shelf c.args.keeper.now).records (g.P.Keeper.shelf c.join.new.keeper).records c.args.out.now.items c.refuse.new.out.items (g.P.Keeper.shelf c.args.keeper.now).faults (g.P.Keeper.shelf c.join.new.keeper).faults c.in-Err.ensures.no_record c.in-Err.ensures.never_falls c.refuse.ensures.err)
