-- Another host goes on, or none starts.
use Rattle.std.proofs.Common.{ap, subst, inl, inr, arith}
use Rattle.std.specs.Prelude.{Err}
use Rattle.host_core.specs.Opening.{Opens}
use Rattle.host_core.specs.declared.opening.OpenFault.{OpenFault}
use Rattle.world_model.specs.Did.{Nothing}
use Rattle.world_model.specs.Prefixes.{RestartPrefix}
use Rattle.world_model.proofs.EventLists.{stopped_as}
use Rattle.world_step.proofs.Scenes.{ok_then, err_then}
use Rattle.zw_world.specs.World.{WorldState}
use Rattle.zw_world.proofs.Asking.{refusal_stops}
use Rattle.zw_world.proofs.KeeperLines.{refuses_next}
use Rattle.zw_world.proofs.Restarts.{restarted_all, restart_stops, unopened_all}
use Rattle.zw_world.proofs.world.World.restart.Goals as goal

pub returns-in-Ok-clause-ok : goal.returns-in-Ok-clause-ok
returns-in-Ok-clause-ok g c =
    restarted_all c.go_on_with.result c.args.self.now.keys c.go_on_with.new.self.keys (g.P.Keeper.number c.args.keeper.now) c.args.self.now.host c.in-Ok.host c.go_on_with.new.self.host c.args.self.now.outer c.go_on_with.new.self.outer (g.P.Keeper.shelf c.args.keeper.now).records (g.P.Keeper.shelf c.open.new.keeper).records
    c.args.out.now.items c.go_on_with.new.out.items (g.P.Keeper.shelf c.args.keeper.now).faults (g.P.Keeper.shelf c.open.new.keeper).faults
    (subst (λ (x : WorldState). Opens x.keys (g.P.Keeper.number c.args.keeper.now) (g.P.Keeper.shelf c.args.keeper.now).records c.in-Ok.host) c.self.view_is c.in-Ok.ensures.opens)
    c.in-Ok.ensures.records c.in-Ok.ensures.never_falls c.go_on_with.ensures.keys c.go_on_with.ensures.ok c.go_on_with.ensures.host

pub returns-in-Ok-clause-err : goal.returns-in-Ok-clause-err
returns-in-Ok-clause-err g c = err_then c.go_on_with.result c.go_on_with.ensures.err
    (λ stops ds.
    restart_stops c.args.self.now.keys c.go_on_with.new.self.keys (g.P.Keeper.number c.args.keeper.now) c.args.self.now.host c.in-Ok.host c.go_on_with.new.self.host c.args.self.now.outer c.go_on_with.new.self.outer ds (g.P.Keeper.shelf c.args.keeper.now).records (g.P.Keeper.shelf c.open.new.keeper).records
    c.args.out.now.items c.go_on_with.new.out.items (g.P.Keeper.shelf c.args.keeper.now).faults (g.P.Keeper.shelf c.open.new.keeper).faults
    (subst (λ (x : WorldState). Opens x.keys (g.P.Keeper.number c.args.keeper.now) (g.P.Keeper.shelf c.args.keeper.now).records c.in-Ok.host) c.self.view_is c.in-Ok.ensures.opens)
    c.in-Ok.ensures.records c.in-Ok.ensures.never_falls stops)

pub returns-in-Err-clause-ok : goal.returns-in-Err-clause-ok
returns-in-Err-clause-ok g c =
    unopened_all c.unopened.result c.in-Err.fault c.args.self.now.keys c.unopened.new.self.keys c.args.self.now.host c.unopened.new.self.host c.args.self.now.outer c.unopened.new.self.outer (g.P.Keeper.shelf c.args.keeper.now).records (g.P.Keeper.shelf c.open.new.keeper).records
    c.args.out.now.items c.unopened.new.out.items (g.P.Keeper.shelf c.args.keeper.now).faults (g.P.Keeper.shelf c.open.new.keeper).faults
    c.unopened.ensures.host c.in-Err.ensures.records (λ at texts e told. c.in-Err.ensures.bad at texts (ap (λ (x : OpenFault). Err x) e) told) (λ e. c.in-Err.ensures.failed (ap (λ (x : OpenFault). Err x) e))
    c.in-Err.ensures.never_falls c.unopened.ensures.keys c.unopened.ensures.ok

pub returns-in-Err-clause-err : goal.returns-in-Err-clause-err
returns-in-Err-clause-err g c = err_then c.unopened.result (refusal_stops c.unopened.result c.args.self.now.keys c.unopened.new.self.keys c.args.self.now.host c.unopened.new.self.host c.args.self.now.outer c.unopened.new.self.outer (g.P.Keeper.shelf c.args.keeper.now).records (g.P.Keeper.shelf c.open.new.keeper).records
    c.args.out.now.items c.unopened.new.out.items (g.P.Keeper.shelf c.args.keeper.now).faults (g.P.Keeper.shelf c.open.new.keeper).faults c.in-Err.ensures.records c.in-Err.ensures.never_falls c.unopened.ensures.err) (λ stops ds. stopped_as Nothing RestartPrefix _ _ (λ events none. inl none) (stops ds))

pub returns-in-Ok-clause-goes_on : goal.returns-in-Ok-clause-goes_on
returns-in-Ok-clause-goes_on g c = record { never_fewer = omega (arith, c.in-Ok.ensures.number); never_falls = c.in-Ok.ensures.reads_never_fall }

pub returns-in-Err-clause-goes_on : goal.returns-in-Err-clause-goes_on
returns-in-Err-clause-goes_on g c = record { never_fewer = omega (arith, c.in-Err.ensures.number); never_falls = c.in-Err.ensures.reads_never_fall }

pub returns-in-Ok-clause-keeps : goal.returns-in-Ok-clause-keeps
returns-in-Ok-clause-keeps g c = ok_then c.go_on_with.result c.go_on_with.ensures.ok (λ goes quiet. inl c.in-Ok.ensures.reads)

pub returns-in-Err-clause-keeps : goal.returns-in-Err-clause-keeps
returns-in-Err-clause-keeps g c = ok_then c.unopened.result c.unopened.ensures.ok (λ done quiet. inr (refuses_next done.0 _ _ _ _ quiet done.2))
