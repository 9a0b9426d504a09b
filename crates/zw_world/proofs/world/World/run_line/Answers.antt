-- So many ticks, or the line's effect and a settling.
use Rattle.std.proofs.Common.{[], inl}
use Rattle.zw_world.specs.contracts.world.World.{the_view}
use Rattle.zw_base.proofs.Results.{on_err}
use Rattle.world_step.proofs.Scenes.{ok_then, err_then}
use Rattle.zw_world.proofs.KeeperLines.{goes_unread, goes_then, keeps_as, keeps_then}
use Rattle.zw_world.proofs.Steps.{not_tick, ticks_as, ticks_stop_as, effect_stops, rest_done, rest_stops}
use Rattle.zw_world.proofs.world.World.run_line.Goals as goal

pub returns-in-Tick-clause-ok : goal.returns-in-Tick-clause-ok
returns-in-Tick-clause-ok g c =
    let w = the_view c.self.inside in
    rw (← c.self.view_is) (ticks_as c.ticks.result c.args.line.now c.in-Tick.count _ _ c.in-Tick.is (ok_then c.ticks.result c.ticks.ensures.ok (λ done. done w.keys)))

pub returns-in-Tick-clause-err : goal.returns-in-Tick-clause-err
returns-in-Tick-clause-err g c =
    let w = the_view c.self.inside in
    rw (← c.self.view_is) (ticks_stop_as c.ticks.result c.args.line.now c.in-Tick.count _ _ c.in-Tick.is (err_then c.ticks.result c.ticks.ensures.err (λ stops. stops w.keys)))

pub effect-requires-clause-effect : goal.effect-requires-clause-effect
effect-requires-clause-effect g c = not_tick c.args.line.now c.in_default.not-Tick

pub returns-in_err-effect-clause-err : goal.returns-in_err-effect-clause-err
returns-in_err-effect-clause-err g c = on_err c.from_residual.result (effect_stops c.args.line.now _ _ (not_tick c.args.line.now c.in_default.not-Tick) c.in_err-effect.ensures.err)

pub returns-clause-ok : goal.returns-clause-ok
returns-clause-ok g c =
    let w = the_view c.self-2.inside in
    rest_done c.settle.result c.args.line.now _ _ _ (not_tick c.args.line.now c.in_default.not-Tick) c.in_ok-effect.ensures.ok
    (rw (← c.self-2.view_is) (ok_then c.settle.result c.settle.ensures.ok (λ done. done w.keys _)))

pub returns-clause-err : goal.returns-clause-err
returns-clause-err g c =
    let w = the_view c.self-2.inside in
    rest_stops c.settle.result c.args.line.now _ _ _ (not_tick c.args.line.now c.in_default.not-Tick) c.in_ok-effect.ensures.ok
    (rw (← c.self-2.view_is) (err_then c.settle.result c.settle.ensures.err (λ stops. stops w.keys _)))

pub returns-in-Tick-clause-goes_on : goal.returns-in-Tick-clause-goes_on
returns-in-Tick-clause-goes_on g c = goes_unread _ _ _ _ c.ticks.ensures.never_fewer c.ticks.ensures.reads

pub returns-in-Tick-clause-keeps : goal.returns-in-Tick-clause-keeps
returns-in-Tick-clause-keeps g c = ok_then c.ticks.result c.ticks.ensures.ok (λ done quiet. inl (keeps_as _ _ _ _ _ _ c.in-Tick.is tt))

pub returns-clause-goes_on : goal.returns-clause-goes_on
returns-clause-goes_on g c = goes_then _ _ _ _ _ _ c.effect.ensures.goes_on c.settle.ensures.never_fewer c.settle.ensures.reads

pub returns-clause-keeps : goal.returns-clause-keeps
returns-clause-keeps g c =
    let w = the_view c.self-2.inside in
    ok_then c.settle.result c.settle.ensures.ok
    (λ done quiet. keeps_then c.args.line.now _ _ _ _ _ _ _ _ _ _ (c.in_ok-effect.ensures.keeps quiet) c.settle.ensures.never_fewer c.settle.ensures.reads (done w.keys []).2.entries)
