-- Each line by its arm.
use Rattle.std.proofs.Common.{refl, inl, arith}
use Rattle.outside_model.specs.Schedules.{IsRepeat, IsWake, IsSet}
use Rattle.outside_model.specs.Events.{Shows}
use Rattle.world_model.specs.Prefixes.{EffectPrefix}
use Rattle.world_model.proofs.Schedules.{repeat_own, wake_own, set_own}
use Rattle.world_step.proofs.Scenes.{ok_then, err_then, did_of, stopped_still}
use Rattle.zw_world.specs.contracts.world.World.{the_view}
use Rattle.zw_world.proofs.KeeperLines.{goes_unread, goes_still, keeps_as, keeps_or_as, keeps_any}
use Rattle.zw_world.proofs.Scenes.{did_run, stopped_of}
use Rattle.zw_world.proofs.Steps.{effect_as, prefix_as, none_in, nothing_in, left_of}
use Rattle.zw_world.proofs.world.World.effect.Goals as goal

pub returns-in-Command-clause-ok : goal.returns-in-Command-clause-ok
returns-in-Command-clause-ok g c = effect_as c.command.result _ _ _ _ c.in-Command.is (ok_then c.command.result c.command.ensures.ok (λ done. done _))

pub returns-in-Command-clause-err : goal.returns-in-Command-clause-err
returns-in-Command-clause-err g c = err_then c.command.result c.command.ensures.err (λ stops. nothing_in c.args.line.now _ _ (stops _))

pub returns-in-Join-clause-ok : goal.returns-in-Join-clause-ok
returns-in-Join-clause-ok g c = effect_as c.join.result _ _ _ _ c.in-Join.is (ok_then c.join.result c.join.ensures.ok (λ done. done))

pub returns-in-Join-clause-err : goal.returns-in-Join-clause-err
returns-in-Join-clause-err g c = err_then c.join.result c.join.ensures.err (λ stops. nothing_in c.args.line.now _ _ stops)

pub returns-in-Cancel-clause-ok : goal.returns-in-Cancel-clause-ok
returns-in-Cancel-clause-ok g c = effect_as c.cancel.result _ _ _ _ c.in-Cancel.is (ok_then c.cancel.result c.cancel.ensures.ok (λ done. done _))

pub returns-in-Cancel-clause-err : goal.returns-in-Cancel-clause-err
returns-in-Cancel-clause-err g c = err_then c.cancel.result c.cancel.ensures.err (λ stops. nothing_in c.args.line.now _ _ (stops _))

pub returns-in-Restart-clause-ok : goal.returns-in-Restart-clause-ok
returns-in-Restart-clause-ok g c = effect_as c.restart.result _ _ _ _ c.in-Restart.is (ok_then c.restart.result c.restart.ensures.ok (λ done. done _))

pub returns-in-Restart-clause-err : goal.returns-in-Restart-clause-err
returns-in-Restart-clause-err g c = prefix_as c.restart.result _ _ _ _ c.in-Restart.is (err_then c.restart.result c.restart.ensures.err (λ stops. stops _))

pub returns-in-Repeat-clause-ok : goal.returns-in-Repeat-clause-ok
returns-in-Repeat-clause-ok g c =
    let w = the_view c.self.inside in
    rw (← c.self.view_is) (effect_as c.repeat.result _ _ _ _ c.in-Repeat.is (ok_then c.repeat.result c.repeat.ensures.ok
    (λ run. did_of (IsRepeat _) w.keys w.host w.outer c.repeat.new.self _ _ (g.P.Keeper.shelf c.args.keeper.now).records c.args.out.now.items c.repeat.new.out.items (g.P.Keeper.shelf c.args.keeper.now).faults (repeat_own _) run)))

pub returns-in-Repeat-clause-err : goal.returns-in-Repeat-clause-err
returns-in-Repeat-clause-err g c =
    let w = the_view c.self.inside in
    rw (← c.self.view_is) (prefix_as c.repeat.result _ _ _ _ c.in-Repeat.is (err_then c.repeat.result c.repeat.ensures.err
    (λ stops. stopped_of (IsRepeat _) w.keys w.keys w.host w.host w.outer c.repeat.new.self _ _ (g.P.Keeper.shelf c.args.keeper.now).records c.args.out.now.items c.repeat.new.out.items (g.P.Keeper.shelf c.args.keeper.now).faults stops)))

pub returns-in-Wake-clause-ok : goal.returns-in-Wake-clause-ok
returns-in-Wake-clause-ok g c =
    let w = the_view c.self-in-Wake.inside in
    rw (← c.self-in-Wake.view_is) (effect_as c.wake.result _ _ _ _ c.in-Wake.is (ok_then c.wake.result c.wake.ensures.ok
    (λ run. did_of (IsWake _) w.keys w.host w.outer c.wake.new.self _ _ (g.P.Keeper.shelf c.args.keeper.now).records c.args.out.now.items c.wake.new.out.items (g.P.Keeper.shelf c.args.keeper.now).faults (wake_own _) run)))

pub returns-in-Wake-clause-err : goal.returns-in-Wake-clause-err
returns-in-Wake-clause-err g c =
    let w = the_view c.self-in-Wake.inside in
    rw (← c.self-in-Wake.view_is) (prefix_as c.wake.result _ _ _ _ c.in-Wake.is (err_then c.wake.result c.wake.ensures.err
    (λ stops. stopped_of (IsWake _) w.keys w.keys w.host w.host w.outer c.wake.new.self _ _ (g.P.Keeper.shelf c.args.keeper.now).records c.args.out.now.items c.wake.new.out.items (g.P.Keeper.shelf c.args.keeper.now).faults stops)))

pub returns-in-Local-clause-ok : goal.returns-in-Local-clause-ok
returns-in-Local-clause-ok g c =
    let w = the_view c.self-in-Local.inside in
    rw (← c.self-in-Local.view_is) (effect_as c.local.result _ _ _ _ c.in-Local.is (ok_then c.local.result c.local.ensures.ok
    (λ run. did_of (IsSet _ _) w.keys w.host w.outer c.local.new.self _ _ (g.P.Keeper.shelf c.args.keeper.now).records c.args.out.now.items c.local.new.out.items (g.P.Keeper.shelf c.args.keeper.now).faults (set_own _ _) run)))

pub returns-in-Local-clause-err : goal.returns-in-Local-clause-err
returns-in-Local-clause-err g c =
    let w = the_view c.self-in-Local.inside in
    rw (← c.self-in-Local.view_is) (prefix_as c.local.result _ _ _ _ c.in-Local.is (err_then c.local.result c.local.ensures.err
    (λ stops. stopped_of (IsSet _ _) w.keys w.keys w.host w.host w.outer c.local.new.self _ _ (g.P.Keeper.shelf c.args.keeper.now).records c.args.out.now.items c.local.new.out.items (g.P.Keeper.shelf c.args.keeper.now).faults stops)))

pub returns-in-Show-clause-ok : goal.returns-in-Show-clause-ok
returns-in-Show-clause-ok g c =
    let w = the_view c.self-in-Show.inside in
    rw (← c.self-in-Show.view_is) (effect_as c.show.result _ _ _ _ c.in-Show.is (ok_then c.show.result c.show.ensures.ok
    (λ run. did_run (Shows _) w.keys w.host w.outer c.show.new.self _ (g.P.Keeper.shelf c.args.keeper.now).records c.args.out.now.items c.show.new.out.items (g.P.Keeper.shelf c.args.keeper.now).faults refl run)))

pub returns-in-Show-clause-err : goal.returns-in-Show-clause-err
returns-in-Show-clause-err g c =
    let w = the_view c.self-in-Show.inside in
    rw (← c.self-in-Show.view_is) (err_then c.show.result c.show.ensures.no_entries
    (λ same. stopped_still (EffectPrefix c.args.line.now) w.keys w.keys w.host w.host w.outer c.show.new.self _ (g.P.Keeper.shelf c.args.keeper.now).records (g.P.Keeper.shelf c.args.keeper.now).records c.args.out.now.items c.show.new.out.items (g.P.Keeper.shelf c.args.keeper.now).faults (g.P.Keeper.shelf c.args.keeper.now).faults (none_in c.args.line.now _) refl same (omega arith)))

pub ask_or_set-requires : goal.ask_or_set-requires
ask_or_set-requires g c = left_of c.args.line.now c.requires.effect c.in_default.not-Command c.in_default.not-Join c.in_default.not-Cancel c.in_default.not-Restart c.in_default.not-Repeat c.in_default.not-Wake c.in_default.not-Local c.in_default.not-Show

pub returns-in_default-clause-ok : goal.returns-in_default-clause-ok
returns-in_default-clause-ok g c = ok_then c.ask_or_set.result c.ask_or_set.ensures.ok (λ done. done _ (g.P.Keeper.shelf c.args.keeper.now).records (g.P.Keeper.shelf c.args.keeper.now).faults)

pub returns-in_default-clause-err : goal.returns-in_default-clause-err
returns-in_default-clause-err g c = err_then c.ask_or_set.result c.ask_or_set.ensures.err
    (λ same. stopped_still (EffectPrefix c.args.line.now) c.args.self.now.keys c.ask_or_set.new.self.keys c.args.self.now.host c.ask_or_set.new.self.host c.args.self.now.outer c.ask_or_set.new.self.outer _ (g.P.Keeper.shelf c.args.keeper.now).records (g.P.Keeper.shelf c.args.keeper.now).records c.args.out.now.items c.ask_or_set.new.out.items (g.P.Keeper.shelf c.args.keeper.now).faults (g.P.Keeper.shelf c.args.keeper.now).faults (none_in c.args.line.now _) refl same (omega arith))

pub returns-in-Command-clause-goes_on : goal.returns-in-Command-clause-goes_on
returns-in-Command-clause-goes_on g c = goes_unread _ _ _ _ c.command.ensures.never_fewer c.command.ensures.reads

pub returns-in-Join-clause-goes_on : goal.returns-in-Join-clause-goes_on
returns-in-Join-clause-goes_on g c = goes_unread _ _ _ _ c.join.ensures.never_fewer c.join.ensures.reads

pub returns-in-Cancel-clause-goes_on : goal.returns-in-Cancel-clause-goes_on
returns-in-Cancel-clause-goes_on g c = goes_unread _ _ _ _ c.cancel.ensures.never_fewer c.cancel.ensures.reads

pub returns-in-Command-clause-keeps : goal.returns-in-Command-clause-keeps
returns-in-Command-clause-keeps g c = ok_then c.command.result c.command.ensures.keeps (λ keeps quiet. keeps_or_as _ _ _ _ _ _ _ _ c.in-Command.is (keeps quiet))

pub returns-in-Restart-clause-keeps : goal.returns-in-Restart-clause-keeps
returns-in-Restart-clause-keeps g c = ok_then c.restart.result c.restart.ensures.keeps (λ keeps quiet. keeps_or_as _ _ _ _ _ _ _ _ c.in-Restart.is (keeps quiet))

pub returns-in-Join-clause-keeps : goal.returns-in-Join-clause-keeps
returns-in-Join-clause-keeps g c = ok_then c.join.result c.join.ensures.ok (λ done quiet. inl (keeps_as _ _ _ _ _ _ c.in-Join.is tt))

pub returns-in-Cancel-clause-keeps : goal.returns-in-Cancel-clause-keeps
returns-in-Cancel-clause-keeps g c = ok_then c.cancel.result c.cancel.ensures.ok (λ done quiet. inl (keeps_as _ _ _ _ _ _ c.in-Cancel.is tt))

pub returns-in-Repeat-clause-keeps : goal.returns-in-Repeat-clause-keeps
returns-in-Repeat-clause-keeps g c = ok_then c.repeat.result c.repeat.ensures.ok (λ done quiet. inl (keeps_as _ _ _ _ _ _ c.in-Repeat.is tt))

pub returns-in-Wake-clause-keeps : goal.returns-in-Wake-clause-keeps
returns-in-Wake-clause-keeps g c = ok_then c.wake.result c.wake.ensures.ok (λ done quiet. inl (keeps_as _ _ _ _ _ _ c.in-Wake.is tt))

pub returns-in-Local-clause-keeps : goal.returns-in-Local-clause-keeps
returns-in-Local-clause-keeps g c = ok_then c.local.result c.local.ensures.ok (λ done quiet. inl (keeps_as _ _ _ _ _ _ c.in-Local.is tt))

pub returns-in-Show-clause-keeps : goal.returns-in-Show-clause-keeps
returns-in-Show-clause-keeps g c = ok_then c.show.result c.show.ensures.ok (λ done quiet. inl (keeps_as _ _ _ _ _ _ c.in-Show.is tt))

pub returns-in-Repeat-clause-goes_on : goal.returns-in-Repeat-clause-goes_on
returns-in-Repeat-clause-goes_on g c = goes_still (g.P.Keeper.number c.args.keeper.now) (g.P.Keeper.reads c.args.keeper.now)

pub returns-in-Wake-clause-goes_on : goal.returns-in-Wake-clause-goes_on
returns-in-Wake-clause-goes_on g c = goes_still (g.P.Keeper.number c.args.keeper.now) (g.P.Keeper.reads c.args.keeper.now)

pub returns-in-Local-clause-goes_on : goal.returns-in-Local-clause-goes_on
returns-in-Local-clause-goes_on g c = goes_still (g.P.Keeper.number c.args.keeper.now) (g.P.Keeper.reads c.args.keeper.now)

pub returns-in-Show-clause-goes_on : goal.returns-in-Show-clause-goes_on
returns-in-Show-clause-goes_on g c = goes_still (g.P.Keeper.number c.args.keeper.now) (g.P.Keeper.reads c.args.keeper.now)

pub returns-in_default-clause-goes_on : goal.returns-in_default-clause-goes_on
returns-in_default-clause-goes_on g c = goes_still (g.P.Keeper.number c.args.keeper.now) (g.P.Keeper.reads c.args.keeper.now)

pub returns-in_default-clause-keeps : goal.returns-in_default-clause-keeps
returns-in_default-clause-keeps g c = ok_then c.ask_or_set.result c.ask_or_set.ensures.ok (λ done quiet. inl (keeps_any c.args.line.now _ _ _ _ c.in_default.not-Command c.in_default.not-Restart))
