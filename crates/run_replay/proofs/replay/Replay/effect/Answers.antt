-- Each line by its arm.
use Rattle.std.proofs.Common.{refl, arith}
use Rattle.run_replay.proofs.EventLists.{stopped_still}
use Rattle.run_replay.proofs.Steps.{ok_then, err_then, effect_as, no_other}
use Rattle.run_replay.proofs.replay.Replay.effect.Goals as goal

pub returns-in-Command-clause-ok : goal.returns-in-Command-clause-ok
returns-in-Command-clause-ok g c =
    effect_as c.command.result _ _ _ _ c.in-Command.is c.command.ensures.ok

pub returns-in-Join-clause-ok : goal.returns-in-Join-clause-ok
returns-in-Join-clause-ok g c =
    effect_as c.join.result _ _ _ _ c.in-Join.is c.join.ensures.ok

pub returns-in-Cancel-clause-ok : goal.returns-in-Cancel-clause-ok
returns-in-Cancel-clause-ok g c =
    effect_as c.cancel.result _ _ _ _ c.in-Cancel.is c.cancel.ensures.ok

pub returns-in-Send-clause-ok : goal.returns-in-Send-clause-ok
returns-in-Send-clause-ok g c =
    effect_as c.send.result _ _ _ _ c.in-Send.is (ok_then c.send.result c.send.ensures.ok (λ done. done (g.P.Keeper.shelf c.args.keeper.now).records (g.P.Keeper.shelf c.args.keeper.now).faults))

pub returns-in-Send-clause-err : goal.returns-in-Send-clause-err
returns-in-Send-clause-err g c =
    err_then c.send.result c.send.ensures.err (λ same. stopped_still _ _ c.args.out.now.items c.send.new.out.items (g.P.Keeper.shelf c.args.keeper.now).faults (g.P.Keeper.shelf c.args.keeper.now).faults refl same (omega arith))

pub returns-in-Get-clause-ok : goal.returns-in-Get-clause-ok
returns-in-Get-clause-ok g c =
    effect_as c.get.result _ _ _ _ c.in-Get.is (ok_then c.get.result c.get.ensures.ok (λ done. done (g.P.Keeper.shelf c.args.keeper.now).records (g.P.Keeper.shelf c.args.keeper.now).faults))

pub returns-in-Get-clause-err : goal.returns-in-Get-clause-err
returns-in-Get-clause-err g c =
    err_then c.get.result c.get.ensures.err (λ same. stopped_still _ _ c.args.out.now.items c.get.new.out.items (g.P.Keeper.shelf c.args.keeper.now).faults (g.P.Keeper.shelf c.args.keeper.now).faults refl same (omega arith))

pub returns-in-Interview-clause-ok : goal.returns-in-Interview-clause-ok
returns-in-Interview-clause-ok g c =
    effect_as c.interview.result _ _ _ _ c.in-Interview.is (ok_then c.interview.result c.interview.ensures.ok (λ done. done (g.P.Keeper.shelf c.args.keeper.now).records (g.P.Keeper.shelf c.args.keeper.now).faults))

pub returns-in-Interview-clause-err : goal.returns-in-Interview-clause-err
returns-in-Interview-clause-err g c =
    err_then c.interview.result c.interview.ensures.err (λ same. stopped_still _ _ c.args.out.now.items c.interview.new.out.items (g.P.Keeper.shelf c.args.keeper.now).faults (g.P.Keeper.shelf c.args.keeper.now).faults refl same (omega arith))

pub returns-in-Neighbours-clause-ok : goal.returns-in-Neighbours-clause-ok
returns-in-Neighbours-clause-ok g c =
    effect_as c.neighbours.result _ _ _ _ c.in-Neighbours.is (ok_then c.neighbours.result c.neighbours.ensures.ok (λ done. done (g.P.Keeper.shelf c.args.keeper.now).records (g.P.Keeper.shelf c.args.keeper.now).faults))

pub returns-in-Neighbours-clause-err : goal.returns-in-Neighbours-clause-err
returns-in-Neighbours-clause-err g c =
    err_then c.neighbours.result c.neighbours.ensures.err (λ same. stopped_still _ _ c.args.out.now.items c.neighbours.new.out.items (g.P.Keeper.shelf c.args.keeper.now).faults (g.P.Keeper.shelf c.args.keeper.now).faults refl same (omega arith))

pub returns-in-Failed-clause-ok : goal.returns-in-Failed-clause-ok
returns-in-Failed-clause-ok g c =
    effect_as c.failed.result _ _ _ _ c.in-Failed.is (ok_then c.failed.result c.failed.ensures.ok (λ done. done (g.P.Keeper.shelf c.args.keeper.now).records (g.P.Keeper.shelf c.args.keeper.now).faults))

pub returns-in-Failed-clause-err : goal.returns-in-Failed-clause-err
returns-in-Failed-clause-err g c =
    err_then c.failed.result c.failed.ensures.err (λ same. stopped_still _ _ c.args.out.now.items c.failed.new.out.items (g.P.Keeper.shelf c.args.keeper.now).faults (g.P.Keeper.shelf c.args.keeper.now).faults refl same (omega arith))

pub returns-in-Probe-clause-ok : goal.returns-in-Probe-clause-ok
returns-in-Probe-clause-ok g c =
    effect_as c.probe.result _ _ _ _ c.in-Probe.is (ok_then c.probe.result c.probe.ensures.ok (λ done. done (g.P.Keeper.shelf c.args.keeper.now).records (g.P.Keeper.shelf c.args.keeper.now).faults))

pub returns-in-Probe-clause-err : goal.returns-in-Probe-clause-err
returns-in-Probe-clause-err g c =
    err_then c.probe.result c.probe.ensures.err (λ same. stopped_still _ _ c.args.out.now.items c.probe.new.out.items (g.P.Keeper.shelf c.args.keeper.now).faults (g.P.Keeper.shelf c.args.keeper.now).faults refl same (omega arith))

pub returns-in-Store-clause-ok : goal.returns-in-Store-clause-ok
returns-in-Store-clause-ok g c =
    effect_as c.store.result _ _ _ _ c.in-Store.is (ok_then c.store.result c.store.ensures.ok (λ done. done (g.P.Keeper.shelf c.args.keeper.now).records (g.P.Keeper.shelf c.args.keeper.now).faults))

pub returns-in-Store-clause-err : goal.returns-in-Store-clause-err
returns-in-Store-clause-err g c =
    err_then c.store.result c.store.ensures.err (λ same. stopped_still _ _ c.args.out.now.items c.store.new.out.items (g.P.Keeper.shelf c.args.keeper.now).faults (g.P.Keeper.shelf c.args.keeper.now).faults refl same (omega arith))

pub unreachable-requires : goal.unreachable-requires
unreachable-requires g c =
    no_other c.args.line.now c.requires.replayed c.requires.no_tick c.in_default.not-Command c.in_default.not-Send c.in_default.not-Get c.in_default.not-Interview c.in_default.not-Join c.in_default.not-Cancel c.in_default.not-Neighbours c.in_default.not-Failed c.in_default.not-Probe c.in_default.not-Store
