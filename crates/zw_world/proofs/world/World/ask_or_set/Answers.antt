-- Each line by its arm.
use Rattle.world_step.proofs.Scenes.{ok_then}
use Rattle.zw_world.proofs.Steps.{effect_beside, setting_of}
use Rattle.zw_world.proofs.world.World.ask_or_set.Goals as goal

pub returns-in-Send-clause-ok : goal.returns-in-Send-clause-ok
returns-in-Send-clause-ok c = effect_beside c.send.result _ _ _ _ c.in-Send.is c.send.ensures.ok

pub returns-in-Get-clause-ok : goal.returns-in-Get-clause-ok
returns-in-Get-clause-ok c = effect_beside c.get.result _ _ _ _ c.in-Get.is c.get.ensures.ok

pub returns-in-Interview-clause-ok : goal.returns-in-Interview-clause-ok
returns-in-Interview-clause-ok c = effect_beside c.interview.result _ _ _ _ c.in-Interview.is c.interview.ensures.ok

pub returns-in-Discover-clause-ok : goal.returns-in-Discover-clause-ok
returns-in-Discover-clause-ok c = effect_beside c.discover.result _ _ _ _ c.in-Discover.is c.discover.ensures.ok

pub returns-in-Neighbours-clause-ok : goal.returns-in-Neighbours-clause-ok
returns-in-Neighbours-clause-ok c = effect_beside c.ask.result _ _ _ _ c.in-Neighbours.is c.ask.ensures.ok

pub returns-in-Failed-clause-ok : goal.returns-in-Failed-clause-ok
returns-in-Failed-clause-ok c = effect_beside c.ask-in-Failed.result _ _ _ _ c.in-Failed.is c.ask-in-Failed.ensures.ok

pub returns-in-Probe-clause-ok : goal.returns-in-Probe-clause-ok
returns-in-Probe-clause-ok c = effect_beside c.ask-in-Probe.result _ _ _ _ c.in-Probe.is c.ask-in-Probe.ensures.ok

pub returns-in-Store-clause-ok : goal.returns-in-Store-clause-ok
returns-in-Store-clause-ok c = effect_beside c.store.result _ _ _ _ c.in-Store.is c.store.ensures.ok

pub set-requires : goal.set-requires
set-requires c = setting_of c.args.line.now c.requires c.in_default.not-Send c.in_default.not-Get c.in_default.not-Interview c.in_default.not-Discover c.in_default.not-Neighbours c.in_default.not-Failed c.in_default.not-Probe c.in_default.not-Store

pub returns-in_default-clause-ok : goal.returns-in_default-clause-ok
returns-in_default-clause-ok c = ok_then c.set.result c.set.ensures.ok (λ done ds r f. done ds r c.args.out.now.items f)
