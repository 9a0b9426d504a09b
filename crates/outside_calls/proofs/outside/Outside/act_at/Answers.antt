use Rattle.std.proofs.Common.{inr}
use Rattle.mesh_sim.proofs.Lists.{seen_at, seen_set}
use Rattle.outside_calls.specs.Acting.{act_event}
use Rattle.outside_step.proofs.Answered.{on_ok}
use Rattle.zw_base.proofs.Results.{on_err}
use Rattle.outside_calls.proofs.Moves.{moved, acted_at, act_enters}
use Rattle.outside_calls.proofs.outside.Outside.act_at.Goals as goal

pub returns-in_err-perform-clause-err : goal.returns-in_err-perform-clause-err
returns-in_err-perform-clause-err g c = rw (← c.self.view_is) (on_err c.from_residual.result
    ((acted_at c.self.inside.core _ _ c.args.place _ _ (act_event c.args.act)
    (seen_at _ c.args.devices.now.items c.args.place c.index_mut.result.now c.requires.within c.index_mut.ensures.value)
    (seen_set _ c.args.devices.now.items c.args.place c.perform.new.device) c.in_err-perform.ensures.err)))

pub returns-clause-devices : goal.returns-clause-devices
returns-clause-devices g c = on_ok c.enter.result _
    (moved c.self.inside.core _ _ c.args.place _ _ (act_event c.args.act)
    (seen_at _ c.args.devices.now.items c.args.place c.index_mut.result.now c.requires.within c.index_mut.ensures.value)
    (seen_set _ c.args.devices.now.items c.args.place c.perform.new.device) c.in_ok-perform.ensures.device)

pub returns-clause-ok : goal.returns-clause-ok
returns-clause-ok g c =
    rw (← c.self.view_is)
    (act_enters c.self.inside.core _ _ c.args.place _ _ (act_event c.args.act)
    (seen_at _ c.args.devices.now.items c.args.place c.index_mut.result.now c.requires.within c.index_mut.ensures.value)
    (seen_set _ c.args.devices.now.items c.args.place c.perform.new.device)
    c.enter.result _ _ _ _ _ _ c.new-told.ensures c.in_ok-perform.ensures.ok c.enter.ensures.outer c.enter.ensures.entered)

pub returns-clause-err : goal.returns-clause-err
returns-clause-err g c = rw (← c.self.view_is) (on_err c.enter.result
    ((acted_at c.self.inside.core _ _ c.args.place _ _ (act_event c.args.act)
    (seen_at _ c.args.devices.now.items c.args.place c.index_mut.result.now c.requires.within c.index_mut.ensures.value)
    (seen_set _ c.args.devices.now.items c.args.place c.perform.new.device)
    (inr (c.in_ok-perform.ensures.ok.0, c.in_ok-perform.ensures.ok.1, c.in_ok-perform.ensures.device)))))
