use Rattle.std.proofs.Common.{[], get_or, refl, ap, arith}
use Rattle.zw_base.proofs.Results.{on_err}
use Rattle.mesh_sim.proofs.Lists.{seen_at, seen_set}
use Rattle.device_sim.specs.Event.{Ticks}
use Rattle.outside_model.proofs.EventLists.{ran_nothing}
use Rattle.outside_calls.proofs.Counted.{device_ticks, ran_more, ran_all, ran_stops}
use Rattle.outside_calls.proofs.Moves.{moved, acted_at, acted_enters, tick_runs, tick_stops}
use Rattle.outside_calls.proofs.acting.tick_all.Goals as goal

pub loop-device-init : goal.loop-device-init
loop-device-init g c = record { runs = ([], refl, ran_nothing _ _); free = c.requires }

pub loop-device-preserved : goal.loop-device-preserved
loop-device-preserved g c =
    let place = c.loop-device.device-index in
    let device = get_or c.loop-device.devices place c.device-item.result in
    let at = seen_at _ c.loop-device.devices place device (omega arith) (ap (λ d. get_or c.loop-device.devices place d) c.device-item.is) in
    let put = seen_set _ c.loop-device.devices place c.tick_one.new.device in
    record {
      runs = ran_more device_ticks place _ _ _ _ _ _ c.loop-device.invariant.runs
          (tick_runs _ _ _ _ place [] _ _ (moved c.loop-device.core _ _ place _ _ (Ticks []) at put c.in_ok-tick_one.ensures.device)
          (acted_enters c.loop-device.core _ _ _ place _ _ (Ticks []) at put _ _ c.in_ok-tick_one.ensures.ok));
      free = c.in_ok-tick_one.ensures.free;
    }

pub returns-in_err-tick_one-clause-err : goal.returns-in_err-tick_one-clause-err
returns-in_err-tick_one-clause-err g c =
    let place = c.loop-device.device-index in
    let device = get_or c.loop-device.devices place c.device-item.result in
    let at = seen_at _ c.loop-device.devices place device (omega arith) (ap (λ d. get_or c.loop-device.devices place d) c.device-item.is) in
    let put = seen_set _ c.loop-device.devices place c.tick_one.new.device in
    on_err c.from_residual.result (ran_stops device_ticks place _ _ _ _ _ _ _ (omega arith) c.loop-device.invariant.runs
    (tick_stops _ _ _ place [] _ _ (acted_at c.loop-device.core _ _ place _ _ (Ticks []) at put c.in_err-tick_one.ensures.err) c.in_err-tick_one.ensures.no_entries))

pub returns-clause-ok : goal.returns-clause-ok
returns-clause-ok g c = ran_all device_ticks c.loop-device.device-index _ _ _ _ _ (omega arith) c.loop-device.invariant.runs
