use Rattle.std.proofs.Common.{refl}
use Rattle.zw_base.proofs.Results.{on_err}
use Rattle.outside_model.specs.State.{outside}
use Rattle.outside_model.specs.Did.{PrefixOf}
use Rattle.outside_model.specs.Schedules.{DeviceTicks}
use Rattle.outside_calls.proofs.Counted.{device_ticks}
use Rattle.outside_calls.proofs.Single.{stops_now}
use Rattle.outside_calls.proofs.outside.Outside.tick_devices.Goals as goal

pub returns-in_err-replies-clause-err : goal.returns-in_err-replies-clause-err
returns-in_err-replies-clause-err g c = on_err c.from_residual.result
    (stops_now (PrefixOf (DeviceTicks 0 _)) (outside _ _) _ _ _ (device_ticks.some 0 _) refl refl)
