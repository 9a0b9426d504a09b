-- What is known, at each phase of a line, of the results that the chip waits for (this project's own rule): one for each SendData that was aborted, and for the one under way; each is that of
-- a frame that is on the air, or one without a route that is due.
use Rattle.std.specs.Prelude.{◌≡◌, ℕ, ◌+◌, List, ◌++◌, length}
use Rattle.std.specs.Option.{is_some}
use Rattle.std.specs.List.{AllByRecursion}
use Rattle.air_frames.specs.Flown.{Flown}
use Rattle.zw_text.specs.declared.entry.Entry.{Entry}
use Rattle.outside_model.specs.State.{OuterState}
use Rattle.outside_model.specs.Events.{OuterEvent, Arrives, Chip_takes, Gives, Host_begins}
use Rattle.world_model.specs.State.{Machine}
use Rattle.proof_line.specs.proof_traffic.Facts.{one_if}
use Rattle.proof_line.specs.proof_traffic.OnAir.{hosts_on_air, on_air}
use Rattle.proof_line.specs.proof_traffic.OutsideTraffic.{Await, outward}
use Rattle.proof_air.specs.proof_walk.Outside.{CoversOuter}
use Rattle.proof_air.specs.proof_walk.Phases.{Phase, Doing, Arriving, Giving}

pub record Waits (o : OuterState) : Type 0 where
  pub each : length o.calls ≡ o.chip.state.aborted + one_if (is_some o.chip.state.sending)
  pub await : Await (on_air o.air.frames) o

-- so many of the frames that were on the air as the tick began are still to arrive; those that went there since are of devices
pub record AreLanding (left : ℕ) (o : OuterState) : Type 0 where
  pub before : List Flown
  pub since : List Flown
  pub are : on_air o.air.frames ≡ before ++ since
  pub many : length before ≡ left
  pub home : outward since ≡ 0

-- all have arrived, and so many results are due
pub record AreGiven (left : ℕ) (o : OuterState) : Type 0 where
  pub none : hosts_on_air o ≡ 0
  pub many : length o.due ≡ left

-- an event at which the chip takes nothing and no result comes
abbrev pub LeavesCalls : OuterEvent → Type 0
LeavesCalls (Host_begins node sessions) = ⊥
LeavesCalls (Chip_takes count rest ways) = ⊥
LeavesCalls (Arrives drawn route) = ⊥
LeavesCalls (Gives route) = ⊥
LeavesCalls event = Unit {0}

abbrev pub CallsAt : Phase → OuterState → Type 0
CallsAt (Doing line left) o = AllByRecursion (CoversOuter LeavesCalls) left
CallsAt (Arriving left ticks) o = AreLanding left o
CallsAt (Giving left ticks) o = AreGiven left o
CallsAt here o = Unit {0}

abbrev pub KnowCalls : Phase → List Entry → Machine → Type 0
KnowCalls here past m = Waits m.outside.outer × CallsAt here m.outside.outer
