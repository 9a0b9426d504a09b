-- The calls that the chip awaits, at each phase of quiet lines and ticks (this project's own rule): none is to come any more where the host ticks.
use Rattle.std.specs.Prelude.{◌≡◌, ℕ, ◌+◌, List, [], ◌++◌, length}
use Rattle.air_frames.specs.Flown.{Flown}
use Rattle.air_frames.specs.History.{Mark}
use Rattle.world_model.specs.State.{Machine}
use Rattle.proof_work.specs.proof_walk.Phases.{Phase, Arriving, Giving, Ticking_devices, Ticking_chip, Ticking_decoder, Ticking_host}
use Rattle.proof_waking.specs.proof_traffic.Requests.{Traffic}
use Rattle.proof_waking.specs.proof_traffic.Facts.{one_if}
use Rattle.proof_waking.specs.proof_traffic.OutsideTraffic.{AreNodes, outward}
use Rattle.proof_waking.specs.proof_traffic.OutsideTraffic as outer
use Rattle.proof_waking.specs.proof_traffic.OnAir.{on_air, hosts_on_air}

-- a course of the host's requests has what is outside it: the payload that the chip sends, the calls to come, and the frames on the air for them
pub record Awaits (m : Machine) : Type 0 where
  pub course : Traffic
  pub log : List Mark
  pub follows : outer.Follows course log (on_air m.outside.outer.air.frames) m.outside.outer
  pub each_call : length course.calls ≡ course.aborted + one_if course.sending
  pub nodes : AreNodes m.outside.devices

-- so many of the frames on the air arrive in this tick; those behind them are of devices
pub record AwaitsFrames (frames : ℕ) (m : Machine) : Type 0 where
  pub awaits : Awaits m
  pub first : List Flown
  pub behind : List Flown
  pub are : on_air m.outside.outer.air.frames ≡ first ++ behind
  pub many : length first ≡ frames
  pub home : outward behind ≡ 0

-- no frame of the host is on the air, and so many results are due
pub record AwaitsResults (results : ℕ) (m : Machine) : Type 0 where
  pub awaits : Awaits m
  pub none_flies : hosts_on_air m.outside.outer ≡ 0
  pub many : length m.outside.outer.due ≡ results

-- no call is to come
pub record AwaitsNone (m : Machine) : Type 0 where
  pub awaits : Awaits m
  pub no_call : m.outside.outer.calls ≡ []

abbrev pub AwaitsAt : Phase → Machine → Type 0
AwaitsAt (Arriving frames ticks) m = AwaitsFrames frames m
AwaitsAt (Giving results ticks) m = AwaitsResults results m
AwaitsAt (Ticking_devices place count ticks) m = AwaitsNone m
AwaitsAt (Ticking_chip ticks) m = AwaitsNone m
AwaitsAt (Ticking_decoder ticks) m = AwaitsNone m
AwaitsAt (Ticking_host events ticks) m = AwaitsNone m
AwaitsAt here m = Awaits m
