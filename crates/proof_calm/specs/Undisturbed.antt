-- A machine that nothing disturbs, between lines and before each tick of a stretch (this project's own rule): what is so of it whatever its frames say.
use Rattle.std.specs.Prelude.{◌≡◌, ◌≢◌, ◌⊎◌, ℕ, ◌+◌, ◌≤◌, false, true, List, [], ◌∷◌, Some, None, Contains, length}
use Rattle.std.specs.List.{AllByRecursion}
use Rattle.chip_functions.specs.declared.function.TheConstants.{SEND_DATA}
use Rattle.air_frames.specs.Flown.{Flown}
use Rattle.host_requests.specs.Frames.{function_of}
use Rattle.host_requests.specs.Next.{notice_ticks}
use Rattle.host_requests.specs.declared.task.Purpose.{Purpose}
use Rattle.host_requests.specs.declared.under_way.Progress.TheVariants.{Answered}
use Rattle.host_node.specs.State.{NodeState}
use Rattle.host_node.specs.declared.series.Series.TheVariants as series
use Rattle.host_model.specs.State.{HostState, node_of}
use Rattle.outside_model.specs.declared.waits.Call.TheVariants.{OfFrame}
use Rattle.outside_model.specs.State.{OuterState}
use Rattle.world_model.specs.State.{Machine}
use Rattle.proof_waking.specs.proof_traffic.OnAir.{on_air, hosts_on_air}
use Rattle.proof_calm.specs.Known.{AsksToSend}
use Rattle.proof_calm.specs.Resting.{LineRests}
use Rattle.proof_calm.specs.Sending.{SendsNothing}

-- ---- the serial line, which rests, and what waits beside it

-- no result is due to the chip, and the host owes no abort and has no task that waits
pub record NothingWaits (m : Machine) : Type 0 where
  pub none_due : m.outside.outer.due ≡ []
  pub paid : m.host.state.requests.owes ≡ false
  pub no_task : m.host.state.requests.queue ≡ []

-- ---- the request under way

-- none is, and the chip sends nothing
pub record HasNone (m : Machine) : Type 0 where
  pub no_request : m.host.state.requests.under_way ≡ None
  pub sends : SendsNothing m.outside.outer

-- a SendData of a payload for a joined node, which the chip took in the last settling: its frame is the only one of the host on the air, and the one call to come is for it
pub record IsTaken (m : Machine) : Type 0 where
  pub purpose : Purpose
  pub under_way : m.host.state.requests.under_way ≡ Some (record { purpose = purpose; progress = Answered true notice_ticks })
  pub sends : function_of purpose ≡ SEND_DATA
  pub asks : AsksToSend m.outside.outer.chip.state.joined purpose m.host.state.requests.last_id
  pub sending : m.outside.outer.chip.state.sending ≡ Some (record { node = asks.node; callback_id = m.host.state.requests.last_id })
  pub one_call : m.outside.outer.calls ≡ OfFrame ∷ []
  pub one_flies : hosts_on_air m.outside.outer ≡ 1

-- ---- the air

-- no frame on it is lost, and at most two are of devices
pub record AirIsCalm (o : OuterState) : Type 0 where
  pub arrive : AllByRecursion (λ (frame : Flown). frame.lost ≡ false) (on_air o.air.frames)
  pub few : length (on_air o.air.frames) ≤ hosts_on_air o + 2

-- ---- the nodes

-- a series that is due or runs is at its first attempt, and the wait of an attempt began a few ticks ago
pub record IsAtFirst (n : NodeState) : Type 0 where
  pub first : n.series ≢ series.Idle → n.book.attempts ≡ 0
  pub fresh : (n.attempt_wait ≡ 0) ⊎ (92 ≤ n.attempt_wait)

-- nothing is to be done for it
pub record IsAside (n : NodeState) : Type 0 where
  pub idle : n.series ≡ series.Idle
  pub none_waits : n.waiting ≡ []

-- only these nodes are at work
pub record SeriesAreFirst (workers : List ℕ) (h : HostState) : Type 0 where
  pub each : (n : ℕ) → IsAtFirst (node_of h n)
  pub others : (n : ℕ) → (Contains workers n → ⊥) → IsAside (node_of h n)

-- ---- all of it

pub record Undisturbed (workers : List ℕ) (m : Machine) : Type 0 where
  pub line : LineRests m
  pub waits : NothingWaits m
  pub request : HasNone m ⊎ IsTaken m
  pub air : AirIsCalm m.outside.outer
  pub series : SeriesAreFirst workers m.host.state
