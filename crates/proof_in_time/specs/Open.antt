-- What is known at each phase of one node alone that listens and may take its messages in segments (this project's own rule over the Transport Service Command Class), over lines for it.
use Rattle.std.specs.Prelude.{◌≡◌, ◌⊎◌, ℕ, suc, ◌+◌, ◌≤◌, Bool, true, false, List, ◌++◌, Some, slice_get}
use Rattle.zw_text.specs.declared.entry.Entry.{Entry}
use Rattle.zw_text.specs.declared.line.Line.{Line}
use Rattle.supervision.specs.Host.{begun_of}
use Rattle.device_kinds.specs.Kind.{lists}
use Rattle.device_sim.specs.State.{State}
use Rattle.mesh_sim.specs.Fates.{place_of}
use Rattle.host_node.specs.declared.series.Series.TheVariants.{Due, Running}
use Rattle.host_model.specs.State.{node_of}
use Rattle.host_model.specs.Taking.{is_secure}
use Rattle.world_model.specs.Events.{Event, May, entries, happens}
use Rattle.world_model.specs.State.{Machine}
use Rattle.proof_answered.specs.proof_calm.proof_work.proof_walk.Phases.{Phase, Between, Goes, Said_line, To_tick, Turns}
use Rattle.proof_answered.specs.proof_calm.Tied.{IsTied}
use Rattle.proof_answered.specs.Few.{AreFew}
use Rattle.proof_answered.specs.FirstAttempts.{AllFirst}
use Rattle.proof_answered.specs.Outward.{AllListen}
use Rattle.proof_answered.specs.Sleepers.{IsAlone}
use Rattle.proof_answered.specs.Workers.{KnowWorkers, KnowsWorkers, OnlySpeak, Staffed}
use Rattle.proof_in_time.specs.Coming.{AreInAir, IsKeptFor, WaitsFor, most_then, own_ticks}
use Rattle.proof_in_time.specs.InStep.{AreInStep}
use Rattle.proof_in_time.specs.Openly.{GoOpenly}
use Rattle.proof_in_time.specs.Parts.{Parts}
use Rattle.proof_in_time.specs.Trail.{HasTaken, IsQuiet, Trail}

-- ---- an attempt that gives segments

-- its wait does not run, or is far from its end
abbrev pub IsFar : ℕ → ℕ → Phase → Machine → Type 0
IsFar n left here m = ((node_of m.host.state n).attempt_wait ≡ 0) ⊎ (70 + left + own_ticks n here ≤ (node_of m.host.state n).attempt_wait)

-- within so many ticks at most the device has told the end; and the wait is as far from its end
pub record WaitsParts (these : List Bool) (n most : ℕ) (here : Phase) (m : Machine) : Type 0 where
  pub openly : is_secure (node_of m.host.state n).classes ≡ false
  pub once : own_ticks n here ≤ 1
  pub running : (node_of m.host.state n).series ≡ Running
  pub left : ℕ
  pub few : left ≤ 23
  pub within : left ≤ most
  pub parts : Parts these n (begun_of (node_of m.host.state n).book) left here m
  pub waits : IsFar n left here m

-- ---- a node

-- its first device takes segments
pub record TakesCut (n : ℕ) (devices : List State) : Type 0 where
  pub place : ℕ
  pub device : State
  pub first : place_of n devices ≡ Some place
  pub stands : slice_get devices place ≡ Some device
  pub cut : lists device.kind 0x55 ≡ true

-- Nothing is on its way but what is answered plainly; or segments of an attempt are, so too where the device had taken its session before; or it took it in this tick, and what it asked for
-- before is with the host.
pub data OpenAt (these : List Bool) (n most : ℕ) (here : Phase) (m : Machine) : Type 0 where
  Still : WaitsFor false n most here m → IsQuiet these n here m → OpenAt these n most here m
  Gives : WaitsParts these n most here m → (HasTaken n m → IsQuiet these n here m) → OpenAt these n most here m
  Trails : WaitsFor false n most here m → Trail these n here m → OpenAt these n most here m

-- these are one node alone that listens, as the host knows, and goes unsealed; and so much is known of what it waits for
pub record IsOpenly (these : List Bool) (here : Phase) (m : Machine) : Type 0 where
  pub n : ℕ
  pub alone : IsAlone these n
  pub at : OpenAt these n 23 here m
  pub go : GoOpenly these m.host.state.commands
  pub joined : AreInAir these m
  pub listen : AllListen these m
  pub cuts : TakesCut n m.outside.devices
  pub served : (node_of m.host.state n).listens ≡ true

-- ---- at each phase

abbrev pub KnowOpen : List Bool → Phase → List Entry → Machine → Type 0
KnowOpen these here past m = IsKeptFor these past → (KnowWorkers these here past m × Staffed these here m) × IsOpenly these here m

-- and each series is at its first attempt
abbrev pub KnowOpenFirst : List Bool → Phase → List Entry → Machine → Type 0
KnowOpenFirst these here past m = KnowOpen these here past m × (IsKeptFor these past → AllFirst m.host.state)

-- so a stretch of lines for such a node may begin
pub record IsReadyOpenly (these : List Bool) (m : Machine) : Type 0 where
  pub tied : IsTied these m
  pub few : AreFew 0 3 m
  pub knows : KnowsWorkers these m.host.state
  pub speak : OnlySpeak these m
  pub openly : IsOpenly these Between m
  pub first : AllFirst m.host.state

-- ---- how many ticks are to come

-- from phase to phase it is within as many ticks, or one fewer as one begins; or an attempt that was due has started
pub record OpenCounts (these : List Bool) (n : ℕ) : Type 0 where
  pub later : (here next : Phase) (past : List Entry) (m : Machine) (event : Event) → Goes here m event next → May m event → AreInStep these m event → IsKeptFor these (past ++ entries m event) → KnowOpen these here past m
      → KnowOpen these next (past ++ entries m event) (happens m event) → (most : ℕ) → OpenAt these n most here m
      → OpenAt these n (most_then most here) next (happens m event) ⊎ (((node_of m.host.state n).series ≡ Due) × OpenAt these n 23 next (happens m event))
  pub turned : (here next : Phase) (past : List Entry) (m : Machine) → Turns here m next → IsKeptFor these past → KnowOpen these here past m → KnowOpen these next past m → (most : ℕ) → OpenAt these n most here m → OpenAt these n most next m
  pub said : (line : Line) (m : Machine) (most : ℕ) → OpenAt these n most Between m → OpenAt these n most (Said_line line) m
  pub some : (most ticks : ℕ) (m : Machine) → (node_of m.host.state n).series ≡ Running → OpenAt these n most (To_tick (suc ticks)) m → 1 ≤ most
