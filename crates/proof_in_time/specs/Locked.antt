-- What is known at each phase of one node alone that is a lock and listens (this project's own rule over the Security 0 Command Class), over lines for it.
use Rattle.std.specs.Prelude.{◌≡◌, ◌⊎◌, ℕ, suc, ◌≤◌, Bool, true, List, ◌++◌}
use Rattle.zw_text.specs.declared.entry.Entry.{Entry}
use Rattle.zw_text.specs.declared.line.Line.{Line}
use Rattle.chip_sim.specs.Nodes.{is_marked}
use Rattle.host_node.specs.declared.series.Series.TheVariants.{Due, Running}
use Rattle.host_model.specs.State.{node_of}
use Rattle.host_model.specs.Taking.{is_secure}
use Rattle.world_model.specs.Events.{Event, May, entries, happens}
use Rattle.world_model.specs.State.{Machine}
use Rattle.proof_answered.specs.proof_calm.proof_work.proof_walk.Phases.{Phase, Between, Goes, Said_line, To_tick, Turns}
use Rattle.proof_answered.specs.proof_calm.Tied.{IsTied}
use Rattle.proof_answered.specs.Few.{AreFew}
use Rattle.proof_answered.specs.FirstAttempts.{AllFirst}
use Rattle.proof_answered.specs.Outward.{AllListen}
use Rattle.proof_answered.specs.Sleepers.{IsAlone}
use Rattle.proof_answered.specs.Workers.{KnowWorkers, KnowsWorkers, OnlySpeak, Staffed}
use Rattle.proof_in_time.specs.Coming.{AreInAir, IsKeptFor, most_then, own_ticks}
use Rattle.proof_in_time.specs.Exchanging.{GoSealed, RestsSealed, WaitsSealed}
use Rattle.proof_in_time.specs.Locks.{LockGoes}

-- ---- what is assumed of events

-- each of these is a lock in step with the host
abbrev pub LocksGo : List Bool → Machine → Event → Type 0
LocksGo these m event = (n : ℕ) → is_marked these n ≡ true → LockGoes n m event

-- ---- a node

-- no attempt runs, and nothing is on its way; or the exchange of an attempt is, and within so many ticks at most the host has heard the report
pub data LockAt (n most : ℕ) (here : Phase) (m : Machine) : Type 0 where
  Still : own_ticks n here ≤ 1 → RestsSealed n here m → LockAt n most here m
  Seals : WaitsSealed n most here m → LockAt n most here m

-- these are one node alone that listens, as the host knows, and lists Security 0; its commands go sealed; and so much is known of what it waits for
pub record IsLocked (these : List Bool) (here : Phase) (m : Machine) : Type 0 where
  pub n : ℕ
  pub alone : IsAlone these n
  pub at : LockAt n 6 here m
  pub go : GoSealed n m.host.state
  pub secure : is_secure (node_of m.host.state n).classes ≡ true
  pub joined : AreInAir these m
  pub listen : AllListen these m
  pub served : (node_of m.host.state n).listens ≡ true

-- ---- at each phase

abbrev pub KnowLocked : List Bool → Phase → List Entry → Machine → Type 0
KnowLocked these here past m = IsKeptFor these past → (KnowWorkers these here past m × Staffed these here m) × IsLocked these here m

-- and each series is at its first attempt
abbrev pub KnowLockedFirst : List Bool → Phase → List Entry → Machine → Type 0
KnowLockedFirst these here past m = KnowLocked these here past m × (IsKeptFor these past → AllFirst m.host.state)

-- so a stretch of lines for such a node may begin
pub record IsReadyLocked (these : List Bool) (m : Machine) : Type 0 where
  pub tied : IsTied these m
  pub few : AreFew 0 3 m
  pub knows : KnowsWorkers these m.host.state
  pub speak : OnlySpeak these m
  pub locked : IsLocked these Between m
  pub first : AllFirst m.host.state

-- ---- from phase to phase the ticks that are to come count down

pub record LockCounts (these : List Bool) (n : ℕ) : Type 0 where
  pub later : (here next : Phase) (past : List Entry) (m : Machine) (event : Event) → Goes here m event next → May m event → LocksGo these m event → IsKeptFor these (past ++ entries m event) → KnowLocked these here past m
      → KnowLocked these next (past ++ entries m event) (happens m event) → (most : ℕ) → LockAt n most here m
      → LockAt n (most_then most here) next (happens m event) ⊎ (((node_of m.host.state n).series ≡ Due) × LockAt n 6 next (happens m event))
  pub turned : (here next : Phase) (past : List Entry) (m : Machine) → Turns here m next → IsKeptFor these past → KnowLocked these here past m → KnowLocked these next past m → (most : ℕ) → LockAt n most here m → LockAt n most next m
  pub said : (line : Line) (m : Machine) (most : ℕ) → LockAt n most Between m → LockAt n most (Said_line line) m
  pub some : (most ticks : ℕ) (m : Machine) → (node_of m.host.state n).series ≡ Running → LockAt n most (To_tick (suc ticks)) m → 1 ≤ most
