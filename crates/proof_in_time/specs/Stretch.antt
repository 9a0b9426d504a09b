-- A stretch of lines for some nodes, which begins behind other lines (this project's own rule): what is assumed of both.
use Rattle.std.specs.Prelude.{◌≡◌, ◌⊎◌, ◌++◌, ℕ, Bool, List, Some, [], false, true, length}
use Rattle.s0_crypto.specs.declared.key_pair.Keys.{Keys}
use Rattle.chip_sim.specs.Nodes.{is_marked}
use Rattle.device_sim.specs.State.{State}
use Rattle.host_model.specs.State.{node_of}
use Rattle.world_model.specs.State.{first_machine}
use Rattle.world_lines.specs.Spoken.{Spoken, after_all, transcript_of}
use Rattle.world_lines.specs.Done.{AreDone, events_of}
use Rattle.world_lines.specs.Whole.{AreWhole}
use Rattle.proof_course_sealed.specs.LockNodes.{IsLockNode}
use Rattle.proof_in_time.specs.Coming.{IsKeptFor, IsReadyFor}
use Rattle.proof_in_time.specs.InHand.{AllServe, SleepsAlone}
use Rattle.proof_in_time.specs.InStep.{ArePlainOver}
use Rattle.proof_in_time.specs.Locked.{IsReadyLocked}
use Rattle.proof_in_time.specs.Open.{IsReadyOpenly}
use Rattle.proof_in_time.specs.Openly.{IsOpenOver}
use Rattle.proof_in_time.specs.Plainly.{SpeakPlainly}

-- All lines were run whole; the devices are as their makers left them, and those of these nodes are plain, as are the orders for them. The stretch is for these
-- nodes, and the keeper does not fail in it. As it begins, nothing is on its way that would disturb it; the host knows that these
-- nodes listen, and has nothing else to do, or these are one node alone that sleeps
pub record IsStretchFor (these : List Bool) (keys : Keys) (devices : List State) (before lines : List Spoken) : Type 0 where
  pub many : length these ≡ 233
  pub none : is_marked these 0 ≡ false
  pub plain : ArePlainOver these devices (events_of (before ++ lines))
  pub done : AreDone (first_machine keys (Some []) devices) (before ++ lines)
  pub whole : AreWhole (first_machine keys (Some []) devices) (before ++ lines)
  pub kept : IsKeptFor these (transcript_of (after_all (first_machine keys (Some []) devices) before) lines)
  pub ready : IsReadyFor these (after_all (first_machine keys (Some []) devices) before)
  pub serves : AllServe these (after_all (first_machine keys (Some []) devices) before).host.state ⊎ SleepsAlone these (after_all (first_machine keys (Some []) devices) before)
  pub speak : SpeakPlainly these (after_all (first_machine keys (Some []) devices) before)

-- Or the stretch is for one node alone, whose messages may go in segments, and the orders for it go unsealed; as it begins, no attempt of it runs, and nothing is on its way that would disturb it
pub record IsOpenStretchFor (these : List Bool) (keys : Keys) (devices : List State) (before lines : List Spoken) : Type 0 where
  pub many : length these ≡ 233
  pub none : is_marked these 0 ≡ false
  pub over : (n : ℕ) → is_marked these n ≡ true → IsOpenOver devices (events_of (before ++ lines)) n
  pub done : AreDone (first_machine keys (Some []) devices) (before ++ lines)
  pub whole : AreWhole (first_machine keys (Some []) devices) (before ++ lines)
  pub kept : IsKeptFor these (transcript_of (after_all (first_machine keys (Some []) devices) before) lines)
  pub ready : IsReadyOpenly these (after_all (first_machine keys (Some []) devices) before)

-- Or it is for one node alone that is a lock as its maker left it, with the keys of the network; as it begins, no attempt of it runs, and nothing is on its way
pub record IsLockStretchFor (these : List Bool) (keys : Keys) (devices : List State) (before lines : List Spoken) : Type 0 where
  pub many : length these ≡ 233
  pub none : is_marked these 0 ≡ false
  pub over : (n : ℕ) → is_marked these n ≡ true → IsLockNode keys devices n
  pub done : AreDone (first_machine keys (Some []) devices) (before ++ lines)
  pub whole : AreWhole (first_machine keys (Some []) devices) (before ++ lines)
  pub kept : IsKeptFor these (transcript_of (after_all (first_machine keys (Some []) devices) before) lines)
  pub ready : IsReadyLocked these (after_all (first_machine keys (Some []) devices) before)

-- the host listens to a node, an attempt of which takes so many ticks at most: six where messages go whole, sealed or not, 23 where they may go in segments
pub data IsListeningFor (these : List Bool) (n : ℕ) (keys : Keys) (devices : List State) (before lines : List Spoken) (long : ℕ) : Type 0 where
  Whole_messages : IsStretchFor these keys devices before lines → (node_of (after_all (first_machine keys (Some []) devices) before).host.state n).listens ≡ true → long ≡ 6 → IsListeningFor these n keys devices before lines long
  In_segments : IsOpenStretchFor these keys devices before lines → long ≡ 23 → IsListeningFor these n keys devices before lines long
  Sealed_messages : IsLockStretchFor these keys devices before lines → long ≡ 6 → IsListeningFor these n keys devices before lines long
