-- A host that starts again in the middle of a run, where the course of its notes begins (this project's own rule): the run has gone through that restart, after exactly what stood before, from
-- these records.
use Rattle.std.specs.Prelude.{◌≡◌, ◌⊎◌, ℕ, Bool, List, Some, IfSome}
use Rattle.zw_text.specs.declared.entry.Entry.{Entry}
use Rattle.host_heard.specs.declared.told.Told.{Told}
use Rattle.host_keep.specs.Kept.{Kept, node_of}
use Rattle.law_transcript.specs.Units.{Carried}
use Rattle.proof_hearing.specs.proof_queue.proof_attempts.proof_requests.law_host.Nonces.{nonce_with}
use Rattle.proof_hearing.specs.proof_queue.proof_attempts.proof_requests.law_host.Notes.{Start}
use Rattle.proof_hearing.specs.proof_queue.proof_attempts.proof_requests.proof_alone.State.{HostMachine}
use Rattle.proof_hearing.specs.proof_queue.proof_attempts.proof_requests.proof_alone.Steps.{Step, Restarts}
use Rattle.proof_hearing.specs.proof_queue.proof_attempts.proof_requests.proof_alone.Phases.{Phase}
use Rattle.proof_hearing.specs.proof_queue.proof_attempts.proof_requests.proof_alone.Runs.{Run}
use Rattle.proof_hearing.specs.proof_queue.proof_attempts.proof_requests.proof_alone.Runs.Run.{Begins, Turned, Stepped}
use Rattle.proof_noting.specs.Steps.{NotesInFull}

-- the host starts again there, from what its keeper tells
abbrev pub StartsAt : (before : List Entry) (records : List (List ℕ)) → List Entry → HostMachine → Step → Type 0
StartsAt before records past m (Restarts state) = (past ≡ before) × (m.records ≡ Some records)
StartsAt before records past m step = ⊥

abbrev pub HasStarted : (before : List Entry) (records : List (List ℕ)) → {start : HostMachine} {here : Phase} {told : List Entry} {m : HostMachine} → Run start here told m → Type 0
HasStarted before records Begins = ⊥
HasStarted before records (Turned turns run) = HasStarted before records run
HasStarted before records (Stepped {told = told} {m = m} step may all_is later_is run) = StartsAt before records told m step ⊎ HasStarted before records run

-- the law of notes since the start, and that each nonce that was live in what was kept is the one of its number
pub record NotesFrom (key : List ℕ) (taken : List Entry → Carried → List Told) (from : Start) (kept : Kept) (whole : Bool) (heard : List Entry) : Type 0 where
  pub in_full : NotesInFull key taken from whole heard
  pub live : (node : ℕ) → IfSome (node_of kept node).live (λ nonce. nonce ≡ nonce_with in_full.notes.drawn node (node_of kept node).given)
