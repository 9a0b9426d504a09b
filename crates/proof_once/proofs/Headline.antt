-- The headline, of its parts.
use Rattle.std.proofs.Common.{◌≡◌, ℕ, ◌==◌, Bool, true, false, if◌then◌else◌, List, [], ◌∷◌, Option, Some, subst, arith}
use Rattle.std.specs.List.{AllByRecursion}
use Rattle.proof_messages.specs.device_sim.State.{State}
use Rattle.zw_text.specs.declared.entry.Entry.{Entry}
use Rattle.proof_host.specs.law_transcript.Headline.{Headline, HeadlineOf}
use Rattle.proof_host.specs.law_transcript.Nodes.{device_of, is_supervised, listing_of, always}
use Rattle.proof_host.specs.law_transcript.Once.{IsSupervisedChange, Once, SucceedsAfterChange}
use Rattle.proof_host.specs.law_transcript.Values.{ConfirmsLast}
use Rattle.host_node.specs.TableState.{node_of}
use Rattle.proof_host.specs.host_model.State.{HostState}
use Rattle.proof_host.specs.Facts.{Facts}
use Rattle.proof_host.specs.Laws.{HostLaws}
use Rattle.proof_once.specs.Tied.{AllTied, AreTied, IsTied}
use Rattle.proof_once.specs.ByTable.{ConfirmsByTable, IsTable, OnceByTable}
use Rattle.proof_once.specs.InSessions.{ChangesInSessions}

-- what holds of all devices of a list holds of the first of a node
device_by : (P : State → Type 0) (first : State) (more : List State) (device : State) (b : Bool) → P first → (device_or : Option State) → (device_or ≡ Some device → P device)
    → (if b then Some first else device_or) ≡ Some device → P device
device_by P first more device true here other next e = subst P (some_same e) here
  where
    some_same : Some first ≡ Some device → first ≡ device
    some_same e = cc
device_by P first more device false here other next e = next e

pub of_device : (P : State → Type 0) (node : ℕ) (devices : List State) (device : State) → AllByRecursion P devices → device_of node devices ≡ Some device → P device
of_device P node [] device all e = absurd (grind arith)
of_device P node (first ∷ more) device all e = device_by P first more device (first.node == node) all.0 (device_of node more) (of_device P node more device all.1) e

module _ (laws : (past : List Entry) (h : HostState) → Facts past h → HostLaws past)
    (once : (past : List Entry) (h : HostState) (node : ℕ) (device : State) (finals told : List ℕ) → Facts past h → IsTied h.commands (node_of h.nodes node).book device finals told
    → AllByRecursion IsSupervisedChange device.journal → OnceByTable h.commands node past device.journal)
    (confirms : (past : List Entry) (h : HostState) (node : ℕ) (device : State) (finals told : List ℕ) → Facts past h → IsTied h.commands (node_of h.nodes node).book device finals told
    → ConfirmsByTable node past h.store device)
    (once_so : (past : List Entry) (h : HostState) (listing : ℕ → List ℕ) (node : ℕ) (device : State) → IsTable (always listing) h.commands node past → OnceByTable h.commands node past device.journal
    → Once (always listing) node past device.journal)
    (confirms_so : (past : List Entry) (h : HostState) (listing : ℕ → List ℕ) (node : ℕ) (device : State) → Facts past h → IsTable (always listing) h.commands node past
    → ConfirmsByTable node past h.store device → ConfirmsLast (always listing) node past device) where
  pub headline_one : (past : List Entry) (h : HostState) (before : List State) (node : ℕ) (device : State) → Facts past h → AreTied h node device → is_supervised device ≡ true
      → ChangesInSessions device → IsTable (always (listing_of before)) h.commands node past → HeadlineOf (always (listing_of before)) node past device
  headline_one past h before node device facts one knows in_sessions table = record {
    once = once_so past h (listing_of before) node device table (once past h node device one.finals one.told facts one.tied (in_sessions knows));
    confirms = confirms_so past h (listing_of before) node device facts table (confirms past h node device one.finals one.told facts one.tied);
  }

  pub headline : (past : List Entry) (h : HostState) (before devices : List State) → Facts past h → SucceedsAfterChange past → AllTied h devices → AllByRecursion ChangesInSessions devices
      → ((node : ℕ) → IsTable (always (listing_of before)) h.commands node past) → Headline before devices past
  headline past h before devices facts succeeds tied in_sessions tables = record {
    sessions_keep = (laws past h facts).sessions_keep;
    succeeds = succeeds;
    devices = λ node device is knows.
        headline_one past h before node device facts (tied node device is knows) knows (of_device ChangesInSessions node devices device in_sessions is) (tables node);
  }
