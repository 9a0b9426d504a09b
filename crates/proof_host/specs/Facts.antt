-- What holds of a host and of the transcript so far, after every event (this project's own), in families: what the entries show is
-- what the tables say, and the tables are in order. A host that starts again takes an unanswered command for a begun one; else its
-- tables are those of the host before it.
use Rattle.std.specs.Prelude.{◌≡◌, ℕ, List, [], ◌∷◌, ◌++◌, filter, length, Option, Some}
use Rattle.std.specs.List.{AllByRecursion}
use Rattle.zw_text.specs.declared.entry.Entry.{Entry}
use Rattle.zw_text.specs.declared.entry.Outcome.TheVariants.{Waiting}
use Rattle.zw_text.specs.Transcript.{accepted_numbers, sessions, outcome}
use Rattle.law_transcript.specs.Commands.{is_waiting}
use Rattle.law_transcript.specs.Lists.{EachAfter, Rises}
use Rattle.law_transcript.specs.Sessions.{IsFinal}
use Rattle.zw_base.specs.declared.property.Property.{Property}
use Rattle.value_store.specs.Values.{stored_of}
use Rattle.supervision.specs.Host.{open_session}
use Rattle.host_model.specs.host_node.State.{NodeState}
use Rattle.host_model.specs.host_node.TableState.{node_of}
use Rattle.host_model.specs.State.{HostState, Command, command_at}
use Rattle.host_model.specs.Sessions.{open_command}
use Rattle.host_model.specs.Events.{HostEvent}
use Rattle.host_model.specs.Did.{after_all, MayAll}
use Rattle.host_model.specs.Facts.{HostFacts}
use Rattle.proof_host.specs.Entries.{entries_all}
use Rattle.proof_host.specs.Tables.{outcome_in, nodes_by, recorded, taken_at}
use Rattle.proof_host.specs.Stores.{AreStored, AreConfirmed}
use Rattle.proof_host.specs.Laws.{accepted_for, numbers_for, waiting_for, IsUnderWay, MayStand}

-- ---- families

-- the orders that were accepted are the commands, each with its node
pub record AreAccepted (transcript : List Entry) (commands : List Command) : Type 0 where
  pub count : length (accepted_numbers transcript) ≡ length commands
  pub nodes : (number : ℕ) → accepted_for number transcript ≡ nodes_by (command_at commands number)

-- the sessions that began are those of the nodes
abbrev pub AreBegun : List Entry → List NodeState → Type 0
AreBegun transcript nodes = (node : ℕ) → sessions node transcript ≡ (node_of nodes node).book.commands

-- outcomes are those that were entered
abbrev pub AreEntered : List Entry → List Command → Type 0
AreEntered transcript commands = (number : ℕ) → recorded (outcome number transcript) ≡ recorded (outcome_in commands number)

-- the commands that wait for a node are those accepted for it that are waiting, in the order of their numbers
abbrev pub AreWaiting : List Entry → List Command → List NodeState → Type 0
AreWaiting transcript commands nodes =
    (node : ℕ) → (node_of nodes node).waiting ≡ filter (λ number. is_waiting (outcome_in commands number)) (numbers_for node transcript)

-- The commands of the sessions of a node and those that wait for it rise, in this order; those that wait are waiting, the one whose
-- session is open is under way, and those of the other sessions have final outcomes.
pub record AreInOrder (commands : List Command) (begun waiting : List ℕ) (opened : Option ℕ) : Type 0 where
  pub rise : Rises (begun ++ waiting)
  pub wait : AllByRecursion (λ number. outcome_in commands number ≡ Waiting) waiting
  pub ended : AllByRecursion (λ number. (opened ≡ Some number → ⊥) → IsFinal (outcome_in commands number)) begun
  pub under_way : (number : ℕ) → opened ≡ Some number → IsUnderWay (outcome_in commands number)

abbrev pub IsInOrder : List Command → NodeState → Type 0
IsInOrder commands state = AreInOrder commands state.book.commands state.waiting (open_command state)

-- the facts
pub record Facts (transcript : List Entry) (h : HostState) : Type 0 where
  pub host : HostFacts h
  pub accepted : AreAccepted transcript h.commands
  pub begun : AreBegun transcript h.nodes
  pub entered : AreEntered transcript h.commands
  pub waiting : AreWaiting transcript h.commands h.nodes
  pub in_order : (node : ℕ) → IsInOrder h.commands (node_of h.nodes node)
  pub stored : AreStored transcript h.commands
  pub confirmed : AreConfirmed h.commands h.nodes h.store
  pub stand : EachAfter MayStand [] transcript

-- ---- what follows

-- the tables of a host are what its transcript shows; of a command that is not answered, as it is recorded
pub record AreShown (transcript : List Entry) (h : HostState) : Type 0 where
  pub count : length h.commands ≡ length (accepted_numbers transcript)
  pub nodes : (number : ℕ) → nodes_by (command_at h.commands number) ≡ accepted_for number transcript
  pub outcomes : (number : ℕ) → recorded (outcome_in h.commands number) ≡ recorded (outcome number transcript)
  pub sessions_are : (node : ℕ) → (node_of h.nodes node).book.commands ≡ sessions node transcript
  pub waiting : (node : ℕ) → (node_of h.nodes node).waiting ≡ waiting_for node transcript

-- outcomes are those that were entered, whole: so it is until the host starts again
abbrev pub AreTold : List Entry → HostState → Type 0
AreTold transcript h = (number : ℕ) → outcome number transcript ≡ outcome_in h.commands number

-- ---- restarts

-- A host that starts from what another recorded: it has the orders, the commands that wait, the sessions and the confirmed values of the
-- other, and the outcomes as they were recorded.
pub record StartsAs (old new : HostState) : Type 0 where
  pub host : HostFacts new
  pub count : length new.commands ≡ length old.commands
  pub taken : (number : ℕ) → taken_at new.commands number ≡ taken_at old.commands number
  pub outcomes : (number : ℕ) → outcome_in new.commands number ≡ recorded (outcome_in old.commands number)
  pub begun : (node : ℕ) → (node_of new.nodes node).book.commands ≡ (node_of old.nodes node).book.commands
  pub opened : (node : ℕ) → open_session (node_of new.nodes node).book ≡ open_session (node_of old.nodes node).book
  pub waiting : (node : ℕ) → (node_of new.nodes node).waiting ≡ (node_of old.nodes node).waiting
  pub confirmed : (node : ℕ) (property : Property) → (stored_of new.store node property).confirmed ≡ (stored_of old.store node property).confirmed

-- events of a host, and the host that then starts from its records
pub record Run : Type 0 where
  pub events : List HostEvent
  pub next : HostState

-- runs from a host on, one after another
abbrev pub AreRuns : HostState → List Run → Type 0
AreRuns h [] = Unit {0}
AreRuns h (run ∷ more) = MayAll h run.events × StartsAs (after_all h run.events) run.next × AreRuns run.next more

-- their entries
abbrev pub entries_of_runs : HostState → List Run → List Entry
entries_of_runs h [] = []
entries_of_runs h (run ∷ more) = entries_all h run.events ++ entries_of_runs run.next more

-- the last host
abbrev pub last_of_runs : HostState → List Run → HostState
last_of_runs h [] = h
last_of_runs h (run ∷ more) = last_of_runs run.next more
