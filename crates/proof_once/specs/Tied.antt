-- How the tables of a host and a device are tied, once all that was on its way between them has been judged (this project's own rule over the
-- Supervision Command Class): the device ended its sessions with some final statuses, the host was told a prefix of them, and each change made what
-- the command of its session asked for.
use Rattle.std.specs.Prelude.{◌≡◌, ℕ, ◌≤◌, true, List, [], length, Option, Some, None, IsSome}
use Rattle.std.specs.List.{AllByRecursion}
use Rattle.zw_base.specs.declared.property.Setting.{Setting}
use Rattle.supervision.specs.Host.{HostBook, begun_of, command_at as session_at}
use Rattle.proof_course.specs.SessionFacts.{AreTold}
use Rattle.device_kinds.specs.declared.change.Change.{Change}
use Rattle.proof_messages.specs.device_sim.State.{State}
use Rattle.proof_messages.specs.Ending.{HasEnded}
use Rattle.zw_text.specs.declared.entry.Outcome.{Outcome}
use Rattle.zw_text.specs.Transcript.{by_session}
use Rattle.proof_host.specs.law_transcript.Nodes.{device_of, is_supervised}
use Rattle.proof_host.specs.law_transcript.Once.{carried_by}
use Rattle.host_orders.specs.Settings.{settings}
use Rattle.host_keep.specs.Kept.{Taken}
use Rattle.host_keep.specs.Status.{status_byte}
use Rattle.host_keep.specs.declared.final_status.FinalStatus.{FinalStatus}
use Rattle.host_node.specs.TableState.{node_of}
use Rattle.proof_host.specs.host_model.State.{Command, HostState}
use Rattle.proof_host.specs.host_model.After.{outcome_of}
use Rattle.proof_host.specs.Tables.{outcome_in, taken_at}

-- ---- what the host was told

-- a status that ended a session, and what became of the session's command
pub record IsToldAs (status : ℕ) (outcome : Outcome) : Type 0 where
  pub final : FinalStatus
  pub status_is : status ≡ status_byte final
  pub outcome_is : outcome ≡ outcome_of final

-- so of each session of which the host was told
abbrev pub AreOutcomes : List Command → List ℕ → List ℕ → Type 0
AreOutcomes commands begun told =
    (session number status : ℕ) → session_at begun session ≡ Some number → session_at told session ≡ Some status → IsToldAs status (outcome_in commands number)

-- ---- what commands ask for

-- the settings of an order that was taken
abbrev pub settings_taken : Option Taken → List Setting
settings_taken None = []
settings_taken (Some taken) = settings taken.carriage.actuator taken.order

-- a change by a session has exactly the settings of the session's command
abbrev pub MakesWhatIsTaken : List Command → List ℕ → Change → Type 0
MakesWhatIsTaken commands begun change =
    AllByRecursion (λ number. change.settings ≡ settings_taken (taken_at commands number)) (carried_by begun (by_session change.by))

-- ---- as a host goes on

-- a number is that of a command that was taken
abbrev pub IsTaken : List Command → ℕ → Type 0
IsTaken commands number = IsSome (taken_at commands number)

-- a command that was taken stays so
abbrev pub KeepsOrders : List Command → List Command → Type 0
KeepsOrders old new = (number : ℕ) (taken : Taken) → taken_at old number ≡ Some taken → taken_at new number ≡ Some taken

-- ---- both ends

-- the device came to these final statuses, one for each session from the first, and the host was told those
pub record IsTied (commands : List Command) (book : HostBook) (device : State) (finals told : List ℕ) : Type 0 where
  pub ended : HasEnded device finals
  pub begun : length finals ≤ begun_of book
  pub told_are : AreTold book finals told
  pub outcomes : AreOutcomes commands book.commands told
  pub made : AllByRecursion (MakesWhatIsTaken commands book.commands) device.journal

-- so a host and the device of a node, with some statuses
pub record AreTied (h : HostState) (node : ℕ) (device : State) : Type 0 where
  pub finals : List ℕ
  pub told : List ℕ
  pub tied : IsTied h.commands (node_of h.nodes node).book device finals told

-- and each device that knows Supervision, where it is the first of its node
abbrev pub AllTied : HostState → List State → Type 0
AllTied h devices = (node : ℕ) (device : State) → device_of node devices ≡ Some device → is_supervised device ≡ true → AreTied h node device
