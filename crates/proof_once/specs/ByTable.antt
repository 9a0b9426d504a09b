-- Once only and the confirmed value, where what a command asks for is what the host's table of commands says (this project's own rule over the
-- Supervision Command Class).
use Rattle.std.specs.Prelude.{◌≡◌, ℕ, ◌≤◌, List, length, Some}
use Rattle.std.specs.List.{AllByRecursion}
use Rattle.zw_base.specs.declared.property.Property.{Property}
use Rattle.device_kinds.specs.declared.change.Change.{Change}
use Rattle.proof_messages.specs.device_stack.State.{State, value_of}
use Rattle.zw_text.specs.declared.entry.Entry.{Entry}
use Rattle.zw_text.specs.declared.entry.Outcome.TheVariants.{Success}
use Rattle.zw_text.specs.Transcript.{accepted, sessions, outcome}
use Rattle.proof_host.specs.law_transcript.Lists.{Has, Rises}
use Rattle.proof_host.specs.law_transcript.Commands.{numbers_of, settings_for}
use Rattle.proof_host.specs.law_transcript.Once.{IsUndone, IsSupervisedChange, commands_applied, sessions_by}
use Rattle.proof_host.specs.law_transcript.Values.{last_command}
use Rattle.value_store.specs.Values.{Values, stored_of}
use Rattle.proof_host.specs.host_model.State.{Command}
use Rattle.proof_host.specs.Laws.{numbers_for}
use Rattle.proof_host.specs.Tables.{taken_at}
use Rattle.proof_once.specs.Tied.{MakesWhatIsTaken, settings_taken}

-- the parts of once only: as in the laws of transcripts, of every command that was accepted for the node
pub record OnceByTable (commands : List Command) (node : ℕ) (transcript : List Entry) (journal : List Change) : Type 0 where
  -- each session changed the device at most once, in order, and was begun
  pub sessions_rise : Rises (sessions_by journal)
  pub sessions_begun : AllByRecursion (λ session. (1 ≤ session) × (session ≤ length (sessions node transcript))) (sessions_by journal)
  -- sessions carry accepted commands, each at most once, in order
  pub commands_rise : Rises (sessions node transcript)
  pub commands_accepted : AllByRecursion (Has (numbers_for node transcript)) (sessions node transcript)
  -- a change by a session has exactly the settings of its command
  pub settings : AllByRecursion (MakesWhatIsTaken commands (sessions node transcript)) journal
  -- a command reported successful has changed the device
  pub successful : AllByRecursion (λ number. outcome number transcript ≡ Success → Has (commands_applied node transcript journal) number) (numbers_for node transcript)
  -- a command that was refused by the device, was cancelled or still waits has not
  pub undone : AllByRecursion (λ number. IsUndone (outcome number transcript) → Has (commands_applied node transcript journal) number → ⊥) (numbers_for node transcript)
  -- no change was made without a session
  pub never_plain : AllByRecursion IsSupervisedChange journal

-- where the last change of a property comes from a command reported successful, the confirmed value is the device's
abbrev pub ConfirmsByTable : ℕ → List Entry → Values → State → Type 0
ConfirmsByTable node transcript store device =
    (property : Property)
    → AllByRecursion (λ number. outcome number transcript ≡ Success → (stored_of store node property).confirmed ≡ Some (value_of device property))
    (last_command (sessions node transcript) device.journal property)

-- the table is what the transcript shows of the orders of a node: each number that was accepted for it stands after its order, and asks for what
-- the table says
pub record IsTable (listing : List Entry → ℕ → List ℕ) (commands : List Command) (node : ℕ) (transcript : List Entry) : Type 0 where
  pub numbers : numbers_of (accepted node transcript) ≡ numbers_for node transcript
  pub settings : AllByRecursion (λ number. settings_for listing transcript node number ≡ settings_taken (taken_at commands number)) (numbers_for node transcript)
