-- Once only, of the commands accepted for a node, the sessions begun for it, their outcomes and the journal of its device:
-- no queue, timer, attempt or six-bit id occurs here (this project's own rule over the Supervision Command Class).
use Rattle.std.specs.Prelude.{◌≡◌, ◌≤◌, ℕ, List, [], length, ⊤}
use Rattle.std.specs.List.{flat_map, AllByRecursion}
use Rattle.zw_base.specs.declared.property.By.TheVariants.{Plain}
use Rattle.supervision.specs.Host.{command_at}
use Rattle.device_sim.specs.device_kinds.declared.change.Change.{Change}
use Rattle.zw_text.specs.declared.entry.Entry.{Entry}
use Rattle.zw_text.specs.declared.entry.Entry.TheVariants.{Out}
use Rattle.zw_text.specs.declared.entry.Ended.TheVariants.{Success as Succeeds}
use Rattle.zw_text.specs.declared.entry.Outcome.{Outcome}
use Rattle.zw_text.specs.declared.entry.Outcome.TheVariants.{Waiting, Success, Fail, NoSupport, Cancelled}
use Rattle.zw_text.specs.Transcript.{accepted, sessions, applied, outcome, by_session}
use Rattle.law_transcript.specs.Lists.{EachAfter, Has, Rises, listed}
use Rattle.law_transcript.specs.Commands.{numbers_of, settings_for}

-- an outcome of a command that its device has not carried out
abbrev pub IsUndone : Outcome → Type 0
IsUndone Fail = ⊤
IsUndone NoSupport = ⊤
IsUndone Cancelled = ⊤
IsUndone Waiting = ⊤
IsUndone _ = ⊥

-- the sessions by which changes were made, in order
abbrev pub sessions_by : List Change → List ℕ
sessions_by journal = flat_map (λ change. by_session change.by) journal

-- the commands that these sessions carry, where those of the node carry these
abbrev pub carried_by : List ℕ → List ℕ → List ℕ
carried_by begun numbers = flat_map (λ session. listed (command_at begun session)) numbers

-- the commands of a node that changed its device, in the order of the changes
abbrev pub commands_applied : ℕ → List Entry → List Change → List ℕ
commands_applied node transcript journal = carried_by (sessions node transcript) (sessions_by journal)

-- a change by a session makes what the session's command asks for
abbrev pub MakesWhatIsAsked : (List Entry → ℕ → List ℕ) → ℕ → List Entry → Change → Type 0
MakesWhatIsAsked listing node transcript change =
    AllByRecursion (λ number. change.settings ≡ settings_for listing transcript node number)
    (carried_by (sessions node transcript) (by_session change.by))

-- nothing was changed by a Set without Supervision
abbrev pub IsSupervisedChange : Change → Type 0
IsSupervisedChange change = change.by ≡ Plain → ⊥

-- a session of a node has begun
abbrev pub HasBegun : ℕ → List Entry → ℕ → Type 0
HasBegun node transcript session = (1 ≤ session) × (session ≤ length (sessions node transcript))

-- each change is by a session that has begun, at most one by each and in order, and has exactly the settings of the session's command; none was made
-- without a session
pub record ChangesOnce (listing : List Entry → ℕ → List ℕ) (node : ℕ) (transcript : List Entry) (journal : List Change) : Type 0 where
  pub sessions_rise : Rises (sessions_by journal)
  pub sessions_begun : AllByRecursion (HasBegun node transcript) (sessions_by journal)
  pub settings : AllByRecursion (MakesWhatIsAsked listing node transcript) journal
  pub never_plain : AllByRecursion IsSupervisedChange journal

-- the sessions of a node carry accepted commands, each at most once and in order
pub record CarriesOnce (node : ℕ) (transcript : List Entry) : Type 0 where
  pub commands_rise : Rises (sessions node transcript)
  pub commands_accepted : AllByRecursion (Has (numbers_of (accepted node transcript))) (sessions node transcript)

-- a command reported successful has changed the device; one that the device refused, was cancelled or still waits has not
pub record EndsTruly (node : ℕ) (transcript : List Entry) (journal : List Change) : Type 0 where
  pub successful : AllByRecursion (λ command. outcome command.number transcript ≡ Success →
      Has (commands_applied node transcript journal) command.number) (accepted node transcript)
  pub undone : AllByRecursion (λ command. IsUndone (outcome command.number transcript) →
      Has (commands_applied node transcript journal) command.number → ⊥) (accepted node transcript)

-- once only: of the changes, of the sessions and of the outcomes
pub record Once (listing : List Entry → ℕ → List ℕ) (node : ℕ) (transcript : List Entry) (journal : List Change) : Type 0 where
  pub changes : ChangesOnce listing node transcript journal
  pub carries : CarriesOnce node transcript
  pub ends : EndsTruly node transcript journal

-- the commands of a node that the transcript shows to have changed its device, in order
abbrev pub commands_shown : ℕ → List Entry → List ℕ
commands_shown node past = carried_by (sessions node past) (applied node past)

-- a command is shown to have changed the device of some node
pub record IsShownApplied (past : List Entry) (number : ℕ) : Type 0 where
  pub node : ℕ
  pub shown : Has (commands_shown node past) number

-- a command is reported successful only once its device is shown to have changed by it
abbrev pub MayEnd : List Entry → Entry → Type 0
MayEnd past (Out number Succeeds) = IsShownApplied past number
MayEnd past _ = ⊤

-- each success is reported after the change
abbrev pub SucceedsAfterChange : List Entry → Type 0
SucceedsAfterChange transcript = EachAfter MayEnd [] transcript
