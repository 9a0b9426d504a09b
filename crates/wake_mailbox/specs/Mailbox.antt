-- Commands that wait for a node until it wakes (Wake Up Command Class; the bound and the cancelling are this project's
-- own rule, and so is the hold).
use Rattle.std.specs.Prelude.{◌≡◌, ℕ, zero, suc, ◌-◌, Bool, true, false, List, [], ◌∷◌, ◌++◌, length, slice_get, take, Option, Contains}

-- the numbers of the commands that wait, first come first, whether the node counts as awake, and how many more ticks
-- it is held awake
pub record Waiting : Type 0 where
  pub commands : List ℕ
  pub awake : Bool
  pub hold : ℕ

-- nothing waits, and the node counts as asleep
abbrev pub nothing_waits : Waiting
nothing_waits = record { commands = []; awake = false; hold = 0 }

-- the mailbox with these commands
abbrev pub holding : Waiting → List ℕ → Waiting
holding mailbox commands = record mailbox { commands = commands }

-- the command is taken out where it stood, all others stay in their order
pub record TakesOut (old new : List ℕ) (command : ℕ) : Type 0 where
  pub before : List ℕ
  pub after : List ℕ
  pub stood : old ≡ before ++ command ∷ after
  pub stay : new ≡ before ++ after
  pub first : ¬ Contains before command

-- the command that was put last
abbrev pub last_of : List ℕ → Option ℕ
last_of commands = slice_get commands (length commands - 1)

-- the commands before it
abbrev pub without_last : List ℕ → List ℕ
without_last commands = take (length commands - 1) commands

-- what is left of a hold once the node counts as awake, or as asleep, which ends it
abbrev pub hold_after : Bool → ℕ → ℕ
hold_after true hold = hold
hold_after false hold = 0

-- the mailbox once the node counts as awake or asleep
abbrev pub counting : Waiting → Bool → Waiting
counting mailbox awake = record mailbox { awake = awake; hold = hold_after awake mailbox.hold }

-- the mailbox a tick later
abbrev pub ticked : Waiting → Waiting
ticked mailbox = record mailbox { hold = mailbox.hold - 1 }

-- the mailbox so many ticks later
abbrev pub ticked_by : ℕ → Waiting → Waiting
ticked_by zero mailbox = mailbox
ticked_by (suc count) mailbox = ticked_by count (ticked mailbox)
