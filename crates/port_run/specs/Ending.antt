-- How a run of `host` ends, and why (this project's own rule).
use Rattle.std.specs.Prelude.{◌≡◌, ℕ, ◌+◌, ◌<◌, ◌≤◌, ◌⊎◌, Bool, true, false, List, [], length, take, slice_index_or, Option, Some, None, All}
use Rattle.run_lines.specs.declared.reader.TheConstants.{MAX_INPUT}
use Rattle.zw_text.specs.declared.entry.Outcome.{Outcome}
use Rattle.zw_text.specs.declared.entry.Outcome.TheVariants.{Success}
use Rattle.host_keep.specs.Keeping.{OptAdds, Shelf}
use Rattle.host_keep.specs.Legal.{IsFirstBad as IsFirstBadRecord}
use Rattle.host_model.specs.State.{HostState, HostParts, command_at}
use Rattle.s0_crypto.specs.declared.key_pair.Keys.{Keys}
use Rattle.host_core.specs.Network.{keys_of}
use Rattle.host_core.specs.Opening.{Opens}
use Rattle.host_core.specs.Orders.{outcome_at}
use Rattle.host_core.specs.declared.opening.OpenFault.{OpenFault}
use Rattle.host_core.specs.declared.opening.OpenFault.TheVariants.{KeeperFault as no_keeper, BadRecord as bad_record, NoMemory as unopened}
use Rattle.run_lines.specs.Run.{IsShort}
use Rattle.run_lines.specs.declared.status.Status.{Status}
use Rattle.run_lines.specs.declared.status.Status.TheVariants as status
use Rattle.port_run.specs.declared.asking.Answer.{Answer}
use Rattle.port_run.specs.declared.asking.Answer.TheVariants.{Taken, Command, Refused}
use Rattle.port_run.specs.declared.line.PortLine.{PortLine}
use Rattle.port_run.specs.declared.line.LinesFault.{LinesFault}
use Rattle.port_run.specs.declared.line.LinesFault.TheVariants.{Bad as bad_lines, NoMemory as no_lines}
use Rattle.port_run.specs.declared.stop.Stop.{Stop}
use Rattle.port_run.specs.declared.stop.Stop.TheVariants as stop
use Rattle.port_run.specs.declared.ending.Served.{Served}
use Rattle.port_run.specs.declared.ending.Served.TheVariants.{Ok, Undone, BadLine, Opening, ReadFault, WriteFault, InputTooLong, NoMemory}
use Rattle.port_run.specs.Lines.{AreRead, AreLines, IsFirstBad}
use Rattle.port_run.specs.Steps.{Place, Step}
use Rattle.port_run.specs.Schedule.{Telling, is_quiet, RunSteps, CutRun}
use Rattle.port_run.specs.Serving.{Went, Broke}

-- ---- commands

abbrev pub is_success : Option Outcome → Bool
is_success (Some Success) = true
is_success _ = false

-- an answer is done for good: nothing was refused, and the command is a success
abbrev pub is_done : HostState → Answer → Bool
is_done h Taken = true
is_done h (Command number) = is_success (outcome_at (command_at h.commands number))
is_done h Refused = false

-- all of them are
abbrev pub AreDone : HostState → List Answer → Type 0
AreDone h answers = All (λ answer. is_done h answer ≡ true) answers

-- the one of that number, from 1, is the first that is not
pub record IsFirstUndone (h : HostState) (answers : List Answer) (number : ℕ) : Type 0 where
  pub at : ℕ
  pub number_is : number ≡ at + 1
  pub within : at < length answers
  pub before : AreDone h (take at answers)
  pub undone : is_done h (slice_index_or answers at Taken) ≡ false

-- what the answers are, where all lines were run
abbrev pub JudgedBy : Served → HostState → List Answer → Type 0
JudgedBy Ok h answers = AreDone h answers
JudgedBy (Undone number) h answers = IsFirstUndone h answers number
JudgedBy _ h answers = ⊥

-- ---- ends

-- what a run has at hand: what the source has left, what the sink has written, and what the keeper holds and how often it failed
pub record Desk : Type 0 where
  pub left : Option (List ℕ)
  pub written : Option (List ℕ)
  pub shelf : Shelf

abbrev pub desk : Option (List ℕ) → Option (List ℕ) → Shelf → Desk
desk left written shelf = record { left = left; written = written; shelf = shelf }

-- no line was run: nothing was read and written, and no record was added
pub record IsUntouched (old new : Desk) : Type 0 where
  pub left : new.left ≡ old.left
  pub written : new.written ≡ old.written
  pub records : OptAdds old.shelf.records new.shelf.records []
  pub never_falls : old.shelf.faults ≤ new.shelf.faults

-- the texts are lines, and a host started from the records, which are so many
pub record Started (keys : Keys) (number : ℕ) (texts : List (List ℕ)) (old : Desk) : Type 0 where
  pub lines : List PortLine
  pub read : AreRead texts lines
  pub host : HostParts
  pub opens : Opens keys number old.shelf.records host
  -- what the keeper told once it was read
  pub shelf : Shelf
  pub records : OptAdds old.shelf.records shelf.records []
  pub never_falls : old.shelf.faults ≤ shelf.faults

-- where the host stood as it started
abbrev pub start_of : {keys : Keys} {number : ℕ} {texts : List (List ℕ)} {old : Desk} → Started keys number texts old → Place
start_of started = record { host = started.host; shelf = started.shelf }

-- all lines were run, and their answers are judged so at the end
pub record RanAll (end : Served) (Tells : Telling) (keys : Keys) (number : ℕ) (texts : List (List ℕ)) (old new : Desk) : Type 0 where
  pub started : Started keys number texts old
  pub host : HostParts
  pub answers : List Answer
  pub steps : List Step
  pub are : RunSteps Tells started.lines answers steps
  pub taken : ℕ
  pub went : Went steps (start_of started) (record { host = host; shelf = new.shelf }) old.written new.written old.left new.left 0 taken
  pub within : taken ≤ MAX_INPUT
  pub judged : JudgedBy end host.state answers

-- the lines were run up to where no further step was done
pub record RanSome (reason : Stop) (Tells : Telling) (keys : Keys) (number : ℕ) (texts : List (List ℕ)) (old new : Desk) : Type 0 where
  pub started : Started keys number texts old
  pub host : HostParts
  pub broke : Broke (CutRun Tells started.lines) reason (start_of started) (record { host = host; shelf = new.shelf }) old.written new.written old.left new.left 0

-- the record at that place is the first that no host could have kept there
abbrev pub HasBadRecord : ℕ → Option (List (List ℕ)) → ℕ → Type 0
HasBadRecord number None at = at < number
HasBadRecord number (Some records) at = IsFirstBadRecord records at × (at < number)

-- why no host started: the lines are good
abbrev pub Unopened : OpenFault → ℕ → List (List ℕ) → Desk → Type 0
Unopened no_keeper number texts old = AreLines texts
Unopened (bad_record at) number texts old = AreLines texts × HasBadRecord number old.shelf.records at
Unopened unopened number texts old = ⊥

-- how a run ends, and why
abbrev pub Ended : Served → Telling → Keys → ℕ → List (List ℕ) → Desk → Desk → Type 0
Ended Ok Tells keys number texts old new = RanAll Ok Tells keys number texts old new
Ended (Undone line) Tells keys number texts old new = RanAll (Undone line) Tells keys number texts old new
Ended (BadLine line fault) Tells keys number texts old new = IsFirstBad texts line fault × IsUntouched old new
Ended (Opening fault) Tells keys number texts old new = Unopened fault number texts old × IsUntouched old new
Ended ReadFault Tells keys number texts old new = RanSome stop.ReadFault Tells keys number texts old new
Ended WriteFault Tells keys number texts old new = RanSome stop.WriteFault Tells keys number texts old new
Ended InputTooLong Tells keys number texts old new = RanSome stop.InputTooLong Tells keys number texts old new
Ended NoMemory Tells keys number texts old new = IsUntouched old new ⊎ RanSome stop.NoMemory Tells keys number texts old new

-- an end for words that are not lines
abbrev pub unread_of : LinesFault → Served
unread_of (bad_lines line fault) = BadLine line fault
unread_of no_lines = NoMemory

-- an end for want of a further step
abbrev pub served_of : Stop → Served
served_of stop.ReadFault = ReadFault
served_of stop.WriteFault = WriteFault
served_of stop.InputTooLong = InputTooLong
served_of stop.NoMemory = NoMemory

-- ---- statuses

abbrev pub opening_status : OpenFault → Status
opening_status no_keeper = status.KeeperFault
opening_status (bad_record at) = status.BadRecord at
opening_status unopened = status.NoMemory

-- the status of an end
abbrev pub status_of : Served → Status
status_of Ok = status.Ok
status_of (Undone number) = status.Undone number
status_of (BadLine number fault) = status.BadLine number fault
status_of (Opening fault) = opening_status fault
status_of ReadFault = status.ReadFault
status_of WriteFault = status.WriteFault
status_of InputTooLong = status.InputTooLong
status_of NoMemory = status.NoMemory

-- `host` ended so, with the network's key, a keeper of so many records, and a clock that takes a quiet moment for a tick
pub record HostRan (status : Status) (key : List ℕ) (number : ℕ) (texts : List (List ℕ)) (old new : Desk) : Type 0 where
  pub end : Served
  pub status_is : status ≡ status_of end
  pub ended : Ended end is_quiet (keys_of key) number texts old new

-- ---- runs that come to their end

-- the texts are lines, and the source has no more than may be read; nothing is said where it does not tell it
abbrev pub HasGoodPort : List (List ℕ) → Option (List ℕ) → Type 0
HasGoodPort texts None = ⊥
HasGoodPort texts (Some input) = AreLines texts × IsShort input

-- all lines were run, or no host could start from the records; or there was no memory
abbrev pub IsServed : Status → Type 0
IsServed status.Ok = Unit {0}
IsServed (status.Undone line) = Unit {0}
IsServed (status.BadRecord at) = Unit {0}
IsServed status.NoMemory = Unit {0}
IsServed _ = ⊥
