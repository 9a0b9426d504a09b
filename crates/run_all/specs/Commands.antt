-- What each command of the program does (this project's own rule).
use Rattle.std.specs.Prelude.{◌≡◌, ◌≤◌, ◌⊎◌, ℕ, Bool, List, drop, Option, Result, Ok, Err}
use Rattle.zw_base.specs.Faults.{Rose}
use Rattle.zw_text.specs.Line.{line_at, replay_at}
use Rattle.run_lines.specs.Complete.{HasGoodInput, IsDone}
use Rattle.run_lines.specs.declared.status.Status.{Status}
use Rattle.run_lines.specs.declared.status.Status.TheVariants as status
use Rattle.run_lines.specs.Lines.{fault_by}
use Rattle.run_words.specs.Asked.{AnswersWords}
use Rattle.run_words.specs.Valid.{AreWordsFor}
use Rattle.run_words.specs.declared.asked.Asked.{Asked}
use Rattle.run_words.specs.declared.asked.Asked.TheVariants.{Sim, Check, Generate, Replay, Events, Include, Host, Audit}
use Rattle.run_words.specs.declared.asked.WordsFault.{WordsFault}
use Rattle.run_words.specs.declared.asked.WordsFault.TheVariants.{Usage as no_command, NoMemory as no_words}
use Rattle.run_tools.specs.Check.{HasChecked, HasHex}
use Rattle.run_tools.specs.Events.{EventsRan, event_fault}
use Rattle.include_text.specs.Line.{line_at as include_at}
use Rattle.run_include.specs.Run.{IncludeRan}
use Rattle.run_replay.specs.Replay.{ReplayRan}
use Rattle.port_run.specs.Ending.{desk, HostRan, HasGoodPort, IsServed}
use Rattle.run_audit.specs.Audited.{HasAudited, IsInOrder}
use Rattle.run_sim.specs.Sim.{SimRan}
use Rattle.run_generate.specs.Generate.{GenerateRan}
use Rattle.run_all.specs.Around.{Around, shelf_in}

-- devices and keeper are as before
pub record LeavesDevices (old new : Around) : Type 0 where
  pub devices : new.devices ≡ old.devices
  pub kept : new.kept ≡ old.kept
  pub records : new.records ≡ old.records
  pub faults : new.keeper_faults ≡ old.keeper_faults
  pub reads : new.keeper_reads ≡ old.keeper_reads

-- nothing was read, done or written, and the status says why
pub record Refuses (why ended : Status) (old new : Around) : Type 0 where
  pub is : ended ≡ why
  pub unchanged : new ≡ old

-- `sim` ran so, with what it was given and what it leaves
abbrev pub RunsSim : Status → Bool → List ℕ → Around → Around → Type 0
RunsSim ended quiet key old new =
    SimRan ended quiet key old.left new.left old.devices new.devices (shelf_in old) (shelf_in new) old.kept new.kept old.keeper_reads new.keeper_reads
    old.written new.written

-- `generate` ran so, with what it was given and what it leaves
abbrev pub RunsGenerate : Status → ℕ → List ℕ → Around → Around → Type 0
RunsGenerate ended hundreds key old new =
    GenerateRan ended hundreds key old.devices new.devices (shelf_in old) (shelf_in new) old.written new.written

-- what was asked by these words is done, as the status says
unfoldable pub Does : Asked → List (List ℕ) → List ℕ → Status → Around → Around → Type 0
Does (Sim quiet) words key ended old new = RunsSim ended quiet key old new
Does (Check from) words key ended old new = HasChecked ended from old.left new.left old.written new.written × LeavesDevices old new
Does (Generate hundreds) words key ended old new =
    RunsGenerate ended hundreds key old new × (new.left ≡ old.left)
Does Replay words key ended old new =
    ReplayRan ended key old.left new.left (shelf_in old) (shelf_in new) old.written new.written × (new.devices ≡ old.devices)
Does Events words key ended old new = EventsRan ended old.left new.left old.written new.written × LeavesDevices old new
Does Include words key ended old new = IncludeRan ended key old.left new.left old.written new.written × LeavesDevices old new
Does Host words key ended old new =
    HostRan ended key old.kept (drop 1 words) (desk old.left old.written (shelf_in old)) (desk new.left new.written (shelf_in new))
    × (new.devices ≡ old.devices) × (ended ≡ status.KeeperFault → Rose old.keeper_faults new.keeper_faults)
Does Audit words key ended old new = HasAudited ended old.left new.left old.written new.written × LeavesDevices old new

-- the input is one that the command runs to its end; of `host`, its words too
unfoldable pub HasGoodInputFor : Asked → List (List ℕ) → Option (List ℕ) → Type 0
HasGoodInputFor (Sim quiet) words left = HasGoodInput (fault_by line_at) left
HasGoodInputFor (Check from) words left = HasHex left
HasGoodInputFor (Generate hundreds) words left = Unit {0}
HasGoodInputFor Replay words left = HasGoodInput (fault_by replay_at) left
HasGoodInputFor Events words left = HasGoodInput event_fault left
HasGoodInputFor Include words left = HasGoodInput (fault_by include_at) left
HasGoodInputFor Host words left = HasGoodPort (drop 1 words) left
HasGoodInputFor Audit words left = IsInOrder left

-- neither source nor sink failed
pub record HasNoFault (old new : Around) : Type 0 where
  pub read : Rose old.read_faults new.read_faults → ⊥
  pub written : Rose old.write_faults new.write_faults → ⊥

-- what such an input comes to: all is done; of `host`, where its keeper did not fail either, all words were run or no host could start
unfoldable pub ComesToItsEnd : Asked → Status → Around → Around → Type 0
ComesToItsEnd Host ended old new = (Rose old.keeper_faults new.keeper_faults → ⊥) → IsServed ended
ComesToItsEnd asked ended old new = IsDone ended

-- The command was run, and each status has its cause: no command ends as words that are invalid; a fault is told only where a count of
-- faults rose; and without one a good input is run to its end.
pub record Runs (asked : Asked) (words : List (List ℕ)) (key : List ℕ) (ended : Status) (old new : Around) : Type 0 where
  pub does : Does asked words key ended old new
  pub known : ended ≡ status.Usage → ⊥
  pub read_fault : ended ≡ status.ReadFault → Rose old.read_faults new.read_faults
  pub write_fault : ended ≡ status.WriteFault → Rose old.write_faults new.write_faults
  pub complete : HasGoodInputFor asked words old.left → HasNoFault old new → ComesToItsEnd asked ended old new
  pub source_never_falls : old.read_faults ≤ new.read_faults
  pub sink_never_falls : old.write_faults ≤ new.write_faults

-- what is asked is run; what is no command, or finds no memory, is refused
abbrev pub RunsAnswer : Result Asked WordsFault → List (List ℕ) → List ℕ → Status → Around → Around → Type 0
RunsAnswer (Ok asked) words key ended old new = Runs asked words key ended old new
RunsAnswer (Err no_command) words key ended old new = Refuses status.Usage ended old new
RunsAnswer (Err no_words) words key ended old new = Refuses status.NoMemory ended old new

-- The words ask for a command as its command line takes them, and that command is run. Words that name one are refused for want of
-- memory alone.
pub record RunsWords (words : List (List ℕ)) (key : List ℕ) (ended : Status) (old new : Around) : Type 0 where
  pub answer : Result Asked WordsFault
  pub asked : AnswersWords words answer
  pub runs : RunsAnswer answer words key ended old new
  pub named : (asked : Asked) → AreWordsFor asked words → Runs asked words key ended old new ⊎ Refuses status.NoMemory ended old new
