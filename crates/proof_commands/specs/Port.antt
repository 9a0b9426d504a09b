-- What a run of `host` keeps true (this project's own): its story is the events of the host that its steps are, and the laws are of this story.
use Rattle.std.proofs.Common.{inl, inr}
use Rattle.std.specs.Prelude.{◌≡◌, ℕ, ◌⊎◌, true, false, List, [], ◌∷◌, ◌++◌, Option, Some, IsSome}
use Rattle.std.specs.List.{AllByRecursion}
use Rattle.zw_text.specs.Transcript.{outcome}
use Rattle.zw_text.specs.declared.entry.Entry.{Entry}
use Rattle.zw_text.specs.declared.entry.Outcome.TheVariants.{Success}
use Rattle.host_keep.specs.Keeping.{OptAdds, Shelf}
use Rattle.host_keep.specs.declared.record.Record.{Record}
use Rattle.s0_crypto.specs.declared.key_pair.Keys.{Keys}
use Rattle.run_all.specs.host_core.Network.{keys_of}
use Rattle.host_model.specs.State.{HostState, HostParts}
use Rattle.host_model.specs.Events.{HostEvent}
use Rattle.host_model.specs.Did.{Did, after_all, records_all, texts_of}
use Rattle.host_model.specs.declared.out.HostOut.{HostOut}
use Rattle.host_model.specs.Opening.{opened}
use Rattle.run_lines.specs.declared.status.Status.{Status}
use Rattle.proof_host.specs.Entries.{entries_all}
use Rattle.proof_host.specs.Facts.{AreShown}
use Rattle.proof_host.specs.Laws.{HostLaws}
use Rattle.proof_host.specs.Stores.{StoresLaw}
use Rattle.run_all.specs.port_run.declared.asking.Answer.{Answer}
use Rattle.run_all.specs.port_run.declared.asking.Answer.TheVariants.{Taken, Command, Refused}
use Rattle.run_all.specs.port_run.declared.stop.Stop.{Stop}
use Rattle.run_all.specs.port_run.declared.stop.Stop.TheVariants as stop
use Rattle.run_all.specs.port_run.declared.ending.Served.{Served}
use Rattle.run_all.specs.port_run.declared.ending.Served.TheVariants.{Ok, Undone, BadLine, Opening, ReadFault, WriteFault, InputTooLong, NoMemory}
use Rattle.run_all.specs.port_run.Steps.{Place, Step}
use Rattle.run_all.specs.port_run.Schedule.{Telling, is_quiet}
use Rattle.run_all.specs.port_run.Serving.{Halts}
use Rattle.run_all.specs.port_run.Ending.{Desk, Started, start_of, RanAll, RanSome, Ended, HostRan, IsUntouched, status_of}
use Rattle.host_model.specs.Recording.{AllOfJoined}
use Rattle.proof_replay.specs.HostSteps.{HaveHeard, HearsMore, Holds}
use Rattle.proof_commands.specs.Lives.{GoesOn, entries_of}

-- ---- stories

-- the records that the host started from, and the events of the host that the steps are
pub record Story : Type 0 where
  pub records : List Record
  pub events : List HostEvent

-- the host that it started from, and how it stands after the story
abbrev pub first : List ℕ → Story → HostState
first key story = opened (keys_of key) story.records

abbrev pub last : List ℕ → Story → HostState
last key story = after_all (first key story) story.events

-- what the host notes in it, with the answers to orders, after what it noted in its earlier lives
abbrev pub transcript : List ℕ → List (List HostEvent) → Story → List Entry
transcript key lives story = entries_of (keys_of key) lives ++ entries_all (first key story) story.events

-- ---- the story of a run

-- from the host that started to the one in the end these events happened, and put this out
pub record Does {keys : Keys} {number : ℕ} {texts : List (List ℕ)} {old : Desk} (started : Started keys number texts old) (last : HostParts) (shelf : Shelf) (outs : List HostOut)
    (story : Story) : Type 0 where
  pub records : started.opens.records ≡ story.records
  pub did : Did story.events started.host.state last.state [] outs started.shelf shelf

-- what the host put out at the steps of a run that stopped
abbrev pub outs_by : (reason : Stop) (steps : List Step) (old new : Place) (sink sink' : Option (List ℕ)) → Halts reason steps old new sink sink' → List HostOut
outs_by stop.ReadFault steps old new sink sink' halts = halts.outs
outs_by stop.InputTooLong steps old new sink sink' halts = halts.outs
outs_by stop.WriteFault steps old new sink sink' halts = halts.outs
outs_by stop.NoMemory steps old new sink sink' halts = halts.all

abbrev pub DoesAll : (end : Served) (Tells : Telling) (keys : Keys) (number : ℕ) (texts : List (List ℕ)) (old new : Desk) → RanAll end Tells keys number texts old new → Story → Type 0
DoesAll end Tells keys number texts old new ran story = Does ran.started ran.host new.shelf ran.went.wrote.outs story

abbrev pub DoesSome : (reason : Stop) (Tells : Telling) (keys : Keys) (number : ℕ) (texts : List (List ℕ)) (old new : Desk) → RanSome reason Tells keys number texts old new → Story → Type 0
DoesSome reason Tells keys number texts old new ran story =
    Does ran.started ran.host new.shelf
    (outs_by reason ran.broke.steps (start_of ran.started) (record { host = ran.host; shelf = new.shelf }) old.written new.written ran.broke.halts) story

-- All lines were run, or some of them, with this story. What is written is what the host put out in it, or a prefix of that.
abbrev pub ToldAll : Served → Telling → Keys → ℕ → List (List ℕ) → Desk → Desk → Story → Type 0
ToldAll end Tells keys number texts old new story = (ran : RanAll end Tells keys number texts old new) × DoesAll end Tells keys number texts old new ran story

abbrev pub ToldSome : Stop → Telling → Keys → ℕ → List (List ℕ) → Desk → Desk → Story → Type 0
ToldSome reason Tells keys number texts old new story = (ran : RanSome reason Tells keys number texts old new) × DoesSome reason Tells keys number texts old new ran story

-- a run that ended so has this story
abbrev pub IsStory : Served → Telling → Keys → ℕ → List (List ℕ) → Desk → Desk → Story → Type 0
IsStory Ok Tells keys number texts old new story = ToldAll Ok Tells keys number texts old new story
IsStory (Undone line) Tells keys number texts old new story = ToldAll (Undone line) Tells keys number texts old new story
IsStory (BadLine line fault) Tells keys number texts old new story = ⊥
IsStory (Opening fault) Tells keys number texts old new story = ⊥
IsStory ReadFault Tells keys number texts old new story = ToldSome stop.ReadFault Tells keys number texts old new story
IsStory WriteFault Tells keys number texts old new story = ToldSome stop.WriteFault Tells keys number texts old new story
IsStory InputTooLong Tells keys number texts old new story = ToldSome stop.InputTooLong Tells keys number texts old new story
IsStory NoMemory Tells keys number texts old new story = ToldSome stop.NoMemory Tells keys number texts old new story

-- the same of a run of `host` with this status
pub record Tells (ended : Status) (key : List ℕ) (number : ℕ) (texts : List (List ℕ)) (old new : Desk) (story : Story) : Type 0 where
  pub end : Served
  pub status_is : ended ≡ status_of end
  pub is : IsStory end is_quiet (keys_of key) number texts old new story

-- a run that did not start its host left all as it was; each other one is told
abbrev pub StillOr : Served → Type 0 → Type 0 → Type 0
StillOr (BadLine line fault) Still Told = Still
StillOr (Opening fault) Still Told = Still
StillOr NoMemory Still Told = Still ⊎ Told
StillOr end Still Told = Told

-- ---- what every story of a run keeps

-- a run that started its host has a story
abbrev pub HasStory : Status → List ℕ → ℕ → List (List ℕ) → Desk → Desk → Type 0
HasStory ended key number texts old new =
    (ran : HostRan ended key number texts old new) → StillOr ran.end (IsUntouched old new) ((story : Story) × Tells ended key number texts old new story)

-- a law of every story that a run has, after earlier lives whose records its keeper held as it began
abbrev pub Always : Status → List ℕ → ℕ → List (List ℕ) → Desk → Desk → (List (List HostEvent) → Story → Type 0) → Type 0
Always ended key number texts old new Law =
    (story : Story) (lives : List (List HostEvent)) → Tells ended key number texts old new story → GoesOn (keys_of key) number old.shelf.records lives → Law lives story

-- orders, sessions and outcomes keep their laws
abbrev pub KeepsOrders : Status → List ℕ → ℕ → List (List ℕ) → Desk → Desk → Type 0
KeepsOrders ended key number texts old new = Always ended key number texts old new (λ lives story. HostLaws (transcript key lives story))

-- the tables of the host in the end are what the transcript shows
abbrev pub ShowsTables : Status → List ℕ → ℕ → List (List ℕ) → Desk → Desk → Type 0
ShowsTables ended key number texts old new = Always ended key number texts old new (λ lives story. AreShown (transcript key lives story) (last key story))

-- a confirmed value is that of the last successful session that sets it
abbrev pub ConfirmsValues : Status → List ℕ → ℕ → List (List ℕ) → Desk → Desk → Type 0
ConfirmsValues ended key number texts old new = Always ended key number texts old new (λ lives story. StoresLaw (transcript key lives story) (last key story))

-- the transcript bears out an answer that is good: the order of that number is a success
abbrev pub IsBorneOut : List Entry → Answer → Type 0
IsBorneOut transcript Taken = Unit {0}
IsBorneOut transcript (Command number) = outcome number transcript ≡ Success
IsBorneOut transcript Refused = ⊥

-- where all lines were run and none was refused, the command of each order is a success
abbrev pub DoneIsSuccess : List ℕ → ℕ → List (List ℕ) → Desk → Desk → Type 0
DoneIsSuccess key number texts old new =
    (story : Story) (lives : List (List HostEvent)) (told : ToldAll Ok is_quiet (keys_of key) number texts old new story) → GoesOn (keys_of key) number old.shelf.records lives
    → AllByRecursion (IsBorneOut (transcript key lives story)) told.0.answers

-- A run that starts where this one ended goes on from one life more, where the keeper tells its records and each interview that ended well was of a
-- node that is joined.
abbrev pub LeavesALife : Status → List ℕ → ℕ → List (List ℕ) → Desk → Desk → Type 0
LeavesALife ended key number texts old new =
    Always ended key number texts old new
    (λ lives story. (many : ℕ) → IsSome new.shelf.records → AllOfJoined (first key story) story.events → GoesOn (keys_of key) many new.shelf.records (lives ++ story.events ∷ []))

-- the records at exit are those at entry and those of the story, where the keeper tells them
abbrev pub AddsRecords : Status → List ℕ → ℕ → List (List ℕ) → Desk → Desk → Type 0
AddsRecords ended key number texts old new =
    (story : Story) → Tells ended key number texts old new story → OptAdds old.shelf.records new.shelf.records (texts_of (records_all (first key story) story.events))

-- ---- what the host heard

-- where the steps of a run that stopped led: where there was no memory, some events of the next step may have come after
abbrev pub reached : (reason : Stop) (steps : List Step) (old new : Place) (sink sink' : Option (List ℕ)) → Halts reason steps old new sink sink' → Place
reached stop.ReadFault steps old new sink sink' halts = new
reached stop.InputTooLong steps old new sink sink' halts = new
reached stop.WriteFault steps old new sink sink' halts = new
reached stop.NoMemory steps old new sink sink' halts = halts.mid

-- All lines were run, or some, after hosts had heard this; and over what they have heard by now the laws of hosts hold.
abbrev pub HearsAll : (end : Served) (Tells : Telling) (keys : Keys) (number : ℕ) (texts : List (List ℕ)) (old new : Desk) → RanAll end Tells keys number texts old new → List Entry → ℕ → Type 0
HearsAll end Tells keys number texts old new ran past clock =
    HearsMore keys past clock true ran.steps (start_of ran.started) (record { host = ran.host; shelf = new.shelf })

abbrev pub HearsSome : (reason : Stop) (Tells : Telling) (keys : Keys) (number : ℕ) (texts : List (List ℕ)) (old new : Desk) → RanSome reason Tells keys number texts old new → List Entry → ℕ → Type 0
HearsSome reason Tells keys number texts old new ran past clock =
    HearsMore keys past clock false ran.broke.steps (start_of ran.started)
    (reached reason ran.broke.steps (start_of ran.started) (record { host = ran.host; shelf = new.shelf }) old.written new.written ran.broke.halts)

-- so it is of a run that ended so, where it started its host
abbrev pub HearsSo : (end : Served) (Tells : Telling) (keys : Keys) (number : ℕ) (texts : List (List ℕ)) (old new : Desk) → Ended end Tells keys number texts old new → List Entry → ℕ → Type 0
HearsSo Ok Tells keys number texts old new ran past clock = HearsAll Ok Tells keys number texts old new ran past clock
HearsSo (Undone line) Tells keys number texts old new ran past clock = HearsAll (Undone line) Tells keys number texts old new ran past clock
HearsSo (BadLine line fault) Tells keys number texts old new ran past clock = Unit {0}
HearsSo (Opening fault) Tells keys number texts old new ran past clock = Unit {0}
HearsSo ReadFault Tells keys number texts old new ran past clock = HearsSome stop.ReadFault Tells keys number texts old new ran past clock
HearsSo WriteFault Tells keys number texts old new ran past clock = HearsSome stop.WriteFault Tells keys number texts old new ran past clock
HearsSo InputTooLong Tells keys number texts old new ran past clock = HearsSome stop.InputTooLong Tells keys number texts old new ran past clock
HearsSo NoMemory Tells keys number texts old new (inl untouched) past clock = Unit {0}
HearsSo NoMemory Tells keys number texts old new (inr ran) past clock = HearsSome stop.NoMemory Tells keys number texts old new ran past clock

-- whatever came to the host, over what hosts have heard since the first run over this keeper the laws hold
abbrev pub HearsAlone : Status → List ℕ → ℕ → List (List ℕ) → Desk → Desk → Type 0
HearsAlone ended key number texts old new =
    (ran : HostRan ended key number texts old new) (past : List Entry) (before : HaveHeard (keys_of key) number old.shelf.records past)
    → HearsSo ran.end is_quiet (keys_of key) number texts old new ran.ended past before.clock

-- where the keeper holds nothing, no host has heard anything before
abbrev pub BeginsUnheard : List ℕ → ℕ → Desk → Type 0
BeginsUnheard key number old = Holds number old.shelf.records (Some []) → HaveHeard (keys_of key) number old.shelf.records []

-- What holds of every run of `host`, at every status.
pub record PortKeepsLaws (ended : Status) (key : List ℕ) (number : ℕ) (texts : List (List ℕ)) (old new : Desk) : Type 0 where
  pub story : HasStory ended key number texts old new
  pub orders : KeepsOrders ended key number texts old new
  pub tables : ShowsTables ended key number texts old new
  pub values : ConfirmsValues ended key number texts old new
  pub success : DoneIsSuccess key number texts old new
  pub next : LeavesALife ended key number texts old new
  pub adds : AddsRecords ended key number texts old new
  pub unheard : BeginsUnheard key number old
  pub heard : HearsAlone ended key number texts old new
