-- What a run of `sim` or `generate` keeps true (this project's own): its story is the lines that were run, each with the events of the machine that it
-- was, and the laws are of this story.
use Rattle.std.specs.Prelude.{◌≡◌, ◌⊎◌, ℕ, Bool, true, List, [], ◌∷◌, ◌++◌, map, Option, Some, None, Ok}
use Rattle.std.specs.List.{AllByRecursion, list_any}
use Rattle.zw_text.specs.Line.{line_at}
use Rattle.zw_text.specs.declared.line.Line.{Line}
use Rattle.zw_text.specs.declared.entry.Entry.{Entry}
use Rattle.zw_text.specs.declared.entry.Entry.TheVariants.{Said}
use Rattle.run_all.specs.host_core.Network.{keys_of}
use Rattle.world_model.specs.State.{Machine, first_machine}
use Rattle.world_model.specs.Events.{Event}
use Rattle.outside_model.specs.Events.{OuterEvent}
use Rattle.world_model.specs.Did.{happens_all, entries_all, MayAll, last_of, IsOfHost}
use Rattle.world_model.specs.Lines.{IsLine}
use Rattle.world_model.specs.Prefixes.{IsLineBefore}
use Rattle.run_lines.specs.Pieces.{said_text}
use Rattle.run_lines.specs.Lines.{TextLine}
use Rattle.proof_host.specs.Facts.{AreShown}
use Rattle.proof_host.specs.Laws.{HostLaws}
use Rattle.proof_host.specs.Stores.{StoresLaw}
use Rattle.device_sim.specs.State.{State}
use Rattle.proof_device.specs.GoingOn.{AreInOrder, AreSame, TakeOnce}
use Rattle.proof_device.specs.Showing.{AreApart, IsShown}
use Rattle.law_transcript.specs.Answers.{AnswersLines, CancelsWhenAsked, ReadsItsRecords}
use Rattle.law_transcript.specs.Carrying.{BringsWhatWasHeard, CarriesUnits}
use Rattle.law_transcript.specs.Fates.{FaresInTurn, LosesMarked, NumbersFrames}
use Rattle.law_transcript.specs.Lists.{EachAfter}
use Rattle.law_transcript.specs.Headline.{Headline, HeadlineOf, IsAsMade}
use Rattle.law_transcript.specs.Nodes.{device_of, first_node, is_supervised, listing_of, always}
use Rattle.law_transcript.specs.Payloads.{BeginsWithUnit, SendsWhatIsDue}
use Rattle.law_transcript.specs.Restarts.{is_restart}
use Rattle.law_transcript.specs.Stores.{StoresConfirmed}
use Rattle.law_wire.specs.Clearing.{ClearsLine}
use Rattle.law_wire.specs.Links.{KeepsLinks}
use Rattle.law_wire.specs.Marks.{CollidesWhenAsked, MarksUnits}
use Rattle.law_wire.specs.Arriving.{ForgetsDeadHops, LandsInTime, MeetsWhatIsDue, RepeatsWhatIsAsked}
use Rattle.law_wire.specs.Doings.{DoneByDevices}
use Rattle.law_wire.specs.Pipes.{OverrunsWhenFull}
use Rattle.law_wire.specs.Serial.{ended}
use Rattle.law_host.specs.Legal.{DevicesDid, IsLegal, IsLegalOnAir, IsLegalOnLine}
use Rattle.law_wire.specs.Routes.{GoesByRoute}
use Rattle.law_wire.specs.Shown.{ShowsDevices}
use Rattle.law_wire.specs.Times.{TellsTime}
use Rattle.law_time.specs.Choice.{NumbersCallbacks, SendsOneByOne}
use Rattle.law_time.specs.Errands.{SaysHowDone}
use Rattle.law_time.specs.Interviews.{EndsInterviews}
use Rattle.law_time.specs.Questions.{AnswersQuestions}
use Rattle.law_time.specs.Stretches.{AnswersAlone, AnswersAsleep, AnswersTogether, EndsAsJudged}
use Rattle.proof_ready.specs.Each.{AnswersEach}
use Rattle.law_time.specs.Holds.{HoldsAsAsked}
use Rattle.law_time.specs.Waking.{FallsAsleep, WakesAsTold}
use Rattle.law_host.specs.Heard.{heard_by_host}
use Rattle.law_host.specs.HostLegal.{IsLegalAlone, ShowsValues}
use Rattle.law_host.specs.Notes.{first_start}
use Rattle.proof_answers.specs.Answered.{AnswersByLink}
use Rattle.proof_replay.specs.Laws.{HostsKeepLaws}
use Rattle.proof_replay.specs.proof_notes_Full.{NotesInFull}
use Rattle.proof_replay.specs.proof_notes_Unkept.{UnkeptWhereAsked}
use Rattle.proof_replay.specs.proof_ends_Ends.{NotesOfEnds}
use Rattle.proof_replay.specs.proof_nonces_Giving.{CountsNonces}
use Rattle.proof_replay.specs.proof_nonces_Sealing.{SealsOnce}
use Rattle.proof_replay.specs.proof_rests_Undone.{LeavesNothing}
use Rattle.proof_replay.specs.proof_sending.Line.{ClearsAtRestarts, ClearsNowhereElse, OverrunsOnlyWhenFull}
use Rattle.proof_audit.specs.Transcript.{IsNoRepeat, HasRecords}
use Rattle.proof_answers.specs.proof_chip.proof_world.Devices.{GroupsSessions}
use Rattle.proof_answers.specs.proof_chip.proof_world.Restarts.{AllKeepWell, BeginsEmpty}
use Rattle.proof_audit.specs.Headline.{SucceedsAfterChangeOf, IsSupervisedNode}
use Rattle.run_all.specs.Around.{Around}

-- ---- stories

-- a line, and the events of the machine that it was
pub record Ran : Type 0 where
  pub line : TextLine Line
  pub events : List Event

-- a line, and the text that was read as it
abbrev pub IsReadAs : TextLine Line → Type 0
IsReadAs one = line_at one.text ≡ Ok (Some one.line)

-- the events of a story, one after another
abbrev pub events_of : List Ran → List Event
events_of [] = []
events_of (ran ∷ more) = ran.events ++ events_of more

-- its lines, as they were read
abbrev pub lines_of : List Ran → List (TextLine Line)
lines_of story = map (λ (ran : Ran). ran.line) story

-- its entries from a machine on: the words of each line, and then the entries of its events
abbrev pub transcript_from : Machine → List Ran → List Entry
transcript_from m [] = []
transcript_from m (ran ∷ more) = Said (said_text ran.line.text) ∷ (entries_all m ran.events ++ transcript_from (happens_all m ran.events) more)

-- the events of each line are its schedule
abbrev pub AreSchedules : Machine → List Ran → Type 0
AreSchedules m [] = Unit {0}
AreSchedules m (ran ∷ more) = IsLine ran.line.line m ran.events × AreSchedules (happens_all m ran.events) more

-- the same, but that an allocation failure may have cut the last line short: then they are a prefix of it
abbrev pub AreBegun : Machine → List Ran → Type 0
AreBegun m [] = Unit {0}
AreBegun m (ran ∷ more) = IsLineBefore more ran.line.line m ran.events × AreBegun (happens_all m ran.events) more

-- ---- what was done and not entered

-- the story with one event more of its last line, where there is one
abbrev pub with_last : Option OuterEvent → List Ran → List Ran
with_last last [] = []
with_last last (ran ∷ []) = record { line = ran.line; events = ran.events ++ last_of last } ∷ []
with_last last (ran ∷ (next ∷ more)) = ran ∷ with_last last (next ∷ more)

-- After the story one event outside the host may have moved its device, as its last line would go on, and then the host may have done what was kept.
pub record IsUnentered (m : Machine) (story : List Ran) (events : List Event) : Type 0 where
  pub last : Option OuterEvent
  pub kept : List Event
  pub are : events ≡ last_of last ++ kept
  pub adds : events_of (with_last last story) ≡ events_of story ++ last_of last
  pub moved : AreBegun m (with_last last story)
  pub of_host : AllByRecursion IsOfHost kept

-- ---- the story of a run

-- the machine at the beginning of a run, with the devices and the keeper that the program was given
abbrev pub first : List ℕ → Around → Machine
first key old = first_machine (keys_of key) old.records old.devices

-- the machine after a story
abbrev pub last : List ℕ → Around → List Ran → Machine
last key old story = happens_all (first key old) (events_of story)

-- and after what was not entered
abbrev pub end : List ℕ → Around → List Ran → List Event → Machine
end key old story unentered = happens_all (first key old) (events_of story ++ unentered)

-- the transcript of a story
abbrev pub transcript : List ℕ → Around → List Ran → List Entry
transcript key old story = transcript_from (first key old) story

-- The machine came by this story from what a command was given to what it leaves, and then did what was not entered: each line was read from its text and was
-- run whole, the last one perhaps in part; all this may happen, one event after another; and the devices and the records are those after it.
pub record IsStory (key : List ℕ) (old new : Around) (story : List Ran) (unentered : List Event) : Type 0 where
  pub read : AllByRecursion IsReadAs (lines_of story)
  pub begun : AreBegun (first key old) story
  pub may : MayAll (first key old) (events_of story ++ unentered)
  pub rest : IsUnentered (first key old) story unentered
  pub devices : new.devices ≡ (end key old story unentered).outside.devices
  pub records : new.records ≡ (end key old story unentered).records

-- ---- what the laws assume

-- whether a line of the story is `restart`
abbrev pub has_restart : List Ran → Bool
has_restart story = list_any (λ (one : TextLine Line). is_restart (one.line ∷ [])) (lines_of story)

-- The keeper is new: it tells its records and had none at first, where a line is `restart`. Where none is, nothing is asked of the keeper.
abbrev pub TellsAtRestarts : Around → List Ran → Type 0
TellsAtRestarts old story = has_restart story ≡ true → old.records ≡ Some []

-- The keeper tells its records, where a line is `restart`: it may have had some.
abbrev pub TellsItsRecords : Around → List Ran → Type 0
TellsItsRecords old story = has_restart story ≡ true → (texts : List (List ℕ)) × (old.records ≡ Some texts)

-- Where a line is `restart`, the keeper began without records; it tells them where a host starts from them; and an interview that ends well is of a node that
-- is joined.
pub record KeepsRecords (key : List ℕ) (old : Around) (story : List Ran) : Type 0 where
  pub empty : has_restart story ≡ true → BeginsEmpty old.records
  pub well : AllKeepWell (first key old) (events_of story)

-- What the headline assumes of a run: the keeper is new, and the devices are as their makers left them. Where several are of one node, the first of
-- them is the device of that node.
pub record IsFairRun (key : List ℕ) (old : Around) (story : List Ran) : Type 0 where
  pub told : TellsAtRestarts old story
  pub made : AllByRecursion (IsAsMade key) old.devices

-- and no two of them are of one node
pub record IsFairWorld (key : List ℕ) (old : Around) (story : List Ran) : Type 0 where
  pub run : IsFairRun key old story
  pub apart : AreApart old.devices

-- ---- what every story keeps

-- a law of every story from what a command was given to what it leaves, and of what was not entered after it
abbrev pub Always : List ℕ → Around → Around → (List Ran → List Event → Type 0) → Type 0
Always key old new Law = (story : List Ran) (unentered : List Event) → IsStory key old new story unentered → Law story unentered

-- the same of the story alone
abbrev pub AlwaysOf : List ℕ → Around → Around → (List Ran → Type 0) → Type 0
AlwaysOf key old new Law = Always key old new (λ story unentered. Law story)

-- over a new keeper the laws that follow have what they assume
abbrev pub KeepsWell : List ℕ → Around → Around → Type 0
KeepsWell key old new = AlwaysOf key old new (λ story. TellsAtRestarts old story → KeepsRecords key old story)

-- orders, sessions and outcomes keep their laws
abbrev pub KeepsOrders : List ℕ → Around → Around → Type 0
KeepsOrders key old new = AlwaysOf key old new (λ story. KeepsRecords key old story → HostLaws (transcript key old story))

-- the tables of the host are what the transcript shows
abbrev pub ShowsTables : List ℕ → Around → Around → Type 0
ShowsTables key old new = AlwaysOf key old new (λ story. KeepsRecords key old story → AreShown (transcript key old story) (last key old story).host.state)

-- a confirmed value is that of the last successful session that sets it
abbrev pub ConfirmsValues : List ℕ → Around → Around → Type 0
ConfirmsValues key old new = AlwaysOf key old new (λ story. KeepsRecords key old story → StoresLaw (transcript key old story) (last key old story).host.state)

-- a command is taken back only where a line asks for it and it waits
abbrev pub TakesBackWhenAsked : List ℕ → Around → Around → Type 0
TakesBackWhenAsked key old new = AlwaysOf key old new (λ story. KeepsRecords key old story → CancelsWhenAsked (transcript key old story))

-- the values entered as confirmed are all those that the successful commands ask for, in order, each after its success
abbrev pub StoresValues : List ℕ → Around → Around → Type 0
StoresValues key old new = AlwaysOf key old new (λ story. TellsAtRestarts old story → StoresConfirmed true (always (listing_of old.devices)) (transcript key old story))

-- directly after a session that begins stands its unit
abbrev pub WritesSessions : List ℕ → Around → Around → Type 0
WritesSessions key old new = AlwaysOf key old new (λ story. KeepsRecords key old story → BeginsWithUnit (transcript key old story))

-- Over a new keeper each line has the one answer that the transcript before it demands, and no answer stands elsewhere; the last line too, where it was run
-- whole.
abbrev pub AnswersAsDue : List ℕ → Around → Around → Type 0
AnswersAsDue key old new = AlwaysOf key old new
    (λ story. TellsAtRestarts old story → (whole : Bool) → (whole ≡ true → AreSchedules (first key old) story) → AnswersLines whole old.devices (transcript key old story))

-- and no restart meets an invalid record
abbrev pub ReadsWhatItKept : List ℕ → Around → Around → Type 0
ReadsWhatItKept key old new = AlwaysOf key old new (λ story. TellsAtRestarts old story → ReadsItsRecords (transcript key old story))

-- Over a new keeper, directly after a `show` stand the values of the device of its node, as the changes entered so far leave it, where no two devices are of one node, and
-- directly after a `store` those of its node; and neither elsewhere. In the end of a story that was run whole none is still to stand.
abbrev pub ShowsKeptDevices : List ℕ → Around → Around → Type 0
ShowsKeptDevices key old new = AlwaysOf key old new
    (λ story. TellsAtRestarts old story → AreApart old.devices → (whole : Bool) → (whole ≡ true → AreSchedules (first key old) story)
    → ShowsDevices old.devices (ended whole (transcript key old story)))

abbrev pub ShowsStoredValues : List ℕ → Around → Around → Type 0
ShowsStoredValues key old new = AlwaysOf key old new
    (λ story. TellsAtRestarts old story → (whole : Bool) → (whole ≡ true → AreSchedules (first key old) story)
    → EachAfter (ShowsValues (always (listing_of old.devices))) [] (ended whole (transcript key old story)))

-- Where every line was run whole and all that was done is entered, over a keeper that tells its records and had none at first: the records at exit are legal, and
-- give exactly what the transcript shows.
abbrev pub KeepsWhatIsShown : List ℕ → Around → Around → Type 0
KeepsWhatIsShown key old new = Always key old new
    (λ story unentered. AreSchedules (first key old) story → unentered ≡ [] → old.records ≡ Some [] → HasRecords (transcript key old story) new.records)

-- each device changes at most once by each session, in their order
abbrev pub AppliesOnce : List ℕ → Around → Around → Type 0
AppliesOnce key old new = AlwaysOf key old new (λ story. AreInOrder old.devices → TakeOnce new.devices)

-- each device keeps its node, its kind and its key
abbrev pub KeepsDevices : List ℕ → Around → Around → Type 0
KeepsDevices key old new = AlwaysOf key old new (λ story. AreSame old.devices new.devices)

-- of devices as their makers left them, one a node, the transcript shows every change, with what was not entered
abbrev pub ShowsChanges : List ℕ → Around → Around → Type 0
ShowsChanges key old new = Always key old new
    (λ story unentered. AllByRecursion (IsAsMade key) old.devices → AreApart old.devices →
    AllByRecursion (IsShown (transcript key old story ++ entries_all (last key old story) unentered)) new.devices)

-- and those of one session stand together
abbrev pub GroupsChanges : List ℕ → Around → Around → Type 0
GroupsChanges key old new = Always key old new
    (λ story unentered. AllByRecursion (IsAsMade key) old.devices → AreApart old.devices →
    AllByRecursion (GroupsSessions (transcript key old story ++ entries_all (last key old story) unentered)) new.devices)

-- ---- the air

-- frames that go on the air are numbered, and the controller is one end of each
abbrev pub NumbersAir : List ℕ → Around → Around → Type 0
NumbersAir key old new = AlwaysOf key old new (λ story. NumbersFrames (transcript key old story))

-- a frame consumed by a pending `lose` is never recorded as `heard` on arrival or as `unheard`
abbrev pub LosesFrames : List ℕ → Around → Around → Type 0
LosesFrames key old new = AlwaysOf key old new (λ story. LosesMarked (transcript key old story))

-- Each frame that is on the air when a tick begins has one fate in it, in order of numbers, and what is heard besides answers a line that repeats a frame that is fresh: where no line
-- repeats one, and where the keeper keeps its records.
abbrev pub RepeatsNothing : List Ran → Type 0
RepeatsNothing story = AllByRecursion (λ (ran : Ran). IsNoRepeat ran.line.line) story

abbrev pub FaresFrames : List ℕ → Around → Around → Type 0
FaresFrames key old new = AlwaysOf key old new
    (λ story. RepeatsNothing story ⊎ KeepsRecords key old story → (whole : Bool) → (whole ≡ true → AreSchedules (first key old) story) → FaresInTurn (ended whole (transcript key old story)))

-- over a keeper that tells its records at restarts, each frame goes over the route of its moment
abbrev pub RoutesFrames : List ℕ → Around → Around → Type 0
RoutesFrames key old new = AlwaysOf key old new (λ story. TellsItsRecords old story → GoesByRoute old.devices (transcript key old story))

-- and of a frame that nobody heard the chip forgets the first dead hop, and no other link
abbrev pub ForgetsHops : List ℕ → Around → Around → Type 0
ForgetsHops key old new = AlwaysOf key old new
    (λ story. TellsItsRecords old story → (whole : Bool) → (whole ≡ true → AreSchedules (first key old) story) → ForgetsDeadHops (ended whole (transcript key old story)))

-- a frame has its fate in the tick after, also one that is owed at the end of a story that was run whole
abbrev pub LandsFrames : List ℕ → Around → Around → Type 0
LandsFrames key old new = AlwaysOf key old new
    (λ story. (whole : Bool) → (whole ≡ true → AreSchedules (first key old) story) → LandsInTime (ended whole (transcript key old story)))

-- a frame is heard again directly after a line that repeats it, where it is fresh and somebody is there to hear it
abbrev pub RepeatsAsAsked : List ℕ → Around → Around → Type 0
RepeatsAsAsked key old new = AlwaysOf key old new
    (λ story. KeepsRecords key old story → (whole : Bool) → (whole ≡ true → AreSchedules (first key old) story) → RepeatsWhatIsAsked old.devices (ended whole (transcript key old story)))

-- over such a keeper, each frame meets the fate that is due
abbrev pub MeetsFates : List ℕ → Around → Around → Type 0
MeetsFates key old new = AlwaysOf key old new (λ story. TellsItsRecords old story → MeetsWhatIsDue old.devices (transcript key old story))

-- all of this as one law, over a new keeper
abbrev pub KeepsAir : List ℕ → Around → Around → Type 0
KeepsAir key old new = AlwaysOf key old new
    (λ story. TellsAtRestarts old story → (whole : Bool) → (whole ≡ true → AreSchedules (first key old) story) → IsLegalOnAir whole old.devices (transcript key old story))

-- ---- the devices

-- no change and no frame is of a node that has no device
abbrev pub DoneByNodes : List ℕ → Around → Around → Type 0
DoneByNodes key old new = AlwaysOf key old new (λ story. DoneByDevices old.devices (transcript key old story))

-- each line was run whole, and all is entered
pub record IsWhole (key : List ℕ) (old : Around) (story : List Ran) (unentered : List Event) : Type 0 where
  pub schedules : AreSchedules (first key old) story
  pub all_entered : unentered ≡ []

-- There each device went from its state at entry to that at exit by what is shown to have come to it; all that it did then is shown, and at once; and nothing is done by
-- a node without a device. Where the last line was cut short, something of that may lack.
abbrev pub DoesAsShown : List ℕ → Around → Around → Type 0
DoesAsShown key old new = Always key old new
    (λ story unentered. IsFairWorld key old story → (whole : Bool) → (whole ≡ true → IsWhole key old story unentered) → DevicesDid whole old.devices new.devices (transcript key old story))

-- ---- the serial line

-- the chip answers a good frame CAN only where a line has asked for a collision that has not come, and ACK only where none is outstanding
abbrev pub CollidesAsAsked : List ℕ → Around → Around → Type 0
CollidesAsAsked key old new = AlwaysOf key old new (λ story. CollidesWhenAsked (transcript key old story))

-- a unit is lost or changed as the marks of lines say, and no other is; so also the last one of a story that was run whole
abbrev pub MarksAsAsked : List ℕ → Around → Around → Type 0
MarksAsAsked key old new = AlwaysOf key old new
    (λ story. (whole : Bool) → (whole ≡ true → AreSchedules (first key old) story) → MarksUnits (ended whole (transcript key old story)))

-- over a new keeper, each frame of the controller carries what a unit that came before asked to be sent, one each and in order
abbrev pub CarriesWhatWasAsked : List ℕ → Around → Around → Type 0
CarriesWhatWasAsked key old new = AlwaysOf key old new (λ story. TellsAtRestarts old story → CarriesUnits (transcript key old story))

-- and what it asks to be sent is due by what lines and nodes told, openly or sealed
abbrev pub SendsAsDue : List ℕ → Around → Around → Type 0
SendsAsDue key old new = AlwaysOf key old new (λ story. TellsAtRestarts old story → SendsWhatIsDue (always (listing_of old.devices)) key (transcript key old story))

-- each payload that the chip writes the host from a node was heard before
abbrev pub BringsHeard : List ℕ → Around → Around → Type 0
BringsHeard key old new = AlwaysOf key old new (λ story. BringsWhatWasHeard (transcript key old story))

-- a unit is overrun only where what its pipe may still hold, by what stands before it, leaves it no room
abbrev pub OverrunsWithoutRoom : List ℕ → Around → Around → Type 0
OverrunsWithoutRoom key old new = AlwaysOf key old new (λ story. OverrunsOnlyWhenFull (transcript key old story))

-- and over a new keeper, each unit that has no room is; so also the last one of a story that was run whole
abbrev pub OverrunsAsDue : List ℕ → Around → Around → Type 0
OverrunsAsDue key old new = AlwaysOf key old new
    (λ story. TellsAtRestarts old story → (whole : Bool) → (whole ≡ true → AreSchedules (first key old) story) → OverrunsWhenFull (ended whole (transcript key old story)))

-- over a new keeper, both sides keep the rules of the link in time
abbrev pub KeepsBothLinks : List ℕ → Around → Around → Type 0
KeepsBothLinks key old new = AlwaysOf key old new
    (λ story. TellsAtRestarts old story → (whole : Bool) → (whole ≡ true → AreSchedules (first key old) story) → KeepsLinks whole (transcript key old story))

-- By what the chip's link did, the controller puts on the air just what it takes, each frame by the least route of its table; the chip writes the host each frame that it has for it, in order, drops one
-- only where 32 others wait, and lets none wait while its link is idle.
abbrev pub AirsAsTaken : List ℕ → Around → Around → Type 0
AirsAsTaken key old new = AlwaysOf key old new
    (λ story. TellsAtRestarts old story → (whole : Bool) → (whole ≡ true → AreSchedules (first key old) story) → AnswersByLink whole old.devices (transcript key old story))

-- and with links that keep their rules, just what was on its way is told at each restart, and nowhere else
abbrev pub ClearsWhatIsLost : List ℕ → Around → Around → Type 0
ClearsWhatIsLost key old new = AlwaysOf key old new
    (λ story. TellsAtRestarts old story → (whole : Bool) → (whole ≡ true → AreSchedules (first key old) story) → ClearsLine whole (transcript key old story))

-- Bytes are cleared only directly after the words of a `restart`, no more than the pipe may hold; and what stands directly after those that were not refused is all
-- that is told of them.
abbrev pub ClearsWhenRestarted : List ℕ → Around → Around → Type 0
ClearsWhenRestarted key old new = AlwaysOf key old new (λ story. ClearsAtRestarts (transcript key old story))

abbrev pub ClearsNothingElse : List ℕ → Around → Around → Type 0
ClearsNothingElse key old new = AlwaysOf key old new (λ story. (whole : Bool) → ClearsNowhereElse whole (transcript key old story))

-- ---- what the host notes

-- over a new keeper, a node is taken to be awake where it tells so, and wherever it does
abbrev pub WakesNodes : List ℕ → Around → Around → Type 0
WakesNodes key old new = AlwaysOf key old new (λ story. TellsAtRestarts old story → WakesAsTold (transcript key old story))

-- one that does not listen falls asleep where its third attempt or its No More Information has ended, and is held awake where the report that ends its session asks so; both wherever that is
abbrev pub SendsToSleep : List ℕ → Around → Around → Type 0
SendsToSleep key old new = AlwaysOf key old new
    (λ story. TellsAtRestarts old story → (whole : Bool) → (whole ≡ true → AreSchedules (first key old) story) → FallsAsleep whole (transcript key old story))

-- where it rests no abort is owed, and what lines asked for since it started has ended
abbrev pub DoesWhatIsAsked : List ℕ → Around → Around → Type 0
DoesWhatIsAsked key old new = AlwaysOf key old new
    (λ story. TellsAtRestarts old story → (whole : Bool) → (whole ≡ true → AreSchedules (first key old) story) → LeavesNothing whole (transcript key old story))

-- what the end of a request, or a command that is given up, has noted stands together, once and in order
abbrev pub NotesEnds : List ℕ → Around → Around → Type 0
NotesEnds key old new = AlwaysOf key old new
    (λ story. TellsAtRestarts old story → (whole : Bool) → (whole ≡ true → AreSchedules (first key old) story) → NotesOfEnds whole (transcript key old story))

-- each message that the host seals is for a nonce that its node told since it was asked, each question serving once; the nonces that it gives, and those for which it opens, have numbers in order
abbrev pub SealsEachOnce : List ℕ → Around → Around → Type 0
SealsEachOnce key old new = AlwaysOf key old new (λ story. TellsAtRestarts old story → SealsOnce (keys_of key) (transcript key old story))

abbrev pub GivesNonces : List ℕ → Around → Around → Type 0
GivesNonces key old new = AlwaysOf key old new (λ story. TellsAtRestarts old story → CountsNonces (keys_of key) (transcript key old story))

abbrev pub HoldsNodes : List ℕ → Around → Around → Type 0
HoldsNodes key old new = AlwaysOf key old new (λ story. TellsAtRestarts old story → HoldsAsAsked (transcript key old story))

-- the neighbours of a node, and whether it has failed, stand where the first response to the last request was judged, and wherever it was
abbrev pub TellsWhatIsAsked : List ℕ → Around → Around → Type 0
TellsWhatIsAsked key old new = AlwaysOf key old new (λ story. TellsAtRestarts old story → AnswersQuestions (transcript key old story))

-- An interview is said to have succeeded or failed where its request ended so, and how a Set or Get that a line asked for ended is said where it ended so; both wherever a frame of the
-- chip ended it.
abbrev pub EndsEachInterview : List ℕ → Around → Around → Type 0
EndsEachInterview key old new = AlwaysOf key old new (λ story. TellsAtRestarts old story → EndsInterviews (transcript key old story))

abbrev pub TellsHowDone : List ℕ → Around → Around → Type 0
TellsHowDone key old new = AlwaysOf key old new (λ story. TellsAtRestarts old story → SaysHowDone (always (listing_of old.devices)) (transcript key old story))

-- A request that is new is sent, and a session begins, where the last request is over; each message has the callback id after that of the last one.
abbrev pub AsksOneByOne : List ℕ → Around → Around → Type 0
AsksOneByOne key old new = AlwaysOf key old new (λ story. TellsAtRestarts old story → SendsOneByOne (transcript key old story))

abbrev pub NumbersMessages : List ℕ → Around → Around → Type 0
NumbersMessages key old new = AlwaysOf key old new (λ story. TellsAtRestarts old story → NumbersCallbacks (transcript key old story))

-- After each payload that was judged stands all that its messages have noted, in order and before anything else.
abbrev pub NotesPayloads : List ℕ → Around → Around → Type 0
NotesPayloads key old new = AlwaysOf key old new
    (λ story. TellsAtRestarts old story → (whole : Bool) → (whole ≡ true → AreSchedules (first key old) story) → NotesInFull (keys_of key) whole (transcript key old story))

-- That a record was not kept is said only where one was asked for.
abbrev pub SaysWhatIsNotKept : List ℕ → Around → Around → Type 0
SaysWhatIsNotKept key old new = AlwaysOf key old new (λ story. TellsAtRestarts old story → UnkeptWhereAsked (keys_of key) (transcript key old story))

-- and over all that its host heard, with what it knows of nodes by their interviews, it keeps the laws of hosts: those of records of what a new keeper would hold
abbrev pub kept_anew : List ℕ → Around → List Ran → Option (List (List ℕ))
kept_anew key old story = (happens_all (first_machine (keys_of key) (Some []) old.devices) (events_of story)).records

abbrev pub HearsAsHosts : List ℕ → Around → Around → Type 0
HearsAsHosts key old new = AlwaysOf key old new
    (λ story. TellsAtRestarts old story → (whole : Bool) → (whole ≡ true → AreSchedules (first key old) story)
    → HostsKeepLaws (keys_of key) whole (heard_by_host (transcript key old story)) (kept_anew key old story))

-- By what nodes listed in their interviews, and by the messages that it took up, it is legal and prompt as a host alone is: it answers, sends, stores, shows and notes what it
-- should, and nothing else, each thing as soon as it can and in its turn.
abbrev pub HasLegalHost : List ℕ → Around → Around → Type 0
HasLegalHost key old new = AlwaysOf key old new
    (λ story. TellsAtRestarts old story → (whole : Bool) → (whole ≡ true → AreSchedules (first key old) story)
    → IsLegalAlone key first_start whole (heard_by_host (transcript key old story)) (kept_anew key old story))

-- ---- ticks

-- the number of a tick stands once, before its first entry, and nowhere else: so not at the end of a story that was run whole
abbrev pub NumbersTicks : List ℕ → Around → Around → Type 0
NumbersTicks key old new = AlwaysOf key old new
    (λ story. (whole : Bool) → (whole ≡ true → AreSchedules (first key old) story) → TellsTime (ended whole (transcript key old story)))

-- all of the serial line as one law, over a new keeper
abbrev pub KeepsLine : List ℕ → Around → Around → Type 0
KeepsLine key old new = AlwaysOf key old new
    (λ story. TellsAtRestarts old story → (whole : Bool) → (whole ≡ true → AreSchedules (first key old) story) → IsLegalOnLine whole old.devices (transcript key old story))

-- ---- the whole

-- the records at exit, where the keeper told that it had none at first
abbrev pub told_anew : Option (List (List ℕ)) → Option (List (List ℕ)) → Option (List (List ℕ))
told_anew (Some []) left = left
told_anew had left = None

-- The run is legal: what it shows, and how it left its devices and those records, is what the laws of lines, devices, air, serial line, chip and host allow; of one that an
-- allocation failure cut short, as far as it went.
abbrev pub IsLegalRun : List ℕ → Around → Around → Type 0
IsLegalRun key old new = Always key old new
    (λ story unentered. IsFairWorld key old story → (whole : Bool) → (whole ≡ true → IsWhole key old story unentered)
    → IsLegal key old.devices new.devices whole (transcript key old story) (told_anew old.records new.records))

-- ---- the headline

-- a law of such runs
abbrev pub InFairRuns : List ℕ → Around → Around → (List Ran → Type 0) → Type 0
InFairRuns key old new Law = AlwaysOf key old new (λ story. IsFairRun key old story → Law story)

-- The headline: each device whose kind lists Supervision has applied a part of the commands accepted for its node, in order, each at most once; every command that is reported
-- successful is in it; and where the last change of a property came from a command reported successful, the confirmed value is the device's.
abbrev pub HasHeadline : List ℕ → Around → Around → Type 0
HasHeadline key old new = InFairRuns key old new
    (λ story. (node : ℕ) (device : State) → device_of node new.devices ≡ Some device → is_supervised device ≡ true → HeadlineOf (always (listing_of old.devices)) node (transcript key old story) device)

-- a law of the devices as they are somewhere between its lines, of what stands before, and of the lines from there on, or as many of these as were run whole
abbrev pub InStretches : List ℕ → Around → Around → (List State → List Entry → List Entry → Type 0) → Type 0
InStretches key old new Law =
    InFairRuns key old new
    (λ story. (before stretch more : List Ran) → story ≡ before ++ (stretch ++ more) → AreSchedules (first key old) (before ++ stretch)
    → Law (last key old before).outside.devices (transcript key old before) (transcript_from (last key old before) stretch))

-- Wherever its lines go on from a calm moment as a stretch in which at most 16 nodes are at work, plain listeners all, or one plain node that sleeps, each command of these has
-- the final outcome that its device's kind says once 500 ticks have passed since the last order or `wake` line; so it is of one node of any kind, where so many have passed for
-- each command; and of each of these nodes by its own ticks, since its own last order or `wake` line.
abbrev pub AnswersCommands : List ℕ → Around → Around → Type 0
AnswersCommands key old new =
    InStretches key old new
    (λ devices before stretch.
    AnswersTogether key devices before stretch × AnswersAsleep key devices before stretch × AnswersAlone key devices before stretch × AnswersEach key devices before stretch)

-- Wherever its lines are quiet for a while, each command that waited then or was accepted since, of a node whose device lists Supervision, and that has a final outcome, has the one
-- that its device's kind says: however late it comes, and whatever was lost, repeated or changed.
abbrev pub EndsAsDevicesJudge : List ℕ → Around → Around → Type 0
EndsAsDevicesJudge key old new = InStretches key old new EndsAsJudged

-- success of a command of such a node is reported after its change
abbrev pub ReportsAfterChange : List ℕ → Around → Around → Type 0
ReportsAfterChange key old new =
    InFairRuns key old new (λ story. (node : ℕ) → IsSupervisedNode old.devices node → SucceedsAfterChangeOf node (transcript key old story))

-- The whole headline, where node 2 has a device whose kind lists Supervision. The host takes node 2 for a switch from the start, so it may be asked whatever its device is; of all other nodes no more is assumed.
abbrev pub HasWholeHeadline : List ℕ → Around → Around → Type 0
HasWholeHeadline key old new =
    InFairRuns key old new (λ story. IsSupervisedNode old.devices first_node → Headline old.devices new.devices (transcript key old story))

-- ---- all of them

-- What the host does with commands, lines and values; over a new keeper the laws of it have what they assume.
pub record KeepsHostLaws (key : List ℕ) (old new : Around) : Type 0 where
  pub kept : KeepsWell key old new
  pub orders : KeepsOrders key old new
  pub tables : ShowsTables key old new
  pub values : ConfirmsValues key old new
  pub answers : AnswersAsDue key old new
  pub reads : ReadsWhatItKept key old new
  pub shows_stored : ShowsStoredValues key old new
  pub taken_back : TakesBackWhenAsked key old new
  pub stores : StoresValues key old new
  pub written : WritesSessions key old new
  pub records : KeepsWhatIsShown key old new
  pub sends : SendsAsDue key old new
  pub wakes : WakesNodes key old new
  pub sleeps : SendsToSleep key old new
  pub holds : HoldsNodes key old new
  pub questions : TellsWhatIsAsked key old new
  pub interviews : EndsEachInterview key old new
  pub says_done : TellsHowDone key old new
  pub one_by_one : AsksOneByOne key old new
  pub numbered : NumbersMessages key old new
  pub ends : NotesEnds key old new
  pub rests : DoesWhatIsAsked key old new
  pub seals_once : SealsEachOnce key old new
  pub nonces : GivesNonces key old new
  pub noted : NotesPayloads key old new
  pub unkept : SaysWhatIsNotKept key old new
  pub heard : HearsAsHosts key old new
  pub alone : HasLegalHost key old new

-- what the devices do
pub record KeepsDeviceLaws (key : List ℕ) (old new : Around) : Type 0 where
  pub once : AppliesOnce key old new
  pub same : KeepsDevices key old new
  pub shows : ShowsKeptDevices key old new
  pub shown : ShowsChanges key old new
  pub groups : GroupsChanges key old new
  pub done_by : DoneByNodes key old new

-- what becomes of frames on the air
pub record KeepsAirLaws (key : List ℕ) (old new : Around) : Type 0 where
  pub numbers : NumbersAir key old new
  pub loses : LosesFrames key old new
  pub fares : FaresFrames key old new
  pub routes : RoutesFrames key old new
  pub forgets : ForgetsHops key old new
  pub lands : LandsFrames key old new
  pub repeats : RepeatsAsAsked key old new
  pub meets : MeetsFates key old new
  pub air : KeepsAir key old new

-- what becomes of units on the serial line, in time
pub record KeepsLineLaws (key : List ℕ) (old new : Around) : Type 0 where
  pub brings : BringsHeard key old new
  pub collides : CollidesAsAsked key old new
  pub marks : MarksAsAsked key old new
  pub overruns : OverrunsWithoutRoom key old new
  pub airs : AirsAsTaken key old new
  pub clears : ClearsWhenRestarted key old new
  pub clears_only : ClearsNothingElse key old new
  pub ticks : NumbersTicks key old new
  pub line : KeepsLine key old new

-- What every story keeps true, of a run that ended as it may.
pub record StoriesKeepLaws (key : List ℕ) (old new : Around) : Type 0 where
  pub headline : HasHeadline key old new
  pub after_change : ReportsAfterChange key old new
  pub whole_headline : HasWholeHeadline key old new
  pub legal : IsLegalRun key old new
  pub answers_in_time : AnswersCommands key old new
  pub ends_as_judged : EndsAsDevicesJudge key old new
  pub of_host : KeepsHostLaws key old new
  pub of_devices : KeepsDeviceLaws key old new
  pub of_air : KeepsAirLaws key old new
  pub of_line : KeepsLineLaws key old new
