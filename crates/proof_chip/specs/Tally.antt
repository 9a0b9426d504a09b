-- How many frames the chip has for the host, by the transcript and by what it was given (this project's own rule): results that come in a tick without an entry are counted at the next
-- line or tick that has one, and in a tick those that are still to be given are counted with its last fate.
use Rattle.std.specs.Prelude.{◌≡◌, ◌≤◌, ◌<◌, ℕ, ◌+◌, ◌-◌, ◌&&◌, not, Bool, true, false, List, [], ◌∷◌, ◌++◌, length}
use Rattle.std.specs.Option.{is_some}
use Rattle.std.specs.List.{AllByRecursion}
use Rattle.air_frames.specs.declared.frame.Heading.{Heading}
use Rattle.air_frames.specs.declared.frame.Heading.TheVariants.{Outward, Homeward}
use Rattle.air_frames.specs.Flown.{Flown}
use Rattle.serial_frame.specs.Frame.{FrameParts}
use Rattle.serial_link.specs.Rules.{Step}
use Rattle.chip_sim.specs.Waiting.{PortState}
use Rattle.zw_text.specs.declared.entry.Entry.{Entry}
use Rattle.zw_text.specs.Transcript.{frames}
use Rattle.law_transcript.specs.Lists.{EachAfter, last_or}
use Rattle.law_transcript.specs.Fates.{first_fates, flying}
use Rattle.law_wire.specs.Asked.{Asked, Course, Sending, asked, clock_of, course_of, last_sending}
use Rattle.law_wire.specs.Results.{ended_without, is_outward, settled_clock}
use Rattle.law_wire.specs.Given.{given, information_of}
use Rattle.law_wire.specs.Answering.{MayWait}
use Rattle.chip_functions.specs.declared.request.Request.{Request}
use Rattle.chip_functions.specs.declared.request.Request.TheVariants.{RequestNodeInfo}
use Rattle.outside_model.specs.declared.waits.Due.{Due}
use Rattle.outside_model.specs.declared.waits.Due.TheVariants.{Info, NoRoute as no_route_due}
use Rattle.outside_model.specs.Devices.{State}
use Rattle.outside_model.specs.State.{OuterState}
use Rattle.outside_model.specs.Events.{OuterEvent, Begins_line, Begins_tick, Host_writes, Host_takes, Host_notes, Host_begins, Chip_takes, Arrives, Gives}
use Rattle.world_model.specs.State.{Machine}
use Rattle.proof_air.specs.proof_walk.Outside.{CoversOuter, awaits_number}
use Rattle.proof_air.specs.proof_walk.Phases.{Phase, Said_line, Doing, Ticked, Arriving, Giving}
use Rattle.proof_line.specs.proof_traffic.Facts.{one_if}
use Rattle.proof_line.specs.proof_traffic.OnAir.{on_air}
use Rattle.proof_line.specs.proof_traffic.OutsideTraffic.{flags}
use Rattle.proof_chip.specs.Serving.{GoesOn, Serves}

-- ---- of what is outside the host

-- whether a SendData is under way, and whether its call, the last one, is of a frame; the numbers of the controller's frames on the air; how many informations are due; and the clock
pub record Outlook : Type 0 where
  pub sending : Bool
  pub by_frame : Bool
  pub numbers : List ℕ
  pub infos : ℕ
  pub clock : ℕ

abbrev pub number_of : Heading → ℕ → List ℕ
number_of Outward number = number ∷ []
number_of Homeward number = []

abbrev pub numbers_from : ℕ → List Flown → List ℕ
numbers_from number [] = []
numbers_from number (flight ∷ flights) = number_of flight.heading number ++ numbers_from (number + 1) flights

abbrev pub infos_in : List Due → ℕ
infos_in [] = 0
infos_in (Info node ∷ due) = infos_in due + 1
infos_in (no_route_due ∷ due) = infos_in due

abbrev pub outlook : OuterState → Outlook
outlook o = record {
  sending = is_some o.chip.state.sending;
  by_frame = last_or false (flags o.calls);
  numbers = numbers_from (o.air.frames.landed + 1) (on_air o.air.frames);
  infos = infos_in o.due;
  clock = o.clock;
}

-- so many results without a fate are still to be given: the informations, and that of the SendData under way, where it has no frame
abbrev pub owed : Outlook → ℕ
owed v = v.infos + one_if (v.sending && not v.by_frame)

-- ---- the frame of the SendData under way

abbrev pub Lacks : List ℕ → ℕ → Type 0
Lacks numbers number = AllByRecursion (λ (one : ℕ). one ≡ number → ⊥) numbers

-- it is the last of the controller's on the air, where it has one; and no other is that of a SendData that is not over
abbrev pub AreNumbered : Bool → Bool → List ℕ → List Sending → Type 0
AreNumbered false by_frame numbers sendings = AllByRecursion (λ (one : Sending). Lacks numbers one.frame) sendings
AreNumbered true true numbers sendings = (one : Sending) × (sendings ≡ one ∷ []) × (before : List ℕ) × (numbers ≡ before ++ one.frame ∷ [])
AreNumbered true false numbers sendings = (one : Sending) × (sendings ≡ one ∷ []) × Lacks numbers one.frame

-- the numbers are of frames that the transcript has of the controller
abbrev pub AreOwn : List Entry → List ℕ → Type 0
AreOwn past numbers = AllByRecursion (λ (n : ℕ). is_outward past n ≡ true) numbers

-- ---- time

-- so many fates are to come in the running tick, whose number may still be entered
pub record Timed (clock left : ℕ) (awaits : Bool) (past : List Entry) : Type 0 where
  pub now : awaits ≡ false → clock_of past ≡ clock
  pub was : awaits ≡ true → clock_of past < clock
  pub fates : awaits ≡ false → length (first_fates past) + left ≡ (flying past).due
  pub landed : awaits ≡ true → length (first_fates past) ≡ (flying past).due
  pub sent : awaits ≡ true → length (first_fates past) + left ≡ length (frames past)

-- ---- what was asked

-- the results of one that was asked, and of several
abbrev pub many_of : Course → List Entry → Asked → ℕ
many_of course past one = length (information_of past one one.request) + length (ended_without course past one)

abbrev pub total : Course → List Entry → List Asked → ℕ
total course past [] = 0
total course past (one ∷ more) = many_of course past one + total course past more

-- so many informations are asked for
abbrev pub informed : Request → ℕ
informed (RequestNodeInfo node) = 1
informed request = 0

abbrev pub infos_asked : List Asked → ℕ
infos_asked [] = 0
infos_asked (one ∷ more) = informed one.request + infos_asked more

-- asked in a tick before this one, in one from the first to before the second, or in the tick of that clock
abbrev pub IsBefore : ℕ → Asked → Type 0
IsBefore clock one = clock_of one.past < clock

abbrev pub IsWithin : ℕ → ℕ → Asked → Type 0
IsWithin from clock one = (from ≤ clock_of one.past) × (clock_of one.past < clock)

abbrev pub IsIn : ℕ → Asked → Type 0
IsIn clock one = clock_of one.past ≡ clock

-- ---- with a course

-- Where no results are to come: what was asked before has come by the transcript, or came in ticks without an entry; what was asked in this tick has so many results as are still owed.
-- Of frames that are heard so many are still to come to the chip.
pub record TallyNow (devices : List State) (v : Outlook) (awaits : Bool) (coming count : ℕ) (course : Course) (past : List Entry) : Type 0 where
  pub waits : EachAfter (MayWait devices course) [] past
  pub numbered : AreNumbered v.sending v.by_frame v.numbers (last_sending course past)
  pub own : AreOwn past v.numbers
  pub timed : Timed v.clock 0 awaits past
  pub old : List Asked
  pub silent : List Asked
  pub here : List Asked
  pub are : asked course past ≡ old ++ (silent ++ here)
  pub settled : AllByRecursion (IsBefore (settled_clock past)) old
  pub unsettled : AllByRecursion (IsWithin (settled_clock past) v.clock) silent
  pub new : AllByRecursion (IsIn v.clock) here
  pub informs : infos_asked here ≡ v.infos
  pub owes : total course past here ≡ owed v
  pub many : length (given devices course past) + total course past silent ≡ count + coming

-- all that are still to be given are counted while frames arrive, and then those that are left
abbrev pub AreEnough : Bool → ℕ → ℕ → Type 0
AreEnough true all left = all ≡ left
AreEnough false all left = left ≤ all

-- In a tick, until all its results have come: what was asked in the tick before comes by the transcript with the last fate, or with the number of the tick where it has none; of frames that
-- are heard or ended so many are still to come to the chip.
pub record TallyBefore (devices : List State) (v : Outlook) (arriving : Bool) (left : ℕ) (awaits : Bool) (coming count : ℕ) (course : Course) (past : List Entry) : Type 0 where
  pub waits : EachAfter (MayWait devices course) [] past
  pub numbered : AreNumbered v.sending v.by_frame v.numbers (last_sending course past)
  pub own : AreOwn past v.numbers
  pub timed : Timed v.clock left awaits past
  pub begun : 0 < v.clock
  pub old : List Asked
  pub silent : List Asked
  pub last : List Asked
  pub are : asked course past ≡ old ++ (silent ++ last)
  pub settled : AllByRecursion (IsBefore (settled_clock past)) old
  pub unsettled : AllByRecursion (λ (one : Asked). (settled_clock past ≤ clock_of one.past) × (clock_of one.past + 1 < v.clock)) silent
  pub new : AllByRecursion (λ (one : Asked). (settled_clock past ≤ clock_of one.past) × (clock_of one.past + 1 ≡ v.clock)) last
  pub enough : settled_clock past < v.clock → AreEnough arriving (total course past last) (owed v)
  pub many : length (given devices course past) + (total course past silent + total course past last) ≡ count + (owed v + coming)

-- ---- with the steps of a link

-- of so many frames that the chip had, of a course and of entries
abbrev pub Counting : Type 1
Counting = ℕ → Course → List Entry → Type 0

-- with these steps of the link, it was given some frames, with which this is so of each course that goes on
abbrev pub TallySo : Counting → List Step → List Entry → PortState → Type 0
TallySo Are did past port =
    (given_frames : List FrameParts) × Serves did given_frames past port × ((later : Course) → GoesOn (course_of did) later → Are (length given_frames) later past)

-- ---- at each phase of a line

abbrev pub TallyAt : List State → Phase → OuterState → Counting
TallyAt devices (Said_line line) o = TallyNow devices (outlook o) false 0
TallyAt devices (Ticked ticks) o = TallyBefore devices (outlook o) true (o.air.frames.sent - o.air.frames.landed) (awaits_number o) 0
TallyAt devices (Arriving left ticks) o = TallyBefore devices (outlook o) true left (awaits_number o) 0
TallyAt devices (Giving results ticks) o = TallyBefore devices (outlook o) false 0 (awaits_number o) 0
TallyAt devices here o = TallyNow devices (outlook o) (awaits_number o) 0

-- an event of the effect of a line: neither a line nor a tick begins, the chip takes nothing, and no frame arrives
abbrev pub IsOfLine : OuterEvent → Type 0
IsOfLine Begins_line = ⊥
IsOfLine Begins_tick = ⊥
IsOfLine (Host_writes unit) = ⊥
IsOfLine (Host_takes count) = ⊥
IsOfLine (Host_notes note) = ⊥
IsOfLine (Host_begins node sessions) = ⊥
IsOfLine (Chip_takes count rest ways) = ⊥
IsOfLine (Arrives drawn route) = ⊥
IsOfLine (Gives route) = ⊥
IsOfLine event = Unit {0}

abbrev pub LeavesLine : Phase → Type 0
LeavesLine (Doing line left) = AllByRecursion (CoversOuter IsOfLine) left
LeavesLine here = Unit {0}

abbrev pub KnowTally : List State → List Step → Phase → List Entry → Machine → Type 0
KnowTally devices did here past m = TallySo (TallyAt devices here m.outside.outer) did past m.outside.outer.chip.state.port × LeavesLine here
