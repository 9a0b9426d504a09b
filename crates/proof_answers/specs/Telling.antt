-- That the chip gives its host, in order, just what it has for it by the transcript (this project's own rule). Results that come in a tick without an entry are told by the transcript at the next
-- line or tick that has one; and in a tick those that are still to be given are told with its last fate.
use Rattle.std.specs.Prelude.{◌≡◌, ◌<◌, ℕ, ◌-◌, ◌==◌, Bool, true, false, Option, Some, None, List, [], ◌∷◌, ◌++◌, map, filter, length}
use Rattle.std.specs.List.{flat_map}
use Rattle.serial_frame.specs.Frame.{FrameParts}
use Rattle.serial_link.specs.Rules.{Step}
use Rattle.chip_sim.specs.Nodes.{is_marked}
use Rattle.chip_sim.specs.Waiting.{PortState}
use Rattle.chip_sim.specs.declared.out.Sending.{Sending as SendingParts}
use Rattle.zw_text.specs.declared.entry.Entry.{Entry}
use Rattle.law_transcript.specs.Lists.{EachAfter, last_or}
use Rattle.law_wire.specs.Asked.{Course, Sending, course_of, last_sending}
use Rattle.law_wire.specs.Results.{Called, called, ended_without, settled_clock, tells_failure}
use Rattle.law_wire.specs.Given.{Given, IsOf, given}
use Rattle.law_wire.specs.Answering.{MayAnswer}
use Rattle.outside_model.specs.Devices.{State}
use Rattle.outside_model.specs.State.{OuterState}
use Rattle.world_model.specs.State.{Machine}
use Rattle.proof_devices.specs.proof_air.proof_walk.Phases.{Phase, Ticked, Arriving, Giving}
use Rattle.proof_chip.specs.Serving.{GoesOn, Serves, frame_texts}
use Rattle.proof_answers.specs.Owing.{asked_in_tick, come, due_before, ends_in, owed_in, owed_now}

-- ---- units and what the chip has for the host

-- a unit is of the one just where it is of the other, and so of each of two lists
pub record IsLike (devices : List State) (one other : Given) : Type 0 where
  pub there : (unit : List ℕ) → IsOf devices unit one → IsOf devices unit other
  pub back : (unit : List ℕ) → IsOf devices unit other → IsOf devices unit one

abbrev pub Alike : List State → List Given → List Given → Type 0
Alike devices [] [] = Unit {0}
Alike devices [] (other ∷ others) = ⊥
Alike devices (one ∷ all) [] = ⊥
Alike devices (one ∷ all) (other ∷ others) = IsLike devices one other × Alike devices all others

-- these units are the first of them, in order, and the others are what is left
abbrev pub Tells : List State → List (List ℕ) → List Given → List Given → Type 0
Tells devices [] all left = Alike devices all left
Tells devices (unit ∷ units) [] left = ⊥
Tells devices (unit ∷ units) (one ∷ all) left = IsOf devices unit one × Tells devices units all left

-- what the chip has for its host, with all that comes before a clock
abbrev pub told_by : List State → ℕ → Course → List Entry → List Given
told_by devices clock course past = given devices course past ++ map (come past) (owed_in course past (due_before clock course past))

-- ---- SendData

-- the one under way is the last one of the transcript, for a node that has a place in the tables
abbrev pub IsUnder : Option SendingParts → List Sending → Type 0
IsUnder None sendings = Unit {0}
IsUnder (Some parts) sendings = (one : Sending) × (sendings ≡ one ∷ []) × (one.node ≡ parts.node) × (one.callback_id ≡ parts.callback_id) × (parts.node < 233)

-- those that have ended before a clock
abbrev pub called_by : ℕ → Course → List Entry → List Called
called_by clock course past = called course past ++ flat_map (ended_without course past) (due_before clock course past)

-- whether the last of these for a node says that it failed
abbrev pub failed_by : List Called → ℕ → Bool
failed_by calls node = last_or false (map (λ one. tells_failure one.status) (filter (λ one. one.sending.node == node) calls))

pub record HasFailing (marks : List Bool) (calls : List Called) : Type 0 where
  pub places : length marks ≡ 233
  pub same : (node : ℕ) → is_marked marks node ≡ failed_by calls node

-- ---- with a course

-- Where no results are to come: the chip was given all that it has by the transcript; and what was asked in this tick is owed as what is outside the host is to give it.
pub record TellsNow (devices : List State) (o : OuterState) (frames : List FrameParts) (course : Course) (past : List Entry) : Type 0 where
  pub turns : EachAfter (MayAnswer devices course) [] past
  pub tells : Tells devices (frame_texts frames) (told_by devices o.clock course past) []
  pub owes : owed_in course past (asked_in_tick o.clock course past) ≡ owed_now course past o.clock o
  pub under : IsUnder o.chip.state.sending (last_sending course past)
  pub failing : HasFailing o.chip.state.failing (called_by o.clock course past)

-- In a tick, until all its results have come: what is left is what is still owed, which while frames arrive is all that was asked in the tick before.
pub record TellsBefore (devices : List State) (arriving : Bool) (o : OuterState) (frames : List FrameParts) (course : Course) (past : List Entry) : Type 0 where
  pub turns : EachAfter (MayAnswer devices course) [] past
  pub tells : Tells devices (frame_texts frames) (told_by devices o.clock course past) (map (come past) (owed_now course past (o.clock - 1) o))
  pub owes : arriving ≡ true → settled_clock past < o.clock → owed_in course past (asked_in_tick (o.clock - 1) course past) ≡ owed_now course past (o.clock - 1) o
  pub under : IsUnder o.chip.state.sending (last_sending course past)
  pub calls : List Called
  pub ended : called_by o.clock course past ≡ calls ++ ends_in (owed_now course past (o.clock - 1) o)
  pub failing : HasFailing o.chip.state.failing calls

-- ---- with the steps of a link

-- of frames that the chip had, of a course and of entries
abbrev pub Telling : Type 1
Telling = List FrameParts → Course → List Entry → Type 0

-- with these steps of the link, it was given some frames, with which this is so of each course that goes on
abbrev pub TellSo : Telling → List Step → List Entry → PortState → Type 0
TellSo Are did past port = (frames : List FrameParts) × Serves did frames past port × ((later : Course) → GoesOn (course_of did) later → Are frames later past)

-- ---- at each phase of a line

abbrev pub TellsAt : List State → Phase → OuterState → Telling
TellsAt devices (Ticked ticks) o = TellsBefore devices true o
TellsAt devices (Arriving left ticks) o = TellsBefore devices true o
TellsAt devices (Giving results ticks) o = TellsBefore devices false o
TellsAt devices here o = TellsNow devices o

abbrev pub KnowTells : List State → List Step → Phase → List Entry → Machine → Type 0
KnowTells devices did here past m = TellSo (TellsAt devices here m.outside.outer) did past m.outside.outer.chip.state.port
