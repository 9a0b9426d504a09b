-- What is known of the SendData that the chip has under way, and of the law of what goes on the air (this project's own rule): the chip has one exactly where the transcript has, but for the
-- time in a tick until its results have come; and then the transcript has none, since all were taken in earlier ticks.
use Rattle.std.specs.Prelude.{◌≡◌, ◌<◌, ◌≤◌, ℕ, false, Option, Some, None, List, [], ◌∷◌, ◌++◌}
use Rattle.std.specs.List.{AllByRecursion}
use Rattle.serial_frame.specs.Frame.{FrameParts}
use Rattle.serial_link.specs.Rules.{Step}
use Rattle.route_table.specs.Network.{Network}
use Rattle.route_table.specs.Walk.{Walk}
use Rattle.chip_sim.specs.Nodes.{is_marked}
use Rattle.chip_sim.specs.State.{ChipState}
use Rattle.chip_sim.specs.Waiting.{PortState}
use Rattle.chip_sim.specs.declared.out.Sending.{Sending as SendingParts}
use Rattle.zw_text.specs.declared.entry.Entry.{Entry}
use Rattle.law_transcript.specs.Lists.{EachAfter}
use Rattle.law_transcript.specs.Nodes.{controller, is_joined}
use Rattle.law_transcript.specs.Units.{Carried}
use Rattle.law_wire.specs.Networks.{chip_network}
use Rattle.law_wire.specs.Routes.{HasNoRoute}
use Rattle.law_wire.specs.Asked.{Course, Sending, clock_of, course_of, in_tick, last_sending}
use Rattle.law_wire.specs.Taking.{IsPassedOver, MayAir}
use Rattle.outside_model.specs.Devices.{State}
use Rattle.outside_model.specs.State.{OuterState}
use Rattle.outside_model.specs.Events.{OuterEvent, Begins_tick, Chip_takes, Arrives, Gives, ticked_entry}
use Rattle.world_model.specs.State.{Machine}
use Rattle.proof_air.specs.proof_walk.Phases.{Phase, Doing, Ticked, Arriving, Giving, Moving}
use Rattle.proof_air.specs.proof_walk.Outside.{CoversOuter, Knowing, nothing}
use Rattle.proof_air.specs.Logs.{Tie}
use Rattle.proof_chip.specs.Serving.{GoesOn, Serves}
use Rattle.proof_chip.specs.Bringing.{Brings}

-- the one under way by the transcript is that of the chip
abbrev pub AreSending : Option SendingParts → List Sending → Type 0
AreSending None sendings = sendings ≡ []
AreSending (Some parts) sendings = (one : Sending) × (sendings ≡ one ∷ []) × (one.node ≡ parts.node) × (one.callback_id ≡ parts.callback_id)

abbrev pub TieSending : Course → List Entry → OuterState → Type 0
TieSending course past o = AreSending o.chip.state.sending (in_tick o.clock (last_sending course past))

-- the chip knows the nodes that have joined
abbrev pub TieJoined : List Entry → ChipState → Type 0
TieJoined past s = (node : ℕ) → is_marked s.joined node ≡ is_joined past node

-- ---- while the chip judges items

-- a node to which the chip's table has no way has none by the chip's network of the transcript, and the controller is no node that joins
pub record TieWays (devices : List State) (past : List Entry) (table : Network) : Type 0 where
  pub blocked : (node : ℕ) → ((way : List ℕ) → Walk table node way → ⊥) → HasNoRoute (chip_network devices past) node
  pub home : is_joined past controller ≡ false

-- With a course: the law of what goes on the air is kept so far, and what is left to go there has no way; the chip has under way what the transcript has, and none of a later tick.
pub record TieAir (devices : List State) (course : Course) (past : List Entry) (o : OuterState) : Type 0 where
  pub so : EachAfter (MayAir devices course) [] past
  pub over : IsPassedOver false devices course past
  pub under : TieSending course past o
  pub few : AllByRecursion (λ (one : Sending). one.clock ≤ o.clock) (last_sending course past)

-- transcript and chip have the same clock, joined nodes and ways
pub record Agrees (devices : List State) (past : List Entry) (o : OuterState) : Type 0 where
  pub clock : clock_of past ≡ o.clock
  pub joined : TieJoined past o.chip.state
  pub ways : TieWays devices past o.chip.state.table

-- with each course that goes on from that of these steps of the link
pub record TieItems (devices : List State) (steps : List Step) (past : List Entry) (o : OuterState) : Type 0 where
  pub airs : (later : Course) → GoesOn (course_of steps) later → TieAir devices later past o
  pub agrees : Agrees devices past o

-- with these steps of the link, it was given some frames, which bring what was heard in order, and with which all this is so
abbrev pub ItemsSo : List State → List Step → List Entry → OuterState → Type 0
ItemsSo devices did past o =
    (frames : List FrameParts) × Serves did frames past o.chip.state.port × Brings did frames [] past × TieItems devices did past o

-- ---- at any time

-- With a course: the law of what goes on the air is kept so far, what is left to go there has no way, and the SendData that are not over are so.
pub record KeepsAir (devices : List State) (Are : List Sending → Type 0) (course : Course) (past : List Entry) : Type 0 where
  pub so : EachAfter (MayAir devices course) [] past
  pub over : IsPassedOver false devices course past
  pub are : Are (last_sending course past)

-- with these steps of the link, it was given some frames, which with this to come bring what was heard in order, and with which this is so of each course that goes on
abbrev pub ComingSo : List State → (List Sending → Type 0) → List Carried → List Step → List Entry → PortState → Type 0
ComingSo devices Are coming did past port =
    (frames : List FrameParts) × Serves did frames past port × Brings did frames coming past
    × ((later : Course) → GoesOn (course_of did) later → KeepsAir devices Are later past)

-- between events nothing is to come
abbrev pub AirSo : List State → (List Sending → Type 0) → List Step → List Entry → PortState → Type 0
AirSo devices Are did past port = ComingSo devices Are [] did past port

abbrev pub KnowsAir : List State → (List Sending → Type 0) → List Step → Knowing
KnowsAir devices Are did awaits past w = AirSo devices Are did past w.outer.chip.state.port

-- the SendData that are not over where the chip may take another: the chip has the same under way, and none is of a later tick
abbrev pub AreNow : OuterState → List Sending → Type 0
AreNow o sendings = AreSending o.chip.state.sending (in_tick o.clock sendings) × AllByRecursion (λ (one : Sending). one.clock ≤ o.clock) sendings

-- and until the results of a tick have come: all are of earlier ticks
abbrev pub AreBefore : OuterState → List Sending → Type 0
AreBefore o sendings = AllByRecursion (λ (one : Sending). one.clock < o.clock) sendings

-- ---- at each phase of a line

-- an event at which the chip has under way what it had, and the clock stays
abbrev pub IsMild : OuterEvent → Type 0
IsMild Begins_tick = ⊥
IsMild (Chip_takes count rest ways) = ⊥
IsMild (Arrives drawn route) = ⊥
IsMild (Gives route) = ⊥
IsMild event = Unit {0}

-- the effect of a line is of such events
abbrev pub LeavesMild : Phase → Type 0
LeavesMild (Doing line left) = AllByRecursion (CoversOuter IsMild) left
LeavesMild here = Unit {0}

abbrev pub AreAt : Phase → OuterState → List Sending → Type 0
AreAt (Ticked ticks) o sendings = AreBefore o sendings
AreAt (Arriving frames ticks) o sendings = AreBefore o sendings
AreAt (Giving results ticks) o sendings = AreBefore o sendings
AreAt here o sendings = AreNow o sendings

abbrev pub KnowAir : List State → List Step → Phase → List Entry → Machine → Type 0
KnowAir devices did here past m = AirSo devices (AreAt here m.outside.outer) did past m.outside.outer.chip.state.port × LeavesMild here

-- What other walks are to tell: the history of the air; where the chip may take bytes, it agrees with the transcript once the number of the tick is entered; and once all results of a
-- tick have come, it has nothing under way.
pub record GroundAir (devices : List State) (Ground : Phase → List Entry → Machine → Type 0) : Type 0 where
  pub history : (here : Phase) (past : List Entry) (m : Machine) → Ground here past m → Tie nothing past m.outside
  pub agrees : (passes ticks : ℕ) (past : List Entry) (m : Machine) → Ground (Moving passes ticks) past m → Agrees devices (past ++ ticked_entry m.outside.outer) m.outside.outer
  pub none : (ticks : ℕ) (past : List Entry) (m : Machine) → Ground (Giving 0 ticks) past m → m.outside.outer.chip.state.sending ≡ None
