-- What is known of each device at each phase of a line (this project's own rule): the first device of a node has had what the transcript shows to have come to it, in order, and has
-- lived the ticks that have begun; but for the running one, until its turn comes in that. The words of a line that wakes or sets one, or that repeats a frame, are counted by its event.
-- Where the nodes that are joined are known, the frames of a node are known to be what its device replied since it joined.
use Rattle.std.specs.Prelude.{◌≡◌, ◌≢◌, ◌≤◌, ◌⊎◌, ℕ, ◌+◌, ◌-◌, nat_lt, if◌then◌else◌, Bool, true, false, List, [], ◌∷◌, ◌++◌, length, Some, slice_get, ⊤}
use Rattle.std.specs.List.{AllByRecursion}
use Rattle.device_kinds.specs.declared.kind.Kind.TheVariants.{Lock}
use Rattle.device_sim.specs.State.{State}
use Rattle.device_sim.specs.Event.{DeviceEvent}
use Rattle.mesh_sim.specs.Fates.{place_of}
use Rattle.zw_text.specs.declared.line.Line.{Line}
use Rattle.zw_text.specs.declared.line.Line.TheVariants as lines
use Rattle.zw_text.specs.declared.entry.Entry.{Entry}
use Rattle.zw_text.specs.declared.entry.Entry.TheVariants.{Said}
use Rattle.zw_text.specs.Transcript.{line_of, lines_run, time_of}
use Rattle.law_transcript.specs.Devices.{CameAsShown, ComingAt, after_events, brought, comings, events_unjoined, replies_joined, sent_from, ticks_lived}
use Rattle.law_transcript.specs.Nodes.{controller, device_of, is_joined}
use Rattle.law_transcript.specs.Restarts.{repeats, ticks_asked}
use Rattle.outside_model.specs.State.{Outside}
use Rattle.outside_model.specs.Events.{OuterEvent, Begins_line, Begins_tick, Arrives, Device_ticks, Repeats, Wakes_device, Sets_device}
use Rattle.world_model.specs.State.{Machine}
use Rattle.world_model.specs.Events.{Event}
use Rattle.world_model.specs.Lines.{IsEffect}
use Rattle.proof_air.specs.proof_device.GoingOn.{GoOn}
use Rattle.proof_air.specs.proof_walk.Outside.{Known, CoversOuter}
use Rattle.proof_air.specs.proof_walk.Phases.{Phase, Said_line, Begun, Doing, Ticked, Arriving, Giving, Ticking_devices}

-- ---- a device

-- it has had events in which these things came and so many ticks passed, and of which this holds besides
pub record LivedWith (Also : List DeviceEvent → Type 0) (ticks : ℕ) (came : List ComingAt) (old new : State) : Type 0 where
  pub events : List DeviceEvent
  pub runs : new ≡ after_events old events
  pub comes : comings events ≡ came
  pub ticked : ticks_lived events ≡ ticks
  pub also : Also events

-- and of which nothing else is asked
abbrev pub Lived : ℕ → List ComingAt → State → State → Type 0
Lived = LivedWith (λ events. Unit {0})

-- what else is kept of a device: by the entries so far, what it was at first and its events
abbrev pub Keeping : Type 1
Keeping = List Entry → State → List DeviceEvent → Type 0

abbrev pub Simply : Keeping
Simply = λ past old events. Unit {0}

-- the frames of its node so far are what it replied since its node joined; it had no fewer events by then
pub record Answers (past : List Entry) (old : State) (events : List DeviceEvent) : Type 0 where
  pub within : is_joined past old.node ≡ true → events_unjoined old.node past ≤ length events
  pub answered : sent_from old.node past ≡ replies_joined old.node past old events

-- the first of each node but the controller's has had what is shown, and so many ticks by its place
abbrev pub LiveOn : Keeping → (ℕ → ℕ) → List Entry → List State → List State → Type 0
LiveOn Also ticks past olds news =
    (place : ℕ) (old new : State) → slice_get olds place ≡ Some old → place_of old.node olds ≡ Some place → old.node ≢ controller → slice_get news place ≡ Some new →
    LivedWith (Also past old) (ticks place) (brought old.node past) old new

pub record Tie (Also : Keeping) (olds : List State) (ticks : ℕ → ℕ) (past : List Entry) (w : Outside) : Type 0 where
  pub go : GoOn olds w.devices
  pub live : LiveOn Also ticks past olds w.devices

-- ---- phases

-- all have lived the ticks that have begun
abbrev pub RestedWith : Keeping → List State → List Entry → Machine → Type 0
RestedWith Also olds past m = Tie Also olds (λ place. m.outside.outer.clock) past m.outside

-- in a tick those have that stand before a place
abbrev pub lived_in : ℕ → ℕ → ℕ → ℕ
lived_in reached clock place = if nat_lt place reached then clock else clock - 1

pub record InTick (Also : Keeping) (olds : List State) (reached : ℕ) (past : List Entry) (m : Machine) : Type 0 where
  pub tie : Tie Also olds (lived_in reached m.outside.outer.clock) past m.outside
  pub begun : 1 ≤ m.outside.outer.clock

-- once the number of the tick is entered it is the last one, and what follows answers no `repeat`
pub record Numbered (awaits : Bool) (past : List Entry) (w : Outside) : Type 0 where
  pub number : awaits ≡ false → time_of past ≡ w.outer.clock
  pub apart : awaits ≡ false → repeats past ≡ false

-- nothing is asked of an entry
abbrev pub MayAny : List Entry → Entry → Type 0
MayAny past e = ⊤

abbrev pub KnownNumber : List Entry → Machine → Type 0
KnownNumber past m = Known MayAny (λ pending. Numbered) past m.outside

-- neither a line nor a tick begins
abbrev pub GoesWithin : OuterEvent → Type 0
GoesWithin Begins_line = ⊥
GoesWithin Begins_tick = ⊥
GoesWithin event = Unit {0}

-- and no device has an event
abbrev pub MovesNone : OuterEvent → Type 0
MovesNone Begins_line = ⊥
MovesNone Begins_tick = ⊥
MovesNone (Arrives drawn route) = ⊥
MovesNone (Device_ticks place drawn route) = ⊥
MovesNone (Repeats number drawn route) = ⊥
MovesNone (Wakes_device node route) = ⊥
MovesNone (Sets_device node value route) = ⊥
MovesNone event = Unit {0}

-- a line by which devices have events
abbrev pub IsActing : Line → Type 0
IsActing (lines.Repeat frame) = Unit {0}
IsActing (lines.Wake node) = Unit {0}
IsActing (lines.Local node value) = Unit {0}
IsActing line = ⊥

-- after the words of a line, with what was known before them
pub record SayingWith (Also : Keeping) (olds : List State) (line : Line) (past : List Entry) (m : Machine) : Type 0 where
  pub before : List Entry
  pub words : List ℕ
  pub is : past ≡ before ++ Said words ∷ []
  pub read : line_of (Said words) ≡ line ∷ []
  pub clock : m.outside.outer.clock ≡ ticks_asked (lines_run before)
  pub rested : RestedWith Also olds before m

-- and once it has begun
abbrev pub Opened : Keeping → List State → Line → List Entry → Machine → Type 0
Opened Also olds line past m = SayingWith Also olds line past m × (m.outside.outer.in_tick ≡ false)

-- of a line by which devices have events all is to come
abbrev pub ActsWith : Keeping → List State → Line → List Event → List Entry → Machine → Type 0
ActsWith Also olds line left past m = Opened Also olds line past m × IsActing line × IsEffect line m left

-- at each phase of a line
abbrev pub KnowLives : Keeping → List State → Phase → List Entry → Machine → Type 0
KnowLives Also olds (Said_line line) past m = SayingWith Also olds line past m
KnowLives Also olds (Begun line) past m = Opened Also olds line past m
KnowLives Also olds (Doing line left) past m = ActsWith Also olds line left past m ⊎ (AllByRecursion (CoversOuter MovesNone) left × RestedWith Also olds past m)
KnowLives Also olds (Ticked ticks) past m = InTick Also olds 0 past m × KnownNumber past m
KnowLives Also olds (Arriving frames ticks) past m = InTick Also olds 0 past m × KnownNumber past m
KnowLives Also olds (Giving results ticks) past m = InTick Also olds 0 past m
KnowLives Also olds (Ticking_devices place count ticks) past m = InTick Also olds place past m × (place + count ≡ length m.outside.devices)
KnowLives Also olds here past m = RestedWith Also olds past m

-- where the nodes that are joined are not known
abbrev pub Saying : List State → Line → List Entry → Machine → Type 0
Saying = SayingWith Simply

abbrev pub Rested : List State → List Entry → Machine → Type 0
Rested = RestedWith Simply

abbrev pub Acts : List State → Line → List Event → List Entry → Machine → Type 0
Acts = ActsWith Simply

abbrev pub KnowDevices : List State → Phase → List Entry → Machine → Type 0
KnowDevices = KnowLives Simply

-- ---- at the end of lines that were run whole

-- the device of a node has had what the transcript shows to have come to it, in the ticks that lines ask for
pub record LivedAsShown (node : ℕ) (transcript : List Entry) (old new : State) : Type 0 where
  pub events : List DeviceEvent
  pub runs : new ≡ after_events old events
  pub comes : CameAsShown node transcript events

-- so has the first device of each node but the controller's
abbrev pub AllLivedAsShown : List State → List Entry → List State → Type 0
AllLivedAsShown olds transcript news =
    (node : ℕ) (old new : State) → node ≢ controller → device_of node olds ≡ Some old → device_of node news ≡ Some new → LivedAsShown node transcript old new

-- ---- a device without what it drew

-- a device of which one was shown is the same, or is a lock, which is as awake as that
pub record IsNow (shown real : State) : Type 0 where
  pub kind : real.kind ≡ shown.kind
  pub awake : real.awake ≡ shown.awake
  pub plain : (shown.kind ≡ Lock → ⊥) → real ≡ shown
