-- What is known of networks at each phase of a line (this project's own rule). A line that sets links, lets a node join or has links learned is counted with its words, and takes
-- effect by its event; between these the machine has the networks of the transcript before the words.
use Rattle.std.specs.Prelude.{◌≡◌, ◌≢◌, ◌⊎◌, ℕ, Bool, true, false, List, [], ◌∷◌, ◌++◌, Some}
use Rattle.std.specs.List.{AllByRecursion, flat_map}
use Rattle.route_table.specs.Network.{Network}
use Rattle.chip_sim.specs.Nodes.{is_marked}
use Rattle.device_sim.specs.State.{State}
use Rattle.mesh_sim.specs.declared.event.AirEvent.{AirEvent}
use Rattle.mesh_sim.specs.declared.event.AirEvent.TheVariants.{Sent}
use Rattle.zw_text.specs.declared.line.Line.{Line}
use Rattle.zw_text.specs.declared.line.Line.TheVariants as lines
use Rattle.zw_text.specs.declared.entry.Entry.{Entry}
use Rattle.zw_text.specs.declared.entry.Entry.TheVariants.{Said, Asleep}
use Rattle.zw_text.specs.Transcript.{line_of, line_last, join_of}
use Rattle.law_wire.specs.law_transcript.Lists.{Has}
use Rattle.law_wire.specs.law_transcript.Nodes.{controller, first_node, is_joined}
use Rattle.law_wire.specs.Routes.{GoesHome, MayGo}
use Rattle.host_keep.specs.Kept.{Kept, node_of as kept_at}
use Rattle.host_keep.specs.RecordText.{IsTextOf}
use Rattle.host_keep.specs.declared.record.Record.{Record}
use Rattle.host_keep.specs.declared.record.Record.TheVariants.{Joined}
use Rattle.host_model.specs.Facts.{HostFacts}
use Rattle.host_model.specs.Holding.{Holds}
use Rattle.outside_model.specs.Chip.{shown_via}
use Rattle.outside_model.specs.State.{Outside}
use Rattle.outside_model.specs.Events.{OuterEvent, Joins, Discovers, Links}
use Rattle.proof_walk.specs.world_model.State.{Machine}
use Rattle.proof_walk.specs.world_model.Events.{Event, Outside_does}
use Rattle.proof_walk.specs.world_model.Lines.{IsEffect}
use Rattle.proof_walk.specs.proof_device.GoingOn.{GoOn}
use Rattle.proof_walk.specs.Phases.{Phase}
use Rattle.proof_walk.specs.ByLine.{KnownOf, by_line}
use Rattle.proof_walk.specs.Outside.{HasNoWords, Pending, Judging, Dealing, Knowing, Known, CoversOuter}
use Rattle.proof_routes.specs.Networks.{Tie}

-- ---- entries

-- an event enters no words, and its frames go by route
abbrev pub Asks : List State → List Entry → Entry → Type 0
Asks devices past e = MayGo devices past e × HasNoWords e

-- ---- outside the host

-- the nodes that lines let join
abbrev pub joins_in : List Line → List ℕ
joins_in lines = flat_map join_of lines

-- no `join` stands last, which a refusal could still take back
abbrev pub NoJoin : List Entry → Type 0
NoJoin past = joins_in (line_last past) ≡ []

-- a frame that is still to be entered goes home from a node that is joined
abbrev pub ComesHome : Network → List Bool → AirEvent → Type 0
ComesHome net joined (Sent frame from to route payload) = (is_marked joined from ≡ true) × GoesHome net from (shown_via route)
ComesHome net joined event = Unit {0}

abbrev pub AllComeHome : Pending → Outside → Type 0
AllComeHome (Judging ways) w = Unit {0}
AllComeHome (Dealing events) w = AllByRecursion (ComesHome w.outer.air.network w.outer.air.joined) events

abbrev pub Knows : List State → Pending → Knowing
Knows devices pending awaits past w = Tie devices past w × NoJoin past × AllComeHome pending w

-- an event that sets no network
abbrev pub SetsNone : OuterEvent → Type 0
SetsNone (Joins node) = ⊥
SetsNone Discovers = ⊥
SetsNone (Links a b live) = ⊥
SetsNone event = Unit {0}

-- ---- the host

-- among these texts is one of that record
abbrev pub HasRecord : List (List ℕ) → Record → Type 0
HasRecord texts one = (text : List ℕ) × Has texts text × IsTextOf one text

-- The keeper tells its records. Each joined node but the first is recorded as joined, and so kept by the host, also when it has started again.
pub record Remembers (past : List Entry) (m : Machine) : Type 0 where
  pub texts : List (List ℕ)
  pub told : m.records ≡ Some texts
  pub recorded : (node : ℕ) → is_joined past node ≡ true → (node ≡ first_node) ⊎ HasRecord texts (Joined node)
  pub kept : Kept
  pub holds : Holds m.host.state kept
  pub known : (node : ℕ) → is_joined past node ≡ true → (kept_at kept node).joined ≡ true
  pub facts : HostFacts m.host.state

-- ---- phases

-- the devices are those of the beginning, after events of their own
abbrev pub HasDevices : List State → List Entry → Machine → Type 0
HasDevices devices past m = Remembers past m × GoOn devices m.outside.devices

abbrev pub Settled : List State → KnownOf
Settled devices past m = Known (Asks devices) (Knows devices) past m.outside × HasDevices devices past m

-- after the words of a `join` that the host took, as if something stood behind them
pub record HasJoined (devices : List State) (past : List Entry) (m : Machine) : Type 0 where
  pub before : List Entry
  pub words : List ℕ
  pub node : ℕ
  pub is : past ≡ before ++ Said words ∷ []
  pub read : line_of (Said words) ≡ lines.Join node ∷ []
  pub settled : Settled devices (past ++ Asleep 0 ∷ []) m

abbrev pub Else : List State → KnownOf
Else devices past m = Settled devices past m ⊎ HasJoined devices past m

-- after the words of a line, with what was known before them
pub record Saying (devices : List State) (line : Line) (past : List Entry) (m : Machine) : Type 0 where
  pub before : List Entry
  pub words : List ℕ
  pub is : past ≡ before ++ Said words ∷ []
  pub read : line_of (Said words) ≡ line ∷ []
  pub tie : Tie devices before m.outside
  pub others : HasDevices devices before m

-- and once it has begun
abbrev pub Opened : List State → Line → KnownOf
Opened devices line past m = Saying devices line past m × (m.outside.outer.in_tick ≡ false)

-- a line that sets no network
abbrev pub IsPlain : Line → Type 0
IsPlain (lines.Join node) = ⊥
IsPlain (lines.Link a b) = ⊥
IsPlain (lines.Unlink a b) = ⊥
IsPlain lines.Discover = ⊥
IsPlain line = Unit {0}

-- of a line that sets a network all is to come
abbrev pub Sets : List State → Line → List Event → KnownOf
Sets devices line left past m = Opened devices line past m × (IsPlain line → ⊥) × IsEffect line m left

-- a node has joined the host, which has recorded it, and is to join chip and air
pub record Joining (devices : List State) (left : List Event) (past : List Entry) (m : Machine) : Type 0 where
  pub before : List Entry
  pub words : List ℕ
  pub node : ℕ
  pub is : past ≡ before ++ Said words ∷ []
  pub read : line_of (Said words) ≡ lines.Join node ∷ []
  pub left_is : left ≡ Outside_does (Joins node) ∷ []
  pub tie : Tie devices before m.outside
  pub others : HasDevices devices before m
  pub fresh : is_joined before node ≡ false
  pub apart : node ≢ controller
  pub recorded : HasRecord others.0.texts (Joined node)
  pub knows : (kept_at others.0.kept node).joined ≡ true

-- with these events of the effect to come
abbrev pub Left : List State → Line → List Event → KnownOf
Left devices line left past m =
    Sets devices line left past m ⊎ (Joining devices left past m
    ⊎ ((AllByRecursion (CoversOuter SetsNone) left × Settled devices past m) ⊎ ((left ≡ []) × HasJoined devices past m)))

-- at each phase of a line
abbrev pub KnowNetworks : List State → Phase → List Entry → Machine → Type 0
KnowNetworks devices here past m = by_line (Saying devices) (Opened devices) (Left devices) (Else devices) here past m
