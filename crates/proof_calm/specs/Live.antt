-- The frames on the air, while quiet lines are said (this project's own rule): none of the host is lost, nor one of the device of some nodes, and no hop of one is dead; and these nodes can be reached.
use Rattle.std.specs.Prelude.{◌≡◌, ◌≢◌, ℕ, ◌≤◌, Bool, true, false, List, length, Option, Some, None}
use Rattle.std.specs.List.{AllByRecursion}
use Rattle.serial_frame.specs.declared.item.Item.{Item}
use Rattle.serial_frame.specs.declared.item.Item.TheVariants.{Good}
use Rattle.serial_frame.specs.declared.unit.Unit.TheVariants.{Framed}
use Rattle.route_table.specs.Network.{Network}
use Rattle.route_table.specs.Route.{via}
use Rattle.route_table.specs.Walk.{Walk}
use Rattle.route_table.specs.declared.route.Route.{Route}
use Rattle.air_frames.specs.Flown.{Flown}
use Rattle.air_frames.specs.Frames.{FramesState}
use Rattle.air_frames.specs.declared.frame.Heading.TheVariants.{Homeward}
use Rattle.chip_functions.specs.declared.request.Request.{Request}
use Rattle.chip_functions.specs.declared.request.Request.TheVariants.{SendData}
use Rattle.chip_sim.specs.Nodes.{is_marked}
use Rattle.chip_sim.specs.Requests.{IsRoute, asked}
use Rattle.mesh_sim.specs.Fates.{dead_hop, dead_hop_of}
use Rattle.outside_model.specs.Events.{OuterEvent, Chip_takes}
use Rattle.outside_model.specs.State.{OuterState}
use Rattle.world_model.specs.Events.{Event, Outside_does}
use Rattle.proof_waking.specs.proof_traffic.OnAir.{on_air}

-- ---- frames

abbrev pub IsLive : Network → Flown → Type 0
IsLive net frame = (frame.lost ≡ false) × (dead_hop_of net frame ≡ None)

-- one of the host is so, and one of the device of one of these
abbrev pub IsLiveOf : List Bool → Network → Flown → Type 0
IsLiveOf these net frame = (frame.heading ≡ Homeward → is_marked these frame.node ≡ true) → IsLive net frame

-- ---- nodes

-- the chip's table has a walk to a node; no route of it to the node has a dead hop; and the air has a walk to the node
pub record IsReached (table net : Network) (n : ℕ) : Type 0 where
  pub apart : n ≢ 1
  pub over : List ℕ
  pub walk : Walk table n over
  pub live : (route : Route) → IsRoute table n route → dead_hop net 1 (via route) n ≡ None
  pub back : List ℕ
  pub way : Walk net n back

-- each frame that is on the air is so, and none is marked to be lost; no more frames are kept than were sent; and each of these nodes is reached
pub record LiveBy (these : List Bool) (table net : Network) (losing : ℕ) (frames : FramesState) : Type 0 where
  pub fly : AllByRecursion (IsLiveOf these net) (on_air frames)
  pub sized : length frames.frames ≤ frames.sent
  pub reached : (n : ℕ) → is_marked these n ≡ true → IsReached table net n
  pub none_marked : losing ≡ 0

abbrev pub HasLive : List Bool → OuterState → Type 0
HasLive these o = LiveBy these o.chip.state.table o.air.network o.air.losing o.air.frames

-- ---- what is assumed of events

-- a SendData that the chip judges is for one of these
abbrev pub AsksFor : List Bool → Option Request → Type 0
AsksFor these (Some (SendData n payload options id)) = is_marked these n ≡ true
AsksFor these request = Unit {0}

abbrev pub IsAskedFor : List Bool → Item → Type 0
IsAskedFor these (Good (Framed f)) = AsksFor these (asked f)
IsAskedFor these item = Unit {0}

abbrev pub AreAskedFor : List Bool → List (Item × Option Route) → Type 0
AreAskedFor these ways = AllByRecursion (λ (way : Item × Option Route). IsAskedFor these way.0) ways

abbrev pub IsAskedOutside : List Bool → OuterEvent → Type 0
IsAskedOutside these (Chip_takes count rest ways) = AreAskedFor these ways
IsAskedOutside these event = Unit {0}

abbrev pub IsAskedAt : List Bool → Event → Type 0
IsAskedAt these (Outside_does event) = IsAskedOutside these event
IsAskedAt these event = Unit {0}
