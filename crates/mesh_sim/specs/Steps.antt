-- What may happen on the air, what the air and the devices are then, and what it tells (this project's own rule,
-- docs/AIR.md).
use Rattle.std.specs.Prelude.{◌≡◌, ◌≢◌, ℕ, zero, suc, ◌+◌, ◌-◌, ◌≤◌, ◌⊎◌, nat_lt, if◌then◌else◌, Bool, true, false, Option, Some, None, List, [], ◌∷◌, ◌++◌, length, slice_get, slice_set, option_map, All}
use Rattle.std.specs.Option.{unwrap_or}
use Rattle.route_table.specs.declared.route.Route.{Route}
use Rattle.device_sim.specs.State.{State}
use Rattle.device_sim.specs.Event.{DeviceEvent, Hears, device_after, device_replies}
use Rattle.air_frames.specs.declared.frame.Heading.{Heading}
use Rattle.air_frames.specs.declared.frame.Heading.TheVariants.{Outward, Homeward}
use Rattle.air_frames.specs.Flown.{Flown, IsSound}
use Rattle.air_frames.specs.Frames.{peer_of, landing, next_of, remembered}
use Rattle.air_frames.specs.Ages.{refusal_of}
use Rattle.mesh_sim.specs.declared.event.AirEvent.{AirEvent}
use Rattle.mesh_sim.specs.declared.event.AirEvent.TheVariants as tells
use Rattle.mesh_sim.specs.declared.fate.Fate.{Fate}
use Rattle.mesh_sim.specs.declared.fate.Fate.TheVariants.{Lost, Dead, Missed, AtChip, AtDevice}
use Rattle.mesh_sim.specs.Routes.{IsRoute, backwards}
use Rattle.mesh_sim.specs.Air.{AirState, linking, joining, beginning, is_joined, no_route, departing, going_home}
use Rattle.mesh_sim.specs.Fates.{Mesh, listener_of, fate_of}

-- a link is set; a node joins; so many sessions of a node have begun; marks on frames and on acknowledgements; a frame
-- of node 1, or of a device over the route to it, goes on the air; the next frame arrives; a frame is heard again. A
-- device that hears draws bytes for a nonce, and answers over the route to it
pub data AirStep : Type 0 where
  Links : (a b : ℕ) (live : Bool) → AirStep
  Joins : (node : ℕ) (listening : Bool) → AirStep
  Begins : (node sessions : ℕ) → AirStep
  Loses : (count : ℕ) → AirStep
  Loses_acks : (count : ℕ) → AirStep
  Sends : (node : ℕ) (route : Route) (payload : List ℕ) → AirStep
  Sends_from : (node : ℕ) (route : Option Route) (payload : List ℕ) → AirStep
  Arrives : (drawn : List ℕ) (route : Option Route) → AirStep
  Repeats : (number : ℕ) (drawn : List ℕ) (route : Option Route) → AirStep

-- the next frame has arrived
abbrev pub landed : AirState → AirState
landed air = record air { frames = landing air.frames }

-- the acknowledgement of a frame that is heard uses up a mark, where there is one
abbrev pub acknowledged : AirState → AirState
acknowledged air = record air { ack_losing = air.ack_losing - 1 }

abbrev pub status_of : AirState → ℕ
status_of air = if nat_lt 0 air.ack_losing then 1 else 0

-- the end of a frame of node 1
abbrev pub done_of : Heading → ℕ → ℕ → Option (ℕ × ℕ) → List AirEvent
done_of Outward number status dead = tells.Done number status dead ∷ []
done_of Homeward number status dead = []

-- so many changes of a device, from a place of its journal on
abbrev pub changed : ℕ → ℕ → ℕ → List AirEvent
changed node first zero = []
changed node first (suc more) = tells.Changed node first ∷ changed node (first + 1) more

-- a device puts a frame on the air
abbrev pub sent_event : AirState → ℕ → Option Route → List ℕ → AirEvent
sent_event air node way payload = tells.Sent (air.frames.sent + 1) node 1 (unwrap_or way no_route) payload

-- a device puts its replies on the air, one after another, over one way
abbrev pub answered : AirState → ℕ → Option Route → List (List ℕ) → AirState
answered air node way [] = air
answered air node way (reply ∷ replies) = answered (departing air node Homeward way reply) node way replies

abbrev pub answers : AirState → ℕ → Option Route → List (List ℕ) → List AirEvent
answers air node way [] = []
answers air node way (reply ∷ replies) = sent_event air node way reply ∷ answers (departing air node Homeward way reply) node way replies

-- one that is not joined puts nothing on it
abbrev pub answered_if : Bool → AirState → ℕ → Option Route → List (List ℕ) → AirState
answered_if true air node way replies = answered air node way replies
answered_if false air node way replies = air

abbrev pub answers_if : Bool → AirState → ℕ → Option Route → List (List ℕ) → List AirEvent
answers_if true air node way replies = answers air node way replies
answers_if false air node way replies = []

-- the air after a device heard a payload
abbrev pub air_hearing : AirState → ℕ → Option Route → State → DeviceEvent → AirState
air_hearing air node route device event =
    answered_if (is_joined air node) air node (option_map backwards route) (device_replies device event)

-- what is told then: that it was heard, the changes, the replies
abbrev pub outs_hearing : AirState → ℕ → ℕ → Option Route → State → DeviceEvent → List AirEvent
outs_hearing air number node route device event =
    tells.Heard number
    ∷ changed node (length device.journal) (length (device_after device event).journal - length device.journal)
    ++ answers_if (is_joined air node) air node (option_map backwards route) (device_replies device event)

-- the device at a place hears a payload; all others stay
abbrev pub heard_at : Mesh → ℕ → Option State → ℕ → Option Route → DeviceEvent → Mesh
heard_at mesh place None node route event = mesh
heard_at mesh place (Some device) node route event = record {
  air = air_hearing mesh.air node route device event;
  devices = slice_set mesh.devices place (device_after device event);
}

abbrev pub outs_at : Mesh → Option State → ℕ → ℕ → Option Route → DeviceEvent → List AirEvent
outs_at mesh None number node route event = []
outs_at mesh (Some device) number node route event = outs_hearing mesh.air number node route device event

-- the next frame arrives
abbrev pub arriving_as : Mesh → Flown → Fate → List ℕ → Option Route → Mesh
arriving_as mesh frame Lost drawn route = record mesh { air = landed mesh.air }
arriving_as mesh frame (Dead from to) drawn route = record mesh { air = landed mesh.air }
arriving_as mesh frame Missed drawn route = record mesh { air = landed mesh.air }
arriving_as mesh frame AtChip drawn route = record mesh { air = landed mesh.air }
arriving_as mesh frame (AtDevice place) drawn route =
    heard_at (record mesh { air = landed (acknowledged mesh.air) }) place (slice_get mesh.devices place) frame.node route (Hears frame.payload drawn)

abbrev pub arriving : Mesh → Option Flown → List ℕ → Option Route → Mesh
arriving mesh None drawn route = mesh
arriving mesh (Some frame) drawn route = arriving_as mesh frame (fate_of mesh.air.network mesh.devices frame) drawn route

abbrev pub arrival_outs_as : Mesh → ℕ → Flown → Fate → List ℕ → Option Route → List AirEvent
arrival_outs_as mesh number frame Lost drawn route = tells.Lost number ∷ done_of frame.heading number 1 None
arrival_outs_as mesh number frame (Dead from to) drawn route = tells.Unheard number ∷ done_of frame.heading number 1 (Some (from, to))
arrival_outs_as mesh number frame Missed drawn route = tells.Unheard number ∷ done_of frame.heading number 1 None
arrival_outs_as mesh number frame AtChip drawn route = tells.Heard number ∷ tells.ToChip number frame.node frame.payload ∷ []
arrival_outs_as mesh number frame (AtDevice place) drawn route =
    outs_at (record mesh { air = landed (acknowledged mesh.air) }) (slice_get mesh.devices place) number frame.node route (Hears frame.payload drawn)
    ++ tells.Done number (status_of mesh.air) None ∷ []

abbrev pub arrival_outs : Mesh → Option Flown → List ℕ → Option Route → List AirEvent
arrival_outs mesh None drawn route = []
arrival_outs mesh (Some frame) drawn route =
    arrival_outs_as mesh (mesh.air.frames.landed + 1) frame (fate_of mesh.air.network mesh.devices frame) drawn route

-- a device that hears it answers over the route of the air to it
abbrev pub MayArrive : Mesh → Flown → Fate → Option Route → Type 0
MayArrive mesh frame Lost route = Unit {0}
MayArrive mesh frame (Dead from to) route = Unit {0}
MayArrive mesh frame Missed route = Unit {0}
MayArrive mesh frame AtChip route = Unit {0}
MayArrive mesh frame (AtDevice place) route = IsRoute mesh.air.network frame.node route

abbrev pub MayArriveIf : Mesh → Option Flown → Option Route → Type 0
MayArriveIf mesh None route = ⊥
MayArriveIf mesh (Some frame) route = MayArrive mesh frame (fate_of mesh.air.network mesh.devices frame) route

-- a frame of node 1 is heard again by the first device of its node where that is awake, and else by nobody
abbrev pub MayHearAgain : AirState → ℕ → Option ℕ → Option Route → Type 0
MayHearAgain air node None route = Unit {0}
MayHearAgain air node (Some place) route = IsRoute air.network node route

abbrev pub heard_again : Mesh → Option ℕ → ℕ → Option Route → DeviceEvent → Mesh
heard_again mesh None node route event = mesh
heard_again mesh (Some place) node route event = heard_at mesh place (slice_get mesh.devices place) node route event

abbrev pub outs_again : Mesh → Option ℕ → ℕ → ℕ → Option Route → DeviceEvent → List AirEvent
outs_again mesh None number node route event = []
outs_again mesh (Some place) number node route event = outs_at mesh (slice_get mesh.devices place) number node route event

-- a frame is heard again: by the device of its node, where it is awake, or by node 1
abbrev pub repeating_by : Heading → Mesh → Flown → List ℕ → Option Route → Mesh
repeating_by Homeward mesh frame drawn route = mesh
repeating_by Outward mesh frame drawn route = heard_again mesh (listener_of frame.node mesh.devices) frame.node route (Hears frame.payload drawn)

abbrev pub repeating : Mesh → Option Flown → List ℕ → Option Route → Mesh
repeating mesh None drawn route = mesh
repeating mesh (Some frame) drawn route = repeating_by frame.heading mesh frame drawn route

abbrev pub repeat_outs_by : Heading → Mesh → ℕ → Flown → List ℕ → Option Route → List AirEvent
repeat_outs_by Homeward mesh number frame drawn route = tells.Heard number ∷ tells.ToChip number frame.node frame.payload ∷ []
repeat_outs_by Outward mesh number frame drawn route = outs_again mesh (listener_of frame.node mesh.devices) number frame.node route (Hears frame.payload drawn)

abbrev pub repeat_outs : Mesh → ℕ → Option Flown → List ℕ → Option Route → List AirEvent
repeat_outs mesh number None drawn route = []
repeat_outs mesh number (Some frame) drawn route = repeat_outs_by frame.heading mesh number frame drawn route

abbrev pub MayRepeatBy : Heading → Mesh → Flown → Option Route → Type 0
MayRepeatBy Homeward mesh frame route = Unit {0}
MayRepeatBy Outward mesh frame route = MayHearAgain mesh.air frame.node (listener_of frame.node mesh.devices) route

abbrev pub MayRepeat : Mesh → Option Flown → Option Route → Type 0
MayRepeat mesh None route = ⊥
MayRepeat mesh (Some frame) route = MayRepeatBy frame.heading mesh frame route

-- a payload on the air
abbrev pub IsPayload : List ℕ → Type 0
IsPayload payload = (1 ≤ length payload) × (length payload ≤ 46)

-- the air and the devices after a step
unfoldable pub mesh_after : Mesh → AirStep → Mesh
mesh_after mesh (Links a b live) = record mesh { air = linking mesh.air a b live }
mesh_after mesh (Joins node listening) = record mesh { air = joining mesh.air node listening }
mesh_after mesh (Begins node sessions) = record mesh { air = beginning mesh.air node sessions }
mesh_after mesh (Loses count) = record mesh { air = record mesh.air { losing = mesh.air.losing + count } }
mesh_after mesh (Loses_acks count) = record mesh { air = record mesh.air { ack_losing = mesh.air.ack_losing + count } }
mesh_after mesh (Sends node route payload) = record mesh { air = departing mesh.air node Outward (Some route) payload }
mesh_after mesh (Sends_from node route payload) = record mesh { air = going_home mesh.air node route payload }
mesh_after mesh (Arrives drawn route) = arriving mesh (next_of mesh.air.frames) drawn route
mesh_after mesh (Repeats number drawn route) = repeating mesh (remembered mesh.air.frames number) drawn route

-- what is told of it
unfoldable pub mesh_outs : Mesh → AirStep → List AirEvent
mesh_outs mesh (Links a b live) = []
mesh_outs mesh (Joins node listening) = []
mesh_outs mesh (Begins node sessions) = []
mesh_outs mesh (Loses count) = []
mesh_outs mesh (Loses_acks count) = []
mesh_outs mesh (Sends node route payload) = []
mesh_outs mesh (Sends_from node route payload) = []
mesh_outs mesh (Arrives drawn route) = arrival_outs mesh (next_of mesh.air.frames) drawn route
mesh_outs mesh (Repeats number drawn route) = repeat_outs mesh number (remembered mesh.air.frames number) drawn route

-- when it may happen
unfoldable pub MayHappen : Mesh → AirStep → Type 0
MayHappen mesh (Links a b live) = Unit {0}
MayHappen mesh (Joins node listening) = Unit {0}
MayHappen mesh (Begins node sessions) = (peer_of mesh.air.frames node).begun ≤ sessions
MayHappen mesh (Loses count) = Unit {0}
MayHappen mesh (Loses_acks count) = Unit {0}
MayHappen mesh (Sends node route payload) = (node ≢ 1) × IsSound route × IsPayload payload
MayHappen mesh (Sends_from node route payload) = (is_joined mesh.air node ≡ true) × IsRoute mesh.air.network node route × IsPayload payload
MayHappen mesh (Arrives drawn route) = MayArriveIf mesh (next_of mesh.air.frames) route × (length drawn ≡ 8)
MayHappen mesh (Repeats number drawn route) =
    (refusal_of mesh.air.frames number ≡ None) × MayRepeat mesh (remembered mesh.air.frames number) route × (length drawn ≡ 8)

-- one step after another
abbrev pub mesh_after_all : Mesh → List AirStep → Mesh
mesh_after_all mesh [] = mesh
mesh_after_all mesh (step ∷ steps) = mesh_after_all (mesh_after mesh step) steps

abbrev pub mesh_outs_all : Mesh → List AirStep → List AirEvent
mesh_outs_all mesh [] = []
mesh_outs_all mesh (step ∷ steps) = mesh_outs mesh step ++ mesh_outs_all (mesh_after mesh step) steps

abbrev pub MayAllHappen : Mesh → List AirStep → Type 0
MayAllHappen mesh [] = Unit {0}
MayAllHappen mesh (step ∷ steps) = MayHappen mesh step × MayAllHappen (mesh_after mesh step) steps

-- these steps were done, from one air and devices to others, and were told
pub record Did (steps : List AirStep) (old : AirState) (devices : List State) (new : AirState) (later : List State) (before all : List AirEvent) : Type 0 where
  pub may : MayAllHappen (record { air = old; devices = devices }) steps
  pub mesh : record { air = new; devices = later } ≡ mesh_after_all (record { air = old; devices = devices }) steps
  pub outs : all ≡ before ++ mesh_outs_all (record { air = old; devices = devices }) steps

-- the step is an arrival
abbrev pub IsArrival : AirStep → Type 0
IsArrival step = (drawn : List ℕ) × (route : Option Route) × (step ≡ Arrives drawn route)

-- the step is a repeat of the frame of that number
abbrev pub IsRepeatOf : ℕ → AirStep → Type 0
IsRepeatOf number step = (drawn : List ℕ) × (route : Option Route) × (step ≡ Repeats number drawn route)

-- exactly the frames arrived that were on the air
pub record Delivers (old : AirState) (devices : List State) (new : AirState) (later : List State) (before all : List AirEvent) : Type 0 where
  pub steps : List AirStep
  pub arrivals : All IsArrival steps
  pub each : length steps ≡ old.frames.sent - old.frames.landed
  pub did : Did steps old devices new later before all

-- the devices are as they were, or as a step that may happen, and is such a one, leaves them
abbrev pub IsCut : (AirStep → Type 0) → Mesh → List State → Type 0
IsCut Which mesh later = (later ≡ mesh.devices) ⊎ ((step : AirStep) × Which step × MayHappen mesh step × (later ≡ (mesh_after mesh step).devices))

-- a prefix was done, and told whole; the device of one further arrival may have done its part
pub record Stops (old : AirState) (devices : List State) (new : AirState) (later : List State) (before all : List AirEvent) : Type 0 where
  pub steps : List AirStep
  pub arrivals : All IsArrival steps
  pub may : MayAllHappen (record { air = old; devices = devices }) steps
  pub air_is : new ≡ (mesh_after_all (record { air = old; devices = devices }) steps).air
  pub cut : IsCut IsArrival (mesh_after_all (record { air = old; devices = devices }) steps) later
  pub outs : all ≡ before ++ mesh_outs_all (record { air = old; devices = devices }) steps

-- a device is as it was, or has heard, with the route over which it would answer
abbrev pub HasPerhaps : AirState → ℕ → State → State → DeviceEvent → Type 0
HasPerhaps air node old new event = (new ≡ old) ⊎ ((route : Option Route) × IsRoute air.network node route × (new ≡ device_after old event))

-- the next frame, with what is read of it
pub record Comes (air : AirState) (devices : List State) (heading : Heading) (fate : Fate) (number node : ℕ) (payload : List ℕ) : Type 0 where
  pub frame : Flown
  pub next : next_of air.frames ≡ Some frame
  pub heads : heading ≡ frame.heading
  pub becomes : fate ≡ fate_of air.network devices frame
  pub numbered : number ≡ air.frames.landed + 1
  pub ends : node ≡ frame.node
  pub carries : payload ≡ frame.payload

-- a device heard a payload, and what it did was told, with these events at the end
pub record HasHeard (air : AirState) (node : ℕ) (payload drawn : List ℕ) (route : Option Route) (old new : State) (later : AirState) (number : ℕ) (end before all : List AirEvent) : Type 0 where
  pub way : IsRoute air.network node route
  pub device : new ≡ device_after old (Hears payload drawn)
  pub air_is : later ≡ air_hearing air node route old (Hears payload drawn)
  pub outs : all ≡ before ++ (outs_hearing air number node route old (Hears payload drawn) ++ end)

-- a frame that may be repeated, with what is read of it
pub record ComesAgain (air : AirState) (frame_number : ℕ) (heading : Heading) (number node : ℕ) (payload : List ℕ) : Type 0 where
  pub frame : Flown
  pub allowed : refusal_of air.frames frame_number ≡ None
  pub kept : remembered air.frames frame_number ≡ Some frame
  pub heads : heading ≡ frame.heading
  pub numbered : number ≡ frame_number
  pub ends : node ≡ frame.node
  pub carries : payload ≡ frame.payload

-- what that says of a call
pub record IsHeardAgain (old : AirState) (devices : List State) (new : AirState) (later : List State) (number node : ℕ) (payload drawn : List ℕ) (route : Option Route) (before all : List AirEvent) : Type 0 where
  pub may : MayHearAgain old node (listener_of node devices) route
  pub moves : record { air = new; devices = later } ≡ heard_again (record { air = old; devices = devices }) (listener_of node devices) node route (Hears payload drawn)
  pub told : all ≡ before ++ outs_again (record { air = old; devices = devices }) (listener_of node devices) number node route (Hears payload drawn)
  pub eight : length drawn ≡ 8

-- the devices are as they were, or that device has heard
abbrev pub IsHeardPerhaps : AirState → List State → List State → ℕ → List ℕ → Type 0
IsHeardPerhaps air devices later node payload = (later ≡ devices) ⊎ ((drawn : List ℕ) × (route : Option Route) × MayHearAgain air node (listener_of node devices) route
    × (later ≡ (heard_again (record { air = air; devices = devices }) (listener_of node devices) node route (Hears payload drawn)).devices) × (length drawn ≡ 8))
