-- What is known of who does what outside the host (this project's own rule): the first device of each node stays at its place, and what is still to be entered is done by nodes that have
-- a device.
use Rattle.std.specs.Prelude.{◌≡◌, ℕ, is_some, true, List}
use Rattle.std.specs.List.{AllByRecursion}
use Rattle.law_wire.specs.device_sim.State.{State}
use Rattle.proof_walk.specs.mesh_sim.declared.event.AirEvent.{AirEvent}
use Rattle.proof_walk.specs.mesh_sim.declared.event.AirEvent.TheVariants.{Sent, Changed}
use Rattle.proof_walk.specs.mesh_sim.Fates.{place_of}
use Rattle.zw_text.specs.declared.entry.Entry.{Entry}
use Rattle.law_wire.specs.law_transcript.Nodes.{device_of}
use Rattle.law_wire.specs.Doings.{AreDevices, doers_of}
use Rattle.proof_walk.specs.Outside.{Pending, Judging, Dealing, Known, Knowing}
use Rattle.proof_walk.specs.ByLine.{KnownOf}

-- the law, of one entry
abbrev pub MayDo : List State → List Entry → Entry → Type 0
MayDo olds past entry = AreDevices olds (doers_of entry)

abbrev pub HasDevice : List State → ℕ → Type 0
HasDevice olds node = is_some (device_of node olds) ≡ true

-- what the air tells is of nodes that have one
abbrev pub IsOfDevice : List State → AirEvent → Type 0
IsOfDevice olds (Changed node at) = HasDevice olds node
IsOfDevice olds (Sent frame from to route payload) = HasDevice olds from
IsOfDevice olds event = Unit {0}

abbrev pub AreOfDevices : List State → Pending → Type 0
AreOfDevices olds (Judging ways) = Unit {0}
AreOfDevices olds (Dealing events) = AllByRecursion (IsOfDevice olds) events

pub record TieDoers (olds : List State) (pending : Pending) (devices : List State) : Type 0 where
  pub places : (node : ℕ) → place_of node devices ≡ place_of node olds
  pub done : AreOfDevices olds pending

abbrev pub KnowsDoers : List State → Pending → Knowing
KnowsDoers olds pending awaits past w = TieDoers olds pending w.devices

abbrev pub KnownDoers : List State → KnownOf
KnownDoers olds past m = Known (MayDo olds) (KnowsDoers olds) past m.outside
