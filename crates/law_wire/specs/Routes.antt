-- Over which route each frame goes (at most four repeaters: Serial API; which of several is this project's own rule): a frame of
-- the controller over that of the chip's table, a frame of a device over that of the air, from its other end.
use Rattle.std.specs.Prelude.{◌≡◌, ◌⊎◌, ℕ, ◌==◌, Bool, true, false, List, [], reverse, ⊤}
use Rattle.route_table.specs.Network.{Network}
use Rattle.route_table.specs.Walk.{Walk, ComesFirst}
use Rattle.law_transcript.specs.device_sim.State.{State}
use Rattle.zw_text.specs.declared.entry.Entry.{Entry}
use Rattle.zw_text.specs.declared.entry.Entry.TheVariants.{Air}
use Rattle.law_transcript.specs.Lists.{EachAfter}
use Rattle.law_transcript.specs.Nodes.{controller, is_joined}
use Rattle.law_wire.specs.Networks.{air_network, chip_network}

-- the repeaters are the route to a node: the walk that comes before all others
pub record IsRouteTo (net : Network) (node : ℕ) (repeaters : List ℕ) : Type 0 where
  pub walk : Walk net node repeaters
  pub least : (other : List ℕ) → Walk net node other → ComesFirst repeaters other

-- there is no walk to a node
abbrev pub HasNoRoute : Network → ℕ → Type 0
HasNoRoute net node = (repeaters : List ℕ) → Walk net node repeaters → ⊥

-- a frame of a device goes over the route to its node, walked backwards; where there is none, it shows no repeaters
abbrev pub GoesHome : Network → ℕ → List ℕ → Type 0
GoesHome net node repeaters = IsRouteTo net node (reverse repeaters) ⊎ (HasNoRoute net node × (repeaters ≡ []))

-- the way of a frame, by whether the controller sends it; only joined nodes send to it
abbrev pub GoesOver : Bool → List State → List Entry → ℕ → ℕ → List ℕ → Type 0
GoesOver true devices past sender receiver repeaters = IsRouteTo (chip_network devices past) receiver repeaters
GoesOver false devices past sender receiver repeaters =
    (is_joined past sender ≡ true) × GoesHome (air_network devices past) sender repeaters

abbrev pub MayGo : List State → List Entry → Entry → Type 0
MayGo devices past (Air frame sender receiver repeaters payload) = GoesOver (sender == controller) devices past sender receiver repeaters
MayGo devices past _ = ⊤

-- each frame goes over the route of that moment
abbrev pub GoesByRoute : List State → List Entry → Type 0
GoesByRoute devices transcript = EachAfter (MayGo devices) [] transcript
