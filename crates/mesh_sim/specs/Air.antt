-- What the air is, and frames that go on it (this project's own rule, docs/AIR.md).
use Rattle.std.specs.Prelude.{ℕ, ◌-◌, ◌<◌, ◌≤◌, ◌==◌, ◌||◌, nat_lt, if◌then◌else◌, Bool, true, false, Option, List, [], ◌∷◌, replicate, slice_set, slice_index_or, option_map}
use Rattle.std.specs.Option.{is_none, unwrap_or}
use Rattle.std.specs.FinSet as set
use Rattle.route_table.specs.declared.route.Route.{Route}
use Rattle.route_table.specs.Network.{Network, no_network, link_of}
use Rattle.air_frames.specs.declared.frame.Heading.{Heading}
use Rattle.air_frames.specs.declared.frame.Heading.TheVariants.{Homeward}
use Rattle.air_frames.specs.Flown.{Flown}
use Rattle.air_frames.specs.Frames.{FramesState, no_frames, peer_of, putting}
use Rattle.mesh_sim.specs.Routes.{backwards}

-- its links and repeaters, which nodes are joined (by number), the frames, and how many of the next frames, and of the
-- next acknowledgements of frames of node 1, are marked as lost
pub record AirState : Type 0 where
  pub network : Network
  pub joined : List Bool
  pub frames : FramesState
  pub losing : ℕ
  pub ack_losing : ℕ

-- that, and how many more frames can surely be put on it
pub record Airing : Type 0 where
  pub state : AirState
  pub room : ℕ

-- nothing is linked or joined, and nothing was sent
abbrev pub first_air : AirState
first_air = record { network = no_network; joined = replicate 233 false; frames = no_frames; losing = 0; ack_losing = 0 }

-- the two nodes hear each other, or no longer
abbrev pub with_link : Network → ℕ → ℕ → Bool → Network
with_link net a b true = if a == b then net else record net { links = set.insert net.links (link_of a b) }
with_link net a b false = record net { links = set.remove net.links (link_of a b) }

abbrev pub linking : AirState → ℕ → ℕ → Bool → AirState
linking air a b live = record air { network = with_link air.network a b live }

-- a node is joined, and a repeater where it listens
abbrev pub with_repeater : Network → ℕ → Bool → Network
with_repeater net node true = record net { repeaters = set.insert net.repeaters node }
with_repeater net node false = record net { repeaters = set.remove net.repeaters node }

abbrev pub joining : AirState → ℕ → Bool → AirState
joining air node listening =
    record air { joined = slice_set air.joined node true; network = with_repeater air.network node listening }

abbrev pub is_joined : AirState → ℕ → Bool
is_joined air node = slice_index_or air.joined node false

-- so many sessions of a node have begun
abbrev pub beginning : AirState → ℕ → ℕ → AirState
beginning air node sessions = record air {
  frames = record air.frames { peers = slice_set air.frames.peers node (record (peer_of air.frames node) { begun = sessions }) };
}

-- the route of a frame that has none
abbrev pub no_route : Route
no_route = record { count = 0; hops = 0 ∷ 0 ∷ 0 ∷ 0 ∷ [] }

-- a frame goes on the air; with a mark, which it uses up, or without a route it is lost
abbrev pub departing : AirState → ℕ → Heading → Option Route → List ℕ → AirState
departing air node heading route payload = record air {
  frames = putting air.frames (record {
    node = node;
    heading = heading;
    route = unwrap_or route no_route;
    lost = nat_lt 0 air.losing || is_none route;
    payload = payload;
  });
  losing = air.losing - 1;
}

-- a frame of a device, over the route to it walked backwards
abbrev pub going_home : AirState → ℕ → Option Route → List ℕ → AirState
going_home air node route payload = departing air node Homeward (option_map backwards route) payload

-- the frame of that number is on the air
pub record IsOnAir (air : AirState) (number : ℕ) : Type 0 where
  pub departed : number ≤ air.frames.sent
  pub under_way : air.frames.landed < number

-- the payload of a frame
abbrev pub payload_of : Option Flown → Option (List ℕ)
payload_of frame = option_map (λ (f : Flown). f.payload) frame
