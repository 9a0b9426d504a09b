-- The frames on the air, and all that ever were there, as the course of one node has them (this project's own rule).
use Rattle.std.specs.Prelude.{◌≡◌, ℕ, ◌==◌, Bool, true, false, List, ◌∷◌, Some, slice_get}
use Rattle.supervision.specs.Host.{HostBook, begun_of}
use Rattle.proof_course.specs.Flying.{Flight}
use Rattle.proof_course.specs.Sessions.{Cargo, Of_host, Of_node, IsFreshCargo}
use Rattle.air_frames.specs.declared.frame.Heading.{Heading}
use Rattle.air_frames.specs.declared.frame.Heading.TheVariants.{Outward, Homeward}
use Rattle.air_frames.specs.Flown.{Flown}
use Rattle.air_frames.specs.Frames.{FramesState}
use Rattle.air_frames.specs.History.{Mark, begins_in}
use Rattle.proof_traffic.specs.Flights.{flown_in, Fly}
use Rattle.proof_course_plain.specs.Ways.{Beside}
use Rattle.proof_course_plain.specs.Meaning.{Asked, HostMeans, NodeMeans}

-- a frame as the course has it, by its direction, and by whether it is between node 1 and the node: what it holds, and how many sessions had begun.
-- Of other frames the course knows whose they are
abbrev pub BearsBy : Heading → Bool → List Asked → List ℕ → Flown → Flight Cargo → Type 0
BearsBy Outward true orders commands frame flight = (flight.since ≡ frame.begun) × HostMeans orders commands frame.payload flight.cargo
BearsBy Homeward true orders commands frame flight = (flight.since ≡ frame.begun) × NodeMeans frame.payload flight.cargo
BearsBy Outward false orders commands frame flight = flight.cargo ≡ Of_host
BearsBy Homeward false orders commands frame flight = flight.cargo ≡ Of_node

abbrev pub Bears : ℕ → List Asked → List ℕ → Flown → Flight Cargo → Type 0
Bears node orders commands frame flight = BearsBy frame.heading (frame.node == node) orders commands frame flight

-- the frames of the course are these that are on the air, and those of that history; it began as many sessions as the history has
pub record OnAir (node : ℕ) (orders : List Asked) (host : HostBook) (air old : List (Flight Cargo)) (log : List Mark) (flights : List Flown) (frames : FramesState) : Type 0 where
  pub fly : Fly log flights frames
  pub flying : Beside (Bears node orders host.commands) flights air
  pub flown : Beside (Bears node orders host.commands) (flown_in log) old
  pub begun : begins_in node log ≡ begun_of host

-- the oldest frame of the course is this one, and those after it are on the air still
pub record Lands (node : ℕ) (orders : List Asked) (host : HostBook) (air old : List (Flight Cargo)) (log : List Mark) (frame : Flown) (later : List Flown) (frames : FramesState) : Type 0 where
  pub flight : Flight Cargo
  pub flights : List (Flight Cargo)
  pub first : air ≡ flight ∷ flights
  pub bears : Bears node orders host.commands frame flight
  pub on_air : OnAir node orders host flights old log later frames

-- a frame that was on the air is this one, and is fresh
pub record WasThere (node : ℕ) (orders : List Asked) (host : HostBook) (old : List (Flight Cargo)) (frame : Flown) : Type 0 where
  pub at : ℕ
  pub flight : Flight Cargo
  pub found : slice_get old at ≡ Some flight
  pub bears : Bears node orders host.commands frame flight
  pub fresh : IsFreshCargo (begun_of host) flight.since flight.cargo
