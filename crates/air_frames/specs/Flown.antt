-- A frame as it went on the air (this project's own rule, docs/AIR.md).
use Rattle.std.specs.Prelude.{ℕ, ◌≤◌, Bool, List, All}
use Rattle.route_table.specs.declared.route.Route.{Route}
use Rattle.route_table.specs.Route.{via}
use Rattle.air_frames.specs.declared.frame.Heading.{Heading}
use Rattle.air_frames.specs.declared.frame.Departure.{Departure}
use Rattle.air_frames.specs.declared.peer.Peer.{Peer}

-- the end that is not node 1, the direction, the repeaters, whether it arrives nowhere, the payload, and the counts of
-- its node as they stood when it was on the air: sessions begun, and new nonces shown
pub record Flown : Type 0 where
  pub node : ℕ
  pub heading : Heading
  pub route : Route
  pub lost : Bool
  pub payload : List ℕ
  pub begun : ℕ
  pub shown : ℕ

-- at most four repeaters, each of them a node
pub record IsSound (route : Route) : Type 0 where
  pub few : route.count ≤ 4
  pub nodes : All (λ n. (1 ≤ n) × (n ≤ 232)) (via route)

-- the frame of a departure, with the counts of its node
abbrev pub flown : Departure → Peer → Flown
flown departure peer = record {
  node = departure.node;
  heading = departure.heading;
  route = departure.route;
  lost = departure.lost;
  payload = departure.payload;
  begun = peer.begun;
  shown = peer.nonces.shown;
}
