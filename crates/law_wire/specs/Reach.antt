-- Whether a node can be reached (at most four repeaters: Serial API; what is asked for is this project's own rule): over the route of the chip's table,
-- whose links are all live in the air, and back over a way of the air.
use Rattle.std.specs.Prelude.{ℕ, List}
use Rattle.route_table.specs.Walk.{Hops, Walk}
use Rattle.law_transcript.specs.device_sim.State.{State}
use Rattle.zw_text.specs.declared.entry.Entry.{Entry}
use Rattle.law_transcript.specs.Nodes.{controller}
use Rattle.law_wire.specs.Networks.{air_network, chip_network}
use Rattle.law_wire.specs.Routes.{IsRouteTo}

pub record CanBeReached (devices : List State) (past : List Entry) (node : ℕ) : Type 0 where
  pub repeaters : List ℕ
  pub route : IsRouteTo (chip_network devices past) node repeaters
  pub live : Hops (air_network devices past) controller repeaters node
  pub back : List ℕ
  pub way : Walk (air_network devices past) node back
