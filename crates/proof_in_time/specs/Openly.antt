-- Nodes whose orders go unsealed, and orders and commands that go so (this project's own rule), whole or in segments.
use Rattle.std.specs.Prelude.{◌≡◌, ◌≢◌, ℕ, ◌<◌, ◌≤◌, Bool, true, false, List, Some}
use Rattle.std.specs.List.{AllByRecursion}
use Rattle.zw_base.specs.declared.order.Order.{Order}
use Rattle.law_transcript.specs.Nodes.{listing_of}
use Rattle.chip_sim.specs.Nodes.{is_marked}
use Rattle.device_sim.specs.State.{State}
use Rattle.host_orders.specs.Wrapping.{form_of}
use Rattle.host_orders.specs.declared.carriage.Carriage.{Carriage}
use Rattle.host_orders.specs.declared.carriage.Form.TheVariants.{Sealed}
use Rattle.host_model.specs.State.{Command, command_at}
use Rattle.host_model.specs.Taking.{is_secure}
use Rattle.world_model.specs.Events.{Event}
use Rattle.proof_course.specs.Sessions.{first_course}
use Rattle.proof_course_plain.specs.Mesh.{HasDevice}
use Rattle.proof_course_plain.specs.World.{OrdersPlain}

-- the first device of a node is as its maker left it and takes what is not sealed, and the others of the node are idle; and over these events its orders go unsealed
pub record IsOpenOver (devices : List State) (events : List Event) (n : ℕ) : Type 0 where
  pub within : n < 233
  pub at_first : HasDevice n first_course devices
  pub orders : AllByRecursion (OrdersPlain n) events

-- ---- commands

-- a command goes unsealed, to an end point that has a number on the wire
pub record GoesOpenly (order : Order) (carriage : Carriage) : Type 0 where
  pub unsealed : form_of carriage.outer ≢ Sealed
  pub end : order.end ≤ 127

-- so does each of these nodes
abbrev pub GoOpenly : List Bool → List Command → Type 0
GoOpenly these commands = (number : ℕ) (command : Command) → command_at commands number ≡ Some command → is_marked these command.order.node ≡ true → GoesOpenly command.order command.carriage

-- the device of each of these nodes does not list Security 0
abbrev pub ListUnsealed : List Bool → List State → Type 0
ListUnsealed these devices = (n : ℕ) → is_marked these n ≡ true → is_secure (Some (listing_of devices n)) ≡ false
