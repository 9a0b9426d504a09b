-- Plain nodes (this project's own): their messages go unsealed, whole or in segments.
use Rattle.std.specs.Prelude.{◌≡◌, ℕ, ◌<◌, true, false, List, Some}
use Rattle.std.specs.List.{AllByRecursion}
use Rattle.proof_course.specs.Sessions.{first_course}
use Rattle.device_kinds.specs.declared.kind.Kind.{Kind}
use Rattle.device_kinds.specs.Kind.{lists as kind_lists}
use Rattle.device_sim.specs.State.{State}
use Rattle.host_orders.specs.Classes.{lists}
use Rattle.law_transcript.specs.Nodes.{device_of}
use Rattle.world_model.specs.Events.{Event}
use Rattle.proof_course_sealed.specs.Plain.{HasDevice, OrdersPlain}

-- A kind that lists Supervision, and not Security 0 (the classes are those of a Node Information Frame): it takes commands in sessions, whole or in segments, and not sealed.
pub record IsPlainKind (kind : Kind) : Type 0 where
  pub supervised : kind_lists kind 0x6C ≡ true
  pub unsealed : kind_lists kind 0x98 ≡ false

-- a node whose device, the first of it in the list, is of a plain kind
pub record IsPlainNode (devices : List State) (node : ℕ) : Type 0 where
  pub device : State
  pub first : device_of node devices ≡ Some device
  pub kind : IsPlainKind device.kind

-- a list of classes has no Security 0
pub record IsOpenList (classes : List ℕ) : Type 0 where
  pub unsealed : lists classes 0x98 ≡ false

-- over these events: the first device of the node is as its maker left it and takes what is not sealed, and the others of the node are idle; and the orders for the node go unsealed
pub record IsPlain (devices : List State) (events : List Event) (node : ℕ) : Type 0 where
  pub within : node < 233
  pub device : HasDevice node first_course devices
  pub orders : AllByRecursion (OrdersPlain node) events
