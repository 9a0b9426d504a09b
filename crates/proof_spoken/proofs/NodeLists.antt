-- What a node lists stays what its first device listed at first: devices keep their nodes and kinds.
use Rattle.std.proofs.Common.{◌≡◌, ℕ, Bool, true, false, List, [], ◌∷◌, ap, sym, ◌∙◌, subst}
use Rattle.std.specs.Prelude.{Option, Some, None, ◌==◌, if◌then◌else◌, option_map, suc}
use Rattle.device_kinds.specs.Kind.{classes_of}
use Rattle.proof_once.specs.device_sim.State.{State}
use Rattle.proof_once.specs.mesh_sim.Fates.{place_of}
use Rattle.proof_once.specs.outside_model.Results.{device_at}
use Rattle.proof_once.specs.law_transcript.Nodes.{device_of, listed_by, listing_of}
use Rattle.proof_once.specs.world_model.State.{Machine}
use Rattle.proof_once.specs.world_model.Events.{Event, happens}
use Rattle.proof_world.specs.GoingOn.{GoOn, AreSame}
use Rattle.proof_world.proofs.DevicePlaces.{go_then}
use Rattle.proof_spoken.proofs.ListsAtChip.{Lists}
use Rattle.proof_spoken.proofs.HeardLists.{ListsOn}

-- the first of the devices is the node's, or a later one is
first_lists : (x y : State) (new : List State) (device : State) (b : Bool) (place : Option ℕ) (rest : Option State) → y.kind ≡ x.kind
    → (device_at new place ≡ Some device → classes_of device.kind ≡ listed_by rest) → device_at (y ∷ new) (if b then Some 0 else option_map suc place) ≡ Some device
    → classes_of device.kind ≡ listed_by (if b then Some x else rest)
first_lists x y new device true place rest kind later found = let is : y ≡ device = cc in ap (λ (d : State). classes_of d.kind) (sym is) ∙ ap classes_of kind
first_lists x y new device false None rest kind later found = absurd cc
first_lists x y new device false (Some place) rest kind later found = later found

lists_still : (old new : List State) → AreSame old new → Lists (listing_of old) new
lists_still [] [] same n device found = absurd cc
lists_still [] (y ∷ new) same n device found = absurd same
lists_still (x ∷ old) [] same n device found = absurd same
lists_still (x ∷ old) (y ∷ new) same n device found =
    subst (λ (k : ℕ). classes_of device.kind ≡ listed_by (if k == n then Some x else device_of n old)) same.0.node
    (first_lists x y new device (y.node == n) (place_of n new) (device_of n old) same.0.kind (λ later. lists_still old new same.1 n device later) found)

-- so over all events of the machine
module _ (goes : (m : Machine) (event : Event) → GoOn m.outside.devices (happens m event).outside.devices) (stay : (old new : List State) → GoOn old new → AreSame old new) where
  pub lists_on : (devices : List State) (m : Machine) (events : List Event) → GoOn devices m.outside.devices → ListsOn (listing_of devices) m events
  lists_on devices m [] go = tt
  lists_on devices m (event ∷ events) go = (
    lists_still devices m.outside.devices (stay devices m.outside.devices go),
    lists_on devices (happens m event) events (go_then devices m.outside.devices (happens m event).outside.devices go (goes m event)),
  )
