-- Whatever happens outside the host, the chip is told of nodes only what the first device of each lists.
use Rattle.std.proofs.Common.{◌≡◌, ℕ, ◌&&◌, Bool, true, false, List, refl}
use Rattle.std.specs.Prelude.{Option, Some, None, if◌then◌else◌}
use Rattle.std.specs.Option.{is_some}
use Rattle.chip_sim.specs.Events.{ChipEvent, Informed}
use Rattle.proof_once.specs.device_sim.State.{State}
use Rattle.proof_once.specs.mesh_sim.Air.{is_joined}
use Rattle.proof_once.specs.mesh_sim.Fates.{place_of}
use Rattle.proof_once.specs.outside_model.State.{OuterState}
use Rattle.proof_once.specs.outside_model.Results.{told_profile, profile_of, device_at}
use Rattle.proof_world.proofs.ChipMoves.{IsFree, Moves, Rule}
use Rattle.device_kinds.specs.Kind.{classes_of}
use Rattle.proof_spoken.proofs.Frames.{ProfileTells, EventTells}

-- what each node lists
module _ (listing : ℕ → List ℕ) where
  -- some events of the chip were done, each of which that tells it of a node tells what the node lists
  abbrev pub Informs : OuterState → OuterState → Type 0
  Informs = Moves (EventTells listing)

  -- the list of each node is that of the first of these devices with that node
  abbrev pub Lists : List State → Type 0
  Lists devices = (n : ℕ) (device : State) → device_at devices (place_of n devices) ≡ Some device → classes_of device.kind ≡ listing n

  told_lists : (n : ℕ) (device : Option State) → ((d : State) → device ≡ Some d → classes_of d.kind ≡ listing n) → ProfileTells listing n (told_profile device)
  told_lists n None lists = tt
  told_lists n (Some device) lists = by device.awake
    where
      by : (b : Bool) → ProfileTells listing n (if b then Some (profile_of device.kind) else None)
      by true = (device.kind, refl, lists device refl)
      by false = tt

  lists_for : (b : Bool) (n : ℕ) (device : Option State) → ((d : State) → device ≡ Some d → classes_of d.kind ≡ listing n) → ProfileTells listing n (if b then told_profile device else None)
  lists_for true n device lists = told_lists n device lists
  lists_for false n device lists = tt

  free_tells : (event : ChipEvent) → IsFree event → EventTells listing event
  free_tells (Informed n profile) free = absurd free
  free_tells event free = tt

  pub listed : Rule (EventTells listing) Lists
  listed = record {
    free = free_tells;
    informed = λ air devices node route lists. lists_for (is_joined air node && is_some route) node (device_at devices (place_of node devices)) (lists node);
  }
