-- Which nodes speak on the air, while quiet lines are said (this project's own rule): those that are joined to the chip.
use Rattle.std.specs.Prelude.{◌≡◌, ℕ, Bool, true, List}
use Rattle.std.specs.List.{AllByRecursion}
use Rattle.air_frames.specs.Flown.{Flown}
use Rattle.air_frames.specs.declared.frame.Heading.TheVariants.{Homeward}
use Rattle.mesh_sim.specs.Air.{is_joined}
use Rattle.outside_model.specs.State.{OuterState}
use Rattle.proof_waking.specs.proof_traffic.OnAir.{on_air}
use Rattle.proof_calm.specs.Known.{IsMember}

-- a frame of a device is of such a node
abbrev pub IsOfMember : List Bool → Flown → Type 0
IsOfMember joined frame = frame.heading ≡ Homeward → IsMember joined frame.node

-- each that is on the air is; and each node that is joined in the air is joined to the chip
pub record SpeaksHome (joined : List Bool) (o : OuterState) : Type 0 where
  pub frames : AllByRecursion (IsOfMember joined) (on_air o.air.frames)
  pub nodes : (n : ℕ) → is_joined o.air n ≡ true → IsMember joined n
