-- What is on its way to the host asks it for nothing (this project's own rule): neither for a nonce nor for a segment.
use Rattle.std.specs.Prelude.{Bool, List}
use Rattle.std.specs.List.{AllByRecursion}
use Rattle.world_model.specs.State.{Machine}
use Rattle.proof_messages.specs.Reporting.{TellsPlainly}
use Rattle.proof_answered.specs.proof_calm.proof_traffic.OnAir.{on_air}
use Rattle.proof_answered.specs.proof_calm.Tied.{unheard}
use Rattle.proof_answered.specs.Outward.{IsOfSaying}
use Rattle.proof_answered.specs.Workers.{IsFromSaying}

-- the frames that are there are for or of these nodes, and so are the payloads that the chip has for the host; what their devices say tells plainly
pub record SpeakPlainly (these : List Bool) (m : Machine) : Type 0 where
  pub frames : AllByRecursion (IsOfSaying these TellsPlainly) (on_air m.outside.outer.air.frames)
  pub pending : AllByRecursion (IsFromSaying these TellsPlainly) (unheard m.outside.outer)
