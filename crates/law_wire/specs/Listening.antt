-- Devices of a kind that listens (this project's own kinds): they are awake at all times.
use Rattle.std.specs.Prelude.{◌≡◌, true}
use Rattle.law_transcript.specs.device_kinds.Kind.{listens}
use Rattle.law_transcript.specs.device_stack.State.{State}

-- a device is of a kind that listens, and awake
pub record IsUp (device : State) : Type 0 where
  pub is_listening : listens device.kind ≡ true
  pub awake : device.awake ≡ true
