-- What tells the host of the end of no session (this project's own rule over the Supervision Command Class).
use Rattle.std.specs.Prelude.{◌≡◌, ◌≢◌, ◌⊎◌, ℕ, List}
use Rattle.std.specs.List.{AllByRecursion}
use Rattle.supervision.specs.Session.{wire_id}
use Rattle.supervision.specs.declared.session.TheConstants.{WORKING}
use Rattle.serial_frame.specs.Frame.{FrameParts}
use Rattle.air_frames.specs.Flown.{Flown}
use Rattle.air_frames.specs.declared.frame.Heading.TheVariants.{Homeward}
use Rattle.host_heard.specs.Telling.{heard_at}
use Rattle.host_heard.specs.declared.payload.Heard.TheVariants.{Messages}
use Rattle.host_heard.specs.declared.told.Told.{Told}
use Rattle.host_heard.specs.declared.told.Told.TheVariants.{Report}
use Rattle.device_kinds.specs.Answers.{report_status}
use Rattle.world_model.specs.State.{Machine}
use Rattle.proof_answered.specs.proof_calm.proof_traffic.OnAir.{on_air}
use Rattle.proof_answered.specs.proof_calm.Tied.{unheard}
use Rattle.proof_in_time.specs.Coming.{brings}

-- it is no final report of a session
abbrev pub IsUnended : ℕ → Told → Type 0
IsUnended session (Report id status wakes) = (id ≢ wire_id session) ⊎ (status ≡ report_status WORKING)
IsUnended session told = Unit {0}

-- so is all that is heard in a payload
abbrev pub EndsNone : ℕ → List ℕ → Type 0
EndsNone session payload = (told : List Told) → heard_at payload ≡ Messages told → AllByRecursion (IsUnended session) told

-- so are the payloads of a node that the chip has for the host
abbrev pub NoneToldEnds : ℕ → ℕ → List FrameParts → Type 0
NoneToldEnds n session frames = AllByRecursion (λ (frame : FrameParts). (payload : List ℕ) → frame ≡ brings n payload → EndsNone session payload) frames

-- and those that fly from it
abbrev pub NoneFliesEnds : ℕ → ℕ → List Flown → Type 0
NoneFliesEnds n session flights = AllByRecursion (λ (frame : Flown). frame.node ≡ n → frame.heading ≡ Homeward → EndsNone session frame.payload) flights

pub record NoneEnds (n session : ℕ) (m : Machine) : Type 0 where
  pub flying : NoneFliesEnds n session (on_air m.outside.outer.air.frames)
  pub told : NoneToldEnds n session (unheard m.outside.outer)
