-- What a message that is heard is in the course of the sessions of a device (this project's own).
use Rattle.std.specs.Prelude.{◌≡◌, ◌≢◌, ◌⊎◌, ℕ, ◌%◌, Bool, Option, Some, None}
use Rattle.supervision.specs.Device.{Taken, finished}
use Rattle.supervision.specs.declared.session.TheConstants.{WORKING}
use Rattle.transport_segments.specs.Kept.{Reassembly, Empty, Partial}
use Rattle.proof_course.specs.Sessions.{Message, after_message, kept_after}
use Rattle.device_sim.specs.device_stack.State.{State}

-- the message landed, and the commands of a session that it began may have come to their end at once
abbrev pub HasLanded : Taken → Message → Bool → Taken → Type 0
HasLanded old message is_whole new =
    (new ≡ after_message old message is_whole)
    ⊎ ((status : ℕ) × (((after_message old message is_whole).status ≡ WORKING) × ((status ≢ WORKING) × (new ≡ finished (after_message old message is_whole) status))))

-- segments are kept of that session, as far as an id of four bits tells it, or none are
abbrev pub IsOf : Reassembly → Option ℕ → Type 0
IsOf Empty None = Unit {0}
IsOf (Partial id places) (Some session) = id ≡ session % 16
IsOf Empty (Some session) = ⊥
IsOf (Partial id places) None = ⊥

-- a step of the course of a device: its sessions, and what is kept of segments
pub record LandsAs (old new : State) (message : Message) (is_whole : Bool) : Type 0 where
  pub sessions : HasLanded old.sessions message is_whole new.sessions
  pub kept : (kept : Option ℕ) → IsOf old.reassembly kept → IsOf new.reassembly (kept_after old.sessions kept message is_whole)
