-- The frame of the air that may be repeated is that which the transcript shows under its number; and who listens is a device of the list.
use Rattle.std.proofs.Common.{◌≡◌, ℕ, zero, suc, if◌then◌else◌, List, [], sym, ap, ◌∙◌}
use Rattle.std.specs.Prelude.{Option, Some, None, slice_get}
use Rattle.std.specs.Option.{option_map}
use Rattle.device_sim.specs.State.{State}
use Rattle.air_frames.specs.declared.frame.Departure.{Departure}
use Rattle.air_frames.specs.Flown.{Flown}
use Rattle.air_frames.specs.Frames.{remembered}
use Rattle.air_frames.specs.History.{stamped}
use Rattle.mesh_sim.specs.Fates.{awake_at, is_awake, listener_of}
use Rattle.zw_text.specs.declared.entry.Entry.{Entry}
use Rattle.zw_text.specs.Transcript.{AirFrame, frames}
use Rattle.law_transcript.specs.Repeats.{frame_of}
use Rattle.outside_model.specs.State.{Outside}
use Rattle.proof_air.proofs.ChangesOutside.{listener_is}
use Rattle.proof_air.specs.proof_walk.Outside.{nothing}
use Rattle.proof_air.specs.Logs.{plain, Tie}
use Rattle.proof_air.proofs.Counting.{departure, at_its_place}
use Rattle.proof_air.proofs.Homes.{went_so, shown_so, again_stands}

-- which way it goes, and from or to which node
pub record IsShown (past : List Entry) (number : ℕ) (frame : Flown) : Type 0 where
  pub shown : AirFrame
  pub found : frame_of past number ≡ Some shown
  pub heading : (departure shown).heading ≡ frame.heading
  pub node : (departure shown).node ≡ frame.node

found_shown : (past : List Entry) (number : ℕ) (found : Option AirFrame) (one : Departure) (frame : Flown) → frame_of past number ≡ found → option_map departure found ≡ Some (plain one)
    → one.heading ≡ frame.heading → one.node ≡ frame.node → IsShown past number frame
found_shown past number None one frame at is heads same = absurd cc
found_shown past number (Some shown) one frame at is heads same =
    let alike : departure shown ≡ plain one = cc in
    record { shown = shown; found = at; heading = ap (λ (d : Departure). d.heading) alike ∙ heads; node = ap (λ (d : Departure). d.node) alike ∙ same }

pub again_shown : (past : List Entry) (w : Outside) → Tie nothing past w → (number : ℕ) (frame : Flown) → remembered w.outer.air.frames number ≡ Some frame → IsShown past number frame
again_shown past w tie zero frame is = absurd cc
again_shown past w tie (suc at) frame is =
    let stands : slice_get (stamped [] tie.log) at ≡ Some frame = again_stands past w tie at frame is in
    let went = went_so past w tie at frame stands in
    found_shown past (suc at) (slice_get (frames past) at) went.departs frame (at_its_place past at) (shown_so past w tie at frame stands) went.heading went.node

-- a device that listens stands in the list
pub listener_stands : (devices : List State) (node place : ℕ) → listener_of node devices ≡ Some place → slice_get devices place ≡ None → ⊥
listener_stands devices node place listens none =
    let bad : None ≡ Some place = sym (ap (λ (found : Option State). if is_awake found then Some place else None) none)
    ∙ (ap (awake_at devices) (sym (listener_is node devices place listens)) ∙ listens) in
    cc
