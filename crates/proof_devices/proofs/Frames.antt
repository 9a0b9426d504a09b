-- A frame that goes to a node is that which the transcript shows under its number, where it is the next to arrive or may be repeated.
use Rattle.std.proofs.Common.{◌≡◌, ℕ, zero, suc, ◌+◌, ◌==◌, Bool, true, false, if◌then◌else◌, List, [], ap, subst, ◌∙◌, arith}
use Rattle.std.specs.Prelude.{Option, Some, None, slice_get}
use Rattle.std.specs.Option.{option_map}
use Rattle.air_frames.specs.declared.frame.Departure.{Departure}
use Rattle.air_frames.specs.declared.frame.Heading.TheVariants.{Outward, Homeward}
use Rattle.air_frames.specs.Flown.{Flown}
use Rattle.air_frames.specs.Frames.{next_of, remembered}
use Rattle.air_frames.specs.History.{stamped}
use Rattle.zw_text.specs.declared.entry.Entry.{Entry}
use Rattle.zw_text.specs.Transcript.{AirFrame, frames}
use Rattle.law_transcript.specs.Nodes.{controller}
use Rattle.law_transcript.specs.Repeats.{frame_of}
use Rattle.outside_model.specs.State.{Outside}
use Rattle.proof_air.specs.proof_walk.Outside.{nothing}
use Rattle.proof_air.specs.Logs.{plain, Tie}
use Rattle.proof_air.proofs.Counting.{departure, at_its_place}
use Rattle.proof_air.proofs.Homes.{went_so, shown_so, next_stands, again_stands}
use Rattle.proof_devices.proofs.Shown.{IsOut}

-- the transcript's frame at a place, which heads for a node
end_out : (b : Bool) (sender receiver node : ℕ) → (if b then Homeward else Outward) ≡ Outward → (if b then sender else receiver) ≡ node → receiver ≡ node
end_out true sender receiver node heads same = absurd cc
end_out false sender receiver node heads same = same

found_out : (past : List Entry) (number : ℕ) (found : Option AirFrame) (one : Departure) (node : ℕ) (payload : List ℕ) → frame_of past number ≡ found → option_map departure found ≡ Some one
    → one.heading ≡ Outward → one.node ≡ node → one.payload ≡ payload → IsOut past number node payload
found_out past number None one node payload at is heads same carries = absurd cc
found_out past number (Some frame) one node payload at is heads same carries =
    let alike : departure frame ≡ one = cc in
    record {
      frame = frame;
      found = at;
      receiver = end_out (frame.receiver == controller) frame.sender frame.receiver node (ap (λ (d : Departure). d.heading) alike ∙ heads) (ap (λ (d : Departure). d.node) alike ∙ same);
      payload_is = ap (λ (d : Departure). d.payload) alike ∙ carries;
    }

module _ (past : List Entry) (w : Outside) (tie : Tie nothing past w) where
  at_out : (at : ℕ) (frame : Flown) → slice_get (stamped [] tie.log) at ≡ Some frame → frame.heading ≡ Outward → IsOut past (suc at) frame.node frame.payload
  at_out at frame is heads =
      let went = went_so past w tie at frame is in
      found_out past (suc at) (slice_get (frames past) at) (plain went.departs) frame.node frame.payload (at_its_place past at) (shown_so past w tie at frame is) (went.heading ∙ heads)
      went.node went.payload

  -- the next one to arrive
  pub next_out : (frame : Flown) → next_of w.outer.air.frames ≡ Some frame → frame.heading ≡ Outward → IsOut past (w.outer.air.frames.landed + 1) frame.node frame.payload
  next_out frame next heads =
      let number : suc w.outer.air.frames.landed ≡ w.outer.air.frames.landed + 1 = omega arith in
      subst (λ (n : ℕ). IsOut past n frame.node frame.payload) number (at_out w.outer.air.frames.landed frame (next_stands past w tie frame next) heads)

  -- one that may be repeated
  pub again_out : (number : ℕ) (frame : Flown) → remembered w.outer.air.frames number ≡ Some frame → frame.heading ≡ Outward → IsOut past number frame.node frame.payload
  again_out zero frame is heads = absurd cc
  again_out (suc at) frame is heads = at_out at frame (again_stands past w tie at frame is) heads
