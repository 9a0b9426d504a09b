-- What an event of the host that is no item makes of the line: nothing, or the frame of a request goes on its way.
use Rattle.std.proofs.Common.{◌≡◌, ◌≤◌, ℕ, false, inl, inr, List, [], ◌∷◌, ◌++◌, length, refl, sym, ap, ◌∙◌, subst, arith, append-nil}
use Rattle.std.specs.Prelude.{◌⊎◌}
use Rattle.std.specs.List.{AllByRecursion}
use Rattle.std.proofs.lemmas.List.Concat.{flat_map-append}
use Rattle.serial_frame.specs.Frame.{FrameParts}
use Rattle.serial_frame.specs.Items.{unit_text, IsUnit}
use Rattle.serial_frame.specs.declared.unit.Unit.{Unit as LineUnit}
use Rattle.serial_frame.specs.declared.unit.Unit.TheVariants.{Framed}
use Rattle.serial_link.specs.declared.turn.Turn.{Turn}
use Rattle.serial_link.specs.declared.turn.Turn.TheVariants.{Copied}
use Rattle.serial_pipes.specs.State.{WayState}
use Rattle.chip_sim.specs.State.{ChipParts}
use Rattle.host_requests.specs.Frames.{frame_of}
use Rattle.host_requests.specs.State.{next_id}
use Rattle.host_requests.specs.declared.task.Purpose.{Purpose}
use Rattle.host_requests.specs.declared.task.Purpose.TheVariants.{Attempt, Abort}
use Rattle.host_model.specs.State.{HostState}
use Rattle.host_model.specs.Events.{HostEvent}
use Rattle.host_model.specs.After.{after, task_purpose}
use Rattle.host_model.specs.Outs.{outs, answers as answers_line}
use Rattle.host_model.specs.Did.{outs_all}
use Rattle.host_model.specs.Pumping.{IsNext}
use Rattle.host_model.proofs.Submitted.{SubmittedAre, next_is}
use Rattle.world_model.specs.State.{Machine, host_does}
use Rattle.world_model.specs.Events.{Host_does, happens, May}
use Rattle.proof_serial.specs.Way.{written_all}
use Rattle.proof_serial.specs.Chip.{HasFrames}
use Rattle.proof_serial.specs.Line.{host_units, WritesWell}
use Rattle.proof_serial.proofs.Outer.{Written, routed_all, notes_all, written_both}
use Rattle.proof_waking.proofs.proof_traffic_Parts.{Airs}
use Rattle.proof_waking.proofs.Calm.{does_calm}
use Rattle.proof_calm.specs.Passes.{texts, OnLine, SameChip}
use Rattle.proof_calm.proofs.Room.{written_bytes}
use Rattle.proof_calm.proofs.Unmarked.{event_unmarked}
use Rattle.proof_calm.proofs.HostTurns.{same_of_calm}

-- ---- which event is one

-- it writes nothing, and leaves the host's frame; or it writes a frame, which is the host's own then
pub record Mute (h : HostState) (event : HostEvent) : Type 0 where
  pub writes : host_units (outs h event) ≡ []
  pub side : (after h event).side.turn ≡ h.side.turn

pub record Submits (h : HostState) (event : HostEvent) (frame : FrameParts) : Type 0 where
  pub writes : host_units (outs h event) ≡ Framed frame ∷ []
  pub side : (after h event).side.turn ≡ Copied frame 1 0

abbrev pub Either : HostState → HostEvent → Type 0
Either h event = Mute h event ⊎ ((frame : FrameParts) × Submits h event frame)

pub next_either : (h : HostState) (event : HostEvent) → IsNext h event → Either h event
next_either h event next = next_is (Either h) each h event next
  where
    frame : Purpose → FrameParts
    frame purpose = frame_of purpose (next_id h.requests.last_id)

    each : SubmittedAre (Either h)
    each = record {
      abort = inr (frame Abort, record { writes = refl; side = refl });
      front = inr (frame (task_purpose h.requests.queue), record { writes = refl; side = refl });
      starts = λ n plan more payload. inr (frame (Attempt n more payload), record { writes = refl; side = refl });
      text = λ n payload. inr (frame (Attempt n false payload), record { writes = refl; side = refl });
      segment = λ n more payload. inr (frame (Attempt n more payload), record { writes = refl; side = refl });
      begins = λ n session command. inl (record { writes = refl; side = refl });
      unkept = λ n. inl (record { writes = refl; side = refl });
    }

-- ---- the machine

module _ (air : Airs) where
  pub written : (m : Machine) (event : HostEvent) → Written (host_units (outs_all m.host.state (event ∷ []))) m.outside.outer (happens m (Host_does event)).outside.outer
  unfolding happens
  written m event =
      let base : Machine = host_does m (event ∷ []) in
      let units : List LineUnit = host_units (outs_all m.host.state (event ∷ [])) in
      let n : Machine = happens m (Host_does event) in
      subst (λ (l : List LineUnit). Written l m.outside.outer n.outside.outer) (append-nil units)
      (written_both units [] m.outside.outer base.outside.outer n.outside.outer (routed_all m.outside (outs_all m.host.state (event ∷ []))) (notes_all base.outside (answers_line m.host.state event)))

  units_are : (h : HostState) (event : HostEvent) → host_units (outs_all h (event ∷ [])) ≡ host_units (outs h event)
  units_are h event = ap host_units (append-nil (outs h event))

  pub same_chip : (m : Machine) (event : HostEvent) → SameChip m.outside.outer (happens m (Host_does event)).outside.outer
  same_chip m event = same_of_calm m.outside.outer (happens m (Host_does event)).outside.outer (does_calm air m event)

  -- what the line is then, where these units were written, and these are the bytes
  lies : (m : Machine) (event : HostEvent) (up later down : List LineUnit) (host then turn : Turn) (frames : List FrameParts) (units : List LineUnit) → OnLine up down host turn frames m → May m (Host_does event)
      → host_units (outs m.host.state event) ≡ units → (written_all m.outside.outer.to_chip units).bytes ≡ texts later → (after m.host.state event).side.turn ≡ then
      → OnLine later down then turn frames (happens m (Host_does event))
  unfolding happens
  lies m event up later down host then turn frames units line may writes bytes side =
      let n : Machine = happens m (Host_does event) in
      let all = written m event in
      let to_chip : n.outside.outer.to_chip ≡ written_all m.outside.outer.to_chip units =
      all.to_chip ∙ ap (λ (us : List LineUnit). written_all m.outside.outer.to_chip us) (units_are m.host.state event ∙ writes) in
      record {
        unmarked = event_unmarked m (Host_does event) tt may line.unmarked;
        at_chip = record {
          up_bytes = ap (λ (w : WayState). w.bytes) to_chip ∙ bytes;
          down_bytes = ap (λ (w : WayState). w.bytes) all.to_host ∙ line.at_chip.down_bytes;
          decoder = ap (λ (c : ChipParts). c.decoder) all.chip ∙ line.at_chip.decoder;
          turn_is = ap (λ (c : ChipParts). c.state.port.side.turn) all.chip ∙ line.at_chip.turn_is;
          waiting = ap (λ (c : ChipParts). c.state.port.waiting) all.chip ∙ line.at_chip.waiting;
          fit = subst (λ (c : ChipParts). HasFrames c.state.port) (sym all.chip) line.at_chip.fit;
          none_given_up = ap (λ (c : ChipParts). c.state.aborted) all.chip ∙ line.at_chip.none_given_up;
        };
        at_host = record { decoder = line.at_host.decoder; turn_is = side };
      }

  pub mute_line : (m : Machine) (event : HostEvent) (up down : List LineUnit) (host turn : Turn) (frames : List FrameParts) → OnLine up down host turn frames m → May m (Host_does event) → Mute m.host.state event
      → OnLine up down host turn frames (happens m (Host_does event))
  mute_line m event up down host turn frames line may mute = lies m event up up down host host turn frames [] line may mute.writes line.at_chip.up_bytes (mute.side ∙ line.at_host.turn_is)

  pub submitted_line : (m : Machine) (event : HostEvent) (frame : FrameParts) (up down : List LineUnit) (host turn : Turn) (frames : List FrameParts) → OnLine up down host turn frames m → May m (Host_does event)
      → WritesWell m (Host_does event) → length (texts up) ≤ 600 → Submits m.host.state event frame → OnLine (up ++ Framed frame ∷ []) down (Copied frame 1 0) turn frames (happens m (Host_does event))
  submitted_line m event frame up down host turn frames line may well few submits =
      let fit : AllByRecursion IsUnit (Framed frame ∷ []) = subst (AllByRecursion IsUnit) (units_are m.host.state event ∙ submits.writes) well in
      let long : length m.outside.outer.to_chip.bytes ≡ length (texts up) = ap (λ (bs : List ℕ). length bs) line.at_chip.up_bytes in
      lies m event up (up ++ Framed frame ∷ []) down host (Copied frame 1 0) turn frames (Framed frame ∷ []) line may submits.writes
      (written_bytes m.outside.outer.to_chip (Framed frame) line.unmarked.to_chip fit.0 (omega (arith, long, few)) ∙ ap (λ (bs : List ℕ). bs ++ unit_text (Framed frame)) line.at_chip.up_bytes
      ∙ ap (λ (bs : List ℕ). texts up ++ bs) (sym (append-nil (unit_text (Framed frame)))) ∙ sym (flat_map-append unit_text up (Framed frame ∷ [])))
      submits.side

  -- the frame is one that the format carries
  pub unit_fits : (m : Machine) (event : HostEvent) (frame : FrameParts) → WritesWell m (Host_does event) → Submits m.host.state event frame → IsUnit (Framed frame)
  unit_fits m event frame well submits =
      let fit : AllByRecursion IsUnit (Framed frame ∷ []) = subst (AllByRecursion IsUnit) (units_are m.host.state event ∙ submits.writes) well in fit.0
