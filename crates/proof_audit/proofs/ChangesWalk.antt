-- Over lines, what is entered is whole changes of devices, and entries that show none.
use Rattle.std.proofs.Common.{◌⊎◌, inl, inr, List, [], ◌∷◌, ◌++◌, Option, Some, None, refl, sym, subst, append_assoc, append-nil}
use Rattle.std.specs.Prelude.{slice_get}
use Rattle.air_frames.specs.Ages.{refusal_of}
use Rattle.air_frames.specs.declared.ages.Refusal.{Refusal}
use Rattle.air_frames.specs.declared.ages.Refusal.TheVariants.{NeverSent, Forgotten, Stale}
use Rattle.device_sim.specs.State.{State}
use Rattle.device_sim.specs.Event.{Sets, Ticks, Wakes}
use Rattle.mesh_sim.specs.Fates.{place_of}
use Rattle.mesh_sim.specs.Steps as mesh
use Rattle.zw_text.specs.declared.entry.Entry.{Entry}
use Rattle.zw_text.specs.declared.entry.Entry.TheVariants.{Dev, Said}
use Rattle.outside_model.specs.State.{OuterState, Outside}
use Rattle.outside_model.specs.Events.{OuterEvent, Arrives, Device_ticks, Repeats, Wakes_device, Sets_device, devices_after, devices_repeated, mesh_of, outcome, repeats, stamp, steps, ticked_entry}
use Rattle.world_model.specs.State.{Machine}
use Rattle.world_model.specs.Events.{Event, Outside_does, entries, happens, May}
use Rattle.world_model.specs.Did.{entries_all, happens_all, MayAll}
use Rattle.world_lines.specs.Spoken.{Spoken, after as after_line, after_all, entries_of, transcript_of}
use Rattle.world_lines.specs.Done.{AreDone, IsDone}
use Rattle.proof_headline.proofs.Entering.{Acts, number_are}
use Rattle.proof_headline.proofs.Others.{IsOther, Others, chip_other, event_other}
use Rattle.proof_headline.proofs.ShownChanges.{Adds, event_tells, new_are}
use Rattle.zw_text.specs.Transcript.{made}
use Rattle.proof_transcript.specs.proof_walk.Outside.{CoversOuter, IsNote}
use Rattle.proof_transcript.proofs.Alone.{noted_are}
use Rattle.proof_audit.specs.Books.{ArePieces}
use Rattle.proof_audit.proofs.CutLines.{IsMoving}
use Rattle.proof_audit.proofs.WholeChanges.{at-pieces, each-pieces, hand-pieces, loose, pieces-on, pieces-then, tells-grow}

-- ---- outside

steps-pieces : (w : Outside) (step : mesh.AirStep) → ArePieces (mesh.mesh_after (mesh_of w) step).devices (steps w step).entries
steps-pieces w step =
    let later = mesh.mesh_after (mesh_of w) step in each-pieces later.devices (record w.outer { air = later.air }) (mesh.mesh_outs (mesh_of w) step)

repeats-pieces : (w : Outside) (refused : Option Refusal) (step : mesh.AirStep) → ArePieces (devices_repeated w refused step) (repeats w refused step).entries
repeats-pieces w (Some NeverSent) step = loose w.devices (repeats w (Some NeverSent) step).entries (tt, tt)
repeats-pieces w (Some Forgotten) step = loose w.devices (repeats w (Some Forgotten) step).entries (tt, tt)
repeats-pieces w (Some (Stale later)) step = loose w.devices (repeats w (Some (Stale later)) step).entries (tt, tt)
repeats-pieces w None step = steps-pieces w step

moving-pieces : (w : Outside) (event : OuterEvent) → IsMoving (Outside_does event) → ArePieces (devices_after w event) (outcome w event).entries
unfolding outcome devices_after
moving-pieces w (Arrives drawn route) moving = steps-pieces w (mesh.Arrives drawn route)
moving-pieces w (Device_ticks place drawn route) moving = at-pieces w.outer w.devices place (slice_get w.devices place) (Ticks drawn) route refl
moving-pieces w (Repeats number drawn route) moving = repeats-pieces w (refusal_of w.outer.air.frames number) (mesh.Repeats number drawn route)
moving-pieces w (Wakes_device node route) moving = hand-pieces w.outer w.devices (place_of node w.devices) Wakes route
moving-pieces w (Sets_device node value route) moving = hand-pieces w.outer w.devices (place_of node w.devices) (Sets value) route
moving-pieces w event moving = absurd moving

stamp-pieces : (devices : List State) (o : OuterState) (told : List Entry) → ArePieces devices told → ArePieces devices (stamp o told)
stamp-pieces devices o [] are = are
stamp-pieces devices o (entry ∷ told) are = pieces-then devices (ticked_entry o) (entry ∷ told) (loose devices (ticked_entry o) (number_are IsOther (λ tick. tt) o)) are

-- ---- the machine

note-other : (told : Entry) → IsNote told → IsOther told
note-other (Dev node by setting) note = absurd note
note-other told note = tt

abbrev Stays : OuterEvent → Type 0
Stays event = Acts event → ⊥

none-moved : (m : Machine) (event : Event) → CoversOuter Stays event → May m event → Others (entries m event)
none-moved m event stays may = noted_are IsOther chip_other (λ tick. tt) note-other Stays event_other m event stays may

-- an event of the machine may move a device, or shows no change
pub moves-or-others : (m : Machine) (event : Event) → May m event → IsMoving event ⊎ Others (entries m event)
moves-or-others m (Outside_does (Arrives drawn route)) may = inl tt
moves-or-others m (Outside_does (Device_ticks place drawn route)) may = inl tt
moves-or-others m (Outside_does (Repeats number drawn route)) may = inl tt
moves-or-others m (Outside_does (Wakes_device node route)) may = inl tt
moves-or-others m (Outside_does (Sets_device node value route)) may = inl tt
moves-or-others m (Outside_does event) may = inr (none-moved m (Outside_does event) (λ acts. acts) may)
moves-or-others m event may = inr (none-moved m event tt may)

moved-pieces : (m : Machine) (event : Event) → IsMoving event → ArePieces (happens m event).outside.devices (entries m event)
unfolding happens entries
moved-pieces m (Outside_does event) moving =
    stamp-pieces (devices_after m.outside event) (outcome m.outside event).outer (outcome m.outside event).entries (moving-pieces m.outside event moving)
moved-pieces m event moving = absurd moving

event-pieces : (m : Machine) (event : Event) → May m event → ArePieces (happens m event).outside.devices (entries m event)
event-pieces m event may = elim (moves-or-others m event may) [
  | inl moving ↦ moved-pieces m event moving
  | inr others ↦ loose (happens m event).outside.devices (entries m event) others
]

module _ (adds : Adds) where
  -- ---- one after another

  event-so : (past : List Entry) (m : Machine) (event : Event) → May m event → ArePieces m.outside.devices past → ArePieces (happens m event).outside.devices (past ++ entries m event)
  event-so past m event may so =
      pieces-then (happens m event).outside.devices past (entries m event)
      (pieces-on m.outside.devices (happens m event).outside.devices past
      (tells-grow (new_are adds) (λ n. made n (entries m event)) m.outside.devices (happens m event).outside.devices (event_tells adds m event may)) so)
      (event-pieces m event may)

  all-so : (past : List Entry) (m : Machine) (events : List Event) → MayAll m events → ArePieces m.outside.devices past → ArePieces (happens_all m events).outside.devices (past ++ entries_all m events)
  all-so past m [] may so = subst (λ (l : List Entry). ArePieces m.outside.devices l) (sym (append-nil past)) so
  all-so past m (event ∷ events) may so =
      subst (λ (l : List Entry). ArePieces (happens_all (happens m event) events).outside.devices l) (append_assoc past (entries m event) (entries_all (happens m event) events))
      (all-so (past ++ entries m event) (happens m event) events may.1 (event-so past m event may.0 so))

  line-so : (past : List Entry) (m : Machine) (spoken : Spoken) (more : List Spoken) → IsDone more m spoken → ArePieces m.outside.devices past
      → ArePieces (after_line m spoken).outside.devices (past ++ entries_of m spoken)
  line-so past m spoken more is so =
      subst (λ (l : List Entry). ArePieces (after_line m spoken).outside.devices l) (append_assoc past (Said spoken.words ∷ []) (entries_all m spoken.events))
      (all-so (past ++ Said spoken.words ∷ []) m spoken.events is.may
      (pieces-then m.outside.devices past (Said spoken.words ∷ []) so (loose m.outside.devices (Said spoken.words ∷ []) (tt, tt))))

  pub lines-so : (past : List Entry) (m : Machine) (lines : List Spoken) → AreDone m lines → ArePieces m.outside.devices past → ArePieces (after_all m lines).outside.devices (past ++ transcript_of m lines)
  lines-so past m [] are so = subst (λ (l : List Entry). ArePieces m.outside.devices l) (sym (append-nil past)) so
  lines-so past m (spoken ∷ more) are so =
      subst (λ (l : List Entry). ArePieces (after_all (after_line m spoken) more).outside.devices l) (append_assoc past (entries_of m spoken) (transcript_of (after_line m spoken) more))
      (lines-so (past ++ entries_of m spoken) (after_line m spoken) more are.1 (line-so past m spoken more are.0 so))
