-- What holds of each entry of its host's events, and of all that speaks of no command, holds of each entry of an event of the machine.
use Rattle.std.proofs.Common.{ℕ, Option, Some, None, List, [], ◌∷◌, ◌++◌, sym, subst}
use Rattle.std.specs.List.{AllByRecursion}
use Rattle.zw_base.proofs.Each.{all-append, all-right, all-weaker}
use Rattle.zw_text.specs.declared.entry.Ended.TheVariants.{Cancelled}
use Rattle.zw_text.specs.declared.entry.Entry.{Entry}
use Rattle.zw_text.specs.declared.entry.Entry.TheVariants.{Accepted, Out, Refused}
use Rattle.proof_air.specs.host_model.State.{HostState}
use Rattle.proof_air.specs.host_model.Events.{HostEvent, Accepts, Cancels}
use Rattle.proof_air.specs.host_model.After.{after}
use Rattle.proof_air.specs.host_model.Did.{outs_all}
use Rattle.proof_air.specs.host_model.Outs.{outs, answers}
use Rattle.proof_air.specs.host_model.declared.out.HostOut.{HostOut}
use Rattle.proof_air.specs.host_model.declared.out.HostOut.TheVariants.{Write, Note}
use Rattle.proof_air.specs.outside_model.State.{Outside, OuterState}
use Rattle.proof_air.specs.outside_model.Events.{Host_begins, Host_notes, Host_writes, entries as entries_outside, happens as happens_outside, outcome, stamp, ticked_entry}
use Rattle.proof_air.specs.outside_model.Did.{entries_all as entries_all_outside, happens_all as happens_all_outside}
use Rattle.proof_air.proofs.outside_model_EventLists.{entries_all-append}
use Rattle.proof_air.specs.world_model.State.{Machine, begun_in, host_does, host_entries, noted_by, routed}
use Rattle.proof_air.specs.world_model.Events.{Event, Outside_does, Host_does, Host_takes, Decoder_ticks, Refuses, Shows_values, Restarts, entries, fed, happens, notes, shown_values, May}
use Rattle.proof_air.specs.world_model.Did.{entries_all, MayAll}
use Rattle.proof_air.specs.proof_host.Entries.{IsAside, entries_at, notes_of}
use Rattle.proof_spoken.proofs.Aside.{Asides, own_aside, ticked_aside, write_aside}

module _ (Free : Entry → Type 0) (Of : HostEvent → Type 0) (aside : (entry : Entry) → IsAside entry → Free entry)
    (each : (h : HostState) (event : HostEvent) → Of event → AllByRecursion Free (entries_at h event)) where
  abbrev AreFree : List Entry → Type 0
  AreFree entries = AllByRecursion Free entries

  asides_free : (entries : List Entry) → Asides entries → AreFree entries
  asides_free entries asides = all-weaker IsAside Free aside entries asides

  stamp_free : (o : OuterState) (told : List Entry) → AreFree told → AreFree (stamp o told)
  stamp_free o [] free = tt
  stamp_free o (entry ∷ told) free = all-append Free (ticked_entry o) (entry ∷ told) (asides_free (ticked_entry o) (ticked_aside o)) free

  -- ---- what a host puts out

  noted_free : (w : Outside) (begun : Option (ℕ × ℕ)) (entry : Entry) → Free entry → AreFree (entries_all_outside w (noted_by begun entry))
  unfolding outcome
  noted_free w None entry free = all-append Free (entries_outside w (Host_notes entry)) [] (stamp_free w.outer (entry ∷ []) (free, tt)) tt
  noted_free w (Some begun) entry free =
      all-append Free (entries_outside (happens_outside w (Host_begins begun.0 begun.1)) (Host_notes entry)) []
      (stamp_free (happens_outside w (Host_begins begun.0 begun.1)).outer (entry ∷ []) (free, tt)) tt

  routed_free : (w : Outside) (puts : List HostOut) → AreFree (notes_of puts) → AreFree (entries_all_outside w (routed puts))
  routed_free w [] free = tt
  routed_free w (Write unit ∷ puts) free =
      all-append Free (entries_outside w (Host_writes unit)) (entries_all_outside (happens_outside w (Host_writes unit)) (routed puts))
      (asides_free (entries_outside w (Host_writes unit)) (write_aside w unit)) (routed_free (happens_outside w (Host_writes unit)) puts free)
  routed_free w (Note entry ∷ puts) free =
      let first = noted_by (begun_in entry) entry in
      subst AreFree (sym (entries_all-append w first (routed puts)))
      (all-append Free (entries_all_outside w first) (entries_all_outside (happens_all_outside w first) (routed puts)) (noted_free w (begun_in entry) entry free.0)
      (routed_free (happens_all_outside w first) puts free.1))

  notes_free : (a b : List HostOut) → AreFree (notes_of a) → AreFree (notes_of b) → AreFree (notes_of (a ++ b))
  notes_free [] b first later = later
  notes_free (Write unit ∷ a) b first later = notes_free a b first later
  notes_free (Note entry ∷ a) b first later = (first.0, notes_free a b first.1 later)

  outs_free : (h : HostState) (events : List HostEvent) → AllByRecursion Of events → AreFree (notes_of (outs_all h events))
  outs_free h [] of = tt
  outs_free h (event ∷ events) of =
      notes_free (outs h event) (outs_all (after h event) events) (all-right Free (answers h event) (notes_of (outs h event)) (each h event of.0)) (outs_free (after h event) events of.1)

  answered_free : (w : Outside) (h : HostState) (event : HostEvent) → Of event → AreFree (entries_all_outside w (notes (answers h event)))
  answered_free w h (Accepts order carriage) of = noted_free w None (Accepted _ order.node) (each h (Accepts order carriage) of).0
  answered_free w h (Cancels command) of = noted_free w None (Out command Cancelled) (each h (Cancels command) of).0
  answered_free w h event of = tt

  -- ---- events of the machine

  -- what the host does at it
  abbrev pub IsOf : Event → Type 0
  IsOf (Host_does event) = Of event
  IsOf (Host_takes count rest items events) = AllByRecursion Of events
  IsOf event = Unit {0}

  pub event_free : (m : Machine) (event : Event) → IsOf event → May m event → AreFree (entries m event)
  unfolding entries May outcome
  event_free m (Outside_does event) of may = asides_free (entries_outside m.outside event) (own_aside m.outside event may.0)
  event_free m (Host_does event) of may =
      all-append Free (host_entries m (event ∷ [])) (entries_all_outside (host_does m (event ∷ [])).outside (notes (answers m.host.state event)))
      (routed_free m.outside (outs_all m.host.state (event ∷ [])) (outs_free m.host.state (event ∷ []) (of, tt))) (answered_free (host_does m (event ∷ [])).outside m.host.state event of)
  event_free m (Host_takes count rest items events) of may = routed_free (fed m count rest).outside (outs_all m.host.state events) (outs_free m.host.state events of)
  event_free m Decoder_ticks of may = tt
  event_free m (Refuses line refusal) of may = stamp_free m.outside.outer (Refused refusal ∷ []) (aside (Refused refusal) tt, tt)
  event_free m (Shows_values node) of may = stamp_free m.outside.outer (shown_values m.host.state node ∷ []) (aside (shown_values m.host.state node) tt, tt)
  event_free m (Restarts state) of may = tt

  pub events_free : (m : Machine) (events : List Event) → AllByRecursion IsOf events → MayAll m events → AreFree (entries_all m events)
  events_free m [] of may = tt
  events_free m (event ∷ events) of may =
      all-append Free (entries m event) (entries_all (happens m event) events) (event_free m event of.0 may.0) (events_free (happens m event) events of.1 may.1)
