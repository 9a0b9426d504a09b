-- Over lines, the values of each success stand directly after it, by the host's table.
use Rattle.std.proofs.Common.{List, [], ◌∷◌, ◌++◌, map, sym, ap, subst, ◌∙◌, append_assoc, append-nil}
use Rattle.zw_text.specs.declared.entry.Entry.{Entry}
use Rattle.zw_text.specs.declared.entry.Entry.TheVariants.{Refused, Said}
use Rattle.host_model.specs.State.{HostState}
use Rattle.host_model.specs.Events.{HostEvent}
use Rattle.host_model.specs.After.{after}
use Rattle.host_model.specs.May.{May as MayHost}
use Rattle.host_model.specs.Did.{MayAll as MayAllHost, after_all as after_host}
use Rattle.host_model.specs.Outs.{answers, outs, Silent}
use Rattle.host_model.specs.declared.out.HostOut.{HostOut}
use Rattle.host_model.proofs.Silence.{judged_silent}
use Rattle.outside_model.specs.Events.{Host_notes, entries as entries_outside, outcome}
use Rattle.outside_model.specs.Did.{entries_all as entries_all_outside}
use Rattle.world_model.specs.State.{Machine, host_does, host_entries, routed}
use Rattle.world_model.specs.Events.{Event, Outside_does, Host_does, Host_takes, Decoder_ticks, Refuses, Shows_values, Restarts, entries, fed, happens, shown_values, May}
use Rattle.world_model.specs.Did.{entries_all, happens_all, MayAll}
use Rattle.world_model.proofs.Hosting.{entries_cons}
use Rattle.proof_host.specs.Entries.{IsAside, entries_at}
use Rattle.proof_host.specs.Facts.{Facts}
use Rattle.proof_transcript.proofs.Aside.{Asides, own_aside, stamp_aside}
use Rattle.proof_transcript.proofs.Notes.{Trailing, event_following}
use Rattle.proof_transcript.proofs.FactsKept.{asides_keep, one_after}
use Rattle.proof_transcript.specs.Restarts.{AllStartWell, StartsWell}
use Rattle.proof_transcript.specs.proof_once.Tied.{KeepsOrders}
use Rattle.proof_transcript.specs.Spoken.{AreSpoken, IsSpoken}
use Rattle.world_lines.specs.Spoken.{Spoken, after as after_line, after_all, entries_of, transcript_of}
use Rattle.proof_audit.proofs.StoringHost.{HostKeepsOrders, IsStored, event-goes-on, stored-asides, stored-on, stored-then}

-- what goes on from event to event
pub record HostStored (past : List Entry) (h : HostState) : Type 0 where
  pub facts : Facts past h
  pub stored : IsStored h.commands past

abbrev pub EventKeeps : Type 0
EventKeeps = (past : List Entry) (h : HostState) (event : HostEvent) → Facts past h → MayHost h event → Facts (past ++ entries_at h event) (after h event)

abbrev pub AsideKeeps : Type 0
AsideKeeps = (past : List Entry) (h : HostState) (entry : Entry) → Facts past h → IsAside entry → Facts (past ++ entry ∷ []) h

abbrev pub MachineKeeps : Type 0
MachineKeeps = (past : List Entry) (m : Machine) (event : Event) → Facts past m.host.state → May m event → StartsWell m event → Facts (past ++ entries m event) (happens m event).host.state

abbrev pub MachineKeepsOrders : Type 0
MachineKeepsOrders = (m : Machine) (event : Event) → StartsWell m event → KeepsOrders m.host.state.commands (happens m event).host.state.commands

module _ (keeps : HostKeepsOrders) (machine_keeps : MachineKeepsOrders) (each : EventKeeps) (aside : AsideKeeps) (machine : MachineKeeps) where
  -- ---- the host

  asides-so : (past : List Entry) (h : HostState) (es : List Entry) → Asides es → HostStored past h → HostStored (past ++ es) h
  asides-so past h es all so = record { facts = asides_keep aside past h es so.facts all; stored = stored-then h.commands past es so.stored (stored-asides h.commands es all) }

  event-so : (past : List Entry) (h : HostState) (event : HostEvent) (all : List Entry) → MayHost h event → Trailing (entries_at h event) all → HostStored past h → HostStored (past ++ all) (after h event)
  event-so past h event all may following so =
      let first = asides-so past h following.prefix following.asides so in
      let later = each (past ++ following.prefix) h event first.facts may in
      subst (λ (l : List Entry). HostStored l (after h event)) (append_assoc past following.prefix (entries_at h event) ∙ ap (λ (l : List Entry). past ++ l) (sym following.are))
      (record {
        facts = later;
        stored = event-goes-on keeps (past ++ following.prefix) h event first.facts may later first.stored;
      })

  events-so : (past : List Entry) (m : Machine) (events : List HostEvent) → MayAllHost m.host.state events → Silent events → HostStored past m.host.state
      → HostStored (past ++ host_entries m events) (after_host m.host.state events)
  events-so past m [] may silent so = subst (λ (l : List Entry). HostStored l m.host.state) (sym (append-nil past)) so
  events-so past m (event ∷ events) may silent so =
      let first = host_entries m (event ∷ []) in
      let next = event-so past m.host.state event first may.0 (one_after m event silent.0) so in
      subst (λ (l : List Entry). HostStored l (after_host m.host.state (event ∷ events)))
      (append_assoc past first (host_entries (host_does m (event ∷ [])) events) ∙ ap (λ (l : List Entry). past ++ l) (entries_cons m event events))
      (events-so (past ++ first) (host_does m (event ∷ [])) events may.1 silent.1 next)

  -- ---- the machine

  note-so : (past : List Entry) (m : Machine) (entry : Entry) → IsAside entry → HostStored past m.host.state → HostStored (past ++ entries_outside m.outside (Host_notes entry)) m.host.state
  unfolding outcome
  note-so past m entry is so = asides-so past m.host.state _ (stamp_aside m.outside.outer (entry ∷ []) (is, tt)) so

  none-so : (past : List Entry) (h : HostState) → HostStored past h → HostStored (past ++ []) h
  none-so past h so = subst (λ (l : List Entry). HostStored l h) (sym (append-nil past)) so

  machine-stored : (past : List Entry) (m : Machine) (event : Event) → May m event → StartsWell m event → HostStored past m.host.state → IsStored (happens m event).host.state.commands (past ++ entries m event)
  unfolding entries May happens
  machine-stored past m (Outside_does event) may well so = (asides-so past m.host.state (entries_outside m.outside event) (own_aside m.outside event may.0) so).stored
  machine-stored past m (Host_does event) may well so =
      (event-so past m.host.state event (entries m (Host_does event)) may.0
      (subst (λ (l : List HostOut). Trailing (entries_at m.host.state event)
      (entries_all_outside m.outside (routed l) ++ entries_all_outside (host_does m (event ∷ [])).outside (map Host_notes (answers m.host.state event))))
      (sym (append-nil (outs m.host.state event)))
      (event_following m.outside (host_does m (event ∷ [])).outside m.host.state event)) so).stored
  machine-stored past m (Host_takes count rest items events) may well so =
      (events-so past (fed m count rest) events may.may (judged_silent m.host.state items events may.judged) so).stored
  machine-stored past m Decoder_ticks may well so = (none-so past m.host.state so).stored
  machine-stored past m (Refuses line refusal) may well so = (note-so past m (Refused refusal) tt so).stored
  machine-stored past m (Shows_values node) may well so = (note-so past m (shown_values m.host.state node) tt so).stored
  machine-stored past m (Restarts state) may well so =
      stored-on m.host.state.commands state.commands (past ++ []) (machine_keeps m (Restarts state) well) (none-so past m.host.state so).stored

  machine-so : (past : List Entry) (m : Machine) (event : Event) → May m event → StartsWell m event → HostStored past m.host.state → HostStored (past ++ entries m event) (happens m event).host.state
  machine-so past m event may well so = record { facts = machine past m event so.facts may well; stored = machine-stored past m event may well so }

  all-so : (past : List Entry) (m : Machine) (events : List Event) → MayAll m events → AllStartWell m events → HostStored past m.host.state → HostStored (past ++ entries_all m events) (happens_all m events).host.state
  all-so past m [] may well so = none-so past m.host.state so
  all-so past m (event ∷ events) may well so =
      subst (λ (l : List Entry). HostStored l (happens_all (happens m event) events).host.state) (append_assoc past (entries m event) (entries_all (happens m event) events))
      (all-so (past ++ entries m event) (happens m event) events may.1 well.1 (machine-so past m event may.0 well.0 so))

  -- ---- lines

  line-so : (past : List Entry) (m : Machine) (spoken : Spoken) (more : List Spoken) → IsSpoken more m spoken → HostStored past m.host.state → HostStored (past ++ entries_of m spoken) (after_line m spoken).host.state
  line-so past m spoken more is so =
      subst (λ (l : List Entry). HostStored l (after_line m spoken).host.state) (append_assoc past (Said spoken.words ∷ []) (entries_all m spoken.events))
      (all-so (past ++ Said spoken.words ∷ []) m spoken.events is.may is.well (asides-so past m.host.state (Said spoken.words ∷ []) (tt, tt) so))

  pub lines-so : (past : List Entry) (m : Machine) (lines : List Spoken) → AreSpoken m lines → HostStored past m.host.state → HostStored (past ++ transcript_of m lines) (after_all m lines).host.state
  lines-so past m [] are so = none-so past m.host.state so
  lines-so past m (spoken ∷ more) are so =
      subst (λ (l : List Entry). HostStored l (after_all (after_line m spoken) more).host.state) (append_assoc past (entries_of m spoken) (transcript_of (after_line m spoken) more))
      (lines-so (past ++ entries_of m spoken) (after_line m spoken) more are.1 (line-so past m spoken more are.0 so))
