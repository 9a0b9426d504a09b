-- Every event of the machine keeps the facts of its host.
use Rattle.std.proofs.Common.{◌≡◌, List, [], ◌∷◌, ◌++◌, map, ap, sym, ◌∙◌, subst, append_assoc, append-nil}
use Rattle.zw_text.specs.declared.entry.Entry.{Entry}
use Rattle.zw_text.specs.declared.entry.Entry.TheVariants.{Refused}
use Rattle.proof_host.specs.host_model.State.{HostState}
use Rattle.proof_host.specs.host_model.declared.out.HostOut.{HostOut}
use Rattle.proof_host.specs.host_model.Events.{HostEvent}
use Rattle.proof_host.specs.host_model.After.{after}
use Rattle.proof_host.specs.host_model.Outs.{outs, answers, Silent}
use Rattle.proof_host.specs.host_model.May.{May as MayHost}
use Rattle.proof_host.specs.host_model.Did.{MayAll as MayAllHost, after_all}
use Rattle.proof_device.specs.outside_model.State.{Outside}
use Rattle.proof_device.specs.outside_model.Events.{Host_notes, entries as entries_outside, outcome}
use Rattle.proof_device.specs.outside_model.Did.{entries_all as entries_all_outside}
use Rattle.proof_device.specs.world_model.State.{Machine, routed, host_does, host_entries}
use Rattle.proof_device.specs.world_model.Events.{Event, Outside_does, Host_does, Host_takes, Decoder_ticks, Refuses, Shows_values, Restarts, fed, shown_values, happens, entries, May}
use Rattle.proof_device.specs.world_model.Did.{happens_all, entries_all, MayAll}
use Rattle.proof_device.proofs.Hosting.{entries_cons}
use Rattle.proof_host.proofs.Silence.{judged_silent}
use Rattle.proof_host.specs.Entries.{IsAside, entries_at}
use Rattle.proof_host.specs.Facts.{Facts, StartsAs}
use Rattle.proof_world.specs.Restarts.{StartsWell, AllStartWell}
use Rattle.proof_world.proofs.Aside.{Asides, own_aside, stamp_aside}
use Rattle.proof_world.proofs.Notes.{Trailing, event_following}

-- ---- what is proved of hosts

-- what is entered aside keeps the facts
module _ (aside : (past : List Entry) (h : HostState) (entry : Entry) → Facts past h → IsAside entry → Facts (past ++ entry ∷ []) h) where
  pub asides_keep : (past : List Entry) (h : HostState) (entries : List Entry) → Facts past h → Asides entries → Facts (past ++ entries) h
  asides_keep past h [] facts all = subst (λ (l : List Entry). Facts l h) (sym (append-nil past)) facts
  asides_keep past h (e ∷ entries) facts all =
      subst (λ (l : List Entry). Facts l h) (append_assoc past (e ∷ []) entries) (asides_keep (past ++ e ∷ []) h entries (aside past h e facts all.0) all.1)

-- an event of the host, entered after others
module _ (each : (past : List Entry) (h : HostState) (event : HostEvent) → Facts past h → MayHost h event → Facts (past ++ entries_at h event) (after h event))
    (aside : (past : List Entry) (h : HostState) (entry : Entry) → Facts past h → IsAside entry → Facts (past ++ entry ∷ []) h) where
  pub after_keeps : (past all : List Entry) (h : HostState) (event : HostEvent) → Facts past h → MayHost h event → Trailing (entries_at h event) all → Facts (past ++ all) (after h event)
  after_keeps past all h event facts may following =
      subst (λ (l : List Entry). Facts l (after h event))
      (append_assoc past following.prefix (entries_at h event) ∙ ap (λ (l : List Entry). past ++ l) (sym following.are))
      (each (past ++ following.prefix) h event (asides_keep aside past h following.prefix facts following.asides) may)

-- what a host puts out at an event that answers no line is entered last
pub one_after : (m : Machine) (event : HostEvent) → ((h : HostState) → answers h event ≡ []) → Trailing (entries_at m.host.state event) (host_entries m (event ∷ []))
one_after m event silent =
    let h = m.host.state in
    subst (λ (l : List Entry). Trailing (entries_at h event) l)
    (ap (λ (l : List Entry). entries_all_outside m.outside (routed (outs h event)) ++ entries_all_outside m.outside (map Host_notes l)) (silent h)
    ∙ (append-nil (entries_all_outside m.outside (routed (outs h event)))
    ∙ ap (λ (l : List HostOut). entries_all_outside m.outside (routed l)) (sym (append-nil (outs h event)))))
    (event_following m.outside m.outside h event)

-- ---- the machine

module _ (each : (past : List Entry) (h : HostState) (event : HostEvent) → Facts past h → MayHost h event → Facts (past ++ entries_at h event) (after h event))
    (aside : (past : List Entry) (h : HostState) (entry : Entry) → Facts past h → IsAside entry → Facts (past ++ entry ∷ []) h)
    (starts : (past : List Entry) (old new : HostState) → Facts past old → StartsAs old new → Facts past new) where
  note_keeps : (past : List Entry) (h : HostState) (w : Outside) (e : Entry) → Facts past h → IsAside e → Facts (past ++ entries_outside w (Host_notes e)) h
  unfolding outcome
  note_keeps past h w e facts is = asides_keep aside past h (entries_outside w (Host_notes e)) facts (stamp_aside w.outer (e ∷ []) (is, tt))

  -- events of the host that answer no line, with what they put out routed
  silent_keeps : (past : List Entry) (m : Machine) (es : List HostEvent) → Facts past m.host.state → MayAllHost m.host.state es → Silent es
      → Facts (past ++ host_entries m es) (after_all m.host.state es)
  silent_keeps past m [] facts may silent = subst (λ (l : List Entry). Facts l m.host.state) (sym (append-nil past)) facts
  silent_keeps past m (e ∷ es) facts may silent =
      let h = m.host.state in
      let first = host_entries m (e ∷ []) in
      subst (λ (l : List Entry). Facts l (after_all (after h e) es))
      (append_assoc past first (host_entries (host_does m (e ∷ [])) es) ∙ ap (λ (l : List Entry). past ++ l) (entries_cons m e es))
      (silent_keeps (past ++ first) (host_does m (e ∷ [])) es (after_keeps each aside past first h e facts may.0 (one_after m e silent.0)) may.1 silent.1)

  -- an event of the machine
  pub event_keeps : (past : List Entry) (m : Machine) (event : Event) → Facts past m.host.state → May m event → StartsWell m event
      → Facts (past ++ entries m event) (happens m event).host.state
  unfolding happens entries May
  event_keeps past m (Outside_does event) facts may well = asides_keep aside past m.host.state (entries_outside m.outside event) facts (own_aside m.outside event may.0)
  event_keeps past m (Host_does event) facts may well =
      after_keeps each aside past (entries m (Host_does event)) m.host.state event facts may.0
      (subst (λ (l : List HostOut). Trailing (entries_at m.host.state event)
      (entries_all_outside m.outside (routed l) ++ entries_all_outside (host_does m (event ∷ [])).outside (map Host_notes (answers m.host.state event))))
      (sym (append-nil (outs m.host.state event)))
      (event_following m.outside (host_does m (event ∷ [])).outside m.host.state event))
  event_keeps past m (Host_takes count rest items events) facts may well =
      silent_keeps past (fed m count rest) events facts may.may (judged_silent m.host.state items events may.judged)
  event_keeps past m Decoder_ticks facts may well = subst (λ (l : List Entry). Facts l m.host.state) (sym (append-nil past)) facts
  event_keeps past m (Refuses line refusal) facts may well = note_keeps past m.host.state m.outside (Refused refusal) facts tt
  event_keeps past m (Shows_values node) facts may well = note_keeps past m.host.state m.outside (shown_values m.host.state node) facts tt
  event_keeps past m (Restarts state) facts may well = subst (λ (l : List Entry). Facts l state) (sym (append-nil past)) (starts past m.host.state state facts well)

  -- events, one after another
  pub events_keep : (past : List Entry) (m : Machine) (events : List Event) → Facts past m.host.state → MayAll m events → AllStartWell m events
      → Facts (past ++ entries_all m events) (happens_all m events).host.state
  events_keep past m [] facts may well = subst (λ (l : List Entry). Facts l m.host.state) (sym (append-nil past)) facts
  events_keep past m (event ∷ events) facts may well =
      subst (λ (l : List Entry). Facts l (happens_all (happens m event) events).host.state) (append_assoc past (entries m event) (entries_all (happens m event) events))
      (events_keep (past ++ entries m event) (happens m event) events (event_keeps past m event facts may.0 well.0) may.1 well.1)
