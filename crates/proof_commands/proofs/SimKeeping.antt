-- The laws of a story: its lines are asides, and all its events are those of one run of the machine.
use Rattle.std.proofs.Common.{◌≡◌, ℕ, List, [], ◌∷◌, ◌++◌, refl, sym, ap, subst, ◌∙◌, append_assoc, append-nil}
use Rattle.std.proofs.lemmas.Grind.{flat_map-append}
use Rattle.std.specs.List.{AllByRecursion, flat_map}
use Rattle.device_sim.specs.State.{State}
use Rattle.zw_text.specs.declared.entry.Entry.{Entry}
use Rattle.zw_text.specs.Transcript.{Made, made_at, made, by_session}
use Rattle.host_model.specs.State.{HostState}
use Rattle.world_model.specs.State.{Machine}
use Rattle.world_model.specs.Events.{Event, happens}
use Rattle.world_model.specs.Did.{happens_all, entries_all, MayAll}
use Rattle.world_model.proofs.EventLists.{happens_all-append, entries_all-append}
use Rattle.proof_host.specs.Entries.{IsAside}
use Rattle.proof_host.specs.Facts.{Facts}
use Rattle.proof_device.specs.Showing.{IsShown, NeverFalls}
use Rattle.proof_answers.specs.proof_chip.proof_world.Devices.{GroupsSessions}
use Rattle.proof_answers.specs.proof_chip.proof_world.Restarts.{AllStartWell}
use Rattle.run_all.specs.run_sim.Sim.{said}
use Rattle.proof_commands.specs.Laws.{Ran, events_of, transcript_from}
use Rattle.proof_audit.proofs.BegunChanges.{may-front as may_prefix}
use Rattle.proof_answers.proofs.LastLine.{may_later}

-- ---- events of two lists

starts_prefix : (m : Machine) (a b : List Event) → AllStartWell m (a ++ b) → AllStartWell m a
starts_prefix m [] b well = tt
starts_prefix m (e ∷ a) b well = (well.0, starts_prefix (happens m e) a b well.1)

starts_rest : (m : Machine) (a b : List Event) → AllStartWell m (a ++ b) → AllStartWell (happens_all m a) b
starts_rest m [] b well = well
starts_rest m (e ∷ a) b well = starts_rest (happens m e) a b well.1

-- ---- the facts of the host

module _ (keeps : (past : List Entry) (m : Machine) (events : List Event) → Facts past m.host.state → MayAll m events → AllStartWell m events → Facts (past ++ entries_all m events) (happens_all m events).host.state)
    (aside : (past : List Entry) (h : HostState) (entry : Entry) → Facts past h → IsAside entry → Facts (past ++ entry ∷ []) h) where
  line_keeps : (past : List Entry) (m : Machine) (ran : Ran) → Facts past m.host.state → MayAll m ran.events → AllStartWell m ran.events
      → Facts ((past ++ said ran.line) ++ entries_all m ran.events) (happens_all m ran.events).host.state
  line_keeps past m ran facts may well = keeps (past ++ said ran.line) m ran.events (aside past m.host.state _ facts tt) may well

  pub story_keeps : (past : List Entry) (m : Machine) (story : List Ran) → Facts past m.host.state → MayAll m (events_of story) → AllStartWell m (events_of story)
      → Facts (past ++ transcript_from m story) (happens_all m (events_of story)).host.state
  story_keeps past m [] facts may well = subst (λ (l : List Entry). Facts l m.host.state) (sym (append-nil past)) facts
  story_keeps past m (ran ∷ more) facts may well =
      let rest = events_of more in
      let next = happens_all m ran.events in
      let one = line_keeps past m ran facts (may_prefix m ran.events rest may) (starts_prefix m ran.events rest well) in
      let all = story_keeps ((past ++ said ran.line) ++ entries_all m ran.events) next more one (may_later m ran.events rest may) (starts_rest m ran.events rest well) in
      subst (λ (x : Machine). Facts (past ++ transcript_from m (ran ∷ more)) x.host.state) (sym (happens_all-append m ran.events rest))
      (subst (λ (l : List Entry). Facts l (happens_all next rest).host.state)
      (append_assoc (past ++ said ran.line) (entries_all m ran.events) (transcript_from next more) ∙ append_assoc past (said ran.line) (entries_all m ran.events ++ transcript_from next more))
      all)

-- ---- what a story shows of a device

pub same_made : (n : ℕ) (m : Machine) (story : List Ran) → made n (transcript_from m story) ≡ made n (entries_all m (events_of story))
same_made n m [] = refl
same_made n m (ran ∷ more) =
    let next = happens_all m ran.events in
    flat_map-append (made_at n) (entries_all m ran.events) (transcript_from next more)
    ∙ (ap (λ (l : List Made). made n (entries_all m ran.events) ++ l) (same_made n next more)
    ∙ (sym (flat_map-append (made_at n) (entries_all m ran.events) (entries_all next (events_of more)))
    ∙ ap (λ (l : List Entry). made n l) (sym (entries_all-append m ran.events (events_of more)))))

-- the same with events more
on_made : (n : ℕ) (m : Machine) (story : List Ran) (more : List Event) → made n (transcript_from m story ++ entries_all (happens_all m (events_of story)) more) ≡ made n (entries_all m (events_of story ++ more))
on_made n m story more =
    flat_map-append (made_at n) (transcript_from m story) (entries_all (happens_all m (events_of story)) more)
    ∙ (ap (λ (l : List Made). l ++ made n (entries_all (happens_all m (events_of story)) more)) (same_made n m story)
    ∙ (sym (flat_map-append (made_at n) (entries_all m (events_of story)) (entries_all (happens_all m (events_of story)) more))
    ∙ ap (λ (l : List Entry). made n l) (sym (entries_all-append m (events_of story) more))))

pub all_shown : (m : Machine) (story : List Ran) (more : List Event) (devices : List State) → AllByRecursion (IsShown (entries_all m (events_of story ++ more))) devices
    → AllByRecursion (IsShown (transcript_from m story ++ entries_all (happens_all m (events_of story)) more)) devices
all_shown m story more [] all = tt
all_shown m story more (d ∷ devices) all = (on_made d.node m story more ∙ all.0, all_shown m story more devices all.1)

pub all_group : (m : Machine) (story : List Ran) (more : List Event) (devices : List State) → AllByRecursion (GroupsSessions (entries_all m (events_of story ++ more))) devices
    → AllByRecursion (GroupsSessions (transcript_from m story ++ entries_all (happens_all m (events_of story)) more)) devices
all_group m story more [] all = tt
all_group m story more (d ∷ devices) all =
    (subst (λ (l : List Made). NeverFalls (flat_map (λ (x : Made). by_session x.by) l)) (sym (on_made d.node m story more)) all.0, all_group m story more devices all.1)
