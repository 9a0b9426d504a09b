-- At each step of a careful run of a host alone that goes by what is heeded, and wherever a part begins, what waits by its transcript, after a look where the host has looked, is what waits in
-- the host; and each entry may stand.
use Rattle.std.proofs.Common.{◌≡◌, false, inl, inr, List, [], ◌∷◌, ◌++◌, refl, sym, ◌∙◌, subst, append-nil}
use Rattle.std.specs.List.{AllByRecursion}
use Rattle.zw_text.specs.declared.line.Line.TheVariants as lines
use Rattle.zw_text.specs.declared.entry.Entry.{Entry}
use Rattle.zw_text.specs.declared.entry.Entry.TheVariants as entry
use Rattle.host_heard.specs.declared.told.Told.{Told}
use Rattle.law_transcript.specs.Units.{Carried}
use Rattle.host_model.specs.After.{after}
use Rattle.host_model.specs.Events.{HostEvent}
use Rattle.host_model.specs.Outs.{answers, outs}
use Rattle.host_model.specs.Pumping.{no_more_event}
use Rattle.host_model.specs.Ticking.{tick_events}
use Rattle.proof_attempts.specs.world_model.Events.{shown_values}
use Rattle.proof_attempts.specs.proof_requests.law_host.Heard.{heeds_alone}
use Rattle.proof_attempts.specs.proof_requests.proof_alone.State.{HostMachine, done}
use Rattle.proof_attempts.specs.proof_requests.proof_alone.Steps.{AreTold, IsOfOthers, Step, Tells, Comes, Misses, Says, Says_nothing, Asks, Refuses, Shows, Restarts, Begins_tick, Numbers, Judges, Does, entries, happens}
use Rattle.proof_attempts.specs.proof_requests.proof_alone.Phases.{Phase, Resting, Asked, Risen, Ticking, Open, Behind, Sleeping, Submitting, IsBetween, May, Turns}
use Rattle.proof_attempts.specs.proof_requests.proof_alone.Careful.{Stage, Fresh, Reading, Read, Looked, Judging, MayMeet, MayStep, stage_after, stage_judged, stage_pumped, stage_turned}
use Rattle.proof_attempts.proofs.Queued.{PayloadsBring}
use Rattle.proof_attempts.proofs.Wrote.{writes}
use Rattle.proof_queue.specs.Heeding.{HeedsSo}
use Rattle.proof_queue.proofs.Closing.{none_wanting}
use Rattle.proof_queue.proofs.Heeded.{behind_follows, behind_goes, judges}
use Rattle.proof_queue.proofs.Knowing.{Grounds, Know, UptoM, came_on, known_at, known_to, loose, numbers, sights_at}
use Rattle.proof_queue.proofs.Loose.{Still, missed_still, others_still}
use Rattle.proof_queue.proofs.Pace.{First, FirstOr}
use Rattle.proof_queue.proofs.Pumping.{lets_sleep, pump_begins, pump_ends, pump_goes_on, submits}
use Rattle.proof_queue.proofs.Saying.{asks, nothing_asked, only_ticks, refuses, rested, restarts, says, says_nothing, shows}
use Rattle.proof_queue.proofs.Seeing.{Sights, View, view, worked}
use Rattle.proof_queue.proofs.Stills.{IsTick}
use Rattle.proof_queue.proofs.Ticked.{ticks, ticks_are}
use Rattle.proof_queue.proofs.Ties.{Stand}

module _ (taken : List Entry → Carried → List Told) where
  abbrev Leads : Phase → Stage → List Entry → HostMachine → Step → Type 0
  Leads next stage past m one = Stand taken past (entries m one) × Know taken next (stage_after stage one) (past ++ entries m one) (happens m one)

  leads : (next to : Phase) (stage : Stage) (past told : List Entry) (later : HostMachine) → next ≡ to → Stand taken past told × Know taken to stage (past ++ told) later
      → Stand taken past told × Know taken next stage (past ++ told) later
  leads next to stage past told later is goes = (goes.0, known_to taken next to stage (past ++ told) later is goes.1)

  -- where it has pumped nothing was judged first, or nothing has come
  pub first_at : (stage : Stage) (past : List Entry) (m : HostMachine) → First stage past m → stage ≡ Looked → FirstOr past m
  first_at stage past m first is = subst (λ (s : Stage). First s past m) is first

  -- entries of others and of the chip, with what has come as it was
  between : (here next : Phase) (stage : Stage) (past told : List Entry) (m : HostMachine) → IsBetween here → next ≡ here → m.awaits ≡ false → AllByRecursion Still told
      → (stage ≡ Judging → AllByRecursion IsOfOthers told) → Sights here past m → Sights next (past ++ told) m → Know taken here stage past m
      → Stand taken past told × Know taken next stage (past ++ told) m
  between here next stage past told m is same now all meets sights after_it known =
      leads next here stage past told m same
      (loose taken past told m now all here stage is meets (λ looking. view here past m looking sights)
      (λ looking. view here (past ++ told) m looking (sights_at next here (past ++ told) m same after_it)) known)

  -- ---- events of the host

  does : PayloadsBring → (here next : Phase) (stage : Stage) (past : List Entry) (m : HostMachine) (event : HostEvent) (told : List Entry) → May here m (Does event told) next → Grounds here stage past m
      → Sights next (past ++ told) (done m event) → Know taken here stage past m → Leads next stage past m (Does event told)
  does brings (Ticking (first ∷ left)) next stage past m event told may grounds after_it known =
      leads next (Ticking left) stage past told (done m event) may.0.1
      (ticks taken first left past m event told (subst IsTick (sym may.0.0) (ticks_are first left past m grounds.asks.1)) may.2 may.3
      (writes (Ticking (first ∷ left)) next past told m event may grounds.asks.0 grounds.asks.1) (worked (Ticking (first ∷ left)) past m tt grounds.sights).0 stage known)
  does brings (Behind (first ∷ left)) next stage past m event told may grounds after_it known =
      let is : AreTold (outs m.state first) told = subst (λ (e : HostEvent). AreTold (outs m.state e) told) may.0.0 may.2 in
      let later : View (past ++ told) m.clock (after m.state first) m.awaits =
      subst (λ (e : HostEvent). View (past ++ told) m.clock (after m.state e) m.awaits) may.0.0
      (view (Behind left) (past ++ told) (done m event) tt (sights_at next (Behind left) (past ++ told) (done m event) may.0.1 after_it)) in
      leads next (Behind left) stage past told (done m event) may.0.1
      (subst (λ (e : HostEvent). Stand taken past told × Know taken (Behind left) stage (past ++ told) (done m e)) (sym may.0.0)
      (behind_goes taken first left past m told is may.3 (behind_follows first left past m told grounds.asks.0.0.0.1 is) (view (Behind (first ∷ left)) past m tt grounds.sights) later stage known))
  does brings Sleeping next stage past m event told may grounds after_it known =
      let (node, wants, is, next_is) = may.0 in
      let later : View (past ++ told) m.clock (after m.state (no_more_event m.state node)) m.awaits =
      subst (λ (e : HostEvent). View (past ++ told) m.clock (after m.state e) m.awaits) is
      (view Sleeping (past ++ told) (done m event) tt (sights_at next Sleeping (past ++ told) (done m event) next_is after_it)) in
      leads next Sleeping stage past told (done m event) next_is
      (subst (λ (e : HostEvent). Stand taken past told × Know taken Sleeping stage (past ++ told) (done m e)) (sym is)
      (lets_sleep taken past m node told wants (subst (λ (e : HostEvent). AreTold (outs m.state e) told) is may.2) may.3 (view Sleeping past m tt grounds.sights) later stage known))
  does brings Submitting next stage past m event told may grounds after_it known =
      let later = sights_at next Submitting (past ++ told) (done m event) may.0.1 after_it in
      leads next Submitting stage past told (done m event) may.0.1
      (submits taken brings stage past told m event may.3 grounds.asks.0 grounds.asks.1 (view Submitting past m tt grounds.sights) may.0.0 may.1 may.2
      (view Submitting (past ++ told) (done m event) tt later) (none_wanting (after m.state event) (worked Submitting (past ++ told) (done m event) tt later).1) known)
  does brings (Ticking []) next stage past m event told may grounds after_it known = absurd may.0
  does brings (Behind []) next stage past m event told may grounds after_it known = absurd may.0
  does brings Resting next stage past m event told may grounds after_it known = absurd may.0
  does brings (Asked line) next stage past m event told may grounds after_it known = absurd may.0
  does brings Risen next stage past m event told may grounds after_it known = absurd may.0
  does brings Open next stage past m event told may grounds after_it known = absurd may.0

  -- ---- the walk

  pub step_goes : PayloadsBring → (here next : Phase) (stage : Stage) (past : List Entry) (m : HostMachine) (one : Step) → May here m one next → MayStep stage one → Grounds here stage past m
      → Sights next (past ++ entries m one) (happens m one) → HeedsSo (heeds_alone taken) past m one → Know taken here stage past m → Leads next stage past m one
  step_goes brings here next stage past m (Tells e) may well grounds after_it heeds known =
      between here next stage past (e ∷ []) m may.0 may.3 may.2 (others_still e may.1, tt) (λ judging. (may.1, tt)) grounds.sights after_it known
  step_goes brings here next stage past m (Comes unit) may well grounds after_it heeds known =
      let told : List Entry = entries m (Comes unit) in
      let later : HostMachine = happens m (Comes unit) in
      let never : stage ≡ Judging → ⊥ = (λ is. subst MayMeet is well) in
      let goes = loose taken past told m may.1 (tt, tt) here stage may.0 (λ is. absurd (never is)) (λ looking. view here past m looking grounds.sights)
      (λ looking. view here (past ++ told) later looking (sights_at next here (past ++ told) later may.2 after_it)) known in
      leads next here stage past told later may.2 (goes.0, came_on taken here stage (past ++ told) m (m.came ++ unit ∷ []) may.0 never goes.1)
  step_goes brings here next stage past m (Misses text marks) may well grounds after_it heeds known =
      between here next stage past (entries m (Misses text marks)) m may.0 may.3 may.2 (tt, missed_still marks may.1) (λ is. absurd (subst MayMeet is well)) grounds.sights after_it known
  step_goes brings here next stage past m (Says words line) may well grounds after_it heeds known =
      let sights = sights_at here Resting past m may.0 grounds.sights in
      leads next (Asked line) Fresh past (entry.Said words ∷ []) (happens m (Says words line)) may.3
      (says taken past m words may.1 sights (rested taken stage past m sights (known_at taken here Resting stage past m may.0 known)) line may.2)
  step_goes brings here next stage past m (Says_nothing words) may well grounds after_it heeds known =
      let sights = sights_at here Resting past m may.0 grounds.sights in
      leads next Resting Reading past (entry.Said words ∷ []) (happens m (Says_nothing words)) (may.3 ∙ may.0)
      (says_nothing taken past m words may.1 sights (rested taken stage past m sights (known_at taken here Resting stage past m may.0 known)) may.2)
  step_goes brings here next stage past m (Asks event) (line, here_is, is, may, numbered, next_is) well grounds after_it heeds known =
      leads next Open stage past (answers m.state event) (done m event) next_is
      (asks taken line stage past m event is may (sights_at here (Asked line) past m here_is grounds.sights) (known_at taken here (Asked line) stage past m here_is known))
  step_goes brings here next stage past m (Refuses refusal) (line, here_is, why, now, next_is) well grounds after_it heeds known =
      leads next Open stage past (entry.Refused refusal ∷ []) m next_is (refuses taken line stage past m refusal why (known_at taken here (Asked line) stage past m here_is known))
  step_goes brings here next stage past m (Shows node) may well grounds after_it heeds known =
      leads next Open stage past (shown_values m.state node ∷ []) m may.2 (shows taken node stage past m (shown_values m.state node) tt (known_at taken here (Asked (lines.Store node)) stage past m may.0 known))
  step_goes brings here next stage past m (Restarts state) may well grounds after_it heeds known = (
    tt,
    known_to taken next Open stage (past ++ []) (happens m (Restarts state)) may.2
        (restarts taken stage past m state grounds.asks.0.0.0.0.0.0.told may.1 (known_at taken here (Asked lines.Restart) stage past m may.0 known)),
  )
  step_goes brings here next stage past m (Begins_tick left) may well grounds after_it heeds known =
      let ties : UptoM taken past m = rested taken stage past m (sights_at here Resting past m may.0 grounds.sights) (known_at taken here Resting stage past m may.0 known) in (
        tt,
        known_to taken next Risen Fresh (past ++ []) (happens m (Begins_tick left)) may.2 (inr (refl, (m.clock, refl, subst (λ (l : List Entry). UptoM taken l m) (sym (append-nil past)) ties))),
      )
  step_goes brings here next stage past m Numbers may well grounds after_it heeds known =
      let later : HostMachine = happens m Numbers in
      leads next here stage past (entries m Numbers) later may.1
      (numbers taken past m may.0 here stage (λ looking. view here past m looking grounds.sights)
      (λ looking. view here (past ++ entries m Numbers) later looking (sights_at next here (past ++ entries m Numbers) later may.1 after_it)) known)
  step_goes brings here next stage past m (Judges item rest behind told) may well grounds after_it heeds known =
      let later : HostMachine = happens m (Judges item rest behind told) in
      leads next (Behind behind) (stage_judged stage) past told later may.2
      (judges taken stage past m item rest behind told may.1 well grounds.pace.at_once (first_at stage past m grounds.pace.first) heeds
      (view Open past m tt (sights_at here Open past m may.0 grounds.sights))
      (view (Behind behind) (past ++ told) later tt (sights_at next (Behind behind) (past ++ told) later may.2 after_it)) (known_at taken here Open stage past m may.0 known))
  step_goes brings here next stage past m (Does event told) may well grounds after_it heeds known = does brings here next stage past m event told may grounds after_it known

  -- ---- where a part is over

  opens : (stage : Stage) (past : List Entry) (m : HostMachine) → Know taken Resting stage past m → Know taken Open stage past m
  opens Fresh past m known = inl known
  opens Reading past m known = known
  opens Read past m known = known
  opens Looked past m known = known
  opens Judging past m known = absurd known

  rises : (stage : Stage) (past : List Entry) (m : HostMachine) (events : List HostEvent) → Know taken Risen stage past m → Know taken (Ticking events) stage past m
  rises Fresh past m events known = known
  rises stage past m events known = absurd known

  ticked : (stage : Stage) (past : List Entry) (m : HostMachine) → Know taken (Ticking []) stage past m → Know taken Open stage past m
  ticked Fresh past m known = known
  ticked stage past m known = absurd known

  judged : (stage : Stage) (past : List Entry) (m : HostMachine) → Know taken (Behind []) stage past m → Know taken Open stage past m
  judged Reading past m known = known
  judged Judging past m (inl (ties, requests, first)) = inl (ties, first)
  judged Judging past m (inr (raw, gone)) = inr (raw, gone)
  judged stage past m known = absurd known

  pub turn_goes : (here next : Phase) (stage : Stage) (past : List Entry) (m : HostMachine) → Turns here m next → Sights here past m → Know taken here stage past m
      → Know taken next (stage_turned stage here) past m
  turn_goes Resting next stage past m is sights known = known_to taken next Open stage past m is (opens stage past m known)
  turn_goes (Asked line) next stage past m (inl (nothing, is)) sights known = known_to taken next Open stage past m is (nothing_asked taken line stage past m nothing known)
  turn_goes (Asked line) next stage past m (inr (ticks_so, line_is, is)) sights known = known_to taken next Resting stage past m is (only_ticks taken line stage past m ticks_so line_is known)
  turn_goes Risen next stage past m is sights known = known_to taken next (Ticking (tick_events m.state)) stage past m is (rises stage past m (tick_events m.state) known)
  turn_goes (Ticking []) next stage past m is sights known = known_to taken next Open stage past m is (ticked stage past m known)
  turn_goes (Ticking (first ∷ left)) next stage past m is sights known = absurd is
  turn_goes Open next stage past m is sights known = known_to taken next Sleeping (stage_pumped stage) past m is (pump_begins taken past m (view Open past m tt sights) stage known)
  turn_goes (Behind []) next stage past m is sights known = known_to taken next Open stage past m is (judged stage past m known)
  turn_goes (Behind (first ∷ left)) next stage past m is sights known = absurd is
  turn_goes Sleeping next stage past m is sights known = known_to taken next Submitting stage past m is.1 (pump_goes_on taken stage past m is.0 known)
  turn_goes Submitting next stage past m is sights known = known_to taken next Resting stage past m is.1 (pump_ends taken stage past m known)
