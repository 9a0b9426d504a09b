-- What lines asked for, of one kind, along the steps of a host alone: it has ended, or is among its tasks, or there is an excuse.
use Rattle.std.proofs.Common.{◌≡◌, ◌⊎◌, ℕ, ◌+◌, Bool, true, false, inl, inr, List, [], ◌∷◌, ◌++◌, length, refl, sym, ap, ◌∙◌, subst, append-nil, append_assoc, arith}
use Rattle.std.specs.List.{AllByRecursion, flat_map}
use Rattle.zw_base.proofs.Each.{all-weaker}
use Rattle.zw_text.specs.declared.line.Line.{Line}
use Rattle.zw_text.specs.declared.line.Line.TheVariants as lines
use Rattle.zw_text.specs.declared.entry.Refusal.{Refusal}
use Rattle.zw_text.specs.declared.entry.Entry.{Entry}
use Rattle.zw_text.specs.declared.entry.Entry.TheVariants as entry
use Rattle.zw_text.specs.Transcript.{line_of, shown}
use Rattle.serial_link.specs.State.{Side}
use Rattle.host_requests.specs.State.{RequestsState}
use Rattle.host_model.specs.State.{HostState}
use Rattle.host_model.specs.After.{after}
use Rattle.host_model.specs.Events.{HostEvent, Queues, Queues_interview, IsOwn}
use Rattle.host_model.specs.Outs.{answers, outs}
use Rattle.host_model.proofs.Own.{sleepers_own, submitted_own}
use Rattle.host_model.proofs.Submitted.{next_is, no_more_is}
use Rattle.proof_nonces.specs.proof_work.Doing.{IsDone}
use Rattle.proof_nonces.specs.proof_work.Tasks.{ended, tasks_of}
use Rattle.proof_nonces.specs.proof_work.law_transcript.Restarts.{is_restart, since_restart}
use Rattle.proof_nonces.specs.proof_work.proof_host.Entries.{entries_at}
use Rattle.proof_nonces.specs.proof_work.world_model.Events.{shown_values}
use Rattle.proof_nonces.proofs.Doing.{own_done}
use Rattle.proof_nonces.specs.proof_attempts.Since.{IsElse, WalkBoth}
use Rattle.proof_nonces.specs.proof_attempts.proof_requests.proof_alone.State.{HostMachine, done}
use Rattle.proof_nonces.specs.proof_attempts.proof_requests.proof_alone.Steps.{Step, Tells, Comes, Misses, Says, Says_nothing, Asks, Refuses, Shows, Restarts, Begins_tick, Numbers, Judges, Does, entries, happens}
use Rattle.proof_nonces.specs.proof_attempts.proof_requests.proof_alone.Phases.{Phase, Resting, Asked, Risen, Ticking, Open, Behind, Sleeping, Submitting, May, Turns}
use Rattle.proof_nonces.specs.proof_attempts.proof_requests.proof_waking.Judged.{KnowsJudged}
use Rattle.proof_nonces.proofs.Lasting.{between_else, by_else}
use Rattle.proof_nonces.proofs.Queueing.{opened_asks}
use Rattle.proof_nonces.proofs.Events.{answers_are, event_notes}
use Rattle.proof_nonces.proofs.proof_alone_Apart.{missed_are, told_are}
use Rattle.proof_nonces.proofs.Apart.{IsWordless, said_in_vain, said_on, wordless_more}
use Rattle.proof_nonces.proofs.Followed.{MayFollow}
use Rattle.proof_nonces.proofs.Settling.{behind_follows}
use Rattle.proof_nonces.proofs.proof_waking_Judging.{asked_on, nothing_on}
use Rattle.proof_rests.specs.Known.{AreCounted, AreCountedOr, CountedBefore, KnowsCounts, KnowsDoing, Wanted, left_among}
use Rattle.proof_rests.proofs.Entries.{IsAside, IsLater, aside_later, answers_aside, item_aside, later_wordless, line_aside, line_later, note_later, others_aside}
use Rattle.proof_rests.proofs.Counting.{IsUnqueued, IsWanted, TasksGo, after_words, anew, event_counts, goes, in_vain, said, steady}

-- ---- what an event of the host is

own_unqueued : (event : HostEvent) → IsOwn event → IsUnqueued event
own_unqueued (Queues task) own = absurd own
own_unqueued (Queues_interview n) own = absurd own
own_unqueued event own = tt

follows_unqueued : (unit : List ℕ) (event : HostEvent) → MayFollow unit event → IsUnqueued event
follows_unqueued unit (Queues task) follows = absurd follows
follows_unqueued unit (Queues_interview n) follows = absurd follows
follows_unqueued unit event follows = tt

behind_unqueued : (first : HostEvent) (left : List HostEvent) (past : List Entry) (m : HostMachine) → KnowsJudged (Behind (first ∷ left)) past m → IsUnqueued first
behind_unqueued first left past m judged = let (unit, may) = behind_follows first left past m judged.1 in follows_unqueued unit first may

does_so : (here next : Phase) (past told : List Entry) (m : HostMachine) (event : HostEvent) → May here m (Does event told) next → KnowsDoing here past m → IsDone event × IsUnqueued event
does_so (Ticking (first ∷ left)) next past told m event may ground =
    (subst IsDone (sym may.0.0) ground.0.1.1.0, subst IsUnqueued (sym may.0.0) (own_unqueued first ground.1.0.0.0.0.1.0.0))
does_so (Behind (first ∷ left)) next past told m event may ground =
    (subst IsDone (sym may.0.0) ground.0.1.1.0, subst IsUnqueued (sym may.0.0) (behind_unqueued first left past m ground.1.0.0.0.0.1))
does_so Sleeping next past told m event may ground =
    let (node, wants, is, to_is) = may.0 in
    let own = subst IsOwn (sym is) (no_more_is IsOwn sleepers_own m.state node) in (own_done event own, own_unqueued event own)
does_so Submitting next past told m event may ground =
    let own = next_is IsOwn submitted_own m.state event may.0.0 in (own_done event own, own_unqueued event own)
does_so (Ticking []) next past told m event may ground = absurd may.0
does_so (Behind []) next past told m event may ground = absurd may.0
does_so Resting next past told m event may ground = absurd may.0
does_so (Asked line) next past told m event may ground = absurd may.0
does_so Risen next past told m event may ground = absurd may.0
does_so Open next past told m event may ground = absurd may.0

aside_wordless : (e : Entry) → IsAside e → IsWordless e
aside_wordless e aside = later_wordless e (aside_later e aside)

-- ---- of one kind

-- at each event the ends of tasks are entered, or what is entered excuses
abbrev pub EndsTold : {A B : Type 0} → Wanted A B → (List Entry → Bool) → Type 0
EndsTold wanted excuse = (here next : Phase) (past told : List Entry) (m : HostMachine) (event : HostEvent) → May here m (Does event told) next → KnowsDoing here past m
    → (length (shown wanted.ends (entries_at m.state event)) ≡ length (flat_map wanted.among (ended m.state event))) ⊎ ((since : List Entry) → excuse (since ++ told) ≡ true)

module _ {A B : Type 0} (wanted : Wanted A B) (is : IsWanted wanted) (excuse : List Entry → Bool) (grows : (since told : List Entry) → excuse since ≡ true → excuse (since ++ told) ≡ true) (tasks : TasksGo)
    (tells : EndsTold wanted excuse) where
  abbrev Known : List Entry → HostState → Type 0
  Known past h = AreCountedOr wanted excuse past h

  abbrev Knows : Phase → List Entry → HostMachine → Type 0
  Knows here past m = KnowsCounts wanted excuse here past m

  known_of : (here : Phase) (past : List Entry) (m : HostMachine) → IsElse here → Knows here past m → Known past m.state
  known_of (Asked line) past m other known = absurd other
  known_of here past m other known = known

  knows : (here : Phase) (past : List Entry) (m : HostMachine) → IsElse here → Known past m.state → Knows here past m
  knows (Asked line) past m other known = absurd other
  knows here past m other known = known

  leads_to : (next to : Phase) (past : List Entry) (m : HostMachine) → IsElse to → next ≡ to → Known past m.state → Knows next past m
  leads_to next to past m other same known = subst (λ (p : Phase). Knows p past m) (sym same) (knows to past m other known)

  as_known : (here at : Phase) (past : List Entry) (m : HostMachine) → here ≡ at → Knows here past m → Knows at past m
  as_known here at past m same known = subst (λ (p : Phase). Knows p past m) same known

  numbered_else : (here : Phase) (past : List Entry) (m : HostMachine) → m.awaits ≡ true → KnowsDoing here past m → IsElse here
  numbered_else (Asked line) past m awaits ground = absurd (let none = ground.0.0.1.unnumbered in let bad : false ≡ true = sym none ∙ awaits in cc)
  numbered_else here past m awaits ground = tt

  -- ---- entries and lines

  or_goes : (past told : List Entry) (h later : HostState) → AllByRecursion IsWordless told → (AreCounted wanted past h → AreCounted wanted (past ++ told) later) → Known past h → Known (past ++ told) later
  or_goes past told h later all counts (inl counted) = inl (counts counted)
  or_goes past told h later all counts (inr excused) = inr (ap excuse (wordless_more past told all) ∙ grows (since_restart past) told excused)

  idle : (past told : List Entry) (h : HostState) → AllByRecursion IsAside told → Known past h → Known (past ++ told) h
  idle past told h all known = or_goes past told h h (all-weaker IsAside IsWordless aside_wordless told all) (steady wanted is past told h all) known

  words_known : (line : Line) (past : List Entry) (h later : HostState) → is_restart (line ∷ []) ≡ false → length (wanted.by_line line) + left_among wanted h ≡ left_among wanted later
      → CountedBefore wanted excuse line past h → Known past later
  words_known line past h later other adds known = by known.counted
    where
      by : Known known.before h → Known past later
      by (inl counted) = inl (after_words wanted is line known.before past known.words h later known.are known.read other adds counted)
      by (inr excused) =
          inr (ap (λ (l : List Entry). excuse (since_restart l)) known.are ∙ ap excuse (said_on known.before known.words (ap is_restart known.read ∙ other))
          ∙ grows (since_restart known.before) (entry.Said known.words ∷ []) excused)

  quiet_line : (line : Line) (past : List Entry) (h : HostState) → is_restart (line ∷ []) ≡ false → length (wanted.by_line line) ≡ 0 → CountedBefore wanted excuse line past h → Known past h
  quiet_line line past h other none known = words_known line past h h other (omega (arith, none)) known

  wordless_said : (past : List Entry) (words : List ℕ) (h : HostState) → line_of (entry.Said words) ≡ [] → Known past h → Known (past ++ entry.Said words ∷ []) h
  wordless_said past words h none (inl counted) =
      inl (said wanted is past words h h (ap is_restart none)
      (let asked : length (flat_map wanted.by_line (line_of (entry.Said words))) ≡ 0 = ap (λ (l : List Line). length (flat_map wanted.by_line l)) none in omega (arith, asked)) counted)
  wordless_said past words h none (inr excused) = inr (ap excuse (said_on past words (ap is_restart none)) ∙ grows (since_restart past) (entry.Said words ∷ []) excused)

  refused_known : (line : Line) (past : List Entry) (refusal : Refusal) (h : HostState) → CountedBefore wanted excuse line past h → Known (past ++ entry.Refused refusal ∷ []) h
  refused_known line past refusal h known =
      subst (λ (l : List Entry). Known (l ++ entry.Refused refusal ∷ []) h) (sym known.are)
      (subst (λ (l : List Entry). Known l h) (sym (append_assoc known.before (entry.Said known.words ∷ []) (entry.Refused refusal ∷ []))) (by known.counted))
    where
      told : List Entry
      told = entry.Said known.words ∷ (entry.Refused refusal ∷ [])

      by : Known known.before h → Known (known.before ++ told) h
      by (inl counted) = inl (in_vain wanted is known.before known.words refusal h counted)
      by (inr excused) = inr (ap excuse (said_in_vain known.before known.words refusal) ∙ grows (since_restart known.before) told excused)

  -- ---- steps

  does : (here next : Phase) (past told : List Entry) (m : HostMachine) (event : HostEvent) → May here m (Does event told) next → KnowsDoing here past m → Knows here past m → Knows next (past ++ told) (done m event)
  does here next past told m event may ground known =
      let so = does_so here next past told m event may ground in
      let others = by_else here next m.state event may.0 in
      let all = all-weaker IsLater IsWordless later_wordless told (told_are IsLater line_later note_later (outs m.state event) told (event_notes m.state event) may.2) in
      knows next (past ++ told) (done m event) others.1 (by so all (tells here next past told m event may ground) (known_of here past m others.0 known))
    where
      by : IsDone event × IsUnqueued event → AllByRecursion IsWordless told
          → (length (shown wanted.ends (entries_at m.state event)) ≡ length (flat_map wanted.among (ended m.state event))) ⊎ ((since : List Entry) → excuse (since ++ told) ≡ true)
          → Known past m.state → Known (past ++ told) (after m.state event)
      by so all (inl ends) before =
          or_goes past told m.state (after m.state event) all
          (goes wanted is past told m.state (after m.state event) all (event_counts wanted is tasks m.state event told so.0 so.1 may.1.0 may.2 ends)) before
      by so all (inr excuses) before = inr (ap excuse (wordless_more past told all) ∙ excuses (since_restart past))

  idles : (here next : Phase) (past : List Entry) (m : HostMachine) (one : Step) → IsElse here → next ≡ here → (happens m one).state ≡ m.state → AllByRecursion IsAside (entries m one) → Knows here past m
      → Knows next (past ++ entries m one) (happens m one)
  idles here next past m one other same state all known =
      leads_to next here (past ++ entries m one) (happens m one) other same
      (subst (λ (h : HostState). Known (past ++ entries m one) h) (sym state) (idle past (entries m one) m.state all (known_of here past m other known)))

  step_goes : (here next : Phase) (past : List Entry) (m : HostMachine) (one : Step) → May here m one next → KnowsDoing here past m → Knows here past m → Knows next (past ++ entries m one) (happens m one)
  step_goes here next past m (Tells e) may ground known = idles here next past m (Tells e) (between_else here may.0) may.3 refl (others_aside e may.1, tt) known
  step_goes here next past m (Comes unit) may ground known = idles here next past m (Comes unit) (between_else here may.0) may.2 refl (tt, tt) known
  step_goes here next past m (Misses text marks) may ground known =
      idles here next past m (Misses text marks) (between_else here may.0) may.3 refl (tt, missed_are IsAside line_aside marks may.1) known
  step_goes here next past m (Says words line) may ground known =
      subst (λ (p : Phase). Knows p (past ++ entry.Said words ∷ []) (happens m (Says words line))) (sym may.3)
      (record { before = past; words = words; are = refl; read = may.2; counted = known_of Resting past m tt (as_known here Resting past m may.0 known) })
  step_goes here next past m (Says_nothing words) may ground known =
      leads_to next Resting (past ++ entry.Said words ∷ []) (happens m (Says_nothing words)) tt (may.3 ∙ may.0)
      (wordless_said past words m.state may.2 (known_of Resting past m tt (as_known here Resting past m may.0 known)))
  step_goes here next past m (Asks event) (line, here_is, asked, may, told_numbered, to_is) ground known =
      let at = as_known here (Asked line) past m here_is known in
      leads_to next Open (past ++ answers m.state event) (done m event) tt to_is
      (idle past (answers m.state event) (after m.state event) (answers_are IsAside answers_aside m.state event)
      (words_known line past m.state (after m.state event) (asked_on line m.state event asked) (is.asks tasks m.state event may.0 line asked) at))
  step_goes here next past m (Refuses refusal) (line, here_is, why, unnumbered, to_is) ground known =
      leads_to next Open (past ++ entry.Refused refusal ∷ []) m tt to_is (refused_known line past refusal m.state (as_known here (Asked line) past m here_is known))
  step_goes here next past m (Shows node) may ground known =
      leads_to next Open (past ++ shown_values m.state node ∷ []) m tt may.2
      (idle past (shown_values m.state node ∷ []) m.state (tt, tt) (quiet_line (lines.Store node) past m.state refl stores (as_known here (Asked (lines.Store node)) past m may.0 known)))
    where
      stores : length (wanted.by_line (lines.Store node)) ≡ 0
      stores = is.stores node
  step_goes here next past m (Restarts state) may ground known =
      let at = as_known here (Asked lines.Restart) past m may.0 known in
      let fresh = ap (λ (p : Side × RequestsState). tasks_of p.1) (opened_asks m.keys m.records state ground.0.0.0.0.0.told may.1) in
      leads_to next Open (past ++ []) (happens m (Restarts state)) tt may.2
      (subst (λ (l : List Entry). Known l state) (sym (append-nil past))
      (subst (λ (l : List Entry). Known l state) (sym at.are) (inl (anew wanted is at.before at.words state (ap is_restart at.read) fresh))))
  step_goes here next past m (Begins_tick left) may ground known =
      leads_to next Risen (past ++ []) (happens m (Begins_tick left)) tt may.2
      (subst (λ (l : List Entry). Known l m.state) (sym (append-nil past)) (known_of Resting past m tt (as_known here Resting past m may.0 known)))
  step_goes here next past m Numbers may ground known =
      let other = numbered_else here past m may.0 ground in
      leads_to next here (past ++ entry.Time m.clock ∷ []) (happens m Numbers) other may.1
      (or_goes past (entry.Time m.clock ∷ []) m.state m.state (tt, tt)
      (goes wanted is past (entry.Time m.clock ∷ []) m.state m.state (tt, tt) (let none = is.time m.clock in omega (arith, none))) (known_of here past m other known))
  step_goes here next past m (Judges item rest behind told) may ground known =
      leads_to next (Behind behind) (past ++ told) (happens m (Judges item rest behind told)) tt may.2
      (idle past told m.state (item_aside item told may.1.told_so) (known_of Open past m tt (as_known here Open past m may.0 known)))
  step_goes here next past m (Does event told) may ground known = does here next past told m event may ground known

  turn_goes : (here next : Phase) (past : List Entry) (m : HostMachine) → Turns here m next → Knows here past m → Knows next past m
  turn_goes Resting next past m turns known = leads_to next Open past m tt turns known
  turn_goes (Asked line) next past m (inl (nothing, to_is)) known = leads_to next Open past m tt to_is (quiet_line line past m.state (nothing_on line nothing) (is.nothing_asked line nothing) known)
  turn_goes (Asked line) next past m (inr (ticks, line_is, to_is)) known =
      leads_to next Resting past m tt to_is
      (quiet_line (lines.Tick ticks) past m.state refl (is.ticks ticks) (subst (λ (l : Line). CountedBefore wanted excuse l past m.state) line_is known))
  turn_goes Risen next past m turns known = leads_to next (Ticking _) past m tt turns known
  turn_goes (Ticking []) next past m turns known = leads_to next Open past m tt turns known
  turn_goes (Ticking (first ∷ left)) next past m turns known = absurd turns
  turn_goes Open next past m turns known = leads_to next Sleeping past m tt turns known
  turn_goes (Behind []) next past m turns known = leads_to next Open past m tt turns known
  turn_goes (Behind (first ∷ left)) next past m turns known = absurd turns
  turn_goes Sleeping next past m turns known = leads_to next Submitting past m tt turns.1 known
  turn_goes Submitting next past m turns known = leads_to next Resting past m tt turns.1 known

  pub counts_walk : WalkBoth KnowsDoing (KnowsCounts wanted excuse)
  counts_walk = record {
    step = λ here next past m one may ground later known. step_goes here next past m one may ground known;
    turn = λ here next past m turns ground known. turn_goes here next past m turns known;
  }

  pub first_counted : (h : HostState) → tasks_of h.requests ≡ [] → Known [] h
  first_counted h none = inl (let left : left_among wanted h ≡ 0 = ap (λ l. length (flat_map wanted.among l)) none in omega (arith, left))
