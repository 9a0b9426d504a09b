-- The walk over what is ready to be sealed, where a frame that is judged and a host that starts leave it so.
use Rattle.std.proofs.Common.{◌≡◌, ◌⊎◌, ℕ, ◌+◌, true, false, inl, inr, List, [], ◌∷◌, ◌++◌, refl, sym, ap, ◌∙◌, subst, append-nil, append_assoc}
use Rattle.std.specs.List.{AllByRecursion}
use Rattle.zw_base.proofs.Each.{all-weaker}
use Rattle.serial_frame.specs.Items.{unit_text}
use Rattle.serial_frame.specs.declared.item.Item.{Item}
use Rattle.serial_frame.specs.declared.item.Item.TheVariants.{Good}
use Rattle.serial_frame.specs.declared.unit.Unit.TheVariants.{Ack, Framed}
use Rattle.serial_frame.specs.declared.unit.Unit.{Unit as LineUnit}
use Rattle.zw_words.specs.declared.side.Side.TheVariants.{Host}
use Rattle.zw_text.specs.declared.line.Line.{Line}
use Rattle.zw_text.specs.declared.line.Line.TheVariants as lines
use Rattle.zw_text.specs.declared.entry.Refusal.{Refusal}
use Rattle.zw_text.specs.declared.entry.Entry.{Entry}
use Rattle.zw_text.specs.declared.entry.Entry.TheVariants as entry
use Rattle.zw_text.specs.Transcript.{line_of}
use Rattle.host_heard.specs.declared.told.Told.{Told}
use Rattle.law_transcript.specs.Restarts.{is_restart}
use Rattle.law_transcript.specs.Units.{Carried}
use Rattle.law_time.specs.Attempts.{Attempts}
use Rattle.law_time.specs.Heeds.{Heeds}
use Rattle.host_model.specs.State.{HostState, node_of}
use Rattle.host_model.specs.After.{after}
use Rattle.host_model.specs.Did.{after_all}
use Rattle.host_model.specs.Events.{HostEvent, Accepts, Cancels, Hears, Starts, Gives_text, Takes_nonce}
use Rattle.host_model.specs.Outs.{answers}
use Rattle.proof_giving.specs.proof_queue.proof_attempts.proof_requests.proof_alone.world_model.Events.{OpensFrom, shown_values}
use Rattle.proof_giving.specs.proof_queue.proof_attempts.proof_requests.law_host.Heard.{heeds_alone}
use Rattle.proof_giving.specs.proof_queue.proof_attempts.proof_requests.proof_alone.State.{HostMachine, done}
use Rattle.proof_giving.specs.proof_queue.proof_attempts.proof_requests.proof_alone.Steps.{Step, Tells, Comes, Misses, Says, Says_nothing, Asks, Refuses, Shows, Restarts, Begins_tick, Numbers, Judges, Does, entries, happens}
use Rattle.proof_giving.specs.proof_queue.proof_attempts.proof_requests.proof_alone.Phases.{Phase, Resting, Asked, Risen, Ticking, Open, Behind, Sleeping, Submitting, IsJudgedNow, May, Turns}
use Rattle.proof_giving.specs.proof_queue.proof_attempts.proof_requests.proof_alone.Runs.{Run}
use Rattle.proof_giving.specs.proof_queue.proof_attempts.proof_requests.proof_alone.Runs.Run.{Begins, Turned, Stepped}
use Rattle.proof_giving.proofs.proof_waking_Judging.{nothing_on}
use Rattle.proof_giving.specs.proof_queue.proof_attempts.Since.{BeforeWords, IsElse, IsLoose, KnowsSince}
use Rattle.proof_giving.proofs.Lasting.{as_known, between_else, by_else, leads_to, missed_loose, numbered_else, of_rest, others_loose, rest_of}
use Rattle.proof_giving.proofs.Queued.{PayloadsBring}
use Rattle.proof_giving.specs.proof_queue.Heeding.{AllSteps, HeedsAs}
use Rattle.proof_giving.specs.Walking.{Grounds}
use Rattle.proof_giving.specs.Told.{GoesAlong, LeavesAttempts, attempts_so_far}
use Rattle.proof_giving.specs.proof_queue.proof_attempts.proof_walk.ByLine.{IsAsked}
use Rattle.proof_giving.proofs.Told.{attempts_in_vain, attempts_left, attempts_said}
use Rattle.proof_giving.proofs.InOrder.{is_asked}
use Rattle.proof_giving.proofs.Stepping.{asked_on}
use Rattle.proof_choice.specs.Ready.{ReadySo}
use Rattle.proof_choice.specs.Readying.{ReadyAsTold, ReadyGround, Renewed}
use Rattle.proof_choice.specs.Turning.{AllAlong}
use Rattle.proof_choice.proofs.Along.{known_last}
use Rattle.proof_choice.proofs.Nonces.{one_stays}
use Rattle.proof_choice.proofs.ReadyGoes.{GrowsAlong, along_either, behind_none, goes_on_ready}
use Rattle.proof_choice.proofs.ReadyTie.{anew_bare, does_ready, facts_of, within_of}
use Rattle.proof_choice.proofs.Staying.{LeavesTexts}

loose_leaves : (e : Entry) → IsLoose e → LeavesAttempts e
loose_leaves (entry.Said words) loose = absurd loose
loose_leaves (entry.Refused refusal) loose = absurd loose
loose_leaves (entry.Written Host unit) loose = absurd loose
loose_leaves (entry.Begin node session command) loose = absurd loose
loose_leaves (entry.Out command ended) loose = absurd loose
loose_leaves e loose = tt

answers_along : (h : HostState) (event : HostEvent) → AllByRecursion GoesAlong (answers h event)
answers_along h (Accepts order carriage) = (tt, tt)
answers_along h (Cancels command) = (tt, tt)
answers_along h event = tt

module _ (grows : GrowsAlong) (brings : PayloadsBring) (taken : List Entry → Carried → List Told) where
  abbrev heeds : Heeds
  heeds = heeds_alone taken

  abbrev so_far : ℕ → List Entry → Attempts
  so_far n past = attempts_so_far heeds n past

  -- what is known where a frame was just acknowledged
  abbrev pub ShowsAcked : List Entry → HostMachine → Step → Type 0
  ShowsAcked past m (Judges (Good (Framed f)) rest behind told) =
      Grounds heeds (Behind behind) (past ++ entry.Written Host (unit_text Ack) ∷ []) (happens m (Judges (Good (Framed f)) rest behind (entry.Written Host (unit_text Ack) ∷ [])))
  ShowsAcked past m one = Unit {0}

  -- a frame is judged, and the host starts
  abbrev pub JudgesReady : Type 0
  JudgesReady =
      (past : List Entry) (m : HostMachine) (item : Item) (rest : List LineUnit) (behind : List HostEvent) (told : List Entry) → IsJudgedNow m item rest behind told
      → HeedsAs heeds past m (Judges item rest behind told) → ShowsAcked past m (Judges item rest behind told) → ReadyGround heeds Open past m → ReadyGround heeds (Behind behind) (past ++ told) (record (done m (Hears item)) { came = rest })
      → ReadyAsTold heeds Open past m.state m.clock → ReadyAsTold heeds (Behind behind) (past ++ told) (after m.state (Hears item)) m.clock

  abbrev pub StartsReady : Type 0
  StartsReady =
      (before : List Entry) (words : List ℕ) (m : HostMachine) (state : HostState) → OpensFrom m.keys m.records state → is_restart (line_of (entry.Said words)) ≡ true
      → ReadyGround heeds (Asked lines.Restart) (before ++ entry.Said words ∷ []) m → ReadyGround heeds Open (before ++ entry.Said words ∷ []) (record m { state = state; came = [] })
      → ReadyAsTold heeds Resting before m.state m.clock → ReadyAsTold heeds Open (before ++ entry.Said words ∷ []) state m.clock

  -- entries that leave the attempts
  leaves : (here : Phase) (past later : List Entry) (h : HostState) (clock : ℕ) → ((n : ℕ) → so_far n later ≡ so_far n past) → ReadyAsTold heeds here past h clock → ReadyAsTold heeds here later h clock
  leaves (Behind left) past later h clock same tie = λ n from to.
      subst (λ (a : Attempts). ReadySo a (node_of (after_all h left) n) ⊎ Renewed a (node_of h n) (node_of (after_all h left) n)) (sym (same n)) (tie n from to)
  leaves Resting past later h clock same tie = λ n from to. subst (λ (a : Attempts). ReadySo a (node_of h n)) (sym (same n)) (tie n from to)
  leaves (Asked line) past later h clock same tie = λ n from to. subst (λ (a : Attempts). ReadySo a (node_of h n)) (sym (same n)) (tie n from to)
  leaves Risen past later h clock same tie = λ n from to. subst (λ (a : Attempts). ReadySo a (node_of h n)) (sym (same n)) (tie n from to)
  leaves (Ticking left) past later h clock same tie = λ n from to. subst (λ (a : Attempts). ReadySo a (node_of h n)) (sym (same n)) (tie n from to)
  leaves Open past later h clock same tie = λ n from to. subst (λ (a : Attempts). ReadySo a (node_of h n)) (sym (same n)) (tie n from to)
  leaves Sleeping past later h clock same tie = λ n from to. subst (λ (a : Attempts). ReadySo a (node_of h n)) (sym (same n)) (tie n from to)
  leaves Submitting past later h clock same tie = λ n from to. subst (λ (a : Attempts). ReadySo a (node_of h n)) (sym (same n)) (tie n from to)

  loose_goes : (here : Phase) (past told : List Entry) (h : HostState) (clock : ℕ) → AllByRecursion IsLoose told → ReadyAsTold heeds here past h clock → ReadyAsTold heeds here (past ++ told) h clock
  loose_goes here past told h clock all tie = leaves here past (past ++ told) h clock (λ n. attempts_left taken n past told (all-weaker IsLoose LeavesAttempts loose_leaves told all)) tie

  -- what a line asks for
  asked_goes : (line : Line) (past : List Entry) (m : HostMachine) (event : HostEvent) → LeavesTexts false event → ReadyGround heeds (Asked line) past m
      → ReadyGround heeds Open (past ++ answers m.state event) (done m event) → ReadyAsTold heeds Resting past m.state m.clock → ReadyAsTold heeds Open (past ++ answers m.state event) (after m.state event) m.clock
  asked_goes line past m event calm ground later tie n from to =
      let all : List Entry = past ++ answers m.state event in
      goes_on_ready (so_far n past) (so_far n all) (node_of m.state n) (node_of (after m.state event) n) (along_either grows taken n past (answers m.state event) (answers_along m.state event))
      (one_stays n m.state event (within_of (Asked line) past m ground.0.0 n to) calm)
      (anew_bare grows brings taken n past all (after m.state event) m.clock m.clock ((facts_of Open all (done m event) later.0.0).nodes.facts n) (later.0.1 n from to)) (tie n from to)

  asked_calm : (event : HostEvent) → IsAsked event → LeavesTexts false event
  asked_calm (Starts n plan more payload) asked = absurd asked
  asked_calm (Gives_text n payload) asked = absurd asked
  asked_calm (Takes_nonce n seen text) asked = absurd asked
  asked_calm event asked = tt

  module _ (judges : JudgesReady) (starts : StartsReady) where
    abbrev Tie : Phase → List Entry → HostState → ℕ → Type 0
    Tie here past h clock = ReadyAsTold heeds here past h clock

    said_goes : (past : List Entry) (words : List ℕ) (h : HostState) (clock : ℕ) → is_restart (line_of (entry.Said words)) ≡ false → Tie Resting past h clock → Tie Resting (past ++ entry.Said words ∷ []) h clock
    said_goes past words h clock goes_on tie = leaves Resting past (past ++ entry.Said words ∷ []) h clock (λ n. attempts_said taken n past words goes_on) tie

    vain_goes : (past : List Entry) (words : List ℕ) (refusal : Refusal) (h : HostState) (clock : ℕ) → Tie Resting past h clock → Tie Open ((past ++ entry.Said words ∷ []) ++ entry.Refused refusal ∷ []) h clock
    vain_goes past words refusal h clock tie =
        leaves Open past ((past ++ entry.Said words ∷ []) ++ entry.Refused refusal ∷ []) h clock
        (λ n. ap (λ (l : List Entry). so_far n l) (append_assoc past (entry.Said words ∷ []) (entry.Refused refusal ∷ [])) ∙ attempts_in_vain taken n past words refusal) tie

    step_goes : (here next : Phase) (past : List Entry) (m : HostMachine) (one : Step) → May here m one next → HeedsAs heeds past m one → ShowsAcked past m one → ReadyGround heeds here past m
        → ReadyGround heeds next (past ++ entries m one) (happens m one) → KnowsSince (ReadyAsTold heeds) here past m → KnowsSince (ReadyAsTold heeds) next (past ++ entries m one) (happens m one)
    step_goes here next past m (Tells e) may as_told shown ground later known =
        leads_to (ReadyAsTold heeds) next here (past ++ e ∷ []) m (between_else here may.0) may.3
        (loose_goes here past (e ∷ []) m.state m.clock (others_loose e may.1, tt) (rest_of (ReadyAsTold heeds) here past m (between_else here may.0) known))
    step_goes here next past m (Comes unit) may as_told shown ground later known =
        leads_to (ReadyAsTold heeds) next here (past ++ entries m (Comes unit)) (happens m (Comes unit)) (between_else here may.0) may.2
        (loose_goes here past (entries m (Comes unit)) m.state m.clock (tt, tt) (rest_of (ReadyAsTold heeds) here past m (between_else here may.0) known))
    step_goes here next past m (Misses text marks) may as_told shown ground later known =
        leads_to (ReadyAsTold heeds) next here (past ++ entries m (Misses text marks)) (happens m (Misses text marks)) (between_else here may.0) may.3
        (loose_goes here past (entries m (Misses text marks)) m.state m.clock (tt, missed_loose marks may.1) (rest_of (ReadyAsTold heeds) here past m (between_else here may.0) known))
    step_goes here next past m (Says words line) may as_told shown ground later known =
        let tie = rest_of (ReadyAsTold heeds) Resting past m tt (as_known (ReadyAsTold heeds) here Resting past m may.0 known) in
        subst (λ (p : Phase). KnowsSince (ReadyAsTold heeds) p (past ++ entry.Said words ∷ []) (happens m (Says words line))) (sym may.3)
        (record {
          before = past;
          words = words;
          are = refl;
          read = may.2;
          unnumbered = refl;
          tie = tie;
          goes_on = λ other. said_goes past words m.state m.clock (ap is_restart may.2 ∙ other) tie;
          in_vain = λ refusal. vain_goes past words refusal m.state m.clock tie;
        })
    step_goes here next past m (Says_nothing words) may as_told shown ground later known =
        leads_to (ReadyAsTold heeds) next Resting (past ++ entry.Said words ∷ []) (happens m (Says_nothing words)) tt (may.3 ∙ may.0)
        (said_goes past words m.state m.clock (ap is_restart may.2) (rest_of (ReadyAsTold heeds) Resting past m tt (as_known (ReadyAsTold heeds) here Resting past m may.0 known)))
    step_goes here next past m (Asks event) (line, here_is, is, may, numbered, to_is) as_told shown ground later known =
        leads_to (ReadyAsTold heeds) next Open (past ++ entries m (Asks event)) (happens m (Asks event)) tt to_is
        (asked_goes line past m event (asked_calm event (is_asked line m.state event is)) (subst (λ (p : Phase). ReadyGround heeds p past m) here_is ground)
        (subst (λ (p : Phase). ReadyGround heeds p (past ++ entries m (Asks event)) (happens m (Asks event))) to_is later)
        ((as_known (ReadyAsTold heeds) here (Asked line) past m here_is known).goes_on (asked_on line m.state event is)))
    step_goes here next past m (Refuses refusal) (line, here_is, why, numbered, to_is) as_told shown ground later known =
        leads_to (ReadyAsTold heeds) next Open (past ++ entry.Refused refusal ∷ []) (happens m (Refuses refusal)) tt to_is ((as_known (ReadyAsTold heeds) here (Asked line) past m here_is known).in_vain refusal)
    step_goes here next past m (Shows node) may as_told shown ground later known =
        leads_to (ReadyAsTold heeds) next Open (past ++ shown_values m.state node ∷ []) (happens m (Shows node)) tt may.2
        (loose_goes Open past (shown_values m.state node ∷ []) m.state m.clock (tt, tt) ((as_known (ReadyAsTold heeds) here (Asked (lines.Store node)) past m may.0 known).goes_on refl))
    step_goes here next past m (Restarts state) may as_told shown ground later known =
        let at : BeforeWords (ReadyAsTold heeds) lines.Restart past m = as_known (ReadyAsTold heeds) here (Asked lines.Restart) past m may.0 known in
        let asked : ReadyGround heeds (Asked lines.Restart) past m = subst (λ (p : Phase). ReadyGround heeds p past m) may.0 ground in
        let opened : ReadyGround heeds Open past (happens m (Restarts state))
        = subst (λ (l : List Entry). ReadyGround heeds Open l (happens m (Restarts state))) (append-nil past) (subst (λ (p : Phase). ReadyGround heeds p (past ++ []) (happens m (Restarts state))) may.2 later) in
        leads_to (ReadyAsTold heeds) next Open (past ++ []) (happens m (Restarts state)) tt may.2
        (subst (λ (l : List Entry). Tie Open l state m.clock) (sym (append-nil past))
        (subst (λ (l : List Entry). Tie Open l state m.clock) (sym at.are)
        (starts at.before at.words m state may.1 (ap is_restart at.read) (subst (λ (l : List Entry). ReadyGround heeds (Asked lines.Restart) l m) at.are asked)
        (subst (λ (l : List Entry). ReadyGround heeds Open l (happens m (Restarts state))) at.are opened) at.tie)))
    step_goes here next past m (Begins_tick left) may as_told shown ground later known =
        leads_to (ReadyAsTold heeds) next Risen (past ++ []) (happens m (Begins_tick left)) tt may.2
        (subst (λ (l : List Entry). Tie Risen l m.state (m.clock + 1)) (sym (append-nil past)) (rest_of (ReadyAsTold heeds) Resting past m tt (as_known (ReadyAsTold heeds) here Resting past m may.0 known)))
    step_goes here next past m Numbers may as_told shown ground later known =
        let other : IsElse here = numbered_else (ReadyAsTold heeds) here past m may.0 known in
        leads_to (ReadyAsTold heeds) next here (past ++ entry.Time m.clock ∷ []) (happens m Numbers) other may.1
        (leaves here past (past ++ entry.Time m.clock ∷ []) m.state m.clock (λ n. attempts_left taken n past (entry.Time m.clock ∷ []) (tt, tt)) (rest_of (ReadyAsTold heeds) here past m other known))
    step_goes here next past m (Judges item rest behind told) may as_told shown ground later known =
        leads_to (ReadyAsTold heeds) next (Behind behind) (past ++ told) (happens m (Judges item rest behind told)) tt may.2
        (judges past m item rest behind told may.1 as_told shown (subst (λ (p : Phase). ReadyGround heeds p past m) may.0 ground)
        (subst (λ (p : Phase). ReadyGround heeds p (past ++ told) (happens m (Judges item rest behind told))) may.2 later)
        (rest_of (ReadyAsTold heeds) Open past m tt (as_known (ReadyAsTold heeds) here Open past m may.0 known)))
    step_goes here next past m (Does event told) may as_told shown ground later known =
        let else_so = by_else here next m.state event may.0 in
        of_rest (ReadyAsTold heeds) next (past ++ told) (happens m (Does event told)) else_so.1
        (does_ready grows brings taken here next past told m event may ground later (rest_of (ReadyAsTold heeds) here past m else_so.0 known))

    turn_goes : (here next : Phase) (past : List Entry) (m : HostMachine) → Turns here m next → KnowsSince (ReadyAsTold heeds) here past m → KnowsSince (ReadyAsTold heeds) next past m
    turn_goes Resting next past m is known = leads_to (ReadyAsTold heeds) next Open past m tt is known
    turn_goes (Asked line) next past m (inl (nothing, is)) known = leads_to (ReadyAsTold heeds) next Open past m tt is (known.goes_on (nothing_on line nothing))
    turn_goes (Asked line) next past m (inr (ticks, line_is, is)) known = leads_to (ReadyAsTold heeds) next Resting past m tt is (known.goes_on (ap (λ (l : Line). is_restart (l ∷ [])) line_is))
    turn_goes Risen next past m is known = leads_to (ReadyAsTold heeds) next (Ticking _) past m tt is known
    turn_goes (Ticking []) next past m is known = leads_to (ReadyAsTold heeds) next Open past m tt is known
    turn_goes (Ticking (event ∷ left)) next past m is known = absurd is
    turn_goes Open next past m is known = leads_to (ReadyAsTold heeds) next Sleeping past m tt is known
    turn_goes (Behind []) next past m is known = leads_to (ReadyAsTold heeds) next Open past m tt is (λ n from to. behind_none (so_far n past) (node_of m.state n) (known n from to))
    turn_goes (Behind (event ∷ left)) next past m is known = absurd is
    turn_goes Sleeping next past m is known = leads_to (ReadyAsTold heeds) next Submitting past m tt is.1 known
    turn_goes Submitting next past m is known = leads_to (ReadyAsTold heeds) next Resting past m tt is.1 known

    module _ (start : HostMachine) (first : ReadyAsTold heeds Resting [] start.state start.clock)
        (shows : (here : Phase) (told : List Entry) (m : HostMachine) → Run start here told m → Grounds heeds here told m) where
      -- the run that has just acknowledged it
      acked : (here next : Phase) (past : List Entry) (m : HostMachine) (one : Step) → May here m one next → Run start here past m → ShowsAcked past m one
      acked here next past m (Judges (Good (Framed f)) rest behind told) may run =
          let w : Entry = entry.Written Host (unit_text Ack) in
          shows (Behind behind) (past ++ w ∷ []) (happens m (Judges (Good (Framed f)) rest behind (w ∷ [])))
          (Stepped (Judges (Good (Framed f)) rest behind (w ∷ [])) (
            may.0,
            record {
              takes = may.1.takes;
              may = may.1.may;
              followed = may.1.followed;
              told_so = ([], [], refl, tt, refl);
              numbered = λ awaits. absurd (let (marks, more, is, all, none) = may.1.told_so in let bad : w ∷ (marks ++ more) ≡ [] = sym is ∙ may.1.numbered awaits in cc);
            },
            refl,
          ) refl refl run)
      acked here next past m one may run = tt

      pub readies_along : {here : Phase} {told : List Entry} {m : HostMachine} → (run : Run start here told m) → AllSteps (HeedsAs heeds) run → AllAlong (ReadyGround heeds) run
          → AllAlong (KnowsSince (ReadyAsTold heeds)) run
      readies_along Begins as_told ground = first
      readies_along {here = next} {told = told} {m = m} (Turned {here = here} turns run) as_told ground =
          let before = readies_along run as_told ground.0 in (before, turn_goes here next told m turns (known_last start (KnowsSince (ReadyAsTold heeds)) run before))
      readies_along {here = next} {told = all} {m = later} (Stepped {here = here} {told = told} {m = m} one may all_is later_is run) as_told ground =
          let before = readies_along run as_told.0 ground.0 in
          let after : ReadyGround heeds next (told ++ entries m one) (happens m one)
          = subst (λ (k : HostMachine). ReadyGround heeds next (told ++ entries m one) k) later_is (subst (λ (l : List Entry). ReadyGround heeds next l later) all_is ground.1) in (
            before,
            subst (λ (l : List Entry). KnowsSince (ReadyAsTold heeds) next l later) (sym all_is)
                (subst (λ (k : HostMachine). KnowsSince (ReadyAsTold heeds) next (told ++ entries m one) k) (sym later_is)
                (step_goes here next told m one may as_told.1 (acked here next told m one may run) (known_last start (ReadyGround heeds) run ground.0) after (known_last start (KnowsSince (ReadyAsTold heeds)) run before))),
          )
