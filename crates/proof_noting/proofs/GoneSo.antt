-- Which command the end of the request under way gives up, behind an item that a host alone has judged: the one that the host gives up, and none where it gives up none.
use Rattle.std.specs.Prelude.{is_none, is_some, IsSome, nat_lt}
use Rattle.std.specs.List.{flat_map, list_any}
use Rattle.std.proofs.Common.{◌≡◌, ◌⊎◌, ℕ, ◌+◌, ◌≤◌, ◌&&◌, ◌||◌, Bool, true, false, if◌then◌else◌, inl, inr, List, [], ◌∷◌, ◌++◌, Option, Some, None, refl, sym, ap, ap₂, ◌∙◌, subst, append-nil, arith}
use Rattle.std.proofs.lemmas.Bool.{both_ways, eq-eqb, ltb-false, or_right}
use Rattle.supervision.specs.Host.{open_session}
use Rattle.chip_functions.specs.Field.{IsNode}
use Rattle.chip_functions.specs.declared.request.Request.{Request}
use Rattle.zw_text.specs.declared.entry.Ended.TheVariants.{Unanswered as out_unanswered}
use Rattle.zw_text.specs.declared.entry.Entry.{Entry}
use Rattle.zw_text.specs.declared.entry.Entry.TheVariants as entry
use Rattle.host_heard.specs.declared.told.Told.{Told}
use Rattle.law_transcript.specs.Units.{Carried, sending_of}
use Rattle.law_time.specs.Attempts.{Attempts, attempt_is_over, ends_badly, is_late, serving}
use Rattle.law_time.specs.Heeds.{Heeds}
use Rattle.law_time.specs.Moments.{clock}
use Rattle.law_time.specs.Requests.{asked}
use Rattle.law_time.specs.Sessions.{is_open, last_command}
use Rattle.law_time.specs.Unanswered.{third_is_over, to_give_up}
use Rattle.host_requests.specs.Events.{RequestsEvent, end_at}
use Rattle.host_requests.specs.Events.RequestsEvent.{CallsBack, Fails, IsSent, Responds, Ticks, Updates}
use Rattle.host_requests.specs.declared.end.How.{How}
use Rattle.host_requests.specs.declared.task.Task.{Task}
use Rattle.host_requests.specs.declared.task.Task.TheVariants.{NoMore, Offer, Plain, Segment}
use Rattle.host_requests.specs.declared.task.Purpose.{Purpose}
use Rattle.host_requests.specs.declared.task.Purpose.TheVariants.{Abort, Attempt, Housekeeping}
use Rattle.host_requests.specs.declared.under_way.UnderWay.{UnderWay}
use Rattle.host_requests.specs.Frames.{nonce_report, no_more_information}
use Rattle.host_node.specs.Facts.{SeriesFacts}
use Rattle.host_node.specs.State.{NodeState, is_running}
use Rattle.host_node.specs.Steps.{attempt_end, falls_asleep, with_wait}
use Rattle.host_node.specs.declared.attempt.AttemptEnd.{AttemptEnd}
use Rattle.host_node.specs.declared.attempt.AttemptEnd.TheVariants.{Again, NoneRan, Unanswered}
use Rattle.host_node.specs.declared.attempt.Moment.TheVariants.{BetweenTicks}
use Rattle.host_node.specs.declared.series.Series.{Series}
use Rattle.host_node.specs.declared.series.Series.TheVariants.{Due, Idle, Running}
use Rattle.host_model.specs.State.{HostState, node_of}
use Rattle.host_model.specs.Sessions.{open_command}
use Rattle.host_model.specs.After.{requests_do}
use Rattle.host_model.specs.Did.{MayAll}
use Rattle.host_model.specs.Ends.{Bad, Good as part_good, PartEnd, Passed_over, asleep_entry, attempt_entries, end_entries_if, part_end, part_entries}
use Rattle.host_model.specs.Events.{Requests_do}
use Rattle.host_model.specs.Outs.{request_entries}
use Rattle.host_model.specs.Taking.{told_requests}
use Rattle.proof_host.specs.Facts.{Facts}
use Rattle.proof_hearing.specs.proof_choice.proof_giving.Told.{attempts_so_far}
use Rattle.proof_hearing.specs.proof_choice.proof_giving.Tie.{AttemptsAs, is_bad_part, is_for, signed}
use Rattle.proof_hearing.specs.proof_choice.proof_giving.Walking.{gives_sign}
use Rattle.proof_hearing.proofs.proof_giving_Along.{signed_series}
use Rattle.proof_hearing.proofs.Asking.{over_as}
use Rattle.proof_hearing.proofs.Holding.{clock_now}
use Rattle.proof_hearing.proofs.Opening.{OpenLast, open_last}
use Rattle.proof_hearing.proofs.Prompt.{node_free}
use Rattle.proof_hearing.proofs.Told.{each_is, node_is}
use Rattle.proof_hearing.proofs.ReadyTie.{ground_of}
use Rattle.proof_hearing.specs.proof_queue.proof_attempts.Attempts.{begun_of, has_ended_badly}
use Rattle.proof_hearing.specs.proof_queue.proof_attempts.proof_work.Doing.{IsTold}
use Rattle.proof_hearing.specs.proof_queue.proof_attempts.proof_requests.law_host.Ends.{given_up_notes, to_give_up_by_end}
use Rattle.proof_hearing.specs.proof_queue.proof_attempts.proof_requests.law_host.Heard.{heeds_alone}
use Rattle.proof_hearing.specs.proof_queue.proof_attempts.proof_requests.proof_alone.Phases.{Behind, May, Phase}
use Rattle.proof_hearing.specs.proof_queue.proof_attempts.proof_requests.proof_alone.State.{HostMachine, done}
use Rattle.proof_hearing.specs.proof_queue.proof_attempts.proof_requests.proof_alone.Steps.{Does}
use Rattle.proof_hearing.specs.proof_choice.proof_following.Ended.{AreGone, EndingOf, answer_entries, errand_entries, failed_entries, outcome_entries, sent_by, sleep_entries}
use Rattle.proof_hearing.proofs.Ending.{entries_are}
use Rattle.proof_hearing.proofs.Hearing.{noted_are}
use Rattle.proof_noting.specs.Ground.{GroundAlong, NotingGround}
use Rattle.proof_noting.specs.Steps.{first_of}
use Rattle.proof_noting.specs.Sure.{SureRun}
use Rattle.proof_noting.proofs.Sendings.{ToNodes, sending_nodes}
use Rattle.proof_noting.proofs.Surely.{sure_does}

-- it may come whenever it is told
may_told : (h : HostState) (event : RequestsEvent) → IsTold event → MayAll h (Requests_do event BetweenTicks ∷ [])
may_told h IsSent told = (tt, tt, tt)
may_told h Fails told = (tt, tt, tt)
may_told h (Responds response) told = (tt, tt, tt)
may_told h (CallsBack id status) told = (tt, tt, tt)
may_told h (Updates update) told = (tt, tt, tt)
may_told h Ticks told = (tt, tt, tt)
may_told h event told = absurd told

-- all that an end notes but an outcome
abbrev pub most : HostState → Purpose → How → List Entry
most g p how = (errand_entries p how ++ (sleep_entries g p ++ answer_entries p how)) ++ failed_entries p

-- where nothing was sent no outcome is noted
pub none_noted : (heeds : Heeds) (past : List Entry) (now : ℕ) (purpose : Purpose) (id : ℕ) (outcome : List Entry) → AreGone heeds past now purpose id outcome → sent_by purpose id ≡ [] → outcome ≡ []
none_noted heeds past now purpose id outcome (inl (nothing, is)) none = is
none_noted heeds past now purpose id outcome (inr (one, is, some)) none = absurd (let no : one ∷ [] ≡ [] = sym is ∙ none in cc)

-- an attempt that ends so was the third
third_runs : (s : NodeState) (fell : Bool) → attempt_end s ≡ Unanswered fell → (s.series ≡ Running) × (nat_lt (s.book.attempts + 1) 3 ≡ false) × (fell ≡ falls_asleep s)
third_runs s fell is = by s.series refl (nat_lt (s.book.attempts + 1) 3) refl is
  where
    same : (a b : Bool) → Unanswered a ≡ Unanswered b → b ≡ a
    same a b both = cc

    by : (x : Series) → s.series ≡ x → (few : Bool) → nat_lt (s.book.attempts + 1) 3 ≡ few
        → (if is_running x then (if few then Again else Unanswered (falls_asleep s)) else NoneRan) ≡ Unanswered fell → (s.series ≡ Running) × (nat_lt (s.book.attempts + 1) 3 ≡ false) × (fell ≡ falls_asleep s)
    by Idle series few less bad = absurd (let no : NoneRan ≡ Unanswered fell = bad in cc)
    by Due series few less bad = absurd (let no : NoneRan ≡ Unanswered fell = bad in cc)
    by Running series true less bad = absurd (let no : Again ≡ Unanswered fell = bad in cc)
    by Running series false less good = (series, less, same (falls_asleep s) fell good)

module _ (key : List ℕ) (taken : List Entry → Carried → List Told) (ground : GroundAlong taken (first_of key)) (event : RequestsEvent) (of_told : IsTold event) (past : List Entry) (m : HostMachine)
    (sure : SureRun taken (first_of key) (Behind (told_requests event)) past m) (unnumbered : m.awaits ≡ false) where
  abbrev heeds : Heeds
  heeds = heeds_alone taken

  abbrev here : Phase
  here = Behind (told_requests event)

  abbrev h : HostState
  h = m.state

  abbrev g : HostState
  g = requests_do m.state event

  abbrev notes : List Entry
  notes = request_entries m.state event

  abbrev later : List Entry
  later = past ++ notes

  abbrev next : HostMachine
  next = done m (Requests_do event BetweenTicks)

  known : NotingGround taken here past m
  known = ground here past m sure

  facts : Facts past m.state
  facts = (ground_of here past m known.grounds).0.0.0.0.0.facts

  time : clock past ≡ m.clock
  time = sym (clock_now past m (ground_of here past m known.grounds).0.0.0.1 unnumbered)

  may_next : May here m (Does (Requests_do event BetweenTicks) notes) (Behind [])
  may_next = ((refl, refl), may_told m.state event of_told, noted_are notes, λ awaits. absurd (both_ways m.awaits unnumbered awaits))

  sure_next : SureRun taken (first_of key) (Behind []) later next
  sure_next = sure_does taken (first_of key) {next = Behind []} sure (Requests_do event BetweenTicks) notes may_next

  known_next : NotingGround taken (Behind []) later next
  known_next = ground (Behind []) later next sure_next

  facts_next : Facts later next.state
  facts_next = (ground_of (Behind []) later next known_next.grounds).0.0.0.0.0.facts

  time_next : clock later ≡ m.clock
  time_next = sym (clock_now later next (ground_of (Behind []) later next known_next.grounds).0.0.0.1 unnumbered)

  -- ---- none is given up

  none_by_end : (n : ℕ) (l : List Entry) (now : ℕ) → to_give_up heeds l now n ≡ [] → to_give_up_by_end heeds l now n ≡ []
  none_by_end n l now none = by (list_any (λ (a : Attempts). a.own) (serving heeds (n ∷ []) l).each)
    where
      by : (b : Bool) → (if b then to_give_up heeds l now n else []) ≡ []
      by true = none
      by false = refl

  none_gone : next.state.requests.under_way ≡ None → (n : ℕ) → IsNode n → to_give_up_by_end heeds later (clock past) n ≡ []
  none_gone idle n node =
      none_by_end n later (clock past)
      (ap (λ (t : ℕ). to_give_up heeds later t n) (time ∙ sym time_next)
      ∙ node_free taken later next.state facts_next n m.clock (gives_sign n next.state []) (known_next.counts.0 n node.0 node.1) time_next
      (λ runs own. sym (ap (λ (o : Option UnderWay). is_none o && has_ended_badly heeds later (asked later) m.clock n) idle)))

  -- ---- the third attempt of a node ends badly

  module _ (u : UnderWay) (under : h.requests.under_way ≡ Some u) (how : How) (e : end_at h.requests event ≡ Some (record { purpose = u.purpose; how = how }))
      (of : EndingOf heeds past g h.requests.last_id u.purpose) where
    module _ (n : ℕ) (more : Bool) (payload : List ℕ) (purpose : u.purpose ≡ Attempt n more payload) (node : IsNode n) (bad : part_end more how ≡ Bad) (fell : Bool)
        (ends : attempt_end (node_of h n) ≡ Unanswered fell) where
      abbrev s : NodeState
      s = node_of h n

      abbrev a : Attempts
      a = attempts_so_far heeds n past

      so : AttemptsAs (gives_sign n h (told_requests event)) heeds n past h m.clock m.clock
      so = known.counts.0 n node.0 node.1

      runs : s.series ≡ Running
      runs = (third_runs s fell ends).0

      same_attempts : (b : Bool) → (signed b s).book.attempts ≡ s.book.attempts
      same_attempts true = by (is_running s.series)
        where
          by : (r : Bool) → (if r then with_wait s 100 else s).book.attempts ≡ s.book.attempts
          by true = refl
          by false = refl
      same_attempts false = refl

      few : s.book.attempts ≤ 2
      few = by s.series refl (facts.host.nodes.facts n).series
        where
          by : (x : Series) → s.series ≡ x → SeriesFacts x s.book s.attempt_wait s.again_wait s.next_segment s.segments s.text s.pending → s.book.attempts ≤ 2
          by Idle is f = absurd (let no : Idle ≡ Running = sym is ∙ runs in cc)
          by Due is f = f.0.fewer
          by Running is f = f.0.fewer

      three : a.begun ≡ 3
      three =
          let begun : a.begun ≡ s.book.attempts + 1
          = so.node.are.begun ∙ ap₂ (λ (x : Series) (k : ℕ). begun_of x k) (signed_series (gives_sign n h (told_requests event)) s ∙ runs) (same_attempts (gives_sign n h (told_requests event))) in
          let most_so = few in
          let least = ltb-false (s.book.attempts + 1) 3 (third_runs s fell ends).1 in
          omega (arith, begun, most_so, least)

      own : a.own ≡ true
      own = so.own runs u under ∙ ap (λ (p : Purpose). is_for n p) purpose ∙ eq-eqb n n refl

      badly : has_ended_badly heeds past (asked past) m.clock n ≡ true
      badly =
          ap (λ (b : Bool). ends_badly (asked past) b m.clock) (so.inner runs u more payload under purpose)
          ∙ (known.counts.1.1 u n more payload how under purpose e).1 ∙ ap is_bad_part bad

      third : third_is_over heeds past (clock past) a ≡ true
      third =
          ap₂ (λ (x y : Bool). x && y) (eq-eqb a.begun 3 three)
          (ap (λ (t : ℕ). attempt_is_over heeds past (asked past) t a) time ∙ over_as heeds n past (asked past) m.clock a (node_is heeds n past)
          ∙ or_right (is_late m.clock a) (a.own && has_ended_badly heeds past (asked past) m.clock n) (ap₂ (λ (x y : Bool). x && y) own badly))

      opens : IsSome (open_session s.book)
      opens = by s.series refl (facts.host.nodes.facts n).series
        where
          by : (x : Series) → s.series ≡ x → SeriesFacts x s.book s.attempt_wait s.again_wait s.next_segment s.segments s.text s.pending → IsSome (open_session s.book)
          by Idle is f = absurd (let no : Idle ≡ Running = sym is ∙ runs in cc)
          by Due is f = f.0.is_open
          by Running is f = f.0.is_open

      some_true : (o : Option ℕ) → IsSome o → is_some o ≡ true
      some_true None some = absurd (let bad : false ≡ true = some in cc)
      some_true (Some x) some = refl

      asleep_is : (b : Bool) → asleep_entry b n ≡ (if b then entry.Asleep n ∷ [] else [])
      asleep_is true = refl
      asleep_is false = refl

      pub third_gone : (command : ℕ) × (to_give_up_by_end heeds past (clock past) n ≡ command ∷ []) × (part_entries g n Bad ≡ given_up_notes past n command)
      third_gone = by (open_last s)
        where
          by : ((open_session s.book ≡ None) × (open_command s ≡ None)) ⊎ OpenLast s
              → (command : ℕ) × (to_give_up_by_end heeds past (clock past) n ≡ command ∷ []) × (part_entries g n Bad ≡ given_up_notes past n command)
          by (inl none) = absurd (let bad : false ≡ true = subst IsSome none.0 opens in cc)
          by (inr at) = (
            at.command,
            ap (λ (l : List Attempts). if list_any (λ (x : Attempts). x.own) l then to_give_up heeds past (clock past) n else []) (each_is heeds (n ∷ []) past)
                ∙ ap (λ (b : Bool). if b || false then to_give_up heeds past (clock past) n else []) own
                ∙ ap (λ (l : List Attempts). if is_open n past && list_any (third_is_over heeds past (clock past)) l then last_command n past else []) (each_is heeds (n ∷ []) past)
                ∙ ap₂ (λ (x y : Bool). if x && (y || false) then last_command n past else []) ((known.grounds.shows n).opened ∙ some_true (open_session s.book) opens) third
                ∙ (known.grounds.shows n).last ∙ at.last,
            ap₂ (λ (x : AttemptEnd) (o : Option ℕ). attempt_entries n x o) ends at.opened
                ∙ ap (λ (l : List Entry). entry.Out at.command out_unanswered ∷ l)
                (asleep_is fell ∙ ap (λ (b : Bool). if b then entry.Asleep n ∷ [] else []) ((third_runs s fell ends).2 ∙ sym (of.sleeper n node))),
          )

    -- ---- the end of the request

    notes_are : notes ≡ most g u.purpose how ++ outcome_entries g u.purpose how
    notes_are = ap (end_entries_if g) e ∙ entries_are g u.purpose how

    to_nodes : (p : Purpose) → u.purpose ≡ p → ToNodes (sent_by p h.requests.last_id)
    to_nodes p is =
        subst (λ (q : Purpose). ToNodes (sent_by q h.requests.last_id)) is (subst ToNodes (ap (λ (l : List Request). flat_map sending_of l) of.request) (sending_nodes (asked past).frame))

    abbrev Gone : Purpose → Type 0
    Gone p = AreGone heeds (past ++ most g p how) (clock past) p h.requests.last_id (outcome_entries g p how)

    module _ (idle : next.state.requests.under_way ≡ None) where
      -- where it gives up none
      quiet_gone : (p : Purpose) → u.purpose ≡ p → (one : Carried) → sent_by p h.requests.last_id ≡ one ∷ [] → outcome_entries g p how ≡ [] → Gone p
      quiet_gone p is one sent none =
          let same : past ++ most g p how ≡ later
          = ap (λ (l : List Entry). past ++ l)
          (sym (notes_are ∙ ap (λ (q : Purpose). most g q how ++ outcome_entries g q how) is ∙ ap (λ (l : List Entry). most g p how ++ l) none ∙ append-nil (most g p how))) in
          let node : IsNode one.node = (subst ToNodes sent (to_nodes p is)).0 in
          inr (one, sent, inl (ap (λ (l : List Entry). to_give_up_by_end heeds l (clock past) one.node) same ∙ none_gone idle one.node node, none))

      attempt_gone : (n : ℕ) (more : Bool) (payload : List ℕ) → u.purpose ≡ Attempt n more payload → (part : PartEnd) → part_end more how ≡ part → Gone (Attempt n more payload)
      attempt_gone n more payload is part_good part = quiet_gone (Attempt n more payload) is (record { node = n; payload = payload }) refl (ap (part_entries g n) part)
      attempt_gone n more payload is Passed_over part = quiet_gone (Attempt n more payload) is (record { node = n; payload = payload }) refl (ap (part_entries g n) part)
      attempt_gone n more payload is Bad part = by (attempt_end (node_of h n)) refl
        where
          ended : (end : AttemptEnd) → attempt_end (node_of h n) ≡ end → part_entries g n (part_end more how) ≡ attempt_entries n end (open_command (node_of h n))
          ended end ends = ap (part_entries g n) part ∙ ap (λ (x : AttemptEnd). attempt_entries n x (open_command (node_of h n))) ends

          by : (end : AttemptEnd) → attempt_end (node_of h n) ≡ end → Gone (Attempt n more payload)
          by NoneRan ends = quiet_gone (Attempt n more payload) is (record { node = n; payload = payload }) refl (ended NoneRan ends)
          by Again ends = quiet_gone (Attempt n more payload) is (record { node = n; payload = payload }) refl (ended Again ends)
          by (Unanswered fell) ends =
              let gone = third_gone n more payload is (to_nodes (Attempt n more payload) is).0 part fell ends in
              subst (λ (l : List Entry). AreGone heeds l (clock past) (Attempt n more payload) h.requests.last_id (outcome_entries g (Attempt n more payload) how)) (sym (append-nil past))
              (inr (record { node = n; payload = payload }, refl, inr (gone.0, gone.1, ap (part_entries g n) part ∙ gone.2)))

      task_gone : (task : Task) → u.purpose ≡ Housekeeping task → Gone (Housekeeping task)
      task_gone (Plain n payload) is = quiet_gone (Housekeeping (Plain n payload)) is (record { node = n; payload = payload }) refl refl
      task_gone (Offer n nonce) is = quiet_gone (Housekeeping (Offer n nonce)) is (record { node = n; payload = nonce_report nonce }) refl refl
      task_gone (Segment n payload) is = quiet_gone (Housekeeping (Segment n payload)) is (record { node = n; payload = payload }) refl refl
      task_gone (NoMore n) is = quiet_gone (Housekeeping (NoMore n)) is (record { node = n; payload = no_more_information }) refl refl
      task_gone task is = inl (refl, refl)

      gone_by : (p : Purpose) → u.purpose ≡ p → Gone p
      gone_by (Attempt n more payload) is = attempt_gone n more payload is (part_end more how) refl
      gone_by (Housekeeping task) is = task_gone task is
      gone_by Abort is = inl (refl, refl)

      pub are_gone : Gone u.purpose
      are_gone = gone_by u.purpose refl
