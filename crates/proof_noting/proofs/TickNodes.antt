-- The tick of a node in the host's own part of a tick: the course goes on with it.
use Rattle.chip_functions.specs.Field.{IsNode}
use Rattle.host_heard.specs.declared.told.Told.{Told}
use Rattle.host_model.specs.After.{after}
use Rattle.host_model.specs.Ends.{attempt_entries}
use Rattle.host_model.specs.Events.{HostEvent, Node_ticks}
use Rattle.host_model.specs.Sessions.{open_command}
use Rattle.host_model.specs.State.{HostState, node_of}
use Rattle.host_node.specs.Events.NodeEvent.{Ticks}
use Rattle.host_node.specs.State.{NodeState, has_waiting, is_false, is_idle, is_open, is_running, is_up}
use Rattle.host_node.specs.Steps.{after_again, after_again_tick, after_hold_tick, after_occasion, after_sleep, after_tick, falls_asleep, new_series, next_due, series_over, tick_end, with_again, with_wait, without_attempt}
use Rattle.host_node.specs.TableState.{node_of as node_among}
use Rattle.host_node.specs.declared.attempt.AttemptEnd.{AttemptEnd}
use Rattle.host_node.specs.declared.attempt.Moment.TheVariants.{BetweenTicks}
use Rattle.host_node.specs.declared.series.Series.{Series}
use Rattle.host_node.specs.declared.series.Series.TheVariants.{Running}
use Rattle.host_requests.specs.Frames.{request_of}
use Rattle.host_requests.specs.State.{RequestsState}
use Rattle.host_requests.specs.declared.task.Purpose.{Purpose}
use Rattle.host_requests.specs.declared.task.Purpose.TheVariants.{Abort}
use Rattle.host_requests.specs.declared.under_way.UnderWay.{UnderWay}
use Rattle.law_time.specs.Attempts.{Attempts, ends_badly, is_late as late_of}
use Rattle.law_time.specs.Ends.{giving_up, silence}
use Rattle.law_time.specs.Heeds.{Heeds}
use Rattle.law_time.specs.Interviews.{node_interviewed}
use Rattle.law_time.specs.Judged.{is_data}
use Rattle.law_time.specs.Moments.{clock}
use Rattle.law_time.specs.Requests.{asked, request_last}
use Rattle.law_time.specs.Unanswered.{to_give_up}
use Rattle.law_transcript.specs.Lists.{EachAfter, Has}
use Rattle.law_transcript.specs.Units.{Carried, sending_in}
use Rattle.proof_hearing.proofs.proof_ends_Walking.{ascends_from}
use Rattle.proof_hearing.proofs.Owners.{accepted_joined}
use Rattle.proof_hearing.proofs.ReadyTie.{ground_of}
use Rattle.proof_hearing.proofs.Ticking.{given_ticks, goes_on, silent_ticks}
use Rattle.proof_hearing.proofs.proof_ends_Noting.{asked_by, node_noted, purpose_asks, purpose_interviews}
use Rattle.proof_hearing.specs.proof_choice.proof_following.Ended.{GoneSo, rest_of}
use Rattle.proof_hearing.specs.proof_choice.proof_following.Quiet.{Waits, ended_silently}
use Rattle.proof_hearing.specs.proof_choice.proof_ends.Ends.{GivesUp}
use Rattle.proof_hearing.proofs.proof_giving_Along.{texts_run}
use Rattle.proof_hearing.proofs.Doings.{node_after, nodes_are}
use Rattle.proof_hearing.proofs.Late.{unended_at}
use Rattle.proof_hearing.specs.proof_choice.proof_giving.Tie.{AttemptsSo, IsSealing, has_text, is_badly_over}
use Rattle.proof_hearing.specs.proof_choice.proof_giving.Told.{attempts_so_far}
use Rattle.proof_hearing.proofs.Alike.{Alike, other_node}
use Rattle.proof_hearing.proofs.KeptAwake.{noted_told}
use Rattle.proof_hearing.specs.Books.{BooksSo, SealedOpen}
use Rattle.proof_hearing.specs.Hearing.{choosing}
use Rattle.proof_hearing.specs.proof_queue.proof_attempts.Attempts.{GoesOn, LastIs, has_ended_badly}
use Rattle.proof_hearing.specs.proof_queue.proof_attempts.Since.{is_to_tick, node_clock}
use Rattle.proof_hearing.specs.proof_queue.proof_attempts.proof_requests.Asking.{doing_of}
use Rattle.proof_hearing.specs.proof_queue.proof_attempts.proof_requests.Walking.{IsNodeTick, IsTied}
use Rattle.proof_hearing.specs.proof_queue.proof_attempts.proof_requests.law_host.Course.{Course, book_of, each_in_turn, with_notes, without_texts}
use Rattle.proof_hearing.specs.proof_queue.proof_attempts.proof_requests.law_host.Ends.{ends_sealing, ends_without, sleep_note, to_give_up_by_end}
use Rattle.proof_hearing.specs.proof_queue.proof_attempts.proof_requests.law_host.Following.{is_note}
use Rattle.proof_hearing.specs.proof_queue.proof_attempts.proof_requests.law_host.Heard.{heeds_alone}
use Rattle.proof_hearing.specs.proof_queue.proof_attempts.proof_requests.law_host.Nonces.{is_late}
use Rattle.proof_hearing.specs.proof_queue.proof_attempts.proof_requests.law_host.Ticks.{nodes_in_order, ticks}
use Rattle.proof_hearing.specs.proof_queue.proof_attempts.proof_requests.proof_alone.Phases.{Ticking}
use Rattle.proof_hearing.specs.proof_queue.proof_attempts.proof_requests.proof_alone.State.{HostMachine, done}
use Rattle.proof_hearing.specs.proof_queue.proof_attempts.proof_requests.proof_alone.Steps.{AreFrames}
use Rattle.proof_host.specs.Facts.{Facts}
use Rattle.proof_host.specs.Tables.{taken_by}
use Rattle.proof_noting.proofs.Ascending.{below_done, has_joined}
use Rattle.proof_noting.proofs.Becoming.{runs_so, sleeps_by, tells_of}
use Rattle.proof_noting.proofs.Choosing.{silently_chosen, silently_is}
use Rattle.proof_noting.proofs.EndNotes.{attempt_keep, tick_notes}
use Rattle.proof_noting.proofs.Lately.{KeepsLate, late_on, timed_attempts, timed_clock, to_late}
use Rattle.proof_noting.proofs.TickLeaves.{TickLeft, tick_here, tick_kept, tick_other, tick_requests}
use Rattle.proof_noting.proofs.Onwards.{now_is}
use Rattle.proof_noting.proofs.Quietly.{in_order_nodes, none_by_end, none_ticked, unended_waits}
use Rattle.proof_noting.proofs.Requested.{EndedLate, abort_purpose, abort_sends, ended_late, read_framed}
use Rattle.proof_noting.proofs.Requested.EndedLate.{As_abort, Given_up, In_silence}
use Rattle.proof_noting.proofs.Sendings.{sending_nodes}
use Rattle.proof_noting.proofs.LeftBooks.{end_books, kept_books, late_books, open_kept, stale_so}
use Rattle.proof_noting.proofs.TickChosen.{ticking}
use Rattle.proof_noting.proofs.TickEnds.{by_own, few_idle, few_none, given_up, late_now, quiet_end, runs_or, shown_node}
use Rattle.proof_noting.proofs.Followed.{over_on}
use Rattle.proof_noting.proofs.EndLeaves.{slept_not}
use Rattle.proof_noting.proofs.TickGround.{TickGround, falls_quiet, nodes_idle, same_request, tick_facts, tick_frames, tick_nodes, tick_numbered, tick_time}
use Rattle.proof_noting.proofs.TickNoted.{Midway, gives_first, gives_more, nothing_told, still_none, still_some}
use Rattle.proof_noting.specs.Following.{Lags, Level, Outset, timed}
use Rattle.proof_hearing.specs.proof_choice.proof_ends.Ascending.{Ascends}
use Rattle.proof_noting.specs.Ticking.{NoneNoted, OverSo, SomeNoted, TickSo}
use Rattle.proof_noting.specs.Ticking.TickSo.{Nothing, Something}
use Rattle.std.proofs.Common.{Bool, List, None, Option, Some, [], ap, ap₂, arith, false, if◌then◌else◌, inl, inr, length, refl, subst, sym, true, ℕ, ◌&&◌, ◌++◌, ◌+◌, ◌-◌, ◌<◌, ◌==◌, ◌||◌, ◌∙◌, ◌∷◌, ◌≡◌, ◌≤◌, ◌⊎◌}
use Rattle.std.proofs.lemmas.Bool.{both_ways, cases_eq, eq-eqb, or_left, or_right}
use Rattle.std.specs.List.{AllByRecursion, flat_map, list_any}
use Rattle.std.specs.Prelude.{is_none, is_some, nat_le, nat_lt}
use Rattle.zw_base.proofs.Each.{all-weaker}
use Rattle.zw_text.specs.declared.entry.Done.{Done as HowDone}
use Rattle.zw_text.specs.declared.entry.Done.TheVariants.{LinkFailed as gave_up, Silent as was_silent}
use Rattle.zw_text.specs.declared.entry.Entry.{Entry}
use Rattle.zw_text.specs.declared.entry.Entry.TheVariants as entry
use Rattle.zw_text.specs.declared.entry.Ended.TheVariants as ended

series_runs : (a : Attempts) (t : NodeState) (time : ℕ) (badly : Bool) → t.series ≡ Running → LastIs t.series t.book.attempts a t.attempt_wait time badly → GoesOn a t.attempt_wait time badly
series_runs a t time badly runs last = subst (λ (x : Series). LastIs x t.book.attempts a t.attempt_wait time badly) runs last

-- its tick wakes no node
record Awake (t u : NodeState) : Type 0 where
  awake : u.awake ≡ t.awake
  listens : u.listens ≡ t.listens

either_awake : (b : Bool) (t x y : NodeState) → Awake t x → Awake t y → Awake t (if b then x else y)
either_awake true t x y one other = one
either_awake false t x y one other = other

occasion_awake : (t : NodeState) → Awake t (after_occasion t)
occasion_awake t =
    either_awake (is_open t && is_up t && is_idle t.series) t (new_series t) t (record { awake = refl; listens = refl }) (record { awake = refl; listens = refl })

again_awake : (t : NodeState) → Awake t (after_again_tick (after_hold_tick t))
again_awake t =
    let over : NodeState = with_again (after_hold_tick t) 0 in
    let there = occasion_awake over in
    either_awake (t.again_wait == 1) t (after_again over) (with_again (after_hold_tick t) (t.again_wait - 1))
    (either_awake (has_waiting over) t (after_occasion over) over (record { awake = there.awake; listens = there.listens }) (record { awake = refl; listens = refl }))
    (record { awake = refl; listens = refl })

awake_falls : (t u : NodeState) → Awake t u → falls_asleep t ≡ false → falls_asleep u ≡ false
awake_falls t u same none = ap₂ (λ (a b : Bool). a && is_false b) same.awake same.listens ∙ none

tick_falls : (t : NodeState) → falls_asleep t ≡ false → falls_asleep (after_tick t) ≡ false
tick_falls t none =
    let u : NodeState = after_again_tick (after_hold_tick t) in
    let kept : falls_asleep u ≡ false = awake_falls t u (again_awake t) none in
    by (u.attempt_wait == 1) (is_running u.series) (nat_lt (u.book.attempts + 1) 3) u kept
  where
    by : (last runs few : Bool) (u : NodeState) → falls_asleep u ≡ false
        → falls_asleep (if last then (if runs then (if few then next_due (without_attempt u) (u.book.attempts + 1) else after_sleep (series_over (without_attempt u) (u.book.attempts + 1) BetweenTicks)) else u)
        else with_wait u (u.attempt_wait - 1)) ≡ false
    by true true true u kept = kept
    by true true false u kept = slept_not (series_over (without_attempt u) (u.book.attempts + 1) BetweenTicks)
    by true false few u kept = kept
    by false runs few u kept = kept

sealing_open : (h : HostState) (n : ℕ) → IsSealing h n → SealedOpen h n
sealing_open h n so = record {
  session = so.session;
  opened = so.opened;
  number = so.number;
  at = so.carried;
  taken = record { order = so.command.order; carriage = so.command.carriage };
  found = ap taken_by so.found;
  form = so.form;
}

module _ (key : List ℕ) (taken : List Entry → Carried → List Told) (from : Outset) (n : ℕ) (left : List HostEvent) (past told : List Entry) (m : HostMachine) (s : TickGround taken (Node_ticks n) left past told m)
    (is_node : IsNode n) (all : AllByRecursion IsNodeTick left) (tie : IsTied past m) where
  abbrev heeds : Heeds
  heeds = heeds_alone taken

  abbrev so_far : ℕ → List Entry → Attempts
  so_far j past = attempts_so_far heeds j past

  abbrev h : HostState
  h = m.state

  abbrev g : HostState
  g = after m.state (Node_ticks n)

  abbrev r : Option (List (List ℕ))
  r = (done m (Node_ticks n)).records

  facts : Facts past h
  facts = tick_facts taken (Node_ticks n) left past told m s

  frames : AreFrames m.came
  frames = tick_frames taken (Node_ticks n) left past told m s

  within : n < length h.nodes
  within = let places = facts.host.nodes.places in let to = is_node.1 in omega (arith, places, to)

  ticked : TickLeft (node_of h n) (node_of g n)
  ticked = tick_here h n within

  others : (j : ℕ) → (j ≡ n → ⊥) → Alike (node_of h j) (node_of g j)
  others j other = tick_other h n j other

  under : g.requests.under_way ≡ h.requests.under_way
  under = ap (λ (q : RequestsState). q.under_way) (tick_requests h n)

  told_is : told ≡ attempt_entries n (tick_end (node_of h n)) (open_command (node_of h n))
  told_is = noted_told (attempt_entries n (tick_end (node_of h n)) (open_command (node_of h n))) told s.told_so

  notes : AllByRecursion (λ e. is_note e ≡ true) told
  notes = subst (AllByRecursion (λ e. is_note e ≡ true)) (sym told_is) (tick_notes h n)

  -- ---- nothing is told

  all_alike : Alike (node_of h n) (node_of g n) → (j : ℕ) → Alike (node_of h j) (node_of g j)
  all_alike alike j = elim (cases_eq j n) [
    | inl same ↦ subst (λ (k : ℕ). Alike (node_of h k) (node_of g k)) (sym same) alike
    | inr other ↦ others j other
  ]

  some_clock : 1 ≤ m.clock
  some_clock = s.ground.grounds.sleep.0.0.0.0.0.0.0.0.1.1

  module _ (at : List Entry) (time : clock at ≡ m.clock) (same : so_far n at ≡ so_far n past) where
    -- of an attempt of which a text waits to be sealed
    late_at : (node_of h n).attempt_wait ≡ 1 → has_text (node_of h n) ≡ true → is_late heeds at n ≡ true
    late_at one has =
        let count = subst (λ (b : Bool). AttemptsSo heeds n past h (if b || is_to_tick n left then m.clock - 1 else m.clock) m.clock) (eq-eqb n n refl) (s.ground.counts n is_node.0 is_node.1) in
        let goes = series_runs (so_far n past) (node_of h n) (m.clock - 1) (is_badly_over heeds n past h m.clock) (texts_run (node_of h n) (facts.host.nodes.facts n) has) count.node.are.last in
        let next : m.clock - 1 + 1 ≡ m.clock = let some = some_clock in omega (arith, some) in
        to_late taken n at (so_far n past) same
        (ap (λ (t : ℕ). late_of t (so_far n past)) time ∙ late_now (so_far n past) (node_of h n).attempt_wait (m.clock - 1) m.clock next one goes.sign)

    quiet_books : (c : Course) → BooksSo key heeds at h c → BooksSo key heeds at g c
    quiet_books c books = by ticked
      where
        by : TickLeft (node_of h n) (node_of g n) → BooksSo key heeds at g c
        by (inl (alike, none)) = kept_books key taken at at h g (tick_kept h n) c (λ j is. all_alike alike j) (λ j is late. late) books
        by (inr over) =
            late_books key taken at at h g (tick_kept h n) n is_node others over.freed (λ j is other late. late) c (stale (node_of h n).pending refl) books
          where
            stale : (o : Option (List ℕ)) → (node_of h n).pending ≡ o → ((book_of n c.books).sealer.pending ≡ []) ⊎ ((is_late heeds at n ≡ true) × SealedOpen g n)
            stale None is = stale_so key taken at at h g (tick_kept h n) n is_node others over.freed (λ j is other late. late) c is (λ late. late) books
            stale (Some plain) is =
                let has : has_text (node_of h n) ≡ true
                = or_right (is_some (node_of h n).text) (is_some (node_of h n).pending) (ap (λ (o : Option (List ℕ)). is_some o) is) in
                inr (
                  late_at over.wait has,
                  open_kept key taken at at h g (tick_kept h n) n is_node others over.freed (λ j is other late. late) (sealing_open h n ((s.ground.counts n is_node.0 is_node.1).seals has)),
                )

  -- ---- its command is given up

  module _ (gives : GivesUp past n told) where
    some : told ≡ [] → ⊥
    some none = let bad : [] ≡ entry.Out gives.1 ended.Unanswered ∷ sleep_note past n = sym none ∙ gives.3 in cc

    time_is : clock past ≡ m.clock
    time_is = tick_time taken (Node_ticks n) left past told m s some

    awaits : m.awaits ≡ false
    awaits = tick_numbered taken (Node_ticks n) left past told m s some

    gone : GoneSo heeds past m.clock n told
    gone =
        inr (
          gives.1,
          subst (λ (t : ℕ). to_give_up heeds past t n ≡ gives.1 ∷ []) time_is (given_up taken past told h facts n (s.ground.grounds.shows n) s.law gives),
          gives.3,
        )

    keeps : (j : ℕ) → (j ≡ n → ⊥) → EachAfter (KeepsLate taken j) past told
    keeps j other = subst (λ (l : List Entry). EachAfter (KeepsLate taken j) past l) (sym told_is) (attempt_keep taken j past h facts.host (s.ground.grounds.shows j).last n other (tick_end (node_of h n)))

    loud_books : (c : Course) → BooksSo key heeds past h c → BooksSo key heeds (past ++ told) g (without_texts n (with_notes told c))
    loud_books c books = by ticked
      where
        by : TickLeft (node_of h n) (node_of g n) → BooksSo key heeds (past ++ told) g (without_texts n (with_notes told c))
        by (inl (alike, none)) = absurd (some (told_is ∙ ap (λ (e : AttemptEnd). attempt_entries n e (open_command (node_of h n))) none))
        by (inr over) =
            end_books key taken past (past ++ told) h g (tick_kept h n) n is_node others over.freed (λ j is other late. late_on taken j past told (keeps j other) late) (with_notes told c) books

    none_below : Ascends n left → (k : ℕ) → k < n → Has (nodes_in_order past) k → to_give_up heeds past m.clock k ≡ []
    none_below above k less at =
        let range = in_order_nodes past k at in
        none_ticked taken (Node_ticks n ∷ left) past m s.ground tie frames s.ground.counts k range.0 range.1 (below_done k k (Node_ticks n ∷ left) (tt, all) (less, above) (omega arith))

    has : Has (nodes_in_order past) n
    has = has_joined past n (accepted_joined [] past gives.1 n [] s.own (shown_node taken past told h facts n (s.ground.grounds.shows n) s.law gives))

  -- ---- the course

  abbrev k : HostMachine
  k = record m { state = g; records = r }

  -- a tick lets nodes fall asleep, and wakes none
  node_falls : (j : ℕ) → falls_asleep (node_of h j) ≡ false → falls_asleep (node_of g j) ≡ false
  node_falls j none = elim (cases_eq j n) [
    | inl same ↦ subst (λ (i : ℕ). falls_asleep (node_of g i) ≡ false) (sym same)
        (ap (λ (t : NodeState). falls_asleep t) (node_after h (Node_ticks n) n within)
        ∙ ap (λ (b : Bool). falls_asleep (if b then after_tick (node_of h n) else node_of h n)) (eq-eqb n n refl)
        ∙ tick_falls (node_of h n) (subst (λ (i : ℕ). falls_asleep (node_of h i) ≡ false) same none))
    | inr other ↦ ap (λ (t : NodeState). falls_asleep t) (ap (λ (l : List NodeState). node_among l j) (nodes_are h (Node_ticks n)) ∙ other_node h n Ticks j other) ∙ none
  ]

  -- ---- where something was noted before it

  pub node_some : (t : SomeNoted key taken from past m (Node_ticks n ∷ left)) → SomeNoted key taken from (past ++ told) k left
  node_some t = by (node_noted past h (tick_nodes taken (Node_ticks n) left past told m s) told n is_node told_is)
    where
      by : (told ≡ []) ⊎ GivesUp past n told → SomeNoted key taken from (past ++ told) k left
      by (inl none) =
          nothing_told (λ (l : List Entry). SomeNoted key taken from l k left) past told none
          (still_some key taken from past m g r (Node_ticks n) left t (ascends_from t.last n left (let less = t.above.0 in omega (arith, less)) t.above.1) (over_on past past m k t.mid t.mid refl under refl t.over)
          (nodes_idle left k all) (quiet_books past (now_is taken (Ticking (Node_ticks n ∷ left)) past m s.ground t.numbered) refl t.mid t.books))
      by (inr gives) =
          gives_more key taken from n past told m notes (some gives) (gone gives) (none_below gives t.above.1) left t (has gives) g r
          (over_on past (past ++ told) m k t.mid t.mid (same_request past told notes) under refl t.over)
          (nodes_idle left k all) (loud_books gives t.mid t.books)

  -- ---- where nothing was

  module _ (known : NoneNoted key taken from past m) where
    abbrev c : Course
    c = known.course

    -- what the course makes of the tick before the nodes
    record Midways : Type 0 where
      mid : Course
      midway : Midway key taken from past m c mid (nodes_in_order past)
      due : mid.due ≡ []
      over : OverSo past m mid
      books : BooksSo key heeds (timed m past) h mid

    abbrev at_now : Course → Course
    at_now d = record d { ticked = m.clock }

    still : (c.over ≡ false → Waits past m.clock) → Midway key taken from past m c (at_now c) (nodes_in_order past)
    still waits = record {
      goes = λ keepings texts. ap (λ (d : Course). ticking heeds past m.clock (nodes_in_order past) d) (goes_on heeds past m.clock (choosing keepings texts c) waits);
      others = refl;
    }

    level_midway : Level key heeds past m c → Midways
    level_midway level = record {
      mid = at_now c;
      midway = still (λ running.
          let way = runs_so key taken past m c level running in unended_waits past m.clock (unended_at past m.clock m.came h frames tie way.0 way.1));
      due = known.follows.none_due;
      over = inl level.over;
      books = level.books;
    }

    module _ (lags : Lags key heeds past m c) where
      framed : is_data (asked past).frame ≡ true
      framed = read_framed (asked past).frame (request_of lags.purpose lags.id) lags.request

      only_own : (own badly : Bool) → badly ≡ true → (own && badly) ≡ false → own ≡ false
      only_own true badly is none = absurd (both_ways badly none is)
      only_own false badly is none = refl

      -- of a node whose attempt it was nothing is given up: that has ended
      lag_none : ((inner : Bool) → ends_badly (asked past) inner m.clock ≡ true) → (j : ℕ) → IsNode j → to_give_up_by_end heeds past m.clock j ≡ []
      lag_none badly j is = by (is_running (node_of h j).series) refl
        where
          counts : AttemptsSo heeds j past h (node_clock (Ticking (Node_ticks n ∷ left)) m.clock j) m.clock
          counts = s.ground.counts j is.0 is.1

          by : (b : Bool) → is_running (node_of h j).series ≡ b → to_give_up_by_end heeds past m.clock j ≡ []
          by false idle =
              none_by_end taken past m.clock j
              (few_none taken past m.clock j (few_idle taken j past h (facts.host.nodes.facts j) (node_clock (Ticking (Node_ticks n ∷ left)) m.clock j) m.clock counts idle))
          by true runs =
              let over : is_badly_over heeds j past h m.clock ≡ true
              = ap (λ (o : Option UnderWay). is_none o && has_ended_badly heeds past (asked past) m.clock j) lags.none ∙ badly _ in
              let goes = series_runs (so_far j past) (node_of h j) (node_clock (Ticking (Node_ticks n ∷ left)) m.clock j) (is_badly_over heeds j past h m.clock) (runs_or (node_of h j) runs) counts.node.are.last in
              by_own taken past m.clock j false (only_own (so_far j past).own (is_badly_over heeds j past h m.clock) over goes.not_badly)

      quietly_ends : (how : HowDone) → ((inner : Bool) → ends_badly (asked past) inner m.clock ≡ true) → (keepings : List Bool) (texts : List (Option (List ℕ)))
          → ends_without heeds past m.clock how (at_now (choosing keepings texts c)) ≡ choosing keepings texts (ended_silently past (at_now c))
      quietly_ends how badly keepings texts =
          quiet_end heeds past m.clock how (at_now (choosing keepings texts c)) known.follows.none_due
          (s.ground.errands ∙ ap asked_by lags.request ∙ purpose_asks lags.purpose lags.id lags.carries ∙ lags.quiet.errands)
          (ap (flat_map (sleep_note past)) (tells_of past h.requests lags.purpose lags.id lags.well lags.request)
          ∙ sleeps_by past h (tick_nodes taken (Node_ticks n) left past told m s).sleeper lags.purpose lags.well lags.quiet.sleeps)
          (ap node_interviewed lags.request ∙ purpose_interviews lags.purpose lags.id ∙ lags.quiet.interviews)
          (all-weaker (λ (one : Carried). IsNode one.node) (λ (one : Carried). to_give_up_by_end heeds past m.clock one.node ≡ []) (λ one is. lag_none badly one.node is) (sending_in (asked past).frame)
          (sending_nodes (asked past).frame))
          ∙ silently_chosen past keepings texts (at_now c)

      over_midway : ((keepings : List Bool) (texts : List (Option (List ℕ))) → ticks heeds past m.clock (choosing keepings texts c)
          ≡ ticking heeds past m.clock (nodes_in_order past) (choosing keepings texts (ended_silently past (at_now c)))) → Midways
      over_midway goes = record {
        mid = ended_silently past (at_now c);
        midway = record { goes = goes; others = ap rest_of (silently_is past (at_now c)) };
        due = ap (λ (d : Course). d.due) (silently_is past (at_now c)) ∙ known.follows.none_due;
        over = inl (ap (λ (d : Course). d.over) (silently_is past (at_now c)) ∙ sym (ap (λ (o : Option UnderWay). is_none o) lags.none));
        books = subst (λ (d : Course). BooksSo key heeds (timed m past) h d) (sym (silently_is past (at_now c)))
            (subst (λ (d : Course). BooksSo key heeds (timed m past) h d) (silently_is past c) lags.books);
      }

      abort_midway : Waits past m.clock → lags.purpose ≡ Abort → Midways
      abort_midway waits abort =
          let request : request_last past ≡ request_of Abort lags.id ∷ [] = lags.request ∙ ap (λ (p : Purpose). request_of p lags.id ∷ []) abort in
          record {
            mid = at_now c;
            midway = still (λ running. waits);
            due = known.follows.none_due;
            over = inr (lags.running, lags.none, (lags.id, request));
            books = subst (λ (d : Course). BooksSo key heeds (timed m past) h d)
                (ap (λ (l : List Carried). each_in_turn ends_sealing l (record c { over = true })) (abort_sends past lags.id request)) lags.books;
          }

      lags_midway : Midways
      lags_midway = by (list_any (λ tick. nat_le tick m.clock) (giving_up (asked past))) (list_any (λ tick. nat_le tick m.clock) (silence (asked past))) refl refl
        where
          not_still : list_any (λ tick. nat_le tick m.clock) (giving_up (asked past)) ≡ false → list_any (λ tick. nat_le tick m.clock) (silence (asked past)) ≡ false → EndedLate past m.clock
              → lags.purpose ≡ Abort
          not_still given silent (Given_up is) = absurd (both_ways (list_any (λ tick. nat_le tick m.clock) (giving_up (asked past))) given is)
          not_still given silent (In_silence is) = absurd (both_ways (list_any (λ tick. nat_le tick m.clock) (silence (asked past))) silent is)
          not_still given silent (As_abort is) = abort_purpose past lags.purpose lags.id lags.request is

          by : (a b : Bool) → list_any (λ tick. nat_le tick m.clock) (giving_up (asked past)) ≡ a → list_any (λ tick. nat_le tick m.clock) (silence (asked past)) ≡ b → Midways
          by true b given silent =
              over_midway (λ keepings texts.
              given_ticks heeds past m.clock (choosing keepings texts c) lags.running given
              ∙ ap (λ (d : Course). ticking heeds past m.clock (nodes_in_order past) d) (quietly_ends gave_up (λ inner. or_right _ _ given) keepings texts))
          by false true given silent =
              over_midway (λ keepings texts.
              silent_ticks heeds past m.clock (choosing keepings texts c) lags.running given silent
              ∙ ap (λ (d : Course). ticking heeds past m.clock (nodes_in_order past) d)
              (quietly_ends was_silent (λ inner. or_left _ (list_any (λ tick. nat_le tick m.clock) (giving_up (asked past))) (or_right _ _ silent)) keepings texts))
          by false false given silent =
              abort_midway (record { given = given; silent = silent }) (not_still given silent (ended_late past m.clock m.came (doing_of h) framed tie lags.none lags.unended))

    midways : Level key heeds past m c ⊎ Lags key heeds past m c → Midways
    midways (inl level) = level_midway level
    midways (inr lags) = lags_midway lags

    pub node_none : (0 < n) × Ascends n left → TickSo key taken from (past ++ told) k left
    node_none above = by (node_noted past h (tick_nodes taken (Node_ticks n) left past told m s) told n is_node told_is)
      where
        by : (told ≡ []) ⊎ GivesUp past n told → TickSo key taken from (past ++ told) k left
        by (inl none) =
            Nothing (ascends_from 0 n left (omega arith) above.1)
            (nothing_told (λ (l : List Entry). NoneNoted key taken from l k) past told none
            (still_none key taken from past m g r
            (quiet_books (timed m past) (timed_clock taken (Ticking (Node_ticks n ∷ left)) past m (ground_of (Ticking (Node_ticks n ∷ left)) past m s.ground.grounds)) (timed_attempts taken n past m))
            (ap (λ (o : Option UnderWay). is_none o) under) (λ is. under ∙ is) (falls_quiet h g node_falls) known))
        by (inr gives) =
            let w : Midways = midways known.follows.so in
            let books : BooksSo key heeds past h w.mid
            = subst (λ (b : Bool). BooksSo key heeds (if b then past ++ entry.Time m.clock ∷ [] else past) h w.mid) (awaits gives) w.books in
            Something
            (gives_first key taken from n past told m notes (some gives) (gone gives) (none_below gives above.1) c w.mid known.of known.follows known.early known.frames (awaits gives) (time_is gives) w.midway w.due
            (has gives) g r left above.1 (over_on past (past ++ told) m k w.mid w.mid (same_request past told notes) under refl w.over) (nodes_idle left k all) (loud_books gives w.mid books))
