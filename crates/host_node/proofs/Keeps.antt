-- Each event keeps the facts of a node.
use Rattle.std.proofs.Common.{◌≡◌, ℕ, ◌+◌, ◌-◌, ◌<◌, ◌≤◌, ◌==◌, ◌&&◌, ◌||◌, nat_lt, Bool, true, false, if◌then◌else◌, Option, Some, None, List, [], ◌∷◌, ◌++◌, length, is_some, IsSome, IsTrue, refl, sym, subst, arith, length-append, length-take, length-drop}
use Rattle.std.proofs.lemmas.Bool.Decides.{nat_tests}
use Rattle.std.proofs.lemmas.Bool.{ltb-true as below_holds, ltb-false as not_below_holds}
use Rattle.supervision.specs.Host.{open_session, told_of}
use Rattle.supervision.specs.declared.host_node.Told.{Told}
use Rattle.supervision.specs.declared.host_node.Told.TheVariants.{Final, Working, Old}
use Rattle.host_node.specs.declared.series.Series.{Series}
use Rattle.host_node.specs.declared.series.Series.TheVariants.{Idle, Due, Running}
use Rattle.host_node.specs.declared.no_more.NoMore.{NoMore}
use Rattle.host_node.specs.declared.no_more.NoMore.TheVariants.{Unasked, Queued, Dropped}
use Rattle.host_node.specs.declared.attempt.Plan.{Plan}
use Rattle.host_node.specs.declared.attempt.Plan.TheVariants.{Whole, Segments, Sealed}
use Rattle.host_node.specs.declared.attempt.Moment.{Moment}
use Rattle.host_node.specs.declared.attempt.Moment.TheVariants.{BetweenTicks, BeforeItsTick}
use Rattle.host_node.specs.State.{NodeState, is_false, is_idle, is_running, is_up, is_open, has_waiting, wants_no_more}
use Rattle.host_node.specs.Steps.{with_again, with_wait, next_due, series_over, after_occasion, new_series, without, without_attempt, asleep, after_sleep, after_attempts, after_attempt_end, again_from, after_sign, after_told, tried_again, after_again, after_again_tick, after_attempt_tick, after_hold_tick, as_recorded, after_begin, after_start, after_segment, after_text, after_nonce, after_no_more}
use Rattle.host_node.specs.Events.{NodeEvent, after, after_all, May, MayAll, FitsPlan}
use Rattle.host_node.specs.Events.NodeEvent.{Joins, Interviews, Puts, Takes_back, Accepts, Cancels, Begins, Blocks, Starts, Gives_segment, Gives_text, Succeeds, Takes_nonce, Restores_seen, Ends_attempt, Reports, Holds, Notifies, Sleeps, Queues_no_more, Drops_no_more, Ends_no_more, Ticks, Restarts}
use Rattle.host_node.specs.Facts.{NodeFacts, SeriesFacts, NoMoreFacts}

-- either branch of a test keeps the facts
either : (test : Bool) (yes no : NodeState) → (test ≡ true → NodeFacts yes) → (test ≡ false → NodeFacts no) → NodeFacts (if test then yes else no)
either true m k p q = p refl
either false m k p q = q refl

pub first_holds : (a b : Bool) → a && b ≡ true → a ≡ true
first_holds true b e = refl
first_holds false b e = cc

pub second_holds : (a b : Bool) → a && b ≡ true → b ≡ true
second_holds true b e = e
second_holds false b e = cc

idle_holds : (s : Series) → is_idle s ≡ true → s ≡ Idle
idle_holds Idle e = refl
idle_holds Due e = cc
idle_holds Running e = cc

running_holds : (s : Series) → is_running s ≡ true → s ≡ Running
running_holds Idle e = cc
running_holds Due e = cc
running_holds Running e = refl

-- what the facts say of a series that is known
series_at : {n : NodeState} (s : Series) → NodeFacts n → n.series ≡ s → SeriesFacts s n.book n.attempt_wait n.again_wait n.next_segment n.segments n.text n.pending
series_at {n} s f e = subst (λ (t : Series). SeriesFacts t n.book n.attempt_wait n.again_wait n.next_segment n.segments n.text n.pending) e f.series

-- a new series
renewed : (n : NodeState) → NodeFacts n → IsSome (open_session n.book) → n.series ≡ Idle → NodeFacts (new_series n)
renewed n f begun_one idle = record {
  series = (record { is_open = begun_one; fewer = omega arith }, refl, (series_at Idle f idle).1);
  attempt_wait = f.attempt_wait;
  again_wait = omega arith;
  hold = f.hold;
  no_more = f.no_more;
  waiting = f.waiting;
}

occasion : (n : NodeState) → NodeFacts n → NodeFacts (after_occasion n)
occasion n f =
    either (is_open n && is_up n && is_idle n.series) (new_series n) n
    (λ e. renewed n f (first_holds (is_open n) (is_up n) (first_holds _ (is_idle n.series) e)) (idle_holds _ (second_holds (is_open n && is_up n) _ e)))
    (λ _. f)

-- it counts as asleep
slept : (n : NodeState) → NodeFacts n → NodeFacts (after_sleep n)
slept n f = either n.listens n (asleep n) (λ _. f) (λ _. record {
  series = f.series;
  attempt_wait = f.attempt_wait;
  again_wait = f.again_wait;
  hold = omega arith;
  no_more = tt;
  waiting = f.waiting;
})

again_is_short : (moment : Moment) → again_from moment ≤ 101
again_is_short BetweenTicks = omega arith
again_is_short BeforeItsTick = omega arith

third : (attempts : ℕ) → attempts ≤ 2 → 3 ≤ attempts + 1 → IsTrue (attempts + 1 == 0 || attempts + 1 == 3)
third attempts few many = let three : attempts + 1 ≡ 3 = omega arith in subst (λ k. IsTrue (k == 0 || k == 3)) (sym three) refl

none_is_not_some : {X : Type 0} (o : Option X) → IsSome o → o ≡ None → ⊥
none_is_not_some (Some x) s e = cc
none_is_not_some None s e = cc

-- an attempt that ran has ended
ended : (n : NodeState) (moment : Moment) → NodeFacts n → NodeFacts (after_attempt_end n moment)
ended n moment f = either (is_running n.series) (after_attempts (without_attempt n) (n.book.attempts + 1) moment) n (λ e.
    let runs = series_at Running f (running_holds _ e) in
    either (nat_lt (n.book.attempts + 1) 3) (next_due (without_attempt n) (n.book.attempts + 1)) (after_sleep (series_over (without_attempt n) (n.book.attempts + 1) moment))
    (λ more. let few : n.book.attempts + 1 ≤ 2 = omega (arith, below_holds _ _ more) in record {
      series = (record { is_open = runs.0.is_open; fewer = few }, runs.1, record { no_wait = refl; no_next = refl; no_segments = refl; no_text = refl; no_pending = refl });
      attempt_wait = omega arith;
      again_wait = f.again_wait;
      hold = f.hold;
      no_more = f.no_more;
      waiting = f.waiting;
    })
    (λ last. slept (series_over (without_attempt n) (n.book.attempts + 1) moment) (record {
      series = (
        record {
          closed = λ none. absurd (none_is_not_some _ runs.0.is_open none);
          opened = λ _. third n.book.attempts runs.0.fewer (not_below_holds _ _ last);
        },
        record { no_wait = refl; no_next = refl; no_segments = refl; no_text = refl; no_pending = refl },
      );
      attempt_wait = omega arith;
      again_wait = again_is_short moment;
      hold = f.hold;
      no_more = f.no_more;
      waiting = f.waiting;
    })))
    (λ _. f)

-- a sign of the running attempt
signed : (n : NodeState) → NodeFacts n → NodeFacts (after_sign n)
signed n f = either (is_running n.series) (with_wait n 100) n (λ e.
    let runs = series_at Running f (running_holds _ e) in
    record {
      series = subst (λ (s : Series). SeriesFacts s n.book 100 n.again_wait n.next_segment n.segments n.text n.pending) (sym (running_holds _ e)) runs;
      attempt_wait = omega arith;
      again_wait = f.again_wait;
      hold = f.hold;
      no_more = f.no_more;
      waiting = f.waiting;
    })
    (λ _. f)

told : (n : NodeState) (status : ℕ) (t : Told) → NodeFacts n → NodeFacts (after_told n status t)
told n status (Final session) f = record {
  series = (record { closed = λ _. (refl, refl); opened = λ _. refl }, record { no_wait = refl; no_next = refl; no_segments = refl; no_text = refl; no_pending = refl });
  attempt_wait = omega arith;
  again_wait = omega arith;
  hold = f.hold;
  no_more = f.no_more;
  waiting = f.waiting;
}
told n status Working f = signed n f
told n status Old f = f

-- a session begins
begun_is_open : (commands : List ℕ) (command : ℕ) → IsSome (open_session (record { commands = commands ++ command ∷ []; outcome = None; attempts = 0 }))
begun_is_open [] command = refl
begun_is_open (first ∷ rest) command = refl

begun : (n : NodeState) → NodeFacts n → open_session n.book ≡ None → NodeFacts (after_begin n)
begun n f closed = record {
  series =
      elim n.series as (λ s. SeriesFacts s n.book n.attempt_wait n.again_wait n.next_segment n.segments n.text n.pending
      → SeriesFacts Due (after_begin n).book n.attempt_wait n.again_wait n.next_segment n.segments n.text n.pending) [
        | Idle ↦ λ g. (record { is_open = begun_is_open n.book.commands _; fewer = omega arith }, (g.0.closed closed).1, g.1)
        | Due ↦ λ g. absurd (none_is_not_some _ g.0.is_open closed)
        | Running ↦ λ g. absurd (none_is_not_some _ g.0.is_open closed)
      ]
      f.series;
  attempt_wait = f.attempt_wait;
  again_wait = f.again_wait;
  hold = f.hold;
  no_more = f.no_more;
  waiting = omega (arith, f.waiting, length-drop {A = ℕ});
}

-- a text that is not there is not beside a pending one
not_both : (text pending : Option (List ℕ)) → text ≡ None → is_some text && is_some pending ≡ false
not_both None pending e = refl
not_both (Some t) pending e = cc

started : (n : NodeState) (plan : Plan) → NodeFacts n → n.series ≡ Due → FitsPlan plan → NodeFacts (after_start n plan)
started n Whole f due fits =
    let g = series_at Due f due in
    record {
      series = (g.0, g.1, omega (arith, g.2.no_next, g.2.no_segments), not_both n.text n.pending g.2.no_text);
      attempt_wait = f.attempt_wait;
      again_wait = f.again_wait;
      hold = f.hold;
      no_more = f.no_more;
      waiting = f.waiting;
    }
started n (Segments count) f due fits =
    let g = series_at Due f due in
    record {
      series = (g.0, g.1, fits, not_both n.text n.pending g.2.no_text);
      attempt_wait = f.attempt_wait;
      again_wait = f.again_wait;
      hold = f.hold;
      no_more = f.no_more;
      waiting = f.waiting;
    }
started n (Sealed plain) f due fits =
    let g = series_at Due f due in
    record {
      series = (g.0, g.1, omega (arith, g.2.no_next, g.2.no_segments), not_both n.text (Some plain) g.2.no_text);
      attempt_wait = f.attempt_wait;
      again_wait = f.again_wait;
      hold = f.hold;
      no_more = f.no_more;
      waiting = f.waiting;
    }

segment_given : (n : NodeState) → NodeFacts n → n.next_segment < n.segments → NodeFacts (after_segment n)
segment_given n f below = record {
  series =
      elim n.series as (λ s. SeriesFacts s n.book n.attempt_wait n.again_wait n.next_segment n.segments n.text n.pending
      → SeriesFacts s n.book n.attempt_wait n.again_wait (n.next_segment + 1) n.segments n.text n.pending) [
        | Idle ↦ λ g. absurd (omega (arith, below, g.1.no_segments))
        | Due ↦ λ g. absurd (omega (arith, below, g.2.no_segments))
        | Running ↦ λ g. (g.0, g.1, omega (arith, below), g.3)
      ]
      f.series;
  attempt_wait = f.attempt_wait;
  again_wait = f.again_wait;
  hold = f.hold;
  no_more = f.no_more;
  waiting = f.waiting;
}

text_given : (n : NodeState) → NodeFacts n → NodeFacts (after_text n)
text_given n f = record {
  series =
      elim n.series as (λ s. SeriesFacts s n.book n.attempt_wait n.again_wait n.next_segment n.segments n.text n.pending
      → SeriesFacts s n.book n.attempt_wait n.again_wait n.next_segment n.segments None n.pending) [
        | Idle ↦ λ g. (g.0, record { no_wait = g.1.no_wait; no_next = g.1.no_next; no_segments = g.1.no_segments; no_text = refl; no_pending = g.1.no_pending })
        | Due ↦ λ g. (g.0, g.1, record { no_wait = g.2.no_wait; no_next = g.2.no_next; no_segments = g.2.no_segments; no_text = refl; no_pending = g.2.no_pending })
        | Running ↦ λ g. (g.0, g.1, g.2, refl)
      ]
      f.series;
  attempt_wait = f.attempt_wait;
  again_wait = f.again_wait;
  hold = f.hold;
  no_more = f.no_more;
  waiting = f.waiting;
}

nonce_taken : (n : NodeState) (seen : ℕ) (text : List ℕ) → NodeFacts n → IsSome n.pending → NodeFacts (after_nonce n seen text)
nonce_taken n seen text f pending = record {
  series =
      elim n.series as (λ s. SeriesFacts s n.book n.attempt_wait n.again_wait n.next_segment n.segments n.text n.pending
      → SeriesFacts s n.book n.attempt_wait n.again_wait n.next_segment n.segments (Some text) None) [
        | Idle ↦ λ g. absurd (none_is_not_some _ pending g.1.no_pending)
        | Due ↦ λ g. absurd (none_is_not_some _ pending g.2.no_pending)
        | Running ↦ λ g. (g.0, g.1, g.2, refl)
      ]
      f.series;
  attempt_wait = f.attempt_wait;
  again_wait = f.again_wait;
  hold = f.hold;
  no_more = f.no_more;
  waiting = f.waiting;
}

-- a wait that is less than it was
again_shorter : (n : NodeState) (ticks : ℕ) → ticks ≤ n.again_wait → NodeFacts n → NodeFacts (record n { again_wait = ticks })
again_shorter n ticks less f = record {
  series =
      elim n.series as (λ s. SeriesFacts s n.book n.attempt_wait n.again_wait n.next_segment n.segments n.text n.pending
      → SeriesFacts s n.book n.attempt_wait ticks n.next_segment n.segments n.text n.pending) [
        | Idle ↦ λ g. (record { closed = λ none. ((g.0.closed none).0, omega (arith, less, (g.0.closed none).1)); opened = g.0.opened }, g.1)
        | Due ↦ λ g. (g.0, omega (arith, less, g.1), g.2)
        | Running ↦ λ g. (g.0, omega (arith, less, g.1), g.2, g.3)
      ]
      f.series;
  attempt_wait = f.attempt_wait;
  again_wait = omega (arith, less, f.again_wait);
  hold = f.hold;
  no_more = f.no_more;
  waiting = f.waiting;
}

attempt_shorter : (n : NodeState) (ticks : ℕ) → ticks ≤ n.attempt_wait → NodeFacts n → NodeFacts (record n { attempt_wait = ticks })
attempt_shorter n ticks less f = record {
  series =
      elim n.series as (λ s. SeriesFacts s n.book n.attempt_wait n.again_wait n.next_segment n.segments n.text n.pending
      → SeriesFacts s n.book ticks n.again_wait n.next_segment n.segments n.text n.pending) [
        | Idle ↦ λ g. (g.0, record { no_wait = omega (arith, less, g.1.no_wait); no_next = g.1.no_next; no_segments = g.1.no_segments; no_text = g.1.no_text; no_pending = g.1.no_pending })
        | Due ↦ λ g. (g.0, g.1, record { no_wait = omega (arith, less, g.2.no_wait); no_next = g.2.no_next; no_segments = g.2.no_segments; no_text = g.2.no_text; no_pending = g.2.no_pending })
        | Running ↦ λ g. g
      ]
      f.series;
  attempt_wait = omega (arith, less, f.attempt_wait);
  again_wait = f.again_wait;
  hold = f.hold;
  no_more = f.no_more;
  waiting = f.waiting;
}

hold_ticked : (n : NodeState) → NodeFacts n → NodeFacts (after_hold_tick n)
hold_ticked n f = record {
  series = f.series;
  attempt_wait = f.attempt_wait;
  again_wait = f.again_wait;
  hold = omega (arith, f.hold);
  no_more = f.no_more;
  waiting = f.waiting;
}

begun_again : (n : NodeState) → NodeFacts n → NodeFacts (after_again n)
begun_again n f = either (has_waiting n) (after_occasion n) n (λ _. occasion n f) (λ _. f)

again_ticked : (n : NodeState) → NodeFacts n → NodeFacts (after_again_tick n)
again_ticked n f =
    either (n.again_wait == 1) (after_again (with_again n 0)) (with_again n (n.again_wait - 1))
    (λ _. begun_again (with_again n 0) (again_shorter n 0 (omega arith) f))
    (λ _. again_shorter n (n.again_wait - 1) (omega arith) f)

attempt_ticked : (n : NodeState) → NodeFacts n → NodeFacts (after_attempt_tick n)
attempt_ticked n f = either (n.attempt_wait == 1) (after_attempt_end n BetweenTicks) (with_wait n (n.attempt_wait - 1)) (λ _. ended n BetweenTicks f) (λ _. attempt_shorter n (n.attempt_wait - 1) (omega arith) f)

-- No More Information
interviewed : (m : NoMore) (awake : Bool) (classes : Option (List ℕ)) (list : List ℕ) → NoMoreFacts m awake classes → NoMoreFacts m awake (Some list)
interviewed Unasked awake classes list g = tt
interviewed Queued awake classes list g = (g.0, refl)
interviewed Dropped awake classes list g = (g.0, refl)

woken : (m : NoMore) (awake : Bool) (classes : Option (List ℕ)) → NoMoreFacts m awake classes → NoMoreFacts (tried_again m) true classes
woken Unasked awake classes g = tt
woken Queued awake classes g = (refl, g.1)
woken Dropped awake classes g = tt

wanted : (n : NodeState) → IsTrue (wants_no_more n) → IsTrue n.awake × IsSome n.classes
wanted n h =
    let some : n.awake && is_false n.listens && is_some n.classes ≡ true = first_holds _ _ (first_holds _ _ (first_holds _ _ (first_holds _ _ h))) in
    (first_holds _ _ (first_holds _ _ some), second_holds _ _ some)

recorded : (n : NodeState) → NodeFacts n → NodeFacts (as_recorded n)
recorded n f = record {
  series = (record { closed = λ _. (refl, refl); opened = λ _. refl }, record { no_wait = refl; no_next = refl; no_segments = refl; no_text = refl; no_pending = refl });
  attempt_wait = omega arith;
  again_wait = omega arith;
  hold = omega arith;
  no_more = tt;
  waiting = f.waiting;
}

length-without : (commands : List ℕ) (command : ℕ) → length (without commands command) ≤ length commands
length-without [] command = omega arith
length-without (first ∷ rest) command = grind (arith, nat_tests, length-without rest command)

-- only what waits, or what became of No More Information, changes
other_waiting : (n : NodeState) (waiting : List ℕ) → length waiting ≤ 16 → NodeFacts n → NodeFacts (record n { waiting = waiting })
other_waiting n waiting short f = record {
  series = f.series;
  attempt_wait = f.attempt_wait;
  again_wait = f.again_wait;
  hold = f.hold;
  no_more = f.no_more;
  waiting = short;
}

other_no_more : (n : NodeState) (m : NoMore) → NoMoreFacts m n.awake n.classes → NodeFacts n → NodeFacts (after_no_more n m)
other_no_more n m g f = record {
  series = f.series;
  attempt_wait = f.attempt_wait;
  again_wait = f.again_wait;
  hold = f.hold;
  no_more = g;
  waiting = f.waiting;
}

pub kept : (n : NodeState) (event : NodeEvent) → May n event → NodeFacts n → NodeFacts (after n event)
kept n Joins may f = record { series = f.series; attempt_wait = f.attempt_wait; again_wait = f.again_wait; hold = f.hold; no_more = f.no_more; waiting = f.waiting }
kept n (Interviews listens classes) may f = record {
  series = f.series;
  attempt_wait = f.attempt_wait;
  again_wait = f.again_wait;
  hold = f.hold;
  no_more = interviewed n.no_more n.awake n.classes classes f.no_more;
  waiting = f.waiting;
}
kept n (Puts command) may f = other_waiting n _ (simp length-append (omega (arith, may))) f
kept n Takes_back may f = other_waiting n _ (omega (arith, f.waiting, length-take {A = ℕ})) f
kept n Accepts may f = occasion n f
kept n (Cancels command) may f = other_waiting n _ (omega (arith, f.waiting, length-without n.waiting command)) f
kept n Begins may f = begun n f may.1
kept n Blocks may f = record { series = f.series; attempt_wait = f.attempt_wait; again_wait = f.again_wait; hold = f.hold; no_more = f.no_more; waiting = f.waiting }
kept n (Starts plan) may f = started n plan f may.0 may.1
kept n Gives_segment may f = segment_given n f (below_holds n.next_segment n.segments may)
kept n Gives_text may f = text_given n f
kept n Succeeds may f = signed n f
kept n (Takes_nonce seen text) may f = nonce_taken n seen text f may
kept n (Restores_seen seen) may f = record { series = f.series; attempt_wait = f.attempt_wait; again_wait = f.again_wait; hold = f.hold; no_more = f.no_more; waiting = f.waiting }
kept n (Ends_attempt moment) may f = ended n moment f
kept n (Reports id status) may f = told n status (told_of n.book id status) f
kept n Holds may f = record { series = f.series; attempt_wait = f.attempt_wait; again_wait = f.again_wait; hold = omega arith; no_more = f.no_more; waiting = f.waiting }
kept n Notifies may f = occasion _ (record {
  series = f.series;
  attempt_wait = f.attempt_wait;
  again_wait = f.again_wait;
  hold = f.hold;
  no_more = woken n.no_more n.awake n.classes f.no_more;
  waiting = f.waiting;
})
kept n Sleeps may f = slept n f
kept n Queues_no_more may f = other_no_more n Queued (wanted n may) f
kept n Drops_no_more may f = other_no_more n Dropped (wanted n may) f
kept n Ends_no_more may f = slept _ (other_no_more n Unasked tt f)
kept n Ticks may f = attempt_ticked _ (again_ticked _ (hold_ticked n f))
kept n Restarts may f = occasion _ (recorded n f)

pub all_kept : (n : NodeState) (events : List NodeEvent) → MayAll n events → NodeFacts n → NodeFacts (after_all n events)
all_kept n [] may f = f
all_kept n (event ∷ more) may f = all_kept (after n event) more may.1 (kept n event may.0 f)
