-- How a series of attempts grows by entries, and that it goes with the node in the host.
use Rattle.std.proofs.Common.{◌≡◌, ◌⊎◌, ℕ, zero, suc, ◌+◌, ◌-◌, ◌≤◌, ◌==◌, ◌&&◌, ◌||◌, not, nat_le, Bool, true, false, if◌then◌else◌, List, [], ◌∷◌, ◌++◌, refl, sym, ap, ap₂, ◌∙◌, subst, inl, inr, arith}
use Rattle.std.specs.List.{list_any}
use Rattle.std.proofs.lemmas.Bool.{cases_eq, eq-eqb, false_from_ne_true, le-leb, leb-true, ne_eqb, or_left, or_right}
use Rattle.s0_crypto.specs.declared.key_pair.Keys.{Keys}
use Rattle.zw_text.specs.declared.entry.Ended.TheVariants as endings
use Rattle.zw_text.specs.declared.entry.Entry.{Entry}
use Rattle.zw_text.specs.declared.entry.Entry.TheVariants as entry
use Rattle.zw_text.specs.Transcript.{line_of}
use Rattle.proof_work.specs.law_transcript.Commands.{waiting}
use Rattle.proof_work.specs.law_transcript.Restarts.{begins_refused, is_restart}
use Rattle.proof_work.specs.law_time.Moments.{now_at}
use Rattle.proof_work.specs.law_time.Requests.{are_none}
use Rattle.proof_work.specs.law_time.Sessions.{Series as SeriesTold, is_open, new_series, no_series, series_by_end, series_from, series_step, with_occasion, with_time}
use Rattle.proof_work.specs.law_time.Waking.{is_up}
use Rattle.host_node.specs.declared.attempt.Moment.TheVariants.{BeforeItsTick, BetweenTicks}
use Rattle.host_node.specs.declared.series.Series.{Series}
use Rattle.host_node.specs.declared.series.Series.TheVariants.{Idle, Due, Running}
use Rattle.host_node.specs.Facts.{NodeFacts, SeriesFacts}
use Rattle.host_node.specs.State.{NodeState, has_waiting, is_idle, is_open as has_open, is_up as hears}
use Rattle.host_node.specs.Steps.{after_again, after_begin, after_hold_tick, after_occasion, after_restart, after_sleep, as_recorded, asleep, new_series as anew, next_due, series_over, with_again, with_final, without_attempt}
use Rattle.host_node.specs.TableState.{node_of as node_among, unknown_from, unknown_nodes}
use Rattle.proof_requests.specs.host_model.State.{HostState, first_host, first_nodes, node_of}
use Rattle.proof_requests.specs.proof_alone.State.{HostMachine}
use Rattle.proof_requests.specs.proof_alone.Phases.{Phase, Resting, Asked, Risen, Ticking, Open, Behind, Sleeping, Submitting, Turns}
use Rattle.proof_requests.proofs.proof_waking_Apart.{IsWordless, wordless_fresh}
use Rattle.proof_attempts.specs.Series.{IsSeries, NodeAsTold, RunsAsTold, again_ticked, series_so_far, wait_end}
use Rattle.proof_attempts.specs.Since.{IsElse}
use Rattle.proof_attempts.proofs.Ahead.{ahead_from, ahead_joined}

-- ---- by entries

abbrev step_of : ℕ → List Entry → SeriesTold → Entry → List Entry → SeriesTold
step_of n past s e rest = series_step n past (with_time n past (now_at past e) s) e rest

same_after : (n : ℕ) (past : List Entry) (s : SeriesTold) (e : Entry) (rest other : List Entry) → begins_refused rest ≡ begins_refused other → step_of n past s e rest ≡ step_of n past s e other
same_after n past s (entry.Said words) rest other is =
    ap (λ (b : Bool). if is_restart (line_of (entry.Said words)) && not b then with_occasion n (past ++ entry.Said words ∷ []) no_series else with_time n past (now_at past (entry.Said words)) s) is
same_after n past s (entry.Begin node number command) rest other is = refl
same_after n past s (entry.Out command ended) rest other is = refl
same_after n past s (entry.Accepted command node) rest other is = refl
same_after n past s (entry.Awake node) rest other is = refl
same_after n past s e rest other is = refl

series_ahead : (n : ℕ) (past : List Entry) (s : SeriesTold) (told : List Entry) → series_from n past s told ≡ ahead_from (step_of n) (same_after n) past s told
series_ahead n past s [] = refl
series_ahead n past s (e ∷ told) = series_ahead n (past ++ e ∷ []) (step_of n past s e told) told

pub series_joined : (n : ℕ) (past told : List Entry) → begins_refused told ≡ false → series_so_far n (past ++ told) ≡ series_from n past (series_so_far n past) told
series_joined n past told fresh =
    series_ahead n [] no_series (past ++ told) ∙ ahead_joined (step_of n) (same_after n) [] no_series past told fresh
    ∙ ap (λ (s : SeriesTold). ahead_from (step_of n) (same_after n) past s told) (sym (series_ahead n [] no_series past)) ∙ sym (series_ahead n past (series_so_far n past) told)

-- one entry that is of no line
pub series_one : (n : ℕ) (past : List Entry) (e : Entry) → IsWordless e
    → series_so_far n (past ++ e ∷ []) ≡ series_step n past (with_time n past (now_at past e) (series_so_far n past)) e []
series_one n past e none = series_joined n past (e ∷ []) (wordless_fresh (e ∷ []) (none, tt))

-- the words of a line that does not start the host again, and of one that does
by_words : (n : ℕ) (past : List Entry) (words : List ℕ) (starts : Bool) → is_restart (line_of (entry.Said words)) ≡ starts
    → series_so_far n (past ++ entry.Said words ∷ [])
    ≡ (if starts && true then with_occasion n (past ++ entry.Said words ∷ []) no_series else with_time n past (now_at past (entry.Said words)) (series_so_far n past))
by_words n past words starts is =
    series_joined n past (entry.Said words ∷ []) refl
    ∙ ap (λ (b : Bool). if b && true then with_occasion n (past ++ entry.Said words ∷ []) no_series else with_time n past (now_at past (entry.Said words)) (series_so_far n past)) is

pub series_said : (n : ℕ) (past : List Entry) (words : List ℕ) → is_restart (line_of (entry.Said words)) ≡ false
    → series_so_far n (past ++ entry.Said words ∷ []) ≡ with_time n past (now_at past (entry.Said words)) (series_so_far n past)
series_said n past words is = by_words n past words false is

pub series_starts : (n : ℕ) (past : List Entry) (words : List ℕ) → is_restart (line_of (entry.Said words)) ≡ true
    → series_so_far n (past ++ entry.Said words ∷ []) ≡ with_occasion n (past ++ entry.Said words ∷ []) no_series
series_starts n past words is = by_words n past words true is

-- ---- time

-- none is due by a time
pub waits_on : (n : ℕ) (past : List Entry) (now : ℕ) (s : SeriesTold) → list_any (λ tick. nat_le tick now) s.again ≡ false → with_time n past now s ≡ s
waits_on n past now s none = ap (λ (b : Bool). if b then (if are_none (waiting n past) then no_series else with_occasion n past no_series) else s) none

or_false : (b : Bool) → b ≡ false → b || false ≡ false
or_false true is = is
or_false false is = refl

-- what a wait says of a time
not_over : (at ticks now : ℕ) → now + 1 ≤ at + ticks → list_any (λ tick. nat_le tick now) (wait_end at ticks) ≡ false
not_over at ticks now later = by (ticks == 0)
  where
    by : (b : Bool) → list_any (λ tick. nat_le tick now) (if b then [] else (at + ticks) ∷ []) ≡ false
    by true = refl
    by false = or_false (nat_le (at + ticks) now) (false_from_ne_true (nat_le (at + ticks) now) (λ over. absurd (let most = leb-true (at + ticks) now over in omega (arith, later, most))))

at_least_one : (k now : ℕ) → (k ≡ 0 → ⊥) → now + 1 ≤ now + k
at_least_one zero now some = absurd (some refl)
at_least_one (suc k) now some = omega arith

-- at the time of the tie nothing has come
pub none_due : (s : SeriesTold) (node : NodeState) (now : ℕ) → IsSeries s node now → list_any (λ tick. nat_le tick now) s.again ≡ false
none_due s node now tie = ap (λ (l : List ℕ). list_any (λ tick. nat_le tick now) l) tie.again ∙ by (cases_eq node.again_wait 0)
  where
    by : (node.again_wait ≡ 0) ⊎ (node.again_wait ≡ 0 → ⊥) → list_any (λ tick. nat_le tick now) (wait_end now node.again_wait) ≡ false
    by (inl none) = ap (λ (k : ℕ). list_any (λ tick. nat_le tick now) (wait_end now k)) none
    by (inr some) = not_over now node.again_wait now (at_least_one node.again_wait now some)

pub settled : (n : ℕ) (past : List Entry) (s : SeriesTold) (node : NodeState) (now : ℕ) → IsSeries s node now → with_time n past now s ≡ s
settled n past s node now tie = waits_on n past now s (none_due s node now tie)

-- ---- a moment at which a series is due

-- a series that is due or runs has no wait for another
busy_waits : (s : Series) (node : NodeState) → SeriesFacts s node.book node.attempt_wait node.again_wait node.next_segment node.segments node.text node.pending → is_idle s ≡ false → node.again_wait ≡ 0
busy_waits Idle node facts busy = absurd (let bad : true ≡ false = busy in cc)
busy_waits Due node facts busy = facts.1
busy_waits Running node facts busy = facts.1

occasion_by : (n : ℕ) (past : List Entry) (s : SeriesTold) (node : NodeState) (now : ℕ) (up opened idle : Bool) → is_up n past ≡ up → is_open n past ≡ opened → hears node ≡ up → has_open node ≡ opened
    → is_idle node.series ≡ idle → (is_idle node.series ≡ false → node.again_wait ≡ 0) → IsSeries s node now
    → IsSeries (if up && opened then new_series else s) (if opened && up && idle then anew node else node) now
occasion_by n past s node now true true true told_up told_open is_up_so is_open_so is_idle_so busy tie = record { runs = refl; again = refl }
occasion_by n past s node now true true false told_up told_open is_up_so is_open_so is_idle_so busy tie = record {
  runs = sym (ap not is_idle_so);
  again = ap (λ (k : ℕ). wait_end now k) (sym (busy is_idle_so));
}
occasion_by n past s node now true false idle told_up told_open is_up_so is_open_so is_idle_so busy tie = tie
occasion_by n past s node now false true idle told_up told_open is_up_so is_open_so is_idle_so busy tie = tie
occasion_by n past s node now false false idle told_up told_open is_up_so is_open_so is_idle_so busy tie = tie

pub occasion : (n : ℕ) (past : List Entry) (s : SeriesTold) (node : NodeState) (now : ℕ) → NodeAsTold n past node → (is_idle node.series ≡ false → node.again_wait ≡ 0) → IsSeries s node now
    → IsSeries (with_occasion n past s) (after_occasion node) now
occasion n past s node now told busy tie =
    subst (λ (t : SeriesTold). IsSeries t (after_occasion node) now) (sym (ap₂ (λ (a b : Bool). if a && b then new_series else s) told.up told.opened))
    (occasion_by n past s node now (hears node) (has_open node) (is_idle node.series) told.up told.opened refl refl refl busy tie)

pub busy : (node : NodeState) → NodeFacts node → is_idle node.series ≡ false → node.again_wait ≡ 0
busy node facts = busy_waits node.series node facts.series

-- ---- a tick

same_end : (now k : ℕ) → 2 ≤ k → wait_end now k ≡ wait_end (now + 1) (k - 1)
same_end now k two =
    let sum : now + k ≡ (now + 1) + (k - 1) = omega (arith, two) in
    ap (λ (b : Bool). if b then [] else (now + k) ∷ []) (ne_eqb k 0 (λ none. absurd (omega (arith, two, none))))
    ∙ ap (λ (j : ℕ). j ∷ []) sum
    ∙ sym (ap (λ (b : Bool). if b then [] else ((now + 1) + (k - 1)) ∷ []) (ne_eqb (k - 1) 0 (λ none. absurd (omega (arith, two, none)))))

two_at_least : (k : ℕ) → (k ≡ 0 → ⊥) → (k ≡ 1 → ⊥) → 2 ≤ k
two_at_least zero some other = absurd (some refl)
two_at_least (suc zero) some other = absurd (other refl)
two_at_least (suc (suc k)) some other = omega arith

-- only a series that is over waits for another
waits_idle : (s : Series) (node : NodeState) → SeriesFacts s node.book node.attempt_wait node.again_wait node.next_segment node.segments node.text node.pending → node.again_wait ≡ 1 → is_idle s ≡ true
waits_idle Idle node facts one = refl
waits_idle Due node facts one = absurd (let none = facts.1 in omega (arith, none, one))
waits_idle Running node facts one = absurd (let none = facts.1 in omega (arith, none, one))

module _ (n : ℕ) (past : List Entry) (s : SeriesTold) (node : NodeState) (now : ℕ) (tie : IsSeries s node now) where
  -- the wait goes on, or none runs
  goes_on : (node.again_wait ≡ 1 → ⊥) → IsSeries (with_time n past (now + 1) s) (with_again (after_hold_tick node) (node.again_wait - 1)) (now + 1)
  goes_on other = by (cases_eq node.again_wait 0)
    where
      by : (node.again_wait ≡ 0) ⊎ (node.again_wait ≡ 0 → ⊥) → IsSeries (with_time n past (now + 1) s) (with_again (after_hold_tick node) (node.again_wait - 1)) (now + 1)
      by (inl none) =
          let empty : s.again ≡ [] = tie.again ∙ ap (λ (k : ℕ). wait_end now k) none in
          let less : node.again_wait - 1 ≡ 0 = omega (arith, none) in
          subst (λ (t : SeriesTold). IsSeries t (with_again (after_hold_tick node) (node.again_wait - 1)) (now + 1)) (sym (waits_on n past (now + 1) s (ap (λ (l : List ℕ). list_any (λ tick. nat_le tick (now + 1)) l) empty)))
          (record { runs = tie.runs; again = empty ∙ ap (λ (k : ℕ). wait_end (now + 1) k) (sym less) })
      by (inr some) =
          let two : 2 ≤ node.again_wait = two_at_least node.again_wait some other in
          let on = ap (λ (l : List ℕ). list_any (λ tick. nat_le tick (now + 1)) l) tie.again ∙ not_over now node.again_wait (now + 1) (omega (arith, two)) in
          subst (λ (t : SeriesTold). IsSeries t (with_again (after_hold_tick node) (node.again_wait - 1)) (now + 1)) (sym (waits_on n past (now + 1) s on))
          (record { runs = tie.runs; again = tie.again ∙ same_end now node.again_wait two })

  -- it is over: another series is due where a command waits
  ended_by : (waits : Bool) → IsSeries (with_occasion n past no_series) (after_occasion (with_again (after_hold_tick node) 0)) (now + 1) → IsSeries no_series (with_again (after_hold_tick node) 0) (now + 1)
      → IsSeries (if not waits then no_series else with_occasion n past no_series) (if waits then after_occasion (with_again (after_hold_tick node) 0) else with_again (after_hold_tick node) 0) (now + 1)
  ended_by true due idle = due
  ended_by false due idle = idle

  is_over : NodeAsTold n past node → NodeFacts node → node.again_wait ≡ 1 → IsSeries (with_time n past (now + 1) s) (after_again (with_again (after_hold_tick node) 0)) (now + 1)
  is_over told facts one =
      let held : NodeState = with_again (after_hold_tick node) 0 in
      let over : list_any (λ tick. nat_le tick (now + 1)) s.again ≡ true =
      ap (λ (l : List ℕ). list_any (λ tick. nat_le tick (now + 1)) l) (tie.again ∙ ap (λ (k : ℕ). wait_end now k) one)
      ∙ ap (λ (b : Bool). b || false) (le-leb (now + 1) (now + 1) (omega arith)) in
      let ends : with_time n past (now + 1) s ≡ (if not (has_waiting node) then no_series else with_occasion n past no_series) =
      ap (λ (b : Bool). if b then (if are_none (waiting n past) then no_series else with_occasion n past no_series) else s) over
      ∙ ap (λ (b : Bool). if b then no_series else with_occasion n past no_series) told.waits in
      let idle : IsSeries no_series held (now + 1) = record { runs = sym (ap not (waits_idle node.series node facts.series one)); again = refl } in
      subst (λ (t : SeriesTold). IsSeries t (after_again held) (now + 1)) (sym ends)
      (ended_by (has_waiting node)
      (occasion n past no_series held (now + 1) (record { waits = told.waits; up = told.up; opened = told.opened }) (λ is. refl) idle) idle)

  -- so it is with the tick of the node
  pub rises : NodeAsTold n past node → NodeFacts node → IsSeries (with_time n past (now + 1) s) (again_ticked node) (now + 1)
  rises told facts = elim (cases_eq node.again_wait 1) [
    | inl one ↦
        subst (λ (b : Bool). IsSeries (with_time n past (now + 1) s) (if b then after_again (with_again (after_hold_tick node) 0) else with_again (after_hold_tick node) (node.again_wait - 1)) (now + 1))
        (sym (eq-eqb node.again_wait 1 one)) (is_over told facts one)
    | inr other ↦
        subst (λ (b : Bool). IsSeries (with_time n past (now + 1) s) (if b then after_again (with_again (after_hold_tick node) 0) else with_again (after_hold_tick node) (node.again_wait - 1)) (now + 1))
        (sym (ne_eqb node.again_wait 1 other)) (goes_on other)
  ]

-- ---- how a series begins and ends

-- with a session
pub begins : (node : NodeState) (now : ℕ) → node.again_wait ≡ 0 → IsSeries new_series (after_begin node) now
begins node now none = record { runs = refl; again = sym (ap (λ (k : ℕ). wait_end now k) none) }

-- an attempt ends, and another one is due
pub goes_again : (s : SeriesTold) (node : NodeState) (now attempts : ℕ) → is_idle node.series ≡ false → IsSeries s node now → IsSeries s (next_due (without_attempt node) attempts) now
goes_again s node now attempts runs tie = record { runs = tie.runs ∙ ap not runs; again = tie.again }

-- the third one ends, between two ticks and before the node's own
pub gives_up : (listens : Bool) (node : NodeState) (now attempts : ℕ) → node.listens ≡ listens → IsSeries (series_by_end endings.Unanswered now) (after_sleep (series_over node attempts BetweenTicks)) now
gives_up true node now attempts is =
    subst (λ (b : Bool). IsSeries (series_by_end endings.Unanswered now) (if b then series_over node attempts BetweenTicks else asleep (series_over node attempts BetweenTicks)) now) (sym is)
    (record { runs = refl; again = refl })
gives_up false node now attempts is =
    subst (λ (b : Bool). IsSeries (series_by_end endings.Unanswered now) (if b then series_over node attempts BetweenTicks else asleep (series_over node attempts BetweenTicks)) now) (sym is)
    (record { runs = refl; again = refl })

pub gives_up_before : (listens : Bool) (node : NodeState) (now attempts : ℕ) → node.listens ≡ listens
    → IsSeries (series_by_end endings.Unanswered now) (again_ticked (after_sleep (series_over node attempts BeforeItsTick))) now
gives_up_before true node now attempts is =
    subst (λ (b : Bool). IsSeries (series_by_end endings.Unanswered now) (again_ticked (if b then series_over node attempts BeforeItsTick else asleep (series_over node attempts BeforeItsTick))) now) (sym is)
    (record { runs = refl; again = refl })
gives_up_before false node now attempts is =
    subst (λ (b : Bool). IsSeries (series_by_end endings.Unanswered now) (again_ticked (if b then series_over node attempts BeforeItsTick else asleep (series_over node attempts BeforeItsTick))) now) (sym is)
    (record { runs = refl; again = refl })

-- a final report
pub finishes : (node : NodeState) (now status : ℕ) → IsSeries no_series (with_final node status) now
finishes node now status = record { runs = refl; again = refl }

-- the host starts
pub starts : (n : ℕ) (past : List Entry) (node : NodeState) (now : ℕ) → NodeAsTold n past (as_recorded node) → IsSeries (with_occasion n past no_series) (after_restart node) now
starts n past node now told = occasion n past no_series (as_recorded node) now told (λ is. refl) (record { runs = refl; again = refl })

-- ---- at each phase

-- nothing is left to come once the wait is over
ending_over : (n : ℕ) (past : List Entry) (now : ℕ) (none up opened : Bool)
    → list_any (λ tick. nat_le tick now) (if none then no_series else (if up && opened then new_series else no_series)).again ≡ false
ending_over n past now true up opened = refl
ending_over n past now false true true = refl
ending_over n past now false true false = refl
ending_over n past now false false opened = refl

-- what was due by a time is due by a later one
pub still_due : (now later : ℕ) → now ≤ later → (all : List ℕ) → list_any (λ tick. nat_le tick now) all ≡ true → list_any (λ tick. nat_le tick later) all ≡ true
still_due now later after [] due = due
still_due now later after (tick ∷ all) due = by (nat_le tick now) refl (still_due now later after all)
  where
    by : (b : Bool) → nat_le tick now ≡ b → (list_any (λ one. nat_le one now) all ≡ true → list_any (λ one. nat_le one later) all ≡ true) → list_any (λ one. nat_le one later) (tick ∷ all) ≡ true
    by true is rest = let most = leb-true tick now is in or_left (nat_le tick later) _ (le-leb tick later (omega (arith, most, after)))
    by false is rest = or_right (nat_le tick later) _ (rest (sym (ap (λ (b : Bool). b || list_any (λ one. nat_le one now) all) is) ∙ due))

-- so looking twice is looking once
pub time_twice : (n : ℕ) (past : List Entry) (s : SeriesTold) (now later : ℕ) → now ≤ later → with_time n past later (with_time n past now s) ≡ with_time n past later s
time_twice n past s now later after = by (list_any (λ tick. nat_le tick now) s.again) refl
  where
    by : (b : Bool) → list_any (λ tick. nat_le tick now) s.again ≡ b → with_time n past later (if b then (if are_none (waiting n past) then no_series else with_occasion n past no_series) else s) ≡ with_time n past later s
    by false is = refl
    by true is =
        waits_on n past later (if are_none (waiting n past) then no_series else with_occasion n past no_series) (ending_over n past later (are_none (waiting n past)) (is_up n past) (is_open n past))
        ∙ sym (ap (λ (b : Bool). if b then (if are_none (waiting n past) then no_series else with_occasion n past no_series) else s) (still_due now later after s.again is))

-- a tick begins
pub tick_rises : (past : List Entry) (h : HostState) (clock : ℕ) → ((n : ℕ) → 1 ≤ n → n ≤ 232 → NodeAsTold n past (node_of h n)) → ((n : ℕ) → NodeFacts (node_of h n))
    → RunsAsTold Resting past h clock → RunsAsTold Risen past h (clock + 1)
tick_rises past h clock told facts tie n from to =
    let cur : SeriesTold = with_time n past clock (series_so_far n past) in
    subst (λ (s : SeriesTold). IsSeries s (again_ticked (node_of h n)) (clock + 1)) (time_twice n past (series_so_far n past) clock (clock + 1) (omega arith))
    (rises n past cur (node_of h n) clock (tie n from to) (told n from to) (facts n))

-- the parts of a tick, and those behind it, begin with no change
pub part_begins : (here next : Phase) (past : List Entry) (m : HostMachine) → IsElse here → Turns here m next → RunsAsTold here past m.state m.clock → RunsAsTold next past m.state m.clock
part_begins here next past m other turns tie = by here other turns tie
  where
    to : (phase : Phase) → next ≡ phase → RunsAsTold phase past m.state m.clock → RunsAsTold next past m.state m.clock
    to phase is runs = subst (λ (p : Phase). RunsAsTold p past m.state m.clock) (sym is) runs

    by : (here : Phase) → IsElse here → Turns here m next → RunsAsTold here past m.state m.clock → RunsAsTold next past m.state m.clock
    by Resting other is runs = to Open is runs
    by (Asked line) other is runs = absurd other
    by Risen other is runs = to (Ticking _) is runs
    by (Ticking []) other is runs = to Open is runs
    by (Ticking (event ∷ left)) other is runs = absurd is
    by Open other is runs = to Sleeping is runs
    by (Behind []) other is runs = to Open is runs
    by (Behind (event ∷ left)) other is runs = absurd is
    by Sleeping other is runs = to Submitting is.1 runs
    by Submitting other is runs = to Resting is.1 runs

-- at first no series runs
blank_from : (now number count m : ℕ) → IsSeries no_series (node_among (unknown_from number count) m) now
blank_from now number zero m = record { runs = refl; again = refl }
blank_from now number (suc count) zero = record { runs = refl; again = refl }
blank_from now number (suc count) (suc m) = blank_from now (suc number) count m

first_at : (m : ℕ) → IsSeries no_series (node_among first_nodes m) 0
unfolding first_nodes unknown_nodes
first_at zero = record { runs = refl; again = refl }
first_at (suc zero) = record { runs = refl; again = refl }
first_at (suc (suc zero)) = record { runs = refl; again = refl }
first_at (suc (suc (suc m))) = blank_from 0 3 230 m

pub first_runs : (keys : Keys) → RunsAsTold Resting [] (first_host keys) 0
first_runs keys n from to = first_at n
