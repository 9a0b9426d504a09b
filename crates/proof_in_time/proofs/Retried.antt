-- The wait after a series of a node goes down at each of its ticks, and a node that is blocked is so until its tick; while the wait runs, or it is blocked, it
-- ticks in each tick of the host.
use Rattle.std.proofs.Common.{◌≡◌, ◌≢◌, ◌≤◌, ◌<◌, ℕ, zero, suc, ◌+◌, ◌-◌, ◌==◌, ◌&&◌, ◌||◌, nat_lt, inl, inr, Bool, true, false, if◌then◌else◌, List, [], ◌∷◌, length, refl, sym, ap, ◌∙◌, subst, arith}
use Rattle.std.proofs.lemmas.Bool.{eq-eqb, eqb-true, lt-ltb}
use Rattle.std.proofs.lemmas.List.{get_or-set_other, get_or-set_same, length-set}
use Rattle.std.specs.Prelude.{Option, Some, None, filter, map}
use Rattle.std.specs.List.{range_with_len}
use Rattle.host_requests.specs.Events.{RequestsEvent, end_at}
use Rattle.host_requests.specs.Events.RequestsEvent.{Fails as request_fails, Ticks as request_ticks}
use Rattle.host_requests.specs.declared.end.End.{End}
use Rattle.host_requests.specs.declared.end.How.{How}
use Rattle.host_requests.specs.declared.task.Purpose.{Purpose}
use Rattle.host_requests.specs.declared.task.Purpose.TheVariants.{Housekeeping, Attempt, Abort}
use Rattle.host_requests.specs.declared.task.Task.{Task}
use Rattle.host_requests.specs.declared.task.Task.TheVariants.{NoMore}
use Rattle.host_node.specs.State.{NodeState, has_waiting, is_idle, is_open, is_running, is_up, needs_tick, unknown}
use Rattle.host_node.specs.Steps.{after_again, after_again_tick, after_attempt_end, after_attempts, after_hold_tick, after_no_more, after_no_more_end, after_occasion, after_sign, after_sleep, after_tick, asleep, attempt_end, new_series, next_due, series_over, wait_ticks, with_again, with_wait, without_attempt}
use Rattle.host_node.specs.TableState.{node_of as node_among, with_node as with_node_among}
use Rattle.host_node.specs.declared.attempt.AttemptEnd.{AttemptEnd}
use Rattle.host_node.specs.declared.attempt.AttemptEnd.TheVariants.{NoneRan, Again, Unanswered}
use Rattle.host_node.specs.declared.attempt.Moment.{Moment}
use Rattle.host_node.specs.declared.attempt.Moment.TheVariants.{BeforeItsTick, BetweenTicks}
use Rattle.host_node.specs.declared.no_more.NoMore.TheVariants.{Unasked}
use Rattle.host_node.specs.declared.series.Series.{Series}
use Rattle.host_node.specs.declared.series.Series.TheVariants as series
use Rattle.host_model.specs.After.{after, failing_if, gives_up, line_ticked, requests_do}
use Rattle.host_model.specs.Did.{after_all}
use Rattle.host_model.specs.Ends.{PartEnd, Good, Passed_over, Bad, after_end, after_end_if, after_part, after_task, attempt_ended, part_end}
use Rattle.host_model.specs.Events.{Line_ticks, Node_ticks, Requests_do}
use Rattle.host_model.specs.Sessions.{open_command}
use Rattle.host_model.specs.State.{HostState, node_of, with_node}
use Rattle.host_model.specs.Ticking.{first_ticks, tick_events, ticking_nodes}
use Rattle.serial_link.specs.State.{tick_side}
use Rattle.world_model.specs.Events.{Event, Decoder_ticks, Host_does, happens}
use Rattle.world_model.specs.State.{Machine}
use Rattle.proof_answered.proofs.AttemptEnds.{again_tick_wait}
use Rattle.proof_answered.specs.FirstAttempts.{IsInTime}
use Rattle.proof_answered.specs.proof_calm.proof_work.proof_walk.Phases.{Phase, Begun, Doing, To_tick, Ticked, Arriving, Giving, Ticking_devices, Ticking_chip, Ticking_decoder, Ticking_host, Sleeping, Submitting, Moving, Moved, Said_line, Goes, Turns, after_pump}
use Rattle.proof_in_time.specs.Coming.{own_ticks, ticks_of}
use Rattle.proof_in_time.proofs.NodeWaits.{own_ticked}

-- ---- a node that waits ticks with the host

-- so it is of the node
record StaysAt (Is : NodeState → Type 0) (n : ℕ) (nodes : List NodeState) : Type 0 where
  places : length nodes ≡ 233
  so : Is (node_among nodes n)

-- and stays so where a request of the node ends
record FirstLaws (Is : NodeState → Type 0) : Type 0 where
  sign : (x : NodeState) → Is x → Is (after_sign x)
  ended : (x : NodeState) (moment : Moment) → Is x → Is (after_attempt_end x moment)
  no_more : (x : NodeState) → Is x → Is (after_no_more_end x)

chosen : (Is : NodeState → Type 0) (b : Bool) (x y : NodeState) → Is x → Is y → Is (if b then x else y)
chosen Is true x y first later = first
chosen Is false x y first later = later

-- its series is over, with this wait until the next one
abbrev IsResting : ℕ → NodeState → Type 0
IsResting wait x = (x.series ≡ series.Idle) × (x.again_wait ≡ wait)

resting_first : (wait : ℕ) → FirstLaws (IsResting wait)
resting_first wait = record {
  sign = λ x so. chosen (IsResting wait) (is_running x.series) (with_wait x wait_ticks) x so so;
  ended = λ x moment so. subst (λ (s : Series). IsResting wait (if is_running s then after_attempts (without_attempt x) (x.book.attempts + 1) moment else x)) (sym so.0) so;
  no_more = λ x so. chosen (IsResting wait) x.listens (after_no_more x Unasked) (asleep (after_no_more x Unasked)) so so;
}

-- it is blocked, or not
abbrev IsBlocked : Bool → NodeState → Type 0
IsBlocked b x = x.blocked ≡ b

ended_blocked : (b : Bool) (x : NodeState) (moment : Moment) → IsBlocked b x → IsBlocked b (after_attempt_end x moment)
ended_blocked b x moment so =
    chosen (IsBlocked b) (is_running x.series) (after_attempts (without_attempt x) (x.book.attempts + 1) moment) x
    (chosen (IsBlocked b) (nat_lt (x.book.attempts + 1) 3) (next_due (without_attempt x) (x.book.attempts + 1)) (after_sleep over) so (chosen (IsBlocked b) x.listens over (asleep over) so so)) so
  where
    over : NodeState
    over = series_over (without_attempt x) (x.book.attempts + 1) moment

blocked_first : (b : Bool) → FirstLaws (IsBlocked b)
blocked_first b = record {
  sign = λ x so. chosen (IsBlocked b) (is_running x.series) (with_wait x wait_ticks) x so so;
  ended = ended_blocked b;
  no_more = λ x so. chosen (IsBlocked b) x.listens (after_no_more x Unasked) (asleep (after_no_more x Unasked)) so so;
}

module _ (Is : NodeState → Type 0) (laws : FirstLaws Is) (n : ℕ) (within : n < 233) where
  set_stays : (nodes : List NodeState) (k : ℕ) (y : NodeState) → (Is (node_among nodes k) → Is y) → StaysAt Is n nodes → StaysAt Is n (with_node_among nodes k y)
  set_stays nodes k y next at = by (k == n) refl
    where
      both : Is (node_among (with_node_among nodes k y) n) → StaysAt Is n (with_node_among nodes k y)
      both so = record { places = length-set nodes k y ∙ at.places; so = so }

      by : (b : Bool) → (k == n) ≡ b → StaysAt Is n (with_node_among nodes k y)
      by true is =
          let same : n ≡ k = sym (eqb-true k n is) in
          let few : k < length nodes = subst (λ (j : ℕ). j < length nodes) same (subst (λ (l : ℕ). n < l) (sym at.places) within) in
          let there : node_among (with_node_among nodes k y) n ≡ y = ap (λ (j : ℕ). node_among (with_node_among nodes k y) j) same ∙ get_or-set_same nodes k y (unknown 0) few in
          both (subst Is (sym there) (next (subst (λ (j : ℕ). Is (node_among nodes j)) same at.so)))
      by false is =
          let there : node_among (with_node_among nodes k y) n ≡ node_among nodes n = get_or-set_other nodes k n y (unknown 0) (λ e. let wrong : true ≡ false = sym (eq-eqb k n (sym e)) ∙ is in cc) in
          both (subst Is (sym there) at.so)

  abbrev Stays_in : HostState → Type 0
  Stays_in h = StaysAt Is n h.nodes

  ended_stays : (h : HostState) (end : AttemptEnd) (command : Option ℕ) → Stays_in h → Stays_in (attempt_ended h end command)
  ended_stays h NoneRan command at = at
  ended_stays h Again command at = at
  ended_stays h (Unanswered fell) None at = at
  ended_stays h (Unanswered fell) (Some command) at = at

  part_stays : (h : HostState) (k : ℕ) (end : PartEnd) (moment : Moment) → Stays_in h → Stays_in (after_part h k end moment)
  part_stays h k Good moment at = set_stays h.nodes k (after_sign (node_of h k)) (laws.sign (node_of h k)) at
  part_stays h k Passed_over moment at = at
  part_stays h k Bad moment at =
      ended_stays (with_node h k (after_attempt_end (node_of h k) moment)) (attempt_end (node_of h k)) (open_command (node_of h k))
      (set_stays h.nodes k (after_attempt_end (node_of h k) moment) (laws.ended (node_of h k) moment) at)

  task_stays : (h : HostState) (task : Task) → Stays_in h → Stays_in (after_task h task)
  task_stays h (NoMore k) at = set_stays h.nodes k (after_no_more_end (node_of h k)) (laws.no_more (node_of h k)) at
  task_stays h task at = at

  end_stays : (h : HostState) (purpose : Purpose) (how : How) (moment : Moment) → Stays_in h → Stays_in (after_end h (record { purpose = purpose; how = how }) moment)
  end_stays h (Attempt k more payload) how moment at = part_stays h k (part_end more how) moment at
  end_stays h (Housekeeping task) how moment at = task_stays h task at
  end_stays h Abort how moment at = at

  end_if_stays : (h : HostState) (end : Option End) (moment : Moment) → Stays_in h → Stays_in (after_end_if h end moment)
  end_if_stays h None moment at = at
  end_if_stays h (Some end) moment at = end_stays h end.purpose end.how moment at

  request_stays : (h : HostState) (event : RequestsEvent) (moment : Moment) → Stays_in h → Stays_in (after h (Requests_do event moment))
  request_stays h event moment at = end_if_stays (requests_do h event) (end_at h.requests event) moment at

  line_stays : (h : HostState) → Stays_in h → Stays_in (after h Line_ticks)
  line_stays h at = by (gives_up h.side.turn (tick_side h.side).turn)
    where
      by : (b : Bool) → Stays_in (failing_if b (line_ticked h))
      by true = request_stays (line_ticked h) request_fails BeforeItsTick at
      by false = at

  first_stays : (h : HostState) → Stays_in h → Stays_in (after_all h first_ticks)
  first_stays h at = request_stays (after h Line_ticks) request_ticks BeforeItsTick (line_stays h at)

some_of : (n : ℕ) (test : ℕ → Bool) (first count : ℕ) → first ≤ n → n < first + count → test n ≡ true → 1 ≤ ticks_of n (map Node_ticks (filter test (range_with_len first count)))
some_of n test first zero least below is = absurd (omega (arith, least, below))
some_of n test first (suc count) least below is = here (first == n) refl (λ apart. some_of n test (first + 1) count (above apart) (omega (arith, below)) is)
  where
    rest : List ℕ
    rest = filter test (range_with_len (first + 1) count)

    above : (first ≢ n) → first + 1 ≤ n
    above apart = omega (arith, least, apart)

    here : (b : Bool) → (first == n) ≡ b → (first ≢ n → 1 ≤ ticks_of n (map Node_ticks (filter test (range_with_len (first + 1) count)))) → 1 ≤ ticks_of n (map Node_ticks (filter test (range_with_len first (suc count))))
    here true same later =
        let one : ◌≡◌ {A = ℕ} (if first == n then 1 else 0) 1 = ap (λ (c : Bool). if c then 1 else 0) same in
        let tested : test first ≡ true = ap test (eqb-true first n same) ∙ is in
        subst (λ (c : Bool). 1 ≤ ticks_of n (map Node_ticks (if c then first ∷ rest else rest))) (sym tested) (omega (arith, one))
    here false other later = by (test first)
      where
        apart : first ≢ n
        apart e = absurd (let wrong : true ≡ false = sym (eq-eqb first n e) ∙ other in cc)

        by : (c : Bool) → 1 ≤ ticks_of n (map Node_ticks (if c then first ∷ filter test (range_with_len (first + 1) count) else filter test (range_with_len (first + 1) count)))
        by true = let more = later apart in omega (arith, more)
        by false = later apart

waits_tick : (a b c d : Bool) → c ≡ true → (a || b || c || d) ≡ true
waits_tick true b c d is = refl
waits_tick false true c d is = refl
waits_tick false false true d is = refl
waits_tick false false false d is = absurd (let wrong : false ≡ true = is in cc)

own_some : (n : ℕ) → 1 ≤ n → (within : n < 233) (h : HostState) → needs_tick (node_of (after_all h first_ticks) n) ≡ true → 1 ≤ ticks_of n (tick_events h)
unfolding ticking_nodes
own_some n some within h needs = some_of n (λ k. needs_tick (node_of (after_all h first_ticks) k)) 1 232 some (omega (arith, within)) needs

resting_some : (n wait : ℕ) → 1 ≤ n → (within : n < 233) (h : HostState) → StaysAt (IsResting (suc wait)) n h.nodes → 1 ≤ ticks_of n (tick_events h)
resting_some n wait some within h at =
    own_some n some within h
    (waits_tick (node_of (after_all h first_ticks) n).blocked (nat_lt 0 (node_of (after_all h first_ticks) n).hold) (nat_lt 0 (node_of (after_all h first_ticks) n).again_wait)
    (nat_lt 0 (node_of (after_all h first_ticks) n).attempt_wait)
    (ap (λ (k : ℕ). nat_lt 0 k) (first_stays (IsResting (suc wait)) (resting_first (suc wait)) n within h at).so.1 ∙ lt-ltb 0 (suc wait) (omega arith)))

blocked_tick : (a b c d : Bool) → a ≡ true → (a || b || c || d) ≡ true
blocked_tick true b c d is = refl
blocked_tick false b c d is = absurd (let wrong : false ≡ true = is in cc)

blocked_some : (n : ℕ) → 1 ≤ n → (within : n < 233) (h : HostState) → StaysAt (IsBlocked true) n h.nodes → 1 ≤ ticks_of n (tick_events h)
blocked_some n some within h at =
    own_some n some within h
    (blocked_tick (node_of (after_all h first_ticks) n).blocked (nat_lt 0 (node_of (after_all h first_ticks) n).hold) (nat_lt 0 (node_of (after_all h first_ticks) n).again_wait)
    (nat_lt 0 (node_of (after_all h first_ticks) n).attempt_wait) (first_stays (IsBlocked true) (blocked_first true) n within h at).so)

-- ---- its wait goes down

most_either : (b : Bool) (x y : NodeState) (most : ℕ) → x.again_wait ≤ most → y.again_wait ≤ most → (if b then x else y).again_wait ≤ most
most_either true x y most first later = first
most_either false x y most first later = later

tick_less : (x : NodeState) → x.attempt_wait ≢ 1 → (after_tick x).again_wait ≤ x.again_wait - 1
tick_less x lasts = by ((after_again_tick x1).attempt_wait == 1) refl
  where
    x1 : NodeState
    x1 = after_hold_tick x

    x0 : NodeState
    x0 = with_again x1 0

    less : (after_again_tick x1).again_wait ≤ x.again_wait - 1
    less =
        most_either (x1.again_wait == 1) (after_again x0) (with_again x1 (x1.again_wait - 1)) (x.again_wait - 1)
        (most_either (has_waiting x0) (after_occasion x0) x0 (x.again_wait - 1) (most_either (is_open x0 && is_up x0 && is_idle x0.series) (new_series x0) x0 (x.again_wait - 1) (omega arith) (omega arith)) (omega arith)) (omega arith)

    by : (b : Bool) → ((after_again_tick x1).attempt_wait == 1) ≡ b → (if b then after_attempt_end (after_again_tick x1) BetweenTicks else with_wait (after_again_tick x1) ((after_again_tick x1).attempt_wait - 1)).again_wait ≤ x.again_wait - 1
    by true is = absurd (lasts (sym (again_tick_wait x1) ∙ eqb-true (after_again_tick x1).attempt_wait 1 is))
    by false is = less

-- ---- it is blocked no longer

tick_frees : (x : NodeState) → IsBlocked false (after_tick x)
tick_frees x =
    chosen (IsBlocked false) ((after_again_tick x1).attempt_wait == 1) (after_attempt_end (after_again_tick x1) BetweenTicks) (with_wait (after_again_tick x1) ((after_again_tick x1).attempt_wait - 1))
    (ended_blocked false (after_again_tick x1) BetweenTicks freed) freed
  where
    x1 : NodeState
    x1 = after_hold_tick x

    x0 : NodeState
    x0 = with_again x1 0

    freed : IsBlocked false (after_again_tick (after_hold_tick x))
    freed =
        chosen (IsBlocked false) (x1.again_wait == 1) (after_again x0) (with_again x1 (x1.again_wait - 1))
        (chosen (IsBlocked false) (has_waiting x0) (after_occasion x0) x0 (chosen (IsBlocked false) (is_open x0 && is_up x0 && is_idle x0.series) (new_series x0) x0 refl refl) refl) refl

-- ---- from phase to phase

-- whether one of its ticks is to come in the tick that has begun
abbrev pub own_tick_left : ℕ → Phase → ℕ
own_tick_left n here = 1 - (1 - own_ticks n here)

-- a tick of the host fewer is to begin
abbrev pub ticks_then : ℕ → Phase → ℕ
ticks_then ticks (To_tick (suc more)) = ticks - 1
ticks_then ticks here = ticks

module _ (n : ℕ) (node : (1 ≤ n) × (n < 233)) where
  same_later : (ticks wait more old : ℕ) (next is : Phase) → next ≡ is → wait ≤ old → old + more ≤ ticks + own_tick_left n is → wait + more ≤ ticks + own_tick_left n next
  same_later ticks wait more old next is to less enough = subst (λ (q : Phase). wait + more ≤ ticks + own_tick_left n q) (sym to) (omega (arith, less, enough))

  -- what is left of a wait does not grow, and goes down at each tick of the node, which ticks with the host while it runs: so ticks enough are left for it, and for more
  waits_on : (ticks wait more old : ℕ) (here next : Phase) (m : Machine) (event : Event) → Goes here m event next → 1 ≤ more → wait ≤ old → (event ≡ Decoder_ticks → 1 ≤ ticks_of n (tick_events m.host.state)) → (event ≡ Host_does (Node_ticks n) → wait + 1 ≤ old)
      → old + more ≤ ticks + own_tick_left n here → wait + more ≤ ticks_then ticks here + own_tick_left n next
  waits_on ticks wait more old (Said_line line) next m event (is, to) some less ticked falls enough = same_later ticks wait more old next _ to less enough
  waits_on ticks wait more old (Doing line (first ∷ left)) next m event (is, to) some less ticked falls enough = same_later ticks wait more old next _ to less enough
  waits_on ticks wait more old (To_tick (suc rest)) next m event (is, to) some less ticked falls enough =
      subst (λ (q : Phase). wait + more ≤ (ticks - 1) + own_tick_left n q) (sym to) (omega (arith, less, enough, some))
  waits_on ticks wait more old (Arriving (suc frames) rest) next m event (drawn, route, is, to) some less ticked falls enough = same_later ticks wait more old next _ to less enough
  waits_on ticks wait more old (Giving (suc results) rest) next m event (route, is, to) some less ticked falls enough = same_later ticks wait more old next _ to less enough
  waits_on ticks wait more old (Ticking_devices place (suc count) rest) next m event (drawn, route, is, to) some less ticked falls enough = same_later ticks wait more old next _ to less enough
  waits_on ticks wait more old (Ticking_chip rest) next m event (is, to) some less ticked falls enough = same_later ticks wait more old next _ to less enough
  waits_on ticks wait more old (Ticking_decoder rest) next m event (is, to) some less ticked falls enough =
      let one = ticked is in subst (λ (q : Phase). wait + more ≤ ticks + own_tick_left n q) (sym to) (omega (arith, less, enough, one))
  waits_on ticks wait more old (Ticking_host (Node_ticks k ∷ events) rest) next m event (is, to) some less ticked falls enough =
      subst (λ (q : Phase). wait + more ≤ ticks + own_tick_left n q) (sym to) (by (k == n) refl)
    where
      by : (b : Bool) → (k == n) ≡ b → wait + more ≤ ticks + (1 - (1 - ticks_of n events))
      by true same =
          let one : ◌≡◌ {A = ℕ} (if k == n then 1 else 0) 1 = ap (λ (c : Bool). if c then 1 else 0) same in
          let does : event ≡ Host_does (Node_ticks n) = is ∙ ap (λ (j : ℕ). Host_does (Node_ticks j)) (eqb-true k n same) in
          let fewer = falls does in
          omega (arith, enough, one, fewer)
      by false other =
          let none : ◌≡◌ {A = ℕ} (if k == n then 1 else 0) 0 = ap (λ (c : Bool). if c then 1 else 0) other in
          omega (arith, less, enough, none)
  waits_on ticks wait more old (Ticking_host (first ∷ events) rest) next m event (is, to) some less ticked falls enough = same_later ticks wait more old next _ to less enough
  waits_on ticks wait more old (Sleeping passes rest) next m event (k, wants, is, to) some less ticked falls enough = same_later ticks wait more old next _ to less enough
  waits_on ticks wait more old (Submitting passes rest) next m event (asked, next_so, is, to) some less ticked falls enough = same_later ticks wait more old next _ to less enough
  waits_on ticks wait more old (Moving passes rest) next m event (left, ways, is, to) some less ticked falls enough = same_later ticks wait more old next _ to less enough
  waits_on ticks wait more old (Moved moved passes rest) next m event (left, items, done, is, to) some less ticked falls enough = same_later ticks wait more old next _ to less enough
  waits_on ticks wait more old here next m event goes some less ticked falls enough = absurd goes

  -- at its own tick
  own_then : (m : Machine) (event : Event) → length m.host.state.nodes ≡ 233 → event ≡ Host_does (Node_ticks n) → node_of (happens m event).host.state n ≡ after_tick (node_of m.host.state n)
  unfolding happens
  own_then m event places does = ap (λ (e : Event). node_of (happens m e).host.state n) does ∙ own_ticked n node.1 m.host.state places

  -- so it is of the wait after a series
  resting_before : (wait : ℕ) (m : Machine) (event : Event) → length m.host.state.nodes ≡ 233 → IsResting wait (node_of (happens m event).host.state n) → event ≡ Decoder_ticks → StaysAt (IsResting wait) n m.host.state.nodes
  unfolding happens
  resting_before wait m event places so is = record { places = places; so = subst (λ (e : Event). IsResting wait (node_of (happens m e).host.state n)) is so }

  pub rests_on : (ticks wait more : ℕ) (here next : Phase) (m : Machine) (event : Event) → Goes here m event next → IsInTime m event → length m.host.state.nodes ≡ 233 → 1 ≤ more
      → (node_of (happens m event).host.state n).series ≡ series.Idle → (node_of (happens m event).host.state n).again_wait ≡ suc wait → suc wait ≤ (node_of m.host.state n).again_wait
      → (node_of m.host.state n).again_wait + more ≤ ticks + own_tick_left n here → suc wait + more ≤ ticks_then ticks here + own_tick_left n next
  rests_on ticks wait more here next m event goes on_time places some idle again less enough =
      waits_on ticks (suc wait) more (node_of m.host.state n).again_wait here next m event goes some less (λ is. resting_some n wait node.0 node.1 m.host.state (resting_before (suc wait) m event places (idle, again) is)) falls enough
    where
      falls : event ≡ Host_does (Node_ticks n) → suc wait + 1 ≤ (node_of m.host.state n).again_wait
      falls does =
          let lasts : (node_of m.host.state n).attempt_wait ≢ 1 = subst (λ (e : Event). IsInTime m e) does on_time in
          let fewer = tick_less (node_of m.host.state n) lasts in
          let now : (after_tick (node_of m.host.state n)).again_wait ≡ suc wait = sym (ap (λ (x : NodeState). x.again_wait) (own_then m event places does)) ∙ again in
          omega (arith, fewer, now)

  -- and of a node that is blocked, which it is no longer after its tick
  pub held_on : (ticks more : ℕ) (here next : Phase) (m : Machine) (event : Event) → Goes here m event next → length m.host.state.nodes ≡ 233 → 1 ≤ more → (node_of m.host.state n).blocked ≡ true → (node_of (happens m event).host.state n).blocked ≡ true
      → 1 + more ≤ ticks + own_tick_left n here → 1 + more ≤ ticks_then ticks here + own_tick_left n next
  held_on ticks more here next m event goes places some blocked later enough =
      waits_on ticks 1 more 1 here next m event goes some (omega arith) (λ is. blocked_some n node.0 node.1 m.host.state (record { places = places; so = blocked })) (λ does. absurd (freed does)) enough
    where
      freed : event ≡ Host_does (Node_ticks n) → ⊥
      freed does =
          let wrong : true ≡ false = sym later ∙ ap (λ (x : NodeState). x.blocked) (own_then m event places does) ∙ tick_frees (node_of m.host.state n) in
          absurd cc

  -- and a part that is over leaves it
  as_next : (here next is : Phase) → next ≡ is → own_ticks n is ≡ own_ticks n here → own_ticks n next ≡ own_ticks n here
  as_next here next is to same = ap (λ (q : Phase). own_ticks n q) to ∙ same

  pumped : (passes ticks : ℕ) → own_ticks n (after_pump passes ticks) ≡ 0
  pumped zero ticks = refl
  pumped (suc passes) ticks = refl

  pub rests_turn : (here next : Phase) (m : Machine) → Turns here m next → own_ticks n next ≡ own_ticks n here
  rests_turn (Begun line) next m (inl (events, effect, to)) = as_next (Begun line) next _ to refl
  rests_turn (Begun line) next m (inr (ticks, is, to)) = as_next (Begun line) next _ to refl
  rests_turn (Doing line []) next m to = as_next (Doing line []) next _ to refl
  rests_turn (To_tick zero) next m to = as_next (To_tick zero) next _ to refl
  rests_turn (Ticked ticks) next m to = as_next (Ticked ticks) next _ to refl
  rests_turn (Arriving zero ticks) next m to = as_next (Arriving zero ticks) next _ to refl
  rests_turn (Giving zero ticks) next m to = as_next (Giving zero ticks) next _ to refl
  rests_turn (Ticking_devices place zero ticks) next m to = as_next (Ticking_devices place zero ticks) next _ to refl
  rests_turn (Ticking_host [] ticks) next m to = as_next (Ticking_host [] ticks) next _ to refl
  rests_turn (Sleeping passes ticks) next m (is, to) = as_next (Sleeping passes ticks) next _ to refl
  rests_turn (Submitting passes ticks) next m (is, to) = as_next (Submitting passes ticks) next _ to (pumped passes ticks)
  rests_turn (Moving passes ticks) next m (is, to) = as_next (Moving passes ticks) next _ to refl
  rests_turn (Moved moved passes ticks) next m (is, to) = as_next (Moved moved passes ticks) next _ to refl
  rests_turn here next m turns = absurd turns
