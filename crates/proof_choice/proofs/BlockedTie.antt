-- A node is blocked in the host only where the keeper has failed for it in this tick by the transcript, and where it is not no session of it was not kept.
use Rattle.std.proofs.Common.{◌≡◌, ℕ, zero, suc, ◌+◌, ◌-◌, ◌<◌, ◌≤◌, ◌==◌, ◌&&◌, ◌||◌, nat_lt, Bool, true, false, if◌then◌else◌, inl, inr, List, [], ◌∷◌, ◌++◌, map, length, refl, sym, ap, ◌∙◌, subst, arith}
use Rattle.std.specs.List.{AllByRecursion}
use Rattle.std.proofs.lemmas.Bool.{both_ways, eqb-true, false_from_ne_true, or_left}
use Rattle.zw_base.proofs.Each.{all-weaker}
use Rattle.s0_crypto.specs.declared.key_pair.Keys.{Keys}
use Rattle.supervision.specs.Host.{told_of}
use Rattle.supervision.specs.declared.host_node.Told.{Told}
use Rattle.supervision.specs.declared.host_node.Told.TheVariants.{Final, Working, Old}
use Rattle.zw_text.specs.declared.entry.Entry.{Entry}
use Rattle.zw_text.specs.declared.entry.Entry.TheVariants as entry
use Rattle.law_transcript.specs.Restarts.{since_restart}
use Rattle.law_time.specs.Judged.{is_following}
use Rattle.law_time.specs.Moments.{clock}
use Rattle.host_node.specs.declared.attempt.Moment.{Moment}
use Rattle.host_node.specs.declared.attempt.Moment.TheVariants.{BetweenTicks}
use Rattle.host_node.specs.declared.attempt.Plan.{Plan}
use Rattle.host_node.specs.declared.attempt.Plan.TheVariants.{Whole, Segments, Sealed}
use Rattle.host_node.specs.declared.no_more.NoMore.TheVariants.{Unasked}
use Rattle.host_node.specs.State.{NodeState, has_waiting, is_idle, is_open, is_running, is_up}
use Rattle.host_node.specs.Steps.{after_again, after_again_tick, after_attempt_end, after_hold_tick, after_no_more, after_occasion, after_sleep, after_told, asleep, new_series, next_due, series_over, tried_again, with_again, with_wait, without_attempt}
use Rattle.host_node.specs.Events.{NodeEvent, after as after_node}
use Rattle.host_node.specs.Events.NodeEvent.{Accepts as node_accepts, Blocks, Starts as node_starts, Succeeds, Ends_attempt, Reports, Notifies as node_notifies, Sleeps, Ends_no_more, Ticks, Restarts as node_restarts}
use Rattle.host_node.specs.TableState.{node_of as node_among, unknown_from, unknown_nodes}
use Rattle.host_model.specs.State.{HostState, first_host, first_nodes, node_of}
use Rattle.host_model.specs.After.{after}
use Rattle.host_model.specs.Events.{HostEvent, Accepts, Cancels, Requests_do, Interview_unkept, Is_unkept, Hears, Line_ticks, Node_ticks, Begin_unkept}
use Rattle.host_model.specs.Outs.{answers, outs}
use Rattle.host_model.specs.Ticking.{ticking_nodes}
use Rattle.host_model.specs.declared.out.HostOut.{HostOut}
use Rattle.host_model.specs.declared.out.HostOut.TheVariants.{Note}
use Rattle.host_model.proofs.Submitted.{SleepersAre, SubmittedAre, next_is, no_more_is}
use Rattle.proof_following.specs.proof_ends.proof_rests.proof_nonces.proof_work.proof_walk.ByLine.{IsAsked}
use Rattle.proof_giving.proofs.HostOuts.{SharedAre, outs_are}
use Rattle.proof_giving.specs.proof_queue.proof_attempts.proof_requests.proof_alone.State.{HostMachine}
use Rattle.proof_giving.specs.proof_queue.proof_attempts.proof_requests.proof_alone.Steps.{AreTold}
use Rattle.proof_giving.specs.proof_queue.proof_attempts.proof_requests.proof_alone.Phases.{Phase, Resting, Asked, Risen, Ticking, Open, Behind, Sleeping, Submitting, GoesBy, IsNumbered, Turns}
use Rattle.proof_giving.specs.proof_queue.proof_attempts.proof_requests.proof_alone.Time.{TieClock}
use Rattle.proof_giving.specs.proof_queue.proof_attempts.proof_requests.proof_waking.Judged.{IsOfRequest, KnowsJudged}
use Rattle.proof_giving.specs.proof_queue.proof_attempts.Since.{InTick, IsLoose, IsOfItem, Lasts, TicksAt, is_to_tick, node_clock}
use Rattle.proof_giving.proofs.proof_alone_Apart.{AreOfLine}
use Rattle.proof_giving.proofs.proof_waking_Apart.{IsWordless, said_in_vain, said_on, wordless_more}
use Rattle.proof_giving.proofs.Counting.{answers_wordless, each_starts, loose_wordless, told_wordless}
use Rattle.proof_giving.proofs.Doings.{AllDo, Doing, EndsDo, did, does_at, kept_by_all, node_after, OwnDo, did_all}
use Rattle.proof_giving.proofs.Holding.{clock_now}
use Rattle.proof_giving.proofs.InOrder.{is_asked}
use Rattle.proof_giving.proofs.Lasting.{by_else, rest_of}
use Rattle.proof_giving.proofs.Telling.{told_so}
use Rattle.proof_giving.proofs.Ticking.{waits_tick}
use Rattle.proof_choice.specs.Blocked.{BlockedSo, BlockingGround, BlocksAsTold}
use Rattle.proof_choice.proofs.Failures.{IsKept, blocked_anew, blocked_begin, blocked_behind, blocked_later, blocked_more}

-- ---- a node

either : (b : Bool) (one other : NodeState) (value : Bool) → one.blocked ≡ value → other.blocked ≡ value → (if b then one else other).blocked ≡ value
either true one other value p q = p
either false one other value p q = q

-- it is neither blocked nor freed
abbrev Leaves : NodeEvent → Type 0
Leaves Blocks = ⊥
Leaves Ticks = ⊥
Leaves node_restarts = ⊥
Leaves event = Unit {0}

occasion_same : (s : NodeState) → (after_occasion s).blocked ≡ s.blocked
occasion_same s = either (is_open s && is_up s && is_idle s.series) (new_series s) s s.blocked refl refl

sleep_same : (s : NodeState) → (after_sleep s).blocked ≡ s.blocked
sleep_same s = either s.listens s (asleep s) s.blocked refl refl

sign_same : (s : NodeState) → (after_node s Succeeds).blocked ≡ s.blocked
sign_same s = either (is_running s.series) (with_wait s 100) s s.blocked refl refl

end_same : (s : NodeState) (moment : Moment) → (after_attempt_end s moment).blocked ≡ s.blocked
end_same s moment =
    let attempts : ℕ = s.book.attempts + 1 in
    let over : NodeState = series_over (without_attempt s) attempts moment in
    either (is_running s.series) (if nat_lt attempts 3 then next_due (without_attempt s) attempts else after_sleep over) s s.blocked
    (either (nat_lt attempts 3) (next_due (without_attempt s) attempts) (after_sleep over) s.blocked refl (sleep_same over)) refl

told_same : (s : NodeState) (status : ℕ) (told : Told) → (after_told s status told).blocked ≡ s.blocked
told_same s status (Final session) = refl
told_same s status Working = sign_same s
told_same s status Old = refl

start_same : (s : NodeState) (plan : Plan) → (after_node s (node_starts plan)).blocked ≡ s.blocked
start_same s Whole = refl
start_same s (Segments count) = refl
start_same s (Sealed plain) = refl

node_same : (s : NodeState) (event : NodeEvent) → Leaves event → (after_node s event).blocked ≡ s.blocked
node_same s node_accepts leaves = occasion_same s
node_same s Blocks leaves = absurd leaves
node_same s (node_starts plan) leaves = start_same s plan
node_same s Succeeds leaves = sign_same s
node_same s (Ends_attempt moment) leaves = end_same s moment
node_same s (Reports id status) leaves = told_same s status (told_of s.book id status)
node_same s node_notifies leaves = occasion_same (record s { awake = true; no_more = tried_again s.no_more })
node_same s Sleeps leaves = sleep_same s
node_same s Ends_no_more leaves = sleep_same (after_no_more s Unasked)
node_same s Ticks leaves = absurd leaves
node_same s node_restarts leaves = absurd leaves
node_same s event leaves = refl

-- its tick frees it
ticks_free : (s : NodeState) → (after_node s Ticks).blocked ≡ false
ticks_free s =
    let held : NodeState = after_hold_tick s in
    let ticked : NodeState = after_again_tick held in
    either (ticked.attempt_wait == 1) (after_attempt_end ticked BetweenTicks) (with_wait ticked (ticked.attempt_wait - 1)) false (end_same ticked BetweenTicks ∙ again held refl) (again held refl)
  where
    again : (t : NodeState) → t.blocked ≡ false → (after_again_tick t).blocked ≡ false
    again t free =
        let over : NodeState = with_again t 0 in
        either (t.again_wait == 1) (after_again over) (with_again t (t.again_wait - 1)) false
        (either (has_waiting over) (after_occasion over) over false (occasion_same over ∙ free) free) free

-- ---- the events of a host

all_same : (n : ℕ) (s : NodeState) (doings : List Doing) → AllDo Leaves doings → (does_at n s doings).blocked ≡ s.blocked
all_same = kept_by_all (λ (s t : NodeState). t.blocked ≡ s.blocked) Leaves (λ s. refl) (λ s t u first next. next ∙ first) node_same

-- it blocks no node, and no node ticks at it
abbrev BlocksNone : HostEvent → Type 0
BlocksNone (Node_ticks n) = ⊥
BlocksNone (Begin_unkept n) = ⊥
BlocksNone event = Unit {0}

leaving_ends : EndsDo Leaves
leaving_ends = record { answered = tt; attempt_over = λ moment. tt; let_sleep = tt; held = tt }

own_leaves : (h : HostState) (event : HostEvent) → BlocksNone event → OwnDo Leaves h event
own_leaves h (Accepts order carriage) none = (tt, tt)
own_leaves h (Node_ticks n) none = absurd none
own_leaves h (Begin_unkept n) none = absurd none
own_leaves h event none = tt

blocked_same : (h : HostState) (event : HostEvent) (n : ℕ) → n < length h.nodes → BlocksNone event → (node_of (after h event) n).blocked ≡ (node_of h n).blocked
blocked_same h event n within none = ap (λ (s : NodeState). s.blocked) (node_after h event n within) ∙ all_same n (node_of h n) (did h event) (did_all Leaves leaving_ends h event (own_leaves h event none))

-- ---- what is told

-- no failure of the keeper is told at it
abbrev KeepsWell : HostEvent → Type 0
KeepsWell (Is_unkept n) = ⊥
KeepsWell (Interview_unkept n update) = ⊥
KeepsWell (Begin_unkept n) = ⊥
KeepsWell event = Unit {0}

line_kept : AreOfLine IsKept
line_kept = record { written = λ side text. tt; dropped = λ side. tt; garbled = λ side text. tt; overrun = λ side. tt }

shared_kept : SharedAre IsKept
shared_kept = record {
  unanswered = λ command. tt;
  asleep = λ n. tt;
  done = λ n how. tt;
  uninterviewed = λ n. tt;
  neighbours = λ n nodes. tt;
  failed = λ n is_failed. tt;
  stored = λ n setting. tt;
  held = λ n. tt;
  full = λ n. tt;
}

told_kept : (h : HostState) (event : HostEvent) (told : List Entry) → KeepsWell event → AreTold (outs h event) told → AllByRecursion IsKept told
told_kept h (Is_unkept n) told well are = absurd well
told_kept h (Interview_unkept n update) told well are = absurd well
told_kept h (Begin_unkept n) told well are = absurd well
told_kept h (Accepts order carriage) told well are = told_so IsKept line_kept [] told tt are
told_kept h event told well are = told_so IsKept line_kept (outs h event) told (outs_are IsKept shared_kept h event tt) are

loose_kept : (e : Entry) → IsLoose e → IsKept e
loose_kept (entry.Unkept n) loose = absurd loose
loose_kept e loose = tt

answers_kept : (h : HostState) (event : HostEvent) → AllByRecursion IsKept (answers h event)
answers_kept h (Accepts order carriage) = (tt, tt)
answers_kept h (Cancels command) = (tt, tt)
answers_kept h event = tt

asked_none : (event : HostEvent) → IsAsked event → BlocksNone event
asked_none (Node_ticks n) asked = absurd asked
asked_none (Begin_unkept n) asked = absurd asked
asked_none event asked = tt

-- ---- events

module _ (past : List Entry) (m : HostMachine) (places : length m.state.nodes ≡ 233) where
  within : (n : ℕ) → n ≤ 232 → n < length m.state.nodes
  within n to = omega (arith, places, to)

  -- at each time of a node as before
  plain : (here next : Phase) (event : HostEvent) (told : List Entry) → BlocksNone event → AllByRecursion IsKept told → AllByRecursion IsWordless told
      → ((n : ℕ) → node_clock next m.clock n ≡ node_clock here m.clock n) → BlocksAsTold here past m.state m.clock → BlocksAsTold next (past ++ told) (after m.state event) m.clock
  plain here next event told none kept wordless same tie n from to =
      subst (λ (t : ℕ). BlockedSo n (past ++ told) (node_of (after m.state event) n) t) (sym (same n))
      (blocked_more n past told (node_of m.state n) (node_of (after m.state event) n) (node_clock here m.clock n) (wordless_more past told wordless) kept (blocked_same m.state event n (within n to) none) (tie n from to))

  one_told : (event : HostEvent) (e : Entry) (told : List Entry) → outs m.state event ≡ Note e ∷ [] → AreTold (outs m.state event) told → told ≡ e ∷ []
  one_told event e told puts are = let (rest, is, none) = subst (λ (l : List HostOut). AreTold l told) puts are in is ∙ ap (λ (l : List Entry). e ∷ l) none

  now_at_one : (e : Entry) (told : List Entry) → told ≡ e ∷ [] → TieClock past m → IsNumbered m told → clock past ≡ m.clock
  now_at_one e told is tie numbered = by m.awaits refl
    where
      by : (b : Bool) → m.awaits ≡ b → clock past ≡ m.clock
      by true awaits = absurd (let bad : e ∷ [] ≡ [] = sym is ∙ numbered awaits in cc)
      by false awaits = sym (clock_now past m tie awaits)

  -- a failure of which it is told behind a frame
  behind_fails : (here next : Phase) (event : HostEvent) (k : ℕ) (told : List Entry) → ((n : ℕ) → node_clock here m.clock n ≡ m.clock) → ((n : ℕ) → node_clock next m.clock n ≡ m.clock) → BlocksNone event
      → told ≡ entry.Unkept k ∷ [] → is_following past ≡ true → TieClock past m → IsNumbered m told → BlocksAsTold here past m.state m.clock → BlocksAsTold next (past ++ told) (after m.state event) m.clock
  behind_fails here next event k told now later none is follows clocked numbered tie n from to =
      subst (λ (l : List Entry). BlockedSo n (past ++ l) (node_of (after m.state event) n) (node_clock next m.clock n)) (sym is)
      (subst (λ (t : ℕ). BlockedSo n (past ++ entry.Unkept k ∷ []) (node_of (after m.state event) n) t) (sym (later n))
      (blocked_behind n k past (node_of m.state n) (node_of (after m.state event) n) m.clock (wordless_more past (entry.Unkept k ∷ []) (tt, tt)) follows (now_at_one (entry.Unkept k) told is clocked numbered)
      (blocked_same m.state event n (within n to) none) (subst (λ (t : ℕ). BlockedSo n past (node_of m.state n) t) (now n) (tie n from to))))

  -- a session whose beginning is not kept
  begin_fails : (k : ℕ) (told : List Entry) → AreTold (outs m.state (Begin_unkept k)) told → TieClock past m → IsNumbered m told → BlocksAsTold Submitting past m.state m.clock
      → BlocksAsTold Submitting (past ++ told) (after m.state (Begin_unkept k)) m.clock
  begin_fails k told are clocked numbered tie n from to =
      let is = one_told (Begin_unkept k) (entry.Unkept k) told refl are in
      subst (λ (l : List Entry). BlockedSo n (past ++ l) (node_of (after m.state (Begin_unkept k)) n) m.clock) (sym is)
      (blocked_begin n k past (node_of m.state n) (node_of (after m.state (Begin_unkept k)) n) m.clock (wordless_more past (entry.Unkept k ∷ []) (tt, tt)) (now_at_one (entry.Unkept k) told is clocked numbered)
      (ap (λ (s : NodeState). s.blocked) (node_after m.state (Begin_unkept k) n (within n to)) ∙ by (k == n)) (tie n from to))
    where
      by : (b : Bool) → (if b then after_node (node_of m.state n) Blocks else node_of m.state n).blocked ≡ (if b then true else (node_of m.state n).blocked)
      by true = refl
      by false = refl

  -- a node ticks
  node_ticks : (k : ℕ) (left : List HostEvent) (told : List Entry) → AreTold (outs m.state (Node_ticks k)) told → is_to_tick k left ≡ false → 1 ≤ m.clock
      → BlocksAsTold (Ticking (Node_ticks k ∷ left)) past m.state m.clock → BlocksAsTold (Ticking left) (past ++ told) (after m.state (Node_ticks k)) m.clock
  node_ticks k left told are once begun tie n from to = by (k == n) refl (node_after m.state (Node_ticks k) n (within n to)) (tie n from to)
    where
      kept : AllByRecursion IsKept told
      kept = told_kept m.state (Node_ticks k) told tt are

      more : since_restart (past ++ told) ≡ since_restart past ++ told
      more = wordless_more past told (told_wordless m.state (Node_ticks k) told are)

      by : (b : Bool) → (k == n) ≡ b → node_of (after m.state (Node_ticks k)) n ≡ (if b then after_node (node_of m.state n) Ticks else node_of m.state n)
          → BlockedSo n past (node_of m.state n) (if b || is_to_tick n left then m.clock - 1 else m.clock)
          → BlockedSo n (past ++ told) (node_of (after m.state (Node_ticks k)) n) (if is_to_tick n left then m.clock - 1 else m.clock)
      by true it node so =
          let none : is_to_tick n left ≡ false = subst (λ (j : ℕ). is_to_tick j left ≡ false) (eqb-true k n it) once in
          let time : (m.clock - 1) + 1 ≡ m.clock = omega (arith, begun) in
          let free : (node_of (after m.state (Node_ticks k)) n).blocked ≡ false = ap (λ (s : NodeState). s.blocked) node ∙ ticks_free (node_of m.state n) in
          subst (λ (b : Bool). BlockedSo n (past ++ told) (node_of (after m.state (Node_ticks k)) n) (if b then m.clock - 1 else m.clock)) (sym none)
          (subst (λ (t : ℕ). BlockedSo n (past ++ told) (node_of (after m.state (Node_ticks k)) n) t) time
          (blocked_later n (past ++ told) (node_of m.state n) (node_of (after m.state (Node_ticks k)) n) (m.clock - 1) free
          (blocked_more n past told (node_of m.state n) (node_of m.state n) (m.clock - 1) more kept refl so)))
      by false it node so =
          blocked_more n past told (node_of m.state n) (node_of (after m.state (Node_ticks k)) n) (if is_to_tick n left then m.clock - 1 else m.clock) more kept (ap (λ (s : NodeState). s.blocked) node) so

-- the request has had its tick: those that have no wait have had theirs
none_left : (past : List Entry) (h : HostState) (clock : ℕ) → 1 ≤ clock → ((n : ℕ) → 1 ≤ n → n ≤ 232 → BlockedSo n past (node_of h n) (clock - 1)) → BlocksAsTold (Ticking (map Node_ticks (ticking_nodes h))) past h clock
none_left past h clock begun before n from to = by (is_to_tick n (map Node_ticks (ticking_nodes h))) refl
  where
    unblocked : is_to_tick n (map Node_ticks (ticking_nodes h)) ≡ false → (node_of h n).blocked ≡ false
    unblocked is =
        false_from_ne_true (node_of h n).blocked
        (λ blocked. both_ways (is_to_tick n (map Node_ticks (ticking_nodes h))) is (waits_tick h n from to (or_left _ _ (or_left _ _ (or_left (node_of h n).blocked _ blocked)))))

    by : (b : Bool) → is_to_tick n (map Node_ticks (ticking_nodes h)) ≡ b → BlockedSo n past (node_of h n) (if b then clock - 1 else clock)
    by true is = before n from to
    by false is =
        let time : (clock - 1) + 1 ≡ clock = omega (arith, begun) in
        subst (λ (t : ℕ). BlockedSo n past (node_of h n) t) time (blocked_later n past (node_of h n) (node_of h n) (clock - 1) (unblocked is) (before n from to))

-- ---- which events come

sleepers_none : SleepersAre (λ event. BlocksNone event × KeepsWell event)
sleepers_none = record { queues = λ n. (tt, tt); drops = λ n. (tt, tt) }

abbrev IsOfPump : HostEvent → Type 0
IsOfPump (Node_ticks n) = ⊥
IsOfPump (Is_unkept n) = ⊥
IsOfPump (Interview_unkept n update) = ⊥
IsOfPump event = Unit {0}

submitted_pump : SubmittedAre IsOfPump
submitted_pump = record {
  abort = tt;
  front = tt;
  starts = λ n plan more payload. tt;
  text = λ n payload. tt;
  segment = λ n more payload. tt;
  begins = λ n session command. tt;
  unkept = λ n. tt;
}

module _ (past : List Entry) (m : HostMachine) (places : length m.state.nodes ≡ 233) (told : List Entry) (numbered : IsNumbered m told) (clocked : TieClock past m) where
  -- behind a frame: those that do not keep something tell so
  behind_goes : (event : HostEvent) (left more : List HostEvent) → IsOfItem event → ((KeepsWell event → ⊥) → is_following past ≡ true) → AreTold (outs m.state event) told → BlocksAsTold (Behind left) past m.state m.clock
      → BlocksAsTold (Behind more) (past ++ told) (after m.state event) m.clock
  behind_goes (Is_unkept k) left more item follows are tie =
      behind_fails past m places (Behind left) (Behind more) (Is_unkept k) k told (λ n. refl) (λ n. refl) tt (one_told past m places (Is_unkept k) (entry.Unkept k) told refl are) (follows (λ well. well)) clocked numbered tie
  behind_goes (Interview_unkept k update) left more item follows are tie =
      behind_fails past m places (Behind left) (Behind more) (Interview_unkept k update) k told (λ n. refl) (λ n. refl) tt (one_told past m places (Interview_unkept k update) (entry.Unkept k) told refl are)
      (follows (λ well. well)) clocked numbered tie
  behind_goes (Begin_unkept k) left more item follows are tie = λ n from to. begin_fails past m places k told are clocked numbered tie n from to
  behind_goes (Node_ticks k) left more item follows are tie = absurd item
  behind_goes event left more item follows are tie =
      plain past m places (Behind left) (Behind more) event told tt (told_kept m.state event told tt are) (told_wordless m.state event told are) (λ n. refl) tie

  pump_goes : (event : HostEvent) → IsOfPump event → AreTold (outs m.state event) told → BlocksAsTold Submitting past m.state m.clock → BlocksAsTold Submitting (past ++ told) (after m.state event) m.clock
  pump_goes (Begin_unkept k) of are tie = begin_fails past m places k told are clocked numbered tie
  pump_goes (Node_ticks k) of are tie = absurd of
  pump_goes (Is_unkept k) of are tie = absurd of
  pump_goes (Interview_unkept k update) of are tie = absurd of
  pump_goes event of are tie = plain past m places Submitting Submitting event told tt (told_kept m.state event told tt are) (told_wordless m.state event told are) (λ n. refl) tie

request_well : (event : HostEvent) → IsOfRequest event → KeepsWell event
request_well (Requests_do event moment) is = tt
request_well event is = absurd is

follows_behind : (first : HostEvent) (left : List HostEvent) (past : List Entry) (m : HostMachine) → KnowsJudged (Behind (first ∷ left)) past m → (KeepsWell first → ⊥) → is_following past ≡ true
follows_behind first left past m (frames, inl behind) unkept = behind.follows
follows_behind first left past m (frames, inr (requests, settled)) unkept = absurd (unkept (request_well first requests.0))

-- ---- at each phase

module _ (past : List Entry) (m : HostMachine) (event : HostEvent) (told : List Entry) (places : length m.state.nodes ≡ 233) (numbered : IsNumbered m told) (clocked : TieClock past m) (are : AreTold (outs m.state event) told) where
  abbrev To : Phase → Type 0
  To next = BlocksAsTold next (past ++ told) (after m.state event) m.clock

  as_event : (these : HostEvent) → event ≡ these → AreTold (outs m.state these) told
  as_event these is = subst (λ (e : HostEvent). AreTold (outs m.state e) told) is are

  by_event : (next : Phase) (these : HostEvent) → event ≡ these → BlocksAsTold next (past ++ told) (after m.state these) m.clock → To next
  by_event next these is tie = subst (λ (e : HostEvent). BlocksAsTold next (past ++ told) (after m.state e) m.clock) (sym is) tie

  to_phase : (next phase : Phase) → next ≡ phase → To phase → To next
  to_phase next phase is tie = subst To (sym is) tie

  does_blocks : (here next : Phase) → GoesBy here m.state event next → TicksAt here m.state m.clock → KnowsJudged here past m → BlocksAsTold here past m.state m.clock → To next
  does_blocks (Ticking (Line_ticks ∷ left)) next goes ticks judged tie =
      let line = as_event Line_ticks goes.0 in
      to_phase next (Ticking left) goes.1
      (by_event (Ticking left) Line_ticks goes.0
      (plain past m places (Ticking (Line_ticks ∷ left)) (Ticking left) Line_ticks told tt (told_kept m.state Line_ticks told tt line) (told_wordless m.state Line_ticks told line)
      (λ n. ap (λ (l : List HostEvent). node_clock (Ticking l) m.clock n) ticks.0) tie))
  does_blocks (Ticking (Requests_do heard moment ∷ left)) next goes ticks judged tie =
      let these : HostEvent = Requests_do heard moment in
      let request = as_event these goes.0 in
      to_phase next (Ticking left) goes.1
      (by_event (Ticking left) these goes.0
      (subst (λ (l : List HostEvent). BlocksAsTold (Ticking l) (past ++ told) (after m.state these) m.clock) (sym ticks.0.1)
      (none_left (past ++ told) (after m.state these) m.clock ticks.1
      (plain past m places (Ticking (these ∷ left)) Risen these told tt (told_kept m.state these told tt request) (told_wordless m.state these told request) (λ n. refl) tie))))
  does_blocks (Ticking (Node_ticks k ∷ left)) next goes ticks judged tie =
      to_phase next (Ticking left) goes.1 (by_event (Ticking left) (Node_ticks k) goes.0 (node_ticks past m places k left told (as_event (Node_ticks k) goes.0) ticks.0.0 ticks.1 tie))
  does_blocks (Ticking (first ∷ left)) next goes ticks judged tie = absurd ticks.0
  does_blocks (Behind (first ∷ left)) next goes ticks judged tie =
      to_phase next (Behind left) goes.1
      (by_event (Behind left) first goes.0 (behind_goes past m places told numbered clocked first (first ∷ left) left ticks.0 (follows_behind first left past m judged) (as_event first goes.0) tie))
  does_blocks Sleeping next (node, wants, is, to_is) ticks judged tie =
      let none = no_more_is (λ event. BlocksNone event × KeepsWell event) sleepers_none m.state node in
      let these = as_event _ is in
      to_phase next Sleeping to_is
      (by_event Sleeping _ is (plain past m places Sleeping Sleeping _ told none.0 (told_kept m.state _ told none.1 these) (told_wordless m.state _ told these) (λ n. refl) tie))
  does_blocks Submitting next goes ticks judged tie =
      to_phase next Submitting goes.1 (pump_goes past m places told numbered clocked event (next_is IsOfPump submitted_pump m.state event goes.0) are tie)
  does_blocks here next goes ticks judged tie = absurd goes

-- ---- the tie lasts

same_time : (here next : Phase) (past later : List Entry) (h : HostState) (clock now : ℕ) → ((n : ℕ) → node_clock next now n ≡ node_clock here clock n)
    → ((n : ℕ) (time : ℕ) → BlockedSo n past (node_of h n) time → BlockedSo n later (node_of h n) time) → BlocksAsTold here past h clock → BlocksAsTold next later h now
same_time here next past later h clock now same goes tie n from to =
    subst (λ (t : ℕ). BlockedSo n later (node_of h n) t) (sym (same n)) (goes n (node_clock here clock n) (tie n from to))

turn_blocks : (here next : Phase) (past : List Entry) (m : HostMachine) → Turns here m next → BlocksAsTold here past m.state m.clock → BlocksAsTold next past m.state m.clock
turn_blocks here next past m turns tie = by here turns tie
  where
    to : (phase : Phase) → next ≡ phase → BlocksAsTold phase past m.state m.clock → BlocksAsTold next past m.state m.clock
    to phase is so = subst (λ (p : Phase). BlocksAsTold p past m.state m.clock) (sym is) so

    by : (here : Phase) → Turns here m next → BlocksAsTold here past m.state m.clock → BlocksAsTold next past m.state m.clock
    by Resting is so = to Open is so
    by (Asked line) (inl (nothing, is)) so = to Open is so
    by (Asked line) (inr (ticks, line_is, is)) so = to Resting is so
    by Risen is so = to (Ticking _) is so
    by (Ticking []) is so = to Open is so
    by (Ticking (event ∷ left)) is so = absurd is
    by Open is so = to Sleeping is so
    by (Behind []) is so = to Open is so
    by (Behind (event ∷ left)) is so = absurd is
    by Sleeping is so = to Submitting is.1 so
    by Submitting is so = to Resting is.1 so

places_of : (here : Phase) (past : List Entry) (m : HostMachine) → BlockingGround here past m → length m.state.nodes ≡ 233
places_of here past m ground = ground.0.0.0.0.0.facts.host.nodes.places

early_of : (here : Phase) (past : List Entry) (m : HostMachine) → BlockingGround here past m → TieClock past m
early_of here past m ground = ground.0.0.0.1

pub blocks_last : Lasts BlockingGround BlocksAsTold
blocks_last = record {
  loose = λ here at past told m all numbered ground tie.
      same_time here here past (past ++ told) m.state m.clock m.clock (λ n. refl)
      (λ n time so.
      blocked_more n past told (node_of m.state n) (node_of m.state n) time (wordless_more past told (all-weaker IsLoose IsWordless loose_wordless told all)) (all-weaker IsLoose IsKept loose_kept told all) refl so) tie;
  numbers = λ here past m other ground later tie.
      same_time here here past (past ++ entry.Time m.clock ∷ []) m.state m.clock m.clock (λ n. refl)
      (λ n time so. blocked_more n past (entry.Time m.clock ∷ []) (node_of m.state n) (node_of m.state n) time (wordless_more past (entry.Time m.clock ∷ []) (tt, tt)) (tt, tt) refl so) tie;
  said = λ past words m none ground goes_on tie.
      same_time Resting Resting past (past ++ entry.Said words ∷ []) m.state m.clock m.clock (λ n. refl)
      (λ n time so. blocked_more n past (entry.Said words ∷ []) (node_of m.state n) (node_of m.state n) time (said_on past words goes_on) (tt, tt) refl so) tie;
  refused = λ past words line refusal m none ground later tie.
      same_time Resting Open past (past ++ entry.Said words ∷ (entry.Refused refusal ∷ [])) m.state m.clock m.clock (λ n. refl)
      (λ n time so.
      blocked_more n past (entry.Said words ∷ (entry.Refused refusal ∷ [])) (node_of m.state n) (node_of m.state n) time (said_in_vain past words refusal) (tt, (tt, tt)) refl so) tie;
  asked = λ line past m event is may numbered ground later tie n from to.
      let places = places_of (Asked line) past m ground in
      blocked_more n past (answers m.state event) (node_of m.state n) (node_of (after m.state event) n) m.clock (wordless_more past (answers m.state event) (answers_wordless m.state event)) (answers_kept m.state event)
      (blocked_same m.state event n (omega (arith, places, to)) (asked_none event (is_asked line m.state event is))) (tie n from to);
  starts = λ before words m state opens anew ground later n from to.
      let free : (node_of state n).blocked ≡ false = each_starts (λ s. s.blocked ≡ false) (λ s. refl) (λ s. refl) refl m.keys m.records state ground.0.0.0.0.0.told opens n from in
      blocked_anew n before words (node_of state n) m.clock anew free;
  opens = λ past h clock tie. tie;
  rises = λ past m ground tie. same_time Resting Risen past past m.state m.clock (m.clock + 1) (λ n. omega arith) (λ n time so. so) tie;
  judges = λ past m item rest behind told now ground later tie.
      plain past m (places_of Open past m ground) Open (Behind behind) (Hears item) told tt (told_kept m.state (Hears item) told tt now.told_so) (told_wordless m.state (Hears item) told now.told_so) (λ n. refl) tie;
  does = λ here next past m event told may ground later tie.
      does_blocks past m event told (places_of here past m ground) may.3 (early_of here past m ground) may.2 here next may.0
      (rest_of InTick here past m (by_else here next m.state event may.0).0 ground.0.0.1) ground.1.0.0.1 tie;
  turn = λ here next past m other turns ground tie. turn_blocks here next past m turns tie;
}

-- ---- at first

blank_free : (number count m : ℕ) → (node_among (unknown_from number count) m).blocked ≡ false
blank_free number zero m = refl
blank_free number (suc count) zero = refl
blank_free number (suc count) (suc m) = blank_free (suc number) count m

first_free : (m : ℕ) → (node_among first_nodes m).blocked ≡ false
unfolding first_nodes unknown_nodes
first_free zero = refl
first_free (suc zero) = refl
first_free (suc (suc zero)) = refl
first_free (suc (suc (suc m))) = blank_free 3 230 m

pub first_blocks : (keys : Keys) → BlocksAsTold Resting [] (first_host keys) 0
first_blocks keys n from to = record {
  early = λ some. absurd (let bad : true ≡ false = some in cc);
  kept = λ is. absurd (let bad : false ≡ true = sym (first_free n) ∙ is in cc);
  free = λ is. refl;
}
