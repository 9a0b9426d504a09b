-- What each event of the host leaves of the attempt of a node that runs.
use Rattle.std.proofs.Common.{◌≡◌, ◌≢◌, ◌<◌, ℕ, ◌+◌, ◌-◌, ◌==◌, ◌&&◌, nat_lt, Bool, true, false, if◌then◌else◌, inl, inr, Option, Some, None, List, length, refl, sym, ap, ◌∙◌, subst}
use Rattle.std.specs.Prelude.{◌⊎◌}
use Rattle.std.proofs.lemmas.Bool.{eq-eqb, eqb-true}
use Rattle.std.proofs.lemmas.List.{get_or-set_same, get_or-set_other, length-set}
use Rattle.supervision.specs.Host.{told_of}
use Rattle.supervision.specs.declared.host_node.Told.{Told}
use Rattle.supervision.specs.declared.host_node.Told.TheVariants.{Final, Working, Old}
use Rattle.host_node.specs.State.{NodeState, unknown, is_open, is_up, is_idle, is_running, has_waiting}
use Rattle.host_node.specs.Steps.{after_again, after_again_tick, after_attempt_end, after_attempts, after_hold_tick, after_no_more, after_occasion, after_sign, after_sleep, after_start, after_tick, after_told, as_recorded, asleep, new_series, next_due, series_over, tick_end, tried_again, wait_ticks, with_again, with_wait, without_attempt}
use Rattle.host_node.specs.Events.{NodeEvent, after as after_node}
use Rattle.host_node.specs.Events.NodeEvent.{Joins, Interviews, Puts, Takes_back, Accepts, Cancels, Begins, Blocks, Starts, Gives_segment, Gives_text, Succeeds, Takes_nonce, Restores_seen, Ends_attempt, Reports, Holds, Notifies, Sleeps, Queues_no_more, Drops_no_more, Ends_no_more, Ticks, Restarts}
use Rattle.host_node.specs.declared.attempt.Moment.{Moment}
use Rattle.host_node.specs.declared.attempt.Moment.TheVariants.{BetweenTicks}
use Rattle.host_node.specs.declared.series.Series.{Series}
use Rattle.host_node.specs.declared.series.Series.TheVariants as series
use Rattle.host_node.specs.TableState.{node_of as node_among, with_node as with_node_among}
use Rattle.host_node.specs.declared.no_more.NoMore.TheVariants.{Unasked}
use Rattle.serial_link.specs.declared.turn.Turn.TheVariants.{Idle as no_turn}
use Rattle.host_requests.specs.Events.{end_at}
use Rattle.host_requests.specs.declared.end.End.{End}
use Rattle.host_requests.specs.declared.end.How.{How}
use Rattle.host_requests.specs.declared.task.Purpose.{Purpose}
use Rattle.host_requests.specs.declared.task.Purpose.TheVariants.{Housekeeping, Attempt, Abort}
use Rattle.host_node.specs.declared.attempt.AttemptEnd.{AttemptEnd}
use Rattle.host_node.specs.declared.attempt.AttemptEnd.TheVariants.{NoneRan, Again, Unanswered}
use Rattle.host_node.specs.declared.attempt.Plan.{Plan}
use Rattle.host_node.specs.declared.attempt.Plan.TheVariants.{Sealed, Segments, Whole}
use Rattle.host_model.specs.After.{after, node_does}
use Rattle.host_model.specs.Ends.{attempt_ended, PartEnd, Good, Passed_over, Bad, part_end}
use Rattle.host_model.specs.Sessions.{open_command}
use Rattle.host_model.specs.Events.{HostEvent, Requests_do, Interviews as Interviews_of, Line_ticks, Node_ticks, Starts as Starts_of, Begins as Begins_of, Begin_unkept as Unkept_of, Cancels as Cancels_of}
use Rattle.host_model.specs.State.{HostState, node_of}
use Rattle.proof_answered.proofs.NodeSteps.{AllowsAt, AllowsEnd, AllowsEndIf, AllowsPart, IsFree, event_is}
use Rattle.proof_answered.proofs.AttemptEnds.{again_tick_wait}

-- a series that runs did, for the same session; and the wait of its attempt is as it was, or begins anew
pub record KeptBy (old : NodeState) (commands : List ℕ) (outcome : Option ℕ) (wait : ℕ) : Type 0 where
  pub running : old.series ≡ series.Running
  pub commands_are : commands ≡ old.book.commands
  pub outcome_is : outcome ≡ old.book.outcome
  pub waits : (wait ≡ old.attempt_wait) ⊎ (wait ≡ 100)

abbrev pub Keeps : NodeState → NodeState → Type 0
Keeps old n = n.series ≡ series.Running → KeptBy old n.book.commands n.book.outcome n.attempt_wait

-- of one node alone; what it lists stays
pub record GoesFrom (old : NodeState) (classes : Option (List ℕ)) (s : Series) (commands : List ℕ) (outcome : Option ℕ) (wait : ℕ) : Type 0 where
  pub same : classes ≡ old.classes
  pub keeps : s ≡ series.Running → KeptBy old commands outcome wait

abbrev pub From : NodeState → NodeState → Type 0
From old n = GoesFrom old n.classes n.series n.book.commands n.book.outcome n.attempt_wait

-- no tick, no interview, and no attempt starts
abbrev pub IsLoose : NodeEvent → Type 0
IsLoose (Interviews listens classes) = ⊥
IsLoose (Starts plan) = ⊥
IsLoose Ticks = ⊥
IsLoose event = Unit {0}

pub itself : (n : NodeState) → From n n
itself n = record { same = refl; keeps = λ run. record { running = run; commands_are = refl; outcome_is = refl; waits = inl refl } }

stops : (old n : NodeState) (s : Series) → n.classes ≡ old.classes → n.series ≡ s → s ≢ series.Running → From old n
stops old n s same is other = record { same = same; keeps = λ run. absurd (other (sym is ∙ run)) }

not_due : series.Due ≢ series.Running
not_due e = absurd cc

not_idle : series.Idle ≢ series.Running
not_idle e = absurd cc

module _ (old : NodeState) where
  either : (b : Bool) (x y : NodeState) → From old x → From old y → From old (if b then x else y)
  either true x y first later = first
  either false x y first later = later

  occasion_from : (n : NodeState) → From old n → From old (after_occasion n)
  occasion_from n from = either (is_open n && is_up n && is_idle n.series) (new_series n) n (stops old (new_series n) series.Due from.same refl not_due) from

  sign_from : (n : NodeState) → From old n → From old (after_sign n)
  sign_from n from =
      either (is_running n.series) (with_wait n wait_ticks) n
      (record { same = from.same; keeps = λ run. let k = from.keeps run in record { running = k.running; commands_are = k.commands_are; outcome_is = k.outcome_is; waits = inr refl } }) from

  sleep_from : (n : NodeState) → From old n → From old (after_sleep n)
  sleep_from n from = either n.listens n (asleep n) from (record { same = from.same; keeps = from.keeps })

  told_from : (n : NodeState) (status : ℕ) (told : Told) → From old n → From old (after_told n status told)
  told_from n status (Final session) from = stops old (after_told n status (Final session)) series.Idle from.same refl not_idle
  told_from n status Working from = sign_from n from
  told_from n status Old from = from

  -- an attempt that ends does not run
  end_from : (n : NodeState) (moment : Moment) → From old n → From old (after_attempt_end n moment)
  end_from n moment from =
      either (is_running n.series) (after_attempts (without_attempt n) (n.book.attempts + 1) moment) n
      (either (nat_lt (n.book.attempts + 1) 3) (next_due (without_attempt n) (n.book.attempts + 1)) (after_sleep (series_over (without_attempt n) (n.book.attempts + 1) moment))
      (stops old (next_due (without_attempt n) (n.book.attempts + 1)) series.Due from.same refl not_due)
      (sleep_from (series_over (without_attempt n) (n.book.attempts + 1) moment) (stops old (series_over (without_attempt n) (n.book.attempts + 1) moment) series.Idle from.same refl not_idle))) from

  again_from : (n : NodeState) → From old n → From old (after_again n)
  again_from n from = either (has_waiting n) (after_occasion n) n (occasion_from n from) from

  pub again_tick_from : (n : NodeState) → From old n → From old (after_again_tick n)
  again_tick_from n from =
      either (n.again_wait == 1) (after_again (with_again n 0)) (with_again n (n.again_wait - 1)) (again_from (with_again n 0) (record { same = from.same; keeps = from.keeps }))
      (record { same = from.same; keeps = from.keeps })

  as_it_was : (n : NodeState) (classes : Option (List ℕ)) (s : Series) (commands : List ℕ) (outcome : Option ℕ) (wait : ℕ) → From old n → classes ≡ n.classes → s ≡ n.series → commands ≡ n.book.commands → outcome ≡ n.book.outcome → wait ≡ n.attempt_wait → GoesFrom old classes s commands outcome wait
  as_it_was n classes s commands outcome wait from a b c e d = record {
    same = a ∙ from.same;
    keeps = λ run. let k = from.keeps (sym b ∙ run) in record { running = k.running; commands_are = c ∙ k.commands_are; outcome_is = e ∙ k.outcome_is; waits = by k.waits };
  }
    where
      by : (n.attempt_wait ≡ old.attempt_wait) ⊎ (n.attempt_wait ≡ 100) → (wait ≡ old.attempt_wait) ⊎ (wait ≡ 100)
      by (inl same) = inl (d ∙ same)
      by (inr anew) = inr (d ∙ anew)

  pub loose_from : (n : NodeState) (event : NodeEvent) → IsLoose event → From old n → From old (after_node n event)
  loose_from n event loose from = by event loose
    where
      still : (classes : Option (List ℕ)) (s : Series) (commands : List ℕ) (outcome : Option ℕ) (wait : ℕ) → classes ≡ n.classes → s ≡ n.series → commands ≡ n.book.commands → outcome ≡ n.book.outcome → wait ≡ n.attempt_wait → GoesFrom old classes s commands outcome wait
      still classes s commands outcome wait a b c e d = as_it_was n classes s commands outcome wait from a b c e d

      by : (e : NodeEvent) → IsLoose e → From old (after_node n e)
      by Joins is = still _ _ _ _ _ refl refl refl refl refl
      by (Interviews listens classes) is = absurd is
      by (Puts command) is = still _ _ _ _ _ refl refl refl refl refl
      by Takes_back is = still _ _ _ _ _ refl refl refl refl refl
      by Accepts is = occasion_from n from
      by (Cancels command) is = still _ _ _ _ _ refl refl refl refl refl
      by Begins is = stops old (after_node n Begins) series.Due from.same refl not_due
      by Blocks is = still _ _ _ _ _ refl refl refl refl refl
      by (Starts plan) is = absurd is
      by Gives_segment is = still _ _ _ _ _ refl refl refl refl refl
      by Gives_text is = still _ _ _ _ _ refl refl refl refl refl
      by Succeeds is = sign_from n from
      by (Takes_nonce seen text) is = still _ _ _ _ _ refl refl refl refl refl
      by (Restores_seen seen) is = still _ _ _ _ _ refl refl refl refl refl
      by (Ends_attempt moment) is = end_from n moment from
      by (Reports id status) is = told_from n status (told_of n.book id status) from
      by Holds is = still _ _ _ _ _ refl refl refl refl refl
      by Notifies is = occasion_from (record n { awake = true; no_more = tried_again n.no_more }) (record { same = from.same; keeps = from.keeps })
      by Sleeps is = sleep_from n from
      by Queues_no_more is = still _ _ _ _ _ refl refl refl refl refl
      by Drops_no_more is = still _ _ _ _ _ refl refl refl refl refl
      by Ends_no_more is = sleep_from (after_no_more n Unasked) (record { same = from.same; keeps = from.keeps })
      by Ticks is = absurd is
      by Restarts is = occasion_from (as_recorded n) (stops old (as_recorded n) series.Idle from.same refl not_idle)

-- ---- its own tick

-- the wait of its attempt is one less
pub record TicksFrom (old : NodeState) (classes : Option (List ℕ)) (s : Series) (commands : List ℕ) (outcome : Option ℕ) (wait : ℕ) : Type 0 where
  pub same : classes ≡ old.classes
  pub running : s ≡ series.Running → old.series ≡ series.Running
  pub commands_are : s ≡ series.Running → commands ≡ old.book.commands
  pub outcome_is : s ≡ series.Running → outcome ≡ old.book.outcome
  pub less : wait ≡ old.attempt_wait - 1

abbrev pub TickOf : NodeState → NodeState → Type 0
TickOf old n = TicksFrom old n.classes n.series n.book.commands n.book.outcome n.attempt_wait

-- the first two parts of a tick
abbrev before_attempt : NodeState → NodeState
before_attempt n = after_again_tick (after_hold_tick n)

pub tick_from : (n : NodeState) → n.attempt_wait ≢ 1 → TickOf n (after_tick n)
tick_from n lasts = by ((before_attempt n).attempt_wait == 1) refl
  where
    from : From n (before_attempt n)
    from = again_tick_from n (after_hold_tick n) (record { same = refl; keeps = λ run. record { running = run; commands_are = refl; outcome_is = refl; waits = inl refl } })

    wait_is : (before_attempt n).attempt_wait ≡ n.attempt_wait
    wait_is = again_tick_wait (after_hold_tick n)

    by : (b : Bool) → ((before_attempt n).attempt_wait == 1) ≡ b → TickOf n (if b then after_attempt_end (before_attempt n) BetweenTicks else with_wait (before_attempt n) ((before_attempt n).attempt_wait - 1))
    by true is = absurd (lasts (sym wait_is ∙ eqb-true (before_attempt n).attempt_wait 1 is))
    by false is = record { same = from.same; running = λ run. (from.keeps run).running; commands_are = λ run. (from.keeps run).commands_are; outcome_is = λ run. (from.keeps run).outcome_is; less = ap (λ (w : ℕ). w - 1) wait_is }

-- ---- one node of a host, at its events

start_book : (x : NodeState) (plan : Plan) → (after_start x plan).book ≡ x.book
start_book x Whole = refl
start_book x (Segments count) = refl
start_book x (Sealed plain) = refl

module _ (n : ℕ) where
  abbrev pub AllowsOf : ℕ → NodeState → NodeEvent → Type 0
  AllowsOf k state event = IsLoose event ⊎ (k ≢ n)

  free_of : (k : ℕ) (state : NodeState) (event : NodeEvent) → IsFree event → AllowsOf k state event
  free_of k state (Interviews listens classes) free = absurd free
  free_of k state (Starts plan) free = absurd free
  free_of k state Ticks free = absurd free
  free_of k state event free = inl tt

  -- its table has its places
  pub record OnTable (old : NodeState) (nodes : List NodeState) : Type 0 where
    pub places : length nodes ≡ 233
    pub from : From old (node_among nodes n)

  module _ (within : n < 233) (old : NodeState) where
    each_of : (nodes : List NodeState) (k : ℕ) (event : NodeEvent) → AllowsOf k (node_among nodes k) event → OnTable old nodes → OnTable old (with_node_among nodes k (after_node (node_among nodes k) event))
    each_of nodes k event allows on = record { places = length-set nodes k next ∙ on.places; from = by (k == n) refl allows }
      where
        next : NodeState
        next = after_node (node_among nodes k) event

        there : (k ≡ n) → IsLoose event → From old (node_among (with_node_among nodes k next) n)
        there same loose =
            let few : k < length nodes = subst (λ (j : ℕ). j < length nodes) (sym same) (subst (λ (l : ℕ). n < l) (sym on.places) within) in
            subst (λ (j : ℕ). From old (node_among (with_node_among nodes k next) j)) same
            (subst (From old) (sym (get_or-set_same nodes k next (unknown 0) few)) (loose_from old (node_among nodes k) event loose (subst (λ (j : ℕ). From old (node_among nodes j)) (sym same) on.from)))

        by : (b : Bool) → (k == n) ≡ b → AllowsOf k (node_among nodes k) event → From old (node_among (with_node_among nodes k next) n)
        by true is (inl loose) = there (eqb-true k n is) loose
        by true is (inr other) = absurd (other (eqb-true k n is))
        by false is either = subst (From old) (sym (get_or-set_other nodes k n next (unknown 0) (λ e. let wrong : true ≡ false = sym (eq-eqb k n (sym e)) ∙ is in cc))) on.from

    pub event_from : (h : HostState) (event : HostEvent) → AllowsAt AllowsOf h event → OnTable old h.nodes → OnTable old (after h event).nodes
    event_from h event allows on = event_is AllowsOf (OnTable old) free_of each_of h event allows on

  -- every end of a request is allowed
  part_allowed : (k : ℕ) (state : NodeState) (end : PartEnd) (moment : Moment) → AllowsPart AllowsOf k state end moment
  part_allowed k state Good moment = tt
  part_allowed k state Passed_over moment = tt
  part_allowed k state Bad moment = inl tt

  purpose_allowed : (h : HostState) (purpose : Purpose) (how : How) (moment : Moment) → AllowsEnd AllowsOf h purpose how moment
  purpose_allowed h (Attempt k more payload) how moment = part_allowed k (node_of h k) (part_end more how) moment
  purpose_allowed h (Housekeeping task) how moment = tt
  purpose_allowed h Abort how moment = tt

  end_allowed : (h : HostState) (end : Option End) (moment : Moment) → AllowsEndIf AllowsOf h end moment
  end_allowed h None moment = tt
  end_allowed h (Some end) moment = purpose_allowed h end.purpose end.how moment

  -- an event of the host at which the node does not tick, nor starts an attempt, nor is interviewed
  abbrev pub IsBeside : HostState → HostEvent → Type 0
  IsBeside h (Interviews_of k listens classes update) = k ≢ n
  IsBeside h (Node_ticks k) = k ≢ n
  IsBeside h (Starts_of k plan more payload) = k ≢ n
  IsBeside h Line_ticks = h.side.turn ≡ no_turn
  IsBeside h event = Unit {0}

  beside_allowed : (h : HostState) (event : HostEvent) → IsBeside h event → AllowsAt AllowsOf h event
  beside_allowed h (Requests_do event moment) is = end_allowed h (end_at h.requests event) moment
  beside_allowed h (Interviews_of k listens classes update) is = inr is
  beside_allowed h (Node_ticks k) is = inr is
  beside_allowed h (Starts_of k plan more payload) is = inr is
  beside_allowed h (Cancels_of command) is = inl tt
  beside_allowed h (Begins_of k session command) is = inl tt
  beside_allowed h (Unkept_of k) is = inl tt
  beside_allowed h Line_ticks is = is
  beside_allowed h event is = tt

  pub beside_table : (within : n < 233) (h : HostState) (event : HostEvent) → length h.nodes ≡ 233 → IsBeside h event → OnTable (node_of h n) (after h event).nodes
  beside_table within h event places is = event_from within (node_of h n) h event (beside_allowed h event is) (record { places = places; from = itself (node_of h n) })

  -- its own tick
  ended_node : (g : HostState) (end : AttemptEnd) (command : Option ℕ) → node_of (attempt_ended g end command) n ≡ node_of g n
  ended_node g NoneRan command = refl
  ended_node g Again command = refl
  ended_node g (Unanswered fell) None = refl
  ended_node g (Unanswered fell) (Some command) = refl

  pub own_ticked : (within : n < 233) (h : HostState) → length h.nodes ≡ 233 → node_of (after h (Node_ticks n)) n ≡ after_tick (node_of h n)
  own_ticked within h places =
      ended_node (node_does h n Ticks) (tick_end (node_of h n)) (open_command (node_of h n)) ∙ get_or-set_same h.nodes n (after_tick (node_of h n)) (unknown 0) (subst (λ (l : ℕ). n < l) (sym places) within)

  pub own_tick : (within : n < 233) (h : HostState) → length h.nodes ≡ 233 → (node_of h n).attempt_wait ≢ 1 → TickOf (node_of h n) (node_of (after h (Node_ticks n)) n)
  own_tick within h places lasts = subst (TickOf (node_of h n)) (sym (own_ticked within h places)) (tick_from (node_of h n) lasts)

  -- an attempt of its own starts
  pub own_start : (within : n < 233) (h : HostState) (plan : Plan) (more : Bool) (payload : List ℕ) → length h.nodes ≡ 233 → node_of (after h (Starts_of n plan more payload)) n ≡ after_start (node_of h n) plan
  own_start within h plan more payload places = get_or-set_same h.nodes n (after_start (node_of h n) plan) (unknown 0) (subst (λ (l : ℕ). n < l) (sym places) within)

  -- with the sessions as they were
  pub own_book : (within : n < 233) (h : HostState) (plan : Plan) (more : Bool) (payload : List ℕ) → length h.nodes ≡ 233 → (node_of (after h (Starts_of n plan more payload)) n).book ≡ (node_of h n).book
  own_book within h plan more payload places = ap (λ (x : NodeState). x.book) (own_start within h plan more payload places) ∙ start_book (node_of h n) plan
