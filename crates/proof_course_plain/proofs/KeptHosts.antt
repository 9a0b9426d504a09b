-- What leaves a host as it is to a course of a node, event by event: its keys, what the course holds of the node, its orders, the tasks that wait, and its
-- link.
use Rattle.std.proofs.Common.{◌≡◌, ◌≢◌, ℕ, zero, suc, ◌+◌, ◌-◌, ◌==◌, Bool, true, false, nat_lt, if◌then◌else◌, Option, Some, None, List, [], ◌∷◌, ◌++◌, map, get_or, refl, ap, sym, ◌∙◌, subst}
use Rattle.std.specs.Prelude.{◌&&◌}
use Rattle.std.specs.List.{AllByRecursion}
use Rattle.std.proofs.Math.ListN.{set}
use Rattle.supervision.specs.Host.{told_of}
use Rattle.supervision.specs.declared.host_node.Told.{Told}
use Rattle.supervision.specs.declared.host_node.Told.TheVariants.{Final, Working, Old}
use Rattle.host_requests.specs.State.{RequestsState}
use Rattle.host_requests.specs.Next.{at_sent, at_response, at_callback, at_update, at_tick, after_next}
use Rattle.host_requests.specs.Events.{RequestsEvent, after as after_request, end_at, task_begun}
use Rattle.host_requests.specs.Events.RequestsEvent.{Pushes, PushesInterview, PushesProbe, BeginsAbort, BeginsPrefix, BeginsAttempt, IsSent, Fails, Responds, CallsBack, Updates, Ticks as request_ticks, Forgets}
use Rattle.host_requests.specs.declared.next.Next.{Next}
use Rattle.host_requests.specs.declared.next.Next.TheVariants.{Ends}
use Rattle.host_requests.specs.declared.end.End.{End}
use Rattle.host_requests.specs.declared.end.How.{How}
use Rattle.host_requests.specs.declared.end.How.TheVariants.{LinkFailed}
use Rattle.host_requests.specs.declared.under_way.UnderWay.{UnderWay}
use Rattle.host_requests.specs.declared.task.Task.{Task}
use Rattle.host_requests.specs.declared.task.Task.TheVariants as task
use Rattle.host_requests.specs.declared.task.Purpose.{Purpose}
use Rattle.host_requests.specs.declared.task.Purpose.TheVariants.{Housekeeping, Attempt, Abort}
use Rattle.host_node.specs.State.{NodeState, unknown, is_open, is_up, is_idle, is_running, has_waiting}
use Rattle.host_node.specs.Steps.{with_wait, with_again, new_series, after_occasion, without_attempt, after_sign, after_sleep, asleep, next_due, series_over, after_attempts, after_attempt_end, attempt_end, after_told, after_hold_tick, after_again, after_again_tick, after_attempt_tick, tried_again, as_recorded, wait_ticks}
use Rattle.host_node.specs.Events.{NodeEvent, after as after_node}
use Rattle.host_node.specs.Events.NodeEvent.{Accepts, Begins, Starts, Gives_text, Succeeds, Takes_nonce, Ends_attempt, Reports, Holds, Notifies, Sleeps, Ends_no_more, Ticks, Restarts}
use Rattle.host_node.specs.declared.attempt.Plan.{Plan}
use Rattle.host_node.specs.declared.attempt.Plan.TheVariants.{Sealed}
use Rattle.host_node.specs.declared.attempt.Moment.{Moment}
use Rattle.host_node.specs.declared.attempt.Moment.TheVariants.{BetweenTicks, BeforeItsTick}
use Rattle.host_node.specs.declared.attempt.AttemptEnd.{AttemptEnd}
use Rattle.host_node.specs.declared.attempt.AttemptEnd.TheVariants.{NoneRan, Again, Unanswered}
use Rattle.host_node.specs.TableState.{node_of as node_among}
use Rattle.zw_text.specs.declared.entry.Outcome.{Outcome}
use Rattle.host_model.specs.State.{HostState, Command, node_of, with_node, with_outcome, set_at}
use Rattle.host_model.specs.Sessions.{open_command}
use Rattle.host_model.specs.Ends.{unanswered, attempt_ended, PartEnd, Good as well, Passed_over, Bad, part_end, after_part, after_task, after_end, after_end_if}
use Rattle.host_model.specs.After.{node_does, requests_do, request_does, is_full, queues_if_room, holding, failing_if}
use Rattle.proof_course_plain.specs.Host.{asked_of, PushesOther}
use Rattle.proof_world.proofs.HostFits.{next_queue}

-- ---- what a course holds

-- what holds of the commands of a node's sessions, of the last outcome, of the sealed text of the running attempt, and of the plain one that waits for a nonce
abbrev pub Held : Type 1
Held = List ℕ → Option ℕ → Option (List ℕ) → Option (List ℕ) → Type 0

abbrev pub HeldOf : Held → NodeState → Type 0
HeldOf Is n = Is n.book.commands n.book.outcome n.text n.pending

-- A course of a node holds something of its sessions, by their commands and their last outcome: that holds when the text was sent, when nothing is left of the
-- attempt, and, where texts may be sealed, whatever these are. It says which tasks are none of its own, and what becomes of those that wait: such tasks are
-- added, the first is taken, and none is left.
pub record Course : Type 1 where
  pub node : ℕ
  pub Is : List ℕ → Option ℕ → Held
  pub seals : Bool
  pub sent : (cs : List ℕ) (o : Option ℕ) (commands : List ℕ) (outcome : Option ℕ) (text pending : Option (List ℕ)) → Is cs o commands outcome text pending → Is cs o commands outcome None pending
  pub bare : (cs : List ℕ) (o : Option ℕ) (commands : List ℕ) (outcome : Option ℕ) (text pending : Option (List ℕ)) → Is cs o commands outcome text pending → Is cs o commands outcome None None
  pub sealed : seals ≡ true → (cs : List ℕ) (o : Option ℕ) (commands : List ℕ) (outcome : Option ℕ) (text pending later waiting : Option (List ℕ))
      → Is cs o commands outcome text pending → Is cs o commands outcome later waiting
  pub IsOther : Task → Type 0
  pub asks : (n : ℕ) → AllByRecursion IsOther (task.First n ∷ task.Second n ∷ [])
  pub probes : AllByRecursion IsOther (task.Version ∷ task.MemoryId ∷ task.Capabilities ∷ [])
  pub Leaves : List Task → List Task → Type 0
  pub same : (queue : List Task) → Leaves queue queue
  pub both : (first next last : List Task) → Leaves first next → Leaves next last → Leaves first last
  pub more : (queue added : List Task) → AllByRecursion IsOther added → Leaves queue (queue ++ added)
  pub taken : (asked : Task) (rest : List Task) → Leaves (asked ∷ rest) rest
  pub forgotten : (queue : List Task) → Leaves queue []

-- ---- a node

module _ (course : Course) (cs : List ℕ) (o : Option ℕ) where
  abbrev Keeps : NodeState → Type 0
  Keeps n = HeldOf (course.Is cs o) n

  either : (b : Bool) (x y : NodeState) → Keeps x → Keeps y → Keeps (if b then x else y)
  either true x y one other = one
  either false x y one other = other

  occasion_keeps : (n : NodeState) → Keeps n → Keeps (after_occasion n)
  occasion_keeps n held = either (is_open n && is_up n && is_idle n.series) (new_series n) n held held

  sign_keeps : (n : NodeState) → Keeps n → Keeps (after_sign n)
  sign_keeps n held = either (is_running n.series) (with_wait n wait_ticks) n held held

  sleep_keeps : (n : NodeState) → Keeps n → Keeps (after_sleep n)
  sleep_keeps n held = either n.listens n (asleep n) held held

  -- nothing of the attempt is left
  bare_keeps : (n : NodeState) → Keeps n → Keeps (without_attempt n)
  bare_keeps n held = course.bare cs o n.book.commands n.book.outcome n.text n.pending held

  attempts_keep : (n : NodeState) (attempts : ℕ) (moment : Moment) → Keeps n → Keeps (after_attempts n attempts moment)
  attempts_keep n attempts moment held = either (nat_lt attempts 3) (next_due n attempts) (after_sleep (series_over n attempts moment)) held (sleep_keeps (series_over n attempts moment) held)

  attempt_keeps : (n : NodeState) (moment : Moment) → Keeps n → Keeps (after_attempt_end n moment)
  attempt_keeps n moment held = either (is_running n.series) (after_attempts (without_attempt n) (n.book.attempts + 1) moment) n (attempts_keep (without_attempt n) (n.book.attempts + 1) moment (bare_keeps n held)) held

  again_keeps : (n : NodeState) → Keeps n → Keeps (after_again n)
  again_keeps n held = either (has_waiting n) (after_occasion n) n (occasion_keeps n held) held

  again_tick_keeps : (n : NodeState) → Keeps n → Keeps (after_again_tick n)
  again_tick_keeps n held = either (n.again_wait == 1) (after_again (with_again n 0)) (with_again n (n.again_wait - 1)) (again_keeps (with_again n 0) held) held

  attempt_tick_keeps : (n : NodeState) → Keeps n → Keeps (after_attempt_tick n)
  attempt_tick_keeps n held = either (n.attempt_wait == 1) (after_attempt_end n BetweenTicks) (with_wait n (n.attempt_wait - 1)) (attempt_keeps n BetweenTicks held) held

-- events that leave its sessions, and bring nothing that is sealed but where that may be
abbrev pub MaySeal : Bool → Type 0
MaySeal true = Unit {0}
MaySeal false = ⊥

abbrev pub StartsQuietly : Bool → Plan → Type 0
StartsQuietly true plan = Unit {0}
StartsQuietly false (Sealed plain) = ⊥
StartsQuietly false plan = Unit {0}

abbrev pub IsQuiet : Bool → NodeEvent → Type 0
IsQuiet seals Begins = ⊥
IsQuiet seals (Starts plan) = StartsQuietly seals plan
IsQuiet seals (Takes_nonce seen text) = MaySeal seals
IsQuiet seals (Reports id status) = ⊥
IsQuiet seals event = Unit {0}

starts_sealed : (seals : Bool) (plain : List ℕ) → StartsQuietly seals (Sealed plain) → seals ≡ true
starts_sealed true plain quiet = refl
starts_sealed false plain quiet = absurd quiet

may_seal : (seals : Bool) → MaySeal seals → seals ≡ true
may_seal true may = refl
may_seal false may = absurd may

module _ (course : Course) (cs : List ℕ) (o : Option ℕ) where
  pub node_keeps : (n : NodeState) (event : NodeEvent) → HeldOf (course.Is cs o) n → IsQuiet course.seals event → HeldOf (course.Is cs o) (after_node n event)
  node_keeps n Accepts held quiet = occasion_keeps course cs o n held
  node_keeps n Begins held quiet = absurd quiet
  node_keeps n (Starts (Sealed plain)) held quiet = course.sealed (starts_sealed course.seals plain quiet) cs o n.book.commands n.book.outcome n.text n.pending _ _ held
  node_keeps n Gives_text held quiet = course.sent cs o n.book.commands n.book.outcome n.text n.pending held
  node_keeps n Succeeds held quiet = sign_keeps course cs o n held
  node_keeps n (Takes_nonce seen text) held quiet = course.sealed (may_seal course.seals quiet) cs o n.book.commands n.book.outcome n.text n.pending _ _ held
  node_keeps n (Ends_attempt moment) held quiet = attempt_keeps course cs o n moment held
  node_keeps n (Reports id status) held quiet = absurd quiet
  node_keeps n Notifies held quiet = occasion_keeps course cs o (record n { awake = true; no_more = tried_again n.no_more }) held
  node_keeps n Sleeps held quiet = sleep_keeps course cs o n held
  node_keeps n Ends_no_more held quiet = sleep_keeps course cs o _ held
  node_keeps n Ticks held quiet = attempt_tick_keeps course cs o (after_again_tick (after_hold_tick n)) (again_tick_keeps course cs o (after_hold_tick n) held)
  node_keeps n Restarts held quiet = occasion_keeps course cs o (as_recorded n) (bare_keeps course cs o n held)
  node_keeps n event held quiet = held

  -- a report that ends nothing
  told_keeps : (n : NodeState) (status : ℕ) (told : Told) → ((session : ℕ) → told ≢ Final session) → HeldOf (course.Is cs o) n → HeldOf (course.Is cs o) (after_told n status told)
  told_keeps n status (Final session) never held = absurd (never session refl)
  told_keeps n status Working never held = sign_keeps course cs o n held
  told_keeps n status Old never held = held

  works_keeps : (n : NodeState) (id : ℕ) → told_of n.book id 1 ≡ Working → HeldOf (course.Is cs o) n → HeldOf (course.Is cs o) (after_node n (Reports id 1))
  works_keeps n id works held = told_keeps n 1 (told_of n.book id 1) (λ session e. let bad : Working ≡ Final session = sym works ∙ e in absurd cc) held

-- ---- the nodes

pub get_set : {A : Type 0} (P : A → Type 0) (xs : List A) (k n : ℕ) (y d : A) → P (get_or xs n d) → (k ≡ n → P y) → P (get_or (set xs k y) n d)
get_set P [] k n y d was is = was
get_set P (x ∷ xs) zero zero y d was is = is refl
get_set P (x ∷ xs) zero (suc n) y d was is = was
get_set P (x ∷ xs) (suc k) zero y d was is = was
get_set P (x ∷ xs) (suc k) (suc n) y d was is = get_set P xs k n y d was (λ e. is (ap suc e))

-- ---- the host

-- the host is the same to a course
pub record SameHost (course : Course) (old new : HostState) : Type 0 where
  pub keys : new.keys ≡ old.keys
  pub node_as : (cs : List ℕ) (o : Option ℕ) → HeldOf (course.Is cs o) (node_of old course.node) → HeldOf (course.Is cs o) (node_of new course.node)
  pub orders : map asked_of new.commands ≡ map asked_of old.commands
  pub queue : course.Leaves old.requests.queue new.requests.queue
  pub side : new.side ≡ old.side

set_orders : (commands : List Command) (at : ℕ) (outcome : Outcome) → map asked_of (set_at commands at outcome) ≡ map asked_of commands
set_orders [] at outcome = refl
set_orders (command ∷ more) zero outcome = refl
set_orders (command ∷ more) (suc at) outcome = ap (λ l. asked_of command ∷ l) (set_orders more at outcome)

pub outcome_orders : (commands : List Command) (number : ℕ) (outcome : Outcome) → map asked_of (with_outcome commands number outcome) ≡ map asked_of commands
outcome_orders commands zero outcome = refl
outcome_orders commands (suc before) outcome = set_orders commands before outcome

module _ (course : Course) where
  pub same_host : (old new : HostState) → new.keys ≡ old.keys → new.nodes ≡ old.nodes → map asked_of new.commands ≡ map asked_of old.commands → new.requests ≡ old.requests → new.side ≡ old.side → SameHost course old new
  same_host old new keys nodes commands requests side = record {
    keys = keys;
    node_as = λ cs o was. subst (λ (ns : List NodeState). HeldOf (course.Is cs o) (node_among ns course.node)) (sym nodes) was;
    orders = commands;
    queue = subst (λ (r : RequestsState). course.Leaves old.requests.queue r.queue) (sym requests) (course.same old.requests.queue);
    side = side;
  }

  pub same_then : (a b c : HostState) → SameHost course a b → SameHost course b c → SameHost course a c
  same_then a b c first later = record {
    keys = later.keys ∙ first.keys;
    node_as = λ cs o was. later.node_as cs o (first.node_as cs o was);
    orders = later.orders ∙ first.orders;
    queue = course.both a.requests.queue b.requests.queue c.requests.queue first.queue later.queue;
    side = later.side ∙ first.side;
  }

  set_same : (h : HostState) (n : ℕ) (state : NodeState)
      → ((cs : List ℕ) (o : Option ℕ) → HeldOf (course.Is cs o) (node_of h course.node) → n ≡ course.node → HeldOf (course.Is cs o) state) → SameHost course h (with_node h n state)
  set_same h n state is = record {
    keys = refl;
    node_as = λ cs o was. get_set (HeldOf (course.Is cs o)) h.nodes n course.node state (unknown 0) was (is cs o was);
    orders = refl;
    queue = course.same h.requests.queue;
    side = refl;
  }

  pub does_same : (h : HostState) (n : ℕ) (event : NodeEvent) → IsQuiet course.seals event → SameHost course h (node_does h n event)
  does_same h n event quiet =
      set_same h n (after_node (node_of h n) event)
      (λ cs o was e. node_keeps course cs o (node_of h n) event (subst (λ (k : ℕ). HeldOf (course.Is cs o) (node_of h k)) (sym e) was) quiet)

  pub works_same : (h : HostState) (n id : ℕ) → told_of (node_of h n).book id 1 ≡ Working → SameHost course h (node_does h n (Reports id 1))
  works_same h n id works =
      set_same h n (after_node (node_of h n) (Reports id 1))
      (λ cs o was e. works_keeps course cs o (node_of h n) id works (subst (λ (k : ℕ). HeldOf (course.Is cs o) (node_of h k)) (sym e) was))

  -- of another node nothing matters
  pub other_same : (h : HostState) (n : ℕ) (state : NodeState) → n ≢ course.node → SameHost course h (with_node h n state)
  other_same h n state apart = set_same h n state (λ cs o was e. absurd (apart e))

  -- ---- requests

  next_left : (s : RequestsState) (next : UnderWay → Next) → course.Leaves s.queue (after_next s next).queue
  next_left s next = subst (λ (l : List Task). course.Leaves s.queue l) (sym (next_queue s next)) (course.same s.queue)

  prefix_left : (s : RequestsState) (queue : List Task) → s.queue ≡ queue → course.Leaves queue (task_begun s queue).queue
  prefix_left s [] is = subst (λ (l : List Task). course.Leaves [] l) (sym is) (course.same [])
  prefix_left s (asked ∷ rest) is = course.taken asked rest

  queue_left : (s : RequestsState) (event : RequestsEvent) → PushesOther course.IsOther event → course.Leaves s.queue (after_request s event).queue
  queue_left s (Pushes asked) is = course.more s.queue (asked ∷ []) (is, tt)
  queue_left s (PushesInterview n) is = course.more s.queue (task.First n ∷ task.Second n ∷ []) (course.asks n)
  queue_left s PushesProbe is = course.more s.queue (task.Version ∷ task.MemoryId ∷ task.Capabilities ∷ []) course.probes
  queue_left s BeginsAbort is = course.same s.queue
  queue_left s BeginsPrefix is = prefix_left s s.queue refl
  queue_left s (BeginsAttempt n more payload) is = course.same s.queue
  queue_left s IsSent is = next_left s at_sent
  queue_left s Fails is = next_left s (λ _. Ends LinkFailed)
  queue_left s (Responds response) is = next_left s (at_response response)
  queue_left s (CallsBack id status) is = next_left s (at_callback s.last_id id status)
  queue_left s (Updates update) is = next_left s (at_update s.first update)
  queue_left s request_ticks is = next_left s at_tick
  queue_left s Forgets is = course.forgotten s.queue

  pub requests_same : (h : HostState) (event : RequestsEvent) → PushesOther course.IsOther event → SameHost course h (requests_do h event)
  requests_same h event is = record { keys = refl; node_as = λ cs o was. was; orders = refl; queue = queue_left h.requests event is; side = refl }

  -- ---- the end of a request

  pub unchanged : (h : HostState) → SameHost course h h
  unchanged h = same_host h h refl refl refl refl refl

  unanswered_same : (h : HostState) (command : Option ℕ) → SameHost course h (unanswered h command)
  unanswered_same h None = unchanged h
  unanswered_same h (Some command) = same_host h (unanswered h (Some command)) refl refl (outcome_orders h.commands command _) refl refl

  pub ended_same : (h : HostState) (end : AttemptEnd) (command : Option ℕ) → SameHost course h (attempt_ended h end command)
  ended_same h NoneRan command = unchanged h
  ended_same h Again command = unchanged h
  ended_same h (Unanswered fell) command = unanswered_same h command

  part_same : (h : HostState) (n : ℕ) (end : PartEnd) (moment : Moment) → SameHost course h (after_part h n end moment)
  part_same h n well moment = does_same h n Succeeds tt
  part_same h n Passed_over moment = unchanged h
  part_same h n Bad moment =
      same_then h (node_does h n (Ends_attempt moment)) (after_part h n Bad moment) (does_same h n (Ends_attempt moment) tt)
      (ended_same (node_does h n (Ends_attempt moment)) (attempt_end (node_of h n)) (open_command (node_of h n)))

  task_same : (h : HostState) (asked : Task) → SameHost course h (after_task h asked)
  task_same h (task.NoMore n) = does_same h n Ends_no_more tt
  task_same h _ = unchanged h

  end_same : (h : HostState) (purpose : Purpose) (how : How) (moment : Moment) → SameHost course h (after_end h (record { purpose = purpose; how = how }) moment)
  end_same h (Attempt n more payload) how moment = part_same h n (part_end more how) moment
  end_same h (Housekeeping asked) how moment = task_same h asked
  end_same h Abort how moment = unchanged h

  end_if_same : (h : HostState) (end : Option End) (moment : Moment) → SameHost course h (after_end_if h end moment)
  end_if_same h None moment = unchanged h
  end_if_same h (Some end) moment = end_same h end.purpose end.how moment

  pub request_same : (h : HostState) (event : RequestsEvent) (moment : Moment) → PushesOther course.IsOther event → SameHost course h (request_does h event moment)
  request_same h event moment is = same_then h (requests_do h event) (request_does h event moment) (requests_same h event is) (end_if_same (requests_do h event) (end_at h.requests event) moment)

  pub room_same : (h : HostState) (asked : Task) → course.IsOther asked → SameHost course h (queues_if_room h asked)
  room_same h asked is = by (is_full h)
    where
      by : (b : Bool) → SameHost course h (if b then h else requests_do h (Pushes asked))
      by true = unchanged h
      by false = requests_same h (Pushes asked) is

  pub holding_same : (h : HostState) (n : ℕ) (held : Bool) → SameHost course h (holding h n held)
  holding_same h n true = does_same h n Holds tt
  holding_same h n false = unchanged h

  pub failing_same : (b : Bool) (h : HostState) → SameHost course h (failing_if b h)
  failing_same true h = request_same h Fails BeforeItsTick tt
  failing_same false h = unchanged h
