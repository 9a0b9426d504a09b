-- What an event of a host does to its nodes, as events of single nodes; and that a node that is told that there is no more for it waits for no other series with a command.
use Rattle.std.proofs.Common.{◌≡◌, ◌⊎◌, ℕ, zero, suc, ◌+◌, ◌-◌, ◌<◌, ◌≤◌, ◌==◌, ◌&&◌, nat_lt, Bool, true, false, if◌then◌else◌, inl, inr, length, drop, List, [], ◌∷◌, Option, Some, None, refl, sym, ap, ◌∙◌, subst, arith}
use Rattle.std.specs.Prelude.{is_some}
use Rattle.std.specs.List.{AllByRecursion}
use Rattle.std.proofs.lemmas.Bool.{and_parts, both_ways, cases_eq, eq-eqb, eqb-true, false_from_ne_true, ltb-false, ne_eqb, or_right}
use Rattle.std.proofs.lemmas.List.{get_or-set_same, get_or-set_other, length-set}
use Rattle.serial_link.specs.State.{tick_side}
use Rattle.supervision.specs.Host.{open_session, told_of}
use Rattle.supervision.specs.declared.host_node.Told.{Told}
use Rattle.supervision.specs.declared.host_node.Told.TheVariants.{Final, Working, Old}
use Rattle.s0_session.specs.Nonces.{live_of}
use Rattle.host_keep.specs.Status.{status_byte}
use Rattle.host_requests.specs.declared.end.End.{End}
use Rattle.host_requests.specs.declared.end.How.{How}
use Rattle.host_requests.specs.declared.task.Purpose.{Purpose}
use Rattle.host_requests.specs.declared.task.Purpose.TheVariants.{Housekeeping, Attempt, Abort}
use Rattle.host_requests.specs.declared.task.Task.{Task}
use Rattle.host_requests.specs.declared.task.Task.TheVariants.{NoMore}
use Rattle.host_requests.specs.Events.{end_at}
use Rattle.host_requests.specs.Events.RequestsEvent.{Fails as request_fails}
use Rattle.host_node.specs.declared.attempt.Moment.{Moment}
use Rattle.host_node.specs.declared.attempt.Moment.TheVariants.{BeforeItsTick, BetweenTicks}
use Rattle.host_node.specs.declared.attempt.Plan.{Plan}
use Rattle.host_node.specs.declared.attempt.Plan.TheVariants.{Whole, Segments, Sealed}
use Rattle.host_node.specs.declared.no_more.NoMore.{NoMore as NoMoreState}
use Rattle.host_node.specs.declared.no_more.NoMore.TheVariants.{Unasked, Queued, Dropped}
use Rattle.host_node.specs.declared.series.Series.{Series}
use Rattle.host_node.specs.declared.series.Series.TheVariants.{Idle, Due, Running}
use Rattle.host_node.specs.Facts.{IsQuiet, NodeFacts, NoMoreFacts, SeriesFacts}
use Rattle.host_node.specs.State.{NodeState, has_waiting, is_false, is_idle, is_open, is_running, is_up, unknown, wants_no_more}
use Rattle.host_node.specs.Steps.{after_again, after_again_tick, after_attempt_end, after_hold_tick, after_occasion, after_put, after_sleep, after_told, asleep, new_series, next_due, series_over, tried_again, with_again, with_wait, without, without_attempt}
use Rattle.host_node.specs.Search.{first_wanting}
use Rattle.host_node.proofs.Searches.{what_is_least}
use Rattle.host_node.specs.Events.{NodeEvent, after as after_node}
use Rattle.host_node.specs.Events.NodeEvent.{Joins as node_joins, Interviews as node_interviews, Puts, Accepts as node_accepts, Cancels as node_cancels, Begins as node_begins, Blocks, Starts as node_starts, Gives_segment as node_gives_segment, Gives_text as node_gives_text, Succeeds, Takes_nonce as node_takes_nonce, Ends_attempt, Reports, Holds, Notifies as node_notifies, Queues_no_more as node_queues_no_more, Drops_no_more as node_drops_no_more, Ends_no_more, Ticks}
use Rattle.host_node.specs.TableState.{node_of as node_among, nodes_after, unknown_from, unknown_nodes}
use Rattle.s0_crypto.specs.declared.key_pair.Keys.{Keys}
use Rattle.proof_requests.specs.host_model.State.{HostState, first_host, first_nodes, node_of}
use Rattle.proof_requests.specs.host_model.Ends.{PartEnd, Good, Passed_over, Bad, after_end_if, after_part, after_task, part_end}
use Rattle.proof_requests.specs.host_model.After.{after, failing_if, finishing, gives_up, giving, holding, is_full, is_held, line_ticked, node_for, requests_do}
use Rattle.proof_requests.specs.host_model.Events.{HostEvent, Accepts, Cancels, Joins, Hears, Requests_do, Interviews, Works, Finishes, Offers, Gives, Takes_nonce, Notifies, Resends, Line_ticks, Node_ticks, Queues_no_more, Drops_no_more, Starts, Gives_text, Gives_segment, Begins, Begin_unkept}
use Rattle.proof_requests.specs.host_model.May.{May}
use Rattle.proof_work.specs.Work.{HostWork}
use Rattle.proof_requests.specs.proof_alone.Phases.{Asked, Open, Resting}
use Rattle.proof_attempts.specs.Since.{Lasts}
use Rattle.proof_attempts.specs.Waiting.{WaitInOrder, WaitsWell}
use Rattle.proof_attempts.specs.Waking.{KnowsWork}
use Rattle.proof_attempts.proofs.Counting.{each_starts}
use Rattle.proof_attempts.proofs.Nodes.{again_same, attempt_nodes, offered_nodes, queued_nodes, ran}
use Rattle.proof_attempts.proofs.Working.{in_order}

-- ---- events of nodes

pub record Doing : Type 0 where
  pub node : ℕ
  pub event : NodeEvent

abbrev pub one_does : ℕ → NodeEvent → List Doing
one_does k event = record { node = k; event = event } ∷ []

-- the end of a request
abbrev pub part_does : ℕ → PartEnd → Moment → List Doing
part_does k Good moment = one_does k Succeeds
part_does k Passed_over moment = []
part_does k Bad moment = one_does k (Ends_attempt moment)

abbrev pub task_does : Task → List Doing
task_does (NoMore k) = one_does k Ends_no_more
task_does task = []

abbrev pub purpose_does : Purpose → How → Moment → List Doing
purpose_does (Attempt k more payload) how moment = part_does k (part_end more how) moment
purpose_does (Housekeeping task) how moment = task_does task
purpose_does Abort how moment = []

abbrev pub end_does : Option End → Moment → List Doing
end_does None moment = []
end_does (Some end) moment = purpose_does end.purpose end.how moment

abbrev pub failing_does : Bool → HostState → List Doing
failing_does true h = end_does (end_at h.requests request_fails) BeforeItsTick
failing_does false h = []

abbrev pub held_does : ℕ → Bool → List Doing
held_does n true = one_does n Holds
held_does n false = []

abbrev pub did : HostState → HostEvent → List Doing
did h (Accepts order carriage) = record { node = order.node; event = Puts (length h.commands + 1) } ∷ one_does order.node node_accepts
did h (Cancels command) = one_does (node_for h command) (node_cancels command)
did h (Joins n) = one_does n node_joins
did h (Requests_do event moment) = end_does (end_at h.requests event) moment
did h (Interviews n listens classes update) = one_does n (node_interviews listens classes)
did h (Works n id) = one_does n (Reports id 1)
did h (Finishes n session id command status wake_request) = record { node = n; event = Reports id (status_byte status) } ∷ held_does n (is_held h n wake_request)
did h (Takes_nonce n seen text) = one_does n (node_takes_nonce seen text)
did h (Notifies n) = one_does n node_notifies
did h Line_ticks = failing_does (gives_up h.side.turn (tick_side h.side).turn) h
did h (Node_ticks n) = one_does n Ticks
did h (Queues_no_more n) = one_does n node_queues_no_more
did h (Drops_no_more n) = one_does n node_drops_no_more
did h (Starts n plan more payload) = one_does n (node_starts plan)
did h (Gives_text n payload) = one_does n node_gives_text
did h (Gives_segment n more payload) = one_does n node_gives_segment
did h (Begins n session command) = one_does n node_begins
did h (Begin_unkept n) = one_does n Blocks
did h event = []

-- ---- the nodes after them

abbrev pub does_all : List NodeState → List Doing → List NodeState
does_all nodes [] = nodes
does_all nodes (one ∷ more) = does_all (nodes_after nodes one.node one.event) more

part_nodes : (h : HostState) (k : ℕ) (end : PartEnd) (moment : Moment) → (after_part h k end moment).nodes ≡ does_all h.nodes (part_does k end moment)
part_nodes h k Good moment = refl
part_nodes h k Passed_over moment = refl
part_nodes h k Bad moment = attempt_nodes _ _ _

task_nodes : (h : HostState) (task : Task) → (after_task h task).nodes ≡ does_all h.nodes (task_does task)
task_nodes h (NoMore k) = refl
task_nodes h task = refl

purpose_nodes : (h : HostState) (purpose : Purpose) (how : How) (moment : Moment) → (after_end_if h (Some (record { purpose = purpose; how = how })) moment).nodes ≡ does_all h.nodes (purpose_does purpose how moment)
purpose_nodes h (Attempt k more payload) how moment = part_nodes h k (part_end more how) moment
purpose_nodes h (Housekeeping task) how moment = task_nodes h task
purpose_nodes h Abort how moment = refl

end_nodes : (h : HostState) (end : Option End) (moment : Moment) → (after_end_if h end moment).nodes ≡ does_all h.nodes (end_does end moment)
end_nodes h None moment = refl
end_nodes h (Some end) moment = purpose_nodes h end.purpose end.how moment

failing_nodes : (gives : Bool) (h : HostState) → (failing_if gives (line_ticked h)).nodes ≡ does_all h.nodes (failing_does gives h)
failing_nodes true h = end_nodes (requests_do (line_ticked h) request_fails) (end_at h.requests request_fails) BeforeItsTick
failing_nodes false h = refl

held_nodes : (g : HostState) (n : ℕ) (held : Bool) → (holding g n held).nodes ≡ does_all g.nodes (held_does n held)
held_nodes g n true = refl
held_nodes g n false = refl

pub nodes_are : (h : HostState) (event : HostEvent) → (after h event).nodes ≡ does_all h.nodes (did h event)
nodes_are h (Requests_do event moment) = end_nodes (requests_do h event) (end_at h.requests event) moment
nodes_are h (Finishes n session id command status wake_request) = held_nodes (finishing h n id command status) n (is_held h n wake_request)
nodes_are h (Offers n) = offered_nodes h n (live_of h.nonces n)
nodes_are h (Gives n drawn) = offered_nodes (giving h n drawn) n (live_of (giving h n drawn).nonces n)
nodes_are h (Resends n payload) = queued_nodes (is_full h) h _ refl
nodes_are h Line_ticks = failing_nodes (gives_up h.side.turn (tick_side h.side).turn) h
nodes_are h (Node_ticks n) = attempt_nodes _ _ _
nodes_are h event = refl

-- one of them
abbrev pub does_at : ℕ → NodeState → List Doing → NodeState
does_at n s [] = s
does_at n s (one ∷ more) = does_at n (if one.node == n then after_node s one.event else s) more

one_at : (nodes : List NodeState) (k n : ℕ) (event : NodeEvent) → n < length nodes
    → node_among (nodes_after nodes k event) n ≡ (if k == n then after_node (node_among nodes n) event else node_among nodes n)
one_at nodes k n event within = elim (cases_eq n k) [
  | inl same ↦
      subst (λ (m : ℕ). node_among (nodes_after nodes m event) n ≡ (if m == n then after_node (node_among nodes n) event else node_among nodes n)) same
      (get_or-set_same nodes n (after_node (node_among nodes n) event) (unknown 0) within
      ∙ sym (ap (λ (b : Bool). if b then after_node (node_among nodes n) event else node_among nodes n) (eq-eqb n n refl)))
  | inr other ↦
      get_or-set_other nodes k n (after_node (node_among nodes k) event) (unknown 0) other
      ∙ sym (ap (λ (b : Bool). if b then after_node (node_among nodes n) event else node_among nodes n) (ne_eqb k n (λ same. other (sym same))))
]

all_at : (nodes : List NodeState) (n : ℕ) (doings : List Doing) → n < length nodes → node_among (does_all nodes doings) n ≡ does_at n (node_among nodes n) doings
all_at nodes n [] within = refl
all_at nodes n (one ∷ more) within =
    let long = length-set nodes one.node (after_node (node_among nodes one.node) one.event) in
    all_at (nodes_after nodes one.node one.event) n more (omega (arith, within, long)) ∙ ap (λ (s : NodeState). does_at n s more) (one_at nodes one.node n one.event within)

pub node_after : (h : HostState) (event : HostEvent) (n : ℕ) → n < length h.nodes → node_of (after h event) n ≡ does_at n (node_of h n) (did h event)
node_after h event n within = ap (λ (l : List NodeState). node_among l n) (nodes_are h event) ∙ all_at h.nodes n (did h event) within

-- ---- what all of them are, and keep

abbrev pub AllDo : (NodeEvent → Type 0) → List Doing → Type 0
AllDo Of doings = AllByRecursion (λ (one : Doing). Of one.event) doings

-- what each of them keeps of a node, all of them keep
pub kept_by_all : (Keeps : NodeState → NodeState → Type 0) (Of : NodeEvent → Type 0) → ((s : NodeState) → Keeps s s) → ((s t u : NodeState) → Keeps s t → Keeps t u → Keeps s u)
    → ((s : NodeState) (event : NodeEvent) → Of event → Keeps s (after_node s event)) → (n : ℕ) (s : NodeState) (doings : List Doing) → AllDo Of doings → Keeps s (does_at n s doings)
kept_by_all Keeps Of same on one n s [] all = same s
kept_by_all Keeps Of same on one n s (d ∷ more) all =
    let next : NodeState = if d.node == n then after_node s d.event else s in
    on s next (does_at n next more) (first (d.node == n)) (kept_by_all Keeps Of same on one n next more all.1)
  where
    first : (b : Bool) → Keeps s (if b then after_node s d.event else s)
    first true = one s d.event all.0
    first false = same s

-- that which an event of the host does at its own node
abbrev pub OwnDo : (NodeEvent → Type 0) → HostState → HostEvent → Type 0
OwnDo Of h (Accepts order carriage) = Of (Puts (length h.commands + 1)) × Of node_accepts
OwnDo Of h (Cancels command) = Of (node_cancels command)
OwnDo Of h (Joins n) = Of node_joins
OwnDo Of h (Interviews n listens classes update) = Of (node_interviews listens classes)
OwnDo Of h (Works n id) = Of (Reports id 1)
OwnDo Of h (Finishes n session id command status wake_request) = Of (Reports id (status_byte status))
OwnDo Of h (Takes_nonce n seen text) = Of (node_takes_nonce seen text)
OwnDo Of h (Notifies n) = Of node_notifies
OwnDo Of h (Node_ticks n) = Of Ticks
OwnDo Of h (Queues_no_more n) = Of node_queues_no_more
OwnDo Of h (Drops_no_more n) = Of node_drops_no_more
OwnDo Of h (Starts n plan more payload) = Of (node_starts plan)
OwnDo Of h (Gives_text n payload) = Of node_gives_text
OwnDo Of h (Gives_segment n more payload) = Of node_gives_segment
OwnDo Of h (Begins n session command) = Of node_begins
OwnDo Of h (Begin_unkept n) = Of Blocks
OwnDo Of h event = Unit {0}

-- those of a request that ends, and of a node that is held
pub record EndsDo (Of : NodeEvent → Type 0) : Type 0 where
  pub answered : Of Succeeds
  pub attempt_over : (moment : Moment) → Of (Ends_attempt moment)
  pub let_sleep : Of Ends_no_more
  pub held : Of Holds

module _ (Of : NodeEvent → Type 0) (these : EndsDo Of) where
  part_all : (k : ℕ) (end : PartEnd) (moment : Moment) → AllDo Of (part_does k end moment)
  part_all k Good moment = (these.answered, tt)
  part_all k Passed_over moment = tt
  part_all k Bad moment = (these.attempt_over moment, tt)

  task_all : (task : Task) → AllDo Of (task_does task)
  task_all (NoMore k) = (these.let_sleep, tt)
  task_all task = tt

  purpose_all : (purpose : Purpose) (how : How) (moment : Moment) → AllDo Of (purpose_does purpose how moment)
  purpose_all (Attempt k more payload) how moment = part_all k (part_end more how) moment
  purpose_all (Housekeeping task) how moment = task_all task
  purpose_all Abort how moment = tt

  end_all : (end : Option End) (moment : Moment) → AllDo Of (end_does end moment)
  end_all None moment = tt
  end_all (Some end) moment = purpose_all end.purpose end.how moment

  failing_all : (gives : Bool) (h : HostState) → AllDo Of (failing_does gives h)
  failing_all true h = end_all (end_at h.requests request_fails) BeforeItsTick
  failing_all false h = tt

  held_all : (n : ℕ) (held : Bool) → AllDo Of (held_does n held)
  held_all n true = (these.held, tt)
  held_all n false = tt

  pub did_all : (h : HostState) (event : HostEvent) → OwnDo Of h event → AllDo Of (did h event)
  did_all h (Accepts order carriage) own = (own.0, (own.1, tt))
  did_all h (Cancels command) own = (own, tt)
  did_all h (Joins n) own = (own, tt)
  did_all h (Requests_do event moment) own = end_all (end_at h.requests event) moment
  did_all h (Interviews n listens classes update) own = (own, tt)
  did_all h (Works n id) own = (own, tt)
  did_all h (Finishes n session id command status wake_request) own = (own, held_all n (is_held h n wake_request))
  did_all h (Takes_nonce n seen text) own = (own, tt)
  did_all h (Notifies n) own = (own, tt)
  did_all h Line_ticks own = failing_all (gives_up h.side.turn (tick_side h.side).turn) h
  did_all h (Node_ticks n) own = (own, tt)
  did_all h (Queues_no_more n) own = (own, tt)
  did_all h (Drops_no_more n) own = (own, tt)
  did_all h (Starts n plan more payload) own = (own, tt)
  did_all h (Gives_text n payload) own = (own, tt)
  did_all h (Gives_segment n more payload) own = (own, tt)
  did_all h (Begins n session command) own = (own, tt)
  did_all h (Begin_unkept n) own = (own, tt)
  did_all h event own = tt

-- ---- waiting

well_either : (b : Bool) (one other : NodeState) → (b ≡ true → WaitsWell one) → (b ≡ false → WaitsWell other) → WaitsWell (if b then one else other)
well_either true one other p q = p refl
well_either false one other p q = q refl

not_unasked : Unasked ≡ Queued → ⊥
not_unasked is = cc

not_dropped : Dropped ≡ Queued → ⊥
not_dropped is = cc

occasion_well : (s : NodeState) → WaitsWell s → WaitsWell (after_occasion s)
occasion_well s well = well_either (is_open s && is_up s && is_idle s.series) (new_series s) s (λ is queued. inl refl) (λ is. well)

slept_well : (s : NodeState) → (s.no_more ≡ Queued → ⊥) → WaitsWell (after_sleep s)
slept_well s none = well_either s.listens s (asleep s) (λ is queued. absurd (none queued)) (λ is queued. absurd (not_unasked queued))

sign_well : (s : NodeState) → WaitsWell s → WaitsWell (after_node s Succeeds)
sign_well s well = well_either (is_running s.series) (with_wait s 100) s (λ is. well) (λ is. well)

-- its attempt ends: none runs while it is told
end_well : (s : NodeState) (moment : Moment) → IsQuiet s → WaitsWell s → WaitsWell (after_attempt_end s moment)
end_well s moment quiet well =
    let over : NodeState = series_over (without_attempt s) (s.book.attempts + 1) moment in
    well_either (is_running s.series) (if nat_lt (s.book.attempts + 1) 3 then next_due (without_attempt s) (s.book.attempts + 1) else after_sleep over) s
    (λ runs.
    well_either (nat_lt (s.book.attempts + 1) 3) (next_due (without_attempt s) (s.book.attempts + 1)) (after_sleep over) (λ few. well)
    (λ all. slept_well over (λ queued. both_ways (is_running s.series) (quiet queued) runs)))
    (λ is. well)

told_well : (s : NodeState) (byte : ℕ) (t : Told) → WaitsWell s → WaitsWell (after_told s byte t)
told_well s byte (Final session) well = λ queued. inl refl
told_well s byte Working well = sign_well s well
told_well s byte Old well = well

tried_is : (m : NoMoreState) → tried_again m ≡ Queued → m ≡ Queued
tried_is Unasked is = absurd (not_unasked is)
tried_is Queued is = refl
tried_is Dropped is = absurd (not_unasked is)

again_well : (s : NodeState) → WaitsWell s → WaitsWell (after_again_tick s)
again_well s well =
    let over : NodeState = with_again s 0 in
    well_either (s.again_wait == 1) (after_again over) (with_again s (s.again_wait - 1))
    (λ is. well_either (has_waiting over) (after_occasion over) over (λ waits. occasion_well over (λ queued. inl refl)) (λ waits queued. inl refl))
    (λ is queued. less (well queued))
  where
    less : (s.again_wait ≡ 0) ⊎ (has_waiting s ≡ false) → (s.again_wait - 1 ≡ 0) ⊎ (has_waiting s ≡ false)
    less (inl none) = inl (omega (arith, none))
    less (inr none) = inr none

ticks_well : (s : NodeState) → IsQuiet s → WaitsWell s → WaitsWell (after_node s Ticks)
ticks_well s quiet well =
    let held = after_hold_tick s in
    let ticked = after_again_tick held in
    let same : ticked.no_more ≡ s.no_more = again_same (λ m. m.no_more) (λ m. refl) (λ m ticks. refl) held in
    let waits = again_well held well in
    let still : IsQuiet ticked = λ queued. false_from_ne_true (is_running ticked.series) (λ runs. both_ways (is_running s.series) (quiet (sym same ∙ queued)) (ran held runs)) in
    well_either (ticked.attempt_wait == 1) (after_attempt_end ticked BetweenTicks) (with_wait ticked (ticked.attempt_wait - 1)) (λ is. end_well ticked BetweenTicks still waits) (λ is. waits)

-- a command is accepted: a series is due, or none is waited for
no_wait : (series : Series) (s : NodeState) → SeriesFacts series s.book s.attempt_wait s.again_wait s.next_segment s.segments s.text s.pending → (up : Bool) → up ≡ true
    → is_some (open_session s.book) && up && is_idle series ≡ false → s.again_wait ≡ 0
no_wait Due s facts up is none = facts.1
no_wait Running s facts up is none = facts.1
no_wait Idle s facts up is none = by (open_session s.book) refl (sym (ap (λ (b : Bool). is_some (open_session s.book) && b && true) is) ∙ none)
  where
    by : (o : Option ℕ) → open_session s.book ≡ o → is_some o && true && true ≡ false → s.again_wait ≡ 0
    by None closed open_so = (facts.0.closed closed).1
    by (Some session) opened open_so = absurd (let bad : true ≡ false = open_so in cc)

put_well : (s : NodeState) (command : ℕ) → NodeFacts s → WaitsWell (after_occasion (after_put s command))
put_well s command facts =
    let put = after_put s command in
    well_either (is_open put && is_up put && is_idle put.series) (new_series put) put (λ is queued. inl refl)
    (λ is queued.
    let awake = (subst (λ (m : NoMoreState). NoMoreFacts m s.awake s.classes) queued facts.no_more).0 in
    inl (no_wait s.series s facts.series (is_up s) (or_right s.listens s.awake awake) is))

none_left : (command : ℕ) (l : List ℕ) → nat_lt 0 (length l) ≡ false → (nat_lt 0 (length (without l command)) ≡ false) × (nat_lt 0 (length (drop 1 l)) ≡ false)
none_left command [] none = (refl, refl)
none_left command (first ∷ rest) none = absurd (let least = ltb-false 0 (length (first ∷ rest)) none in omega (arith, least))

fewer_well : (s later : NodeState) → later.no_more ≡ s.no_more → later.again_wait ≡ s.again_wait → (has_waiting s ≡ false → has_waiting later ≡ false) → WaitsWell s → WaitsWell later
fewer_well s later same_told same_wait fewer well queued = by (well (sym same_told ∙ queued))
  where
    by : (s.again_wait ≡ 0) ⊎ (has_waiting s ≡ false) → (later.again_wait ≡ 0) ⊎ (has_waiting later ≡ false)
    by (inl none) = inl (same_wait ∙ none)
    by (inr none) = inr (fewer none)

no_command : (s : NodeState) → wants_no_more s ≡ true → has_waiting s ≡ false
no_command s wants = by (has_waiting s) (and_parts _ _ (and_parts _ _ (and_parts _ _ wants).0).0).1
  where
    by : (b : Bool) → is_false b ≡ true → b ≡ false
    by true is = absurd (let bad : false ≡ true = is in cc)
    by false is = refl

start_well : (s : NodeState) (plan : Plan) → WaitsWell s → WaitsWell (after_node s (node_starts plan))
start_well s Whole well = well
start_well s (Segments count) well = well
start_well s (Sealed plain) well = well

one_well : (n k : ℕ) (s : NodeState) (event : NodeEvent) → (k ≡ n → WaitsWell (after_node s event)) → WaitsWell s → WaitsWell (if k == n then after_node s event else s)
one_well n k s event own well = well_either (k == n) (after_node s event) s (λ is. own (eqb-true k n is)) (λ is. well)

wants_it : (nodes : List NodeState) (n : ℕ) → first_wanting nodes ≡ Some n → wants_no_more (node_among nodes n) ≡ true
wants_it nodes n least = (what_is_least (λ node. wants_no_more (node_among nodes node)) 0 n least).is_one

module _ (n : ℕ) (s : NodeState) (facts : NodeFacts s) (quiet : IsQuiet s) (well : WaitsWell s) where
  part_well : (k : ℕ) (end : PartEnd) (moment : Moment) → WaitsWell (does_at n s (part_does k end moment))
  part_well k Good moment = one_well n k s Succeeds (λ same. sign_well s well) well
  part_well k Passed_over moment = well
  part_well k Bad moment = one_well n k s (Ends_attempt moment) (λ same. end_well s moment quiet well) well

  task_well : (task : Task) → WaitsWell (does_at n s (task_does task))
  task_well (NoMore k) = one_well n k s Ends_no_more (λ same. slept_well (record s { no_more = Unasked }) not_unasked) well
  task_well task = well

  purpose_well : (purpose : Purpose) (how : How) (moment : Moment) → WaitsWell (does_at n s (purpose_does purpose how moment))
  purpose_well (Attempt k more payload) how moment = part_well k (part_end more how) moment
  purpose_well (Housekeeping task) how moment = task_well task
  purpose_well Abort how moment = well

  requests_well : (end : Option End) (moment : Moment) → WaitsWell (does_at n s (end_does end moment))
  requests_well None moment = well
  requests_well (Some end) moment = purpose_well end.purpose end.how moment

  failing_well : (gives : Bool) (h : HostState) → WaitsWell (does_at n s (failing_does gives h))
  failing_well true h = requests_well (end_at h.requests request_fails) BeforeItsTick
  failing_well false h = well

  held_well : (k : ℕ) (held : Bool) (t : NodeState) → WaitsWell t → WaitsWell (does_at n t (held_does k held))
  held_well k true t it = one_well n k t Holds (λ same. it) it
  held_well k false t it = it

  both_well : (k command : ℕ) → WaitsWell (does_at n s (record { node = k; event = Puts command } ∷ one_does k node_accepts))
  both_well k command = by (k == n)
    where
      by : (b : Bool) → WaitsWell (if b then after_occasion (if b then after_put s command else s) else (if b then after_put s command else s))
      by true = put_well s command facts
      by false = well

waits_event : (h : HostState) (event : HostEvent) (n : ℕ) → NodeFacts (node_of h n) → IsQuiet (node_of h n) → May h event → WaitsWell (node_of h n) → WaitsWell (does_at n (node_of h n) (did h event))
waits_event h (Accepts order carriage) n facts quiet may well = both_well n (node_of h n) facts quiet well order.node (length h.commands + 1)
waits_event h (Cancels command) n facts quiet may well =
    let s = node_of h n in one_well n (node_for h command) s (node_cancels command) (λ same. fewer_well s (after_node s (node_cancels command)) refl refl (λ none. (none_left command s.waiting none).0) well) well
waits_event h (Joins k) n facts quiet may well = one_well n k (node_of h n) node_joins (λ same. well) well
waits_event h (Requests_do event moment) n facts quiet may well = requests_well n (node_of h n) facts quiet well (end_at h.requests event) moment
waits_event h (Interviews k listens classes update) n facts quiet may well = one_well n k (node_of h n) (node_interviews listens classes) (λ same. well) well
waits_event h (Works k id) n facts quiet may well = let s = node_of h n in one_well n k s (Reports id 1) (λ same. told_well s 1 (told_of s.book id 1) well) well
waits_event h (Finishes k session id command status wake_request) n facts quiet may well =
    let s = node_of h n in
    let byte = status_byte status in
    held_well n s facts quiet well k (is_held h k wake_request) (if k == n then after_node s (Reports id byte) else s)
    (one_well n k s (Reports id byte) (λ same. told_well s byte (told_of s.book id byte) well) well)
waits_event h (Takes_nonce k seen text) n facts quiet may well = one_well n k (node_of h n) (node_takes_nonce seen text) (λ same. well) well
waits_event h (Notifies k) n facts quiet may well =
    let s = node_of h n in
    one_well n k s node_notifies (λ same. occasion_well (record s { awake = true; no_more = tried_again s.no_more }) (λ queued. well (tried_is s.no_more queued))) well
waits_event h Line_ticks n facts quiet may well = failing_well n (node_of h n) facts quiet well (gives_up h.side.turn (tick_side h.side).turn) h
waits_event h (Node_ticks k) n facts quiet may well = one_well n k (node_of h n) Ticks (λ same. ticks_well (node_of h n) quiet well) well
waits_event h (Queues_no_more k) n facts quiet may well =
    one_well n k (node_of h n) node_queues_no_more (λ same queued. inr (no_command (node_of h n) (subst (λ (m : ℕ). wants_no_more (node_of h m) ≡ true) same (wants_it h.nodes k may.0)))) well
waits_event h (Drops_no_more k) n facts quiet may well = one_well n k (node_of h n) node_drops_no_more (λ same queued. absurd (not_dropped queued)) well
waits_event h (Starts k plan more payload) n facts quiet may well = one_well n k (node_of h n) (node_starts plan) (λ same. start_well (node_of h n) plan well) well
waits_event h (Gives_text k payload) n facts quiet may well = one_well n k (node_of h n) node_gives_text (λ same. well) well
waits_event h (Gives_segment k more payload) n facts quiet may well = one_well n k (node_of h n) node_gives_segment (λ same. well) well
waits_event h (Begins k session command) n facts quiet may well =
    let s = node_of h n in one_well n k s node_begins (λ same. fewer_well s (after_node s node_begins) refl refl (λ none. (none_left 0 s.waiting none).1) well) well
waits_event h (Begin_unkept k) n facts quiet may well = one_well n k (node_of h n) Blocks (λ same. well) well
waits_event h event n facts quiet may well = well

-- ---- the tie

after_well : (h : HostState) (event : HostEvent) (n : ℕ) → HostWork h → May h event → 1 ≤ n → n ≤ 232 → WaitsWell (node_of h n) → WaitsWell (node_of (after h event) n)
after_well h event n work may from to well =
    let places = work.host.nodes.places in
    subst WaitsWell (sym (node_after h event n (omega (arith, places, to)))) (waits_event h event n (work.host.nodes.facts n) (work.work.each n).quiet may well)

pub well_last : Lasts KnowsWork WaitInOrder
well_last = record {
  loose = λ here at past told m all numbered ground tie. tie;
  numbers = λ here past m other ground later tie. tie;
  said = λ past words m none ground goes_on tie. tie;
  refused = λ past words line refusal m none ground later tie. tie;
  asked = λ line past m event is may numbered ground later tie n from to. after_well m.state event n (in_order (Asked line) past m ground.1) may.0 from to (tie n from to);
  starts = λ before words m state opens anew ground later n from to.
      each_starts WaitsWell (λ s queued. absurd (not_unasked queued)) (λ s queued. absurd (not_unasked queued)) (λ queued. absurd (not_unasked queued)) m.keys m.records state ground.0.0.0.0.told opens n from;
  opens = λ past h clock tie. tie;
  rises = λ past m ground tie. tie;
  judges = λ past m item rest behind told now ground later tie n from to. after_well m.state (Hears item) n (in_order Open past m ground.1) now.may.0 from to (tie n from to);
  does = λ here next past m event told may ground later tie n from to. after_well m.state event n (in_order here past m ground.1) may.1.0 from to (tie n from to);
  turn = λ here next past m other turns ground tie. tie;
}

blank_from : (number count m : ℕ) → WaitsWell (node_among (unknown_from number count) m)
blank_from number zero m = λ queued. absurd (not_unasked queued)
blank_from number (suc count) zero = λ queued. absurd (not_unasked queued)
blank_from number (suc count) (suc m) = blank_from (suc number) count m

first_at : (m : ℕ) → WaitsWell (node_among first_nodes m)
unfolding first_nodes unknown_nodes
first_at zero = λ queued. absurd (not_unasked queued)
first_at (suc zero) = λ queued. absurd (not_unasked queued)
first_at (suc (suc zero)) = λ queued. absurd (not_unasked queued)
first_at (suc (suc (suc m))) = blank_from 3 230 m

pub first_well : (keys : Keys) → WaitInOrder Resting [] (first_host keys) 0
first_well keys n from to = first_at n
