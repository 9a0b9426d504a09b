-- What holds of all nodes holds after an event of one of them.
use Rattle.std.proofs.Common.{◌≡◌, ℕ, ◌+◌, ◌-◌, ◌<◌, ◌≤◌, ◌==◌, ◌&&◌, nat_lt, Bool, true, false, if◌then◌else◌, Option, Some, None, List, length, get_or, set, slice_index_or, map, refl, sym, ap, subst, ◌∙◌, inl, inr, arith}
use Rattle.std.proofs.lemmas.Bool.{cases_eq, cases_lt}
use Rattle.std.proofs.lemmas.List.{get_or_default, get_or_past, get_or-set_same, get_or-set_other, length-set, map-set}
use Rattle.supervision.specs.Host.{told_of}
use Rattle.supervision.specs.declared.host_node.Told.{Told}
use Rattle.supervision.specs.declared.host_node.Told.TheVariants.{Final, Working, Old}
use Rattle.host_node.specs.declared.no_more.NoMore.TheVariants.{Unasked}
use Rattle.host_node.specs.declared.attempt.Plan.TheVariants.{Whole, Segments, Sealed}
use Rattle.host_node.specs.declared.attempt.Moment.{Moment}
use Rattle.host_node.specs.declared.attempt.Moment.TheVariants.{BetweenTicks}
use Rattle.host_node.specs.State.{NodeState, unknown, is_idle, is_running, is_up, is_open, has_waiting, has_work, needs_tick, wants_no_more}
use Rattle.host_node.specs.Steps.{with_again, with_wait, new_series, next_due, series_over, after_occasion, without_attempt, asleep, after_sleep, after_no_more, tried_again, after_attempts, after_attempt_end, after_sign, after_told, after_again, after_again_tick, after_attempt_tick, after_hold_tick, as_recorded}
use Rattle.host_node.specs.Events.{NodeEvent, after}
use Rattle.host_node.specs.Events.NodeEvent.{Joins, Interviews, Puts, Takes_back, Accepts, Cancels, Begins, Blocks, Starts, Gives_segment, Gives_text, Succeeds, Takes_nonce, Restores_seen, Ends_attempt, Reports, Holds, Notifies, Sleeps, Queues_no_more, Drops_no_more, Ends_no_more, Ticks, Restarts}
use Rattle.host_node.specs.Facts.{NodeFacts}
use Rattle.host_node.specs.TableState.{node_of, nodes_after}
use Rattle.host_node.specs.TableFacts.{NodesFacts}
use Rattle.host_node.specs.TableInside.{IsNodes, followed}
use Rattle.host_node.specs.Marks.{is_marked}
use Rattle.host_node.specs.Search.{least_above, next_of}
use Rattle.host_node.proofs.Searches.{least_by_same}
use Rattle.std.specs.Option.{option_or}
use Rattle.std.proofs.Math.ListN.{get_or-map}
use Rattle.host_node.specs.declared.agenda.Agenda.{Agenda}

-- ---- a node keeps its number

either : (test : Bool) (m k : NodeState) {n : ℕ} → m.node ≡ n → k.node ≡ n → (if test then m else k).node ≡ n
either true m k p q = p
either false m k p q = q

occasion : (n : NodeState) → (after_occasion n).node ≡ n.node
occasion n = either (is_open n && is_up n && is_idle n.series) (new_series n) n refl refl

slept : (n : NodeState) → (after_sleep n).node ≡ n.node
slept n = either n.listens n (asleep n) refl refl

ended : (n : NodeState) (moment : Moment) → (after_attempt_end n moment).node ≡ n.node
ended n moment =
    either (is_running n.series) (after_attempts (without_attempt n) (n.book.attempts + 1) moment) n
    (either (nat_lt (n.book.attempts + 1) 3) (next_due (without_attempt n) (n.book.attempts + 1)) (after_sleep (series_over (without_attempt n) (n.book.attempts + 1) moment))
    refl (slept (series_over (without_attempt n) (n.book.attempts + 1) moment)))
    refl

signed : (n : NodeState) → (after_sign n).node ≡ n.node
signed n = either (is_running n.series) (with_wait n 100) n refl refl

told : (n : NodeState) (status : ℕ) (t : Told) → (after_told n status t).node ≡ n.node
told n status (Final session) = refl
told n status Working = signed n
told n status Old = refl

begun_again : (n : NodeState) → (after_again n).node ≡ n.node
begun_again n = either (has_waiting n) (after_occasion n) n (occasion n) refl

again_ticked : (n : NodeState) → (after_again_tick n).node ≡ n.node
again_ticked n = either (n.again_wait == 1) (after_again (with_again n 0)) (with_again n (n.again_wait - 1)) (begun_again (with_again n 0)) refl

attempt_ticked : (n : NodeState) → (after_attempt_tick n).node ≡ n.node
attempt_ticked n = either (n.attempt_wait == 1) (after_attempt_end n BetweenTicks) (with_wait n (n.attempt_wait - 1)) (ended n BetweenTicks) refl

pub number_stays : (n : NodeState) (event : NodeEvent) → (after n event).node ≡ n.node
number_stays n Joins = refl
number_stays n (Interviews listens classes) = refl
number_stays n (Puts command) = refl
number_stays n Takes_back = refl
number_stays n Accepts = occasion n
number_stays n (Cancels command) = refl
number_stays n Begins = refl
number_stays n Blocks = refl
number_stays n (Starts Whole) = refl
number_stays n (Starts (Segments count)) = refl
number_stays n (Starts (Sealed plain)) = refl
number_stays n Gives_segment = refl
number_stays n Gives_text = refl
number_stays n Succeeds = signed n
number_stays n (Takes_nonce seen text) = refl
number_stays n (Restores_seen seen) = refl
number_stays n (Ends_attempt moment) = ended n moment
number_stays n (Reports id status) = told n status (told_of n.book id status)
number_stays n Holds = refl
number_stays n Notifies = occasion (record n { awake = true; no_more = tried_again n.no_more })
number_stays n Sleeps = slept n
number_stays n Queues_no_more = refl
number_stays n Drops_no_more = refl
number_stays n Ends_no_more = slept (after_no_more n Unasked)
number_stays n Ticks = attempt_ticked (after_again_tick (after_hold_tick n)) ∙ again_ticked (after_hold_tick n)
number_stays n Restarts = occasion (as_recorded n)

-- ---- all nodes, where one of them is so now

-- past the end nothing is set
pub set_past : (nodes : List NodeState) (node : ℕ) (state : NodeState) → length nodes ≤ node → node_of (set nodes node state) node ≡ node_of nodes node
set_past nodes node state past =
    let still : length (set nodes node state) ≤ node = omega (arith, length-set nodes node state, past) in
    get_or_past (set nodes node state) node (unknown 0) still ∙ sym (get_or_past nodes node (unknown 0) past)

node_with : (nodes : List NodeState) (node : ℕ) (state : NodeState) → NodeFacts state → NodeFacts (node_of nodes node) → NodeFacts (node_of (set nodes node state) node)
node_with nodes node state facts before = elim (cases_lt node (length nodes)) [
  | inl within ↦ rw get_or-set_same facts
  | inr past ↦ subst (λ (n : NodeState). NodeFacts n) (sym (set_past nodes node state past)) before
]

pub facts_with : (nodes : List NodeState) (node : ℕ) (state : NodeState) → NodesFacts nodes → (1 ≤ node → node ≤ 232 → state.node ≡ node) → NodeFacts state
    → NodesFacts (set nodes node state)
facts_with nodes node state f number facts = record {
  places = length-set nodes node state ∙ f.places;
  numbers = λ q from to. elim (cases_eq q node) [
    | inl same ↦
        let within : node < length nodes = omega (arith, f.places, same, to) in
        rw (same, get_or-set_same) (number (omega (arith, from, same)) (omega (arith, to, same)))
    | inr other ↦ rw get_or-set_other (f.numbers q from to)
  ];
  facts = λ q. elim (cases_eq q node) [
    | inl same ↦ rw same (node_with nodes node state facts (f.facts node))
    | inr other ↦ rw get_or-set_other (f.facts q)
  ];
}

pub each_keeps : (nodes : List NodeState) (node : ℕ) (event : NodeEvent) → NodesFacts nodes → NodeFacts (after (node_of nodes node) event) → NodesFacts (nodes_after nodes node event)
each_keeps nodes node event f facts =
    facts_with nodes node (after (node_of nodes node) event) f (λ from to. number_stays (node_of nodes node) event ∙ f.numbers node from to) facts

-- ---- the agenda follows

mark_follows : (test : NodeState → Bool) (nodes : List NodeState) (marks : List Bool) (node : ℕ) (state : NodeState) → marks ≡ map test nodes → state.node ≡ node
    → set marks state.node (test state) ≡ map test (set nodes node state)
mark_follows test nodes marks node state e number =
    ap (λ (k : ℕ). set marks k (test state)) number ∙ ap (λ (l : List Bool). set l node (test state)) e ∙ sym (map-set test nodes node state)

pub nodes_follow : (nodes : List NodeState) (agenda : Agenda) (node : ℕ) (state : NodeState) → IsNodes nodes agenda → 1 ≤ node → node ≤ 232
    → state.node ≡ node → NodeFacts state → IsNodes (set nodes node state) (followed agenda state)
nodes_follow nodes agenda node state is from to number facts = record {
  facts = facts_with nodes node state is.facts (λ _ _. number) facts;
  sets = record {
    work = mark_follows has_work nodes agenda.work node state is.sets.work number;
    ticking = mark_follows needs_tick nodes agenda.ticking node state is.sets.ticking number;
    wanting = mark_follows wants_no_more nodes agenda.wanting node state is.sets.wanting number;
  };
}

-- a node has had an event, and the agenda follows
pub after_event : (nodes : List NodeState) (old new : Agenda) (node : ℕ) (one state : NodeState) (event : NodeEvent) → IsNodes nodes old → 1 ≤ node → node ≤ 232
    → one ≡ get_or nodes node one → state ≡ after one event → new ≡ followed old state → NodeFacts state → IsNodes (set nodes node state) new
after_event nodes old new node one state event is from to stood done follows facts =
    let stood_here : one ≡ node_of nodes node = stood ∙ get_or_default nodes node one (unknown 0) (omega (arith, is.facts.places, to)) in
    let number : state.node ≡ node
    = ap (λ (n : NodeState). n.node) done ∙ number_stays one event ∙ ap (λ (n : NodeState). n.node) stood_here ∙ is.facts.numbers node from to in
    subst (λ (agenda : Agenda). IsNodes (set nodes node state) agenda) (sym follows) (nodes_follow nodes old node state is from to number facts)

-- ---- a search by marks is one by nodes

never_past : (test : NodeState → Bool) (nodes : List NodeState) (n : ℕ) → test (unknown 0) ≡ false → slice_index_or (map test nodes) n false ≡ test (node_of nodes n)
never_past test nodes n never = ap (λ (b : Bool). slice_index_or (map test nodes) n b) (sym never) ∙ get_or-map test nodes n (unknown 0)

pub least_by_marks : (test : NodeState → Bool) (nodes : List NodeState) (marks : List Bool) (number : ℕ) → test (unknown 0) ≡ false → marks ≡ map test nodes
    → least_above (is_marked marks) number ≡ least_above (λ n. test (node_of nodes n)) number
least_by_marks test nodes marks number never e =
    least_by_same (is_marked marks) (λ n. test (node_of nodes n)) number (λ n. rw e (never_past test nodes n never))

none_then : (first second : Option ℕ) → first ≡ None → option_or first second ≡ second
none_then None second e = refl
none_then (Some n) second e = cc

-- none above the one served, so the least of all is next
pub next_by_marks : (nodes : List NodeState) (marks : List Bool) (served : ℕ) (first second : Option ℕ) → marks ≡ map has_work nodes
    → first ≡ least_above (is_marked marks) served → first ≡ None → second ≡ least_above (is_marked marks) 0 → second ≡ next_of nodes served
next_by_marks nodes marks served first second e above none least =
    let works : ℕ → Bool = λ n. has_work (node_of nodes n) in
    let none_above : least_above works served ≡ None = sym (least_by_marks has_work nodes marks served refl e) ∙ sym above ∙ none in
    least ∙ least_by_marks has_work nodes marks 0 refl e ∙ sym (none_then (least_above works served) (least_above works 0) none_above)
