-- Which events of a tick are left, at each step of a host alone; and each node with a wait is among them when those of the line and of the request are over.
use Rattle.std.proofs.Common.{◌≡◌, ℕ, zero, suc, ◌+◌, ◌<◌, ◌≤◌, ◌==◌, ◌||◌, Bool, true, false, if◌then◌else◌, inl, inr, List, [], ◌∷◌, map, filter, refl, sym, ap, ◌∙◌, subst, arith}
use Rattle.std.specs.List.{AllByRecursion, range_with_len}
use Rattle.std.proofs.lemmas.Bool.{cases_eq, eq-eqb, ne_eqb, or_left, or_right}
use Rattle.zw_base.proofs.Each.{all-weaker}
use Rattle.serial_frame.specs.Items.{unit_text}
use Rattle.serial_frame.specs.declared.item.Item.{Item}
use Rattle.serial_frame.specs.declared.item.Item.TheVariants.{Good, Refused}
use Rattle.serial_frame.specs.declared.unit.Unit.TheVariants.{Ack, Nak, Can, Framed}
use Rattle.serial_link.specs.declared.turn.Turn.{Turn}
use Rattle.host_requests.specs.Events.{RequestsEvent}
use Rattle.host_requests.specs.Events.RequestsEvent.{Fails as request_fails, IsSent as request_is_sent}
use Rattle.host_node.specs.State.{needs_tick}
use Rattle.proof_requests.specs.host_model.State.{HostState, node_of}
use Rattle.proof_requests.specs.host_model.After.{after, gives_up, is_busy}
use Rattle.proof_requests.specs.host_model.Events.{HostEvent, Accepts, Begins, Hears, Line_ticks, Node_ticks, Queues, Requests_do}
use Rattle.proof_requests.specs.host_model.Taking.{IsFollowed, told_if}
use Rattle.proof_requests.specs.host_model.Ticking.{ticking_nodes}
use Rattle.proof_requests.specs.proof_alone.State.{HostMachine}
use Rattle.proof_requests.specs.proof_alone.Phases.{Phase, Resting, Asked, Risen, Ticking, Open, Behind, Sleeping, Submitting, GoesBy, Turns}
use Rattle.proof_requests.specs.proof_alone.Runs.{Knowledge}
use Rattle.proof_attempts.proofs.Finishing.{Brings, frame_brings}
use Rattle.proof_attempts.specs.Since.{AreNodeTicks, InTick, IsOfItem, Lasts, TicksAt, TicksLeft, is_to_tick}

-- ---- the events that are left

-- of nodes up to a number each ticks once
none_below : (p : ℕ → Bool) (from count n : ℕ) → n < from → is_to_tick n (map Node_ticks (filter p (range_with_len from count))) ≡ false
none_below p from zero n below = refl
none_below p from (suc count) n below = by (p from) (none_below p (from + 1) count n (omega (arith, below)))
  where
    by : (b : Bool) → is_to_tick n (map Node_ticks (filter p (range_with_len (from + 1) count))) ≡ false
        → is_to_tick n (map Node_ticks (if b then from ∷ filter p (range_with_len (from + 1) count) else filter p (range_with_len (from + 1) count))) ≡ false
    by true rest = ap (λ (b : Bool). b || is_to_tick n (map Node_ticks (filter p (range_with_len (from + 1) count)))) (ne_eqb from n (λ same. absurd (omega (arith, below, same)))) ∙ rest
    by false rest = rest

nodes_once : (p : ℕ → Bool) (from count : ℕ) → AreNodeTicks (map Node_ticks (filter p (range_with_len from count)))
nodes_once p from zero = tt
nodes_once p from (suc count) = by (p from) (nodes_once p (from + 1) count)
  where
    by : (b : Bool) → AreNodeTicks (map Node_ticks (filter p (range_with_len (from + 1) count)))
        → AreNodeTicks (map Node_ticks (if b then from ∷ filter p (range_with_len (from + 1) count) else filter p (range_with_len (from + 1) count)))
    by true rest = (none_below p (from + 1) count from (omega arith), rest)
    by false rest = rest

nodes_all : (h : HostState) → AreNodeTicks (map Node_ticks (ticking_nodes h))
unfolding ticking_nodes
nodes_all h = nodes_once (λ n. needs_tick (node_of h n)) 1 232

all_left : (h : HostState) (left : List HostEvent) → AreNodeTicks left → TicksLeft h left
all_left h [] all = tt
all_left h (Node_ticks n ∷ left) all = all
all_left h (event ∷ left) all = absurd all

-- ---- the events behind an item

told_between : (told : Bool) (event : RequestsEvent) (events : List HostEvent) → events ≡ told_if told event → AllByRecursion IsOfItem events
told_between true event events is = subst (λ (l : List HostEvent). AllByRecursion IsOfItem l) (sym is) (refl, tt)
told_between false event events is = subst (λ (l : List HostEvent). AllByRecursion IsOfItem l) (sym is) tt

frame_between : (unit : List ℕ) (event : HostEvent) → Brings unit event → IsOfItem event
frame_between unit Line_ticks brings = absurd brings
frame_between unit (Node_ticks n) brings = absurd brings
frame_between unit (Requests_do event moment) brings = brings
frame_between unit (Accepts order carriage) brings = absurd brings
frame_between unit (Queues task) brings = absurd brings
frame_between unit (Begins n session command) brings = absurd brings
frame_between unit event brings = tt

followed_between : (h : HostState) (turn : Turn) (item : Item) (events : List HostEvent) → IsFollowed h turn item events → AllByRecursion IsOfItem events
followed_between h turn (Good Ack) events is = told_between (is_busy turn) request_is_sent events is
followed_between h turn (Good Nak) events is = told_between (gives_up turn h.side.turn) request_fails events is
followed_between h turn (Good Can) events is = told_between (gives_up turn h.side.turn) request_fails events is
followed_between h turn (Good (Framed f)) events is =
    let unit : List ℕ = unit_text (Framed f) in all-weaker (Brings unit) IsOfItem (frame_between unit) events (frame_brings h f events is)
followed_between h turn (Refused refusal) events is = subst (λ (l : List HostEvent). AllByRecursion IsOfItem l) (sym is) tt

-- ---- at each phase

next_at : (next to : Phase) (h : HostState) (clock : ℕ) → next ≡ to → TicksAt to h clock → TicksAt next h clock
next_at next to h clock is at = subst (λ (p : Phase). TicksAt p h clock) (sym is) at

ticks_does : (here next : Phase) (h : HostState) (clock : ℕ) (event : HostEvent) → GoesBy here h event next → TicksAt here h clock → TicksAt next (after h event) clock
ticks_does (Ticking (Line_ticks ∷ left)) next h clock event goes at =
    next_at next (Ticking left) (after h event) clock goes.1
    (subst (λ (e : HostEvent). TicksLeft (after h e) left) (sym goes.0) (subst (λ (l : List HostEvent). TicksLeft (after h Line_ticks) l) (sym at.0) (refl, refl)), at.1)
ticks_does (Ticking (Requests_do told moment ∷ left)) next h clock event goes at =
    next_at next (Ticking left) (after h event) clock goes.1
    (subst (λ (l : List HostEvent). TicksLeft (after h event) l) (sym at.0.1) (all_left (after h event) _ (nodes_all (after h (Requests_do told moment)))), at.1)
ticks_does (Ticking (Node_ticks n ∷ left)) next h clock event goes at = next_at next (Ticking left) (after h event) clock goes.1 (all_left (after h event) left at.0.1, at.1)
ticks_does (Ticking (first ∷ left)) next h clock event goes at = absurd at.0
ticks_does (Behind (first ∷ left)) next h clock event goes at = next_at next (Behind left) (after h event) clock goes.1 at.1
ticks_does Sleeping next h clock event (node, wants, is, to_is) at = next_at next Sleeping (after h event) clock to_is tt
ticks_does Submitting next h clock event goes at = next_at next Submitting (after h event) clock goes.1 tt
ticks_does here next h clock event goes at = absurd goes

ticks_turn : (here next : Phase) (m : HostMachine) → Turns here m next → TicksAt here m.state m.clock → TicksAt next m.state m.clock
ticks_turn Resting next m is at = next_at next Open m.state m.clock is tt
ticks_turn (Asked line) next m (inl (nothing, is)) at = next_at next Open m.state m.clock is tt
ticks_turn (Asked line) next m (inr (ticks, line_is, is)) at = next_at next Resting m.state m.clock is tt
ticks_turn Risen next m is at = next_at next (Ticking _) m.state m.clock is (refl, at)
ticks_turn (Ticking []) next m is at = next_at next Open m.state m.clock is tt
ticks_turn (Ticking (event ∷ left)) next m is at = absurd is
ticks_turn Open next m is at = next_at next Sleeping m.state m.clock is tt
ticks_turn (Behind []) next m is at = next_at next Open m.state m.clock is tt
ticks_turn (Behind (event ∷ left)) next m is at = absurd is
ticks_turn Sleeping next m is at = next_at next Submitting m.state m.clock is.1 tt
ticks_turn Submitting next m is at = next_at next Resting m.state m.clock is.1 tt

pub ticks_last : (Ground : Knowledge) → Lasts Ground InTick
ticks_last Ground = record {
  loose = λ here at past told m all numbered ground tie. tie;
  numbers = λ here past m other ground later tie. tie;
  said = λ past words m none ground goes_on tie. tt;
  refused = λ past words line refusal m none ground later tie. tt;
  asked = λ line past m event is may numbered ground later tie. tt;
  starts = λ before words m state opens anew ground later. tt;
  opens = λ past h clock tie. tt;
  rises = λ past m ground tie. omega arith;
  judges = λ past m item rest behind told now ground later tie. followed_between (after m.state (Hears item)) m.state.side.turn item behind now.followed;
  does = λ here next past m event told may ground later tie. ticks_does here next m.state m.clock event may.0 tie;
  turn = λ here next past m other turns ground tie. ticks_turn here next m turns tie;
}

-- ---- the nodes that are to tick

among : (p : ℕ → Bool) (from count n : ℕ) → from ≤ n → n < from + count → p n ≡ true → is_to_tick n (map Node_ticks (filter p (range_with_len from count))) ≡ true
among p from zero n least most so = absurd (omega (arith, least, most))
among p from (suc count) n least most so = elim (cases_eq from n) [
  | inl same ↦ here (p from) (ap p same ∙ so) (eq-eqb from n same)
  | inr other ↦ there (p from) (among p (from + 1) count n (omega (arith, least, other)) (omega (arith, most)) so)
]
  where
    here : (b : Bool) → b ≡ true → (from == n) ≡ true
        → is_to_tick n (map Node_ticks (if b then from ∷ filter p (range_with_len (from + 1) count) else filter p (range_with_len (from + 1) count))) ≡ true
    here true is at = or_left (from == n) _ at
    here false is at = absurd (let bad : false ≡ true = is in cc)

    there : (b : Bool) → is_to_tick n (map Node_ticks (filter p (range_with_len (from + 1) count))) ≡ true
        → is_to_tick n (map Node_ticks (if b then from ∷ filter p (range_with_len (from + 1) count) else filter p (range_with_len (from + 1) count))) ≡ true
    there true rest = or_right (from == n) _ rest
    there false rest = rest

-- each node with a wait is one
pub waits_tick : (h : HostState) (n : ℕ) → 1 ≤ n → n ≤ 232 → needs_tick (node_of h n) ≡ true → is_to_tick n (map Node_ticks (ticking_nodes h)) ≡ true
unfolding ticking_nodes
waits_tick h n from to needs = among (λ k. needs_tick (node_of h k)) 1 232 n from (omega (arith, to)) needs
