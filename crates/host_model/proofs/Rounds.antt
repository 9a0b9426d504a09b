-- Events of a pump, a tick and a message, one turn after another.
use Rattle.std.proofs.Common.{◌≡◌, ◌≢◌, ℕ, zero, suc, ◌+◌, ◌≤◌, ◌<◌, Bool, true, false, cond, Option, Some, None, List, [], ◌∷◌, ◌++◌, map, filter, inl, inr, refl, sym, ap, ◌∙◌, subst, append_assoc, arith}
use Rattle.std.specs.List.{range_with_len}
use Rattle.std.proofs.lemmas.Bool.{cases_eq}
use Rattle.std.proofs.lemmas.List.{append-nil, map-append, get_or-set_other}
use Rattle.std.proofs.lemmas.List.Elements.{filter-append}
use Rattle.zw_base.specs.declared.property.Setting.{Setting}
use Rattle.host_heard.specs.declared.told.Told.{Told}
use Rattle.host_node.specs.declared.attempt.AttemptEnd.{AttemptEnd}
use Rattle.host_node.specs.declared.attempt.AttemptEnd.TheVariants.{NoneRan, Again, Unanswered}
use Rattle.host_node.specs.State.{NodeState, unknown, needs_tick}
use Rattle.host_node.specs.Steps.{tick_end}
use Rattle.host_node.specs.Events.{after as after_node}
use Rattle.host_node.specs.Events.NodeEvent.{Ticks as node_ticks}
use Rattle.host_node.specs.TableState.{node_of as node_among}
use Rattle.host_node.specs.Search.{first_wanting, ticking_above}
use Rattle.host_node.proofs.Searches.{what_is_least, where_is_none}
use Rattle.host_model.specs.State.{HostState, node_of}
use Rattle.host_model.specs.Sessions.{open_command}
use Rattle.host_model.specs.Ends.{attempt_ended}
use Rattle.host_model.specs.After.{after, node_does}
use Rattle.host_model.specs.Did.{after_all}
use Rattle.host_model.specs.Events.{HostEvent, Node_ticks}
use Rattle.host_model.specs.Pumping.{no_more_event, LetsSome, LetsSleep, IsNext, IsPumped, SubmitsSome, Submits}
use Rattle.host_model.specs.Taking.{IsTaken, AreTaken, value_event, value_events}
use Rattle.host_model.specs.Ticking.{ticking_to, ticking_nodes, TickedTo}
use Rattle.host_model.proofs.EventLists.{after_all-append}

-- ---- a pump

pub lets_one_more : (h : HostState) (events : List HostEvent) (n : ℕ) → LetsSome h events → first_wanting (after_all h events).nodes ≡ Some n
    → LetsSome h (events ++ no_more_event (after_all h events) n ∷ [])
lets_one_more h [] n some least = (n, least, refl, tt)
lets_one_more h (event ∷ events) n some least = (some.0, some.1, some.2, lets_one_more (after h event) events n some.3 least)

pub lets_all : (h : HostState) (events : List HostEvent) → LetsSome h events → first_wanting (after_all h events).nodes ≡ None → LetsSleep h events
lets_all h [] some none = none
lets_all h (event ∷ events) some none = (some.0, some.1, some.2, lets_all (after h event) events some.3 none)

pub submits_one_more : (h : HostState) (events : List HostEvent) (event : HostEvent) → SubmitsSome h events → IsNext (after_all h events) event → SubmitsSome h (events ++ event ∷ [])
submits_one_more h [] event some next = (next, tt)
submits_one_more h (first ∷ events) event some next = (some.0, submits_one_more (after h first) events event some.1 next)

pub submits_all : (h : HostState) (events : List HostEvent) → SubmitsSome h events → IsPumped (after_all h events) → Submits h events
submits_all h [] some pumped = pumped
submits_all h (event ∷ events) some pumped = (some.0, submits_all (after h event) events some.1 pumped)

-- ---- messages

pub values-append : (h : HostState) (n : ℕ) (a b : List Setting) → value_events h n (a ++ b) ≡ value_events h n a ++ value_events (after_all h (value_events h n a)) n b
values-append h n [] b = refl
values-append h n (s ∷ a) b = ap (λ (l : List HostEvent). value_event h n s ∷ l) (values-append (after h (value_event h n s)) n a b)

pub taken-append : (h : HostState) (n : ℕ) (payload : List ℕ) (sealed : Bool) (a b : List Told) (x y : List HostEvent) → AreTaken h n payload sealed a x
    → AreTaken (after_all h x) n payload sealed b y → AreTaken h n payload sealed (a ++ b) (x ++ y)
taken-append h n payload sealed [] b x y first later =
    subst (λ (l : List HostEvent). AreTaken h n payload sealed b (l ++ y)) (sym first) (subst (λ (l : List HostEvent). AreTaken (after_all h l) n payload sealed b y) first later)
taken-append h n payload sealed (message ∷ more) b x y first later =
    let parts : x ≡ first.0 ++ first.1 = first.2 in
    let state : after_all h x ≡ after_all (after_all h first.0) first.1 = ap (λ (l : List HostEvent). after_all h l) parts ∙ after_all-append h first.0 first.1 in (
      first.0,
      first.1 ++ y,
      ap (λ (l : List HostEvent). l ++ y) parts ∙ append_assoc first.0 first.1 y,
      first.3,
      taken-append (after_all h first.0) n payload sealed more b first.1 y first.4 (subst (λ (s : HostState). AreTaken s n payload sealed b y) state later),
    )

pub taken_one : (h : HostState) (n : ℕ) (payload : List ℕ) (sealed : Bool) (message : Told) (events : List HostEvent) → IsTaken h n payload sealed message events
    → AreTaken h n payload sealed (message ∷ []) events
taken_one h n payload sealed message events taken = (events, [], sym (append-nil events), taken, refl)

-- ---- a tick

range_more : (a n : ℕ) → range_with_len a (suc n) ≡ range_with_len a n ++ (a + n) ∷ []
range_more a zero = let e : a ≡ a + 0 = omega arith in ap (λ k. k ∷ []) e
range_more a (suc n) =
    let e : a + 1 + n ≡ a + suc n = omega arith in
    ap (λ (l : List ℕ). a ∷ l) (range_more (a + 1) n ∙ ap (λ k. range_with_len (a + 1) n ++ k ∷ []) e)

filter_more : (p : ℕ → Bool) (k : ℕ) → filter p (range_with_len 1 (suc k)) ≡ filter p (range_with_len 1 k) ++ cond (p (suc k)) (suc k ∷ []) []
filter_more p k =
    let e : 1 + k ≡ suc k = omega arith in
    ap (λ (l : List ℕ). filter p l) (range_more 1 k) ∙ filter-append p (range_with_len 1 k) ((1 + k) ∷ [])
    ∙ ap (λ m. filter p (range_with_len 1 k) ++ cond (p m) (m ∷ []) []) e

none_between : (p : ℕ → Bool) (last k : ℕ) → last ≤ k → ((other : ℕ) → last < other → other ≤ k → p other ≡ false) → filter p (range_with_len 1 k) ≡ filter p (range_with_len 1 last)
none_between p last zero within none = let e : zero ≡ last = omega (arith, within) in ap (λ m. filter p (range_with_len 1 m)) e
none_between p last (suc k) within none = elim (cases_eq last (suc k)) [
  | inl same ↦ ap (λ m. filter p (range_with_len 1 m)) (sym same)
  | inr other ↦
      filter_more p k ∙ ap (λ (b : Bool). filter p (range_with_len 1 k) ++ cond b (suc k ∷ []) []) (none (suc k) (omega (arith, within, other)) (omega arith))
      ∙ append-nil (filter p (range_with_len 1 k)) ∙ none_between p last k (omega (arith, within, other)) (λ o above below. none o above (omega (arith, below)))
]

next_in : (p : ℕ → Bool) (last n : ℕ) → last < n → p n ≡ true → ((other : ℕ) → last < other → other < n → p other ≡ false)
    → filter p (range_with_len 1 n) ≡ filter p (range_with_len 1 last) ++ n ∷ []
next_in p last zero above is none = absurd (omega (arith, above))
next_in p last (suc k) above is none =
    filter_more p k ∙ ap (λ (b : Bool). filter p (range_with_len 1 k) ++ cond b (suc k ∷ []) []) is
    ∙ ap (λ (l : List ℕ). l ++ suc k ∷ []) (none_between p last k (omega (arith, above)) (λ o over below. none o over (omega (arith, below))))

-- an attempt that ended leaves the nodes
nodes_stay : (h : HostState) (end : AttemptEnd) (command : Option ℕ) → (attempt_ended h end command).nodes ≡ h.nodes
nodes_stay h NoneRan command = refl
nodes_stay h Again command = refl
nodes_stay h (Unanswered fell) None = refl
nodes_stay h (Unanswered fell) (Some command) = refl

others_stay : (h : HostState) (n m : ℕ) → m ≢ n → node_of (after h (Node_ticks n)) m ≡ node_of h m
others_stay h n m other =
    ap (λ (l : List NodeState). node_among l m) (nodes_stay (node_does h n node_ticks) (tick_end (node_of h n)) (open_command (node_of h n)))
    ∙ get_or-set_other h.nodes n m (after_node (node_of h n) node_ticks) (unknown 0) other

pub none_ticked : (h : HostState) → TickedTo h h 0 []
none_ticked h = record { ticked = refl; above = λ n over. refl }

pub one_more_ticked : (first now : HostState) (last : ℕ) (events : List HostEvent) (n : ℕ) → TickedTo first now last events → ticking_above now.nodes last ≡ Some n
    → TickedTo first (after now (Node_ticks n)) n (events ++ Node_ticks n ∷ [])
one_more_ticked first now last events n t least =
    let f = what_is_least (λ m. needs_tick (node_among now.nodes m)) last n least in
    let over : last < n = omega (arith, f.from) in
    let here : ticking_to first n ≡ ticking_to first last ++ n ∷ []
    = next_in (λ m. needs_tick (node_of first m)) last n over (ap (λ (s : NodeState). needs_tick s) (sym (t.above n over)) ∙ f.is_one)
    (λ o above below. ap (λ (s : NodeState). needs_tick s) (sym (t.above o above)) ∙ f.before o (omega (arith, above)) below) in
    record {
      ticked = ap (λ (l : List HostEvent). l ++ Node_ticks n ∷ []) t.ticked ∙ sym (map-append Node_ticks (ticking_to first last) (n ∷ [])) ∙ ap (λ (l : List ℕ). map Node_ticks l) (sym here);
      above = λ m past. others_stay now n m (λ e. absurd (omega (arith, e, past))) ∙ t.above m (omega (arith, past, over));
    }

pub all_ticked : (first now : HostState) (last : ℕ) (events : List HostEvent) → TickedTo first now last events → last ≤ 232 → ticking_above now.nodes last ≡ None
    → events ≡ map Node_ticks (ticking_nodes first)
unfolding ticking_nodes
all_ticked first now last events t within none =
    let f = where_is_none (λ m. needs_tick (node_among now.nodes m)) last none in
    t.ticked ∙ ap (λ (l : List ℕ). map Node_ticks l) (sym (none_between (λ m. needs_tick (node_of first m)) last 232 within
    (λ o above below. ap (λ (s : NodeState). needs_tick s) (sym (t.above o above)) ∙ f.all o (omega (arith, above)) (omega (arith, above, below)))))
