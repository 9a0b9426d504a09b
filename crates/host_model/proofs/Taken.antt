-- An order is accepted.
use Rattle.std.proofs.Common.{◌≡◌, ℕ, suc, ◌+◌, ◌<◌, ◌≤◌, ◌==◌, ◌||◌, ◌&&◌, Bool, true, false, if◌then◌else◌, is_some, IsTrue, List, [], ◌∷◌, ◌++◌, length, set, Some, None, All, inl, inr, refl, sym, ap, ◌∙◌, subst, arith, append_assoc}
use Rattle.std.specs.Prelude.{slice_get}
use Rattle.std.specs.List.{flat_map}
use Rattle.std.specs.FinMap as finmap
use Rattle.std.proofs.lemmas.Bool.{cases_eq, eqb-true, eq-eqb}
use Rattle.std.proofs.lemmas.List.{length-set, length-map, map-append}
use Rattle.std.proofs.lemmas.List.Elements.{All-append, All-weaker}
use Rattle.std.proofs.lemmas.List.Folds.{list_any-append}
use Rattle.std.proofs.lemmas.Grind.{flat_map-append}
use Rattle.zw_base.specs.PropertyOrder.{same_property}
use Rattle.zw_base.specs.declared.property.Property.{Property}
use Rattle.zw_base.specs.declared.order.Order.{Order}
use Rattle.zw_text.specs.declared.entry.Outcome.{Outcome}
use Rattle.zw_text.specs.declared.entry.Outcome.TheVariants as outcome
use Rattle.s0_session.specs.Nonces.{account_of}
use Rattle.value_store.specs.declared.stored.Stored.{Stored}
use Rattle.value_store.specs.Values.{Values, IsReserved, stored_of, reserving, is_among as is_property_among}
use Rattle.host_orders.specs.Settings.{settings, properties_of}
use Rattle.host_orders.specs.declared.carriage.Carriage.{Carriage}
use Rattle.host_node.specs.State.{NodeState, unknown}
use Rattle.host_node.specs.Steps.{after_put}
use Rattle.host_node.specs.Events.NodeEvent.{Puts as node_puts}
use Rattle.host_keep.specs.Kept.{Kept, KeptNode, Taken, blank_node, node_of as kept_of_node, confirmed_in, properties_for}
use Rattle.host_model.specs.State.{HostState, Command, node_of, command_at}
use Rattle.host_model.specs.After.{node_does}
use Rattle.host_model.specs.Facts.{IsCommandOf, OwnsCommands}
use Rattle.host_model.proofs.Numbered.{pushed_at}
use Rattle.host_model.specs.Holding.{HoldsNode, Holds, Rise, commands_of, as_kept, is_one_cancelled, taken_as}
use Rattle.host_model.proofs.Rising.{rise-push}
use Rattle.host_model.proofs.Places.{both_set, one_set}
use Rattle.host_model.proofs.NumberedRecords.{push_other, found_within}
use Rattle.host_model.proofs.Outcomes.{Outcomes, outcomes_then, Cancels, among_last, among_other}
use Rattle.host_model.proofs.Values.{stored-reserving, reserved-reserving}
use Rattle.host_model.proofs.Confirmed.{confirmed_in-more}
use Rattle.host_model.proofs.Begun.{waits_so, alike_so}

-- the order as a command that waits
abbrev pub waiting_as : Order → Carriage → Command
waiting_as order carriage = record { order = order; carriage = carriage; outcome = outcome.Waiting }

-- what is kept of a node with one more command that waits
abbrev pub more : KeptNode → ℕ → KeptNode
more node command = record node { waiting = node.waiting ++ command ∷ [] }

-- ---- numbers

got_past : (commands : List Command) → slice_get commands (length commands) ≡ None
got_past [] = refl
got_past (first ∷ rest) = got_past rest

none_past : (commands : List Command) → command_at commands (length commands + 1) ≡ None
none_past commands = let e : length commands + 1 ≡ suc (length commands) = omega arith in ap (λ k. command_at commands k) e ∙ got_past commands

pub cancels_then : (commands : List Command) (cancelled : List ℕ) (one : Command) → is_one_cancelled (Some one) ≡ false → Cancels commands cancelled → Cancels (commands ++ one ∷ []) cancelled
cancels_then commands cancelled one not all number = elim (cases_eq number (length commands + 1)) [
  | inl same ↦
      all number ∙ ap (λ (k : ℕ). is_one_cancelled (command_at commands k)) same ∙ ap is_one_cancelled (none_past commands) ∙ sym not
      ∙ ap is_one_cancelled (sym (pushed_at commands one)) ∙ ap (λ (k : ℕ). is_one_cancelled (command_at (commands ++ one ∷ []) k)) (sym same)
  | inr other ↦ all number ∙ ap is_one_cancelled (sym (push_other commands one number other))
]

-- what is a command has a number
pub owned_within : (commands : List Command) (n : ℕ) (numbers : List ℕ) → All (IsCommandOf commands n) numbers → All (λ number. number ≤ length commands) numbers
owned_within commands n numbers all =
    All-weaker (IsCommandOf commands n) (λ number. number ≤ length commands) (λ number one. found_within commands number one.command one.found) numbers all

-- ---- properties

pub same_either : (a b : ℕ) → (a == b) ≡ (b == a)
same_either a b = by (a == b) (b == a) refl refl
  where
    by : (s t : Bool) → (a == b) ≡ s → (b == a) ≡ t → s ≡ t
    by true true e f = refl
    by true false e f = let g = eq-eqb b a (sym (eqb-true a b e)) in cc
    by false true e f = let g = eq-eqb a b (sym (eqb-true b a f)) in cc
    by false false e f = refl

among_own : (same : Bool) (l : List Property) (p : Property) → is_property_among ((if same then l else []) ++ []) p ≡ (same && is_property_among l p)
among_own true l p = list_any-append (same_property p) l [] ∙ none_or (is_property_among l p)
  where
    none_or : (b : Bool) → (b || false) ≡ b
    none_or true = refl
    none_or false = refl
among_own false l p = refl

-- the properties that are kept of a node, with those of one more command
pub properties-more : (commands : List Taken) (one : Taken) (n : ℕ) (p : Property)
    → is_property_among (flat_map (properties_for n) (commands ++ one ∷ [])) p
    ≡ (is_property_among (flat_map (properties_for n) commands) p || ((n == one.order.node) && is_property_among (properties_of (settings one.carriage.actuator one.order)) p))
properties-more commands one n p =
    ap (λ (l : List Property). is_property_among l p) (flat_map-append (properties_for n) commands (one ∷ []))
    ∙ list_any-append (same_property p) (flat_map (properties_for n) commands) (flat_map (properties_for n) (one ∷ []))
    ∙ ap (λ (b : Bool). is_property_among (flat_map (properties_for n) commands) p || b)
    (among_own (one.order.node == n) (properties_of (settings one.carriage.actuator one.order)) p
    ∙ ap (λ (b : Bool). b && is_property_among (properties_of (settings one.carriage.actuator one.order)) p) (same_either one.order.node n))

or_later : (a b c : Bool) → (a ≡ true → c ≡ true) → (a || b) ≡ true → (b || c) ≡ true
or_later true true c f e = refl
or_later true false c f e = f refl
or_later false true c f e = refl
or_later false false c f e = cc

or_sooner : (a b c : Bool) → (c ≡ true → a ≡ true) → (b || c) ≡ true → (a || b) ≡ true
or_sooner true b c f e = refl
or_sooner false true c f e = refl
or_sooner false false true f e = f refl
or_sooner false false false f e = cc

module _ (h : HostState) (kept : Kept) (order : Order) (carriage : Carriage) (taken : Taken) (is : taken ≡ taken_as (waiting_as order carriage)) (within : order.node < length kept.nodes)
    (owns : (n : ℕ) → OwnsCommands h.commands n (node_of h n)) (x : Holds h kept) where
  abbrev n : ℕ
  n = order.node

  abbrev node : KeptNode
  node = kept_of_node kept n

  abbrev number : ℕ
  number = length h.commands + 1

  abbrev one : Command
  one = waiting_as order carriage

  abbrev then_node : KeptNode
  then_node = more node number

  abbrev pub taken_kept : Kept
  taken_kept = record { commands = kept.commands ++ taken ∷ []; cancelled = kept.cancelled; nodes = set kept.nodes n then_node }

  abbrev properties : List Property
  properties = properties_of (settings carriage.actuator order)

  abbrev store_now : Values
  store_now = reserving h.store n properties

  some_is : (a b : Command) → Some a ≡ Some b → a ≡ b
  some_is a b e = cc

  pub taken_outcomes : (says : Outcome → Outcome) → says outcome.Waiting ≡ outcome.Waiting → Outcomes says h.commands kept.nodes → Outcomes says (h.commands ++ one ∷ []) (set kept.nodes n then_node)
  taken_outcomes says so all = outcomes_then says h.commands (h.commands ++ one ∷ []) kept.nodes n number then_node within
      (λ command found.
      let same : one ≡ command = some_is one command (sym (pushed_at h.commands one) ∙ found) in
      (ap (λ (c : Command). says c.outcome) (sym same) ∙ so ∙ sym (waits_so then_node number (among_last node.waiting number)), ap (λ (c : Command). c.order.node) (sym same)))
      (λ other apart. push_other h.commands one other apart)
      (λ other apart. alike_so then_node node other (among_other node.waiting number other apart) refl) all

  below : (numbers : List ℕ) → All (IsCommandOf h.commands n) numbers → All (λ other. other < number) numbers
  below numbers all = All-weaker (IsCommandOf h.commands n) (λ other. other < number) (λ other c. let b = found_within h.commands other c.command c.found in omega (arith, b)) numbers all

  rises : Rise (commands_of node.sessions ++ (node.waiting ++ number ∷ []))
  rises = subst (λ (l : List ℕ). Rise l) (append_assoc (commands_of node.sessions) node.waiting (number ∷ []))
      (rise-push (commands_of node.sessions ++ node.waiting) number
      (All-append (λ other. other < number) (commands_of node.sessions) node.waiting
      (below (commands_of node.sessions) (subst (λ (l : List ℕ). All (IsCommandOf h.commands n) l) (x.nodes n).sessions (owns n).sessions))
      (below node.waiting (subst (λ (l : List ℕ). All (IsCommandOf h.commands n) l) (x.nodes n).waiting (owns n).waiting)))
      (x.order n))

  count : length kept.commands ≡ length h.commands
  count = ap (λ (l : List Taken). length l) (sym x.commands) ∙ length-map h.commands taken_as

  bound : (m : ℕ) → All (λ other. other ≤ length kept.commands) (commands_of (kept_of_node kept m).sessions)
  bound m = subst (λ (k : ℕ). All (λ other. other ≤ k) (commands_of (kept_of_node kept m).sessions)) (sym count)
      (owned_within h.commands m (commands_of (kept_of_node kept m).sessions) (subst (λ (l : List ℕ). All (IsCommandOf h.commands m) l) (x.nodes m).sessions (owns m).sessions))

  confirmed_at : (m : ℕ) (p : Property) → (stored_of store_now m p).confirmed ≡ confirmed_in (kept.commands ++ taken ∷ []) (kept_of_node kept m).sessions p
  confirmed_at m p =
      ap (λ (s : Stored). s.confirmed) (stored-reserving h.store n properties m p) ∙ x.confirmed m p ∙ sym (confirmed_in-more kept.commands taken (kept_of_node kept m).sessions p (bound m))

  pub kept_now : (m : ℕ) (p : Property) → is_property_among (flat_map (properties_for m) (kept.commands ++ taken ∷ [])) p
      ≡ (is_property_among (flat_map (properties_for m) kept.commands) p || ((m == n) && is_property_among properties p))
  kept_now m p = ap (λ (t : Taken). is_property_among (flat_map (properties_for m) (kept.commands ++ t ∷ [])) p) is ∙ properties-more kept.commands (taken_as one) m p

  pub taken_properties : (m : ℕ) (p : Property) → IsTrue (is_property_among (flat_map (properties_for m) (kept.commands ++ taken ∷ [])) p) → IsReserved store_now m p
  taken_properties m p there =
      reserved-reserving h.store n properties m p
      ∙ or_later (is_property_among (flat_map (properties_for m) kept.commands) p) ((m == n) && is_property_among properties p) (is_some (finmap.get h.store (m, p))) (x.properties m p) (sym (kept_now m p) ∙ there)

  -- and no others where there were none
  pub taken_alone : ((m : ℕ) (p : Property) → IsReserved h.store m p → IsTrue (is_property_among (flat_map (properties_for m) kept.commands) p))
      → (m : ℕ) (p : Property) → IsReserved store_now m p → IsTrue (is_property_among (flat_map (properties_for m) (kept.commands ++ taken ∷ [])) p)
  taken_alone alone m p there =
      kept_now m p
      ∙ or_sooner (is_property_among (flat_map (properties_for m) kept.commands) p) ((m == n) && is_property_among properties p) (is_some (finmap.get h.store (m, p))) (alone m p) (sym (reserved-reserving h.store n properties m p) ∙ there)

  put_node : HoldsNode (after_put (node_of h n) number) (account_of h.nonces n) then_node
  put_node = let y = x.nodes n in record {
    joined = y.joined;
    listens = y.listens;
    classes = y.classes;
    waiting = ap (λ (l : List ℕ). l ++ number ∷ []) y.waiting;
    sessions = y.sessions;
    ended = y.ended;
    given = y.given;
    live = y.live;
    seen = y.seen;
  }

  pub taken_holds : Holds (node_does (record h { commands = h.commands ++ one ∷ []; store = store_now }) n (node_puts number)) taken_kept
  taken_holds = record {
    places = (length-set kept.nodes n then_node ∙ x.places.0 ∙ sym (length-set h.nodes n (after_put (node_of h n) number)), x.places.1 ∙ sym (length-set h.nodes n (after_put (node_of h n) number)));
    nodes = both_set (unknown 0) blank_node (λ (s : NodeState) (k : KeptNode) (m : ℕ). HoldsNode s (account_of h.nonces m) k) h.nodes kept.nodes n (after_put (node_of h n) number) then_node x.places.0 x.nodes put_node;
    commands = map-append taken_as h.commands (one ∷ []) ∙ ap (λ (l : List Taken). l ++ taken_as one ∷ []) x.commands ∙ ap (λ (t : Taken). kept.commands ++ t ∷ []) (sym is);
    outcomes = taken_outcomes as_kept refl x.outcomes;
    cancelled = cancels_then h.commands kept.cancelled one refl x.cancelled;
    order = one_set blank_node (λ (k : KeptNode) (m : ℕ). Rise (commands_of k.sessions ++ k.waiting)) kept.nodes n then_node x.order rises;
    confirmed = one_set blank_node (λ (k : KeptNode) (m : ℕ). (p : Property) → (stored_of store_now m p).confirmed ≡ confirmed_in (kept.commands ++ taken ∷ []) k.sessions p) kept.nodes n then_node confirmed_at (confirmed_at n);
    properties = taken_properties;
  }
