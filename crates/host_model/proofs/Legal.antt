-- A host may take up a record exactly where it may follow those that gave what is kept.
use Rattle.std.proofs.Common.{◌≡◌, ℕ, ◌+◌, ◌%◌, ◌≤◌, ◌==◌, ◌&&◌, ◌||◌, Bool, true, false, cond, eqb, not, if◌then◌else◌, is_some, is_none, unwrap_or, List, [], ◌∷◌, ◌++◌, length, Option, Some, None, refl, sym, ap, ◌∙◌, subst}
use Rattle.std.specs.Prelude.{slice_index}
use Rattle.std.specs.List.{filter_map, cons_option}
use Rattle.std.specs.Set.{distinct_count, is_member}
use Rattle.std.specs.FinMap as finmap
use Rattle.std.specs.FinMap.{find, get-entries}
use Rattle.std.proofs.lemmas.List.{length-map}
use Rattle.zw_base.specs.PropertyOrder.{same_property}
use Rattle.zw_base.specs.declared.property.Property.{Property}
use Rattle.zw_base.specs.declared.order.Order.{Order}
use Rattle.supervision.specs.Host.{open_session}
use Rattle.s0_session.specs.Nonces.{live_of}
use Rattle.value_store.specs.declared.stored.Stored.{Stored}
use Rattle.value_store.specs.Values.{Key, Values, key_cmp, property_at, properties_of as stored_properties}
use Rattle.host_orders.specs.Classes.{actuator_of}
use Rattle.host_orders.specs.Refusals.{Known, refusal_of}
use Rattle.host_orders.specs.Settings.{settings, properties_of}
use Rattle.host_keep.specs.Kept.{Kept, Taken, Interview, node_of as kept_of_node, classes_said, listed_by, is_open, is_among, kept_properties}
use Rattle.host_keep.specs.Legal.{is_legal, is_first, known_of as kept_known_of, properties_with as kept_properties_with}
use Rattle.host_keep.specs.declared.record.Record.{Record}
use Rattle.host_keep.specs.declared.record.Record.TheVariants.{Accepted, Joined, Classes, Begun, Final, Cancelled, Given, Spent, Seen}
use Rattle.host_model.specs.State.{HostState, node_of}
use Rattle.host_model.specs.After.{node_for}
use Rattle.host_model.specs.May.{known_of}
use Rattle.host_model.specs.Restoring.{may_restore, is_session, listed, properties_with}
use Rattle.host_model.specs.Holding.{Holds, HoldsAlone, taken_as}
use Rattle.host_model.proofs.Opened.{opened_by}
use Rattle.value_store.proofs.Reserved.{same_key}
use Rattle.host_model.proofs.Counts.{count-alike, count-beside}
use Rattle.host_model.proofs.Cancelled.{same_node}

-- ---- the properties of a node in the store

pub among-entries : (es : List (Key × Stored)) (n : ℕ) (q : Property) → is_member same_property (filter_map (property_at n) es) q ≡ is_some (find key_cmp (n, q) es)
among-entries [] n q = refl
among-entries (e ∷ es) n q =
    by (eqb n e.0.0) (same_property q e.0.1) refl (among-entries es n q)
    ∙ ap (λ b. is_some (cond b (Some e.1) (find key_cmp (n, q) es))) (sym (same_key n e.0.0 q e.0.1))
  where
    by : (b s : Bool) → same_property q e.0.1 ≡ s → is_member same_property (filter_map (property_at n) es) q ≡ is_some (find key_cmp (n, q) es)
        → is_member same_property (cons_option (cond b (Some e.0.1) None) (filter_map (property_at n) es)) q ≡ is_some (cond (b && s) (Some e.1) (find key_cmp (n, q) es))
    by true true so h = ap (λ t. t || is_member same_property (filter_map (property_at n) es) q) so
    by true false so h = ap (λ t. t || is_member same_property (filter_map (property_at n) es) q) so ∙ h
    by false s so h = h

pub among-stored : (store : Values) (n : ℕ) (q : Property) → is_member same_property (stored_properties store n) q ≡ is_some (finmap.get store (n, q))
among-stored store n q = among-entries (finmap.entries store) n q ∙ ap (λ (o : Option Stored). is_some o) (sym (get-entries store (n, q)))

-- ---- orders

listed_is : (o : Option (List ℕ)) (interview : Option Interview) → o ≡ classes_said interview → unwrap_or o [] ≡ listed_by interview
listed_is o None e = ap (λ (x : Option (List ℕ)). unwrap_or x []) e
listed_is o (Some interview) e = ap (λ (x : Option (List ℕ)). unwrap_or x []) e

pub same_listed : (h : HostState) (kept : Kept) (n : ℕ) → Holds h kept → listed (node_of h n) ≡ listed_by (kept_of_node kept n).interview
same_listed h kept n x = listed_is (node_of h n).classes (kept_of_node kept n).interview (x.nodes n).classes

pub same_known : (h : HostState) (kept : Kept) (n : ℕ) → Holds h kept → known_of (node_of h n) ≡ kept_known_of (kept_of_node kept n)
same_known h kept n x =
    let y = x.nodes n in
    let k = kept_of_node kept n in
    ap (λ (j : Bool). record { joined = j; classes = (node_of h n).classes; waiting = length (node_of h n).waiting }) y.joined
    ∙ ap (λ (c : Option (List ℕ)). record { joined = k.joined; classes = c; waiting = length (node_of h n).waiting }) y.classes
    ∙ ap (λ (l : List ℕ). record { joined = k.joined; classes = classes_said k.interview; waiting = length l }) y.waiting

pub same_count : (h : HostState) (kept : Kept) → Holds h kept → length h.commands ≡ length kept.commands
same_count h kept x = sym (length-map h.commands taken_as) ∙ ap (λ (l : List Taken). length l) x.commands

-- no fewer properties are in the store than are kept
pub fewer_kept : (h : HostState) (kept : Kept) (order : Order) → Holds h kept → kept_properties_with kept order ≤ properties_with h order
fewer_kept h kept order x =
    let n = order.node in
    subst (λ (l : List ℕ). distinct_count same_property (properties_of (settings (actuator_of l) order) ++ kept_properties kept n) ≤ properties_with h order) (same_listed h kept n x)
    (count-beside (properties_of (settings (actuator_of (listed (node_of h n))) order)) (kept_properties kept n) (stored_properties h.store n)
    (λ q there. among-stored h.store n q ∙ x.properties n q there))

same_properties : (h : HostState) (kept : Kept) (order : Order) → HoldsAlone h kept → properties_with h order ≡ kept_properties_with kept order
same_properties h kept order x =
    let n = order.node in
    count-alike (properties_of (settings (actuator_of (listed (node_of h n))) order)) (stored_properties h.store n) (kept_properties kept n)
    (λ q there. x.properties n q (sym (among-stored h.store n q) ∙ there)) (λ q there. among-stored h.store n q ∙ x.holds.properties n q there)
    ∙ ap (λ (l : List ℕ). distinct_count same_property (properties_of (settings (actuator_of l) order) ++ kept_properties kept n)) (same_listed h kept n x.holds)

pub accepted_test : (h : HostState) (kept : Kept) (command : ℕ) (order : Order) → HoldsAlone h kept → may_restore h (Accepted command order) ≡ is_legal kept (Accepted command order)
accepted_test h kept command order x =
    ap (λ (k : ℕ). (command == k + 1) && is_none (refusal_of (known_of (node_of h order.node)) (properties_with h order) order)) (same_count h kept x.holds)
    ∙ ap (λ (k : Known). (command == length kept.commands + 1) && is_none (refusal_of k (properties_with h order) order)) (same_known h kept order.node x.holds)
    ∙ ap (λ (k : ℕ). (command == length kept.commands + 1) && is_none (refusal_of (kept_known_of (kept_of_node kept order.node)) k order)) (same_properties h kept order x)

-- ---- sessions

none_open : (b : Bool) (k : ℕ) → is_none (if b then Some k else None) ≡ not b
none_open true k = refl
none_open false k = refl

last_open : (b : Bool) (k session : ℕ) → is_session (if b then Some k else None) session ≡ ((session == k) && b)
last_open true k session = by (session == k)
  where
    by : (t : Bool) → t ≡ (t && true)
    by true = refl
    by false = refl
last_open false k session = by (session == k)
  where
    by : (t : Bool) → false ≡ (t && false)
    by true = refl
    by false = refl

-- it is no order, whose test looks at properties besides
abbrev pub NoOrder : Record → Type 0
NoOrder (Accepted command order) = ⊥
NoOrder one = Unit {0}

pub others_test : (h : HostState) (kept : Kept) (one : Record) → NoOrder one → Holds h kept → may_restore h one ≡ is_legal kept one
others_test h kept (Accepted command order) none x = absurd none
others_test h kept (Joined n) none x = ap (λ (b : Bool). not b && not (n == 1)) (x.nodes n).joined
others_test h kept (Classes n listens classes) none x = (x.nodes n).joined
others_test h kept (Begun n session command) none x =
    let y = x.nodes n in
    let sessions = (kept_of_node kept n).sessions in
    ap (λ (l : List ℕ). (session == length l + 1) && is_none (open_session (node_of h n).book) && is_first (node_of h n).waiting command) y.sessions
    ∙ ap (λ (k : ℕ). (session == k + 1) && is_none (open_session (node_of h n).book) && is_first (node_of h n).waiting command) (length-map sessions (λ one. one.command))
    ∙ ap (λ (b : Bool). (session == length sessions + 1) && b && is_first (node_of h n).waiting command)
    (ap (λ (o : Option ℕ). is_none o) (opened_by (node_of h n).book sessions y.sessions y.ended) ∙ none_open (is_open sessions) (length sessions))
    ∙ ap (λ (l : List ℕ). (session == length sessions + 1) && not (is_open sessions) && is_first l command) y.waiting
others_test h kept (Final n session status) none x =
    let y = x.nodes n in
    let sessions = (kept_of_node kept n).sessions in
    ap (λ (o : Option ℕ). is_session o session) (opened_by (node_of h n).book sessions y.sessions y.ended) ∙ last_open (is_open sessions) (length sessions) session
others_test h kept (Cancelled command) none x =
    ap (λ (l : List ℕ). is_among l command) (x.nodes (node_for h command)).waiting ∙ ap (λ (m : ℕ). is_among (kept_of_node kept m).waiting command) (sym (same_node h kept command x))
others_test h kept (Given n given nonce) none x =
    let y = x.nodes n in
    ap (λ (k : ℕ). (given == k + 1) && is_none (live_of h.nonces n) && (slice_index nonce 0 == given % 256)) y.given
    ∙ ap (λ (o : Option (List ℕ)). (given == (kept_of_node kept n).given + 1) && is_none o && (slice_index nonce 0 == given % 256)) y.live
others_test h kept (Spent n) none x = ap (λ (o : Option (List ℕ)). is_some o) (x.nodes n).live
others_test h kept (Seen n seen) none x = ap (λ (k : ℕ). seen == k + 1) (x.nodes n).seen

pub may_is_legal : (h : HostState) (kept : Kept) (one : Record) → HoldsAlone h kept → may_restore h one ≡ is_legal kept one
may_is_legal h kept (Accepted command order) x = accepted_test h kept command order x
may_is_legal h kept one x = others_test h kept one tt x.holds
