-- What happens to a host and to what is kept of it, part by part.
use Rattle.std.proofs.Common.{◌≡◌, ℕ, ◌<◌, Bool, true, if◌then◌else◌, List, [], ◌∷◌, ◌++◌, length, get_or, set, Option, inl, inr, refl, sym, ap, ◌∙◌, subst}
use Rattle.std.proofs.lemmas.Bool.{cases_lt}
use Rattle.std.proofs.lemmas.List.{get_or_past, length-set}
use Rattle.zw_base.specs.declared.property.Property.{Property}
use Rattle.zw_text.specs.declared.entry.Outcome.TheVariants as outcome
use Rattle.serial_link.specs.State.{Side}
use Rattle.s0_session.specs.declared.account.Account.{Account}
use Rattle.s0_session.specs.Nonces.{account_of, unused}
use Rattle.value_store.specs.Values.{stored_of}
use Rattle.host_requests.specs.State.{RequestsState}
use Rattle.host_node.specs.State.{NodeState, unknown}
use Rattle.host_node.specs.Steps.{as_recorded, after_join, after_interview, after_restore_seen}
use Rattle.host_keep.specs.Kept.{Kept, KeptNode, Session, blank_node, node_of as kept_of_node, with_node as with_kept_node, joining, interviewed, seeing, is_among, confirmed_in}
use Rattle.host_model.specs.State.{HostState, node_of, with_node}
use Rattle.host_model.specs.Holding.{HoldsNode, Holds, Rise, commands_of, ended_in, outcome_by, outcome_kept, as_kept}
use Rattle.host_model.proofs.Places.{both_set, one_set}
use Rattle.host_model.proofs.Outcomes.{outcomes_stay}

-- ---- what is not kept

pub quiet : (h : HostState) (kept : Kept) (side : Side) (requests : RequestsState) (served : ℕ) → Holds h kept → Holds (record h { side = side; requests = requests; served = served }) kept
quiet h kept side requests served x = record {
  places = x.places;
  nodes = x.nodes;
  commands = x.commands;
  outcomes = x.outcomes;
  cancelled = x.cancelled;
  order = x.order;
  confirmed = x.confirmed;
  properties = x.properties;
}

-- what the records say of a node is all that is held of it
pub alike : (old new : NodeState) (account : Account) (node : KeptNode) → as_recorded new ≡ as_recorded old → HoldsNode old account node → HoldsNode new account node
alike old new account node e x = record {
  joined = ap (λ (s : NodeState). s.joined) e ∙ x.joined;
  listens = ap (λ (s : NodeState). s.listens) e ∙ x.listens;
  classes = ap (λ (s : NodeState). s.classes) e ∙ x.classes;
  waiting = ap (λ (s : NodeState). s.waiting) e ∙ x.waiting;
  sessions = ap (λ (s : NodeState). s.book.commands) e ∙ x.sessions;
  ended = ap (λ (s : NodeState). s.book.outcome) e ∙ x.ended;
  given = x.given;
  live = x.live;
  seen = ap (λ (s : NodeState). s.seen) e ∙ x.seen;
}

-- a node is other, of which the same is held
pub node_only : (h : HostState) (kept : Kept) (n : ℕ) (state : NodeState) → HoldsNode state (account_of h.nonces n) (kept_of_node kept n) → Holds h kept → Holds (with_node h n state) kept
node_only h kept n state here x = record {
  places = (x.places.0 ∙ sym (length-set h.nodes n state), x.places.1 ∙ sym (length-set h.nodes n state));
  nodes = one_set (unknown 0) (λ (s : NodeState) (m : ℕ). HoldsNode s (account_of h.nonces m) (kept_of_node kept m)) h.nodes n state x.nodes here;
  commands = x.commands;
  outcomes = x.outcomes;
  cancelled = x.cancelled;
  order = x.order;
  confirmed = x.confirmed;
  properties = x.properties;
}

-- a node and what is kept of it are other, but not its commands
module _ (h : HostState) (kept : Kept) (n : ℕ) (node : KeptNode) (waiting : node.waiting ≡ (kept_of_node kept n).waiting) (sessions : node.sessions ≡ (kept_of_node kept n).sessions) (x : Holds h kept) where
  same_outcome : (number : ℕ) → outcome_kept node number ≡ outcome_kept (kept_of_node kept n) number
  same_outcome number =
      ap (λ (l : List ℕ). if is_among l number then outcome.Waiting else outcome_by (ended_in node.sessions number)) waiting
      ∙ ap (λ (l : List Session). if is_among (kept_of_node kept n).waiting number then outcome.Waiting else outcome_by (ended_in l number)) sessions

  same_order : (m : ℕ) → Rise (commands_of (get_or (set kept.nodes n node) m blank_node).sessions ++ (get_or (set kept.nodes n node) m blank_node).waiting)
  same_order = one_set blank_node (λ (k : KeptNode) (m : ℕ). Rise (commands_of k.sessions ++ k.waiting)) kept.nodes n node x.order
      (subst (λ (l : List ℕ). Rise (commands_of node.sessions ++ l)) (sym waiting) (subst (λ (l : List Session). Rise (commands_of l ++ (kept_of_node kept n).waiting)) (sym sessions) (x.order n)))

  same_confirmed : (m : ℕ) (p : Property) → (stored_of h.store m p).confirmed ≡ confirmed_in kept.commands (get_or (set kept.nodes n node) m blank_node).sessions p
  same_confirmed = one_set blank_node (λ (k : KeptNode) (m : ℕ). (p : Property) → (stored_of h.store m p).confirmed ≡ confirmed_in kept.commands k.sessions p) kept.nodes n node x.confirmed
      (λ p. x.confirmed n p ∙ ap (λ (l : List Session). confirmed_in kept.commands l p) (sym sessions))

  pub node_changes : (state : NodeState) → HoldsNode state (account_of h.nonces n) node → Holds (with_node h n state) (with_kept_node kept n node)
  node_changes state here = record {
    places = (length-set kept.nodes n node ∙ x.places.0 ∙ sym (length-set h.nodes n state), x.places.1 ∙ sym (length-set h.nodes n state));
    nodes = both_set (unknown 0) blank_node (λ (s : NodeState) (k : KeptNode) (m : ℕ). HoldsNode s (account_of h.nonces m) k) h.nodes kept.nodes n state node x.places.0 x.nodes here;
    commands = x.commands;
    outcomes = outcomes_stay as_kept h.commands kept.nodes n node same_outcome x.outcomes;
    cancelled = x.cancelled;
    order = same_order;
    confirmed = same_confirmed;
    properties = x.properties;
  }

  pub account_changes : (account : Account) → HoldsNode (node_of h n) account node → Holds (record h { nonces = set h.nonces n account }) (with_kept_node kept n node)
  account_changes account here = record {
    places = (length-set kept.nodes n node ∙ x.places.0, length-set h.nonces n account ∙ x.places.1);
    nodes = both_set unused blank_node (λ (a : Account) (k : KeptNode) (m : ℕ). HoldsNode (node_of h m) a k) h.nonces kept.nodes n account node (x.places.0 ∙ sym x.places.1) x.nodes here;
    commands = x.commands;
    outcomes = outcomes_stay as_kept h.commands kept.nodes n node same_outcome x.outcomes;
    cancelled = x.cancelled;
    order = same_order;
    confirmed = same_confirmed;
    properties = x.properties;
  }

-- ---- one node

pub joined : (state : NodeState) (account : Account) (node : KeptNode) → HoldsNode state account node → HoldsNode (after_join state) account (joining node)
joined state account node x = record {
  joined = refl;
  listens = x.listens;
  classes = x.classes;
  waiting = x.waiting;
  sessions = x.sessions;
  ended = x.ended;
  given = x.given;
  live = x.live;
  seen = x.seen;
}

pub interview_said : (state : NodeState) (account : Account) (node : KeptNode) (listens : Bool) (classes : List ℕ) → HoldsNode state account node
    → HoldsNode (after_interview state listens classes) account (interviewed node listens classes)
interview_said state account node listens classes x = record {
  joined = x.joined;
  listens = refl;
  classes = refl;
  waiting = x.waiting;
  sessions = x.sessions;
  ended = x.ended;
  given = x.given;
  live = x.live;
  seen = x.seen;
}

-- so many nonces were seen, and nothing else that is kept is other
pub saw : (state new : NodeState) (account : Account) (node : KeptNode) (seen : ℕ) → as_recorded new ≡ as_recorded (after_restore_seen state seen) → HoldsNode state account node
    → HoldsNode new account (seeing node seen)
saw state new account node seen e x = alike (after_restore_seen state seen) new account (seeing node seen) e (record {
  joined = x.joined;
  listens = x.listens;
  classes = x.classes;
  waiting = x.waiting;
  sessions = x.sessions;
  ended = x.ended;
  given = x.given;
  live = x.live;
  seen = refl;
})

pub account_is : (state : NodeState) (account new : Account) (node : KeptNode) (given : ℕ) (live : Option (List ℕ)) → new.given ≡ given → new.live ≡ live → HoldsNode state account node
    → HoldsNode state new (record node { given = given; live = live })
account_is state account new node given live g l x = record {
  joined = x.joined;
  listens = x.listens;
  classes = x.classes;
  waiting = x.waiting;
  sessions = x.sessions;
  ended = x.ended;
  given = g;
  live = l;
  seen = x.seen;
}

-- ---- which place a node has

pub within_by : {X : Type 0} (part : KeptNode → X) (keeps : List KeptNode) (n : ℕ) → (part (get_or keeps n blank_node) ≡ part blank_node → ⊥) → n < length keeps
within_by part keeps n other = elim (cases_lt n (length keeps)) [
  | inl within ↦ within
  | inr past ↦ absurd (other (ap part (get_or_past keeps n blank_node past)))
]

among_some : (l : List ℕ) (number : ℕ) → is_among l number ≡ true → l ≡ [] → ⊥
among_some l number e f = let g = ap (λ (k : List ℕ). is_among k number) f in cc

pub within_by_waiting : (keeps : List KeptNode) (n number : ℕ) → is_among (get_or keeps n blank_node).waiting number ≡ true → n < length keeps
within_by_waiting keeps n number e = within_by (λ (k : KeptNode). k.waiting) keeps n (among_some (get_or keeps n blank_node).waiting number e)

pub within_by_sessions : (keeps : List KeptNode) (n : ℕ) (one : Session) (more : List Session) → (get_or keeps n blank_node).sessions ≡ one ∷ more → n < length keeps
within_by_sessions keeps n one more e = within_by (λ (k : KeptNode). k.sessions) keeps n none
  where
    none : (get_or keeps n blank_node).sessions ≡ [] → ⊥
    none f = cc
