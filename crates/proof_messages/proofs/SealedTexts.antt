-- What each event of a host leaves of the texts that wait at its nodes to be sealed or to be given; a host that starts has none.
use Rattle.std.proofs.Common.{◌≡◌, ◌⊎◌, ◌≤◌, ◌<◌, ℕ, zero, suc, ◌&&◌, Bool, true, false, inl, inr, List, [], ◌∷◌, map, length, get_or, refl, sym, subst, ◌∙◌, arith}
use Rattle.std.specs.Prelude.{Option, Some, None, IsSome, if◌then◌else◌}
use Rattle.std.proofs.lemmas.Bool.{cases_eq, cases_lt}
use Rattle.std.proofs.lemmas.List.{get_or-set_same, get_or-set_other, set_past}
use Rattle.supervision.specs.Host.{open_session}
use Rattle.s0_session.specs.Nonces.{live_of}
use Rattle.chip_functions.specs.Field.{IsNode}
use Rattle.host_node.specs.State.{NodeState, is_idle, is_open, is_up, unknown}
use Rattle.host_node.specs.Steps.{after_nonce, after_occasion, after_restart, after_start, after_text, as_recorded, new_series}
use Rattle.host_node.specs.Events.{after as after_node}
use Rattle.host_node.specs.Events.NodeEvent.{Interviews as node_interviews, Joins as node_joins}
use Rattle.host_node.specs.declared.attempt.Plan.{Plan}
use Rattle.host_node.specs.declared.attempt.Plan.TheVariants.{Whole, Segments, Sealed}
use Rattle.host_node.specs.declared.series.Series.{Series}
use Rattle.host_node.specs.declared.series.Series.TheVariants.{Idle, Due, Running}
use Rattle.host_node.specs.Facts.{NodeFacts, SeriesFacts}
use Rattle.host_node.specs.TableState.{node_of as node_among, with_node as with_node_among, nodes_after, unknown_from, unknown_nodes}
use Rattle.host_requests.specs.declared.task.Task.TheVariants.{Offer}
use Rattle.host_requests.specs.Events.RequestsEvent.{Pushes}
use Rattle.host_model.specs.State.{HostState, first_classes, first_nodes, node_of}
use Rattle.host_model.specs.Facts.{HostFacts}
use Rattle.host_model.specs.After.{after, is_full, requests_do, giving, offering}
use Rattle.host_model.specs.Opening.{restarting}
use Rattle.host_model.specs.Events.{HostEvent, Gives, Gives_text, Spends, Spends_unread, Starts, Takes_nonce}
use Rattle.proof_messages.specs.Hosts.{HasTexts, IsAside, LeavesNonces, LeavesSealing}
use Rattle.proof_messages.proofs.LockSessions.{some_same as same_some}

-- ---- none

none_some : {A : Type 0} (x : A) → ◌≡◌ {A = Option A} None (Some x) → ⊥
none_some x e = cc

-- nothing is left of an attempt
abbrev pub IsBare : NodeState → Type 0
IsBare n = (n.text ≡ None) × (n.pending ≡ None)

-- so it is where no session is open
pub closed_bare : (n : NodeState) → NodeFacts n → open_session n.book ≡ None → IsBare n
closed_bare n facts closed = by n.series facts.series
  where
    not_open : (o : Option ℕ) → o ≡ None → IsSome o → ⊥
    not_open None e some = cc
    not_open (Some session) e some = cc

    by : (series : Series) → SeriesFacts series n.book n.attempt_wait n.again_wait n.next_segment n.segments n.text n.pending → IsBare n
    by Idle f = (f.1.no_text, f.1.no_pending)
    by Due f = (f.2.no_text, f.2.no_pending)
    by Running f = absurd (not_open (open_session n.book) closed f.0.is_open)

offered_nodes : (h : HostState) (n : ℕ) (live : Option (List ℕ)) → (offering h n live).nodes ≡ h.nodes
offered_nodes h n None = refl
offered_nodes h n (Some nonce) = by (is_full h)
  where
    by : (b : Bool) → (if b then h else requests_do h (Pushes (Offer n nonce))).nodes ≡ h.nodes
    by true = refl
    by false = refl

pub bare_texts : (Text Plain : List ℕ → Type 0) (n : NodeState) → IsBare n → HasTexts Text Plain n
bare_texts Text Plain n bare = record { text = λ t is. absurd (none_some t (sym bare.0 ∙ is)); pending = λ p is. absurd (none_some p (sym bare.1 ∙ is)) }

-- ---- what each event leaves

pub has_place : (h : HostState) (n : ℕ) → HostFacts h → IsNode n → n < length h.nodes
has_place h n facts node = omega (arith, facts.nodes.places, node.1)

-- what an event brings to a node is so
abbrev pub BringsText : (Text Plain : List ℕ → Type 0) → ℕ → HostEvent → Type 0
BringsText Text Plain n (Starts m (Sealed plain) more payload) = n ≡ m → Plain plain
BringsText Text Plain n (Takes_nonce m seen text) = n ≡ m → Text text
BringsText Text Plain n event = Unit {0}

-- what is proved of them, event by event
pub record TextsLeft : Type 0 where
  pub aside : (node : ℕ) (h : HostState) (event : HostEvent) → IsAside node event → LeavesNonces node h (after h event)
  pub starts : (node : ℕ) (h : HostState) (plan : Plan) (more : Bool) (payload : List ℕ) → node < length h.nodes →
      node_of (after h (Starts node plan more payload)) node ≡ after_start (node_of h node) plan
  pub seals : (node seen : ℕ) (h : HostState) (text : List ℕ) → node < length h.nodes → node_of (after h (Takes_nonce node seen text)) node ≡ after_nonce (node_of h node) seen text
  pub sends : (node : ℕ) (h : HostState) (payload : List ℕ) → node < length h.nodes → node_of (after h (Gives_text node payload)) node ≡ after_text (node_of h node)

module _ (left : TextsLeft) (Text Plain : List ℕ → Type 0) where
  leaves_texts : (old new : NodeState) → LeavesSealing old new → HasTexts Text Plain old → HasTexts Text Plain new
  leaves_texts old new leaves has = by leaves.left
    where
      by : ((new.text ≡ old.text) × (new.pending ≡ old.pending)) ⊎ ((new.text ≡ None) × (new.pending ≡ None)) → HasTexts Text Plain new
      by (inl same) = record { text = λ t is. has.text t (sym same.0 ∙ is); pending = λ p is. has.pending p (sym same.1 ∙ is) }
      by (inr bare) = bare_texts Text Plain new bare

  aside : (n : ℕ) (h : HostState) (event : HostEvent) → IsAside n event → HasTexts Text Plain (node_of h n) → HasTexts Text Plain (node_of (after h event) n)
  aside n h event is has = leaves_texts (node_of h n) (node_of (after h event) n) (left.aside n h event is).sealing has

  starts_text : (n : ℕ) (h : HostState) (m : ℕ) (plain payload : List ℕ) (more : Bool) → n < length h.nodes → (n ≡ m → Plain plain) → HasTexts Text Plain (node_of h n)
      → HasTexts Text Plain (node_of (after h (Starts m (Sealed plain) more payload)) n)
  starts_text n h m plain payload more within brings has = elim (cases_eq n m) [
    | inl is ↦ subst (λ (k : ℕ). HasTexts Text Plain (node_of (after h (Starts k (Sealed plain) more payload)) n)) is
        (subst (λ (s : NodeState). HasTexts Text Plain s) (sym (left.starts n h (Sealed plain) more payload within))
        (record { text = λ t e. has.text t e; pending = λ p e. subst Plain (same_some plain p e) (brings is) }))
    | inr other ↦ aside n h (Starts m (Sealed plain) more payload) (inl (λ e. other (sym e))) has
  ]

  takes_text : (n : ℕ) (h : HostState) (m seen : ℕ) (text : List ℕ) → n < length h.nodes → (n ≡ m → Text text) → HasTexts Text Plain (node_of h n)
      → HasTexts Text Plain (node_of (after h (Takes_nonce m seen text)) n)
  takes_text n h m seen text within brings has = elim (cases_eq n m) [
    | inl is ↦ subst (λ (k : ℕ). HasTexts Text Plain (node_of (after h (Takes_nonce k seen text)) n)) is
        (subst (λ (s : NodeState). HasTexts Text Plain s) (sym (left.seals n seen h text within))
        (record { text = λ t e. subst Text (same_some text t e) (brings is); pending = λ p e. absurd (none_some p e) }))
    | inr other ↦ aside n h (Takes_nonce m seen text) (λ e. other (sym e)) has
  ]

  gives_text : (n : ℕ) (h : HostState) (m : ℕ) (payload : List ℕ) → n < length h.nodes → HasTexts Text Plain (node_of h n) → HasTexts Text Plain (node_of (after h (Gives_text m payload)) n)
  gives_text n h m payload within has = elim (cases_eq n m) [
    | inl is ↦ subst (λ (k : ℕ). HasTexts Text Plain (node_of (after h (Gives_text k payload)) n)) is
        (subst (λ (s : NodeState). HasTexts Text Plain s) (sym (left.sends n h payload within))
        (record { text = λ t e. absurd (none_some t e); pending = λ p e. has.pending p e }))
    | inr other ↦ aside n h (Gives_text m payload) (λ e. other (sym e)) has
  ]

  pub texts_go : (n : ℕ) (h : HostState) (event : HostEvent) → n < length h.nodes → BringsText Text Plain n event → HasTexts Text Plain (node_of h n) → HasTexts Text Plain (node_of (after h event) n)
  texts_go n h (Starts m Whole more payload) within brings has = aside n h (Starts m Whole more payload) (inr tt) has
  texts_go n h (Starts m (Segments count) more payload) within brings has = aside n h (Starts m (Segments count) more payload) (inr tt) has
  texts_go n h (Starts m (Sealed plain) more payload) within brings has = starts_text n h m plain payload more within brings has
  texts_go n h (Gives_text m payload) within brings has = gives_text n h m payload within has
  texts_go n h (Takes_nonce m seen text) within brings has = takes_text n h m seen text within brings has
  texts_go n h (Gives m drawn) within brings has =
      subst (λ (l : List NodeState). HasTexts Text Plain (node_among l n)) (sym (offered_nodes (giving h m drawn) m (live_of (giving h m drawn).nonces m))) has
  texts_go n h (Spends m) within brings has = has
  texts_go n h (Spends_unread m payload) within brings has = has
  texts_go n h event within brings has = aside n h event tt has

-- ---- a host at first, and one that starts from its records

unknown_bare : (start count at : ℕ) → IsBare (get_or (unknown_from start count) at (unknown 0))
unknown_bare start zero at = (refl, refl)
unknown_bare start (suc count) zero = (refl, refl)
unknown_bare start (suc count) (suc at) = unknown_bare (suc start) count at

all_unknown_bare : (at : ℕ) → IsBare (get_or unknown_nodes at (unknown 0))
unfolding unknown_nodes
all_unknown_bare zero = (refl, refl)
all_unknown_bare (suc at) = unknown_bare 1 232 at

-- one place more that is bare
set_bare : (nodes : List NodeState) (at n : ℕ) (state : NodeState) → IsBare state → IsBare (node_among nodes n) → IsBare (node_among (with_node_among nodes at state) n)
set_bare nodes at n state bare was = elim (cases_eq n at) [
  | inl is ↦ elim (cases_lt at (length nodes)) [
    | inl within ↦ subst (λ (k : ℕ). IsBare (node_among (with_node_among nodes at state) k)) (sym is)
        (subst IsBare (sym (get_or-set_same nodes at state (unknown 0) within)) bare)
    | inr past ↦ subst (λ (l : List NodeState). IsBare (node_among l n)) (sym (set_past nodes at state past)) was
  ]
  | inr other ↦ subst IsBare (sym (get_or-set_other nodes at n state (unknown 0) other)) was
]

pub first_bare : (n : ℕ) → IsBare (node_among first_nodes n)
unfolding first_nodes
first_bare n =
    let joined : List NodeState = nodes_after unknown_nodes 2 node_joins in
    let one : (k : ℕ) → IsBare (node_among joined k) = λ k. set_bare unknown_nodes 2 k (after_node (node_among unknown_nodes 2) node_joins) (all_unknown_bare 2) (all_unknown_bare k) in
    set_bare joined 2 n (after_node (node_among joined 2) (node_interviews true first_classes)) (one 2) (one n)

occasion_bare : (n : NodeState) → IsBare n → IsBare (after_occasion n)
occasion_bare n bare = by (is_open n && is_up n && is_idle n.series)
  where
    by : (b : Bool) → IsBare (if b then new_series n else n)
    by true = bare
    by false = bare

restarts_bare : (nodes : List NodeState) (n : ℕ) → IsBare (get_or (map after_restart nodes) n (unknown 0))
restarts_bare [] n = (refl, refl)
restarts_bare (first ∷ nodes) zero = occasion_bare (as_recorded first) (refl, refl)
restarts_bare (first ∷ nodes) (suc n) = restarts_bare nodes n

pub restarting_bare : (nodes : List NodeState) (n : ℕ) → 1 ≤ n → IsBare (node_among (restarting nodes) n)
unfolding restarting
restarting_bare [] n some = (refl, refl)
restarting_bare (first ∷ nodes) zero some = absurd (omega (arith, some))
restarting_bare (first ∷ nodes) (suc n) some = restarts_bare nodes n
