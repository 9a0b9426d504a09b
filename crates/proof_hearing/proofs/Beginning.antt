-- The books as a host begins, what the law of nonces asks of them, and which tasks leave the nonces that wait.
use Rattle.std.proofs.Common.{◌≡◌, ℕ, zero, suc, ◌==◌, Bool, true, false, if◌then◌else◌, inl, inr, List, [], ◌∷◌, ◌++◌, get_or, length, refl, sym, ap, ap₂, ◌∙◌, subst}
use Rattle.std.specs.Prelude.{Option, Some, None, drop, is_some}
use Rattle.std.specs.List.{flat_map}
use Rattle.std.proofs.lemmas.Bool.{cases_eq, cases_lt}
use Rattle.std.proofs.lemmas.Grind.{flat_map-append}
use Rattle.std.proofs.lemmas.List.{get_or-set_same, get_or-set_other, set_past}
use Rattle.zw_base.proofs.Each.{all-weaker}
use Rattle.s0_crypto.specs.declared.key_pair.Keys.{Keys}
use Rattle.s0_session.specs.declared.account.Account.{Account}
use Rattle.zw_text.specs.declared.entry.Entry.{Entry}
use Rattle.law_transcript.specs.Units.{Carried}
use Rattle.law_time.specs.Heeds.{Heeds}
use Rattle.host_requests.specs.declared.task.Task.{Task}
use Rattle.host_requests.specs.declared.task.Task.TheVariants as task
use Rattle.host_node.specs.State.{NodeState, unknown}
use Rattle.host_node.specs.Events.{after as after_node}
use Rattle.host_node.specs.Events.NodeEvent.{Interviews as node_interviews, Joins as node_joins}
use Rattle.host_node.specs.TableState.{node_of as node_among, nodes_after, unknown_from, unknown_nodes, with_node as with_node_among}
use Rattle.host_model.specs.State.{HostState, first_classes, first_host, first_nodes}
use Rattle.proof_messages.proofs.SealedTexts.{bare_texts, first_bare}
use Rattle.proof_choice.specs.proof_ends.proof_nonces.Known.{offered_by, offered_in}
use Rattle.proof_choice.specs.proof_ends.proof_requests.law_host.Course.{Course, blank_book}
use Rattle.proof_choice.specs.proof_ends.proof_requests.law_host.Nonces.{IsOffer, IsOpening, UsesNonces}
use Rattle.proof_choice.proofs.Accounts.{unused_all}
use Rattle.proof_hearing.specs.Books.{BooksOf, BooksSo, IsLowOffer, IsLowOpening, IsReady, nonce_to, nonces_to}

-- ---- the law

-- where the books are the host's, what was offered, opened and sealed is as the law asks
pub uses_nonces : (key : List ℕ) (heeds : Heeds) (past : List Entry) (h : HostState) (course : Course) (books : BooksSo key heeds past h course) → UsesNonces key books.drawn course
uses_nonces key heeds past h course books = record {
  seven = books.seven;
  offered = all-weaker (IsLowOffer books.drawn h.nonces) (IsOffer books.drawn) (λ offer so. so.is) course.offered books.were_offered;
  opened = all-weaker (IsLowOpening key books.drawn h.nonces) (IsOpening key books.drawn) (λ opening so. so.is) course.opened books.were_opened;
  sealed = books.were_sealed;
}

-- ---- what waits

-- the nonces that wait for a node are those of the Nonce Reports that do
told_to : ℕ → Carried → List (List ℕ)
told_to node one = if one.node == node then drop 2 one.payload ∷ [] else []

one_told : (node : ℕ) (t : Task) → nonce_to node t ≡ flat_map (told_to node) (offered_by t)
unfolding told_to
one_told node (task.Offer n nonce) = by (n == node)
  where
    by : (b : Bool) → (if b then nonce ∷ [] else []) ≡ (if b then nonce ∷ [] else []) ++ []
    by true = refl
    by false = refl
one_told node t = refl

all_told : (node : ℕ) (queue : List Task) → nonces_to node queue ≡ flat_map (told_to node) (offered_in queue)
all_told node [] = refl
all_told node (t ∷ queue) =
    ap₂ (λ (a b : List (List ℕ)). a ++ b) (one_told node t) (all_told node queue) ∙ sym (flat_map-append (told_to node) (offered_by t) (offered_in queue))

pub same_waiting : (node : ℕ) (old new : List Task) → offered_in new ≡ offered_in old → nonces_to node new ≡ nonces_to node old
same_waiting node old new same = all_told node new ∙ ap (flat_map (told_to node)) same ∙ sym (all_told node old)

-- ---- at first

unseen_from : (start count at : ℕ) → (get_or (unknown_from start count) at (unknown 0)).seen ≡ 0
unseen_from start zero at = refl
unseen_from start (suc count) zero = refl
unseen_from start (suc count) (suc at) = unseen_from (suc start) count at

unseen_all : (at : ℕ) → (get_or unknown_nodes at (unknown 0)).seen ≡ 0
unfolding unknown_nodes
unseen_all zero = refl
unseen_all (suc at) = unseen_from 1 232 at

unseen_set : (nodes : List NodeState) (at n : ℕ) (state : NodeState) → state.seen ≡ 0 → (node_among nodes n).seen ≡ 0 → (node_among (with_node_among nodes at state) n).seen ≡ 0
unseen_set nodes at n state none was = elim (cases_eq n at) [
  | inl is ↦ elim (cases_lt at (length nodes)) [
    | inl within ↦ subst (λ (k : ℕ). (node_among (with_node_among nodes at state) k).seen ≡ 0) (sym is) (ap (λ (s : NodeState). s.seen) (get_or-set_same nodes at state (unknown 0) within) ∙ none)
    | inr past ↦ ap (λ (l : List NodeState). (node_among l n).seen) (set_past nodes at state past) ∙ was
  ]
  | inr other ↦ ap (λ (s : NodeState). s.seen) (get_or-set_other nodes at n state (unknown 0) other) ∙ was
]

unseen_first : (n : ℕ) → (node_among first_nodes n).seen ≡ 0
unfolding first_nodes
unseen_first n =
    let joined : List NodeState = nodes_after unknown_nodes 2 node_joins in
    let one : (k : ℕ) → (node_among joined k).seen ≡ 0 = λ k. unseen_set unknown_nodes 2 k (after_node (node_among unknown_nodes 2) node_joins) (unseen_all 2) (unseen_all k) in
    unseen_set joined 2 n (after_node (node_among joined 2) (node_interviews true first_classes)) (one 2) (one n)

-- nothing was given, nothing waits, and nothing is to be sealed
pub books_first : (key : List ℕ) (heeds : Heeds) (keys : Keys) → BooksOf key heeds [] (first_host keys) [] [] [] []
books_first key heeds keys = record {
  drawn = λ node number. 0 ∷ 0 ∷ 0 ∷ 0 ∷ 0 ∷ 0 ∷ 0 ∷ [];
  seven = λ node number. refl;
  live = λ node nonce at. absurd (none_some nonce (sym (ap (λ (a : Account). a.live) (unused_all 233 node)) ∙ at));
  givers = λ m is. record {
    given = sym (ap (λ (a : Account). a.given) (unused_all 233 m));
    live = sym (ap (λ (a : Account). is_some a.live) (unused_all 233 m));
    offers = refl;
    low = tt;
  };
  sealers = λ m is. record {
    seen = sym (unseen_first m);
    texts = bare_texts (IsReady key m (blank_book m).sealer) (λ plain. (blank_book m).sealer.pending ≡ plain ∷ []) (node_among first_nodes m) (first_bare m);
    waits = λ none. inl refl;
  };
  were_offered = tt;
  were_opened = tt;
  were_sealed = tt;
}
  where
    none_some : (x : List ℕ) → ◌≡◌ {A = Option (List ℕ)} None (Some x) → ⊥
    none_some x e = cc
