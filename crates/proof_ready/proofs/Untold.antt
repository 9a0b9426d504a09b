-- Of a node that is not joined the records keep nothing: no interview, no command and no session.
use Rattle.std.proofs.Common.{◌≡◌, ◌⊎◌, ◌<◌, ◌≤◌, ℕ, zero, suc, ◌+◌, ◌&&◌, ◌==◌, Bool, true, false, not, List, [], ◌∷◌, length, refl, sym, ap, subst, ◌∙◌, inl, inr}
use Rattle.std.proofs.lemmas.Bool.{cases_eq, cases_lt, and_parts}
use Rattle.std.proofs.lemmas.List.{get_or-set_same, get_or-set_other, set_past}
use Rattle.std.specs.Prelude.{Option, None, is_none, replicate, slice_set, slice_index_or}
use Rattle.zw_base.specs.declared.order.Order.{Order}
use Rattle.host_orders.specs.Refusals.{Known, first_refusal, first_some, refusal_of, refusal_or, unless}
use Rattle.host_orders.specs.declared.refused.Refused.{Refused}
use Rattle.host_orders.specs.declared.refused.Refused.TheVariants.{NotJoined}
use Rattle.host_keep.specs.Kept.{Kept, KeptNode, Session, after, after_all, blank_node, command_of, ending, first_kept, first_node, first_nodes, is_open, kept_of, node_of, node_with, without}
use Rattle.host_keep.specs.Legal.{AreLegal, first_illegal, is_first, is_legal, known_of, properties_with}
use Rattle.host_keep.specs.declared.record.Record.{Record}
use Rattle.host_keep.specs.declared.record.Record.TheVariants.{Accepted, Joined, Classes, Begun, Final, Cancelled, Given, Spent, Seen}
use Rattle.host_keep.proofs.RecordLists.{legal_cons}

-- nothing is kept of it
pub record IsUntold (s : KeptNode) : Type 0 where
  pub unlisted : s.interview ≡ None
  pub none_waits : s.waiting ≡ []
  pub none_begun : s.sessions ≡ []

abbrev IsSo : KeptNode → Type 0
IsSo s = s.joined ≡ false → IsUntold s

abbrev AllSo : Kept → Type 0
AllSo kept = (n : ℕ) → IsSo (node_of kept n)

-- ---- one record

set_so : (nodes : List KeptNode) (at : ℕ) (state : KeptNode) → ((n : ℕ) → IsSo (slice_index_or nodes n blank_node)) → IsSo state → (n : ℕ) → IsSo (slice_index_or (slice_set nodes at state) n blank_node)
set_so nodes at state all so n = by (cases_eq n at) (cases_lt at (length nodes))
  where
    by : (n ≡ at) ⊎ (n ≡ at → ⊥) → (at < length nodes) ⊎ (length nodes ≤ at) → IsSo (slice_index_or (slice_set nodes at state) n blank_node)
    by (inl same) (inl within) =
        subst (λ (k : ℕ). IsSo (slice_index_or (slice_set nodes at state) k blank_node)) (sym same) (subst IsSo (sym (get_or-set_same nodes at state blank_node within)) so)
    by (inl same) (inr past) = subst (λ (l : List KeptNode). IsSo (slice_index_or l n blank_node)) (sym (set_past nodes at state past)) (all n)
    by (inr other) where_at = subst IsSo (sym (get_or-set_other nodes at n state blank_node other)) (all n)

-- an order is taken for a joined node alone
refused_apart : (joined : Bool) (more : List (Option Refused)) (properties : ℕ) → joined ≡ false → is_none (refusal_or (first_some (unless joined NotJoined ∷ more)) properties) ≡ true → ⊥
refused_apart true more properties apart none = let bad : true ≡ false = apart in cc
refused_apart false more properties apart none = let bad : false ≡ true = none in cc

taken_joined : (known : Known) (properties : ℕ) (order : Order) → known.joined ≡ false → is_none (refusal_of known properties order) ≡ true → ⊥
unfolding first_refusal
taken_joined known properties order apart none = refused_apart known.joined _ properties apart none

none_first : (waiting : List ℕ) (command : ℕ) → waiting ≡ [] → is_first waiting command ≡ true → ⊥
none_first [] command none is = let bad : false ≡ true = is in cc
none_first (oldest ∷ more) command none is = cc

one_so : (kept : Kept) (one : Record) → is_legal kept one ≡ true → AllSo kept → AllSo (after kept one)
one_so kept (Accepted command order) legal all =
    set_so kept.nodes order.node _ all
    (λ apart. absurd (taken_joined (known_of (node_of kept order.node)) (properties_with kept order) order apart (and_parts (command == length kept.commands + 1) _ legal).1))
one_so kept (Joined node) legal all = set_so kept.nodes node _ all (λ apart. absurd (let bad : true ≡ false = apart in cc))
one_so kept (Classes node listens classes) legal all = set_so kept.nodes node _ all (λ apart. absurd (let bad : true ≡ false = sym legal ∙ apart in cc))
one_so kept (Begun node session command) legal all =
    set_so kept.nodes node _ all
    (λ apart. absurd (none_first (node_of kept node).waiting command (all node apart).none_waits
    (and_parts (session == length (node_of kept node).sessions + 1 && not (is_open (node_of kept node).sessions)) (is_first (node_of kept node).waiting command) legal).1))
one_so kept (Final node session status) legal all =
    set_so kept.nodes node _ all
    (λ apart. let none = all node apart in record { unlisted = none.unlisted; none_waits = none.none_waits; none_begun = ap (λ (l : List Session). ending l status) none.none_begun })
one_so kept (Cancelled command) legal all =
    let at = node_with (command_of kept.commands command) in
    set_so kept.nodes at _ all
    (λ apart. let none = all at apart in record { unlisted = none.unlisted; none_waits = ap (λ (l : List ℕ). without l command) none.none_waits; none_begun = none.none_begun })
one_so kept (Given node given nonce) legal all =
    set_so kept.nodes node _ all (λ apart. let none = all node apart in record { unlisted = none.unlisted; none_waits = none.none_waits; none_begun = none.none_begun })
one_so kept (Spent node) legal all =
    set_so kept.nodes node _ all (λ apart. let none = all node apart in record { unlisted = none.unlisted; none_waits = none.none_waits; none_begun = none.none_begun })
one_so kept (Seen node seen) legal all =
    set_so kept.nodes node _ all (λ apart. let none = all node apart in record { unlisted = none.unlisted; none_waits = none.none_waits; none_begun = none.none_begun })

-- ---- all records

all_so : (records : List Record) (kept : Kept) → first_illegal kept records ≡ None → AllSo kept → AllSo (after_all kept records)
unfolding after_all
all_so [] kept legal all = all
all_so (one ∷ more) kept legal all = let both = legal_cons kept one more legal in all_so more (after kept one) both.1 (one_so kept one both.0 all)

blank_so : IsSo blank_node
blank_so apart = record { unlisted = refl; none_waits = refl; none_begun = refl }

blanks_so : (count n : ℕ) → IsSo (slice_index_or (replicate count blank_node) n blank_node)
blanks_so zero n = blank_so
blanks_so (suc count) zero = blank_so
blanks_so (suc count) (suc n) = blanks_so count n

first_so : AllSo first_kept
unfolding first_nodes
first_so = set_so (replicate 233 blank_node) 2 first_node (blanks_so 233) (λ apart. absurd (let bad : true ≡ false = apart in cc))

-- legal records keep nothing of a node that is not joined
pub none_kept : (records : List Record) → AreLegal records → (n : ℕ) → (node_of (kept_of records) n).joined ≡ false → IsUntold (node_of (kept_of records) n)
none_kept records legal = all_so records first_kept legal first_so
