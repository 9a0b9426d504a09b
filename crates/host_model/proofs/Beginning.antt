-- A host at the beginning has what is kept before the first record.
use Rattle.std.proofs.Common.{◌≡◌, ℕ, zero, suc, ◌<◌, ◌≤◌, true, false, is_some, unwrap_or, List, [], ◌∷◌, ◌++◌, length, replicate, get_or, set, Option, Some, None, inl, inr, refl, sym, ap, ◌∙◌, subst, arith}
use Rattle.std.specs.FinMap as finmap
use Rattle.std.proofs.lemmas.Bool.{cases_lt}
use Rattle.std.proofs.lemmas.List.{get_or_past, get_or-set_same, get_or-replicate, length-replicate}
use Rattle.zw_base.specs.declared.property.Property.{Property}
use Rattle.s0_crypto.specs.declared.key_pair.Keys.{Keys}
use Rattle.s0_session.specs.declared.account.Account.{Account}
use Rattle.s0_session.specs.Nonces.{unused, account_of}
use Rattle.value_store.specs.declared.stored.Stored.{Stored}
use Rattle.value_store.specs.Values.{Values, key_cmp, no_value, IsReserved}
use Rattle.host_node.specs.State.{unknown}
use Rattle.host_node.specs.Steps.{after_join, after_interview}
use Rattle.host_node.specs.TableState.{node_of as node_among, unknown_nodes, unknown_from}
use Rattle.host_node.proofs.TableLists.{unknown_facts}
use Rattle.host_keep.specs.Kept.{Kept, KeptNode, blank_node, first_nodes as first_kept_nodes, first_kept, joining, interviewed, with_node as with_kept_node, node_of as kept_of_node, confirmed_in}
use Rattle.host_model.specs.State.{HostState, Command, command_at, first_host, first_nodes, first_classes, node_of, with_node}
use Rattle.host_model.specs.Holding.{HoldsNode, Holds, HoldsAlone, Rise, commands_of, is_one_cancelled}
use Rattle.host_model.proofs.Steps.{node_changes, joined, interview_said}

-- ---- nothing is known of any node

abbrev blanks : List KeptNode
blanks = replicate 233 blank_node

alike_at : {X : Type 0} (count m : ℕ) (x : X) → get_or (replicate count x) m x ≡ x
alike_at count m x = elim (cases_lt m count) [
  | inl within ↦ get_or-replicate count m x x within
  | inr past ↦ get_or_past (replicate count x) m x (subst (λ (k : ℕ). k ≤ m) (sym (length-replicate count x)) past)
]

unknown_holds : (number : ℕ) → HoldsNode (unknown number) unused blank_node
unknown_holds number = record { joined = refl; listens = refl; classes = refl; waiting = refl; sessions = refl; ended = refl; given = refl; live = refl; seen = refl }

from_holds : (number count m : ℕ) → HoldsNode (node_among (unknown_from number count) m) unused blank_node
from_holds number zero m = unknown_holds 0
from_holds number (suc more) zero = unknown_holds number
from_holds number (suc more) (suc m) = from_holds (suc number) more m

known_holds : (m : ℕ) → HoldsNode (node_among unknown_nodes m) unused blank_node
unfolding unknown_nodes
known_holds zero = unknown_holds 1
known_holds (suc m) = from_holds 1 232 m

all_hold : (m : ℕ) → HoldsNode (node_among unknown_nodes m) (account_of (replicate 233 unused) m) (get_or blanks m blank_node)
all_hold m =
    subst (λ (a : Account). HoldsNode (node_among unknown_nodes m) a (get_or blanks m blank_node)) (sym (alike_at 233 m unused))
    (subst (λ (k : KeptNode). HoldsNode (node_among unknown_nodes m) unused k) (sym (alike_at 233 m blank_node)) (known_holds m))

abbrev blank_host : Keys → HostState
blank_host keys = record (first_host keys) { nodes = unknown_nodes }

abbrev blank_kept : Kept
blank_kept = record { commands = []; cancelled = []; nodes = blanks }

none_found : (number : ℕ) → command_at [] number ≡ None
none_found zero = refl
none_found (suc k) = refl

never : {X : Type 0} {c : Command} {o : Option Command} → o ≡ None → o ≡ Some c → X
never e f = cc

-- no values
abbrev nothing : Values
nothing = finmap.empty

nothing_stored : (n : ℕ) (p : Property) → finmap.get nothing (n, p) ≡ None
nothing_stored n p = finmap.get-empty key_cmp (n, p)

no_session : (m : ℕ) → (get_or blanks m blank_node).sessions ≡ []
no_session m = ap (λ (k : KeptNode). k.sessions) (alike_at 233 m blank_node)

blank_holds : (keys : Keys) → Holds (blank_host keys) blank_kept
blank_holds keys = record {
  places = (length-replicate 233 blank_node ∙ sym unknown_facts.places, length-replicate 233 unused ∙ sym unknown_facts.places);
  nodes = all_hold;
  commands = refl;
  outcomes = λ number command found. never (none_found number) found;
  cancelled = λ number. ap is_one_cancelled (sym (none_found number));
  order = λ m. subst (λ (k : KeptNode). Rise (commands_of k.sessions ++ k.waiting)) (sym (alike_at 233 m blank_node)) tt;
  confirmed = λ m p. ap (λ (o : Option Stored). (unwrap_or o no_value).confirmed) (nothing_stored m p) ∙ sym (ap (λ l. confirmed_in [] l p) (no_session m));
  properties = λ m p there. cc;
}

-- ---- and node 2 is there

set_twice : {X : Type 0} (l : List X) (n : ℕ) (a b : X) → set (set l n a) n b ≡ set l n b
set_twice [] n a b = refl
set_twice (x ∷ l) zero a b = refl
set_twice (x ∷ l) (suc n) a b = ap (λ r. x ∷ r) (set_twice l n a b)

abbrev joined_kept : Kept
joined_kept = with_kept_node blank_kept 2 (joining (kept_of_node blank_kept 2))

abbrev known_kept : Kept
known_kept = with_kept_node joined_kept 2 (interviewed (kept_of_node joined_kept 2) true first_classes)

second_place : 2 < length blanks
second_place = omega (arith, length-replicate 233 blank_node)

nodes_are : known_kept.nodes ≡ first_kept_nodes
unfolding first_kept_nodes
nodes_are =
    set_twice blanks 2 (joining (kept_of_node blank_kept 2)) (interviewed (kept_of_node joined_kept 2) true first_classes)
    ∙ ap (λ (k : KeptNode). set blanks 2 (interviewed k true first_classes)) (get_or-set_same blanks 2 (joining (kept_of_node blank_kept 2)) blank_node second_place)
    ∙ ap (λ (k : KeptNode). set blanks 2 (interviewed (joining k) true first_classes)) (alike_at 233 2 blank_node)

first_holds : (keys : Keys) → Holds (first_host keys) first_kept
unfolding first_nodes
first_holds keys =
    let h = blank_host keys in
    let one = node_changes h blank_kept 2 (joining (kept_of_node blank_kept 2)) refl refl (blank_holds keys) (after_join (node_of h 2))
    (joined (node_of h 2) (account_of h.nonces 2) (kept_of_node blank_kept 2) (all_hold 2)) in
    let g = with_node h 2 (after_join (node_of h 2)) in
    let two = node_changes g joined_kept 2 (interviewed (kept_of_node joined_kept 2) true first_classes) refl refl one (after_interview (node_of g 2) true first_classes)
    (interview_said (node_of g 2) (account_of g.nonces 2) (kept_of_node joined_kept 2) true first_classes (one.nodes 2)) in
    subst (λ (l : List KeptNode). Holds (first_host keys) (record { commands = []; cancelled = []; nodes = l })) nodes_are two

pub begins_alone : (keys : Keys) → HoldsAlone (first_host keys) first_kept
begins_alone keys = record {
  holds = first_holds keys;
  outcomes = λ number command found. never (none_found number) found;
  properties = λ n p there. absurd (no_property n p there);
  unheard = λ n p. ap (λ (o : Option Stored). (unwrap_or o no_value).heard) (nothing_stored n p);
}
  where
    no_property : (n : ℕ) (p : Property) → IsReserved nothing n p → ⊥
    no_property n p there = let e : is_some (finmap.get nothing (n, p)) ≡ false = ap (λ (o : Option Stored). is_some o) (nothing_stored n p) in cc
