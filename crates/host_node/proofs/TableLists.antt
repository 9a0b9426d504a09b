-- Nodes of which nothing is known.
use Rattle.std.proofs.Common.{◌≡◌, ℕ, zero, suc, ◌+◌, ◌-◌, ◌<◌, ◌≤◌, Bool, false, List, [], ◌∷◌, ◌++◌, length, map, replicate, refl, sym, ap, subst, ◌∙◌, arith, rules}
use Rattle.host_node.specs.State.{NodeState, unknown, has_work, needs_tick, wants_no_more}
use Rattle.host_node.specs.Facts.{NodeFacts}
use Rattle.host_node.specs.TableState.{node_of, unknown_from, unknown_nodes}
use Rattle.host_node.specs.TableFacts.{NodesFacts}
use Rattle.host_node.specs.Marks.{no_marks}
use Rattle.host_node.specs.TableInside.{IsNodes}
use Rattle.host_node.specs.declared.agenda.Agenda.{Agenda}

-- one more of them
pub unknown_more : (number count : ℕ) → unknown_from number count ++ unknown (number + count) ∷ [] ≡ unknown_from number (suc count)
unknown_more number zero = let e : number + 0 ≡ number = omega arith in ap (λ n. unknown n ∷ []) e
unknown_more number (suc more) =
    let e : number + suc more ≡ suc number + more = omega arith in
    ap (λ (l : List NodeState). unknown number ∷ l) (ap (λ n. unknown_from (suc number) more ++ unknown n ∷ []) e ∙ unknown_more (suc number) more)

-- one more was made, after that of place 0
pub made_one_more : (items new : List NodeState) (one : NodeState) (number node : ℕ) → items ≡ unknown 1 ∷ unknown_from 1 (number - 1) → 1 ≤ number
    → new ≡ items ++ one ∷ [] → one ≡ unknown node → node ≡ number → new ≡ unknown 1 ∷ unknown_from 1 (number + 1 - 1)
made_one_more items new one number node so_far from more is same =
    let count : 1 + (number - 1) ≡ number = omega (arith, from) in
    let next : suc (number - 1) ≡ number + 1 - 1 = omega (arith, from) in
    more ∙ ap (λ (l : List NodeState). l ++ one ∷ []) so_far ∙ ap (λ (n : NodeState). (unknown 1 ∷ unknown_from 1 (number - 1)) ++ n ∷ []) (is ∙ ap unknown (same ∙ sym count))
    ∙ ap (λ (l : List NodeState). unknown 1 ∷ l) (unknown_more 1 (number - 1)) ∙ ap (λ k. unknown 1 ∷ unknown_from 1 k) next

pub all_made : (items : List NodeState) (number : ℕ) → number ≡ 233 → items ≡ unknown 1 ∷ unknown_from 1 (number - 1) → items ≡ unknown_nodes
unfolding unknown_nodes
all_made items number last so_far =
    let count : number - 1 ≡ 232 = omega (arith, last) in so_far ∙ ap (λ k. unknown 1 ∷ unknown_from 1 k) count

pub length-unknown_from : (number count : ℕ) → length (unknown_from number count) ≡ count
length-unknown_from number zero = refl
length-unknown_from number (suc more) = let e = length-unknown_from (suc number) more in omega (arith, e)

node_of-unknown_from : (number count k : ℕ) → k < count → node_of (unknown_from number count) k ≡ unknown (number + k)
node_of-unknown_from number zero k within = absurd (omega (arith, within))
node_of-unknown_from number (suc more) zero within = let e : number ≡ number + 0 = omega arith in ap (λ n. unknown n) e
node_of-unknown_from number (suc more) (suc k) within =
    let e : suc number + k ≡ number + suc k = omega arith in node_of-unknown_from (suc number) more k (omega (arith, within)) ∙ ap (λ n. unknown n) e

-- a node of which nothing is known has its facts
unknown_node : (n : ℕ) → NodeFacts (unknown n)
unknown_node n = search rules

facts_from : (number count k : ℕ) → NodeFacts (node_of (unknown_from number count) k)
facts_from number zero k = unknown_node 0
facts_from number (suc more) zero = unknown_node number
facts_from number (suc more) (suc k) = facts_from (suc number) more k

number_at : (count k : ℕ) → 1 ≤ k → k ≤ count → (node_of (unknown 1 ∷ unknown_from 1 count) k).node ≡ k
number_at count zero from to = absurd (omega (arith, from))
number_at count (suc k) from to =
    let e : 1 + k ≡ suc k = omega arith in ap (λ (n : NodeState). n.node) (node_of-unknown_from 1 count k (omega (arith, to))) ∙ e

facts_at : (count k : ℕ) → NodeFacts (node_of (unknown 1 ∷ unknown_from 1 count) k)
facts_at count zero = unknown_node 1
facts_at count (suc k) = facts_from 1 count k

pub unknown_facts : NodesFacts unknown_nodes
unfolding unknown_nodes
unknown_facts = record {
  places = let e = length-unknown_from 1 232 in omega (arith, e);
  numbers = λ k from to. number_at 232 k from to;
  facts = λ k. facts_at 232 k;
}

-- nothing is true of them
none_is_true : (test : NodeState → Bool) → ((n : ℕ) → test (unknown n) ≡ false) → (number count : ℕ) → map test (unknown_from number count) ≡ replicate count false
none_is_true test never number zero = refl
none_is_true test never number (suc more) = rw (never number) (ap (λ (l : List Bool). false ∷ l) (none_is_true test never (suc number) more))

pub no_marks_yet : (test : NodeState → Bool) → ((n : ℕ) → test (unknown n) ≡ false) → no_marks ≡ map test unknown_nodes
unfolding unknown_nodes no_marks
no_marks_yet test never =
    ap (λ (b : Bool). b ∷ replicate 232 false) (sym (never 1)) ∙ ap (λ (l : List Bool). test (unknown 1) ∷ l) (sym (none_is_true test never 1 232))

-- all nodes as they are made
pub all_new : (items : List NodeState) (agenda : Agenda) → items ≡ unknown_nodes → agenda ≡ record { work = no_marks; ticking = no_marks; wanting = no_marks } → IsNodes items agenda
all_new items agenda made empty =
    subst (λ (l : List NodeState). IsNodes l agenda) (sym made) (subst (λ (a : Agenda). IsNodes unknown_nodes a) (sym empty) (record {
      facts = unknown_facts;
      sets = record {
        work = no_marks_yet has_work (λ _. refl);
        ticking = no_marks_yet needs_tick (λ _. refl);
        wanting = no_marks_yet wants_no_more (λ _. refl);
      };
    }))
