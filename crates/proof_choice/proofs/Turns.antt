-- The node that a host serves next is the first with work after the one that it served last, in cyclic order.
use Rattle.std.proofs.Common.{◌≡◌, ℕ, suc, ◌+◌, ◌-◌, ◌<◌, ◌≤◌, ◌||◌, not, nat_le, Bool, true, false, if◌then◌else◌, inl, inr, Option, Some, None, List, refl, ap, ◌∙◌, arith}
use Rattle.std.specs.Option.{option_or}
use Rattle.std.proofs.lemmas.Bool.{cases_lt, both_ways, le-leb, le-ltb, lt-ltb, or_left, or_right}
use Rattle.host_node.specs.Search.{least_above, next_of}
use Rattle.host_node.specs.State.{NodeState, has_work}
use Rattle.host_node.specs.TableState.{node_of}
use Rattle.host_node.proofs.Searches.{HasNone, IsFirstFrom, what_is_least, where_is_none}
use Rattle.law_time.specs.Choice.{turn_of}

turn_above : (served node : ℕ) → served < node → turn_of served node ≡ node
turn_above served node less = ap (λ (b : Bool). if b then node else node + 232) (lt-ltb served node less)

turn_below : (served node : ℕ) → node ≤ served → turn_of served node ≡ node + 232
turn_below served node less = ap (λ (b : Bool). if b then node else node + 232) (le-ltb served node less)

-- no other one with work comes before it
abbrev HasTurn : (ℕ → Bool) → ℕ → ℕ → ℕ → Type 0
HasTurn works served n m = (nat_le (turn_of served n) (turn_of served m) || not (works m)) ≡ true

before : (works : ℕ → Bool) (served n m first later : ℕ) → turn_of served n ≡ first → turn_of served m ≡ later → first ≤ later → HasTurn works served n m
before works served n m first later one other less =
    or_left (nat_le (turn_of served n) (turn_of served m)) (not (works m)) (le-leb (turn_of served n) (turn_of served m) (omega (arith, one, other, less)))

idle : (works : ℕ → Bool) (served n m : ℕ) → works m ≡ false → HasTurn works served n m
idle works served n m none = or_right (nat_le (turn_of served n) (turn_of served m)) (not (works m)) (ap not none)

module _ (works : ℕ → Bool) (served n m : ℕ) (from : 1 ≤ m) (to : m ≤ 232) (low : served ≤ 232) where
  above : IsFirstFrom works (suc served) (232 - served) n → HasTurn works served n m
  above first = elim (cases_lt served m) [
    | inl later ↦ elim (cases_lt m n) [
      | inl less ↦ idle works served n m (first.before m (omega (arith, later)) less)
      | inr more ↦ before works served n m n m (turn_above served n (let least = first.from in omega (arith, least))) (turn_above served m later) more
    ]
    | inr earlier ↦
        before works served n m n (m + 232) (turn_above served n (let least = first.from in omega (arith, least))) (turn_below served m earlier)
        (let most = first.to in omega (arith, most, low))
  ]

  round : HasNone works (suc served) (232 - served) → IsFirstFrom works (suc 0) (232 - 0) n → HasTurn works served n m
  round none first =
      let under : n ≤ served = elim (cases_lt served n) [
        | inl over ↦ absurd (both_ways (works n) (none.all n (omega (arith, over)) (let most = first.to in omega (arith, over, most, low))) first.is_one)
        | inr at ↦ at
      ] in
      elim (cases_lt served m) [
        | inl later ↦ idle works served n m (none.all m (omega (arith, later)) (omega (arith, later, to, low)))
        | inr earlier ↦ elim (cases_lt m n) [
          | inl less ↦ idle works served n m (first.before m from less)
          | inr more ↦ before works served n m (n + 232) (m + 232) (turn_below served n under) (turn_below served m earlier) (omega (arith, more))
        ]
      ]

  by_search : (o : Option ℕ) → least_above works served ≡ o → option_or o (least_above works 0) ≡ Some n → HasTurn works served n m
  by_search (Some k) is found = let same : k ≡ n = cc in above (what_is_least works served n (is ∙ ap (λ (j : ℕ). Some j) same))
  by_search None is found = round (where_is_none works served is) (what_is_least works 0 n found)

pub has_its_turn : (nodes : List NodeState) (served n : ℕ) → next_of nodes served ≡ Some n → served ≤ 232 → (m : ℕ) → 1 ≤ m → m ≤ 232
    → (nat_le (turn_of served n) (turn_of served m) || not (has_work (node_of nodes m))) ≡ true
has_its_turn nodes served n next low m from to =
    let works : ℕ → Bool = λ node. has_work (node_of nodes node) in by_search works served n m from to low (least_above works served) refl next
