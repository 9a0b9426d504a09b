-- Walks of at most one repeater, and which of them comes first.
use Rattle.std.proofs.Common.{◌≡◌, ◌⊎◌, ◌||◌, ℕ, suc, zero, Bool, true, false, List, [], ◌∷◌, refl, sym, ap, subst, ◌∙◌, inl, inr, arith}
use Rattle.std.specs.Prelude.{IsTrue, All, AllPairs, nat_eq, ◌≢◌}
use Rattle.std.specs.List.{list_any, AllByRecursion}
use Rattle.std.proofs.lemmas.Bool.Decides.{nat_tests}
use Rattle.std.specs.Ordering.{nat_cmp, eq_by_cmp, is_le, ordering_then}
use Rattle.std.specs.declared.cmp.Ordering.{Ordering}
use Rattle.std.specs.declared.cmp.Ordering.TheVariants.{Less, Equal, Greater}
use Rattle.std.specs.FinSet as set
use Rattle.route_table.specs.Network.{Link, link_cmp, link_of, linked, repeats}
use Rattle.route_table.specs.Walk.{Hops, Walk, ComesFirst}
use Rattle.route_table.proofs.Networks.{link_cmp_total, tied_links}
use Rattle.law_wire.specs.Networks.{network_of}
use Rattle.law_wire.specs.Routes.{IsRouteTo, HasNoRoute}

-- whether some links have that of two nodes
abbrev pub has_link : List Link → ℕ → ℕ → Bool
has_link links a b = list_any (eq_by_cmp link_cmp (link_of a b)) links

pub is_linked : (links : List Link) (nodes : List ℕ) (a b : ℕ) → linked (network_of links nodes) a b ≡ has_link links a b
unfolding network_of
is_linked links nodes a b = set.contains-from_list link_cmp_total links (link_of a b)

pub is_repeater : (links : List Link) (nodes : List ℕ) (n : ℕ) → repeats (network_of links nodes) n ≡ list_any (λ y. nat_eq y n) nodes
unfolding network_of
is_repeater links nodes n = set.contains-from_list_nat nodes n

false_true : false ≡ true → ⊥
false_true e = cc

-- lists of no item and of one
none_all : (P : ℕ → Type 0) → All P []
none_all P = λ k d low. absurd (omega (arith, low))

one_all : (P : ℕ → Type 0) (n : ℕ) → P n → All P (n ∷ [])
one_all P n p zero d low = p
one_all P n p (suc k) d low = absurd (omega (arith, low))

none_pairs : (R : ℕ → ℕ → Type 0) → AllPairs R []
none_pairs R = λ i j d below low. absurd (omega (arith, below, low))

one_pairs : (R : ℕ → ℕ → Type 0) (n : ℕ) → AllPairs R (n ∷ [])
one_pairs R n = λ i j d below low. absurd (omega (arith, below, low))

-- an order that is at most equal, and then equal
then_le : (r : Ordering) → IsTrue (is_le r) → IsTrue (is_le (ordering_then r Equal))
then_le Less low = refl
then_le Equal low = refl
then_le Greater low = low

none_first : (other : List ℕ) → ComesFirst [] other
none_first [] = inr (refl, refl)
none_first (x ∷ xs) = inl (omega arith)

-- a node that hears node 1 has the route without repeaters
pub direct : (links : List Link) (nodes : List ℕ) (node : ℕ) → has_link links 1 node ≡ true → IsRouteTo (network_of links nodes) node []
direct links nodes node hears = record {
  walk = record {
    few = omega arith;
    different = none_pairs (λ a b. a ≢ b);
    inner = none_all (λ n. (n ≢ 1) × (n ≢ node));
    marked = none_all (λ n. IsTrue (repeats (network_of links nodes) n));
    hops = is_linked links nodes 1 node ∙ hears;
  };
  least = λ other walk. none_first other;
}

-- one of two tests passes
either : (b c : Bool) → (b || c) ≡ true → (b ≡ true) ⊎ (c ≡ true)
either true c one = inl refl
either false c one = inr one

same_number : (x y : ℕ) → nat_eq x y ≡ true → x ≡ y
same_number x y same = grind (arith, nat_tests)

-- what holds of all of these holds of one of them
pub among : (P : ℕ → Type 0) (nodes : List ℕ) → AllByRecursion P nodes → (x : ℕ) → list_any (λ y. nat_eq y x) nodes ≡ true → P x
among P [] all x any = absurd (false_true any)
among P (y ∷ nodes) all x any =
    elim (either (nat_eq y x) (list_any (λ z. nat_eq z x) nodes) any) [ inl same ↦ subst P (same_number y x same) all.0 | inr other ↦ among P nodes all.1 x other ]

-- a way over one repeater
pub over_one : (links : List Link) (nodes : List ℕ) (node via : ℕ) → via ≢ 1 → via ≢ node → list_any (λ y. nat_eq y via) nodes ≡ true
    → has_link links 1 via ≡ true → has_link links via node ≡ true → Walk (network_of links nodes) node (via ∷ [])
over_one links nodes node via home target marked first second = record {
  few = omega arith;
  different = one_pairs (λ a b. a ≢ b) via;
  inner = one_all (λ n. (n ≢ 1) × (n ≢ node)) via (home, target);
  marked = one_all (λ n. IsTrue (repeats (network_of links nodes) n)) via (is_repeater links nodes via ∙ marked);
  hops = (is_linked links nodes 1 via ∙ first, is_linked links nodes via node ∙ second);
}

-- it comes before others where no link is direct and no other repeater is lower
one_first : (links : List Link) (nodes : List ℕ) (node via : ℕ) → has_link links 1 node ≡ false
    → AllByRecursion (λ x. has_link links 1 x ≡ true → has_link links x node ≡ true → IsTrue (is_le (nat_cmp via x))) nodes
    → (other : List ℕ) → Walk (network_of links nodes) node other → ComesFirst (via ∷ []) other
one_first links nodes node via apart lowest [] other = absurd (false_true (sym (is_linked links nodes 1 node ∙ apart) ∙ other.hops))
one_first links nodes node via apart lowest (x ∷ []) other =
    inr (
      refl,
      then_le (nat_cmp via x) (among _ nodes lowest x (sym (is_repeater links nodes x) ∙ other.marked 0 0 (omega arith))
          (sym (is_linked links nodes 1 x) ∙ other.hops.0) (sym (is_linked links nodes x node) ∙ other.hops.1)),
    )
one_first links nodes node via apart lowest (x ∷ y ∷ more) other = inl (omega arith)

pub one_route : (links : List Link) (nodes : List ℕ) (node via : ℕ) → Walk (network_of links nodes) node (via ∷ []) → has_link links 1 node ≡ false
    → AllByRecursion (λ x. has_link links 1 x ≡ true → has_link links x node ≡ true → IsTrue (is_le (nat_cmp via x))) nodes
    → IsRouteTo (network_of links nodes) node (via ∷ [])
one_route links nodes node via walk apart lowest = record { walk = walk; least = one_first links nodes node via apart lowest }

-- no walk leads anywhere where there is no link
pub apart : (nodes : List ℕ) (node : ℕ) → HasNoRoute (network_of [] nodes) node
apart nodes node [] walk = absurd (false_true (sym (is_linked [] nodes 1 node) ∙ walk.hops))
apart nodes node (x ∷ xs) walk = absurd (false_true (sym (is_linked [] nodes 1 x) ∙ walk.hops.0))

-- node 5 has no link to node 1 or 2
no_link : (a : ℕ) → has_link (record { low = 1; high = 2 } ∷ []) a 5 ≡ false
no_link a = ap (λ t. t || false) (tied_links (link_of a 5) (record { low = 1; high = 2 })) ∙ grind (arith, nat_tests)

ends_nowhere : (nodes : List ℕ) (a : ℕ) (way : List ℕ) → Hops (network_of (record { low = 1; high = 2 } ∷ []) nodes) a way 5 → ⊥
ends_nowhere nodes a [] hops = false_true (sym (is_linked _ nodes a 5 ∙ no_link a) ∙ hops)
ends_nowhere nodes a (x ∷ way) hops = ends_nowhere nodes x way hops.1

pub cannot_tell : (nodes way : List ℕ) → Walk (network_of (record { low = 1; high = 2 } ∷ []) nodes) 5 way → ⊥
cannot_tell nodes way walk = ends_nowhere nodes 1 way walk.hops
