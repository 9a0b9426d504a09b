-- Levels, trails and the greedy choice: that it gives the least walk.
use Rattle.std.proofs.Common.{◌≡◌, ◌≢◌, ℕ, zero, suc, ◌+◌, ◌-◌, ◌<◌, ◌≤◌, true, false, List, [], ◌∷◌, ◌++◌, length, get_or, set, take, get_or-set_same, get_or-set_other, IsTrue, ◌↔◌, Option, None, Some, MatchOption, is_some, refl, sym, ap, subst, ◌∙◌, inl, inr, arith}
use Rattle.std.specs.List.{All, AllPairs}
use Rattle.std.specs.declared.cmp.Ordering.{Ordering}
use Rattle.std.proofs.lemmas.Bool.{cases_eq, cases_order, both_ways, false≢true}
use Rattle.std.specs.Ordering.{nat_cmp, is_le, ordering_then}
use Rattle.std.specs.Cmp.Lexicographic.{slice_cmp}
use Rattle.std.proofs.lemmas.List.{length-take-le, take_more_set}
use Rattle.std.proofs.lemmas.List.Elements.{All-nil, All-cons, All-head, All-tail, All-weaker}
use Rattle.std.proofs.lemmas.Bool.Decides.{nat_tests}
use Rattle.route_table.specs.Network.{Network, linked, repeats}
use Rattle.route_table.specs.Walk.{Hops, Walk, ComesFirst}
use Rattle.route_table.specs.declared.node_set.NodeSet.{NodeSet}
use Rattle.route_table.specs.NodeSet.{has}
use Rattle.route_table.specs.RouteTable.{nobody}
use Rattle.route_table.specs.Levels.{Between, Reaches, Level, ShowsLevel, IsBefore, IsFirstHeard}

tied : (h c : ℕ) (o : Ordering) → h ≡ c → IsTrue (is_le o) → IsTrue (is_le (ordering_then (nat_cmp h c) o))
tied h c o same le = grind (arith, nat_tests)

below : (h c : ℕ) (o : Ordering) → h < c → IsTrue (is_le (ordering_then (nat_cmp h c) o))
below h c o less = grind (arith, nat_tests)

-- a level put at its place, below which a fact held of each
pub put_level : (P : ℕ → NodeSet → Type 0) (levels : List NodeSet) (d : ℕ) (level : NodeSet) → d < length levels → ((k : ℕ) → k < d → P k (get_or levels k nobody)) → P d level → (k : ℕ) → k < d + 1 → P k (get_or (set levels d level) k nobody)
put_level P levels d level within below here k less =
    elim (cases_eq k d) [
      | inl same ↦ let at = ap (λ n. get_or (set levels d level) n nobody) same ∙ get_or-set_same levels d level nobody within in subst (P k) (sym at) (subst (λ n. P n level) (sym same) here)
      | inr other ↦ subst (P k) (sym (get_or-set_other levels d k level nobody other)) (below k (omega arith))
    ]

module _ (net : Network) (to : ℕ) where
  pub level-reaches : (k a : ℕ) → Reaches net to k a → (c : ℕ) × Level net to k c × IsTrue (linked net a c)
  level-reaches zero a r = (to, refl, r)
  level-reaches (suc k) a r = (r.0, (r.1, r.3), r.2)

  pub reaches-level : (k a c : ℕ) → Level net to k c → IsTrue (linked net a c) → Reaches net to k a
  reaches-level zero a c same l = subst (λ n. IsTrue (linked net a n)) same l
  reaches-level (suc k) a c in_level l = (c, in_level.0, l, in_level.1)

  -- a walk of repeaters that need not differ
  abbrev pub Trail : ℕ → List ℕ → Type 0
  Trail a [] = IsTrue (linked net a to)
  Trail a (c ∷ cs) = Between net to c × IsTrue (linked net a c) × Trail c cs

  pub trail-reaches : (a : ℕ) (cs : List ℕ) → Trail a cs → Reaches net to (length cs) a
  trail-reaches a [] t = t
  trail-reaches a (c ∷ cs) t = (c, t.0, t.1, trail-reaches c cs t.2)

  -- from the repeater at a place, the rest of the trail leads on
  after : (a : ℕ) (cs : List ℕ) (j d m : ℕ) → Trail a cs → j + suc m ≡ length cs → Reaches net to m (get_or cs j d)
  after a [] j d m t long = absurd (omega arith)
  after a (c ∷ cs) zero d m t long = let same : length cs ≡ m = omega arith in subst (λ n. Reaches net to n c) same (trail-reaches c cs t.2)
  after a (c ∷ cs) (suc j) d m t long = after c cs j d m t.2 (omega arith)

  -- and up to the repeater at a place, the prefix of the trail leads to it
  before : (a : ℕ) (cs : List ℕ) (i d m : ℕ) → Trail a cs → i < length cs → Reaches net to m (get_or cs i d) → Reaches net to (suc (i + m)) a
  before a [] i d m t less r = absurd (omega arith)
  before a (c ∷ cs) zero d m t less r = let same : suc (0 + m) ≡ suc m = omega arith in subst (λ n. Reaches net to n a) (sym same) (c, t.0, t.1, r)
  before a (c ∷ cs) (suc i) d m t less r =
      let same : suc (suc i + m) ≡ suc (suc (i + m)) = omega arith in
      subst (λ n. Reaches net to n a) (sym same) (c, t.0, t.1, before c cs i d m t.2 (omega arith) r)

  -- the repeaters of a shortest trail differ
  pub trail-different : (a : ℕ) (cs : List ℕ) → Trail a cs → ((k : ℕ) → k < length cs → Reaches net to k a → ⊥) → AllPairs (λ x y. x ≢ y) cs
  trail-different a cs t fewest i j d less within same =
      let rest = after a cs j d (length cs - suc j) t (omega arith) in
      let joined = before a cs i d (length cs - suc j) t (omega arith) (subst (λ n. Reaches net to (length cs - suc j) n) (sym same) rest) in
      fewest (suc (i + (length cs - suc j))) (omega arith) joined

  -- the lowest next repeater of a level
  pub record IsNext (k a h : ℕ) : Type 0 where
    pub level : Level net to k h
    pub heard : IsTrue (linked net a h)
    pub lowest : (q : ℕ) → Level net to k q → IsTrue (linked net a q) → h ≤ q

  -- from a, k repeaters before the target, each time the lowest next one, ending at e
  abbrev pub Goes : ℕ → ℕ → List ℕ → ℕ → Type 0
  Goes a k [] e = a ≡ e
  Goes a zero (h ∷ p) e = ⊥
  Goes a (suc k) (h ∷ p) e = IsNext (suc k) a h × Goes h k p e

  pub goes-more : (p : List ℕ) (a k e j h : ℕ) → Goes a k p e → k ≡ length p + suc j → IsNext (suc j) e h → Goes a k (p ++ h ∷ []) h
  goes-more [] a zero e j h g long next = absurd (omega arith)
  goes-more [] a (suc k) e j h g long next =
      let same : j ≡ k = omega arith in (subst (λ n. IsNext (suc k) n h) (sym g) (subst (λ n. IsNext (suc n) e h) same next), refl)
  goes-more (x ∷ p) a zero e j h g long next = absurd g
  goes-more (x ∷ p) a (suc k) e j h g long next = (g.0, goes-more p x k e j h g.1 (omega arith) next)

  pub goes-trail : (p : List ℕ) (a k e : ℕ) → Goes a k p e → IsTrue (linked net e to) → Trail a p
  goes-trail [] a k e g last = subst (λ n. IsTrue (linked net n to)) (sym g) last
  goes-trail (h ∷ p) a zero e g last = absurd g
  goes-trail (h ∷ p) a (suc k) e g last = (g.0.level.0, g.0.heard, goes-trail p h k e g.1 last)

  pub goes-least : (p q : List ℕ) (a k e : ℕ) → Goes a k p e → length p ≡ k → length q ≡ k → Trail a q → IsTrue (is_le (slice_cmp nat_cmp p q))
  goes-least [] [] a k e g long also t = refl
  goes-least [] (c ∷ q) a k e g long also t = absurd (omega arith)
  goes-least (h ∷ p) q a zero e g long also t = absurd g
  goes-least (h ∷ p) [] a (suc k) e g long also t = absurd (omega arith)
  goes-least (h ∷ p) (c ∷ q) a (suc k) e g long also t =
      let many : length q ≡ k = omega arith in
      let reaches : Reaches net to k c = subst (λ n. Reaches net to n c) many (trail-reaches c q t.2) in
      let low : h ≤ c = g.0.lowest c (t.0, reaches) t.1 in
      elim (cases_eq h c) [
        | inl same ↦ tied h c (slice_cmp nat_cmp p q) same (goes-least p q h k e g.1 (omega arith) many (subst (λ n. Trail n q) (sym same) t.2))
        | inr other ↦ below h c (slice_cmp nat_cmp p q) (omega arith)
      ]

  -- what a walk says of its repeaters one by one
  pub trail-from_hops : (a : ℕ) (cs : List ℕ) → Hops net a cs to → All (λ n. (n ≢ 1) × (n ≢ to)) cs → All (λ n. IsTrue (repeats net n)) cs → Trail a cs
  trail-from_hops a [] hops inner marked = hops
  trail-from_hops a (c ∷ cs) hops inner marked =
      let free = All-head (λ n. (n ≢ 1) × (n ≢ to)) c cs inner in (
        record { marked = All-head (λ n. IsTrue (repeats net n)) c cs marked; not_home = free.0; not_target = free.1 },
        hops.0,
        trail-from_hops c cs hops.1 (All-tail (λ n. (n ≢ 1) × (n ≢ to)) c cs inner) (All-tail (λ n. IsTrue (repeats net n)) c cs marked),
      )

  pub hops-from_trail : (a : ℕ) (cs : List ℕ) → Trail a cs → Hops net a cs to
  hops-from_trail a [] t = t
  hops-from_trail a (c ∷ cs) t = (t.1, hops-from_trail c cs t.2)

  pub between-from_trail : (a : ℕ) (cs : List ℕ) → Trail a cs → All (Between net to) cs
  between-from_trail a [] t = All-nil (Between net to)
  between-from_trail a (c ∷ cs) t = All-cons (Between net to) c cs t.0 (between-from_trail c cs t.2)

  pub next_from : (k a h : ℕ) (s : NodeSet) → ShowsLevel net to k s → IsFirstHeard net s a h → IsNext k a h
  next_from k a h s shown first = record {
    level = (shown h).0 first.held;
    heard = first.heard;
    lowest = λ q in_level heard. first.lowest q ((shown q).1 in_level) heard;
  }

  pub not_none : (k a : ℕ) (s : NodeSet) → ShowsLevel net to k s → ((q : ℕ) → IsTrue (has s q) → linked net a q ≡ false) → ¬ Reaches net to k a
  not_none k a s shown none r =
      let c = level-reaches k a r in both_ways _ (none c.0 ((shown c.0).1 c.1)) c.2

  pub found_some : (k a : ℕ) (s : NodeSet) (r : Option ℕ) → ShowsLevel net to k s → MatchOption r ((q : ℕ) → IsTrue (has s q) → linked net a q ≡ false) (λ n. IsFirstHeard net s a n) → is_some r ≡ true → Reaches net to k a
  found_some k a s None shown first some = absurd (false≢true some)
  found_some k a s (Some n) shown first some = reaches-level k a n ((shown n).0 first.held) first.heard

  pub found_none : (k a : ℕ) (s : NodeSet) (r : Option ℕ) → ShowsLevel net to k s → MatchOption r ((q : ℕ) → IsTrue (has s q) → linked net a q ≡ false) (λ n. IsFirstHeard net s a n) → is_some r ≡ false → ¬ Reaches net to k a
  found_none k a s None shown first none = not_none k a s shown first
  found_none k a s (Some n) shown first none = absurd (false≢true (sym none))

  -- the level after a level
  pub shown_after : (k : ℕ) (s free next : NodeSet) → ShowsLevel net to k s → ((n : ℕ) → IsTrue (has free n) ↔ Between net to n) → ((n : ℕ) → IsTrue (has next n) ↔ IsBefore net s free n) → ShowsLevel net to (suc k) next
  shown_after k s free next shown between before n = (
    λ is.
        let b = (before n).0 is in
        ((between n).0 b.free, reaches-level k n b.next.0 ((shown b.next.0).0 b.next.1) b.next.2),
    λ in_level.
        let c = level-reaches k n in_level.1 in
        (before n).1 (record { free = (between n).1 in_level.0; next = (c.0, (shown c.0).1 c.1, c.2) }),
  )

  trail_of : (walk : List ℕ) → Walk net to walk → Trail 1 walk
  trail_of walk w = trail-from_hops 1 walk w.hops w.inner w.marked

  pub no_walk : ((k : ℕ) → k < 5 → ¬ Reaches net to k 1) → (walk : List ℕ) → ¬ Walk net to walk
  no_walk none walk w = none (length walk) (omega (arith, w.few)) (trail-reaches 1 walk (trail_of walk w))

  pub walk_from : (p : List ℕ) (d e : ℕ) → Goes 1 d p e → length p ≡ d → d < 5 → IsTrue (linked net e to) → ((k : ℕ) → k < d → ¬ Reaches net to k 1) → Walk net to p
  walk_from p d e g long few last fewest =
      let t = goes-trail p 1 d e g last in
      let free = between-from_trail 1 p t in
      record {
        few = omega arith;
        different = trail-different 1 p t (λ k less. fewest k (omega arith));
        inner = All-weaker (Between net to) (λ n. (n ≢ 1) × (n ≢ to)) (λ n b. (b.not_home, b.not_target)) p free;
        marked = All-weaker (Between net to) (λ n. IsTrue (repeats net n)) (λ n b. b.marked) p free;
        hops = hops-from_trail 1 p t;
      }

  pub least_from : (p : List ℕ) (d e : ℕ) → Goes 1 d p e → length p ≡ d → ((k : ℕ) → k < d → ¬ Reaches net to k 1) → (walk : List ℕ) → Walk net to walk → ComesFirst p walk
  least_from p d e g long fewest walk w =
      let t = trail_of walk w in
      elim (cases_order (length walk) d) [
        | inl same ↦ inr (long ∙ sym same, goes-least p walk 1 d e g long same t)
        | inr (inl fewer) ↦ absurd (fewest (length walk) fewer (trail-reaches 1 walk t))
        | inr (inr more) ↦ inl (omega arith)
      ]

  -- one more hop of the greedy choice
  pub one_hop : (d place : ℕ) (hops : List ℕ) (at h : ℕ) (s : NodeSet) → place < d → place < length hops → Goes 1 d (take place hops) at → ShowsLevel net to (d - place) s → IsFirstHeard net s at h → Goes 1 d (take (place + 1) (set hops place h)) h × Reaches net to (d - (place + 1)) h
  one_hop d place hops at h s left room goes shown first =
      let j = d - (place + 1) in
      let level : d - place ≡ suc j = omega arith in
      let next = next_from (suc j) at h s (subst (λ k. ShowsLevel net to k s) level shown) first in
      let done : length (take place hops) ≡ place = length-take-le place hops (omega arith) in
      let more = goes-more (take place hops) 1 d at j h goes (omega arith) next in
      (subst (λ p. Goes 1 d p h) (sym (take_more_set hops place h room)) more, next.level.1)

  -- the last hop
  pub at_end : (d place : ℕ) (hops : List ℕ) (at : ℕ) → place ≤ d → d ≤ place → d ≤ length hops → Goes 1 d (take place hops) at → Reaches net to (d - place) at → Goes 1 d (take d hops) at × (length (take d hops) ≡ d) × IsTrue (linked net at to)
  at_end d place hops at low high room goes reaches =
      let same : place ≡ d = omega arith in
      let none : d - place ≡ zero = omega arith in
      (subst (λ k. Goes 1 d (take k hops) at) same goes, length-take-le d hops room, subst (λ k. Reaches net to k at) none reaches)
