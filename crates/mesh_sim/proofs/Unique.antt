-- There is one route to a node.
use Rattle.std.proofs.Common.{◌≡◌, ℕ, ◌-◌, inl, inr, IsTrue, All, Option, Some, None, List, [], ◌∷◌, ◌++◌, length, drop, option_map, refl, ap, sym, subst, ◌∙◌, length-drop, arith}
use Rattle.std.specs.Ordering.{nat_cmp, is_le, ordering_reverse}
use Rattle.std.specs.declared.cmp.Ordering.{Ordering}
use Rattle.std.specs.declared.cmp.Ordering.TheVariants.{Less, Equal, Greater}
use Rattle.std.specs.Cmp.Lexicographic.{slice_cmp}
use Rattle.std.specs.FinMap.{nat_cmp-IsAntisymmetric, slice_cmp-IsAntisymmetric}
use Rattle.std.proofs.lemmas.Cmp.{nat_list_cmp_total}
use Rattle.std.proofs.lemmas.List.{take-append-drop, length-take-le}
use Rattle.std.proofs.lemmas.List.Elements.{All-head, All-tail}
use Rattle.route_table.specs.declared.route.Route.{Route}
use Rattle.route_table.specs.Route.{via}
use Rattle.route_table.specs.Network.{Network}
use Rattle.route_table.specs.Walk.{ComesFirst}
use Rattle.air_frames.specs.declared.frame.Heading.TheVariants.{Homeward}
use Rattle.mesh_sim.specs.Routes.{IsRoute, IsLeast, backwards}
use Rattle.mesh_sim.specs.Air.{AirState, departing, going_home}

-- two lists of which neither comes after the other are one
level : (xs ys : List ℕ) (r : Ordering) → slice_cmp nat_cmp xs ys ≡ r → IsTrue (is_le r) → IsTrue (is_le (ordering_reverse r)) → xs ≡ ys
level xs ys Equal e p q = slice_cmp-IsAntisymmetric nat_cmp-IsAntisymmetric xs ys e
level xs ys Less e p q = absurd (no q)
  where
    no : IsTrue (is_le (ordering_reverse Less)) → ⊥
    no h = cc
level xs ys Greater e p q = absurd (no p)
  where
    no : IsTrue (is_le Greater) → ⊥
    no h = cc

one_walk : (xs ys : List ℕ) → ComesFirst xs ys → ComesFirst ys xs → xs ≡ ys
one_walk xs ys (inl fewer) (inl more) = absurd (omega arith)
one_walk xs ys (inl fewer) (inr alike) = let e = alike.0 in absurd (omega arith)
one_walk xs ys (inr alike) (inl fewer) = let e = alike.0 in absurd (omega arith)
one_walk xs ys (inr alike) (inr back) =
    level xs ys (slice_cmp nat_cmp xs ys) refl alike.1
    (subst (λ (o : Ordering). IsTrue (is_le o)) (nat_list_cmp_total.antisymm ys xs) back.1)

-- lists of nothing but 0 of one length are one
zeros : (xs ys : List ℕ) → length xs ≡ length ys → All (λ n. n ≡ 0) xs → All (λ n. n ≡ 0) ys → xs ≡ ys
zeros [] [] long none same = refl
zeros [] (y ∷ ys) long none same = absurd cc
zeros (x ∷ xs) [] long none same = absurd cc
zeros (x ∷ xs) (y ∷ ys) long none same =
    let tails = zeros xs ys (let e : length xs ≡ length ys = omega arith in e) (All-tail (λ n. n ≡ 0) x xs none) (All-tail (λ n. n ≡ 0) y ys same) in
    ap (λ z. z ∷ xs) (All-head (λ n. n ≡ 0) x xs none ∙ sym (All-head (λ n. n ≡ 0) y ys same)) ∙ ap (λ zs. y ∷ zs) tails

length_via : (net : Network) (to : ℕ) (r : Route) → IsLeast net to r → length (via r) ≡ r.count
length_via net to r is = length-take-le r.count r.hops (let f = is.few in let p = is.places in omega arith)

same_fields : (r s : Route) → r.count ≡ s.count → r.hops ≡ s.hops → r ≡ s
same_fields r s e f =
    ap (λ (h : List ℕ). record { count = r.count; hops = h }) f ∙ ap (λ (n : ℕ). record { count = n; hops = s.hops }) e

one_least : (net : Network) (to : ℕ) (r s : Route) → IsLeast net to r → IsLeast net to s → r ≡ s
one_least net to r s p q =
    let walks : via r ≡ via s = one_walk (via r) (via s) (p.least (via s) q.walk) (q.least (via r) p.walk) in
    let counts : r.count ≡ s.count = sym (length_via net to r p) ∙ (ap length walks ∙ length_via net to s q) in
    let long : length (drop r.count r.hops) ≡ length (drop s.count s.hops) =
    length-drop r.count r.hops ∙ ((let a = p.places in let b = q.places in let e : length r.hops - r.count ≡ length s.hops - s.count = omega arith in e) ∙ sym (length-drop s.count s.hops)) in
    let rest : drop r.count r.hops ≡ drop s.count s.hops = zeros (drop r.count r.hops) (drop s.count s.hops) long p.padded q.padded in
    same_fields r s counts
    (sym (take-append-drop r.count r.hops)
    ∙ (ap (λ xs. xs ++ drop r.count r.hops) walks ∙ (ap (λ xs. via s ++ xs) rest ∙ take-append-drop s.count s.hops)))

pub one_route : (net : Network) (to : ℕ) (r s : Option Route) → IsRoute net to r → IsRoute net to s → r ≡ s
one_route net to None None p q = refl
one_route net to None (Some s) p q = absurd (p q.other (via s) q.walk)
one_route net to (Some r) None p q = absurd (q p.other (via r) p.walk)
one_route net to (Some r) (Some s) p q = ap Some (one_least net to r s p q)

-- a frame of a device goes over the one route
pub sent_home : (old mid new : AirState) (node : ℕ) (way : Option Route) (payload copy : List ℕ) → mid ≡ old
    → (route : Option Route) × IsRoute mid.network node route × (way ≡ option_map backwards route)
    → copy ≡ payload → new ≡ departing mid node Homeward way copy
    → (route : Option Route) → IsRoute old.network node route → new ≡ going_home old node route payload
sent_home old mid new node way payload copy same found copied went route is =
    let one : found.0 ≡ route = one_route old.network node found.0 route (subst (λ (a : AirState). IsRoute a.network node found.0) same found.1) is in
    went ∙ (ap (λ (a : AirState). departing a node Homeward way copy) same
    ∙ (ap (λ p. departing old node Homeward way p) copied
    ∙ ap (λ w. departing old node Homeward w payload) (found.2 ∙ ap (λ (r : Option Route). option_map backwards r) one)))
