-- Networks: what a change of their links and repeaters does to the tests `linked` and `repeats`.
use Rattle.std.proofs.Common.{◌≡◌, ℕ, not, ◌||◌, ◌&&◌, min, max, List, [], ◌∷◌, eqb, ap, ◌∙◌, arith}
use Rattle.std.specs.Ordering.{nat_cmp, eq_by_cmp}
use Rattle.std.specs.Cmp.{IsTotalOrder, on_total, nat_cmp_total}
use Rattle.std.specs.Cmp.Lexicographic.{nat_list_cmp_total}
use Rattle.std.specs.FinSet as set
use Rattle.std.specs.FinSet.{IsAntisymmetric, nat_cmp-IsAntisymmetric, slice_cmp-IsAntisymmetric}
use Rattle.std.proofs.lemmas.Bool.Decides.{nat_tests}
use Rattle.route_table.specs.Network.{Link, Network, link_cmp, link_of, linked, repeats}

ends : Link → List ℕ
ends l = l.low ∷ l.high ∷ []

pub link_cmp_total : IsTotalOrder link_cmp
unfolding ends
link_cmp_total = on_total ends nat_list_cmp_total

pub link_cmp-IsAntisymmetric : IsAntisymmetric link_cmp
link_cmp-IsAntisymmetric k l tie =
    let same = slice_cmp-IsAntisymmetric nat_cmp-IsAntisymmetric (k.low ∷ k.high ∷ []) (l.low ∷ l.high ∷ []) tie in
    let low : k.low ≡ l.low = cc in
    let high : k.high ≡ l.high = cc in
    λ i. record { low = low i; high = high i }

pub tied_numbers : (a b : ℕ) → eq_by_cmp nat_cmp a b ≡ eqb a b
tied_numbers a b = grind (arith, nat_tests)

-- two links are one exactly where both their ends are
pub tied_links : (k l : Link) → eq_by_cmp link_cmp k l ≡ (eqb k.low l.low && eqb k.high l.high)
tied_links k l = grind (arith, nat_tests)

-- what a new link, a cut link and a marked node change
pub linked-insert : (net : Network) (a b x y : ℕ) → linked (record net { links = set.insert net.links (link_of a b) }) x y ≡ (eqb (min x y) (min a b) && eqb (max x y) (max a b) || linked net x y)
linked-insert net a b x y = set.contains-insert link_cmp_total net.links (link_of a b) (link_of x y) ∙ ap (λ t. t || linked net x y) (tied_links (link_of x y) (link_of a b))

pub linked-remove : (net : Network) (a b x y : ℕ) → linked (record net { links = set.remove net.links (link_of a b) }) x y ≡ (not (eqb (min x y) (min a b) && eqb (max x y) (max a b)) && linked net x y)
linked-remove net a b x y = set.contains-remove link_cmp_total net.links (link_of a b) (link_of x y) ∙ ap (λ t. not t && linked net x y) (tied_links (link_of x y) (link_of a b))

pub repeats-insert : (net : Network) (n x : ℕ) → repeats (record net { repeaters = set.insert net.repeaters n }) x ≡ (eqb x n || repeats net x)
repeats-insert net n x = set.contains-insert nat_cmp_total net.repeaters n x ∙ ap (λ t. t || repeats net x) (tied_numbers x n)

pub repeats-remove : (net : Network) (n x : ℕ) → repeats (record net { repeaters = set.remove net.repeaters n }) x ≡ (not (eqb x n) && repeats net x)
repeats-remove net n x = set.contains-remove nat_cmp_total net.repeaters n x ∙ ap (λ t. not t && repeats net x) (tied_numbers x n)

-- a link goes both ways
pub linked-both_ways : (net : Network) (a b : ℕ) → linked net a b ≡ linked net b a
linked-both_ways net a b =
    let low : min a b ≡ min b a = omega arith in
    let high : max a b ≡ max b a = omega arith in
    λ i. set.contains net.links (record { low = low i; high = high i })
