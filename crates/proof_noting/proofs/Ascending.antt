-- The nodes that tick come in the order of their numbers, as the nodes in order do that the course of notes looks at: where one gives up, those before it are done or do not tick.
use Rattle.host_model.specs.Events.{HostEvent, Node_ticks}
use Rattle.law_transcript.specs.Lists.{Has}
use Rattle.proof_hearing.proofs.proof_queue_Orders.{is_among}
use Rattle.proof_hearing.specs.proof_queue.proof_attempts.Since.{is_to_tick}
use Rattle.proof_hearing.specs.proof_queue.proof_attempts.proof_requests.Walking.{IsNodeTick}
use Rattle.proof_hearing.specs.proof_queue.proof_attempts.proof_requests.law_host.Ticks.{nodes_in_order}
use Rattle.proof_hearing.specs.proof_choice.proof_ends.Ascending.{Ascends}
use Rattle.proof_hearing.proofs.Ordered.{Sorted, in_order_has, in_order_sorted}
use Rattle.std.proofs.Common.{Bool, List, [], ap, ap₂, arith, false, inl, inr, refl, sym, true, ℕ, ◌++◌, ◌<◌, ◌==◌, ◌||◌, ◌∷◌, ◌≡◌, ◌≤◌}
use Rattle.std.proofs.lemmas.Bool.{eqb-true, ne_eqb}
use Rattle.std.proofs.lemmas.Cmp.{nat_cmp_total, ranked}
use Rattle.std.specs.FinMap.{nat_cmp-IsAntisymmetric}
use Rattle.std.specs.List.{AllByRecursion}
use Rattle.std.specs.Ordering.{nat_cmp}
use Rattle.std.specs.declared.cmp.Ordering.TheVariants.{Less}
use Rattle.zw_text.specs.Transcript.{joined}
use Rattle.zw_text.specs.declared.entry.Entry.{Entry}

-- ---- those that tick

-- one that is not above all of them that are left does not tick then
pub below_done : (n k : ℕ) (left : List HostEvent) → AllByRecursion IsNodeTick left → Ascends n left → k ≤ n → is_to_tick k left ≡ false
below_done n k [] all above less = refl
below_done n k (Node_ticks m ∷ left) all above less =
    let more = above.0 in
    ap₂ (λ (a b : Bool). a || b) (ne_eqb m k (λ same. absurd (omega (arith, less, more, same)))) (below_done m k left all.1 above.1 (omega (arith, less, more)))
below_done n k (event ∷ left) all above less = absurd all.0

-- ---- those in order

abbrev pub Rises : List ℕ → Type 0
Rises [] = Unit {0}
Rises (n ∷ l) = AllByRecursion (λ k. n < k) l × Rises l

less_is : (n k : ℕ) → nat_cmp n k ≡ Less → n < k
less_is n k is = ranked n k Less (sym is)

above_is : (n : ℕ) (l : List ℕ) → AllByRecursion (λ k. nat_cmp n k ≡ Less) l → AllByRecursion (λ k. n < k) l
above_is n [] all = tt
above_is n (k ∷ l) all = (less_is n k all.0, above_is n l all.1)

-- where one stands in them
pub split : (l : List ℕ) (n : ℕ) → Has l n → (front : List ℕ) × (back : List ℕ) × (l ≡ front ++ n ∷ back)
split [] n has = absurd has
split (k ∷ l) n (inl is) = ([], l, ap (λ (m : ℕ). m ∷ l) is)
split (k ∷ l) n (inr has) = let (front, back, is) = split l n has in (k ∷ front, back, ap (λ (m : List ℕ). k ∷ m) is)

above_at : (k n : ℕ) (front back : List ℕ) → AllByRecursion (λ m. k < m) (front ++ n ∷ back) → k < n
above_at k n [] back all = all.0
above_at k n (m ∷ front) back all = above_at k n front back all.1

-- those before it are below it
pub before_it : (n : ℕ) (front back : List ℕ) → Rises (front ++ n ∷ back) → AllByRecursion (λ k. k < n) front
before_it n [] back up = tt
before_it n (k ∷ front) back up = (above_at k n front back up.0, before_it n front back up.1)

-- it does not stand among those that are no more than one below it
pub left_in : (last n : ℕ) (front rest : List ℕ) → AllByRecursion (λ k. k ≤ last) front → last < n → Has (front ++ rest) n → Has rest n
left_in last n [] rest passed less has = has
left_in last n (k ∷ front) rest passed less (inl is) = absurd (let most = passed.0 in omega (arith, most, less, is))
left_in last n (k ∷ front) rest passed less (inr has) = left_in last n front rest passed.1 less has

pub later_rises : (front rest : List ℕ) → Rises (front ++ rest) → Rises rest
later_rises [] rest up = up
later_rises (k ∷ front) rest up = later_rises front rest up.1

sorted_rises : (l : List ℕ) → Sorted nat_cmp_total nat_cmp-IsAntisymmetric l → Rises l
sorted_rises [] all = tt
sorted_rises (n ∷ l) all = (above_is n l all.0, sorted_rises l all.1)

pub order_rises : (past : List Entry) → Rises (nodes_in_order past)
order_rises past = sorted_rises (nodes_in_order past) (in_order_sorted nat_cmp_total nat_cmp-IsAntisymmetric (joined past))

-- those that joined stand there
among : (n : ℕ) (l : List ℕ) → is_among l n ≡ true → Has l n
among n [] is = absurd (let bad : false ≡ true = is in cc)
among n (k ∷ l) is = by (k == n) refl is (among n l)
  where
    by : (b : Bool) → (k == n) ≡ b → (b || is_among l n) ≡ true → (is_among l n ≡ true → Has l n) → Has (k ∷ l) n
    by true same is later = inl (eqb-true k n same)
    by false same is later = inr (later is)

pub has_joined : (past : List Entry) (n : ℕ) → is_among (joined past) n ≡ true → Has (nodes_in_order past) n
has_joined past n is = in_order_has nat_cmp_total nat_cmp-IsAntisymmetric (joined past) n (among n (joined past) is)
