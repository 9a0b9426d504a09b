-- The nodes that are due, in order: those of earlier ticks stand before those of later ones, and those of one tick in the order of their numbers.
use Rattle.std.proofs.Common.{◌≡◌, ◌≤◌, ◌<◌, ℕ, zero, suc, ◌+◌, ◌==◌, ◌&&◌, ◌||◌, Bool, true, false, if◌then◌else◌, inl, inr, List, [], ◌∷◌, ◌++◌, map, filter, nat_lt, refl, sym, ap, ap₂, ◌∙◌, arith}
use Rattle.std.specs.List.{AllByRecursion, list_any, range_with_len}
use Rattle.std.proofs.lemmas.Bool.{and_left, cases_eq, eq-eqb, le-ltb, lt-ltb, ne_eqb, or_from, or_left}
use Rattle.law_time.specs.Queue.{Due, in_order, is_earlier, put_in_order}

-- ---- two that are due

abbrev pub due_at : ℕ → ℕ → Due
due_at n tick = record { node = n; tick = tick }

earlier_is : (first second : Due) → first.tick < second.tick → is_earlier first second ≡ true
earlier_is first second less =
    or_left (nat_lt first.tick second.tick) ((first.tick == second.tick) && nat_lt first.node second.node) (lt-ltb first.tick second.tick less)

later_is : (first second : Due) → second.tick < first.tick → is_earlier first second ≡ false
later_is first second less =
    or_from (nat_lt first.tick second.tick) ((first.tick == second.tick) && nat_lt first.node second.node) (le-ltb first.tick second.tick (omega (arith, less)))
    (and_left (first.tick == second.tick) (nat_lt first.node second.node) (ne_eqb first.tick second.tick (λ same. omega (arith, less, same))))

-- in one tick
by_node : (first second : Due) → first.tick ≡ second.tick → is_earlier first second ≡ nat_lt first.node second.node
by_node first second same =
    ap₂ (λ (less is : Bool). less || (is && nat_lt first.node second.node)) (le-ltb first.tick second.tick (omega (arith, same))) (eq-eqb first.tick second.tick same)

-- ---- one more

put_all : (P : Due → Type 0) (due : Due) (dues : List Due) → P due → AllByRecursion P dues → AllByRecursion P (put_in_order due dues)
put_all P due [] is all = (is, tt)
put_all P due (d ∷ dues) is all = by (is_earlier due d) (put_all P due dues is all.1)
  where
    by : (b : Bool) → AllByRecursion P (put_in_order due dues) → AllByRecursion P (if b then due ∷ d ∷ dues else d ∷ put_in_order due dues)
    by true more = (is, all)
    by false more = (all.0, more)

all_in_order : (P : Due → Type 0) (dues : List Due) → AllByRecursion P dues → AllByRecursion P (in_order dues)
all_in_order P [] all = tt
all_in_order P (due ∷ dues) all = put_all P due (in_order dues) all.0 (all_in_order P dues all.1)

-- before those of later ticks, and behind those of earlier ones
put_low : (due : Due) (t : ℕ) (first rest : List Due) → due.tick ≤ t → AllByRecursion (λ (d : Due). t < d.tick) rest → put_in_order due (first ++ rest) ≡ put_in_order due first ++ rest
put_low due t [] [] low all = refl
put_low due t [] (d ∷ rest) low all = ap (λ (b : Bool). if b then due ∷ d ∷ rest else d ∷ put_in_order due rest) (earlier_is due d (omega (arith, low, all.0)))
put_low due t (d ∷ first) rest low all = by (is_earlier due d) (put_low due t first rest low all)
  where
    by : (b : Bool) → put_in_order due (first ++ rest) ≡ put_in_order due first ++ rest
        → (if b then due ∷ d ∷ (first ++ rest) else d ∷ put_in_order due (first ++ rest)) ≡ (if b then due ∷ d ∷ first else d ∷ put_in_order due first) ++ rest
    by true more = refl
    by false more = ap (λ (l : List Due). d ∷ l) more

put_high : (due : Due) (t : ℕ) (first rest : List Due) → t < due.tick → AllByRecursion (λ (d : Due). d.tick ≤ t) first → put_in_order due (first ++ rest) ≡ first ++ put_in_order due rest
put_high due t [] rest high all = refl
put_high due t (d ∷ first) rest high all =
    ap (λ (b : Bool). if b then due ∷ d ∷ (first ++ rest) else d ∷ put_in_order due (first ++ rest)) (later_is due d (omega (arith, high, all.0)))
    ∙ ap (λ (l : List Due). d ∷ l) (put_high due t first rest high all.1)

-- ---- those that pass

abbrev pub picked : (ℕ → Bool) → (ℕ → ℕ) → List ℕ → List Due
picked passes tick [] = []
picked passes tick (n ∷ nodes) = if passes n then due_at n (tick n) ∷ picked passes tick nodes else picked passes tick nodes

picked_all : (P : Due → Type 0) (passes : ℕ → Bool) (tick : ℕ → ℕ) → ((n : ℕ) → passes n ≡ true → P (due_at n (tick n))) → (nodes : List ℕ) → AllByRecursion P (picked passes tick nodes)
picked_all P passes tick each [] = tt
picked_all P passes tick each (n ∷ nodes) = by (passes n) refl (picked_all P passes tick each nodes)
  where
    by : (b : Bool) → passes n ≡ b → AllByRecursion P (picked passes tick nodes) → AllByRecursion P (if b then due_at n (tick n) ∷ picked passes tick nodes else picked passes tick nodes)
    by true is more = (each n is, more)
    by false is more = more

-- the same tests pick the same
pub picked_same : (p q : ℕ → Bool) (tick : ℕ → ℕ) → ((n : ℕ) → p n ≡ q n) → (nodes : List ℕ) → picked p tick nodes ≡ picked q tick nodes
picked_same p q tick same [] = refl
picked_same p q tick same (n ∷ nodes) = ap₂ (λ (b : Bool) (l : List Due). if b then due_at n (tick n) ∷ l else l) (same n) (picked_same p q tick same nodes)

-- none
pub picked_none : (p : ℕ → Bool) (tick : ℕ → ℕ) → ((n : ℕ) → p n ≡ false) → (nodes : List ℕ) → picked p tick nodes ≡ []
picked_none p tick none [] = refl
picked_none p tick none (n ∷ nodes) = ap (λ (b : Bool). if b then due_at n (tick n) ∷ picked p tick nodes else picked p tick nodes) (none n) ∙ picked_none p tick none nodes

-- those up to a tick, and then those after it
pub split : (first second : ℕ → Bool) (tick : ℕ → ℕ) (t : ℕ) → ((n : ℕ) → first n ≡ true → tick n ≤ t) → ((n : ℕ) → second n ≡ true → t < tick n) → (nodes : List ℕ)
    → in_order (picked (λ (n : ℕ). first n || second n) tick nodes) ≡ in_order (picked first tick nodes) ++ in_order (picked second tick nodes)
split first second tick t low high [] = refl
split first second tick t low high (n ∷ nodes) = by (first n) (second n) refl refl (split first second tick t low high nodes)
  where
    both : List Due
    both = picked (λ (n : ℕ). first n || second n) tick nodes

    one : List Due
    one = picked first tick nodes

    other : List Due
    other = picked second tick nodes

    by : (a b : Bool) → first n ≡ a → second n ≡ b → in_order both ≡ in_order one ++ in_order other
        → in_order (if a || b then due_at n (tick n) ∷ both else both) ≡ in_order (if a then due_at n (tick n) ∷ one else one) ++ in_order (if b then due_at n (tick n) ∷ other else other)
    by true true is also more = absurd (omega (arith, low n is, high n also))
    by true false is also more =
        ap (λ (l : List Due). put_in_order (due_at n (tick n)) l) more
        ∙ put_low (due_at n (tick n)) t (in_order one) (in_order other) (low n is)
        (all_in_order (λ (d : Due). t < d.tick) other (picked_all (λ (d : Due). t < d.tick) second tick high nodes))
    by false true is also more =
        ap (λ (l : List Due). put_in_order (due_at n (tick n)) l) more
        ∙ put_high (due_at n (tick n)) t (in_order one) (in_order other) (high n also)
        (all_in_order (λ (d : Due). d.tick ≤ t) one (picked_all (λ (d : Due). d.tick ≤ t) first tick low nodes))
    by false false is also more = more

-- ---- numbers in order

abbrev put_number : ℕ → List ℕ → List ℕ
put_number n [] = n ∷ []
put_number n (m ∷ rest) = if nat_lt n m then n ∷ m ∷ rest else m ∷ put_number n rest

abbrev nodes_of : List Due → List ℕ
nodes_of dues = map (λ (due : Due). due.node) dues

put_node : (due : Due) (dues : List Due) → AllByRecursion (λ (d : Due). due.tick ≡ d.tick) dues → nodes_of (put_in_order due dues) ≡ put_number due.node (nodes_of dues)
put_node due [] all = refl
put_node due (d ∷ dues) all =
    ap (λ (b : Bool). nodes_of (if b then due ∷ d ∷ dues else d ∷ put_in_order due dues)) (by_node due d all.0) ∙ by (nat_lt due.node d.node) (put_node due dues all.1)
  where
    by : (b : Bool) → nodes_of (put_in_order due dues) ≡ put_number due.node (nodes_of dues)
        → nodes_of (if b then due ∷ d ∷ dues else d ∷ put_in_order due dues) ≡ (if b then due.node ∷ d.node ∷ nodes_of dues else d.node ∷ put_number due.node (nodes_of dues))
    by true more = refl
    by false more = ap (λ (l : List ℕ). d.node ∷ l) more

-- of numbers from one on

pub filter_same : (p q : ℕ → Bool) (from count : ℕ) → ((m : ℕ) → from ≤ m → m < from + count → p m ≡ q m) → filter p (range_with_len from count) ≡ filter q (range_with_len from count)
filter_same p q from zero same = refl
filter_same p q from (suc count) same =
    ap₂ (λ (b : Bool) (l : List ℕ). if b then from ∷ l else l) (same from (omega arith) (omega arith))
    (filter_same p q (from + 1) count (λ m more less. same m (omega (arith, more)) (omega (arith, less))))

filter_none : (p : ℕ → Bool) (numbers : List ℕ) → ((m : ℕ) → p m ≡ false) → filter p numbers ≡ []
filter_none p [] none = refl
filter_none p (m ∷ numbers) none = ap (λ (b : Bool). if b then m ∷ filter p numbers else filter p numbers) (none m) ∙ filter_none p numbers none

-- nor does any where none of them passes
pub none_pass : (p : ℕ → Bool) (from count : ℕ) → ((m : ℕ) → from ≤ m → m < from + count → p m ≡ false) → filter p (range_with_len from count) ≡ []
none_pass p from count none = filter_same p (λ (m : ℕ). false) from count none ∙ filter_none (λ (m : ℕ). false) (range_with_len from count) (λ m. refl)

put_below : (p : ℕ → Bool) (n from count : ℕ) → n < from → put_number n (filter p (range_with_len from count)) ≡ n ∷ filter p (range_with_len from count)
put_below p n from zero less = refl
put_below p n from (suc count) less = by (p from) (put_below p n (from + 1) count (omega (arith, less)))
  where
    rest : List ℕ
    rest = filter p (range_with_len (from + 1) count)

    by : (b : Bool) → put_number n rest ≡ n ∷ rest → put_number n (if b then from ∷ rest else rest) ≡ n ∷ (if b then from ∷ rest else rest)
    by true more = ap (λ (b : Bool). if b then n ∷ from ∷ rest else from ∷ put_number n rest) (lt-ltb n from less)
    by false more = more

put_among : (p : ℕ → Bool) (n from count : ℕ) → from ≤ n → n < from + count → p n ≡ false
    → put_number n (filter p (range_with_len from count)) ≡ filter (λ (m : ℕ). (n == m) || p m) (range_with_len from count)
put_among p n from zero above below none = absurd (omega (arith, above, below))
put_among p n from (suc count) above below none =
    elim (cases_eq n from) [
      | inl same ↦ here same
      | inr other ↦ there other (p from) (put_among p n (from + 1) count (omega (arith, above, other)) (omega (arith, below)) none)
    ]
  where
    rest : List ℕ
    rest = filter p (range_with_len (from + 1) count)

    more : List ℕ
    more = filter (λ (m : ℕ). (n == m) || p m) (range_with_len (from + 1) count)

    here : n ≡ from → put_number n (if p from then from ∷ rest else rest) ≡ (if (n == from) || p from then from ∷ more else more)
    here same =
        ap (λ (b : Bool). put_number n (if b then from ∷ rest else rest)) (ap p (sym same) ∙ none) ∙ put_below p n (from + 1) count (omega (arith, same))
        ∙ ap (λ (k : ℕ). k ∷ rest) same
        ∙ ap (λ (l : List ℕ). from ∷ l)
        (filter_same p (λ (m : ℕ). (n == m) || p m) (from + 1) count (λ m above less. sym (ap (λ (b : Bool). b || p m) (ne_eqb n m (λ is. omega (arith, same, is, above))))))
        ∙ sym (ap (λ (b : Bool). if b || p from then from ∷ more else more) (eq-eqb n from same))

    there : (n ≡ from → ⊥) → (b : Bool) → put_number n rest ≡ more → put_number n (if b then from ∷ rest else rest) ≡ (if (n == from) || b then from ∷ more else more)
    there other true is =
        ap (λ (b : Bool). if b then n ∷ from ∷ rest else from ∷ put_number n rest) (le-ltb n from (omega (arith, above))) ∙ ap (λ (l : List ℕ). from ∷ l) is
        ∙ sym (ap (λ (b : Bool). if b || true then from ∷ more else more) (ne_eqb n from other))
    there other false is = is ∙ sym (ap (λ (b : Bool). if b || false then from ∷ more else more) (ne_eqb n from other))

-- ---- in one tick

abbrev pub is_among : List ℕ → ℕ → Bool
is_among nodes n = list_any (λ (one : ℕ). one == n) nodes

abbrev pub AreDistinct : List ℕ → Type 0
AreDistinct [] = Unit {0}
AreDistinct (n ∷ nodes) = (is_among nodes n ≡ false) × AreDistinct nodes

-- those of one tick stand in the order of their numbers
pub by_number : (p : ℕ → Bool) (tick : ℕ → ℕ) (t from count : ℕ) → ((n : ℕ) → p n ≡ true → tick n ≡ t) → (nodes : List ℕ) → AllByRecursion (λ n. (from ≤ n) × (n < from + count)) nodes
    → AreDistinct nodes → nodes_of (in_order (picked p tick nodes)) ≡ filter (λ (m : ℕ). is_among nodes m && p m) (range_with_len from count)
by_number p tick t from count ticks [] within distinct = sym (filter_none (λ (m : ℕ). false && p m) (range_with_len from count) (λ m. refl))
by_number p tick t from count ticks (n ∷ nodes) within distinct = by (p n) refl (by_number p tick t from count ticks nodes within.1 distinct.1)
  where
    numbers : List ℕ
    numbers = range_with_len from count

    dues : List Due
    dues = picked p tick nodes

    found : List ℕ
    found = filter (λ (m : ℕ). is_among nodes m && p m) numbers

    it : (m : ℕ) → p n ≡ true → ((n == m) || (is_among nodes m && p m)) ≡ (((n == m) || is_among nodes m) && p m)
    it m is = elim (cases_eq n m) [
      | inl same ↦
          ap (λ (b : Bool). b || (is_among nodes m && p m)) (eq-eqb n m same)
          ∙ sym (ap₂ (λ (b c : Bool). (b || is_among nodes m) && c) (eq-eqb n m same) (ap p (sym same) ∙ is))
      | inr other ↦
          ap (λ (b : Bool). b || (is_among nodes m && p m)) (ne_eqb n m other) ∙ sym (ap (λ (b : Bool). (b || is_among nodes m) && p m) (ne_eqb n m other))
    ]

    not_it : (m : ℕ) → p n ≡ false → (is_among nodes m && p m) ≡ (((n == m) || is_among nodes m) && p m)
    not_it m is = elim (cases_eq n m) [
      | inl same ↦ ends (is_among nodes m) (p m) (ap p (sym same) ∙ is) ∙ sym (ends ((n == m) || is_among nodes m) (p m) (ap p (sym same) ∙ is))
      | inr other ↦ sym (ap (λ (b : Bool). (b || is_among nodes m) && p m) (ne_eqb n m other))
    ]
      where
        ends : (a b : Bool) → b ≡ false → (a && b) ≡ false
        ends true b is = is
        ends false b is = refl

    by : (b : Bool) → p n ≡ b → nodes_of (in_order dues) ≡ found
        → nodes_of (in_order (if b then due_at n (tick n) ∷ dues else dues)) ≡ filter (λ (m : ℕ). ((n == m) || is_among nodes m) && p m) numbers
    by true is more =
        put_node (due_at n (tick n)) (in_order dues)
        (all_in_order (λ (d : Due). tick n ≡ d.tick) dues (picked_all (λ (d : Due). tick n ≡ d.tick) p tick (λ k passes. ticks n is ∙ sym (ticks k passes)) nodes))
        ∙ ap (λ (l : List ℕ). put_number n l) more
        ∙ put_among (λ (m : ℕ). is_among nodes m && p m) n from count within.0.0 within.0.1 (and_left (is_among nodes n) (p n) distinct.0)
        ∙ filter_same (λ (m : ℕ). (n == m) || (is_among nodes m && p m)) (λ (m : ℕ). ((n == m) || is_among nodes m) && p m) from count (λ m above less. it m is)
    by false is more = more ∙ filter_same (λ (m : ℕ). is_among nodes m && p m) (λ (m : ℕ). ((n == m) || is_among nodes m) && p m) from count (λ m above less. not_it m is)

-- ---- which they are

put_among_dues : (due : Due) (dues : List Due) (n : ℕ) → is_among (nodes_of (put_in_order due dues)) n ≡ ((due.node == n) || is_among (nodes_of dues) n)
put_among_dues due [] n = refl
put_among_dues due (d ∷ dues) n = by (is_earlier due d) (put_among_dues due dues n)
  where
    swap : (a b c : Bool) → (b || (a || c)) ≡ (a || (b || c))
    swap true true c = refl
    swap true false c = refl
    swap false b c = refl

    by : (b : Bool) → is_among (nodes_of (put_in_order due dues)) n ≡ ((due.node == n) || is_among (nodes_of dues) n)
        → is_among (nodes_of (if b then due ∷ d ∷ dues else d ∷ put_in_order due dues)) n ≡ ((due.node == n) || ((d.node == n) || is_among (nodes_of dues) n))
    by true more = refl
    by false more = ap (λ (b : Bool). (d.node == n) || b) more ∙ swap (due.node == n) (d.node == n) (is_among (nodes_of dues) n)

pub picked_among : (p : ℕ → Bool) (tick : ℕ → ℕ) (nodes : List ℕ) (n : ℕ) → is_among (nodes_of (in_order (picked p tick nodes))) n ≡ (is_among nodes n && p n)
picked_among p tick [] n = refl
picked_among p tick (m ∷ nodes) n = by (p m) refl (picked_among p tick nodes n)
  where
    found : List Due
    found = picked p tick nodes

    it : (b : Bool) → p m ≡ b → ((m == n) && b) ≡ ((m == n) && p n)
    it b is = elim (cases_eq m n) [
      | inl same ↦ ap (λ (c : Bool). (m == n) && c) (sym is ∙ ap p same)
      | inr other ↦ ap (λ (c : Bool). c && b) (ne_eqb m n other) ∙ sym (ap (λ (c : Bool). c && p n) (ne_eqb m n other))
    ]

    shared : (a b c : Bool) → ((a && c) || (b && c)) ≡ ((a || b) && c)
    shared true b true = refl
    shared true true false = refl
    shared true false false = refl
    shared false b c = refl

    never : (a : Bool) → (a && false) ≡ false
    never true = refl
    never false = refl

    always : (a : Bool) → (a && true) ≡ a
    always true = refl
    always false = refl

    by : (b : Bool) → p m ≡ b → is_among (nodes_of (in_order found)) n ≡ (is_among nodes n && p n)
        → is_among (nodes_of (in_order (if b then due_at m (tick m) ∷ found else found))) n ≡ (((m == n) || is_among nodes n) && p n)
    by true is more =
        put_among_dues (due_at m (tick m)) (in_order found) n ∙ ap₂ (λ (b c : Bool). b || c) (sym (always (m == n)) ∙ it true is) more ∙ shared (m == n) (is_among nodes n) (p n)
    by false is more =
        more ∙ ap (λ (b : Bool). b || (is_among nodes n && p n)) (sym (never (m == n)) ∙ it false is) ∙ shared (m == n) (is_among nodes n) (p n)
