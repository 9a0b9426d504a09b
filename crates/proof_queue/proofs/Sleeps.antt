-- A pump lets nodes sleep, the least first: what waits by the transcript after a look that finds them is what waits in the host then.
use Rattle.std.proofs.Common.{◌≡◌, ◌≤◌, ◌<◌, ℕ, zero, suc, ◌+◌, ◌==◌, ◌&&◌, ◌||◌, Bool, true, false, if◌then◌else◌, inl, inr, length, List, [], ◌∷◌, ◌++◌, map, filter, nat_le, refl, sym, ap, ap₂, ◌∙◌, subst, append-nil, append_assoc, arith}
use Rattle.std.specs.Prelude.{Some, None, is_some}
use Rattle.std.specs.List.{range_with_len}
use Rattle.std.proofs.lemmas.Bool.{cases_eq, eq-eqb, ne_eqb, or_right}
use Rattle.std.proofs.lemmas.List.{get_or-set_other, get_or-set_same, length-map, length-set, map-append}
use Rattle.std.proofs.lemmas.List.Folds.{list_any-append}
use Rattle.law_time.specs.Wants.{no_more}
use Rattle.law_time.specs.Queue.{Queue, each_with, is_full as queue_full, with_no_more}
use Rattle.host_requests.specs.declared.task.Task.{Task}
use Rattle.host_requests.specs.declared.task.Task.TheVariants.{NoMore}
use Rattle.host_node.specs.declared.no_more.NoMore.{NoMore as NoMoreState}
use Rattle.host_node.specs.declared.no_more.NoMore.TheVariants.{Queued, Dropped}
use Rattle.host_node.specs.Search.{first_from, first_wanting, least_above}
use Rattle.host_node.specs.State.{NodeState, has_waiting, is_false, is_idle, is_unasked, unknown, wants_no_more}
use Rattle.host_node.specs.TableState.{node_of as node_among, with_node as set_node}
use Rattle.host_model.specs.State.{HostState, node_of}
use Rattle.host_model.specs.After.{after, is_full}
use Rattle.host_model.specs.Events.{HostEvent, Drops_no_more, Queues_no_more}
use Rattle.host_model.specs.Pumping.{no_more_event}
use Rattle.proof_queue.specs.Sleeping.{full_for, is_dropped, slept, wanting}
use Rattle.proof_queue.specs.Waiting.{want_of_task}
use Rattle.proof_queue.proofs.Orders.{filter_same, is_among}
use Rattle.proof_queue.proofs.Pumped.{would_sleep}

-- ---- the first of some numbers

first_found : (p : ℕ → Bool) (from count n : ℕ) → first_from p from count ≡ Some n → (rest : List ℕ) × (filter p (range_with_len from count) ≡ n ∷ rest)
first_found p from zero n is = absurd (let bad : None ≡ Some n = is in cc)
first_found p from (suc count) n is =
    by (p from) (λ found. first_found p (from + 1) count n (ap (λ (k : ℕ). first_from p k count) (let next : from + 1 ≡ suc from = omega arith in next) ∙ found)) is
  where
    later : List ℕ
    later = filter p (range_with_len (from + 1) count)

    by : (b : Bool) → (first_from p (suc from) count ≡ Some n → (rest : List ℕ) × (later ≡ n ∷ rest)) → (if b then Some from else first_from p (suc from) count) ≡ Some n
        → (rest : List ℕ) × ((if b then from ∷ later else later) ≡ n ∷ rest)
    by true more found = let same : from ≡ n = cc in (later, ap (λ (k : ℕ). k ∷ later) same)
    by false more found = more found

none_found : (p : ℕ → Bool) (from count : ℕ) → first_from p from count ≡ None → filter p (range_with_len from count) ≡ []
none_found p from zero is = refl
none_found p from (suc count) is =
    by (p from) (λ found. none_found p (from + 1) count (ap (λ (k : ℕ). first_from p k count) (let next : from + 1 ≡ suc from = omega arith in next) ∙ found)) is
  where
    later : List ℕ
    later = filter p (range_with_len (from + 1) count)

    by : (b : Bool) → (first_from p (suc from) count ≡ None → later ≡ []) → (if b then Some from else first_from p (suc from) count) ≡ None → (if b then from ∷ later else later) ≡ []
    by true more found = absurd (let bad : Some from ≡ None = found in cc)
    by false more found = more found

record IsFound (p : ℕ → Bool) (from count n : ℕ) : Type 0 where
  passes : p n ≡ true
  low : from ≤ n
  high : n < from + count

found_is : (p : ℕ → Bool) (from count n : ℕ) (rest : List ℕ) → filter p (range_with_len from count) ≡ n ∷ rest → IsFound p from count n
found_is p from zero n rest is = absurd (let bad : [] ≡ n ∷ rest = is in cc)
found_is p from (suc count) n rest is = by (p from) refl (λ found. found_is p (from + 1) count n rest found) is
  where
    later : List ℕ
    later = filter p (range_with_len (from + 1) count)

    by : (b : Bool) → p from ≡ b → (later ≡ n ∷ rest → IsFound p (from + 1) count n) → (if b then from ∷ later else later) ≡ n ∷ rest → IsFound p from (suc count) n
    by true it next found = let same : from ≡ n = cc in record { passes = ap p (sym same) ∙ it; low = omega (arith, same); high = omega (arith, same) }
    by false it next found = let more = next found in record { passes = more.passes; low = omega (arith, more.low); high = omega (arith, more.high) }

-- and those behind it, where it does not pass any more
next_found : (p q : ℕ → Bool) (from count n : ℕ) (rest : List ℕ) → filter p (range_with_len from count) ≡ n ∷ rest → q n ≡ false → ((m : ℕ) → (m ≡ n → ⊥) → q m ≡ p m)
    → filter q (range_with_len from count) ≡ rest
next_found p q from zero n rest is gone same = absurd (let bad : [] ≡ n ∷ rest = is in cc)
next_found p q from (suc count) n rest is gone same = by (p from) refl (λ found. next_found p q (from + 1) count n rest found gone same) is
  where
    later : List ℕ
    later = filter p (range_with_len (from + 1) count)

    now : List ℕ
    now = filter q (range_with_len (from + 1) count)

    by : (b : Bool) → p from ≡ b → (later ≡ n ∷ rest → now ≡ rest) → (if b then from ∷ later else later) ≡ n ∷ rest → (if q from then from ∷ now else now) ≡ rest
    by true it next found =
        let it_is : from ≡ n = cc in
        let rest_is : later ≡ rest = cc in
        ap (λ (b : Bool). if b then from ∷ now else now) (ap q it_is ∙ gone) ∙ filter_same q p (from + 1) count (λ m above below. same m (λ is. omega (arith, is, it_is, above))) ∙ rest_is
    by false it next found =
        let more = found_is p (from + 1) count n rest found in
        ap (λ (b : Bool). if b then from ∷ now else now) (same from (λ is. omega (arith, is, more.low)) ∙ it) ∙ next found

-- ---- those that want to sleep

pub first_wants : (h : HostState) (n : ℕ) → first_wanting h.nodes ≡ Some n → (rest : List ℕ) × (wanting h ≡ n ∷ rest)
unfolding least_above
first_wants h n is = first_found (λ (m : ℕ). wants_no_more (node_of h m)) 1 232 n is

pub none_wants : (h : HostState) → first_wanting h.nodes ≡ None → wanting h ≡ []
unfolding least_above
none_wants h is = none_found (λ (m : ℕ). wants_no_more (node_of h m)) 1 232 is

-- one of them is let sleep
abbrev as_told : Bool → NodeState → NodeState
as_told full s = record s { no_more = if full then Dropped else Queued }

told_no_more : (full : Bool) (s : NodeState) → wants_no_more (as_told full s) ≡ false
told_no_more true s = by (s.awake && is_false s.listens && is_some s.classes) (is_false (has_waiting s)) (is_idle s.series) (s.hold == 0)
  where
    by : (a w i h : Bool) → (a && false && w && i && h) ≡ false
    by true w i h = refl
    by false w i h = refl
told_no_more false s = by (s.awake && is_false s.listens && is_some s.classes) (is_false (has_waiting s)) (is_idle s.series) (s.hold == 0)
  where
    by : (a w i h : Bool) → (a && false && w && i && h) ≡ false
    by true w i h = refl
    by false w i h = refl

abbrev event_if : Bool → ℕ → HostEvent
event_if full n = if full then Drops_no_more n else Queues_no_more n

nodes_if : (h : HostState) (full : Bool) (n : ℕ) → (after h (event_if full n)).nodes ≡ set_node h.nodes n (as_told full (node_of h n))
nodes_if h true n = refl
nodes_if h false n = refl

node_other : (h : HostState) (full : Bool) (n m : ℕ) → (m ≡ n → ⊥) → node_of (after h (event_if full n)) m ≡ node_of h m
node_other h full n m other = ap (λ (l : List NodeState). node_among l m) (nodes_if h full n) ∙ get_or-set_other h.nodes n m (as_told full (node_of h n)) (unknown 0) other

node_same : (h : HostState) (full : Bool) (n : ℕ) → n < length h.nodes → node_of (after h (event_if full n)) n ≡ as_told full (node_of h n)
node_same h full n within = ap (λ (l : List NodeState). node_among l n) (nodes_if h full n) ∙ get_or-set_same h.nodes n (as_told full (node_of h n)) (unknown 0) within

long_if : (h : HostState) (full : Bool) (n : ℕ) → length (after h (event_if full n)).nodes ≡ length h.nodes
long_if h full n = ap (λ (l : List NodeState). length l) (nodes_if h full n) ∙ length-set h.nodes n (as_told full (node_of h n))

next_if : (h : HostState) (full : Bool) (n : ℕ) (rest : List ℕ) → length h.nodes ≡ 233 → wanting h ≡ n ∷ rest → wanting (after h (event_if full n)) ≡ rest
next_if h full n rest places is =
    let it = found_is (λ (m : ℕ). wants_no_more (node_of h m)) 1 232 n rest is in
    next_found (λ (m : ℕ). wants_no_more (node_of h m)) (λ (m : ℕ). wants_no_more (node_of (after h (event_if full n)) m)) 1 232 n rest is
    (ap (λ (s : NodeState). wants_no_more s) (node_same h full n (omega (arith, places, it.high))) ∙ told_no_more full (node_of h n))
    (λ m other. ap (λ (s : NodeState). wants_no_more s) (node_other h full n m other))

-- whether a node would sleep does not hang on that
pub same_would : (h : HostState) (n k : ℕ) → length h.nodes ≡ 233 → first_wanting h.nodes ≡ Some n → would_sleep (node_of (after h (no_more_event h n)) k) ≡ would_sleep (node_of h k)
same_would h n k places wants = elim (cases_eq k n) [
  | inl same ↦
      let (rest, is) = first_wants h n wants in
      let it = found_is (λ (m : ℕ). wants_no_more (node_of h m)) 1 232 n rest is in
      subst (λ (j : ℕ). would_sleep (node_of (after h (event_if (is_full h) n)) j) ≡ would_sleep (node_of h j)) (sym same)
      (ap would_sleep (node_same h (is_full h) n (omega (arith, places, it.high))))
  | inr other ↦ ap would_sleep (node_other h (is_full h) n k other)
]

-- ---- all of them

-- this waits, these are to be told of a dropped message, and these nodes have theirs dropped
pub record Stands (q : Queue) (tasks : List Task) (owes : List ℕ) (drops : ℕ → Bool) : Type 0 where
  pub wants_are : q.wants ≡ map want_of_task tasks
  pub owed_are : q.owed ≡ owes
  pub dropped : (n : ℕ) → 1 ≤ n → n ≤ 232 → is_among q.dropped n ≡ drops n

abbrev pub drops_of : HostState → ℕ → Bool
drops_of h n = is_dropped (node_of h n).no_more

-- the drops of a host whose node n was unasked
unasked_none : (state : NoMoreState) → is_unasked state ≡ true → is_dropped state ≡ false
unasked_none Dropped is = absurd (let bad : false ≡ true = is in cc)
unasked_none state is = refl

unasked_of : (a l c u w i h : Bool) → (a && l && c && u && w && i && h) ≡ true → u ≡ true
unasked_of true true true true w i h is = refl
unasked_of true true true false w i h is = absurd (let bad : false ≡ true = is in cc)
unasked_of true true false u w i h is = absurd (let bad : false ≡ true = is in cc)
unasked_of true false c u w i h is = absurd (let bad : false ≡ true = is in cc)
unasked_of false l c u w i h is = absurd (let bad : false ≡ true = is in cc)

or_none : (b : Bool) → (b || false) ≡ b
or_none true = refl
or_none false = refl

one_stands : (q : Queue) (h : HostState) (owes : List ℕ) (n : ℕ) (rest : List ℕ) → length h.nodes ≡ 233 → wanting h ≡ n ∷ rest → Stands q h.requests.queue owes (drops_of h)
    → Stands (with_no_more q n) (after h (no_more_event h n)).requests.queue (owes ++ (if is_full h then n ∷ [] else [])) (drops_of (after h (no_more_event h n)))
one_stands q h owes n rest places is stands =
    by (queue_full q) (is_full h) (ap (λ (k : ℕ). nat_le 64 k) (ap length stands.wants_are ∙ length-map h.requests.queue want_of_task))
  where
    found : IsFound (λ (m : ℕ). wants_no_more (node_of h m)) 1 232 n
    found = found_is (λ (m : ℕ). wants_no_more (node_of h m)) 1 232 n rest is

    within : n < length h.nodes
    within = omega (arith, places, found.high)

    undropped : is_dropped (node_of h n).no_more ≡ false
    undropped =
        let s = node_of h n in
        unasked_none s.no_more (unasked_of s.awake (is_false s.listens) (is_some s.classes) (is_unasked s.no_more) (is_false (has_waiting s)) (is_idle s.series) (s.hold == 0) found.passes)

    none_dropped : (m : ℕ) → drops_of (after h (event_if false n)) m ≡ drops_of h m
    none_dropped m = elim (cases_eq m n) [
      | inl same ↦
          subst (λ (k : ℕ). drops_of (after h (event_if false n)) k ≡ drops_of h k) (sym same)
          (ap (λ (s : NodeState). is_dropped s.no_more) (node_same h false n within) ∙ sym undropped)
      | inr other ↦ ap (λ (s : NodeState). is_dropped s.no_more) (node_other h false n m other)
    ]

    one_dropped : (m : ℕ) → drops_of (after h (event_if true n)) m ≡ (drops_of h m || (n == m))
    one_dropped m = elim (cases_eq m n) [
      | inl same ↦
          subst (λ (k : ℕ). drops_of (after h (event_if true n)) k ≡ (drops_of h k || (n == k))) (sym same)
          (ap (λ (s : NodeState). is_dropped s.no_more) (node_same h true n within) ∙ sym (or_right (drops_of h n) (n == n) (eq-eqb n n refl)))
      | inr other ↦
          ap (λ (s : NodeState). is_dropped s.no_more) (node_other h true n m other) ∙ sym (or_none (drops_of h m))
          ∙ sym (ap (λ (b : Bool). drops_of h m || b) (ne_eqb n m (λ same. other (sym same))))
    ]

    by : (a b : Bool) → a ≡ b
        → Stands (if a then record q { dropped = q.dropped ++ n ∷ []; owed = q.owed ++ n ∷ [] } else record q { wants = q.wants ++ no_more n ∷ [] }) (after h (event_if b n)).requests.queue
        (owes ++ (if b then n ∷ [] else [])) (drops_of (after h (event_if b n)))
    by true true same = record {
      wants_are = stands.wants_are;
      owed_are = ap (λ (l : List ℕ). l ++ n ∷ []) stands.owed_are;
      dropped = λ m from to.
          list_any-append (λ (one : ℕ). one == m) q.dropped (n ∷ []) ∙ ap₂ (λ (b c : Bool). b || c) (stands.dropped m from to) (or_none (n == m)) ∙ sym (one_dropped m);
    }
    by false false same = record {
      wants_are = ap (λ (l : List (List ℕ)). l ++ no_more n ∷ []) stands.wants_are ∙ sym (map-append want_of_task h.requests.queue (NoMore n ∷ []));
      owed_are = stands.owed_are ∙ sym (append-nil owes);
      dropped = λ m from to. stands.dropped m from to ∙ sym (none_dropped m);
    }
    by true false same = absurd (let bad : true ≡ false = same in cc)
    by false true same = absurd (let bad : false ≡ true = same in cc)

pub sleep_stands : (q : Queue) (h : HostState) (owes nodes : List ℕ) → length h.nodes ≡ 233 → wanting h ≡ nodes → Stands q h.requests.queue owes (drops_of h)
    → Stands (each_with with_no_more q nodes) (slept h nodes).requests.queue (owes ++ full_for h nodes) (drops_of (slept h nodes))
sleep_stands q h owes [] places is stands = record { wants_are = stands.wants_are; owed_are = stands.owed_are ∙ sym (append-nil owes); dropped = stands.dropped }
sleep_stands q h owes (n ∷ nodes) places is stands =
    let later : HostState = after h (no_more_event h n) in
    let one : List ℕ = if is_full h then n ∷ [] else [] in
    let more = sleep_stands (with_no_more q n) later (owes ++ one) nodes (long_if h (is_full h) n ∙ places) (next_if h (is_full h) n nodes places is) (one_stands q h owes n nodes places is stands) in
    record { wants_are = more.wants_are; owed_are = more.owed_are ∙ append_assoc owes one (full_for later nodes); dropped = more.dropped }

-- where a pump goes on with one of them
pub sleeps_on : (h : HostState) (n : ℕ) → length h.nodes ≡ 233 → first_wanting h.nodes ≡ Some n
    → (slept h (wanting h) ≡ slept (after h (no_more_event h n)) (wanting (after h (no_more_event h n))))
    × (full_for h (wanting h) ≡ (if is_full h then n ∷ [] else []) ++ full_for (after h (no_more_event h n)) (wanting (after h (no_more_event h n))))
sleeps_on h n places is =
    let (rest, are) = first_wants h n is in
    let later : HostState = after h (no_more_event h n) in
    let next : wanting later ≡ rest = next_if h (is_full h) n rest places are in (
      ap (λ (l : List ℕ). slept h l) are ∙ ap (λ (l : List ℕ). slept later l) (sym next),
      ap (λ (l : List ℕ). full_for h l) are ∙ ap (λ (l : List ℕ). (if is_full h then n ∷ [] else []) ++ full_for later l) (sym next),
    )
