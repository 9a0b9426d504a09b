-- A node that does not listen is told by the transcript that there is no more for it where its host has it so: it is to be told by a task that waits or the request under way, or that was dropped.
use Rattle.std.proofs.Common.{◌≡◌, ℕ, ◌+◌, ◌==◌, ◌&&◌, ◌||◌, not, Bool, true, false, if◌then◌else◌, inl, inr, List, [], ◌∷◌, ◌++◌, map, nat_lt, bytes_eq, refl, sym, ap, ap₂, ◌∙◌, subst, arith}
use Rattle.std.specs.Prelude.{Option, Some, None}
use Rattle.std.specs.List.{AllByRecursion, flat_map, list_any}
use Rattle.std.proofs.lemmas.Bool.{and_right, both_ways, cases_eq, eq-eqb, lt-ltb, ne_eqb, or_right}
use Rattle.zw_text.specs.declared.entry.Entry.{Entry}
use Rattle.encap.specs.Opening.{begins_with}
use Rattle.law_transcript.specs.Units.{sending_of}
use Rattle.law_time.specs.Interviews.{listens}
use Rattle.law_time.specs.Requests.{asked, request_last}
use Rattle.law_time.specs.Waking.{has_slept, is_told as tells_it, node_told}
use Rattle.law_time.specs.Wants.{no_more, told_of}
use Rattle.law_time.specs.Queue.{Queue, is_told}
use Rattle.chip_functions.specs.declared.request.Request.{Request}
use Rattle.host_requests.specs.Frames.{request_of}
use Rattle.host_requests.specs.State.{RequestsState}
use Rattle.host_requests.specs.declared.task.Purpose.{Purpose}
use Rattle.host_requests.specs.declared.task.Purpose.TheVariants.{Housekeeping, Attempt, Abort}
use Rattle.host_requests.specs.declared.task.Task.{Task}
use Rattle.host_requests.specs.declared.task.Task.TheVariants.{Plain, Offer, Segment, NoMore}
use Rattle.host_requests.specs.declared.under_way.UnderWay.{UnderWay}
use Rattle.host_node.specs.declared.no_more.NoMore.{NoMore as NoMoreState}
use Rattle.host_node.specs.declared.no_more.NoMore.TheVariants.{Unasked, Queued, Dropped}
use Rattle.host_node.specs.State.{is_unasked}
use Rattle.host_model.specs.Did.{one_if}
use Rattle.proof_attempts.specs.proof_work.Work.{times_due, told_at, told_for, told_in}
use Rattle.proof_attempts.specs.Carried.{CarriesWell, IsOther, UnderWayWell, WaitsWell, nodes_of}
use Rattle.proof_attempts.specs.Slept.{SleptSo}
use Rattle.proof_queue.specs.Sleeping.{is_dropped}
use Rattle.proof_queue.specs.Waiting.{want_of_task}
use Rattle.proof_queue.proofs.Looks.{same_no_more}

-- ---- by what waits

eq_back : (x y : ℕ) → (x == y) ≡ (y == x)
eq_back x y = elim (cases_eq x y) [
  | inl same ↦ eq-eqb x y same ∙ sym (eq-eqb y x (sym same))
  | inr other ↦ ne_eqb x y other ∙ sym (ne_eqb y x (λ same. other (sym same)))
]

bytes_back : (a b : List ℕ) → bytes_eq a b ≡ bytes_eq b a
bytes_back [] [] = refl
bytes_back [] (y ∷ b) = refl
bytes_back (x ∷ a) [] = refl
bytes_back (x ∷ a) (y ∷ b) = ap₂ (λ (p q : Bool). p && q) (eq_back x y) (bytes_back a b)

abbrev there_is_none : List ℕ
there_is_none = 0x84 ∷ 8 ∷ []

-- another message wants something else
other_want : (payload : List ℕ) → IsOther payload → bytes_eq there_is_none (told_of payload) ≡ false
other_want payload other = by (begins_with payload 0x98 0x80)
  where
    by : (b : Bool) → bytes_eq there_is_none (if b then 0x98 ∷ 0x80 ∷ [] else payload) ≡ false
    by true = refl
    by false = bytes_back there_is_none payload ∙ other

carried_want : (n k : ℕ) (payload : List ℕ) → IsOther payload → bytes_eq (no_more n) (want_of_task (Plain k payload)) ≡ false
carried_want n k payload other = and_right (n == k) (bytes_eq there_is_none (told_of payload)) (other_want payload other)

nonce_want : (n k : ℕ) (nonce : List ℕ) → bytes_eq (no_more n) (want_of_task (Offer k nonce)) ≡ false
nonce_want n k nonce = and_right (n == k) (bytes_eq there_is_none (told_of (0x98 ∷ 0x80 ∷ nonce))) (by (begins_with (0x98 ∷ 0x80 ∷ nonce) 0x98 0x80))
  where
    by : (b : Bool) → bytes_eq there_is_none (if b then 0x98 ∷ 0x80 ∷ [] else 0x98 ∷ 0x80 ∷ nonce) ≡ false
    by true = refl
    by false = refl

one_more : (b : Bool) (k : ℕ) → (b || nat_lt 0 k) ≡ nat_lt 0 (one_if b + k)
one_more true k = sym (lt-ltb 0 (1 + k) (omega arith))
one_more false k = ap (λ (m : ℕ). nat_lt 0 m) (omega arith)

pub told_by_tasks : (n : ℕ) (tasks : List Task) → AllByRecursion WaitsWell tasks → list_any (bytes_eq (no_more n)) (map want_of_task tasks) ≡ nat_lt 0 (told_in n tasks)
told_by_tasks n [] all = refl
told_by_tasks n (NoMore m ∷ tasks) all =
    ap₂ (λ (b c : Bool). b || c) (same_no_more n m) (told_by_tasks n tasks all.1) ∙ one_more (m == n) (told_in n tasks)
told_by_tasks n (Plain k payload ∷ tasks) all = ap₂ (λ (b c : Bool). b || c) (carried_want n k payload all.0) (told_by_tasks n tasks all.1) ∙ one_more false (told_in n tasks)
told_by_tasks n (Segment k payload ∷ tasks) all = ap₂ (λ (b c : Bool). b || c) (carried_want n k payload all.0) (told_by_tasks n tasks all.1) ∙ one_more false (told_in n tasks)
told_by_tasks n (Offer k nonce ∷ tasks) all = ap₂ (λ (b c : Bool). b || c) (nonce_want n k nonce) (told_by_tasks n tasks all.1) ∙ one_more false (told_in n tasks)
told_by_tasks n (task ∷ tasks) all = told_by_tasks n tasks all.1 ∙ one_more false (told_in n tasks)

-- ---- by the last request

abbrev tells_by : List Request → List ℕ
tells_by requests = flat_map node_told (flat_map sending_of requests)

other_none : (n : ℕ) (payload : List ℕ) → IsOther payload → tells_by (request_of (Attempt n false payload) 0 ∷ []) ≡ []
other_none n payload other = ap (λ (b : Bool). (if b then n ∷ [] else []) ++ []) other

purpose_tells : (p : Purpose) (id : ℕ) → CarriesWell p → tells_by (request_of p id ∷ []) ≡ nodes_of p
purpose_tells (Housekeeping (NoMore n)) id well = refl
purpose_tells (Housekeeping (Plain n payload)) id well = other_none n payload well
purpose_tells (Housekeeping (Segment n payload)) id well = other_none n payload well
purpose_tells (Housekeeping task) id well = refl
purpose_tells (Attempt n more payload) id well = other_none n payload well.1
purpose_tells Abort id well = refl

or_none : (b : Bool) → (b || false) ≡ b
or_none true = refl
or_none false = refl

purpose_once : (n : ℕ) (p : Purpose) → told_for n p ≡ one_if (list_any (λ one. one == n) (nodes_of p))
purpose_once n (Housekeeping (NoMore k)) = ap one_if (sym (or_none (k == n)))
purpose_once n (Housekeeping task) = refl
purpose_once n (Attempt k more payload) = refl
purpose_once n Abort = refl

pub told_by_request : (past : List Entry) (requests : RequestsState) (n : ℕ) → UnderWayWell requests.under_way
    → ((u : UnderWay) → requests.under_way ≡ Some u → request_last past ≡ request_of u.purpose requests.last_id ∷ []) → SleptSo n past requests → listens n past ≡ false
    → (tells_it n (asked past).frame && not (has_slept n (asked past).following)) ≡ nat_lt 0 (told_at n requests.under_way)
told_by_request past requests n well request slept deaf = by requests.under_way refl
  where
    told : Bool
    told = tells_it n (asked past).frame

    by : (o : Option UnderWay) → requests.under_way ≡ o → (told && not (has_slept n (asked past).following)) ≡ nat_lt 0 (told_at n o)
    by None is = over told refl
      where
        over : (b : Bool) → told ≡ b → (b && not (has_slept n (asked past).following)) ≡ false
        over false it = refl
        over true it = elim (slept.over is it) [
          | inl has ↦ ap (λ (b : Bool). not b) has
          | inr hears ↦ absurd (both_ways (listens n past) deaf hears)
        ]
    by (Some u) is =
        ap (λ (l : List ℕ). list_any (λ one. one == n) l && not (has_slept n (asked past).following)) (ap tells_by (request u is) ∙ purpose_tells u.purpose requests.last_id (subst UnderWayWell is well))
        ∙ during (list_any (λ one. one == n) (nodes_of u.purpose)) (purpose_once n u.purpose)
      where
        during : (b : Bool) → told_for n u.purpose ≡ one_if b → (b && not (has_slept n (asked past).following)) ≡ nat_lt 0 (told_for n u.purpose)
        during false once = sym (ap (λ (k : ℕ). nat_lt 0 k) once)
        during true once = ap (λ (b : Bool). not b) (slept.during (ap (λ (o : Option UnderWay). told_at n o) is ∙ once)) ∙ sym (ap (λ (k : ℕ). nat_lt 0 k) once)

-- ---- so it is told

pub told_is : (past : List Entry) (requests : RequestsState) (q : Queue) (n : ℕ) (state : NoMoreState) → UnderWayWell requests.under_way → AllByRecursion WaitsWell requests.queue
    → ((u : UnderWay) → requests.under_way ≡ Some u → request_last past ≡ request_of u.purpose requests.last_id ∷ []) → SleptSo n past requests
    → told_in n requests.queue + told_at n requests.under_way ≡ times_due state → q.wants ≡ map want_of_task requests.queue → list_any (λ one. one == n) q.dropped ≡ is_dropped state
    → listens n past ≡ false → is_told (asked past) q n ≡ not (is_unasked state)
told_is past requests q n state well tasks request slept once wants dropped deaf =
    ap (λ (l : List (List ℕ)). list_any (bytes_eq (no_more n)) l || list_any (λ one. one == n) q.dropped || asks) wants
    ∙ ap₂ (λ (b c : Bool). b || c || asks) (told_by_tasks n requests.queue tasks) dropped
    ∙ ap (λ (b : Bool). nat_lt 0 (told_in n requests.queue) || is_dropped state || b) (told_by_request past requests n well request slept deaf) ∙ by state once
  where
    asks : Bool
    asks = tells_it n (asked past).frame && not (has_slept n (asked past).following)

    none : (a b : ℕ) → a + b ≡ 0 → (nat_lt 0 a || false || nat_lt 0 b) ≡ false
    none a b sum = ap₂ (λ (x y : ℕ). nat_lt 0 x || false || nat_lt 0 y) (let is : a ≡ 0 = omega (arith, sum) in is) (let is : b ≡ 0 = omega (arith, sum) in is)

    one : (a b : ℕ) → a + b ≡ 1 → (nat_lt 0 a || false || nat_lt 0 b) ≡ true
    one a b sum = elim (cases_eq a 0) [
      | inl nothing ↦ or_right (nat_lt 0 a || false) (nat_lt 0 b) (lt-ltb 0 b (omega (arith, sum, nothing)))
      | inr some ↦ ap (λ (c : Bool). c || false || nat_lt 0 b) (lt-ltb 0 a (omega (arith, some)))
    ]

    or_true : (a c : Bool) → (a || true || c) ≡ true
    or_true true c = refl
    or_true false c = refl

    by : (state : NoMoreState) → told_in n requests.queue + told_at n requests.under_way ≡ times_due state
        → (nat_lt 0 (told_in n requests.queue) || is_dropped state || nat_lt 0 (told_at n requests.under_way)) ≡ not (is_unasked state)
    by Unasked sum = none (told_in n requests.queue) (told_at n requests.under_way) sum
    by Queued sum = one (told_in n requests.queue) (told_at n requests.under_way) sum
    by Dropped sum = or_true (nat_lt 0 (told_in n requests.queue)) (nat_lt 0 (told_at n requests.under_way))
