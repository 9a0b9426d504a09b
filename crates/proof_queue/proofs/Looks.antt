-- What a look of the host adds to what waits by the transcript: the nodes that are due, in order. Up to a later time those come behind that have become due since. A node is told after it where it was, or was due.
use Rattle.std.proofs.Common.{◌≡◌, ◌⊎◌, ◌≤◌, ◌<◌, ℕ, ◌+◌, ◌==◌, ◌&&◌, ◌||◌, not, Bool, true, false, if◌then◌else◌, inl, inr, List, [], ◌∷◌, ◌++◌, map, filter, nat_le, bytes_eq, refl, sym, ap, ◌∙◌, arith}
use Rattle.std.specs.List.{flat_map, list_any}
use Rattle.std.proofs.lemmas.Bool.{and_left, and_right, both_ways, cases_eq, cases_lt, eq-eqb, le-leb, leb-true, ne_eqb}
use Rattle.std.proofs.lemmas.List.{map-append}
use Rattle.std.proofs.lemmas.List.Folds.{list_any-append}
use Rattle.zw_text.specs.declared.entry.Ended.{Ended}
use Rattle.zw_text.specs.declared.entry.Ended.TheVariants as endings
use Rattle.zw_text.specs.declared.entry.Entry.{Entry}
use Rattle.zw_text.specs.declared.entry.Entry.TheVariants as entry
use Rattle.law_transcript.specs.Commands.{waiting}
use Rattle.law_transcript.specs.Nodes.{known_classes}
use Rattle.law_time.specs.Heeds.{Heeds}
use Rattle.law_time.specs.Holds.{held_until}
use Rattle.law_time.specs.Moments.{clock, later_of, now_at}
use Rattle.law_time.specs.Requests.{Asked, are_none, starts_anew}
use Rattle.law_time.specs.Sessions.{Series, is_last_command, is_open, new_series, no_series, runs, series_by_end, series_from, series_step, with_occasion, with_time}
use Rattle.law_time.specs.Waking.{has_slept, is_awake_sleeper, is_told as tells_it, is_up}
use Rattle.law_time.specs.Wants.{no_more}
use Rattle.law_time.specs.Queue.{Due, Queue, due_of, each_with, has_nothing, have_woken, in_order, is_full as queue_full, is_told, with_due, with_no_more}
use Rattle.std.specs.Prelude.{is_some}
use Rattle.proof_queue.proofs.Orders.{due_at, is_among, picked, picked_same, split}

-- ---- that a series runs does not hang on the time, where no command waits

abbrev IsOne : Series → Type 0
IsOne s = (s.runs ≡ false) ⊎ (s.again ≡ [])

one_either : (b : Bool) (s t : Series) → IsOne s → IsOne t → IsOne (if b then s else t)
one_either true s t one other = one
one_either false s t one other = other

occasion_one : (n : ℕ) (past : List Entry) (s : Series) → IsOne s → IsOne (with_occasion n past s)
occasion_one n past s one = one_either (is_up n past && is_open n past) new_series s (inr refl) one

time_one : (n : ℕ) (past : List Entry) (now : ℕ) (s : Series) → IsOne s → IsOne (with_time n past now s)
time_one n past now s one =
    one_either (list_any (λ tick. nat_le tick now) s.again) (if are_none (waiting n past) then no_series else with_occasion n past no_series) s
    (one_either (are_none (waiting n past)) no_series (with_occasion n past no_series) (inl refl) (occasion_one n past no_series (inl refl))) one

end_one : (ended : Ended) (now : ℕ) → IsOne (series_by_end ended now)
end_one endings.Unanswered now = inl refl
end_one ended now = inl refl

step_one : (n : ℕ) (past : List Entry) (s : Series) (e : Entry) (rest : List Entry) → IsOne s → IsOne (series_step n past s e rest)
step_one n past s (entry.Begin of number command) rest one = one_either (of == n) new_series s (inr refl) one
step_one n past s (entry.Out command ended) rest one = one_either (is_last_command n past command) (series_by_end ended (clock past)) s (end_one ended (clock past)) one
step_one n past s (entry.Accepted command of) rest one =
    one_either (of == n) (with_occasion n (past ++ entry.Accepted command of ∷ []) s) s (occasion_one n (past ++ entry.Accepted command of ∷ []) s one) one
step_one n past s (entry.Awake of) rest one = one_either (of == n) (with_occasion n (past ++ entry.Awake of ∷ []) s) s (occasion_one n (past ++ entry.Awake of ∷ []) s one) one
step_one n past s (entry.Said words) rest one =
    one_either (starts_anew (entry.Said words) rest) (with_occasion n (past ++ entry.Said words ∷ []) no_series) s (occasion_one n (past ++ entry.Said words ∷ []) no_series (inl refl)) one
step_one n past s e rest one = one

all_one : (n : ℕ) (past : List Entry) (s : Series) (told : List Entry) → IsOne s → IsOne (series_from n past s told)
all_one n past s [] one = one
all_one n past s (e ∷ told) one =
    all_one n (past ++ e ∷ []) (series_step n past (with_time n past (now_at past e) s) e told) told
    (step_one n past (with_time n past (now_at past e) s) e told (time_one n past (now_at past e) s one))

none_runs : (waits due : Bool) (occasion s : Series) → waits ≡ true → IsOne s → (s.again ≡ [] → due ≡ false) → (if due then (if waits then no_series else occasion) else s).runs ≡ s.runs
none_runs waits true occasion s is (inl not_running) none = ap (λ (b : Bool). (if b then no_series else occasion).runs) is ∙ sym not_running
none_runs waits true occasion s is (inr empty) none = absurd (let bad : true ≡ false = none empty in cc)
none_runs waits false occasion s is one none = refl

runs_always : (n : ℕ) (past : List Entry) (now : ℕ) → are_none (waiting n past) ≡ true → runs n past now ≡ (series_from n [] no_series past).runs
runs_always n past now none =
    let s : Series = series_from n [] no_series past in
    none_runs (are_none (waiting n past)) (list_any (λ tick. nat_le tick now) s.again) (with_occasion n past no_series) s none (all_one n [] no_series past (inl refl))
    (λ empty. ap (λ (l : List ℕ). list_any (λ tick. nat_le tick now) l) empty)

pub nothing_always : (heeds : Heeds) (past : List Entry) (now later n : ℕ) → has_nothing heeds past now n ≡ has_nothing heeds past later n
nothing_always heeds past now later n = by (are_none (waiting n past)) refl
  where
    first : Bool
    first = is_awake_sleeper n past && is_some (known_classes heeds.listing past n)

    by : (b : Bool) → are_none (waiting n past) ≡ b → has_nothing heeds past now n ≡ has_nothing heeds past later n
    by true is = ap (λ (b : Bool). first && are_none (waiting n past) && not b) (runs_always n past now is ∙ sym (runs_always n past later is))
    by false is =
        and_left (first && are_none (waiting n past)) (not (runs n past now)) (and_right first (are_none (waiting n past)) is)
        ∙ sym (and_left (first && are_none (waiting n past)) (not (runs n past later)) (and_right first (are_none (waiting n past)) is))

-- ---- one after another

pub each-append : {A : Type 0} (put : Queue → A → Queue) (queue : Queue) (first rest : List A) → each_with put queue (first ++ rest) ≡ each_with put (each_with put queue first) rest
each-append put queue [] rest = refl
each-append put queue (item ∷ first) rest = each-append put (put queue item) first rest

-- ---- who is due

-- when it became due, if it is
abbrev pub key : List Entry → ℕ → ℕ
key past n = later_of (clock past) (held_until n past)

abbrev pub is_due : Heeds → List Entry → ℕ → Asked → Queue → ℕ → Bool
is_due heeds past now a q n = has_nothing heeds past now n && nat_le (key past n) now && not (is_told a q n)

abbrev pub nodes_of : List Due → List ℕ
nodes_of dues = map (λ (due : Due). due.node) dues

abbrev pub dues : Heeds → List Entry → ℕ → Asked → Queue → List ℕ
dues heeds past now a q = nodes_of (in_order (picked (is_due heeds past now a q) (key past) (have_woken past)))

pub picks : (heeds : Heeds) (past : List Entry) (now : ℕ) (a : Asked) (q : Queue) (nodes : List ℕ)
    → filter (λ (due : Due). not (is_told a q due.node)) (flat_map (due_of heeds past now) nodes) ≡ picked (is_due heeds past now a q) (key past) nodes
picks heeds past now a q [] = refl
picks heeds past now a q (n ∷ nodes) = by (has_nothing heeds past now n && nat_le (key past n) now) (is_told a q n) refl (picks heeds past now a q nodes)
  where
    rest : List Due
    rest = flat_map (due_of heeds past now) nodes

    found : List Due
    found = picked (is_due heeds past now a q) (key past) nodes

    passes : Due → Bool
    passes due = not (is_told a q due.node)

    by : (b c : Bool) → is_told a q n ≡ c → filter passes rest ≡ found → filter passes ((if b then due_at n (key past n) ∷ [] else []) ++ rest) ≡ (if b && not c then due_at n (key past n) ∷ found else found)
    by true true is more = ap (λ (c : Bool). if not c then due_at n (key past n) ∷ filter passes rest else filter passes rest) is ∙ more
    by true false is more = ap (λ (c : Bool). if not c then due_at n (key past n) ∷ filter passes rest else filter passes rest) is ∙ ap (λ (l : List Due). due_at n (key past n) ∷ l) more
    by false c is more = more

pub due_is : (heeds : Heeds) (past : List Entry) (now : ℕ) (a : Asked) (q : Queue) → with_due heeds past now a q ≡ each_with with_no_more q (dues heeds past now a q)
due_is heeds past now a q = ap (λ (l : List Due). each_with with_no_more q (nodes_of (in_order l))) (picks heeds past now a q (have_woken past))

-- ---- at a later time

-- those that have become due since
abbrev pub is_due_since : Heeds → List Entry → ℕ → ℕ → Asked → Queue → ℕ → Bool
is_due_since heeds past before now a q n = is_due heeds past now a q n && not (nat_le (key past n) before)

abbrev pub dues_since : Heeds → List Entry → ℕ → ℕ → Asked → Queue → List ℕ
dues_since heeds past before now a q = nodes_of (in_order (picked (is_due_since heeds past before now a q) (key past) (have_woken past)))

parts : (n a b t : Bool) → (b ≡ true → a ≡ true) → (n && a && not t) ≡ ((n && b && not t) || (n && a && not t && not b))
parts false a b t up = refl
parts true true true true up = refl
parts true true true false up = refl
parts true true false true up = refl
parts true true false false up = refl
parts true false true t up = absurd (let bad : false ≡ true = up refl in cc)
parts true false false t up = refl

second_of : (b c : Bool) → (b && c) ≡ true → c ≡ true
second_of true c is = is
second_of false c is = absurd (let bad : false ≡ true = is in cc)

pub first_of : (b c : Bool) → (b && c) ≡ true → b ≡ true
first_of true c is = refl
first_of false c is = absurd (let bad : false ≡ true = is in cc)

not_true : (b : Bool) → not b ≡ true → b ≡ false
not_true true is = absurd (let bad : false ≡ true = is in cc)
not_true false is = refl

pub later_dues : (heeds : Heeds) (past : List Entry) (before now : ℕ) (a : Asked) (q : Queue) → before ≤ now
    → dues heeds past now a q ≡ dues heeds past before a q ++ dues_since heeds past before now a q
later_dues heeds past before now a q up =
    ap (λ (l : List Due). nodes_of (in_order l)) (picked_same (is_due heeds past now a q) (λ (n : ℕ). is_due heeds past before a q n || is_due_since heeds past before now a q n) (key past) each (have_woken past))
    ∙ ap nodes_of (split (is_due heeds past before a q) (is_due_since heeds past before now a q) (key past) before low high (have_woken past))
    ∙ map-append (λ (due : Due). due.node) (in_order (picked (is_due heeds past before a q) (key past) (have_woken past)))
    (in_order (picked (is_due_since heeds past before now a q) (key past) (have_woken past)))
  where
    rises : (k : ℕ) → nat_le k before ≡ true → nat_le k now ≡ true
    rises k is = le-leb k now (omega (arith, up, leb-true k before is))

    each : (n : ℕ) → is_due heeds past now a q n ≡ (is_due heeds past before a q n || is_due_since heeds past before now a q n)
    each n =
        parts (has_nothing heeds past now n) (nat_le (key past n) now) (nat_le (key past n) before) (is_told a q n) (rises (key past n))
        ∙ ap (λ (b : Bool). (b && nat_le (key past n) before && not (is_told a q n)) || is_due_since heeds past before now a q n) (nothing_always heeds past now before n)

    low : (n : ℕ) → is_due heeds past before a q n ≡ true → key past n ≤ before
    low n is = leb-true (key past n) before (second_of (has_nothing heeds past before n) (nat_le (key past n) before) (first_of (has_nothing heeds past before n && nat_le (key past n) before) (not (is_told a q n)) is))

    high : (n : ℕ) → is_due_since heeds past before now a q n ≡ true → before < key past n
    high n is = elim (cases_lt before (key past n)) [
      | inl less ↦ less
      | inr more ↦ absurd (both_ways (nat_le (key past n) before) (not_true (nat_le (key past n) before) (second_of (is_due heeds past now a q n) (not (nat_le (key past n) before)) is)) (le-leb (key past n) before more))
    ]

-- in two looks as in one
pub looks_twice : (heeds : Heeds) (past : List Entry) (before now : ℕ) (a : Asked) (q : Queue) → before ≤ now
    → with_due heeds past now a q ≡ each_with with_no_more (with_due heeds past before a q) (dues_since heeds past before now a q)
looks_twice heeds past before now a q up =
    due_is heeds past now a q ∙ ap (λ (l : List ℕ). each_with with_no_more q l) (later_dues heeds past before now a q up)
    ∙ each-append with_no_more q (dues heeds past before a q) (dues_since heeds past before now a q)
    ∙ ap (λ (k : Queue). each_with with_no_more k (dues_since heeds past before now a q)) (sym (due_is heeds past before a q))

-- ---- who is told after a look

-- a No More Information is that of a node
pub same_no_more : (n m : ℕ) → bytes_eq (no_more n) (no_more m) ≡ (m == n)
same_no_more n m = elim (cases_eq n m) [
  | inl same ↦ ap (λ (b : Bool). b && true) (eq-eqb n m same) ∙ sym (eq-eqb m n (sym same))
  | inr other ↦ ap (λ (b : Bool). b && true) (ne_eqb n m other) ∙ sym (ne_eqb m n (λ same. other (sym same)))
]

put_want : (w d f x : Bool) → ((w || (x || false)) || d || f) ≡ ((w || d || f) || x)
put_want true d f x = refl
put_want false true f true = refl
put_want false true f false = refl
put_want false false true true = refl
put_want false false true false = refl
put_want false false false true = refl
put_want false false false false = refl

put_drop : (w d f x : Bool) → (w || (d || (x || false)) || f) ≡ ((w || d || f) || x)
put_drop true d f x = refl
put_drop false true f x = refl
put_drop false false true true = refl
put_drop false false true false = refl
put_drop false false false true = refl
put_drop false false false false = refl

or_assoc : (a b c : Bool) → ((a || b) || c) ≡ (a || (b || c))
or_assoc true b c = refl
or_assoc false b c = refl

told_by_one : (a : Asked) (q : Queue) (m n : ℕ) → is_told a (with_no_more q m) n ≡ (is_told a q n || (m == n))
told_by_one a q m n = by (queue_full q)
  where
    asks : Bool
    asks = tells_it n a.frame && not (has_slept n a.following)

    wants : Bool
    wants = list_any (bytes_eq (no_more n)) q.wants

    by : (b : Bool) → is_told a (if b then record q { dropped = q.dropped ++ m ∷ []; owed = q.owed ++ m ∷ [] } else record q { wants = q.wants ++ no_more m ∷ [] }) n ≡ (is_told a q n || (m == n))
    by true =
        ap (λ (b : Bool). wants || b || asks) (list_any-append (λ one. one == n) q.dropped (m ∷ []))
        ∙ put_drop wants (list_any (λ one. one == n) q.dropped) asks (m == n)
    by false =
        ap (λ (b : Bool). b || list_any (λ one. one == n) q.dropped || asks) (list_any-append (bytes_eq (no_more n)) q.wants (no_more m ∷ []))
        ∙ ap (λ (b : Bool). (wants || (b || false)) || list_any (λ one. one == n) q.dropped || asks) (same_no_more n m)
        ∙ put_want wants (list_any (λ one. one == n) q.dropped) asks (m == n)

pub told_after : (a : Asked) (q : Queue) (nodes : List ℕ) (n : ℕ) → is_told a (each_with with_no_more q nodes) n ≡ (is_told a q n || is_among nodes n)
told_after a q [] n = by (is_told a q n)
  where
    by : (b : Bool) → b ≡ (b || false)
    by true = refl
    by false = refl
told_after a q (m ∷ nodes) n =
    told_after a (with_no_more q m) nodes n ∙ ap (λ (b : Bool). b || is_among nodes n) (told_by_one a q m n) ∙ or_assoc (is_told a q n) (m == n) (is_among nodes n)
