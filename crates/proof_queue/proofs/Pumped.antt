-- Where a pump begins, the nodes that are due by the transcript, but for those that it has looked at, are those that the host lets sleep, in the same order.
use Rattle.std.proofs.Common.{◌≡◌, ◌≤◌, ◌<◌, ℕ, ◌+◌, ◌-◌, ◌==◌, ◌&&◌, ◌||◌, not, Bool, true, false, if◌then◌else◌, inl, inr, List, [], ◌∷◌, filter, nat_le, nat_lt, refl, sym, ap, ap₂, ◌∙◌, subst, arith}
use Rattle.std.specs.Prelude.{Option, is_some}
use Rattle.std.specs.List.{AllByRecursion, range_with_len}
use Rattle.std.proofs.lemmas.Bool.{and_right, both_ways, cases_lt, eq-eqb, le-leb, le-ltb, leb-true, lt-leb, lt-ltb, ne_eqb}
use Rattle.zw_text.specs.declared.entry.Entry.{Entry}
use Rattle.zw_text.specs.Transcript.{joined, shown}
use Rattle.host_heard.specs.declared.told.Told.{Told}
use Rattle.law_transcript.specs.Commands.{waiting}
use Rattle.law_transcript.specs.Nodes.{known_classes}
use Rattle.law_transcript.specs.Units.{Carried}
use Rattle.law_time.specs.Heeds.{Heeds}
use Rattle.law_time.specs.Holds.{held_until}
use Rattle.law_time.specs.Interviews.{listens}
use Rattle.law_time.specs.Moments.{clock, later_of}
use Rattle.law_time.specs.Requests.{Asked, are_none}
use Rattle.law_time.specs.Sessions.{runs}
use Rattle.law_time.specs.Waking.{counts_awake}
use Rattle.law_time.specs.Queue.{Queue, each_with, has_nothing, have_woken, in_order, is_told, with_due, with_no_more, woke_at}
use Rattle.host_node.specs.State.{NodeState, has_waiting, is_false, is_idle, is_unasked, wants_no_more}
use Rattle.host_model.specs.State.{HostState, node_of}
use Rattle.proof_attempts.specs.proof_requests.law_host.Heard.{heeds_alone, listing_heard}
use Rattle.proof_queue.specs.Sleeping.{has_all, wanting}
use Rattle.proof_queue.proofs.Sleepers.{none_awake}
use Rattle.proof_queue.proofs.Orders.{AreDistinct, by_number, filter_same, is_among, picked, picked_among}
use Rattle.proof_queue.proofs.Looks.{due_is, dues, dues_since, is_due, is_due_since, key, looks_twice, nodes_of, nothing_always, told_after}

-- ---- a node as the transcript shows it

pub record Sees (past : List Entry) (now n : ℕ) (node : NodeState) : Type 0 where
  pub awake : counts_awake n past ≡ node.awake
  pub hears : listens n past ≡ node.listens
  pub lists : known_classes listing_heard past n ≡ node.classes
  pub waits : are_none (waiting n past) ≡ not (has_waiting node)
  pub runs_so : runs n past now ≡ not (is_idle node.series)
  pub held : node.hold ≡ held_until n past - now

same_not : (b : Bool) → not b ≡ is_false b
same_not true = refl
same_not false = refl

twice_not : (b : Bool) → not (not b) ≡ b
twice_not true = refl
twice_not false = refl

nothing_is : (taken : List Entry → Carried → List Told) (past : List Entry) (now n : ℕ) (node : NodeState) → Sees past now n node → has_nothing (heeds_alone taken) past now n ≡ has_all node
nothing_is taken past now n node sees =
    ap₂ (λ (a l : Bool). a && not l && is_some (known_classes listing_heard past n) && are_none (waiting n past) && not (runs n past now)) sees.awake sees.hears
    ∙ ap₂ (λ (c : Option (List ℕ)) (w : Bool). node.awake && not node.listens && is_some c && w && not (runs n past now)) sees.lists sees.waits
    ∙ ap (λ (r : Bool). node.awake && not node.listens && is_some node.classes && not (has_waiting node) && not r) sees.runs_so
    ∙ ap₂ (λ (l w : Bool). node.awake && l && is_some node.classes && w && not (not (is_idle node.series))) (same_not node.listens) (same_not (has_waiting node))
    ∙ ap (λ (i : Bool). node.awake && is_false node.listens && is_some node.classes && is_false (has_waiting node) && i) (twice_not (is_idle node.series))

later_either : (c h now : ℕ) (b : Bool) → c ≤ now → h ≤ now → nat_le (if b then h else c) now ≡ true
later_either c h now true begun over = le-leb h now over
later_either c h now false begun over = le-leb c now begun

-- and it is held no longer
over_is : (past : List Entry) (now n : ℕ) (node : NodeState) → clock past ≤ now → node.hold ≡ held_until n past - now → nat_le (key past n) now ≡ (node.hold == 0)
over_is past now n node begun held = elim (cases_lt now (held_until n past)) [
  | inl less ↦
      ap (λ (b : Bool). nat_le (if b then held_until n past else clock past) now) (lt-ltb (clock past) (held_until n past) (omega (arith, begun, less)))
      ∙ lt-leb (held_until n past) now less ∙ sym (ne_eqb node.hold 0 (λ none. omega (arith, held, less, none)))
  | inr more ↦
      later_either (clock past) (held_until n past) now (nat_lt (clock past) (held_until n past)) begun more ∙ sym (eq-eqb node.hold 0 (omega (arith, held, more)))
]

-- ---- which nodes want it

shuffle : (a l c u w i h : Bool) → (a && l && c && u && w && i && h) ≡ (a && l && c && w && i && h && u)
shuffle false l c u w i h = refl
shuffle true false c u w i h = refl
shuffle true true false u w i h = refl
shuffle true true true true w i h = always (w && i && h)
  where
    always : (b : Bool) → b ≡ (b && true)
    always true = refl
    always false = refl
shuffle true true true false w i h = sym (and_right (w && i && h) false refl)

wants_is : (node : NodeState) → wants_no_more node ≡ (has_all node && (node.hold == 0) && is_unasked node.no_more)
wants_is node = shuffle node.awake (is_false node.listens) (is_some node.classes) (is_unasked node.no_more) (is_false (has_waiting node)) (is_idle node.series) (node.hold == 0)

pub deaf_of : (a l c w i : Bool) → (a && l && c && w && i) ≡ true → l ≡ true
deaf_of true true c w i is = refl
deaf_of true false c w i is = absurd (let bad : false ≡ true = is in cc)
deaf_of false l c w i is = absurd (let bad : false ≡ true = is in cc)

listed_of : (a l c w i : Bool) → (a && l && c && w && i) ≡ true → c ≡ true
listed_of true true true w i is = refl
listed_of true true false w i is = absurd (let bad : false ≡ true = is in cc)
listed_of true false c w i is = absurd (let bad : false ≡ true = is in cc)
listed_of false l c w i is = absurd (let bad : false ≡ true = is in cc)

awake_of : (a l c w i : Bool) → (a && l && c && w && i) ≡ true → a ≡ true
awake_of true l c w i is = refl
awake_of false l c w i is = absurd (let bad : false ≡ true = is in cc)

pub open_false : (b : Bool) → is_false b ≡ true → b ≡ false
open_false true is = absurd (let bad : false ≡ true = is in cc)
open_false false is = refl

-- ---- a host that looks

pub record MayLook (past : List Entry) (now : ℕ) (h : HostState) : Type 0 where
  pub each : (n : ℕ) → 1 ≤ n → n ≤ 232 → Sees past now n (node_of h n)
  pub begun : clock past ≤ now
  pub nodes : AllByRecursion (λ n. (1 ≤ n) × (n < 1 + 232)) (joined past)
  pub distinct : AreDistinct (joined past)
  pub known : (n : ℕ) → 1 ≤ n → n ≤ 232 → is_some (node_of h n).classes ≡ true → is_among (joined past) n ≡ true

-- those that it has told so are told by the transcript, with this queue
abbrev pub AreTold : HostState → Asked → Queue → Type 0
AreTold h a q = (n : ℕ) → 1 ≤ n → n ≤ 232 → (node_of h n).listens ≡ false → is_told a q n ≡ not (is_unasked (node_of h n).no_more)

-- a node would sleep; and those that would, and are not told
abbrev pub would_sleep : NodeState → Bool
would_sleep node = has_all node && (node.hold == 0)

abbrev pub sleepers : HostState → Asked → Queue → List ℕ
sleepers h a q = filter (λ (m : ℕ). would_sleep (node_of h m) && not (is_told a q m)) (range_with_len 1 232)

by_woken : (P : List ℕ → Type 0) (past : List Entry) → P [] → P (joined past) → P (have_woken past)
by_woken P past none all = by (are_none (shown woke_at past))
  where
    by : (b : Bool) → P (if b then [] else joined past)
    by true = none
    by false = all

woken_is : (past : List Entry) (n : ℕ) → counts_awake n past ≡ true → have_woken past ≡ joined past
woken_is past n awake = by (shown woke_at past) refl
  where
    by : (woken : List ℕ) → shown woke_at past ≡ woken → (if are_none (shown woke_at past) then [] else joined past) ≡ joined past
    by [] none = absurd (both_ways (counts_awake n past) (none_awake past n none) awake)
    by (m ∷ more) some = ap (λ (l : List ℕ). if are_none l then [] else joined past) some

module _ (taken : List Entry → Carried → List Told) (past : List Entry) (now : ℕ) (h : HostState) (a : Asked) (q : Queue) where
  abbrev heeds : Heeds
  heeds = heeds_alone taken

  abbrev node : ℕ → NodeState
  node n = node_of h n

  -- a node that has nothing is among those that may be looked at
  among_woken : (n : ℕ) → Sees past now n (node n) → (is_some (node n).classes ≡ true → is_among (joined past) n ≡ true) → has_all (node n) ≡ true → is_among (have_woken past) n ≡ true
  among_woken n sees known all =
      let s = node n in
      ap (λ (l : List ℕ). is_among l n) (woken_is past n (sees.awake ∙ awake_of s.awake (is_false s.listens) (is_some s.classes) (is_false (has_waiting s)) (is_idle s.series) all))
      ∙ known (listed_of s.awake (is_false s.listens) (is_some s.classes) (is_false (has_waiting s)) (is_idle s.series) all)

  -- where it became due now, or later than the last look
  due_sleepers : (p : ℕ → Bool) (k : Queue) → ((n : ℕ) → p n ≡ true → key past n ≡ now)
      → ((n : ℕ) → 1 ≤ n → n ≤ 232 → (is_among (have_woken past) n && p n) ≡ (would_sleep (node n) && not (is_told a k n))) → AllByRecursion (λ n. (1 ≤ n) × (n < 1 + 232)) (joined past)
      → AreDistinct (joined past) → nodes_of (in_order (picked p (key past) (have_woken past))) ≡ sleepers h a k
  due_sleepers p k at same nodes distinct =
      by_number p (key past) now 1 232 at (have_woken past) (by_woken (AllByRecursion (λ n. (1 ≤ n) × (n < 1 + 232))) past tt nodes) (by_woken AreDistinct past tt distinct)
      ∙ filter_same (λ (m : ℕ). is_among (have_woken past) m && p m) (λ (m : ℕ). would_sleep (node m) && not (is_told a k m)) 1 232 (λ m from to. same m from (omega (arith, to)))

  within_wants : (g p : Bool) → (p ≡ true → g ≡ true) → (g && p) ≡ p
  within_wants true p is = refl
  within_wants false true is = is refl
  within_wants false false is = refl

  later_up : (c k : ℕ) → c ≤ later_of c k
  later_up c k = elim (cases_lt c k) [
    | inl less ↦ subst (λ (b : Bool). c ≤ (if b then k else c)) (sym (lt-ltb c k less)) (omega (arith, less))
    | inr more ↦ subst (λ (b : Bool). c ≤ (if b then k else c)) (sym (le-ltb c k more)) (omega arith)
  ]

  second_of : (b c : Bool) → (b && c) ≡ true → c ≡ true
  second_of true c is = is
  second_of false c is = absurd (let bad : false ≡ true = is in cc)

  left_of : (b c : Bool) → (b && c) ≡ true → b ≡ true
  left_of true c is = refl
  left_of false c is = absurd (let bad : false ≡ true = is in cc)

  -- ---- where the clock is that of the transcript

  pub now_sleepers : MayLook past now h → clock past ≡ now → dues heeds past now a q ≡ sleepers h a q
  now_sleepers looks at = due_sleepers (is_due heeds past now a q) q at_now (λ n from to. same n from to) looks.nodes looks.distinct
    where
      at_now : (n : ℕ) → is_due heeds past now a q n ≡ true → key past n ≡ now
      at_now n is =
          let low = leb-true (key past n) now (second_of (has_nothing heeds past now n) (nat_le (key past n) now) (left_of (has_nothing heeds past now n && nat_le (key past n) now) (not (is_told a q n)) is)) in
          let high = later_up (clock past) (held_until n past) in
          omega (arith, low, high, at)

      same : (n : ℕ) → 1 ≤ n → n ≤ 232 → (is_among (have_woken past) n && is_due heeds past now a q n) ≡ (would_sleep (node n) && not (is_told a q n))
      same n from to =
          let s = node n in
          let sees = looks.each n from to in
          let is : is_due heeds past now a q n ≡ (has_all s && (s.hold == 0) && not (is_told a q n)) =
          ap₂ (λ (b c : Bool). b && c && not (is_told a q n)) (nothing_is taken past now n s sees) (over_is past now n s looks.begun sees.held) in
          within_wants (is_among (have_woken past) n) (is_due heeds past now a q n)
          (λ due. among_woken n sees (looks.known n from to) (left_of (has_all s) (s.hold == 0) (left_of (has_all s && (s.hold == 0)) (not (is_told a q n)) (sym is ∙ due))))
          ∙ is

  -- ---- where it has looked up to a time, that of now or of the tick before

  since_told : (g n k b t : Bool) → (n ≡ true → g ≡ true) → (n && k && not t && not b) ≡ (n && k && not (t || (g && (n && b && not t))))
  since_told g false k b t among = refl
  since_told g true k b t among = by k t b ∙ sym (ap (λ (c : Bool). k && not (t || (c && (b && not t)))) (among refl))
    where
      by : (k t b : Bool) → (k && not t && not b) ≡ (k && not (t || (b && not t)))
      by false t b = refl
      by true true b = refl
      by true false true = refl
      by true false false = refl

  pub told_then : (before n : ℕ) → is_told a (with_due heeds past before a q) n ≡ (is_told a q n || (is_among (have_woken past) n && is_due heeds past before a q n))
  told_then before n =
      ap (λ (k : Queue). is_told a k n) (due_is heeds past before a q) ∙ told_after a q (dues heeds past before a q) n
      ∙ ap (λ (b : Bool). is_told a q n || b) (picked_among (is_due heeds past before a q) (key past) (have_woken past) n)

  pub since_sleepers : (before : ℕ) → before ≤ now → now ≤ before + 1 → MayLook past now h → dues_since heeds past before now a q ≡ sleepers h a (with_due heeds past before a q)
  since_sleepers before up near looks =
      due_sleepers (is_due_since heeds past before now a q) (with_due heeds past before a q) at_now (λ n from to. same n from to) looks.nodes looks.distinct
    where
      at_now : (n : ℕ) → is_due_since heeds past before now a q n ≡ true → key past n ≡ now
      at_now n is =
          let due = left_of (is_due heeds past now a q n) (not (nat_le (key past n) before)) is in
          let low = leb-true (key past n) now (second_of (has_nothing heeds past now n) (nat_le (key past n) now) (left_of (has_nothing heeds past now n && nat_le (key past n) now) (not (is_told a q n)) due)) in
          let high = above (key past n) (second_of (is_due heeds past now a q n) (not (nat_le (key past n) before)) is) in
          omega (arith, low, high, near)
        where
          above : (k : ℕ) → not (nat_le k before) ≡ true → before < k
          above k is = elim (cases_lt before k) [
            | inl less ↦ less
            | inr more ↦ absurd (let bad : false ≡ true = sym (ap not (le-leb k before more)) ∙ is in cc)
          ]

      same : (n : ℕ) → 1 ≤ n → n ≤ 232 → (is_among (have_woken past) n && is_due_since heeds past before now a q n) ≡ (would_sleep (node n) && not (is_told a (with_due heeds past before a q) n))
      same n from to =
          let s = node n in
          let sees = looks.each n from to in
          let is : is_due_since heeds past before now a q n ≡ (has_all s && (s.hold == 0) && not (is_told a q n) && not (nat_le (key past n) before)) =
          ap₂ (λ (b c : Bool). b && c && not (is_told a q n) && not (nat_le (key past n) before)) (nothing_is taken past now n s sees) (over_is past now n s looks.begun sees.held) in
          let then_is : is_told a (with_due heeds past before a q) n ≡ (is_told a q n || (is_among (have_woken past) n && (has_all s && nat_le (key past n) before && not (is_told a q n)))) =
          told_then before n
          ∙ ap (λ (b : Bool). is_told a q n || (is_among (have_woken past) n && (b && nat_le (key past n) before && not (is_told a q n))))
          (nothing_always heeds past before now n ∙ nothing_is taken past now n s sees) in
          let among : has_all s ≡ true → is_among (have_woken past) n ≡ true = (λ all. among_woken n sees (looks.known n from to) all) in
          within_wants (is_among (have_woken past) n) (is_due_since heeds past before now a q n)
          (λ since. among (left_of (has_all s) (s.hold == 0) (left_of (has_all s && (s.hold == 0)) (not (is_told a q n))
          (left_of (has_all s && (s.hold == 0) && not (is_told a q n)) (not (nat_le (key past n) before)) (sym is ∙ since)))))
          ∙ is ∙ since_told (is_among (have_woken past) n) (has_all s) (s.hold == 0) (nat_le (key past n) before) (is_told a q n) among
          ∙ sym (ap (λ (b : Bool). has_all s && (s.hold == 0) && not b) then_is)

  -- ---- those that a pump lets sleep

  told_wants : (n k t u : Bool) → (n ≡ true → t ≡ not u) → (n && k && not t) ≡ (n && k && u)
  told_wants false t k u is = refl
  told_wants true t k u is = ap (λ (b : Bool). t && b) (ap not (is refl) ∙ twice_not u)

  pub sleepers_want : (k : Queue) → AreTold h a k → sleepers h a k ≡ wanting h
  sleepers_want k told =
      filter_same (λ (m : ℕ). would_sleep (node m) && not (is_told a k m)) (λ (m : ℕ). wants_no_more (node m)) 1 232 (λ m from to. same m from (omega (arith, to)))
    where
      same : (n : ℕ) → 1 ≤ n → n ≤ 232 → (would_sleep (node n) && not (is_told a k n)) ≡ wants_no_more (node n)
      same n from to =
          let s = node n in
          told_wants (has_all s) (s.hold == 0) (is_told a k n) (is_unasked s.no_more)
          (λ all. told n from to (open_false s.listens (deaf_of s.awake (is_false s.listens) (is_some s.classes) (is_false (has_waiting s)) (is_idle s.series) all)))
          ∙ sym (wants_is s)

  -- where nothing was looked at, and the clock is that of the transcript
  pub raw_wanting : MayLook past now h → clock past ≡ now → AreTold h a q → with_due heeds past now a q ≡ each_with with_no_more q (wanting h)
  raw_wanting looks at told = due_is heeds past now a q ∙ ap (λ (l : List ℕ). each_with with_no_more q l) (now_sleepers looks at ∙ sleepers_want q told)

  -- where it has looked up to a time
  pub since_wanting : (before : ℕ) → before ≤ now → now ≤ before + 1 → MayLook past now h → AreTold h a (with_due heeds past before a q)
      → with_due heeds past now a q ≡ each_with with_no_more (with_due heeds past before a q) (wanting h)
  since_wanting before up near looks told =
      looks_twice heeds past before now a q up
      ∙ ap (λ (l : List ℕ). each_with with_no_more (with_due heeds past before a q) l) (since_sleepers before up near looks ∙ sleepers_want (with_due heeds past before a q) told)
