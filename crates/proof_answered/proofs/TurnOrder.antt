-- The next node in cyclic order is the nearest: once another is served, one of these fewer comes before each node that has work.
use Rattle.std.proofs.Common.{◌≡◌, ◌≢◌, ◌≤◌, ◌<◌, ℕ, zero, suc, ◌+◌, ◌-◌, Bool, true, false, if◌then◌else◌, inl, inr, List, [], ◌∷◌, refl, sym, ap, ◌∙◌, subst, arith}
use Rattle.std.proofs.lemmas.Bool.{cases_lt, eq-eqb, le-ltb, lt-ltb}
use Rattle.std.specs.Option.{is_some, option_or}
use Rattle.std.specs.Prelude.{◌⊎◌, Option, Some, None}
use Rattle.chip_functions.specs.declared.function.TheConstants.{SEND_DATA}
use Rattle.chip_sim.specs.Nodes.{is_marked}
use Rattle.chip_sim.specs.State.{ChipState}
use Rattle.chip_sim.specs.declared.out.Sending.{Sending}
use Rattle.host_requests.specs.State.{id_after, next_id}
use Rattle.host_requests.specs.declared.task.Purpose.TheVariants.{Attempt}
use Rattle.host_node.specs.Search.{least_above, next_of}
use Rattle.host_node.specs.State.{NodeState, has_work}
use Rattle.host_node.specs.TableState.{node_of as node_among}
use Rattle.host_node.proofs.Searches.{HasNone, IsFirstFrom, what_is_least, where_is_none}
use Rattle.host_model.specs.Did.{one_if}
use Rattle.host_model.specs.Events.{HostEvent}
use Rattle.host_model.specs.May.{May}
use Rattle.host_model.specs.Pumping.{IsNext}
use Rattle.host_model.specs.State.{HostState}
use Rattle.host_model.proofs.Submitted.{SubmittedAre, next_is}
use Rattle.world_model.specs.State.{Machine}
use Rattle.proof_calm.specs.Awaited.{AwaitsNone}
use Rattle.proof_calm.specs.Tied.{At_chip, Called, Nowhere, On_way, Tied, TieOf, ends_of, unheard}
use Rattle.proof_calm.proofs.Awaiting.{sends_nothing}
use Rattle.proof_answered.specs.Turns.{IsInTurn, IsOver, Opens, Serves, Waited, With_call, Without, marked_to, turn_of}

-- ---- how many are marked

marked_one : (marks : List Bool) (n : ℕ) → is_marked marks n ≡ true → 1 ≤ marked_to marks n
marked_one [] n marked = absurd cc
marked_one (mark ∷ marks) zero marked = subst (λ (b : Bool). 1 ≤ one_if b) (sym marked) (omega arith)
marked_one (mark ∷ marks) (suc n) marked = let more = marked_one marks n marked in omega (arith, more)

marked_most : (marks : List Bool) (a b : ℕ) → a ≤ b → marked_to marks a ≤ marked_to marks b
marked_most [] a b most = omega arith
marked_most (mark ∷ marks) zero zero most = omega arith
marked_most (mark ∷ marks) zero (suc b) most = omega arith
marked_most (mark ∷ marks) (suc a) zero most = absurd (omega (arith, most))
marked_most (mark ∷ marks) (suc a) (suc b) most = let more = marked_most marks a b (omega (arith, most)) in omega (arith, more)

marked_more : (marks : List Bool) (a b : ℕ) → a < b → is_marked marks b ≡ true → marked_to marks a + 1 ≤ marked_to marks b
marked_more [] a b less marked = absurd cc
marked_more (mark ∷ marks) a zero less marked = absurd (omega (arith, less))
marked_more (mark ∷ marks) zero (suc b) less marked = let more = marked_one marks b marked in omega (arith, more)
marked_more (mark ∷ marks) (suc a) (suc b) less marked = let more = marked_more marks a b (omega (arith, less)) marked in omega (arith, more)

-- ---- the turn of a node

turn_above : (these : List Bool) (served n : ℕ) → served < n → turn_of these served n ≡ marked_to these n - marked_to these served
turn_above these served n above = ap (λ (b : Bool). if b then marked_to these n - marked_to these served else (marked_to these 232 - marked_to these served) + marked_to these n) (lt-ltb served n above)

turn_below : (these : List Bool) (served n : ℕ) → n ≤ served → turn_of these served n ≡ (marked_to these 232 - marked_to these served) + marked_to these n
turn_below these served n below = ap (λ (b : Bool). if b then marked_to these n - marked_to these served else (marked_to these 232 - marked_to these served) + marked_to these n) (le-ltb served n below)

pub turn_most : (these : List Bool) (served n : ℕ) → n ≤ 232 → turn_of these served n ≤ marked_to these 232
turn_most these served n within = by (cases_lt served n)
  where
    by : (served < n) ⊎ (n ≤ served) → turn_of these served n ≤ marked_to these 232
    by (inl above) = let is = turn_above these served n above in let most = marked_most these n 232 within in omega (arith, is, most)
    by (inr below) =
        let is = turn_below these served n below in
        let less = marked_most these n served below in
        let most = marked_most these n 232 within in
        omega (arith, is, less, most)

pub turn_least : (these : List Bool) (served n : ℕ) → is_marked these n ≡ true → 1 ≤ turn_of these served n
turn_least these served n marked = by (cases_lt served n)
  where
    by : (served < n) ⊎ (n ≤ served) → 1 ≤ turn_of these served n
    by (inl above) = let is = turn_above these served n above in let more = marked_more these served n above marked in omega (arith, is, more)
    by (inr below) = let is = turn_below these served n below in let one = marked_one these n marked in omega (arith, is, one)

-- the counts: up to the node, up to the one served before, up to the one served now, and of all
both_above : (turn next n served k : ℕ) → turn ≡ n - served → next ≡ n - k → served + 1 ≤ k → k + 1 ≤ n → next + 1 ≤ turn
both_above turn next n served k was is now further = omega (arith, was, is, now, further)

both_below : (turn next n served k all : ℕ) → turn ≡ (all - served) + n → next ≡ (all - k) + n → served + 1 ≤ k → k ≤ all → next + 1 ≤ turn
both_below turn next n served k all was is now within = omega (arith, was, is, now, within)

comes_round : (turn next n served k all : ℕ) → turn ≡ (all - served) + n → next ≡ n - k → 1 ≤ k → k ≤ n → next + 1 ≤ turn
comes_round turn next n served k all was is some further = omega (arith, was, is, some, further)

module _ (these : List Bool) (nodes : List NodeState) (served k n : ℕ) (marked : is_marked these k ≡ true) (at_work : is_marked these n ≡ true) (works_there : has_work (node_among nodes n) ≡ true) (from : 1 ≤ n) (to : n ≤ 232) (other : n ≢ k) where
  abbrev works : ℕ → Bool
  works node = has_work (node_among nodes node)

  idle_no : works n ≡ false → ⊥
  idle_no idle = let no : true ≡ false = sym works_there ∙ idle in cc

  -- the next one comes after the one served before
  next_above : IsFirstFrom works (suc served) (232 - served) k → turn_of these k n + 1 ≤ turn_of these served n
  next_above f = by (cases_lt served n)
    where
      after_served : served < k
      after_served = omega (arith, f.from)

      now : marked_to these served + 1 ≤ marked_to these k
      now = marked_more these served k after_served marked

      further : served < n → k < n
      further above = by_order (cases_lt k n)
        where
          by_order : (k < n) ⊎ (n ≤ k) → k < n
          by_order (inl less) = less
          by_order (inr most) = absurd (idle_no (f.before n (omega (arith, above)) (omega (arith, most, other))))

      by : (served < n) ⊎ (n ≤ served) → turn_of these k n + 1 ≤ turn_of these served n
      by (inl above) =
          both_above (turn_of these served n) (turn_of these k n) (marked_to these n) (marked_to these served) (marked_to these k) (turn_above these served n above) (turn_above these k n (further above)) now
          (marked_more these k n (further above) at_work)
      by (inr below) =
          both_below (turn_of these served n) (turn_of these k n) (marked_to these n) (marked_to these served) (marked_to these k) (marked_to these 232) (turn_below these served n below)
          (turn_below these k n (omega (arith, below, after_served))) now (marked_most these k 232 (omega (arith, f.to, after_served)))

  -- none comes after that one: the order begins again
  next_round : HasNone works (suc served) (232 - served) → IsFirstFrom works 1 232 k → turn_of these k n + 1 ≤ turn_of these served n
  next_round none f = by_order (cases_lt k n)
    where
      below : n ≤ served
      below = by (cases_lt served n)
        where
          by : (served < n) ⊎ (n ≤ served) → n ≤ served
          by (inl above) = absurd (idle_no (none.all n (omega (arith, above)) (omega (arith, above, to))))
          by (inr most) = most

      by_order : (k < n) ⊎ (n ≤ k) → turn_of these k n + 1 ≤ turn_of these served n
      by_order (inl less) =
          comes_round (turn_of these served n) (turn_of these k n) (marked_to these n) (marked_to these served) (marked_to these k) (marked_to these 232) (turn_below these served n below) (turn_above these k n less)
          (marked_one these k marked) (marked_most these k n (omega (arith, less)))
      by_order (inr most) = absurd (idle_no (f.before n from (omega (arith, most, other))))

  pub comes_nearer : next_of nodes served ≡ Some k → turn_of these k n + 1 ≤ turn_of these served n
  comes_nearer next = by (least_above works served) refl next
    where
      by : (o : Option ℕ) → least_above works served ≡ o → option_or o (least_above works 0) ≡ Some k → turn_of these k n + 1 ≤ turn_of these served n
      by (Some j) first is = next_above (what_is_least works served k (first ∙ is))
      by None none is = next_round (where_is_none works served none) (what_is_least works 0 k is)

-- any node that is next comes no later than one that has work
module _ (these : List Bool) (nodes : List NodeState) (served k n : ℕ) (works_there : has_work (node_among nodes n) ≡ true) (from : 1 ≤ n) (to : n ≤ 232) (other : n ≢ k) where
  abbrev work_at : ℕ → Bool
  work_at node = has_work (node_among nodes node)

  never_idle : work_at n ≡ false → ⊥
  never_idle idle = let no : true ≡ false = sym works_there ∙ idle in cc

  passed_above : IsFirstFrom work_at (suc served) (232 - served) k → turn_of these k n ≤ turn_of these served n
  passed_above f = by (cases_lt served n)
    where
      after_served : served < k
      after_served = omega (arith, f.from)

      most : marked_to these served ≤ marked_to these k
      most = marked_most these served k (omega (arith, after_served))

      further : served < n → k < n
      further above = by_order (cases_lt k n)
        where
          by_order : (k < n) ⊎ (n ≤ k) → k < n
          by_order (inl less) = less
          by_order (inr least) = absurd (never_idle (f.before n (omega (arith, above)) (omega (arith, least, other))))

      by : (served < n) ⊎ (n ≤ served) → turn_of these k n ≤ turn_of these served n
      by (inl above) = let was = turn_above these served n above in let is = turn_above these k n (further above) in omega (arith, was, is, most)
      by (inr below) = let was = turn_below these served n below in let is = turn_below these k n (omega (arith, below, after_served)) in omega (arith, was, is, most)

  passed_round : HasNone work_at (suc served) (232 - served) → IsFirstFrom work_at 1 232 k → turn_of these k n ≤ turn_of these served n
  passed_round none f = by_order (cases_lt k n)
    where
      below : n ≤ served
      below = by (cases_lt served n)
        where
          by : (served < n) ⊎ (n ≤ served) → n ≤ served
          by (inl above) = absurd (never_idle (none.all n (omega (arith, above)) (omega (arith, above, to))))
          by (inr most) = most

      by_order : (k < n) ⊎ (n ≤ k) → turn_of these k n ≤ turn_of these served n
      by_order (inl less) = let was = turn_below these served n below in let is = turn_above these k n less in omega (arith, was, is)
      by_order (inr most) = absurd (never_idle (f.before n from (omega (arith, most, other))))

  pub comes_no_later : next_of nodes served ≡ Some k → turn_of these k n ≤ turn_of these served n
  comes_no_later next = by (least_above work_at served) refl next
    where
      by : (o : Option ℕ) → least_above work_at served ≡ o → option_or o (least_above work_at 0) ≡ Some k → turn_of these k n ≤ turn_of these served n
      by (Some j) first is = passed_above (what_is_least work_at served k (first ∙ is))
      by None none is = passed_round (where_is_none work_at served none) (what_is_least work_at 0 k is)

-- where none is next, none has work
module _ (nodes : List NodeState) (n : ℕ) (from : 1 ≤ n) (to : n ≤ 232) where
  abbrev has_some : ℕ → Bool
  has_some node = has_work (node_among nodes node)

  pub none_works : (served : ℕ) → next_of nodes served ≡ None → has_work (node_among nodes n) ≡ false
  none_works served next = by (least_above has_some served) next
    where
      by : (o : Option ℕ) → option_or o (least_above has_some 0) ≡ None → has_work (node_among nodes n) ≡ false
      by (Some j) is = absurd (let no : Some j ≡ None = is in cc)
      by None is = (where_is_none has_some 0 is).all n from (omega (arith, to))

-- ---- what the host does next

pub next_in_turn : (h : HostState) (event : HostEvent) → h.requests.owes ≡ false → IsNext h event → May h event → IsInTurn h event
next_in_turn h event paid next may = next_is Is each h event next may
  where
    Is : HostEvent → Type 0
    Is e = May h e → IsInTurn h e

    later : (n : ℕ) (more : Bool) (payload : List ℕ) → id_after h.requests.last_id (Attempt n more payload) ≡ next_id h.requests.last_id
    later n more payload = ap (λ (b : Bool). if b then next_id h.requests.last_id else h.requests.last_id) (eq-eqb SEND_DATA SEND_DATA refl)

    each : SubmittedAre Is
    each = record {
      abort = λ may_it. absurd (let owes = may_it.1 in cc);
      front = λ may_it. Waited may_it.2 refl;
      starts = λ n plan more payload may_it. Serves n may_it.0.next refl (later n more payload);
      text = λ n payload may_it. Serves n may_it.0.next refl (later n false payload);
      segment = λ n more payload may_it. Serves n may_it.0.next refl (later n more payload);
      begins = λ n session command may_it. Opens n may_it.0.next refl refl;
      unkept = λ n may_it. Opens n may_it.0.next refl refl;
    }

-- ---- before the settling of a tick

pub request_over : (m : Machine) → AwaitsNone m → TieOf false m [] → IsOver (ends_of m.host.state m.outside.outer.chip.state) (unheard m.outside.outer)
request_over m awaits tie = by tie.tied
  where
    s : ChipState
    s = m.outside.outer.chip.state

    by : Tied false (ends_of m.host.state s) (unheard m.outside.outer) [] → IsOver (ends_of m.host.state s) (unheard m.outside.outer)
    by (Nowhere is) = Without is.none
    by (On_way u of fresh is) = absurd (let no = is.asked in cc)
    by (At_chip u of fresh is) =
        absurd (let yes : is_some s.sending ≡ true = ap (λ (o : Option Sending). is_some o) is.is_sending in let no = sends_nothing m awaits in let wrong : true ≡ false = sym yes ∙ no in cc)
    by (Called u of fresh is) = With_call u of is
