-- At most as many nodes are marked as are listed; a joined node that has a command is at work; and one that waits well waits for a series, where it must.
use Rattle.std.proofs.Common.{◌≡◌, ◌⊎◌, ℕ, zero, suc, ◌+◌, ◌<◌, ◌≤◌, ◌==◌, ◌&&◌, ◌||◌, not, nat_le, inl, inr, Bool, true, false, if◌then◌else◌, List, [], ◌∷◌, ◌++◌, length, refl, sym, ap, ◌∙◌, arith}
use Rattle.std.proofs.lemmas.Bool.{eqb-true, false≢true, leb-true, ne_eqb}
use Rattle.std.specs.Prelude.{filter}
use Rattle.std.specs.List.{flat_map, list_all, list_any}
use Rattle.chip_sim.specs.Nodes.{is_marked}
use Rattle.zw_text.specs.declared.entry.Entry.{Entry}
use Rattle.zw_text.specs.Transcript.{joined, lines_run}
use Rattle.law_wire.specs.law_transcript.Commands.{waiting}
use Rattle.law_wire.specs.law_transcript.Lists.{Has}
use Rattle.law_wire.specs.law_transcript.Nodes.{is_joined}
use Rattle.law_time.specs.Interviews.{listens}
use Rattle.law_time.specs.Requests.{are_none}
use Rattle.law_time.specs.Sessions.{is_open}
use Rattle.law_time.specs.Stretches.{commands_in, is_quiet, is_quiet_line, is_woken_so, knows_node, woken_by, workers}
use Rattle.proof_rests.specs.proof_attempts.proof_host.device_sim.State.{State}
use Rattle.proof_rests.specs.proof_requests.host_model.Did.{one_if}
use Rattle.proof_in_time.specs.proof_answered.Turns.{marked_to}
use Rattle.proof_ready.specs.Ready.{marks_from, marks_of}
use Rattle.law_time.specs.Calm.{is_not_stuck, is_series_to_come}
use Rattle.proof_ready.proofs.Marks.{marked_is}
use Rattle.proof_ready.proofs.Reading.{of_one}

-- ---- how many are marked

either_counts : (a b : Bool) → one_if (a || b) ≤ one_if (a || false) + one_if b
either_counts true b = omega arith
either_counts false b = omega arith

both_count : (node : ℕ) (nodes : List ℕ) (number count n : ℕ) → marked_to (marks_from (node ∷ nodes) number count) n ≤ marked_to (marks_from (node ∷ []) number count) n + marked_to (marks_from nodes number count) n
both_count node nodes number zero n = omega arith
both_count node nodes number (suc count) zero = either_counts (node == number) (list_any (λ one. one == number) nodes)
both_count node nodes number (suc count) (suc n) =
    let here = either_counts (node == number) (list_any (λ one. one == number) nodes) in
    let later = both_count node nodes (suc number) count n in
    omega (arith, here, later)

none_counts : (number count n : ℕ) → marked_to (marks_from [] number count) n ≡ 0
none_counts number zero n = refl
none_counts number (suc count) zero = refl
none_counts number (suc count) (suc n) = let later = none_counts (suc number) count n in omega (arith, later)

-- none of those behind it
past_counts : (node number count n : ℕ) → node < number → marked_to (marks_from (node ∷ []) number count) n ≡ 0
past_counts node number zero n before = refl
past_counts node number (suc count) zero before = ap (λ (b : Bool). one_if (b || false)) (ne_eqb node number (λ e. absurd (omega (arith, e, before))))
past_counts node number (suc count) (suc n) before =
    let here : one_if ((node == number) || false) ≡ 0 = ap (λ (b : Bool). one_if (b || false)) (ne_eqb node number (λ e. absurd (omega (arith, e, before)))) in
    let later = past_counts node (suc number) count n (omega (arith, before)) in
    omega (arith, here, later)

one_most : (b : Bool) → one_if (b || false) ≤ 1
one_most true = omega arith
one_most false = omega arith

one_counts : (node number count n : ℕ) → marked_to (marks_from (node ∷ []) number count) n ≤ 1
one_counts node number zero n = omega arith
one_counts node number (suc count) zero = one_most (node == number)
one_counts node number (suc count) (suc n) = by (node == number) refl (one_counts node (suc number) count n)
  where
    by : (b : Bool) → (node == number) ≡ b → marked_to (marks_from (node ∷ []) (suc number) count) n ≤ 1 → one_if ((node == number) || false) + marked_to (marks_from (node ∷ []) (suc number) count) n ≤ 1
    by true is later =
        let here : one_if ((node == number) || false) ≡ 1 = ap (λ (b : Bool). one_if (b || false)) is in
        let same : node ≡ number = eqb-true node number is in
        let none = past_counts node (suc number) count n (omega (arith, same)) in
        omega (arith, here, none)
    by false other later =
        let here : one_if ((node == number) || false) ≡ 0 = ap (λ (b : Bool). one_if (b || false)) other in
        omega (arith, here, later)

listed_count : (nodes : List ℕ) (number count n : ℕ) → marked_to (marks_from nodes number count) n ≤ length nodes
listed_count [] number count n = let none = none_counts number count n in omega (arith, none)
listed_count (node ∷ nodes) number count n =
    let both = both_count node nodes number count n in
    let one = one_counts node number count n in
    let more = listed_count nodes number count n in
    omega (arith, both, one, more)

pub marked_most : (nodes : List ℕ) → marked_to (marks_of nodes) 232 ≤ length nodes
unfolding marks_of
marked_most nodes = listed_count nodes 0 233 232

second_of : (a b c d : Bool) → a && b && c && d ≡ true → b ≡ true
second_of true true c d all = refl
second_of true false c d all = absurd (let bad : false ≡ true = all in cc)
second_of false b c d all = absurd (let bad : false ≡ true = all in cc)

pub few_work : (key : List ℕ) (devices : List State) (past stretch : List Entry) → is_quiet key devices past stretch ≡ true → marked_to (marks_of (workers past stretch)) 232 ≤ 16
few_work key devices past stretch quiet =
    let most = marked_most (workers past stretch) in
    let few = leb-true (length (workers past stretch)) 16
    (second_of (list_all is_quiet_line (lines_run stretch)) (nat_le (length (workers past stretch)) 16) (list_all (λ node. knows_node key devices past node) (workers past stretch))
    (list_all (is_woken_so past stretch) (joined past ++ flat_map woken_by (lines_run stretch))) quiet) in
    omega (arith, most, few)

-- ---- who is at work

into_filter : (so : ℕ → Bool) (l : List ℕ) (n : ℕ) → so n ≡ true → list_any (λ one. one == n) l ≡ true → list_any (λ one. one == n) (filter so l) ≡ true
into_filter so [] n is has = absurd (false≢true has)
into_filter so (one ∷ more) n is has = pick (so one) (one == n) refl refl has (into_filter so more n is)
  where
    pick : (b c : Bool) → so one ≡ b → (one == n) ≡ c → (one == n) || list_any (λ k. k == n) more ≡ true → (list_any (λ k. k == n) more ≡ true → list_any (λ k. k == n) (filter so more) ≡ true)
        → list_any (λ k. k == n) (if b then one ∷ filter so more else filter so more) ≡ true
    pick true true are same has rest = ap (λ (b : Bool). b || list_any (λ k. k == n) (filter so more)) same
    pick true false are other has rest =
        ap (λ (b : Bool). b || list_any (λ k. k == n) (filter so more)) other ∙ rest (sym (ap (λ (b : Bool). b || list_any (λ k. k == n) more) other) ∙ has)
    pick false true are same has rest = absurd (false≢true (sym are ∙ (ap so (eqb-true one n same) ∙ is)))
    pick false false are other has rest = rest (sym (ap (λ (b : Bool). b || list_any (λ k. k == n) more) other) ∙ has)

has_some : (l : List ℕ) (command : ℕ) → Has l command → are_none l ≡ false
has_some [] command has = absurd has
has_some (first ∷ l) command has = refl

pub works : (past stretch : List Entry) (n command : ℕ) → n ≤ 232 → is_joined past n ≡ true → Has (commands_in past stretch n) command → is_marked (marks_of (workers past stretch)) n ≡ true
works past stretch n command within is has =
    marked_is (workers past stretch) n within
    ∙ into_filter (λ node. not (are_none (commands_in past stretch node))) (joined past) n (ap not (has_some (commands_in past stretch n) command has)) is

-- ---- where it waits

or_last : (a b c d : Bool) → a || b || c || d ≡ true → a ≡ false → b ≡ false → c ≡ false → d ≡ true
or_last true b c d all none_a none_b none_c = absurd (false≢true (sym none_a))
or_last false true c d all none_a none_b none_c = absurd (false≢true (sym none_b))
or_last false false true d all none_a none_b none_c = absurd (false≢true (sym none_c))
or_last false false false d all none_a none_b none_c = all

pub comes_or_closed : (past : List Entry) (now n command : ℕ) → list_all (is_not_stuck past now) (joined past) ≡ true → is_joined past n ≡ true → listens n past ≡ true → Has (waiting n past) command
    → (is_open n past ≡ false) ⊎ (is_series_to_come past now n ≡ true)
comes_or_closed past now n command well is hears has = by (is_open n past) refl
  where
    by : (b : Bool) → is_open n past ≡ b → (is_open n past ≡ false) ⊎ (is_series_to_come past now n ≡ true)
    by false closed = inl closed
    by true opened =
        inr
        (or_last (not (listens n past)) (are_none (waiting n past)) (not (is_open n past)) (is_series_to_come past now n) (of_one (is_not_stuck past now) (joined past) n well is) (ap not hears)
        (has_some (waiting n past) command has) (ap not opened))
