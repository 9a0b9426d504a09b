-- As many commands wait as waited before and were accepted since, or fewer: one that waits now waited then, or was accepted since.
use Rattle.std.proofs.Common.{◌≡◌, ◌≤◌, ℕ, ◌+◌, Bool, true, false, List, [], ◌∷◌, ◌++◌, length, length-append, if◌then◌else◌, refl, ap, ◌∙◌, subst, arith}
use Rattle.std.proofs.lemmas.List.Concat.{flat_map-append}
use Rattle.std.proofs.lemmas.List.Elements.{filter-append}
use Rattle.std.specs.Prelude.{filter}
use Rattle.zw_text.specs.declared.entry.Entry.{Entry}
use Rattle.zw_text.specs.declared.entry.Entry.TheVariants as entry
use Rattle.zw_text.specs.declared.entry.Ended.{Ended}
use Rattle.zw_text.specs.declared.entry.Ended.TheVariants as ended
use Rattle.zw_text.specs.declared.entry.Outcome.TheVariants.{Begun}
use Rattle.zw_text.specs.Transcript.{carried, carried_at, ended_at, endings, last_outcome, outcome, outcome_begun, outcome_of, shown}
use Rattle.law_transcript.specs.Commands.{is_waiting}
use Rattle.law_time.specs.Stretches.{accepted_for}
use Rattle.proof_host.specs.Laws.{number_for, numbers_for, waiting_for}

-- ---- one that waits waited before
ended_never : (how : Ended) (more : List Ended) → is_waiting (last_outcome (outcome_of how) more) ≡ true → ⊥
ended_never how (next ∷ more) is = ended_never next more is
ended_never ended.Success [] is = absurd cc
ended_never ended.Fail [] is = absurd cc
ended_never ended.NoSupport [] is = absurd cc
ended_never ended.Unanswered [] is = absurd cc
ended_never ended.Cancelled [] is = absurd cc

begun_never : (more : List Ended) → is_waiting (last_outcome Begun more) ≡ true → ⊥
begun_never [] is = absurd cc
begun_never (how ∷ more) is = ended_never how more is

waited_then : (sessions later : List ℕ) (ends more : List Ended) → is_waiting (last_outcome (outcome_begun (sessions ++ later)) (ends ++ more)) ≡ true → is_waiting (last_outcome (outcome_begun sessions) ends) ≡ true
waited_then [] later [] more is = refl
waited_then (session ∷ sessions) later [] more is = absurd (begun_never more is)
waited_then sessions later (how ∷ ends) more is = absurd (ended_never how (ends ++ more) is)

waits_still : (command : ℕ) (past told : List Entry) → is_waiting (outcome command (past ++ told)) ≡ true → is_waiting (outcome command past) ≡ true
waits_still command past told is =
    waited_then (carried command past) (carried command told) (endings command past) (endings command told)
    (subst (λ (l : List Ended). is_waiting (last_outcome (outcome_begun (carried command past ++ carried command told)) l) ≡ true) (flat_map-append (ended_at command) past told)
    (subst (λ (l : List ℕ). is_waiting (last_outcome (outcome_begun l) (endings command (past ++ told))) ≡ true) (flat_map-append (carried_at command) past told) is))

-- ---- so they are no more
fewer : (now before : ℕ → Bool) → ((k : ℕ) → now k ≡ true → before k ≡ true) → (numbers : List ℕ) → length (filter now numbers) ≤ length (filter before numbers)
fewer now before all [] = omega arith
fewer now before all (k ∷ numbers) = by (now k) (before k) (all k) (fewer now before all numbers)
  where
    by : (a b : Bool) → (a ≡ true → b ≡ true) → length (filter now numbers) ≤ length (filter before numbers) → length (if a then k ∷ filter now numbers else filter now numbers) ≤ length (if b then k ∷ filter before numbers else filter before numbers)
    by true true is rest = omega (arith, rest)
    by true false is rest = absurd (let wrong : false ≡ true = is refl in cc)
    by false true is rest = omega (arith, rest)
    by false false is rest = rest

among : (keeps : ℕ → Bool) (numbers : List ℕ) → length (filter keeps numbers) ≤ length numbers
among keeps [] = omega arith
among keeps (k ∷ numbers) = by (keeps k) (among keeps numbers)
  where
    by : (a : Bool) → length (filter keeps numbers) ≤ length numbers → length (if a then k ∷ filter keeps numbers else filter keeps numbers) ≤ length (k ∷ numbers)
    by true rest = omega (arith, rest)
    by false rest = omega (arith, rest)

number_accepted : (n : ℕ) (e : Entry) → number_for n e ≡ accepted_for n e
number_accepted n (entry.Accepted command node) = refl
number_accepted n e = refl

numbers_accepted : (n : ℕ) (told : List Entry) → numbers_for n told ≡ shown (accepted_for n) told
numbers_accepted n [] = refl
numbers_accepted n (e ∷ told) = ap (λ (l : List ℕ). l ++ numbers_for n told) (number_accepted n e) ∙ ap (λ (l : List ℕ). accepted_for n e ++ l) (numbers_accepted n told)

pub waits_fewer : (n : ℕ) (past told : List Entry) → length (waiting_for n (past ++ told)) ≤ length (waiting_for n past) + length (shown (accepted_for n) told)
waits_fewer n past told =
    let now : ℕ → Bool = λ number. is_waiting (outcome number (past ++ told)) in
    let apart : numbers_for n (past ++ told) ≡ numbers_for n past ++ numbers_for n told = flat_map-append (number_for n) past told in
    let parts = ap (λ (l : List ℕ). length (filter now l)) apart ∙ ap (λ (l : List ℕ). length l) (filter-append now (numbers_for n past) (numbers_for n told)) ∙ length-append (filter now (numbers_for n past)) (filter now (numbers_for n told)) in
    let first = fewer now (λ number. is_waiting (outcome number past)) (λ k is. waits_still k past told is) (numbers_for n past) in
    let later = among now (numbers_for n told) in
    let same = ap (λ (l : List ℕ). length l) (numbers_accepted n told) in
    omega (arith, parts, first, later, same)
