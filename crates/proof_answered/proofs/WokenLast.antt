-- The lines of a node that is woken once, after its orders: so it is of each part of them, and no order stands behind its `wake` line.
use Rattle.std.proofs.Common.{◌≡◌, ℕ, true, false, List, [], ◌∷◌, ◌++◌, refl, ap, ◌∙◌, subst}
use Rattle.std.proofs.lemmas.List.Concat.{flat_map-append}
use Rattle.std.specs.List.{flat_map}
use Rattle.zw_text.specs.declared.line.Line.{Line}
use Rattle.zw_text.specs.declared.entry.Entry.{Entry}
use Rattle.zw_text.specs.Transcript.{line_of, lines_run}
use Rattle.zw_text.proofs.Views.{shown-append}
use Rattle.law_time.specs.Stretches.{Turn, Orders, Wakes, turn_of, turns, wakes_last, wakes_never}
use Rattle.proof_answered.specs.Sleepers.{wakes_at_most_last}

never_so : (ts : List Turn) → wakes_never ts ≡ true → wakes_at_most_last ts ≡ true
never_so [] never = refl
never_so (Wakes ∷ more) never = absurd (let wrong : false ≡ true = never in cc)
never_so (Orders ∷ more) never = never_so more never

pub last_so : (ts : List Turn) → wakes_last ts ≡ true → wakes_at_most_last ts ≡ true
last_so [] last = absurd (let wrong : false ≡ true = last in cc)
last_so (Wakes ∷ []) last = refl
last_so (Wakes ∷ one ∷ more) last = absurd (let wrong : false ≡ true = last in cc)
last_so (Orders ∷ more) last = last_so more last

-- each first part of them
first_part : (ts more : List Turn) → wakes_at_most_last (ts ++ more) ≡ true → wakes_at_most_last ts ≡ true
first_part [] more is = refl
first_part (Orders ∷ ts) more is = first_part ts more is
first_part (Wakes ∷ []) more is = refl
first_part (Wakes ∷ one ∷ ts) more is = absurd (let wrong : false ≡ true = is in cc)

-- what stands before another one wakes it not
before_one : (ts : List Turn) (one : Turn) (more : List Turn) → wakes_at_most_last (ts ++ one ∷ more) ≡ true → wakes_never ts ≡ true
before_one [] one more is = refl
before_one (Orders ∷ ts) one more is = before_one ts one more is
before_one (Wakes ∷ []) one more is = absurd (let wrong : false ≡ true = is in cc)
before_one (Wakes ∷ other ∷ ts) one more is = absurd (let wrong : false ≡ true = is in cc)

pub turns_both : (n : ℕ) (past told : List Entry) → turns n (past ++ told) ≡ turns n past ++ turns n told
turns_both n past told = ap (λ (ls : List Line). flat ls) (shown-append line_of past told) ∙ flat_map-append (turn_of n) (lines_run past) (lines_run told)
  where
    flat : List Line → List Turn
    flat ls = flat_map (turn_of n) ls

pub woken_before : (n : ℕ) (past told : List Entry) → wakes_at_most_last (turns n (past ++ told)) ≡ true → wakes_at_most_last (turns n past) ≡ true
woken_before n past told is = first_part (turns n past) (turns n told) (subst (λ (ts : List Turn). wakes_at_most_last ts ≡ true) (turns_both n past told) is)

-- a line of the node is said: it was not woken before
pub unwoken_before : (n : ℕ) (past told : List Entry) (one : Turn) (more : List Turn) → turns n told ≡ one ∷ more → wakes_at_most_last (turns n (past ++ told)) ≡ true → wakes_never (turns n past) ≡ true
unwoken_before n past told one more are is =
    before_one (turns n past) one more (subst (λ (ts : List Turn). wakes_at_most_last (turns n past ++ ts) ≡ true) are (subst (λ (ts : List Turn). wakes_at_most_last ts ≡ true) (turns_both n past told) is))

pub never_woken : (n : ℕ) (stretch : List Entry) → wakes_never (turns n stretch) ≡ true → wakes_at_most_last (turns n stretch) ≡ true
never_woken n stretch never = never_so (turns n stretch) never
