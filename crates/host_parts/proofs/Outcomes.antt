-- A command that becomes something, by its number.
use Rattle.std.proofs.Common.{◌≡◌, ◌≤◌, ◌<◌, ◌-◌, ℕ, zero, suc, List, [], ◌∷◌, length, slice_set, slice_index_or, refl, ap, arith}
use Rattle.zw_text.specs.declared.entry.Outcome.{Outcome}
use Rattle.host_model.specs.State.{Command, set_at, with_outcome}

-- past the end nothing changes
pub set_past : (commands : List Command) (at : ℕ) (outcome : Outcome) → length commands ≤ at → set_at commands at outcome ≡ commands
set_past [] at outcome past = refl
set_past (command ∷ more) zero outcome past = absurd (omega arith)
set_past (command ∷ more) (suc at) outcome past = ap (λ (t : List Command). command ∷ t) (set_past more at outcome (omega arith))

-- the place is set to the command that has the outcome
pub set_one : (commands : List Command) (at : ℕ) (outcome : Outcome) (command : Command) → at < length commands → command ≡ slice_index_or commands at command
    → slice_set commands at (record command { outcome = outcome }) ≡ set_at commands at outcome
set_one [] at outcome command below stood = absurd (omega arith)
set_one (first ∷ more) zero outcome command below stood =
    let same : command ≡ first = stood in ap (λ (c : Command). let one : Command = record c { outcome = outcome } in one ∷ more) same
set_one (first ∷ more) (suc at) outcome command below stood = ap (λ (t : List Command). first ∷ t) (set_one more at outcome command (omega arith) stood)

-- a number above 0 is one more than its place
pub with_number : (commands : List Command) (number : ℕ) (outcome : Outcome) → 1 ≤ number → with_outcome commands number outcome ≡ set_at commands (number - 1) outcome
with_number commands zero outcome from = absurd (omega arith)
with_number commands (suc at) outcome from = let e : at ≡ suc at - 1 = omega arith in ap (λ (k : ℕ). set_at commands k outcome) e
