-- Commands by their numbers, once one has another outcome, and once there is one more.
use Rattle.std.proofs.Common.{◌≡◌, ℕ, zero, suc, ◌+◌, ◌≤◌, List, [], ◌∷◌, ◌++◌, length, map, Some, option_map, refl, ap, arith}
use Rattle.std.specs.Prelude.{slice_get}
use Rattle.zw_text.specs.declared.entry.Outcome.{Outcome}
use Rattle.host_keep.specs.Kept.{Taken, command_of}
use Rattle.host_model.specs.State.{Command, command_at, set_at, with_outcome}
use Rattle.host_model.specs.Holding.{taken_as}

-- a command with another outcome
abbrev pub changed : Outcome → Command → Command
changed outcome command = record command { outcome = outcome }

set_same : (commands : List Command) (at : ℕ) (outcome : Outcome) → slice_get (set_at commands at outcome) at ≡ option_map (changed outcome) (slice_get commands at)
set_same [] at outcome = refl
set_same (first ∷ rest) zero outcome = refl
set_same (first ∷ rest) (suc at) outcome = set_same rest at outcome

set_other : (commands : List Command) (at k : ℕ) (outcome : Outcome) → (k ≡ at → ⊥) → slice_get (set_at commands at outcome) k ≡ slice_get commands k
set_other [] at k outcome other = refl
set_other (first ∷ rest) zero zero outcome other = absurd (other refl)
set_other (first ∷ rest) zero (suc k) outcome other = refl
set_other (first ∷ rest) (suc at) zero outcome other = refl
set_other (first ∷ rest) (suc at) (suc k) outcome other = set_other rest at k outcome (λ e. other (ap suc e))

pub with_same : (commands : List Command) (number : ℕ) (outcome : Outcome) → command_at (with_outcome commands number outcome) number ≡ option_map (changed outcome) (command_at commands number)
with_same commands zero outcome = refl
with_same commands (suc at) outcome = set_same commands at outcome

pub with_other : (commands : List Command) (number other : ℕ) (outcome : Outcome) → (other ≡ number → ⊥) → command_at (with_outcome commands number outcome) other ≡ command_at commands other
with_other commands zero other outcome ne = refl
with_other commands (suc at) zero outcome ne = refl
with_other commands (suc at) (suc k) outcome ne = set_other commands at k outcome (λ e. ne (ap suc e))

-- ---- one more

pushed_other : (commands : List Command) (one : Command) (k : ℕ) → (k ≡ length commands → ⊥) → slice_get (commands ++ one ∷ []) k ≡ slice_get commands k
pushed_other [] one zero other = absurd (other refl)
pushed_other [] one (suc k) other = refl
pushed_other (first ∷ rest) one zero other = refl
pushed_other (first ∷ rest) one (suc k) other = pushed_other rest one k (λ e. other (ap suc e))

pub push_other : (commands : List Command) (one : Command) (number : ℕ) → (number ≡ length commands + 1 → ⊥) → command_at (commands ++ one ∷ []) number ≡ command_at commands number
push_other commands one zero other = refl
push_other commands one (suc k) other = pushed_other commands one k (λ e. other (omega (arith, e)))

got_within : (commands : List Command) (k : ℕ) (command : Command) → slice_get commands k ≡ Some command → k + 1 ≤ length commands
got_within [] k command e = cc
got_within (first ∷ rest) zero command e = omega arith
got_within (first ∷ rest) (suc k) command e = let h = got_within rest k command e in omega (arith, h)

-- what has a number is within
pub found_within : (commands : List Command) (number : ℕ) (command : Command) → command_at commands number ≡ Some command → number ≤ length commands
found_within commands zero command e = cc
found_within commands (suc k) command e = let h = got_within commands k command e in omega (arith, h)

-- ---- as they were taken

taken_set : (commands : List Command) (at : ℕ) (outcome : Outcome) → map taken_as (set_at commands at outcome) ≡ map taken_as commands
taken_set [] at outcome = refl
taken_set (first ∷ rest) zero outcome = refl
taken_set (first ∷ rest) (suc at) outcome = ap (λ (l : List Taken). taken_as first ∷ l) (taken_set rest at outcome)

pub taken_with : (commands : List Command) (number : ℕ) (outcome : Outcome) → map taken_as (with_outcome commands number outcome) ≡ map taken_as commands
taken_with commands zero outcome = refl
taken_with commands (suc at) outcome = taken_set commands at outcome

taken_get : (commands : List Command) (k : ℕ) → slice_get (map taken_as commands) k ≡ option_map taken_as (slice_get commands k)
taken_get [] k = refl
taken_get (first ∷ rest) zero = refl
taken_get (first ∷ rest) (suc k) = taken_get rest k

pub taken_at : (commands : List Command) (number : ℕ) → command_of (map taken_as commands) number ≡ option_map taken_as (command_at commands number)
taken_at commands zero = refl
taken_at commands (suc k) = taken_get commands k
