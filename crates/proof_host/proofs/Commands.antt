-- What the table of commands says of a number, where a command is other or new.
use Rattle.std.proofs.Common.{◌≡◌, ℕ, zero, suc, ◌+◌, List, [], ◌∷◌, ◌++◌, length, Option, Some, None, refl, sym, ap, subst, ◌∙◌, arith}
use Rattle.std.specs.Prelude.{slice_get}
use Rattle.zw_text.specs.declared.entry.Outcome.{Outcome}
use Rattle.zw_text.specs.declared.entry.Outcome.TheVariants.{Waiting, Begun, Success, Fail, NoSupport, Unanswered, Cancelled}
use Rattle.law_transcript.specs.Sessions.{IsFinal}
use Rattle.host_model.specs.host_keep.Kept.{Taken}
use Rattle.host_model.specs.State.{Command, command_at, set_at, with_outcome}
use Rattle.proof_host.specs.Laws.{IsUnderWay}
use Rattle.proof_host.specs.Tables.{outcome_by, outcome_in, nodes_by, recorded, taken_at, taken_by}

-- ---- a command of another outcome

set_other : (commands : List Command) (at : ℕ) (outcome : Outcome) (k : ℕ) → (k ≡ at → ⊥) → outcome_by (slice_get (set_at commands at outcome) k) ≡ outcome_by (slice_get commands k)
set_other [] at outcome k other = refl
set_other (first ∷ rest) zero outcome zero other = absurd (other refl)
set_other (first ∷ rest) zero outcome (suc k) other = refl
set_other (first ∷ rest) (suc at) outcome zero other = refl
set_other (first ∷ rest) (suc at) outcome (suc k) other = set_other rest at outcome k (λ e. other (ap suc e))

pub outcome_other : (commands : List Command) (c : ℕ) (outcome : Outcome) (number : ℕ) → (number ≡ c → ⊥) → outcome_in (with_outcome commands c outcome) number ≡ outcome_in commands number
outcome_other commands zero outcome number other = refl
outcome_other commands (suc at) outcome zero other = refl
outcome_other commands (suc at) outcome (suc k) other = set_other commands at outcome k (λ e. other (ap suc e))

pub set_same : (commands : List Command) (at : ℕ) (outcome : Outcome) (command : Command) → slice_get commands at ≡ Some command → outcome_by (slice_get (set_at commands at outcome) at) ≡ outcome
set_same [] at outcome command e = cc
set_same (first ∷ rest) zero outcome command e = refl
set_same (first ∷ rest) (suc at) outcome command e = set_same rest at outcome command e

pub outcome_same : (commands : List Command) (c : ℕ) (outcome : Outcome) (command : Command) → command_at commands c ≡ Some command → outcome_in (with_outcome commands c outcome) c ≡ outcome
outcome_same commands zero outcome command e = cc
outcome_same commands (suc at) outcome command e = set_same commands at outcome command e

set_nodes : (commands : List Command) (at : ℕ) (outcome : Outcome) (k : ℕ) → nodes_by (slice_get (set_at commands at outcome) k) ≡ nodes_by (slice_get commands k)
set_nodes [] at outcome k = refl
set_nodes (first ∷ rest) zero outcome zero = refl
set_nodes (first ∷ rest) zero outcome (suc k) = refl
set_nodes (first ∷ rest) (suc at) outcome zero = refl
set_nodes (first ∷ rest) (suc at) outcome (suc k) = set_nodes rest at outcome k

pub nodes_set : (commands : List Command) (c : ℕ) (outcome : Outcome) (number : ℕ) → nodes_by (command_at (with_outcome commands c outcome) number) ≡ nodes_by (command_at commands number)
nodes_set commands zero outcome number = refl
nodes_set commands (suc at) outcome zero = refl
nodes_set commands (suc at) outcome (suc k) = set_nodes commands at outcome k

pub set_taken : (commands : List Command) (at : ℕ) (outcome : Outcome) (k : ℕ) → taken_by (slice_get (set_at commands at outcome) k) ≡ taken_by (slice_get commands k)
set_taken [] at outcome k = refl
set_taken (first ∷ rest) zero outcome zero = refl
set_taken (first ∷ rest) zero outcome (suc k) = refl
set_taken (first ∷ rest) (suc at) outcome zero = refl
set_taken (first ∷ rest) (suc at) outcome (suc k) = set_taken rest at outcome k

pub taken_set : (commands : List Command) (c : ℕ) (outcome : Outcome) (number : ℕ) → taken_at (with_outcome commands c outcome) number ≡ taken_at commands number
taken_set commands zero outcome number = refl
taken_set commands (suc at) outcome zero = refl
taken_set commands (suc at) outcome (suc k) = set_taken commands at outcome k

pub length_set_at : (commands : List Command) (at : ℕ) (outcome : Outcome) → length (set_at commands at outcome) ≡ length commands
length_set_at [] at outcome = refl
length_set_at (first ∷ rest) zero outcome = refl
length_set_at (first ∷ rest) (suc at) outcome = ap suc (length_set_at rest at outcome)

pub length-outcome : (commands : List Command) (c : ℕ) (outcome : Outcome) → length (with_outcome commands c outcome) ≡ length commands
length-outcome commands zero outcome = refl
length-outcome commands (suc at) outcome = length_set_at commands at outcome

-- ---- one more command

push_outcome : (commands : List Command) (one : Command) → one.outcome ≡ Waiting → (k : ℕ) → outcome_by (slice_get (commands ++ one ∷ []) k) ≡ outcome_by (slice_get commands k)
push_outcome [] one waits zero = waits
push_outcome [] one waits (suc k) = refl
push_outcome (first ∷ rest) one waits zero = refl
push_outcome (first ∷ rest) one waits (suc k) = push_outcome rest one waits k

pub outcome_pushed : (commands : List Command) (one : Command) → one.outcome ≡ Waiting → (number : ℕ) → outcome_in (commands ++ one ∷ []) number ≡ outcome_in commands number
outcome_pushed commands one waits zero = refl
outcome_pushed commands one waits (suc k) = push_outcome commands one waits k

push_nodes : (commands : List Command) (one : Command) (k : ℕ) → (k ≡ length commands → ⊥) → nodes_by (slice_get (commands ++ one ∷ []) k) ≡ nodes_by (slice_get commands k)
push_nodes [] one zero other = absurd (other refl)
push_nodes [] one (suc k) other = refl
push_nodes (first ∷ rest) one zero other = refl
push_nodes (first ∷ rest) one (suc k) other = push_nodes rest one k (λ e. other (ap suc e))

pub nodes_pushed : (commands : List Command) (one : Command) (number : ℕ) → (number ≡ length commands + 1 → ⊥) → nodes_by (command_at (commands ++ one ∷ []) number) ≡ nodes_by (command_at commands number)
nodes_pushed commands one zero other = refl
nodes_pushed commands one (suc k) other = push_nodes commands one k (λ e. other (omega arith))

push_taken : (commands : List Command) (one : Command) (k : ℕ) → (k ≡ length commands → ⊥) → taken_by (slice_get (commands ++ one ∷ []) k) ≡ taken_by (slice_get commands k)
push_taken [] one zero other = absurd (other refl)
push_taken [] one (suc k) other = refl
push_taken (first ∷ rest) one zero other = refl
push_taken (first ∷ rest) one (suc k) other = push_taken rest one k (λ e. other (ap suc e))

pub taken_pushed : (commands : List Command) (one : Command) (number : ℕ) → (number ≡ length commands + 1 → ⊥) → taken_at (commands ++ one ∷ []) number ≡ taken_at commands number
taken_pushed commands one zero other = refl
taken_pushed commands one (suc k) other = push_taken commands one k (λ e. other (omega arith))

last_nodes : (commands : List Command) (one : Command) → nodes_by (slice_get (commands ++ one ∷ []) (length commands)) ≡ one.order.node ∷ []
last_nodes [] one = refl
last_nodes (first ∷ rest) one = last_nodes rest one

past_nodes : (commands : List Command) → nodes_by (slice_get commands (length commands)) ≡ []
past_nodes [] = refl
past_nodes (first ∷ rest) = past_nodes rest

pub nodes_last : (commands : List Command) (one : Command) → nodes_by (command_at (commands ++ one ∷ []) (length commands + 1)) ≡ one.order.node ∷ []
nodes_last commands one = let e : length commands + 1 ≡ suc (length commands) = omega arith in ap (λ k. nodes_by (command_at (commands ++ one ∷ []) k)) e ∙ last_nodes commands one

pub nodes_past : (commands : List Command) → nodes_by (command_at commands (length commands + 1)) ≡ []
nodes_past commands = let e : length commands + 1 ≡ suc (length commands) = omega arith in ap (λ k. nodes_by (command_at commands k)) e ∙ past_nodes commands

-- ---- outcomes

-- what is recorded of an outcome tells whether it waits, is under way or is final
pub waits_so : (a b : Outcome) → recorded a ≡ recorded b → b ≡ Waiting → a ≡ Waiting
waits_so Waiting b e w = refl
waits_so Begun b e w = cc
waits_so Success b e w = cc
waits_so Fail b e w = cc
waits_so NoSupport b e w = cc
waits_so Unanswered b e w = cc
waits_so Cancelled b e w = cc

final_recorded : (a : Outcome) → IsFinal a → IsFinal (recorded a)
final_recorded Success f = tt
final_recorded Fail f = tt
final_recorded NoSupport f = tt
final_recorded Waiting f = absurd f
final_recorded Begun f = absurd f
final_recorded Unanswered f = absurd f
final_recorded Cancelled f = absurd f

recorded_final : (a : Outcome) → IsFinal (recorded a) → IsFinal a
recorded_final Success f = tt
recorded_final Fail f = tt
recorded_final NoSupport f = tt
recorded_final Waiting f = absurd f
recorded_final Begun f = absurd f
recorded_final Unanswered f = absurd f
recorded_final Cancelled f = absurd f

pub final_so : (a b : Outcome) → recorded a ≡ recorded b → IsFinal b → IsFinal a
final_so a b e f = recorded_final a (subst IsFinal (sym e) (final_recorded b f))

under_way_recorded : (a : Outcome) → IsUnderWay a → recorded a ≡ Begun
under_way_recorded Begun u = refl
under_way_recorded Unanswered u = refl
under_way_recorded Waiting u = absurd u
under_way_recorded Success u = absurd u
under_way_recorded Fail u = absurd u
under_way_recorded NoSupport u = absurd u
under_way_recorded Cancelled u = absurd u

recorded_under_way : (a : Outcome) → recorded a ≡ Begun → IsUnderWay a
recorded_under_way Begun e = tt
recorded_under_way Unanswered e = tt
recorded_under_way Waiting e = cc
recorded_under_way Success e = cc
recorded_under_way Fail e = cc
recorded_under_way NoSupport e = cc
recorded_under_way Cancelled e = cc

pub under_way_so : (a b : Outcome) → recorded a ≡ recorded b → IsUnderWay b → IsUnderWay a
under_way_so a b e u = recorded_under_way a (e ∙ under_way_recorded b u)

past_outcome : (commands : List Command) → outcome_by (slice_get commands (length commands)) ≡ Waiting
past_outcome [] = refl
past_outcome (first ∷ rest) = past_outcome rest

pub outcome_past : (commands : List Command) → outcome_in commands (length commands + 1) ≡ Waiting
outcome_past commands = let e : length commands + 1 ≡ suc (length commands) = omega arith in ap (λ k. outcome_in commands k) e ∙ past_outcome commands

-- the node of a command is that of its order
nodes_taken : Option Taken → List ℕ
nodes_taken None = []
nodes_taken (Some taken) = taken.order.node ∷ []

nodes_from : (one : Option Command) → nodes_by one ≡ nodes_taken (taken_by one)
unfolding nodes_taken
nodes_from None = refl
nodes_from (Some command) = refl

pub nodes_alike : (one other : Option Command) → taken_by one ≡ taken_by other → nodes_by one ≡ nodes_by other
nodes_alike one other e = nodes_from one ∙ ap nodes_taken e ∙ sym (nodes_from other)
