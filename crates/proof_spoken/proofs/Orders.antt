-- No event but the acceptance of an order changes what the table has of orders, and that adds one.
use Rattle.std.proofs.Common.{◌≡◌, ℕ, zero, suc, ◌+◌, List, [], ◌∷◌, ◌++◌, length, Some, refl, sym, ap, subst, ◌∙◌, arith}
use Rattle.std.specs.Prelude.{slice_get}
use Rattle.zw_text.specs.declared.entry.Outcome.{Outcome}
use Rattle.host_keep.specs.Kept.{Taken}
use Rattle.proof_world.specs.host_model.State.{HostState, Command, set_at, with_outcome}
use Rattle.proof_world.specs.host_model.After.{after}
use Rattle.proof_world.specs.host_model.Events.{HostEvent, Accepts, Joins, Interviews, Hears_value}
use Rattle.proof_world.proofs.Numbered.{last_of}
use Rattle.proof_once.specs.proof_host.Facts.{StartsAs}
use Rattle.proof_once.specs.proof_host.Tables.{taken_at, taken_by}
use Rattle.proof_once.proofs.Commands.{set_taken, length_set_at}
use Rattle.proof_spoken.proofs.Keeping.{Keeping, each_kept}

-- ---- the same orders

-- there are as many commands, and each has its order and its carriage
pub record SameOrders (old new : List Command) : Type 0 where
  pub count : length new ≡ length old
  pub taken : (number : ℕ) → taken_at new number ≡ taken_at old number

pub same_orders : (commands : List Command) → SameOrders commands commands
same_orders commands = record { count = refl; taken = λ number. refl }

pub then_same : (a b c : List Command) → SameOrders a b → SameOrders b c → SameOrders a c
then_same a b c first later = record { count = later.count ∙ first.count; taken = λ number. later.taken number ∙ first.taken number }

by_table : (old new : List Command) → new ≡ old → SameOrders old new
by_table old new e = subst (λ (l : List Command). SameOrders old l) (sym e) (same_orders old)

outcome_same : (commands : List Command) (number : ℕ) (outcome : Outcome) → SameOrders commands (with_outcome commands number outcome)
outcome_same commands zero outcome = same_orders commands
outcome_same commands (suc at) outcome = record { count = length_set_at commands at outcome; taken = taken }
  where
    taken : (number : ℕ) → taken_at (set_at commands at outcome) number ≡ taken_at commands number
    taken zero = refl
    taken (suc k) = set_taken commands at outcome k

-- ---- events of a host

-- it accepts no order
abbrev pub IsNoOrder : HostEvent → Type 0
IsNoOrder (Accepts order carriage) = ⊥
IsNoOrder event = Unit {0}

abbrev pub Keeps : HostState → HostState → Type 0
Keeps old new = SameOrders old.commands new.commands

keeping : Keeping Keeps
keeping = record {
  still = λ old new nodes commands store keys served. by_table old.commands new.commands commands;
  both = λ a b c. then_same a.commands b.commands c.commands;
  node = λ h n event of. same_orders h.commands;
  outcome = λ h command how. outcome_same h.commands command how;
}

pub event_kept : (h : HostState) (event : HostEvent) → IsNoOrder event → Keeps h (after h event)
event_kept h (Accepts order carriage) none = absurd none
event_kept h (Joins n) none = same_orders h.commands
event_kept h (Interviews n listens classes update) none = same_orders h.commands
event_kept h (Hears_value n setting) none = same_orders h.commands
event_kept h event none = each_kept Keeps keeping (λ h n. same_orders h.commands) (λ h n settings. same_orders h.commands) h event tt

-- ---- a host that starts again

pub restart_kept : (old new : HostState) → StartsAs old new → Keeps old new
restart_kept old new starts = record { count = starts.count; taken = starts.taken }

-- ---- one order more

prefix_at : (commands more : List Command) (k : ℕ) (taken : Taken) → taken_by (slice_get commands k) ≡ Some taken → taken_by (slice_get (commands ++ more) k) ≡ Some taken
prefix_at [] more k taken e = absurd (grind arith)
prefix_at (first ∷ rest) more zero taken e = e
prefix_at (first ∷ rest) more (suc k) taken e = prefix_at rest more k taken e

pub push_stays : (commands : List Command) (one : Command) (number : ℕ) (taken : Taken) → taken_at commands number ≡ Some taken → taken_at (commands ++ one ∷ []) number ≡ Some taken
push_stays commands one zero taken e = absurd (grind arith)
push_stays commands one (suc k) taken e = prefix_at commands (one ∷ []) k taken e

pub push_is : (commands : List Command) (one : Command) → taken_at (commands ++ one ∷ []) (length commands + 1) ≡ taken_by (Some one)
push_is commands one =
    let place : suc (length commands) ≡ length commands + 1 = omega arith in
    subst (λ (k : ℕ). taken_at (commands ++ one ∷ []) k ≡ taken_by (Some one)) place (ap taken_by (last_of commands one))
