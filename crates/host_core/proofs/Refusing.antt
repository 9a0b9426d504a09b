-- What is entered of a refusal is a rule of the host that applies, or that its keeper failed.
use Rattle.std.proofs.Common.{◌≡◌, ℕ, Bool, false, refl, ap, sym, ◌∙◌, subst, inl, inr}
use Rattle.std.specs.Prelude.{Option, Some, None, Result, Err}
use Rattle.zw_base.specs.Faults.{Rose}
use Rattle.zw_text.specs.declared.entry.Refusal.{Refusal}
use Rattle.zw_text.specs.declared.entry.Refusal.TheVariants.{KeeperFault as keeper_fault}
use Rattle.host_orders.specs.declared.refused.Refused.{Refused}
use Rattle.host_orders.specs.declared.refused.Refused.TheVariants.{NotJoined, NotInterviewed, Unsupported, BadValue, Unsupervised, TooLong, MailboxFull, StoreFull, Secured, QueueFull, AlreadyJoined, KeeperFault, NoMemory}
use Rattle.host_model.specs.State.{HostState}
use Rattle.host_model.specs.Did.{RoseIf}
use Rattle.host_model.specs.Asking.{Waits}
use Rattle.host_model.specs.Refusals.{shown, is_keeper_fault, IsRefusedBy, IsRefusedOrUnkept, IsUncancelled}
use Rattle.host_parts.specs.Choices.{Judges}
use Rattle.host_core.specs.declared.orders.CancelFault.{CancelFault}
use Rattle.host_core.specs.declared.orders.CancelFault.TheVariants as cancel
use Rattle.host_core.specs.Orders.{KeptOrRefused, CancelsOrNot, shown_uncancelled}

abbrev pub fault_in : Option Refusal → Bool
fault_in None = false
fault_in (Some entered) = is_keeper_fault entered

abbrev pub IsNothing : Option Refusal → Type 0
IsNothing None = Unit {0}
IsNothing (Some entered) = ⊥

abbrev pub given : Option Refusal → Refusal
given None = keeper_fault
given (Some entered) = entered

-- the keeper failed where that is entered
rose_shown : (refused : Refused) (f g : ℕ) → (refused ≡ KeeperFault → Rose f g) → RoseIf (fault_in (shown refused)) f g
rose_shown NotJoined f g rose = tt
rose_shown NotInterviewed f g rose = tt
rose_shown (Unsupported class) f g rose = tt
rose_shown BadValue f g rose = tt
rose_shown Unsupervised f g rose = tt
rose_shown (TooLong bytes) f g rose = tt
rose_shown (MailboxFull waiting) f g rose = tt
rose_shown (StoreFull properties) f g rose = tt
rose_shown Secured f g rose = tt
rose_shown (QueueFull waiting) f g rose = tt
rose_shown AlreadyJoined f g rose = tt
rose_shown KeeperFault f g rose = rose refl
rose_shown NoMemory f g rose = tt

pub rose_entered : (refused : Refused) (entered : Refusal) (f g : ℕ) → shown refused ≡ Some entered → (refused ≡ KeeperFault → Rose f g) → RoseIf (is_keeper_fault entered) f g
rose_entered refused entered f g is rose = subst (λ (x : Option Refusal). RoseIf (fault_in x) f g) is (rose_shown refused f g rose)

-- a rule that applies
pub by_rule : (rule : Option Refused) (refused : Refused) (entered : Refusal) → rule ≡ Some refused → shown refused ≡ Some entered → IsRefusedBy rule entered
by_rule rule refused entered is seen = subst (λ (x : Option Refused). IsRefusedBy x entered) (sym is) seen

-- a rule refuses, or the keeper failed
unkept : (rule : Option Refused) (why : Refused) (entered : Refusal) → shown why ≡ Some entered → why ≡ KeeperFault → rule ≡ None → IsRefusedOrUnkept rule entered
unkept rule why entered seen fault none = inr (none, sym (ap given (sym (ap shown fault) ∙ seen)))

unseen : {A : Type 0} (why : Refused) (entered : Refusal) → shown why ≡ Some entered → why ≡ NoMemory → A
unseen why entered seen none = absurd (subst IsNothing (sym (ap shown none) ∙ seen) tt)

pub judged_as : (answer : Result ℕ Refused) (why : Refused) (rule : Option Refused) (entered : Refusal) → answer ≡ Err why → shown why ≡ Some entered → Judges answer rule → IsRefusedOrUnkept rule entered
judged_as answer why rule entered is seen judges = split (subst (λ (x : Result ℕ Refused). Judges x rule) is judges)
  where
    split : Judges (Err why) rule → IsRefusedOrUnkept rule entered
    split (inl by) = inl (by_rule rule why entered by seen)
    split (inr (inl none)) = unseen why entered seen none
    split (inr (inr fault)) = unkept rule why entered seen fault.0 fault.1

pub kept_as : (why : Refused) (rule : Option Refused) (entered : Refusal) → shown why ≡ Some entered → KeptOrRefused {A = Unit {0}} (Err why) rule → IsRefusedOrUnkept rule entered
kept_as why rule entered seen (inl by) = inl (by_rule rule why entered by seen)
kept_as why rule entered seen (inr (none, inl fault)) = unkept rule why entered seen fault none
kept_as why rule entered seen (inr (none, inr no_memory)) = unseen why entered seen no_memory

-- ---- the same of a command that is not cancelled
pub uncancelled_as : (A : Type 0) (h : HostState) (command : ℕ) (fault : CancelFault) (entered : Refusal) → shown_uncancelled command fault ≡ Some entered → CancelsOrNot {A = A} (Err fault) (Waits h command) → IsUncancelled h command entered
uncancelled_as A h command cancel.NotWaiting entered seen judges = inl (judges, sym (ap given seen))
uncancelled_as A h command cancel.KeeperFault entered seen judges = inr (judges, sym (ap given seen))
uncancelled_as A h command cancel.NoMemory entered seen judges = absurd (subst IsNothing seen tt)

pub uncancelled_rose : (command : ℕ) (fault : CancelFault) (entered : Refusal) (f g : ℕ) → shown_uncancelled command fault ≡ Some entered → (fault ≡ cancel.KeeperFault → Rose f g) → RoseIf (is_keeper_fault entered) f g
uncancelled_rose command fault entered f g seen rose = subst (λ (x : Option Refusal). RoseIf (fault_in x) f g) seen (by_fault fault rose)
  where
    by_fault : (fault : CancelFault) → (fault ≡ cancel.KeeperFault → Rose f g) → RoseIf (fault_in (shown_uncancelled command fault)) f g
    by_fault cancel.NotWaiting rose = tt
    by_fault cancel.KeeperFault rose = rose refl
    by_fault cancel.NoMemory rose = tt
