-- What is entered of a line that the host or its keeper refuses (this project's own rules).
use Rattle.std.specs.Prelude.{◌≡◌, ◌⊎◌, ℕ, Bool, true, false, Option, Some, None}
use Rattle.zw_text.specs.declared.entry.Refusal.{Refusal}
use Rattle.zw_text.specs.declared.entry.Refusal.TheVariants as refusal
use Rattle.host_orders.specs.declared.refused.Refused.{Refused}
use Rattle.host_orders.specs.declared.refused.Refused.TheVariants as refused
use Rattle.host_model.specs.State.{HostState}
use Rattle.host_model.specs.Asking.{Waits}

-- what is entered of a refusal; an allocation failure is none
abbrev pub shown : Refused → Option Refusal
shown refused.NotJoined = Some refusal.NotJoined
shown refused.NotInterviewed = Some refusal.NotInterviewed
shown (refused.Unsupported class) = Some (refusal.Unsupported class)
shown refused.BadValue = Some refusal.BadValue
shown refused.Unsupervised = Some refusal.Unsupervised
shown (refused.TooLong bytes) = Some (refusal.TooLong bytes)
shown (refused.MailboxFull waiting) = Some (refusal.MailboxFull waiting)
shown (refused.StoreFull properties) = Some (refusal.StoreFull properties)
shown refused.Secured = Some refusal.Secured
shown (refused.QueueFull waiting) = Some (refusal.QueueFull waiting)
shown refused.AlreadyJoined = Some refusal.AlreadyJoined
shown refused.KeeperFault = Some refusal.KeeperFault
shown refused.NoMemory = None

-- a rule refuses, and that is entered
abbrev pub IsRefusedBy : Option Refused → Refusal → Type 0
IsRefusedBy None entered = ⊥
IsRefusedBy (Some refused) entered = shown refused ≡ Some entered

-- the same, or no rule does and the keeper failed
abbrev pub IsRefusedOrUnkept : Option Refused → Refusal → Type 0
IsRefusedOrUnkept rule entered = IsRefusedBy rule entered ⊎ ((rule ≡ None) × (entered ≡ refusal.KeeperFault))

-- a command is not cancelled that does not wait, or whose record was not kept
abbrev pub IsUncancelled : HostState → ℕ → Refusal → Type 0
IsUncancelled h command entered = ((Waits h command → ⊥) × (entered ≡ refusal.NotWaiting command)) ⊎ (Waits h command × (entered ≡ refusal.KeeperFault))

-- whether that is that the keeper failed
abbrev pub is_keeper_fault : Refusal → Bool
is_keeper_fault refusal.KeeperFault = true
is_keeper_fault entered = false
