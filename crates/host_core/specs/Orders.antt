-- What a user may ask of the host, and when that is refused (this project's own rules).
use Rattle.std.specs.Prelude.{◌≡◌, ◌⊎◌, ℕ, Option, Some, None, Result, Ok, Err}
use Rattle.zw_text.specs.declared.entry.Outcome.{Outcome}
use Rattle.zw_text.specs.declared.entry.Refusal.{Refusal}
use Rattle.zw_text.specs.declared.entry.Refusal.TheVariants as refusal
use Rattle.host_requests.specs.declared.task.Task.TheVariants as task
use Rattle.host_orders.specs.declared.refused.Refused.{Refused}
use Rattle.host_orders.specs.declared.refused.Refused.TheVariants.{KeeperFault, NoMemory}
use Rattle.host_model.specs.State.{Command}
use Rattle.host_model.specs.Events.{HostEvent, Queues, Queues_probe}
use Rattle.host_core.specs.declared.orders.Question.{Question}
use Rattle.host_core.specs.declared.orders.Question.TheVariants.{Members, Neighbours, Failed, Probe}
use Rattle.host_core.specs.declared.orders.CancelFault.{CancelFault}
use Rattle.host_core.specs.declared.orders.CancelFault.TheVariants as cancel

-- a probe takes three places, another question one
abbrev pub places_of : Question → ℕ
places_of Members = 1
places_of (Neighbours n) = 1
places_of (Failed n) = 1
places_of Probe = 3

-- what a question is
abbrev pub question_event : Question → HostEvent
question_event Members = Queues task.Members
question_event (Neighbours n) = Queues (task.Neighbours n)
question_event (Failed n) = Queues (task.IsFailed n)
question_event Probe = Queues_probe

-- refused by the first rule that applies, and else taken; or there was no memory, or the keeper failed, where no rule refuses
abbrev pub KeptOrRefused : {A : Type 0} → Result A Refused → Option Refused → Type 0
KeptOrRefused (Ok value) refusal = refusal ≡ None
KeptOrRefused (Err refused) refusal = (refusal ≡ Some refused) ⊎ ((refusal ≡ None) × ((refused ≡ KeeperFault) ⊎ (refused ≡ NoMemory)))

-- a command is cancelled where it waits
abbrev pub CancelsOrNot : {A : Type 0} → Result A CancelFault → Type 0 → Type 0
CancelsOrNot (Ok value) Waits = Waits
CancelsOrNot (Err cancel.NotWaiting) Waits = Waits → ⊥
CancelsOrNot (Err cancel.KeeperFault) Waits = Waits
CancelsOrNot (Err cancel.NoMemory) Waits = Waits

-- what is entered of a command that is not cancelled; an allocation failure is no refusal
abbrev pub shown_uncancelled : ℕ → CancelFault → Option Refusal
shown_uncancelled command cancel.NotWaiting = Some (refusal.NotWaiting command)
shown_uncancelled command cancel.KeeperFault = Some refusal.KeeperFault
shown_uncancelled command cancel.NoMemory = None

-- what became of a command, where it was accepted
abbrev pub outcome_at : Option Command → Option Outcome
outcome_at None = None
outcome_at (Some command) = Some command.outcome
