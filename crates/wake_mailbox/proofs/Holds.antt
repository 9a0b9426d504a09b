-- What is left of a hold after some ticks.
use Rattle.std.proofs.Common.{◌≡◌, ℕ, zero, suc, ◌-◌, ◌<◌, ◌↔◌, sym, ◌∙◌, arith}
use Rattle.wake_mailbox.specs.Mailbox.{Waiting, ticked, ticked_by}

pub hold-ticked_by : (ticks : ℕ) (mailbox : Waiting) → (ticked_by ticks mailbox).hold ≡ mailbox.hold - ticks
hold-ticked_by zero mailbox = omega arith
hold-ticked_by (suc ticks) mailbox = hold-ticked_by ticks (ticked mailbox) ∙ omega arith

pub held-ticked_by : (ticks : ℕ) (mailbox : Waiting) → (0 < (ticked_by ticks mailbox).hold) ↔ (ticks < mailbox.hold)
held-ticked_by ticks mailbox = (λ h. omega (arith, hold-ticked_by ticks mailbox), λ h. omega (arith, hold-ticked_by ticks mailbox))
