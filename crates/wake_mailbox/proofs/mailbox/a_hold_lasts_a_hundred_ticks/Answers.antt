use Rattle.wake_mailbox.proofs.Holds.{hold-ticked_by, held-ticked_by}
use Rattle.wake_mailbox.proofs.mailbox.a_hold_lasts_a_hundred_ticks.Goals as goal

pub returns : goal.returns
returns c = record {
  left = λ mailbox ticks. hold-ticked_by ticks (record mailbox { hold = 100 });
  held = λ mailbox ticks. held-ticked_by ticks (record mailbox { hold = 100 });
}
