-- The node and its classes.
use Rattle.std.proofs.Common.{◌≡◌, ℕ, List, sym, ◌∙◌, subst}
use Rattle.chip_functions.specs.declared.notice.Update.TheVariants.{Received}
use Rattle.host_step_bytes.proofs.judging.listed.Goals as goal

pub returns-in_ok-copy-in-Received : goal.returns-in_ok-copy-in-Received
returns-in_ok-copy-in-Received c = (
  (c.in-Received.basic, c.in-Received.generic, c.in-Received.specific),
  subst (λ (l : List ℕ). c.args.update.now ≡ Received c.in-Received.node c.in-Received.basic c.in-Received.generic c.in-Received.specific l)
      (sym (c.in_ok-copy-in-Received.ensures ∙ c.as_slice.ensures)) c.in-Received.is,
)
