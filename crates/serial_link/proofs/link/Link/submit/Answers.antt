use Rattle.std.proofs.Common.{ap, sym, ◌∙◌}
use Rattle.serial_link.specs.State.{LinkState, submitted_link}
use Rattle.serial_link.proofs.RulesKept.{keeps_submitted, idle_if}
use Rattle.serial_link.proofs.link.Link.submit.Goals as goal

pub returns-clause-rules : goal.returns-clause-rules
returns-clause-rules c =
    keeps_submitted c.args.self.now _ c.args.frame
    (ap (λ (l : LinkState). submitted_link l c.args.frame) c.self.view_is)
    (sym (ap (λ (l : LinkState). l.side.turn) c.self.view_is) ∙ idle_if c.self.inside.turn c.if-is_busy.ensures.1)
