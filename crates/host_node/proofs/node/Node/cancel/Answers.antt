-- What is taken out of the mailbox is the first place of the command.
use Rattle.std.proofs.Common.{◌≡◌}
use Rattle.host_node.specs.Steps.{without}
use Rattle.host_node.proofs.Lists.{taken_out_is_without}
use Rattle.host_node.proofs.node.Node.cancel.Goals as goal

pub returns-clause-ok : goal.returns-clause-ok
returns-clause-ok c =
    let rest : c.cancel.new.self.commands ≡ without c.self.inside.mailbox.commands c.args.command = taken_out_is_without c.in_ok-cancel.ensures.ok in
    rw (← c.self.view_is, rest, c.cancel.ensures.awake, c.cancel.ensures.hold)
