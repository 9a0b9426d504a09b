use Rattle.std.proofs.Common.{◌≡◌, ◌++◌, subst}
use Rattle.host_model.specs.State.{HostState}
use Rattle.host_model.specs.Ends.{PartEnd, part_entries}
use Rattle.host_model.specs.Outs.{noted}
use Rattle.host_parts.proofs.ends.end_part.Goals as goal

pub returns-in-Bad-clause-outs : goal.returns-in-Bad-clause-outs
returns-in-Bad-clause-outs c = λ (h : HostState).
    subst (λ (p : PartEnd). c.end_running.new.out.items ≡ c.args.out.now.items ++ noted (part_entries (record h { nodes = c.args.nodes.now; commands = c.args.commands.now.items }) c.args.node p)) c.in-Bad.ensures
    (c.end_running.ensures.outs h)
