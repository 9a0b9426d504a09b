use Rattle.std.proofs.Common.{List, ◌++◌, ap, ◌∙◌}
use Rattle.zw_text.specs.declared.entry.Entry.{Entry}
use Rattle.host_model.specs.State.{HostState}
use Rattle.host_model.specs.Outs.{noted}
use Rattle.host_parts.proofs.Ending.{task_outs}
use Rattle.host_parts.proofs.ends.end_request.Goals as goal

pub returns-in-Housekeeping-clause-outs : goal.returns-in-Housekeeping-clause-outs
returns-in-Housekeeping-clause-outs c = λ (h : HostState).
    let k : HostState = record h { nodes = c.args.nodes.now; commands = c.args.commands.now.items } in
    c.end_task.ensures.outs k ∙ ap (λ (es : List Entry). c.args.out.now.items ++ noted es) (task_outs k c.args.end c.in-Some.end c.in-Housekeeping.task c.in-Some.is c.in-Housekeeping.is)
