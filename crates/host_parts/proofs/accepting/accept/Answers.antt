use Rattle.std.proofs.lemmas.Result.{err_from_is_err_and}
use Rattle.host_model.specs.State.{HostState}
use Rattle.host_parts.proofs.Judged.{judged_by_node}
use Rattle.host_parts.proofs.accepting.accept.Goals as goal

pub returns-in_err-judged-clause-judges : goal.returns-in_err-judged-clause-judges
returns-in_err-judged-clause-judges g c = λ (h : HostState).
    let refused = err_from_is_err_and c.from_residual.result c.from_residual.ensures.1 in
    rw (refused.1, refused.2)
    (judged_by_node (record h { nodes = c.args.nodes.now; commands = c.args.commands.now.items; store = c.args.store.now }) c.args.order.now c.in_err-judged.field-0.0 c.in_err-judged.ensures.refused)
