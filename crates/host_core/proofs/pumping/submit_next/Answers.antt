-- An abort, a task, or what a node gives.
use Rattle.std.proofs.Common.{rules, ap, arith}
use Rattle.host_model.specs.State.{HostParts}
use Rattle.host_model.proofs.EventLists.{none_added}
use Rattle.host_step_bytes.specs.Calls.{Scene, scene}
use Rattle.host_core.proofs.Served.{abort_submitted, prefix_submitted}
use Rattle.host_core.proofs.pumping.submit_next.Goals as goal

pub returns-then-owes_abort-clause-turns : goal.returns-then-owes_abort-clause-turns
returns-then-owes_abort-clause-turns g c =
    let a : Scene = scene c.args.core.now.state c.args.out.now.items (g.P.Keeper.shelf c.args.keeper.now) in
    let b : Scene = scene c.submit_abort.new.self.state c.submit_abort.new.out.items (g.P.Keeper.shelf c.args.keeper.now) in
    abort_submitted a b (record { none_under_way = search rules; free_line = search rules }) (search rules) (ap (λ (p : HostParts). p.state) c.in_ok-submit_abort.ensures.state) c.in_ok-submit_abort.ensures.outs (none_added a.shelf.records) (omega arith)

pub returns-then-not-is_empty-clause-turns : goal.returns-then-not-is_empty-clause-turns
returns-then-not-is_empty-clause-turns g c =
    let a : Scene = scene c.args.core.now.state c.args.out.now.items (g.P.Keeper.shelf c.args.keeper.now) in
    let b : Scene = scene c.submit_front.new.self.state c.submit_front.new.out.items (g.P.Keeper.shelf c.args.keeper.now) in
    prefix_submitted a b (record { none_under_way = search rules; free_line = search rules }) (search rules) (search rules) (ap (λ (p : HostParts). p.state) c.in_ok-submit_front.ensures.state) c.in_ok-submit_front.ensures.outs (none_added a.shelf.records) (omega arith)
