-- What its series says.
use Rattle.std.proofs.Common.{rules}
use Rattle.host_model.specs.State.{node_of}
use Rattle.host_step_bytes.specs.Calls.{scene}
use Rattle.host_node.specs.declared.series.Series.TheVariants.{Running, Due}
use Rattle.host_core.proofs.Served.{served_as}
use Rattle.host_core.proofs.pumping.serve.Goals as goal

pub returns-in_ok-go_on-in-Running-clause-ok : goal.returns-in_ok-go_on-in-Running-clause-ok
returns-in_ok-go_on-in-Running-clause-ok g c =
    served_as c.args.node (node_of c.args.core.now.state c.args.node).series Running (scene c.args.core.now.state c.args.out.now.items (g.P.Keeper.shelf c.args.keeper.now)) (scene c.go_on.new.core.state c.go_on.new.out.items (g.P.Keeper.shelf c.args.keeper.now)) (search rules) (c.in_ok-go_on-in-Running.ensures.ok (g.P.Keeper.shelf c.args.keeper.now))

pub returns-in_ok-start-in-Due-clause-ok : goal.returns-in_ok-start-in-Due-clause-ok
returns-in_ok-start-in-Due-clause-ok g c =
    served_as c.args.node (node_of c.args.core.now.state c.args.node).series Due (scene c.args.core.now.state c.args.out.now.items (g.P.Keeper.shelf c.args.keeper.now)) (scene c.start.new.core.state c.start.new.out.items (g.P.Keeper.shelf c.args.keeper.now)) (search rules) (c.in_ok-start-in-Due.ensures.ok (g.P.Keeper.shelf c.args.keeper.now))
