-- A node that is joined.
use Rattle.std.proofs.Common.{sym, ap, ◌∙◌}
use Rattle.host_model.specs.State.{node_of}
use Rattle.run_replay.specs.Machine.{ReplayState, lone_of}
use Rattle.run_replay.proofs.Steps.{ok_then}
use Rattle.run_replay.proofs.Listing.{listed_joined}
use Rattle.run_replay.proofs.replay.Replay.table_of.Goals as goal

pub returns : goal.returns
returns c = ok_then c.list_node.result c.list_node.ensures
    (λ more records.
    listed_joined (lone_of c.args.self.now records) c.args.node c.args.out.now.items c.list_node.new.out.items
    (ap (λ (w : ReplayState). (node_of w.host.state c.args.node).joined) (sym c.self.view_is) ∙ (sym c.is_joined.ensures ∙ c.if-not-is_joined.false)) (more records))
