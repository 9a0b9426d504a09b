-- A node that is joined.
use Rattle.std.proofs.Common.{map, sym, ap, ◌∙◌}
use Rattle.host_model.specs.State.{node_of}
use Rattle.world_step.proofs.Scenes.{ok_then}
use Rattle.zw_world.specs.World.{WorldState, machine_of}
use Rattle.zw_world.proofs.Listing.{listed_joined}
use Rattle.zw_world.proofs.world.World.table_of.Goals as goal

pub returns : goal.returns
returns g c = ok_then c.list_node.result c.list_node.ensures
    (λ more records.
    listed_joined (machine_of c.args.self.now (map (λ d. (goal.Device-dyn g (d.vtable, d.value)).state d.value) c.args.devices.now.items) records) c.args.node c.args.out.now.items c.list_node.new.out.items
    (ap (λ (w : WorldState). (node_of w.host.state c.args.node).joined) (sym c.self.view_is) ∙ (sym c.is_joined.ensures ∙ c.if-not-is_joined.false)) (more records))
