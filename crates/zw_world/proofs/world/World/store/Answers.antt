-- The values are shown.
use Rattle.std.proofs.Common.{refl}
use Rattle.zw_world.specs.contracts.world.World.{the_view}
use Rattle.zw_world.proofs.Asking.{shows_values}
use Rattle.zw_world.proofs.world.World.store.Goals as goal

pub returns-clause-ok : goal.returns-clause-ok
returns-clause-ok c =
    let w = the_view c.self.inside in
    rw (← c.self.view_is) (shows_values c.note.result c.args.node c.in_ok-text.text w.keys w.keys w.host w.host w.outer c.note.new.self c.args.out.now.items c.note.new.out.items c.in_ok-text.ensures refl refl c.note.ensures.ok)
