-- The chip's table is made, and then the members are asked for.
use Rattle.world_step.proofs.Scenes.{ok_then}
use Rattle.zw_world.specs.contracts.world.World.{the_view}
use Rattle.zw_world.proofs.Asking.{discovers}
use Rattle.zw_world.proofs.world.World.discover.Goals as goal

pub returns-clause-ok : goal.returns-clause-ok
returns-clause-ok c =
    let w = the_view c.self.inside in
    rw (← c.self.view_is) (ok_then c.ask.result c.ask.ensures.ok
    (λ done ds r f. discovers w.keys c.ask.new.self.keys w.host c.ask.new.self.host w.outer c.discover.new.self c.ask.new.self.outer ds r c.args.out.now.items c.ask.new.out.items f c.discover.ensures (done ds r f)))
