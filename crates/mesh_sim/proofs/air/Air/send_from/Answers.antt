use Rattle.mesh_sim.proofs.Unique.{sent_home}
use Rattle.mesh_sim.proofs.air.Air.send_from.Goals as goal

pub returns-clause-ok : goal.returns-clause-ok
returns-clause-ok c route is joined =
    sent_home c.args.self.now.state c.reserve.new.self.state c.depart.new.self.state c.args.from c.way_home-way.result c.args.payload.now c.fitting.result
    c.reserve.ensures.state c.way_home-way.ensures.way c.fitting.ensures c.depart.ensures.state route is
