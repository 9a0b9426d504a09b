use Rattle.std.proofs.Common.{◌≡◌, suc, ◌+◌, ◌-◌, refl, arith}
use Rattle.mesh_sim.proofs.Lists.{change_more}
use Rattle.mesh_sim.proofs.arrivals.enter_changes.Goals as goal

pub loop-change-preserved : goal.loop-change-preserved
loop-change-preserved c =
    let left : c.args.changes - c.loop-change.change ≡ suc (c.args.changes - (c.loop-change.change + 1)) = omega arith in
    let further : c.args.first + (c.loop-change.change + 1) ≡ (c.args.first + c.loop-change.change) + 1 = omega arith in
    record {
      told = change_more c.loop-change.out.items c.put.new.self.items _ c.args.node (c.args.first + c.loop-change.change) (c.args.first + c.loop-change.change) (c.args.first + (c.loop-change.change + 1))
          (c.args.changes - c.loop-change.change) (c.args.changes - (c.loop-change.change + 1)) left refl further c.put.ensures.items c.loop-change.invariant.told;
      room = omega arith;
    }
