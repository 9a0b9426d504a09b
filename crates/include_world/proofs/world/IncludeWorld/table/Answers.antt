use Rattle.std.proofs.Common.{◌-◌, arith}
use Rattle.include_world.proofs.Places.{entered_more, entered_all}
use Rattle.include_world.proofs.world.IncludeWorld.table.Goals as goal

pub loop-number-preserved : goal.loop-number-preserved
loop-number-preserved c =
    entered_more c.args.self.now c.loop-number.number c.args.out.now.items c.loop-number.out.items c.enter_node.new.out.items (omega arith) c.loop-number.invariant c.in_ok-enter_node.ensures.ok

pub returns : goal.returns
returns c = record { ok = entered_all c.args.self.now (c.loop-number.number - 1) c.args.out.now.items c.loop-number.out.items c.loop-number.invariant (omega arith) }
