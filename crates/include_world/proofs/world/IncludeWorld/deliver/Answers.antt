use Rattle.std.proofs.Common.{◌≡◌, ◌-◌, length, ap, arith}
use Rattle.include_world.specs.Air.{flying}
use Rattle.include_world.specs.World.{WorldState}
use Rattle.include_world.proofs.DoneEvents.{none_arrived, one_arrived, delivered}
use Rattle.include_world.proofs.world.IncludeWorld.deliver.Goals as goal

pub loop-init : goal.loop-init
loop-init g c = record { arrived = none_arrived _ _; within = omega arith }

pub loop-preserved : goal.loop-preserved
loop-preserved g c =
    let end = c.flying-end.ensures in
    let same : length c.self.inside.air.state.frames - c.self.inside.air.state.landed ≡ flying c.args.self.now.air = ap (λ (w : WorldState). flying w.air) c.self.view_is in
    let test = c.loop-test.true in
    record {
      arrived = one_arrived _ _ _ _ _ _ _ _ c.loop.invariant.arrived c.in_ok-land.ensures.eight (omega (arith, end, same, test)) c.in_ok-land.ensures.ok c.in_ok-land.ensures.outs;
      within = omega (arith, end, same, test);
    }

pub returns-clause-ok : goal.returns-clause-ok
returns-clause-ok g c =
    let end = c.flying-end.ensures in
    let same : length c.self.inside.air.state.frames - c.self.inside.air.state.landed ≡ flying c.args.self.now.air = ap (λ (w : WorldState). flying w.air) c.self.view_is in
    let past = c.loop-test.false in
    delivered _ _ _ _ _ (omega (arith, end, same, past)) (omega (arith, c.loop.invariant.within)) c.loop.invariant.arrived
