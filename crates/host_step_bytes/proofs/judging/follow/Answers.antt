-- A good unit, or what is no unit.
use Rattle.std.proofs.Common.{[], refl, arith}
use Rattle.host_model.proofs.EventLists.{none_added}
use Rattle.host_step_bytes.specs.Calls.{Scene, scene, Are}
use Rattle.host_step_bytes.proofs.CallLists.{does_nothing}
use Rattle.host_step_bytes.proofs.Followed.{as_followed}
use Rattle.serial_frame.specs.declared.item.Item.TheVariants.{Good}
use Rattle.host_step_bytes.proofs.judging.follow.Goals as goal

pub returns-in_ok-follow_unit-in-Good-clause-ok : goal.returns-in_ok-follow_unit-in-Good-clause-ok
returns-in_ok-follow_unit-in-Good-clause-ok g c =
    let a : Scene = scene c.args.core.now.state c.args.out.now.items (g.P.Keeper.shelf c.args.keeper.now) in
    let b : Scene = scene c.follow_unit.new.core.state c.follow_unit.new.out.items (g.P.Keeper.shelf c.follow_unit.new.keeper) in
    λ turn was.
    as_followed _ c.args.core.now.state turn c.args.item.now (Good c.in-Good.unit) a b c.in-Good.is (c.in_ok-follow_unit-in-Good.ensures.ok turn was) (λ events are. are)

pub returns-in-Refused-clause-ok : goal.returns-in-Refused-clause-ok
returns-in-Refused-clause-ok g c =
    let a : Scene = scene c.args.core.now.state c.args.out.now.items (g.P.Keeper.shelf c.args.keeper.now) in
    λ turn was.
    as_followed (Are []) c.args.core.now.state turn c.args.item.now _ a a c.in-Refused.is (does_nothing (Are []) a a refl refl refl (none_added a.shelf.records) (omega arith)) (λ events are. are)
