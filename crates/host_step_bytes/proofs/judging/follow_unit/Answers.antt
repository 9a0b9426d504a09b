-- What was acknowledged or refused.
use Rattle.std.proofs.Common.{List, ap, ◌∙◌, arith}
use Rattle.std.specs.Prelude.{Bool}
use Rattle.zw_base.proofs.Results.{on_err}
use Rattle.host_model.specs.State.{HostParts}
use Rattle.host_model.specs.Events.{HostEvent}
use Rattle.host_model.proofs.EventLists.{none_added}
use Rattle.host_step_bytes.specs.Calls.{Scene, scene, Are}
use Rattle.serial_frame.specs.declared.item.Item.TheVariants.{Good}
use Rattle.serial_frame.specs.declared.unit.Unit.{Unit as LineUnit}
use Rattle.serial_frame.specs.declared.unit.Unit.TheVariants.{Ack, Nak, Can}
use Rattle.host_requests.specs.Events.RequestsEvent.{IsSent, Fails}
use Rattle.host_model.specs.After.{gives_up}
use Rattle.host_model.specs.Taking.{told_if}
use Rattle.host_step_bytes.proofs.CallLists.{stops_at_once}
use Rattle.host_step_bytes.proofs.Followed.{as_followed}
use Rattle.host_step_bytes.proofs.judging.follow_unit.Goals as goal

pub returns-in_err-acknowledged-in-Ack-clause-err : goal.returns-in_err-acknowledged-in-Ack-clause-err
returns-in_err-acknowledged-in-Ack-clause-err g c =
    let a : Scene = scene c.args.core.now.state c.args.out.now.items (g.P.Keeper.shelf c.args.keeper.now) in
    let b : Scene = scene c.acknowledged.new.core.state c.acknowledged.new.out.items (g.P.Keeper.shelf c.args.keeper.now) in
    on_err c.from_residual.result (stops_at_once a b (ap (λ (p : HostParts). p.state) c.in_err-acknowledged-in-Ack.ensures.err.0) c.in_err-acknowledged-in-Ack.ensures.err.1 (none_added a.shelf.records) (omega arith))

pub returns-in_ok-acknowledged-in-Ack-clause-ok : goal.returns-in_ok-acknowledged-in-Ack-clause-ok
returns-in_ok-acknowledged-in-Ack-clause-ok g c =
    let a : Scene = scene c.args.core.now.state c.args.out.now.items (g.P.Keeper.shelf c.args.keeper.now) in
    let b : Scene = scene c.acknowledged.new.core.state c.acknowledged.new.out.items (g.P.Keeper.shelf c.args.keeper.now) in
    λ turn was.
    as_followed (Are (told_if c.args.was_busy IsSent)) c.args.core.now.state turn (Good c.args.unit.now) (Good Ack) a b (ap (λ (u : LineUnit). Good u) c.in-Ack.is) (c.in_ok-acknowledged-in-Ack.ensures.ok a.shelf)
    (λ (events : List HostEvent) are. are ∙ ap (λ (x : Bool). told_if x IsSent) was)

pub returns-in_err-refused-in-Nak-clause-err : goal.returns-in_err-refused-in-Nak-clause-err
returns-in_err-refused-in-Nak-clause-err g c =
    let a : Scene = scene c.args.core.now.state c.args.out.now.items (g.P.Keeper.shelf c.args.keeper.now) in
    let b : Scene = scene c.refused.new.core.state c.refused.new.out.items (g.P.Keeper.shelf c.args.keeper.now) in
    on_err c.from_residual-in_err-refused-in-Nak.result (stops_at_once a b (ap (λ (p : HostParts). p.state) c.in_err-refused-in-Nak.ensures.err.0) c.in_err-refused-in-Nak.ensures.err.1 (none_added a.shelf.records) (omega arith))

pub returns-in_ok-refused-in-Nak-clause-ok : goal.returns-in_ok-refused-in-Nak-clause-ok
returns-in_ok-refused-in-Nak-clause-ok g c =
    let a : Scene = scene c.args.core.now.state c.args.out.now.items (g.P.Keeper.shelf c.args.keeper.now) in
    let b : Scene = scene c.refused.new.core.state c.refused.new.out.items (g.P.Keeper.shelf c.args.keeper.now) in
    λ turn was.
    as_followed (Are (told_if (gives_up turn c.args.core.now.state.side.turn) Fails)) c.args.core.now.state turn (Good c.args.unit.now) (Good Nak) a b (ap (λ (u : LineUnit). Good u) c.in-Nak.is) (c.in_ok-refused-in-Nak.ensures.ok turn was a.shelf)
    (λ (events : List HostEvent) are. are)

pub returns-in_err-refused-in-Can-clause-err : goal.returns-in_err-refused-in-Can-clause-err
returns-in_err-refused-in-Can-clause-err g c =
    let a : Scene = scene c.args.core.now.state c.args.out.now.items (g.P.Keeper.shelf c.args.keeper.now) in
    let b : Scene = scene c.refused-in-Can.new.core.state c.refused-in-Can.new.out.items (g.P.Keeper.shelf c.args.keeper.now) in
    on_err c.from_residual-in_err-refused-in-Can.result (stops_at_once a b (ap (λ (p : HostParts). p.state) c.in_err-refused-in-Can.ensures.err.0) c.in_err-refused-in-Can.ensures.err.1 (none_added a.shelf.records) (omega arith))

pub returns-in_ok-refused-in-Can-clause-ok : goal.returns-in_ok-refused-in-Can-clause-ok
returns-in_ok-refused-in-Can-clause-ok g c =
    let a : Scene = scene c.args.core.now.state c.args.out.now.items (g.P.Keeper.shelf c.args.keeper.now) in
    let b : Scene = scene c.refused-in-Can.new.core.state c.refused-in-Can.new.out.items (g.P.Keeper.shelf c.args.keeper.now) in
    λ turn was.
    as_followed (Are (told_if (gives_up turn c.args.core.now.state.side.turn) Fails)) c.args.core.now.state turn (Good c.args.unit.now) (Good Can) a b (ap (λ (u : LineUnit). Good u) c.in-Can.is) (c.in_ok-refused-in-Can.ensures.ok turn was a.shelf)
    (λ (events : List HostEvent) are. are)
