-- The host takes all bytes that are on their way to it, and what it puts out is routed.
use Rattle.std.proofs.Common.{length, refl, sym, ◌∙◌}
use Rattle.outside_model.specs.State.{is_stalled}
use Rattle.zw_base.proofs.Results.{on_err}
use Rattle.world_step.proofs.Bytes.{host_part, host_idle, has_some, has_moves, stopped_routing, stopped_taking}
use Rattle.world_step.proofs.sides.Sides.host_takes.Goals as goal

pub returns-then-not-has_bytes-clause-ok : goal.returns-then-not-has_bytes-clause-ok
returns-then-not-has_bytes-clause-ok g c = λ keys ds.
    host_idle keys c.args.self.now.host c.args.self.now.outer ds (g.P.Keeper.shelf c.args.keeper.now).records c.args.out.now.items (g.P.Keeper.shelf c.args.keeper.now).faults (sym c.has_bytes.ensures ∙ c.if-not-has_bytes.true)

pub take_all-requires : goal.take_all-requires
take_all-requires g c = record {
  some = has_some (is_stalled c.args.self.now.outer) (length c.args.self.now.outer.to_host.bytes) (sym c.has_bytes.ensures ∙ c.if-not-has_bytes.false);
  moves = has_moves (is_stalled c.args.self.now.outer) (length c.args.self.now.outer.to_host.bytes) (sym c.has_bytes.ensures ∙ c.if-not-has_bytes.false);
}

pub returns-in_err-take_all-clause-err : goal.returns-in_err-take_all-clause-err
returns-in_err-take_all-clause-err g c = on_err c.from_residual.result
    (λ keys ds.
    stopped_taking keys c.args.self.now.host c.take_all.new.self.host c.args.self.now.outer c.take_all.new.self.outer ds (g.P.Keeper.shelf c.args.keeper.now).records (g.P.Keeper.shelf c.take_all.new.keeper).records c.new-outs.result.items c.take_all.new.outs.items
    c.args.out.now.items c.args.out.now.items (g.P.Keeper.shelf c.args.keeper.now).faults (g.P.Keeper.shelf c.take_all.new.keeper).faults
    (has_moves (is_stalled c.args.self.now.outer) (length c.args.self.now.outer.to_host.bytes) (sym c.has_bytes.ensures ∙ c.if-not-has_bytes.false)) c.new-outs.ensures c.in_err-take_all.ensures.err refl)

pub returns-in_err-route-clause-err : goal.returns-in_err-route-clause-err
returns-in_err-route-clause-err g c = on_err c.from_residual-in_err-route.result
    (λ keys ds.
    stopped_routing keys c.args.self.now.host c.take_all.new.self.host c.args.self.now.outer c.take_all.new.self.outer c.route.new.outer ds (g.P.Keeper.shelf c.args.keeper.now).records (g.P.Keeper.shelf c.take_all.new.keeper).records c.new-outs.result.items c.take_all.new.outs.items
    c.args.out.now.items c.route.new.out.items (g.P.Keeper.shelf c.args.keeper.now).faults (g.P.Keeper.shelf c.take_all.new.keeper).faults
    (has_moves (is_stalled c.args.self.now.outer) (length c.args.self.now.outer.to_host.bytes) (sym c.has_bytes.ensures ∙ c.if-not-has_bytes.false)) c.new-outs.ensures c.in_ok-take_all.ensures.ok c.in_err-route.ensures.err)

pub returns-clause-ok : goal.returns-clause-ok
returns-clause-ok g c = λ keys ds.
    host_part keys c.args.self.now.host c.take_all.new.self.host c.args.self.now.outer c.take_all.new.self.outer c.route.new.outer ds (g.P.Keeper.shelf c.args.keeper.now).records (g.P.Keeper.shelf c.take_all.new.keeper).records c.new-outs.result.items c.take_all.new.outs.items
    c.args.out.now.items c.route.new.out.items (g.P.Keeper.shelf c.args.keeper.now).faults (g.P.Keeper.shelf c.take_all.new.keeper).faults
    (has_some (is_stalled c.args.self.now.outer) (length c.args.self.now.outer.to_host.bytes) (sym c.has_bytes.ensures ∙ c.if-not-has_bytes.false))
    (has_moves (is_stalled c.args.self.now.outer) (length c.args.self.now.outer.to_host.bytes) (sym c.has_bytes.ensures ∙ c.if-not-has_bytes.false)) c.new-outs.ensures c.in_ok-take_all.ensures.ok c.in_ok-route.ensures.ok
