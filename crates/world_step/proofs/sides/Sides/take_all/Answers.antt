-- Piece after piece, until none is left.
use Rattle.std.proofs.Common.{◌∙◌, arith}
use Rattle.zw_base.proofs.Results.{on_err}
use Rattle.world_step.proofs.Bytes.{some_more, prefix_more, all_taken}
use Rattle.world_step.proofs.sides.Sides.take_all.Goals as goal

pub loop-self-init : goal.loop-self-init
loop-self-init g c = record {
  takes = (c.in_ok-take_piece.ensures.ok.0, c.in_ok-take_piece.ensures.ok.2);
  never_fewer = c.take_piece.ensures.never_fewer;
  reads = c.take_piece.ensures.reads;
}

pub loop-self-preserved : goal.loop-self-preserved
loop-self-preserved g c = record {
  takes = some_more c.args.self.now.host c.loop-self.self.host c.take_piece-in-loop-self.new.self.host c.args.self.now.outer c.loop-self.self.outer c.take_piece-in-loop-self.new.self.outer c.args.outs.now.items c.loop-self.outs.items c.take_piece-in-loop-self.new.outs.items
      (g.P.Keeper.shelf c.args.keeper.now)
      (g.P.Keeper.shelf c.loop-self.keeper)
      (g.P.Keeper.shelf c.take_piece-in-loop-self.new.keeper)
      c.loop-self.invariant.takes c.in_ok-take_piece-2.ensures.ok;
  never_fewer = omega (arith, c.loop-self.invariant.never_fewer, c.take_piece-in-loop-self.ensures.never_fewer);
  reads = c.take_piece-in-loop-self.ensures.reads ∙ c.loop-self.invariant.reads;
}

pub returns-in_err-take_piece-2-clause-err : goal.returns-in_err-take_piece-2-clause-err
returns-in_err-take_piece-2-clause-err g c = on_err c.from_residual-in_err-take_piece-2.result
    (prefix_more c.loop-self.invariant.takes.0 c.args.self.now.host c.loop-self.self.host c.take_piece-in-loop-self.new.self.host c.args.self.now.outer c.loop-self.self.outer c.args.outs.now.items c.loop-self.outs.items c.take_piece-in-loop-self.new.outs.items
    (g.P.Keeper.shelf c.args.keeper.now)
    (g.P.Keeper.shelf c.loop-self.keeper)
    (g.P.Keeper.shelf c.take_piece-in-loop-self.new.keeper)
    c.loop-self.invariant.takes.1 c.in_err-take_piece-2.ensures.err)

pub returns-clause-ok : goal.returns-clause-ok
returns-clause-ok g c =
    all_taken c.args.self.now.host c.loop-self.self.host c.args.self.now.outer c.loop-self.self.outer c.args.outs.now.items c.loop-self.outs.items
    (g.P.Keeper.shelf c.args.keeper.now)
    (g.P.Keeper.shelf c.loop-self.keeper)
    (omega (arith, c.loop-self-test.false, c.to_host.ensures)) c.loop-self.invariant.takes
