use Rattle.std.proofs.Common.{arith}
use Rattle.run_lines.proofs.Pieces.{OnErr-always}
use Rattle.run_lines.proofs.Pieces.{written_within, written_prefix, written_more}
use Rattle.run_lines.proofs.writing.write_piece.Goals as goal

pub returns-in_err-done-clause-prefix : goal.returns-in_err-done-clause-prefix
returns-in_err-done-clause-prefix g c =
    OnErr-always _ _ (written_prefix _ _ _ c.loop-done.done c.args.piece.now c.loop-done.invariant.written c.in_err-done.ensures.appends)

pub loop-done-preserved : goal.loop-done-preserved
loop-done-preserved g c = record {
  within = written_within c.loop-done.done c.in_ok-done.field-0 c.args.piece.now c.loop-done.invariant.within c.in_ok-done.ensures.at_most;
  written = written_more _ _ _ c.loop-done.done c.in_ok-done.field-0 c.args.piece.now c.loop-done.invariant.written c.in_ok-done.ensures.appends;
  same = omega (arith, c.loop-done.invariant.same, c.in_ok-done.ensures.uncounted);
}
