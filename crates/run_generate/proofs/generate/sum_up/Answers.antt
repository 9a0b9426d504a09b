-- In a world at its beginning.
use Rattle.std.proofs.lemmas.Result.{IfOk-weaker}
use Rattle.run_lines.proofs.Pieces.{OnErr-always}
use Rattle.run_generate.proofs.Summing.{not_begun}
use Rattle.run_generate.proofs.generate.sum_up.Goals as goal

pub returns-clause-ok : goal.returns-clause-ok
returns-clause-ok g c = IfOk-weaker c.run_made.result _ _ (λ text s. s c.args.key c.in_ok-world.ensures) c.run_made.ensures.ok

pub returns-in_err-world-clause-err : goal.returns-in_err-world-clause-err
returns-in_err-world-clause-err g c = OnErr-always _ _ (not_begun c.args.hundreds c.args.key _ _)
