use Rattle.run_tools.proofs.Growing.{stops-no_memory}
use Rattle.run_tools.proofs.input.read_input.Goals as goal

pub returns-then-is_err-clause-err : goal.returns-then-is_err-clause-err
returns-then-is_err-clause-err g c = stops-no_memory _ _ _ _ _ c.loop-piece.invariant.read c.in-Ok.ensures.consumes.0
