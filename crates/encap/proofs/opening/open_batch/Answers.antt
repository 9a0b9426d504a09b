use Rattle.std.proofs.lemmas.Result.{err_from_is_err_and}
use Rattle.encap.proofs.OpenLemmas.{batch_answer, list_of_batch}
use Rattle.encap.proofs.opening.open_batch.Goals as goal

pub returns-in_err-check_commands-clause-fault : goal.returns-in_err-check_commands-clause-fault
returns-in_err-check_commands-clause-fault c =
    let batch = c.in_ok-check_batch.ensures.batch in
    let p = err_from_is_err_and c.from_residual-in_err-check_commands.result c.from_residual-in_err-check_commands.ensures.1 in
    rw (p.1, p.2) (batch_answer c.args.inner.now batch.0 c.in_err-check_commands.field-0.0 batch.1
    (c.in_err-check_commands.ensures.fault batch.0 (list_of_batch batch.0 c.args.inner.now batch.1)))
