use Rattle.std.proofs.Common.{List, ℕ, true, subst, sym}
use Rattle.std.proofs.lemmas.Result.{err_from_is_err_and}
use Rattle.encap.specs.Wraps.{AllCommands}
use Rattle.encap.proofs.BatchLemmas.{list_end, one_judged, one_refused}
use Rattle.encap.proofs.batch.check_commands.Goals as goal

pub loop-command-preserved : goal.loop-command-preserved
loop-command-preserved c = λ commands is.
    let kept = c.loop-command.invariant commands is in
    one_judged kept.0 c.loop-command.rest.now c.in-Some.command.now c.in-Some.after.now commands kept.1 c.in-Some.ensures.split c.in_ok-check_command.ensures.command kept.2 kept.3

pub returns-in_err-check_command-clause-fault : goal.returns-in_err-check_command-clause-fault
returns-in_err-check_command-clause-fault c = λ commands is.
    let kept = c.loop-command.invariant commands is in
    let p = err_from_is_err_and c.from_residual.result c.from_residual.ensures.1 in
    rw (p.1, p.2) (kept.3 c.in_err-check_command.field-0.0 (one_refused kept.0 c.loop-command.rest.now c.in-Some.command.now c.in-Some.after.now c.in_err-check_command.field-0.0 kept.1 c.in-Some.ensures.split c.in_err-check_command.ensures.fault))

pub returns-clause-commands : goal.returns-clause-commands
returns-clause-commands c = λ commands is.
    let kept = c.loop-command.invariant commands is in
    kept.2 (subst (λ (x : List (List ℕ)). AllCommands true x) (sym (list_end kept.0 c.loop-command.rest.now kept.1 c.in_default.ensures.short)) tt)
