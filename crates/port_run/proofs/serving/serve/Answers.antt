use Rattle.port_run.proofs.Ends.{unchanged, ended_unread, ended}
use Rattle.port_run.proofs.serving.serve.Goals as goal

pub returns-in-Err-clause-ended : goal.returns-in-Err-clause-ended
returns-in-Err-clause-ended g c = ended_unread _ _ _ _ _ _ _ _ c.unread_of.ensures c.in-Err.ensures.err (unchanged _ _ _)

pub returns-clause-ended : goal.returns-clause-ended
returns-clause-ended g c =
    ended _ _ _ c.in-Ok.lines.items c.in-Ok.ensures.read c.in-Ok-open.host c.run_all-run.new.host _ _ _ _ _ _ _ _ c.in-Ok-open.ensures.opens c.open.ensures.records c.open.ensures.never_falls
    c.as_slice.result.now c.as_slice.ensures c.run_all-run.new.answers.items c.as_slice-2.result.now c.as_slice-2.ensures c.end_of.result c.run_all-run.result c.end_of.ensures c.run_all-run.ensures.ok c.run_all-run.ensures.err
