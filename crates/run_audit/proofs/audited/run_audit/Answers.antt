use Rattle.run_audit.proofs.Done.{done-well}
use Rattle.run_audit.proofs.audited.run_audit.Goals as goal

pub returns-clause-complete : goal.returns-clause-complete
returns-clause-complete g c good no-read no-write =
    done-well c.audit_source.result _ _ _ _ c.one_answer.ensures c.audit_source.ensures.audited good (λ is. no-read (c.audit_source.ensures.read_fault is))
    (λ is. no-write (c.audit_source.ensures.write_fault is))
