use Rattle.host_model.proofs.Recorded.{legal_by, all_legal}
use Rattle.host_model.proofs.record_laws.records_of_events_are_legal.Goals as goal

pub returns-clause-one : goal.returns-clause-one
returns-clause-one c = legal_by

pub returns-clause-all : goal.returns-clause-all
returns-clause-all c = all_legal c.a_restart_needs_the_records_alone.ensures.others c.facts_are_kept.ensures.each
