use Rattle.host_model.proofs.AllEvents.{kept_by, all_kept}
use Rattle.host_model.proofs.record_laws.events_do_what_their_records_do.Goals as goal

pub returns-clause-one : goal.returns-clause-one
returns-clause-one c = kept_by c.a_restart_needs_the_records_alone.ensures.others

pub returns-clause-all : goal.returns-clause-all
returns-clause-all c = all_kept c.a_restart_needs_the_records_alone.ensures.others c.facts_are_kept.ensures.each
