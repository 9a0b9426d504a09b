use Rattle.std.proofs.Common.{refl}
use Rattle.host_model.specs.Opening.{restored_all}
use Rattle.host_model.proofs.Fold.{restored_all-append, all_alone, all_facts}
use Rattle.host_model.proofs.opening.legal_records_restore_the_host.Goals as goal

pub returns-clause-holds : goal.returns-clause-holds
returns-clause-holds c = all_alone c.facts_are_kept.ensures.each c.facts_of_all_are_kept.ensures.each c.a_restart_needs_the_records_alone.ensures.others c.facts_are_kept.ensures.first

pub returns-clause-facts : goal.returns-clause-facts
returns-clause-facts c = all_facts c.facts_are_kept.ensures.each c.facts_of_all_are_kept.ensures.each c.a_restart_needs_the_records_alone.ensures.others c.facts_are_kept.ensures.first

pub returns-clause-more : goal.returns-clause-more
returns-clause-more c = restored_all-append

pub returns-clause-nothing : goal.returns-clause-nothing
unfolding restored_all
returns-clause-nothing c = λ h. refl

pub returns-clause-one : goal.returns-clause-one
unfolding restored_all
returns-clause-one c = λ h one. refl
