-- Lists of events that happened one after another.
use Rattle.outside_model.proofs.EventLists.{happens_all-append, entries_all-append, may_all-append, ran_nothing, ran_both}
use Rattle.outside_model.proofs.laws.outer_lists_go_on.Goals as goal

pub returns-clause-state : goal.returns-clause-state
returns-clause-state c = happens_all-append

pub returns-clause-entries : goal.returns-clause-entries
returns-clause-entries c = entries_all-append

pub returns-clause-may : goal.returns-clause-may
returns-clause-may c = may_all-append

pub returns-clause-nothing : goal.returns-clause-nothing
returns-clause-nothing c = ran_nothing

pub returns-clause-both : goal.returns-clause-both
returns-clause-both c = ran_both
