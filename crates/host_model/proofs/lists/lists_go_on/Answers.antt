-- Lists of events that happened one after another.
use Rattle.host_model.proofs.EventLists.{after_all-append, outs_all-append, records_all-append, may_all-append, all_in_range, did_nothing, did_one, did_both}
use Rattle.host_model.proofs.lists.lists_go_on.Goals as goal

pub returns-clause-state : goal.returns-clause-state
returns-clause-state c = after_all-append

pub returns-clause-outs : goal.returns-clause-outs
returns-clause-outs c = outs_all-append

pub returns-clause-records : goal.returns-clause-records
returns-clause-records c = records_all-append

pub returns-clause-may : goal.returns-clause-may
returns-clause-may c = may_all-append

pub returns-clause-in_range : goal.returns-clause-in_range
returns-clause-in_range c = all_in_range

pub returns-clause-nothing : goal.returns-clause-nothing
returns-clause-nothing c = did_nothing

pub returns-clause-one : goal.returns-clause-one
returns-clause-one c = did_one

pub returns-clause-both : goal.returns-clause-both
returns-clause-both c = did_both
