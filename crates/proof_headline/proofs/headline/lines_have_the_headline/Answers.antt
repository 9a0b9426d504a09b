-- Interviews of such lines tell what nodes list, and hosts that start again have what was recorded.
use Rattle.std.proofs.Common.{[], Some}
use Rattle.proof_headline.proofs.headline.lines_have_the_headline.Goals as goal

pub returns-clause-one : goal.returns-clause-one
returns-clause-one c = λ keys devices lines further node device unchanged are is knows tied.
    let lists = c.lines_tell_what_nodes_list.ensures in
    c.runs_have_the_headline.ensures.one keys (Some []) devices lines further node device unchanged (lists.spoken keys devices lines are) (lists.tell keys devices lines are) is knows tied

pub returns-clause-whole : goal.returns-clause-whole
returns-clause-whole c = λ keys devices lines further unchanged are true tied.
    let lists = c.lines_tell_what_nodes_list.ensures in
    c.runs_have_the_headline.ensures.whole keys (Some []) devices lines further unchanged (lists.spoken keys devices lines are) true (lists.tell keys devices lines are) tied
