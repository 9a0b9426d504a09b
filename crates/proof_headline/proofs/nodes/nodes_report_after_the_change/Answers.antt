-- Where each success that the host is told of a node is true, it stands after the change.
use Rattle.std.proofs.Common.{[], Some}
use Rattle.proof_headline.proofs.nodes.nodes_report_after_the_change.Goals as goal

pub returns : goal.returns
returns c = λ keys devices lines node is unchanged done.
    c.runs_report_after_the_change.ensures.one keys (Some []) devices lines node unchanged (c.lines_tell_what_nodes_list.ensures.spoken keys devices lines done)
    (c.nodes_are_tied.ensures.truth keys devices lines node is done)
