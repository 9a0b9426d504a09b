-- Such a node is tied, and what follows of that is the headline.
use Rattle.std.proofs.Common.{subst}
use Rattle.host_model.specs.State.{HostState}
use Rattle.proof_spoken.specs.proof_once.Tied.{AreTied}
use Rattle.proof_headline.proofs.nodes.nodes_have_the_headline.Goals as goal

pub returns : goal.returns
returns c = λ keys devices lines further node device is unchanged done on same found supervised.
    c.lines_have_the_headline.ensures.one keys devices lines further node device unchanged done found supervised
    (subst (λ (h : HostState). AreTied h node device) same (c.nodes_are_tied.ensures.tied keys devices further node device is on found))
