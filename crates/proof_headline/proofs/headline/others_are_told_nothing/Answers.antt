use Rattle.std.proofs.Common.{[], inl}
use Rattle.law_transcript.specs.Nodes.{listing_of}
use Rattle.world_model.specs.State.{first_machine}
use Rattle.proof_headline.proofs.Unasked.{lines_told, none_at_first, unlisted}
use Rattle.proof_headline.proofs.headline.others_are_told_nothing.Goals as goal

pub returns : goal.returns
returns c = λ keys records devices lines node are tells other.
    let m = first_machine keys records devices in
    lines_told node c.events_keep_facts.ensures.each c.the_machine_keeps_facts.ensures.each c.the_machine_keeps_facts.ensures.all (listing_of devices) (λ same. other (inl same)) (unlisted devices node other) [] [] m lines are
    (c.interviews_give_what_is_known.ensures.lines (listing_of devices) [] m lines are tells (c.interviews_give_what_is_known.ensures.first (listing_of devices) keys)) (c.the_machine_keeps_facts.ensures.first keys records devices)
    (none_at_first node)
