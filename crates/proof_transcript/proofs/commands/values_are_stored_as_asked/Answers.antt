use Rattle.std.proofs.Common.{[], Some}
use Rattle.law_host.specs.law_transcript.Nodes.{listing_of, always}
use Rattle.proof_air.specs.world_model.State.{first_machine}
use Rattle.proof_air.specs.world_lines.Spoken.{after_all, transcript_of}
use Rattle.proof_transcript.proofs.StoredValues.{stores_confirmed}
use Rattle.proof_transcript.proofs.commands.values_are_stored_as_asked.Goals as goal

pub returns : goal.returns
returns c = λ keys devices lines done.
    let listing = listing_of devices in
    let m = first_machine keys (Some []) devices in
    let h = (after_all m lines).host.state in
    let transcript = transcript_of m lines in
    let are = c.lines_tell_what_nodes_list.ensures.spoken keys devices lines done in
    let tells = c.lines_tell_what_nodes_list.ensures.tell keys devices lines done in
    let known = c.interviews_give_what_is_known.ensures.lines listing [] m lines are tells (c.interviews_give_what_is_known.ensures.first listing keys) in
    let (facts, said) = c.answers_stand_after_their_lines.ensures.lines listing [] m lines (c.the_machine_keeps_facts.ensures.first keys (Some []) devices) tt known are in
    stores_confirmed (always listing) h transcript (λ node. c.tables_are_what_was_said.ensures (always listing) transcript h node facts said)
    (c.laws_follow.ensures.tables transcript h facts) (c.laws_follow.ensures.stores transcript h facts)
