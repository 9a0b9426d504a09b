-- Over lines that are said, the table has of each command what its line says, and each event of the host has its values in place.
use Rattle.std.proofs.Common.{[], Some, false, refl}
use Rattle.law_transcript.specs.Nodes.{listing_of}
use Rattle.world_model.specs.State.{first_machine}
use Rattle.world_lines.specs.Spoken.{after_all, transcript_of}
use Rattle.proof_audit.proofs.AnsweredOrders.{are-asked}
use Rattle.proof_audit.proofs.StoredByTable.{stores-directly}
use Rattle.proof_audit.proofs.StoringWalk.{lines-so}
use Rattle.proof_audit.proofs.tables.values_are_stored_directly.Goals as goal

pub returns : goal.returns
returns c = λ keys devices lines kinds done.
    let listing = listing_of devices in
    let m = first_machine keys (Some []) devices in
    let h = (after_all m lines).host.state in
    let transcript = transcript_of m lines in
    let first = c.the_machine_keeps_facts.ensures.first keys (Some []) devices in
    let are = c.lines_tell_what_nodes_list.ensures.spoken keys devices lines done in
    let tells = c.lines_tell_what_nodes_list.ensures.tell keys devices lines done in
    let known = c.interviews_give_what_is_known.ensures.lines listing [] m lines are tells (c.interviews_give_what_is_known.ensures.first listing keys) in
    let (facts, said) = c.answers_stand_after_their_lines.ensures.lines listing [] m lines first tt known are in
    let laws = c.laws_follow.ensures.laws transcript h facts in
    let asked = are-asked devices kinds false transcript (c.lines_are_answered.ensures.part keys devices lines done) in
    let so = lines-so c.tables_keep_orders.ensures.host c.tables_keep_orders.ensures.each c.events_keep_facts.ensures.each c.asides_keep_facts.ensures c.the_machine_keeps_facts.ensures.each [] m lines are
    (record { facts = first; stored = record { known = tt; are = refl } }) in
    stores-directly listing h.commands transcript laws asked said so.stored
