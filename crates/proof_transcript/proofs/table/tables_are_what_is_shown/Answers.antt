use Rattle.std.proofs.Common.{[], Some}
use Rattle.law_host.specs.law_transcript.Nodes.{always, listing_of}
use Rattle.proof_air.specs.world_model.State.{first_machine}
use Rattle.proof_air.specs.world_lines.Spoken.{after_all, transcript_of}
use Rattle.proof_transcript.proofs.LastTable.{table_is}
use Rattle.proof_transcript.proofs.table.tables_are_what_is_shown.Goals as goal

pub returns : goal.returns
returns c = λ keys devices lines are whole.
    let m = first_machine keys (Some []) devices in
    let listing = listing_of devices in
    let lists = c.lines_tell_what_nodes_list.ensures in
    let spoken = lists.spoken keys devices lines are in
    let tell = lists.tell keys devices lines are in
    let known = c.interviews_give_what_is_known.ensures.lines listing [] m lines spoken tell (c.interviews_give_what_is_known.ensures.first listing keys) in
    let (facts, said) = c.answers_stand_after_their_lines.ensures.lines listing [] m lines (c.the_machine_keeps_facts.ensures.first keys (Some []) devices) tt known spoken in
    let end = after_all m lines in
    let past = transcript_of m lines in
    table_is (always listing) past end (c.what_is_told.ensures keys devices lines are whole) (c.laws_follow.ensures.laws past end.host.state facts) (c.laws_follow.ensures.tables past end.host.state facts)
    (c.laws_follow.ensures.stores past end.host.state facts) (λ node. c.runs_have_their_tables.ensures listing keys (Some []) devices lines node spoken tell)
