-- The session of each such command began in the stretch, and its lines set no device by hand.
use Rattle.std.proofs.Common.{◌≡◌, List, [], ◌++◌, Some, true, subst}
use Rattle.zw_text.specs.declared.entry.Entry.{Entry}
use Rattle.zw_text.specs.Transcript.{outcome}
use Rattle.law_transcript.specs.Nodes.{listing_of}
use Rattle.law_time.specs.Sessions.{is_final}
use Rattle.world_model.specs.State.{Machine, first_machine}
use Rattle.world_lines.specs.Spoken.{after_all, transcript_of}
use Rattle.proof_host.specs.Facts.{Facts}
use Rattle.proof_in_time.proofs.BegunInside.{begun_inside}
use Rattle.proof_in_time.proofs.Endings.{lines_keep_facts}
use Rattle.proof_in_time.proofs.HandFree.{lines_free}
use Rattle.proof_in_time.proofs.Spoken.{done_first, done_later, told_both}
use Rattle.proof_in_time.proofs.verdicts.stretches_end_as_judged.Goals as goal

pub returns : goal.returns
returns c = λ n command keys devices before lines judged are quiet own over.
    let m : Machine = first_machine keys (Some []) devices in
    let start : Machine = after_all m before in
    let T0 : List Entry = transcript_of m before in
    let T1 : List Entry = transcript_of start lines in
    let first = done_first m before lines are in
    let facts0 : Facts T0 start.host.state =
    lines_keep_facts c.asides_keep_facts.ensures c.the_machine_keeps_facts.ensures.all [] m before (c.lines_tell_what_nodes_list.ensures.spoken keys devices before first) (c.the_machine_keeps_facts.ensures.first keys (Some []) devices) in
    let facts : Facts (T0 ++ T1) (after_all m (before ++ lines)).host.state =
    subst (λ (T : List Entry). Facts T (after_all m (before ++ lines)).host.state) (told_both m before lines)
    (lines_keep_facts c.asides_keep_facts.ensures c.the_machine_keeps_facts.ensures.all [] m (before ++ lines) (c.lines_tell_what_nodes_list.ensures.spoken keys devices (before ++ lines) are) (c.the_machine_keeps_facts.ensures.first keys (Some []) devices)) in
    let numbers = (c.runs_have_their_tables.ensures (listing_of devices) keys (Some []) devices before n (c.lines_tell_what_nodes_list.ensures.spoken keys devices before first) (c.lines_tell_what_nodes_list.ensures.tell keys devices before first)).numbers in
    let begun =
    begun_inside n command T0 T1 start.host.state (after_all m (before ++ lines)).host.state facts0 (c.laws_follow.ensures.laws T0 start.host.state facts0) facts numbers own
    (subst (λ (T : List Entry). is_final (outcome command T) ≡ true) (told_both m before lines) over) in
    c.outcomes_are_as_judged.ensures n command keys devices before lines judged (lines_free n start lines (done_later m before lines are) quiet) are begun over
