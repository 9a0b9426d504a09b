-- Each entry is an answer as its line has one, and each acceptance stands after its order.
use Rattle.std.specs.Prelude.{List, Some, []}
use Rattle.law_wire.specs.law_transcript.Nodes.{always, listing_of}
use Rattle.proof_rests.specs.proof_requests.host_model.State.{Command}
use Rattle.proof_rests.specs.proof_attempts.world_model.State.{Machine, first_machine}
use Rattle.proof_rests.specs.world_lines.Spoken.{after_all, transcript_of}
use Rattle.proof_ready.proofs.LetIn.{each_let_in}
use Rattle.proof_ready.proofs.accepting.orders_are_let_in.Goals as goal

pub returns : goal.returns
returns c = λ keys devices lines are.
    let m : Machine = first_machine keys (Some []) devices in
    let commands : List Command = (after_all m lines).host.state.commands in
    let spoken = c.lines_tell_what_nodes_list.ensures.spoken keys devices lines are in
    let tells = c.lines_tell_what_nodes_list.ensures.tell keys devices lines are in
    let knows = c.interviews_give_what_is_known.ensures.lines (listing_of devices) [] m lines spoken tells (c.interviews_give_what_is_known.ensures.first (listing_of devices) keys) in
    let both = c.answers_stand_after_their_lines.ensures.lines (listing_of devices) [] m lines (c.the_machine_keeps_facts.ensures.first keys (Some []) devices) tt knows spoken in (
      each_let_in devices commands [] (transcript_of m lines) both.1 (c.lines_are_answered.ensures.part keys devices lines are).between,
      λ n. (c.tables_are_what_was_said.ensures (always (listing_of devices)) (transcript_of m lines) (after_all m lines).host.state n both.0 both.1).numbers,
    )
