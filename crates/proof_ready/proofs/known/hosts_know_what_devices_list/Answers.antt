-- Each interview that ended well told what the device lists.
use Rattle.std.specs.Prelude.{Some, []}
use Rattle.law_wire.specs.law_transcript.Nodes.{listing_of}
use Rattle.proof_chip.specs.proof_line.world_model.State.{first_machine}
use Rattle.proof_ready.proofs.known.hosts_know_what_devices_list.Goals as goal

pub returns : goal.returns
returns c = λ keys devices lines are whole n.
    c.interviews_give_what_is_known.ensures.end (listing_of devices) [] (first_machine keys (Some []) devices) lines
    (c.lines_tell_what_nodes_list.ensures.spoken keys devices lines are) (c.lines_tell_what_nodes_list.ensures.tell keys devices lines are)
    (c.interviews_give_what_is_known.ensures.first (listing_of devices) keys) n
