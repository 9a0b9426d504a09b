-- No sleeper that was interviewed counts as awake.
use Rattle.std.proofs.Common.{ap, arith}
use Rattle.std.specs.Prelude.{Option, Some, [], is_some, List, ℕ}
use Rattle.law_wire.specs.law_transcript.Nodes.{always, listing_of}
use Rattle.proof_chip.specs.proof_line.world_model.State.{first_machine}
use Rattle.proof_chip.specs.proof_world.world_lines.Spoken.{after_all, transcript_of}
use Rattle.proof_ready.proofs.Listening.{known_list}
use Rattle.proof_ready.proofs.Stillness.{not_up}
use Rattle.proof_ready.proofs.ready.sleepers_are_asleep.Goals as goal

pub returns : goal.returns
returns c = λ keys devices lines are whole listing still n joined known sleeps.
    let m = first_machine keys (Some []) devices in
    let past = transcript_of m lines in
    let there = c.joined_nodes_are_there.ensures keys devices lines are whole n joined in
    not_up listing (always (listing_of devices)) past (after_all m lines).host.state n
    (c.calm_hosts_are_done.ensures.told keys devices lines are whole n (omega (arith, there.from)) there.to) sleeps
    (ap (λ (o : Option (List ℕ)). is_some o) (known_list devices past n known)) (still.asleep n joined)
