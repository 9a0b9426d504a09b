-- They are those for which a command waits, or is accepted in it; and each device lists what it did at first.
use Rattle.std.proofs.Common.{◌≡◌, ℕ, ◌≤◌, true}
use Rattle.std.specs.Prelude.{List, Some, []}
use Rattle.law_wire.specs.law_transcript.Nodes.{is_joined}
use Rattle.law_time.specs.Stretches.{workers}
use Rattle.proof_rests.specs.proof_attempts.proof_host.device_sim.State.{State}
use Rattle.proof_chip.specs.proof_line.world_model.State.{first_machine}
use Rattle.proof_chip.specs.proof_world.world_lines.Spoken.{after_all, transcript_of}
use Rattle.proof_ready.specs.Ready.{marks_of}
use Rattle.proof_ready.proofs.Reading.{are_so, known_are, known_before, workers_are}
use Rattle.proof_ready.proofs.known.workers_are_known.Goals as goal

pub returns : goal.returns
returns c = λ keys devices lines are whole key stretch quiet fit.
    let m = first_machine keys (Some []) devices in
    let past = transcript_of m lines in
    let now : List State = (after_all m lines).outside.devices in
    let same = c.devices_are_the_same.ensures keys devices lines are whole in
    let within : (n : ℕ) → is_joined past n ≡ true → n ≤ 232 = λ n joined. (c.joined_nodes_are_there.ensures keys devices lines are whole n joined).to in (
      workers_are key now past stretch quiet fit within,
      known_before (marks_of (workers past stretch)) past devices now same (known_are key now past stretch quiet fit within),
      are_so key now past stretch quiet fit within devices same,
    )
