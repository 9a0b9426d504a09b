-- The networks of air and chip are those of the transcript between lines.
use Rattle.std.proofs.Common.{◌∙◌}
use Rattle.std.specs.Prelude.{Some, []}
use Rattle.law_wire.specs.Routes.{MayGo}
use Rattle.proof_chip.specs.proof_line.world_model.State.{first_machine}
use Rattle.proof_chip.specs.proof_world.world_lines.Spoken.{after_all, transcript_of}
use Rattle.proof_chip.proofs.Lines.{lines_lead}
use Rattle.proof_devices.specs.proof_routes.Knowing.{KnowNetworks}
use Rattle.proof_ready.proofs.nodes.joined_nodes_are_there.Goals as goal

pub returns : goal.returns
returns c = λ keys devices lines are whole n joined.
    let m = first_machine keys (Some []) devices in
    let knows =
    (lines_lead (MayGo devices) (KnowNetworks devices) (c.networks_go_on.ensures.walk devices) [] m lines are whole (c.networks_go_on.ensures.first keys [] devices)).1 in
    let tie = c.networks_go_on.ensures.tie devices (transcript_of m lines) (after_all m lines) knows in
    let within = tie.within n joined in
    record { from = within.0; to = within.1; in_air = tie.joined n ∙ joined }
