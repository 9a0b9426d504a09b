-- Chip and air know the same nodes, which have the numbers of nodes by the transcript.
use Rattle.std.proofs.Common.{List, [], sym, ap, ◌∙◌, arith}
use Rattle.std.specs.Prelude.{Bool, Some}
use Rattle.law_wire.specs.Routes.{MayGo}
use Rattle.proof_chip.specs.proof_line.world_model.State.{first_machine}
use Rattle.proof_chip.specs.proof_world.world_lines.Spoken.{after_all, transcript_of}
use Rattle.proof_chip.specs.proof_world.world_lines.chip_sim.Nodes.{is_marked}
use Rattle.proof_chip.proofs.Lines.{lines_lead}
use Rattle.proof_chip.specs.Knowing.{AnyEntry, KnownNodes}
use Rattle.proof_devices.specs.proof_routes.Knowing.{KnowNetworks}
use Rattle.proof_ready.proofs.reach.lines_join_the_same_nodes.Goals as goal

pub returns : goal.returns
returns c = λ keys devices lines are whole n joined.
    let m = first_machine keys (Some []) devices in
    let networks = (lines_lead (MayGo devices) (KnowNetworks devices) (c.networks_go_on.ensures.walk devices) [] m lines are whole (c.networks_go_on.ensures.first keys [] devices)).1 in
    let tie = c.networks_go_on.ensures.tie devices (transcript_of m lines) (after_all m lines) networks in
    let nodes = (lines_lead AnyEntry (λ here past m. KnownNodes past m) c.nodes_go_on.ensures.walk [] m lines are whole (c.nodes_go_on.ensures.first keys (Some []) devices)).1 in
    let within = tie.within n (sym (tie.joined n) ∙ joined) in
    let from = within.0 in
    let to = within.1 in
    record {
      is_node = (omega (arith, from), omega (arith, to));
      is_joined = ap (λ (marks : List Bool). is_marked marks n) (c.nodes_go_on.ensures.same (transcript_of m lines) (after_all m lines) nodes) ∙ joined;
    }
