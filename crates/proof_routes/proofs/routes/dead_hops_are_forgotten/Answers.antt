-- What is known of the frames on the air, on the walk of networks, over the lines of a run.
use Rattle.std.proofs.Common.{[], Some}
use Rattle.proof_walk.specs.world_model.State.{first_machine}
use Rattle.proof_walk.specs.Walk.{both_know}
use Rattle.proof_walk.proofs.Over.{over}
use Rattle.proof_walk.proofs.Lines.{lines_stand}
use Rattle.law_wire.specs.Routes.{MayGo}
use Rattle.proof_routes.specs.Knowing.{KnowNetworks}
use Rattle.proof_routes.specs.Forgetting.{MayForget, KnowPassages}
use Rattle.proof_routes.proofs.routes.dead_hops_are_forgotten.Goals as goal

pub returns : goal.returns
returns c = λ keys texts devices lines are.
    lines_stand MayForget (both_know (KnowNetworks devices) KnowPassages)
    (over (MayGo devices) MayForget (KnowNetworks devices) KnowPassages (c.networks_go_on.ensures.walk devices) (c.frames_go_on.ensures.walk devices)) []
    (first_machine keys (Some texts) devices) lines are
    (c.networks_go_on.ensures.first keys texts devices, c.frames_go_on.ensures.first keys texts devices)
