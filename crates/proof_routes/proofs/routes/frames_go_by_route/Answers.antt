-- The walk of networks over the lines of a run.
use Rattle.std.proofs.Common.{[], Some}
use Rattle.proof_walk.specs.world_model.State.{first_machine}
use Rattle.law_wire.specs.Routes.{MayGo}
use Rattle.proof_walk.proofs.Lines.{lines_stand}
use Rattle.proof_routes.specs.Knowing.{KnowNetworks}
use Rattle.proof_routes.proofs.routes.frames_go_by_route.Goals as goal

pub returns : goal.returns
returns c = λ keys texts devices lines are.
    lines_stand (MayGo devices) (KnowNetworks devices) (c.networks_go_on.ensures.walk devices) [] (first_machine keys (Some texts) devices) lines are (c.networks_go_on.ensures.first keys texts devices)
