use Rattle.std.proofs.Common.{◌∙◌}
use Rattle.include_world.proofs.DoneEvents.{still_flying}
use Rattle.include_world.proofs.world.IncludeWorld.land.Goals as goal

pub land-requires : goal.land-requires
land-requires g c = still_flying c.args.self.now c.drawn_by-drawn.result _ c.requires (c.self.view_is ∙ c.in_ok-hear_next.ensures.ok)
