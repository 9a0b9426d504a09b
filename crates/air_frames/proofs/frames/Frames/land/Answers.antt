use Rattle.air_frames.proofs.Kept.{landed_state}
use Rattle.air_frames.proofs.frames.Frames.land.Goals as goal

pub returns-clause-state : goal.returns-clause-state
returns-clause-state c =
    rw (← c.self.view_is)
    (landed_state c.self.inside.sent c.self.inside.landed _ _ _ _ (rw (← c.self.view_is) at c.requires) c.self.invariant.ring c.self.invariant.late c.pop_front-landed.ensures.rest)
