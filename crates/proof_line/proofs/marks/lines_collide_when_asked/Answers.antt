-- The count of collisions holds over all lines.
use Rattle.std.proofs.Common.{[]}
use Rattle.law_wire.specs.Marks.{MayCollide}
use Rattle.proof_walk.specs.world_model.State.{first_machine}
use Rattle.proof_walk.proofs.Lines.{lines_stand}
use Rattle.proof_line.specs.Collisions.{KnowCollisions}
use Rattle.proof_line.proofs.marks.lines_collide_when_asked.Goals as goal

pub returns : goal.returns
returns c = λ keys records devices lines are.
    lines_stand MayCollide KnowCollisions c.collisions_go_on.ensures.walk [] (first_machine keys records devices) lines are (c.collisions_go_on.ensures.first keys records devices)
