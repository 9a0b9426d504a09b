-- The pipes hold no more than the transcript shows over all lines, so a unit is overrun only where there may be no room.
use Rattle.std.proofs.Common.{[]}
use Rattle.proof_walk.specs.world_lines.Spoken.{transcript_of}
use Rattle.proof_walk.specs.world_model.State.{first_machine}
use Rattle.proof_walk.proofs.Lists.{each-weaker}
use Rattle.proof_walk.proofs.Lines.{lines_stand}
use Rattle.proof_line.specs.Pipes.{KnowPipes, MayLack, MayTell}
use Rattle.proof_line.proofs.Piping.{tells_lack}
use Rattle.proof_line.proofs.pipes.lines_overrun_only_when_full.Goals as goal

pub returns : goal.returns
returns c = λ keys records devices lines are.
    each-weaker MayTell MayLack tells_lack [] (transcript_of (first_machine keys records devices) lines)
    (lines_stand MayTell KnowPipes c.pipes_go_on.ensures.walk [] (first_machine keys records devices) lines are (c.pipes_go_on.ensures.first keys records devices))
