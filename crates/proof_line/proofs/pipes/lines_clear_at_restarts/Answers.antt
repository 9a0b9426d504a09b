-- What a restart loses was on its way, and the pipes hold no more than the transcript shows.
use Rattle.std.proofs.Common.{[]}
use Rattle.proof_walk.specs.world_lines.Spoken.{transcript_of}
use Rattle.proof_walk.specs.world_model.State.{first_machine}
use Rattle.proof_walk.proofs.Lists.{each-weaker}
use Rattle.proof_walk.proofs.Lines.{lines_stand}
use Rattle.proof_line.specs.Pipes.{KnowPipes, MayClear, MayTell}
use Rattle.proof_line.proofs.Piping.{tells_clear}
use Rattle.proof_line.proofs.pipes.lines_clear_at_restarts.Goals as goal

pub returns : goal.returns
returns c = λ keys records devices lines are.
    each-weaker MayTell MayClear tells_clear [] (transcript_of (first_machine keys records devices) lines)
    (lines_stand MayTell KnowPipes c.pipes_go_on.ensures.walk [] (first_machine keys records devices) lines are (c.pipes_go_on.ensures.first keys records devices))
