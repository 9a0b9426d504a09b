-- Bytes are cleared only at restarts, so what stands directly after these is all of it.
use Rattle.proof_walk.specs.world_lines.Spoken.{transcript_of}
use Rattle.proof_walk.specs.world_model.State.{first_machine}
use Rattle.proof_line.proofs.Clearing.{clears_alone}
use Rattle.proof_line.proofs.pipes.lines_clear_nowhere_else.Goals as goal

pub returns : goal.returns
returns c = λ keys records devices lines are whole.
    clears_alone whole (transcript_of (first_machine keys records devices) lines) (c.lines_clear_at_restarts.ensures keys records devices lines are)
