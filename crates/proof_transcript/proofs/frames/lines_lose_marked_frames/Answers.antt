-- Nothing was marked or sent at first, and so no marked frame is heard or unheard over all lines.
use Rattle.std.proofs.Common.{[]}
use Rattle.proof_air.specs.world_model.State.{first_machine}
use Rattle.proof_transcript.proofs.MarkedFrames.{nothing_marked}
use Rattle.proof_transcript.proofs.LostFrames.{lines_lose}
use Rattle.proof_transcript.proofs.frames.lines_lose_marked_frames.Goals as goal

pub returns : goal.returns
returns c = λ keys records devices lines are. lines_lose (first_machine keys records devices) lines are [] nothing_marked
