-- Nothing was sent at first, and so frames are numbered over all lines.
use Rattle.std.proofs.Common.{[], refl}
use Rattle.air_frames.specs.Frames.{no_frames}
use Rattle.proof_air.specs.outside_model.State.{first_outer}
use Rattle.proof_air.specs.world_model.State.{first_machine}
use Rattle.proof_transcript.proofs.FrameNumbers.{lines_number}
use Rattle.proof_transcript.proofs.frames.lines_number_frames.Goals as goal

pub returns : goal.returns
unfolding first_outer no_frames
returns c = λ keys records devices lines are. (lines_number (first_machine keys records devices) lines are [] refl).0
