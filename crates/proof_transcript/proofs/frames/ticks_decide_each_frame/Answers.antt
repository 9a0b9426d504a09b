-- Nothing was on the air at first, and so frames have their fates in turn over all lines that repeat none, and over all others where what is repeated is fresh.
use Rattle.std.proofs.Common.{[]}
use Rattle.proof_air.specs.world_model.State.{first_machine}
use Rattle.proof_air.specs.world_lines.Spoken.{transcript_of}
use Rattle.proof_transcript.proofs.Turning.{lines_fare_once, lines_fare_named, each_fares, nothing_flies}
use Rattle.proof_transcript.proofs.frames.ticks_decide_each_frame.Goals as goal

pub returns-clause-once : goal.returns-clause-once
returns-clause-once c = λ keys records devices lines none are. lines_fare_once (first_machine keys records devices) lines are none [] nothing_flies

pub returns-clause-again : goal.returns-clause-again
returns-clause-again c = λ keys records devices lines are begins.
    each_fares [] (transcript_of (first_machine keys records devices) lines) (lines_fare_named (first_machine keys records devices) lines are [] nothing_flies)
    (c.lines_repeat_what_is_fresh.ensures keys records devices lines are (c.lines_number_frames.ensures keys records devices lines are) begins)
