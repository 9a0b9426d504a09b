-- What is fresh by the history is fresh by the transcript.
use Rattle.std.proofs.Common.{[]}
use Rattle.proof_walk.specs.world_model.State.{first_machine}
use Rattle.proof_walk.specs.world_lines.Spoken.{transcript_of}
use Rattle.proof_walk.proofs.Lines.{lines_stand}
use Rattle.proof_air.specs.Hearing.{KnowAir, MayHear}
use Rattle.proof_air.proofs.Fresh.{repeats_fresh}
use Rattle.proof_air.proofs.repeats.lines_repeat_what_is_fresh.Goals as goal

pub returns : goal.returns
returns c = λ keys records devices lines are airs begins.
    let m = first_machine keys records devices in
    repeats_fresh [] (transcript_of m lines) airs begins (lines_stand MayHear KnowAir c.history_goes_on.ensures.walk [] m lines are (c.history_goes_on.ensures.first keys records devices))
