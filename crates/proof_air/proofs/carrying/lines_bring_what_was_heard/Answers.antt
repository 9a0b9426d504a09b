-- What the walk knows of the frames of the chip is enough for the law.
use Rattle.std.proofs.Common.{[]}
use Rattle.proof_walk.specs.world_model.State.{first_machine}
use Rattle.law_wire.specs.law_transcript.Carrying.{MayBring}
use Rattle.proof_walk.specs.Walk.{both_know}
use Rattle.proof_walk.proofs.Lines.{lines_stand}
use Rattle.proof_walk.proofs.Over.{over}
use Rattle.proof_air.specs.Hearing.{MayHear, KnowAir}
use Rattle.proof_air.specs.Carrying.{KnowHandlers}
use Rattle.proof_air.proofs.carrying.lines_bring_what_was_heard.Goals as goal

pub returns : goal.returns
returns c = λ keys records devices lines are.
    let m = first_machine keys records devices in
    lines_stand MayBring (both_know KnowAir KnowHandlers) (over MayHear MayBring KnowAir KnowHandlers c.history_goes_on.ensures.walk c.handlers_go_on.ensures.walk) [] m lines are
    (c.history_goes_on.ensures.first keys records devices, c.handlers_go_on.ensures.first keys records devices)
