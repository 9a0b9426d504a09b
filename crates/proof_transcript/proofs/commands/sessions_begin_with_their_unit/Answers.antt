-- The lines were said, and each host starts well: so sessions begin with their units.
use Rattle.proof_air.specs.world_model.State.{first_machine}
use Rattle.proof_spoken.proofs.ToldLines.{are_spoken}
use Rattle.proof_transcript.proofs.AttemptStarts.{lines_begin_with_units}
use Rattle.proof_transcript.proofs.commands.sessions_begin_with_their_unit.Goals as goal

pub returns : goal.returns
returns c = λ keys records devices lines are well.
    lines_begin_with_units c.attempts_have_what_they_give.ensures.first_payload c.callback_ids.ensures.from_one c.callback_ids.ensures.to_max c.the_machine_keeps_facts.ensures.each c.asides_keep_facts.ensures
    (first_machine keys records devices) lines (are_spoken (first_machine keys records devices) lines are well) (c.the_machine_keeps_facts.ensures.first keys records devices)
