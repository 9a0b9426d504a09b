-- What the air refuses to repeat is refused by the transcript.
use Rattle.std.proofs.Common.{[], append-nil, subst, sym, ◌∙◌}
use Rattle.std.specs.List.{AllByRecursion}
use Rattle.proof_walk.specs.world_model.State.{first_machine}
use Rattle.proof_walk.specs.world_lines.Spoken.{after_all, transcript_of}
use Rattle.proof_walk.proofs.Lines.{lines_lead}
use Rattle.proof_air.specs.Hearing.{KnowAir, MayHear}
use Rattle.proof_air.specs.Logs.{IsApart, log_of}
use Rattle.proof_air.proofs.Fresh.{same_reason}
use Rattle.proof_air.proofs.Hearing.{same_refusal}
use Rattle.proof_air.proofs.Logs.{plain_apart}
use Rattle.proof_air.proofs.repeats.lines_refuse_what_is_old.Goals as goal

pub returns : goal.returns
returns c = λ keys records devices lines are whole airs begins number.
    let m = first_machine keys records devices in
    let past = transcript_of m lines in
    let known = (lines_lead MayHear KnowAir c.history_goes_on.ensures.walk [] m lines are whole (c.history_goes_on.ensures.first keys records devices)).1 in
    let tie = known.0.0 in
    let shown = tie.shown ∙ append-nil (log_of past) in
    same_reason past number airs begins (subst (AllByRecursion IsApart) shown (plain_apart tie.log tie.apart)) ∙ sym (same_refusal past (after_all m lines) number tie)
