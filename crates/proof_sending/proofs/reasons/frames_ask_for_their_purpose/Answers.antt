-- What holds of all that a purpose is for holds of all that its frame asks.
use Rattle.proof_air.specs.law_transcript.Lists.{Has}
use Rattle.proof_air.specs.law_transcript.Units.{Carried}
use Rattle.proof_air.proofs.Having.{all_has, all_of}
use Rattle.proof_sending.specs.Due.{sends}
use Rattle.proof_sending.proofs.SentUnits.{purpose_sends}
use Rattle.proof_sending.proofs.reasons.frames_ask_for_their_purpose.Goals as goal

pub returns : goal.returns
returns c = λ purpose last carried has.
    all_has (λ (one : Carried). Has (sends purpose) one) _ carried
    (purpose_sends c.callback_ids.ensures.from_one c.callback_ids.ensures.to_max purpose last (λ (one : Carried). Has (sends purpose) one) (all_of _ (sends purpose) (λ one there. there))) has
