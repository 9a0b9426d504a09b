-- Event by event, and where none is left.
use Rattle.proof_hearing.proofs.Grows.{finishes_adds}
use Rattle.proof_hearing.proofs.OnePayload.{hears_one, hears_over}
use Rattle.proof_hearing.proofs.payloads.payloads_are_heard.Goals as goal

pub returns-clause-one : goal.returns-clause-one
returns-clause-one c = λ key taken before upto n payload is_node past told h course remaining event left point so late may are is.
    hears_one key taken before upto n payload is_node past h course point so event left told late remaining is are may

pub returns-clause-over : goal.returns-clause-over
returns-clause-over c = λ key taken before upto n payload is_node past h course remaining point so is.
    hears_over key taken before upto n payload is_node past h course point so remaining is

pub returns-clause-adds : goal.returns-clause-adds
returns-clause-adds c = λ hearing remaining course. let adds = finishes_adds hearing remaining course in (adds.some, adds.due, adds.other)
