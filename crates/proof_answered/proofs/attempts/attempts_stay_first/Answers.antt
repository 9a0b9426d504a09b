-- One walk over quiet lines, beside each that calls say that payloads were heard.
use Rattle.std.proofs.Common.{Bool, List}
use Rattle.proof_calm.proofs.proof_traffic_Parts.{Airs}
use Rattle.proof_answered.specs.Few.{IsStretched}
use Rattle.proof_answered.specs.Workers.{IsWorkedFor, KnowStaff}
use Rattle.proof_answered.specs.Heard.{IsHeardFor, IsHeardThen, KnowHeard}
use Rattle.proof_answered.proofs.AttemptEnds.{call_signs}
use Rattle.proof_answered.proofs.Beginning.{first_attempts}
use Rattle.proof_answered.proofs.FirstWalk.{IsOfStretch, any_stretch, first_walk}
use Rattle.proof_answered.proofs.Staffed.{worked_before}
use Rattle.proof_answered.proofs.attempts.attempts_stay_first.Goals as goal

airs : goal.After-workers_alone_speak → Airs
airs c = record {
  goes = c.frames_fly_in_order.ensures.goes;
  next = c.frames_fly_in_order.ensures.next;
  lands = c.frames_fly_in_order.ensures.lands;
  count = c.frames_fly_in_order.ensures.count;
  begins = c.frames_fly_in_order.ensures.begins;
}

worked : (these : List Bool) → IsOfStretch (IsWorkedFor these)
worked these = record { before = worked_before these; stretched = λ past is. is.stretched }

pub returns-clause-well : goal.returns-clause-well
returns-clause-well c = call_signs

pub returns-clause-first : goal.returns-clause-first
returns-clause-first c = first_attempts

pub returns-clause-walk : goal.returns-clause-walk
returns-clause-walk c = λ these. first_walk (airs c) (IsHeardFor these) IsStretched any_stretch (λ m. these) (KnowHeard these) (c.payloads_are_heard.ensures.walk these) (λ here past m known is. known is)

pub returns-clause-working : goal.returns-clause-working
returns-clause-working c = λ these many.
    first_walk (airs c) IsHeardThen (IsWorkedFor these) (worked these) (λ m. these) (KnowStaff these) (c.workers_alone_speak.ensures.walk these many) (λ here past m known is. (known is).0.0 is.stretched)
