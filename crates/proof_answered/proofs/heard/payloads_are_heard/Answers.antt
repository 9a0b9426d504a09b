-- One walk over quiet lines, beside the one that few frames are on the air.
use Rattle.std.proofs.Common.{[], subst}
use Rattle.proof_calm.proofs.Where.{where_whole}
use Rattle.proof_calm.specs.proof_work.Phases.{AsksNothing}
use Rattle.proof_calm.proofs.proof_traffic_Parts.{Airs}
use Rattle.proof_answered.specs.Heard.{AllSayHeard, IsHeardFor, KnowHeard}
use Rattle.proof_answered.proofs.HeardCalls.{called_ok, heard_walk, rests_heard}
use Rattle.proof_answered.proofs.Walking.{begins_known}
use Rattle.proof_answered.proofs.heard.payloads_are_heard.Goals as goal

pub returns-clause-walk : goal.returns-clause-walk
returns-clause-walk c = λ these. heard_walk airs these (c.few_frames_fly.ensures.walk these)
  where
    airs : Airs
    airs = record {
      goes = c.frames_fly_in_order.ensures.goes;
      next = c.frames_fly_in_order.ensures.next;
      lands = c.frames_fly_in_order.ensures.lands;
      count = c.frames_fly_in_order.ensures.count;
      begins = c.frames_fly_in_order.ensures.begins;
    }

pub returns-clause-lines : goal.returns-clause-lines
returns-clause-lines c = λ these m lines are whole heard stretched tied few.
    (where_whole (IsHeardFor these) AsksNothing (KnowHeard these) (returns-clause-walk c these) [] m lines are whole heard (λ is. (begins_known m tied few, rests_heard m tied.rests)) stretched).1

pub returns-clause-called : goal.returns-clause-called
returns-clause-called c = λ e pending asking is all. called_ok is.before e.last_id is.status is.behind (subst AllSayHeard is.are all)
