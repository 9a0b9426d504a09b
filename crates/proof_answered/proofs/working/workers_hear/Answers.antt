-- One walk over quiet lines, beside the one that payloads are heard.
use Rattle.proof_calm.proofs.Serving.{Payloads}
use Rattle.proof_calm.proofs.proof_traffic_Parts.{Airs}
use Rattle.proof_answered.proofs.Staffing.{workers_walk}
use Rattle.proof_answered.proofs.working.workers_hear.Goals as goal

pub returns : goal.returns
returns c = λ these. workers_walk airs payloads these (c.payloads_are_heard.ensures.walk these)
  where
    airs : Airs
    airs = record {
      goes = c.frames_fly_in_order.ensures.goes;
      next = c.frames_fly_in_order.ensures.next;
      lands = c.frames_fly_in_order.ensures.lands;
      count = c.frames_fly_in_order.ensures.count;
      begins = c.frames_fly_in_order.ensures.begins;
    }

    payloads : Payloads
    payloads = record {
      starts = c.attempts_have_what_they_give.ensures.first_payload;
      segments = c.attempts_have_what_they_give.ensures.segment_payload;
      text = c.attempts_have_what_they_give.ensures.text_payload;
    }
