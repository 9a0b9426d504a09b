-- One walk over lines for these nodes, where frames of the host are heard.
use Rattle.proof_calm.proofs.proof_traffic_Parts.{Airs}
use Rattle.proof_answered.proofs.Beginning.{first_speak, first_staffed}
use Rattle.proof_answered.proofs.Staffed.{staff_walk}
use Rattle.proof_answered.proofs.working.workers_alone_speak.Goals as goal

pub returns-clause-first : goal.returns-clause-first
returns-clause-first c = λ these keys records devices idle. (first_staffed these keys, first_speak these c.frames_fly_in_order.ensures.first keys records devices idle)

pub returns-clause-walk : goal.returns-clause-walk
returns-clause-walk c = λ these many. staff_walk airs c.devices_stay_the_same.ensures.event these many (c.workers_hear.ensures these)
  where
    airs : Airs
    airs = record {
      goes = c.frames_fly_in_order.ensures.goes;
      next = c.frames_fly_in_order.ensures.next;
      lands = c.frames_fly_in_order.ensures.lands;
      count = c.frames_fly_in_order.ensures.count;
      begins = c.frames_fly_in_order.ensures.begins;
    }
