-- One walk over quiet lines, from any machine whose line rests.
use Rattle.std.proofs.Common.{[], refl}
use Rattle.outside_model.specs.State.{first_outer}
use Rattle.proof_work.proofs.Where.{where_whole}
use Rattle.proof_waking.proofs.proof_traffic_Parts.{Airs}
use Rattle.proof_work.specs.Phases.{AsksNothing}
use Rattle.proof_calm.specs.Resting.{KnowLine}
use Rattle.proof_calm.specs.Settling.{IsServed}
use Rattle.proof_calm.proofs.Walking.{Pumped, line_walk}
use Rattle.proof_calm.proofs.resting.the_line_rests.Goals as goal

pub returns-clause-first : goal.returns-clause-first
unfolding first_outer
returns-clause-first c = λ keys records devices. record {
  unmarked = record { to_chip = refl; to_host = refl; frames = refl; acknowledgements = refl; link = refl; moves = refl };
  at_chip = record { up_bytes = refl; down_bytes = refl; decoder = refl; turn_is = refl; waiting = refl; fit = record { turn = tt; waiting = tt }; none_given_up = refl };
  at_host = record { decoder = refl; turn_is = refl };
}

pub returns-clause-walk : goal.returns-clause-walk
returns-clause-walk c = line_walk airs pumps
  where
    airs : Airs
    airs = record {
      goes = c.frames_fly_in_order.ensures.goes;
      next = c.frames_fly_in_order.ensures.next;
      lands = c.frames_fly_in_order.ensures.lands;
      count = c.frames_fly_in_order.ensures.count;
      begins = c.frames_fly_in_order.ensures.begins;
    }

    pumps : Pumped
    pumps = record { told = c.turns_of_a_pump_leave_nothing.ensures.told; submits = c.turns_of_a_pump_leave_nothing.ensures.submits }

pub returns-clause-lines : goal.returns-clause-lines
returns-clause-lines c = λ m lines are whole served quiet rests. where_whole IsServed AsksNothing KnowLine (returns-clause-walk c) [] m lines are whole served (λ said. rests) quiet
