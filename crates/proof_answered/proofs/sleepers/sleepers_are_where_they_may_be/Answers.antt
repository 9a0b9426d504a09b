-- By the text, by the host, and by what is on the air.
use Rattle.proof_calm.proofs.proof_traffic_Parts.{Airs}
use Rattle.proof_answered.proofs.SleeperSteps.{sleeper_event, sleeper_said, sleeper_turn}
use Rattle.proof_answered.proofs.sleepers.sleepers_are_where_they_may_be.Goals as goal

pub returns-clause-said : goal.returns-clause-said
returns-clause-said c = sleeper_said

pub returns-clause-turn : goal.returns-clause-turn
returns-clause-turn c = sleeper_turn

pub returns-clause-event : goal.returns-clause-event
returns-clause-event c = λ these n alone many. sleeper_event airs c.devices_stay_the_same.ensures.event these n alone many
  where
    airs : Airs
    airs = record {
      goes = c.frames_fly_in_order.ensures.goes;
      next = c.frames_fly_in_order.ensures.next;
      lands = c.frames_fly_in_order.ensures.lands;
      count = c.frames_fly_in_order.ensures.count;
      begins = c.frames_fly_in_order.ensures.begins;
    }
