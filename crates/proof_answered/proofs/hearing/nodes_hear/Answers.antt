-- What the chip puts on the air is what it is asked for.
use Rattle.proof_calm.proofs.proof_traffic_Parts.{Airs}
use Rattle.proof_answered.proofs.Outwards.{frames_on, listens_on}
use Rattle.proof_answered.proofs.hearing.nodes_hear.Goals as goal

airs : goal.After-frames_fly_in_order → Airs
airs c = record {
  goes = c.frames_fly_in_order.ensures.goes;
  next = c.frames_fly_in_order.ensures.next;
  lands = c.frames_fly_in_order.ensures.lands;
  count = c.frames_fly_in_order.ensures.count;
  begins = c.frames_fly_in_order.ensures.begins;
}

pub returns-clause-frames : goal.returns-clause-frames
returns-clause-frames c = λ these many. frames_on (airs c) these many

pub returns-clause-listening : goal.returns-clause-listening
returns-clause-listening c = λ these many. listens_on (airs c) these many c.devices_go_on.ensures.each c.devices_stay_the_same.ensures.all
