-- It is a lemma on what the host submits.
use Rattle.proof_in_time.proofs.ExchangeHosts.{exchange_submits}
use Rattle.proof_in_time.proofs.sealing.exchanges_are_submitted.Goals as goal

pub returns : goal.returns
returns c = exchange_submits (record {
  goes = c.frames_fly_in_order.ensures.goes;
  next = c.frames_fly_in_order.ensures.next;
  lands = c.frames_fly_in_order.ensures.lands;
  count = c.frames_fly_in_order.ensures.count;
  begins = c.frames_fly_in_order.ensures.begins;
})
