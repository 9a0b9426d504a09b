-- One walk over lines for these nodes, beside the one that these alone speak.
use Rattle.std.proofs.Common.{◌≡◌, List, Bool, length}
use Rattle.proof_answered.proofs.Listeners.{sleeper_stays}
use Rattle.proof_answered.proofs.proof_traffic_Parts.{Airs}
use Rattle.proof_in_time.proofs.Bounded.{Devices}
use Rattle.proof_in_time.proofs.Lasting.{Hearing, in_time, plainly_walk, waits_walk}
use Rattle.proof_in_time.proofs.in_time.waits_never_run_out.Goals as goal

airs : goal.After-workers_alone_speak → Airs
airs c = record {
  goes = c.frames_fly_in_order.ensures.goes;
  next = c.frames_fly_in_order.ensures.next;
  lands = c.frames_fly_in_order.ensures.lands;
  count = c.frames_fly_in_order.ensures.count;
  begins = c.frames_fly_in_order.ensures.begins;
}

answers : goal.After-workers_alone_speak → Devices
answers c = record { heard = c.messages_are_answered.ensures.heard; still = c.messages_are_answered.ensures.still; works = c.messages_are_answered.ensures.works }

hearing : goal.After-workers_alone_speak → (these : List Bool) → length these ≡ 233 → Hearing these
hearing c these many = record {
  frames = c.nodes_hear.ensures.frames these many;
  listening = c.nodes_hear.ensures.listening these many;
  said = λ n marked. c.sleepers_are_where_they_may_be.ensures.said these n marked;
  turn = c.sleepers_are_where_they_may_be.ensures.turn;
  event = λ n alone. c.sleepers_are_where_they_may_be.ensures.event these n alone many;
  stays = λ n m event is. sleeper_stays n m.outside.devices _ (c.devices_stay_the_same.ensures.all m.outside.devices _ (c.devices_go_on.ensures.each m event)) is;
}

pub returns-clause-walk : goal.returns-clause-walk
returns-clause-walk c = λ these many none. waits_walk (airs c) these many none (answers c) (hearing c these many) (c.workers_alone_speak.ensures.walk these many)

pub returns-clause-in_time : goal.returns-clause-in_time
returns-clause-in_time c = in_time

pub returns-clause-first : goal.returns-clause-first
returns-clause-first c = λ these many none.
    plainly_walk (airs c) these many none (answers c) (hearing c these many) (c.workers_alone_speak.ensures.walk these many) (c.attempts_stay_first.ensures.working these many)
