-- At first the chip waits for no result.
use Rattle.std.proofs.Common.{[], refl}
use Rattle.outside_model.specs.State.{first_outer}
use Rattle.proof_line.specs.proof_traffic.Requests.{no_traffic}
use Rattle.proof_line.proofs.Parts.{Laws}
use Rattle.proof_chip.proofs.CallWalk.{call_walk, waits_none}
use Rattle.proof_chip.proofs.Calling.{follows_waits}
use Rattle.proof_chip.proofs.calls.calls_go_on.Goals as goal

-- what is called
laws_of : (c : goal.After-outsides_make_requests) → Laws
laws_of c = record {
  air = record {
    goes = c.frames_fly_in_order.ensures.goes;
    next = c.frames_fly_in_order.ensures.next;
    lands = c.frames_fly_in_order.ensures.lands;
    count = c.frames_fly_in_order.ensures.count;
    begins = c.frames_fly_in_order.ensures.begins;
  };
  keeps = c.requests_keep_facts.ensures.all;
  pump = c.hosts_make_requests.ensures.pump;
  judges = c.hosts_make_requests.ensures.items;
  tick = c.hosts_make_requests.ensures.tick;
  outer = c.outsides_make_requests.ensures.events;
  takes = c.outsides_make_requests.ensures.items;
}

pub returns-clause-walk : goal.returns-clause-walk
returns-clause-walk c = call_walk (laws_of c) c.frames_fly_in_order.ensures.none

pub returns-clause-first : goal.returns-clause-first
returns-clause-first c = λ keys records devices. (follows_waits no_traffic [] [] first_outer refl c.outsides_make_requests.ensures.first, tt)

pub returns-clause-none : goal.returns-clause-none
returns-clause-none c = λ ticks past m known. waits_none m.outside.outer known.0 known.1
