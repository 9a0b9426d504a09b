-- One walk over quiet lines, from any machine where all of it is so.
use Rattle.std.proofs.Common.{[], refl}
use Rattle.outside_model.specs.State.{first_outer}
use Rattle.proof_work.proofs.Where.{where_whole}
use Rattle.proof_work.specs.Phases.{AsksNothing}
use Rattle.proof_waking.specs.proof_traffic.Requests.{no_traffic}
use Rattle.proof_waking.proofs.Flights.{follows_on_air}
use Rattle.proof_waking.proofs.proof_traffic_Parts.{Airs}
use Rattle.proof_calm.specs.Tied.{IsOrderlyFor, KnowTied, Nowhere}
use Rattle.proof_calm.proofs.Awaiting.{Outsides}
use Rattle.host_model.specs.State.{first_host}
use Rattle.proof_calm.proofs.Begun.{Ids}
use Rattle.proof_calm.proofs.First.{first_peopled}
use Rattle.proof_calm.proofs.Serving.{Payloads}
use Rattle.proof_calm.proofs.Rested.{rests_pumped}
use Rattle.proof_calm.proofs.Walking.{Pumped}
use Rattle.proof_calm.proofs.Tying.{StaysOnLine, tied_walk, request_rests}
use Rattle.proof_calm.proofs.tied.requests_stay_tied.Goals as goal

pub returns-clause-first : goal.returns-clause-first
unfolding first_outer
returns-clause-first c = λ these keys records devices few nodes. record {
  rests = c.the_line_rests.ensures.first keys records devices;
  awaits = record { course = no_traffic; log = []; follows = follows_on_air no_traffic [] [] first_outer c.outsides_make_requests.ensures.first; each_call = refl; nodes = nodes };
  routed = record { none_due = refl; of_frames = tt };
  on_line = c.requests_stay_on_the_line.ensures.first keys;
  pumped = rests_pumped (first_host keys) ((c.hosts_are_tended.ensures.first keys [] devices).1.rests (record { none_under_way = refl; free_line = refl }));
  tie = record { paid = refl; tied = Nowhere (record { none = refl; idle = refl; leave = tt; nothing = refl }) };
  peopled = first_peopled c.facts_are_kept.ensures.first these few keys records devices;
}

pub returns-clause-walk : goal.returns-clause-walk
returns-clause-walk c = λ these. tied_walk outsides ids payloads pumps stays c.facts_are_kept.ensures.each c.a_restart_keeps_what_is_held.ensures.opened_facts these
  where
    airs : Airs
    airs = record {
      goes = c.frames_fly_in_order.ensures.goes;
      next = c.frames_fly_in_order.ensures.next;
      lands = c.frames_fly_in_order.ensures.lands;
      count = c.frames_fly_in_order.ensures.count;
      begins = c.frames_fly_in_order.ensures.begins;
    }

    outsides : Outsides
    outsides = record { air = airs; events = c.outsides_make_requests.ensures.events; items = c.outsides_make_requests.ensures.items }

    ids : Ids
    ids = record { from_one = c.callback_ids.ensures.from_one; to_max = c.callback_ids.ensures.to_max }

    stays : StaysOnLine
    stays = record { each = c.requests_stay_on_the_line.ensures.each; items = c.requests_stay_on_the_line.ensures.items }

    payloads : Payloads
    payloads = record {
      starts = c.attempts_have_what_they_give.ensures.first_payload;
      segments = c.attempts_have_what_they_give.ensures.segment_payload;
      text = c.attempts_have_what_they_give.ensures.text_payload;
    }

    pumps : Pumped
    pumps = record { told = c.turns_of_a_pump_leave_nothing.ensures.told; submits = c.turns_of_a_pump_leave_nothing.ensures.submits }

pub returns-clause-lines : goal.returns-clause-lines
returns-clause-lines c = λ these m lines are whole orderly quiet is.
    let at = where_whole (IsOrderlyFor these) AsksNothing (KnowTied these) (returns-clause-walk c these) [] m lines are whole orderly (λ said. (is.rests, is.awaits, tt, is.routed, is.on_line, is.pumped, is.tie, is.peopled)) quiet in
    record { rests = at.0; awaits = at.1; routed = at.3; on_line = at.4; pumped = at.5; tie = at.6; peopled = at.7 }

pub returns-clause-rests : goal.returns-clause-rests
returns-clause-rests c = λ these m is. request_rests m is
