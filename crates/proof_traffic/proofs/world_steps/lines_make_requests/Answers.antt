-- Each clause is a lemma on lines, by what is proved of the parts.
use Rattle.std.proofs.Common.{[], refl}
use Rattle.proof_device.specs.world_model.State.{first_machine}
use Rattle.proof_device.specs.outside_model.State.{first_outer}
use Rattle.proof_serial.proofs.First.{first_carried, first_frames, first_at_rest}
use Rattle.proof_traffic.proofs.Parts.{Laws}
use Rattle.proof_traffic.proofs.Flights.{follows_on_air}
use Rattle.proof_traffic.proofs.CourseSteps.{all_fair}
use Rattle.proof_traffic.proofs.Lines.{part_goes, lines_go}
use Rattle.proof_traffic.specs.Requests.{no_traffic}
use Rattle.proof_traffic.proofs.world_steps.lines_make_requests.Goals as goal

pub returns-clause-first : goal.returns-clause-first
returns-clause-first c = λ keys records devices nodes. record {
  host = c.hosts_make_requests.ensures.first keys;
  outside = follows_on_air no_traffic [] [] first_outer c.outsides_make_requests.ensures.first;
  carried = first_carried keys records devices;
  frames = first_frames keys records devices;
  rests = first_at_rest keys records devices;
  up_is = refl;
  facts = c.requests_keep_facts.ensures.first;
  nodes = nodes;
}

-- what is called
laws_of : (c : goal.After-hosts_write_well) → Laws
laws_of c = record {
  air = record {
    goes = c.frames_fly_in_order.ensures.goes;
    next = c.frames_fly_in_order.ensures.next;
    lands = c.frames_fly_in_order.ensures.lands;
    count = c.frames_fly_in_order.ensures.count;
    begins = c.frames_fly_in_order.ensures.begins;
  };
  keeps = c.requests_keep_facts.ensures.all;
  pump = c.hosts_make_requests.ensures.pump;
  judges = c.hosts_make_requests.ensures.items;
  tick = c.hosts_make_requests.ensures.tick;
  outer = c.outsides_make_requests.ensures.events;
  takes = c.outsides_make_requests.ensures.items;
}

pub returns-clause-line : goal.returns-clause-line
returns-clause-line c = λ line t log up down m events f is may well asks. part_goes (laws_of c) line t log up down m events f is (all_fair m events may well asks)

pub returns-clause-lines : goal.returns-clause-lines
returns-clause-lines c = λ keys records devices lines events nodes are may asks.
    let well = c.hosts_write_well.ensures.run keys records devices events may asks in
    lines_go (laws_of c) lines no_traffic [] [] [] (first_machine keys records devices) events (returns-clause-first c keys records devices nodes) are
    (all_fair (first_machine keys records devices) events may well asks)
