use Rattle.std.proofs.Common.{refl}
use Rattle.serial_pipes.specs.Events.{Takes}
use Rattle.serial_pipes.specs.Events as way
use Rattle.chip_sim.specs.Nodes.{none_marked}
use Rattle.proof_device.specs.outside_model.State.{first_outer}
use Rattle.proof_traffic.proofs.JudgedItems.{items_go}
use Rattle.proof_traffic.proofs.Events.{event_goes, none_to_come}
use Rattle.proof_traffic.proofs.outside_steps.outsides_make_requests.Goals as goal

pub returns-clause-first : goal.returns-clause-first
unfolding first_outer none_marked
returns-clause-first c = record {
  knows = record { aborted = refl; sending = refl; calls = refl };
  await = record { frames = refl; results = refl };
  fly = c.frames_fly_in_order.ensures.first;
  joined = refl;
}

pub returns-clause-items : goal.returns-clause-items
returns-clause-items c = λ t log flights o count rest ways later f is.
    items_go c.frames_fly_in_order.ensures.goes t log flights
    (record o { to_chip = way.after o.to_chip (Takes count); chip = record { decoder = rest; state = o.chip.state } }) ways later
    (record { knows = record { aborted = f.knows.aborted; sending = f.knows.sending; calls = f.knows.calls }; await = record { frames = f.await.frames; results = f.await.results }; fly = f.fly; joined = f.joined }) is

pub returns-clause-events : goal.returns-clause-events
returns-clause-events c = λ t log flights w event f nodes may turn.
    event_goes c.frames_fly_in_order.ensures.goes c.frames_fly_in_order.ensures.lands c.frames_fly_in_order.ensures.next c.frames_fly_in_order.ensures.none c.frames_fly_in_order.ensures.begins c.frames_fly_in_order.ensures.kept
    t log flights w.outer w.devices f event nodes may turn

pub returns-clause-none_to_come : goal.returns-clause-none_to_come
returns-clause-none_to_come c = none_to_come
