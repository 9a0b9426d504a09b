-- At first node 2 is joined, counts as listening and is linked to node 1, for the air as for the chip.
use Rattle.std.proofs.Common.{Some}
use Rattle.proof_walk.specs.world_model.State.{first_machine}
use Rattle.proof_routes.proofs.First.{first_tie}
use Rattle.proof_routes.proofs.Remembering.{first_remembers, Keeping}
use Rattle.proof_routes.proofs.Saying.{nothing_said, tie_of}
use Rattle.proof_routes.proofs.Walking.{networks_walk}
use Rattle.proof_walk.proofs.DevicePlaces.{go_none}
use Rattle.proof_routes.proofs.networks.networks_go_on.Goals as goal

keeping_of : (c : goal.After-devices_stay_the_same) → Keeping
keeping_of c = record {
  of_one = c.a_text_is_of_one_record.ensures;
  begins = c.a_host_begins_with_what_is_kept.ensures;
  does = c.events_do_what_their_records_do.ensures.all;
  opens = c.a_restart_keeps_what_is_held.ensures.opened;
  first_facts = c.facts_are_kept.ensures.first;
  opened_facts = c.a_restart_keeps_what_is_held.ensures.opened_facts;
  facts = c.facts_are_kept_by_all.ensures;
}

pub returns-clause-walk : goal.returns-clause-walk
returns-clause-walk c = λ devices. networks_walk devices c.rules_of_events.ensures.starts (keeping_of c) c.devices_go_on.ensures.each c.devices_stay_the_same.ensures.all

pub returns-clause-first : goal.returns-clause-first
returns-clause-first c = λ keys texts devices.
    nothing_said devices (first_machine keys (Some texts) devices) (first_tie devices) (
      first_remembers (keeping_of c) keys texts devices,
      go_none devices,
    )

pub returns-clause-tie : goal.returns-clause-tie
returns-clause-tie c = λ devices past m known. tie_of devices past m known
