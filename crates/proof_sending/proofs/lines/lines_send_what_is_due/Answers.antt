-- The walk goes along all lines, from a host that has nothing to send.
use Rattle.std.proofs.Common.{[], Some, refl}
use Rattle.s0_crypto.specs.Sealing.{keys_of}
use Rattle.proof_air.specs.law_transcript.Nodes.{listing_of, always}
use Rattle.proof_air.specs.world_model.State.{first_machine}
use Rattle.proof_air.specs.world_lines.Done.{events_of}
use Rattle.proof_line.proofs.SpokenLines.{all_lines, all_may, lines_of}
use Rattle.proof_air.proofs.Where.{where_stand}
use Rattle.proof_air.specs.law_transcript.Payloads.{MayRequest}
use Rattle.proof_sending.specs.Due.{IsShown}
use Rattle.proof_sending.proofs.Reasoned.{first_is}
use Rattle.proof_sending.proofs.Walking.{KnowBoth, WritesToo, all_well, sending_walk}
use Rattle.proof_sending.proofs.lines.lines_send_what_is_due.Goals as goal

pub returns : goal.returns
returns c = λ key devices lines are.
    let keys = keys_of key in
    let m = first_machine keys (Some []) devices in
    let listing = listing_of devices in
    let events = events_of lines in
    let these = all_lines m lines are in
    let may = all_may m lines are in
    let facts = c.the_machine_keeps_facts.ensures.first keys (Some []) devices in
    let keeps = c.lines_keep_and_ask_well.ensures keys devices (lines_of lines) events these may in
    let starts = c.restarts_go_on.ensures.all [] m events facts (c.restarts_go_on.ensures.first keys (Some []) refl) may keeps.0 in
    let tells = c.interviews_tell_what_nodes_list.ensures.tell keys devices (lines_of lines) events these may in
    let writes = c.hosts_write_well.ensures.run keys (Some []) devices events may keeps.1 in
    where_stand (WritesToo listing) (MayRequest (always listing) key) (KnowBoth listing key) (sending_walk listing key (record {
      hosts = record {
        event_keeps = c.events_keep_facts.ensures.each;
        orders_stay = c.tables_keep_orders.ensures.host;
        texts_left = record {
          aside = c.hosts_leave_nonces.ensures.aside;
          starts = c.hosts_leave_nonces.ensures.starts;
          seals = c.hosts_leave_nonces.ensures.seals;
          sends = c.hosts_leave_nonces.ensures.sends;
        };
      };
      go_on = c.the_machine_keeps_facts.ensures.all;
      aside = c.asides_keep_facts.ensures;
      stand = c.laws_follow.ensures.laws;
      knows = c.interviews_give_what_is_known.ensures.each;
      carried = c.orders_are_carried_as_said.ensures;
      from = c.callback_ids.ensures.from_one;
      to = c.callback_ids.ensures.to_max;
    }) c.rooms_go_on.ensures.walk) [] m lines are (all_well listing m events starts.0 keeps.0 tells writes) (
      c.rooms_go_on.ensures.first keys devices,
      record {
        ground = record { facts = facts; knows = c.interviews_give_what_is_known.ensures.first listing keys; said = tt; arrives = refl };
        keys = refl;
        reasoned = first_is (IsShown (always listing) key []) keys;
      },
    )
