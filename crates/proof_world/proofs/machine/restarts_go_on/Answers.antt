-- What the keeper holds goes on with the host.
use Rattle.proof_world.proofs.HeldRecords.{first_held, event_held, events_held}
use Rattle.proof_world.proofs.machine.restarts_go_on.Goals as goal

pub returns-clause-first : goal.returns-clause-first
returns-clause-first c = λ keys records empty. first_held keys records (c.a_host_begins_with_what_is_kept.ensures keys) empty

pub returns-clause-each : goal.returns-clause-each
returns-clause-each c =
    event_held c.a_text_is_of_one_record.ensures c.what_is_kept_starts_a_host.ensures c.records_go_on.ensures.kept
    c.events_do_what_their_records_do.ensures.all c.records_of_events_are_legal.ensures.all c.a_restart_keeps_what_is_held.ensures.opened c.a_restart_keeps_what_is_held.ensures.opened_facts

pub returns-clause-all : goal.returns-clause-all
returns-clause-all c =
    events_held c.a_text_is_of_one_record.ensures c.what_is_kept_starts_a_host.ensures c.records_go_on.ensures.kept
    c.events_do_what_their_records_do.ensures.all c.records_of_events_are_legal.ensures.all c.a_restart_keeps_what_is_held.ensures.opened c.a_restart_keeps_what_is_held.ensures.opened_facts
    c.the_machine_keeps_facts.ensures.each
