-- Each clause is a lemma on events of the host.
use Rattle.world_model.specs.State.{first_machine}
use Rattle.proof_serial.proofs.HostFits.{event_fits, event_units}
use Rattle.proof_serial.proofs.HostRuns.{first_fits, opened_fits, events_write}
use Rattle.proof_serial.proofs.laws.hosts_write_well.Goals as goal

pub returns-clause-first : goal.returns-clause-first
returns-clause-first c = first_fits

pub returns-clause-opened : goal.returns-clause-opened
returns-clause-opened c = opened_fits

pub returns-clause-kept : goal.returns-clause-kept
returns-clause-kept c = event_fits c.attempts_have_what_they_give.ensures.first_payload c.attempts_have_what_they_give.ensures.segment_payload

pub returns-clause-units : goal.returns-clause-units
returns-clause-units c = event_units c.attempts_have_what_they_give.ensures.first_payload c.attempts_have_what_they_give.ensures.segment_payload

pub returns-clause-run : goal.returns-clause-run
returns-clause-run c = λ keys records devices events may asks.
    events_write c.attempts_have_what_they_give.ensures.first_payload c.attempts_have_what_they_give.ensures.segment_payload c.facts_are_kept.ensures.each
    c.a_restart_keeps_what_is_held.ensures.opened_facts (first_machine keys records devices) events
    (record { facts = c.facts_are_kept.ensures.first keys; fits = first_fits keys }) may asks
