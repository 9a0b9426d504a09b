use Rattle.proof_host.proofs.FromRecords.{RestoresWell, opened_kept, record_kept}
use Rattle.proof_host.proofs.records.records_keep_facts.Goals as goal

pub returns-clause-one : goal.returns-clause-one
returns-clause-one c =
    let law = c.a_record_restores_what_it_says.ensures in
    record_kept c.a_restart_needs_the_records_alone.ensures.others (record { may = law.may; holds = law.holds; facts = law.facts })

pub returns-clause-opened : goal.returns-clause-opened
returns-clause-opened c =
    let law = c.a_record_restores_what_it_says.ensures in
    let well : RestoresWell = record { may = law.may; holds = law.holds; facts = law.facts } in
    λ keys records told legal tell.
    opened_kept c.a_restart_needs_the_records_alone.ensures.others well c.restarts_keep_facts.ensures.one c.what_is_kept_starts_a_host.ensures
    c.a_restart_keeps_what_is_held.ensures.opened c.a_restart_keeps_what_is_held.ensures.opened_facts c.legal_records_restore_the_host.ensures.holds keys records told
    (c.first_facts_hold.ensures keys) (c.a_host_begins_with_what_is_kept.ensures keys) legal tell
