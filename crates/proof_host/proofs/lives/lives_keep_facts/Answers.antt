use Rattle.proof_host.proofs.HostsFromRecords.{lives_kept}
use Rattle.proof_host.proofs.lives.lives_keep_facts.Goals as goal

pub returns : goal.returns
returns c =
    lives_kept c.events_keep_facts.ensures.all c.restarts_keep_facts.ensures.one c.what_is_kept_starts_a_host.ensures c.records_go_on.ensures.kept
    c.events_do_what_their_records_do.ensures.all c.records_of_events_are_legal.ensures.all c.a_restart_keeps_what_is_held.ensures.opened
    c.a_restart_keeps_what_is_held.ensures.opened_facts
