use Rattle.proof_commands.proofs.Living.{goes_on, opens_so}
use Rattle.proof_commands.proofs.port.lives_go_on.Goals as goal

pub returns-clause-records : goal.returns-clause-records
returns-clause-records c = opens_so c.a_text_is_of_one_record.ensures

pub returns-clause-facts : goal.returns-clause-facts
returns-clause-facts c =
    goes_on c.first_facts_hold.ensures c.a_host_begins_with_what_is_kept.ensures c.a_restart_keeps_what_is_held.ensures.opened c.lives_keep_facts.ensures
