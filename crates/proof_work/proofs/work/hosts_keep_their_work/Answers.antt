-- One event after another, from both beginnings.
use Rattle.proof_work.proofs.Hosts.{host_kept, all_kept}
use Rattle.proof_work.proofs.Starting.{first_work, opened_work}
use Rattle.proof_work.proofs.work.hosts_keep_their_work.Goals as goal

pub returns-clause-first : goal.returns-clause-first
returns-clause-first c = λ keys. record {
  host = c.facts_are_kept.ensures.first keys;
  work = first_work c.facts_are_kept-2.ensures.quiet c.requests_stay_valid.ensures.first keys;
}

pub returns-clause-opened : goal.returns-clause-opened
returns-clause-opened c = λ keys records legal. record {
  host = c.a_restart_keeps_what_is_held.ensures.opened_facts keys records legal;
  work = opened_work c.facts_are_kept-2.ensures.quiet c.requests_stay_valid.ensures.first keys records;
}

pub returns-clause-each : goal.returns-clause-each
returns-clause-each c =
    let attempts = c.attempts_have_what_they_give.ensures in
    host_kept (record {
      valid = c.requests_stay_valid.ensures.step;
      still = c.facts_are_kept-2.ensures.quiet;
      first_bytes = attempts.first_payload;
      segment_bytes = attempts.segment_payload;
      text_bytes = attempts.text_payload;
    }) c.facts_are_kept.ensures.each

pub returns-clause-all : goal.returns-clause-all
returns-clause-all c =
    let attempts = c.attempts_have_what_they_give.ensures in
    all_kept (host_kept (record {
      valid = c.requests_stay_valid.ensures.step;
      still = c.facts_are_kept-2.ensures.quiet;
      first_bytes = attempts.first_payload;
      segment_bytes = attempts.segment_payload;
      text_bytes = attempts.text_payload;
    }) c.facts_are_kept.ensures.each)
