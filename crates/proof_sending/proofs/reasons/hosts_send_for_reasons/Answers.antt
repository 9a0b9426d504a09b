-- For any reasons, and so for these.
use Rattle.proof_air.specs.law_transcript.Lists.{Has}
use Rattle.proof_sending.proofs.Reasoned.{event_is, first_is, more_is, opened_is, units_due, Laws}
use Rattle.proof_sending.proofs.reasons.hosts_send_for_reasons.Goals as goal

laws_of : (c : goal.After-tables_keep_orders) → Laws
laws_of c = record {
  event_keeps = c.events_keep_facts.ensures.each;
  orders_stay = c.tables_keep_orders.ensures.host;
  texts_left = record {
    aside = c.hosts_leave_nonces.ensures.aside;
    starts = c.hosts_leave_nonces.ensures.starts;
    seals = c.hosts_leave_nonces.ensures.seals;
    sends = c.hosts_leave_nonces.ensures.sends;
  };
}

pub returns-clause-first : goal.returns-clause-first
returns-clause-first c = λ heard keys. first_is (Has heard) keys

pub returns-clause-opened : goal.returns-clause-opened
returns-clause-opened c = λ heard keys records all. opened_is (Has heard) keys records all

pub returns-clause-more : goal.returns-clause-more
returns-clause-more c = λ heard more keys h gives is. more_is (Has heard) (Has more) gives keys h is

pub returns-clause-kept : goal.returns-clause-kept
returns-clause-kept c = λ heard keys past h event facts may reason is.
    event_is (laws_of c) (Has heard) keys past h event facts may reason is

pub returns-clause-written : goal.returns-clause-written
returns-clause-written c = λ heard keys h event facts may reason is.
    units_due (laws_of c) (Has heard) keys h event facts may reason is
