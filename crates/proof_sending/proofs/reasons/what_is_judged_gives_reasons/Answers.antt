-- Event by event, each of which leaves what the next one needs.
use Rattle.proof_air.specs.law_transcript.Lists.{Has}
use Rattle.proof_sending.proofs.Judged.{judged_goes, reasons_of, stands_all}
use Rattle.proof_sending.proofs.Reasoned.{Laws}
use Rattle.proof_sending.proofs.reasons.what_is_judged_gives_reasons.Goals as goal

laws_of : (c : goal.After-tables_keep_orders) → Laws
laws_of c = record {
  event_keeps = c.events_keep_facts.ensures.each;
  orders_stay = c.tables_keep_orders.ensures.host;
  texts_left = record {
    aside = c.hosts_leave_nonces.ensures.aside;
    starts = c.hosts_leave_nonces.ensures.starts;
    seals = c.hosts_leave_nonces.ensures.seals;
    sends = c.hosts_leave_nonces.ensures.sends;
  };
}

pub returns-clause-judged : goal.returns-clause-judged
returns-clause-judged c = λ heard keys past h items events tells judged facts may is.
    reasons_of (laws_of c) (Has heard) keys h events (judged_goes (laws_of c) (Has heard) keys h items events tells judged) ((past, facts), is) may

pub returns-clause-all : goal.returns-clause-all
returns-clause-all c = λ heard keys past h events facts may reasons is.
    (stands_all (laws_of c) (Has heard) keys h events may reasons ((past, facts), is)).1
