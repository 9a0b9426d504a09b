-- What it carries was asked for.
use Rattle.proof_requests.specs.law_host.Heard.{listing_heard}
use Rattle.proof_asking.proofs.SaidDone.{errand_is}
use Rattle.proof_asking.proofs.errands.errands_are_carried.Goals as goal

pub returns-clause-due : goal.returns-clause-due
returns-clause-due c = λ listing key past sends. errand_is listing key (c.lines_ask_for_what_is_queued.ensures.stays listing) past sends

pub returns-clause-told : goal.returns-clause-told
returns-clause-told c = λ key told run. errand_is listing_heard key (c.lines_ask_for_what_is_queued.ensures.stays listing_heard) told (c.hosts_send_what_is_due.ensures.told key told run)
