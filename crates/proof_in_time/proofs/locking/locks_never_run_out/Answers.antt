-- One walk over lines for a lock alone, beside the one that it alone speaks.
use Rattle.proof_answered.proofs.proof_traffic_Parts.{Airs}
use Rattle.proof_in_time.proofs.ExchangeWalk.{SealedLaws}
use Rattle.proof_in_time.proofs.LockWalk.{lock_counts, lock_first}
use Rattle.proof_in_time.proofs.locking.locks_never_run_out.Goals as goal

module _ (c : goal.After-workers_alone_speak) where
  airs : Airs
  airs = record {
    goes = c.frames_fly_in_order.ensures.goes;
    next = c.frames_fly_in_order.ensures.next;
    lands = c.frames_fly_in_order.ensures.lands;
    count = c.frames_fly_in_order.ensures.count;
    begins = c.frames_fly_in_order.ensures.begins;
  }

  laws : SealedLaws
  laws = record {
    aside = c.hosts_leave_nonces.ensures.aside;
    facts = c.facts_are_kept_by_all.ensures;
    takes = c.exchanges_go_on.ensures.takes;
    asked = c.exchanges_go_on.ensures.asked;
    opens = c.hosts_open_what_was_sealed.ensures.opens;
    lock = record { asked = c.locks_are_asked.ensures.asked; sealed = c.locks_are_asked.ensures.sealed; offered = c.locks_are_asked.ensures.offered };
    hears = c.locks_hear_by_numbers.ensures.other;
    labels = record { shows = c.exchanges_go_on.ensures.shows; counts = c.exchanges_go_on.ensures.counts };
    same = λ m event. c.devices_stay_the_same.ensures.all m.outside.devices _ (c.devices_go_on.ensures.each m event);
  }

pub returns-clause-walk : goal.returns-clause-walk
returns-clause-walk c = λ these many none.
    lock_first (airs c) (laws c) c.facts_are_kept.ensures.each these many none (c.nodes_are_served_in_turn.ensures.workers these) (c.nodes_hear.ensures.listening these many) (c.workers_alone_speak.ensures.walk these many)
    (c.attempts_stay_first.ensures.working these many)

pub returns-clause-counts : goal.returns-clause-counts
returns-clause-counts c = λ these n many none alone. lock_counts (airs c) (laws c) c.facts_are_kept.ensures.each these many none (c.nodes_are_served_in_turn.ensures.workers these) n alone
