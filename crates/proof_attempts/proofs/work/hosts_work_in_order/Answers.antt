-- The facts of work last over the tables, and are so at first.
use Rattle.std.proofs.Common.{[]}
use Rattle.proof_work.specs.proof_host.Laws.{MayStand}
use Rattle.proof_requests.specs.proof_alone.Runs.{both_know}
use Rattle.proof_requests.specs.proof_alone.Tables.{KnowsTables}
use Rattle.proof_requests.proofs.Running.{run_keeps}
use Rattle.proof_attempts.specs.Since.{KnowsSince}
use Rattle.proof_attempts.specs.Working.{WorksInOrder}
use Rattle.proof_attempts.proofs.Lasting.{over_both, since_walk}
use Rattle.proof_attempts.proofs.Working.{in_order, work_lasts}
use Rattle.proof_attempts.proofs.work.hosts_work_in_order.Goals as goal

pub returns-clause-walk : goal.returns-clause-walk
returns-clause-walk c =
    over_both MayStand KnowsTables (KnowsSince WorksInOrder) c.hosts_keep_their_tables.ensures.walk
    (since_walk WorksInOrder KnowsTables (work_lasts (record {
      each = c.hosts_keep_their_work.ensures.each;
      opens = c.hosts_keep_their_work.ensures.opened;
      items = c.hosts_do_these.ensures.items;
      ticks = c.hosts_do_these.ensures.ticks;
      told = c.turns_of_a_pump_leave_nothing.ensures.told;
      submits = c.turns_of_a_pump_leave_nothing.ensures.submits;
      ends = c.turns_of_a_pump_leave_nothing.ensures.ends;
    })))

pub returns-clause-first : goal.returns-clause-first
returns-clause-first c = λ keys. (
  c.hosts_keep_their_tables.ensures.first keys,
  (c.hosts_keep_their_work.ensures.first keys, (c.hosts_are_tended.ensures.first keys [] []).1),
)

pub returns-clause-work : goal.returns-clause-work
returns-clause-work c = λ keys here told m run.
    in_order here told m (run_keeps MayStand (both_know KnowsTables (KnowsSince WorksInOrder)) (returns-clause-walk c) [] run (returns-clause-first c keys)).1.1

pub returns-clause-rests : goal.returns-clause-rests
returns-clause-rests c = λ keys told m run.
    (run_keeps MayStand (both_know KnowsTables (KnowsSince WorksInOrder)) (returns-clause-walk c) [] run (returns-clause-first c keys)).1.1.1
