-- The tie lasts over the tables, and is so at first.
use Rattle.std.proofs.Common.{[]}
use Rattle.proof_work.specs.proof_host.Laws.{MayStand}
use Rattle.proof_requests.specs.proof_alone.Runs.{both_know}
use Rattle.proof_requests.specs.proof_alone.Tables.{KnowsTables}
use Rattle.proof_requests.proofs.Running.{run_keeps}
use Rattle.proof_attempts.specs.Since.{KnowsSince}
use Rattle.proof_attempts.specs.Waking.{CountsAwake}
use Rattle.proof_attempts.proofs.Counting.{awake_lasts, first_awake}
use Rattle.proof_attempts.proofs.Lasting.{over_both, since_walk}
use Rattle.proof_attempts.proofs.waking.hosts_count_awake.Goals as goal

pub returns-clause-walk : goal.returns-clause-walk
returns-clause-walk c = over_both MayStand KnowsTables (KnowsSince CountsAwake) c.hosts_keep_their_tables.ensures.walk (since_walk CountsAwake KnowsTables awake_lasts)

pub returns-clause-first : goal.returns-clause-first
returns-clause-first c = λ keys. (c.hosts_keep_their_tables.ensures.first keys, first_awake keys)

pub returns-clause-rests : goal.returns-clause-rests
returns-clause-rests c = λ keys told m run n from to.
    (run_keeps MayStand (both_know KnowsTables (KnowsSince CountsAwake)) (returns-clause-walk c) [] run (returns-clause-first c keys)).1.1 n from to
