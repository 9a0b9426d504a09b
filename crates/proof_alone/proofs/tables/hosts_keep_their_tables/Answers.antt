-- The facts go on along each run, and the laws follow from them.
use Rattle.std.proofs.Common.{[], refl}
use Rattle.std.specs.Prelude.{Some}
use Rattle.proof_line.specs.proof_host.Laws.{MayStand}
use Rattle.proof_alone.specs.Tables.{KnowsTables}
use Rattle.proof_alone.proofs.Running.{run_keeps}
use Rattle.proof_alone.proofs.Tabling.{first_tables, tables_walk}
use Rattle.proof_alone.proofs.tables.hosts_keep_their_tables.Goals as goal

pub returns-clause-walk : goal.returns-clause-walk
returns-clause-walk c = tables_walk c.events_keep_facts.ensures.each c.asides_keep_facts.ensures c.restarts_keep_facts.ensures.one c.restarts_go_on.ensures.each

pub returns-clause-first : goal.returns-clause-first
returns-clause-first c = λ keys. first_tables keys (c.first_facts_hold.ensures keys) (c.restarts_go_on.ensures.first keys (Some []) refl)

pub returns-clause-laws : goal.returns-clause-laws
returns-clause-laws c = λ keys told run.
    let known =
    run_keeps MayStand KnowsTables (returns-clause-walk c) [] run.2 (returns-clause-first c keys) in
    c.laws_follow.ensures.laws told run.1.state known.1.0.facts

pub returns-clause-tables : goal.returns-clause-tables
returns-clause-tables c = λ keys here told m run.
    let known =
    run_keeps MayStand KnowsTables (returns-clause-walk c) [] run (returns-clause-first c keys) in
    (c.laws_follow.ensures.tables told m.state known.1.0.facts, c.laws_follow.ensures.stores told m.state known.1.0.facts)
