-- From its start on, by its steps; and how these come.
use Rattle.std.proofs.Common.{[]}
use Rattle.port_run.specs.Schedule.{is_quiet}
use Rattle.proof_asking.specs.proof_requests.proof_alone.State.{first_alone}
use Rattle.proof_replay.proofs.LineHeard.{obeys}
use Rattle.proof_replay.proofs.Orderly.{cut_orderly, run_orderly}
use Rattle.proof_replay.proofs.Starting.{hears_from, hears_more, none_before, ran_none}
use Rattle.proof_replay.proofs.port.served_steps_are_heard.Goals as goal

pub returns-clause-first : goal.returns-clause-first
returns-clause-first c =
    none_before (obeys c.hosts_obey_the_line.ensures.first c.hosts_obey_the_line.ensures.opened c.hosts_obey_the_line.ensures.each c.hosts_obey_the_line.ensures.units)

pub returns-clause-any : goal.returns-clause-any
returns-clause-any c = λ keys number told held holds place opens adds.
    let obey = obeys c.hosts_obey_the_line.ensures.first c.hosts_obey_the_line.ensures.opened c.hosts_obey_the_line.ensures.each c.hosts_obey_the_line.ensures.units in
    hears_from obey (first_alone keys held) keys number told [] (ran_none obey keys number told held holds) place opens adds

pub returns-clause-more : goal.returns-clause-more
returns-clause-more c = λ keys number told past before place opens adds whole steps last outs orderly ran.
    hears_more c.hosts_keep_laws.ensures c.hosts_are_legal.ensures c.hosts_are_legal_from_starts.ensures c.hosts_record_what_is_shown.ensures.open c.hosts_listen_as_told.ensures.run
    (obeys c.hosts_obey_the_line.ensures.first c.hosts_obey_the_line.ensures.opened c.hosts_obey_the_line.ensures.each c.hosts_obey_the_line.ensures.units) keys number told past before place opens adds whole steps last outs orderly ran

pub returns-clause-runs : goal.returns-clause-runs
returns-clause-runs c = run_orderly is_quiet

pub returns-clause-cuts : goal.returns-clause-cuts
returns-clause-cuts c = cut_orderly is_quiet
