-- A pump after any events.
use Rattle.proof_walk.specs.host_model.State.{first_host}
use Rattle.proof_walk.specs.host_model.Did.{after_all}
use Rattle.proof_walk.specs.host_model.Opening.{opened}
use Rattle.proof_work.proofs.Pumping.{pumped}
use Rattle.proof_work.proofs.work.hosts_leave_nothing_due.Goals as goal

pub returns-clause-work : goal.returns-clause-work
returns-clause-work c = λ h events w pumps.
    (pumped c.hosts_keep_their_work.ensures.each c.nodes_are_told_in_few_turns.ensures.may c.a_pump_ends.ensures.may h events w pumps).work

pub returns-clause-tended : goal.returns-clause-tended
returns-clause-tended c = λ h events w pumps.
    (pumped c.hosts_keep_their_work.ensures.each c.nodes_are_told_in_few_turns.ensures.may c.a_pump_ends.ensures.may h events w pumps).tended

pub returns-clause-first : goal.returns-clause-first
returns-clause-first c = λ keys events pump done may pumps.
    let work = c.hosts_keep_their_work.ensures.all (first_host keys) events (c.hosts_keep_their_work.ensures.first keys) done may in
    (pumped c.hosts_keep_their_work.ensures.each c.nodes_are_told_in_few_turns.ensures.may c.a_pump_ends.ensures.may (after_all (first_host keys) events) pump work pumps).tended

pub returns-clause-opened : goal.returns-clause-opened
returns-clause-opened c = λ keys records events pump legal done may pumps.
    let work = c.hosts_keep_their_work.ensures.all (opened keys records) events (c.hosts_keep_their_work.ensures.opened keys records legal) done may in
    (pumped c.hosts_keep_their_work.ensures.each c.nodes_are_told_in_few_turns.ensures.may c.a_pump_ends.ensures.may (after_all (opened keys records) events) pump work pumps).tended
