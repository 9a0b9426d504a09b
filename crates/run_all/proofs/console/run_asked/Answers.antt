-- Each command does what it promises, and its status has its cause.
use Rattle.std.proofs.Common.{refl, arith}
use Rattle.run_all.specs.Commands.{Does, HasGoodInputFor, ComesToItsEnd}
use Rattle.run_all.proofs.Asked.{as_asked, sim_is, checked_is, generate_is, generate_never_reads, replay_is, events_is, include_is, audited_is, host_runs, later_texts}
use Rattle.run_all.proofs.console.run_asked.Goals as goal

pub returns-in-Sim : goal.returns-in-Sim
unfolding Does HasGoodInputFor ComesToItsEnd
returns-in-Sim g c = as_asked c.in-Sim.is (record {
  does = c.run_sim.ensures.ran;
  known = sim_is _ _ _ _ _ _ _ _ _ _ _ _ _ _ _ c.run_sim.ensures.ran;
  read_fault = c.run_sim.ensures.read_fault;
  write_fault = c.run_sim.ensures.write_fault;
  complete = λ good free. c.run_sim.ensures.complete good free.read free.written;
  source_never_falls = c.run_sim.ensures.source_never_falls;
  sink_never_falls = c.run_sim.ensures.sink_never_falls;
})

pub returns-in-Check : goal.returns-in-Check
unfolding Does HasGoodInputFor ComesToItsEnd
returns-in-Check g c = as_asked c.in-Check.is (record {
  does = (c.run_check.ensures.checked, record { devices = refl; kept = refl; records = refl; faults = refl; reads = refl });
  known = checked_is _ _ _ _ _ _ c.run_check.ensures.checked;
  read_fault = c.run_check.ensures.read_fault;
  write_fault = c.run_check.ensures.write_fault;
  complete = λ good free. c.run_check.ensures.complete good free.read free.written;
  source_never_falls = c.run_check.ensures.source_never_falls;
  sink_never_falls = c.run_check.ensures.sink_never_falls;
})

pub returns-in-Generate : goal.returns-in-Generate
unfolding Does HasGoodInputFor ComesToItsEnd
returns-in-Generate g c = as_asked c.in-Generate.is (record {
  does = (c.run_generate.ensures.ran, refl);
  known = generate_is _ _ _ _ _ _ _ _ _ c.run_generate.ensures.ran;
  read_fault = λ e. absurd (generate_never_reads _ _ _ _ _ _ _ _ _ c.run_generate.ensures.ran e);
  write_fault = c.run_generate.ensures.write_fault;
  complete = λ good free. c.run_generate.ensures.complete free.written;
  source_never_falls = omega arith;
  sink_never_falls = c.run_generate.ensures.never_falls;
})

pub returns-in-Replay : goal.returns-in-Replay
unfolding Does HasGoodInputFor ComesToItsEnd
returns-in-Replay g c = as_asked c.in-Replay.is (record {
  does = (c.run_replay.ensures.ran, refl);
  known = replay_is _ _ _ _ _ _ _ _ c.run_replay.ensures.ran;
  read_fault = c.run_replay.ensures.read_fault;
  write_fault = c.run_replay.ensures.write_fault;
  complete = λ good free. c.run_replay.ensures.complete good free.read free.written;
  source_never_falls = c.run_replay.ensures.source_never_falls;
  sink_never_falls = c.run_replay.ensures.sink_never_falls;
})

pub returns-in-Events : goal.returns-in-Events
unfolding Does HasGoodInputFor ComesToItsEnd
returns-in-Events g c = as_asked c.in-Events.is (record {
  does = (c.run_events.ensures.ran, record { devices = refl; kept = refl; records = refl; faults = refl; reads = refl });
  known = events_is _ _ _ _ _ c.run_events.ensures.ran;
  read_fault = c.run_events.ensures.read_fault;
  write_fault = c.run_events.ensures.write_fault;
  complete = λ good free. c.run_events.ensures.complete good free.read free.written;
  source_never_falls = c.run_events.ensures.source_never_falls;
  sink_never_falls = c.run_events.ensures.sink_never_falls;
})

pub returns-in-Include : goal.returns-in-Include
unfolding Does HasGoodInputFor ComesToItsEnd
returns-in-Include g c = as_asked c.in-Include.is (record {
  does = (c.run_include.ensures.ran, record { devices = refl; kept = refl; records = refl; faults = refl; reads = refl });
  known = include_is _ _ _ _ _ _ c.run_include.ensures.ran;
  read_fault = c.run_include.ensures.read_fault;
  write_fault = c.run_include.ensures.write_fault;
  complete = λ good free. c.run_include.ensures.complete good free.read free.written;
  source_never_falls = c.run_include.ensures.source_never_falls;
  sink_never_falls = c.run_include.ensures.sink_never_falls;
})

pub returns-in-Host : goal.returns-in-Host
unfolding Does HasGoodInputFor ComesToItsEnd
returns-in-Host g c = as_asked c.in-Host.is
    (host_runs _ _ _ _ _ _ (later_texts _ _ c.later_words.ensures) c.run_host.ensures.ran refl c.run_host.ensures.keeper_fault c.run_host.ensures.read_fault
    c.run_host.ensures.write_fault c.run_host.ensures.complete c.run_host.ensures.source_never_falls c.run_host.ensures.sink_never_falls)

pub returns-in-Audit : goal.returns-in-Audit
unfolding Does HasGoodInputFor ComesToItsEnd
returns-in-Audit g c = as_asked c.in-Audit.is (record {
  does = (c.run_audit.ensures.audited, record { devices = refl; kept = refl; records = refl; faults = refl; reads = refl });
  known = audited_is _ _ _ _ _ c.run_audit.ensures.audited;
  read_fault = c.run_audit.ensures.read_fault;
  write_fault = c.run_audit.ensures.write_fault;
  complete = λ good free. c.run_audit.ensures.complete good free.read free.written;
  source_never_falls = c.run_audit.ensures.source_never_falls;
  sink_never_falls = c.run_audit.ensures.sink_never_falls;
})
