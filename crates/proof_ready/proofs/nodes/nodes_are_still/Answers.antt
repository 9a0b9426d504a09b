-- The host of the machine, read as a host alone at rest.
use Rattle.std.proofs.Common.{◌≤◌, arith}
use Rattle.std.specs.Prelude.{Some, []}
use Rattle.law_time.specs.Moments.{Allows}
use Rattle.law_time.specs.Waking.{may_wake}
use Rattle.proof_rests.specs.proof_requests.proof_alone.Reading.{read_of}
use Rattle.proof_chip.specs.proof_world.proof_serial.Units.{good_units}
use Rattle.proof_chip.specs.proof_line.world_model.State.{first_machine}
use Rattle.proof_chip.specs.proof_world.world_lines.Spoken.{after_all, transcript_of}
use Rattle.proof_rests.proofs.Running.{run_keeps}
use Rattle.proof_rests.specs.proof_nonces.proof_known.Known.{KnowsWhole}
use Rattle.proof_rests.specs.proof_requests.proof_alone.Phases.{Resting}
use Rattle.proof_ready.proofs.Stillness.{blank, still_inside, still_outside, unasked}
use Rattle.proof_ready.proofs.nodes.nodes_are_still.Goals as goal

pub returns-clause-outside : goal.returns-clause-outside
returns-clause-outside c = λ keys devices lines are whole.
    let m = first_machine keys (Some []) devices in
    let past = transcript_of m lines in
    let reads = (c.lines_leave_a_host_at_rest.ensures keys devices lines are whole).1 in
    let h = read_of 0 (after_all m lines) (good_units reads.down) in
    still_outside past h (run_keeps (Allows may_wake) KnowsWhole c.hosts_know_what_was_told.ensures.walk [] reads.run.run (c.hosts_know_what_was_told.ensures.first keys)).1
    (c.hosts_keep_what_is_said.ensures.table keys Resting past h reads.run.run) c.hosts_show_open_sessions.ensures.waits

pub returns-clause-blank : goal.returns-clause-blank
returns-clause-blank c = λ keys devices lines are whole.
    let m = first_machine keys (Some []) devices in
    let past = transcript_of m lines in
    let reads = (c.lines_leave_a_host_at_rest.ensures keys devices lines are whole).1 in
    let h = read_of 0 (after_all m lines) (good_units reads.down) in
    blank past h (run_keeps (Allows may_wake) KnowsWhole c.hosts_know_what_was_told.ensures.walk [] reads.run.run (c.hosts_know_what_was_told.ensures.first keys)).1
    (c.hosts_keep_what_is_said.ensures.table keys Resting past h reads.run.run) c.hosts_show_open_sessions.ensures.waits

pub returns-clause-unasked : goal.returns-clause-unasked
returns-clause-unasked c = λ keys devices lines are whole.
    let m = first_machine keys (Some []) devices in
    let past = transcript_of m lines in
    let reads = (c.lines_leave_a_host_at_rest.ensures keys devices lines are whole).1 in
    let h = read_of 0 (after_all m lines) (good_units reads.down) in
    unasked past h (run_keeps (Allows may_wake) KnowsWhole c.hosts_know_what_was_told.ensures.walk [] reads.run.run (c.hosts_know_what_was_told.ensures.first keys)).1
    (c.hosts_keep_what_is_said.ensures.table keys Resting past h reads.run.run) c.hosts_show_open_sessions.ensures.waits

pub returns-clause-inside : goal.returns-clause-inside
returns-clause-inside c = λ keys devices lines are whole listing still n joined none.
    let m = first_machine keys (Some []) devices in
    let past = transcript_of m lines in
    let reads = (c.lines_leave_a_host_at_rest.ensures keys devices lines are whole).1 in
    let h = read_of 0 (after_all m lines) (good_units reads.down) in
    let there = c.joined_nodes_are_there.ensures keys devices lines are whole n joined in
    let from : 1 ≤ n = omega (arith, there.from) in
    still_inside past h (run_keeps (Allows may_wake) KnowsWhole c.hosts_know_what_was_told.ensures.walk [] reads.run.run (c.hosts_know_what_was_told.ensures.first keys)).1
    (c.hosts_keep_what_is_said.ensures.table keys Resting past h reads.run.run) c.hosts_show_open_sessions.ensures.waits
    listing n (c.calm_hosts_are_done.ensures.told keys devices lines are whole n from there.to)
    (c.calm_hosts_are_done.ensures.idle keys devices lines are whole n from there.to (still.idle n joined)) none (still.asleep n joined)
