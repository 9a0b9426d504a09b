-- The host of the machine is read as a host alone at rest.
use Rattle.std.proofs.Common.{[], refl, sym, subst}
use Rattle.std.specs.Prelude.{Some}
use Rattle.proof_rests.specs.proof_requests.host_model.State.{HostState}
use Rattle.proof_in_time.specs.proof_answered.proof_calm.proof_work.Line.{IsOnLine}
use Rattle.proof_in_time.proofs.Rested.{rests_pumped}
use Rattle.proof_rests.specs.proof_requests.proof_alone.Reading.{read_of}
use Rattle.proof_chip.specs.proof_world.proof_serial.Units.{good_units}
use Rattle.proof_chip.specs.proof_line.world_model.State.{first_machine}
use Rattle.proof_chip.specs.proof_world.world_lines.Spoken.{after_all, transcript_of}
use Rattle.proof_ready.proofs.Hosts.{as_told, is_done, series_again, series_idle}
use Rattle.proof_ready.proofs.host.calm_hosts_are_done.Goals as goal

pub returns-clause-free : goal.returns-clause-free
returns-clause-free c = λ keys devices lines are whole rest.
    let m = first_machine keys (Some []) devices in
    let past = transcript_of m lines in
    let reads = (c.lines_leave_a_host_at_rest.ensures keys devices lines are whole).1 in
    is_done keys past (read_of 0 (after_all m lines) (good_units reads.down)) reads.run.run refl c.hosts_tell_of_sleep.ensures reads.only rest

pub returns-clause-pumped : goal.returns-clause-pumped
returns-clause-pumped c = λ keys devices lines are whole rest.
    let h : HostState = (after_all (first_machine keys (Some []) devices) lines).host.state in
    let done = returns-clause-free c keys devices lines are whole rest in
    (subst (λ o. IsOnLine o h.side.turn) (sym done.free.none_under_way) tt, rests_pumped h done.rests)

pub returns-clause-idle : goal.returns-clause-idle
returns-clause-idle c = λ keys devices lines are whole n from to idle.
    let m = first_machine keys (Some []) devices in
    let past = transcript_of m lines in
    let reads = (c.lines_leave_a_host_at_rest.ensures keys devices lines are whole).1 in
    series_idle keys past (read_of 0 (after_all m lines) (good_units reads.down)) reads.run.run refl c.hosts_tell_of_sleep.ensures c.hosts_run_series_as_told.ensures.rests n from to idle

pub returns-clause-again : goal.returns-clause-again
returns-clause-again c = λ keys devices lines are whole n from to.
    let m = first_machine keys (Some []) devices in
    let past = transcript_of m lines in
    let reads = (c.lines_leave_a_host_at_rest.ensures keys devices lines are whole).1 in
    series_again keys past (read_of 0 (after_all m lines) (good_units reads.down)) reads.run.run refl c.hosts_tell_of_sleep.ensures c.hosts_run_series_as_told.ensures.along n from to

pub returns-clause-told : goal.returns-clause-told
returns-clause-told c = λ keys devices lines are whole n from to.
    let m = first_machine keys (Some []) devices in
    let past = transcript_of m lines in
    let reads = (c.lines_leave_a_host_at_rest.ensures keys devices lines are whole).1 in
    as_told keys past (read_of 0 (after_all m lines) (good_units reads.down)) reads.run.run refl c.hosts_tell_of_sleep.ensures n from to
