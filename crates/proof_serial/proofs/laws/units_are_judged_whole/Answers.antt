-- Each clause is a lemma on events.
use Rattle.world_model.specs.State.{first_machine}
use Rattle.proof_serial.proofs.Events.{event_after, all_stay, restart_empties}
use Rattle.proof_serial.proofs.Schedules.{line_takes, lines_take}
use Rattle.proof_serial.proofs.First.{first_whole, first_at_rest}
use Rattle.proof_serial.proofs.laws.units_are_judged_whole.Goals as goal

pub returns-clause-first : goal.returns-clause-first
returns-clause-first c = λ keys records devices. (first_whole keys records devices, first_at_rest keys records devices)

pub returns-clause-each : goal.returns-clause-each
returns-clause-each c = event_after

pub returns-clause-restart : goal.returns-clause-restart
returns-clause-restart c = restart_empties

pub returns-clause-line : goal.returns-clause-line
returns-clause-line c = λ line m events whole rests is may well. all_stay m events whole rests may (line_takes line m events is) well

pub returns-clause-lines : goal.returns-clause-lines
returns-clause-lines c = λ keys records devices lines events are may well.
    let m = first_machine keys records devices in
    all_stay m events (first_whole keys records devices) (first_at_rest keys records devices) may (lines_take lines m events are) well
