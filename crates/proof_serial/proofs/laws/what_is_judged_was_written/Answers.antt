-- What each event judges and leaves is of what was written.
use Rattle.std.proofs.Common.{ℕ, List}
use Rattle.std.specs.Prelude.{Option}
use Rattle.s0_crypto.specs.declared.key_pair.Keys.{Keys}
use Rattle.world_model.specs.device_sim.State.{State}
use Rattle.zw_text.specs.declared.line.Line.{Line}
use Rattle.world_model.specs.State.{first_machine}
use Rattle.world_model.specs.Events.{Event}
use Rattle.world_model.specs.Did.{MayAll}
use Rattle.proof_serial.specs.Line.{AllWriteWell, AreLines}
use Rattle.proof_serial.specs.Units.{JudgesUnits}
use Rattle.proof_serial.proofs.Events.{all_stay}
use Rattle.proof_serial.proofs.Schedules.{lines_take}
use Rattle.proof_serial.proofs.First.{first_whole, first_at_rest, first_carried, first_frames}
use Rattle.proof_serial.proofs.Units.{judges_units, judges_frames}
use Rattle.proof_serial.proofs.laws.what_is_judged_was_written.Goals as goal

units : (keys : Keys) (records : Option (List (List ℕ))) (devices : List State) (lines : List Line) (events : List Event)
    → AreLines lines (first_machine keys records devices) events → MayAll (first_machine keys records devices) events
    → AllWriteWell (first_machine keys records devices) events → JudgesUnits (first_machine keys records devices) events
units keys records devices lines events are may well =
    let m = first_machine keys records devices in
    let stays = all_stay m events (first_whole keys records devices) (first_at_rest keys records devices) may (lines_take lines m events are) well in
    judges_units m events (first_carried keys records devices) (first_frames keys records devices) may stays.at_rest well

pub returns-clause-units : goal.returns-clause-units
returns-clause-units c = units

pub returns-clause-frames : goal.returns-clause-frames
returns-clause-frames c = λ keys records devices lines events are may well.
    judges_frames (first_machine keys records devices) events (units keys records devices lines events are may well)
