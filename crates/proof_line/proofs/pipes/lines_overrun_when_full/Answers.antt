-- Each half holds over all lines: where a unit is overrun its pipe may be full, and where it is not it surely has room; in the end, after whole lines, the last has room.
use Rattle.std.proofs.Common.{◌≡◌, Bool, true, false, List, [], ◌∷◌, refl}
use Rattle.std.specs.Prelude.{Some}
use Rattle.zw_text.specs.declared.entry.Entry.{Entry}
use Rattle.zw_text.specs.declared.entry.Entry.TheVariants.{Said}
use Rattle.law_wire.specs.Pipes.{OverrunsWhenFull, may_overrun}
use Rattle.law_wire.specs.Serial.{ended}
use Rattle.proof_walk.proofs.Lists.{each-append}
use Rattle.proof_walk.specs.world_lines.Spoken.{Spoken, transcript_of}
use Rattle.proof_walk.specs.world_lines.Done.{AreDone, events_of}
use Rattle.proof_walk.specs.world_lines.Whole.{AreWhole}
use Rattle.proof_walk.specs.world_model.State.{Machine, first_machine}
use Rattle.proof_walk.specs.world_model.Did.{AllAlong}
use Rattle.proof_world.specs.proof_serial.Line.{WritesWell}
use Rattle.proof_world.proofs.SpokenLines.{all_lines, all_may, lines_of}
use Rattle.proof_walk.specs.Phases.{Between}
use Rattle.proof_walk.specs.Walk.{WalkWhere}
use Rattle.proof_walk.proofs.Where.{where_stand, where_whole}
use Rattle.proof_line.specs.Pipes.{OverrunsOnlyWhenFull}
use Rattle.proof_line.specs.Rooms.{KnowRooms, MayFit}
use Rattle.proof_line.proofs.Rooming.{all_write, overruns}
use Rattle.proof_line.proofs.pipes.lines_overrun_when_full.Goals as goal

fits : (walk : WalkWhere WritesWell MayFit KnowRooms) (m : Machine) (lines : List Spoken) (whole : Bool) → AreDone m lines → (whole ≡ true → AreWhole m lines)
    → AllAlong WritesWell m (events_of lines) → KnowRooms Between [] m → OverrunsOnlyWhenFull (transcript_of m lines) → OverrunsWhenFull (ended whole (transcript_of m lines))
fits walk m lines false are whole writes known lack =
    overruns [] (transcript_of m lines) lack (where_stand WritesWell MayFit KnowRooms walk [] m lines are writes known)
fits walk m lines true are whole writes known lack =
    let past = transcript_of m lines in
    each-append (λ (before : List Entry) (e : Entry). may_overrun before e ≡ true) [] past (Said [] ∷ [])
    (overruns [] past lack (where_stand WritesWell MayFit KnowRooms walk [] m lines are writes known))
    ((where_whole WritesWell MayFit KnowRooms walk [] m lines are (whole refl) writes known).fits, tt)

pub returns : goal.returns
returns c = λ keys devices lines whole are all.
    let m = first_machine keys (Some []) devices in
    let events = events_of lines in
    let these = all_lines m lines are in
    let may = all_may m lines are in
    let asks = c.lines_keep_and_ask_well.ensures keys devices (lines_of lines) events these may in
    let writes = c.hosts_write_well.ensures.run keys (Some []) devices events may asks.1 in
    fits c.rooms_go_on.ensures.walk m lines whole are all (all_write m events writes) (c.rooms_go_on.ensures.first keys devices)
    (c.lines_overrun_only_when_full.ensures keys (Some []) devices lines are)
