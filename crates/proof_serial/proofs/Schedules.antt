-- In a line each side takes all bytes that are there.
use Rattle.std.proofs.Common.{List, [], ◌∷◌}
use Rattle.zw_text.specs.declared.line.Line.{Line}
use Rattle.world_model.specs.State.{Machine}
use Rattle.world_model.specs.Events.{Event, Outside_does, Host_takes}
use Rattle.world_model.specs.Settling.{TakesWhole}
use Rattle.world_model.specs.Lines.{IsEffect}
use Rattle.world_model.specs.Prefixes.{LinePart, IsLineBefore}
use Rattle.world_model.proofs.Pieces.{Of, Law, Pieces, of_none, of_then, of_line_part, of_line_before}
use Rattle.world_model.proofs.Along.{IsOfPart, IsOfEffect, along, pieces_along, effect_along}
use Rattle.proof_serial.specs.Line.{AllTakeWhole, AreLines}

part_takes : (m : Machine) (event : Event) → IsOfPart m event → TakesWhole m event
part_takes m (Outside_does event) is = is
part_takes m (Host_takes count rest items events) is = is
part_takes m event is = tt

effect_takes : (line : Line) (m : Machine) (event : Event) → IsOfEffect line m event → TakesWhole m event
effect_takes line m (Outside_does event) is = is
effect_takes line m (Host_takes count rest items events) is = absurd is
effect_takes line m event is = tt

law : Law AllTakeWhole
law = along TakesWhole

pieces : Pieces AllTakeWhole
pieces = pieces_along TakesWhole part_takes

effect : (line : Line) → Of AllTakeWhole (IsEffect line)
effect line = effect_along TakesWhole line (effect_takes line)

pub line_takes : (line : Line) → Of AllTakeWhole (LinePart line)
line_takes line = of_line_part AllTakeWhole law pieces line (effect line)

pub lines_take : (lines : List Line) → Of AllTakeWhole (AreLines lines)
lines_take [] m events is = of_none AllTakeWhole law m events is
lines_take (line ∷ lines) m events is =
    of_then AllTakeWhole law (IsLineBefore lines line) (AreLines lines) (of_line_before AllTakeWhole law pieces lines line (effect line)) (lines_take lines) m events is
