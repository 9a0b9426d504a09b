use Rattle.std.proofs.Common.{◌≡◌, ◌++◌}
use Rattle.std.specs.List.{flat_map, range_with_len}
use Rattle.run_generate.specs.Generate.{command_lines, first_lines}
use Rattle.run_generate.proofs.generated.generated.Given as goal

abbrev pub invariant-loop-turn : goal.invariant-loop-turn
invariant-loop-turn l = l.lines.items ≡ first_lines ++ flat_map command_lines (range_with_len 0 l.turn)
