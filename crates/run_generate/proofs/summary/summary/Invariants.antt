use Rattle.std.proofs.Common.{◌≡◌, ◌++◌, take}
use Rattle.std.specs.List.{flat_map}
use Rattle.run_generate.specs.Generate.{head_text, table_line}
use Rattle.run_generate.proofs.summary.summary.Given as goal

abbrev pub invariant-loop-entry : goal.invariant-loop-entry
invariant-loop-entry l = l.text ≡ head_text l.fn.entries ++ flat_map table_line (take l.entry-index l.table)
