-- For how long a stretch waits, for one node (this project's own rule).
use Rattle.std.specs.Prelude.{ℕ, ◌+◌, ◌==◌, if◌then◌else◌, List, [], ◌∷◌}
use Rattle.zw_text.specs.declared.entry.Entry.{Entry}
use Rattle.zw_text.specs.declared.line.Line.{Line}
use Rattle.zw_text.specs.declared.line.Line.TheVariants as lines
use Rattle.zw_text.specs.Transcript.{lines_run}

-- the ticks since the last order or `wake` line of a node, or since the beginning
abbrev pub waited_step_for : ℕ → ℕ → Line → ℕ
waited_step_for n ticks (lines.Command order) = if order.node == n then 0 else ticks
waited_step_for n ticks (lines.Wake node) = if node == n then 0 else ticks
waited_step_for n ticks (lines.Tick count) = ticks + count
waited_step_for n ticks _ = ticks

abbrev pub waited_by_for : ℕ → ℕ → List Line → ℕ
waited_by_for n ticks [] = ticks
waited_by_for n ticks (line ∷ more) = waited_by_for n (waited_step_for n ticks line) more

abbrev pub waited_for : ℕ → List Entry → ℕ
waited_for n stretch = waited_by_for n 0 (lines_run stretch)
