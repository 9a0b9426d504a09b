-- The line `add N` and then ticks alone, as a transcript shows them (this project's own rule, docs/INCLUSION.md).
use Rattle.std.specs.Prelude.{◌≡◌, ◌≤◌, ℕ, ◌+◌, ◌-◌, ◌^◌, min, true, Some, List, [], ◌∷◌}
use Rattle.std.specs.List.{AllByRecursion}
use Rattle.include_text.specs.declared.line.IncludeLine.{IncludeLine}
use Rattle.include_text.specs.declared.line.IncludeLine.TheVariants.{Lose, Tick}
use Rattle.include_text.specs.declared.entry.IncludeEntry.{IncludeEntry}
use Rattle.include_text.specs.declared.entry.IncludeEntry.TheVariants.{Said, Air, Refused}
use Rattle.include_world.specs.Line.{ticks_of}
use Rattle.include_world.specs.Added.{last_key}

-- a line is a tick
abbrev pub IsTickLine : IncludeLine → Type 0
IsTickLine (Tick count) = Unit {0}
IsTickLine line = ⊥

-- the ticks that lines ask for
abbrev pub ticks_asked : List IncludeLine → ℕ
ticks_asked [] = 0
ticks_asked (line ∷ lines) = ticks_of line + ticks_asked lines

-- how many marks of `lose` are left after an entry: the line adds some, up to the greatest u64, and each frame that goes on the air uses one up
abbrev pub marks_by_line : ℕ → IncludeLine → ℕ
marks_by_line marks (Lose count) = min (marks + count) (2 ^ 64 - 1)
marks_by_line marks line = marks

abbrev pub marks_by : ℕ → IncludeEntry → ℕ
marks_by marks (Said line) = marks_by_line marks line
marks_by marks (Air frame from to payload) = marks - 1
marks_by marks entry = marks

-- the same after entries, and after a transcript
abbrev pub marks_after : ℕ → List IncludeEntry → ℕ
marks_after marks [] = marks
marks_after marks (entry ∷ more) = marks_after (marks_by marks entry) more

abbrev pub marks_left : List IncludeEntry → ℕ
marks_left T = marks_after 0 T

-- what a line shows is no refusal of it
abbrev pub IsAccepted : List IncludeEntry → Type 0
IsAccepted (said ∷ Refused refusal ∷ more) = ⊥
IsAccepted shown = Unit {0}

-- After this transcript no mark of `lose` is left, and the lock of the node took no key, or was reset since. Then the lines `add` of the node and these ticks, eight or
-- more, showed this, and the `add` was not refused.
pub record Adds (node : ℕ) (ticks : List IncludeLine) (past shown : List IncludeEntry) : Type 0 where
  pub only_ticks : AllByRecursion IsTickLine ticks
  pub enough : 8 ≤ ticks_asked ticks
  pub keyless : last_key node past ≡ Some true → ⊥
  pub unmarked : marks_left past ≡ 0
  pub accepted : IsAccepted shown
