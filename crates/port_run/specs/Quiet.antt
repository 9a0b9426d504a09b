-- What a clock that takes a quiet moment for a tick makes of a run (this project's own rule).
use Rattle.std.specs.Prelude.{◌≡◌, ℕ, List, ◌∷◌, ◌++◌}
use Rattle.port_run.specs.Steps.{Step, Ticks}
use Rattle.port_run.specs.Serving.{bytes_of}

-- where a tick passes, all bytes were taken that the source had
abbrev pub TicksComeLast : List Step → List ℕ → Type 0
TicksComeLast steps input = (before after : List Step) → steps ≡ before ++ Ticks ∷ after → bytes_of before ≡ input
