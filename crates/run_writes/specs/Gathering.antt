-- What was handed over to a sink that gathers (this project's own rule).
use Rattle.std.specs.Prelude.{ℕ, List, Option}
use Rattle.std.specs.Io.KnownBytes.{append_known}

-- what the sink beneath holds, where it tells, and then what waits
abbrev pub handed : Option (List ℕ) → List ℕ → Option (List ℕ)
handed written waiting = append_known written waiting
