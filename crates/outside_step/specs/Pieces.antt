-- How many bytes move at a time (this project's own rule, docs/MACHINE.md).
use Rattle.std.specs.Prelude.{ℕ, ◌==◌, ◌||◌, if◌then◌else◌, nat_lt}
use Rattle.outside_model.specs.State.{OuterState}

-- as many as `cut` says, or as a direction of the line holds
abbrev pub piece_size : OuterState → ℕ
piece_size o = if o.piece == 0 || nat_lt 4096 o.piece then 4096 else o.piece
