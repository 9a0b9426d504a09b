-- What the air learns of an entry of the host (this project's own).
use Rattle.std.specs.Prelude.{ℕ, List, [], ◌∷◌, Option, Some, None}
use Rattle.outside_model.specs.Events.{OuterEvent, Host_begins}

-- the air learns of a session that has begun
abbrev pub begins_by : Option (ℕ × ℕ) → List OuterEvent
begins_by None = []
begins_by (Some begun) = Host_begins begun.0 begun.1 ∷ []
