-- Which nodes are still to tick: in the order of their numbers, from a place on (this project's own rule).
use Rattle.std.specs.Prelude.{ℕ, ◌<◌, List, [], ◌∷◌}
use Rattle.host_model.specs.Events.{HostEvent, Line_ticks, Node_ticks, Requests_do}

-- the events that are left are of nodes above this one, in their order
abbrev pub Ascends : ℕ → List HostEvent → Type 0
Ascends last [] = Unit {0}
Ascends last (Line_ticks ∷ left) = Ascends last left
Ascends last (Requests_do event moment ∷ left) = Ascends last left
Ascends last (Node_ticks n ∷ left) = (last < n) × Ascends n left
Ascends last (event ∷ left) = ⊥
