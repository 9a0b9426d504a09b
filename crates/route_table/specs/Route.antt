-- What the fields of a `Route` say.
use Rattle.std.specs.Prelude.{ℕ, List, take}
use Rattle.route_table.specs.declared.route.Route.{Route}

-- its repeaters, the one next to node 1 first
abbrev pub via : Route → List ℕ
via r = take r.count r.hops
