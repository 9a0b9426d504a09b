-- Which events a tick of 100 ms is (this project's own rule): of the line, of the request under way, then of each node with a wait, in the order of
-- their numbers.
use Rattle.std.specs.Prelude.{◌≡◌, ℕ, ◌<◌, List, [], ◌∷◌, ◌++◌, map, filter}
use Rattle.std.specs.List.{range_with_len}
use Rattle.host_requests.specs.Events.RequestsEvent.{Ticks as request_ticks}
use Rattle.host_node.specs.State.{needs_tick}
use Rattle.host_node.specs.declared.attempt.Moment.TheVariants.{BeforeItsTick}
use Rattle.host_model.specs.State.{HostState, node_of}
use Rattle.host_model.specs.Did.{after_all}
use Rattle.host_model.specs.Events.{HostEvent, Line_ticks, Requests_do, Node_ticks}

-- the line and the request
abbrev pub first_ticks : List HostEvent
first_ticks = Line_ticks ∷ Requests_do request_ticks BeforeItsTick ∷ []

-- the nodes with a wait, up to a number
abbrev pub ticking_to : HostState → ℕ → List ℕ
ticking_to h last = filter (λ n. needs_tick (node_of h n)) (range_with_len 1 last)

-- all of them
unfoldable pub ticking_nodes : HostState → List ℕ
ticking_nodes h = ticking_to h 232

-- the whole tick
abbrev pub tick_events : HostState → List HostEvent
tick_events h = first_ticks ++ map Node_ticks (ticking_nodes (after_all h first_ticks))

-- of the nodes that had a wait, those up to a number have had their tick, and those above it are as they were
pub record TickedTo (first now : HostState) (last : ℕ) (events : List HostEvent) : Type 0 where
  pub ticked : events ≡ map Node_ticks (ticking_to first last)
  pub above : (n : ℕ) → last < n → node_of now n ≡ node_of first n
