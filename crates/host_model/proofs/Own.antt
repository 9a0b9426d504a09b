-- What the host does of itself: in a pump and in a tick.
use Rattle.std.proofs.Common.{◌≡◌, ℕ, List, [], ◌∷◌, map, refl}
use Rattle.std.specs.List.{AllByRecursion}
use Rattle.host_model.specs.State.{HostState}
use Rattle.host_model.specs.Events.{HostEvent, IsOwn, Requests_do, Line_ticks, Node_ticks, Queues_no_more, Drops_no_more, Submits_abort, Submits_front, Starts, Gives_text, Gives_segment, Begins, Begin_unkept}
use Rattle.host_model.specs.Did.{after_all}
use Rattle.host_model.specs.Pumping.{Pumps}
use Rattle.host_model.specs.Ticking.{tick_events, first_ticks, ticking_nodes}
use Rattle.host_model.proofs.Submitted.{SleepersAre, SubmittedAre, pump_is}

-- ---- a pump

pub sleepers_own : SleepersAre IsOwn
sleepers_own = record { queues = λ n. tt; drops = λ n. tt }

pub submitted_own : SubmittedAre IsOwn
submitted_own = record {
  abort = tt;
  front = tt;
  starts = λ n plan more payload. tt;
  text = λ n payload. tt;
  segment = λ n more payload. tt;
  begins = λ n session command. tt;
  unkept = λ n. tt;
}

pub pump_own : (h : HostState) (events : List HostEvent) → Pumps h events → AllByRecursion IsOwn events
pump_own h events pumps = pump_is IsOwn sleepers_own submitted_own h events pumps

-- ---- a tick

nodes_own : (nodes : List ℕ) → AllByRecursion IsOwn (map Node_ticks nodes)
nodes_own [] = tt
nodes_own (n ∷ nodes) = (tt, nodes_own nodes)

pub tick_own : (h : HostState) → AllByRecursion IsOwn (tick_events h)
tick_own h = (tt, (refl, nodes_own (ticking_nodes (after_all h first_ticks))))
