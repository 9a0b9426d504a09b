-- Which nodes a pump of a host lets sleep, what it makes of the host, and whose No More Information was dropped (this project's own rule).
use Rattle.std.specs.Prelude.{◌≡◌, ◌≤◌, ℕ, ◌==◌, ◌&&◌, Bool, true, false, if◌then◌else◌, List, [], ◌∷◌, ◌++◌, filter, is_some}
use Rattle.std.specs.List.{list_any, range_with_len}
use Rattle.host_node.specs.declared.no_more.NoMore.{NoMore}
use Rattle.host_node.specs.declared.no_more.NoMore.TheVariants.{Unasked, Queued, Dropped}
use Rattle.host_node.specs.State.{NodeState, has_waiting, is_false, is_idle, wants_no_more}
use Rattle.law_time.specs.Queue.{Queue}
use Rattle.host_model.specs.State.{HostState, node_of}
use Rattle.host_model.specs.After.{after, is_full}
use Rattle.host_model.specs.Pumping.{no_more_event}
use Rattle.proof_attempts.specs.proof_requests.proof_alone.Phases.{Phase, Resting, Open, Behind, Sleeping, Submitting}
use Rattle.proof_queue.specs.Waiting.{Waits}

-- those that want it, in the order of their numbers
abbrev pub wanting : HostState → List ℕ
wanting h = filter (λ (m : ℕ). wants_no_more (node_of h m)) (range_with_len 1 232)

-- the host after it has let these sleep, one after another, and those that found its queue full
abbrev pub slept : HostState → List ℕ → HostState
slept h [] = h
slept h (n ∷ nodes) = slept (after h (no_more_event h n)) nodes

abbrev pub full_for : HostState → List ℕ → List ℕ
full_for h [] = []
full_for h (n ∷ nodes) = (if is_full h then n ∷ [] else []) ++ full_for (after h (no_more_event h n)) nodes

-- whose found it full since they woke
abbrev pub is_dropped : NoMore → Bool
is_dropped Unasked = false
is_dropped Queued = false
is_dropped Dropped = true

abbrev pub DropsAre : Queue → HostState → Type 0
DropsAre queue h = (n : ℕ) → 1 ≤ n → n ≤ 232 → list_any (λ one. one == n) queue.dropped ≡ is_dropped (node_of h n).no_more

-- what waits by the transcript is what waits in the host, and these nodes it is to tell of a dropped message
abbrev pub WaitsIn : Queue → HostState → List ℕ → Type 0
WaitsIn queue h owes = Waits queue h.requests.queue owes × DropsAre queue h

-- nothing keeps a node awake
abbrev pub has_all : NodeState → Bool
has_all node = node.awake && is_false node.listens && is_some node.classes && is_false (has_waiting node) && is_idle node.series

-- where the host is not in the middle of a tick or of a line
abbrev pub IsLooking : Phase → Type 0
IsLooking Resting = Unit {0}
IsLooking Open = Unit {0}
IsLooking (Behind left) = Unit {0}
IsLooking Sleeping = Unit {0}
IsLooking Submitting = Unit {0}
IsLooking here = ⊥
