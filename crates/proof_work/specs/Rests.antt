-- Where a pump ends (this project's own rule): nothing that is due lacks its request.
use Rattle.std.specs.Prelude.{◌≡◌, ◌≢◌, ◌⊎◌, ℕ, ◌≤◌, true, false, None, IsSome, List, []}
use Rattle.supervision.specs.Host.{open_session}
use Rattle.host_node.specs.declared.series.Series.TheVariants.{Due, Running}
use Rattle.host_node.specs.declared.no_more.NoMore.TheVariants.{Dropped}
use Rattle.host_node.specs.State.{NodeState, has_segment, has_waiting, is_up, wants_no_more}
use Rattle.host_node.specs.TableState.{node_of as node_among}
use Rattle.proof_walk.specs.host_model.State.{HostState, node_of}
use Rattle.proof_walk.specs.host_model.May.{IsFree}

-- why a node is left awake that would sleep: a command waits for it, an attempt runs, it is held, or its No More Information found the queue full
abbrev pub HasReason : NodeState → Type 0
HasReason n = (has_waiting n ≡ true) ⊎ ((n.series ≡ Running) ⊎ ((1 ≤ n.hold) ⊎ (n.no_more ≡ Dropped)))

-- what is so of a node while its host rests
pub record NodeRests (n : NodeState) : Type 0 where
  -- no attempt is due
  pub begun : n.series ≢ Due
  -- one that runs has given all that it can, and its wait runs
  pub given : n.series ≡ Running → (1 ≤ n.attempt_wait) × ((n.text ≡ None) × (has_segment n ≡ false))
  -- no command waits for a node that is up and has no open session, but where the keeper has failed since its last tick
  pub served : has_waiting n ≡ true → is_up n ≡ true → open_session n.book ≡ None → n.blocked ≡ true
  -- a node that was interviewed, is awake and does not listen has a reason
  pub slept : n.awake ≡ true → n.listens ≡ false → IsSome n.classes → HasReason n

-- a host that rests owes no abort, no request waits, and each node rests
pub record Rests (h : HostState) : Type 0 where
  pub paid : h.requests.owes ≡ false
  pub no_task : h.requests.queue ≡ []
  pub each : (n : ℕ) → 1 ≤ n → n ≤ 232 → NodeRests (node_of h n)

-- no node is left to be told that there is no more for it
abbrev pub NoneWants : List NodeState → Type 0
NoneWants nodes = (n : ℕ) → 1 ≤ n → n ≤ 232 → wants_no_more (node_among nodes n) ≡ false

-- Where a pump ends this is so, and the host rests, unless a request is under way or the line is busy.
pub record IsTended (h : HostState) : Type 0 where
  pub told : NoneWants h.nodes
  pub rests : IsFree h → Rests h
