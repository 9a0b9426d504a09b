-- What the host keeps of one node, and what its rules ask of that (this project's own rule, docs/NODES.md; waking is that of
-- the Wake Up Command Class, sessions are those of the Supervision Command Class).
use Rattle.std.specs.Prelude.{◌≡◌, ℕ, Bool, true, false, Option, Some, None, List, [], length, Contains, ◌==◌, ◌&&◌, ◌||◌, nat_lt, is_some, is_none}
use Rattle.supervision.specs.Host.{HostBook, no_sessions, open_session}
use Rattle.s0_crypto.specs.declared.key_pair.Keys.{Keys}
use Rattle.s0_crypto.specs.declared.ends.SealEnds.{SealEnds}
use Rattle.s0_crypto.specs.Seal.{Seals}
use Rattle.s0_session.specs.Sending.{taken_from}
use Rattle.host_node.specs.declared.series.Series.{Series}
use Rattle.host_node.specs.declared.series.Series.TheVariants.{Idle, Due, Running}
use Rattle.host_node.specs.declared.no_more.NoMore.{NoMore}
use Rattle.host_node.specs.declared.no_more.NoMore.TheVariants.{Unasked, Queued, Dropped}

-- Waits are in ticks that are left, 0 where none runs.
pub record NodeState : Type 0 where
  -- its number, and whether it joined the network
  pub node : ℕ
  pub joined : Bool
  -- what the last interview told: whether it listens, and its class list
  pub listens : Bool
  pub classes : Option (List ℕ)
  -- the commands that wait, first come first, whether it counts as awake, and the wait for which it is held awake
  pub waiting : List ℕ
  pub awake : Bool
  pub hold : ℕ
  -- its sessions
  pub book : HostBook
  -- the series of attempts of the open session, the wait of an attempt for its report, and the wait after a series
  pub series : Series
  pub attempt_wait : ℕ
  pub again_wait : ℕ
  -- the running attempt: the next segment that it gives, of how many; the sealed text that it gives
  pub next_segment : ℕ
  pub segments : ℕ
  pub text : Option (List ℕ)
  -- how many nonces of the node were seen, and the plain text of the running attempt that waits for one
  pub seen : ℕ
  pub pending : Option (List ℕ)
  -- what became of No More Information since it woke, and whether a session's record was not kept since the last tick
  pub no_more : NoMore
  pub blocked : Bool

-- a node of which nothing is known
abbrev pub unknown : ℕ → NodeState
unknown node = record {
  node = node;
  joined = false;
  listens = false;
  classes = None;
  waiting = [];
  awake = false;
  hold = 0;
  book = no_sessions;
  series = Idle;
  attempt_wait = 0;
  again_wait = 0;
  next_segment = 0;
  segments = 0;
  text = None;
  seen = 0;
  pending = None;
  no_more = Unasked;
  blocked = false;
}

abbrev pub is_false : Bool → Bool
is_false true = false
is_false false = true

abbrev pub is_idle : Series → Bool
is_idle Idle = true
is_idle Due = false
is_idle Running = false

abbrev pub is_running : Series → Bool
is_running Idle = false
is_running Due = false
is_running Running = true

abbrev pub is_unasked : NoMore → Bool
is_unasked Unasked = true
is_unasked Queued = false
is_unasked Dropped = false

-- it hears what is sent to it: a listening node does at all times, another one while it is awake
abbrev pub is_up : NodeState → Bool
is_up n = n.listens || n.awake

-- a session has no final report
abbrev pub is_open : NodeState → Bool
is_open n = is_some (open_session n.book)

-- a command waits
abbrev pub has_waiting : NodeState → Bool
has_waiting n = nat_lt 0 (length n.waiting)

-- a segment of the running attempt was not given yet
abbrev pub has_segment : NodeState → Bool
has_segment n = nat_lt n.next_segment n.segments

-- it is to be served: an attempt has more to give, or is due, or a session may begin
abbrev pub has_work : NodeState → Bool
has_work n = work_by n.series n
  where
    work_by : Series → NodeState → Bool
    work_by Running n = is_some n.text || has_segment n
    work_by Due n = true
    work_by Idle n = is_none (open_session n.book) && has_waiting n && is_up n && is_false n.blocked

-- it is to be told that there is no more for it: it was interviewed, is awake and would sleep, and nothing keeps it
abbrev pub wants_no_more : NodeState → Bool
wants_no_more n =
    n.awake && is_false n.listens && is_some n.classes && is_unasked n.no_more && is_false (has_waiting n)
    && is_idle n.series && n.hold == 0

-- some wait of it runs, or it is blocked until its next tick
abbrev pub needs_tick : NodeState → Bool
needs_tick n = n.blocked || nat_lt 0 n.hold || nat_lt 0 n.again_wait || nat_lt 0 n.attempt_wait

-- the ends of what the controller seals for a node
abbrev pub ends_to : ℕ → SealEnds
ends_to node = record { sender = 1; receiver = node }

-- bytes seal the pending plain text of the node, under a nonce of it and the controller's own (Z-Wave Security 0 Command Class)
pub record SealsText (n : NodeState) (keys : Keys) (own_nonce nonce bytes : List ℕ) : Type 0 where
  pub plain : List ℕ
  pub is_pending : n.pending ≡ Some plain
  pub seals : Seals keys own_nonce nonce (ends_to n.node) plain bytes

-- how many nonces count as seen once one with that first byte is taken; none where it is not taken
abbrev pub count_at : NodeState → ℕ → Option ℕ
count_at n first = taken_from n.pending n.seen first

-- a class list has a class
abbrev pub Lists : Option (List ℕ) → ℕ → Type 0
Lists (Some classes) class = Contains classes class
Lists None class = ⊥
