-- Commands that wait for a node, or whose session is open, are in hand until that session is over (this project's own rule), and within how many ticks it is.
use Rattle.std.specs.Prelude.{◌≡◌, ◌≢◌, ◌⊎◌, ℕ, zero, suc, ◌+◌, ◌≤◌, Bool, true, false, if◌then◌else◌, List, [], ◌∷◌, ◌++◌, length, Some, None}
use Rattle.supervision.specs.Host.{HostBook, begun_of, command_at, open_session}
use Rattle.chip_sim.specs.Nodes.{is_marked}
use Rattle.host_node.specs.State.{NodeState}
use Rattle.host_node.specs.declared.series.Series.TheVariants.{Idle}
use Rattle.host_model.specs.State.{Command, HostState, command_at as command_of_host, node_of}
use Rattle.world_model.specs.State.{Machine}
use Rattle.proof_answered.specs.Sleepers.{HasSleeper, IsAlone}
use Rattle.proof_answered.specs.Turns.{marked_to}

-- ---- a command of a node

-- it waits, behind so many others
pub record StandsAt (command place : ℕ) (waiting : List ℕ) : Type 0 where
  pub before : List ℕ
  pub behind : List ℕ
  pub are : waiting ≡ before ++ command ∷ behind
  pub place_is : length before ≡ place

-- while a session is open, so many are to be over before that of the command begins: it is the one that is open, or waits behind that
abbrev pub ComesAfter : ℕ → ℕ → ℕ → NodeState → Type 0
ComesAfter zero command session x = command_at x.book.commands session ≡ Some command
ComesAfter (suc place) command session x = StandsAt command place x.waiting

-- so many sessions of the node are to be over before that of the command begins; the one that is open has a series that is due or runs
pub data IsInHand (command more : ℕ) (x : NodeState) : Type 0 where
  Opened : (session : ℕ) → open_session x.book ≡ Some session → x.series ≢ Idle → ComesAfter more command session x → IsInHand command more x
  Unopened : open_session x.book ≡ None → StandsAt command more x.waiting → IsInHand command more x

-- so many commands wait before it, after a session that is open and whose series is over; the wait until its next one runs
pub record RestsBefore (command more : ℕ) (x : NodeState) : Type 0 where
  pub session : ℕ
  pub opened : open_session x.book ≡ Some session
  pub idle : x.series ≡ Idle
  pub wait : ℕ
  pub again : x.again_wait ≡ suc wait
  pub stands : StandsAt command more x.waiting

-- each of these nodes listens, as the host knows, and no task of its own comes before them
pub record AllServe (these : List Bool) (h : HostState) : Type 0 where
  pub listens : (n : ℕ) → is_marked these n ≡ true → (node_of h n).listens ≡ true
  pub no_task : h.requests.queue ≡ []

-- or these are one node alone, whose device sleeps
abbrev pub SleepsAlone : List Bool → Machine → Type 0
SleepsAlone these m = (n : ℕ) × (IsAlone these n × HasSleeper n m.outside.devices)

abbrev pub Serves : Bool → List Bool → Machine → Type 0
Serves true these m = AllServe these m.host.state
Serves false these m = SleepsAlone these m

-- a command waited for the node at an earlier moment, or was accepted for it since
pub data IsGiven (n command : ℕ) (old new : HostState) : Type 0 where
  Waited : (more : ℕ) → StandsAt command more (node_of old n).waiting → IsGiven n command old new
  Accepted_since : (found : Command) → command_of_host new.commands command ≡ Some found → found.order.node ≡ n → length old.commands + 1 ≤ command → IsGiven n command old new

-- a session has its final outcome: the last one, or a later one has begun, which only then does
abbrev pub IsPast : ℕ → HostBook → Type 0
IsPast session book = (session + 1 ≤ begun_of book) ⊎ ((begun_of book ≡ session) × (open_session book ≡ None))

-- so it is of the session of the command
pub record HasEnded (command : ℕ) (book : HostBook) : Type 0 where
  pub session : ℕ
  pub was : command_at book.commands session ≡ Some command
  pub past : IsPast session book

-- ---- ticks

-- those of a session, from the end of the one before it on: one for each of these nodes, whose turn may come before, so many until the report comes that tells the
-- end of a work (six, where a message goes whole), and one more
abbrev pub ticks_enough : ℕ → List Bool → ℕ
ticks_enough long these = marked_to these 232 + (long + 1)

-- those of so many sessions
abbrev pub ticks_of_all : ℕ → List Bool → ℕ → ℕ
ticks_of_all long these zero = 0
ticks_of_all long these (suc sessions) = ticks_enough long these + ticks_of_all long these sessions

-- where no record of its last session was kept, the node is blocked until its own tick, which comes with the next one of the host
abbrev pub ticks_blocked : NodeState → ℕ
ticks_blocked x = if x.blocked then 1 else 0

-- how many ticks have begun
abbrev pub ticks_begun : Machine → ℕ
ticks_begun m = m.outside.outer.clock
