-- What holds of a node after every event (this project's own rule, docs/NODES.md).
use Rattle.std.specs.Prelude.{◌≡◌, ◌≢◌, ℕ, ◌≤◌, ◌==◌, ◌&&◌, ◌||◌, Bool, true, false, Option, None, List, length, is_some, IsSome, IsTrue}
use Rattle.supervision.specs.Host.{HostBook, open_session, told_of}
use Rattle.supervision.specs.declared.host_node.Told.{Told}
use Rattle.supervision.specs.declared.host_node.Told.TheVariants.{Final, Working, Old}
use Rattle.host_node.specs.declared.series.Series.{Series}
use Rattle.host_node.specs.declared.series.Series.TheVariants.{Idle, Due, Running}
use Rattle.host_node.specs.declared.no_more.NoMore.{NoMore}
use Rattle.host_node.specs.declared.no_more.NoMore.TheVariants.{Unasked, Queued, Dropped}
use Rattle.host_node.specs.State.{NodeState, is_running}
use Rattle.host_node.specs.Events.{NodeEvent}
use Rattle.host_node.specs.Events.NodeEvent.{Joins, Interviews, Puts, Takes_back, Cancels, Begins, Starts, Takes_nonce, Restores_seen, Reports}

-- no attempt has a wait, a segment, a sealed text or a pending plain text
pub record NothingLeft (attempt_wait next_segment segments : ℕ) (text pending : Option (List ℕ)) : Type 0 where
  pub no_wait : attempt_wait ≡ 0
  pub no_next : next_segment ≡ 0
  pub no_segments : segments ≡ 0
  pub no_text : text ≡ None
  pub no_pending : pending ≡ None

-- a session is open, and fewer than three attempts of its series have ended
pub record HasAttempts (book : HostBook) : Type 0 where
  pub is_open : IsSome (open_session book)
  pub fewer : book.attempts ≤ 2

-- where no session is open, no attempt is counted and no wait after a series runs; where one is, none or three attempts are counted
pub record IdleFacts (book : HostBook) (again_wait : ℕ) : Type 0 where
  pub closed : open_session book ≡ None → (book.attempts ≡ 0) × (again_wait ≡ 0)
  pub opened : IsSome (open_session book) → IsTrue (book.attempts == 0 || book.attempts == 3)

-- a series: what is idle has nothing left of an attempt; the wait for another runs only then; what is due or runs is of the open session; what
-- runs has a sealed text or a pending plain text and never both
abbrev pub SeriesFacts : Series → HostBook → (attempt_wait again_wait next_segment segments : ℕ) → (text pending : Option (List ℕ)) → Type 0
SeriesFacts Idle book attempt again next segments text pending =
    IdleFacts book again × NothingLeft attempt next segments text pending
SeriesFacts Due book attempt again next segments text pending =
    HasAttempts book × (again ≡ 0) × NothingLeft attempt next segments text pending
SeriesFacts Running book attempt again next segments text pending =
    HasAttempts book × (again ≡ 0) × (next ≤ segments) × (is_some text && is_some pending ≡ false)

-- No More Information is asked for an awake node that was interviewed
abbrev pub NoMoreFacts : NoMore → Bool → Option (List ℕ) → Type 0
NoMoreFacts Unasked awake classes = Unit {0}
NoMoreFacts Queued awake classes = IsTrue awake × IsSome classes
NoMoreFacts Dropped awake classes = IsTrue awake × IsSome classes

-- An again wait of 101 ticks is one whose first tick does not count.
pub record NodeFacts (n : NodeState) : Type 0 where
  pub series : SeriesFacts n.series n.book n.attempt_wait n.again_wait n.next_segment n.segments n.text n.pending
  pub attempt_wait : n.attempt_wait ≤ 100
  pub again_wait : n.again_wait ≤ 101
  pub hold : n.hold ≤ 100
  pub no_more : NoMoreFacts n.no_more n.awake n.classes
  pub waiting : length n.waiting ≤ 16

-- while No More Information is queued no attempt runs
abbrev pub IsQuiet : NodeState → Type 0
IsQuiet n = n.no_more ≡ Queued → is_running n.series ≡ false

-- no attempt starts while No More Information is queued: the queue goes before the nodes
abbrev pub StartsQuietly : NodeState → NodeEvent → Type 0
StartsQuietly n (Starts plan) = n.no_more ≢ Queued
StartsQuietly n event = Unit {0}

-- the report ends the open session
abbrev pub is_final : Told → Bool
is_final (Final session) = true
is_final Working = false
is_final Old = false

-- an event that changes what the records say of a node
abbrev pub is_recorded : NodeState → NodeEvent → Bool
is_recorded n Joins = true
is_recorded n (Interviews listens classes) = true
is_recorded n (Puts command) = true
is_recorded n Takes_back = true
is_recorded n (Cancels command) = true
is_recorded n Begins = true
is_recorded n (Takes_nonce seen text) = true
is_recorded n (Restores_seen seen) = true
is_recorded n (Reports id status) = is_final (told_of n.book id status)
is_recorded n event = false
