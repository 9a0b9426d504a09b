-- What is on its way of an attempt that gives segments where its device is to hear no more of them: it has taken the session, or the message goes whole, or no attempt runs (this project's own rule).
use Rattle.std.specs.Prelude.{◌≡◌, ◌⊎◌, ℕ, ◌%◌, ◌<◌, ◌≤◌, Bool, List, [], ◌∷◌, ◌++◌, length, None, Some}
use Rattle.std.specs.List.{AllByRecursion}
use Rattle.supervision.specs.Host.{begun_of}
use Rattle.transport_segments.specs.Runs.{IsPart}
use Rattle.air_frames.specs.Flown.{Flown}
use Rattle.air_frames.specs.declared.frame.Heading.TheVariants.{Outward}
use Rattle.host_requests.specs.Frames.{frame_of}
use Rattle.host_requests.specs.declared.task.Task.TheVariants.{Segment}
use Rattle.host_requests.specs.declared.under_way.UnderWay.{UnderWay}
use Rattle.host_node.specs.declared.series.Series.TheVariants.{Running}
use Rattle.host_model.specs.Sessions.{segment_at, segment_count}
use Rattle.host_model.specs.State.{node_of}
use Rattle.world_model.specs.State.{Machine}
use Rattle.proof_answered.specs.proof_calm.proof_traffic.OnAir.{on_air}
use Rattle.proof_answered.specs.proof_calm.proof_work.proof_walk.Phases.{Phase, Arriving, Ticked}
use Rattle.proof_answered.specs.proof_calm.Tied.{on_line, unheard}
use Rattle.proof_in_time.specs.Coming.{IsAsking, IsMessage}
use Rattle.proof_in_time.specs.Owed.{IsOwed}
use Rattle.proof_in_time.specs.Parts.{AllPlain, AllTold, Asked, Carries, HasFirst, IsCut}
use Rattle.proof_in_time.specs.Plainly.{SpeakPlainly}
use Rattle.proof_in_time.specs.Untold.{NoneFliesEnds, NoneToldEnds}

-- ---- what the device answers plainly

-- the session that was begun last
abbrev pub last_begun : ℕ → Machine → ℕ
last_begun n m = begun_of (node_of m.host.state n).book

-- the first device of a node has taken it
pub record HasTaken (n : ℕ) (m : Machine) : Type 0 where
  pub first : HasFirst n m.outside.devices
  pub taken : last_begun n m ≡ first.device.sessions.taken

-- a payload is the message of that session; or one segment of it, where the device has taken the session
pub data IsHeardPlainly (n : ℕ) (m : Machine) (payload : List ℕ) : Type 0 where
  Is_whole : 1 ≤ last_begun n m → IsMessage (last_begun n m) payload → IsHeardPlainly n m payload
  Is_again : 1 ≤ last_begun n m → HasTaken n m → (message : List ℕ) → IsPart message (last_begun n m % 16) payload → IsHeardPlainly n m payload

-- the request on its way to the chip gives such a payload
pub record GivesPlainly (n : ℕ) (m : Machine) : Type 0 where
  pub request : UnderWay
  pub payload : List ℕ
  pub under_way : m.host.state.requests.under_way ≡ Some request
  pub carries : Carries n payload request.purpose
  pub line : on_line m.host.state.side.turn ≡ frame_of request.purpose m.host.state.requests.last_id ∷ []
  pub plainly : IsHeardPlainly n m payload

-- No task waits, and nothing is asked for; what the host has on the air or on its way to the chip is answered plainly; and an attempt in segments is of a session that was taken.
pub record IsQuiet (these : List Bool) (n : ℕ) (here : Phase) (m : Machine) : Type 0 where
  pub no_task : m.host.state.requests.queue ≡ []
  pub speak : SpeakPlainly these m
  pub flying : AllByRecursion (λ (frame : Flown). frame.heading ≡ Outward → IsHeardPlainly n m frame.payload) (on_air m.outside.outer.air.frames)
  pub given : IsAsking here → (on_line m.host.state.side.turn ≡ []) ⊎ GivesPlainly n m
  pub taken : 1 ≤ (node_of m.host.state n).segments → HasTaken n m

-- ---- the rest of the tick in which the session was taken

-- the frames that arrive in a tick tell the end of no such session
pub record FirstUnended (n session frames : ℕ) (flights : List Flown) : Type 0 where
  pub before : List Flown
  pub behind : List Flown
  pub are : flights ≡ before ++ behind
  pub fewer : frames ≤ length before
  pub flying : NoneFliesEnds n session before

abbrev pub ArriveUnended : ℕ → ℕ → Phase → Machine → Type 0
ArriveUnended n session (Ticked ticks) m = ⊥
ArriveUnended n session (Arriving frames ticks) m = FirstUnended n session frames (on_air m.outside.outer.air.frames)
ArriveUnended n session here m = Unit {0}

-- the host is told that a segment is asked for; or that waits, and is given next
pub data IsToAnswer (these : List Bool) (n session : ℕ) (message : List ℕ) (place : ℕ) (here : Phase) (m : Machine) : Type 0 where
  Is_asked : m.host.state.requests.queue ≡ [] → Asked these n session place m → IsToAnswer these n session message place here m
  Is_waiting : m.host.state.requests.queue ≡ Segment n (segment_at session message place) ∷ [] → AllTold these (unheard m.outside.outer) → IsToAnswer these n session message place here m

-- The device took the session in this tick, while what it asked for before was with the host, which gives that in this tick.
pub record Trail (these : List Bool) (n : ℕ) (here : Phase) (m : Machine) : Type 0 where
  pub running : (node_of m.host.state n).series ≡ Running
  pub message : List ℕ
  pub place : ℕ
  pub cut : IsCut n (last_begun n m) message m.host.state
  pub inside : place < segment_count message
  pub count : (node_of m.host.state n).segments ≡ segment_count message
  pub no_text : (node_of m.host.state n).text ≡ None
  pub no_pending : (node_of m.host.state n).pending ≡ None
  pub taken : HasTaken n m
  pub owed : IsOwed here m
  pub flying : AllPlain these (on_air m.outside.outer.air.frames)
  pub soon : ArriveUnended n (last_begun n m) here m
  pub untold : NoneToldEnds n (last_begun n m) (unheard m.outside.outer)
  pub answer : IsToAnswer these n (last_begun n m) message place here m
