-- What is on its way while an attempt of a node gives its message in segments, at each phase of quiet lines and ticks, and within how many ticks the device has
-- heard it whole (this project's own rule over the Transport Service Command Class).
use Rattle.std.specs.Prelude.{◌≡◌, ◌⊎◌, ℕ, ◌+◌, ◌*◌, ◌-◌, ◌%◌, ◌<◌, ◌≤◌, ◌==◌, if◌then◌else◌, Bool, List, [], ◌∷◌, ◌++◌, length, Option, Some, None, slice_get}
use Rattle.std.specs.List.{AllByRecursion}
use Rattle.serial_frame.specs.Frame.{FrameParts}
use Rattle.supervision.specs.Host.{command_at as command_of_session}
use Rattle.transport_segments.specs.Places.{IsLeastMissing, IsThere}
use Rattle.transport_segments.specs.Reassembly.{opened}
use Rattle.chip_functions.specs.declared.notice.Notice.TheVariants.{SendData}
use Rattle.chip_functions.specs.declared.notice.TransmitStatus.{TransmitStatus}
use Rattle.chip_sim.specs.Answers.{notice_frame}
use Rattle.air_frames.specs.Flown.{Flown}
use Rattle.air_frames.specs.declared.frame.Heading.TheVariants.{Homeward}
use Rattle.device_sim.specs.State.{State}
use Rattle.mesh_sim.specs.Fates.{place_of}
use Rattle.host_orders.specs.Wrapping.{form_of}
use Rattle.host_orders.specs.declared.carriage.Form.TheVariants.{Cut}
use Rattle.host_heard.specs.Telling.{heard_at}
use Rattle.host_heard.specs.declared.payload.Heard.TheVariants.{Messages}
use Rattle.host_heard.specs.declared.told.Told.TheVariants.{SegmentRequest}
use Rattle.host_requests.specs.Frames.{frame_of}
use Rattle.host_requests.specs.declared.task.Purpose.{Purpose}
use Rattle.host_requests.specs.declared.task.Purpose.TheVariants.{Attempt, Housekeeping}
use Rattle.host_requests.specs.declared.task.Task.TheVariants.{Segment}
use Rattle.host_requests.specs.declared.under_way.UnderWay.{UnderWay}
use Rattle.host_model.specs.Sessions.{message_for, segment_at, segment_count}
use Rattle.host_model.specs.State.{Command, HostState, command_at, node_of}
use Rattle.world_model.specs.State.{Machine}
use Rattle.proof_messages.specs.Reporting.{TellsPlainly}
use Rattle.proof_messages.specs.Slices.{missing_to}
use Rattle.proof_answered.specs.proof_calm.proof_traffic.OnAir.{on_air}
use Rattle.proof_answered.specs.proof_calm.proof_work.proof_walk.Phases.{Phase}
use Rattle.proof_answered.specs.proof_calm.Tied.{on_line, unheard}
use Rattle.proof_answered.specs.Outward.{IsOf}
use Rattle.proof_answered.specs.Workers.{IsFromSaying}
use Rattle.proof_in_time.specs.Coming.{IsAsking, IsOnAir, brings, one_later, ticks_left}
use Rattle.proof_in_time.specs.Owed.{IsFreeIn, IsOwed}

-- ---- commands

-- the message of a session of a node, which goes in segments
pub record IsCut (n session : ℕ) (message : List ℕ) (h : HostState) : Type 0 where
  pub number : ℕ
  pub command : Command
  pub carried : command_of_session (node_of h n).book.commands session ≡ Some number
  pub found : command_at h.commands number ≡ Some command
  pub form : form_of command.carriage.outer ≡ Cut
  pub text : message ≡ message_for command session

-- ---- what stands among others

-- one of these is so, and each other is so
pub record Amid {A : Type 0} (Other Is : A → Type 0) (items : List A) : Type 0 where
  pub before : List A
  pub one : A
  pub behind : List A
  pub are : items ≡ before ++ one ∷ behind
  pub each : AllByRecursion Other before
  pub is : Is one
  pub rest : AllByRecursion Other behind

-- and another behind it
pub record AmidTwo {A : Type 0} (Other First Second : A → Type 0) (items : List A) : Type 0 where
  pub before : List A
  pub first : A
  pub behind : List A
  pub are : items ≡ before ++ first ∷ behind
  pub each : AllByRecursion Other before
  pub is : First first
  pub rest : Amid Other Second behind

-- a frame of the device of one of these asks for nothing
pub record ComesPlainly (these : List Bool) (frame : Flown) : Type 0 where
  pub of : IsOf these frame
  pub home : frame.heading ≡ Homeward
  pub plain : TellsPlainly frame.payload

abbrev pub AllPlain : List Bool → List Flown → Type 0
AllPlain these flights = AllByRecursion (ComesPlainly these) flights

-- nor does what the chip has for the host
abbrev pub AllTold : List Bool → List FrameParts → Type 0
AllTold these frames = AllByRecursion (IsFromSaying these TellsPlainly) frames

-- ---- the device asks for a segment

-- a payload asks for the segment of a place of a session's message
pub record AsksForPart (session place : ℕ) (payload : List ℕ) : Type 0 where
  pub heard : heard_at payload ≡ Messages (SegmentRequest (session % 16) (39 * place) ∷ [])
  pub some : 1 ≤ length payload
  pub few : length payload ≤ 46

-- on the air, and with the chip
pub record IsAsk (n session place : ℕ) (frame : Flown) : Type 0 where
  pub node : frame.node ≡ n
  pub home : frame.heading ≡ Homeward
  pub asks : AsksForPart session place frame.payload

pub record IsAskTold (n session place : ℕ) (frame : FrameParts) : Type 0 where
  pub payload : List ℕ
  pub asks : AsksForPart session place payload
  pub is : frame ≡ brings n payload

-- the call of that id is among these
abbrev pub HasCall : ℕ → List FrameParts → Type 0
HasCall id [] = ⊥
HasCall id (frame ∷ frames) = ((status : TransmitStatus) × (frame ≡ notice_frame (SendData id status))) ⊎ HasCall id frames

-- the chip has a Segment Request for the host, ahead of the call of the request that is under way; or that is not needed, as the attempt has no more to give
pub record Asked (these : List Bool) (n session place : ℕ) (m : Machine) : Type 0 where
  pub at : Amid (IsFromSaying these TellsPlainly) (IsAskTold n session place) (unheard m.outside.outer)
  pub first : HasCall m.host.state.requests.last_id at.behind ⊎ ((node_of m.host.state n).segments ≤ (node_of m.host.state n).next_segment)

-- ---- what the device is to hear

-- a request gives the node a payload: a part of its attempt, or what it asked for
pub data Carries (n : ℕ) (payload : List ℕ) (purpose : Purpose) : Type 0 where
  By_attempt : (more : Bool) → purpose ≡ Attempt n more payload → Carries n payload purpose
  By_task : purpose ≡ Housekeeping (Segment n payload) → Carries n payload purpose

-- It is the next of the attempt, or was asked for, and the host is to give it in this tick; or its request is on its way to the chip. The attempt has the segment of another place to give after that.
pub data IsToGive (n session : ℕ) (message : List ℕ) (place next : ℕ) (here : Phase) (m : Machine) : Type 0 where
  Owed : IsOwed here m → m.host.state.requests.queue ≡ [] → (node_of m.host.state n).next_segment ≡ place → place < (node_of m.host.state n).segments → next ≡ place + 1 → IsToGive n session message place next here m
  Waits : IsOwed here m → m.host.state.requests.queue ≡ Segment n (segment_at session message place) ∷ [] → (node_of m.host.state n).next_segment ≡ next → IsToGive n session message place next here m
  Given : (request : UnderWay) → IsAsking here → m.host.state.requests.queue ≡ [] → m.host.state.requests.under_way ≡ Some request → Carries n (segment_at session message place) request.purpose
      → on_line m.host.state.side.turn ≡ frame_of request.purpose m.host.state.requests.last_id ∷ [] → (node_of m.host.state n).next_segment ≡ next → IsToGive n session message place next here m

-- the places of the segments that it is to hear: one that the host is to give, or that is on the air; and one that it asked for after that, whose Segment Request is on the air. Or the host is told of what it
-- asks for
pub data ToHear : Type 0 where
  Hears_one : (place : ℕ) → ToHear
  Hears_two : (place other : ℕ) → ToHear
  Asks_one : (place : ℕ) → ToHear
  Asks_two : (place other : ℕ) → ToHear

-- the one that it hears first
abbrev pub heard_first : ToHear → ℕ
heard_first (Hears_one place) = place
heard_first (Hears_two place other) = place
heard_first (Asks_one place) = place
heard_first (Asks_two place other) = place

-- each of them is one of the message
abbrev pub AreInside : ToHear → ℕ → Type 0
AreInside (Hears_one place) count = place < count
AreInside (Hears_two place other) count = (place < count) × (other < count)
AreInside (Asks_one place) count = place < count
AreInside (Asks_two place other) count = (place < count) × (other < count)

-- nothing else waits, and the attempt has the segment of that place to give next
pub record IsElse (n next : ℕ) (m : Machine) : Type 0 where
  pub no_task : m.host.state.requests.queue ≡ []
  pub next_is : (node_of m.host.state n).next_segment ≡ next

-- Where they are, and that the first is heard, or the host told of it, within so many ticks. The frame of the host is behind the Segment Request, which arrives before it in the same tick.
pub data OnWay (these : List Bool) (n session : ℕ) (message : List ℕ) (next later : ℕ) (here : Phase) (m : Machine) (hears : ToHear) : Type 0 where
  To_give : (place : ℕ) → hears ≡ Hears_one place → IsToGive n session message place next here m → AllPlain these (on_air m.outside.outer.air.frames) → AllTold these (unheard m.outside.outer) → 1 ≤ later
      → OnWay these n session message next later here m hears
  Aired : (place : ℕ) → hears ≡ Hears_one place → IsElse n next m → (at : Amid (ComesPlainly these) (IsOnAir n (segment_at session message place)) (on_air m.outside.outer.air.frames)) → AllTold these (unheard m.outside.outer)
      → ticks_left here + one_later here (length at.before) ≤ later → OnWay these n session message next later here m hears
  To_give_two : (place other : ℕ) → hears ≡ Hears_two place other → IsToGive n session message place next here m → (at : Amid (ComesPlainly these) (IsAsk n session other) (on_air m.outside.outer.air.frames))
      → one_later here (length at.before) ≡ 1 → AllTold these (unheard m.outside.outer) → 1 ≤ later → OnWay these n session message next later here m hears
  Aired_two : (place other : ℕ) → hears ≡ Hears_two place other → IsElse n next m
      → (at : AmidTwo (ComesPlainly these) (IsAsk n session other) (IsOnAir n (segment_at session message place)) (on_air m.outside.outer.air.frames)) → AllTold these (unheard m.outside.outer)
      → one_later here (length at.before + (1 + length at.rest.before)) ≤ one_later here (length at.before) → ticks_left here + one_later here (length at.before + (1 + length at.rest.before)) ≤ later → OnWay these n session message next later here m hears
  Aired_told : (place other : ℕ) → hears ≡ Hears_two place other → IsElse n next m → (at : Amid (ComesPlainly these) (IsOnAir n (segment_at session message place)) (on_air m.outside.outer.air.frames))
      → Amid (IsFromSaying these TellsPlainly) (IsAskTold n session other) (unheard m.outside.outer) → ticks_left here + one_later here (length at.before) ≡ 0 → OnWay these n session message next later here m hears
  Asks : (place : ℕ) → hears ≡ Asks_one place → IsElse n next m → IsFreeIn here m → (node_of m.host.state n).segments ≤ next → (at : Amid (ComesPlainly these) (IsAsk n session place) (on_air m.outside.outer.air.frames))
      → AllTold these (unheard m.outside.outer) → ticks_left here + one_later here (length at.before) ≤ later → OnWay these n session message next later here m hears
  Asks_told : (place : ℕ) → hears ≡ Asks_one place → IsElse n next m → IsOwed here m → AllPlain these (on_air m.outside.outer.air.frames) → Asked these n session place m → OnWay these n session message next later here m hears
  Asks_told_two : (place other : ℕ) → hears ≡ Asks_two place other → IsElse n next m → IsOwed here m → Asked these n session place m → (at : Amid (ComesPlainly these) (IsAsk n session other) (on_air m.outside.outer.air.frames))
      → one_later here (length at.before) ≡ 1 → 1 ≤ later → OnWay these n session message next later here m hears

-- ---- how many ticks are to come

-- the first device of a node
pub record HasFirst (n : ℕ) (devices : List State) : Type 0 where
  pub place : ℕ
  pub device : State
  pub first : place_of n devices ≡ Some place
  pub stands : slice_get devices place ≡ Some device

-- the bytes of a session's message that have come to a device, in their places
abbrev pub come : ℕ → List ℕ → State → List (Option ℕ)
come session message device = opened device.reassembly (session % 16) (length message)

-- the last of its segments
abbrev pub last_place : List ℕ → ℕ
last_place message = segment_count message - 1

-- one more tick, or two, where the first slice that is missing is not the next that is heard
abbrev pub slot_of : ToHear → ℕ → ℕ
slot_of (Hears_one place) least = if place == least then 0 else 2
slot_of (Hears_two place other) least = if place == least then 0 else 1
slot_of (Asks_one place) least = 1
slot_of (Asks_two place other) least = if place == least then 0 else 1

-- what it asked for last is the first slice that is missing
abbrev pub AsksLeast : ToHear → ℕ → Type 0
AsksLeast (Hears_one place) least = Unit {0}
AsksLeast (Hears_two place other) least = other ≡ least
AsksLeast (Asks_one place) least = place ≡ least
AsksLeast (Asks_two place other) least = other ≡ least

-- The last slice has come, and another is missing: so each segment is answered by asking for the first that is.
pub record IsWanted (session : ℕ) (message : List ℕ) (hears : ToHear) (device : State) (ticks : ℕ) : Type 0 where
  pub next : session ≡ device.sessions.taken + 1
  pub last : IsThere (come session message device) (39 * last_place message)
  pub least : ℕ
  pub first : IsLeastMissing (come session message device) (39 * least)
  pub asked : AsksLeast hears least
  pub few : 3 * missing_to (come session message device) (segment_count message) + slot_of hears least + 2 ≤ ticks

-- The session was taken; or the slices of the places before have come, and the last has not; or all have, so that any segment makes the message whole.
pub data HasBefore (session : ℕ) (message : List ℕ) (place : ℕ) (device : State) : Type 0 where
  Taken : session ≡ device.sessions.taken → HasBefore session message place device
  Lacks_last : session ≡ device.sessions.taken + 1 → (IsThere (come session message device) (39 * last_place message) → ⊥) → ((k : ℕ) → k < place → IsThere (come session message device) (39 * k)) → HasBefore session message place device
  Lacks_none : session ≡ device.sessions.taken + 1 → ((k : ℕ) → k < segment_count message → IsThere (come session message device) (39 * k)) → HasBefore session message place device

-- so the segments are heard in their order, up to the last
pub record IsInTurn (session : ℕ) (message : List ℕ) (hears : ToHear) (next : ℕ) (device : State) (ticks : ℕ) : Type 0 where
  pub place : ℕ
  pub alone : hears ≡ Hears_one place
  pub follows : next ≡ place + 1
  pub before : HasBefore session message place device
  pub few : segment_count message + 4 ≤ ticks + place

-- the device has heard the message within so many ticks, and told the host of the end within so many
abbrev pub IsWithin : ℕ → List ℕ → ToHear → ℕ → State → ℕ → Type 0
IsWithin session message hears next device ticks = IsInTurn session message hears next device ticks ⊎ IsWanted session message hears device ticks

-- The last attempt of the node gives the message of its session in segments; of these its device is to hear some, and has heard the message within so many ticks.
pub record Parts (these : List Bool) (n session left : ℕ) (here : Phase) (m : Machine) : Type 0 where
  pub message : List ℕ
  pub cut : IsCut n session message m.host.state
  pub count : (node_of m.host.state n).segments ≡ segment_count message
  pub no_text : (node_of m.host.state n).text ≡ None
  pub no_pending : (node_of m.host.state n).pending ≡ None
  pub stands : HasFirst n m.outside.devices
  pub hears : ToHear
  pub inside : AreInside hears (segment_count message)
  pub next : ℕ
  pub later : ℕ
  pub way : OnWay these n session message next later here m hears
  pub ticks : ℕ
  pub within : IsWithin session message hears next stands.device ticks
  pub few : later + ticks ≤ left
