-- What else is kept of a device is owed as this: that it stays where nothing comes to the node and nothing is done by it, over the words of lines, and where the device has an event.
use Rattle.std.proofs.Common.{◌≡◌, ◌≢◌, ◌≤◌, ℕ, Bool, true, List, [], ◌∷◌, ◌++◌, length}
use Rattle.std.specs.Prelude.{Some, slice_get}
use Rattle.std.specs.List.{AllByRecursion}
use Rattle.device_sim.specs.State.{State}
use Rattle.device_sim.specs.Event.{DeviceEvent, device_replies}
use Rattle.mesh_sim.specs.Air.{AirState, is_joined as joined_in}
use Rattle.zw_text.specs.declared.line.Line.{Line}
use Rattle.zw_text.specs.declared.entry.Entry.{Entry}
use Rattle.zw_text.specs.declared.entry.Entry.TheVariants.{Said}
use Rattle.zw_text.specs.Transcript.{line_of, lines_run}
use Rattle.law_transcript.specs.Lists.{shown_after}
use Rattle.law_transcript.specs.Nodes.{controller, is_joined}
use Rattle.law_transcript.specs.Restarts.{ticks_asked}
use Rattle.law_transcript.specs.Devices.{CameAsShown, after_events, brought, brought_unjoined_at, comings, sent_from, ticks_lived}
use Rattle.world_model.specs.State.{Machine}
use Rattle.world_model.specs.Events.{Event}
use Rattle.proof_air.specs.proof_device.GoingOn.{GoOn}
use Rattle.proof_air.specs.proof_walk.Phases.{Phase, Doing, Arriving, Ticking_devices}
use Rattle.proof_devices.specs.Living.{ActsWith, Keeping}
use Rattle.proof_devices.proofs.Quiet.{AreBy, AreIdle, AreQuiet, are_quiet, idle_quiet}
use Rattle.proof_devices.proofs.Joined.{IsUnsaid, are_unsaid, none_unjoined}
use Rattle.proof_devices.proofs.Sent.{none_sent, others_sent, replied}

-- these say no line, nothing comes to a node by them, and no frame is the node's
pub record Resting (node : ℕ) (past told : List Entry) : Type 0 where
  pub unsaid : AllByRecursion IsUnsaid told
  pub nothing : shown_after (brought_unjoined_at node) past told ≡ []
  pub silent : sent_from node told ≡ []

-- these say no line, and the frames of the node are what its device replies, where it is joined
pub record Replying (node : ℕ) (joined : Bool) (replies : List (List ℕ)) (past told : List Entry) : Type 0 where
  pub unsaid : AllByRecursion IsUnsaid told
  pub nothing : is_joined past node ≡ true → shown_after (brought_unjoined_at node) past told ≡ []
  pub sent : sent_from node told ≡ replied joined replies

pub idle_rests : (node : ℕ) (past told : List Entry) → node ≢ controller → AreIdle told → Resting node past told
idle_rests node past told apart idle = record {
  unsaid = are_unsaid told (idle_quiet told idle);
  nothing = none_unjoined node past told (idle_quiet told idle);
  silent = none_sent node told apart idle;
}

-- of a node other than the one that did something
pub others_rest : (node other : ℕ) (past told : List Entry) → AreBy node told → other ≢ node → other ≢ controller → Resting other past told
others_rest node other past told by apart not_controller = record {
  unsaid = are_unsaid told (are_quiet node told by);
  nothing = none_unjoined other past told (are_quiet node told by);
  silent = others_sent node other told apart not_controller by;
}

-- where nothing comes by what is told
pub quietly_replies : (node : ℕ) (joined : Bool) (replies : List (List ℕ)) (past told : List Entry) → AreQuiet told → sent_from node told ≡ replied joined replies
    → Replying node joined replies past told
quietly_replies node joined replies past told quiet sent = record { unsaid = are_unsaid told quiet; nothing = λ is. none_unjoined node past told quiet; sent = sent }

pub record Keeps (olds : List State) (Also : Keeping) (Joins : List Entry → AirState → Type 0) : Type 0 where
  pub rests : (past told : List Entry) (old : State) (events : List DeviceEvent) → old.node ≢ controller → Resting old.node past told → Also past old events → Also (past ++ told) old events
  pub said : (past : List Entry) (words : List ℕ) (line : Line) (old : State) (events : List DeviceEvent) → old.node ≢ controller → line_of (Said words) ≡ line ∷ []
      → CameAsShown old.node past events → Also past old events → Also (past ++ Said words ∷ []) old events
  -- its device has an event
  pub does : (past told : List Entry) (air : AirState) (old : State) (events : List DeviceEvent) (event : DeviceEvent) → old.node ≢ controller → Joins past air
      → Replying old.node (joined_in air old.node) (device_replies (after_events old events) event) past told
      → length (comings events) ≤ length (brought old.node past) → comings (events ++ event ∷ []) ≡ brought old.node (past ++ told) → ticks_lived (events ++ event ∷ []) ≤ ticks_asked (lines_run past)
      → Also past old events → Also (past ++ told) old (events ++ event ∷ [])
  -- another device of the list has one
  pub elsewhere : (past told : List Entry) (devices : List State) (place other : ℕ) (device old : State) (events : List DeviceEvent) → GoOn olds devices
      → slice_get devices place ≡ Some device → slice_get olds other ≡ Some old → other ≢ place → old.node ≢ controller → AreBy device.node told
      → Also past old events → Also (past ++ told) old events

-- which nodes are joined is known where devices act
pub record Grounds (olds : List State) (Also : Keeping) (Joins : List Entry → AirState → Type 0) (Extra : Phase → List Entry → Machine → Type 0) : Type 0 where
  pub arriving : (frames ticks : ℕ) (past : List Entry) (m : Machine) → Extra (Arriving frames ticks) past m → Joins past m.outside.outer.air
  pub ticking : (place count ticks : ℕ) (past : List Entry) (m : Machine) → Extra (Ticking_devices place count ticks) past m → Joins past m.outside.outer.air
  pub acting : (line : Line) (first : Event) (left : List Event) (past : List Entry) (m : Machine) → ActsWith Also olds line (first ∷ left) past m
      → Extra (Doing line (first ∷ left)) past m → Joins past m.outside.outer.air
