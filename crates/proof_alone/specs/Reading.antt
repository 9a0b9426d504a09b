-- How the machine of the simulator is read as a host alone, at each phase of a line (this project's own rule): chip, air and devices are forgotten, and what has come for the host
-- are the good units on their way to it.
use Rattle.std.specs.Prelude.{◌≡◌, ◌⊎◌, ℕ, Bool, true, false, List, [], ◌∷◌}
use Rattle.std.specs.List.{AllByRecursion}
use Rattle.serial_frame.specs.Stream.{no_rest}
use Rattle.serial_frame.specs.declared.item.Item.{Item}
use Rattle.serial_frame.specs.declared.unit.Unit.{Unit as LineUnit}
use Rattle.zw_words.specs.declared.side.Side.TheVariants.{Host, Chip}
use Rattle.zw_text.specs.declared.line.Line.{Line}
use Rattle.zw_text.specs.declared.line.Line.TheVariants as lines
use Rattle.zw_text.specs.declared.entry.Refusal.{Refusal}
use Rattle.zw_text.specs.declared.entry.Entry.{Entry}
use Rattle.law_host.specs.law_transcript.Restarts.{ticks_of}
use Rattle.law_host.specs.Heard.{is_of_others}
use Rattle.host_requests.specs.declared.task.Task.TheVariants.{Members}
use Rattle.proof_line.specs.host_model.Outs.{Silent}
use Rattle.proof_line.specs.host_model.State.{HostState}
use Rattle.proof_line.specs.host_model.Events.{HostEvent, Queues}
use Rattle.proof_line.specs.host_model.Asking.{places_refusal}
use Rattle.proof_line.specs.outside_model.State.{is_stalled}
use Rattle.proof_line.specs.outside_model.Events.{OuterEvent, Clears_pipe, Collides_next, Cuts, Discovers, Joins, Links, Loses, Loses_acks, Marks_change, Marks_loss, Repeats, Sets_device, Shows, Stalls, Wakes_device}
use Rattle.proof_line.specs.world_model.State.{Machine}
use Rattle.proof_line.specs.world_model.Events.{Event, Host_does, Outside_does, Refuses, Shows_values}
use Rattle.proof_line.specs.world_model.Lines.{Asks, restart_events}
use Rattle.proof_line.specs.proof_serial.Chip.{HasFrames}
use Rattle.proof_line.specs.proof_serial.Line.{Carried, IsAtRest, WritesWell}
use Rattle.proof_line.specs.proof_serial.Units.{good_units}
use Rattle.proof_line.specs.proof_walk.ByLine.{KnownOf, begun}
use Rattle.proof_line.specs.proof_walk.Outside.{awaits_number}
use Rattle.proof_line.specs.proof_walk.Phases as sim
use Rattle.proof_line.specs.Marks.{KnowMarks}
use Rattle.proof_alone.specs.State.{HostMachine, host_machine}
use Rattle.proof_alone.specs.Steps.{AreFrames, AsksNothing, IsAskedBy}
use Rattle.proof_alone.specs.Phases.{Phase, Resting, Asked, Risen, Ticking, Open, Sleeping, Submitting}
use Rattle.proof_alone.specs.Runs.{Knowledge}
use Rattle.proof_alone.specs.Careful.{CarefulRun, Stage, Fresh, Looked}

-- the machine as a host alone, with so many ticks to come, and what has come for it
abbrev pub read_of : ℕ → Machine → List LineUnit → HostMachine
read_of left m came = host_machine m.keys m.records m.host.state came m.outside.outer.clock left (awaits_number m.outside.outer)

-- a careful run of the host alone has these entries, and leads to this stage and phase with what the machine is read as; of what has come this is so
pub record ReadsWith (Such : List LineUnit → Type 0) (start : HostMachine) (stage : Stage) (here : Phase) (left : ℕ) (past : List Entry) (m : Machine) : Type 0 where
  pub up : List Item
  pub down : List Item
  pub carried : Carried m up down
  pub frames : HasFrames m.outside.outer.chip.state.port
  pub rests : m.host.decoder ≡ no_rest
  pub only : Such (good_units down)
  pub run : CarefulRun start stage here past (read_of left m (good_units down))

-- it is frames alone
abbrev pub Reads : HostMachine → Stage → Phase → ℕ → List Entry → Machine → Type 0
Reads start stage here left past m = ReadsWith AreFrames start stage here left past m

-- at rest, whether it has pumped since the last words or not: a line of no tick ends without a pump
abbrev pub ReadsAtRest : HostMachine → ℕ → List Entry → Machine → Type 0
ReadsAtRest start left past m = (stage : Stage) × Reads start stage Resting left past m

-- and once the chip has taken bytes answers too, until the host takes those that are there: then no byte is held up
abbrev pub OnlyThen : Bool → Machine → List LineUnit → Type 0
OnlyThen true m came = is_stalled m.outside.outer ≡ false
OnlyThen false m came = AreFrames came

-- the host has started again, and what is on its way to it is not cleared yet
pub record ReadsCleared (start : HostMachine) (past : List Entry) (m : Machine) : Type 0 where
  pub up : List Item
  pub down : List Item
  pub carried : Carried m up down
  pub frames : HasFrames m.outside.outer.chip.state.port
  pub rests : m.host.decoder ≡ no_rest
  pub run : CarefulRun start Fresh Open past (read_of 0 m [])

-- ---- the effect of a line

-- an event outside at which nothing is entered and written
abbrev pub IsSilent : OuterEvent → Type 0
IsSilent (Joins node) = Unit {0}
IsSilent Discovers = Unit {0}
IsSilent (Links a b live) = Unit {0}
IsSilent (Loses count) = Unit {0}
IsSilent (Loses_acks count) = Unit {0}
IsSilent (Marks_loss side) = Unit {0}
IsSilent (Marks_change side garble) = Unit {0}
IsSilent Collides_next = Unit {0}
IsSilent (Stalls ticks) = Unit {0}
IsSilent (Cuts size) = Unit {0}
IsSilent event = ⊥

-- one that a line asks for of the air or of a device
abbrev pub IsByHand : OuterEvent → Type 0
IsByHand (Repeats number drawn route) = Unit {0}
IsByHand (Wakes_device node route) = Unit {0}
IsByHand (Sets_device node value route) = Unit {0}
IsByHand (Shows node) = Unit {0}
IsByHand event = ⊥

-- the host does nothing more, and nothing is entered
abbrev pub LeavesHost : Event → Type 0
LeavesHost (Outside_does event) = IsSilent event
LeavesHost event = ⊥

-- what is left of it: all; what it asks for once a discovery has begun; a pipe or both to be cleared; nothing that the host does
pub data EffectReads (start : HostMachine) (line : Line) (left : List Event) (past : List Entry) (m : Machine) : Type 0 where
  Asks_host : (event : HostEvent) (rest : List Event) → left ≡ Host_does event ∷ rest → AllByRecursion LeavesHost rest → IsAskedBy line m.host.state event →
      Reads start Fresh (Asked line) 0 past m → EffectReads start line left past m
  Refuses_line : (refusal : Refusal) → left ≡ Refuses line refusal ∷ [] → Reads start Fresh (Asked line) 0 past m → EffectReads start line left past m
  Shows_node : (node : ℕ) → line ≡ lines.Store node → left ≡ Shows_values node ∷ [] → Reads start Fresh (Asked line) 0 past m → EffectReads start line left past m
  Starts_again : (state : HostState) → line ≡ lines.Restart → left ≡ restart_events state → Reads start Fresh (Asked line) 0 past m → EffectReads start line left past m
  Does_silently : (event : OuterEvent) → left ≡ Outside_does event ∷ [] → IsSilent event → AsksNothing line → Reads start Fresh (Asked line) 0 past m →
      EffectReads start line left past m
  Does_by_hand : (event : OuterEvent) → left ≡ Outside_does event ∷ [] → IsByHand event → is_of_others (line ∷ []) ≡ true → Reads start Fresh (Asked line) 0 past m →
      EffectReads start line left past m
  Begins_discovery : (asked : List Event) → line ≡ lines.Discover → left ≡ Outside_does Discovers ∷ asked →
      Asks (places_refusal m.host.state 1) lines.Discover (Queues Members) asked → Reads start Fresh (Asked line) 0 past m → EffectReads start line left past m
  Goes_on_asking : line ≡ lines.Discover → Asks (places_refusal m.host.state 1) lines.Discover (Queues Members) left → Reads start Fresh (Asked line) 0 past m →
      EffectReads start line left past m
  Clears_both : left ≡ Outside_does (Clears_pipe Host) ∷ Outside_does (Clears_pipe Chip) ∷ [] → ReadsCleared start past m → EffectReads start line left past m
  Clears_one : left ≡ Outside_does (Clears_pipe Chip) ∷ [] → ReadsCleared start past m → EffectReads start line left past m
  Is_done : AllByRecursion LeavesHost left → Reads start Fresh Open 0 past m → EffectReads start line left past m

-- ---- at each phase

abbrev pub ReadsAt : HostMachine → sim.Phase → KnownOf
ReadsAt start sim.Between past m = ReadsAtRest start 0 past m
ReadsAt start (sim.Said_line line) past m = Reads start Fresh (Asked line) (ticks_of line) past (begun m)
ReadsAt start (sim.Begun line) past m = Reads start Fresh (Asked line) (ticks_of line) past m
ReadsAt start (sim.Doing line left) past m = EffectReads start line left past m
ReadsAt start (sim.To_tick ticks) past m = ReadsAtRest start ticks past m
ReadsAt start (sim.Ticked ticks) past m = Reads start Fresh Risen ticks past m
ReadsAt start (sim.Arriving frames ticks) past m = Reads start Fresh Risen ticks past m
ReadsAt start (sim.Giving results ticks) past m = Reads start Fresh Risen ticks past m
ReadsAt start (sim.Ticking_devices place count ticks) past m = Reads start Fresh Risen ticks past m
ReadsAt start (sim.Ticking_chip ticks) past m = Reads start Fresh Risen ticks past m
ReadsAt start (sim.Ticking_decoder ticks) past m = Reads start Fresh Risen ticks past m
ReadsAt start (sim.Ticking_host events ticks) past m = Silent events × Reads start Fresh (Ticking events) ticks past m
ReadsAt start (sim.Sleeping passes ticks) past m = Reads start Looked Sleeping ticks past m
ReadsAt start (sim.Submitting passes ticks) past m = Reads start Looked Submitting ticks past m
ReadsAt start (sim.Moving passes ticks) past m = Reads start Looked Resting ticks past m
ReadsAt start (sim.Moved has_moved passes ticks) past m = ReadsWith (OnlyThen has_moved m) start Looked Open ticks past m

-- what holds of each event of lines: both sides of the line are at rest where they tick or start again, and write frames that the format carries
abbrev pub IsFine : Machine → Event → Type 0
IsFine m event = IsAtRest m event × WritesWell m event

-- ---- what is read

-- what is known of marks too: which frames are changed
abbrev pub ReadsMarked : HostMachine → sim.Phase → KnownOf
ReadsMarked start here past m = KnowMarks here past m × ReadsAt start here past m

-- nothing is asked of an entry
abbrev pub Anything : List Entry → Entry → Type 0
Anything past e = Unit {0}

-- ---- what is known of it

-- of the machine as a host alone, with so many ticks to come and some units that have come for it
abbrev pub KnowsAs : Knowledge → Phase → ℕ → List Entry → Machine → Type 0
KnowsAs Know here left past m = (came : List LineUnit) × Know here past (read_of left m came)

-- At each phase of a line. Of its effect the host does its part next, or has done it.
abbrev pub HostKnows : Knowledge → sim.Phase → KnownOf
HostKnows Know sim.Between past m = KnowsAs Know Resting 0 past m
HostKnows Know (sim.Said_line line) past m = KnowsAs Know (Asked line) (ticks_of line) past (begun m)
HostKnows Know (sim.Begun line) past m = KnowsAs Know (Asked line) (ticks_of line) past m
HostKnows Know (sim.Doing line left) past m = KnowsAs Know (Asked line) 0 past m ⊎ KnowsAs Know Open 0 past m
HostKnows Know (sim.To_tick ticks) past m = KnowsAs Know Resting ticks past m
HostKnows Know (sim.Ticked ticks) past m = KnowsAs Know Risen ticks past m
HostKnows Know (sim.Arriving frames ticks) past m = KnowsAs Know Risen ticks past m
HostKnows Know (sim.Giving results ticks) past m = KnowsAs Know Risen ticks past m
HostKnows Know (sim.Ticking_devices place count ticks) past m = KnowsAs Know Risen ticks past m
HostKnows Know (sim.Ticking_chip ticks) past m = KnowsAs Know Risen ticks past m
HostKnows Know (sim.Ticking_decoder ticks) past m = KnowsAs Know Risen ticks past m
HostKnows Know (sim.Ticking_host events ticks) past m = KnowsAs Know (Ticking events) ticks past m
HostKnows Know (sim.Sleeping passes ticks) past m = KnowsAs Know Sleeping ticks past m
HostKnows Know (sim.Submitting passes ticks) past m = KnowsAs Know Submitting ticks past m
HostKnows Know (sim.Moving passes ticks) past m = KnowsAs Know Resting ticks past m
HostKnows Know (sim.Moved has_moved passes ticks) past m = KnowsAs Know Open ticks past m
