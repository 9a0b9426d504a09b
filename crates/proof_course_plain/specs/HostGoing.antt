-- What an event of the host is to the course of one node (this project's own rule).
use Rattle.std.specs.Prelude.{◌≢◌, ℕ, List, [], ◌∷◌, ◌++◌}
use Rattle.std.specs.List.{AllByRecursion}
use Rattle.serial_frame.specs.Items.{IsUnit}
use Rattle.proof_course.specs.Sessions.{Course}
use Rattle.serial_frame.specs.Stream.{Rest}
use Rattle.serial_frame.specs.declared.item.Item.{Item}
use Rattle.chip_sim.specs.Rules.{WaitsWell}
use Rattle.host_model.specs.State.{HostState}
use Rattle.host_model.specs.Events.{HostEvent, Begins, Finishes}
use Rattle.host_model.specs.After.{after as after_host}
use Rattle.host_model.specs.Outs.{outs}
use Rattle.host_model.specs.Did.{MayAll}
use Rattle.outside_model.specs.State.{Outside}
use Rattle.outside_model.specs.Events.{mesh_of}
use Rattle.proof_world.specs.proof_serial.Way.{Carries}
use Rattle.proof_world.specs.proof_serial.Line.{host_units}
use Rattle.proof_world.specs.proof_serial.Chip.{HasFrames}
use Rattle.proof_course_plain.specs.Ways.{Goes}
use Rattle.proof_course_plain.specs.Meaning.{Asked}
use Rattle.proof_course_plain.specs.Mesh.{InMesh}
use Rattle.proof_course_plain.specs.Lines.{Tells, Asks, OnWay}
use Rattle.proof_course_plain.specs.Host.{AtHost, AsksPlainly}
use Rattle.proof_once.specs.Tied.{AreOutcomes}

-- The course is where the host is, and what is outside it; the host has taken `yet` out of its pipe, and judges these items next
pub record HostFollows (node : ℕ) (orders : List Asked) (c : Course) (rest : Rest) (up yet down : List Item) (h : HostState) (w : Outside) : Type 0 where
  pub mesh : InMesh node orders c (mesh_of w)
  pub to_chip : Carries w.outer.chip.decoder w.outer.to_chip up
  pub to_host : Carries rest w.outer.to_host down
  pub frames : HasFrames w.outer.chip.state.port
  pub waits : WaitsWell w.outer.chip.state.port
  pub messages : OnWay (Asks node orders c.host.commands) c.up up h.side.turn []
  pub reports : OnWay (Tells node) c.down (yet ++ down) w.outer.chip.state.port.side.turn w.outer.chip.state.port.waiting
  pub host : AtHost node orders c.host h
  pub outcomes : AreOutcomes h.commands c.host.commands c.told

-- steps of the course lead to where the host is then, and what is outside it; the items on their way to the host stay
pub record HostGoes (node : ℕ) (c : Course) (rest : Rest) (yet down : List Item) (h : HostState) (w : Outside) : Type 0 where
  pub orders : List Asked
  pub later : Course
  pub goes : Goes c later
  pub up : List Item
  pub follows : HostFollows node orders later rest up yet down h w

-- an event at which no session of the node ends
abbrev pub IsAside : ℕ → HostEvent → Type 0
IsAside node (Begins n session command) = ⊥
IsAside node (Finishes n session id command status wake_request) = n ≢ node
IsAside node event = Unit {0}

-- an event at which no session begins
abbrev pub IsNoBegin : HostEvent → Type 0
IsNoBegin (Begins n session command) = ⊥
IsNoBegin event = Unit {0}

-- an event at which no session begins, and at which nothing is asked for that is a message of a session
abbrev pub IsAnswer : ℕ → HostEvent → Type 0
IsAnswer node (Begins n session command) = ⊥
IsAnswer node event = AsksPlainly node event

-- an event at which no session of the node ends; one may begin
abbrev pub EndsNone : ℕ → HostEvent → Type 0
EndsNone node (Finishes n session id command status wake_request) = n ≢ node
EndsNone node event = Unit {0}

-- the units of each event are those that the format carries
abbrev pub UnitsAll : HostState → List HostEvent → Type 0
UnitsAll h [] = Unit {0}
UnitsAll h (event ∷ events) = AllByRecursion IsUnit (host_units (outs h event)) × UnitsAll (after_host h event) events

-- they may happen, one after another, and write such units
pub record AllWell (h : HostState) (events : List HostEvent) : Type 0 where
  pub may : MayAll h events
  pub units : UnitsAll h events
