-- The serial line at each phase of quiet lines and ticks (this project's own rule): it rests between lines and as each tick begins.
use Rattle.std.specs.Prelude.{◌≡◌, ◌⊎◌, ℕ, suc, ◌≤◌, true, List, [], ◌∷◌, length}
use Rattle.std.specs.List.{AllByRecursion}
use Rattle.zw_text.specs.declared.entry.Entry.{Entry}
use Rattle.serial_frame.specs.Frame.{FrameParts}
use Rattle.serial_frame.specs.declared.unit.Unit.TheVariants.{Framed}
use Rattle.serial_link.specs.declared.turn.Turn.TheVariants.{Idle, Copied}
use Rattle.serial_pipes.specs.State.{WayState}
use Rattle.chip_sim.specs.State.{ChipParts}
use Rattle.law_time.specs.Stretches.{is_quiet_line}
use Rattle.host_model.specs.Events.{HostEvent, Accepts, Requests_do, Line_ticks, Node_ticks}
use Rattle.outside_model.specs.State.{OuterState}
use Rattle.outside_model.specs.Events.{OuterEvent, Wakes_device, Shows, Cuts}
use Rattle.world_model.specs.State.{Machine}
use Rattle.world_model.specs.Events.{Event, Outside_does, Host_does, Refuses, Shows_values}
use Rattle.proof_work.specs.proof_walk.Phases.{Phase, Between, Said_line, Begun, Doing, To_tick, Ticked, Arriving, Giving, Ticking_devices, Ticking_chip, Ticking_decoder, Ticking_host, Sleeping, Submitting, Moving, Moved}
use Rattle.proof_work.specs.Rests.{NoneWants}
use Rattle.proof_calm.specs.Marks.{IsUnmarked}
use Rattle.proof_calm.specs.Passes.{AtChip, AtHost, OnLine}
use Rattle.proof_calm.specs.Settling.{IsLive, IsDone, HasMoved, Moves}
use Rattle.proof_calm.specs.Quiet.{AreQuiet}

-- nothing is on the line, and neither side has a frame there
abbrev pub LineRests : Machine → Type 0
LineRests m = OnLine [] [] Idle Idle [] m

-- ---- in a tick

-- the chip has nothing for the host; or its first frame is on its way, for so many ticks, and at most 32 others wait
pub data HasOn (ticks : ℕ) (to_chip to_host : WayState) (chip : ChipParts) : Type 0 where
  Nothing : AtChip [] [] Idle [] to_chip to_host chip → HasOn ticks to_chip to_host chip
  First : (frame : FrameParts) (frames : List FrameParts) → length frames ≤ 32 → AtChip [] (Framed frame ∷ []) (Copied frame 1 ticks) frames to_chip to_host chip
      → HasOn ticks to_chip to_host chip

abbrev pub HasFor : ℕ → OuterState → Type 0
HasFor ticks o = HasOn ticks o.to_chip o.to_host o.chip

pub record IsGiven (ticks : ℕ) (m : Machine) : Type 0 where
  pub unmarked : IsUnmarked m
  pub has : HasFor ticks m.outside.outer
  pub at_host : AtHost Idle m.host

-- an event of the host's tick
abbrev pub IsOfTick : HostEvent → Type 0
IsOfTick Line_ticks = Unit {0}
IsOfTick (Requests_do event moment) = Unit {0}
IsOfTick (Node_ticks n) = Unit {0}
IsOfTick event = ⊥

-- ---- in a line

-- an event of the effect of a quiet line
abbrev pub IsOuterEffect : OuterEvent → Type 0
IsOuterEffect (Wakes_device node route) = Unit {0}
IsOuterEffect (Shows node) = Unit {0}
IsOuterEffect (Cuts size) = Unit {0}
IsOuterEffect event = ⊥

abbrev pub IsEffect : Event → Type 0
IsEffect (Outside_does event) = IsOuterEffect event
IsEffect (Host_does (Accepts order carriage)) = Unit {0}
IsEffect (Refuses line refusal) = Unit {0}
IsEffect (Shows_values node) = Unit {0}
IsEffect event = ⊥

-- ---- in a settling

-- the host has no frame on the line, and there are passes enough
pub record Stands (passes : ℕ) (m : Machine) : Type 0 where
  pub live : IsLive passes m
  pub turn : m.host.state.side.turn ≡ Idle

-- and something moves in the next pass
pub record CanMove (passes : ℕ) (m : Machine) : Type 0 where
  pub live : IsLive (suc passes) m
  pub moves : Moves live.line

-- ---- at each phase

abbrev pub LineAt : Phase → Machine → Type 0
LineAt Between m = LineRests m
LineAt (Said_line line) m = (is_quiet_line line ≡ true) × LineRests m
LineAt (Begun line) m = (is_quiet_line line ≡ true) × LineRests m
LineAt (Doing line left) m = AllByRecursion IsEffect left × LineRests m
LineAt (To_tick ticks) m = LineRests m
LineAt (Ticked ticks) m = IsGiven 0 m
LineAt (Arriving frames ticks) m = IsGiven 0 m
LineAt (Giving results ticks) m = IsGiven 0 m
LineAt (Ticking_devices place count ticks) m = IsGiven 0 m
LineAt (Ticking_chip ticks) m = IsGiven 0 m
LineAt (Ticking_decoder ticks) m = IsGiven 1 m
LineAt (Ticking_host events ticks) m = AllByRecursion IsOfTick events × IsGiven 1 m
LineAt (Sleeping passes ticks) m = IsDone m ⊎ Stands passes m
LineAt (Submitting passes ticks) m = (IsDone m ⊎ IsLive passes m) × NoneWants m.host.state.nodes
LineAt (Moving passes ticks) m = IsDone m ⊎ CanMove passes m
LineAt (Moved has_moved passes ticks) m = IsDone m ⊎ HasMoved has_moved passes m

abbrev pub KnowLine : Phase → List Entry → Machine → Type 0
KnowLine here past m = AreQuiet past → LineAt here m
