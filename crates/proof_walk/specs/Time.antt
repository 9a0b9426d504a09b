-- What is known of time at each phase of a line (this project's own rule): so many ticks have begun as lines have asked for, but for those that are still to come; and the
-- number that was entered last is that of a tick that has begun.
use Rattle.std.specs.Prelude.{◌≡◌, ◌≤◌, ◌<◌, ℕ, ◌+◌, Bool, true, List, ⊤}
use Rattle.std.specs.List.{AllByRecursion}
use Rattle.zw_text.specs.declared.entry.Entry.{Entry}
use Rattle.zw_text.specs.declared.entry.Entry.TheVariants.{Time}
use Rattle.zw_text.specs.Transcript.{lines_run, time_of}
use Rattle.proof_host.specs.law_transcript.Restarts.{ticks_of, ticks_asked}
use Rattle.proof_device.specs.outside_model.State.{Outside}
use Rattle.proof_device.specs.outside_model.Events.{OuterEvent, Begins_tick}
use Rattle.proof_device.specs.world_model.State.{Machine}
use Rattle.proof_walk.specs.Phases.{Phase, Between, Said_line, Begun, Doing, To_tick, Ticked, Arriving, Giving, Ticking_devices, Ticking_chip, Ticking_decoder, Ticking_host, Sleeping, Submitting, Moving, Moved}
use Rattle.proof_walk.specs.Outside.{Known, CoversOuter}

-- a number is above those before it, and lines have asked for so many ticks
abbrev pub MayCount : List Entry → Entry → Type 0
MayCount past (Time tick) = (time_of past < tick) × (tick ≤ ticks_asked (lines_run past))
MayCount past _ = ⊤

-- so many ticks are still to come; where the number of the running one is to be entered, it is above the last
pub record TieTime (extra : ℕ) (awaits : Bool) (past : List Entry) (w : Outside) : Type 0 where
  pub clock : w.outer.clock + extra ≡ ticks_asked (lines_run past)
  pub shown : time_of past ≤ w.outer.clock
  pub later : awaits ≡ true → time_of past < w.outer.clock

abbrev pub BeginsNoTick : OuterEvent → Type 0
BeginsNoTick Begins_tick = ⊥
BeginsNoTick event = Unit {0}

abbrev pub KnownTime : ℕ → List Entry → Machine → Type 0
KnownTime extra past m = Known MayCount (λ pending. TieTime extra) past m.outside

-- the ticks that are still to come at a phase
abbrev pub ticks_left : Phase → ℕ
ticks_left Between = 0
ticks_left (Said_line line) = ticks_of line
ticks_left (Begun line) = ticks_of line
ticks_left (Doing line left) = 0
ticks_left (To_tick ticks) = ticks
ticks_left (Ticked ticks) = ticks
ticks_left (Arriving frames ticks) = ticks
ticks_left (Giving results ticks) = ticks
ticks_left (Ticking_devices place count ticks) = ticks
ticks_left (Ticking_chip ticks) = ticks
ticks_left (Ticking_decoder ticks) = ticks
ticks_left (Ticking_host events ticks) = ticks
ticks_left (Sleeping passes ticks) = ticks
ticks_left (Submitting passes ticks) = ticks
ticks_left (Moving passes ticks) = ticks
ticks_left (Moved has_moved passes ticks) = ticks

-- the effect of a line begins no tick
abbrev pub LeavesTime : Phase → Type 0
LeavesTime (Doing line left) = AllByRecursion (CoversOuter BeginsNoTick) left
LeavesTime here = Unit {0}

abbrev pub KnowTime : Phase → List Entry → Machine → Type 0
KnowTime here past m = KnownTime (ticks_left here) past m × LeavesTime here
