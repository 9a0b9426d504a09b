-- What is known, at each phase of a line, of the frames that have had their fate (this project's own rule): they are those that were sent before the last tick that has begun, but
-- for those that are still to arrive in it.
use Rattle.std.specs.Prelude.{◌≡◌, ◌≤◌, ◌<◌, ◌⊎◌, ℕ, ◌+◌, ◌-◌, Bool, true, false, Option, List, [], ◌∷◌, length}
use Rattle.std.specs.List.{AllByRecursion}
use Rattle.route_table.specs.declared.route.Route.{Route}
use Rattle.zw_text.specs.declared.line.Line.{Line}
use Rattle.zw_text.specs.declared.line.Line.TheVariants.{Repeat}
use Rattle.zw_text.specs.declared.entry.Entry.{Entry}
use Rattle.zw_text.specs.Transcript.{frames, line_last}
use Rattle.law_wire.specs.law_transcript.Fates.{first_fates}
use Rattle.law_wire.specs.law_transcript.Restarts.{repeats}
use Rattle.law_wire.specs.Asked.{clock_of}
use Rattle.law_wire.specs.Arriving.{MayLand, sent_before}
use Rattle.proof_walk.specs.outside_model.Events.{OuterEvent, Begins_line, Begins_tick, Arrives, Repeats}
use Rattle.proof_walk.specs.world_model.State.{Machine}
use Rattle.proof_walk.specs.world_model.Events.{Event, Outside_does}
use Rattle.proof_walk.specs.Outside.{Known, Knowing, CoversOuter}
use Rattle.proof_walk.specs.Phases.{Phase, Said_line, Begun, Doing, Ticked, Arriving}

-- So many frames were sent before the tick of the clock began, and all others in it. Where its number is still to be entered, those have had their fate that were sent before the
-- tick before it; once it is entered, what follows in a tick answers no `repeat`.
pub record TieSent (before : ℕ) (ticking awaits : Bool) (past : List Entry) (clock : ℕ) : Type 0 where
  pub begun : clock_of past ≤ clock
  pub now : awaits ≡ false → clock_of past ≡ clock
  pub earlier : sent_before clock past ≡ before
  pub all : (time : ℕ) → clock < time → sent_before time past ≡ length (frames past)
  pub waits : awaits ≡ true → length (first_fates past) ≡ sent_before (clock - 1) past
  pub apart : ticking ≡ true → awaits ≡ false → repeats past ≡ false

abbrev pub Sent : ℕ → Bool → Knowing
Sent before ticking awaits past w = TieSent before ticking awaits past w.outer.clock

abbrev pub KnownSent : ℕ → Bool → List Entry → Machine → Type 0
KnownSent before ticking past m = Known MayLand (λ pending. Sent before ticking) past m.outside

-- those have had their fate, but so many that are still to arrive
pub record Landing (left : ℕ) (ticking : Bool) (past : List Entry) (m : Machine) : Type 0 where
  pub before : ℕ
  pub sent : KnownSent before ticking past m
  pub fated : length (first_fates past) ≡ m.outside.outer.air.frames.landed
  pub due : m.outside.outer.air.frames.landed + left ≡ before

abbrev pub Landed : List Entry → Machine → Type 0
Landed past m = Landing 0 false past m

-- ---- a line

-- neither a line nor a tick begins, and no frame arrives or is repeated
abbrev pub LandsNone : OuterEvent → Type 0
LandsNone Begins_line = ⊥
LandsNone Begins_tick = ⊥
LandsNone (Arrives drawn route) = ⊥
LandsNone (Repeats number drawn route) = ⊥
LandsNone event = Unit {0}

-- after its words
pub record Saying (line : Line) (past : List Entry) (m : Machine) : Type 0 where
  pub last : line_last past ≡ line ∷ []
  pub now : clock_of past ≡ m.outside.outer.clock
  pub all : (time : ℕ) → m.outside.outer.clock < time → sent_before time past ≡ length (frames past)
  pub fated : length (first_fates past) ≡ m.outside.outer.air.frames.landed
  pub due : m.outside.outer.air.frames.landed ≡ sent_before m.outside.outer.clock past

-- and once it has begun
abbrev pub Opened : Line → List Entry → Machine → Type 0
Opened line past m = Saying line past m × (m.outside.outer.in_tick ≡ false)

-- a frame is to be repeated
pub record Repeating (left : List Event) (past : List Entry) (m : Machine) : Type 0 where
  pub number : ℕ
  pub drawn : List ℕ
  pub route : Option Route
  pub is : left ≡ Outside_does (Repeats number drawn route) ∷ []
  pub opened : Opened (Repeat number) past m

-- ---- each phase

abbrev pub KnowLanding : Phase → List Entry → Machine → Type 0
KnowLanding (Said_line line) past m = Saying line past m
KnowLanding (Begun line) past m = Opened line past m
KnowLanding (Doing line left) past m = Repeating left past m ⊎ (AllByRecursion (CoversOuter LandsNone) left × Landed past m)
KnowLanding (Ticked ticks) past m = Landing (m.outside.outer.air.frames.sent - m.outside.outer.air.frames.landed) true past m
KnowLanding (Arriving left ticks) past m = Landing left true past m
KnowLanding here past m = Landed past m
