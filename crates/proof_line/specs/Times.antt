-- What is known of the numbers of ticks at each phase of a line (this project's own rule): none stands last; the lines before the running one have asked for ticks that have
-- begun; and nothing is entered from the words of a `tick` on until its first tick begins.
use Rattle.std.specs.Prelude.{◌≡◌, ◌≤◌, ℕ, Bool, false, List}
use Rattle.std.specs.List.{AllByRecursion}
use Rattle.zw_text.specs.declared.entry.Entry.{Entry}
use Rattle.zw_text.specs.Transcript.{line_last}
use Rattle.law_wire.specs.law_transcript.Restarts.{ticks_of, ticks_asked}
use Rattle.law_wire.specs.Asked.{lines_before}
use Rattle.law_wire.specs.Times.{MayBeTold, tells_tick}
use Rattle.proof_walk.specs.outside_model.State.{Outside}
use Rattle.proof_walk.specs.outside_model.Events.{OuterEvent, Begins_line, Begins_tick}
use Rattle.proof_walk.specs.world_model.State.{Machine}
use Rattle.proof_walk.specs.Outside.{Known, CoversOuter}
use Rattle.proof_walk.specs.Phases.{Phase, Said_line, Begun, Doing, To_tick}

-- where no number is to be entered, a line that has just been said asks for no more than so many ticks
pub record TieNumbers (ticks : ℕ) (awaits : Bool) (past : List Entry) (w : Outside) : Type 0 where
  pub begun : ticks_asked (lines_before past) ≤ w.outer.clock
  pub quiet : awaits ≡ false → ticks_asked (line_last past) ≤ ticks

-- neither a line nor a tick begins
abbrev pub GoesWithin : OuterEvent → Type 0
GoesWithin Begins_line = ⊥
GoesWithin Begins_tick = ⊥
GoesWithin event = Unit {0}

abbrev pub KnownNumbers : ℕ → List Entry → Machine → Type 0
KnownNumbers ticks past m = Known MayBeTold (λ pending. TieNumbers ticks) past m.outside × (tells_tick past ≡ false)

-- the ticks that a line may have asked for in its words, at a phase in which nothing is entered
abbrev pub ticks_said : Phase → ℕ
ticks_said (Begun line) = ticks_of line
ticks_said (To_tick ticks) = ticks
ticks_said here = 0

-- after the words of a line it has not begun, and a number that was to be entered no longer is
abbrev pub KnowNumbers : Phase → List Entry → Machine → Type 0
KnowNumbers (Said_line line) past m = TieNumbers (ticks_of line) false past m.outside × (tells_tick past ≡ false)
KnowNumbers (Doing line left) past m = KnownNumbers 0 past m × AllByRecursion (CoversOuter GoesWithin) left
KnowNumbers here past m = KnownNumbers (ticks_said here) past m
