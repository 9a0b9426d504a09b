-- Which events a line is (this project's own rule, docs/INCLUSION.md).
use Rattle.std.specs.Prelude.{◌≡◌, ℕ, zero, suc, List, [], ◌∷◌, ◌++◌, length, map}
use Rattle.include_text.specs.declared.line.IncludeLine.{IncludeLine}
use Rattle.include_text.specs.declared.line.IncludeLine.TheVariants.{Tick}
use Rattle.include_world.specs.Air.{flying}
use Rattle.include_world.specs.World.{WorldState, IncludeEvent, Says, Passes, Lands, Ends, does, after_all}

-- a tick: time passes, each frame arrives that was on the air as it began, and the exchange has a tick less
pub record IsTick (old : WorldState) (events : List IncludeEvent) : Type 0 where
  pub draws : List (List ℕ)
  pub each : length draws ≡ flying old.air
  pub are : events ≡ Passes ∷ map Lands draws ++ Ends ∷ []

-- so many ticks
abbrev pub IsTicks : ℕ → WorldState → List IncludeEvent → Type 0
IsTicks zero old events = events ≡ []
IsTicks (suc k) old events = (first rest : List IncludeEvent) × (events ≡ first ++ rest) × IsTick old first × IsTicks k (after_all old first) rest

-- the ticks of a line
abbrev pub ticks_of : IncludeLine → ℕ
ticks_of (Tick count) = count
ticks_of _ = 0

-- a line is said, and then its ticks pass
pub record IsLine (line : IncludeLine) (old : WorldState) (events : List IncludeEvent) : Type 0 where
  pub drawn : List ℕ
  pub rest : List IncludeEvent
  pub are : events ≡ Says line drawn ∷ rest
  pub ticks : IsTicks (ticks_of line) (does old (Says line drawn)).world rest
