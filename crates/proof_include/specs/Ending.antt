-- When an exchange ends well (this project's own rule, docs/INCLUSION.md).
use Rattle.std.specs.Prelude.{◌≡◌, ℕ, false, None, List, [], ◌∷◌}
use Rattle.std.specs.List.{flat_map}
use Rattle.inclusion.specs.Including.{is_secure}
use Rattle.include_text.specs.declared.line.IncludeLine.TheVariants.{Add}
use Rattle.include_text.specs.declared.entry.IncludeEntry.{IncludeEntry}
use Rattle.include_text.specs.declared.entry.IncludeEntry.TheVariants.{Key}
use Rattle.include_world.specs.World.{WorldState, IncludeEvent, Says, AllDrawn, does}
use Rattle.include_world.specs.Line.{IsTicks}
use Rattle.include_world.specs.Added.{of_node}

-- the key that a lock takes in an entry
abbrev pub key_taken : ℕ → IncludeEntry → List ℕ
key_taken node (Key at) = of_node node at at
key_taken node entry = []

-- the lock of a node took no key in a transcript
abbrev pub TookNone : ℕ → List IncludeEntry → Type 0
TookNone node T = flat_map (key_taken node) T ≡ []

-- an `add` of the node is accepted, and no mark of `lose` is left
pub record Accepts (node : ℕ) (world : WorldState) : Type 0 where
  pub idle : world.includer.exchange ≡ None
  pub insecure : is_secure world.includer node ≡ false
  pub unmarked : world.air.losing ≡ 0

-- the line `add` of the node, and then so many ticks with no line between
pub record AddsAndTicks (node ticks : ℕ) (world : WorldState) (events : List IncludeEvent) : Type 0 where
  pub drawn : List ℕ
  pub rest : List IncludeEvent
  pub are : events ≡ Says (Add node) drawn ∷ rest
  pub ticking : IsTicks ticks (does world (Says (Add node) drawn)).world rest
  pub all_drawn : AllDrawn events
