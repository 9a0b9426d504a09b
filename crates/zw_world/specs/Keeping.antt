-- What a line does with a keeper, also with one that does not tell its records (this project's own rule).
use Rattle.std.specs.Prelude.{◌≡◌, ◌⊎◌, ℕ, ◌<◌, ◌≤◌, List, ◌∷◌, ◌++◌}
use Rattle.zw_text.specs.declared.line.Line.{Line}
use Rattle.zw_text.specs.declared.line.Line.TheVariants.{Command, Restart}
use Rattle.zw_text.specs.declared.entry.Entry.{Entry}
use Rattle.zw_text.specs.declared.entry.Entry.TheVariants.{Refused}
use Rattle.zw_text.specs.declared.entry.Refusal.{Refusal}
use Rattle.host_model.specs.Did.{RoseBy}

-- no record is lost, and the count of reads does not fall
pub record GoesOn (number number' reads reads' : ℕ) : Type 0 where
  pub never_fewer : number ≤ number'
  pub never_falls : RoseBy 0 reads reads'

-- an order adds a record, and a restart reads each
abbrev pub Keeps : Line → ℕ → ℕ → ℕ → ℕ → Type 0
Keeps (Command order) number number' reads reads' = number < number'
Keeps Restart number number' reads reads' = RoseBy number reads reads'
Keeps line number number' reads reads' = Unit {0}

-- a refusal stands next, after what was entered before
abbrev pub RefusesNext : List Entry → List Entry → Type 0
RefusesNext before all = (refusal : Refusal) × (later : List Entry) × (all ≡ before ++ Refused refusal ∷ later)

-- a line does that, or is refused
abbrev pub KeepsOrRefuses : Line → List Entry → List Entry → ℕ → ℕ → ℕ → ℕ → Type 0
KeepsOrRefuses line before all number number' reads reads' = Keeps line number number' reads reads' ⊎ RefusesNext before all
