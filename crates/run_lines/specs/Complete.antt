-- Inputs that are run to their end (this project's own rule).
use Rattle.std.specs.Prelude.{◌≡◌, ℕ, ◌⊎◌, List, [], Option, Some, None}
use Rattle.zw_words.specs.declared.fault.LineFault.{LineFault}
use Rattle.run_lines.specs.Run.{IsBadLine, IsShort}
use Rattle.run_lines.specs.declared.status.Status.{Status}
use Rattle.run_lines.specs.declared.status.Status.TheVariants.{Ok, NoMemory}

-- an input that is no longer than it may be, and has no line that is invalid
pub record IsGood (refuses : List ℕ → Option LineFault) (input : List ℕ) : Type 0 where
  pub short : IsShort input
  pub no_bad_line : (fault : LineFault) (texts : List (List ℕ)) → IsBadLine refuses fault input texts (Some []) → ⊥

-- what the source has left is such an input; nothing is said where it does not tell it
abbrev pub HasGoodInput : (List ℕ → Option LineFault) → Option (List ℕ) → Type 0
HasGoodInput refuses None = ⊥
HasGoodInput refuses (Some input) = IsGood refuses input

-- all was done, or there was no memory
abbrev pub IsDone : Status → Type 0
IsDone status = (status ≡ Ok) ⊎ (status ≡ NoMemory)
