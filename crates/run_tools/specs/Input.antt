-- An input that is read whole (this project's own rule).
use Rattle.std.specs.Prelude.{◌≡◌, ℕ, ◌<◌, ◌≤◌, List, ◌++◌, length, Option}
use Rattle.std.specs.Io.KnownBytes.{Consumes}
use Rattle.run_lines.specs.declared.reader.TheConstants.{MAX_INPUT, PIECE}
use Rattle.run_lines.specs.Run.{IsShort}
use Rattle.run_tools.specs.declared.input.InputFault.{InputFault}
use Rattle.run_tools.specs.declared.input.InputFault.TheVariants.{Failed, TooLong, NoMemory}

-- the input passed what it may have with its last piece
pub record IsPast (input : List ℕ) : Type 0 where
  pub before : List ℕ
  pub piece : List ℕ
  pub parts : input ≡ before ++ piece
  pub short : IsShort before
  pub piece_len : length piece ≤ PIECE
  pub long : MAX_INPUT < length input

-- what was read where reading ended so
abbrev pub EndsInput : InputFault → List ℕ → Type 0
EndsInput Failed input = IsShort input
EndsInput TooLong input = IsPast input
EndsInput NoMemory input = Unit {0}

abbrev pub StopsBy : InputFault → Option (List ℕ) → Option (List ℕ) → Type 0
StopsBy fault left left' = (input : List ℕ) × Consumes left left' input × EndsInput fault input
