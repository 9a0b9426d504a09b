-- The lines of an input, as far as it was read (this project's own rule, over `run_lines`).
use Rattle.std.specs.Prelude.{◌≡◌, ℕ, ◌<◌, ◌≤◌, ◌⊎◌, List, [], ◌∷◌, ◌++◌, length, Option}
use Rattle.std.specs.Io.KnownBytes.{IsAtEnd}
use Rattle.run_lines.specs.SourceLines.{IsCut, IsOpen}
use Rattle.run_lines.specs.declared.reader.TheConstants.{PIECE}

-- the texts are the first lines of the input, each up to its line feed, and this follows them
abbrev pub FirstLines : List ℕ → List (List ℕ) → List ℕ → Type 0
FirstLines input [] rest = input ≡ rest
FirstLines input (text ∷ texts) rest = (after : List ℕ) × IsCut input text after × FirstLines after texts rest

-- a last line, which no line feed ends
pub record IsUnended (line : List ℕ) : Type 0 where
  pub some : 0 < length line
  pub could : IsOpen line

-- the texts are all lines of an input that ends with a line that no line feed ends
pub record EndsUnended (input : List ℕ) (texts : List (List ℕ)) : Type 0 where
  pub prefix : List (List ℕ)
  pub last : List ℕ
  pub are : texts ≡ prefix ++ last ∷ []
  pub before : FirstLines input prefix last
  pub unended : IsUnended last

-- the texts are all lines of an input
abbrev pub AreLines : List ℕ → List (List ℕ) → Type 0
AreLines input texts = FirstLines input texts [] ⊎ EndsUnended input texts

-- the texts are first lines of what was read of an input: each ends in its line feed, but for the last where no byte is left
abbrev pub AreFirst : List ℕ → List (List ℕ) → Option (List ℕ) → Type 0
AreFirst input texts left = ((rest : List ℕ) × FirstLines input texts rest) ⊎ (EndsUnended input texts × IsAtEnd left)

-- the text is the line that follows these bytes' beginning: up to its line feed, or all of them where no byte is left
abbrev pub IsNextLine : List ℕ → List ℕ → Option (List ℕ) → Type 0
IsNextLine rest text left = ((after : List ℕ) × IsCut rest text after) ⊎ ((rest ≡ text) × IsUnended text × IsAtEnd left)

-- of all that was read, the last piece was read only after each line that had its line feed before was run
pub record ReadInTurn (input : List ℕ) (texts : List (List ℕ)) : Type 0 where
  pub earlier : List ℕ
  pub piece : List ℕ
  pub parts : input ≡ earlier ++ piece
  pub short : length piece ≤ PIECE
  pub prefix : List (List ℕ)
  pub later : List (List ℕ)
  pub are : texts ≡ prefix ++ later
  pub rest : List ℕ
  pub lines : FirstLines earlier prefix rest
  pub unfinished : IsOpen rest
