-- An input that grows by pieces.
use Rattle.std.proofs.Common.{◌≡◌, ℕ, ◌≤◌, ◌⊎◌, List, [], ◌++◌, length, Option}
use Rattle.std.specs.Io.KnownBytes.{Consumes}
use Rattle.std.proofs.KnownBytes.{Consumes-trans}
use Rattle.run_lines.specs.declared.reader.TheConstants.{PIECE}
use Rattle.run_lines.specs.Run.{IsShort}
use Rattle.run_tools.specs.Input.{StopsBy}
use Rattle.run_tools.specs.declared.input.InputFault.TheVariants.{NoMemory}

-- nothing was read, or a last piece after an input that was not too long
pub record LastPiece (input : List ℕ) : Type 0 where
  pub before : List ℕ
  pub piece : List ℕ
  pub parts : input ≡ before ++ piece
  pub short : IsShort before
  pub piece_len : length piece ≤ PIECE

abbrev pub IsGrown : List ℕ → Type 0
IsGrown input = (input ≡ []) ⊎ LastPiece input

-- bytes were read for which there was no memory
pub stops-no_memory : (left mid left' : Option (List ℕ)) (input piece : List ℕ) → Consumes left mid input → Consumes mid left' piece → StopsBy NoMemory left left'
stops-no_memory left mid left' input piece before now = (input ++ piece, Consumes-trans left mid left' input piece before now, tt)
