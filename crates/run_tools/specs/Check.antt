-- What `check` reads and writes (this project's own rule).
use Rattle.std.specs.Prelude.{◌≡◌, ℕ, List, Option, Some, None}
use Rattle.std.specs.Io.KnownBytes.{Appends, Consumes, IsAtEnd}
use Rattle.zw_words.specs.declared.side.Side.{Side}
use Rattle.unit_report.specs.HexText.{bad_place}
use Rattle.unit_report.specs.Report.{Checks}
use Rattle.run_lines.specs.Run.{IsShort}
use Rattle.run_lines.specs.Writing.{AppendsPrefix}
use Rattle.run_lines.specs.declared.status.Status.{Status}
use Rattle.run_lines.specs.declared.status.Status.TheVariants.{Ok, ReadFault, WriteFault, NoMemory, InputTooLong, BadHex}
use Rattle.run_tools.specs.Input.{IsPast}

-- what is written of an input that was read to its end: the lines that name its bytes, or a prefix of them, or nothing
abbrev pub WritesOf : Status → Side → List ℕ → Option (List ℕ) → Option (List ℕ) → Type 0
WritesOf Ok side input sink sink' = (text : List ℕ) × Checks side input text × Appends sink sink' text
WritesOf WriteFault side input sink sink' = (text : List ℕ) × Checks side input text × AppendsPrefix sink sink' text
WritesOf (BadHex place) side input sink sink' = (bad_place input ≡ Some place) × (sink' ≡ sink)
WritesOf NoMemory side input sink sink' = sink' ≡ sink
WritesOf status side input sink sink' = ⊥

-- what was read, and what was written then
abbrev pub EndsCheck : Status → Side → List ℕ → Option (List ℕ) → Option (List ℕ) → Option (List ℕ) → Type 0
EndsCheck ReadFault side input left' sink sink' = IsShort input × (sink' ≡ sink)
EndsCheck InputTooLong side input left' sink sink' = IsPast input × (sink' ≡ sink)
EndsCheck NoMemory side input left' sink sink' = sink' ≡ sink
EndsCheck status side input left' sink sink' = IsAtEnd left' × IsShort input × WritesOf status side input sink sink'

-- `check` read this input and came to this status
pub record HasChecked (status : Status) (side : Side) (left left' : Option (List ℕ)) (sink sink' : Option (List ℕ)) : Type 0 where
  pub input : List ℕ
  pub read : Consumes left left' input
  pub ended : EndsCheck status side input left' sink sink'

-- what the source has left is hex, and no more than may be
abbrev pub HasHex : Option (List ℕ) → Type 0
HasHex None = ⊥
HasHex (Some input) = IsShort input × (bad_place input ≡ None)
