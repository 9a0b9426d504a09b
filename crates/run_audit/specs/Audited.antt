-- What `audit` reads and writes (this project's own rule).
use Rattle.std.specs.Prelude.{◌≡◌, ℕ, List, ◌++◌, Option, Some, None, codes, decimal}
use Rattle.std.specs.Io.KnownBytes.{Appends, Consumes, IsAtEnd}
use Rattle.run_lines.specs.Run.{IsShort}
use Rattle.run_lines.specs.Writing.{AppendsPrefix}
use Rattle.run_lines.specs.declared.status.Status.{Status}
use Rattle.run_lines.specs.declared.status.Status.TheVariants.{Ok, ReadFault, WriteFault, NoMemory, InputTooLong, No}
use Rattle.audit.specs.Breaking.{Examined}
use Rattle.audit.specs.declared.breaks.Break.{Break}
use Rattle.audit.specs.declared.breaks.Break.TheVariants.{Text, Sessions, Once, Air, Payload, Store, Table}
use Rattle.run_tools.specs.Input.{IsPast}

-- the names of the rules
abbrev pub name_of : Break → List ℕ
name_of Text = codes "text"
name_of Sessions = codes "sessions"
name_of Once = codes "once"
name_of Air = codes "air"
name_of Payload = codes "payload"
name_of Store = codes "store"
name_of Table = codes "table"

-- the answer
abbrev pub no_text : ℕ → Break → List ℕ
no_text line broken = codes "no " ++ (decimal line ++ (codes " " ++ (name_of broken ++ codes "\n")))

abbrev pub answer_text : Option (ℕ × Break) → List ℕ
answer_text None = codes "yes\n"
answer_text (Some (line, broken)) = no_text line broken

-- what is written where a line breaks a rule: the answer, or a prefix of it, or nothing
abbrev pub WritesNo : Status → ℕ → Break → Option (List ℕ) → Option (List ℕ) → Type 0
WritesNo (No said) line broken sink sink' = (said ≡ line) × Appends sink sink' (no_text line broken)
WritesNo WriteFault line broken sink sink' = AppendsPrefix sink sink' (no_text line broken)
WritesNo NoMemory line broken sink sink' = sink' ≡ sink
WritesNo status line broken sink sink' = ⊥

-- what is written of an input that was read to its end
abbrev pub AuditsTo : Status → List ℕ → Option (List ℕ) → Option (List ℕ) → Type 0
AuditsTo Ok input sink sink' = Examined input None × Appends sink sink' (answer_text None)
AuditsTo (No line) input sink sink' = (broken : Break) × Examined input (Some (line, broken)) × Appends sink sink' (no_text line broken)
AuditsTo WriteFault input sink sink' = (found : Option (ℕ × Break)) × Examined input found × AppendsPrefix sink sink' (answer_text found)
AuditsTo NoMemory input sink sink' = sink' ≡ sink
AuditsTo status input sink sink' = ⊥

-- what was read, and what was written then
abbrev pub EndsAudit : Status → List ℕ → Option (List ℕ) → Option (List ℕ) → Option (List ℕ) → Type 0
EndsAudit ReadFault input left' sink sink' = IsShort input × (sink' ≡ sink)
EndsAudit InputTooLong input left' sink sink' = IsPast input × (sink' ≡ sink)
EndsAudit NoMemory input left' sink sink' = sink' ≡ sink
EndsAudit status input left' sink sink' = IsAtEnd left' × IsShort input × AuditsTo status input sink sink'

-- `audit` read this input and came to this status
pub record HasAudited (status : Status) (left left' : Option (List ℕ)) (sink sink' : Option (List ℕ)) : Type 0 where
  pub input : List ℕ
  pub read : Consumes left left' input
  pub ended : EndsAudit status input left' sink sink'

-- what the source has left is a transcript in order, and no more than may be
abbrev pub IsInOrder : Option (List ℕ) → Type 0
IsInOrder None = ⊥
IsInOrder (Some input) = IsShort input × Examined input None
