-- What the run of one text does, and why the lines end there (this project's own rule).
use Rattle.std.specs.Prelude.{◌≡◌, ℕ, List, Option, Some, None}
use Rattle.zw_words.specs.declared.fault.LineFault.{LineFault}
use Rattle.zw_words.specs.declared.fault.LineFault.TheVariants.{TooLong as line_too_long}
use Rattle.run_lines.specs.declared.reader.Next.{Next}
use Rattle.run_lines.specs.declared.reader.Next.TheVariants.{Line, TooLong, End, ReadFault, InputTooLong}
use Rattle.run_lines.specs.Writing.{text_of, AppendsPrefix}
use Rattle.run_lines.specs.declared.running.LinesEnd.{LinesEnd}
use Rattle.run_lines.specs.declared.running.LinesEnd.TheVariants.{All, Bad, ReadFailed, TooMuch, WriteFailed, NoMemory}
use Rattle.run_lines.specs.declared.running.TextFault.{TextFault}
use Rattle.run_lines.specs.declared.running.TextFault.TheVariants.{Bad as bad_text, Write as no_write, NoMemory as no_memory}

-- the text was run, or a part of it, and its answer was written so
pub record TextRan {X : Type 0} (runs : X → List ℕ → X → List (List ℕ) → Type 0) (old : X) (text : List ℕ) (new : X) (IsWritten : List ℕ → Type 0) : Type 0 where
  pub pieces : List (List ℕ)
  pub ran : runs old text new pieces
  pub written : IsWritten (text_of pieces)

-- why the text was not run, not answered, or not run whole
abbrev pub TextFails : {X : Type 0} → TextFault → (runs stops : X → List ℕ → X → List (List ℕ) → Type 0) → Option LineFault
    → X → List ℕ → X → Option (List ℕ) → Option (List ℕ) → Type 0
TextFails (bad_text fault) runs stops refused old text new sink sink' = (refused ≡ Some fault) × (new ≡ old) × (sink' ≡ sink)
TextFails no_write runs stops refused old text new sink sink' = (refused ≡ None) × TextRan runs old text new (AppendsPrefix sink sink')
TextFails no_memory runs stops refused old text new sink sink' = TextRan stops old text new (AppendsPrefix sink sink')

-- why the lines end where the reader gives no line
abbrev pub end_of : Next → ℕ → LinesEnd
end_of Line number = All
end_of End number = All
end_of TooLong number = Bad number line_too_long
end_of ReadFault number = ReadFailed
end_of InputTooLong number = TooMuch

-- why the lines end at a text
abbrev pub end_at : TextFault → ℕ → LinesEnd
end_at (bad_text fault) number = Bad number fault
end_at no_write number = WriteFailed
end_at no_memory number = NoMemory
