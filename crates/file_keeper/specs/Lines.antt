-- The lines of records (this project's own rule): each record is followed by a line feed.
use Rattle.std.specs.Prelude.{◌≡◌, ◌≢◌, ℕ, List, [], ◌∷◌, ◌++◌}
use Rattle.std.specs.List.{flat_map}

-- no line feed is among the bytes
abbrev pub IsOneLine : List ℕ → Type 0
IsOneLine [] = Unit {0}
IsOneLine (byte ∷ bytes) = (byte ≢ 10) × IsOneLine bytes

-- nor among those of any of these
abbrev pub AreLines : List (List ℕ) → Type 0
AreLines [] = Unit {0}
AreLines (line ∷ lines) = IsOneLine line × AreLines lines

-- a record and its line feed
abbrev pub line_of : List ℕ → List ℕ
line_of text = text ++ 10 ∷ []

-- the lines of records, in their order
unfoldable pub lines_of : List (List ℕ) → List ℕ
lines_of texts = flat_map line_of texts

-- the bytes are those lines, and then an end without a line feed
pub record IsSplit (bytes : List ℕ) (lines : List (List ℕ)) (torn : List ℕ) : Type 0 where
  pub parts : bytes ≡ lines_of lines ++ torn
  pub each : AreLines lines
  pub unfinished : IsOneLine torn

-- it is empty, or begins as the text of a record does
abbrev pub CouldBeRecord : List ℕ → Type 0
CouldBeRecord [] = Unit {0}
CouldBeRecord (byte ∷ bytes) = byte ≡ 91
