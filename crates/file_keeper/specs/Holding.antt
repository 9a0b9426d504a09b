-- What stores hold, where they tell it; one goes on telling or not (this project's own rule).
use Rattle.std.specs.Prelude.{◌≡◌, ℕ, ◌≤◌, List, ◌++◌, length, take, ⊤, Option, Some, None}
use Rattle.std.specs.Io.KnownBytes.{append_known}
use Rattle.file_keeper.specs.Lines.{IsOneLine, CouldBeRecord, IsSplit, lines_of}

-- these are the bytes
abbrev pub Holds : Option (List ℕ) → List ℕ → Type 0
Holds None bytes = ⊤
Holds (Some held) bytes = held ≡ bytes

-- there are so many bytes at least
abbrev pub IsWithin : ℕ → Option (List ℕ) → Type 0
IsWithin size None = ⊤
IsWithin size (Some held) = size ≤ length held

-- the first so many bytes
abbrev pub cut_known : ℕ → Option (List ℕ) → Option (List ℕ)
cut_known size None = None
cut_known size (Some held) = Some (take size held)

-- a prefix of these bytes was added
pub record AppendsSome (old new : Option (List ℕ)) (bytes : List ℕ) : Type 0 where
  pub prefix : List ℕ
  pub rest : List ℕ
  pub parts : bytes ≡ prefix ++ rest
  pub added : new ≡ append_known old prefix

-- a store holds the lines of these records and nothing else, and so it did at its last sync
pub record HasLines (held synced : Option (List ℕ)) (records : List (List ℕ)) : Type 0 where
  pub lines : Holds held (lines_of records)
  pub saved : Holds synced (lines_of records)

-- a store holds the lines of these records, and then perhaps an end that no opening takes for a record; so it did at its last sync
pub record IsKept (held synced : Option (List ℕ)) (records : List (List ℕ)) : Type 0 where
  pub torn : List ℕ
  pub lines : Holds held (lines_of records ++ torn)
  pub saved : Holds synced (lines_of records ++ torn)
  pub unfinished : IsOneLine torn
  pub could : CouldBeRecord torn

-- what a store holds is split into these lines and an end that could be that of a record
pub record IsOpenedAs (held : Option (List ℕ)) (lines : List (List ℕ)) : Type 0 where
  pub bytes : List ℕ
  pub torn : List ℕ
  pub told : Holds held bytes
  pub split : IsSplit bytes lines torn
  pub could : CouldBeRecord torn

-- what a store holds ends without a line feed, and no record begins so
pub record IsForeign (held : Option (List ℕ)) : Type 0 where
  pub bytes : List ℕ
  pub lines : List (List ℕ)
  pub torn : List ℕ
  pub told : Holds held bytes
  pub split : IsSplit bytes lines torn
  pub not_one : ¬ CouldBeRecord torn
