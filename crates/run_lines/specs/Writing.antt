-- What a sink holds after pieces were written (this project's own rule).
use Rattle.std.specs.Prelude.{◌≡◌, ℕ, List, ◌++◌, Option}
use Rattle.std.specs.List.{flat_map}
use Rattle.std.specs.Io.KnownBytes.{Appends}

-- pieces, one after the other
abbrev pub text_of : List (List ℕ) → List ℕ
text_of pieces = flat_map (λ piece. piece) pieces

-- these are the first bytes of those
abbrev pub IsPrefixOf : List ℕ → List ℕ → Type 0
IsPrefixOf prefix whole = (rest : List ℕ) × (whole ≡ prefix ++ rest)

-- known bytes grow by a prefix of these
abbrev pub AppendsPrefix : Option (List ℕ) → Option (List ℕ) → List ℕ → Type 0
AppendsPrefix old new bytes = (prefix : List ℕ) × IsPrefixOf prefix bytes × Appends old new prefix
