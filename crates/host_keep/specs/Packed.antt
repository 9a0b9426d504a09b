-- Texts that are packed into one (this project's own rule).
use Rattle.std.specs.Prelude.{◌≡◌, ℕ, zero, suc, ◌≤◌, List, [], ◌∷◌, length, slice_index, slice_range}

-- the texts of one text from a place on, where each ends
abbrev pub texts_of : List ℕ → ℕ → List ℕ → List (List ℕ)
texts_of bytes from [] = []
texts_of bytes from (end ∷ ends) = slice_range bytes from end ∷ texts_of bytes end ends

-- the ends do not fall from a place on, and the last is that of the whole
abbrev pub IsPacked : List ℕ → ℕ → List ℕ → Type 0
IsPacked bytes from [] = from ≡ length bytes
IsPacked bytes from (end ∷ ends) = (from ≤ end) × IsPacked bytes end ends

-- where the text at a place begins
abbrev pub begin_at : ℕ → List ℕ → ℕ → ℕ
begin_at from ends zero = from
begin_at from ends (suc at) = slice_index ends at
