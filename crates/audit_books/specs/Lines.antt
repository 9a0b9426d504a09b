-- The first line of a text, as an entry (this project's own rule).
use Rattle.std.specs.Prelude.{◌≡◌, ℕ, List, [], ◌∷◌, ◌++◌}
use Rattle.zw_text.specs.declared.entry.Entry.{Entry}
use Rattle.zw_text.specs.Entry.{entry_text}
use Rattle.zw_text.specs.Fits.{feeds}
use Rattle.zw_parse.specs.Said.{IsEntry}

-- the text begins with the line of that entry, its line feed included, and that rest stands after it; no other entry has that line
pub record IsNext (text : List ℕ) (entry : Entry) (rest : List ℕ) : Type 0 where
  pub line : text ≡ entry_text entry ++ (10 ∷ rest)
  pub feeds_none : feeds (entry_text entry) ≡ 0
  pub is : IsEntry entry
  pub only : (other : Entry) → IsEntry other → entry_text entry ≡ entry_text other → entry ≡ other

-- the text begins with the line of no entry
abbrev pub IsNoLine : List ℕ → Type 0
IsNoLine text =
    (entry : Entry) (rest : List ℕ) → IsEntry entry → feeds (entry_text entry) ≡ 0 → text ≡ entry_text entry ++ (10 ∷ rest) → ⊥

-- the text is the lines of these entries, and then that rest
abbrev pub Reads : List ℕ → List Entry → List ℕ → Type 0
Reads text [] rest = text ≡ rest
Reads text (entry ∷ entries) rest = (more : List ℕ) × IsNext text entry more × Reads more entries rest

-- the text is one line and its line feed, and that rest
abbrev pub IsCut : List ℕ → List ℕ → List ℕ → Type 0
IsCut text line rest = (text ≡ line ++ (10 ∷ rest)) × (feeds line ≡ 0)
