-- Entries as pieces, and the words of a line as they are entered (this project's own rule).
use Rattle.std.specs.Prelude.{ℕ, Bool, true, false, ◌&&◌, if◌then◌else◌, List, [], ◌∷◌, ◌++◌, Result, Ok, Err}
use Rattle.std.specs.List.{flat_map, join_with_byte}
use Rattle.zw_words.specs.Words.{line_words}
use Rattle.zw_words.specs.declared.fault.LineFault.{LineFault}
use Rattle.zw_text.specs.Entry.{entry_text, is_loud}
use Rattle.zw_text.specs.Transcript.{quiet as without_loud}
use Rattle.zw_text.specs.declared.entry.Entry.{Entry}

-- the text of an entry, with its line feed
abbrev pub entry_line : Entry → List ℕ
entry_line entry = entry_text entry ++ 10 ∷ []

-- the piece of an entry, and none where it is left out
abbrev pub piece_of : Bool → Entry → List (List ℕ)
piece_of quiet entry = if quiet && is_loud entry then [] else entry_line entry ∷ []

-- the pieces of entries
abbrev pub pieces_of : Bool → List Entry → List (List ℕ)
pieces_of quiet entries = flat_map (piece_of quiet) entries

-- what is shown of a transcript
abbrev pub shown_of : Bool → List Entry → List Entry
shown_of true entries = without_loud entries
shown_of false entries = entries

-- the words of a line with one space between two; a text that is invalid has no words
abbrev pub joined_in : Result (List (List ℕ)) LineFault → List ℕ
joined_in (Ok words) = join_with_byte 32 words
joined_in (Err fault) = []

abbrev pub said_text : List ℕ → List ℕ
said_text text = joined_in (line_words text)
