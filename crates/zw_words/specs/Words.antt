-- The words of a text. All of it is this project's own rule.
use Rattle.std.specs.Prelude.{ℕ, ◌==◌, ◌||◌, ◌-◌, nat_lt, Bool, true, false, if◌then◌else◌, List, [], ◌∷◌, length, filter, slice_index_or, take, Result, Ok, Err}
use Rattle.std.specs.List.{slice_split}
use Rattle.zw_words.specs.declared.fault.LineFault.{LineFault}
use Rattle.zw_words.specs.declared.fault.LineFault.TheVariants.{TooLong}

-- a space or a tab
abbrev pub is_blank : ℕ → Bool
is_blank b = b == 32 || b == 9

-- a word has a byte
abbrev pub is_word : List ℕ → Bool
is_word [] = false
is_word (b ∷ bs) = true

-- the words of a text: what stands between blanks
unfoldable pub words : List ℕ → List (List ℕ)
words text = filter is_word (slice_split is_blank text)

-- the text without the carriage return at its end, if it has one
abbrev pub without_return : List ℕ → List ℕ
without_return text = if slice_index_or text (length text - 1) 0 == 13 then take (length text - 1) text else text

-- whether the text is a remark: its first byte is `#`
abbrev pub is_remark : List ℕ → Bool
is_remark text = slice_index_or text 0 0 == 35

-- the words of a line, of which a remark has none; a line has at most 1,024 bytes, a carriage return included
unfoldable pub line_words : List ℕ → Result (List (List ℕ)) LineFault
line_words text =
    if nat_lt 1024 (length text) then Err TooLong
    else if is_remark text then Ok []
    else Ok (words (without_return text))
