-- What one word stands for, where it has the form that is asked for. All of it is this project's own rule.
use Rattle.std.specs.Prelude.{ℕ, ◌+◌, ◌-◌, ◌*◌, ◌/◌, ◌%◌, ◌^◌, ◌==◌, ◌&&◌, ◌||◌, nat_lt, nat_le, not, Bool, if◌then◌else◌, List, [], ◌∷◌, length, slice_index, codes, bytes_eq, Option, Some, None, option_and_then, option_map, position, take, drop, Result, Ok, Err}
use Rattle.std.specs.Char.{is_ascii_hexdigit}
use Rattle.std.specs.List.{list_all}
use Rattle.std.specs.Str.{all_ascii_digits}
use Rattle.hex.specs.Hex.{decode_of}
use Rattle.hex.specs.declared.error.FromHexError.{FromHexError}
use Rattle.zw_base.specs.declared.order.Word.{Word}
use Rattle.zw_base.specs.declared.order.Word.TheVariants.{On, Off, Level}
use Rattle.zw_words.specs.declared.forms.Target.{Target}
use Rattle.zw_words.specs.declared.side.Side.{Side}
use Rattle.zw_words.specs.declared.side.Side.TheVariants.{Host, Chip}

-- the number that digits make after a number
abbrev pub digits_after : ℕ → List ℕ → ℕ
digits_after n [] = n
digits_after n (b ∷ bs) = digits_after (n * 10 + (b - 48)) bs

-- the number that digits make after a number, where there are only digits and it is below 2 to the 64
unfoldable pub digits_in : ℕ → List ℕ → Option ℕ
digits_in n word = if all_ascii_digits word && nat_lt (digits_after n word) (2 ^ 64) then Some (digits_after n word) else None

-- whether a word begins as a number does: it has a byte, and the first is 0 only where it is alone
abbrev pub begins_number : List ℕ → Bool
begins_number word = nat_lt 0 (length word) && (length word == 1 || not (slice_index word 0 == 48))

-- the number that a word is
unfoldable pub number_in : List ℕ → Option ℕ
number_in word = if begins_number word then digits_in 0 word else None

-- the number, where it is in that range
abbrev pub within : ℕ → ℕ → ℕ → Option ℕ
within least most n = if nat_le least n && nat_le n most then Some n else None

unfoldable pub between_in : ℕ → ℕ → List ℕ → Option ℕ
between_in least most word = option_and_then (within least most) (number_in word)

-- the node, from the least one allowed on
abbrev pub node_in : ℕ → List ℕ → Option ℕ
node_in least word = between_in least 232 word

-- an end point after a node
abbrev pub end_after : Option ℕ → Option ℕ → Option Target
end_after (Some node) (Some end) = Some (record { node = node; end = end })
end_after (Some node) None = None
end_after None end = None

-- a node alone, or a node before the point at that place and an end point from 1 on after it
abbrev pub target_at : ℕ → List ℕ → Option ℕ → Option Target
target_at least word None = end_after (node_in least word) (Some 0)
target_at least word (Some at) = end_after (node_in least (take at word)) (between_in 1 127 (drop (at + 1) word))

unfoldable pub target_in : ℕ → List ℕ → Option Target
target_in least word = target_at least word (position (λ b. b == 46) word)

-- `on`, `off` or a level up to 99
unfoldable pub value_in : List ℕ → Option Word
value_in word =
    if bytes_eq word (codes "on") then Some On
    else if bytes_eq word (codes "off") then Some Off
    else option_map Level (between_in 0 99 word)

-- `h` or `c`
unfoldable pub side_in : List ℕ → Option Side
side_in word =
    if bytes_eq word (codes "h") then Some Host
    else if bytes_eq word (codes "c") then Some Chip
    else None

-- what hex stands for
abbrev pub decoded : Result (List ℕ) FromHexError → Option (List ℕ)
decoded (Ok bytes) = Some bytes
decoded (Err fault) = None

-- whether a word has the length of so many bytes in hex
abbrev pub hex_length : ℕ → ℕ → List ℕ → Bool
hex_length least most word = length word % 2 == 0 && (nat_le least (length word / 2) && nat_le (length word / 2) most)

-- bytes in hex of either case, so many at least and at most
unfoldable pub hex_in : ℕ → ℕ → List ℕ → Option (List ℕ)
hex_in least most word = if hex_length least most word && list_all is_ascii_hexdigit word then decoded (decode_of word) else None
