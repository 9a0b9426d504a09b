-- By hand: in a stall the host writes 75 frames of 54 bytes and five of 11, of which four find room.
use Rattle.std.specs.Prelude.{ℕ, List, [], ◌∷◌, ◌++◌, codes, replicate}
use Rattle.zw_words.specs.declared.side.Side.TheVariants.{Host, Chip}
use Rattle.zw_text.specs.declared.entry.Entry.{Entry}
use Rattle.zw_text.specs.declared.entry.Entry.TheVariants.{Said, Written, Garbled}
use Rattle.law_transcript.specs.Worked.{bytes}
use Rattle.law_wire.specs.WorkedMarks.{host_ack}

-- a segment of 45 bytes, and a Get
abbrev pub a_segment : Entry
a_segment =
    Written Host (bytes (codes "01340013082D55C02F106C01012B70070000250101010101010101010101010101010101010101010101010101010101014E7A250152"))

abbrev pub a_get : Entry
a_get = Written Host (bytes (codes "01090013020225022501E6"))

-- the Get with a byte changed
abbrev pub get_changed : Entry
get_changed = Garbled Host (bytes (codes "01090113020225022501E6"))

-- so many of each
abbrev pub stalled_with : ℕ → ℕ → List Entry
stalled_with segments gets = Said (codes "stall 1000") ∷ (replicate segments a_segment ++ replicate gets a_get)

-- the last one is changed by a mark
abbrev pub last_changed : List Entry
last_changed = stalled_with 75 5 ++ get_changed ∷ []

-- the chip has answered the first one
abbrev pub first_taken : List Entry
first_taken = stalled_with 75 4 ++ Written Chip (bytes (codes "06")) ∷ a_get ∷ []

-- two answers fill the pipe; one more is written, at once and in the next line
abbrev pub almost_full : List Entry
almost_full = stalled_with 75 4 ++ host_ack ∷ host_ack ∷ []

abbrev pub full_of_answers : List Entry
full_of_answers = almost_full ++ host_ack ∷ []

abbrev pub perhaps_full : List Entry
perhaps_full = almost_full ++ Said (codes "tick 1") ∷ host_ack ∷ []
