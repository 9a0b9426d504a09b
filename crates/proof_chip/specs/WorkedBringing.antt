-- Transcripts in which the chip brings two payloads of node 2, and courses of its link: what the law of their order accepts, and what it rejects.
use Rattle.std.specs.Prelude.{Bool, List, [], ◌∷◌, ◌++◌, codes}
use Rattle.law_transcript.specs.Worked.{bytes}
use Rattle.zw_words.specs.declared.side.Side.TheVariants.{Chip}
use Rattle.zw_text.specs.declared.entry.Entry.{Entry}
use Rattle.zw_text.specs.declared.entry.Entry.TheVariants.{Air, Heard, Time, Written}
use Rattle.law_wire.specs.Asked.{Course}

-- its units are first copies, as these tell
abbrev pub with_firsts : List Bool → Course
with_firsts firsts = record { passed = []; firsts = firsts }

-- first the node tells 0, and then 255
abbrev pub both_heard : List Entry
both_heard = Air 1 2 1 [] (bytes (codes "250300")) ∷ Air 2 2 1 [] (bytes (codes "2503FF")) ∷ Time 1 ∷ Heard 1 ∷ Heard 2 ∷ []

abbrev pub brings_off : Entry
brings_off = Written Chip (bytes (codes "01090004000203250300D5"))

abbrev pub brings_on : Entry
brings_on = Written Chip (bytes (codes "010900040002032503FF2A"))

abbrev pub brought_in_order : List Entry
brought_in_order = both_heard ++ brings_off ∷ brings_on ∷ []

abbrev pub brought_backwards : List Entry
brought_backwards = both_heard ++ brings_on ∷ brings_off ∷ []

-- the first is brought twice
abbrev pub brought_twice : List Entry
brought_twice = both_heard ++ brings_off ∷ brings_off ∷ []
