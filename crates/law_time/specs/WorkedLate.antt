-- A worked transcript of a response that comes too late, made by hand in the form in which the program prints it.
use Rattle.std.specs.Prelude.{true, List, [], ◌∷◌, codes}
use Rattle.zw_words.specs.declared.side.Side.TheVariants.{Host, Chip}
use Rattle.zw_text.specs.declared.entry.Entry.{Entry}
use Rattle.zw_text.specs.declared.entry.Entry.TheVariants.{Failed, Garbled, Said, Time, Written}
use Rattle.law_wire.specs.law_transcript.Worked.{bytes}

-- `garble c 0 1` three times, `neighbours 2`, `tick 40`, `failed 2`: a response comes 33 ticks after its question, which had ended in silence
abbrev pub late_answer : List Entry
late_answer =
    Said (codes "garble c 0 1") ∷ Said (codes "garble c 0 1") ∷ Said (codes "garble c 0 1") ∷ Said (codes "neighbours 2") ∷
    Written Host (bytes (codes "01070080020000007A")) ∷ Written Chip (bytes (codes "06")) ∷
    Written Chip (bytes (codes "0120018001000000000000000000000000000000000000000000000000000000005F")) ∷
    Garbled Chip (bytes (codes "0120008001000000000000000000000000000000000000000000000000000000005F")) ∷ Written Host (bytes (codes "15")) ∷
    Said (codes "tick 40") ∷ Time 1 ∷ Written Chip (bytes (codes "0120018001000000000000000000000000000000000000000000000000000000005F")) ∷
    Garbled Chip (bytes (codes "0120008001000000000000000000000000000000000000000000000000000000005F")) ∷ Written Host (bytes (codes "15")) ∷
    Time 12 ∷ Written Chip (bytes (codes "0120018001000000000000000000000000000000000000000000000000000000005F")) ∷
    Garbled Chip (bytes (codes "0120008001000000000000000000000000000000000000000000000000000000005F")) ∷ Written Host (bytes (codes "15")) ∷
    Time 33 ∷ Written Chip (bytes (codes "0120018001000000000000000000000000000000000000000000000000000000005F")) ∷
    Written Host (bytes (codes "06")) ∷ Said (codes "failed 2") ∷ Written Host (bytes (codes "01040062029B")) ∷ Written Chip (bytes (codes "06")) ∷
    Written Chip (bytes (codes "010401620199")) ∷ Written Host (bytes (codes "06")) ∷ Failed 2 true ∷ []
