-- Transcripts like those in which something changes between what asks for a message and the message, one thing wrong in each.
use Rattle.std.specs.Prelude.{List, [], ◌∷◌, ◌++◌, codes, take}
use Rattle.zw_text.specs.declared.entry.Entry.{Entry}
use Rattle.zw_text.specs.declared.entry.Entry.TheVariants.{Said, Air, Heard, Awake, Time}
use Rattle.law_wire.specs.law_transcript.Worked.{bytes}
use Rattle.law_time.specs.WorkedBetween.{held_before_restart, told_as_chip_writes}
use Rattle.law_time.specs.WorkedUnits.{by_chip, by_host, host_acknowledges}

-- No More Information that was given up is sent again
abbrev pub told_again_as_chip_writes : List Entry
told_again_as_chip_writes = take 66 told_as_chip_writes ++ by_host (codes "0109001305028408250249") ∷ []

-- the new host keeps a node awake that the one before it has held
abbrev pub held_over_restart : List Entry
held_over_restart =
    held_before_restart ++ Said (codes "restart") ∷ Said (codes "wake 101") ∷ Air 6 101 1 [] (bytes (codes "8407")) ∷ Said (codes "tick 100") ∷ Time 13 ∷
    Heard 6 ∷ by_chip (codes "01080004006502840717") ∷ host_acknowledges ∷ Awake 101 ∷ Time 105 ∷ by_host (codes "010900136502840825012A") ∷ []
