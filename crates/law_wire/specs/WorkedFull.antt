-- By hand: a switch is set by hand 34 times, and its reports come to the chip while its link is busy; in one run the second report is another.
use Rattle.std.specs.Prelude.{ℕ, true, List, [], ◌∷◌, ◌++◌, map, codes}
use Rattle.std.specs.List.{flat_map, range_with_len}
use Rattle.zw_base.specs.declared.property.Name.TheVariants as names
use Rattle.zw_base.specs.declared.property.By.TheVariants.{Local}
use Rattle.zw_words.specs.declared.side.Side.TheVariants.{Chip}
use Rattle.law_transcript.specs.host_orders.Settings.{setting}
use Rattle.zw_text.specs.declared.entry.Entry.{Entry}
use Rattle.zw_text.specs.declared.entry.Entry.TheVariants.{Said, Written, Air, Heard, ChipFull, Dev, Time}
use Rattle.law_transcript.specs.Worked.{bytes}
use Rattle.law_wire.specs.Asked.{Course}

-- the switch is set, and reports that in the frame of this number; or it is turned off
abbrev pub reported_by_hand : ℕ → List Entry
reported_by_hand number =
    Said (codes "local 2 1") ∷ Dev 2 Local (setting 0 names.Switch 255) ∷ Air number 2 1 [] (bytes (codes "2503FF")) ∷ []

abbrev pub reported_off : ℕ → List Entry
reported_off number = Said (codes "local 2 0") ∷ Dev 2 Local (setting 0 names.Switch 0) ∷ Air number 2 1 [] (bytes (codes "250300")) ∷ []

-- these reports as the chip writes them
abbrev pub told_on : List ℕ
told_on = bytes (codes "010900040002032503FF2A")

abbrev pub told_off : List ℕ
told_off = bytes (codes "01090004000203250300D5")

-- the first report goes to the host at once, and so many more are heard
abbrev pub crowd_heard : ℕ → List Entry
crowd_heard more = Said (codes "tick 1") ∷ Time 1 ∷ Heard 1 ∷ Written Chip told_on ∷ map Heard (range_with_len 2 more)

abbrev pub crowded : ℕ → List Entry
crowded more = flat_map reported_by_hand (range_with_len 1 34) ++ crowd_heard more

-- the second report is another, and the 34th, for which there is no room, is dropped
abbrev pub dropped_last : List Entry
dropped_last = reported_by_hand 1 ++ reported_off 2 ++ flat_map reported_by_hand (range_with_len 3 32) ++ crowd_heard 33 ++ ChipFull ∷ []

-- the chip was asked nothing, and its one unit is the first copy of a frame
abbrev pub busy_course : Course
busy_course = record { passed = []; firsts = true ∷ [] }
