-- Worked transcripts in which something changes between what asks for a message and the message, in the form in which the program prints them.
use Rattle.std.specs.Prelude.{ℕ, zero, suc, ◌+◌, false, List, [], ◌∷◌, ◌++◌, codes}
use Rattle.zw_base.specs.declared.property.Name.TheVariants as names
use Rattle.zw_base.specs.declared.property.By.TheVariants.{Local, Session}
use Rattle.zw_words.specs.declared.side.Side.TheVariants.{Host, Chip}
use Rattle.host_orders.specs.Settings.{setting}
use Rattle.zw_text.specs.declared.entry.Ended.TheVariants as endings
use Rattle.zw_text.specs.declared.entry.Done.TheVariants as done
use Rattle.zw_text.specs.declared.entry.Refusal.TheVariants as refusals
use Rattle.zw_text.specs.declared.entry.Entry.{Entry}
use Rattle.zw_text.specs.declared.entry.Entry.TheVariants.{Said, Accepted, Refused, Begin, Written, Garbled, Air, Heard, Dev, Out, Store, Report, Awake, Asleep, Interviewed, Done, Failed, Held, Time, Unkept}
use Rattle.law_wire.specs.law_transcript.Worked.{bytes}

-- `link 1 5`, `join 5`, `interview 5`, `wake 5`, `garble h 3 1`, `tick 1`, `stall 200`, `local 2 1`, `tick 200`, `failed 2`: No More Information is given up in
-- a tick in which the chip has written a frame before, and is not sent again
abbrev pub told_as_chip_writes : List Entry
told_as_chip_writes =
    Said (codes "link 1 5") ∷ Said (codes "join 5") ∷ Said (codes "interview 5") ∷ Written Host (bytes (codes "0104004105BF")) ∷
    Written Chip (bytes (codes "06")) ∷ Written Chip (bytes (codes "01090141000000040000B2")) ∷ Written Host (bytes (codes "06")) ∷
    Written Host (bytes (codes "01040060059E")) ∷ Written Chip (bytes (codes "06")) ∷ Written Chip (bytes (codes "01040160019B")) ∷
    Written Host (bytes (codes "06")) ∷ Said (codes "wake 5") ∷ Air 1 5 1 [] (bytes (codes "8407")) ∷ Said (codes "garble h 3 1") ∷
    Said (codes "tick 1") ∷ Time 1 ∷ Heard 1 ∷ Written Chip (bytes (codes "01080004000502840777")) ∷ Written Host (bytes (codes "06")) ∷ Awake 5 ∷
    Written Chip (bytes (codes "010D00498405070400003180846C60")) ∷ Written Host (bytes (codes "06")) ∷ Interviewed 5 ∷
    Written Host (bytes (codes "010900130502840825014A")) ∷ Garbled Host (bytes (codes "010900130503840825014A")) ∷
    Written Chip (bytes (codes "15")) ∷ Said (codes "stall 200") ∷ Said (codes "local 2 1") ∷ Dev 2 Local (setting 0 names.Switch 255) ∷
    Air 2 2 1 [] (bytes (codes "2503FF")) ∷ Said (codes "tick 200") ∷ Time 2 ∷ Heard 2 ∷ Written Chip (bytes (codes "010900040002032503FF2A")) ∷
    Written Host (bytes (codes "010900130502840825014A")) ∷ Time 17 ∷ Written Chip (bytes (codes "010900040002032503FF2A")) ∷ Time 28 ∷
    Written Host (bytes (codes "010900130502840825014A")) ∷ Time 43 ∷ Written Chip (bytes (codes "010900040002032503FF2A")) ∷ Time 64 ∷
    Written Host (bytes (codes "010900130502840825014A")) ∷ Time 79 ∷ Written Chip (bytes (codes "010900040002032503FF2A")) ∷ Asleep 5 ∷ Time 201 ∷
    Written Chip (bytes (codes "06")) ∷ Written Chip (bytes (codes "0104011301E8")) ∷ Air 3 1 5 [] (bytes (codes "8408")) ∷
    Written Chip (bytes (codes "06")) ∷ Written Chip (bytes (codes "06")) ∷ Written Host (bytes (codes "06")) ∷
    Report 2 (setting 0 names.Switch 255) ∷ Written Host (bytes (codes "06")) ∷ Report 2 (setting 0 names.Switch 255) ∷
    Written Host (bytes (codes "06")) ∷ Report 2 (setting 0 names.Switch 255) ∷ Written Host (bytes (codes "06")) ∷
    Report 2 (setting 0 names.Switch 255) ∷ Written Host (bytes (codes "06")) ∷ Written Chip (bytes (codes "0104011300E9")) ∷
    Written Chip (bytes (codes "0104011300E9")) ∷ Written Host (bytes (codes "06")) ∷ Written Host (bytes (codes "06")) ∷ Said (codes "failed 2") ∷
    Written Host (bytes (codes "01040062029B")) ∷ Written Chip (bytes (codes "06")) ∷ Written Chip (bytes (codes "010401620098")) ∷
    Written Host (bytes (codes "06")) ∷ Failed 2 false ∷ []

-- `link 1 101`, `join 101`, `wake 101`, `interview 101`, `tick 2`, `interval 101 4490`, `wake 101`, `tick 10`: a node is held
abbrev pub held_before_restart : List Entry
held_before_restart =
    Said (codes "link 1 101") ∷ Said (codes "join 101") ∷ Said (codes "wake 101") ∷ Air 1 101 1 [] (bytes (codes "8407")) ∷
    Said (codes "interview 101") ∷ Written Host (bytes (codes "0104004165DF")) ∷ Written Chip (bytes (codes "06")) ∷
    Written Chip (bytes (codes "01090141000000040000B2")) ∷ Written Host (bytes (codes "06")) ∷ Written Host (bytes (codes "0104006065FE")) ∷
    Written Chip (bytes (codes "06")) ∷ Written Chip (bytes (codes "01040160019B")) ∷ Written Host (bytes (codes "06")) ∷ Said (codes "tick 2") ∷
    Time 1 ∷ Heard 1 ∷ Written Chip (bytes (codes "01080004006502840717")) ∷ Written Host (bytes (codes "06")) ∷ Awake 101 ∷
    Written Chip (bytes (codes "010D00498465070400003180846C00")) ∷ Written Host (bytes (codes "06")) ∷ Interviewed 101 ∷
    Written Host (bytes (codes "010900136502840825012A")) ∷ Written Chip (bytes (codes "06")) ∷ Written Chip (bytes (codes "0104011301E8")) ∷
    Air 2 1 101 [] (bytes (codes "8408")) ∷ Written Host (bytes (codes "06")) ∷ Time 2 ∷ Heard 2 ∷ Written Chip (bytes (codes "010500130100E8")) ∷
    Written Host (bytes (codes "06")) ∷ Asleep 101 ∷ Said (codes "interval 101 4490") ∷ Accepted 1 101 ∷ Said (codes "wake 101") ∷
    Air 3 101 1 [] (bytes (codes "8407")) ∷ Said (codes "tick 10") ∷ Time 3 ∷ Heard 3 ∷ Written Chip (bytes (codes "01080004006502840717")) ∷
    Written Host (bytes (codes "06")) ∷ Awake 101 ∷ Begin 101 1 1 ∷ Written Host (bytes (codes "01110013650A6C010106840400118A012502C5")) ∷
    Written Chip (bytes (codes "06")) ∷ Written Chip (bytes (codes "0104011301E8")) ∷ Air 4 1 101 [] (bytes (codes "6C010106840400118A01")) ∷
    Written Host (bytes (codes "06")) ∷ Time 4 ∷ Heard 4 ∷ Dev 101 (Session 1) (setting 0 names.Interval 4490) ∷
    Air 5 101 1 [] (bytes (codes "6C0241FF00")) ∷ Written Chip (bytes (codes "010500130200EB")) ∷ Written Host (bytes (codes "06")) ∷ Time 5 ∷
    Heard 5 ∷ Written Chip (bytes (codes "010B00040065056C0241FF0040")) ∷ Written Host (bytes (codes "06")) ∷ Out 1 endings.Success ∷
    Store 101 (setting 0 names.Interval 4490) ∷ Held 101 ∷ []

-- `restart`, `wake 101`, `tick 2`: the new host does not hold it
abbrev pub told_after_restart : List Entry
told_after_restart =
    held_before_restart ++
    Said (codes "restart") ∷ Said (codes "wake 101") ∷ Air 6 101 1 [] (bytes (codes "8407")) ∷ Said (codes "tick 2") ∷ Time 13 ∷ Heard 6 ∷
    Written Chip (bytes (codes "01080004006502840717")) ∷ Written Host (bytes (codes "06")) ∷ Awake 101 ∷
    Written Host (bytes (codes "010900136502840825012A")) ∷ Written Chip (bytes (codes "06")) ∷ Written Chip (bytes (codes "0104011301E8")) ∷
    Air 7 1 101 [] (bytes (codes "8408")) ∷ Written Host (bytes (codes "06")) ∷ Time 14 ∷ Heard 7 ∷ Written Chip (bytes (codes "010500130100E8")) ∷
    Written Host (bytes (codes "06")) ∷ Asleep 101 ∷ []

-- `link 1 10`, `join 10`, `interview 10`, `tick 3`, `unlink 1 10`, `discover`, `tick 1`, `stall 100`, `get 10`, `tick 100`: copies of a Get that was given up come
-- to the chip in the last tick; it takes one, has no route, and owes its callback
abbrev pub callback_owed : List Entry
callback_owed =
    Said (codes "link 1 10") ∷ Said (codes "join 10") ∷ Said (codes "interview 10") ∷ Written Host (bytes (codes "010400410AB0")) ∷
    Written Chip (bytes (codes "06")) ∷ Written Chip (bytes (codes "0109014180000004000032")) ∷ Written Host (bytes (codes "06")) ∷
    Written Host (bytes (codes "010400600A91")) ∷ Written Chip (bytes (codes "06")) ∷ Written Chip (bytes (codes "01040160019B")) ∷
    Written Host (bytes (codes "06")) ∷ Said (codes "tick 3") ∷ Time 1 ∷ Written Chip (bytes (codes "010C0049840A0604000025856CFA")) ∷
    Written Host (bytes (codes "06")) ∷ Interviewed 10 ∷ Said (codes "unlink 1 10") ∷ Said (codes "discover") ∷
    Written Host (bytes (codes "01030002FE")) ∷ Written Chip (bytes (codes "06")) ∷
    Written Chip (bytes (codes "0125010205001D03020000000000000000000000000000000000000000000000000000000700C7")) ∷
    Written Host (bytes (codes "06")) ∷ Said (codes "tick 1") ∷ Said (codes "stall 100") ∷ Said (codes "get 10") ∷
    Written Host (bytes (codes "010900130A0225022501EE")) ∷ Said (codes "tick 100") ∷ Time 20 ∷
    Written Host (bytes (codes "010900130A0225022501EE")) ∷ Time 46 ∷ Written Host (bytes (codes "010900130A0225022501EE")) ∷ Time 82 ∷
    Written Host (bytes (codes "010900130A0225022501EE")) ∷ Time 97 ∷ Done 10 done.LinkFailed ∷ Time 104 ∷ Written Chip (bytes (codes "06")) ∷
    Written Chip (bytes (codes "0104011301E8")) ∷ Written Chip (bytes (codes "06")) ∷ Written Chip (bytes (codes "06")) ∷
    Written Chip (bytes (codes "06")) ∷ Written Host (bytes (codes "06")) ∷ Written Chip (bytes (codes "0104011300E9")) ∷
    Written Host (bytes (codes "06")) ∷ Written Chip (bytes (codes "0104011300E9")) ∷ Written Host (bytes (codes "06")) ∷
    Written Chip (bytes (codes "0104011300E9")) ∷ Written Host (bytes (codes "06")) ∷ []

-- `set 2 on`, `tick 600`: so it refuses the three attempts of another command
abbrev pub stretch_of_refused : List Entry
stretch_of_refused =
    Said (codes "set 2 on") ∷ Accepted 1 2 ∷ Begin 2 1 1 ∷ Written Host (bytes (codes "010E001302076C0101032501FF250274")) ∷
    Written Chip (bytes (codes "06")) ∷ Written Chip (bytes (codes "0104011300E9")) ∷ Written Host (bytes (codes "06")) ∷
    Written Host (bytes (codes "010E001302076C0101032501FF250375")) ∷ Written Chip (bytes (codes "06")) ∷
    Written Chip (bytes (codes "0104011300E9")) ∷ Written Host (bytes (codes "06")) ∷
    Written Host (bytes (codes "010E001302076C0101032501FF250472")) ∷ Written Chip (bytes (codes "06")) ∷
    Written Chip (bytes (codes "0104011300E9")) ∷ Written Host (bytes (codes "06")) ∷ Out 1 endings.Unanswered ∷ Said (codes "tick 600") ∷ Time 105 ∷
    Written Chip (bytes (codes "010500130104EC")) ∷ Written Host (bytes (codes "06")) ∷ []

-- so many ticks from this one on, in each of which the keeper fails for node 2
abbrev pub unkept_from : ℕ → ℕ → List Entry
unkept_from tick zero = []
unkept_from tick (suc count) = Time tick ∷ Unkept 2 ∷ unkept_from (tick + 1) count

-- `set 2 on`, `tick 500`, where each call of the keeper fails after the first: no session begins
abbrev pub stretch_unkept : List Entry
stretch_unkept = Said (codes "set 2 on") ∷ Accepted 1 2 ∷ Unkept 2 ∷ Said (codes "tick 500") ∷ unkept_from 1 500

-- a second order is refused as the keeper fails, which has kept the first
abbrev pub order_unkept : List Entry
order_unkept = Said (codes "set 2 on") ∷ Accepted 1 2 ∷ Said (codes "set 2 off") ∷ Refused refusals.KeeperFault ∷ Said (codes "tick 500") ∷ []
