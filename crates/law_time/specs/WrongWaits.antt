-- Transcripts like the worked ones that break the laws of waking, attempts, rests and stretches, one thing wrong in each.
use Rattle.std.specs.Prelude.{List, [], ◌∷◌, codes}
use Rattle.zw_base.specs.declared.property.Name.TheVariants as names
use Rattle.zw_base.specs.declared.property.By.TheVariants.{Local, Session}
use Rattle.zw_words.specs.declared.side.Side.TheVariants.{Host, Chip}
use Rattle.host_orders.specs.Settings.{setting}
use Rattle.zw_text.specs.declared.entry.Ended.TheVariants as endings
use Rattle.zw_text.specs.declared.entry.Entry.{Entry}
use Rattle.zw_text.specs.declared.entry.Entry.TheVariants.{Said, Accepted, Begin, Written, Dropped, Air, Heard, Lost, Dev, Out, Store, Awake, Asleep, Interviewed, Held, Time}
use Rattle.law_wire.specs.law_transcript.Worked.{bytes}
use Rattle.law_time.specs.WorkedUnits.{notified}

-- a node counts as awake though it has not told so
abbrev pub awake_untold : List Entry
awake_untold =
    Said (codes "link 1 5") ∷ Said (codes "join 5") ∷ Said (codes "wake 5") ∷ Air 1 5 1 [] (bytes (codes "8407")) ∷ Said (codes "interview 5") ∷
    Written Host (bytes (codes "0104004105BF")) ∷ Written Chip (bytes (codes "06")) ∷ Written Chip (bytes (codes "01090141000000040000B2")) ∷
    Written Host (bytes (codes "06")) ∷ Awake 5 ∷ []

-- a node tells that it is awake, and does not count so
abbrev pub waking_passed_over : List Entry
waking_passed_over =
    Said (codes "link 1 5") ∷ Said (codes "join 5") ∷ Said (codes "wake 5") ∷ Air 1 5 1 [] (bytes (codes "8407")) ∷ Said (codes "interview 5") ∷
    Written Host (bytes (codes "0104004105BF")) ∷ Written Chip (bytes (codes "06")) ∷ Written Chip (bytes (codes "01090141000000040000B2")) ∷
    Written Host (bytes (codes "06")) ∷ Written Host (bytes (codes "01040060059E")) ∷ Written Chip (bytes (codes "06")) ∷
    Written Chip (bytes (codes "01040160019B")) ∷ Written Host (bytes (codes "06")) ∷ Said (codes "tick 4") ∷ Time 1 ∷ Heard 1 ∷
    Written Chip (bytes (codes "01080004000502840777")) ∷ Written Host (bytes (codes "06")) ∷
    Written Chip (bytes (codes "010D00498405070400003180846C60")) ∷ []

-- a node counts as asleep that did not count as awake
abbrev pub asleep_unwoken : List Entry
asleep_unwoken =
    Said (codes "link 1 5") ∷ Said (codes "join 5") ∷ Asleep 5 ∷ []

-- a node counts as asleep that was told nothing
abbrev pub asleep_untold : List Entry
asleep_untold =
    Said (codes "link 1 5") ∷ Said (codes "join 5") ∷ Said (codes "wake 5") ∷ Air 1 5 1 [] (bytes (codes "8407")) ∷ Said (codes "interview 5") ∷
    Written Host (bytes (codes "0104004105BF")) ∷ Written Chip (bytes (codes "06")) ∷ Written Chip (bytes (codes "01090141000000040000B2")) ∷
    Written Host (bytes (codes "06")) ∷ Written Host (bytes (codes "01040060059E")) ∷ Written Chip (bytes (codes "06")) ∷
    Written Chip (bytes (codes "01040160019B")) ∷ Written Host (bytes (codes "06")) ∷ Said (codes "tick 4") ∷ Time 1 ∷ Heard 1 ∷
    Written Chip (bytes (codes "01080004000502840777")) ∷ Written Host (bytes (codes "06")) ∷ Awake 5 ∷
    Written Chip (bytes (codes "010D00498405070400003180846C60")) ∷ Written Host (bytes (codes "06")) ∷ Interviewed 5 ∷ Asleep 5 ∷ []

-- a node is told that there is no more, and does not count as asleep
abbrev pub sleep_passed_over : List Entry
sleep_passed_over =
    Said (codes "link 1 5") ∷ Said (codes "join 5") ∷ Said (codes "wake 5") ∷ Air 1 5 1 [] (bytes (codes "8407")) ∷ Said (codes "interview 5") ∷
    Written Host (bytes (codes "0104004105BF")) ∷ Written Chip (bytes (codes "06")) ∷ Written Chip (bytes (codes "01090141000000040000B2")) ∷
    Written Host (bytes (codes "06")) ∷ Written Host (bytes (codes "01040060059E")) ∷ Written Chip (bytes (codes "06")) ∷
    Written Chip (bytes (codes "01040160019B")) ∷ Written Host (bytes (codes "06")) ∷ Said (codes "tick 4") ∷ Time 1 ∷ Heard 1 ∷
    Written Chip (bytes (codes "01080004000502840777")) ∷ Written Host (bytes (codes "06")) ∷ Awake 5 ∷
    Written Chip (bytes (codes "010D00498405070400003180846C60")) ∷ Written Host (bytes (codes "06")) ∷ Interviewed 5 ∷
    Written Host (bytes (codes "010900130502840825014A")) ∷ Written Chip (bytes (codes "06")) ∷ Written Chip (bytes (codes "0104011301E8")) ∷
    Air 2 1 5 [] (bytes (codes "8408")) ∷ Written Host (bytes (codes "06")) ∷ Time 2 ∷ Heard 2 ∷ Written Chip (bytes (codes "010500130100E8")) ∷
    Written Host (bytes (codes "06")) ∷ Said (codes "interval 5 300") ∷ []

-- a node that sleeps counts as awake though its third attempt has ended
abbrev pub given_up_awake : List Entry
given_up_awake =
    Said (codes "link 1 5") ∷ Said (codes "join 5") ∷ Said (codes "wake 5") ∷ Air 1 5 1 [] (bytes (codes "8407")) ∷ Said (codes "interview 5") ∷
    Written Host (bytes (codes "0104004105BF")) ∷ Written Chip (bytes (codes "06")) ∷ Written Chip (bytes (codes "01090141000000040000B2")) ∷
    Written Host (bytes (codes "06")) ∷ Written Host (bytes (codes "01040060059E")) ∷ Written Chip (bytes (codes "06")) ∷
    Written Chip (bytes (codes "01040160019B")) ∷ Written Host (bytes (codes "06")) ∷ Said (codes "tick 4") ∷ Time 1 ∷ Heard 1 ∷
    Written Chip (bytes (codes "01080004000502840777")) ∷ Written Host (bytes (codes "06")) ∷ Awake 5 ∷
    Written Chip (bytes (codes "010D00498405070400003180846C60")) ∷ Written Host (bytes (codes "06")) ∷ Interviewed 5 ∷
    Written Host (bytes (codes "010900130502840825014A")) ∷ Written Chip (bytes (codes "06")) ∷ Written Chip (bytes (codes "0104011301E8")) ∷
    Air 2 1 5 [] (bytes (codes "8408")) ∷ Written Host (bytes (codes "06")) ∷ Time 2 ∷ Heard 2 ∷ Written Chip (bytes (codes "010500130100E8")) ∷
    Written Host (bytes (codes "06")) ∷ Asleep 5 ∷ Said (codes "interval 5 300") ∷ Accepted 1 5 ∷ Said (codes "wake 5") ∷
    Air 3 5 1 [] (bytes (codes "8407")) ∷ Said (codes "lose 3") ∷ Said (codes "tick 4") ∷ Time 5 ∷ Heard 3 ∷
    Written Chip (bytes (codes "01080004000502840777")) ∷ Written Host (bytes (codes "06")) ∷ Awake 5 ∷ Begin 5 1 1 ∷
    Written Host (bytes (codes "01110013050A6C010106840400012C01250213")) ∷ Written Chip (bytes (codes "06")) ∷
    Written Chip (bytes (codes "0104011301E8")) ∷ Air 4 1 5 [] (bytes (codes "6C010106840400012C01")) ∷ Written Host (bytes (codes "06")) ∷ Time 6 ∷
    Lost 4 ∷ Written Chip (bytes (codes "010500130201EA")) ∷ Written Host (bytes (codes "06")) ∷
    Written Host (bytes (codes "01110013050A6C010106840400012C01250312")) ∷ Written Chip (bytes (codes "06")) ∷
    Written Chip (bytes (codes "0104011301E8")) ∷ Air 5 1 5 [] (bytes (codes "6C010106840400012C01")) ∷ Written Host (bytes (codes "06")) ∷ Time 7 ∷
    Lost 5 ∷ Written Chip (bytes (codes "010500130301EB")) ∷ Written Host (bytes (codes "06")) ∷
    Written Host (bytes (codes "01110013050A6C010106840400012C01250415")) ∷ Written Chip (bytes (codes "06")) ∷
    Written Chip (bytes (codes "0104011301E8")) ∷ Air 6 1 5 [] (bytes (codes "6C010106840400012C01")) ∷ Written Host (bytes (codes "06")) ∷ Time 8 ∷
    Lost 6 ∷ Written Chip (bytes (codes "010500130401EC")) ∷ Written Host (bytes (codes "06")) ∷ Out 1 endings.Unanswered ∷ Said (codes "tick 1") ∷ []

-- a node is told that there is no more while a command waits for it
abbrev pub told_while_waiting : List Entry
told_while_waiting =
    Said (codes "link 1 5") ∷ Said (codes "join 5") ∷ Said (codes "wake 5") ∷ Air 1 5 1 [] (bytes (codes "8407")) ∷ Said (codes "interview 5") ∷
    Written Host (bytes (codes "0104004105BF")) ∷ Written Chip (bytes (codes "06")) ∷ Written Chip (bytes (codes "01090141000000040000B2")) ∷
    Written Host (bytes (codes "06")) ∷ Written Host (bytes (codes "01040060059E")) ∷ Written Chip (bytes (codes "06")) ∷
    Written Chip (bytes (codes "01040160019B")) ∷ Written Host (bytes (codes "06")) ∷ Said (codes "tick 4") ∷ Time 1 ∷ Heard 1 ∷
    Written Chip (bytes (codes "01080004000502840777")) ∷ Written Host (bytes (codes "06")) ∷ Awake 5 ∷
    Written Chip (bytes (codes "010D00498405070400003180846C60")) ∷ Written Host (bytes (codes "06")) ∷ Interviewed 5 ∷
    Written Host (bytes (codes "010900130502840825014A")) ∷ Written Chip (bytes (codes "06")) ∷ Written Chip (bytes (codes "0104011301E8")) ∷
    Air 2 1 5 [] (bytes (codes "8408")) ∷ Written Host (bytes (codes "06")) ∷ Time 2 ∷ Heard 2 ∷ Written Chip (bytes (codes "010500130100E8")) ∷
    Written Host (bytes (codes "06")) ∷ Asleep 5 ∷ Said (codes "interval 5 300") ∷ Accepted 1 5 ∷ Said (codes "wake 5") ∷
    Air 3 5 1 [] (bytes (codes "8407")) ∷ Said (codes "tick 3") ∷ Time 5 ∷ Heard 3 ∷ Written Chip (bytes (codes "01080004000502840777")) ∷
    Written Host (bytes (codes "06")) ∷ Awake 5 ∷ Written Host (bytes (codes "0109001305028408250249")) ∷ []

-- a node is held that does not ask so
abbrev pub held_unasked : List Entry
held_unasked =
    Said (codes "link 1 5") ∷ Said (codes "join 5") ∷ Said (codes "wake 5") ∷ Air 1 5 1 [] (bytes (codes "8407")) ∷ Said (codes "interview 5") ∷
    Written Host (bytes (codes "0104004105BF")) ∷ Written Chip (bytes (codes "06")) ∷ Written Chip (bytes (codes "01090141000000040000B2")) ∷
    Written Host (bytes (codes "06")) ∷ Written Host (bytes (codes "01040060059E")) ∷ Written Chip (bytes (codes "06")) ∷
    Written Chip (bytes (codes "01040160019B")) ∷ Written Host (bytes (codes "06")) ∷ Said (codes "tick 4") ∷ Time 1 ∷ Heard 1 ∷
    Written Chip (bytes (codes "01080004000502840777")) ∷ Written Host (bytes (codes "06")) ∷ Awake 5 ∷
    Written Chip (bytes (codes "010D00498405070400003180846C60")) ∷ Written Host (bytes (codes "06")) ∷ Interviewed 5 ∷
    Written Host (bytes (codes "010900130502840825014A")) ∷ Written Chip (bytes (codes "06")) ∷ Written Chip (bytes (codes "0104011301E8")) ∷
    Air 2 1 5 [] (bytes (codes "8408")) ∷ Written Host (bytes (codes "06")) ∷ Time 2 ∷ Heard 2 ∷ Written Chip (bytes (codes "010500130100E8")) ∷
    Written Host (bytes (codes "06")) ∷ Asleep 5 ∷ Said (codes "interval 5 300") ∷ Accepted 1 5 ∷ Said (codes "wake 5") ∷
    Air 3 5 1 [] (bytes (codes "8407")) ∷ Said (codes "tick 3") ∷ Time 5 ∷ Heard 3 ∷ Written Chip (bytes (codes "01080004000502840777")) ∷
    Written Host (bytes (codes "06")) ∷ Awake 5 ∷ Begin 5 1 1 ∷ Written Host (bytes (codes "01110013050A6C010106840400012C01250213")) ∷
    Written Chip (bytes (codes "06")) ∷ Written Chip (bytes (codes "0104011301E8")) ∷ Air 4 1 5 [] (bytes (codes "6C010106840400012C01")) ∷
    Written Host (bytes (codes "06")) ∷ Time 6 ∷ Heard 4 ∷ Dev 5 (Session 1) (setting 0 names.Interval 300) ∷
    Air 5 5 1 [] (bytes (codes "6C0201FF00")) ∷ Written Chip (bytes (codes "010500130200EB")) ∷ Written Host (bytes (codes "06")) ∷ Time 7 ∷
    Heard 5 ∷ Written Chip (bytes (codes "010B00040005056C0201FF0060")) ∷ Written Host (bytes (codes "06")) ∷ Out 1 endings.Success ∷
    Store 5 (setting 0 names.Interval 300) ∷ Held 5 ∷ []

-- a node asks to be held, and is not
abbrev pub not_held : List Entry
not_held =
    Said (codes "link 1 101") ∷ Said (codes "join 101") ∷ Said (codes "wake 101") ∷ Air 1 101 1 [] (bytes (codes "8407")) ∷
    Said (codes "interview 101") ∷ Written Host (bytes (codes "0104004165DF")) ∷ Written Chip (bytes (codes "06")) ∷
    Written Chip (bytes (codes "01090141000000040000B2")) ∷ Written Host (bytes (codes "06")) ∷ Written Host (bytes (codes "0104006065FE")) ∷
    Written Chip (bytes (codes "06")) ∷ Written Chip (bytes (codes "01040160019B")) ∷ Written Host (bytes (codes "06")) ∷ Said (codes "tick 4") ∷
    Time 1 ∷ Heard 1 ∷ Written Chip (bytes (codes "01080004006502840717")) ∷ Written Host (bytes (codes "06")) ∷ Awake 101 ∷
    Written Chip (bytes (codes "010D00498465070400003180846C00")) ∷ Written Host (bytes (codes "06")) ∷ Interviewed 101 ∷
    Written Host (bytes (codes "010900136502840825012A")) ∷ Written Chip (bytes (codes "06")) ∷ Written Chip (bytes (codes "0104011301E8")) ∷
    Air 2 1 101 [] (bytes (codes "8408")) ∷ Written Host (bytes (codes "06")) ∷ Time 2 ∷ Heard 2 ∷ Written Chip (bytes (codes "010500130100E8")) ∷
    Written Host (bytes (codes "06")) ∷ Asleep 101 ∷ Said (codes "interval 101 300") ∷ Accepted 1 101 ∷ Said (codes "wake 101") ∷
    Air 3 101 1 [] (bytes (codes "8407")) ∷ Said (codes "tick 3") ∷ Time 5 ∷ Heard 3 ∷ Written Chip (bytes (codes "01080004006502840717")) ∷
    Written Host (bytes (codes "06")) ∷ Awake 101 ∷ Begin 101 1 1 ∷ Written Host (bytes (codes "01110013650A6C010106840400012C01250273")) ∷
    Written Chip (bytes (codes "06")) ∷ Written Chip (bytes (codes "0104011301E8")) ∷ Air 4 1 101 [] (bytes (codes "6C010106840400012C01")) ∷
    Written Host (bytes (codes "06")) ∷ Time 6 ∷ Heard 4 ∷ Dev 101 (Session 1) (setting 0 names.Interval 300) ∷
    Air 5 101 1 [] (bytes (codes "6C0241FF00")) ∷ Written Chip (bytes (codes "010500130200EB")) ∷ Written Host (bytes (codes "06")) ∷ Time 7 ∷
    Heard 5 ∷ Written Chip (bytes (codes "010B00040065056C0241FF0040")) ∷ Written Host (bytes (codes "06")) ∷ Out 1 endings.Success ∷
    Store 101 (setting 0 names.Interval 300) ∷ Said (codes "interval 101 600") ∷ []

-- a command is given up after two attempts
abbrev pub given_up_after_two : List Entry
given_up_after_two =
    Said (codes "lose 3") ∷ Said (codes "set 2 on") ∷ Accepted 1 2 ∷ Begin 2 1 1 ∷ Written Host (bytes (codes "010E001302076C0101032501FF250177")) ∷
    Written Chip (bytes (codes "06")) ∷ Written Chip (bytes (codes "0104011301E8")) ∷ Air 1 1 2 [] (bytes (codes "6C0101032501FF")) ∷
    Written Host (bytes (codes "06")) ∷ Said (codes "tick 5") ∷ Time 1 ∷ Lost 1 ∷ Written Chip (bytes (codes "010500130101E9")) ∷
    Written Host (bytes (codes "06")) ∷ Written Host (bytes (codes "010E001302076C0101032501FF250274")) ∷ Written Chip (bytes (codes "06")) ∷
    Written Chip (bytes (codes "0104011301E8")) ∷ Air 2 1 2 [] (bytes (codes "6C0101032501FF")) ∷ Written Host (bytes (codes "06")) ∷ Time 2 ∷
    Lost 2 ∷ Written Chip (bytes (codes "010500130201EA")) ∷ Written Host (bytes (codes "06")) ∷ Out 1 endings.Unanswered ∷ []

-- a command is given up while the third attempt is under way
abbrev pub given_up_under_way : List Entry
given_up_under_way =
    Said (codes "lose 3") ∷ Said (codes "set 2 on") ∷ Accepted 1 2 ∷ Begin 2 1 1 ∷ Written Host (bytes (codes "010E001302076C0101032501FF250177")) ∷
    Written Chip (bytes (codes "06")) ∷ Written Chip (bytes (codes "0104011301E8")) ∷ Air 1 1 2 [] (bytes (codes "6C0101032501FF")) ∷
    Written Host (bytes (codes "06")) ∷ Said (codes "tick 5") ∷ Time 1 ∷ Lost 1 ∷ Written Chip (bytes (codes "010500130101E9")) ∷
    Written Host (bytes (codes "06")) ∷ Written Host (bytes (codes "010E001302076C0101032501FF250274")) ∷ Written Chip (bytes (codes "06")) ∷
    Written Chip (bytes (codes "0104011301E8")) ∷ Air 2 1 2 [] (bytes (codes "6C0101032501FF")) ∷ Written Host (bytes (codes "06")) ∷ Time 2 ∷
    Lost 2 ∷ Written Chip (bytes (codes "010500130201EA")) ∷ Written Host (bytes (codes "06")) ∷
    Written Host (bytes (codes "010E001302076C0101032501FF250375")) ∷ Written Chip (bytes (codes "06")) ∷
    Written Chip (bytes (codes "0104011301E8")) ∷ Air 3 1 2 [] (bytes (codes "6C0101032501FF")) ∷ Written Host (bytes (codes "06")) ∷ Time 3 ∷
    Lost 3 ∷ Out 1 endings.Unanswered ∷ []

-- a command is given up before 100 ticks after the last callback
abbrev pub given_up_before_time : List Entry
given_up_before_time =
    Said (codes "set 2 on") ∷ Accepted 1 2 ∷ Begin 2 1 1 ∷ Written Host (bytes (codes "010E001302076C0101032501FF250177")) ∷
    Written Chip (bytes (codes "06")) ∷ Written Chip (bytes (codes "0104011301E8")) ∷ Air 1 1 2 [] (bytes (codes "6C0101032501FF")) ∷
    Written Host (bytes (codes "06")) ∷ Said (codes "lose 1") ∷ Said (codes "tick 101") ∷ Time 1 ∷ Heard 1 ∷
    Dev 2 (Session 1) (setting 0 names.Switch 255) ∷ Air 2 2 1 [] (bytes (codes "6C0201FF00")) ∷ Written Chip (bytes (codes "010500130100E8")) ∷
    Written Host (bytes (codes "06")) ∷ Time 2 ∷ Lost 2 ∷ Time 101 ∷ Written Host (bytes (codes "010E001302076C0101032501FF250274")) ∷
    Written Chip (bytes (codes "06")) ∷ Written Chip (bytes (codes "0104011301E8")) ∷ Air 3 1 2 [] (bytes (codes "6C0101032501FF")) ∷
    Written Host (bytes (codes "06")) ∷ Said (codes "lose 1") ∷ Said (codes "tick 101") ∷ Time 102 ∷ Heard 3 ∷
    Air 4 2 1 [] (bytes (codes "6C0201FF00")) ∷ Written Chip (bytes (codes "010500130200EB")) ∷ Written Host (bytes (codes "06")) ∷ Time 103 ∷
    Lost 4 ∷ Time 202 ∷ Written Host (bytes (codes "010E001302076C0101032501FF250375")) ∷ Written Chip (bytes (codes "06")) ∷
    Written Chip (bytes (codes "0104011301E8")) ∷ Air 5 1 2 [] (bytes (codes "6C0101032501FF")) ∷ Written Host (bytes (codes "06")) ∷
    Said (codes "lose 1") ∷ Said (codes "tick 101") ∷ Time 203 ∷ Heard 5 ∷ Air 6 2 1 [] (bytes (codes "6C0201FF00")) ∷
    Written Chip (bytes (codes "010500130300EA")) ∷ Written Host (bytes (codes "06")) ∷ Time 204 ∷ Lost 6 ∷ Time 302 ∷ Out 1 endings.Unanswered ∷ []

-- a command is given up after the first of two segments of its third attempt
abbrev pub given_up_inside : List Entry
given_up_inside =
    Said (codes "link 1 8") ∷ Said (codes "join 8") ∷ Said (codes "interview 8") ∷ Written Host (bytes (codes "0104004108B2")) ∷
    Written Chip (bytes (codes "06")) ∷ Written Chip (bytes (codes "0109014180000004000032")) ∷ Written Host (bytes (codes "06")) ∷
    Written Host (bytes (codes "010400600893")) ∷ Written Chip (bytes (codes "06")) ∷ Written Chip (bytes (codes "01040160019B")) ∷
    Written Host (bytes (codes "06")) ∷ Said (codes "tick 2") ∷ Time 1 ∷ Written Chip (bytes (codes "010C004984080604000070556C7D")) ∷
    Written Host (bytes (codes "06")) ∷ Interviewed 8 ∷ Said (codes "lose 6") ∷
    Said (codes "bulk 8 0 01010101010101010101010101010101010101010101010101010101010101010101010101") ∷ Accepted 1 8 ∷ Begin 8 1 1 ∷
    Written Host (bytes (codes "01340013082D55C02F106C01012B70070000250101010101010101010101010101010101010101010101010101010101014E7A250152")) ∷
    Written Chip (bytes (codes "06")) ∷ Written Chip (bytes (codes "0104011301E8")) ∷
    Air 1 1 8 [] (bytes (codes "55C02F106C01012B70070000250101010101010101010101010101010101010101010101010101010101014E7A")) ∷
    Written Host (bytes (codes "06")) ∷ Said (codes "tick 6") ∷ Time 3 ∷ Lost 1 ∷ Written Chip (bytes (codes "010500130101E9")) ∷
    Written Host (bytes (codes "06")) ∷ Written Host (bytes (codes "01160013080F55E02F102701010101010101018A7725028A")) ∷
    Written Chip (bytes (codes "06")) ∷ Written Chip (bytes (codes "0104011301E8")) ∷ Air 2 1 8 [] (bytes (codes "55E02F102701010101010101018A77")) ∷
    Written Host (bytes (codes "06")) ∷ Time 4 ∷ Lost 2 ∷ Written Chip (bytes (codes "010500130201EA")) ∷ Written Host (bytes (codes "06")) ∷
    Written Host (bytes (codes "01340013082D55C02F106C01012B70070000250101010101010101010101010101010101010101010101010101010101014E7A250350")) ∷
    Written Chip (bytes (codes "06")) ∷ Written Chip (bytes (codes "0104011301E8")) ∷
    Air 3 1 8 [] (bytes (codes "55C02F106C01012B70070000250101010101010101010101010101010101010101010101010101010101014E7A")) ∷
    Written Host (bytes (codes "06")) ∷ Time 5 ∷ Lost 3 ∷ Written Chip (bytes (codes "010500130301EB")) ∷ Written Host (bytes (codes "06")) ∷
    Written Host (bytes (codes "01160013080F55E02F102701010101010101018A7725048C")) ∷ Written Chip (bytes (codes "06")) ∷
    Written Chip (bytes (codes "0104011301E8")) ∷ Air 4 1 8 [] (bytes (codes "55E02F102701010101010101018A77")) ∷ Written Host (bytes (codes "06")) ∷
    Time 6 ∷ Lost 4 ∷ Written Chip (bytes (codes "010500130401EC")) ∷ Written Host (bytes (codes "06")) ∷
    Written Host (bytes (codes "01340013082D55C02F106C01012B70070000250101010101010101010101010101010101010101010101010101010101014E7A250556")) ∷
    Written Chip (bytes (codes "06")) ∷ Written Chip (bytes (codes "0104011301E8")) ∷
    Air 5 1 8 [] (bytes (codes "55C02F106C01012B70070000250101010101010101010101010101010101010101010101010101010101014E7A")) ∷
    Written Host (bytes (codes "06")) ∷ Time 7 ∷ Lost 5 ∷ Written Chip (bytes (codes "010500130501ED")) ∷ Written Host (bytes (codes "06")) ∷
    Out 1 endings.Unanswered ∷ []

-- a command waits for a node that is awake and has no session
abbrev pub left_waiting : List Entry
left_waiting =
    Said (codes "set 2 on") ∷ Accepted 1 2 ∷ Said (codes "tick 2") ∷ []

-- a line asks for a Set, and it is not sent
abbrev pub left_unsent : List Entry
left_unsent =
    Said (codes "send 2 on") ∷ Said (codes "tick 2") ∷ []

-- a line asks for an interview, and it does not begin
abbrev pub left_unbegun : List Entry
left_unbegun =
    Said (codes "join 5") ∷ Said (codes "interview 5") ∷ Said (codes "tick 2") ∷ []

-- the second attempt does not begin 100 ticks after the callback of the first
abbrev pub left_overdue : List Entry
left_overdue =
    Said (codes "set 2 on") ∷ Accepted 1 2 ∷ Begin 2 1 1 ∷ Written Host (bytes (codes "010E001302076C0101032501FF250177")) ∷
    Written Chip (bytes (codes "06")) ∷ Written Chip (bytes (codes "0104011301E8")) ∷ Air 1 1 2 [] (bytes (codes "6C0101032501FF")) ∷
    Written Host (bytes (codes "06")) ∷ Said (codes "lose 1") ∷ Said (codes "tick 101") ∷ Time 1 ∷ Heard 1 ∷
    Dev 2 (Session 1) (setting 0 names.Switch 255) ∷ Air 2 2 1 [] (bytes (codes "6C0201FF00")) ∷ Written Chip (bytes (codes "010500130100E8")) ∷
    Written Host (bytes (codes "06")) ∷ Time 2 ∷ Lost 2 ∷ Time 103 ∷ []

-- a node with nothing to do is kept awake
abbrev pub left_awake : List Entry
left_awake =
    Said (codes "link 1 5") ∷ Said (codes "join 5") ∷ Said (codes "wake 5") ∷ Air 1 5 1 [] (bytes (codes "8407")) ∷ Said (codes "interview 5") ∷
    Written Host (bytes (codes "0104004105BF")) ∷ Written Chip (bytes (codes "06")) ∷ Written Chip (bytes (codes "01090141000000040000B2")) ∷
    Written Host (bytes (codes "06")) ∷ Written Host (bytes (codes "01040060059E")) ∷ Written Chip (bytes (codes "06")) ∷
    Written Chip (bytes (codes "01040160019B")) ∷ Written Host (bytes (codes "06")) ∷ Said (codes "tick 4") ∷ Time 1 ∷ Heard 1 ∷
    Written Chip (bytes (codes "01080004000502840777")) ∷ Written Host (bytes (codes "06")) ∷ Awake 5 ∷
    Written Chip (bytes (codes "010D00498405070400003180846C60")) ∷ Written Host (bytes (codes "06")) ∷ Interviewed 5 ∷ Time 2 ∷ []

-- a command of a stretch has no outcome after 500 ticks
abbrev pub left_in_time : List Entry
left_in_time =
    Said (codes "set 2 on") ∷ Accepted 1 2 ∷ Begin 2 1 1 ∷ Written Host (bytes (codes "010E001302076C0101032501FF250177")) ∷
    Written Chip (bytes (codes "06")) ∷ Written Chip (bytes (codes "0104011301E8")) ∷ Air 1 1 2 [] (bytes (codes "6C0101032501FF")) ∷
    Written Host (bytes (codes "06")) ∷ Said (codes "tick 500") ∷ Time 1 ∷ Heard 1 ∷ Dev 2 (Session 1) (setting 0 names.Switch 255) ∷
    Air 2 2 1 [] (bytes (codes "6C0201FF00")) ∷ Written Chip (bytes (codes "010500130100E8")) ∷ Written Host (bytes (codes "06")) ∷ Time 2 ∷
    Heard 2 ∷ Written Chip (bytes (codes "010B00040002056C0201FF0067")) ∷ Written Host (bytes (codes "06")) ∷ []

-- a command is not given up though its third attempt has ended
abbrev pub gone_on_after_three : List Entry
gone_on_after_three =
    Said (codes "lose 3") ∷ Said (codes "set 2 on") ∷ Accepted 1 2 ∷ Begin 2 1 1 ∷ Written Host (bytes (codes "010E001302076C0101032501FF250177")) ∷
    Written Chip (bytes (codes "06")) ∷ Written Chip (bytes (codes "0104011301E8")) ∷ Air 1 1 2 [] (bytes (codes "6C0101032501FF")) ∷
    Written Host (bytes (codes "06")) ∷ Said (codes "tick 5") ∷ Time 1 ∷ Lost 1 ∷ Written Chip (bytes (codes "010500130101E9")) ∷
    Written Host (bytes (codes "06")) ∷ Written Host (bytes (codes "010E001302076C0101032501FF250274")) ∷ Written Chip (bytes (codes "06")) ∷
    Written Chip (bytes (codes "0104011301E8")) ∷ Air 2 1 2 [] (bytes (codes "6C0101032501FF")) ∷ Written Host (bytes (codes "06")) ∷ Time 2 ∷
    Lost 2 ∷ Written Chip (bytes (codes "010500130201EA")) ∷ Written Host (bytes (codes "06")) ∷
    Written Host (bytes (codes "010E001302076C0101032501FF250375")) ∷ Written Chip (bytes (codes "06")) ∷
    Written Chip (bytes (codes "0104011301E8")) ∷ Air 3 1 2 [] (bytes (codes "6C0101032501FF")) ∷ Written Host (bytes (codes "06")) ∷ Time 3 ∷
    Lost 3 ∷ Written Chip (bytes (codes "010500130301EB")) ∷ Written Host (bytes (codes "06")) ∷ Said (codes "set 2 off") ∷ []

-- the last acknowledgement of the host is dropped
abbrev pub unheard_acknowledgement : List Entry
unheard_acknowledgement =
    Said (codes "drop h") ∷ Said (codes "set 2 on") ∷ Accepted 1 2 ∷ Begin 2 1 1 ∷ Written Host (bytes (codes "010E001302076C0101032501FF250177")) ∷
    Written Chip (bytes (codes "06")) ∷ Written Chip (bytes (codes "0104011301E8")) ∷ Air 1 1 2 [] (bytes (codes "6C0101032501FF")) ∷
    Written Host (bytes (codes "06")) ∷ Said (codes "tick 500") ∷ Time 1 ∷ Heard 1 ∷ Dev 2 (Session 1) (setting 0 names.Switch 255) ∷
    Air 2 2 1 [] (bytes (codes "6C0201FF00")) ∷ Written Chip (bytes (codes "010500130100E8")) ∷ Written Host (bytes (codes "06")) ∷ Time 2 ∷
    Heard 2 ∷ Written Chip (bytes (codes "010B00040002056C0201FF0067")) ∷ Written Host (bytes (codes "06")) ∷ Dropped Host ∷ Out 1 endings.Success ∷
    Store 2 (setting 0 names.Switch 255) ∷ []

-- the message was heard, and the report is on the air
abbrev pub reported_next : List Entry
reported_next =
    Said (codes "set 2 on") ∷ Accepted 1 2 ∷ Begin 2 1 1 ∷ Written Host (bytes (codes "010E001302076C0101032501FF250177")) ∷
    Written Chip (bytes (codes "06")) ∷ Written Chip (bytes (codes "0104011301E8")) ∷ Air 1 1 2 [] (bytes (codes "6C0101032501FF")) ∷
    Written Host (bytes (codes "06")) ∷ Said (codes "tick 500") ∷ Time 1 ∷ Heard 1 ∷ Dev 2 (Session 1) (setting 0 names.Switch 255) ∷
    Air 2 2 1 [] (bytes (codes "6C0201FF00")) ∷ Written Chip (bytes (codes "010500130100E8")) ∷ Written Host (bytes (codes "06")) ∷ []

-- a node that does not listen counts as awake
abbrev pub asleep_not_yet : List Entry
asleep_not_yet =
    Said (codes "link 1 5") ∷ Said (codes "join 5") ∷ Said (codes "wake 5") ∷ Air 1 5 1 [] (bytes (codes "8407")) ∷ Said (codes "interview 5") ∷
    Written Host (bytes (codes "0104004105BF")) ∷ Written Chip (bytes (codes "06")) ∷ Written Chip (bytes (codes "01090141000000040000B2")) ∷
    Written Host (bytes (codes "06")) ∷ Written Host (bytes (codes "01040060059E")) ∷ Written Chip (bytes (codes "06")) ∷
    Written Chip (bytes (codes "01040160019B")) ∷ Written Host (bytes (codes "06")) ∷ Said (codes "tick 4") ∷ Time 1 ∷ Heard 1 ∷
    Written Chip (bytes (codes "01080004000502840777")) ∷ Written Host (bytes (codes "06")) ∷ Awake 5 ∷
    Written Chip (bytes (codes "010D00498405070400003180846C60")) ∷ Written Host (bytes (codes "06")) ∷ Interviewed 5 ∷ []

-- `interval 5 300`, `wake 5`, `tick 500`: the node that sleeps is woken, and its command never answered
abbrev pub left_asleep : List Entry
left_asleep = Said (codes "interval 5 300") ∷ Accepted 1 5 ∷ Said (codes "wake 5") ∷ Said (codes "tick 500") ∷ []

-- a node that sleeps is not woken
abbrev pub stretch_unwoken : List Entry
stretch_unwoken =
    Said (codes "interval 5 300") ∷ Accepted 1 5 ∷ Air 3 5 1 [] (bytes (codes "8407")) ∷ Said (codes "tick 500") ∷ Time 5 ∷ Heard 3 ∷
    Written Chip (bytes (codes "01080004000502840777")) ∷ Written Host (bytes (codes "06")) ∷ Awake 5 ∷ Begin 5 1 1 ∷
    Written Host (bytes (codes "01110013050A6C010106840400012C01250213")) ∷ Written Chip (bytes (codes "06")) ∷
    Written Chip (bytes (codes "0104011301E8")) ∷ Air 4 1 5 [] (bytes (codes "6C010106840400012C01")) ∷ Written Host (bytes (codes "06")) ∷ Time 6 ∷
    Heard 4 ∷ Dev 5 (Session 1) (setting 0 names.Interval 300) ∷ Air 5 5 1 [] (bytes (codes "6C0201FF00")) ∷
    Written Chip (bytes (codes "010500130200EB")) ∷ Written Host (bytes (codes "06")) ∷ Time 7 ∷ Heard 5 ∷
    Written Chip (bytes (codes "010B00040005056C0201FF0060")) ∷ Written Host (bytes (codes "06")) ∷ Out 1 endings.Success ∷
    Store 5 (setting 0 names.Interval 300) ∷ Written Host (bytes (codes "0109001305028408250348")) ∷ Written Chip (bytes (codes "06")) ∷
    Written Chip (bytes (codes "0104011301E8")) ∷ Air 6 1 5 [] (bytes (codes "8408")) ∷ Written Host (bytes (codes "06")) ∷ Time 8 ∷ Heard 6 ∷
    Written Chip (bytes (codes "010500130300EA")) ∷ Written Host (bytes (codes "06")) ∷ Asleep 5 ∷ []

-- `stall 5`, `set 2 on`: no session begins before the stall ends, though no request is under way
abbrev pub left_in_stall : List Entry
left_in_stall = Said (codes "stall 5") ∷ Said (codes "set 2 on") ∷ Accepted 1 2 ∷ Said (codes "tick 4") ∷ []

-- nor where the chip has written in the stall, which the host has not heard
abbrev pub left_unheard : List Entry
left_unheard =
    Said (codes "stall 9") ∷ Said (codes "local 2 1") ∷ Dev 2 Local (setting 0 names.Switch 255) ∷ Air 1 2 1 [] (bytes (codes "2503FF")) ∷
    Said (codes "tick 1") ∷ Time 1 ∷ Heard 1 ∷ Written Chip (bytes (codes "010900040002032503FF2A")) ∷ Said (codes "set 2 on") ∷ Accepted 1 2 ∷
    Said (codes "tick 1") ∷ []

-- `failed 2`: the question is not asked while the chip has written what the host has not judged, though no request is under way
abbrev pub left_unasked : List Entry
left_unasked = Said (codes "failed 2") ∷ notified ∷ Said (codes "tick 1") ∷ []

-- `stall 5`, `set 2 on`: a session begins, and nothing is sent
abbrev pub begun_silently : List Entry
begun_silently = Said (codes "stall 5") ∷ Said (codes "set 2 on") ∷ Accepted 1 2 ∷ Begin 2 1 1 ∷ []
