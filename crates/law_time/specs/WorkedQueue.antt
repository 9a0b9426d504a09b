-- Worked transcripts of what waits and of third attempts, in the form in which the program prints them, made by hand.
use Rattle.std.specs.Prelude.{List, [], ◌∷◌, ◌++◌, codes}
use Rattle.zw_base.specs.declared.property.Name.TheVariants as names
use Rattle.zw_base.specs.declared.property.By.TheVariants.{Session}
use Rattle.zw_words.specs.declared.side.Side.TheVariants.{Host, Chip}
use Rattle.host_orders.specs.Settings.{setting}
use Rattle.zw_text.specs.declared.entry.Ended.TheVariants as endings
use Rattle.zw_text.specs.declared.entry.Done.TheVariants as done
use Rattle.zw_text.specs.declared.entry.Entry.{Entry}
use Rattle.zw_text.specs.declared.entry.Entry.TheVariants.{Accepted, Air, Awake, Begin, Dev, Done, Dropped, Heard, Interviewed, Lost, Out, QueueFull, Said, Time, Written}
use Rattle.law_wire.specs.law_transcript.Worked.{bytes, sealed_exchange}
use Rattle.law_time.specs.WorkedWaits.{before_waking}

-- a first segment is lost, and asked for again, which is no attempt; then the two of the second and of the third attempt are lost
abbrev pub resent_segments : List Entry
resent_segments =
    Said (codes "link 1 8") ∷ Said (codes "join 8") ∷ Said (codes "interview 8") ∷ Written Host (bytes (codes "0104004108B2")) ∷
    Written Chip (bytes (codes "06")) ∷ Written Chip (bytes (codes "0109014180000004000032")) ∷ Written Host (bytes (codes "06")) ∷
    Written Host (bytes (codes "010400600893")) ∷ Written Chip (bytes (codes "06")) ∷ Written Chip (bytes (codes "01040160019B")) ∷
    Written Host (bytes (codes "06")) ∷ Said (codes "tick 2") ∷ Time 1 ∷ Written Chip (bytes (codes "010C004984080604000070556C7D")) ∷
    Written Host (bytes (codes "06")) ∷ Interviewed 8 ∷ Said (codes "lose 1") ∷
    Said (codes "bulk 8 0 01010101010101010101010101010101010101010101010101010101010101010101010101") ∷ Accepted 1 8 ∷ Begin 8 1 1 ∷
    Written Host (bytes (codes "01340013082D55C02F106C01012B70070000250101010101010101010101010101010101010101010101010101010101014E7A250152")) ∷
    Written Chip (bytes (codes "06")) ∷ Written Chip (bytes (codes "0104011301E8")) ∷
    Air 1 1 8 [] (bytes (codes "55C02F106C01012B70070000250101010101010101010101010101010101010101010101010101010101014E7A")) ∷
    Written Host (bytes (codes "06")) ∷ Said (codes "tick 2") ∷ Time 3 ∷ Lost 1 ∷ Written Chip (bytes (codes "010500130101E9")) ∷
    Written Host (bytes (codes "06")) ∷ Written Host (bytes (codes "01160013080F55E02F102701010101010101018A7725028A")) ∷
    Written Chip (bytes (codes "06")) ∷ Written Chip (bytes (codes "0104011301E8")) ∷ Air 2 1 8 [] (bytes (codes "55E02F102701010101010101018A77")) ∷
    Written Host (bytes (codes "06")) ∷ Time 4 ∷ Heard 2 ∷ Air 3 8 1 [] (bytes (codes "55C81000")) ∷ Written Chip (bytes (codes "010500130200EB")) ∷
    Written Host (bytes (codes "06")) ∷ Said (codes "lose 5") ∷ Said (codes "tick 1") ∷ Time 5 ∷ Heard 3 ∷
    Written Chip (bytes (codes "010A000400080455C8100070")) ∷ Written Host (bytes (codes "06")) ∷
    Written Host (bytes (codes "01340013082D55C02F106C01012B70070000250101010101010101010101010101010101010101010101010101010101014E7A250350")) ∷
    Written Chip (bytes (codes "06")) ∷ Written Chip (bytes (codes "0104011301E8")) ∷
    Air 4 1 8 [] (bytes (codes "55C02F106C01012B70070000250101010101010101010101010101010101010101010101010101010101014E7A")) ∷
    Written Host (bytes (codes "06")) ∷ Said (codes "tick 103") ∷ Time 6 ∷ Lost 4 ∷ Written Chip (bytes (codes "010500130301EB")) ∷
    Written Host (bytes (codes "06")) ∷ Time 104 ∷
    Written Host (bytes (codes "01340013082D55C02F106C01012B70070000250101010101010101010101010101010101010101010101010101010101014E7A250457")) ∷
    Written Chip (bytes (codes "06")) ∷ Written Chip (bytes (codes "0104011301E8")) ∷
    Air 5 1 8 [] (bytes (codes "55C02F106C01012B70070000250101010101010101010101010101010101010101010101010101010101014E7A")) ∷
    Written Host (bytes (codes "06")) ∷ Time 105 ∷ Lost 5 ∷ Written Chip (bytes (codes "010500130401EC")) ∷ Written Host (bytes (codes "06")) ∷
    Written Host (bytes (codes "01160013080F55E02F102701010101010101018A7725058D")) ∷ Written Chip (bytes (codes "06")) ∷
    Written Chip (bytes (codes "0104011301E8")) ∷ Air 6 1 8 [] (bytes (codes "55E02F102701010101010101018A77")) ∷ Written Host (bytes (codes "06")) ∷
    Time 106 ∷ Lost 6 ∷ Written Chip (bytes (codes "010500130501ED")) ∷ Written Host (bytes (codes "06")) ∷
    Written Host (bytes (codes "01340013082D55C02F106C01012B70070000250101010101010101010101010101010101010101010101010101010101014E7A250655")) ∷
    Written Chip (bytes (codes "06")) ∷ Written Chip (bytes (codes "0104011301E8")) ∷
    Air 7 1 8 [] (bytes (codes "55C02F106C01012B70070000250101010101010101010101010101010101010101010101010101010101014E7A")) ∷
    Written Host (bytes (codes "06")) ∷ Time 107 ∷ Lost 7 ∷ Written Chip (bytes (codes "010500130601EE")) ∷ Written Host (bytes (codes "06")) ∷
    Written Host (bytes (codes "01160013080F55E02F102701010101010101018A7725078F")) ∷ Written Chip (bytes (codes "06")) ∷
    Written Chip (bytes (codes "0104011301E8")) ∷ Air 8 1 8 [] (bytes (codes "55E02F102701010101010101018A77")) ∷ Written Host (bytes (codes "06")) ∷
    Time 108 ∷ Lost 8 ∷ Written Chip (bytes (codes "010500130701EF")) ∷ Written Host (bytes (codes "06")) ∷ Out 1 endings.Unanswered ∷ []

-- `drop h` 12 times, `set 2 on`, `tick 279`: no copy of three requests arrives
abbrev pub failed_attempts : List Entry
failed_attempts =
    Said (codes "drop h") ∷ Said (codes "drop h") ∷ Said (codes "drop h") ∷ Said (codes "drop h") ∷ Said (codes "drop h") ∷ Said (codes "drop h") ∷
    Said (codes "drop h") ∷ Said (codes "drop h") ∷ Said (codes "drop h") ∷ Said (codes "drop h") ∷ Said (codes "drop h") ∷ Said (codes "drop h") ∷
    Said (codes "set 2 on") ∷ Accepted 1 2 ∷ Begin 2 1 1 ∷ Written Host (bytes (codes "010E001302076C0101032501FF250177")) ∷ Dropped Host ∷
    Said (codes "tick 279") ∷ Time 16 ∷ Written Host (bytes (codes "010E001302076C0101032501FF250177")) ∷ Dropped Host ∷ Time 42 ∷
    Written Host (bytes (codes "010E001302076C0101032501FF250177")) ∷ Dropped Host ∷ Time 78 ∷
    Written Host (bytes (codes "010E001302076C0101032501FF250177")) ∷ Dropped Host ∷ Time 93 ∷
    Written Host (bytes (codes "010E001302076C0101032501FF250274")) ∷ Dropped Host ∷ Time 109 ∷
    Written Host (bytes (codes "010E001302076C0101032501FF250274")) ∷ Dropped Host ∷ Time 135 ∷
    Written Host (bytes (codes "010E001302076C0101032501FF250274")) ∷ Dropped Host ∷ Time 171 ∷
    Written Host (bytes (codes "010E001302076C0101032501FF250274")) ∷ Dropped Host ∷ Time 186 ∷
    Written Host (bytes (codes "010E001302076C0101032501FF250375")) ∷ Dropped Host ∷ Time 202 ∷
    Written Host (bytes (codes "010E001302076C0101032501FF250375")) ∷ Dropped Host ∷ Time 228 ∷
    Written Host (bytes (codes "010E001302076C0101032501FF250375")) ∷ Dropped Host ∷ Time 264 ∷
    Written Host (bytes (codes "010E001302076C0101032501FF250375")) ∷ Dropped Host ∷ Time 279 ∷ Out 1 endings.Unanswered ∷ []

-- `lose 2`, `set 2 on`, `tick 2`, `drop c` three times, `tick 65`: two attempts are lost, and the third has no callback in 65 ticks, so that it is aborted
abbrev pub silent_attempt : List Entry
silent_attempt =
    Said (codes "lose 2") ∷ Said (codes "set 2 on") ∷ Accepted 1 2 ∷ Begin 2 1 1 ∷ Written Host (bytes (codes "010E001302076C0101032501FF250177")) ∷
    Written Chip (bytes (codes "06")) ∷ Written Chip (bytes (codes "0104011301E8")) ∷ Air 1 1 2 [] (bytes (codes "6C0101032501FF")) ∷
    Written Host (bytes (codes "06")) ∷ Said (codes "tick 2") ∷ Time 1 ∷ Lost 1 ∷ Written Chip (bytes (codes "010500130101E9")) ∷
    Written Host (bytes (codes "06")) ∷ Written Host (bytes (codes "010E001302076C0101032501FF250274")) ∷ Written Chip (bytes (codes "06")) ∷
    Written Chip (bytes (codes "0104011301E8")) ∷ Air 2 1 2 [] (bytes (codes "6C0101032501FF")) ∷ Written Host (bytes (codes "06")) ∷ Time 2 ∷
    Lost 2 ∷ Written Chip (bytes (codes "010500130201EA")) ∷ Written Host (bytes (codes "06")) ∷
    Written Host (bytes (codes "010E001302076C0101032501FF250375")) ∷ Written Chip (bytes (codes "06")) ∷
    Written Chip (bytes (codes "0104011301E8")) ∷ Air 3 1 2 [] (bytes (codes "6C0101032501FF")) ∷ Written Host (bytes (codes "06")) ∷
    Said (codes "drop c") ∷ Said (codes "drop c") ∷ Said (codes "drop c") ∷ Said (codes "tick 65") ∷ Time 3 ∷ Heard 3 ∷
    Dev 2 (Session 1) (setting 0 names.Switch 255) ∷ Air 4 2 1 [] (bytes (codes "6C0201FF00")) ∷ Written Chip (bytes (codes "010500130300EA")) ∷
    Dropped Chip ∷ Time 4 ∷ Heard 4 ∷ Time 18 ∷ Written Chip (bytes (codes "010500130300EA")) ∷ Dropped Chip ∷ Time 44 ∷
    Written Chip (bytes (codes "010500130300EA")) ∷ Dropped Chip ∷ Time 67 ∷ Out 1 endings.Unanswered ∷ Written Host (bytes (codes "01030016EA")) ∷
    Written Chip (bytes (codes "06")) ∷ []

-- after `link 1 5` to `tick 4`: a node wakes while 64 requests wait, so that it cannot be told that there is no more
abbrev pub dropped_no_more : List Entry
dropped_no_more =
    before_waking ++ Said (codes "wake 5") ∷ Air 3 5 1 [] (bytes (codes "8407")) ∷ Said (codes "get 2") ∷
    Written Host (bytes (codes "01090013020225022502E5")) ∷ Written Chip (bytes (codes "06")) ∷ Written Chip (bytes (codes "0104011301E8")) ∷
    Air 4 1 2 [] (bytes (codes "2502")) ∷ Written Host (bytes (codes "06")) ∷ Said (codes "probe") ∷ Said (codes "probe") ∷ Said (codes "probe") ∷
    Said (codes "probe") ∷ Said (codes "probe") ∷ Said (codes "probe") ∷ Said (codes "probe") ∷ Said (codes "probe") ∷ Said (codes "probe") ∷
    Said (codes "probe") ∷ Said (codes "probe") ∷ Said (codes "probe") ∷ Said (codes "probe") ∷ Said (codes "probe") ∷ Said (codes "probe") ∷
    Said (codes "probe") ∷ Said (codes "probe") ∷ Said (codes "probe") ∷ Said (codes "probe") ∷ Said (codes "probe") ∷ Said (codes "probe") ∷
    Said (codes "get 2") ∷ Said (codes "tick 1") ∷ Time 5 ∷ Heard 3 ∷ Written Chip (bytes (codes "01080004000502840777")) ∷ Heard 4 ∷
    Air 5 2 1 [] (bytes (codes "250300")) ∷ Written Host (bytes (codes "06")) ∷ Awake 5 ∷ QueueFull 5 ∷
    Written Chip (bytes (codes "010500130200EB")) ∷ Written Host (bytes (codes "06")) ∷ Done 2 done.Delivered ∷
    Written Host (bytes (codes "01030015E9")) ∷ Written Chip (bytes (codes "06")) ∷ []

-- after the exchange with a lock: its Nonce Get is heard again while 64 requests wait
abbrev pub dropped_nonce : List Entry
dropped_nonce =
    sealed_exchange ++ Said (codes "interview 4") ∷ Written Host (bytes (codes "0104004104BE")) ∷ Written Chip (bytes (codes "06")) ∷
    Written Chip (bytes (codes "0109014180000004000032")) ∷ Written Host (bytes (codes "06")) ∷ Written Host (bytes (codes "01040060049F")) ∷
    Written Chip (bytes (codes "06")) ∷ Written Chip (bytes (codes "01040160019B")) ∷ Written Host (bytes (codes "06")) ∷ Said (codes "probe") ∷
    Said (codes "probe") ∷ Said (codes "probe") ∷ Said (codes "probe") ∷ Said (codes "probe") ∷ Said (codes "probe") ∷ Said (codes "probe") ∷
    Said (codes "probe") ∷ Said (codes "probe") ∷ Said (codes "probe") ∷ Said (codes "probe") ∷ Said (codes "probe") ∷ Said (codes "probe") ∷
    Said (codes "probe") ∷ Said (codes "probe") ∷ Said (codes "probe") ∷ Said (codes "probe") ∷ Said (codes "probe") ∷ Said (codes "probe") ∷
    Said (codes "probe") ∷ Said (codes "probe") ∷ Said (codes "neighbours 2") ∷ Said (codes "repeat 6") ∷ Heard 6 ∷
    Written Chip (bytes (codes "0108000400040298402D")) ∷ Written Host (bytes (codes "06")) ∷ QueueFull 4 ∷ []
