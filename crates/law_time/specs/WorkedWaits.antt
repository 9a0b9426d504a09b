-- Worked transcripts of waits, in the form in which the program prints them, before the table at the end; those by hand say so.
use Rattle.std.specs.Prelude.{ℕ, true, List, [], ◌∷◌, ◌++◌, codes, take}
use Rattle.zw_base.specs.declared.property.Name.TheVariants as names
use Rattle.zw_base.specs.declared.property.By.TheVariants.{Session}
use Rattle.zw_words.specs.declared.side.Side.TheVariants.{Host, Chip}
use Rattle.host_orders.specs.Settings.{setting}
use Rattle.zw_text.specs.declared.entry.Ended.TheVariants as endings
use Rattle.zw_text.specs.declared.entry.Done.TheVariants as done
use Rattle.zw_text.specs.declared.entry.Refusal.TheVariants as refusals
use Rattle.zw_text.specs.declared.entry.Entry.{Entry}
use Rattle.zw_text.specs.declared.entry.Entry.TheVariants.{Said, Accepted, Refused, Begin, Written, Dropped, Air, Heard, Lost, Dev, Out, Store, Report, Awake, Asleep, Interviewed, InterviewFailed, Done, Neighbours, Failed, Held, Time}
use Rattle.law_wire.specs.law_transcript.Worked.{bytes}
use Rattle.law_wire.specs.device_kinds.declared.kind.Kind.TheVariants as kinds
use Rattle.law_wire.specs.device_stack.State.{State, fresh}

-- `send 2 on`, `tick 2`, `lose 1`, `get 2`, `tick 1`, `neighbours 2`, `failed 2`: a Set, a Get that is lost, and two questions
abbrev pub answered_errands : List Entry
answered_errands =
    Said (codes "send 2 on") ∷ Written Host (bytes (codes "010A001302032501FF250118")) ∷ Written Chip (bytes (codes "06")) ∷
    Written Chip (bytes (codes "0104011301E8")) ∷ Air 1 1 2 [] (bytes (codes "2501FF")) ∷ Written Host (bytes (codes "06")) ∷ Said (codes "tick 2") ∷
    Time 1 ∷ Heard 1 ∷ Written Chip (bytes (codes "010500130100E8")) ∷ Written Host (bytes (codes "06")) ∷ Done 2 done.Delivered ∷
    Said (codes "lose 1") ∷ Said (codes "get 2") ∷ Written Host (bytes (codes "01090013020225022502E5")) ∷ Written Chip (bytes (codes "06")) ∷
    Written Chip (bytes (codes "0104011301E8")) ∷ Air 2 1 2 [] (bytes (codes "2502")) ∷ Written Host (bytes (codes "06")) ∷ Said (codes "tick 1") ∷
    Time 3 ∷ Lost 2 ∷ Written Chip (bytes (codes "010500130201EA")) ∷ Written Host (bytes (codes "06")) ∷ Done 2 done.NoAck ∷
    Said (codes "neighbours 2") ∷ Written Host (bytes (codes "01070080020000007A")) ∷ Written Chip (bytes (codes "06")) ∷
    Written Chip (bytes (codes "0120018001000000000000000000000000000000000000000000000000000000005F")) ∷ Written Host (bytes (codes "06")) ∷
    Neighbours 2 (1 ∷ []) ∷ Said (codes "failed 2") ∷ Written Host (bytes (codes "01040062029B")) ∷ Written Chip (bytes (codes "06")) ∷
    Written Chip (bytes (codes "010401620199")) ∷ Written Host (bytes (codes "06")) ∷ Failed 2 true ∷ []

-- by hand: a Set for which the chip has no route, one that the chip calls back as not idle, and one that it refuses
abbrev pub unrouted_errand : List Entry
unrouted_errand =
    Said (codes "send 2 on") ∷ Written Host (bytes (codes "010A001302032501FF250118")) ∷ Written Chip (bytes (codes "06")) ∷
    Written Chip (bytes (codes "0104011301E8")) ∷ Written Host (bytes (codes "06")) ∷ Said (codes "tick 1") ∷ Time 1 ∷
    Written Chip (bytes (codes "010500130104EC")) ∷ Written Host (bytes (codes "06")) ∷ Done 2 done.NoRoute ∷ []

abbrev pub not_idle_errand : List Entry
not_idle_errand = take 7 unrouted_errand ++ Written Chip (bytes (codes "010500130103EB")) ∷ Written Host (bytes (codes "06")) ∷ Done 2 done.NotIdle ∷ []

abbrev pub refused_errand : List Entry
refused_errand = take 3 unrouted_errand ++ Written Chip (bytes (codes "0104011300E9")) ∷ Written Host (bytes (codes "06")) ∷ Done 2 done.Refused ∷ []

-- `drop c` three times, `get 2`, `tick 17`, .., `tick 100`: a Get is acknowledged, and its response and callback do not come
abbrev pub silent_request : List Entry
silent_request =
    Said (codes "drop c") ∷ Said (codes "drop c") ∷ Said (codes "drop c") ∷ Said (codes "get 2") ∷
    Written Host (bytes (codes "01090013020225022501E6")) ∷ Written Chip (bytes (codes "06")) ∷ Dropped Chip ∷
    Written Chip (bytes (codes "0104011301E8")) ∷ Dropped Chip ∷ Air 1 1 2 [] (bytes (codes "2502")) ∷ Said (codes "tick 17") ∷ Time 1 ∷ Heard 1 ∷
    Air 2 2 1 [] (bytes (codes "250300")) ∷ Time 2 ∷ Heard 2 ∷ Time 16 ∷ Written Chip (bytes (codes "0104011301E8")) ∷ Dropped Chip ∷
    Written Host (bytes (codes "01090013020225022501E6")) ∷ Written Chip (bytes (codes "06")) ∷ Air 3 1 2 [] (bytes (codes "2502")) ∷ Time 17 ∷
    Heard 3 ∷ Air 4 2 1 [] (bytes (codes "250300")) ∷ Said (codes "link 1 10") ∷ Said (codes "join 10") ∷ Said (codes "interview 10") ∷
    Said (codes "tick 1") ∷ Time 18 ∷ Heard 4 ∷ Said (codes "drop h") ∷ Said (codes "drop h") ∷ Said (codes "drop h") ∷ Said (codes "drop h") ∷
    Said (codes "get 10") ∷ Refused refusals.NotInterviewed ∷ Said (codes "tick 100") ∷ Time 31 ∷ Done 2 done.Silent ∷
    Written Host (bytes (codes "010400410AB0")) ∷ Dropped Host ∷ Time 42 ∷ Written Chip (bytes (codes "0104011301E8")) ∷
    Written Host (bytes (codes "06")) ∷ Dropped Host ∷ Time 47 ∷ Written Host (bytes (codes "010400410AB0")) ∷ Dropped Host ∷ Time 73 ∷
    Written Host (bytes (codes "010400410AB0")) ∷ Dropped Host ∷ Time 78 ∷ Written Chip (bytes (codes "0104011301E8")) ∷
    Written Host (bytes (codes "06")) ∷ Written Chip (bytes (codes "010500130100E8")) ∷ Written Host (bytes (codes "06")) ∷
    Written Chip (bytes (codes "01090004000203250300D5")) ∷ Written Host (bytes (codes "06")) ∷ Report 2 (setting 0 names.Switch 0) ∷
    Written Chip (bytes (codes "0104011301E8")) ∷ Written Host (bytes (codes "06")) ∷ Written Chip (bytes (codes "010500130100E8")) ∷
    Written Host (bytes (codes "06")) ∷ Written Chip (bytes (codes "01090004000203250300D5")) ∷ Written Host (bytes (codes "06")) ∷
    Report 2 (setting 0 names.Switch 0) ∷ Time 109 ∷ Written Host (bytes (codes "010400410AB0")) ∷ Written Chip (bytes (codes "06")) ∷
    Written Chip (bytes (codes "0109014180000004000032")) ∷ Written Host (bytes (codes "06")) ∷ Written Host (bytes (codes "010400600A91")) ∷
    Written Chip (bytes (codes "06")) ∷ Written Chip (bytes (codes "01040160019B")) ∷ Written Host (bytes (codes "06")) ∷ Time 110 ∷
    Written Chip (bytes (codes "010C0049840A0604000025856CFA")) ∷ Written Host (bytes (codes "06")) ∷ Interviewed 10 ∷ []

-- `set 2 on`, then `lose 1`, `tick 101` three times: each attempt is heard and its report is lost
abbrev pub waited_attempts : List Entry
waited_attempts =
    Said (codes "set 2 on") ∷ Accepted 1 2 ∷ Begin 2 1 1 ∷ Written Host (bytes (codes "010E001302076C0101032501FF250177")) ∷
    Written Chip (bytes (codes "06")) ∷ Written Chip (bytes (codes "0104011301E8")) ∷ Air 1 1 2 [] (bytes (codes "6C0101032501FF")) ∷
    Written Host (bytes (codes "06")) ∷ Said (codes "lose 1") ∷ Said (codes "tick 101") ∷ Time 1 ∷ Heard 1 ∷
    Dev 2 (Session 1) (setting 0 names.Switch 255) ∷ Air 2 2 1 [] (bytes (codes "6C0201FF00")) ∷ Written Chip (bytes (codes "010500130100E8")) ∷
    Written Host (bytes (codes "06")) ∷ Time 2 ∷ Lost 2 ∷ Time 101 ∷ Written Host (bytes (codes "010E001302076C0101032501FF250274")) ∷
    Written Chip (bytes (codes "06")) ∷ Written Chip (bytes (codes "0104011301E8")) ∷ Air 3 1 2 [] (bytes (codes "6C0101032501FF")) ∷
    Written Host (bytes (codes "06")) ∷ Said (codes "lose 1") ∷ Said (codes "tick 101") ∷ Time 102 ∷ Heard 3 ∷
    Air 4 2 1 [] (bytes (codes "6C0201FF00")) ∷ Written Chip (bytes (codes "010500130200EB")) ∷ Written Host (bytes (codes "06")) ∷ Time 103 ∷
    Lost 4 ∷ Time 202 ∷ Written Host (bytes (codes "010E001302076C0101032501FF250375")) ∷ Written Chip (bytes (codes "06")) ∷
    Written Chip (bytes (codes "0104011301E8")) ∷ Air 5 1 2 [] (bytes (codes "6C0101032501FF")) ∷ Written Host (bytes (codes "06")) ∷
    Said (codes "lose 1") ∷ Said (codes "tick 101") ∷ Time 203 ∷ Heard 5 ∷ Air 6 2 1 [] (bytes (codes "6C0201FF00")) ∷
    Written Chip (bytes (codes "010500130300EA")) ∷ Written Host (bytes (codes "06")) ∷ Time 204 ∷ Lost 6 ∷ Time 303 ∷ Out 1 endings.Unanswered ∷ []

-- `link 1 101`, `join 101`, `wake 101`, `interview 101`, `tick 4`, `interval 101 300`, `wake 101`, `tick 3`, `interval 101 600`, `tick 2`, `tick 100`: a
-- node asks to be kept awake
abbrev pub held_node : List Entry
held_node =
    Said (codes "link 1 101") ∷ Said (codes "join 101") ∷ Said (codes "wake 101") ∷ Air 1 101 1 [] (bytes (codes "8407")) ∷
    Said (codes "interview 101") ∷ Written Host (bytes (codes "0104004165DF")) ∷ Written Chip (bytes (codes "06")) ∷
    Written Chip (bytes (codes "01090141000000040000B2")) ∷ Written Host (bytes (codes "06")) ∷ Written Host (bytes (codes "0104006065FE")) ∷
    Written Chip (bytes (codes "06")) ∷ Written Chip (bytes (codes "01040160019B")) ∷ Written Host (bytes (codes "06")) ∷ Said (codes "tick 4") ∷
    Time 1 ∷ Heard 1 ∷ Written Chip (bytes (codes "01080004006502840717")) ∷ Written Host (bytes (codes "06")) ∷ Awake 101 ∷
    Written Chip (bytes (codes "010D00498465070400003180846C00")) ∷ Written Host (bytes (codes "06")) ∷ Interviewed 101 ∷
    Written Host (bytes (codes "010900136502840825012A")) ∷ Written Chip (bytes (codes "06")) ∷ Written Chip (bytes (codes "0104011301E8")) ∷
    Air 2 1 101 [] (bytes (codes "8408")) ∷ Written Host (bytes (codes "06")) ∷ Time 2 ∷ Heard 2 ∷ Written Chip (bytes (codes "010500130100E8")) ∷
    Written Host (bytes (codes "06")) ∷ Asleep 101 ∷ Said (codes "interval 101 300") ∷ Accepted 1 101 ∷ Said (codes "wake 101") ∷
    Air 3 101 1 [] (bytes (codes "8407")) ∷ Said (codes "tick 3") ∷ Time 5 ∷ Heard 3 ∷ Written Chip (bytes (codes "01080004006502840717")) ∷
    Written Host (bytes (codes "06")) ∷ Awake 101 ∷ Begin 101 1 1 ∷ Written Host (bytes (codes "01110013650A6C010106840400012C01250273")) ∷
    Written Chip (bytes (codes "06")) ∷ Written Chip (bytes (codes "0104011301E8")) ∷ Air 4 1 101 [] (bytes (codes "6C010106840400012C01")) ∷
    Written Host (bytes (codes "06")) ∷ Time 6 ∷ Heard 4 ∷ Dev 101 (Session 1) (setting 0 names.Interval 300) ∷
    Air 5 101 1 [] (bytes (codes "6C0241FF00")) ∷ Written Chip (bytes (codes "010500130200EB")) ∷ Written Host (bytes (codes "06")) ∷ Time 7 ∷
    Heard 5 ∷ Written Chip (bytes (codes "010B00040065056C0241FF0040")) ∷ Written Host (bytes (codes "06")) ∷ Out 1 endings.Success ∷
    Store 101 (setting 0 names.Interval 300) ∷ Held 101 ∷ Said (codes "interval 101 600") ∷ Accepted 2 101 ∷ Begin 101 2 2 ∷
    Written Host (bytes (codes "01110013650A6C010206840400025801250306")) ∷ Written Chip (bytes (codes "06")) ∷
    Written Chip (bytes (codes "0104011301E8")) ∷ Air 6 1 101 [] (bytes (codes "6C010206840400025801")) ∷ Written Host (bytes (codes "06")) ∷
    Said (codes "tick 2") ∷ Time 8 ∷ Heard 6 ∷ Dev 101 (Session 2) (setting 0 names.Interval 600) ∷ Air 7 101 1 [] (bytes (codes "6C0242FF00")) ∷
    Written Chip (bytes (codes "010500130300EA")) ∷ Written Host (bytes (codes "06")) ∷ Time 9 ∷ Heard 7 ∷
    Written Chip (bytes (codes "010B00040065056C0242FF0043")) ∷ Written Host (bytes (codes "06")) ∷ Out 2 endings.Success ∷
    Store 101 (setting 0 names.Interval 600) ∷ Held 101 ∷ Said (codes "tick 100") ∷ Time 109 ∷
    Written Host (bytes (codes "010900136502840825042F")) ∷ Written Chip (bytes (codes "06")) ∷ Written Chip (bytes (codes "0104011301E8")) ∷
    Air 8 1 101 [] (bytes (codes "8408")) ∷ Written Host (bytes (codes "06")) ∷ []

-- command 1 of node 10 is given up in tick 4; then the host asks it anew, and its question is lost
abbrev pub given_up_and_asked : List Entry
given_up_and_asked =
    Said (codes "link 1 10") ∷ Said (codes "join 10") ∷ Said (codes "link 1 5") ∷ Said (codes "join 5") ∷ Said (codes "wake 5") ∷
    Air 1 5 1 [] (bytes (codes "8407")) ∷ Said (codes "interview 10") ∷ Written Host (bytes (codes "010400410AB0")) ∷
    Written Chip (bytes (codes "06")) ∷ Written Chip (bytes (codes "0109014180000004000032")) ∷ Written Host (bytes (codes "06")) ∷
    Written Host (bytes (codes "010400600A91")) ∷ Written Chip (bytes (codes "06")) ∷ Written Chip (bytes (codes "01040160019B")) ∷
    Written Host (bytes (codes "06")) ∷ Said (codes "tick 1") ∷ Time 1 ∷ Heard 1 ∷ Written Chip (bytes (codes "01080004000502840777")) ∷
    Written Host (bytes (codes "06")) ∷ Awake 5 ∷ Written Chip (bytes (codes "010C0049840A0604000025856CFA")) ∷ Written Host (bytes (codes "06")) ∷
    Interviewed 10 ∷ Said (codes "lose 3") ∷ Said (codes "set 10 on") ∷ Accepted 1 10 ∷ Begin 10 1 1 ∷
    Written Host (bytes (codes "010E00130A076C0101032501FF25017F")) ∷ Written Chip (bytes (codes "06")) ∷
    Written Chip (bytes (codes "0104011301E8")) ∷ Air 2 1 10 [] (bytes (codes "6C0101032501FF")) ∷ Written Host (bytes (codes "06")) ∷
    Said (codes "tick 3") ∷ Time 2 ∷ Lost 2 ∷ Written Chip (bytes (codes "010500130101E9")) ∷ Written Host (bytes (codes "06")) ∷
    Written Host (bytes (codes "010E00130A076C0101032501FF25027C")) ∷ Written Chip (bytes (codes "06")) ∷
    Written Chip (bytes (codes "0104011301E8")) ∷ Air 3 1 10 [] (bytes (codes "6C0101032501FF")) ∷ Written Host (bytes (codes "06")) ∷ Time 3 ∷
    Lost 3 ∷ Written Chip (bytes (codes "010500130201EA")) ∷ Written Host (bytes (codes "06")) ∷
    Written Host (bytes (codes "010E00130A076C0101032501FF25037D")) ∷ Written Chip (bytes (codes "06")) ∷
    Written Chip (bytes (codes "0104011301E8")) ∷ Air 4 1 10 [] (bytes (codes "6C0101032501FF")) ∷ Written Host (bytes (codes "06")) ∷ Time 4 ∷
    Lost 4 ∷ Written Chip (bytes (codes "010500130301EB")) ∷ Written Host (bytes (codes "06")) ∷ Out 1 endings.Unanswered ∷ Said (codes "stall 1") ∷
    Said (codes "interview 5") ∷ Written Host (bytes (codes "0104004105BF")) ∷ Said (codes "drop h") ∷ Said (codes "interview 10") ∷ []

-- a stale response tells it that the node does not listen
abbrev pub taken_not_to_listen : List Entry
taken_not_to_listen =
    Time 5 ∷ Written Chip (bytes (codes "06")) ∷ Written Chip (bytes (codes "01090141000000040000B2")) ∷
    Written Host (bytes (codes "06")) ∷ Dropped Host ∷ Written Host (bytes (codes "01040060059E")) ∷ Written Chip (bytes (codes "06")) ∷ Time 20 ∷
    InterviewFailed 5 ∷ Written Host (bytes (codes "010400410AB0")) ∷ Written Chip (bytes (codes "06")) ∷ Time 21 ∷
    Written Chip (bytes (codes "01090141000000040000B2")) ∷ Written Host (bytes (codes "06")) ∷ Written Host (bytes (codes "010400600A91")) ∷
    Written Chip (bytes (codes "01040160019B")) ∷ Written Chip (bytes (codes "06")) ∷ Written Host (bytes (codes "06")) ∷
    Written Chip (bytes (codes "010D00498405070400003180846C60")) ∷ Written Host (bytes (codes "06")) ∷
    Written Chip (bytes (codes "0109014180000004000032")) ∷ Written Host (bytes (codes "06")) ∷ Written Chip (bytes (codes "01040160019B")) ∷
    Written Host (bytes (codes "06")) ∷ Time 22 ∷ Written Chip (bytes (codes "010C0049840A0604000025856CFA")) ∷ Written Host (bytes (codes "06")) ∷
    Interviewed 10 ∷ []

-- a command is accepted, and the host finds that the node listens
abbrev pub found_to_listen : ℕ → List Entry
found_to_listen now =
    Said (codes "set 10 off") ∷ Accepted 2 10 ∷ Said (codes "interview 10") ∷ Written Host (bytes (codes "010400410AB0")) ∷
    Written Chip (bytes (codes "06")) ∷ Written Chip (bytes (codes "0109014180000004000032")) ∷ Written Host (bytes (codes "06")) ∷
    Written Host (bytes (codes "010400600A91")) ∷ Written Chip (bytes (codes "06")) ∷ Written Chip (bytes (codes "01040160019B")) ∷
    Written Host (bytes (codes "06")) ∷ Said (codes "tick 1") ∷ Time now ∷ Written Chip (bytes (codes "010C0049840A0604000025856CFA")) ∷
    Written Host (bytes (codes "06")) ∷ Interviewed 10 ∷ []

-- so it is taken not to listen just when its next series is due; or as the host is started anew, before that
abbrev pub stuck_node : List Entry
stuck_node = given_up_and_asked ++ Said (codes "tick 99") ∷ (taken_not_to_listen ++ found_to_listen 104)

abbrev pub stuck_by_restart : List Entry
stuck_by_restart = given_up_and_asked ++ Said (codes "tick 30") ∷ (taken_not_to_listen ++ Said (codes "restart") ∷ found_to_listen 35)

-- a stale response tells the host that node 5 listens, while it counts as awake; then the host restarts, and it does not listen again
abbrev pub woken_before_restart : List Entry
woken_before_restart =
    Said (codes "link 1 10") ∷ Said (codes "join 10") ∷ Said (codes "link 1 5") ∷ Said (codes "join 5") ∷ Said (codes "wake 5") ∷
    Air 1 5 1 [] (bytes (codes "8407")) ∷ Said (codes "tick 1") ∷ Time 1 ∷ Heard 1 ∷ Written Chip (bytes (codes "01080004000502840777")) ∷
    Written Host (bytes (codes "06")) ∷ Awake 5 ∷ Said (codes "stall 1") ∷ Said (codes "interview 10") ∷
    Written Host (bytes (codes "010400410AB0")) ∷ Said (codes "drop h") ∷ Said (codes "interview 5") ∷ Said (codes "tick 40") ∷ Time 2 ∷
    Written Chip (bytes (codes "06")) ∷ Written Chip (bytes (codes "0109014180000004000032")) ∷ Written Host (bytes (codes "06")) ∷ Dropped Host ∷
    Written Host (bytes (codes "010400600A91")) ∷ Written Chip (bytes (codes "06")) ∷ Time 17 ∷ InterviewFailed 10 ∷
    Written Host (bytes (codes "0104004105BF")) ∷ Written Chip (bytes (codes "06")) ∷ Time 18 ∷
    Written Chip (bytes (codes "0109014180000004000032")) ∷ Written Host (bytes (codes "06")) ∷ Written Host (bytes (codes "01040060059E")) ∷
    Written Chip (bytes (codes "01040160019B")) ∷ Written Chip (bytes (codes "06")) ∷ Written Host (bytes (codes "06")) ∷
    Written Chip (bytes (codes "010C0049840A0604000025856CFA")) ∷ Written Host (bytes (codes "06")) ∷
    Written Chip (bytes (codes "01090141000000040000B2")) ∷ Written Host (bytes (codes "06")) ∷ Written Chip (bytes (codes "01040160019B")) ∷
    Written Host (bytes (codes "06")) ∷ Time 19 ∷ Written Chip (bytes (codes "010D00498405070400003180846C60")) ∷ Written Host (bytes (codes "06")) ∷
    Interviewed 5 ∷ Said (codes "restart") ∷ Said (codes "interview 5") ∷ Written Host (bytes (codes "0104004105BF")) ∷
    Written Chip (bytes (codes "06")) ∷ Written Chip (bytes (codes "01090141000000040000B2")) ∷ Written Host (bytes (codes "06")) ∷
    Written Host (bytes (codes "01040060059E")) ∷ Written Chip (bytes (codes "06")) ∷ Written Chip (bytes (codes "01040160019B")) ∷
    Written Host (bytes (codes "06")) ∷ Said (codes "tick 2") ∷ Time 42 ∷ Written Chip (bytes (codes "010D00498405070400003180846C60")) ∷
    Written Host (bytes (codes "06")) ∷ Interviewed 5 ∷ Said (codes "interval 5 300") ∷ Accepted 1 5 ∷ Said (codes "tick 1") ∷ []

-- `set 2 on`, `tick 500`
abbrev pub calm_exchange : List Entry
calm_exchange =
    Said (codes "set 2 on") ∷ Accepted 1 2 ∷ Begin 2 1 1 ∷ Written Host (bytes (codes "010E001302076C0101032501FF250177")) ∷
    Written Chip (bytes (codes "06")) ∷ Written Chip (bytes (codes "0104011301E8")) ∷ Air 1 1 2 [] (bytes (codes "6C0101032501FF")) ∷
    Written Host (bytes (codes "06")) ∷ Said (codes "tick 500") ∷ Time 1 ∷ Heard 1 ∷ Dev 2 (Session 1) (setting 0 names.Switch 255) ∷
    Air 2 2 1 [] (bytes (codes "6C0201FF00")) ∷ Written Chip (bytes (codes "010500130100E8")) ∷ Written Host (bytes (codes "06")) ∷ Time 2 ∷
    Heard 2 ∷ Written Chip (bytes (codes "010B00040002056C0201FF0067")) ∷ Written Host (bytes (codes "06")) ∷ Out 1 endings.Success ∷
    Store 2 (setting 0 names.Switch 255) ∷ []

-- `stall 1`, `probe` 22 times, `neighbours 2` three times: three requests a probe, of which one is under
-- way; after 21 of them 62 wait, so that the next is refused, and there is room for two questions
abbrev pub full_queue : List Entry
full_queue =
    Said (codes "stall 1") ∷ Said (codes "probe") ∷ Written Host (bytes (codes "01030015E9")) ∷ Said (codes "probe") ∷ Said (codes "probe") ∷
    Said (codes "probe") ∷ Said (codes "probe") ∷ Said (codes "probe") ∷ Said (codes "probe") ∷ Said (codes "probe") ∷ Said (codes "probe") ∷
    Said (codes "probe") ∷ Said (codes "probe") ∷ Said (codes "probe") ∷ Said (codes "probe") ∷ Said (codes "probe") ∷ Said (codes "probe") ∷
    Said (codes "probe") ∷ Said (codes "probe") ∷ Said (codes "probe") ∷ Said (codes "probe") ∷ Said (codes "probe") ∷ Said (codes "probe") ∷
    Said (codes "probe") ∷ Refused (refusals.QueueFull 64) ∷ Said (codes "neighbours 2") ∷ Said (codes "neighbours 2") ∷
    Said (codes "neighbours 2") ∷ Refused (refusals.QueueFull 64) ∷ []

-- the same up to the orders
abbrev pub before_two : List Entry
before_two =
    Said (codes "link 1 10") ∷ Said (codes "join 10") ∷ Said (codes "interview 10") ∷ Written Host (bytes (codes "010400410AB0")) ∷
    Written Chip (bytes (codes "06")) ∷ Written Chip (bytes (codes "0109014180000004000032")) ∷ Written Host (bytes (codes "06")) ∷
    Written Host (bytes (codes "010400600A91")) ∷ Written Chip (bytes (codes "06")) ∷ Written Chip (bytes (codes "01040160019B")) ∷
    Written Host (bytes (codes "06")) ∷ Said (codes "tick 2") ∷ Time 1 ∷ Written Chip (bytes (codes "010C0049840A0604000025856CFA")) ∷
    Written Host (bytes (codes "06")) ∷ Interviewed 10 ∷ []

-- and from there on
abbrev pub stretch_of_two : List Entry
stretch_of_two =
    Said (codes "set 2 on") ∷ Accepted 1 2 ∷ Begin 2 1 1 ∷ Written Host (bytes (codes "010E001302076C0101032501FF250177")) ∷
    Written Chip (bytes (codes "06")) ∷ Written Chip (bytes (codes "0104011301E8")) ∷ Air 1 1 2 [] (bytes (codes "6C0101032501FF")) ∷
    Written Host (bytes (codes "06")) ∷ Said (codes "set 10 on") ∷ Accepted 2 10 ∷ Said (codes "set 2 off") ∷ Accepted 3 2 ∷
    Said (codes "set 10 off") ∷ Accepted 4 10 ∷ Said (codes "tick 2000") ∷ Time 3 ∷ Heard 1 ∷ Dev 2 (Session 1) (setting 0 names.Switch 255) ∷
    Air 2 2 1 [] (bytes (codes "6C0201FF00")) ∷ Written Chip (bytes (codes "010500130100E8")) ∷ Written Host (bytes (codes "06")) ∷ Begin 10 1 2 ∷
    Written Host (bytes (codes "010E00130A076C0101032501FF25027C")) ∷ Written Chip (bytes (codes "06")) ∷
    Written Chip (bytes (codes "0104011301E8")) ∷ Air 3 1 10 [] (bytes (codes "6C0101032501FF")) ∷ Written Host (bytes (codes "06")) ∷ Time 4 ∷
    Heard 2 ∷ Written Chip (bytes (codes "010B00040002056C0201FF0067")) ∷ Heard 3 ∷ Dev 10 (Session 1) (setting 0 names.Switch 255) ∷
    Air 4 10 1 [] (bytes (codes "6C0201FF00")) ∷ Written Host (bytes (codes "06")) ∷ Out 1 endings.Success ∷ Store 2 (setting 0 names.Switch 255) ∷
    Written Chip (bytes (codes "010500130200EB")) ∷ Written Host (bytes (codes "06")) ∷ Begin 2 2 3 ∷
    Written Host (bytes (codes "010E001302076C010203250100250389")) ∷ Written Chip (bytes (codes "06")) ∷
    Written Chip (bytes (codes "0104011301E8")) ∷ Air 5 1 2 [] (bytes (codes "6C010203250100")) ∷ Written Host (bytes (codes "06")) ∷ Time 5 ∷
    Heard 4 ∷ Written Chip (bytes (codes "010B0004000A056C0201FF006F")) ∷ Heard 5 ∷ Dev 2 (Session 2) (setting 0 names.Switch 0) ∷
    Air 6 2 1 [] (bytes (codes "6C0202FF00")) ∷ Written Host (bytes (codes "06")) ∷ Out 2 endings.Success ∷ Store 10 (setting 0 names.Switch 255) ∷
    Written Chip (bytes (codes "010500130300EA")) ∷ Written Host (bytes (codes "06")) ∷ Begin 10 2 4 ∷
    Written Host (bytes (codes "010E00130A076C010203250100250486")) ∷ Written Chip (bytes (codes "06")) ∷
    Written Chip (bytes (codes "0104011301E8")) ∷ Air 7 1 10 [] (bytes (codes "6C010203250100")) ∷ Written Host (bytes (codes "06")) ∷ Time 6 ∷
    Heard 6 ∷ Written Chip (bytes (codes "010B00040002056C0202FF0064")) ∷ Heard 7 ∷ Dev 10 (Session 2) (setting 0 names.Switch 0) ∷
    Air 8 10 1 [] (bytes (codes "6C0202FF00")) ∷ Written Host (bytes (codes "06")) ∷ Out 3 endings.Success ∷ Store 2 (setting 0 names.Switch 0) ∷
    Written Chip (bytes (codes "010500130400ED")) ∷ Written Host (bytes (codes "06")) ∷ Time 7 ∷ Heard 8 ∷
    Written Chip (bytes (codes "010B0004000A056C0202FF006C")) ∷ Written Host (bytes (codes "06")) ∷ Out 4 endings.Success ∷
    Store 10 (setting 0 names.Switch 0) ∷ []

-- `link 1 5`, `join 5`, `wake 5`, `interview 5`, `tick 4`
abbrev pub before_waking : List Entry
before_waking =
    Said (codes "link 1 5") ∷ Said (codes "join 5") ∷ Said (codes "wake 5") ∷ Air 1 5 1 [] (bytes (codes "8407")) ∷ Said (codes "interview 5") ∷
    Written Host (bytes (codes "0104004105BF")) ∷ Written Chip (bytes (codes "06")) ∷ Written Chip (bytes (codes "01090141000000040000B2")) ∷
    Written Host (bytes (codes "06")) ∷ Written Host (bytes (codes "01040060059E")) ∷ Written Chip (bytes (codes "06")) ∷
    Written Chip (bytes (codes "01040160019B")) ∷ Written Host (bytes (codes "06")) ∷ Said (codes "tick 4") ∷ Time 1 ∷ Heard 1 ∷
    Written Chip (bytes (codes "01080004000502840777")) ∷ Written Host (bytes (codes "06")) ∷ Awake 5 ∷
    Written Chip (bytes (codes "010D00498405070400003180846C60")) ∷ Written Host (bytes (codes "06")) ∷ Interviewed 5 ∷
    Written Host (bytes (codes "010900130502840825014A")) ∷ Written Chip (bytes (codes "06")) ∷ Written Chip (bytes (codes "0104011301E8")) ∷
    Air 2 1 5 [] (bytes (codes "8408")) ∷ Written Host (bytes (codes "06")) ∷ Time 2 ∷ Heard 2 ∷ Written Chip (bytes (codes "010500130100E8")) ∷
    Written Host (bytes (codes "06")) ∷ Asleep 5 ∷ []

-- and `interval 5 300`, `wake 5`, `tick 500`
abbrev pub stretch_of_sleeper : List Entry
stretch_of_sleeper =
    Said (codes "interval 5 300") ∷ Accepted 1 5 ∷ Said (codes "wake 5") ∷ Air 3 5 1 [] (bytes (codes "8407")) ∷ Said (codes "tick 500") ∷ Time 5 ∷
    Heard 3 ∷ Written Chip (bytes (codes "01080004000502840777")) ∷ Written Host (bytes (codes "06")) ∷ Awake 5 ∷ Begin 5 1 1 ∷
    Written Host (bytes (codes "01110013050A6C010106840400012C01250213")) ∷ Written Chip (bytes (codes "06")) ∷
    Written Chip (bytes (codes "0104011301E8")) ∷ Air 4 1 5 [] (bytes (codes "6C010106840400012C01")) ∷ Written Host (bytes (codes "06")) ∷ Time 6 ∷
    Heard 4 ∷ Dev 5 (Session 1) (setting 0 names.Interval 300) ∷ Air 5 5 1 [] (bytes (codes "6C0201FF00")) ∷
    Written Chip (bytes (codes "010500130200EB")) ∷ Written Host (bytes (codes "06")) ∷ Time 7 ∷ Heard 5 ∷
    Written Chip (bytes (codes "010B00040005056C0201FF0060")) ∷ Written Host (bytes (codes "06")) ∷ Out 1 endings.Success ∷
    Store 5 (setting 0 names.Interval 300) ∷ Written Host (bytes (codes "0109001305028408250348")) ∷ Written Chip (bytes (codes "06")) ∷
    Written Chip (bytes (codes "0104011301E8")) ∷ Air 6 1 5 [] (bytes (codes "8408")) ∷ Written Host (bytes (codes "06")) ∷ Time 8 ∷ Heard 6 ∷
    Written Chip (bytes (codes "010500130300EA")) ∷ Written Host (bytes (codes "06")) ∷ Asleep 5 ∷ []

-- `link 1 5`, `join 5`, `wake 5`, `interview 5`, `tick 4`, `interval 5 300`, `wake 5`, `lose 3`, `tick 4`: a node that sleeps is given up
abbrev pub given_up_asleep : List Entry
given_up_asleep =
    Said (codes "link 1 5") ∷ Said (codes "join 5") ∷ Said (codes "wake 5") ∷ Air 1 5 1 [] (bytes (codes "8407")) ∷ Said (codes "interview 5") ∷
    Written Host (bytes (codes "0104004105BF")) ∷ Written Chip (bytes (codes "06")) ∷ Written Chip (bytes (codes "01090141000000040000B2")) ∷
    Written Host (bytes (codes "06")) ∷ Written Host (bytes (codes "01040060059E")) ∷ Written Chip (bytes (codes "06")) ∷
    Written Chip (bytes (codes "01040160019B")) ∷ Written Host (bytes (codes "06")) ∷ Said (codes "tick 4") ∷ Time 1 ∷ Heard 1 ∷
    Written Chip (bytes (codes "01080004000502840777")) ∷ Written Host (bytes (codes "06")) ∷ Awake 5 ∷
    Written Chip (bytes (codes "010D00498405070400003180846C60")) ∷ Written Host (bytes (codes "06")) ∷ Interviewed 5 ∷
    Written Host (bytes (codes "010900130502840825014A")) ∷ Written Chip (bytes (codes "06")) ∷ Written Chip (bytes (codes "0104011301E8")) ∷
    Air 2 1 5 [] (bytes (codes "8408")) ∷ Written Host (bytes (codes "06")) ∷ Time 2 ∷ Heard 2 ∷ Written Chip (bytes (codes "010500130100E8")) ∷
    Written Host (bytes (codes "06")) ∷ Asleep 5 ∷ Said (codes "interval 5 300") ∷ Accepted 1 5 ∷ Said (codes "wake 5") ∷
    Air 3 5 1 [] (bytes (codes "8407")) ∷ Said (codes "lose 3") ∷ Said (codes "tick 4") ∷ Time 5 ∷ Heard 3 ∷
    Written Chip (bytes (codes "01080004000502840777")) ∷ Written Host (bytes (codes "06")) ∷ Awake 5 ∷ Begin 5 1 1 ∷
    Written Host (bytes (codes "01110013050A6C010106840400012C01250213")) ∷ Written Chip (bytes (codes "06")) ∷
    Written Chip (bytes (codes "0104011301E8")) ∷ Air 4 1 5 [] (bytes (codes "6C010106840400012C01")) ∷ Written Host (bytes (codes "06")) ∷ Time 6 ∷
    Lost 4 ∷ Written Chip (bytes (codes "010500130201EA")) ∷ Written Host (bytes (codes "06")) ∷
    Written Host (bytes (codes "01110013050A6C010106840400012C01250312")) ∷ Written Chip (bytes (codes "06")) ∷
    Written Chip (bytes (codes "0104011301E8")) ∷ Air 5 1 5 [] (bytes (codes "6C010106840400012C01")) ∷ Written Host (bytes (codes "06")) ∷ Time 7 ∷
    Lost 5 ∷ Written Chip (bytes (codes "010500130301EB")) ∷ Written Host (bytes (codes "06")) ∷
    Written Host (bytes (codes "01110013050A6C010106840400012C01250415")) ∷ Written Chip (bytes (codes "06")) ∷
    Written Chip (bytes (codes "0104011301E8")) ∷ Air 6 1 5 [] (bytes (codes "6C010106840400012C01")) ∷ Written Host (bytes (codes "06")) ∷ Time 8 ∷
    Lost 6 ∷ Written Chip (bytes (codes "010500130401EC")) ∷ Written Host (bytes (codes "06")) ∷ Out 1 endings.Unanswered ∷ Asleep 5 ∷ []

-- `link 1 4`, `join 4`, `interview 4`, `tick 2`, `lose 3`, `set 4 on`, `tick 3`: three Nonce Gets are lost
abbrev pub given_up_lock : List Entry
given_up_lock =
    Said (codes "link 1 4") ∷ Said (codes "join 4") ∷ Said (codes "interview 4") ∷ Written Host (bytes (codes "0104004104BE")) ∷
    Written Chip (bytes (codes "06")) ∷ Written Chip (bytes (codes "0109014180000004000032")) ∷ Written Host (bytes (codes "06")) ∷
    Written Host (bytes (codes "01040060049F")) ∷ Written Chip (bytes (codes "06")) ∷ Written Chip (bytes (codes "01040160019B")) ∷
    Written Host (bytes (codes "06")) ∷ Said (codes "tick 2") ∷ Time 1 ∷ Written Chip (bytes (codes "010C004984040604000062986CAE")) ∷
    Written Host (bytes (codes "06")) ∷ Interviewed 4 ∷ Said (codes "lose 3") ∷ Said (codes "set 4 on") ∷ Accepted 1 4 ∷ Begin 4 1 1 ∷
    Written Host (bytes (codes "010900130402984025011F")) ∷ Written Chip (bytes (codes "06")) ∷ Written Chip (bytes (codes "0104011301E8")) ∷
    Air 1 1 4 [] (bytes (codes "9840")) ∷ Written Host (bytes (codes "06")) ∷ Said (codes "tick 3") ∷ Time 3 ∷ Lost 1 ∷
    Written Chip (bytes (codes "010500130101E9")) ∷ Written Host (bytes (codes "06")) ∷ Written Host (bytes (codes "010900130402984025021C")) ∷
    Written Chip (bytes (codes "06")) ∷ Written Chip (bytes (codes "0104011301E8")) ∷ Air 2 1 4 [] (bytes (codes "9840")) ∷
    Written Host (bytes (codes "06")) ∷ Time 4 ∷ Lost 2 ∷ Written Chip (bytes (codes "010500130201EA")) ∷ Written Host (bytes (codes "06")) ∷
    Written Host (bytes (codes "010900130402984025031D")) ∷ Written Chip (bytes (codes "06")) ∷ Written Chip (bytes (codes "0104011301E8")) ∷
    Air 3 1 4 [] (bytes (codes "9840")) ∷ Written Host (bytes (codes "06")) ∷ Time 5 ∷ Lost 3 ∷ Written Chip (bytes (codes "010500130301EB")) ∷
    Written Host (bytes (codes "06")) ∷ Out 1 endings.Unanswered ∷ []

-- `link 1 8`, `join 8`, `interview 8`, `tick 2`, `lose 6`, `bulk 8 0 ..`, `tick 6`: three times both segments are lost
abbrev pub given_up_segments : List Entry
given_up_segments =
    Said (codes "link 1 8") ∷ Said (codes "join 8") ∷ Said (codes "interview 8") ∷ Written Host (bytes (codes "0104004108B2")) ∷
    Written Chip (bytes (codes "06")) ∷ Written Chip (bytes (codes "0109014180000004000032")) ∷ Written Host (bytes (codes "06")) ∷
    Written Host (bytes (codes "010400600893")) ∷ Written Chip (bytes (codes "06")) ∷ Written Chip (bytes (codes "01040160019B")) ∷
    Written Host (bytes (codes "06")) ∷ Said (codes "tick 2") ∷ Time 1 ∷ Written Chip (bytes (codes "010C004984080604000070556C7D")) ∷
    Written Host (bytes (codes "06")) ∷ Interviewed 8 ∷ Said (codes "lose 6") ∷
    Said (codes "bulk 8 0 01010101010101010101010101010101010101010101010101010101010101010101010101") ∷ Accepted 1 8 ∷ Begin 8 1 1 ∷
    Written Host (bytes (codes "01340013082D55C02F106C01012B70070000250101010101010101010101010101010101010101010101010101010101014E7A250152")) ∷
    Written Chip (bytes (codes "06")) ∷ Written Chip (bytes (codes "0104011301E8")) ∷
    Air 1 1 8 [] (bytes (codes "55C02F106C01012B70070000250101010101010101010101010101010101010101010101010101010101014E7A")) ∷
    Written Host (bytes (codes "06")) ∷ Said (codes "tick 6") ∷ Time 3 ∷ Lost 1 ∷ Written Chip (bytes (codes "010500130101E9")) ∷
    Written Host (bytes (codes "06")) ∷ Written Host (bytes (codes "01160013080F55E02F102701010101010101018A7725028A")) ∷
    Written Chip (bytes (codes "06")) ∷ Written Chip (bytes (codes "0104011301E8")) ∷ Air 2 1 8 [] (bytes (codes "55E02F102701010101010101018A77")) ∷
    Written Host (bytes (codes "06")) ∷ Time 4 ∷ Lost 2 ∷ Written Chip (bytes (codes "010500130201EA")) ∷ Written Host (bytes (codes "06")) ∷
    Written Host (bytes (codes "01340013082D55C02F106C01012B70070000250101010101010101010101010101010101010101010101010101010101014E7A250350")) ∷
    Written Chip (bytes (codes "06")) ∷ Written Chip (bytes (codes "0104011301E8")) ∷
    Air 3 1 8 [] (bytes (codes "55C02F106C01012B70070000250101010101010101010101010101010101010101010101010101010101014E7A")) ∷
    Written Host (bytes (codes "06")) ∷ Time 5 ∷ Lost 3 ∷ Written Chip (bytes (codes "010500130301EB")) ∷ Written Host (bytes (codes "06")) ∷
    Written Host (bytes (codes "01160013080F55E02F102701010101010101018A7725048C")) ∷ Written Chip (bytes (codes "06")) ∷
    Written Chip (bytes (codes "0104011301E8")) ∷ Air 4 1 8 [] (bytes (codes "55E02F102701010101010101018A77")) ∷ Written Host (bytes (codes "06")) ∷
    Time 6 ∷ Lost 4 ∷ Written Chip (bytes (codes "010500130401EC")) ∷ Written Host (bytes (codes "06")) ∷
    Written Host (bytes (codes "01340013082D55C02F106C01012B70070000250101010101010101010101010101010101010101010101010101010101014E7A250556")) ∷
    Written Chip (bytes (codes "06")) ∷ Written Chip (bytes (codes "0104011301E8")) ∷
    Air 5 1 8 [] (bytes (codes "55C02F106C01012B70070000250101010101010101010101010101010101010101010101010101010101014E7A")) ∷
    Written Host (bytes (codes "06")) ∷ Time 7 ∷ Lost 5 ∷ Written Chip (bytes (codes "010500130501ED")) ∷ Written Host (bytes (codes "06")) ∷
    Written Host (bytes (codes "01160013080F55E02F102701010101010101018A7725068E")) ∷ Written Chip (bytes (codes "06")) ∷
    Written Chip (bytes (codes "0104011301E8")) ∷ Air 6 1 8 [] (bytes (codes "55E02F102701010101010101018A77")) ∷ Written Host (bytes (codes "06")) ∷
    Time 8 ∷ Lost 6 ∷ Written Chip (bytes (codes "010500130601EE")) ∷ Written Host (bytes (codes "06")) ∷ Out 1 endings.Unanswered ∷ []

-- the devices of these runs that the other worked transcripts do not have, as their makers leave them
abbrev pub the_keeper : State
the_keeper = fresh 101 kinds.Sensor []

abbrev pub the_other_switch : State
the_other_switch = fresh 10 kinds.Switch []

-- `stall 5`, `set 2 on`: the session begins in the stall, and the chip has not answered its unit
abbrev pub sent_in_stall : List Entry
sent_in_stall =
    Said (codes "stall 5") ∷ Said (codes "set 2 on") ∷ Accepted 1 2 ∷ Begin 2 1 1 ∷
    Written Host (bytes (codes "010E001302076C0101032501FF250177")) ∷ Said (codes "tick 4") ∷ []
