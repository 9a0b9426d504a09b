-- Transcripts like the worked ones that break the laws of how requests end and of their queue, one thing wrong in each.
use Rattle.std.specs.Prelude.{true, List, [], ◌∷◌, codes}
use Rattle.zw_base.specs.declared.property.Name.TheVariants as names
use Rattle.zw_base.specs.declared.property.By.TheVariants.{Session}
use Rattle.zw_words.specs.declared.side.Side.TheVariants.{Host, Chip}
use Rattle.host_orders.specs.Settings.{setting}
use Rattle.zw_text.specs.declared.entry.Done.TheVariants as done
use Rattle.zw_text.specs.declared.entry.Entry.{Entry}
use Rattle.zw_text.specs.declared.entry.Entry.TheVariants.{Said, Accepted, Begin, Written, Dropped, Air, Heard, Lost, Dev, Awake, Interviewed, InterviewFailed, Done, Neighbours, Failed, Time}
use Rattle.law_wire.specs.law_transcript.Worked.{bytes}

-- it is said how a Set ended before that is judged
abbrev pub said_early : List Entry
said_early =
    Said (codes "send 2 on") ∷ Written Host (bytes (codes "010A001302032501FF250118")) ∷ Written Chip (bytes (codes "06")) ∷
    Written Chip (bytes (codes "0104011301E8")) ∷ Air 1 1 2 [] (bytes (codes "2501FF")) ∷ Written Host (bytes (codes "06")) ∷ Said (codes "tick 2") ∷
    Time 1 ∷ Heard 1 ∷ Written Chip (bytes (codes "010500130100E8")) ∷ Done 2 done.Delivered ∷ []

-- it is said to have ended otherwise than its callback says
abbrev pub said_otherwise : List Entry
said_otherwise =
    Said (codes "send 2 on") ∷ Written Host (bytes (codes "010A001302032501FF250118")) ∷ Written Chip (bytes (codes "06")) ∷
    Written Chip (bytes (codes "0104011301E8")) ∷ Air 1 1 2 [] (bytes (codes "2501FF")) ∷ Written Host (bytes (codes "06")) ∷ Said (codes "tick 2") ∷
    Time 1 ∷ Heard 1 ∷ Written Chip (bytes (codes "010500130100E8")) ∷ Written Host (bytes (codes "06")) ∷ Done 2 done.NoAck ∷ []

-- it is not said how a Set ended
abbrev pub left_unsaid : List Entry
left_unsaid =
    Said (codes "send 2 on") ∷ Written Host (bytes (codes "010A001302032501FF250118")) ∷ Written Chip (bytes (codes "06")) ∷
    Written Chip (bytes (codes "0104011301E8")) ∷ Air 1 1 2 [] (bytes (codes "2501FF")) ∷ Written Host (bytes (codes "06")) ∷ Said (codes "tick 2") ∷
    Time 1 ∷ Heard 1 ∷ Written Chip (bytes (codes "010500130100E8")) ∷ Written Host (bytes (codes "06")) ∷ Said (codes "lose 1") ∷ []

-- the message of a session is said to have ended as a Set
abbrev pub said_unasked : List Entry
said_unasked =
    Said (codes "set 2 on") ∷ Accepted 1 2 ∷ Begin 2 1 1 ∷ Written Host (bytes (codes "010E001302076C0101032501FF250177")) ∷
    Written Chip (bytes (codes "06")) ∷ Written Chip (bytes (codes "0104011301E8")) ∷ Air 1 1 2 [] (bytes (codes "6C0101032501FF")) ∷
    Written Host (bytes (codes "06")) ∷ Said (codes "tick 2") ∷ Time 1 ∷ Heard 1 ∷ Dev 2 (Session 1) (setting 0 names.Switch 255) ∷
    Air 2 2 1 [] (bytes (codes "6C0201FF00")) ∷ Written Chip (bytes (codes "010500130100E8")) ∷ Written Host (bytes (codes "06")) ∷
    Done 2 done.Delivered ∷ []

-- a Get is said to have had no answer before 15 ticks
abbrev pub silent_early : List Entry
silent_early =
    Said (codes "drop c") ∷ Said (codes "drop c") ∷ Said (codes "drop c") ∷ Said (codes "get 2") ∷
    Written Host (bytes (codes "01090013020225022501E6")) ∷ Written Chip (bytes (codes "06")) ∷ Dropped Chip ∷
    Written Chip (bytes (codes "0104011301E8")) ∷ Dropped Chip ∷ Air 1 1 2 [] (bytes (codes "2502")) ∷ Said (codes "tick 17") ∷ Time 1 ∷ Heard 1 ∷
    Air 2 2 1 [] (bytes (codes "250300")) ∷ Time 2 ∷ Heard 2 ∷ Time 10 ∷ Done 2 done.Silent ∷ []

-- a Set is said to have been refused that was taken
abbrev pub said_refused : List Entry
said_refused =
    Said (codes "send 2 on") ∷ Written Host (bytes (codes "010A001302032501FF250118")) ∷ Written Chip (bytes (codes "06")) ∷
    Written Chip (bytes (codes "0104011301E8")) ∷ Air 1 1 2 [] (bytes (codes "2501FF")) ∷ Written Host (bytes (codes "06")) ∷ Done 2 done.Refused ∷ []

-- a Set is said to have failed on the line after one copy
abbrev pub said_given_up : List Entry
said_given_up =
    Said (codes "send 2 on") ∷ Written Host (bytes (codes "010A001302032501FF250118")) ∷ Said (codes "tick 20") ∷ Time 16 ∷ Done 2 done.LinkFailed ∷ []

-- a Set is said to have had no callback 64 ticks after its response
abbrev pub silent_too_soon : List Entry
silent_too_soon =
    Said (codes "send 2 on") ∷ Written Host (bytes (codes "010A001302032501FF250118")) ∷ Written Chip (bytes (codes "06")) ∷
    Written Chip (bytes (codes "0104011301E8")) ∷ Air 1 1 2 [] (bytes (codes "2501FF")) ∷ Written Host (bytes (codes "06")) ∷
    Said (codes "tick 64") ∷ Time 64 ∷ Done 2 done.Silent ∷ []

-- a question is answered otherwise than the response says
abbrev pub answered_otherwise : List Entry
answered_otherwise =
    Said (codes "send 2 on") ∷ Written Host (bytes (codes "010A001302032501FF250118")) ∷ Written Chip (bytes (codes "06")) ∷
    Written Chip (bytes (codes "0104011301E8")) ∷ Air 1 1 2 [] (bytes (codes "2501FF")) ∷ Written Host (bytes (codes "06")) ∷ Said (codes "tick 2") ∷
    Time 1 ∷ Heard 1 ∷ Written Chip (bytes (codes "010500130100E8")) ∷ Written Host (bytes (codes "06")) ∷ Done 2 done.Delivered ∷
    Said (codes "lose 1") ∷ Said (codes "get 2") ∷ Written Host (bytes (codes "01090013020225022502E5")) ∷ Written Chip (bytes (codes "06")) ∷
    Written Chip (bytes (codes "0104011301E8")) ∷ Air 2 1 2 [] (bytes (codes "2502")) ∷ Written Host (bytes (codes "06")) ∷ Said (codes "tick 1") ∷
    Time 3 ∷ Lost 2 ∷ Written Chip (bytes (codes "010500130201EA")) ∷ Written Host (bytes (codes "06")) ∷ Done 2 done.NoAck ∷
    Said (codes "neighbours 2") ∷ Written Host (bytes (codes "01070080020000007A")) ∷ Written Chip (bytes (codes "06")) ∷
    Written Chip (bytes (codes "0120018001000000000000000000000000000000000000000000000000000000005F")) ∷ Written Host (bytes (codes "06")) ∷
    Neighbours 2 (5 ∷ []) ∷ []

-- a question is answered of another node
abbrev pub answered_of_another : List Entry
answered_of_another =
    Said (codes "send 2 on") ∷ Written Host (bytes (codes "010A001302032501FF250118")) ∷ Written Chip (bytes (codes "06")) ∷
    Written Chip (bytes (codes "0104011301E8")) ∷ Air 1 1 2 [] (bytes (codes "2501FF")) ∷ Written Host (bytes (codes "06")) ∷ Said (codes "tick 2") ∷
    Time 1 ∷ Heard 1 ∷ Written Chip (bytes (codes "010500130100E8")) ∷ Written Host (bytes (codes "06")) ∷ Done 2 done.Delivered ∷
    Said (codes "lose 1") ∷ Said (codes "get 2") ∷ Written Host (bytes (codes "01090013020225022502E5")) ∷ Written Chip (bytes (codes "06")) ∷
    Written Chip (bytes (codes "0104011301E8")) ∷ Air 2 1 2 [] (bytes (codes "2502")) ∷ Written Host (bytes (codes "06")) ∷ Said (codes "tick 1") ∷
    Time 3 ∷ Lost 2 ∷ Written Chip (bytes (codes "010500130201EA")) ∷ Written Host (bytes (codes "06")) ∷ Done 2 done.NoAck ∷
    Said (codes "neighbours 2") ∷ Written Host (bytes (codes "01070080020000007A")) ∷ Written Chip (bytes (codes "06")) ∷
    Written Chip (bytes (codes "0120018001000000000000000000000000000000000000000000000000000000005F")) ∷ Written Host (bytes (codes "06")) ∷
    Neighbours 2 (1 ∷ []) ∷ Said (codes "failed 2") ∷ Written Host (bytes (codes "01040062029B")) ∷ Written Chip (bytes (codes "06")) ∷
    Written Chip (bytes (codes "010401620199")) ∷ Written Host (bytes (codes "06")) ∷ Failed 3 true ∷ []

-- a question has no answer
abbrev pub left_unanswered : List Entry
left_unanswered =
    Said (codes "send 2 on") ∷ Written Host (bytes (codes "010A001302032501FF250118")) ∷ Written Chip (bytes (codes "06")) ∷
    Written Chip (bytes (codes "0104011301E8")) ∷ Air 1 1 2 [] (bytes (codes "2501FF")) ∷ Written Host (bytes (codes "06")) ∷ Said (codes "tick 2") ∷
    Time 1 ∷ Heard 1 ∷ Written Chip (bytes (codes "010500130100E8")) ∷ Written Host (bytes (codes "06")) ∷ Done 2 done.Delivered ∷
    Said (codes "lose 1") ∷ Said (codes "get 2") ∷ Written Host (bytes (codes "01090013020225022502E5")) ∷ Written Chip (bytes (codes "06")) ∷
    Written Chip (bytes (codes "0104011301E8")) ∷ Air 2 1 2 [] (bytes (codes "2502")) ∷ Written Host (bytes (codes "06")) ∷ Said (codes "tick 1") ∷
    Time 3 ∷ Lost 2 ∷ Written Chip (bytes (codes "010500130201EA")) ∷ Written Host (bytes (codes "06")) ∷ Done 2 done.NoAck ∷
    Said (codes "neighbours 2") ∷ Written Host (bytes (codes "01070080020000007A")) ∷ Written Chip (bytes (codes "06")) ∷
    Written Chip (bytes (codes "0120018001000000000000000000000000000000000000000000000000000000005F")) ∷ Written Host (bytes (codes "06")) ∷
    Neighbours 2 (1 ∷ []) ∷ Said (codes "failed 2") ∷ Written Host (bytes (codes "01040062029B")) ∷ Written Chip (bytes (codes "06")) ∷
    Written Chip (bytes (codes "010401620199")) ∷ Written Host (bytes (codes "06")) ∷ Said (codes "tick 1") ∷ []

-- an interview succeeds before the information is judged
abbrev pub interviewed_early : List Entry
interviewed_early =
    Said (codes "link 1 5") ∷ Said (codes "join 5") ∷ Said (codes "wake 5") ∷ Air 1 5 1 [] (bytes (codes "8407")) ∷ Said (codes "interview 5") ∷
    Written Host (bytes (codes "0104004105BF")) ∷ Written Chip (bytes (codes "06")) ∷ Written Chip (bytes (codes "01090141000000040000B2")) ∷
    Written Host (bytes (codes "06")) ∷ Written Host (bytes (codes "01040060059E")) ∷ Written Chip (bytes (codes "06")) ∷
    Written Chip (bytes (codes "01040160019B")) ∷ Written Host (bytes (codes "06")) ∷ Said (codes "tick 4") ∷ Time 1 ∷ Heard 1 ∷
    Written Chip (bytes (codes "01080004000502840777")) ∷ Written Host (bytes (codes "06")) ∷ Awake 5 ∷
    Written Chip (bytes (codes "010D00498405070400003180846C60")) ∷ Interviewed 5 ∷ []

-- an interview fails though the information came
abbrev pub failed_though_informed : List Entry
failed_though_informed =
    Said (codes "link 1 5") ∷ Said (codes "join 5") ∷ Said (codes "wake 5") ∷ Air 1 5 1 [] (bytes (codes "8407")) ∷ Said (codes "interview 5") ∷
    Written Host (bytes (codes "0104004105BF")) ∷ Written Chip (bytes (codes "06")) ∷ Written Chip (bytes (codes "01090141000000040000B2")) ∷
    Written Host (bytes (codes "06")) ∷ Written Host (bytes (codes "01040060059E")) ∷ Written Chip (bytes (codes "06")) ∷
    Written Chip (bytes (codes "01040160019B")) ∷ Written Host (bytes (codes "06")) ∷ Said (codes "tick 4") ∷ Time 1 ∷ Heard 1 ∷
    Written Chip (bytes (codes "01080004000502840777")) ∷ Written Host (bytes (codes "06")) ∷ Awake 5 ∷
    Written Chip (bytes (codes "010D00498405070400003180846C60")) ∷ Written Host (bytes (codes "06")) ∷ InterviewFailed 5 ∷ []

-- an interview is not said to have ended
abbrev pub left_unended : List Entry
left_unended =
    Said (codes "link 1 5") ∷ Said (codes "join 5") ∷ Said (codes "wake 5") ∷ Air 1 5 1 [] (bytes (codes "8407")) ∷ Said (codes "interview 5") ∷
    Written Host (bytes (codes "0104004105BF")) ∷ Written Chip (bytes (codes "06")) ∷ Written Chip (bytes (codes "01090141000000040000B2")) ∷
    Written Host (bytes (codes "06")) ∷ Written Host (bytes (codes "01040060059E")) ∷ Written Chip (bytes (codes "06")) ∷
    Written Chip (bytes (codes "01040160019B")) ∷ Written Host (bytes (codes "06")) ∷ Said (codes "tick 4") ∷ Time 1 ∷ Heard 1 ∷
    Written Chip (bytes (codes "01080004000502840777")) ∷ Written Host (bytes (codes "06")) ∷ Awake 5 ∷
    Written Chip (bytes (codes "010D00498405070400003180846C60")) ∷ Written Host (bytes (codes "06")) ∷ Said (codes "tick 1") ∷ []

-- a later question is sent before an earlier one
abbrev pub sent_out_of_turn : List Entry
sent_out_of_turn =
    Said (codes "stall 1") ∷ Said (codes "get 2") ∷ Written Host (bytes (codes "01090013020225022501E6")) ∷ Said (codes "neighbours 2") ∷
    Said (codes "failed 2") ∷ Said (codes "tick 5") ∷ Time 1 ∷ Written Host (bytes (codes "01040062029B")) ∷ []

-- a question is sent that no line asks for
abbrev pub sent_unasked : List Entry
sent_unasked =
    Written Host (bytes (codes "01040062029B")) ∷ []
