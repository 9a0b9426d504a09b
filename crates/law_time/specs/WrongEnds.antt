-- Transcripts like those of how requests end that break the laws, one thing wrong in each.
use Rattle.std.specs.Prelude.{◌-◌, true, List, [], ◌∷◌, ◌++◌, length, codes, take, drop}
use Rattle.zw_words.specs.declared.side.Side.TheVariants.{Chip, Host}
use Rattle.zw_text.specs.declared.entry.Done.TheVariants as done
use Rattle.zw_text.specs.declared.entry.Entry.{Entry}
use Rattle.zw_text.specs.declared.entry.Entry.TheVariants.{Said, Dropped, Awake, Asleep, Interviewed, InterviewFailed, Done, Failed, Time, Garbled, Overrun}
use Rattle.law_time.specs.WorkedEnds.{asleep_given_up, asleep_refused, four_copies, four_lost, given_up_errand, informed, interview_under_way, responded_late, said_by_old_list, set_under_way, silent_before_given_up, telling}
use Rattle.law_time.specs.WorkedUnits.{asking_refused, by_chip, by_host, chip_acknowledges, chip_denies, delivered, failed_asked, host_acknowledges, information_asked, information_come, no_information, not_acknowledged, notified, refused, taken}
use Rattle.law_time.specs.WorkedWaits.{unrouted_errand}
use Rattle.law_time.specs.WrongEntries.{informed_alone}
use Rattle.law_wire.specs.law_transcript.Worked.{bytes}

-- ---- Sets

-- a Set is said to have failed whose callback says that nobody acknowledged it
abbrev pub said_failed : List Entry
said_failed = set_under_way ++ not_acknowledged ∷ host_acknowledges ∷ Done 2 done.Fail ∷ []

-- a line asks for a Set of a dimmer that is taken for a switch; one for a dimmer is sent, and its end is said
abbrev pub said_by_new_list : List Entry
said_by_new_list = take 2 said_by_old_list ++ by_host (codes "010A00130203260163250187") ∷ drop 3 said_by_old_list

-- each of these ends is not said
abbrev pub unsaid : Entry → List Entry
unsaid callback = set_under_way ++ callback ∷ host_acknowledges ∷ Said (codes "tick 1") ∷ []

abbrev pub unsaid_refused : List Entry
unsaid_refused = take 3 unrouted_errand ++ refused ∷ host_acknowledges ∷ Said (codes "tick 1") ∷ []

-- what stands before the end that is said is no mark of the acknowledgement
abbrev pub said_after_unit : List Entry
said_after_unit = set_under_way ++ delivered ∷ host_acknowledges ∷ Dropped Chip ∷ Done 2 done.Delivered ∷ []

-- the end is not said, and the acknowledgement is lost, overrun or changed
abbrev pub unsaid_after : Entry → List Entry
unsaid_after mark = set_under_way ++ delivered ∷ host_acknowledges ∷ mark ∷ Said (codes "tick 1") ∷ []

abbrev pub unsaid_after_lost : List Entry
unsaid_after_lost = unsaid_after (Dropped Host)

abbrev pub unsaid_after_overrun : List Entry
unsaid_after_overrun = unsaid_after (Overrun Host)

abbrev pub unsaid_after_changed : List Entry
unsaid_after_changed = unsaid_after (Garbled Host (bytes (codes "07")))

-- it is said twice how a Set ended, as its callback comes twice
abbrev pub said_twice : List Entry
said_twice =
    set_under_way ++ delivered ∷ host_acknowledges ∷ Done 2 done.Delivered ∷ delivered ∷ host_acknowledges ∷ Done 2 done.Delivered ∷ []

-- a Set that was taken is said to be refused, as another response comes after a message
abbrev pub refused_by_later : List Entry
refused_by_later =
    take 5 unrouted_errand ++ notified ∷ host_acknowledges ∷ Awake 5 ∷ refused ∷ host_acknowledges ∷ Done 2 done.Refused ∷ []

-- a message is said to have ended as a Set that no line asked for: one to another node, and another one
abbrev pub said_of_message : Entry → List Entry
said_of_message message = Said (codes "send 2 on") ∷ message ∷ chip_acknowledges ∷ taken ∷ host_acknowledges ∷ Said (codes "tick 1") ∷ Time 1 ∷ delivered ∷ host_acknowledges ∷ []

abbrev pub said_to_another : List Entry
said_to_another = said_of_message (by_host (codes "010A001305032501FF25011F")) ++ Done 5 done.Delivered ∷ []

abbrev pub said_of_other : List Entry
said_of_other = said_of_message (by_host (codes "01090013020225022501E6")) ++ Done 2 done.Delivered ∷ []

-- ---- silence

-- a Set is said to have ended in silence that was delivered; and to be delivered by a callback that comes as it has ended in silence
abbrev pub silent_though_delivered : List Entry
silent_though_delivered =
    set_under_way ++ delivered ∷ host_acknowledges ∷ Done 2 done.Delivered ∷ Said (codes "tick 64") ∷ Time 65 ∷ Done 2 done.Silent ∷ []

abbrev pub delivered_after_silence : List Entry
delivered_after_silence =
    take 5 unrouted_errand ++ Said (codes "tick 65") ∷ Time 65 ∷ delivered ∷ host_acknowledges ∷ Done 2 done.Delivered ∷ []

-- ---- copies

-- a Set is said to be delivered by a callback that comes as it is given up, after the answer that ends it, or after an acknowledgement
-- that comes too late
abbrev pub delivered_given_up : List Entry
delivered_given_up = four_lost ++ Time 93 ∷ delivered ∷ host_acknowledges ∷ Done 2 done.Delivered ∷ []

abbrev pub delivered_after_denied : List Entry
delivered_after_denied = four_copies ++ chip_denies ∷ chip_acknowledges ∷ delivered ∷ host_acknowledges ∷ Done 2 done.Delivered ∷ []

abbrev pub acknowledged_late : List Entry
acknowledged_late = given_up_errand ++ chip_acknowledges ∷ delivered ∷ host_acknowledges ∷ Done 2 done.Delivered ∷ []

-- it is said to be given up that was delivered, or has ended in silence; and to be silent in the tick in which it is given up
abbrev pub given_up_though_delivered : List Entry
given_up_though_delivered =
    four_lost ++ Time 80 ∷ delivered ∷ host_acknowledges ∷ Done 2 done.Delivered ∷ Time 93 ∷ Done 2 done.LinkFailed ∷ []

abbrev pub given_up_though_silent : List Entry
given_up_though_silent = silent_before_given_up ++ Time 93 ∷ Done 2 done.LinkFailed ∷ []

abbrev pub silent_given_up : List Entry
silent_given_up = responded_late ++ Done 2 done.Silent ∷ []

-- ---- restarts

-- a Set is said to have ended in silence that was under way before a restart
abbrev pub silent_over_restart : List Entry
silent_over_restart =
    take 3 unrouted_errand ++ Said (codes "restart") ∷ Said (codes "tick 15") ∷ Time 15 ∷ Done 2 done.Silent ∷ []

-- ---- interviews

-- an interview fails of another node, or twice
abbrev pub failed_of_another : List Entry
failed_of_another = interview_under_way ++ no_information ∷ host_acknowledges ∷ InterviewFailed 3 ∷ []

abbrev pub failed_twice : List Entry
failed_twice =
    interview_under_way ++ no_information ∷ host_acknowledges ∷ InterviewFailed 2 ∷ no_information ∷ host_acknowledges ∷ InterviewFailed 2 ∷ []

-- an interview whose first request had no response fails by information that comes when it has failed
abbrev pub failed_by_second : List Entry
failed_by_second = informed_alone ++ InterviewFailed 2 ∷ information_come ∷ host_acknowledges ∷ InterviewFailed 2 ∷ []

-- it succeeds though no information came, and twice
abbrev pub interviewed_uninformed : List Entry
interviewed_uninformed = interview_under_way ++ no_information ∷ host_acknowledges ∷ Interviewed 2 ∷ []

abbrev pub interviewed_twice : List Entry
interviewed_twice = informed ++ information_come ∷ host_acknowledges ∷ Interviewed 2 ∷ []

-- it is not said that it failed, as no information came
abbrev pub left_uninformed : List Entry
left_uninformed = interview_under_way ++ no_information ∷ host_acknowledges ∷ Said (codes "tick 1") ∷ []

-- it succeeds though the first request was of another node
abbrev pub interviewed_of_two : List Entry
interviewed_of_two =
    Said (codes "interview 2") ∷ by_host (codes "0104004105BF") ∷ chip_acknowledges ∷ by_chip (codes "01090141000000040000B2") ∷ host_acknowledges ∷
    information_asked ∷ chip_acknowledges ∷ information_come ∷ host_acknowledges ∷ Interviewed 2 ∷ []

-- it fails by a second response
abbrev pub failed_by_response : List Entry
failed_by_response = take 9 interview_under_way ++ asking_refused ∷ host_acknowledges ∷ InterviewFailed 2 ∷ []

-- ---- questions

-- the neighbours that were asked for are not told, and it is told twice whether a node has failed
abbrev pub neighbours_untold : List Entry
neighbours_untold =
    Said (codes "neighbours 2") ∷ by_host (codes "01070080020000007A") ∷ chip_acknowledges ∷
    by_chip (codes "0120018001000000000000000000000000000000000000000000000000000000005F") ∷ host_acknowledges ∷ Said (codes "tick 1") ∷ []

abbrev pub answered_twice : List Entry
answered_twice =
    Said (codes "failed 2") ∷ failed_asked ∷ chip_acknowledges ∷ by_chip (codes "010401620199") ∷ host_acknowledges ∷ Failed 2 true ∷
    by_chip (codes "010401620199") ∷ host_acknowledges ∷ Failed 2 true ∷ []

-- ---- No More Information

-- a node counts as asleep that counts so already, before the message to it has ended, or when another one has
abbrev pub asleep_again : List Entry
asleep_again = telling ++ Time 1 ∷ delivered ∷ host_acknowledges ∷ Asleep 5 ∷ Asleep 5 ∷ []

abbrev pub asleep_before_end : List Entry
asleep_before_end = telling ++ Time 1 ∷ Asleep 5 ∷ []

abbrev pub asleep_by_other : List Entry
asleep_by_other = Awake 5 ∷ set_under_way ++ delivered ∷ host_acknowledges ∷ Asleep 5 ∷ []

-- the message to it has ended in silence, and it counts as awake in the next tick, in the next line, or as the host asks anew
abbrev pub awake_in_next_tick : List Entry
awake_in_next_tick = telling ++ Time 66 ∷ []

abbrev pub awake_in_next_line : List Entry
awake_in_next_line = telling ++ Said (codes "tick 1") ∷ []

abbrev pub awake_as_it_asks : List Entry
awake_as_it_asks = telling ++ Time 65 ∷ failed_asked ∷ []

-- or the line gave it up, or the chip refused it
abbrev pub awake_after_link : List Entry
awake_after_link = take (length asleep_given_up - 1) asleep_given_up ++ Time 94 ∷ []

abbrev pub awake_after_refusal : List Entry
awake_after_refusal = take 5 asleep_refused ++ Said (codes "tick 1") ∷ []
