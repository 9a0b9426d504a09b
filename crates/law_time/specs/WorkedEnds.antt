-- Worked transcripts of requests that end in each way, made by hand in the form in which the program prints them.
use Rattle.std.specs.Prelude.{true, List, [], ◌∷◌, ◌++◌, codes, drop, take}
use Rattle.zw_words.specs.declared.side.Side.TheVariants.{Host, Chip}
use Rattle.zw_text.specs.declared.entry.Done.TheVariants as done
use Rattle.zw_text.specs.declared.entry.Entry.{Entry}
use Rattle.zw_text.specs.declared.entry.Entry.TheVariants.{Said, Dropped, Garbled, Overrun, Awake, Asleep, Interviewed, InterviewFailed, Done, Failed, Unkept, Time}
use Rattle.law_wire.specs.law_transcript.Worked.{bytes}
use Rattle.law_time.specs.WorkedUnits.{abort_sent, asking_refused, asking_taken, by_chip, chip_acknowledges, chip_denies, delivered, failed, failed_asked, host_acknowledges, information_asked, information_come, no_information, no_more_sent, notified, protocol_asked, protocol_known, refused, set_sent, taken, by_host}
use Rattle.law_time.specs.WorkedWaits.{unrouted_errand, refused_errand}

-- ---- Sets

-- the chip has taken a Set, and a tick has passed
abbrev pub set_under_way : List Entry
set_under_way = take 7 unrouted_errand

-- its callback says that it failed
abbrev pub failed_errand : List Entry
failed_errand = set_under_way ++ failed ∷ host_acknowledges ∷ Done 2 done.Fail ∷ []

-- the acknowledgement after which it is said how a Set ended is lost, overrun or changed
abbrev pub said_after_lost : List Entry
said_after_lost = set_under_way ++ delivered ∷ host_acknowledges ∷ Dropped Host ∷ Done 2 done.Delivered ∷ []

abbrev pub said_after_overrun : List Entry
said_after_overrun = set_under_way ++ delivered ∷ host_acknowledges ∷ Overrun Host ∷ Done 2 done.Delivered ∷ []

abbrev pub said_after_changed : List Entry
said_after_changed = set_under_way ++ delivered ∷ host_acknowledges ∷ Garbled Host (bytes (codes "07")) ∷ Done 2 done.Delivered ∷ []

-- before the response that refuses a Set come a message, a response to something else, and the callback of another request
abbrev pub refused_after_others : List Entry
refused_after_others =
    Said (codes "send 2 on") ∷ set_sent ∷ chip_acknowledges ∷ notified ∷ host_acknowledges ∷ Awake 5 ∷ asking_refused ∷ host_acknowledges ∷
    by_chip (codes "010500130900E0") ∷ host_acknowledges ∷ refused ∷ host_acknowledges ∷ Done 2 done.Refused ∷ []

-- a response to a Set that has no body is acknowledged and tells nothing; the one after it counts
abbrev pub delivered_after_unread : List Entry
delivered_after_unread =
    Said (codes "send 2 on") ∷ set_sent ∷ chip_acknowledges ∷ by_chip (codes "01030113EE") ∷ host_acknowledges ∷ taken ∷ host_acknowledges ∷
    Said (codes "tick 1") ∷ Time 1 ∷ delivered ∷ host_acknowledges ∷ Done 2 done.Delivered ∷ []

-- a line asks for a Set of a dimmer that is taken for a switch, and it is sent as one for a switch when the dimmer is known
abbrev pub said_by_old_list : List Entry
said_by_old_list =
    Said (codes "send 2 on") ∷ Interviewed 2 ∷ set_sent ∷ chip_acknowledges ∷ taken ∷ host_acknowledges ∷ Said (codes "tick 1") ∷ Time 1 ∷ delivered ∷
    host_acknowledges ∷ Done 2 done.Delivered ∷ []

-- ---- silence

-- the response comes 14 ticks after the acknowledgement, and no callback in 65 more
abbrev pub silent_after_response : List Entry
silent_after_response =
    Said (codes "send 2 on") ∷ set_sent ∷ chip_acknowledges ∷ Said (codes "tick 100") ∷ Time 14 ∷ taken ∷ host_acknowledges ∷ Time 79 ∷
    Done 2 done.Silent ∷ []

-- it comes a tick later, when the Set has ended
abbrev pub silent_before_response : List Entry
silent_before_response =
    Said (codes "send 2 on") ∷ set_sent ∷ chip_acknowledges ∷ Said (codes "tick 15") ∷ Time 15 ∷ taken ∷ host_acknowledges ∷ Done 2 done.Silent ∷ []

-- a callback comes in the last tick in which it may
abbrev pub delivered_last : List Entry
delivered_last = take 5 unrouted_errand ++ Said (codes "tick 64") ∷ Time 64 ∷ delivered ∷ host_acknowledges ∷ Done 2 done.Delivered ∷ []

-- ---- copies

-- a Set whose answer is lost, and the copies of it that go the same way
abbrev pub copy_lost : List Entry
copy_lost = set_sent ∷ chip_acknowledges ∷ Dropped Chip ∷ []

abbrev pub first_copy : List Entry
first_copy = Said (codes "send 2 on") ∷ copy_lost ++ Said (codes "tick 100") ∷ []

abbrev pub three_copies : List Entry
three_copies = first_copy ++ Time 16 ∷ copy_lost ++ Time 42 ∷ copy_lost

-- the fourth one is written
abbrev pub four_copies : List Entry
four_copies = three_copies ++ Time 78 ∷ set_sent ∷ []

-- its answer is lost too, and 15 ticks later the Set is given up
abbrev pub four_lost : List Entry
four_lost = four_copies ++ chip_acknowledges ∷ Dropped Chip ∷ []

abbrev pub given_up_errand : List Entry
given_up_errand = four_lost ++ Time 93 ∷ Done 2 done.LinkFailed ∷ []

-- the chip denies it, so that the Set is given up at once
abbrev pub given_up_at_answer : List Entry
given_up_at_answer = four_copies ++ chip_denies ∷ Done 2 done.LinkFailed ∷ []

-- or acknowledges it in the last tick in which it may
abbrev pub acknowledged_last : List Entry
acknowledged_last = four_copies ++ Time 92 ∷ chip_acknowledges ∷ Time 95 ∷ delivered ∷ host_acknowledges ∷ Done 2 done.Delivered ∷ []

-- so too where a byte that is no answer came before
abbrev pub acknowledged_after_stray : List Entry
acknowledged_after_stray =
    four_copies ++ by_chip (codes "55") ∷ Time 92 ∷ chip_acknowledges ∷ Time 95 ∷ delivered ∷ host_acknowledges ∷ Done 2 done.Delivered ∷ []

-- the callback comes in time though no answer did, or before the answer that would end the Set
abbrev pub delivered_unanswered : List Entry
delivered_unanswered = four_lost ++ Time 80 ∷ delivered ∷ host_acknowledges ∷ Done 2 done.Delivered ∷ []

abbrev pub delivered_before_denied : List Entry
delivered_before_denied = four_copies ++ delivered ∷ chip_denies ∷ host_acknowledges ∷ Done 2 done.Delivered ∷ []

-- the wait after the response ends before the fourth copy does, and in the same tick
abbrev pub silent_before_given_up : List Entry
silent_before_given_up =
    first_copy ++ Time 16 ∷ copy_lost ++ Time 20 ∷ taken ∷ host_acknowledges ∷ Time 42 ∷ copy_lost ++ Time 78 ∷ copy_lost ++
    Time 85 ∷ Done 2 done.Silent ∷ []

abbrev pub responded_late : List Entry
responded_late =
    first_copy ++ Time 16 ∷ copy_lost ++ Time 28 ∷ taken ∷ host_acknowledges ∷ Time 42 ∷ copy_lost ++ Time 78 ∷ copy_lost ++ Time 93 ∷ []

abbrev pub given_up_in_time : List Entry
given_up_in_time = responded_late ++ Done 2 done.LinkFailed ∷ []

-- the wait ends in the tick of the fourth copy, which the chip denies: the Set is aborted
abbrev pub aborted_at_fourth : List Entry
aborted_at_fourth =
    first_copy ++ Time 13 ∷ taken ∷ host_acknowledges ∷ Time 16 ∷ copy_lost ++ Time 42 ∷ copy_lost ++ Time 78 ∷ set_sent ∷ Done 2 done.Silent ∷
    chip_denies ∷ abort_sent ∷ []

-- ---- interviews

-- both requests of an interview have their responses, and a tick has passed
abbrev pub interview_asked : List Entry
interview_asked =
    Said (codes "interview 2") ∷ protocol_asked ∷ chip_acknowledges ∷ protocol_known ∷ host_acknowledges ∷ information_asked ∷ chip_acknowledges ∷ []

abbrev pub interview_under_way : List Entry
interview_under_way = interview_asked ++ asking_taken ∷ host_acknowledges ∷ Said (codes "tick 2") ∷ Time 1 ∷ []

-- no information comes, the chip refuses to ask for it, or it does not answer four copies
abbrev pub interview_uninformed : List Entry
interview_uninformed = interview_under_way ++ no_information ∷ host_acknowledges ∷ InterviewFailed 2 ∷ []

abbrev pub interview_refused : List Entry
interview_refused = interview_asked ++ asking_refused ∷ host_acknowledges ∷ InterviewFailed 2 ∷ []

abbrev pub interview_given_up : List Entry
interview_given_up =
    take 6 interview_asked ++ Dropped Host ∷ Said (codes "tick 100") ∷ Time 16 ∷ information_asked ∷ Dropped Host ∷ Time 42 ∷ information_asked ∷
    Dropped Host ∷ Time 78 ∷ information_asked ∷ Dropped Host ∷ Time 93 ∷ InterviewFailed 2 ∷ []

-- the information comes, and once more, which says nothing
abbrev pub informed : List Entry
informed = interview_under_way ++ information_come ∷ host_acknowledges ∷ Interviewed 2 ∷ []

abbrev pub informed_twice : List Entry
informed_twice = informed ++ information_come ∷ host_acknowledges ∷ Time 2 ∷ []

-- the acknowledgement of the information is lost; and the keeper fails for the node
abbrev pub informed_after_lost : List Entry
informed_after_lost = interview_under_way ++ information_come ∷ host_acknowledges ∷ Dropped Host ∷ Interviewed 2 ∷ []

abbrev pub informed_unkept : List Entry
informed_unkept = interview_under_way ++ information_come ∷ host_acknowledges ∷ Unkept 2 ∷ []

-- ---- questions

-- the acknowledgement of an answer is lost
abbrev pub answered_after_lost : List Entry
answered_after_lost =
    Said (codes "failed 2") ∷ failed_asked ∷ chip_acknowledges ∷ by_chip (codes "010401620199") ∷ host_acknowledges ∷ Dropped Host ∷
    Failed 2 true ∷ []

-- ---- No More Information

-- a node that is awake is told that there is no more
abbrev pub telling : List Entry
telling = Awake 5 ∷ no_more_sent ∷ chip_acknowledges ∷ taken ∷ host_acknowledges ∷ Said (codes "tick 100") ∷ []

-- that is delivered, and the acknowledgement of it is lost; it ends in silence; or it is given up
abbrev pub asleep_after_lost : List Entry
asleep_after_lost = telling ++ Time 1 ∷ delivered ∷ host_acknowledges ∷ Dropped Host ∷ Asleep 5 ∷ []

abbrev pub asleep_in_silence : List Entry
asleep_in_silence = telling ++ Time 65 ∷ Asleep 5 ∷ []

abbrev pub asleep_given_up : List Entry
asleep_given_up =
    Awake 5 ∷ no_more_sent ∷ Dropped Host ∷ Said (codes "tick 100") ∷ Time 16 ∷ no_more_sent ∷ Dropped Host ∷ Time 42 ∷ no_more_sent ∷ Dropped Host ∷
    Time 78 ∷ no_more_sent ∷ Dropped Host ∷ Time 93 ∷ Asleep 5 ∷ []

-- the chip refuses it
abbrev pub asleep_refused : List Entry
asleep_refused = take 3 telling ++ refused ∷ host_acknowledges ∷ Asleep 5 ∷ []

-- the node wakes again in the tick in which it ended, and a line is said
abbrev pub woken_again : List Entry
woken_again = telling ++ Time 1 ∷ delivered ∷ host_acknowledges ∷ Asleep 5 ∷ notified ∷ host_acknowledges ∷ Awake 5 ∷ Said (codes "cut 7") ∷ []

-- ---- more of waits

-- a Set is sent when lines have let ticks pass without an entry
abbrev pub silent_later : List Entry
silent_later =
    Said (codes "tick 20") ∷ Said (codes "send 2 on") ∷ set_sent ∷ chip_acknowledges ∷ Said (codes "tick 15") ∷ Time 35 ∷ Done 2 done.Silent ∷ []

-- the chip denies the fourth copy while the wait after a response runs
abbrev pub denied_with_response : List Entry
denied_with_response = take 18 responded_late ++ chip_denies ∷ Done 2 done.LinkFailed ∷ []

-- information of another node comes first
abbrev pub informed_beside_other : List Entry
informed_beside_other =
    interview_under_way ++ by_chip (codes "010D00498405070400003180846C60") ∷ host_acknowledges ∷ information_come ∷ host_acknowledges ∷ Interviewed 2 ∷ []

-- what waits is not owed while the line is not free: the callback came, and no answer
abbrev pub waits_for_line : List Entry
waits_for_line =
    take 4 four_lost ++ Said (codes "failed 2") ∷ drop 4 four_lost ++ Time 80 ∷ delivered ∷ host_acknowledges ∷ Done 2 done.Delivered ∷ Time 93 ∷
    failed_asked ∷ []

-- the first copy is acknowledged at its fifteenth tick
abbrev pub silent_after_late : List Entry
silent_after_late = take 2 unrouted_errand ++ Said (codes "tick 100") ∷ Time 15 ∷ chip_acknowledges ∷ Time 30 ∷ Done 2 done.Silent ∷ []

-- a message comes instead of a response
abbrev pub silent_beside_other : List Entry
silent_beside_other =
    Said (codes "send 2 on") ∷ set_sent ∷ chip_acknowledges ∷ Said (codes "tick 15") ∷ Time 5 ∷ notified ∷ host_acknowledges ∷ Time 15 ∷
    Done 2 done.Silent ∷ []

-- a Set is refused, and the next one is written twice and delivered
abbrev pub next_set : Entry
next_set = by_host (codes "010A001302032501FF25021B")

abbrev pub delivered_after_refused : List Entry
delivered_after_refused =
    refused_errand ++ Said (codes "send 2 on") ∷ next_set ∷ chip_acknowledges ∷ Dropped Chip ∷ Said (codes "tick 100") ∷ Time 16 ∷ next_set ∷
    chip_acknowledges ∷ taken ∷ host_acknowledges ∷ Time 17 ∷ by_chip (codes "010500130200EB") ∷ host_acknowledges ∷ Done 2 done.Delivered ∷ []
