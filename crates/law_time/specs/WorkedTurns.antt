-- Worked transcripts of what waits, and of when a series runs anew, made by hand in the form in which the program prints them.
use Rattle.std.specs.Prelude.{ℕ, List, [], ◌∷◌, ◌++◌, codes, take}
use Rattle.zw_base.specs.declared.property.Name.TheVariants as names
use Rattle.host_orders.specs.Settings.{setting}
use Rattle.zw_words.specs.declared.side.Side.TheVariants.{Host, Chip}
use Rattle.zw_text.specs.declared.entry.Done.TheVariants as done
use Rattle.zw_text.specs.declared.entry.Ended.TheVariants as endings
use Rattle.zw_text.specs.declared.entry.Refusal.TheVariants as refusals
use Rattle.zw_text.specs.declared.entry.Entry.{Entry}
use Rattle.zw_text.specs.declared.entry.Entry.TheVariants.{Said, Accepted, Refused, Begin, Dropped, Out, Awake, Asleep, Held, Interviewed, Done, QueueFull, Report, Unkept, Time, Overrun, InterviewFailed}
use Rattle.law_time.specs.WorkedEnds.{set_under_way, interview_under_way}
use Rattle.law_time.specs.WorkedUnits.{abort_sent, asking_taken, by_chip, by_host, chip_acknowledges, failed_asked, host_acknowledges, message_sent, no_more_sent, nonce_asked, nonce_given, notified, protocol_known, set_sent, sleeper_sent, delivered, taken}
use Rattle.law_time.specs.WorkedWaits.{full_queue}

-- ---- series

-- the command of node 2 was given up
abbrev pub given_up : List Entry
given_up = Said (codes "set 2 on") ∷ Accepted 1 2 ∷ Begin 2 1 1 ∷ Out 1 endings.Unanswered ∷ []

-- that of node 5, which sleeps again
abbrev pub given_up_sleeper : List Entry
given_up_sleeper =
    Said (codes "join 5") ∷ Awake 5 ∷ Said (codes "interval 5 300") ∷ Accepted 1 5 ∷ Begin 5 1 1 ∷ Out 1 endings.Unanswered ∷ Asleep 5 ∷ []

-- the message is sent again after another command, a Wake Up Notification, and a restart
abbrev pub again_by_command : List Entry
again_by_command = given_up ++ Said (codes "set 2 off") ∷ Accepted 2 2 ∷ message_sent ∷ []

abbrev pub again_by_waking : List Entry
again_by_waking = given_up_sleeper ++ Awake 5 ∷ sleeper_sent ∷ []

abbrev pub again_by_restart : List Entry
again_by_restart = given_up ++ Said (codes "restart") ∷ message_sent ∷ []

-- 100 ticks after it was given up, while another command waits
abbrev pub given_up_waiting : List Entry
given_up_waiting = take 3 given_up ++ Said (codes "set 2 off") ∷ Accepted 2 2 ∷ Out 1 endings.Unanswered ∷ Said (codes "tick 100") ∷ []

abbrev pub again_in_time : List Entry
again_in_time = given_up_waiting ++ Time 100 ∷ message_sent ∷ []

-- and after the end of another command, which ends no series
abbrev pub again_after_cancelled : List Entry
again_after_cancelled =
    take 3 given_up ++ Said (codes "set 2 off") ∷ Accepted 2 2 ∷ Said (codes "cancel 2") ∷ Out 2 endings.Cancelled ∷ message_sent ∷ []

-- ---- lines

-- what `discover` and `probe` ask for
abbrev pub discovered : List Entry
discovered = Said (codes "discover") ∷ by_host (codes "01030002FE") ∷ []

abbrev pub probed : List Entry
probed = Said (codes "probe") ∷ by_host (codes "01030015E9") ∷ by_host (codes "01030020DC") ∷ by_host (codes "01030007FB") ∷ []

-- a restart that is refused leaves what waits
abbrev pub asked_over_refused : List Entry
asked_over_refused = Said (codes "failed 2") ∷ Said (codes "restart") ∷ Refused refusals.KeeperFault ∷ failed_asked ∷ []

-- what waits is sent after an abort, and without one where the chip had not taken what ended in silence
abbrev pub asked_after_abort : List Entry
asked_after_abort =
    take 5 set_under_way ++ Said (codes "failed 2") ∷ Said (codes "tick 65") ∷ Time 65 ∷ Done 2 done.Silent ∷ abort_sent ∷ chip_acknowledges ∷
    failed_asked ∷ []

abbrev pub asked_without_abort : List Entry
asked_without_abort =
    take 3 set_under_way ++ Said (codes "failed 2") ∷ Said (codes "tick 15") ∷ Time 15 ∷ Done 2 done.Silent ∷ failed_asked ∷ []

-- ---- nonces

-- a node asks for a nonce, and is given one
abbrev pub nonce_reported : List Entry
nonce_reported = nonce_asked ∷ host_acknowledges ∷ nonce_given ∷ []

-- the keeper fails for another node, or for one that asks for none: what waits is left
abbrev pub reported_beside_unkept : List Entry
reported_beside_unkept = nonce_asked ∷ host_acknowledges ∷ Unkept 5 ∷ nonce_given ∷ []

abbrev pub asked_after_unkept : List Entry
asked_after_unkept = Said (codes "failed 2") ∷ notified ∷ host_acknowledges ∷ Unkept 5 ∷ failed_asked ∷ []

-- ---- No More Information

-- node 5 is known, and does not listen
abbrev pub known_sleeper : List Entry
known_sleeper = Said (codes "join 5") ∷ Interviewed 5 ∷ []

-- there is nothing for it when it wakes
abbrev pub told_awake : List Entry
told_awake = known_sleeper ++ Awake 5 ∷ no_more_sent ∷ []

-- it is held, and the hold ends after 100 ticks, or as it counts as asleep
abbrev pub held_sleeper : List Entry
held_sleeper = known_sleeper ++ Awake 5 ∷ Held 5 ∷ Said (codes "tick 100") ∷ []

abbrev pub told_held : List Entry
told_held = held_sleeper ++ Time 100 ∷ no_more_sent ∷ []

abbrev pub told_again : List Entry
told_again = known_sleeper ++ Awake 5 ∷ Held 5 ∷ Asleep 5 ∷ Awake 5 ∷ no_more_sent ∷ []

-- it is held as it counts as asleep, with another command that waits; and an interview is answered so
abbrev pub held_asleep : List Entry
held_asleep =
    known_sleeper ++ Said (codes "interval 5 300") ∷ Accepted 1 5 ∷ Awake 5 ∷ Begin 5 1 1 ∷ Out 1 endings.Unanswered ∷ Asleep 5 ∷ Out 1 endings.Success ∷
    Held 5 ∷ Said (codes "interval 5 600") ∷ Accepted 2 5 ∷ []

abbrev pub interviewed_as : Entry → List Entry
interviewed_as response =
    Said (codes "interview 5") ∷ by_host (codes "0104004105BF") ∷ response ∷ host_acknowledges ∷ by_host (codes "01040060059E") ∷
    by_chip (codes "010D00498405070400003180846C60") ∷ host_acknowledges ∷ Interviewed 5 ∷ []

abbrev pub sleeper_known : Entry
sleeper_known = by_chip (codes "01090141000000040000B2")

-- the hold ends as that command goes unanswered, where the node listens no more, though it counted as asleep
abbrev pub told_unheld : List Entry
told_unheld =
    held_asleep ++ interviewed_as protocol_known ++ Begin 5 2 2 ∷ interviewed_as sleeper_known ++ Out 2 endings.Unanswered ∷ Awake 5 ∷
    Out 2 endings.Success ∷ no_more_sent ∷ []

-- two nodes are known, the greater number first, or last
abbrev pub six_known : List Entry
six_known = Said (codes "join 6") ∷ Interviewed 6 ∷ []

abbrev pub two_sleepers : List Entry
two_sleepers = six_known ++ known_sleeper

abbrev pub as_numbered : List Entry
as_numbered = known_sleeper ++ six_known

abbrev pub no_more_to_six : Entry
no_more_to_six = by_host (codes "0109001306028408250149")

-- they wake, and are told in the order of their numbers
abbrev pub both_awake : List Entry
both_awake = two_sleepers ++ Awake 6 ∷ Awake 5 ∷ []

abbrev pub told_by_number : List Entry
told_by_number = both_awake ++ no_more_sent ∷ no_more_to_six ∷ []

abbrev pub told_as_numbered : List Entry
told_as_numbered = as_numbered ++ Awake 6 ∷ Awake 5 ∷ no_more_sent ∷ no_more_to_six ∷ []

-- both holds have ended when the host looks again, that of the greater number first
abbrev pub both_held : List Entry
both_held = Awake 6 ∷ Held 6 ∷ Said (codes "tick 20") ∷ Time 20 ∷ Awake 5 ∷ Held 5 ∷ Said (codes "tick 200") ∷ Said (codes "tick 1") ∷ []

abbrev pub told_by_time : List Entry
told_by_time = two_sleepers ++ both_held ++ no_more_to_six ∷ no_more_sent ∷ []

abbrev pub told_by_time_as_numbered : List Entry
told_by_time_as_numbered = as_numbered ++ both_held ++ no_more_to_six ∷ no_more_sent ∷ []

-- ---- segments

-- a command of node 8, which is awake, has two segments, and was given up
abbrev pub given_up_plug : List Entry
given_up_plug =
    Said (codes "join 8") ∷ Interviewed 8 ∷
    Said (codes "bulk 8 0 01010101010101010101010101010101010101010101010101010101010101010101010101") ∷ Accepted 1 8 ∷ Awake 8 ∷ Begin 8 1 1 ∷
    Out 1 endings.Unanswered ∷ Asleep 8 ∷ []

-- it asks for the segment at byte 0, or at byte 39
abbrev pub first_wanted : Entry
first_wanted = by_chip (codes "010A000400080455C8100070")

abbrev pub second_wanted : Entry
second_wanted = by_chip (codes "010A000400080455C8102757")

abbrev pub first_sent : Entry
first_sent = by_host (codes "01340013082D55C02F106C01012B70070000250101010101010101010101010101010101010101010101010101010101014E7A250152")

abbrev pub second_sent : Entry
second_sent = by_host (codes "01160013080F55E02F102701010101010101018A77250189")

abbrev pub first_resent : List Entry
first_resent = given_up_plug ++ first_wanted ∷ host_acknowledges ∷ first_sent ∷ []

abbrev pub second_resent : List Entry
second_resent = given_up_plug ++ second_wanted ∷ host_acknowledges ∷ second_sent ∷ []

-- ---- a full queue

-- 64 requests wait
abbrev pub filled : List Entry
filled = take 27 full_queue

-- so a Nonce Report is dropped, which is said also after a lost acknowledgement, and not where the keeper fails
abbrev pub dropped_at_once : List Entry
dropped_at_once = filled ++ nonce_asked ∷ host_acknowledges ∷ QueueFull 4 ∷ []

abbrev pub dropped_after_lost : List Entry
dropped_after_lost = filled ++ nonce_asked ∷ host_acknowledges ∷ Dropped Host ∷ QueueFull 4 ∷ []

-- a payload tells a value and asks for a nonce: the value is noted first
abbrev pub dropped_after_report : List Entry
dropped_after_report =
    filled ++ by_chip (codes "0110000400020A8F01020325030002984090") ∷ host_acknowledges ∷ Report 2 (setting 0 names.Switch 0) ∷ QueueFull 2 ∷ []

abbrev pub unkept_though_full : List Entry
unkept_though_full = filled ++ nonce_asked ∷ host_acknowledges ∷ Unkept 4 ∷ Said (codes "tick 1") ∷ []

-- and a Get of a node that has not joined is refused for that
abbrev pub refused_otherwise : List Entry
refused_otherwise = filled ++ Said (codes "get 10") ∷ Refused refusals.NotJoined ∷ []

-- ---- once

-- No More Information waits before a question and is sent once
abbrev pub told_once : List Entry
told_once =
    known_sleeper ++ Awake 5 ∷ Said (codes "failed 2") ∷ Said (codes "tick 1") ∷ no_more_sent ∷ chip_acknowledges ∷ taken ∷ host_acknowledges ∷
    Time 1 ∷ delivered ∷ host_acknowledges ∷ Asleep 5 ∷ failed_asked ∷ Said (codes "send 2 on") ∷ set_sent ∷ []

-- it is told again when it wakes again
abbrev pub told_twice : List Entry
told_twice =
    known_sleeper ++ Awake 5 ∷ no_more_sent ∷ chip_acknowledges ∷ taken ∷ host_acknowledges ∷ Said (codes "tick 2") ∷ Time 1 ∷ delivered ∷
    host_acknowledges ∷ Asleep 5 ∷ Awake 5 ∷ by_host (codes "0109001305028408250249") ∷ []

-- No More Information is dropped once, and again as the node sleeps and wakes, or wakes again
abbrev pub awake_though_full : List Entry
awake_though_full = known_sleeper ++ filled ++ Awake 5 ∷ []

abbrev pub dropped_once : List Entry
dropped_once = awake_though_full ++ QueueFull 5 ∷ Said (codes "tick 1") ∷ []

abbrev pub dropped_again : List Entry
dropped_again = awake_though_full ++ QueueFull 5 ∷ Asleep 5 ∷ Awake 5 ∷ QueueFull 5 ∷ []

abbrev pub dropped_woken : List Entry
dropped_woken = awake_though_full ++ QueueFull 5 ∷ Awake 5 ∷ QueueFull 5 ∷ []

-- ---- copies

-- an acknowledgement did not fit the pipe, and the frame is written again
abbrev pub copied_after_overrun : List Entry
copied_after_overrun = take 3 set_under_way ++ Overrun Chip ∷ Said (codes "tick 100") ∷ Time 16 ∷ set_sent ∷ []

-- ---- interviews

-- an interview whose information does not come is not aborted
abbrev pub asked_after_interview : List Entry
asked_after_interview =
    take 9 interview_under_way ++ Said (codes "failed 2") ∷ Said (codes "tick 65") ∷ Time 65 ∷ InterviewFailed 2 ∷ failed_asked ∷ []

-- ---- what comes at once

-- as a host alone hears it: node 101 tells that it is awake while its interview is under way
abbrev pub awake_in_interview : List Entry
awake_in_interview =
    Said (codes "join 101") ∷ Said (codes "interview 101") ∷ by_host (codes "0104004165DF") ∷ Said (codes "chip 0601090141000000040000B2") ∷
    chip_acknowledges ∷ sleeper_known ∷ host_acknowledges ∷ by_host (codes "0104006065FE") ∷
    Said (codes "chip 0601040160019B01080004006502840717") ∷ chip_acknowledges ∷ asking_taken ∷ host_acknowledges ∷
    by_chip (codes "01080004006502840717") ∷ host_acknowledges ∷ Awake 101 ∷ []

abbrev pub keeper_known : Entry
keeper_known = by_chip (codes "010D00498465070400003180846C00")

abbrev pub keeper_asks : Entry
keeper_asks = by_chip (codes "0108000400650298404C")

abbrev pub nonce_for_keeper : Entry
nonce_for_keeper = by_host (codes "01110013650A988001B8E0ADA0F13D902501A6")

abbrev pub both_frames : List ℕ
both_frames = codes "chip 010D00498465070400003180846C000108000400650298404C"

-- it is known, and asks for a nonce, in one line of bytes, or in one read: with the units where they are judged, and with all of them first
abbrev pub asked_at_once : List ℕ → List Entry
asked_at_once words =
    awake_in_interview ++ Said words ∷ keeper_known ∷ host_acknowledges ∷ Interviewed 101 ∷ keeper_asks ∷ host_acknowledges ∷ []

abbrev pub asked_as_heard : List ℕ → List Entry
asked_as_heard words =
    awake_in_interview ++ Said words ∷ keeper_known ∷ keeper_asks ∷ host_acknowledges ∷ Interviewed 101 ∷ host_acknowledges ∷ []

-- so it is given the nonce, and told then that there is no more
abbrev pub told_after_report : List Entry → List Entry
told_after_report past =
    past ++ nonce_for_keeper ∷ Said (codes "chip 060104011301E8010500130100E8") ∷ chip_acknowledges ∷ taken ∷ delivered ∷ host_acknowledges ∷
    host_acknowledges ∷ by_host (codes "0109001365028408250229") ∷ []
