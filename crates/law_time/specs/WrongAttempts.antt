-- Transcripts like those of third attempts and of rests that break the laws, one thing wrong in each.
use Rattle.std.specs.Prelude.{List, [], ◌∷◌, ◌++◌, codes, drop, take}
use Rattle.zw_text.specs.declared.entry.Done.TheVariants as done
use Rattle.zw_text.specs.declared.entry.Ended.TheVariants as endings
use Rattle.zw_text.specs.declared.entry.Entry.{Entry}
use Rattle.zw_text.specs.declared.entry.Entry.TheVariants.{Said, Accepted, Begin, Out, Unkept, Time, Done}
use Rattle.law_time.specs.WorkedAttempts.{denied_after_frames, second_attempt, third_attempt, third_delivered, third_lost, third_waits, three_attempts, two_attempts, unkept_order, with_get, working}
use Rattle.law_time.specs.WorkedEnds.{interview_under_way, four_lost}
use Rattle.law_time.specs.WorkedUnits.{by_chip, by_host, host_acknowledges, information_come, message_sent, chip_acknowledges, delivered, failed_asked, taken}
use Rattle.law_time.specs.WorkedTurns.{asked_after_abort}

-- ---- third attempts

-- a command is given up as its third attempt is delivered; 99 ticks later; and 100 ticks later though it was at work
abbrev pub given_up_delivered : List Entry
given_up_delivered = three_attempts ++ third_delivered ∷ host_acknowledges ∷ Out 1 endings.Unanswered ∷ []

abbrev pub given_up_early : List Entry
given_up_early = third_waits ++ Said (codes "tick 200") ∷ Time 100 ∷ Out 1 endings.Unanswered ∷ []

abbrev pub given_up_at_work : List Entry
given_up_at_work = third_waits ++ Said (codes "tick 200") ∷ Time 50 ∷ working ∷ host_acknowledges ∷ Time 101 ∷ Out 1 endings.Unanswered ∷ []

-- it is given up a tick too late, or after another line
abbrev pub given_up_late : List Entry
given_up_late = third_waits ++ Said (codes "tick 200") ∷ Time 102 ∷ Out 1 endings.Unanswered ∷ []

abbrev pub given_up_after_line : List Entry
given_up_after_line = third_waits ++ Said (codes "tick 200") ∷ Said (codes "tick 1") ∷ Out 1 endings.Unanswered ∷ []

-- it is given up only after the next line, though the chip denied the fourth copy, after two frames
abbrev pub given_up_long_denied : List Entry
given_up_long_denied = denied_after_frames ++ Said (codes "tick 1") ∷ Out 1 endings.Unanswered ∷ []

-- it is given up by the callback of a Get, which is no attempt, as an attempt or after three
abbrev pub given_up_by_get : List Entry
given_up_by_get = with_get ++ Said (codes "tick 1") ∷ Time 41 ∷ by_chip (codes "010500130401EC") ∷ host_acknowledges ∷ Out 1 endings.Unanswered ∷ []

abbrev pub given_up_counting_get : List Entry
given_up_counting_get =
    two_attempts ++ Said (codes "get 2") ∷ by_host (codes "01090013020225022503E4") ∷ third_lost ∷ host_acknowledges ∷ Out 1 endings.Unanswered ∷ []

-- by a message to another node
abbrev pub given_up_counting_other : List Entry
given_up_counting_other =
    two_attempts ++ by_host (codes "01110013050A6C010106840400012C01250312") ∷ third_lost ∷ host_acknowledges ∷ Out 1 endings.Unanswered ∷ []

-- a message that is sealed is no attempt besides the question for its nonce
abbrev pub given_up_counting_sealed : List Entry
given_up_counting_sealed =
    Said (codes "set 4 on") ∷ Accepted 1 4 ∷ Begin 4 1 1 ∷ by_host (codes "010900130402984025011F") ∷
    by_host (codes "011E0013041798810101010101010101AABBCCDD0201020304050607082502D5") ∷ by_host (codes "010900130402984025031D") ∷ third_lost ∷
    host_acknowledges ∷ Out 1 endings.Unanswered ∷ []

-- attempts of an earlier session are counted, and those from before a restart
abbrev pub given_up_counting_earlier : List Entry
given_up_counting_earlier =
    Said (codes "set 2 on") ∷ Accepted 1 2 ∷ Begin 2 1 1 ∷ message_sent ∷ second_attempt ∷ Out 1 endings.Success ∷ Said (codes "set 2 on") ∷
    Accepted 2 2 ∷ Begin 2 2 2 ∷ third_attempt ∷ third_lost ∷ host_acknowledges ∷ Out 2 endings.Unanswered ∷ []

abbrev pub given_up_over_restart : List Entry
given_up_over_restart =
    two_attempts ++ Said (codes "restart") ∷ third_attempt ∷ third_lost ∷ host_acknowledges ∷ Out 1 endings.Unanswered ∷ []

-- a command is given up that has succeeded, and twice
abbrev pub given_up_succeeded : List Entry
given_up_succeeded =
    three_attempts ++ Out 1 endings.Success ∷ third_lost ∷ host_acknowledges ∷ Out 1 endings.Unanswered ∷ []

abbrev pub given_up_twice : List Entry
given_up_twice = three_attempts ++ third_lost ∷ host_acknowledges ∷ Out 1 endings.Unanswered ∷ Out 1 endings.Unanswered ∷ []

-- ---- rests

-- a command waits in the tick after the keeper has failed, for a node for which it has not, and after a restart
abbrev pub left_unkept : List Entry
left_unkept = unkept_order ++ Said (codes "tick 2") ∷ Time 2 ∷ Begin 2 1 1 ∷ message_sent ∷ []

abbrev pub left_beside_unkept : List Entry
left_beside_unkept = take 2 unkept_order ++ Unkept 5 ∷ Said (codes "tick 1") ∷ []

abbrev pub left_over_restart : List Entry
left_over_restart = unkept_order ++ Said (codes "restart") ∷ Said (codes "tick 1") ∷ Time 1 ∷ Begin 2 1 1 ∷ message_sent ∷ []

-- an interview has not ended, as the keeper has failed for another node
abbrev pub left_uninterviewed : List Entry
left_uninterviewed = interview_under_way ++ information_come ∷ host_acknowledges ∷ Unkept 3 ∷ Said (codes "tick 1") ∷ []

-- a question waits after an abort that has ended, and after a line
abbrev pub left_after_abort : List Entry
left_after_abort = take 11 asked_after_abort ++ Said (codes "tick 1") ∷ failed_asked ∷ []

abbrev pub left_after_line : List Entry
left_after_line = Said (codes "failed 2") ∷ Said (codes "tick 1") ∷ failed_asked ∷ []

-- the second attempt begins a tick too late
abbrev pub left_a_tick : List Entry
left_a_tick =
    take 4 two_attempts ++ chip_acknowledges ∷ taken ∷ host_acknowledges ∷ Said (codes "tick 200") ∷ Time 1 ∷ delivered ∷ host_acknowledges ∷ Time 102 ∷
    second_attempt ∷ []

-- a question waits after a Set that was given up
abbrev pub left_given_up : List Entry
left_given_up =
    take 4 four_lost ++ Said (codes "failed 2") ∷ drop 4 four_lost ++ Time 93 ∷ Done 2 done.LinkFailed ∷ Time 94 ∷ failed_asked ∷ []
