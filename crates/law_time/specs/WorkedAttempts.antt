-- Worked transcripts of third attempts and of rests, made by hand in the form in which the program prints them.
use Rattle.std.specs.Prelude.{List, [], ◌∷◌, ◌++◌, codes, take}
use Rattle.zw_words.specs.declared.side.Side.TheVariants.{Host}
use Rattle.zw_text.specs.declared.entry.Done.TheVariants as done
use Rattle.zw_text.specs.declared.entry.Ended.TheVariants as endings
use Rattle.zw_text.specs.declared.entry.Refusal.TheVariants as refusals
use Rattle.zw_text.specs.declared.entry.Entry.{Entry}
use Rattle.zw_text.specs.declared.entry.Entry.TheVariants.{Said, Accepted, Refused, Begin, Dropped, Out, Done, Unkept, Time}
use Rattle.law_time.specs.WorkedTurns.{given_up_plug, first_sent}
use Rattle.law_time.specs.WorkedUnits.{by_chip, by_host, host_acknowledges, message_sent, refused, notified, chip_acknowledges, chip_denies}
use Rattle.law_time.specs.WorkedWaits.{unrouted_errand}

-- ---- third attempts

-- the message of session 1 to node 2, with callback ids 2, 3 and 6
abbrev pub second_attempt : Entry
second_attempt = by_host (codes "010E001302076C0101032501FF250274")

abbrev pub third_attempt : Entry
third_attempt = by_host (codes "010E001302076C0101032501FF250375")

abbrev pub sixth_attempt : Entry
sixth_attempt = by_host (codes "010E001302076C0101032501FF250670")

-- the callbacks of id 3: delivered, not acknowledged, and failed
abbrev pub third_delivered : Entry
third_delivered = by_chip (codes "010500130300EA")

abbrev pub third_lost : Entry
third_lost = by_chip (codes "010500130301EB")

abbrev pub third_failed : Entry
third_failed = by_chip (codes "010500130302E8")

-- two attempts were begun, and three
abbrev pub two_attempts : List Entry
two_attempts = Said (codes "set 2 on") ∷ Accepted 1 2 ∷ Begin 2 1 1 ∷ message_sent ∷ second_attempt ∷ []

abbrev pub three_attempts : List Entry
three_attempts = two_attempts ++ third_attempt ∷ []

-- the third is not acknowledged, and the acknowledgement of that is lost; or it is refused
abbrev pub given_up_after_lost : List Entry
given_up_after_lost = three_attempts ++ third_lost ∷ host_acknowledges ∷ Dropped Host ∷ Out 1 endings.Unanswered ∷ []

abbrev pub given_up_refused : List Entry
given_up_refused = three_attempts ++ refused ∷ host_acknowledges ∷ Out 1 endings.Unanswered ∷ []

-- it is delivered, and waits
abbrev pub third_waits : List Entry
third_waits = three_attempts ++ Said (codes "tick 40") ∷ Time 1 ∷ third_delivered ∷ host_acknowledges ∷ []

-- a run that ends in the tick in which it is to be given up need not show that
abbrev pub halted_waiting : List Entry
halted_waiting = third_waits ++ Said (codes "tick 200") ∷ []

-- a report says that the session is at work, and 100 ticks later it is given up; that of another session changes nothing
abbrev pub working : Entry
working = by_chip (codes "010B00040002056C020101059C")

abbrev pub given_up_working : List Entry
given_up_working = third_waits ++ Said (codes "tick 200") ∷ Time 50 ∷ working ∷ host_acknowledges ∷ Time 150 ∷ Out 1 endings.Unanswered ∷ []

abbrev pub given_up_beside_working : List Entry
given_up_beside_working =
    third_waits ++ Said (codes "tick 200") ∷ Time 50 ∷ by_chip (codes "010B00040002056C020201059F") ∷ host_acknowledges ∷ Time 101 ∷ Out 1 endings.Unanswered ∷ []

-- nor does a report of the end that is not kept
abbrev pub given_up_unkept : List Entry
given_up_unkept =
    third_waits ++ Said (codes "tick 200") ∷ Time 50 ∷ by_chip (codes "010B00040002056C0201FF0067") ∷ host_acknowledges ∷ Unkept 2 ∷ Time 101 ∷
    Out 1 endings.Unanswered ∷ []

-- units of the chip stand before, as no frame ends the attempt
abbrev pub given_up_after_unit : List Entry
given_up_after_unit = third_waits ++ Said (codes "tick 200") ∷ Time 101 ∷ chip_acknowledges ∷ notified ∷ Out 1 endings.Unanswered ∷ []

-- the chip denies the fourth copy after two frames: the host judges these first, and neither ends the attempt
abbrev pub denied_after_frames : List Entry
denied_after_frames =
    three_attempts ++ Said (codes "tick 200") ∷ Time 16 ∷ third_attempt ∷ Time 42 ∷ third_attempt ∷ Time 78 ∷ third_attempt ∷ Time 86 ∷ notified ∷ notified ∷
    chip_denies ∷ host_acknowledges ∷ host_acknowledges ∷ []

abbrev pub given_up_after_frames : List Entry
given_up_after_frames = denied_after_frames ++ Out 1 endings.Unanswered ∷ []

-- neither does the callback of a Get
abbrev pub with_get : List Entry
with_get = third_waits ++ Said (codes "get 2") ∷ by_host (codes "01090013020225022504E3") ∷ []

abbrev pub given_up_beside_get : List Entry
given_up_beside_get =
    with_get ++ Said (codes "tick 200") ∷ Time 50 ∷ by_chip (codes "010500130400ED") ∷ host_acknowledges ∷ Done 2 done.Delivered ∷ Time 101 ∷ Out 1 endings.Unanswered ∷ []

-- a session of another node begins, and is given up, between two attempts; or a restart is refused there
abbrev pub given_up_beside_other : List Entry
given_up_beside_other =
    two_attempts ++ Said (codes "interval 5 300") ∷ Accepted 2 5 ∷ Begin 5 1 2 ∷ by_host (codes "01110013050A6C010106840400012C01250312") ∷
    by_host (codes "01110013050A6C010106840400012C01250415") ∷ by_host (codes "01110013050A6C010106840400012C01250514") ∷
    by_chip (codes "010500130501ED") ∷ host_acknowledges ∷ Out 2 endings.Unanswered ∷ sixth_attempt ∷ by_chip (codes "010500130601EE") ∷
    host_acknowledges ∷ Out 1 endings.Unanswered ∷ []

abbrev pub given_up_over_refused : List Entry
given_up_over_refused =
    two_attempts ++ Said (codes "restart") ∷ Refused refusals.KeeperFault ∷ third_attempt ∷ third_lost ∷ host_acknowledges ∷
    Out 1 endings.Unanswered ∷ []

-- the first segment of a third attempt is called back as failed
abbrev pub three_segments : List Entry
three_segments =
    take 6 given_up_plug ++ first_sent ∷
    by_host (codes "01340013082D55C02F106C01012B70070000250101010101010101010101010101010101010101010101010101010101014E7A250251") ∷
    by_host (codes "01340013082D55C02F106C01012B70070000250101010101010101010101010101010101010101010101010101010101014E7A250350") ∷ []

abbrev pub given_up_at_segment : List Entry
given_up_at_segment = three_segments ++ third_failed ∷ host_acknowledges ∷ Out 1 endings.Unanswered ∷ []

-- ---- rests

-- the keeper fails for a node for which a command waits, up to the tick in which the session begins
abbrev pub unkept_order : List Entry
unkept_order = Said (codes "set 2 on") ∷ Accepted 1 2 ∷ Unkept 2 ∷ []

abbrev pub begun_kept : List Entry
begun_kept = unkept_order ++ Said (codes "store 2") ∷ Said (codes "tick 2") ∷ Time 1 ∷ Unkept 2 ∷ Time 2 ∷ Begin 2 1 1 ∷ message_sent ∷ []

-- a command waits for a node that sleeps
abbrev pub waits_asleep : List Entry
waits_asleep = Said (codes "join 5") ∷ Said (codes "interval 5 300") ∷ Accepted 1 5 ∷ Said (codes "tick 1") ∷ []

-- what a line asked for before a restart is not owed
abbrev pub asked_before_restart : List Entry
asked_before_restart =
    take 3 unrouted_errand ++ Said (codes "restart") ∷ Said (codes "tick 1") ∷ []
