-- Transcripts like those of which request is next that break its law, one thing wrong in each.
use Rattle.std.specs.Prelude.{List, [], ◌∷◌, ◌++◌, codes, take}
use Rattle.zw_text.specs.declared.entry.Done.TheVariants as done
use Rattle.zw_text.specs.declared.entry.Ended.TheVariants as endings
use Rattle.zw_text.specs.declared.entry.Entry.{Entry}
use Rattle.zw_text.specs.declared.entry.Entry.TheVariants.{Said, Accepted, Begin, Dropped, Out, Awake, Interviewed, Done, Unkept, Time}
use Rattle.zw_words.specs.declared.side.Side.TheVariants.{Host}
use Rattle.law_wire.specs.law_transcript.Worked.{long_message, sealed_exchange}
use Rattle.law_time.specs.WorkedAttempts.{second_attempt, third_attempt, third_failed, third_lost, unkept_order, working}
use Rattle.law_time.specs.WorkedChoice.{begun, both_wait, first_over, first_sent_next, first_served, first_taken, four_copies, get_sent, lock_asked, lock_begun, nonce_come, nonce_get_again, restarted_beside, sealed_for_second, sealed_for_second_next, sealed_once, sealed_sent, second_failed, second_nonce_come, second_served, segment_after_failed, segment_after_lost, segment_begun, set_before, silent_set, sleeper_begun}
use Rattle.law_time.specs.WorkedEnds.{set_under_way}
use Rattle.law_time.specs.WorkedTurns.{given_up, given_up_plug, probed, second_sent}
use Rattle.law_time.specs.WorkedUnits.{by_chip, by_host, chip_denies, failed_asked, host_acknowledges, message_sent, not_acknowledged, refused, set_sent}

-- ---- attempts

-- the Set of an earlier line is sent again where the second attempt is due
abbrev pub set_repeated : List Entry
set_repeated = set_before ++ by_host (codes "010A001302032501FF25021B") ∷ []

-- a Nonce Get is sent to a node that lists no Security 0, and a message unsealed to one that does
abbrev pub nonce_asked_plainly : List Entry
nonce_asked_plainly = take 3 given_up ++ by_host (codes "0109001302029840250119") ∷ []

abbrev pub sent_unsealed : List Entry
sent_unsealed = lock_begun ++ by_host (codes "010E001304076C0101036201FF250136") ∷ []

-- an attempt begins while the one before it is under way, a tick too early, and while the node has told that it is at work
abbrev pub sent_while_under_way : List Entry
sent_while_under_way = begun ++ second_attempt ∷ []

abbrev pub sent_before_wait : List Entry
sent_before_wait = first_taken ++ Said (codes "tick 10") ∷ second_attempt ∷ []

abbrev pub sent_though_working : List Entry
sent_though_working = first_taken ++ Time 50 ∷ working ∷ host_acknowledges ∷ Said (codes "tick 10") ∷ Time 101 ∷ second_attempt ∷ []

-- or as a Get has failed
abbrev pub sent_after_get : List Entry
sent_after_get =
    first_taken ++ Said (codes "get 2") ∷ get_sent ∷ by_chip (codes "010500130202E9") ∷ host_acknowledges ∷ Done 2 done.Fail ∷ third_attempt ∷ []

-- a fourth attempt begins
abbrev pub sent_fourth : List Entry
sent_fourth =
    first_over ++ second_attempt ∷ by_chip (codes "010500130201EA") ∷ host_acknowledges ∷ third_attempt ∷ third_lost ∷ host_acknowledges ∷
    by_host (codes "010E001302076C0101032501FF250472") ∷ []

-- ---- segments

-- the second segment is sent first, the first one twice, the second one twice, and one beyond the end
abbrev pub second_sent_first : List Entry
second_sent_first = take 6 given_up_plug ++ second_sent ∷ []

abbrev pub first_sent_twice : List Entry
first_sent_twice = segment_begun ++ not_acknowledged ∷ host_acknowledges ∷ first_sent_next ∷ []

abbrev pub second_sent_twice : List Entry
second_sent_twice =
    segment_after_lost ++ by_chip (codes "010500130200EB") ∷ host_acknowledges ∷ by_host (codes "01160013080F55E02F102701010101010101018A7725038B") ∷ []

abbrev pub sent_beyond : List Entry
sent_beyond = segment_after_lost ++ by_chip (codes "010500130200EB") ∷ host_acknowledges ∷ by_host (codes "010E0013080755E02F104E43CF250383") ∷ []

-- the third attempt has failed, and its second segment is sent
abbrev pub sent_after_third : List Entry
sent_after_third =
    segment_after_failed ++ by_chip (codes "010500130202E9") ∷ host_acknowledges ∷
    by_host (codes "01340013082D55C02F106C01012B70070000250101010101010101010101010101010101010101010101010101010101014E7A250350") ∷ third_failed ∷
    host_acknowledges ∷ by_host (codes "01160013080F55E02F102701010101010101018A7725048C") ∷ []

-- ---- nonces

-- what is sent for a nonce is not sealed
abbrev pub sent_for_nonce : List Entry
sent_for_nonce = lock_asked ++ nonce_come ∷ host_acknowledges ∷ by_host (codes "01110013040AAA010102030405060708250277") ∷ []

-- a message is sealed for no nonce, for another one, for one that was not kept, also where the acknowledgement was lost, twice for one, and when
-- its attempt is over
abbrev pub sealed_for_none : List Entry
sealed_for_none = lock_asked ++ sealed_sent ∷ []

abbrev pub sealed_for_other : List Entry
sealed_for_other = lock_asked ++ nonce_come ∷ host_acknowledges ∷ sealed_for_second ∷ []

abbrev pub sealed_for_unkept : List Entry
sealed_for_unkept = lock_asked ++ nonce_come ∷ host_acknowledges ∷ Unkept 4 ∷ sealed_sent ∷ []

abbrev pub sealed_for_unkept_lost : List Entry
sealed_for_unkept_lost = lock_asked ++ nonce_come ∷ host_acknowledges ∷ Dropped Host ∷ Unkept 4 ∷ sealed_sent ∷ []

abbrev pub sealed_twice : List Entry
sealed_twice = sealed_once ++ by_host (codes "011E0013041798810101010101010101AABBCCDD0101020304050607082503D7") ∷ []

abbrev pub sealed_when_over : List Entry
sealed_when_over = lock_asked ++ not_acknowledged ∷ host_acknowledges ∷ nonce_come ∷ host_acknowledges ∷ sealed_sent ∷ []

-- for a second one, when it was sealed; and for one after one that came when the attempt was over
abbrev pub sealed_again : List Entry
sealed_again = sealed_once ++ second_nonce_come ∷ host_acknowledges ∷ by_host (codes "011E0013041798810101010101010101AABBCCDD0201020304050607082503D4") ∷ []

-- the chip denies the last copy of the Nonce Get before the nonce comes, so that is not counted, nor is the next one then
abbrev pub sealed_though_denied : List Entry
sealed_though_denied =
    four_copies ++ chip_denies ∷ nonce_come ∷ host_acknowledges ∷ nonce_get_again ∷ second_nonce_come ∷ host_acknowledges ∷ sealed_for_second_next ∷ []

abbrev pub sealed_after_late : List Entry
sealed_after_late =
    lock_asked ++ not_acknowledged ∷ host_acknowledges ∷ nonce_come ∷ host_acknowledges ∷ by_host (codes "010900130402984025021C") ∷ second_nonce_come ∷
    host_acknowledges ∷ by_host (codes "011E0013041798810101010101010101AABBCCDD0201020304050607082503D4") ∷ []

-- for one whose number was left out, and for one after one that came when nothing waited for it
abbrev pub sealed_for_skipped : List Entry
sealed_for_skipped = lock_asked ++ second_nonce_come ∷ host_acknowledges ∷ sealed_for_second ∷ []

abbrev pub sealed_for_uncounted : List Entry
sealed_for_uncounted = nonce_come ∷ host_acknowledges ∷ lock_asked ++ second_nonce_come ∷ host_acknowledges ∷ sealed_for_second ∷ []

-- and for one after one that came when the node was taken for a switch
abbrev pub sealed_after_plain : List Entry
sealed_after_plain =
    begun ++ by_chip (codes "0110000400020A988001A1A2A3A4A5A6A75A") ∷ host_acknowledges ∷ Out 1 endings.Success ∷ Interviewed 2 ∷
    Said (codes "set 2 on") ∷ Accepted 2 2 ∷ Awake 2 ∷ Begin 2 2 2 ∷ by_host (codes "010900130202984025021A") ∷ by_chip (codes "0110000400020A988002A1A2A3A4A5A6A759") ∷
    host_acknowledges ∷ by_host (codes "011E0013021798810101010101010101AABBCCDD0201020304050607082503D2") ∷ []

-- ---- two nodes

-- the lower node is served twice while the other has work, and then the greater one
abbrev pub first_served_twice : List Entry
first_served_twice = first_served ++ second_attempt ∷ []

abbrev pub second_served_twice : List Entry
second_served_twice = second_served ++ by_host (codes "01110013050A6C010106840400012C01250312") ∷ []

-- the greater one is served first, also after a restart
abbrev pub second_served_first : List Entry
second_served_first = both_wait ++ take 1 sleeper_begun

abbrev pub second_after_restart : List Entry
second_after_restart = restarted_beside ++ take 1 sleeper_begun

-- ---- sessions that begin

-- a session begins with a command that has not waited longest, before a request that waits, of a node that is asleep, while the last one is open,
-- before an abort that is owed, and in the tick in which the keeper has failed
abbrev pub begun_out_of_order : List Entry
begun_out_of_order = take 2 given_up ++ Said (codes "set 2 off") ∷ Accepted 2 2 ∷ Begin 2 1 2 ∷ []

abbrev pub begun_before_request : List Entry
begun_before_request = Said (codes "failed 2") ∷ take 3 given_up

abbrev pub begun_asleep : List Entry
begun_asleep = Said (codes "join 5") ∷ Said (codes "interval 5 300") ∷ Accepted 1 5 ∷ Begin 5 1 1 ∷ []

abbrev pub begun_while_open : List Entry
begun_while_open = begun ++ Said (codes "set 2 off") ∷ Accepted 2 2 ∷ Begin 2 2 2 ∷ []

abbrev pub begun_before_abort : List Entry
begun_before_abort = silent_set ++ Begin 2 1 1 ∷ []

abbrev pub begun_unkept : List Entry
begun_unkept = unkept_order ++ Begin 2 1 1 ∷ []

-- ---- one after another

-- a question is sent before the one before it has its response, and a tick before it has ended without one; and before a Set that was refused is acknowledged
abbrev pub asked_before_end : List Entry
asked_before_end = take 3 probed

abbrev pub asked_before_silence : List Entry
asked_before_silence = take 3 set_under_way ++ Said (codes "failed 2") ∷ Said (codes "tick 15") ∷ Time 14 ∷ failed_asked ∷ []

abbrev pub asked_before_free : List Entry
asked_before_free = Said (codes "send 2 on") ∷ set_sent ∷ refused ∷ host_acknowledges ∷ Said (codes "failed 2") ∷ failed_asked ∷ []

-- a session begins before a Set has ended
abbrev pub begun_before_end : List Entry
begun_before_end = Said (codes "send 2 on") ∷ set_sent ∷ take 3 given_up

-- ---- callback ids

-- an id is skipped, not counted on, and is that of a host before this one
abbrev pub id_skipped : List Entry
id_skipped = message_sent ∷ third_attempt ∷ []

abbrev pub id_repeated : List Entry
id_repeated = message_sent ∷ by_host (codes "01090013020225022501E6") ∷ []

abbrev pub id_over_restart : List Entry
id_over_restart = message_sent ∷ Said (codes "restart") ∷ second_attempt ∷ []

-- a message has other options
abbrev pub sent_with_options : List Entry
sent_with_options = by_host (codes "010A001302032501FF050138") ∷ []

-- ---- rests

-- the second segment is not sent, nor the sealed message, nor the attempt after one whose last segment has failed
abbrev pub left_segment : List Entry
left_segment = take 29 long_message ++ Time 4 ∷ []

abbrev pub left_sealed : List Entry
left_sealed = take 49 sealed_exchange ++ Time 106 ∷ []

abbrev pub left_due : List Entry
left_due = second_failed ++ Time 5 ∷ []
