-- Transcripts like those of what waits that break the laws of the queue, one thing wrong in each.
use Rattle.std.specs.Prelude.{List, [], ◌∷◌, ◌++◌, codes, take}
use Rattle.zw_text.specs.declared.entry.Ended.{Ended}
use Rattle.zw_text.specs.declared.entry.Ended.TheVariants as endings
use Rattle.zw_text.specs.declared.entry.Refusal.TheVariants as refusals
use Rattle.zw_text.specs.declared.entry.Entry.{Entry}
use Rattle.zw_text.specs.declared.entry.Entry.TheVariants.{Said, Accepted, Refused, Out, Awake, Asleep, Interviewed, QueueFull, Unkept, Time, Begin, Held}
use Rattle.law_time.specs.WorkedEnds.{four_lost, set_under_way}
use Rattle.law_time.specs.WorkedTurns.{awake_in_interview, both_awake, dropped_at_once, first_sent, first_wanted, given_up, given_up_plug, given_up_sleeper, given_up_waiting, held_asleep, held_sleeper, interviewed_as, keeper_asks, keeper_known, known_sleeper, no_more_to_six, nonce_for_keeper, probed, sleeper_known, awake_though_full}
use Rattle.law_time.specs.WorkedUnits.{by_chip, by_host, failed_asked, host_acknowledges, message_sent, no_more_sent, nonce_asked, nonce_given, protocol_known, set_sent, sleeper_sent, chip_acknowledges, abort_sent}

-- ---- copies

-- a frame is written a fifth time, and again when it was acknowledged
abbrev pub sent_fifth : List Entry
sent_fifth = four_lost ++ Time 93 ∷ set_sent ∷ []

abbrev pub sent_again : List Entry
sent_again = take 3 set_under_way ++ Time 16 ∷ set_sent ∷ []

-- ---- series

-- the message of a command that was given up is sent again for nothing, after a command of another node, and in 100 ticks while none waits
abbrev pub sent_for_nothing : List Entry
sent_for_nothing = given_up ++ message_sent ∷ []

abbrev pub sent_by_other_command : List Entry
sent_by_other_command = given_up ++ Said (codes "interval 5 300") ∷ Accepted 2 5 ∷ message_sent ∷ []

abbrev pub sent_in_time : List Entry
sent_in_time = given_up ++ Said (codes "tick 100") ∷ Time 100 ∷ message_sent ∷ []

-- a tick too early
abbrev pub sent_too_soon : List Entry
sent_too_soon = given_up_waiting ++ Time 99 ∷ message_sent ∷ []

-- after a command that is accepted when the session has its final outcome, or while the node sleeps
abbrev pub sent_when_ended : Ended → List Entry
sent_when_ended ended = take 3 given_up ++ Out 1 ended ∷ Said (codes "set 2 off") ∷ Accepted 2 2 ∷ message_sent ∷ []

abbrev pub sent_asleep : List Entry
sent_asleep = given_up_sleeper ++ Said (codes "interval 5 600") ∷ Accepted 2 5 ∷ sleeper_sent ∷ []

-- after the waking of another node
abbrev pub sent_by_other_waking : List Entry
sent_by_other_waking = take 6 given_up_sleeper ++ Awake 6 ∷ sleeper_sent ∷ []

-- after a restart that is refused, and after one that leaves the node asleep
abbrev pub sent_by_refused_restart : List Entry
sent_by_refused_restart = given_up ++ Said (codes "restart") ∷ Refused refusals.KeeperFault ∷ message_sent ∷ []

abbrev pub sent_over_restart : List Entry
sent_over_restart = take 5 given_up_sleeper ++ Said (codes "restart") ∷ sleeper_sent ∷ []

-- while the series of another node runs
abbrev pub sent_to_other : List Entry
sent_to_other = take 3 given_up ++ sleeper_sent ∷ []

-- ---- lines

-- the second request of `probe` is sent first, a Get of a line that is refused, and a question from before a restart
abbrev pub probed_out_of_turn : List Entry
probed_out_of_turn = take 1 probed ++ by_host (codes "01030020DC") ∷ []

abbrev pub sent_refused : List Entry
sent_refused = Said (codes "get 9") ∷ Refused refusals.NotJoined ∷ by_host (codes "01090013090225022501ED") ∷ []

abbrev pub asked_over_restart : List Entry
asked_over_restart = Said (codes "failed 2") ∷ Said (codes "restart") ∷ failed_asked ∷ []

-- ---- nonces

-- a nonce is given of which the keeper has no record
abbrev pub reported_unkept : List Entry
reported_unkept = nonce_asked ∷ host_acknowledges ∷ Unkept 4 ∷ nonce_given ∷ []

-- ---- No More Information

-- it is sent to a node that has not joined, that is not known, that sleeps, that listens, or that is held
abbrev pub told_unjoined : List Entry
told_unjoined = Interviewed 5 ∷ Awake 5 ∷ no_more_sent ∷ []

abbrev pub told_unknown : List Entry
told_unknown = Said (codes "join 5") ∷ Awake 5 ∷ no_more_sent ∷ []

abbrev pub told_asleep : List Entry
told_asleep = known_sleeper ++ Awake 5 ∷ Asleep 5 ∷ no_more_sent ∷ []

abbrev pub told_listening : List Entry
told_listening = Awake 2 ∷ by_host (codes "010900130202840825014D") ∷ []

abbrev pub told_while_held : List Entry
told_while_held = held_sleeper ++ Time 99 ∷ no_more_sent ∷ []

-- though its command went unanswered, since it listened then
abbrev pub told_though_held : List Entry
told_though_held =
    held_asleep ++ interviewed_as protocol_known ++ Begin 5 2 2 ∷ Out 2 endings.Unanswered ∷ interviewed_as sleeper_known ++ Awake 5 ∷
    Out 2 endings.Success ∷ no_more_sent ∷ []

-- to the node with the greater number first
abbrev pub told_out_of_turn : List Entry
told_out_of_turn = both_awake ++ no_more_to_six ∷ []

-- ---- segments

-- a segment is sent that was asked for with another id, at another byte than it begins at, or beyond the end of the message
abbrev pub resent_of_other : List Entry
resent_of_other = given_up_plug ++ by_chip (codes "010A000400080455C8200040") ∷ host_acknowledges ∷ first_sent ∷ []

abbrev pub resent_inside : List Entry
resent_inside = given_up_plug ++ by_chip (codes "010A000400080455C8100171") ∷ host_acknowledges ∷ first_sent ∷ []

abbrev pub resent_beyond : List Entry
resent_beyond =
    given_up_plug ++ by_chip (codes "010A000400080455C8104E3E") ∷ host_acknowledges ∷ by_host (codes "010E0013080755E02F104E43CF250181") ∷ []

-- of a session that has its final outcome, and of a message that does not go in segments
abbrev pub resent_when_ended : List Entry
resent_when_ended = take 6 given_up_plug ++ Out 1 endings.Success ∷ Asleep 8 ∷ first_wanted ∷ host_acknowledges ∷ first_sent ∷ []

abbrev pub resent_of_plain : List Entry
resent_of_plain =
    given_up ++ by_chip (codes "010A000400020455C810007A") ∷ host_acknowledges ∷
    by_host (codes "01140013020D55C007106C0101032501FF7F702501EA") ∷ []

-- ---- a full queue

-- it is said twice that a message was dropped
abbrev pub dropped_twice : List Entry
dropped_twice = dropped_at_once ++ QueueFull 4 ∷ []

-- a message is dropped, and a tick, a session or what the host judges next stands before that is said
abbrev pub undropped_in_tick : List Entry
undropped_in_tick = awake_though_full ++ Held 5 ∷ Said (codes "tick 200") ∷ Time 150 ∷ []

abbrev pub undropped_before_session : List Entry
undropped_before_session = awake_though_full ++ Begin 2 1 1 ∷ []

abbrev pub undropped_before_unit : List Entry
undropped_before_unit = awake_though_full ++ chip_acknowledges ∷ host_acknowledges ∷ []

-- ---- aborts

-- a Set is aborted that still waits for its callback
abbrev pub aborted_early : List Entry
aborted_early = set_under_way ++ abort_sent ∷ []

-- ---- what comes at once

-- a node that is known and asks for a nonce in one line is told first that there is no more; and one that asks in the next line is not
abbrev pub told_before_report : List Entry → List Entry
told_before_report past = past ++ by_host (codes "010900136502840825012A") ∷ []

abbrev pub reported_before_told : List Entry
reported_before_told =
    awake_in_interview ++ Said (codes "chip 010D00498465070400003180846C00") ∷ keeper_known ∷ host_acknowledges ∷ Interviewed 101 ∷
    Said (codes "chip 0108000400650298404C") ∷ keeper_asks ∷ host_acknowledges ∷ nonce_for_keeper ∷ []
