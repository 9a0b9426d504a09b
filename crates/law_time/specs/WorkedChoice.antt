-- Worked transcripts of which request is next where none waits, made by hand in the form in which the program prints them.
use Rattle.std.specs.Prelude.{List, [], ◌∷◌, ◌++◌, codes, take}
use Rattle.law_wire.specs.device_kinds.declared.kind.Kind.TheVariants as kinds
use Rattle.law_wire.specs.device_stack.State.{State, fresh}
use Rattle.zw_text.specs.declared.entry.Done.TheVariants as done
use Rattle.zw_text.specs.declared.entry.Entry.{Entry}
use Rattle.zw_text.specs.declared.entry.Entry.TheVariants.{Said, Accepted, Begin, Awake, Interviewed, Done, Unkept, Time}
use Rattle.law_wire.specs.law_transcript.Worked.{long_message}
use Rattle.law_time.specs.WorkedAttempts.{second_attempt, third_attempt, unkept_order, working}
use Rattle.law_time.specs.WorkedEnds.{set_under_way}
use Rattle.law_time.specs.WorkedTurns.{first_sent, given_up, given_up_plug}
use Rattle.law_time.specs.WorkedUnits.{abort_sent, by_chip, by_host, chip_acknowledges, chip_denies, delivered, failed, host_acknowledges, message_sent, nonce_asked, not_acknowledged, set_sent, taken}

-- ---- attempts

-- the message of session 1 to node 2 is sent; it is not acknowledged, and the first attempt is over
abbrev pub begun : List Entry
begun = take 3 given_up ++ message_sent ∷ []

abbrev pub first_over : List Entry
first_over = begun ++ not_acknowledged ∷ host_acknowledges ∷ []

-- the second one begins, also where a Set was sent before the session began, and where a Get goes before it
abbrev pub set_before : List Entry
set_before = Said (codes "send 2 on") ∷ set_sent ∷ first_over

abbrev pub again_after_set : List Entry
again_after_set = set_before ++ second_attempt ∷ []

abbrev pub get_sent : Entry
get_sent = by_host (codes "01090013020225022502E5")

abbrev pub again_after_get : List Entry
again_after_get = first_over ++ Said (codes "get 2") ∷ get_sent ∷ third_attempt ∷ []

-- the message is delivered, and the second attempt begins 100 ticks later
abbrev pub first_taken : List Entry
first_taken = begun ++ chip_acknowledges ∷ taken ∷ host_acknowledges ∷ Said (codes "tick 100") ∷ Time 1 ∷ delivered ∷ host_acknowledges ∷ []

abbrev pub again_after_wait : List Entry
again_after_wait = first_taken ++ Said (codes "tick 10") ∷ Time 101 ∷ second_attempt ∷ []

-- a Get is under way then, and the node tells that it is at work when the attempt is over
abbrev pub again_though_working : List Entry
again_though_working =
    first_taken ++ Said (codes "get 2") ∷ get_sent ∷ chip_acknowledges ∷ taken ∷ host_acknowledges ∷ Said (codes "tick 10") ∷ Time 102 ∷ working ∷
    host_acknowledges ∷ by_chip (codes "010500130200EB") ∷ host_acknowledges ∷ Done 2 done.Delivered ∷ third_attempt ∷ []

-- ---- segments

-- the first segment is not acknowledged, and the second one follows; it fails, and the next attempt begins
abbrev pub segment_begun : List Entry
segment_begun = take 6 given_up_plug ++ first_sent ∷ []

abbrev pub second_sent_next : Entry
second_sent_next = by_host (codes "01160013080F55E02F102701010101010101018A7725028A")

abbrev pub segment_after_lost : List Entry
segment_after_lost = segment_begun ++ not_acknowledged ∷ host_acknowledges ∷ second_sent_next ∷ []

abbrev pub first_sent_next : Entry
first_sent_next = by_host (codes "01340013082D55C02F106C01012B70070000250101010101010101010101010101010101010101010101010101010101014E7A250251")

abbrev pub segment_after_failed : List Entry
segment_after_failed = segment_begun ++ failed ∷ host_acknowledges ∷ first_sent_next ∷ []

-- ---- nonces

-- a session of node 4, a lock, begins with a Nonce Get
abbrev pub lock_begun : List Entry
lock_begun =
    Said (codes "join 4") ∷ Interviewed 4 ∷ Said (codes "set 4 on") ∷ Accepted 1 4 ∷ Awake 4 ∷ Begin 4 1 1 ∷ []

abbrev pub nonce_get_sent : Entry
nonce_get_sent = by_host (codes "010900130402984025011F")

abbrev pub lock_asked : List Entry
lock_asked = lock_begun ++ nonce_get_sent ∷ []

-- the lock gives its first nonce, and its second one, and a text is sealed for each, with callback id 2
abbrev pub nonce_come : Entry
nonce_come = by_chip (codes "0110000400040A988001A1A2A3A4A5A6A75C")

abbrev pub second_nonce_come : Entry
second_nonce_come = by_chip (codes "0110000400040A988002A1A2A3A4A5A6A75F")

abbrev pub sealed_sent : Entry
sealed_sent = by_host (codes "011E0013041798810101010101010101AABBCCDD0101020304050607082502D6")

abbrev pub sealed_for_second : Entry
sealed_for_second = by_host (codes "011E0013041798810101010101010101AABBCCDD0201020304050607082502D5")

-- the message is sealed for the first nonce; that is lost, and the next attempt is given the same nonce, or the next
abbrev pub sealed_once : List Entry
sealed_once = lock_asked ++ nonce_come ∷ host_acknowledges ∷ sealed_sent ∷ []

abbrev pub asked_again : List Entry
asked_again = sealed_once ++ by_chip (codes "010500130201EA") ∷ host_acknowledges ∷ by_host (codes "010900130402984025031D") ∷ []

abbrev pub sealed_for_same : List Entry
sealed_for_same = asked_again ++ nonce_come ∷ host_acknowledges ∷ by_host (codes "011E0013041798810101010101010101AABBCCDD0101020304050607082504D0") ∷ []

abbrev pub sealed_for_next : List Entry
sealed_for_next =
    asked_again ++ second_nonce_come ∷ host_acknowledges ∷ by_host (codes "011E0013041798810101010101010101AABBCCDD0201020304050607082504D3") ∷ []

-- the chip denies four copies of the Nonce Get, the last one after the nonce has come: the host judges that first, so it counts, and the next attempt is given the next one
abbrev pub nonce_get_again : Entry
nonce_get_again = by_host (codes "010900130402984025021C")

abbrev pub sealed_for_second_next : Entry
sealed_for_second_next = by_host (codes "011E0013041798810101010101010101AABBCCDD0201020304050607082503D4")

abbrev pub four_copies : List Entry
four_copies =
    lock_asked ++ chip_denies ∷ Said (codes "tick 40") ∷ Time 1 ∷ nonce_get_sent ∷ chip_denies ∷ Time 12 ∷ nonce_get_sent ∷ chip_denies ∷ Time 33 ∷
    nonce_get_sent ∷ []

abbrev pub sealed_after_denial : List Entry
sealed_after_denial =
    four_copies ++ nonce_come ∷ chip_denies ∷ host_acknowledges ∷ nonce_get_again ∷ second_nonce_come ∷ host_acknowledges ∷ sealed_for_second_next ∷ []

-- a lock that is taken for a switch at first
abbrev pub the_near_lock : State
the_near_lock = fresh 2 kinds.Lock []

-- the nonces are counted over a restart, and where the keeper fails for another node
abbrev pub sealed_over_restart : List Entry
sealed_over_restart =
    lock_asked ++ nonce_come ∷ host_acknowledges ∷ Said (codes "restart") ∷ Awake 4 ∷ nonce_get_sent ∷ second_nonce_come ∷ host_acknowledges ∷
    sealed_for_second ∷ []

abbrev pub sealed_beside_unkept : List Entry
sealed_beside_unkept = lock_asked ++ nonce_come ∷ host_acknowledges ∷ Unkept 5 ∷ sealed_sent ∷ []

-- ---- two nodes

-- commands wait for node 2 and for node 5, which is awake
abbrev pub both_wait : List Entry
both_wait =
    Said (codes "join 5") ∷ Awake 5 ∷ Said (codes "set 2 on") ∷ Accepted 1 2 ∷ Said (codes "interval 5 300") ∷ Accepted 2 5 ∷ []

-- node 2 is served first; its attempt is over, and node 5 is next, then node 2 again
abbrev pub first_served : List Entry
first_served = both_wait ++ Begin 2 1 1 ∷ message_sent ∷ not_acknowledged ∷ host_acknowledges ∷ []

abbrev pub second_served : List Entry
second_served =
    first_served ++ Begin 5 1 2 ∷ by_host (codes "01110013050A6C010106840400012C01250213") ∷ by_chip (codes "010500130201EA") ∷ host_acknowledges ∷ []

abbrev pub first_again : List Entry
first_again = second_served ++ third_attempt ∷ []

-- a host that starts has served none
abbrev pub restarted_beside : List Entry
restarted_beside = both_wait ++ Begin 2 1 1 ∷ message_sent ∷ Said (codes "restart") ∷ Awake 5 ∷ []

abbrev pub first_after_restart : List Entry
first_after_restart = restarted_beside ++ message_sent ∷ []

-- ---- sessions that begin

-- the keeper fails to keep that the session of node 2 begins, and that of node 5 does
abbrev pub sleeper_begun : List Entry
sleeper_begun = Begin 5 1 2 ∷ by_host (codes "01110013050A6C010106840400012C01250110") ∷ []

abbrev pub begun_beside_unkept : List Entry
begun_beside_unkept = both_wait ++ Unkept 2 ∷ sleeper_begun

-- the keeper fails to keep that a nonce is given to a node, and its session begins
abbrev pub begun_after_unkept : List Entry
begun_after_unkept =
    Said (codes "join 4") ∷ Awake 4 ∷ Said (codes "set 4 on") ∷ Accepted 1 4 ∷ nonce_asked ∷ host_acknowledges ∷ Unkept 4 ∷ Begin 4 1 1 ∷ []

-- a host that starts in the tick in which the keeper had failed begins it
abbrev pub begun_after_restart : List Entry
begun_after_restart = unkept_order ++ Said (codes "restart") ∷ Begin 2 1 1 ∷ message_sent ∷ []

-- a session begins after an abort
abbrev pub silent_set : List Entry
silent_set = take 5 set_under_way ++ Said (codes "set 2 on") ∷ Accepted 1 2 ∷ Said (codes "tick 65") ∷ Time 65 ∷ Done 2 done.Silent ∷ []

abbrev pub begun_after_abort : List Entry
begun_after_abort = silent_set ++ abort_sent ∷ chip_acknowledges ∷ Begin 2 1 1 ∷ by_host (codes "010E001302076C0101032501FF250274") ∷ []

-- ---- callback ids

-- a message has the last id, and the next one has the first
abbrev pub last_id_sent : Entry
last_id_sent = by_host (codes "010A001302032501FF25FFE6")

abbrev pub sent_after_last : Entry
sent_after_last = message_sent

-- ---- rests

-- the second segment fails, and the next attempt begins in that tick
abbrev pub second_failed : List Entry
second_failed = take 34 long_message ++ Time 4 ∷ by_chip (codes "010500130202E9") ∷ host_acknowledges ∷ []

abbrev pub attempt_follows : List Entry
attempt_follows =
    second_failed ++
    by_host (codes "01340013082D55C02F106C01012B70070000250101010101010101010101010101010101010101010101010101010101014E7A250350") ∷ Time 5 ∷ []
