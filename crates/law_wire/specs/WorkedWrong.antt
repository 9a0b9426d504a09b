-- Transcripts like the worked ones with one entry changed, left out or put in.
use Rattle.std.specs.Prelude.{ℕ, ◌+◌, List, [], ◌∷◌, ◌++◌, codes, take, drop}
use Rattle.zw_words.specs.declared.side.Side.TheVariants.{Host, Chip}
use Rattle.zw_text.specs.declared.entry.Refusal.TheVariants.{KeeperFault}
use Rattle.zw_text.specs.declared.entry.Entry.{Entry}
use Rattle.zw_text.specs.declared.entry.Entry.TheVariants.{Said, Refused, Written, Dropped, Garbled, Air, Heard, Lost, Unheard, Time, Forget, ChipFull}
use Rattle.law_transcript.specs.Worked.{bytes, plain_exchange, lossy_exchange, restarted_host}
use Rattle.law_wire.specs.Worked.{rerouted, unroutable, untold, asleep, heard_twice, cut_off, aborted, questions, copied, garbled_frame, changed_in_turn}

-- a transcript with another entry at a place, without the one there, or with one more before it; places count from 0
abbrev pub changed_at : ℕ → Entry → List Entry → List Entry
changed_at place entry transcript = take place transcript ++ entry ∷ drop (place + 1) transcript

abbrev pub without_at : ℕ → List Entry → List Entry
without_at place transcript = take place transcript ++ drop (place + 1) transcript

abbrev pub with_more_at : ℕ → Entry → List Entry → List Entry
with_more_at place entry transcript = take place transcript ++ entry ∷ drop place transcript

-- ---- routes

-- a frame of the controller over a repeater that is not there, and over a route that is not the first
abbrev pub detoured : List Entry
detoured = changed_at 6 (Air 1 1 2 (10 ∷ []) (bytes (codes "6C0101032501FF"))) plain_exchange

abbrev pub second_choice : List Entry
second_choice = changed_at 26 (Air 1 1 10 (18 ∷ []) (bytes (codes "6C0101032501FF"))) rerouted

-- a frame of a device over a link that the air has not, and of a node that is not joined
abbrev pub straight_home : List Entry
straight_home = changed_at 42 (Air 3 10 1 [] (bytes (codes "6C0201FF00"))) rerouted

abbrev pub from_a_stranger : List Entry
from_a_stranger = changed_at 12 (Air 2 3 1 [] (bytes (codes "6C0201FF00"))) plain_exchange

-- a frame of a device that has no way, and shows a repeater
abbrev pub shows_a_way : List Entry
shows_a_way = Said (codes "join 5") ∷ Air 1 5 1 (2 ∷ []) (bytes (codes "8407")) ∷ []

-- ---- fates

-- a frame is lost without a mark, and unheard with its way live and its device awake
abbrev pub lost_for_nothing : List Entry
lost_for_nothing = changed_at 10 (Lost 1) plain_exchange

abbrev pub unheard_for_nothing : List Entry
unheard_for_nothing = changed_at 10 (Unheard 1) plain_exchange

-- a frame of a device is unheard though nothing is in its way
abbrev pub unheard_at_home : List Entry
unheard_at_home = changed_at 16 (Unheard 2) plain_exchange

-- a frame is heard over a dead link
abbrev pub heard_over_nothing : List Entry
heard_over_nothing = changed_at 30 (Heard 1) rerouted

-- a frame is heard that had no way, by a sensor that sleeps, and with a mark
abbrev pub heard_without_a_way : List Entry
heard_without_a_way = changed_at 6 (Heard 1) cut_off

abbrev pub heard_in_sleep : List Entry
heard_in_sleep = changed_at 40 (Heard 3) asleep

abbrev pub heard_though_lost : List Entry
heard_though_lost = changed_at 11 (Heard 1) (take 12 lossy_exchange)

-- a frame is repeated to a sensor that sleeps, and heard
abbrev pub heard_again_in_sleep : List Entry
heard_again_in_sleep = asleep ++ Said (codes "repeat 3") ∷ Heard 3 ∷ []

-- a frame that is repeated is not heard
abbrev pub not_repeated : List Entry
not_repeated = changed_at 26 (Said (codes "tick 1")) heard_twice

-- a dead hop is not forgotten, another one is, and one is for no reason
abbrev pub not_forgotten : List Entry
not_forgotten = without_at 31 rerouted

abbrev pub forgotten_otherwise : List Entry
forgotten_otherwise = changed_at 31 (Forget 1 2) rerouted

abbrev pub forgotten_freely : List Entry
forgotten_freely = with_more_at 11 (Forget 1 2) plain_exchange

-- ---- the chip

-- a SendData is taken and its frame held back, of another payload, or there twice
abbrev pub held_back : List Entry
held_back = without_at 6 plain_exchange

abbrev pub aired_otherwise : List Entry
aired_otherwise = changed_at 6 (Air 1 1 2 [] (bytes (codes "6C010103250100"))) plain_exchange

-- to another node
abbrev pub aired_to_another : List Entry
aired_to_another = changed_at 6 (Air 1 1 3 [] (bytes (codes "6C0101032501FF"))) plain_exchange

abbrev pub aired_again : List Entry
aired_again = with_more_at 7 (Air 2 1 2 [] (bytes (codes "6C0101032501FF"))) plain_exchange

-- a SendData is refused though none is under way
abbrev pub refused_though_idle : List Entry
refused_though_idle = changed_at 5 (Written Chip (bytes (codes "0104011300E9"))) plain_exchange

-- the callback says that nothing was acknowledged, and it comes before the frame has its fate
abbrev pub called_otherwise : List Entry
called_otherwise = changed_at 13 (Written Chip (bytes (codes "010500130101E9"))) plain_exchange

abbrev pub called_early : List Entry
called_early = changed_at 10 (Written Chip (bytes (codes "010500130100E8"))) plain_exchange

-- the chip brings another report than it heard
abbrev pub brought_otherwise : List Entry
brought_otherwise = changed_at 17 (Written Chip (bytes (codes "010B00040002056C0202FF0064"))) plain_exchange

-- the callback of a SendData without a route says that it was acknowledged
abbrev pub routed_nowhere : List Entry
routed_nowhere = changed_at 15 (Written Chip (bytes (codes "010500130100E8"))) unroutable

-- a node that cannot tell its information tells it
abbrev pub told_from_afar : List Entry
told_from_afar = changed_at 12 (Written Chip (bytes (codes "010D00498405070400003180846C60"))) untold

-- a node that can tell its information does not
abbrev pub not_told : List Entry
not_told = changed_at 19 (Written Chip (bytes (codes "0106004981000031"))) asleep

-- a SendData is taken though another is under way
abbrev pub taken_though_busy : List Entry
taken_though_busy = changed_at 11 (Written Chip (bytes (codes "0104011301E8"))) restarted_host

-- a SendData that was aborted has a second callback
abbrev pub called_twice : List Entry
called_twice = aborted ++ Written Chip (bytes (codes "010500130100E8")) ∷ []

-- a node has another neighbour than the table says, and has failed though no callback said so
abbrev pub neighbours_otherwise : List Entry
neighbours_otherwise = changed_at 10 (Written Chip (bytes (codes "0120018003000000000000000000000000000000000000000000000000000000005D"))) questions

abbrev pub failed_for_nothing : List Entry
failed_for_nothing = changed_at 16 (Written Chip (bytes (codes "010401620199"))) questions

-- a frame is dropped though none waits
abbrev pub full_of_nothing : List Entry
full_of_nothing = changed_at 13 ChipFull plain_exchange

-- ---- the serial line

-- the chip answers a frame that never came
abbrev pub answered_nothing : List Entry
answered_nothing = Written Chip (bytes (codes "06")) ∷ []

-- so does the host
abbrev pub host_answered_nothing : List Entry
host_answered_nothing = Written Host (bytes (codes "06")) ∷ []

-- a side begins a second frame though its first waits for an answer
abbrev pub spoken_over : List Entry
spoken_over = Written Chip (bytes (codes "010500130100E8")) ∷ Written Chip (bytes (codes "0104011301E8")) ∷ []

abbrev pub host_spoke_over : List Entry
host_spoke_over = Written Host (bytes (codes "01030002FE")) ∷ Written Host (bytes (codes "0104004105BF")) ∷ []

-- in a stall the host restarts, and answers what came before; and where the restart is refused
abbrev pub answered_over_restart : List Entry
answered_over_restart =
    Said (codes "stall 1") ∷ Written Chip (bytes (codes "010500130100E8")) ∷ Said (codes "restart") ∷ Said (codes "tick 1") ∷ Time 1 ∷
    Written Host (bytes (codes "06")) ∷ []

abbrev pub refused_restart : List Entry
refused_restart = with_more_at 3 (Refused KeeperFault) answered_over_restart

-- the first frame of the host is answered CAN
abbrev pub collided_at_once : List Entry
collided_at_once = Written Host (bytes (codes "01030002FE")) ∷ Written Chip (bytes (codes "18")) ∷ []

-- the callback of a SendData is left out, and what was heard after it is not
abbrev pub callback_left_out : List Entry
callback_left_out = without_at 13 (without_at 13 plain_exchange)

-- the chip has heard a report and its link is idle, and yet the host is not told
abbrev pub kept_to_itself : List Entry
kept_to_itself =
    Said (codes "local 2 255") ∷ Air 1 2 1 [] (bytes (codes "2503FF")) ∷ Said (codes "tick 1") ∷ Time 1 ∷ Heard 1 ∷ []

-- a unit is lost without a mark, and a marked one is not
abbrev pub lost_on_the_line : List Entry
lost_on_the_line = with_more_at 14 (Dropped Chip) plain_exchange

abbrev pub kept_on_the_line : List Entry
kept_on_the_line = without_at 16 copied

-- a frame is changed otherwise than its mark says, and not at all
abbrev pub changed_otherwise : List Entry
changed_otherwise = changed_at 5 (Garbled Host (bytes (codes "010E001302056C0101032501FF250177"))) garbled_frame

abbrev pub not_changed : List Entry
not_changed = without_at 5 garbled_frame

-- the newer change is taken first, and a frame is changed by a mark that has been used
abbrev pub changed_out_of_turn : List Entry
changed_out_of_turn = changed_at 3 (Garbled Host (bytes (codes "010E001302056C0101032501FF250177"))) changed_in_turn

abbrev pub changed_twice : List Entry
changed_twice = without_at 1 changed_in_turn

-- a frame is answered CAN though no line asks for it, and ACK though one does
abbrev pub collided_freely : List Entry
collided_freely = changed_at 4 (Written Chip (bytes (codes "18"))) plain_exchange

abbrev pub not_collided : List Entry
not_collided = changed_at 5 (Written Chip (bytes (codes "06"))) heard_twice
