-- Transcripts like the worked ones with one entry changed, left out or put in, so that they break the laws of how requests end, of waking and
-- holds, of attempts, of the queue and of rests.
use Rattle.std.specs.Prelude.{false, List, [], ◌∷◌, ◌++◌, codes, take, drop}
use Rattle.zw_words.specs.declared.side.Side.TheVariants.{Host, Chip}
use Rattle.zw_text.specs.declared.entry.Ended.TheVariants as endings
use Rattle.zw_text.specs.declared.entry.Done.TheVariants as done
use Rattle.zw_text.specs.declared.entry.Refusal.TheVariants as refusals
use Rattle.zw_text.specs.declared.entry.Entry.{Entry}
use Rattle.zw_text.specs.declared.entry.Entry.TheVariants.{Said, Accepted, Refused, Written, Air, Heard, Out, Awake, Asleep, Held, Interviewed, InterviewFailed, Done, Neighbours, Failed, QueueFull, Time}
use Rattle.law_wire.specs.law_transcript.Worked.{bytes, lossy_exchange, plain_exchange, sleeping_node}
use Rattle.law_time.specs.WorkedLate.{late_answer}
use Rattle.law_time.specs.WorkedQueue.{dropped_no_more}
use Rattle.law_time.specs.WorkedStretches.{with_other}
use Rattle.law_time.specs.WorkedWaits.{answered_errands, full_queue, not_idle_errand, refused_errand, unrouted_errand}

-- ---- how requests end

-- it is said of another node how a Set ended
abbrev pub said_of_another : List Entry
said_of_another = with_other 11 (Done 3 done.Delivered) answered_errands

-- a Set without a route is said to have found the chip not idle; so is one that was refused; and one that was called back as not idle is
-- said to have had no route
abbrev pub said_not_idle : List Entry
said_not_idle = with_other 9 (Done 2 done.NotIdle) unrouted_errand

abbrev pub refused_as_not_idle : List Entry
refused_as_not_idle = with_other 5 (Done 2 done.NotIdle) refused_errand

abbrev pub said_unrouted : List Entry
said_unrouted = with_other 9 (Done 2 done.NoRoute) not_idle_errand

-- the neighbours of another node are told, and a node is said not to have failed that has
abbrev pub neighbours_of_another : List Entry
neighbours_of_another = with_other 30 (Neighbours 3 (1 ∷ [])) answered_errands

abbrev pub failed_otherwise : List Entry
failed_otherwise = with_other 36 (Failed 2 false) answered_errands

-- a question is answered by a response that comes when it has ended in silence
abbrev pub answered_late : List Entry
answered_late = take 21 late_answer ++ Neighbours 2 (1 ∷ []) ∷ drop 21 late_answer

-- an interview of another node succeeds
abbrev pub interviewed_of_another : List Entry
interviewed_of_another = with_other 21 (Interviewed 6) sleeping_node

-- the first request of an interview has no response, and the information comes
abbrev pub informed_alone : List Entry
informed_alone =
    Said (codes "interview 2") ∷ Written Host (bytes (codes "0104004102B8")) ∷ Written Chip (bytes (codes "06")) ∷ Said (codes "tick 16") ∷ Time 15 ∷
    Written Host (bytes (codes "010400600299")) ∷ Written Chip (bytes (codes "06")) ∷ Written Chip (bytes (codes "01040160019B")) ∷
    Written Host (bytes (codes "06")) ∷ Time 16 ∷ Written Chip (bytes (codes "010C004984020604000025856CF2")) ∷ Written Host (bytes (codes "06")) ∷ []

-- so it fails; here it succeeds
abbrev pub failed_unknown : List Entry
failed_unknown = informed_alone ++ InterviewFailed 2 ∷ []

abbrev pub interviewed_unknown : List Entry
interviewed_unknown = informed_alone ++ Interviewed 2 ∷ []

-- ---- waking and holds

-- a node that listens counts as asleep when it is given up
abbrev pub asleep_though_listening : List Entry
asleep_though_listening =
    Air 1 2 1 [] (bytes (codes "8407")) ∷ Said (codes "tick 1") ∷ Time 1 ∷ Heard 1 ∷ Written Chip (bytes (codes "01080004000202840770")) ∷
    Written Host (bytes (codes "06")) ∷ Awake 2 ∷ take 33 lossy_exchange ++ Asleep 2 ∷ []

-- a node that listens asks to be held, and is
abbrev pub held_though_listening : List Entry
held_though_listening = take 17 plain_exchange ++ Written Chip (bytes (codes "010B00040002056C0241FF0027")) ∷ drop 18 plain_exchange ++ Held 2 ∷ []

-- ---- attempts

-- a command is given up that has no session
abbrev pub given_up_unbegun : List Entry
given_up_unbegun = Said (codes "set 2 on") ∷ Accepted 1 2 ∷ Out 1 endings.Unanswered ∷ []

-- ---- the queue

-- a line is refused for a queue of 63
abbrev pub refused_for_fewer : List Entry
refused_for_fewer = with_other 24 (Refused (refusals.QueueFull 63)) full_queue

-- a message is dropped, and that is said of another node
abbrev pub dropped_of_another : List Entry
dropped_of_another = with_other 70 (QueueFull 2) dropped_no_more

-- the message of a session is sent again after its end
abbrev pub sent_after_end : List Entry
sent_after_end = plain_exchange ++ Written Host (bytes (codes "010E001302076C0101032501FF250274")) ∷ []

-- ---- rests

-- a Get has ended in silence, 15 ticks after its acknowledgement, and that is not said
abbrev pub left_unsaid_in_silence : List Entry
left_unsaid_in_silence =
    Said (codes "get 2") ∷ Written Host (bytes (codes "01090013020225022501E6")) ∷ Written Chip (bytes (codes "06")) ∷ Said (codes "tick 15") ∷ []

-- both requests of an interview have ended so, and that it failed is not said
abbrev pub left_unended_in_silence : List Entry
left_unended_in_silence =
    Said (codes "interview 2") ∷ Written Host (bytes (codes "0104004102B8")) ∷ Written Chip (bytes (codes "06")) ∷ Said (codes "tick 31") ∷ Time 15 ∷
    Written Host (bytes (codes "010400600299")) ∷ Written Chip (bytes (codes "06")) ∷ []
