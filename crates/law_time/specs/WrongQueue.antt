-- Transcripts like those of what waits and of third attempts that break their laws, one thing wrong in each.
use Rattle.std.specs.Prelude.{ℕ, ◌+◌, ◌-◌, List, [], ◌∷◌, ◌++◌, codes, drop, length, take}
use Rattle.zw_words.specs.declared.side.Side.TheVariants.{Host}
use Rattle.zw_text.specs.declared.entry.Ended.TheVariants as endings
use Rattle.zw_text.specs.declared.entry.Refusal.TheVariants as refusals
use Rattle.zw_text.specs.declared.entry.Entry.{Entry}
use Rattle.zw_text.specs.declared.entry.Entry.TheVariants.{Out, Refused, Said, Time, Written}
use Rattle.law_wire.specs.law_transcript.Worked.{bytes, sealed_exchange}
use Rattle.law_time.specs.WorkedQueue.{dropped_no_more, dropped_nonce, failed_attempts, resent_segments, silent_attempt}
use Rattle.law_time.specs.WorkedWaits.{full_queue, waited_attempts}

-- a transcript without so many entries at its end, or without the one at a place
abbrev pub without_end : ℕ → List Entry → List Entry
without_end count entries = take (length entries - count) entries

abbrev pub without_one : ℕ → List Entry → List Entry
without_one place entries = take place entries ++ drop (place + 1) entries

-- ---- third attempts

-- a command is given up after two attempts and a segment that was asked for again
abbrev pub given_up_by_resend : List Entry
given_up_by_resend = take 75 resent_segments ++ Out 1 endings.Unanswered ∷ []

-- it is not given up after the last segment of the third attempt
abbrev pub gone_on_after_segments : List Entry
gone_on_after_segments = without_end 1 resent_segments ++ Said (codes "tick 1") ∷ []

-- nor when no copy of the third attempt has arrived
abbrev pub gone_on_after_failing : List Entry
gone_on_after_failing = without_end 2 failed_attempts ++ Said (codes "tick 1") ∷ []

-- nor 100 ticks after the last callback
abbrev pub gone_on_after_waiting : List Entry
gone_on_after_waiting = without_end 2 waited_attempts ++ Said (codes "tick 1") ∷ []

-- nor 65 ticks after a response without a callback
abbrev pub gone_on_after_silence : List Entry
gone_on_after_silence = without_end 4 silent_attempt ++ Said (codes "tick 1") ∷ []

-- it is given up one tick before the fourth copy has ended, or 64 ticks after the response
abbrev pub given_up_before_failing : List Entry
given_up_before_failing = without_end 2 failed_attempts ++ Time 278 ∷ Out 1 endings.Unanswered ∷ []

abbrev pub given_up_before_silence : List Entry
given_up_before_silence = without_end 4 silent_attempt ++ Time 66 ∷ Out 1 endings.Unanswered ∷ []

-- ---- the queue

-- a question is refused that would be the 64th, and one let in that would be the 65th
abbrev pub refused_with_room : List Entry
refused_with_room = without_end 2 full_queue ++ Refused (refusals.QueueFull 64) ∷ []

abbrev pub let_in_though_full : List Entry
let_in_though_full = without_end 1 full_queue ++ Said (codes "tick 1") ∷ []

-- No More Information is dropped though 63 wait, or is not though 64 do
abbrev pub dropped_with_room : List Entry
dropped_with_room = without_one 61 dropped_no_more

abbrev pub waits_though_full : List Entry
waits_though_full = without_one 70 dropped_no_more

-- a Nonce Report is not dropped though 64 wait
abbrev pub reported_though_full : List Entry
reported_though_full = without_end 1 dropped_nonce ++ Said (codes "tick 1") ∷ []

-- ---- turns

-- a Nonce Get is sent before the Nonce Report that waits
abbrev pub up_to_nonce_get : List Entry
up_to_nonce_get = take 64 sealed_exchange

abbrev pub sent_before_report : List Entry
sent_before_report = up_to_nonce_get ++ Written Host (bytes (codes "010900130402984025041A")) ∷ []

-- a Get is sent before the abort that is owed, and an abort that is not
abbrev pub sent_before_abort : List Entry
sent_before_abort = without_end 2 silent_attempt ++ Said (codes "get 2") ∷ Written Host (bytes (codes "01090013020225022504E3")) ∷ []

abbrev pub aborted_unasked : List Entry
aborted_unasked = Said (codes "get 2") ∷ Written Host (bytes (codes "01030016EA")) ∷ []

-- ---- rests

-- a Nonce Report, a segment that was asked for, and an abort are not sent
abbrev pub left_unreported : List Entry
left_unreported = up_to_nonce_get ++ Time 108 ∷ []

abbrev pub left_unresent : List Entry
left_unresent = take 46 resent_segments ++ Said (codes "tick 1") ∷ []

abbrev pub left_unaborted : List Entry
left_unaborted = without_end 2 silent_attempt ++ Said (codes "tick 1") ∷ []
