-- A frame on the air and what came after it, just below and at each bound up to which it may be heard again; made by hand.
use Rattle.std.specs.Prelude.{ℕ, zero, suc, List, [], ◌∷◌, ◌++◌, codes, replicate}
use Rattle.zw_text.specs.declared.entry.Entry.{Entry}
use Rattle.zw_text.specs.declared.entry.Entry.TheVariants.{Begin, Air}
use Rattle.law_transcript.specs.Worked.{bytes}

-- a message, a report, a segment and a sealed message, each as the first frame
abbrev pub message_sent : Entry
message_sent = Air 1 1 2 [] (bytes (codes "6C0101032501FF"))

abbrev pub report_sent : Entry
report_sent = Air 1 2 1 [] (bytes (codes "2503FF"))

abbrev pub segment_sent : Entry
segment_sent = Air 1 1 2 [] (bytes (codes "55C02F106C01012B"))

abbrev pub sealed_sent : Entry
sealed_sent = Air 1 1 2 [] (bytes (codes "988100000000000000000000000000000000010000000000000000"))

-- so many sessions of a node, from this number on
abbrev pub begun_from : ℕ → ℕ → ℕ → List Entry
begun_from node session zero = []
begun_from node session (suc count) = Begin node session session ∷ begun_from node (suc session) count

-- so many frames, from this number on, in each of which one node shows another a nonce of its own
abbrev pub shown_from : ℕ → ℕ → ℕ → ℕ → List Entry
shown_from sender receiver frame zero = []
shown_from sender receiver frame (suc count) =
    Air frame sender receiver [] (0x98 ∷ 0x80 ∷ frame ∷ replicate 7 0) ∷ shown_from sender receiver (suc frame) count

-- the message, and then so many frames
abbrev pub then_sent : ℕ → List Entry
then_sent count = message_sent ∷ replicate count (Air 2 2 1 [] (bytes (codes "2503FF")))

-- the frame, and then so many sessions of its node
abbrev pub then_begun : Entry → ℕ → List Entry
then_begun sent count = sent ∷ begun_from 2 1 count

-- the frame, and then so many nonces of its node and so many of the controller
abbrev pub then_shown : Entry → ℕ → ℕ → List Entry
then_shown sent own others = sent ∷ shown_from 2 1 2 own ++ shown_from 1 2 (suc (suc own)) others

-- the message, and then sessions of another node
abbrev pub others_begun : List Entry
others_begun = message_sent ∷ begun_from 3 1 62

-- the sealed message, and then one nonce shown many times
abbrev pub shown_again : List Entry
shown_again = sealed_sent ∷ replicate 120 (Air 2 2 1 [] (0x98 ∷ 0x80 ∷ replicate 8 1))

-- sessions of its node, and then the message
abbrev pub begun_before : List Entry
begun_before = begun_from 2 1 62 ++ message_sent ∷ []

-- nonces of both ends, and then a sealed message
abbrev pub shown_before : List Entry
shown_before =
    shown_from 2 1 1 60 ++ (shown_from 1 2 61 60
    ++ Air 121 1 2 [] (bytes (codes "988100000000000000000000000000000000010000000000000000")) ∷ [])

-- the sealed message, and then nonces of another node
abbrev pub others_shown : List Entry
others_shown = sealed_sent ∷ shown_from 3 1 2 120
