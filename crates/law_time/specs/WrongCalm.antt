-- Moments that are not calm, and stretches that are invalid, one thing wrong in each.
use Rattle.std.specs.Prelude.{ℕ, zero, suc, List, [], ◌∷◌, ◌++◌, codes, take}
use Rattle.zw_words.specs.declared.side.Side.TheVariants.{Chip, Host}
use Rattle.zw_text.specs.declared.entry.Ended.TheVariants as endings
use Rattle.zw_text.specs.declared.entry.Entry.{Entry}
use Rattle.zw_text.specs.declared.entry.Entry.TheVariants.{Said, Accepted, Air, Cleared, Heard, Out, Interviewed, Time, Garbled}
use Rattle.law_wire.specs.law_transcript.Worked.{bytes}
use Rattle.law_time.specs.WorkedCalm.{dimmed, five_members, no_end_point, sixth_asked, first_answered, has_failed}
use Rattle.law_time.specs.WorkedUnits.{by_chip, by_host, chip_acknowledges, host_acknowledges, failed_asked}

-- ---- moments

-- an acknowledgement is to be lost: neither the frame of a device that was heard uses that up, nor one that is repeated
abbrev pub device_heard : List Entry
device_heard = Said (codes "loseack 1") ∷ Air 1 2 1 [] (bytes (codes "250300")) ∷ Said (codes "tick 1") ∷ Time 1 ∷ Heard 1 ∷ []

abbrev pub heard_again : List Entry
heard_again =
    Air 1 1 2 [] (bytes (codes "2502")) ∷ Said (codes "tick 1") ∷ Time 1 ∷ Heard 1 ∷ Said (codes "loseack 1") ∷ Said (codes "repeat 1") ∷ Heard 1 ∷ []

-- CAN is asked for, and the host has written it
abbrev pub cancelled_by_host : List Entry
cancelled_by_host = Said (codes "collide") ∷ by_host (codes "18") ∷ []

-- the chip waits, as its frame was changed and denied
abbrev pub denied_frame : List Entry
denied_frame =
    Said (codes "garble c 0 1") ∷ Said (codes "failed 2") ∷ failed_asked ∷ chip_acknowledges ∷ has_failed ∷
    Garbled Chip (bytes (codes "010400620199")) ∷ by_host (codes "15") ∷ []

-- the chip has taken a question for what a node lists after the host gave it up: what it lists is to come
abbrev pub information_owed : List Entry
information_owed = Said (codes "tick 1") ∷ Time 1 ∷ by_chip (codes "01040160019B") ∷ host_acknowledges ∷ []

-- so often the chip writes a frame, by which it did not take a question, and the host acknowledges it
abbrev pub in_turns : ℕ → List Entry
in_turns zero = []
in_turns (suc turns) = by_chip (codes "01040160009A") ∷ host_acknowledges ∷ in_turns turns

-- in as many passes as a tick has: the last acknowledgement may be on its way
abbrev pub unsettled : List Entry
unsettled = Said (codes "tick 1") ∷ Time 1 ∷ in_turns 64

-- and in one less
abbrev pub just_settled : List Entry
just_settled = Said (codes "tick 1") ∷ Time 1 ∷ in_turns 63

-- such an acknowledgement is lost in a restart, so that the chip is to write its frame again
abbrev pub cleared_acknowledgement : List Entry
cleared_acknowledgement =
    Said (codes "tick 1") ∷ Time 1 ∷ by_chip (codes "01040160009A") ∷ host_acknowledges ∷ Said (codes "restart") ∷ Cleared Host 1 ∷ Said (codes "tick 1") ∷ []

-- ---- stretches

-- a stale response makes the host take node 5 to listen
abbrev pub taken_to_listen : List Entry
taken_to_listen =
    Said (codes "join 5") ∷ by_host (codes "0104004105BF") ∷ chip_acknowledges ∷ by_chip (codes "0109014180000004000032") ∷ host_acknowledges ∷
    by_host (codes "01040060059E") ∷ chip_acknowledges ∷ by_chip (codes "010D00498405070400003180846C60") ∷ host_acknowledges ∷ Interviewed 5 ∷ []

abbrev pub sleeper_ordered : List Entry
sleeper_ordered = Said (codes "interval 5 300") ∷ Accepted 1 5 ∷ []

-- a node is woken that has not joined
abbrev pub woken_unjoined : List Entry
woken_unjoined = Said (codes "wake 9") ∷ []

-- 500 ticks have passed, and not since the last order, or since the last `wake` line
abbrev pub ordered_late : List Entry
ordered_late = Said (codes "set 2 on") ∷ Accepted 1 2 ∷ Said (codes "tick 499") ∷ Said (codes "set 2 off") ∷ Accepted 2 2 ∷ Said (codes "tick 501") ∷ []

abbrev pub woken_late : List Entry
woken_late = Said (codes "interval 5 300") ∷ Accepted 1 5 ∷ Said (codes "tick 1") ∷ Said (codes "wake 5") ∷ Said (codes "tick 499") ∷ []

-- ---- outcomes

-- a sixth member is taken, an end point that is not there fails, and a command is taken back
abbrev pub sixth_taken : List Entry
sixth_taken = first_answered ++ five_members ++ sixth_asked ++ Out 2 endings.Success ∷ []

abbrev pub failed_end_point : List Entry
failed_end_point = take 3 no_end_point ++ Out 1 endings.Fail ∷ []

abbrev pub taken_back : List Entry
taken_back = take 3 dimmed ++ Out 1 endings.Cancelled ∷ []
