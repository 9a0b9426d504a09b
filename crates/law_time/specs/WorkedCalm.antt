-- Worked moments that are calm and stretches, made by hand in the form in which the program prints them.
use Rattle.std.specs.Prelude.{true, List, [], ◌∷◌, ◌++◌, codes, drop, take}
use Rattle.zw_base.specs.declared.property.Name.TheVariants as names
use Rattle.zw_base.specs.declared.property.By.TheVariants.{Session}
use Rattle.zw_words.specs.declared.side.Side.TheVariants.{Host, Chip}
use Rattle.host_orders.specs.Settings.{setting}
use Rattle.zw_text.specs.declared.entry.Ended.TheVariants as endings
use Rattle.zw_text.specs.declared.entry.Entry.{Entry}
use Rattle.zw_text.specs.declared.entry.Entry.TheVariants.{Said, Accepted, Begin, Dropped, Garbled, Air, Heard, Lost, Dev, Out, Awake, Failed, ChipFull, Time, Unkept}
use Rattle.law_wire.specs.law_transcript.Worked.{bytes}
use Rattle.law_time.specs.WorkedTurns.{given_up_sleeper, given_up}
use Rattle.law_time.specs.WorkedUnits.{by_chip, by_host, chip_acknowledges, failed_asked, host_acknowledges, abort_sent, notified}
use Rattle.law_time.specs.WrongStretches.{accepted_as_switch}

-- ---- moments

-- a unit was lost, one answered by CAN and one changed, a frame was lost, and so was an acknowledgement, as lines ask for
abbrev pub has_failed : Entry
has_failed = by_chip (codes "010401620199")

abbrev pub units_used_up : List Entry
units_used_up =
    Said (codes "garble c 0 1") ∷ Said (codes "collide") ∷ Said (codes "drop h") ∷ Said (codes "failed 2") ∷ failed_asked ∷ Dropped Host ∷
    Said (codes "tick 60") ∷ Time 16 ∷ failed_asked ∷ by_chip (codes "18") ∷ Time 42 ∷ failed_asked ∷ chip_acknowledges ∷ has_failed ∷
    Garbled Chip (bytes (codes "010400620199")) ∷ by_host (codes "15") ∷ Time 53 ∷ has_failed ∷ host_acknowledges ∷ Failed 2 true ∷ []

abbrev pub frames_used_up : List Entry
frames_used_up =
    Said (codes "lose 1") ∷ Said (codes "loseack 1") ∷ Air 1 1 2 [] (bytes (codes "2502")) ∷ Air 2 1 2 [] (bytes (codes "2502")) ∷
    Said (codes "tick 1") ∷ Time 1 ∷ Lost 1 ∷ Heard 2 ∷ []

-- in tick 1 the chip dropped a frame, which may have been its answer to a payload
abbrev pub dropped_by_chip : List Entry
dropped_by_chip = Said (codes "tick 1") ∷ Time 1 ∷ ChipFull ∷ []

-- a tick has passed since a restart, and a node is awake that the host does not know
abbrev pub restarted_before : List Entry
restarted_before = Said (codes "restart") ∷ Said (codes "tick 1") ∷ []

abbrev pub awake_unknown : List Entry
awake_unknown = Said (codes "join 5") ∷ Awake 5 ∷ []

-- a command waits for a node that was given up: it sleeps, or its next series is to come
abbrev pub waiting_asleep : List Entry
waiting_asleep = given_up_sleeper ++ Said (codes "interval 5 600") ∷ Accepted 2 5 ∷ Said (codes "tick 200") ∷ []

abbrev pub given_up_before_series : List Entry
given_up_before_series =
    Said (codes "set 2 on") ∷ Accepted 1 2 ∷ Begin 2 1 1 ∷ Said (codes "set 2 off") ∷ Accepted 2 2 ∷ Out 1 endings.Unanswered ∷
    Said (codes "tick 99") ∷ []

-- a command was given up long ago and none waits; and one waits for a node whose session has ended, as the keeper has failed
abbrev pub given_up_long_ago : List Entry
given_up_long_ago = given_up ++ Said (codes "tick 200") ∷ []

abbrev pub waiting_unkept : List Entry
waiting_unkept = take 3 given_up ++ Out 1 endings.Success ∷ Said (codes "set 2 off") ∷ Accepted 2 2 ∷ Unkept 2 ∷ []

-- an abort is acknowledged: nothing else has come from the chip, or a frame before it
abbrev pub abort_alone : List Entry
abort_alone = abort_sent ∷ chip_acknowledges ∷ []

abbrev pub abort_after_frame : List Entry
abort_after_frame = notified ∷ host_acknowledges ∷ abort_alone

-- ---- stretches

-- the lines that a stretch may have, beside orders and `wake`
abbrev pub quiet_lines : List Entry
quiet_lines = Said (codes "cut 7") ∷ Said (codes "show 2") ∷ Said (codes "store 2") ∷ Said (codes "tick 1") ∷ []

-- a command that was accepted under another list has succeeded, or was taken back
abbrev pub succeeded_as_switch : List Entry
succeeded_as_switch = accepted_as_switch ++ Out 1 endings.Success ∷ []

abbrev pub cancelled_as_switch : List Entry
cancelled_as_switch = accepted_as_switch ++ Out 1 endings.Cancelled ∷ []

-- another order
abbrev pub ordered_again : List Entry
ordered_again = Said (codes "set 2 on") ∷ Accepted 2 2 ∷ []

-- ---- outcomes

-- five nodes become members of the group of node 2, which takes no sixth
abbrev pub five_members : List Entry
five_members =
    Dev 2 (Session 1) (setting 0 (names.Member 1 3) 1) ∷ Dev 2 (Session 2) (setting 0 (names.Member 1 4) 1) ∷
    Dev 2 (Session 3) (setting 0 (names.Member 1 5) 1) ∷ Dev 2 (Session 4) (setting 0 (names.Member 1 6) 1) ∷
    Dev 2 (Session 5) (setting 0 (names.Member 1 7) 1) ∷ []

abbrev pub sixth_asked : List Entry
sixth_asked = Said (codes "assoc 2 1 8") ∷ Accepted 2 2 ∷ Begin 2 2 2 ∷ []

-- those that it took after an earlier session count, and not those that it takes when the session has begun
abbrev pub first_answered : List Entry
first_answered = Said (codes "set 2 on") ∷ Accepted 1 2 ∷ Begin 2 1 1 ∷ Out 1 endings.Success ∷ []

abbrev pub sixth_failed : List Entry
sixth_failed = first_answered ++ five_members ++ sixth_asked ++ Out 2 endings.Fail ∷ []

abbrev pub sixth_before : List Entry
sixth_before = first_answered ++ sixth_asked ++ five_members ++ Out 2 endings.Success ∷ []

-- a command that waited begins its session
abbrev pub ordered_before : List Entry
ordered_before = take 2 first_answered

abbrev pub begun_following : List Entry
begun_following = drop 2 first_answered

-- a strip has no end point 9, and a dimmer takes its time
abbrev pub no_end_point : List Entry
no_end_point = Said (codes "set 2.9 on") ∷ Accepted 1 2 ∷ Begin 2 1 1 ∷ Out 1 endings.NoSupport ∷ []

abbrev pub dimmed : List Entry
dimmed = Said (codes "set 2 50") ∷ Accepted 1 2 ∷ Begin 2 1 1 ∷ Out 1 endings.Success ∷ []
