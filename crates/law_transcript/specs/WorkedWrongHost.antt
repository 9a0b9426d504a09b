-- Transcripts like the worked ones that break the laws of answers, of stored values and of frames, one thing wrong in each.
use Rattle.std.specs.Prelude.{List, [], ◌∷◌, ◌++◌, codes}
use Rattle.zw_base.specs.declared.property.Name.TheVariants as names
use Rattle.zw_base.specs.declared.property.By.TheVariants.{Session}
use Rattle.zw_words.specs.declared.side.Side.TheVariants.{Host, Chip}
use Rattle.host_orders.specs.Settings.{setting}
use Rattle.zw_text.specs.declared.entry.Ended.TheVariants as endings
use Rattle.zw_text.specs.declared.entry.Refusal.TheVariants as refusals
use Rattle.zw_text.specs.declared.entry.Entry.{Entry}
use Rattle.zw_text.specs.declared.entry.Entry.TheVariants.{Said, Accepted, Refused, Begin, Written, Air, Heard, Lost, Unheard, Dev, Out, Store, Time}
use Rattle.law_transcript.specs.Worked.{bytes, plain_exchange}
use Rattle.law_transcript.specs.WorkedCases.{ended_so}

-- an order has no answer before the next line
abbrev pub unanswered : List Entry
unanswered =
    Said (codes "set 2 on") ∷ Said (codes "tick 2") ∷ []

-- an order is the last line, and has no answer
abbrev pub unanswered_at_last : List Entry
unanswered_at_last =
    Said (codes "set 2 on") ∷ []

-- the keeper fails for an order that is refused anyway
abbrev pub failed_for_nothing : List Entry
failed_for_nothing =
    Said (codes "set 3 on") ∷ Refused refusals.KeeperFault ∷ []

-- a line that is no order is refused for nothing, or gets a number
abbrev pub line_refused : List Entry
line_refused =
    Said (codes "join 5") ∷ Refused refusals.AlreadyJoined ∷ []

abbrev pub line_numbered : List Entry
line_numbered =
    Said (codes "tick 1") ∷ Accepted 1 2 ∷ []

-- an order is refused that should have been let in
abbrev pub refused_freely : List Entry
refused_freely =
    Said (codes "set 2 on") ∷ Refused refusals.BadValue ∷ []

-- an order gets another number than the next
abbrev pub numbered_wrongly : List Entry
numbered_wrongly =
    Said (codes "set 2 on") ∷ Accepted 2 2 ∷ []

-- an order gets the number of a command of another node
abbrev pub numbered_for_another : List Entry
numbered_for_another =
    Said (codes "set 2 on") ∷ Accepted 1 3 ∷ []

-- an answer stands after no line
abbrev pub answered_unasked : List Entry
answered_unasked =
    Accepted 1 2 ∷ []

abbrev pub refused_unasked : List Entry
refused_unasked =
    Refused refusals.NotJoined ∷ []

-- a line that is to be refused is the last one, and is not
abbrev pub joined_at_last : List Entry
joined_at_last =
    Said (codes "join 2") ∷ []

-- a node joins that is joined
abbrev pub joined_again : List Entry
joined_again =
    Said (codes "join 2") ∷ Time 1 ∷ []

-- a command is taken back though no line asks for it
abbrev pub cancelled_unasked : List Entry
cancelled_unasked =
    Said (codes "set 2 on") ∷ Accepted 1 2 ∷ Out 1 endings.Cancelled ∷ []

-- a command is taken back that has begun
abbrev pub cancelled_late : List Entry
cancelled_late =
    Said (codes "set 2 on") ∷ Accepted 1 2 ∷ Begin 2 1 1 ∷
    Written Host (bytes (codes "010E001302076C0101032501FF250177")) ∷ Written Chip (bytes (codes "06")) ∷
    Written Chip (bytes (codes "0104011301E8")) ∷ Air 1 1 2 [] (bytes (codes "6C0101032501FF")) ∷
    Written Host (bytes (codes "06")) ∷ Said (codes "cancel 1") ∷ Out 1 endings.Cancelled ∷ []

-- a line that takes a command back is passed over
abbrev pub passed_over : List Entry
passed_over =
    Said (codes "set 2 on") ∷ Accepted 1 2 ∷ Said (codes "cancel 1") ∷ Time 1 ∷ []

-- a command waits, and the line that takes it back is refused
abbrev pub cancel_refused : List Entry
cancel_refused =
    Said (codes "set 2 on") ∷ Accepted 1 2 ∷ Said (codes "cancel 1") ∷ Refused (refusals.NotWaiting 1) ∷ []

-- a line takes one command back, and another is
abbrev pub cancelled_another : List Entry
cancelled_another =
    Said (codes "set 2 on") ∷ Accepted 1 2 ∷ Said (codes "set 2 off") ∷ Accepted 2 2 ∷ Said (codes "cancel 1") ∷ Out 2 endings.Cancelled ∷ []

-- a success confirms nothing
abbrev pub not_stored : List Entry
not_stored =
    Said (codes "set 2 on") ∷ Accepted 1 2 ∷ Begin 2 1 1 ∷
    Written Host (bytes (codes "010E001302076C0101032501FF250177")) ∷ Written Chip (bytes (codes "06")) ∷
    Written Chip (bytes (codes "0104011301E8")) ∷ Air 1 1 2 [] (bytes (codes "6C0101032501FF")) ∷
    Written Host (bytes (codes "06")) ∷ Said (codes "tick 2") ∷ Time 1 ∷ Heard 1 ∷
    Dev 2 (Session 1) (setting 0 names.Switch 255) ∷ Air 2 2 1 [] (bytes (codes "6C0201FF00")) ∷
    Written Chip (bytes (codes "010500130100E8")) ∷ Written Host (bytes (codes "06")) ∷ Time 2 ∷ Heard 2 ∷
    Written Chip (bytes (codes "010B00040002056C0201FF0067")) ∷ Written Host (bytes (codes "06")) ∷
    Out 1 endings.Success ∷ []

-- a success confirms another value
abbrev pub stored_otherwise : List Entry
stored_otherwise =
    Said (codes "set 2 on") ∷ Accepted 1 2 ∷ Begin 2 1 1 ∷
    Written Host (bytes (codes "010E001302076C0101032501FF250177")) ∷ Written Chip (bytes (codes "06")) ∷
    Written Chip (bytes (codes "0104011301E8")) ∷ Air 1 1 2 [] (bytes (codes "6C0101032501FF")) ∷
    Written Host (bytes (codes "06")) ∷ Said (codes "tick 2") ∷ Time 1 ∷ Heard 1 ∷
    Dev 2 (Session 1) (setting 0 names.Switch 255) ∷ Air 2 2 1 [] (bytes (codes "6C0201FF00")) ∷
    Written Chip (bytes (codes "010500130100E8")) ∷ Written Host (bytes (codes "06")) ∷ Time 2 ∷ Heard 2 ∷
    Written Chip (bytes (codes "010B00040002056C0201FF0067")) ∷ Written Host (bytes (codes "06")) ∷
    Out 1 endings.Success ∷ Store 2 (setting 0 names.Switch 0) ∷ []

-- a value is confirmed before the success
abbrev pub stored_before : List Entry
stored_before =
    Said (codes "set 2 on") ∷ Accepted 1 2 ∷ Begin 2 1 1 ∷
    Written Host (bytes (codes "010E001302076C0101032501FF250177")) ∷ Written Chip (bytes (codes "06")) ∷
    Written Chip (bytes (codes "0104011301E8")) ∷ Air 1 1 2 [] (bytes (codes "6C0101032501FF")) ∷
    Written Host (bytes (codes "06")) ∷ Said (codes "tick 2") ∷ Time 1 ∷ Heard 1 ∷
    Dev 2 (Session 1) (setting 0 names.Switch 255) ∷ Air 2 2 1 [] (bytes (codes "6C0201FF00")) ∷
    Written Chip (bytes (codes "010500130100E8")) ∷ Written Host (bytes (codes "06")) ∷ Time 2 ∷ Heard 2 ∷
    Written Chip (bytes (codes "010B00040002056C0201FF0067")) ∷ Written Host (bytes (codes "06")) ∷
    Store 2 (setting 0 names.Switch 255) ∷ Out 1 endings.Success ∷ []

-- a value is confirmed before anything
abbrev pub stored_first : List Entry
stored_first = Store 2 (setting 0 names.Switch 255) ∷ ended_so endings.Success

-- a success confirms a value of another node
abbrev pub stored_elsewhere : List Entry
stored_elsewhere = ended_so endings.Success ++ Store 3 (setting 0 names.Switch 255) ∷ []

-- a frame has not the next number
abbrev pub numbered_apart : List Entry
numbered_apart =
    Said (codes "set 2 on") ∷ Accepted 1 2 ∷ Begin 2 1 1 ∷
    Written Host (bytes (codes "010E001302076C0101032501FF250177")) ∷ Written Chip (bytes (codes "06")) ∷
    Written Chip (bytes (codes "0104011301E8")) ∷ Air 1 1 2 [] (bytes (codes "6C0101032501FF")) ∷
    Written Host (bytes (codes "06")) ∷ Said (codes "tick 2") ∷ Time 1 ∷ Heard 1 ∷
    Dev 2 (Session 1) (setting 0 names.Switch 255) ∷ Air 3 2 1 [] (bytes (codes "6C0201FF00")) ∷
    Written Chip (bytes (codes "010500130100E8")) ∷ Written Host (bytes (codes "06")) ∷ Time 2 ∷ Heard 2 ∷
    Written Chip (bytes (codes "010B00040002056C0201FF0067")) ∷ Written Host (bytes (codes "06")) ∷
    Out 1 endings.Success ∷ Store 2 (setting 0 names.Switch 255) ∷ []

-- a frame is from no end at the controller
abbrev pub between_others : List Entry
between_others =
    Said (codes "set 2 on") ∷ Accepted 1 2 ∷ Begin 2 1 1 ∷
    Written Host (bytes (codes "010E001302076C0101032501FF250177")) ∷ Written Chip (bytes (codes "06")) ∷
    Written Chip (bytes (codes "0104011301E8")) ∷ Air 1 1 2 [] (bytes (codes "6C0101032501FF")) ∷
    Written Host (bytes (codes "06")) ∷ Said (codes "tick 2") ∷ Time 1 ∷ Heard 1 ∷
    Dev 2 (Session 1) (setting 0 names.Switch 255) ∷ Air 2 2 3 [] (bytes (codes "6C0201FF00")) ∷
    Written Chip (bytes (codes "010500130100E8")) ∷ Written Host (bytes (codes "06")) ∷ Time 2 ∷ Heard 2 ∷
    Written Chip (bytes (codes "010B00040002056C0201FF0067")) ∷ Written Host (bytes (codes "06")) ∷
    Out 1 endings.Success ∷ Store 2 (setting 0 names.Switch 255) ∷ []

-- a frame is heard in the tick in which it went on the air
abbrev pub heard_at_once : List Entry
heard_at_once =
    Said (codes "set 2 on") ∷ Accepted 1 2 ∷ Begin 2 1 1 ∷
    Written Host (bytes (codes "010E001302076C0101032501FF250177")) ∷ Written Chip (bytes (codes "06")) ∷
    Written Chip (bytes (codes "0104011301E8")) ∷ Air 1 1 2 [] (bytes (codes "6C0101032501FF")) ∷
    Written Host (bytes (codes "06")) ∷ Said (codes "tick 2") ∷ Time 1 ∷ Heard 1 ∷
    Dev 2 (Session 1) (setting 0 names.Switch 255) ∷ Air 2 2 1 [] (bytes (codes "6C0201FF00")) ∷ Heard 2 ∷ []

-- a frame is heard a second time, and no line repeats it
abbrev pub heard_again : List Entry
heard_again =
    Said (codes "set 2 on") ∷ Accepted 1 2 ∷ Begin 2 1 1 ∷
    Written Host (bytes (codes "010E001302076C0101032501FF250177")) ∷ Written Chip (bytes (codes "06")) ∷
    Written Chip (bytes (codes "0104011301E8")) ∷ Air 1 1 2 [] (bytes (codes "6C0101032501FF")) ∷
    Written Host (bytes (codes "06")) ∷ Said (codes "tick 2") ∷ Time 1 ∷ Heard 1 ∷ Heard 1 ∷ []

-- a frame has no fate in its tick
abbrev pub left_flying : List Entry
left_flying =
    Said (codes "set 2 on") ∷ Accepted 1 2 ∷ Begin 2 1 1 ∷
    Written Host (bytes (codes "010E001302076C0101032501FF250177")) ∷ Written Chip (bytes (codes "06")) ∷
    Written Chip (bytes (codes "0104011301E8")) ∷ Air 1 1 2 [] (bytes (codes "6C0101032501FF")) ∷
    Written Host (bytes (codes "06")) ∷ Said (codes "tick 2") ∷ Time 1 ∷ Heard 1 ∷
    Dev 2 (Session 1) (setting 0 names.Switch 255) ∷ Air 2 2 1 [] (bytes (codes "6C0201FF00")) ∷
    Written Chip (bytes (codes "010500130100E8")) ∷ Written Host (bytes (codes "06")) ∷ Time 2 ∷
    Written Chip (bytes (codes "010B00040002056C0201FF0067")) ∷ Written Host (bytes (codes "06")) ∷
    Out 1 endings.Success ∷ Store 2 (setting 0 names.Switch 255) ∷ Time 3 ∷ []

-- a frame has no fate before the next line
abbrev pub left_by_line : List Entry
left_by_line =
    Air 1 2 1 [] (bytes (codes "2503FF")) ∷ Time 1 ∷ Said (codes "tick 1") ∷ []

-- a frame is repeated that was never sent
abbrev pub repeated_unsent : List Entry
repeated_unsent =
    Said (codes "repeat 1") ∷ Heard 1 ∷ []

-- a frame is lost, or unheard, that was never sent
abbrev pub lost_unsent : List Entry
lost_unsent =
    Lost 1 ∷ []

abbrev pub unheard_unsent : List Entry
unheard_unsent =
    Unheard 1 ∷ []

-- a frame that was heard is lost, or unheard, in the same tick
abbrev pub lost_again : List Entry
lost_again =
    Air 1 2 1 [] (bytes (codes "2503FF")) ∷ Time 1 ∷ Heard 1 ∷ Lost 1 ∷ []

abbrev pub unheard_again : List Entry
unheard_again =
    Air 1 2 1 [] (bytes (codes "2503FF")) ∷ Time 1 ∷ Heard 1 ∷ Unheard 1 ∷ []

-- a line repeats one frame, and another is heard
abbrev pub repeated_otherwise : List Entry
repeated_otherwise = plain_exchange ++ Said (codes "repeat 1") ∷ Heard 2 ∷ []

-- a marked frame is unheard
abbrev pub unheard_though_marked : List Entry
unheard_though_marked =
    Said (codes "lose 3") ∷ Air 1 2 1 [] (bytes (codes "2503FF")) ∷ Said (codes "tick 1") ∷ Time 1 ∷ Unheard 1 ∷ []

-- a marked frame is heard
abbrev pub heard_though_marked : List Entry
heard_though_marked =
    Said (codes "lose 3") ∷ Said (codes "set 2 on") ∷ Accepted 1 2 ∷ Begin 2 1 1 ∷
    Written Host (bytes (codes "010E001302076C0101032501FF250177")) ∷ Written Chip (bytes (codes "06")) ∷
    Written Chip (bytes (codes "0104011301E8")) ∷ Air 1 1 2 [] (bytes (codes "6C0101032501FF")) ∷
    Written Host (bytes (codes "06")) ∷ Said (codes "tick 5") ∷ Time 1 ∷ Heard 1 ∷ []

-- two lines mark a frame each, and the second frame is heard
abbrev pub heard_though_both_marked : List Entry
heard_though_both_marked =
    Said (codes "lose 1") ∷ Said (codes "lose 1") ∷ Air 1 2 1 [] (bytes (codes "2503FF")) ∷ Air 2 2 1 [] (bytes (codes "2503FF")) ∷
    Said (codes "tick 1") ∷ Time 1 ∷ Lost 1 ∷ Heard 2 ∷ []
