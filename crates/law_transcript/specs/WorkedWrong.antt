-- Transcripts like the worked ones with one thing wrong.
use Rattle.std.specs.Prelude.{List, [], ◌∷◌, codes}
use Rattle.zw_base.specs.declared.property.Name.TheVariants as names
use Rattle.zw_base.specs.declared.property.By.TheVariants.{Session, Plain}
use Rattle.zw_words.specs.declared.side.Side.TheVariants.{Host, Chip}
use Rattle.host_orders.specs.Settings.{setting}
use Rattle.device_sim.specs.device_kinds.declared.change.Change.{Change}
use Rattle.zw_text.specs.declared.entry.Ended.TheVariants as endings
use Rattle.zw_text.specs.declared.entry.Entry.{Entry}
use Rattle.zw_text.specs.declared.entry.Entry.TheVariants.{Said, Accepted, Begin, Written, Air, Heard, Dev, Out, Store, Time}
use Rattle.law_transcript.specs.Worked.{bytes, changed}

-- session 1 begins a second time
abbrev pub begun_twice : List Entry
begun_twice =
    Said (codes "set 2 on") ∷ Accepted 1 2 ∷ Begin 2 1 1 ∷ Begin 2 1 1 ∷
    Written Host (bytes (codes "010E001302076C0101032501FF250177")) ∷ Written Chip (bytes (codes "06")) ∷
    Written Chip (bytes (codes "0104011301E8")) ∷ Air 1 1 2 [] (bytes (codes "6C0101032501FF")) ∷
    Written Host (bytes (codes "06")) ∷ Said (codes "tick 2") ∷ Time 1 ∷ Heard 1 ∷
    Dev 2 (Session 1) (setting 0 names.Switch 255) ∷ Air 2 2 1 [] (bytes (codes "6C0201FF00")) ∷
    Written Chip (bytes (codes "010500130100E8")) ∷ Written Host (bytes (codes "06")) ∷ Time 2 ∷ Heard 2 ∷
    Written Chip (bytes (codes "010B00040002056C0201FF0067")) ∷ Written Host (bytes (codes "06")) ∷
    Out 1 endings.Success ∷ Store 2 (setting 0 names.Switch 255) ∷ []

-- the first session that begins has the second number
abbrev pub begun_ahead : List Entry
begun_ahead =
    Said (codes "set 2 on") ∷ Accepted 1 2 ∷ Begin 2 2 1 ∷ []

-- a second session begins before the first has come to its end
abbrev pub begun_early : List Entry
begun_early =
    Said (codes "set 2 on") ∷ Accepted 1 2 ∷ Begin 2 1 1 ∷ Said (codes "set 2 on") ∷ Accepted 2 2 ∷ Begin 2 2 2 ∷ []

-- success is reported before the change
abbrev pub told_early : List Entry
told_early =
    Said (codes "set 2 on") ∷ Accepted 1 2 ∷ Begin 2 1 1 ∷
    Written Host (bytes (codes "010E001302076C0101032501FF250177")) ∷ Written Chip (bytes (codes "06")) ∷
    Written Chip (bytes (codes "0104011301E8")) ∷ Air 1 1 2 [] (bytes (codes "6C0101032501FF")) ∷
    Written Host (bytes (codes "06")) ∷ Said (codes "tick 2") ∷ Time 1 ∷ Heard 1 ∷ Out 1 endings.Success ∷
    Dev 2 (Session 1) (setting 0 names.Switch 255) ∷ Air 2 2 1 [] (bytes (codes "6C0201FF00")) ∷
    Written Chip (bytes (codes "010500130100E8")) ∷ Written Host (bytes (codes "06")) ∷ Time 2 ∷ Heard 2 ∷
    Written Chip (bytes (codes "010B00040002056C0201FF0067")) ∷ Written Host (bytes (codes "06")) ∷
    Store 2 (setting 0 names.Switch 255) ∷ []

-- the second command is begun before the first
abbrev pub begun_backwards : List Entry
begun_backwards =
    Said (codes "set 2 on") ∷ Accepted 1 2 ∷ Said (codes "set 2 off") ∷ Accepted 2 2 ∷ Begin 2 1 2 ∷
    Out 2 endings.Success ∷ Begin 2 2 1 ∷ []

-- a session begins for a command that was not accepted
abbrev pub begun_unasked : List Entry
begun_unasked =
    Begin 2 1 1 ∷ Written Host (bytes (codes "010E001302076C0101032501FF250177")) ∷
    Written Chip (bytes (codes "06")) ∷ Written Chip (bytes (codes "0104011301E8")) ∷
    Air 1 1 2 [] (bytes (codes "6C0101032501FF")) ∷ Written Host (bytes (codes "06")) ∷ Said (codes "tick 2") ∷
    Time 1 ∷ Heard 1 ∷ Dev 2 (Session 1) (setting 0 names.Switch 255) ∷ Air 2 2 1 [] (bytes (codes "6C0201FF00")) ∷
    Written Chip (bytes (codes "010500130100E8")) ∷ Written Host (bytes (codes "06")) ∷ Time 2 ∷ Heard 2 ∷
    Written Chip (bytes (codes "010B00040002056C0201FF0067")) ∷ Written Host (bytes (codes "06")) ∷
    Out 1 endings.Success ∷ Store 2 (setting 0 names.Switch 255) ∷ []

-- the command waits, and yet the change is there
abbrev pub not_begun : List Entry
not_begun =
    Said (codes "set 2 on") ∷ Accepted 1 2 ∷ []

-- a session begins with the number that it would have if the sessions of all nodes were counted
abbrev pub numbered_over_nodes : List Entry
numbered_over_nodes = Accepted 1 2 ∷ Begin 2 1 1 ∷ Accepted 2 3 ∷ Begin 3 2 2 ∷ []

-- a session begins after one before the last has become unanswered again
abbrev pub begun_reopened : List Entry
begun_reopened =
    Begin 2 1 1 ∷ Out 1 endings.Success ∷ Begin 2 2 2 ∷ Out 2 endings.Success ∷ Out 1 endings.Unanswered ∷ Begin 2 3 3 ∷ []

-- success is reported of another command than the device has changed by
abbrev pub told_of_other_change : List Entry
told_of_other_change =
    Said (codes "set 2 on") ∷ Accepted 1 2 ∷ Begin 2 1 1 ∷ Dev 2 (Session 1) (setting 0 names.Switch 255) ∷ Out 2 endings.Success ∷ []

-- a command is carried by two sessions
abbrev pub begun_again : List Entry
begun_again =
    Said (codes "set 2 on") ∷ Accepted 1 2 ∷ Begin 2 1 1 ∷ Out 1 endings.Success ∷ Begin 2 2 1 ∷ []

-- a session begins for a command of another node
abbrev pub begun_for_another : List Entry
begun_for_another =
    Said (codes "set 3 on") ∷ Accepted 1 3 ∷ Begin 2 1 1 ∷ []

-- journals that are not those of the exchanges: the change twice, again by a session that never began, before by a session 0, of another
-- value, without a session, and two changes in the other order
abbrev pub turned_twice : List Change
turned_twice = changed 1 names.Switch 255 ∷ changed 1 names.Switch 255 ∷ []

abbrev pub turned_later : List Change
turned_later = changed 1 names.Switch 255 ∷ changed 2 names.Switch 255 ∷ []

abbrev pub turned_before : List Change
turned_before = changed 0 names.Switch 255 ∷ changed 1 names.Switch 255 ∷ []

abbrev pub turned_off : List Change
turned_off = changed 1 names.Switch 0 ∷ []

abbrev pub turned_plainly : List Change
turned_plainly = changed 1 names.Switch 255 ∷ record { by = Plain; settings = setting 0 names.Switch 255 ∷ [] } ∷ []

abbrev pub turned_off_and_on : List Change
turned_off_and_on = changed 2 names.Switch 0 ∷ changed 1 names.Switch 255 ∷ []
