-- Short transcripts of a switch in which what it does stands too early, too late, or is of a node that has no device.
use Rattle.std.specs.Prelude.{ℕ, List, [], ◌∷◌, ◌++◌, codes}
use Rattle.zw_base.specs.declared.property.Name.TheVariants as names
use Rattle.zw_base.specs.declared.property.By.TheVariants.{Local}
use Rattle.law_transcript.specs.host_orders.Settings.{setting}
use Rattle.zw_text.specs.declared.entry.Entry.{Entry}
use Rattle.zw_text.specs.declared.entry.Entry.TheVariants.{Said, Air, Dev, Device, TableEnd}
use Rattle.law_transcript.specs.Worked.{bytes}
use Rattle.law_transcript.specs.WorkedDevices.{by_hand}

-- `local 2 1`: the switch tells that it is on before a line turns it on
abbrev pub told_early : List Entry
told_early = Air 1 2 1 [] (bytes (codes "2503FF")) ∷ Said (codes "local 2 1") ∷ Dev 2 Local (setting 0 names.Switch 255) ∷ []

-- it changes in a later line, or tells in one
abbrev pub changed_late : List Entry
changed_late =
    Said (codes "local 2 1") ∷ Said (codes "cut 0") ∷ Dev 2 Local (setting 0 names.Switch 255) ∷ Air 1 2 1 [] (bytes (codes "2503FF")) ∷ []

abbrev pub told_late : List Entry
told_late =
    Said (codes "local 2 1") ∷ Dev 2 Local (setting 0 names.Switch 255) ∷ Said (codes "cut 0") ∷ Air 1 2 1 [] (bytes (codes "2503FF")) ∷ []

-- a change, and a frame, of a node that has no device
abbrev pub changed_by_none : List Entry
changed_by_none = Said (codes "join 10") ∷ Dev 10 Local (setting 0 names.Switch 255) ∷ []

abbrev pub told_by_none : List Entry
told_by_none = Said (codes "join 10") ∷ Air 1 10 1 [] (bytes (codes "2503FF")) ∷ []

-- ---- values that are shown

-- `show 2`, and the value that stands after it
abbrev pub show_switch : ℕ → List Entry
show_switch value = Said (codes "show 2") ∷ Device 2 (setting 0 names.Switch value) ∷ []

-- before and after it is turned on by hand
abbrev pub shown_twice : List Entry
shown_twice = show_switch 0 ++ by_hand ++ show_switch 255

-- afterwards it is shown as it was, not shown, or shown once more; and a line of the table stands in the run
abbrev pub shown_as_before : List Entry
shown_as_before = by_hand ++ show_switch 0

abbrev pub not_shown : List Entry
not_shown = Said (codes "show 2") ∷ Said (codes "tick 1") ∷ []

abbrev pub shown_unasked : List Entry
shown_unasked = show_switch 0 ++ Device 2 (setting 0 names.Switch 0) ∷ []

abbrev pub table_within : List Entry
table_within = TableEnd 0 ∷ []
