-- Transcripts like the worked ones that break the laws of what is carried, and of sessions that begin, one thing wrong in each.
use Rattle.std.specs.Prelude.{List, [], ◌∷◌, codes}
use Rattle.zw_base.specs.declared.property.Name.TheVariants as names
use Rattle.zw_base.specs.declared.property.By.TheVariants.{Session}
use Rattle.zw_words.specs.declared.side.Side.TheVariants.{Host, Chip}
use Rattle.host_orders.specs.Settings.{setting}
use Rattle.zw_text.specs.declared.entry.Entry.{Entry}
use Rattle.zw_text.specs.declared.entry.Entry.TheVariants.{Said, Accepted, Begin, Written, Dropped, Garbled, Air, Heard, Dev, Time}
use Rattle.law_transcript.specs.Worked.{bytes}

-- a frame of the controller that no unit asked for
abbrev pub aired_unasked : List Entry
aired_unasked =
    Said (codes "set 2 on") ∷ Accepted 1 2 ∷ Begin 2 1 1 ∷
    Written Host (bytes (codes "010E001302076C0101032501FF250177")) ∷ Written Chip (bytes (codes "06")) ∷
    Written Chip (bytes (codes "0104011301E8")) ∷ Air 1 1 2 [] (bytes (codes "6C010103250100")) ∷ []

-- a frame of the controller a second time for one unit
abbrev pub aired_twice : List Entry
aired_twice =
    Said (codes "set 2 on") ∷ Accepted 1 2 ∷ Begin 2 1 1 ∷
    Written Host (bytes (codes "010E001302076C0101032501FF250177")) ∷ Written Chip (bytes (codes "06")) ∷
    Written Chip (bytes (codes "0104011301E8")) ∷ Air 1 1 2 [] (bytes (codes "6C0101032501FF")) ∷
    Air 2 1 2 [] (bytes (codes "6C0101032501FF")) ∷ []

-- the frames of two units in another order
abbrev pub aired_backwards : List Entry
aired_backwards =
    Written Host (bytes (codes "01090013020225012501E5")) ∷ Written Host (bytes (codes "01090013020225022502E5")) ∷
    Air 1 1 2 [] (bytes (codes "2502")) ∷ Air 2 1 2 [] (bytes (codes "2501")) ∷ []

-- a frame of the controller to another node than the unit asked for
abbrev pub aired_elsewhere : List Entry
aired_elsewhere =
    Written Host (bytes (codes "010A001302032501FF250118")) ∷ Air 1 1 3 [] (bytes (codes "2501FF")) ∷ []

-- a frame of the controller for a unit that was lost on its way, and one that is as a unit was written that was changed on its way
abbrev pub aired_for_lost : List Entry
aired_for_lost =
    Written Host (bytes (codes "010A001302032501FF250118")) ∷ Dropped Host ∷ Air 1 1 2 [] (bytes (codes "2501FF")) ∷ []

abbrev pub aired_as_written : List Entry
aired_as_written =
    Written Host (bytes (codes "010A001302032501FF250118")) ∷ Garbled Host (bytes (codes "010A001302032501002501E7")) ∷
    Air 1 1 2 [] (bytes (codes "2501FF")) ∷ []

-- a unit is changed so that its checksum is wrong, and the controller sends what its bytes still say
abbrev pub aired_as_garbled : List Entry
aired_as_garbled =
    Written Host (bytes (codes "010A001302032501FF250118")) ∷ Garbled Host (bytes (codes "010A00130203250100250118")) ∷
    Air 1 1 2 [] (bytes (codes "250100")) ∷ []

-- the chip brings a payload that it has not heard
abbrev pub brought_unheard : List Entry
brought_unheard =
    Said (codes "set 2 on") ∷ Accepted 1 2 ∷ Begin 2 1 1 ∷
    Written Host (bytes (codes "010E001302076C0101032501FF250177")) ∷ Written Chip (bytes (codes "06")) ∷
    Written Chip (bytes (codes "0104011301E8")) ∷ Air 1 1 2 [] (bytes (codes "6C0101032501FF")) ∷
    Written Host (bytes (codes "06")) ∷ Said (codes "tick 2") ∷ Time 1 ∷ Heard 1 ∷
    Dev 2 (Session 1) (setting 0 names.Switch 255) ∷ Air 2 2 1 [] (bytes (codes "6C0201FF00")) ∷
    Written Chip (bytes (codes "010B00040002056C0201FF0067")) ∷ []

-- the chip brings another payload than it has heard, or that of another node, or one that the controller sent
abbrev pub brought_otherwise : List Entry
brought_otherwise =
    Air 1 2 1 [] (bytes (codes "2503FF")) ∷ Time 1 ∷ Heard 1 ∷ Written Chip (bytes (codes "01090004000203250300D5")) ∷ []

abbrev pub brought_of_another : List Entry
brought_of_another =
    Air 1 2 1 [] (bytes (codes "2503FF")) ∷ Time 1 ∷ Heard 1 ∷ Written Chip (bytes (codes "010900040003032503FF2B")) ∷ []

abbrev pub brought_back : List Entry
brought_back =
    Air 1 1 2 [] (bytes (codes "2503FF")) ∷ Time 1 ∷ Heard 1 ∷ Written Chip (bytes (codes "010900040001032503FF29")) ∷ []

-- a session begins without its unit
abbrev pub begun_silently : List Entry
begun_silently =
    Said (codes "set 2 on") ∷ Accepted 1 2 ∷ Begin 2 1 1 ∷ Said (codes "tick 2") ∷ []

-- a session begins with a unit for another node
abbrev pub begun_elsewhere : List Entry
begun_elsewhere =
    Said (codes "set 2 on") ∷ Accepted 1 2 ∷ Begin 2 1 1 ∷ Written Host (bytes (codes "010E001303076C0101032501FF250176")) ∷ []

-- a session begins with a unit that sends nothing
abbrev pub begun_emptily : List Entry
begun_emptily =
    Said (codes "set 2 on") ∷ Accepted 1 2 ∷ Begin 2 1 1 ∷ Written Host (bytes (codes "06")) ∷ []
