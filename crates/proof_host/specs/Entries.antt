-- The entries of a transcript at each event of a host (this project's own): the answer to an order that is accepted or to a command
-- that is taken back, which whoever drives the host enters, and what the host notes.
use Rattle.std.specs.Prelude.{List, [], ◌∷◌, ◌++◌}
use Rattle.std.specs.List.{flat_map}
use Rattle.zw_text.specs.declared.entry.Entry.{Entry}
use Rattle.zw_text.specs.declared.entry.Entry.TheVariants.{Accepted, Begin, Out, Store}
use Rattle.host_model.specs.declared.out.HostOut.{HostOut}
use Rattle.host_model.specs.declared.out.HostOut.TheVariants.{Write, Note}
use Rattle.host_model.specs.State.{HostState}
use Rattle.host_model.specs.Events.{HostEvent}
use Rattle.host_model.specs.After.{after}
use Rattle.host_model.specs.Outs.{outs, answers}

-- what a host notes among what it puts out
abbrev pub note_of : HostOut → List Entry
note_of (Write unit) = []
note_of (Note entry) = entry ∷ []

abbrev pub notes_of : List HostOut → List Entry
notes_of puts = flat_map note_of puts

-- the entries of an event
abbrev pub entries_at : HostState → HostEvent → List Entry
entries_at h event = answers h event ++ notes_of (outs h event)

-- the entries of events, one after another
abbrev pub entries_all : HostState → List HostEvent → List Entry
entries_all h [] = []
entries_all h (event ∷ events) = entries_at h event ++ entries_all (after h event) events

-- an entry that speaks neither of a command nor of a confirmed value: whoever enters it changes no law of the host
abbrev pub IsAside : Entry → Type 0
IsAside (Accepted command node) = ⊥
IsAside (Begin node session command) = ⊥
IsAside (Out command ended) = ⊥
IsAside (Store node setting) = ⊥
IsAside _ = Unit {0}
