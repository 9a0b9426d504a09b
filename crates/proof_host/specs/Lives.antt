-- The lives of a host (this project's own): in each it does some events, and then a host starts from all the records so far.
use Rattle.std.specs.Prelude.{List, [], ◌∷◌, ◌++◌}
use Rattle.s0_crypto.specs.declared.key_pair.Keys.{Keys}
use Rattle.zw_text.specs.declared.entry.Entry.{Entry}
use Rattle.host_model.specs.host_keep.declared.record.Record.{Record}
use Rattle.host_model.specs.State.{HostState}
use Rattle.host_model.specs.Events.{HostEvent}
use Rattle.host_model.specs.Did.{MayAll, records_all}
use Rattle.host_model.specs.Opening.{opened}
use Rattle.host_model.specs.Recording.{AllOfJoined}
use Rattle.proof_host.specs.Entries.{entries_all}

-- the records once these events happened too
abbrev pub with_records : HostState → List Record → List HostEvent → List Record
with_records h records events = records ++ records_all h events

-- the lives of a host that has these records
abbrev pub AreLives : Keys → HostState → List Record → List (List HostEvent) → Type 0
AreLives keys h records [] = Unit {0}
AreLives keys h records (events ∷ more) =
    MayAll h events × AllOfJoined h events × AreLives keys (opened keys (with_records h records events)) (with_records h records events) more

-- their entries
abbrev pub entries_of_lives : Keys → HostState → List Record → List (List HostEvent) → List Entry
entries_of_lives keys h records [] = []
entries_of_lives keys h records (events ∷ more) =
    entries_all h events ++ entries_of_lives keys (opened keys (with_records h records events)) (with_records h records events) more

-- the host that starts last
abbrev pub last_of_lives : Keys → HostState → List Record → List (List HostEvent) → HostState
last_of_lives keys h records [] = h
last_of_lives keys h records (events ∷ more) = last_of_lives keys (opened keys (with_records h records events)) (with_records h records events) more
