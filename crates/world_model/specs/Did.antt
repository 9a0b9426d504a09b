-- What was done, as lists of events (this project's own).
use Rattle.std.specs.Prelude.{◌≡◌, ◌⊎◌, ℕ, ◌+◌, ◌≤◌, List, [], ◌∷◌, ◌++◌, Option, Some, None}
use Rattle.std.specs.List.{AllByRecursion}
use Rattle.zw_text.specs.declared.entry.Entry.{Entry}
use Rattle.host_model.specs.Did.{is_unkept, unkept_in as unkept_by_host, one_if, RoseBy}
use Rattle.host_model.specs.Refusals.{is_keeper_fault}
use Rattle.outside_model.specs.Events.{OuterEvent}
use Rattle.world_model.specs.State.{Machine}
use Rattle.world_model.specs.Events.{Event, Outside_does, Host_does, Host_takes, Decoder_ticks, Refuses, Shows_values, Restarts, happens, entries, May}

-- events, one after another
abbrev pub happens_all : Machine → List Event → Machine
happens_all m [] = m
happens_all m (event ∷ events) = happens_all (happens m event) events

-- all their entries
abbrev pub entries_all : Machine → List Event → List Entry
entries_all m [] = []
entries_all m (event ∷ events) = entries m event ++ entries_all (happens m event) events

-- they may happen, one after another
abbrev pub MayAll : Machine → List Event → Type 0
MayAll m [] = Unit {0}
MayAll m (event ∷ events) = May m event × MayAll (happens m event) events

-- each of them has this, at the machine as it is then
abbrev pub AllAlong : (Machine → Event → Type 0) → Machine → List Event → Type 0
AllAlong Has m [] = Unit {0}
AllAlong Has m (event ∷ events) = Has m event × AllAlong Has (happens m event) events

-- ---- faults of the keeper

-- how many things were not done at an event, since the keeper failed
abbrev pub unkept_of : Event → ℕ
unkept_of (Outside_does event) = 0
unkept_of (Host_does event) = one_if (is_unkept event)
unkept_of (Host_takes count rest items events) = unkept_by_host events
unkept_of Decoder_ticks = 0
unkept_of (Refuses line refusal) = one_if (is_keeper_fault refusal)
unkept_of (Shows_values node) = 0
unkept_of (Restarts state) = 0

-- and at events one after another
abbrev pub unkept_in : List Event → ℕ
unkept_in [] = 0
unkept_in (event ∷ events) = unkept_of event + unkept_in events

-- the keeper's count of faults never falls, and rose for each thing that was not done, since the keeper failed
pub record Counted (events : List Event) (faults faults' : ℕ) : Type 0 where
  pub rose : RoseBy (unkept_in events) faults faults'
  pub never_falls : faults ≤ faults'

-- ---- runs

-- a machine, the entries so far, and how often its keeper failed
pub record Scene : Type 0 where
  pub machine : Machine
  pub entries : List Entry
  pub faults : ℕ

-- These events were done, and entered.
pub record Run (events : List Event) (old new : Scene) : Type 0 where
  pub may : MayAll old.machine events
  pub state : new.machine ≡ happens_all old.machine events
  pub entries : new.entries ≡ old.entries ++ entries_all old.machine events
  pub counted : Counted events old.faults new.faults

-- a schedule says which events are to be done from a machine on
abbrev pub Schedule : Type 1
Schedule = Machine → List Event → Type 0

-- the events of a schedule were done
abbrev pub Does : Schedule → Scene → Scene → Type 0
Does Kind old new = (events : List Event) × Kind old.machine events × Run events old new

-- one schedule after another
abbrev pub Then : Schedule → Schedule → Schedule
Then First Second m events =
    (first rest : List Event) × (events ≡ first ++ rest) × First m first × Second (happens_all m first) rest

-- these events
abbrev pub These : List Event → Schedule
These these m events = events ≡ these

-- ---- where memory ran out

-- nothing was done
abbrev pub Nothing : Schedule
Nothing m events = events ≡ []

-- nothing, or events that would go on to be of the schedule
abbrev pub PrefixOf : Schedule → Schedule
PrefixOf Kind m events = Nothing m events ⊎ ((rest : List Event) × Kind m (events ++ rest))

-- a prefix of the first, or the first whole and then a prefix of the second
abbrev pub ThenPrefix : Schedule → Schedule → Schedule → Schedule
ThenPrefix FirstPrefix First SecondPrefix m events = FirstPrefix m events ⊎ Then First SecondPrefix m events

-- an event outside the host, where there is one
abbrev pub last_of : Option OuterEvent → List Event
last_of None = []
last_of (Some event) = Outside_does event ∷ []

-- an event of the host alone
abbrev pub IsOfHost : Event → Type 0
IsOfHost (Outside_does event) = ⊥
IsOfHost event = Unit {0}

-- On an allocation failure events were done whole, with their entries, which are a prefix of what was to be done. After them one event outside the host may have moved its
-- device, or the host may have done what was kept: of either nothing is entered. The devices and the records are what all these make of them; nothing is said of the rest.
pub record Stops (Prefix : Schedule) (old new : Scene) : Type 0 where
  pub whole : List Event
  pub last : Option OuterEvent
  pub prefix : Prefix old.machine whole
  pub moved : Prefix old.machine (whole ++ last_of last)
  pub kept : List Event
  pub of_host : AllByRecursion IsOfHost kept
  pub may : MayAll old.machine ((whole ++ last_of last) ++ kept)
  pub devices : new.machine.outside.devices ≡ (happens_all old.machine ((whole ++ last_of last) ++ kept)).outside.devices
  pub records : new.machine.records ≡ (happens_all old.machine ((whole ++ last_of last) ++ kept)).records
  pub entered : new.entries ≡ old.entries ++ entries_all old.machine whole
  pub counted : Counted whole old.faults new.faults
