-- A host alone: what may happen to it, one event at a time, what it makes of it, and what is entered (this project's own rule, over the
-- events of a host in `host_model`).
use Rattle.std.specs.Prelude.{◌≡◌, ℕ, ◌+◌, ◌≤◌, ◌&&◌, Bool, true, false, List, [], ◌∷◌, ◌++◌, map, Option}
use Rattle.serial_frame.specs.Items.{unit_text}
use Rattle.serial_frame.specs.Stream.{Rest, Feeds, GoesOn, after_tick, no_rest, piece_of}
use Rattle.serial_frame.specs.declared.item.Item.{Item}
use Rattle.zw_words.specs.declared.side.Side.TheVariants as side
use Rattle.zw_text.specs.declared.line.Line.{Line}
use Rattle.zw_text.specs.declared.line.Line.TheVariants.{Command, Join, Cancel}
use Rattle.zw_text.specs.declared.entry.Entry.{Entry}
use Rattle.zw_text.specs.declared.entry.Entry.TheVariants.{Refused, Written, Time}
use Rattle.zw_text.specs.declared.entry.Refusal.{Refusal}
use Rattle.host_model.specs.State.{HostParts, first_host}
use Rattle.host_model.specs.Events.{HostEvent}
use Rattle.host_model.specs.Taking.{AreJudged}
use Rattle.host_model.specs.Did.{MayAll as MayAllHost, after_all, outs_all, records_all, texts_of, is_unkept, unkept_in as unkept_by_host, one_if, RoseBy}
use Rattle.host_model.specs.declared.out.HostOut.{HostOut}
use Rattle.host_model.specs.declared.out.HostOut.TheVariants.{Write, Note}
use Rattle.host_model.specs.Outs.{answers}
use Rattle.s0_crypto.specs.Sealing.{keys_of}
use Rattle.outside_model.specs.State.{first_outer}
use Rattle.world_model.specs.State.{Machine, machine, with_texts}
use Rattle.world_model.specs.Refusals.{IsRefused}
use Rattle.world_model.specs.Events.{shown_values}
use Rattle.host_model.specs.Refusals.{is_keeper_fault}
use Rattle.host_keep.specs.Keeping.{Shelf}

-- ---- states

-- a host, how many ticks have passed, and what its keeper holds, where it tells that
pub record Lone : Type 0 where
  pub host : HostParts
  pub clock : ℕ
  pub records : Option (List (List ℕ))

-- what the program holds of it
pub record ReplayState : Type 0 where
  pub host : HostParts
  pub clock : ℕ

-- at first, with the key of the network
abbrev pub first_replay : List ℕ → ReplayState
first_replay key = record { host = record { decoder = no_rest; state = first_host (keys_of key) }; clock = 0 }

abbrev pub lone_of : ReplayState → Option (List (List ℕ)) → Lone
lone_of r records = record { host = r.host; clock = r.clock; records = records }

-- the machine of a scenario that has this host: its refusals and the effects of its lines are those of the host alone
abbrev pub alone : Lone → Machine
alone m = machine m.host.state.keys m.host first_outer m.records []

-- ---- what is entered of what the host puts out

abbrev pub entry_of : HostOut → Entry
entry_of (Write unit) = Written side.Host (unit_text unit)
entry_of (Note entry) = entry

abbrev pub entries_of : List HostOut → List Entry
entries_of outs = map entry_of outs

-- the same with the number of the tick before the first of them
abbrev pub timed : ℕ → List HostOut → List Entry
timed tick [] = []
timed tick (one ∷ more) = Time tick ∷ entries_of (one ∷ more)

-- ---- events

-- the host does these of itself; it does what a line asks, and answers; it takes bytes of the chip, which end these items, and what they
-- make it do; a tick passes, in which it does these; a line is refused; the stored values of a node are shown
pub data Event : Type 0 where
  Does_itself : (events : List HostEvent) → Event
  Does_asked : (event : HostEvent) → Event
  Takes : (bytes : List ℕ) (rest : Rest) (items : List Item) (events : List HostEvent) → Event
  Ticks : (events : List HostEvent) → Event
  Refuses : (line : Line) (refusal : Refusal) → Event
  Shows_values : (node : ℕ) → Event

-- the host has done these, and their records are kept
abbrev pub hosted : Lone → Rest → ℕ → List HostEvent → Lone
hosted m decoder clock events = record {
  host = record { decoder = decoder; state = after_all m.host.state events };
  clock = clock;
  records = with_texts m.records (texts_of (records_all m.host.state events));
}

unfoldable pub happens : Lone → Event → Lone
happens m (Does_itself events) = hosted m m.host.decoder m.clock events
happens m (Does_asked event) = hosted m m.host.decoder m.clock (event ∷ [])
happens m (Takes bytes rest items events) = hosted m rest m.clock events
happens m (Ticks events) = hosted m (after_tick m.host.decoder) (m.clock + 1) events
happens m (Refuses line refusal) = m
happens m (Shows_values node) = m

-- its entries
unfoldable pub entries : Lone → Event → List Entry
entries m (Does_itself events) = entries_of (outs_all m.host.state events)
entries m (Does_asked event) = entries_of (outs_all m.host.state (event ∷ [])) ++ answers m.host.state event
entries m (Takes bytes rest items events) = entries_of (outs_all m.host.state events)
entries m (Ticks events) = timed (m.clock + 1) (outs_all m.host.state events)
entries m (Refuses line refusal) = Refused refusal ∷ []
entries m (Shows_values node) = shown_values m.host.state node ∷ []

-- these bytes end these items, with each splitting of the stream so far, and the items make the host do this
pub record MayTake (m : Lone) (bytes : List ℕ) (rest : Rest) (items : List Item) (events : List HostEvent) : Type 0 where
  pub feeds : Feeds m.host.decoder bytes rest items
  pub stream : GoesOn m.host.decoder (piece_of bytes) rest items
  pub judged : AreJudged m.host.state items events
  pub may : MayAllHost m.host.state events

-- when it may happen
unfoldable pub May : Lone → Event → Type 0
May m (Does_itself events) = MayAllHost m.host.state events
May m (Does_asked event) = MayAllHost m.host.state (event ∷ [])
May m (Takes bytes rest items events) = MayTake m bytes rest items events
May m (Ticks events) = MayAllHost m.host.state events
May m (Refuses line refusal) = IsRefused (alone m) line refusal
May m (Shows_values node) = Unit {0}

-- ---- events, one after another

abbrev pub happens_all : Lone → List Event → Lone
happens_all m [] = m
happens_all m (event ∷ events) = happens_all (happens m event) events

abbrev pub entries_all : Lone → List Event → List Entry
entries_all m [] = []
entries_all m (event ∷ events) = entries m event ++ entries_all (happens m event) events

abbrev pub MayAll : Lone → List Event → Type 0
MayAll m [] = Unit {0}
MayAll m (event ∷ events) = May m event × MayAll (happens m event) events

-- the lines that ask the keeper
abbrev pub asks_keeper : Line → Bool
asks_keeper (Command order) = true
asks_keeper (Join node) = true
asks_keeper (Cancel command) = true
asks_keeper line = false

-- how many things were not done at an event, since the keeper failed
abbrev pub unkept_of : Event → ℕ
unkept_of (Does_itself events) = unkept_by_host events
unkept_of (Does_asked event) = one_if (is_unkept event)
unkept_of (Takes bytes rest items events) = unkept_by_host events
unkept_of (Ticks events) = unkept_by_host events
unkept_of (Refuses line refusal) = one_if (asks_keeper line && is_keeper_fault refusal)
unkept_of (Shows_values node) = 0

-- and at events one after another
abbrev pub unkept_in : List Event → ℕ
unkept_in [] = 0
unkept_in (event ∷ events) = unkept_of event + unkept_in events

-- ---- runs

-- a host alone, the entries so far, and how often its keeper failed
pub record Scene : Type 0 where
  pub lone : Lone
  pub entries : List Entry
  pub faults : ℕ

abbrev pub scene : ReplayState → Shelf → List Entry → Scene
scene r shelf entries = record { lone = lone_of r shelf.records; entries = entries; faults = shelf.faults }

-- These events were done, and entered. The keeper's count of faults never falls, and rose for each thing that was not done, since the keeper failed.
pub record Run (events : List Event) (old new : Scene) : Type 0 where
  pub may : MayAll old.lone events
  pub state : new.lone ≡ happens_all old.lone events
  pub entered : new.entries ≡ old.entries ++ entries_all old.lone events
  pub rose : RoseBy (unkept_in events) old.faults new.faults
  pub never_falls : old.faults ≤ new.faults

-- a schedule says which events are to be done from a host on
abbrev pub Schedule : Type 1
Schedule = Lone → List Event → Type 0

-- the events of a schedule were done
abbrev pub Does : Schedule → Scene → Scene → Type 0
Does Kind old new = (events : List Event) × Kind old.lone events × Run events old new

-- one schedule after another
abbrev pub Then : Schedule → Schedule → Schedule
Then First Second m events =
    (first rest : List Event) × (events ≡ first ++ rest) × First m first × Second (happens_all m first) rest

-- On an allocation failure some events were done, which make of the keeper's records what they are, and a prefix of their entries was made.
-- Nothing is said of the rest.
pub record Stops (old new : Scene) : Type 0 where
  pub events : List Event
  pub may : MayAll old.lone events
  pub records : new.lone.records ≡ (happens_all old.lone events).records
  pub more : List Entry
  pub prefix : new.entries ++ more ≡ old.entries ++ entries_all old.lone events
  pub rose : RoseBy (unkept_in events) old.faults new.faults
  pub never_falls : old.faults ≤ new.faults
