-- What calls did, as lists of events (this project's own).
use Rattle.std.specs.Prelude.{◌≡◌, Option, Some, None, List, [], ◌∷◌, ◌++◌}
use Rattle.mesh_sim.specs.Devices.{State}
use Rattle.zw_text.specs.declared.entry.Entry.{Entry}
use Rattle.outside_model.specs.State.{OuterState, Outside, outside, Outcome}
use Rattle.outside_model.specs.Events.{OuterEvent, happens, entries, May, stamp, has_entered, AreOwn}

-- events, one after another
abbrev pub happens_all : Outside → List OuterEvent → Outside
happens_all w [] = w
happens_all w (event ∷ events) = happens_all (happens w event) events

-- all their entries
abbrev pub entries_all : Outside → List OuterEvent → List Entry
entries_all w [] = []
entries_all w (event ∷ events) = entries w event ++ entries_all (happens w event) events

-- they may happen, one after another
abbrev pub MayAll : Outside → List OuterEvent → Type 0
MayAll w [] = Unit {0}
MayAll w (event ∷ events) = May w event × MayAll (happens w event) events

-- these events were done, and entered
pub record Run (events : List OuterEvent) (old new : Outside) (before all : List Entry) : Type 0 where
  pub may : MayAll old events
  pub state : new ≡ happens_all old events
  pub entries : all ≡ before ++ entries_all old events

-- the same, whatever the devices are, of which none moves
abbrev pub Goes : List OuterEvent → OuterState → OuterState → List Entry → List Entry → Type 0
Goes events old new before all = (devices : List State) → Run events (outside old devices) (outside new devices) before all

-- events of a kind were done
abbrev pub RunOf : (List OuterEvent → Type 0) → Outside → Outside → List Entry → List Entry → Type 0
RunOf Kind old new before all = (events : List OuterEvent) × Kind events × Run events old new before all

abbrev pub GoesOf : (List OuterEvent → Type 0) → OuterState → OuterState → List Entry → List Entry → Type 0
GoesOf Kind old new before all = (events : List OuterEvent) × Kind events × Goes events old new before all

-- the same with these devices, of which none moves
abbrev pub GoesFor : List State → (List OuterEvent → Type 0) → OuterState → OuterState → List Entry → List Entry → Type 0
GoesFor devices Kind old new before all = RunOf Kind (outside old devices) (outside new devices) before all

-- an outcome came about, and was entered
pub record Enters (outcome : Outcome) (new : OuterState) (before all : List Entry) : Type 0 where
  pub outer : new ≡ has_entered outcome.outer outcome.entries
  pub entries : all ≡ before ++ stamp outcome.outer outcome.entries

-- a prefix of events of a kind: they would go on to be such
abbrev pub PrefixOf : (List OuterEvent → Type 0) → List OuterEvent → Type 0
PrefixOf Kind events = (rest : List OuterEvent) × Kind (events ++ rest)

-- an event, where there is one
abbrev pub last_of : Option OuterEvent → List OuterEvent
last_of None = []
last_of (Some event) = event ∷ []

-- On an allocation failure these events of a call, none of the host's, were done whole, with their entries; and where there is a last one, the devices are what it makes
-- of them, and nothing of it is entered. Nothing is said of the rest.
pub record Stops (Prefix : List OuterEvent → Type 0) (old : Outside) (devices : List State) (before all : List Entry) : Type 0 where
  pub whole : List OuterEvent
  pub last : Option OuterEvent
  pub prefix : Prefix (whole ++ last_of last)
  pub own : AreOwn (whole ++ last_of last)
  pub may : MayAll old (whole ++ last_of last)
  pub devices_are : devices ≡ (happens_all old (whole ++ last_of last)).devices
  pub entered : all ≡ before ++ entries_all old whole

-- the same with these devices, of which none moves
abbrev pub StopsFor : List State → (List OuterEvent → Type 0) → OuterState → List Entry → List Entry → Type 0
StopsFor devices Prefix old before all = Stops Prefix (outside old devices) devices before all
