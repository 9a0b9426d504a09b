-- The world of `include`, and what each event makes of it (this project's own rule, docs/INCLUSION.md).
use Rattle.std.specs.Prelude.{◌≡◌, ◌≤◌, ℕ, ◌+◌, ◌==◌, ◌||◌, nat_lt, if◌then◌else◌, Bool, true, false, is_some, Option, Some, None, List, [], ◌∷◌, ◌++◌, length, map, replicate, slice_set, slice_index_or}
use Rattle.std.specs.List.{range_with_len, flat_map}
use Rattle.inclusion.specs.Joining.{Joining, Joined, fresh_joiner, joiner_takes, forgetful}
use Rattle.inclusion.specs.Including.{Including, Included, fresh_includer, includer_takes, is_secure, adding, exchange_after, failing_in, without_secure}
use Rattle.inclusion.specs.Messages.{scheme_get}
use Rattle.inclusion.specs.declared.exchange.Exchange.{Exchange}
use Rattle.include_text.specs.declared.line.IncludeLine.{IncludeLine}
use Rattle.include_text.specs.declared.line.IncludeLine.TheVariants.{Add, Reset, Lose, Repeat, Tick}
use Rattle.include_text.specs.declared.entry.IncludeEntry.{IncludeEntry}
use Rattle.include_text.specs.declared.entry.IncludeEntry.TheVariants.{Said, Time, Heard, Lost, Key, Secure, Failed, Refused, Node}
use Rattle.include_text.specs.declared.entry.IncludeRefusal.{IncludeRefusal}
use Rattle.include_text.specs.declared.entry.IncludeRefusal.TheVariants.{Busy, Secure as IsSecure}
use Rattle.air_frames.specs.declared.frame.Heading.{Heading}
use Rattle.air_frames.specs.declared.frame.Heading.TheVariants.{Outward, Homeward}
use Rattle.include_world.specs.declared.air.Coming.{Coming}
use Rattle.include_world.specs.Units.{units_of, in_order}
use Rattle.include_world.specs.Air.{AirState, first_air, arriving, departing, air_entry, sending, sent_entries, landing, flying, losing_more, forgetting, refusal_of, flight_at}

-- the time in ticks, the host, the lock of each node and whether it was added, and the air
pub record WorldState : Type 0 where
  pub time : ℕ
  pub includer : Including
  pub joiners : List Joining
  pub added : List Bool
  pub air : AirState

-- a world, and entries made on the way to it
pub record Doing : Type 0 where
  pub world : WorldState
  pub entries : List IncludeEntry

-- the lock that stands at each number before the first line; that at 0 is never used
abbrev pub first_joiner : ℕ → Joining
first_joiner node = fresh_joiner (if node == 0 then 1 else node)

-- nothing has happened
unfoldable pub first_world : List ℕ → WorldState
first_world key = record {
  time = 0;
  includer = fresh_includer key;
  joiners = map first_joiner (range_with_len 0 233);
  added = replicate 233 false;
  air = first_air;
}

-- the lock of a node
abbrev pub joiner_of : WorldState → ℕ → Joining
joiner_of world node = slice_index_or world.joiners node (fresh_joiner 1)

-- ---- what is heard

-- a lock takes a key
abbrev pub key_entries : ℕ → Option (List ℕ) → Option (List ℕ) → List IncludeEntry
key_entries node None (Some key) = Key node ∷ []
key_entries node _ _ = []

-- the host counts a node as secure from now on
abbrev pub secure_entries : ℕ → Bool → Bool → List IncludeEntry
secure_entries node false true = Secure node ∷ []
secure_entries node _ _ = []

-- a lock hears a frame of the host, and its replies go on the air
abbrev pub lock_hears : WorldState → Coming → Joined → Doing
lock_hears world coming joined = record {
  world = record world {
    joiners = slice_set world.joiners coming.node joined.joiner;
    air = sending world.air coming.node Homeward joined.replies;
  };
  entries = Heard coming.number ∷ key_entries coming.node (joiner_of world coming.node).key joined.joiner.key
      ++ sent_entries world.air coming.node Homeward joined.replies;
}

-- the host hears a frame of a lock, and its replies go on the air
abbrev pub host_hears : WorldState → Coming → Included → Doing
host_hears world coming included = record {
  world = record world { includer = included.includer; air = sending world.air coming.node Outward included.replies };
  entries = Heard coming.number ∷ secure_entries coming.node (is_secure world.includer coming.node) (is_secure included.includer coming.node)
      ++ sent_entries world.air coming.node Outward included.replies;
}

-- a frame is heard at its other end; the drawn bytes serve it
abbrev pub hears_by : WorldState → Coming → List ℕ → Heading → Doing
hears_by world coming drawn Outward = lock_hears world coming (joiner_takes (joiner_of world coming.node) coming.payload drawn)
hears_by world coming drawn Homeward = host_hears world coming (includer_takes world.includer coming.node coming.payload drawn)

unfoldable pub hears : WorldState → Coming → List ℕ → Doing
hears world coming drawn = hears_by world coming drawn coming.heading

-- the frame that arrives next is heard, or lost
abbrev pub lands_by : WorldState → Option Coming → List ℕ → Doing
lands_by world None drawn = record { world = world; entries = Lost (world.air.landed + 1) ∷ [] }
lands_by world (Some coming) drawn = hears world coming drawn

abbrev pub landed : Doing → Doing
landed doing = record { world = record doing.world { air = landing doing.world.air }; entries = doing.entries }

-- ---- lines

-- nothing but an entry
abbrev pub refused : WorldState → IncludeRefusal → Doing
refused world refusal = record { world = world; entries = Refused refusal ∷ [] }

-- an exchange begins, unless one is under way or the node is secure
abbrev pub begins : WorldState → ℕ → Doing
begins world node = record {
  world = record world {
    includer = adding world.includer node;
    added = slice_set world.added node true;
    air = departing world.air node Outward scheme_get;
  };
  entries = in_order (units_of node) ++ air_entry world.air node Outward scheme_get ∷ [];
}

abbrev pub adds : WorldState → ℕ → Option Exchange → Doing
adds world node (Some exchange) = refused world Busy
adds world node None = if is_secure world.includer node then refused world IsSecure else begins world node

-- a lock forgets its key, and the host that it was secure; frames that were sent between them are heard no more
abbrev pub resets : WorldState → ℕ → WorldState
resets world node = record world {
  includer = without_secure world.includer node;
  joiners = slice_set world.joiners node (forgetful (joiner_of world node));
  air = forgetting world.air node;
}

-- a frame is heard once more
abbrev pub repeats : WorldState → ℕ → List ℕ → Option IncludeRefusal → Doing
repeats world number drawn (Some refusal) = refused world refusal
repeats world number drawn None = hears world (flight_at world.air number) drawn

-- a line's own effect; the ticks of a `tick` come after it
abbrev pub says : WorldState → IncludeLine → List ℕ → Doing
says world (Add node) drawn = adds world node world.includer.exchange
says world (Reset node) drawn = record { world = resets world node; entries = [] }
says world (Lose count) drawn = record { world = record world { air = losing_more world.air count }; entries = [] }
says world (Repeat number) drawn = repeats world number drawn (refusal_of world.air number)
says world (Tick count) drawn = record { world = world; entries = [] }

-- the line that is entered before, where there is one
abbrev pub said_entries : Option IncludeLine → List IncludeEntry
said_entries None = []
said_entries (Some line) = Said line ∷ []

-- ---- events

-- a line is said and done, with drawn bytes; a tick of time begins; the next frame arrives, with drawn bytes; a tick of
-- time ends
pub data IncludeEvent : Type 0 where
  Says : (line : IncludeLine) (drawn : List ℕ) → IncludeEvent
  Passes : IncludeEvent
  Lands : (drawn : List ℕ) → IncludeEvent
  Ends : IncludeEvent

-- whether a tick that begins will have an entry: a frame arrives at it, or an exchange fails
abbrev pub tells : WorldState → Bool
tells world = nat_lt 0 (flying world.air) || is_some (failing_in world.includer.exchange)

abbrev pub passes : WorldState → Doing
passes world = record {
  world = record world { time = world.time + 1 };
  entries = if tells world then Time (world.time + 1) ∷ [] else [];
}

abbrev pub failed_entries : Option ℕ → List IncludeEntry
failed_entries None = []
failed_entries (Some node) = Failed node ∷ []

abbrev pub ends : WorldState → Doing
ends world = record {
  world = record world { includer = record world.includer { exchange = exchange_after world.includer.exchange } };
  entries = failed_entries (failing_in world.includer.exchange);
}

-- what an event makes of the world, and which entries
unfoldable pub does : WorldState → IncludeEvent → Doing
does world (Says line drawn) = record { world = (says world line drawn).world; entries = Said line ∷ (says world line drawn).entries }
does world Passes = passes world
does world (Lands drawn) = landed (lands_by world (arriving world.air) drawn)
does world Ends = ends world

-- the same of events in turn
abbrev pub after_all : WorldState → List IncludeEvent → WorldState
after_all world [] = world
after_all world (event ∷ events) = after_all (does world event).world events

abbrev pub entries_all : WorldState → List IncludeEvent → List IncludeEntry
entries_all world [] = []
entries_all world (event ∷ events) = (does world event).entries ++ entries_all (does world event).world events

-- no more frames have arrived than were sent
abbrev pub AllSent : WorldState → Type 0
AllSent world = world.air.landed ≤ length world.air.frames

-- the bytes that are drawn for an event are eight
abbrev pub IsDrawn : IncludeEvent → Type 0
IsDrawn (Says line drawn) = length drawn ≡ 8
IsDrawn Passes = Unit {0}
IsDrawn (Lands drawn) = length drawn ≡ 8
IsDrawn Ends = Unit {0}

abbrev pub AllDrawn : List IncludeEvent → Type 0
AllDrawn [] = Unit {0}
AllDrawn (event ∷ events) = IsDrawn event × AllDrawn events

-- these events were done, and their entries were made
pub record Did (events : List IncludeEvent) (old new : WorldState) (before all : List IncludeEntry) : Type 0 where
  pub drawn : AllDrawn events
  pub arrives : AllSent old → AllSent new
  pub state : new ≡ after_all old events
  pub entries : all ≡ before ++ entries_all old events

-- ---- the table

-- what both ends hold of a node
abbrev pub node_entries : WorldState → ℕ → List IncludeEntry
node_entries world node =
    if slice_index_or world.added node false
    then Node node (is_secure world.includer node) (is_some (joiner_of world node).key) ∷ [] else []

-- one entry for each node that was added, in order
unfoldable pub table_of : WorldState → List IncludeEntry
table_of world = flat_map (node_entries world) (range_with_len 1 232)
