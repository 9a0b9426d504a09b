-- What may happen to the machine, one event at a time, what it makes of it, and its entries (this project's own rule). An event carries
-- what is chosen in it.
use Rattle.std.specs.Prelude.{◌≡◌, ℕ, true, false, Option, Some, None, List, [], ◌∷◌, ◌++◌, map, take}
use Rattle.serial_frame.specs.Stream.{Rest, Feeds, after_tick, no_rest}
use Rattle.serial_frame.specs.declared.item.Item.{Item}
use Rattle.s0_crypto.specs.declared.key_pair.Keys.{Keys}
use Rattle.value_store.specs.Values.{held_of}
use Rattle.value_store.specs.ValueText.{values_text}
use Rattle.zw_text.specs.declared.line.Line.{Line}
use Rattle.zw_text.specs.declared.entry.Refusal.{Refusal}
use Rattle.zw_text.specs.declared.entry.Entry.{Entry}
use Rattle.zw_text.specs.declared.entry.Entry.TheVariants.{Refused, Json}
use Rattle.host_model.specs.host_keep.declared.record.Record.{Record}
use Rattle.host_model.specs.host_keep.Legal.{AreTextsOf, AreLegal}
use Rattle.host_model.specs.Opening.{opened}
use Rattle.host_model.specs.State.{HostState}
use Rattle.host_model.specs.Events.{HostEvent}
use Rattle.host_model.specs.Did.{MayAll as MayAllHost}
use Rattle.host_model.specs.Taking.{AreJudged}
use Rattle.host_model.specs.Outs.{answers}
use Rattle.outside_model.specs.State.{is_stalled}
use Rattle.outside_model.specs.Events.{OuterEvent, Host_takes as host_takes, Host_notes, is_own, May as MayOutside, happens as happens_outside, entries as outside_entries}
use Rattle.outside_model.specs.Did.{happens_all as happens_all_outside, entries_all as outside_entries_all}
use Rattle.world_model.specs.State.{Machine, with_outside, host_does, host_entries}
use Rattle.world_model.specs.Refusals.{IsRefused}

-- something happens outside the host; the host does something, of itself or when it is asked; it takes the first bytes of its pipe, which
-- end these items, and what they make it do; what is unfinished of them counts a tick; a line is refused; the stored values of a node
-- are shown; the host stops, and one that starts from the records goes on
pub data Event : Type 0 where
  Outside_does : (event : OuterEvent) → Event
  Host_does : (event : HostEvent) → Event
  Host_takes : (count : ℕ) (rest : Rest) (items : List Item) (events : List HostEvent) → Event
  Decoder_ticks : Event
  Refuses : (line : Line) (refusal : Refusal) → Event
  Shows_values : (node : ℕ) → Event
  Restarts : (state : HostState) → Event

-- ---- words

-- entries that stand for themselves
abbrev pub notes : List Entry → List OuterEvent
notes entries = map Host_notes entries

-- the host after an event, and the answer
abbrev pub host_answers : Machine → HostEvent → Machine
host_answers m event = with_outside (host_does m (event ∷ [])) (happens_all_outside (host_does m (event ∷ [])).outside (notes (answers m.host.state event)))

abbrev pub answer_entries : Machine → HostEvent → List Entry
answer_entries m event =
    host_entries m (event ∷ []) ++ outside_entries_all (host_does m (event ∷ [])).outside (notes (answers m.host.state event))

-- the host has taken bytes out of its pipe
abbrev pub fed : Machine → ℕ → Rest → Machine
fed m count rest = record { keys = m.keys; host = record { decoder = rest; state = m.host.state }; records = m.records; outside = happens_outside m.outside (host_takes count) }

-- only an entry
abbrev pub enters : Machine → Entry → Machine
enters m entry = with_outside m (happens_outside m.outside (Host_notes entry))

abbrev pub entered : Machine → Entry → List Entry
entered m entry = outside_entries m.outside (Host_notes entry)

-- the values of a node, as they are shown
abbrev pub shown_values : HostState → ℕ → Entry
shown_values h node = Json (values_text node (held_of h.store node))

-- the host that starts from the records of a keeper, where it tells them
abbrev pub OpensFrom : Keys → Option (List (List ℕ)) → HostState → Type 0
OpensFrom keys None state = Unit {0}
OpensFrom keys (Some texts) state = (records : List Record) × AreTextsOf records texts × AreLegal records × (state ≡ opened keys records)

-- ---- the machine after an event

unfoldable pub happens : Machine → Event → Machine
happens m (Outside_does event) = with_outside m (happens_outside m.outside event)
happens m (Host_does event) = host_answers m event
happens m (Host_takes count rest items events) = host_does (fed m count rest) events
happens m Decoder_ticks = record m { host = record { decoder = after_tick m.host.decoder; state = m.host.state } }
happens m (Refuses line refusal) = enters m (Refused refusal)
happens m (Shows_values node) = enters m (shown_values m.host.state node)
happens m (Restarts state) = record m { host = record { decoder = no_rest; state = state } }

-- its entries
unfoldable pub entries : Machine → Event → List Entry
entries m (Outside_does event) = outside_entries m.outside event
entries m (Host_does event) = answer_entries m event
entries m (Host_takes count rest items events) = host_entries (fed m count rest) events
entries m Decoder_ticks = []
entries m (Refuses line refusal) = entered m (Refused refusal)
entries m (Shows_values node) = entered m (shown_values m.host.state node)
entries m (Restarts state) = []

-- the first bytes of the host's pipe end these items, which make it do this; no byte moves in a stall
pub record MayTake (m : Machine) (count : ℕ) (rest : Rest) (items : List Item) (events : List HostEvent) : Type 0 where
  pub moves : is_stalled m.outside.outer ≡ false
  pub feeds : Feeds m.host.decoder (take count m.outside.outer.to_host.bytes) rest items
  pub judged : AreJudged m.host.state items events
  pub may : MayAllHost m.host.state events

-- when it may happen
unfoldable pub May : Machine → Event → Type 0
May m (Outside_does event) = (is_own event ≡ true) × MayOutside m.outside event
May m (Host_does event) = MayAllHost m.host.state (event ∷ [])
May m (Host_takes count rest items events) = MayTake m count rest items events
May m Decoder_ticks = Unit {0}
May m (Refuses line refusal) = IsRefused m line refusal
May m (Shows_values node) = Unit {0}
May m (Restarts state) = OpensFrom m.keys m.records state
