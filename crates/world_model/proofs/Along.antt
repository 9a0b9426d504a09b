-- What each event of a line may be, at the machine as it is then. What holds of each such event holds all along the line, whole or cut short.
use Rattle.std.proofs.Common.{◌≡◌, ℕ, zero, suc, Bool, true, false, List, [], ◌∷◌, ◌++◌, length, map, inl, inr, refl, ap, sym, subst, ◌+◌, ◌-◌}
use Rattle.std.specs.Prelude.{Option, Some, None}
use Rattle.std.specs.List.{AllByRecursion}
use Rattle.zw_text.specs.declared.line.Line.{Line}
use Rattle.zw_text.specs.declared.line.Line.TheVariants.{Command, Tick, Cut, Stall, Drop, Garble, Collide, Send, Get, Join, Interview, Lose, LoseAck, Repeat, Wake, Cancel, Link, Unlink, Discover, Neighbours, Failed, Probe, Local, Show, Store, Restart}
use Rattle.host_orders.specs.declared.refused.Refused.{Refused}
use Rattle.host_orders.specs.Refusals.{classes_of}
use Rattle.host_orders.specs.Errands.{send_refusal, send_text, get_refusal, get_text}
use Rattle.host_model.specs.host_requests.declared.task.Task.TheVariants as task
use Rattle.host_model.specs.State.{node_of}
use Rattle.host_model.specs.Events.{HostEvent, Accepts, Cancels, Joins as joins_host, Queues, Queues_interview, Queues_probe, IsOwn}
use Rattle.host_model.specs.May.{known_of}
use Rattle.host_model.specs.Asking.{carriage_for, places_refusal, interview_refusal}
use Rattle.host_model.specs.Ticking.{tick_events}
use Rattle.outside_model.specs.State.{is_stalled}
use Rattle.outside_model.specs.Events.{OuterEvent, Chip_takes, Discovers}
use Rattle.outside_model.specs.Schedules.{TakesBy as ChipTakesBy, Arrivals, Delivers, Givings, DeviceTicks, IsRepeat, IsWake, IsSet}
use Rattle.world_model.specs.State.{Machine}
use Rattle.world_model.specs.Events.{Event, Outside_does, Host_does, Host_takes, Decoder_ticks, Refuses, Shows_values, Restarts, happens}
use Rattle.world_model.specs.Did.{happens_all, AllAlong}
use Rattle.world_model.specs.Settling.{Outside, IsPump, IsChipPart, IsHostPart, TakesBy, OuterTakesAll}
use Rattle.world_model.specs.Ticking.{IsHostTick}
use Rattle.world_model.specs.Lines.{IsRefusal, IsDone, Asks, IsRestart, IsDiscovery, IsEffect}
use Rattle.host_model.proofs.Own.{pump_own, tick_own}
use Rattle.world_model.proofs.Pieces.{Of, Law, Pieces}

-- ---- what an event may be

-- of the parts that are in every line: what is outside takes all bytes that are there, and so does the host; what the host does is of itself
abbrev pub IsOfPart : Machine → Event → Type 0
IsOfPart m (Outside_does event) = OuterTakesAll m event
IsOfPart m (Host_does event) = IsOwn event
IsOfPart m (Host_takes count rest items events) = count ≡ length m.outside.outer.to_host.bytes
IsOfPart m Decoder_ticks = Unit {0}
IsOfPart m event = ⊥

-- this is asked for, where no rule refuses it
pub record Asked (rule : Option Refused) (asked event : HostEvent) : Type 0 where
  pub allowed : rule ≡ None
  pub is : event ≡ asked

-- what a line asks of the host
abbrev pub IsAskedBy : Line → Machine → HostEvent → Type 0
IsAskedBy (Command order) m event = event ≡ Accepts order (carriage_for m.host.state order)
IsAskedBy (Send node word) m event =
    Asked (send_refusal (known_of (node_of m.host.state node)) (length m.host.state.requests.queue) word)
    (Queues (task.Plain node (send_text (classes_of (known_of (node_of m.host.state node))) word))) event
IsAskedBy (Get node end) m event =
    Asked (get_refusal (known_of (node_of m.host.state node)) (length m.host.state.requests.queue) end)
    (Queues (task.Plain node (get_text (classes_of (known_of (node_of m.host.state node))) end))) event
IsAskedBy (Join node) m event = event ≡ joins_host node
IsAskedBy (Interview node) m event = Asked (interview_refusal m.host.state node) (Queues_interview node) event
IsAskedBy (Cancel command) m event = event ≡ Cancels command
IsAskedBy Discover m event = event ≡ Queues task.Members
IsAskedBy (Neighbours node) m event = event ≡ Queues (task.Neighbours node)
IsAskedBy (Failed node) m event = event ≡ Queues (task.IsFailed node)
IsAskedBy Probe m event = event ≡ Queues_probe
IsAskedBy line m event = ⊥

-- of the effect of a line
abbrev pub IsOfEffect : Line → Machine → Event → Type 0
IsOfEffect line m (Outside_does event) = OuterTakesAll m event
IsOfEffect line m (Host_does event) = IsAskedBy line m event
IsOfEffect line m (Host_takes count rest items events) = ⊥
IsOfEffect line m Decoder_ticks = ⊥
IsOfEffect line m event = Unit {0}

-- ---- events outside that take nothing

abbrev pub TakesNone : OuterEvent → Type 0
TakesNone (Chip_takes count rest ways) = ⊥
TakesNone event = Unit {0}

takes_none : (m : Machine) (event : OuterEvent) → TakesNone event → OuterTakesAll m event
takes_none m (Chip_takes count rest ways) none = absurd none
takes_none m _ none = tt

pub arrivals_none : (count : ℕ) (inner : List OuterEvent) → Arrivals count inner → AllByRecursion TakesNone inner
arrivals_none zero inner is = subst (λ (l : List OuterEvent). AllByRecursion TakesNone l) (sym is) tt
arrivals_none (suc count) inner (drawn, route, rest, are, more) = subst (λ (l : List OuterEvent). AllByRecursion TakesNone l) (sym are) (tt, arrivals_none count rest more)

pub givings_none : (count : ℕ) (inner : List OuterEvent) → Givings count inner → AllByRecursion TakesNone inner
givings_none zero inner is = subst (λ (l : List OuterEvent). AllByRecursion TakesNone l) (sym is) tt
givings_none (suc count) inner (route, rest, are, more) = subst (λ (l : List OuterEvent). AllByRecursion TakesNone l) (sym are) (tt, givings_none count rest more)

pub device_ticks_none : (place count : ℕ) (inner : List OuterEvent) → DeviceTicks place count inner → AllByRecursion TakesNone inner
device_ticks_none place zero inner is = subst (λ (l : List OuterEvent). AllByRecursion TakesNone l) (sym is) tt
device_ticks_none place (suc count) inner (drawn, route, rest, are, more) =
    subst (λ (l : List OuterEvent). AllByRecursion TakesNone l) (sym are) (tt, device_ticks_none (place + 1) count rest more)

repeat_none : (number : ℕ) (inner : List OuterEvent) → IsRepeat number inner → AllByRecursion TakesNone inner
repeat_none number inner (drawn, route, are) = subst (λ (l : List OuterEvent). AllByRecursion TakesNone l) (sym are) (tt, tt)

wake_none : (node : ℕ) (inner : List OuterEvent) → IsWake node inner → AllByRecursion TakesNone inner
wake_none node inner (route, are) = subst (λ (l : List OuterEvent). AllByRecursion TakesNone l) (sym are) (tt, tt)

set_none : (node value : ℕ) (inner : List OuterEvent) → IsSet node value inner → AllByRecursion TakesNone inner
set_none node value inner (route, are) = subst (λ (l : List OuterEvent). AllByRecursion TakesNone l) (sym are) (tt, tt)

module _ (Has : Machine → Event → Type 0) where
  -- ---- all along a list of events

  has_both : (m : Machine) (a b : List Event) → AllAlong Has m a → AllAlong Has (happens_all m a) b → AllAlong Has m (a ++ b)
  has_both m [] b first later = later
  has_both m (event ∷ a) b first later = (first.0, has_both (happens m event) a b first.1 later)

  has_prefix : (m : Machine) (a b : List Event) → AllAlong Has m (a ++ b) → AllAlong Has m a
  has_prefix m [] b all = tt
  has_prefix m (event ∷ a) b all = (all.0, has_prefix (happens m event) a b all.1)

  pub along : Law (AllAlong Has)
  along = record { none = λ m. tt; both = has_both; prefix = has_prefix }

  as_events : (m : Machine) (events these : List Event) → events ≡ these → AllAlong Has m these → AllAlong Has m events
  as_events m events these are all = subst (λ (l : List Event). AllAlong Has m l) (sym are) all

  -- what is outside takes nothing
  outer_along : ((m : Machine) (event : OuterEvent) → OuterTakesAll m event → Has m (Outside_does event)) → (m : Machine) (inner : List OuterEvent) → AllByRecursion TakesNone inner
      → AllAlong Has m (map Outside_does inner)
  outer_along has m [] none = tt
  outer_along has m (event ∷ inner) none = (has m event (takes_none m event none.0), outer_along has (happens m (Outside_does event)) inner none.1)

  outside_along : ((m : Machine) (event : OuterEvent) → OuterTakesAll m event → Has m (Outside_does event)) → (Kind : List OuterEvent → Type 0)
      → ((inner : List OuterEvent) → Kind inner → AllByRecursion TakesNone inner) → (m : Machine) (events : List Event) → Outside Kind events → AllAlong Has m events
  outside_along has Kind none m events (inner, is, are) = as_events m events (map Outside_does inner) are (outer_along has m inner (none inner is))

  -- ---- the parts that are in every line

  module _ (part : (m : Machine) (event : Event) → IsOfPart m event → Has m event) where
    outer : (m : Machine) (event : OuterEvent) → OuterTakesAll m event → Has m (Outside_does event)
    outer m event = part m (Outside_does event)

    one : (m : Machine) (event : OuterEvent) (events : List Event) → events ≡ Outside_does event ∷ [] → TakesNone event → AllAlong Has m events
    one m event events are none = as_events m events (Outside_does event ∷ []) are (outer m event (takes_none m event none), tt)

    own_along : (m : Machine) (inner : List HostEvent) → AllByRecursion IsOwn inner → AllAlong Has m (map Host_does inner)
    own_along m [] own = tt
    own_along m (event ∷ inner) own = (part m (Host_does event) own.0, own_along (happens m (Host_does event)) inner own.1)

    pump_along : Of (AllAlong Has) IsPump
    pump_along m events (inner, pumps, are) = as_events m events (map Host_does inner) are (own_along m inner (pump_own m.host.state inner pumps))

    chip_along : (m : Machine) (stalled : Bool) (bytes : List ℕ) (inner : List OuterEvent) → ChipTakesBy stalled bytes m.outside.outer inner → AllAlong Has m (map Outside_does inner)
    chip_along m true bytes inner is = subst (λ (l : List OuterEvent). AllAlong Has m (map Outside_does l)) (sym is) tt
    chip_along m false [] inner is = subst (λ (l : List OuterEvent). AllAlong Has m (map Outside_does l)) (sym is) tt
    chip_along m false (byte ∷ bytes) inner is = subst (λ (l : List OuterEvent). AllAlong Has m (map Outside_does l)) (sym is.are) (outer m _ refl, tt)

    chip_part_along : Of (AllAlong Has) IsChipPart
    chip_part_along m events (inner, is, are) =
        as_events m events (map Outside_does inner) are (chip_along m (is_stalled m.outside.outer) m.outside.outer.to_chip.bytes inner is)

    host_along : (m : Machine) (stalled : Bool) (bytes : List ℕ) (events : List Event) → m.outside.outer.to_host.bytes ≡ bytes → TakesBy stalled bytes events → AllAlong Has m events
    host_along m true bytes events there is = as_events m events [] is tt
    host_along m false [] events there is = as_events m events [] is tt
    host_along m false (byte ∷ bytes) events there (rest, items, inner, are) = as_events m events _ are (part m _ (sym (ap length there)), tt)

    host_part_along : Of (AllAlong Has) IsHostPart
    host_part_along m events is = host_along m (is_stalled m.outside.outer) m.outside.outer.to_host.bytes events refl is

    host_tick_along : Of (AllAlong Has) IsHostTick
    host_tick_along m events are = as_events m events _ are (part m Decoder_ticks tt, own_along (happens m Decoder_ticks) (tick_events m.host.state) (tick_own m.host.state))

    pub pieces_along : Pieces (AllAlong Has)
    pieces_along = record {
      begins = λ m events are. one m _ events are tt;
      pump = pump_along;
      chip_part = chip_part_along;
      host_part = host_part_along;
      clock = λ m events are. one m _ events are tt;
      delivery = λ m. outside_along outer (Delivers m.outside.outer) (arrivals_none (m.outside.outer.air.frames.sent - m.outside.outer.air.frames.landed)) m;
      giving = λ m. outside_along outer (Givings (length m.outside.outer.due)) (givings_none (length m.outside.outer.due)) m;
      device_tick = λ m. outside_along outer (DeviceTicks 0 (length m.outside.devices)) (device_ticks_none 0 (length m.outside.devices)) m;
      chip_tick = λ m events are. one m _ events are tt;
      host_tick = host_tick_along;
    }

  -- ---- the effect of a line

  abbrev OfEffect : Line → Type 0
  OfEffect line = (m : Machine) (event : Event) → IsOfEffect line m event → Has m event

  one_of : (line : Line) → OfEffect line → (m : Machine) (event : OuterEvent) (events : List Event) → events ≡ Outside_does event ∷ [] → TakesNone event → AllAlong Has m events
  one_of line has m event events are none = as_events m events (Outside_does event ∷ []) are (has m (Outside_does event) (takes_none m event none), tt)

  some_of : (line : Line) → OfEffect line → (Kind : List OuterEvent → Type 0) → ((inner : List OuterEvent) → Kind inner → AllByRecursion TakesNone inner)
      → (m : Machine) (events : List Event) → Outside Kind events → AllAlong Has m events
  some_of line has Kind none m events is = outside_along (λ m event. has m (Outside_does event)) Kind none m events is

  refusal_of : (line : Line) → OfEffect line → (m : Machine) (events : List Event) → IsRefusal line events → AllAlong Has m events
  refusal_of line has m events (refusal, are) = as_events m events (Refuses line refusal ∷ []) are (has m (Refuses line refusal) tt, tt)

  asks_of : (line : Line) → OfEffect line → (rule : Option Refused) (event : HostEvent) (m : Machine) (events : List Event) → (rule ≡ None → IsAskedBy line m event) → Asks rule line event events
      → AllAlong Has m events
  asks_of line has None event m events asked are = as_events m events (Host_does event ∷ []) are (has m (Host_does event) (asked refl), tt)
  asks_of line has (Some refused) event m events asked (refusal, shown, are) = refusal_of line has m events (refusal, are)

  done_of : (line : Line) → OfEffect line → (these : List Event) (m : Machine) (events : List Event) → AllAlong Has m these → IsDone line these events → AllAlong Has m events
  done_of line has these m events all (inl are) = as_events m events these are all
  done_of line has these m events all (inr refused) = refusal_of line has m events refused

  restart_of : OfEffect Restart → (m : Machine) (events : List Event) → IsRestart events → AllAlong Has m events
  restart_of has m events (inl (state, are)) = as_events m events _ are (has m (Restarts state) tt, (has _ (Outside_does _) tt, (has _ (Outside_does _) tt, tt)))
  restart_of has m events (inr refused) = refusal_of Restart has m events refused

  discovery_of : OfEffect Discover → (m : Machine) (events : List Event) → IsDiscovery m events → AllAlong Has m events
  discovery_of has m events (asked, asks, are) =
      as_events m events (Outside_does Discovers ∷ asked) are
      (has m (Outside_does Discovers) tt, asks_of Discover has (places_refusal m.host.state 1) (Queues task.Members) (happens m (Outside_does Discovers)) asked (λ none. refl) asks)

  pub effect_along : (line : Line) → OfEffect line → Of (AllAlong Has) (IsEffect line)
  effect_along (Command order) has m events is = done_of (Command order) has _ m events (has m (Host_does _) refl, tt) is
  effect_along (Tick count) has m events is = absurd is
  effect_along (Cut size) has m events is = one_of (Cut size) has m _ events is tt
  effect_along (Stall ticks) has m events is = one_of (Stall ticks) has m _ events is tt
  effect_along (Drop by) has m events is = one_of (Drop by) has m _ events is tt
  effect_along (Garble by place xor) has m events is = one_of (Garble by place xor) has m _ events is tt
  effect_along Collide has m events is = one_of Collide has m _ events is tt
  effect_along (Send node word) has m events is =
      asks_of (Send node word) has (send_refusal (known_of (node_of m.host.state node)) (length m.host.state.requests.queue) word)
      (Queues (task.Plain node (send_text (classes_of (known_of (node_of m.host.state node))) word))) m events (λ none. record { allowed = none; is = refl }) is
  effect_along (Get node end) has m events is =
      asks_of (Get node end) has (get_refusal (known_of (node_of m.host.state node)) (length m.host.state.requests.queue) end)
      (Queues (task.Plain node (get_text (classes_of (known_of (node_of m.host.state node))) end))) m events (λ none. record { allowed = none; is = refl }) is
  effect_along (Join node) has m events is = done_of (Join node) has _ m events (has m (Host_does _) refl, (has _ (Outside_does _) tt, tt)) is
  effect_along (Interview node) has m events is =
      asks_of (Interview node) has (interview_refusal m.host.state node) (Queues_interview node) m events (λ none. record { allowed = none; is = refl }) is
  effect_along (Lose count) has m events is = one_of (Lose count) has m _ events is tt
  effect_along (LoseAck count) has m events is = one_of (LoseAck count) has m _ events is tt
  effect_along (Repeat frame) has m events is = some_of (Repeat frame) has (IsRepeat frame) (repeat_none frame) m events is
  effect_along (Wake node) has m events is = some_of (Wake node) has (IsWake node) (wake_none node) m events is
  effect_along (Cancel command) has m events is = done_of (Cancel command) has _ m events (has m (Host_does _) refl, tt) is
  effect_along (Link first second) has m events is = one_of (Link first second) has m _ events is tt
  effect_along (Unlink first second) has m events is = one_of (Unlink first second) has m _ events is tt
  effect_along Discover has m events is = discovery_of has m events is
  effect_along (Neighbours node) has m events is = asks_of (Neighbours node) has (places_refusal m.host.state 1) (Queues (task.Neighbours node)) m events (λ none. refl) is
  effect_along (Failed node) has m events is = asks_of (Failed node) has (places_refusal m.host.state 1) (Queues (task.IsFailed node)) m events (λ none. refl) is
  effect_along Probe has m events is = asks_of Probe has (places_refusal m.host.state 3) Queues_probe m events (λ none. refl) is
  effect_along (Local node value) has m events is = some_of (Local node value) has (IsSet node value) (set_none node value) m events is
  effect_along (Show node) has m events is = one_of (Show node) has m _ events is tt
  effect_along (Store node) has m events is = as_events m events (Shows_values node ∷ []) is (has m (Shows_values node) tt, tt)
  effect_along Restart has m events is = restart_of has m events is

-- what holds of each event wherever it happens holds of each of the list
pub anywhere : (Has : Event → Type 0) (m : Machine) (events : List Event) → AllAlong (λ m event. Has event) m events → AllByRecursion Has events
anywhere Has m [] all = tt
anywhere Has m (event ∷ events) all = (all.0, anywhere Has (happens m event) events all.1)
