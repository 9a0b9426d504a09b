-- Which events of a line accept no order: all but the one that an order's own line asks for.
use Rattle.std.proofs.Common.{◌≡◌, ◌⊎◌, List, [], ◌∷◌, ◌++◌, inl, inr, refl, sym, ap, ap₂, subst, ◌∙◌, arith}
use Rattle.std.specs.List.{AllByRecursion}
use Rattle.std.proofs.lemmas.List.{append-nil}
use Rattle.zw_base.proofs.Each.{all-append}
use Rattle.zw_text.specs.declared.line.Line.{Line}
use Rattle.zw_text.specs.declared.line.Line.TheVariants as line
use Rattle.zw_base.specs.declared.order.Order.{Order}
use Rattle.proof_world.specs.host_model.Asking.{carriage_for}
use Rattle.host_orders.specs.declared.carriage.Carriage.{Carriage}
use Rattle.proof_world.specs.host_model.State.{HostState}
use Rattle.proof_world.specs.host_model.Events.{HostEvent, Accepts, IsOwn}
use Rattle.proof_world.specs.host_model.Outs.{answers, Silent}
use Rattle.proof_once.specs.outside_model.Events.{Begins_line}
use Rattle.proof_once.specs.world_model.State.{Machine}
use Rattle.proof_once.specs.world_model.Events.{Event, Outside_does, Host_does}
use Rattle.proof_once.specs.world_model.Did.{happens_all, AllAlong, PrefixOf}
use Rattle.proof_once.specs.world_model.Settling.{Settles}
use Rattle.proof_once.specs.world_model.Lines.{IsEffect, IsLineBegin}
use Rattle.proof_once.specs.world_model.Prefixes.{SettlesPrefix, LinePart}
use Rattle.proof_once.proofs.Pieces.{Law, Pieces, of_settling, of_settling_prefix, of_line_part}
use Rattle.proof_once.proofs.Along.{IsAskedBy, IsOfPart, IsOfEffect, along, pieces_along, effect_along, anywhere}
use Rattle.proof_world.specs.world_lines.Spoken.{Spoken}
use Rattle.proof_spoken.specs.Spoken.{IsSpoken}
use Rattle.proof_spoken.proofs.Orders.{IsNoOrder}

-- ---- events that answer no line

pub answers_none : (h : HostState) (event : HostEvent) → answers h event ≡ [] → IsNoOrder event
answers_none h (Accepts order carriage) none = absurd (grind arith)
answers_none h event none = tt

pub silent_none : (h : HostState) (events : List HostEvent) → Silent events → AllByRecursion IsNoOrder events
silent_none h [] silent = tt
silent_none h (event ∷ events) silent = (answers_none h event (silent.0 h), silent_none h events silent.1)

-- ---- events of the machine

-- the host is asked for no order
abbrev pub IsPlain : Event → Type 0
IsPlain (Host_does event) = IsNoOrder event
IsPlain event = Unit {0}

abbrev pub ArePlain : List Event → Type 0
ArePlain events = AllByRecursion IsPlain events

plain_are : (events these : List Event) → events ≡ these → ArePlain these → ArePlain events
plain_are events these e all = subst ArePlain (sym e) all

-- ---- parts of lines

pub own_plain : (event : HostEvent) → IsOwn event → IsNoOrder event
own_plain (Accepts order carriage) own = absurd own
own_plain event own = tt

-- wherever it happens
abbrev PlainAt : Machine → Event → Type 0
PlainAt m event = IsPlain event

part_plain : (m : Machine) (event : Event) → IsOfPart m event → PlainAt m event
part_plain m (Host_does event) own = own_plain event own
part_plain m event is = tt

law : Law (AllAlong PlainAt)
law = along PlainAt

pieces : Pieces (AllAlong PlainAt)
pieces = pieces_along PlainAt part_plain

-- ---- effects of lines

-- a line that orders nothing
abbrev pub OrdersNothing : Line → Type 0
OrdersNothing (line.Command order) = ⊥
OrdersNothing other = Unit {0}

as_plain : (event these : HostEvent) → event ≡ these → IsNoOrder these → IsNoOrder event
as_plain event these is none = subst IsNoOrder (sym is) none

host_plain : (said : Line) → OrdersNothing said → (m : Machine) (event : HostEvent) → IsAskedBy said m event → IsNoOrder event
host_plain (line.Command order) none m event is = absurd none
host_plain (line.Send node word) none m event asks = as_plain event _ asks.is tt
host_plain (line.Get node end) none m event asks = as_plain event _ asks.is tt
host_plain (line.Join node) none m event is = as_plain event _ is tt
host_plain (line.Interview node) none m event asks = as_plain event _ asks.is tt
host_plain (line.Cancel command) none m event is = as_plain event _ is tt
host_plain line.Discover none m event is = as_plain event _ is tt
host_plain (line.Neighbours node) none m event is = as_plain event _ is tt
host_plain (line.Failed node) none m event is = as_plain event _ is tt
host_plain line.Probe none m event is = as_plain event _ is tt
host_plain said none m event is = absurd is

effect_plain : (said : Line) → OrdersNothing said → (m : Machine) (event : Event) → IsOfEffect said m event → PlainAt m event
effect_plain said none m (Host_does event) is = host_plain said none m event is
effect_plain said none m event is = tt

-- ---- lines, whole or cut short

pub spoken_part : (more : List Spoken) (m : Machine) (spoken : Spoken) → IsSpoken more m spoken → LinePart spoken.line m spoken.events
spoken_part [] m spoken is = is.is_line
spoken_part (next ∷ more) m spoken is = inl is.is_line

pub line_plain : (said : Line) (m : Machine) (events : List Event) → OrdersNothing said → LinePart said m events → ArePlain events
line_plain said m events none is = anywhere IsPlain m events (of_line_part (AllAlong PlainAt) law pieces said (effect_along PlainAt said (effect_plain said none)) m events is)

settling_plain : (m : Machine) (events : List Event) → Settles m events → ArePlain events
settling_plain m events settles = anywhere IsPlain m events (of_settling (AllAlong PlainAt) law pieces m events settles)

settling_prefix_plain : (m : Machine) (events : List Event) → SettlesPrefix m events → ArePlain events
settling_prefix_plain m events settles = anywhere IsPlain m events (of_settling_prefix (AllAlong PlainAt) law pieces m events settles)

-- the first event after its beginning accepts the order that the line asks for, and no later one does
pub record Orders (order : Order) (events : List Event) : Type 0 where
  pub carriage : Carriage
  pub later : List Event
  pub are : events ≡ Outside_does Begins_line ∷ Host_does (Accepts order carriage) ∷ later
  pub plain : ArePlain later

-- an order is accepted, or none
abbrev pub MayOrder : Order → List Event → Type 0
MayOrder order events = Orders order events ⊎ ArePlain events

-- after the effect no order is accepted
effect_orders : (order : Order) (n : Machine) (effect later : List Event) → IsEffect (line.Command order) n effect → ArePlain later → MayOrder order (Outside_does Begins_line ∷ (effect ++ later))
effect_orders order n effect later (inl accepts) plain =
    inl (record {
      carriage = carriage_for n.host.state order;
      later = later;
      are = ap (λ (l : List Event). Outside_does Begins_line ∷ (l ++ later)) accepts;
      plain = plain;
    })
effect_orders order n effect later (inr (refusal, refuses)) plain = inr (tt, all-append IsPlain effect later (plain_are effect _ refuses (tt, tt)) plain)

-- of the effect nothing was done, or all
effect_begun : (order : Order) (n : Machine) (effect : List Event) → PrefixOf (IsEffect (line.Command order)) n effect → (effect ≡ []) ⊎ IsEffect (line.Command order) n effect
effect_begun order n effect (inl none) = inl none
effect_begun order n [] (inr begun) = inl refl
effect_begun order n (event ∷ []) (inr ([], is)) = inr is
effect_begun order n (event ∷ []) (inr (next ∷ rest, inl are)) = absurd cc
effect_begun order n (event ∷ []) (inr (next ∷ rest, inr (refusal, are))) = absurd cc
effect_begun order n (event ∷ next ∷ effect) (inr (rest, inl are)) = absurd cc
effect_begun order n (event ∷ next ∷ effect) (inr (rest, inr (refusal, are))) = absurd cc

begun_orders : (order : Order) (m : Machine) (events first rest effect later : List Event) → events ≡ first ++ rest → IsLineBegin m first → rest ≡ effect ++ later
    → IsEffect (line.Command order) (happens_all m first) effect → ArePlain later → MayOrder order events
begun_orders order m events first rest effect later are is parts done plain =
    subst (λ (l : List Event). MayOrder order l) (sym (are ∙ ap₂ (λ (a b : List Event). a ++ b) is parts)) (effect_orders order (happens_all m first) effect later done plain)

pub line_orders : (order : Order) (m : Machine) (events : List Event) → LinePart (line.Command order) m events → MayOrder order events
line_orders order m events (inl (first, rest, are, is, (effect, settling, parts, done, settles))) =
    begun_orders order m events first rest effect settling are is parts done (settling_plain (happens_all (happens_all m first) effect) settling settles)
line_orders order m events (inr (inl none)) = inr (plain_are events [] none tt)
line_orders order m events (inr (inr (first, rest, are, is, inl prefix))) = elim (effect_begun order (happens_all m first) rest prefix) [
  | inl none ↦ inr (plain_are events _ (are ∙ ap₂ (λ (a b : List Event). a ++ b) is none) (tt, tt))
  | inr done ↦ begun_orders order m events first rest rest [] are is (sym (append-nil rest)) done tt
]
line_orders order m events (inr (inr (first, rest, are, is, inr (effect, settling, parts, done, settles)))) =
    begun_orders order m events first rest effect settling are is parts done (settling_prefix_plain (happens_all (happens_all m first) effect) settling settles)

-- a line asks for an order, or for none
pub line_kind : (said : Line) → ((order : Order) × (said ≡ line.Command order)) ⊎ OrdersNothing said
line_kind (line.Command order) = inl (order, refl)
line_kind other = inr tt
