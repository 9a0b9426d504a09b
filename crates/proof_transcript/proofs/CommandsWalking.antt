-- In a line, whole or cut short, each session that begins is followed by the start of its attempt: a pump is done whole or not at all.
use Rattle.std.proofs.Common.{◌≡◌, ℕ, zero, suc, Bool, true, false, List, [], ◌∷◌, ◌++◌, map, inl, inr, sym, subst}
use Rattle.std.specs.List.{AllByRecursion}
use Rattle.zw_text.specs.declared.line.Line.{Line}
use Rattle.zw_text.specs.declared.line.Line.TheVariants as line
use Rattle.proof_air.specs.host_model.Events.{HostEvent, Node_ticks}
use Rattle.proof_air.specs.host_model.Ticking.{first_ticks, tick_events, ticking_nodes}
use Rattle.proof_air.specs.host_model.Did.{after_all}
use Rattle.proof_air.specs.outside_model.Events.{OuterEvent}
use Rattle.proof_air.specs.outside_model.State.{is_stalled}
use Rattle.proof_air.specs.world_model.State.{Machine}
use Rattle.proof_air.specs.world_model.Events.{Event, Outside_does, Host_does, Decoder_ticks, happens}
use Rattle.proof_air.specs.world_model.Did.{happens_all, AllAlong, PrefixOf, Nothing, Schedule, Then, ThenPrefix}
use Rattle.proof_air.specs.world_model.Settling.{Outside, IsPump, IsChipPart, IsHostPart, IsMove, IfMoved, Passes, Settles, TakesBy}
use Rattle.proof_air.specs.world_model.Ticking.{IsClockTick, IsDelivery, IsGiving, IsDeviceTick, IsChipTick, IsOutsideTick, IsHostTick, IsTick, Ticks}
use Rattle.proof_air.specs.world_model.Lines.{IsEffect, IsLineBegin, IsLineRest}
use Rattle.proof_air.specs.world_model.Prefixes.{PassesPrefix, SettlesPrefix, OutsideTickPrefix, TickPrefix, TicksPrefix, EffectPrefix, LineRestPrefix, LinePart}
use Rattle.proof_air.proofs.Along.{IsAskedBy, IsOfEffect, along, anywhere, effect_along}
use Rattle.proof_air.proofs.Pieces.{Law, Of}
use Rattle.proof_transcript.proofs.Common.{IsNoBeginning}
use Rattle.proof_transcript.proofs.PairedEvents.{Paired, BeginsNone, both_paired, none_paired, outside_none}
use Rattle.proof_transcript.proofs.ServedNodes.{pump_paired}

-- ---- where no session begins

abbrev NoneAt : Machine → Event → Type 0
NoneAt m event = BeginsNone event

abbrev NoneBegin : Schedule
NoneBegin = AllAlong NoneAt

law : Law NoneBegin
law = along NoneAt

along_none : (m : Machine) (events : List Event) → AllByRecursion BeginsNone events → NoneBegin m events
along_none m [] none = tt
along_none m (event ∷ events) none = (none.0, along_none (happens m event) events none.1)

these_none : (m : Machine) (events these : List Event) → events ≡ these → AllByRecursion BeginsNone these → NoneBegin m events
these_none m events these are none = subst (λ (l : List Event). NoneBegin m l) (sym are) (along_none m these none)

outside : (Kind : List OuterEvent → Type 0) (m : Machine) (events : List Event) → Outside Kind events → NoneBegin m events
outside Kind m events (inner, is, are) = these_none m events (map Outside_does inner) are (outside_none inner)

as_none : (event these : HostEvent) → event ≡ these → IsNoBeginning these → IsNoBeginning event
as_none event these is none = subst IsNoBeginning (sym is) none

asked_none : (said : Line) (m : Machine) (event : HostEvent) → IsAskedBy said m event → IsNoBeginning event
asked_none (line.Command order) m event is = as_none event _ is tt
asked_none (line.Send node word) m event asks = as_none event _ asks.is tt
asked_none (line.Get node end) m event asks = as_none event _ asks.is tt
asked_none (line.Join node) m event is = as_none event _ is tt
asked_none (line.Interview node) m event asks = as_none event _ asks.is tt
asked_none (line.Cancel command) m event is = as_none event _ is tt
asked_none line.Discover m event is = as_none event _ is tt
asked_none (line.Neighbours node) m event is = as_none event _ is tt
asked_none (line.Failed node) m event is = as_none event _ is tt
asked_none line.Probe m event is = as_none event _ is tt
asked_none said m event is = absurd is

effect_none : (said : Line) (m : Machine) (event : Event) → IsOfEffect said m event → NoneAt m event
effect_none said m (Host_does event) is = asked_none said m event is
effect_none said m event is = tt

-- a prefix of what begins none
prefix_none : (Kind : Schedule) → Of NoneBegin Kind → Of NoneBegin (PrefixOf Kind)
prefix_none Kind whole m events (inl none) = these_none m events [] none tt
prefix_none Kind whole m events (inr (rest, is)) = law.prefix m events rest (whole m (events ++ rest) is)

effect : (said : Line) → Of NoneBegin (IsEffect said)
effect said = effect_along NoneAt said (effect_none said)

effect_prefix : (said : Line) → Of NoneBegin (EffectPrefix said)
effect_prefix line.Restart m events (inl none) = these_none m events [] none tt
effect_prefix line.Restart m events (inr (state, are)) = these_none m events _ are (tt, (tt, tt))
effect_prefix said m events is = prefix_none (IsEffect said) (effect said) m events is

-- ---- pairs

abbrev Pairs : Schedule
Pairs m events = Paired events

of_plain : (Kind : Schedule) → Of NoneBegin Kind → Of Pairs Kind
of_plain Kind none m events is = none_paired events (anywhere BeginsNone m events (none m events is))

nothing : Of Pairs Nothing
nothing m events are = subst Paired (sym are) tt

after_first : (First Second : Schedule) → Of Pairs First → Of Pairs Second → Of Pairs (Then First Second)
after_first First Second first second m events (a, b, are, is_first, is_second) =
    subst Paired (sym are) (both_paired a b (first m a is_first) (second (happens_all m a) b is_second))

after_prefix : (FirstPrefix First SecondPrefix : Schedule) → Of Pairs FirstPrefix → Of Pairs First → Of Pairs SecondPrefix → Of Pairs (ThenPrefix FirstPrefix First SecondPrefix)
after_prefix FirstPrefix First SecondPrefix prefix first second m events (inl is) = prefix m events is
after_prefix FirstPrefix First SecondPrefix prefix first second m events (inr is) = after_first First SecondPrefix first second m events is

pump : Of Pairs IsPump
pump m events (inner, pumps, are) = subst Paired (sym are) (pump_paired m.host.state inner pumps)

chip_part : Of Pairs IsChipPart
chip_part m events is = of_plain IsChipPart (λ n. outside _ n) m events is

taken : (stalled : Bool) (bytes : List ℕ) (events : List Event) → TakesBy stalled bytes events → Paired events
taken true bytes events are = subst Paired (sym are) tt
taken false [] events are = subst Paired (sym are) tt
taken false (byte ∷ bytes) events (rest, items, inner, are) = subst Paired (sym are) tt

host_part : Of Pairs IsHostPart
host_part m events is = taken (is_stalled m.outside.outer) m.outside.outer.to_host.bytes events is

nodes_none : (nodes : List ℕ) → AllByRecursion BeginsNone (map Host_does (map Node_ticks nodes))
nodes_none [] = tt
nodes_none (n ∷ nodes) = (tt, nodes_none nodes)

host_tick : Of Pairs IsHostTick
host_tick m events are = subst Paired (sym are) (none_paired (Decoder_ticks ∷ map Host_does (tick_events m.host.state)) (tt, (tt, (tt, nodes_none (ticking_nodes (after_all m.host.state first_ticks))))))

-- ---- a settling

if_moved : (moved : List Event) (More : Schedule) → Of Pairs More → Of Pairs (IfMoved moved More)
if_moved [] More more m events is = nothing m events is
if_moved (one ∷ moved) More more m events is = more m events is

moves : Of Pairs IsMove
moves = after_first IsChipPart IsHostPart chip_part host_part

passes : (count : ℕ) → Of Pairs (Passes count)
passes zero m events is = nothing m events is
passes (suc more) m events (moved, rest, are, is, later) =
    subst Paired (sym are)
    (both_paired moved rest (moves m moved is) (after_first IsPump (IfMoved moved (Passes more)) pump (if_moved moved (Passes more) (passes more)) (happens_all m moved) rest later))

settles : Of Pairs Settles
settles = after_first IsPump (Passes 64) pump (passes 64)

passes_prefix : (count : ℕ) → Of Pairs (PassesPrefix count)
passes_prefix zero m events is = nothing m events is
passes_prefix (suc more) m events (inl is) = after_prefix Nothing IsChipPart Nothing nothing chip_part nothing m events is
passes_prefix (suc more) m events (inr (moved, rest, are, is, later)) =
    subst Paired (sym are)
    (both_paired moved rest (moves m moved is)
    (after_prefix Nothing IsPump (IfMoved moved (PassesPrefix more)) nothing pump (if_moved moved (PassesPrefix more) (passes_prefix more)) (happens_all m moved) rest later))

settles_prefix : Of Pairs SettlesPrefix
settles_prefix = after_prefix Nothing IsPump (PassesPrefix 64) nothing pump (passes_prefix 64)

-- ---- ticks

delivery : Of NoneBegin IsDelivery
delivery m events is = outside _ m events is

giving : Of NoneBegin IsGiving
giving m events is = outside _ m events is

device_tick : Of NoneBegin IsDeviceTick
device_tick m events is = outside _ m events is

chip_tick : Of NoneBegin IsChipTick
chip_tick m events are = these_none m events _ are (tt, tt)

outside_tick : Of Pairs IsOutsideTick
outside_tick =
    after_first IsDelivery (Then IsGiving (Then IsDeviceTick IsChipTick)) (of_plain IsDelivery delivery)
    (after_first IsGiving (Then IsDeviceTick IsChipTick) (of_plain IsGiving giving) (after_first IsDeviceTick IsChipTick (of_plain IsDeviceTick device_tick) (of_plain IsChipTick chip_tick)))

outside_prefix : Of Pairs OutsideTickPrefix
outside_prefix =
    let devices : Schedule = ThenPrefix (PrefixOf IsDeviceTick) IsDeviceTick Nothing in
    after_prefix (PrefixOf IsDelivery) IsDelivery (ThenPrefix (PrefixOf IsGiving) IsGiving devices) (of_plain (PrefixOf IsDelivery) (prefix_none IsDelivery delivery)) (of_plain IsDelivery delivery)
    (after_prefix (PrefixOf IsGiving) IsGiving devices (of_plain (PrefixOf IsGiving) (prefix_none IsGiving giving)) (of_plain IsGiving giving)
    (after_prefix (PrefixOf IsDeviceTick) IsDeviceTick Nothing (of_plain (PrefixOf IsDeviceTick) (prefix_none IsDeviceTick device_tick)) (of_plain IsDeviceTick device_tick) nothing))

clock : Of Pairs IsClockTick
clock m events are = subst Paired (sym are) tt

tick : Of Pairs IsTick
tick =
    after_first IsClockTick (Then IsOutsideTick (Then IsHostTick Settles)) clock
    (after_first IsOutsideTick (Then IsHostTick Settles) outside_tick (after_first IsHostTick Settles host_tick settles))

ticks : (count : ℕ) → Of Pairs (Ticks count)
ticks zero m events is = nothing m events is
ticks (suc more) m events is = after_first IsTick (Ticks more) tick (ticks more) m events is

tick_prefix : Of Pairs TickPrefix
tick_prefix =
    let host : Schedule = ThenPrefix Nothing IsHostTick SettlesPrefix in
    after_prefix Nothing IsClockTick (ThenPrefix OutsideTickPrefix IsOutsideTick host) nothing clock
    (after_prefix OutsideTickPrefix IsOutsideTick host outside_prefix outside_tick (after_prefix Nothing IsHostTick SettlesPrefix nothing host_tick settles_prefix))

ticks_prefix : (count : ℕ) → Of Pairs (TicksPrefix count)
ticks_prefix zero m events is = nothing m events is
ticks_prefix (suc more) m events is = after_prefix TickPrefix IsTick (TicksPrefix more) tick_prefix tick (ticks_prefix more) m events is

-- ---- a line

begins : Of Pairs IsLineBegin
begins m events are = subst Paired (sym are) tt

line_rest : (said : Line) → Of Pairs (IsLineRest said)
line_rest (line.Tick count) = ticks count
line_rest said = after_first (IsEffect said) Settles (of_plain (IsEffect said) (effect said)) settles

line_rest_prefix : (said : Line) → Of Pairs (LineRestPrefix said)
line_rest_prefix (line.Tick count) = ticks_prefix count
line_rest_prefix said =
    after_prefix (EffectPrefix said) (IsEffect said) SettlesPrefix (of_plain (EffectPrefix said) (effect_prefix said)) (of_plain (IsEffect said) (effect said)) settles_prefix

pub line_paired : (said : Line) (m : Machine) (events : List Event) → LinePart said m events → Paired events
line_paired said m events (inl is) = after_first IsLineBegin (IsLineRest said) begins (line_rest said) m events is
line_paired said m events (inr is) = after_prefix Nothing IsLineBegin (LineRestPrefix said) nothing begins (line_rest_prefix said) m events is
