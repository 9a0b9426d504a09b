-- The parts of a line that let no frame arrive, begin no line or tick, and mark no frames: all but its beginning, the clock, deliveries, and what `lose` and `repeat` do.
use Rattle.std.proofs.Common.{◌≡◌, ℕ, zero, suc, ◌+◌, ◌⊎◌, inl, inr, Bool, true, false, Option, Some, None, List, [], ◌∷◌, ◌++◌, map, refl, ap, sym, subst, ◌∙◌, append_assoc}
use Rattle.std.specs.List.{AllByRecursion}
use Rattle.zw_base.proofs.Each.{all-append, all-left}
use Rattle.zw_text.specs.declared.line.Line.{Line}
use Rattle.zw_text.specs.declared.line.Line.TheVariants.{Command, Tick, Cut, Stall, Drop, Garble, Collide, Send, Get, Join, Interview, Lose, LoseAck, Repeat, Wake, Cancel, Link, Unlink, Discover, Neighbours, Failed, Probe, Local, Show, Store, Restart}
use Rattle.host_orders.specs.declared.refused.Refused.{Refused}
use Rattle.proof_air.specs.host_model.Events.{HostEvent}
use Rattle.proof_air.specs.host_model.Ticking.{tick_events}
use Rattle.proof_air.specs.outside_model.State.{is_stalled}
use Rattle.proof_air.specs.outside_model.Events.{OuterEvent, Begins_tick, Arrives}
use Rattle.proof_air.specs.outside_model.Schedules.{TakesBy as ChipTakesBy, Arrivals, Givings, DeviceTicks}
use Rattle.proof_air.specs.world_model.State.{Machine}
use Rattle.proof_air.specs.world_model.Events.{Event, Outside_does, Host_does}
use Rattle.proof_air.specs.world_model.Did.{happens_all, Schedule, Then, Nothing, PrefixOf, ThenPrefix}
use Rattle.proof_air.specs.world_model.Settling.{IsPump, IsChipPart, IsHostPart, IsMove, TakesBy, IfMoved, Passes, Settles}
use Rattle.proof_air.specs.world_model.Ticking.{IsClockTick, IsDelivery, IsGiving, IsDeviceTick, IsChipTick, IsHostTick, IsTick}
use Rattle.proof_air.specs.world_model.Lines.{IsRefusal, IsDone, Asks, IsRestart, IsEffect}
use Rattle.proof_air.specs.world_model.Prefixes.{PassesPrefix, SettlesPrefix, TickPrefix, EffectPrefix}
use Rattle.proof_air.proofs.Pieces.{Of, Law, of_none, of_then}
use Rattle.proof_transcript.proofs.Events.{IsQuiet, IsCalm}

abbrev pub Calm : Schedule
Calm m events = AllByRecursion IsCalm events

calm_law : Law Calm
calm_law = record { none = λ m. tt; both = λ m a b. all-append IsCalm a b; prefix = λ m a b. all-left IsCalm a b }

calm_prefix : (Kind : Schedule) → Of Calm Kind → Of Calm (PrefixOf Kind)
calm_prefix Kind calm m events (inl none) = of_none Calm calm_law m events none
calm_prefix Kind calm m events (inr (rest, is)) = all-left IsCalm events rest (calm m (events ++ rest) is)

calm_then_prefix : (FirstPrefix First SecondPrefix : Schedule) → Of Calm FirstPrefix → Of Calm First → Of Calm SecondPrefix → Of Calm (ThenPrefix FirstPrefix First SecondPrefix)
calm_then_prefix FirstPrefix First SecondPrefix prefix first second m events (inl is) = prefix m events is
calm_then_prefix FirstPrefix First SecondPrefix prefix first second m events (inr is) = of_then Calm calm_law First SecondPrefix first second m events is

calm_as : (events these : List Event) → events ≡ these → AllByRecursion IsCalm these → AllByRecursion IsCalm events
calm_as events these are calm = subst (AllByRecursion IsCalm) (sym are) calm

host_calm : (inner : List HostEvent) → AllByRecursion IsCalm (map Host_does inner)
host_calm [] = tt
host_calm (event ∷ inner) = (tt, host_calm inner)

outside_calm : (inner : List OuterEvent) → AllByRecursion IsQuiet inner → AllByRecursion IsCalm (map Outside_does inner)
outside_calm [] quiet = tt
outside_calm (event ∷ inner) quiet = (quiet.0, outside_calm inner quiet.1)

-- ---- a settling

calm_pump : Of Calm IsPump
calm_pump m events (inner, pumps, are) = calm_as events (map Host_does inner) are (host_calm inner)

chip_quiet : (m : Machine) (stalled : Bool) (bytes : List ℕ) (inner : List OuterEvent) → ChipTakesBy stalled bytes m.outside.outer inner → AllByRecursion IsQuiet inner
chip_quiet m true bytes inner is = subst (AllByRecursion IsQuiet) (sym is) tt
chip_quiet m false [] inner is = subst (AllByRecursion IsQuiet) (sym is) tt
chip_quiet m false (byte ∷ bytes) inner is = subst (AllByRecursion IsQuiet) (sym is.are) (tt, tt)

calm_chip : Of Calm IsChipPart
calm_chip m events (inner, is, are) = calm_as events (map Outside_does inner) are (outside_calm inner (chip_quiet m (is_stalled m.outside.outer) m.outside.outer.to_chip.bytes inner is))

host_takes_calm : (stalled : Bool) (bytes : List ℕ) (events : List Event) → TakesBy stalled bytes events → AllByRecursion IsCalm events
host_takes_calm true bytes events is = calm_as events [] is tt
host_takes_calm false [] events is = calm_as events [] is tt
host_takes_calm false (byte ∷ bytes) events (rest, items, inner, are) = calm_as events _ are (tt, tt)

calm_host : Of Calm IsHostPart
calm_host m events is = host_takes_calm (is_stalled m.outside.outer) m.outside.outer.to_host.bytes events is

calm_move : Of Calm IsMove
calm_move = of_then Calm calm_law IsChipPart IsHostPart calm_chip calm_host

calm_if_moved : (moved : List Event) (More : Schedule) → Of Calm More → Of Calm (IfMoved moved More)
calm_if_moved [] More more m events is = calm_as events [] is tt
calm_if_moved (one ∷ moved) More more m events is = more m events is

calm_passes : (count : ℕ) → Of Calm (Passes count)
calm_passes zero m events is = calm_as events [] is tt
calm_passes (suc more) m events (moves, rest, are, moved, after) =
    calm_as events (moves ++ rest) are
    (all-append IsCalm moves rest (calm_move m moves moved)
    (of_then Calm calm_law IsPump (IfMoved moves (Passes more)) calm_pump (calm_if_moved moves (Passes more) (calm_passes more)) (happens_all m moves) rest after))

pub calm_settling : Of Calm Settles
calm_settling = of_then Calm calm_law IsPump (Passes 64) calm_pump (calm_passes 64)

calm_passes_prefix : (count : ℕ) → Of Calm (PassesPrefix count)
calm_passes_prefix zero m events is = calm_as events [] is tt
calm_passes_prefix (suc more) m events (inl is) = calm_then_prefix Nothing IsChipPart Nothing (of_none Calm calm_law) calm_chip (of_none Calm calm_law) m events is
calm_passes_prefix (suc more) m events (inr (moves, rest, are, moved, after)) =
    calm_as events (moves ++ rest) are
    (all-append IsCalm moves rest (calm_move m moves moved)
    (calm_then_prefix Nothing IsPump (IfMoved moves (PassesPrefix more)) (of_none Calm calm_law) calm_pump (calm_if_moved moves (PassesPrefix more) (calm_passes_prefix more)) (happens_all m moves) rest after))

pub calm_settling_prefix : Of Calm SettlesPrefix
calm_settling_prefix = calm_then_prefix Nothing IsPump (PassesPrefix 64) (of_none Calm calm_law) calm_pump (calm_passes_prefix 64)

-- ---- the rest of a tick

givings_quiet : (count : ℕ) (inner : List OuterEvent) → Givings count inner → AllByRecursion IsQuiet inner
givings_quiet zero inner is = subst (AllByRecursion IsQuiet) (sym is) tt
givings_quiet (suc count) inner (route, rest, are, more) = subst (AllByRecursion IsQuiet) (sym are) (tt, givings_quiet count rest more)

calm_giving : Of Calm IsGiving
calm_giving m events (inner, is, are) = calm_as events (map Outside_does inner) are (outside_calm inner (givings_quiet _ inner is))

device_ticks_quiet : (place count : ℕ) (inner : List OuterEvent) → DeviceTicks place count inner → AllByRecursion IsQuiet inner
device_ticks_quiet place zero inner is = subst (AllByRecursion IsQuiet) (sym is) tt
device_ticks_quiet place (suc count) inner (drawn, route, rest, are, more) = subst (AllByRecursion IsQuiet) (sym are) (tt, device_ticks_quiet (place + 1) count rest more)

calm_device_tick : Of Calm IsDeviceTick
calm_device_tick m events (inner, is, are) = calm_as events (map Outside_does inner) are (outside_calm inner (device_ticks_quiet 0 _ inner is))

calm_chip_tick : Of Calm IsChipTick
calm_chip_tick m events are = calm_as events _ are (tt, tt)

calm_host_tick : Of Calm IsHostTick
calm_host_tick m events are = calm_as events _ are (tt, host_calm (tick_events m.host.state))

-- after the deliveries
abbrev AfterDelivery : Schedule
AfterDelivery = Then IsGiving (Then IsDeviceTick IsChipTick)

abbrev HostPart : Schedule
HostPart = Then IsHostTick Settles

calm_after_delivery : Of Calm AfterDelivery
calm_after_delivery = of_then Calm calm_law IsGiving (Then IsDeviceTick IsChipTick) calm_giving (of_then Calm calm_law IsDeviceTick IsChipTick calm_device_tick calm_chip_tick)

calm_host_part : Of Calm HostPart
calm_host_part = of_then Calm calm_law IsHostTick Settles calm_host_tick calm_settling

abbrev AfterDeliveryPrefix : Schedule
AfterDeliveryPrefix = ThenPrefix (PrefixOf IsGiving) IsGiving (ThenPrefix (PrefixOf IsDeviceTick) IsDeviceTick Nothing)

calm_after_delivery_prefix : Of Calm AfterDeliveryPrefix
calm_after_delivery_prefix =
    calm_then_prefix (PrefixOf IsGiving) IsGiving (ThenPrefix (PrefixOf IsDeviceTick) IsDeviceTick Nothing) (calm_prefix IsGiving calm_giving) calm_giving
    (calm_then_prefix (PrefixOf IsDeviceTick) IsDeviceTick Nothing (calm_prefix IsDeviceTick calm_device_tick) calm_device_tick (of_none Calm calm_law))

calm_host_prefix : Of Calm (ThenPrefix Nothing IsHostTick SettlesPrefix)
calm_host_prefix = calm_then_prefix Nothing IsHostTick SettlesPrefix (of_none Calm calm_law) calm_host_tick calm_settling_prefix

-- ---- a tick: the clock and the deliveries, and what follows

abbrev pub Arriving : Schedule
Arriving = Then IsClockTick IsDelivery

-- some frames have arrived
abbrev pub ArrivingPrefix : Schedule
ArrivingPrefix = ThenPrefix Nothing IsClockTick (PrefixOf IsDelivery)

abbrev pub CalmlyAfter : Schedule → Schedule
CalmlyAfter First = Then First Calm

together : (a b c d : List Event) → a ++ ((b ++ c) ++ d) ≡ (a ++ b) ++ (c ++ d)
together a b c d = sym (append_assoc a (b ++ c) d) ∙ (ap (λ (l : List Event). l ++ d) (sym (append_assoc a b c)) ∙ append_assoc (a ++ b) c d)

pub ticks_calmly : (m : Machine) (events : List Event) → IsTick m events → CalmlyAfter Arriving m events
ticks_calmly m events (clock, outside, are, is_clock, (out, host, host_are, (delivery, after, after_are, is_delivery, is_after), is_host)) = (
  clock ++ delivery,
  after ++ host,
  are ∙ (ap (λ (l : List Event). clock ++ l) (host_are ∙ ap (λ (l : List Event). l ++ host) after_are) ∙ together clock delivery after host),
  (clock, delivery, refl, is_clock, is_delivery),
  all-append IsCalm after host (calm_after_delivery _ after is_after) (calm_host_part _ host is_host),
)

pub ticks_calmly_prefix : (m : Machine) (events : List Event) → TickPrefix m events → CalmlyAfter Arriving m events ⊎ ArrivingPrefix m events
ticks_calmly_prefix m events (inl none) = inr (inl none)
ticks_calmly_prefix m events (inr (clock, outside, are, is_clock, inl (inl some))) = inr (inr (clock, outside, are, is_clock, some))
ticks_calmly_prefix m events (inr (clock, outside, are, is_clock, inl (inr (delivery, after, after_are, is_delivery, is_after)))) =
    inl (clock ++ delivery, after, are ∙ (ap (λ (l : List Event). clock ++ l) after_are ∙ sym (append_assoc clock delivery after)), (clock, delivery, refl, is_clock, is_delivery), calm_after_delivery_prefix _ after is_after)
ticks_calmly_prefix m events (inr (clock, outside, are, is_clock, inr (out, host, host_are, (delivery, after, after_are, is_delivery, is_after), is_host))) =
    inl (
      clock ++ delivery,
      after ++ host,
      are ∙ (ap (λ (l : List Event). clock ++ l) (host_are ∙ ap (λ (l : List Event). l ++ host) after_are) ∙ together clock delivery after host),
      (clock, delivery, refl, is_clock, is_delivery),
      all-append IsCalm after host (calm_after_delivery _ after is_after) (calm_host_prefix _ host is_host),
    )

-- the clock, and frames that arrive
abbrev pub IsArrival : Event → Type 0
IsArrival (Outside_does Begins_tick) = Unit {0}
IsArrival (Outside_does (Arrives drawn route)) = Unit {0}
IsArrival _ = ⊥

arrivals_all : (count : ℕ) (inner : List OuterEvent) → Arrivals count inner → AllByRecursion IsArrival (map Outside_does inner)
arrivals_all zero inner is = subst (λ (l : List OuterEvent). AllByRecursion IsArrival (map Outside_does l)) (sym is) tt
arrivals_all (suc count) inner (drawn, route, rest, are, more) = subst (λ (l : List OuterEvent). AllByRecursion IsArrival (map Outside_does l)) (sym are) (tt, arrivals_all count rest more)

delivery_all : (m : Machine) (events : List Event) → IsDelivery m events → AllByRecursion IsArrival events
delivery_all m events (inner, is, are) = subst (AllByRecursion IsArrival) (sym are) (arrivals_all _ inner is)

clock_all : (m : Machine) (events : List Event) → IsClockTick m events → AllByRecursion IsArrival events
clock_all m events are = subst (AllByRecursion IsArrival) (sym are) (tt, tt)

pub arriving_all : (m : Machine) (events : List Event) → Arriving m events → AllByRecursion IsArrival events
arriving_all m events (clock, delivery, are, is_clock, is_delivery) =
    subst (AllByRecursion IsArrival) (sym are) (all-append IsArrival clock delivery (clock_all m clock is_clock) (delivery_all (happens_all m clock) delivery is_delivery))

pub arriving_prefix_all : (m : Machine) (events : List Event) → ArrivingPrefix m events → AllByRecursion IsArrival events
arriving_prefix_all m events (inl none) = subst (AllByRecursion IsArrival) (sym none) tt
arriving_prefix_all m events (inr (clock, some, are, is_clock, inl none)) =
    subst (AllByRecursion IsArrival) (sym are) (all-append IsArrival clock some (clock_all m clock is_clock) (subst (AllByRecursion IsArrival) (sym none) tt))
arriving_prefix_all m events (inr (clock, some, are, is_clock, inr (rest, is))) =
    subst (AllByRecursion IsArrival) (sym are)
    (all-append IsArrival clock some (clock_all m clock is_clock) (all-left IsArrival some rest (delivery_all (happens_all m clock) (some ++ rest) is)))

-- ---- the effect of a line

calm_refusal : (line : Line) (events : List Event) → IsRefusal line events → AllByRecursion IsCalm events
calm_refusal line events (refusal, are) = calm_as events _ are (tt, tt)

calm_done : (line : Line) (these events : List Event) → AllByRecursion IsCalm these → IsDone line these events → AllByRecursion IsCalm events
calm_done line these events calm (inl are) = calm_as events these are calm
calm_done line these events calm (inr refused) = calm_refusal line events refused

calm_asks : (rule : Option Refused) (line : Line) (event : HostEvent) (events : List Event) → Asks rule line event events → AllByRecursion IsCalm events
calm_asks None line event events are = calm_as events _ are (tt, tt)
calm_asks (Some refused) line event events (refusal, shown, are) = calm_as events _ are (tt, tt)

calm_restart : (events : List Event) → IsRestart events → AllByRecursion IsCalm events
calm_restart events (inl (state, are)) = calm_as events _ are (tt, (tt, (tt, tt)))
calm_restart events (inr refused) = calm_refusal Restart events refused

-- lines that neither mark frames nor repeat one
abbrev pub IsCalmLine : Line → Type 0
IsCalmLine (Lose count) = ⊥
IsCalmLine (Repeat frame) = ⊥
IsCalmLine line = Unit {0}

pub calm_effect : (line : Line) → IsCalmLine line → Of Calm (IsEffect line)
calm_effect (Command order) calm m events is = calm_done (Command order) _ events (tt, tt) is
calm_effect (Tick count) calm m events is = absurd is
calm_effect (Cut size) calm m events is = calm_as events _ is (tt, tt)
calm_effect (Stall ticks) calm m events is = calm_as events _ is (tt, tt)
calm_effect (Drop by) calm m events is = calm_as events _ is (tt, tt)
calm_effect (Garble by place xor) calm m events is = calm_as events _ is (tt, tt)
calm_effect Collide calm m events is = calm_as events _ is (tt, tt)
calm_effect (Send node word) calm m events is = calm_asks _ (Send node word) _ events is
calm_effect (Get node end) calm m events is = calm_asks _ (Get node end) _ events is
calm_effect (Join node) calm m events is = calm_done (Join node) _ events (tt, (tt, tt)) is
calm_effect (Interview node) calm m events is = calm_asks _ (Interview node) _ events is
calm_effect (Lose count) calm m events is = absurd calm
calm_effect (LoseAck count) calm m events is = calm_as events _ is (tt, tt)
calm_effect (Repeat frame) calm m events is = absurd calm
calm_effect (Wake node) calm m events (inner, (route, is), are) = calm_as events (map Outside_does inner) are (outside_calm inner (subst (AllByRecursion IsQuiet) (sym is) (tt, tt)))
calm_effect (Cancel command) calm m events is = calm_done (Cancel command) _ events (tt, tt) is
calm_effect (Link first second) calm m events is = calm_as events _ is (tt, tt)
calm_effect (Unlink first second) calm m events is = calm_as events _ is (tt, tt)
calm_effect Discover calm m events (asked, asks, are) = calm_as events _ are (tt, calm_asks _ Discover _ asked asks)
calm_effect (Neighbours node) calm m events is = calm_asks _ (Neighbours node) _ events is
calm_effect (Failed node) calm m events is = calm_asks _ (Failed node) _ events is
calm_effect Probe calm m events is = calm_asks _ Probe _ events is
calm_effect (Local node value) calm m events (inner, (route, is), are) = calm_as events (map Outside_does inner) are (outside_calm inner (subst (AllByRecursion IsQuiet) (sym is) (tt, tt)))
calm_effect (Show node) calm m events is = calm_as events _ is (tt, tt)
calm_effect (Store node) calm m events is = calm_as events _ is (tt, tt)
calm_effect Restart calm m events is = calm_restart events is

pub calm_effect_prefix : (line : Line) → IsCalmLine line → Of Calm (PrefixOf (IsEffect line))
calm_effect_prefix line calm = calm_prefix (IsEffect line) (calm_effect line calm)

pub calm_restart_prefix : Of Calm (EffectPrefix Restart)
calm_restart_prefix m events (inl none) = calm_as events [] none tt
calm_restart_prefix m events (inr (state, are)) = calm_as events _ are (tt, (tt, tt))
