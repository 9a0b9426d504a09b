-- A line may be cut short after each event that may move a device, whether it was run whole or was cut short later.
use Rattle.std.proofs.Common.{◌≡◌, ℕ, zero, suc, Bool, true, false, List, [], ◌∷◌, ◌++◌, length, map, inl, inr, sym, ap, subst, ◌∙◌, append_assoc}
use Rattle.std.specs.List.{AllByRecursion}
use Rattle.zw_base.proofs.Each.{all-append, all-right}
use Rattle.zw_text.specs.declared.line.Line.{Line}
use Rattle.zw_text.specs.declared.line.Line.TheVariants.{Restart, Tick}
use Rattle.host_model.specs.Events.{HostEvent}
use Rattle.host_model.specs.Ticking.{tick_events}
use Rattle.outside_model.specs.State.{OuterState, is_stalled}
use Rattle.outside_model.specs.Events.{OuterEvent, Arrives, Begins_line, Begins_tick, Chip_ticks, Device_ticks, Repeats, Sets_device, Wakes_device}
use Rattle.outside_model.specs.Schedules.{TakesBy as TakesOutside}
use Rattle.world_model.specs.State.{Machine}
use Rattle.world_model.specs.Events.{Event, Decoder_ticks, Host_does, Host_takes, Outside_does, Refuses}
use Rattle.world_model.specs.Did.{Nothing, PrefixOf, Schedule, Then, ThenPrefix, happens_all}
use Rattle.world_model.specs.Lines.{IsEffect, IsLineBegin, IsLineRest}
use Rattle.world_model.specs.Prefixes.{EffectPrefix, LinePart, LinePrefix, LineRestPrefix, OutsideTickPrefix, PassesPrefix, RestartPrefix, SettlesPrefix, TickPrefix, TicksPrefix}
use Rattle.world_model.specs.Settling.{IfMoved, IsChipPart, IsHostPart, IsMove, IsPump, Passes, Settles, TakesBy}
use Rattle.world_model.specs.Ticking.{IsChipTick, IsClockTick, IsDelivery, IsDeviceTick, IsGiving, IsHostTick, IsOutsideTick, IsTick, Ticks}
use Rattle.proof_audit.proofs.Cutting.{Splits, splits}

-- an event that may move a device
abbrev pub IsMoving : Event → Type 0
IsMoving (Outside_does (Arrives drawn route)) = Unit {0}
IsMoving (Outside_does (Device_ticks place drawn route)) = Unit {0}
IsMoving (Outside_does (Repeats number drawn route)) = Unit {0}
IsMoving (Outside_does (Wakes_device node route)) = Unit {0}
IsMoving (Outside_does (Sets_device node value route)) = Unit {0}
IsMoving _ = ⊥

abbrev pub IsStill : Event → Type 0
IsStill event = IsMoving event → ⊥

abbrev AllStill : List Event → Type 0
AllStill events = AllByRecursion IsStill events

-- what a schedule begins with, up to such an event, is a prefix of it
abbrev pub Cuts : Schedule → Schedule → Type 0
Cuts Kind Prefix = (m : Machine) (a : List Event) (event : Event) (b : List Event) → IsMoving event → Kind m (a ++ event ∷ b) → Prefix m (a ++ (event ∷ []))

-- ---- schedules one after another

then-cuts : (First FirstPrefix Second SecondPrefix : Schedule) → Cuts First FirstPrefix → Cuts Second SecondPrefix → Cuts (Then First Second) (ThenPrefix FirstPrefix First SecondPrefix)
then-cuts First FirstPrefix Second SecondPrefix one two m a event b moving (first, rest, are, is_first, is_rest) = by (splits first rest a event b (sym are))
  where
    by : Splits first rest a event b → ThenPrefix FirstPrefix First SecondPrefix m (a ++ (event ∷ []))
    by (inl (post, here)) = inl (one m a event post moving (subst (First m) here is_first))
    by (inr (more, before, there)) = inr (
      first,
      more ++ (event ∷ []),
      ap (λ (l : List Event). l ++ (event ∷ [])) before ∙ append_assoc first more (event ∷ []),
      is_first,
      two (happens_all m first) more event b moving (subst (Second (happens_all m first)) there is_rest),
    )

prefix-cuts : (Kind : Schedule) → Cuts Kind (PrefixOf Kind)
prefix-cuts Kind m a event b moving is = inr (b, subst (Kind m) (sym (append_assoc a (event ∷ []) b)) is)

-- and so is what a prefix begins with
abbrev Shortens : Schedule → Type 0
Shortens Prefix = Cuts Prefix Prefix

prefix-shortens : (Kind : Schedule) → Shortens (PrefixOf Kind)
prefix-shortens Kind m a event b moving (inl none) = absurd ((all-right IsStill a (event ∷ b) (subst AllStill (sym none) tt)).0 moving)
prefix-shortens Kind m a event b moving (inr (rest, is)) =
    inr (b ++ rest, subst (Kind m) (append_assoc a (event ∷ b) rest ∙ sym (append_assoc a (event ∷ []) (b ++ rest))) is)

then-shortens : (First FirstPrefix SecondPrefix : Schedule) → Cuts First FirstPrefix → Shortens FirstPrefix → Shortens SecondPrefix → Shortens (ThenPrefix FirstPrefix First SecondPrefix)
then-shortens First FirstPrefix SecondPrefix whole one two m a event b moving (inl is) = inl (one m a event b moving is)
then-shortens First FirstPrefix SecondPrefix whole one two m a event b moving (inr is) = then-cuts First FirstPrefix SecondPrefix SecondPrefix whole two m a event b moving is

still-cuts : (Kind Prefix : Schedule) → ((m : Machine) (events : List Event) → Kind m events → AllStill events) → Cuts Kind Prefix
still-cuts Kind Prefix still m a event b moving is = absurd ((all-right IsStill a (event ∷ b) (still m (a ++ event ∷ b) is)).0 moving)

-- ---- what moves no device

these-still : (these events : List Event) → AllStill these → events ≡ these → AllStill events
these-still these events still are = subst AllStill (sym are) still

host-still : (inner : List HostEvent) → AllStill (map Host_does inner)
host-still [] = tt
host-still (event ∷ inner) = ((λ moving. moving), host-still inner)

then-still : (First Second : Schedule) → ((m : Machine) (events : List Event) → First m events → AllStill events) → ((m : Machine) (events : List Event) → Second m events → AllStill events)
    → (m : Machine) (events : List Event) → Then First Second m events → AllStill events
then-still First Second one two m events (first, rest, are, is_first, is_rest) =
    these-still (first ++ rest) events (all-append IsStill first rest (one m first is_first) (two (happens_all m first) rest is_rest)) are

nothing-still : (m : Machine) (events : List Event) → Nothing m events → AllStill events
nothing-still m events is = these-still [] events tt is

then-prefix-still : (FirstPrefix First SecondPrefix : Schedule) → ((m : Machine) (events : List Event) → FirstPrefix m events → AllStill events) → ((m : Machine) (events : List Event) → First m events → AllStill events)
    → ((m : Machine) (events : List Event) → SecondPrefix m events → AllStill events) → (m : Machine) (events : List Event) → ThenPrefix FirstPrefix First SecondPrefix m events → AllStill events
then-prefix-still FirstPrefix First SecondPrefix none one two m events (inl is) = none m events is
then-prefix-still FirstPrefix First SecondPrefix none one two m events (inr is) = then-still First SecondPrefix one two m events is

pump-still : (m : Machine) (events : List Event) → IsPump m events → AllStill events
pump-still m events (inner, pumps, are) = these-still (map Host_does inner) events (host-still inner) are

chip-by : (stalled : Bool) (bytes : List ℕ) (o : OuterState) (inner : List OuterEvent) → TakesOutside stalled bytes o inner → AllStill (map Outside_does inner)
chip-by true bytes o inner is = subst (λ (l : List OuterEvent). AllStill (map Outside_does l)) (sym is) tt
chip-by false [] o inner is = subst (λ (l : List OuterEvent). AllStill (map Outside_does l)) (sym is) tt
chip-by false (byte ∷ bytes) o inner takes = subst (λ (l : List OuterEvent). AllStill (map Outside_does l)) (sym takes.are) ((λ moving. moving), tt)

chip-still : (m : Machine) (events : List Event) → IsChipPart m events → AllStill events
chip-still m events (inner, takes, are) = these-still (map Outside_does inner) events (chip-by (is_stalled m.outside.outer) m.outside.outer.to_chip.bytes m.outside.outer inner takes) are

host-by : (stalled : Bool) (bytes : List ℕ) (events : List Event) → TakesBy stalled bytes events → AllStill events
host-by true bytes events is = these-still [] events tt is
host-by false [] events is = these-still [] events tt is
host-by false (byte ∷ bytes) events (rest, items, inner, is) = these-still (Host_takes (length (byte ∷ bytes)) rest items inner ∷ []) events ((λ moving. moving), tt) is

move-still : (m : Machine) (events : List Event) → IsMove m events → AllStill events
move-still = then-still IsChipPart IsHostPart chip-still (λ m events is. host-by (is_stalled m.outside.outer) m.outside.outer.to_host.bytes events is)

moved-still : (moves : List Event) (More : Schedule) → ((m : Machine) (events : List Event) → More m events → AllStill events) → (m : Machine) (events : List Event) → IfMoved moves More m events → AllStill events
moved-still [] More more m events is = these-still [] events tt is
moved-still (moved ∷ others) More more m events is = more m events is

passes-still : (count : ℕ) (m : Machine) (events : List Event) → Passes count m events → AllStill events
passes-still zero m events is = these-still [] events tt is
passes-still (suc count) m events (moves, rest, are, moved, later) =
    these-still (moves ++ rest) events
    (all-append IsStill moves rest (move-still m moves moved)
    (then-still IsPump (IfMoved moves (Passes count)) pump-still (moved-still moves (Passes count) (passes-still count)) (happens_all m moves) rest later)) are

settles-still : (m : Machine) (events : List Event) → Settles m events → AllStill events
settles-still = then-still IsPump (Passes 64) pump-still (passes-still 64)

passes-prefix-still : (count : ℕ) (m : Machine) (events : List Event) → PassesPrefix count m events → AllStill events
passes-prefix-still zero m events is = these-still [] events tt is
passes-prefix-still (suc count) m events (inl is) = then-prefix-still Nothing IsChipPart Nothing nothing-still chip-still nothing-still m events is
passes-prefix-still (suc count) m events (inr (moves, rest, are, moved, later)) =
    these-still (moves ++ rest) events
    (all-append IsStill moves rest (move-still m moves moved)
    (then-prefix-still Nothing IsPump (IfMoved moves (PassesPrefix count)) nothing-still pump-still (moved-still moves (PassesPrefix count) (passes-prefix-still count)) (happens_all m moves) rest later)) are

settles-prefix-still : (m : Machine) (events : List Event) → SettlesPrefix m events → AllStill events
settles-prefix-still = then-prefix-still Nothing IsPump (PassesPrefix 64) nothing-still pump-still (passes-prefix-still 64)

-- ---- ticks

settles-cut : Cuts Settles SettlesPrefix
settles-cut = still-cuts Settles SettlesPrefix settles-still

settles-shortens : Shortens SettlesPrefix
settles-shortens = still-cuts SettlesPrefix SettlesPrefix settles-prefix-still

nothing-shortens : Shortens Nothing
nothing-shortens = still-cuts Nothing Nothing nothing-still

outside-cuts : Cuts IsOutsideTick OutsideTickPrefix
outside-cuts =
    then-cuts IsDelivery (PrefixOf IsDelivery) (Then IsGiving (Then IsDeviceTick IsChipTick)) (ThenPrefix (PrefixOf IsGiving) IsGiving (ThenPrefix (PrefixOf IsDeviceTick) IsDeviceTick Nothing)) (prefix-cuts IsDelivery)
    (then-cuts IsGiving (PrefixOf IsGiving) (Then IsDeviceTick IsChipTick) (ThenPrefix (PrefixOf IsDeviceTick) IsDeviceTick Nothing) (prefix-cuts IsGiving)
    (then-cuts IsDeviceTick (PrefixOf IsDeviceTick) IsChipTick Nothing (prefix-cuts IsDeviceTick)
    (still-cuts IsChipTick Nothing (λ m events is. these-still (Outside_does Chip_ticks ∷ []) events ((λ moving. moving), tt) is))))

outside-shortens : Shortens OutsideTickPrefix
outside-shortens =
    then-shortens IsDelivery (PrefixOf IsDelivery) (ThenPrefix (PrefixOf IsGiving) IsGiving (ThenPrefix (PrefixOf IsDeviceTick) IsDeviceTick Nothing)) (prefix-cuts IsDelivery) (prefix-shortens IsDelivery)
    (then-shortens IsGiving (PrefixOf IsGiving) (ThenPrefix (PrefixOf IsDeviceTick) IsDeviceTick Nothing) (prefix-cuts IsGiving) (prefix-shortens IsGiving)
    (then-shortens IsDeviceTick (PrefixOf IsDeviceTick) Nothing (prefix-cuts IsDeviceTick) (prefix-shortens IsDeviceTick) nothing-shortens))

clock-cuts : Cuts IsClockTick Nothing
clock-cuts = still-cuts IsClockTick Nothing (λ m events is. these-still (Outside_does Begins_tick ∷ []) events ((λ moving. moving), tt) is)

host-cuts : Cuts IsHostTick Nothing
host-cuts = still-cuts IsHostTick Nothing (λ m events is. these-still (Decoder_ticks ∷ map Host_does (tick_events m.host.state)) events ((λ moving. moving), host-still (tick_events m.host.state)) is)

tick-cuts : Cuts IsTick TickPrefix
tick-cuts =
    then-cuts IsClockTick Nothing (Then IsOutsideTick (Then IsHostTick Settles)) (ThenPrefix OutsideTickPrefix IsOutsideTick (ThenPrefix Nothing IsHostTick SettlesPrefix)) clock-cuts
    (then-cuts IsOutsideTick OutsideTickPrefix (Then IsHostTick Settles) (ThenPrefix Nothing IsHostTick SettlesPrefix) outside-cuts
    (then-cuts IsHostTick Nothing Settles SettlesPrefix host-cuts settles-cut))

tick-shortens : Shortens TickPrefix
tick-shortens =
    then-shortens IsClockTick Nothing (ThenPrefix OutsideTickPrefix IsOutsideTick (ThenPrefix Nothing IsHostTick SettlesPrefix)) clock-cuts nothing-shortens
    (then-shortens IsOutsideTick OutsideTickPrefix (ThenPrefix Nothing IsHostTick SettlesPrefix) outside-cuts outside-shortens
    (then-shortens IsHostTick Nothing SettlesPrefix host-cuts nothing-shortens settles-shortens))

ticks-cut : (count : ℕ) → Cuts (Ticks count) (TicksPrefix count)
ticks-cut zero m [] event b moving is = absurd cc
ticks-cut zero m (first ∷ a) event b moving is = absurd cc
ticks-cut (suc more) m a event b moving is = then-cuts IsTick TickPrefix (Ticks more) (TicksPrefix more) tick-cuts (ticks-cut more) m a event b moving is

ticks-shorten : (count : ℕ) → Shortens (TicksPrefix count)
ticks-shorten zero m a event b moving is = nothing-shortens m a event b moving is
ticks-shorten (suc more) m a event b moving is = then-shortens IsTick TickPrefix (TicksPrefix more) tick-cuts tick-shortens (ticks-shorten more) m a event b moving is

-- ---- lines

restart-still : (m : Machine) (events : List Event) → IsEffect Restart m events → AllStill events
restart-still m events (inl (state, are)) = these-still _ events ((λ moving. moving), ((λ moving. moving), ((λ moving. moving), tt))) are
restart-still m events (inr (refusal, are)) = these-still (Refuses Restart refusal ∷ []) events ((λ moving. moving), tt) are

restart-prefix-still : (m : Machine) (events : List Event) → RestartPrefix m events → AllStill events
restart-prefix-still m events (inl none) = nothing-still m events none
restart-prefix-still m events (inr (state, are)) = these-still _ events ((λ moving. moving), ((λ moving. moving), tt)) are

restart-cuts : Cuts (IsEffect Restart) (EffectPrefix Restart)
restart-cuts = still-cuts (IsEffect Restart) (EffectPrefix Restart) restart-still

rest-cuts : (line : Line) → Cuts (IsLineRest line) (LineRestPrefix line)
rest-cuts (Tick count) = ticks-cut count
rest-cuts Restart = then-cuts (IsEffect Restart) (EffectPrefix Restart) Settles SettlesPrefix restart-cuts settles-cut
rest-cuts line = then-cuts (IsEffect line) (PrefixOf (IsEffect line)) Settles SettlesPrefix (prefix-cuts (IsEffect line)) settles-cut

rest-shortens : (line : Line) → Shortens (LineRestPrefix line)
rest-shortens (Tick count) = ticks-shorten count
rest-shortens Restart = then-shortens (IsEffect Restart) (EffectPrefix Restart) SettlesPrefix restart-cuts (still-cuts RestartPrefix RestartPrefix restart-prefix-still) settles-shortens
rest-shortens line = then-shortens (IsEffect line) (PrefixOf (IsEffect line)) SettlesPrefix (prefix-cuts (IsEffect line)) (prefix-shortens (IsEffect line)) settles-shortens

begin-cuts : Cuts IsLineBegin Nothing
begin-cuts = still-cuts IsLineBegin Nothing (λ m events is. these-still (Outside_does Begins_line ∷ []) events ((λ moving. moving), tt) is)

pub part-cuts : (line : Line) → Cuts (LinePart line) (LinePrefix line)
part-cuts line m a event b moving (inl whole) = then-cuts IsLineBegin Nothing (IsLineRest line) (LineRestPrefix line) begin-cuts (rest-cuts line) m a event b moving whole
part-cuts line m a event b moving (inr part) = then-shortens IsLineBegin Nothing (LineRestPrefix line) begin-cuts nothing-shortens (rest-shortens line) m a event b moving part
