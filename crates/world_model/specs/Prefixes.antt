-- What was done of a line that an allocation failure cut short (this project's own rule): calls of the world that were whole, one after another. A call that puts out its entries
-- at its end was done whole or is none of them; those outside the host that go through frames, results or devices were done up to one of these.
use Rattle.std.specs.Prelude.{◌≡◌, ◌⊎◌, ℕ, zero, suc, List, [], ◌∷◌, ◌++◌}
use Rattle.zw_words.specs.declared.side.Side.TheVariants as side
use Rattle.zw_text.specs.declared.line.Line.{Line}
use Rattle.zw_text.specs.declared.line.Line.TheVariants.{Tick, Restart}
use Rattle.host_model.specs.State.{HostState}
use Rattle.outside_model.specs.Events.{Clears_pipe}
use Rattle.world_model.specs.Events.{Event, Outside_does, Restarts}
use Rattle.world_model.specs.Did.{happens_all, Schedule, Nothing, PrefixOf, ThenPrefix}
use Rattle.world_model.specs.Settling.{IsPump, IsChipPart, IsMove, IfMoved}
use Rattle.world_model.specs.Ticking.{IsClockTick, IsDelivery, IsGiving, IsDeviceTick, IsOutsideTick, IsHostTick, IsTick}
use Rattle.world_model.specs.Lines.{IsEffect, IsLineBegin, IsLine}

-- ---- a settling

-- the chip has taken its bytes, and the host has not
abbrev pub MovePrefix : Schedule
MovePrefix = ThenPrefix Nothing IsChipPart Nothing

-- some passes, and of one more the bytes that moved
abbrev pub PassesPrefix : ℕ → Schedule
PassesPrefix zero m events = Nothing m events
PassesPrefix (suc more) m events =
    MovePrefix m events
    ⊎ ((moves rest : List Event) × (events ≡ moves ++ rest) × IsMove m moves × ThenPrefix Nothing IsPump (IfMoved moves (PassesPrefix more)) (happens_all m moves) rest)

abbrev pub SettlesPrefix : Schedule
SettlesPrefix = ThenPrefix Nothing IsPump (PassesPrefix 64)

-- ---- ticks

-- some frames have arrived; or then some results were given; or then some devices have ticked
abbrev pub OutsideTickPrefix : Schedule
OutsideTickPrefix = ThenPrefix (PrefixOf IsDelivery) IsDelivery (ThenPrefix (PrefixOf IsGiving) IsGiving (ThenPrefix (PrefixOf IsDeviceTick) IsDeviceTick Nothing))

abbrev pub TickPrefix : Schedule
TickPrefix = ThenPrefix Nothing IsClockTick (ThenPrefix OutsideTickPrefix IsOutsideTick (ThenPrefix Nothing IsHostTick SettlesPrefix))

-- some ticks, and of one more a prefix
abbrev pub TicksPrefix : ℕ → Schedule
TicksPrefix zero m events = Nothing m events
TicksPrefix (suc more) m events = ThenPrefix TickPrefix IsTick (TicksPrefix more) m events

-- ---- lines

-- of a restart nothing, or the host has started again and the bytes on their way to the chip are lost, while those to the host are not
abbrev pub RestartPrefix : Schedule
RestartPrefix m events = Nothing m events ⊎ ((state : HostState) × (events ≡ Restarts state ∷ Outside_does (Clears_pipe side.Host) ∷ []))

abbrev pub EffectPrefix : Line → Schedule
EffectPrefix Restart = RestartPrefix
EffectPrefix line = PrefixOf (IsEffect line)

abbrev pub LineRestPrefix : Line → Schedule
LineRestPrefix (Tick count) = TicksPrefix count
LineRestPrefix line = ThenPrefix (EffectPrefix line) (IsEffect line) SettlesPrefix

abbrev pub LinePrefix : Line → Schedule
LinePrefix line = ThenPrefix Nothing IsLineBegin (LineRestPrefix line)

-- the whole line, or a prefix of it
abbrev pub LinePart : Line → Schedule
LinePart line m events = IsLine line m events ⊎ LinePrefix line m events

-- ---- lines one after another

-- the whole line, where another follows it; the last one may have been cut short
abbrev pub IsLineBefore : {A : Type 0} → List A → Line → Schedule
IsLineBefore [] line m events = LinePart line m events
IsLineBefore (next ∷ more) line m events = IsLine line m events
