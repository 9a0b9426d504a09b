-- What holds of each part of a line, and of one list of events after another, holds of the line, whole or cut short.
use Rattle.std.proofs.Common.{ℕ, zero, suc, List, [], ◌∷◌, ◌++◌, refl, sym, subst, inl, inr}
use Rattle.zw_words.specs.declared.side.Side.TheVariants as side
use Rattle.zw_text.specs.declared.line.Line.{Line}
use Rattle.zw_text.specs.declared.line.Line.TheVariants.{Tick, Restart}
use Rattle.outside_model.specs.Events.{Clears_pipe}
use Rattle.world_model.specs.Events.{Event, Outside_does, Restarts}
use Rattle.world_model.specs.Did.{happens_all, Schedule, Then, Nothing, PrefixOf, ThenPrefix}
use Rattle.world_model.specs.State.{Machine}
use Rattle.world_model.specs.Settling.{IsPump, IsChipPart, IsHostPart, IsMove, IfMoved, Passes, Settles}
use Rattle.world_model.specs.Ticking.{IsClockTick, IsDelivery, IsGiving, IsDeviceTick, IsChipTick, IsOutsideTick, IsHostTick, IsTick, Ticks}
use Rattle.world_model.specs.Lines.{IsEffect, IsLineBegin, IsLineRest, IsLine}
use Rattle.world_model.specs.Prefixes.{PassesPrefix, SettlesPrefix, OutsideTickPrefix, TickPrefix, TicksPrefix, EffectPrefix, LineRestPrefix, LinePrefix, LinePart, IsLineBefore}

-- the law holds of all events of a schedule
abbrev pub Of : Schedule → Schedule → Type 0
Of L Kind = (m : Machine) (events : List Event) → Kind m events → L m events

-- it holds of nothing, of one list after another, and of what comes first in a list
pub record Law (L : Schedule) : Type 0 where
  pub none : (m : Machine) → L m []
  pub both : (m : Machine) (a b : List Event) → L m a → L (happens_all m a) b → L m (a ++ b)
  pub prefix : (m : Machine) (a b : List Event) → L m (a ++ b) → L m a

-- it holds of the parts that are in every line
pub record Pieces (L : Schedule) : Type 0 where
  pub begins : Of L IsLineBegin
  pub pump : Of L IsPump
  pub chip_part : Of L IsChipPart
  pub host_part : Of L IsHostPart
  pub clock : Of L IsClockTick
  pub delivery : Of L IsDelivery
  pub giving : Of L IsGiving
  pub device_tick : Of L IsDeviceTick
  pub chip_tick : Of L IsChipTick
  pub host_tick : Of L IsHostTick

module _ (L : Schedule) (law : Law L) where
  pub of_none : Of L Nothing
  of_none m events are = subst (λ (l : List Event). L m l) (sym are) (law.none m)

  pub of_then : (First Second : Schedule) → Of L First → Of L Second → Of L (Then First Second)
  of_then First Second first second m events (a, b, are, is_first, is_second) =
      subst (λ (l : List Event). L m l) (sym are) (law.both m a b (first m a is_first) (second (happens_all m a) b is_second))

  of_prefix : (Kind : Schedule) → Of L Kind → Of L (PrefixOf Kind)
  of_prefix Kind whole m events (inl none) = of_none m events none
  of_prefix Kind whole m events (inr (rest, is)) = law.prefix m events rest (whole m (events ++ rest) is)

  of_then_prefix : (FirstPrefix First SecondPrefix : Schedule) → Of L FirstPrefix → Of L First → Of L SecondPrefix → Of L (ThenPrefix FirstPrefix First SecondPrefix)
  of_then_prefix FirstPrefix First SecondPrefix prefix first second m events (inl is) = prefix m events is
  of_then_prefix FirstPrefix First SecondPrefix prefix first second m events (inr is) = of_then First SecondPrefix first second m events is

  of_if_moved : (moved : List Event) (More : Schedule) → Of L More → Of L (IfMoved moved More)
  of_if_moved [] More more m events is = of_none m events is
  of_if_moved (one ∷ moved) More more m events is = more m events is

  module _ (pieces : Pieces L) where
    -- ---- a settling

    of_move : Of L IsMove
    of_move = of_then IsChipPart IsHostPart pieces.chip_part pieces.host_part

    of_passes : (count : ℕ) → Of L (Passes count)
    of_passes zero m events is = of_none m events is
    of_passes (suc more) m events (moves, rest, are, moved, after) =
        subst (λ (l : List Event). L m l) (sym are)
        (law.both m moves rest (of_move m moves moved)
        (of_then IsPump (IfMoved moves (Passes more)) pieces.pump (of_if_moved moves (Passes more) (of_passes more)) (happens_all m moves) rest after))

    pub of_settling : Of L Settles
    of_settling = of_then IsPump (Passes 64) pieces.pump (of_passes 64)

    of_passes_prefix : (count : ℕ) → Of L (PassesPrefix count)
    of_passes_prefix zero m events is = of_none m events is
    of_passes_prefix (suc more) m events (inl is) = of_then_prefix Nothing IsChipPart Nothing of_none pieces.chip_part of_none m events is
    of_passes_prefix (suc more) m events (inr (moves, rest, are, moved, after)) =
        subst (λ (l : List Event). L m l) (sym are)
        (law.both m moves rest (of_move m moves moved)
        (of_then_prefix Nothing IsPump (IfMoved moves (PassesPrefix more)) of_none pieces.pump (of_if_moved moves (PassesPrefix more) (of_passes_prefix more)) (happens_all m moves) rest after))

    pub of_settling_prefix : Of L SettlesPrefix
    of_settling_prefix = of_then_prefix Nothing IsPump (PassesPrefix 64) of_none pieces.pump (of_passes_prefix 64)

    -- ---- ticks

    of_outside_tick : Of L IsOutsideTick
    of_outside_tick =
        of_then IsDelivery (Then IsGiving (Then IsDeviceTick IsChipTick)) pieces.delivery
        (of_then IsGiving (Then IsDeviceTick IsChipTick) pieces.giving (of_then IsDeviceTick IsChipTick pieces.device_tick pieces.chip_tick))

    of_tick : Of L IsTick
    of_tick =
        of_then IsClockTick (Then IsOutsideTick (Then IsHostTick Settles)) pieces.clock
        (of_then IsOutsideTick (Then IsHostTick Settles) of_outside_tick (of_then IsHostTick Settles pieces.host_tick of_settling))

    of_ticks : (count : ℕ) → Of L (Ticks count)
    of_ticks zero m events is = of_none m events is
    of_ticks (suc more) m events is = of_then IsTick (Ticks more) of_tick (of_ticks more) m events is

    of_outside_tick_prefix : Of L OutsideTickPrefix
    of_outside_tick_prefix =
        let devices : Schedule = ThenPrefix (PrefixOf IsDeviceTick) IsDeviceTick Nothing in
        of_then_prefix (PrefixOf IsDelivery) IsDelivery (ThenPrefix (PrefixOf IsGiving) IsGiving devices) (of_prefix IsDelivery pieces.delivery) pieces.delivery
        (of_then_prefix (PrefixOf IsGiving) IsGiving devices (of_prefix IsGiving pieces.giving) pieces.giving
        (of_then_prefix (PrefixOf IsDeviceTick) IsDeviceTick Nothing (of_prefix IsDeviceTick pieces.device_tick) pieces.device_tick of_none))

    of_tick_prefix : Of L TickPrefix
    of_tick_prefix =
        let host : Schedule = ThenPrefix Nothing IsHostTick SettlesPrefix in
        of_then_prefix Nothing IsClockTick (ThenPrefix OutsideTickPrefix IsOutsideTick host) of_none pieces.clock
        (of_then_prefix OutsideTickPrefix IsOutsideTick host of_outside_tick_prefix of_outside_tick (of_then_prefix Nothing IsHostTick SettlesPrefix of_none pieces.host_tick of_settling_prefix))

    of_ticks_prefix : (count : ℕ) → Of L (TicksPrefix count)
    of_ticks_prefix zero m events is = of_none m events is
    of_ticks_prefix (suc more) m events is = of_then_prefix TickPrefix IsTick (TicksPrefix more) of_tick_prefix of_tick (of_ticks_prefix more) m events is

    -- ---- a line, of whose own effect it holds

    of_rest : (line : Line) → Of L (IsEffect line) → Of L (IsLineRest line)
    of_rest (Tick count) effect = of_ticks count
    of_rest line effect = of_then (IsEffect line) Settles effect of_settling

    pub of_line : (line : Line) → Of L (IsEffect line) → Of L (IsLine line)
    of_line line effect = of_then IsLineBegin (IsLineRest line) pieces.begins (of_rest line effect)

    of_effect_prefix : (line : Line) → Of L (IsEffect line) → Of L (EffectPrefix line)
    of_effect_prefix Restart effect m events (inl none) = of_none m events none
    of_effect_prefix Restart effect m events (inr (state, are)) =
        subst (λ (l : List Event). L m l) (sym are)
        (law.prefix m (Restarts state ∷ Outside_does (Clears_pipe side.Host) ∷ []) (Outside_does (Clears_pipe side.Chip) ∷ []) (effect m _ (inl (state, refl))))
    of_effect_prefix line effect m events is = of_prefix (IsEffect line) effect m events is

    of_rest_prefix : (line : Line) → Of L (IsEffect line) → Of L (LineRestPrefix line)
    of_rest_prefix (Tick count) effect = of_ticks_prefix count
    of_rest_prefix line effect = of_then_prefix (EffectPrefix line) (IsEffect line) SettlesPrefix (of_effect_prefix line effect) effect of_settling_prefix

    of_line_prefix : (line : Line) → Of L (IsEffect line) → Of L (LinePrefix line)
    of_line_prefix line effect = of_then_prefix Nothing IsLineBegin (LineRestPrefix line) of_none pieces.begins (of_rest_prefix line effect)

    pub of_line_part : (line : Line) → Of L (IsEffect line) → Of L (LinePart line)
    of_line_part line effect m events (inl is) = of_line line effect m events is
    of_line_part line effect m events (inr is) = of_line_prefix line effect m events is

    -- the whole line where another follows it
    pub of_line_before : {A : Type 0} (more : List A) (line : Line) → Of L (IsEffect line) → Of L (IsLineBefore more line)
    of_line_before [] line effect m events is = of_line_part line effect m events is
    of_line_before (next ∷ more) line effect m events is = of_line line effect m events is
