-- The parts of a tick, one after another.
use Rattle.std.proofs.Common.{◌≡◌, ℕ, List, [], ◌∷◌, refl, sym, subst, length}
use Rattle.std.specs.Prelude.{Option}
use Rattle.s0_crypto.specs.declared.key_pair.Keys.{Keys}
use Rattle.device_sim.specs.State.{State}
use Rattle.zw_text.specs.declared.entry.Entry.{Entry}
use Rattle.host_model.specs.State.{HostParts}
use Rattle.outside_model.specs.State.{OuterState, outside}
use Rattle.outside_model.specs.Events.{OuterEvent, Begins_tick, Chip_ticks}
use Rattle.outside_model.specs.Did.{Goes, GoesFor, RunOf, PrefixOf as PrefixOfOutside, Stops as StopsOutside, StopsFor}
use Rattle.outside_model.specs.Schedules.{Delivers, Givings, DeviceTicks}
use Rattle.world_model.specs.State.{machine}
use Rattle.world_model.specs.Did.{Schedule, Scene, Does, Nothing, PrefixOf, ThenPrefix, Stops, Then}
use Rattle.world_model.specs.Settling.{Settles}
use Rattle.world_model.specs.Ticking.{IsClockTick, IsDelivery, IsGiving, IsDeviceTick, IsChipTick, IsOutsideTick, IsHostTick, IsTick}
use Rattle.world_model.specs.Prefixes.{SettlesPrefix, OutsideTickPrefix, TickPrefix}
use Rattle.outside_model.proofs.Own.{arrivals_own, givings_own, ticks_own}
use Rattle.world_model.proofs.Schedules.{did_then, stopped_first, stopped_then}
use Rattle.world_step.specs.Scene.{scene_of}
use Rattle.world_step.proofs.Scenes.{did_one, did_quiet, did_of, prefixes_of, prefix_of, stopped_out}
use Rattle.host_core.specs.Calls.{shelf_of}

-- ---- outside the host

module _ (keys : Keys) (host : HostParts) (r : Option (List (List ℕ))) (f : ℕ) where
  abbrev pub spot : OuterState → List State → List Entry → Scene
  spot o ds x = scene_of keys host o ds (shelf_of r f) x

  pub delivered : (o o1 : OuterState) (ds ds1 : List State) (x x1 : List Entry) → RunOf (Delivers o) (outside o ds) (outside o1 ds1) x x1 → Does IsDelivery (spot o ds x) (spot o1 ds1 x1)
  delivered o o1 ds ds1 x x1 run = did_of (Delivers o) keys host o o1 ds ds1 r x x1 f (arrivals_own _) run

  pub given_due : (o o1 : OuterState) (ds : List State) (x x1 : List Entry) → GoesFor ds (Givings (length o.due)) o o1 x x1 → Does IsGiving (spot o ds x) (spot o1 ds x1)
  given_due o o1 ds x x1 run = did_of (Givings (length o.due)) keys host o o1 ds ds r x x1 f (givings_own (length o.due)) run

  pub devices_ticked : (n : ℕ) (o o1 : OuterState) (ds ds1 : List State) (x x1 : List Entry) → length ds ≡ n → RunOf (DeviceTicks 0 n) (outside o ds) (outside o1 ds1) x x1 → Does IsDeviceTick (spot o ds x) (spot o1 ds1 x1)
  devices_ticked n o o1 ds ds1 x x1 many run =
      did_of (DeviceTicks 0 (length ds)) keys host o o1 ds ds1 r x x1 f (ticks_own 0 (length ds))
      (subst (λ (k : ℕ). RunOf (DeviceTicks 0 k) (outside o ds) (outside o1 ds1) x x1) (sym many) run)

  pub chip_ticked : (o o1 : OuterState) (ds : List State) (x x1 : List Entry) → Goes (Chip_ticks ∷ []) o o1 x x1 → Does IsChipTick (spot o ds x) (spot o1 ds x1)
  chip_ticked o o1 ds x x1 goes = did_one Chip_ticks keys host o o1 ds r x x1 f refl goes

  pub clock_ticked : (o o1 : OuterState) (ds : List State) (x : List Entry) → Goes (Begins_tick ∷ []) o o1 [] [] → Does IsClockTick (spot o ds x) (spot o1 ds x)
  clock_ticked o o1 ds x goes = did_quiet Begins_tick keys host o o1 ds r x f refl goes

  -- some of them
  pub delivered_some : (o o1 : OuterState) (ds ds1 : List State) (x x1 : List Entry) → StopsOutside (PrefixOfOutside (Delivers o)) (outside o ds) ds1 x x1 → Stops (PrefixOf IsDelivery) (spot o ds x) (spot o1 ds1 x1)
  delivered_some o o1 ds ds1 x x1 stops =
      stopped_out (PrefixOf IsDelivery) (PrefixOfOutside (Delivers o)) keys keys host host o o1 ds ds1 r x x1 f (prefixes_of (Delivers o)) (prefix_of (Delivers o) (machine keys host o r ds)) stops

  pub given_some : (o o1 : OuterState) (ds : List State) (x x1 : List Entry) → StopsFor ds (PrefixOfOutside (Givings (length o.due))) o x x1 → Stops (PrefixOf IsGiving) (spot o ds x) (spot o1 ds x1)
  given_some o o1 ds x x1 stops =
      stopped_out (PrefixOf IsGiving) (PrefixOfOutside (Givings (length o.due))) keys keys host host o o1 ds ds r x x1 f (prefixes_of (Givings (length o.due)))
      (prefix_of (Givings (length o.due)) (machine keys host o r ds)) stops

  pub ticked_some : (n : ℕ) (o o1 : OuterState) (ds ds1 : List State) (x x1 : List Entry) → length ds ≡ n → StopsOutside (PrefixOfOutside (DeviceTicks 0 n)) (outside o ds) ds1 x x1 → Stops (PrefixOf IsDeviceTick) (spot o ds x) (spot o1 ds1 x1)
  ticked_some n o o1 ds ds1 x x1 many stops =
      let Kind : List OuterEvent → Type 0 = DeviceTicks 0 (length ds) in
      stopped_out (PrefixOf IsDeviceTick) (PrefixOfOutside Kind) keys keys host host o o1 ds ds1 r x x1 f (prefixes_of Kind) (prefix_of Kind (machine keys host o r ds))
      (subst (λ (k : ℕ). StopsOutside (PrefixOfOutside (DeviceTicks 0 k)) (outside o ds) ds1 x x1) (sym many) stops)

pub outside_ticked : (s t u v w : Scene) → Does IsDelivery s t → Does IsGiving t u → Does IsDeviceTick u v → Does IsChipTick v w → Does IsOutsideTick s w
outside_ticked s t u v w a b c d =
    did_then IsDelivery (Then IsGiving (Then IsDeviceTick IsChipTick)) s t w a
    (did_then IsGiving (Then IsDeviceTick IsChipTick) t u w b (did_then IsDeviceTick IsChipTick u v w c d))

-- ---- in part

abbrev DevicesPrefix : Schedule
DevicesPrefix = ThenPrefix (PrefixOf IsDeviceTick) IsDeviceTick Nothing

abbrev GivingsPrefix : Schedule
GivingsPrefix = ThenPrefix (PrefixOf IsGiving) IsGiving DevicesPrefix

pub stopped_one : (s t : Scene) → Stops (PrefixOf IsDelivery) s t → Stops OutsideTickPrefix s t
stopped_one s t stops = stopped_first IsDelivery (PrefixOf IsDelivery) GivingsPrefix s t stops

pub stopped_two : (s t u : Scene) → Does IsDelivery s t → Stops (PrefixOf IsGiving) t u → Stops OutsideTickPrefix s u
stopped_two s t u a stops = stopped_then IsDelivery (PrefixOf IsDelivery) GivingsPrefix s t u a (stopped_first IsGiving (PrefixOf IsGiving) DevicesPrefix t u stops)

pub stopped_three : (s t u v : Scene) → Does IsDelivery s t → Does IsGiving t u → Stops (PrefixOf IsDeviceTick) u v → Stops OutsideTickPrefix s v
stopped_three s t u v a b stops =
    stopped_then IsDelivery (PrefixOf IsDelivery) GivingsPrefix s t v a
    (stopped_then IsGiving (PrefixOf IsGiving) DevicesPrefix t u v b (stopped_first IsDeviceTick (PrefixOf IsDeviceTick) Nothing u v stops))

pub stopped_four : (s t u v w : Scene) → Does IsDelivery s t → Does IsGiving t u → Does IsDeviceTick u v → Stops Nothing v w → Stops OutsideTickPrefix s w
stopped_four s t u v w a b c stops =
    stopped_then IsDelivery (PrefixOf IsDelivery) GivingsPrefix s t w a
    (stopped_then IsGiving (PrefixOf IsGiving) DevicesPrefix t u w b (stopped_then IsDeviceTick (PrefixOf IsDeviceTick) Nothing u v w c stops))

-- ---- the whole

pub tick_done : (s t u v w : Scene) → Does IsClockTick s t → Does IsOutsideTick t u → Does IsHostTick u v → Does Settles v w → Does IsTick s w
tick_done s t u v w a b c d =
    did_then IsClockTick (Then IsOutsideTick (Then IsHostTick Settles)) s t w a
    (did_then IsOutsideTick (Then IsHostTick Settles) t u w b (did_then IsHostTick Settles u v w c d))

-- ---- the whole in part

abbrev HostPrefix : Schedule
HostPrefix = ThenPrefix Nothing IsHostTick SettlesPrefix

abbrev SidesPrefix : Schedule
SidesPrefix = ThenPrefix OutsideTickPrefix IsOutsideTick HostPrefix

pub tick_one : (s t u : Scene) → Does IsClockTick s t → Stops OutsideTickPrefix t u → Stops TickPrefix s u
tick_one s t u a stops = stopped_then IsClockTick Nothing SidesPrefix s t u a (stopped_first IsOutsideTick OutsideTickPrefix HostPrefix t u stops)

pub tick_two : (s t u v : Scene) → Does IsClockTick s t → Does IsOutsideTick t u → Stops Nothing u v → Stops TickPrefix s v
tick_two s t u v a b stops =
    stopped_then IsClockTick Nothing SidesPrefix s t v a (stopped_then IsOutsideTick OutsideTickPrefix HostPrefix t u v b (stopped_first IsHostTick Nothing SettlesPrefix u v stops))

pub tick_three : (s t u v w : Scene) → Does IsClockTick s t → Does IsOutsideTick t u → Does IsHostTick u v → Stops SettlesPrefix v w → Stops TickPrefix s w
tick_three s t u v w a b c stops =
    stopped_then IsClockTick Nothing SidesPrefix s t w a (stopped_then IsOutsideTick OutsideTickPrefix HostPrefix t u w b (stopped_then IsHostTick Nothing SettlesPrefix u v w c stops))
