-- Which frames are on the air after each event outside the host: those of before, but for one that arrives, and others behind them.
use Rattle.std.proofs.Common.{◌≡◌, ◌<◌, ℕ, suc, Bool, inl, inr, List, [], ◌∷◌, ◌++◌, length, refl, sym, ap, ◌∙◌, subst, append_assoc}
use Rattle.std.proofs.lemmas.List.{append-nil}
use Rattle.std.specs.Prelude.{◌⊎◌, Option, Some, None, option_map, slice_get}
use Rattle.std.specs.List.{AllByRecursion}
use Rattle.zw_base.proofs.Each.{all-get}
use Rattle.zw_text.specs.declared.entry.Entry.{Entry}
use Rattle.serial_frame.specs.Stream.{Rest}
use Rattle.serial_frame.specs.declared.item.Item.{Item}
use Rattle.route_table.specs.declared.route.Route.{Route}
use Rattle.chip_sim.specs.Did.{judged_all}
use Rattle.air_frames.specs.Flown.{Flown}
use Rattle.air_frames.specs.Frames.{FramesState, next_of}
use Rattle.air_frames.specs.History.{Mark}
use Rattle.device_sim.specs.Event.{DeviceEvent, Ticks, Wakes, device_replies}
use Rattle.device_sim.specs.State.{State}
use Rattle.mesh_sim.specs.Air.{AirState, is_joined}
use Rattle.mesh_sim.specs.Fates.{place_of}
use Rattle.mesh_sim.specs.Routes.{backwards}
use Rattle.mesh_sim.specs.Steps.{MayArriveIf, MayHappen}
use Rattle.outside_model.specs.Chip.{chip_does}
use Rattle.outside_model.specs.Devices.{acts_at, acts_by_hand}
use Rattle.outside_model.specs.State.{OuterState, Outcome, each}
use Rattle.outside_model.specs.Events.{Arrives, Device_ticks, Chip_takes, Wakes_device, has_entered, mesh_of, outcome, happens as happens_outside, May as MayOutside}
use Rattle.world_model.specs.Events.{Outside_does, happens, May}
use Rattle.world_model.specs.State.{Machine}
use Rattle.proof_answered.specs.proof_calm.proof_traffic.Flights.{Fly}
use Rattle.proof_answered.specs.proof_calm.proof_traffic.OnAir.{fed_chip, on_air}
use Rattle.proof_answered.specs.proof_calm.Awaited.{Awaits}
use Rattle.proof_answered.specs.Outward.{IsSentTo}
use Rattle.proof_answered.proofs.Outwards.{IsSentFor, judges_add, next_flight}
use Rattle.proof_answered.proofs.ArrivedFrames.{Homes as ArrivedHomes, arrives_home}
use Rattle.proof_answered.proofs.Arrivals.{Homes, answered_if_homes}
use Rattle.proof_answered.proofs.Calm.{Calm}
use Rattle.proof_answered.proofs.ChipNotices.{entered_leaves}
use Rattle.proof_answered.proofs.Flights.{flights_are}
use Rattle.proof_answered.proofs.proof_traffic_Parts.{Airs}
use Rattle.proof_in_time.specs.Coming.{Stands}

-- ---- frames that stand there

pub record Grows (flights later : List Flown) : Type 0 where
  pub more : List Flown
  pub are : later ≡ flights ++ more

pub stands_on : (Is : Flown → Type 0) (flights later : List Flown) (grows : Grows flights later) → (at : Stands Is flights) → (on : Stands Is later) × (on.before ≡ at.before)
stands_on Is flights later grows at =
    (record { before = at.before; frame = at.frame; behind = at.behind ++ grows.more; are = grows.are ∙ (ap (λ (fs : List Flown). fs ++ grows.more) at.are ∙ append_assoc at.before (at.frame ∷ at.behind) grows.more); is = at.is }, refl)

-- the first of them leaves: it is that, or that comes nearer
pub stands_next : (Is : Flown → Type 0) (first : Flown) (rest : List Flown) (at : Stands Is (first ∷ rest)) → Is first ⊎ ((on : Stands Is rest) × (length at.before ≡ suc (length on.before)))
stands_next Is first rest at = by at.before at.are
  where
    by : (before : List Flown) → first ∷ rest ≡ before ++ at.frame ∷ at.behind → Is first ⊎ ((on : Stands Is rest) × (length before ≡ suc (length on.before)))
    by [] are = let same : at.frame ≡ first = cc in inl (subst Is same at.is)
    by (one ∷ before) are = let same : rest ≡ before ++ at.frame ∷ at.behind = cc in inr (record { before = before; frame = at.frame; behind = at.behind; are = same; is = at.is }, refl)

-- and those are the host's, for these
pub record Sends (these : List Bool) (flights later : List Flown) : Type 0 where
  pub more : List Flown
  pub are : later ≡ flights ++ more
  pub sent : AllByRecursion (IsSentFor these) more

-- ---- what is on the air of a machine

abbrev pub Adds : OuterState → OuterState → Type 0
Adds o p = Grows (on_air o.air.frames) (on_air p.air.frames)

pub same_adds : (o p : OuterState) → p.air ≡ o.air → Adds o p
same_adds o p air = record { more = []; are = ap (λ (a : AirState). on_air a.frames) air ∙ sym (append-nil (on_air o.air.frames)) }

pub calm_adds : (o p : OuterState) → Calm o p → Adds o p
calm_adds o p calm = record { more = []; are = calm.on ∙ sym (append-nil (on_air o.air.frames)) }

then_entered : (o : OuterState) (x : Outcome) (told : List Entry) → Adds o x.outer → Adds o (has_entered x.outer told)
then_entered o x told adds = record { more = adds.more; are = ap (λ (a : AirState). on_air a.frames) (entered_leaves x.outer told).air ∙ adds.are }

homes_add : (log : List Mark) (flights : List Flown) (frames : FramesState) → Homes log flights frames → Grows flights (on_air frames)
homes_add log flights frames homes = record { more = homes.home; are = sym (flights_are (log ++ homes.more) (flights ++ homes.home) frames homes.fly) }

arrived_adds : (log : List Mark) (flights : List Flown) (frames : FramesState) → ArrivedHomes log flights frames → Grows flights (on_air frames)
arrived_adds log flights frames homes = record { more = homes.home; are = sym (flights_are (log ++ homes.more) (flights ++ homes.home) frames homes.fly) }

module _ (airs : Airs) (m : Machine) (is : Awaits m) where
  o : OuterState
  o = m.outside.outer

  abbrev flights : List Flown
  flights = on_air m.outside.outer.air.frames

  fly : Fly is.log (on_air m.outside.outer.air.frames) m.outside.outer.air.frames
  fly = is.follows.fly

  acts_add : (place : ℕ) (found : Option State) (event : DeviceEvent) (route : Option Route) → slice_get m.outside.devices place ≡ found → Adds m.outside.outer (acts_at m.outside.outer found event route).outer
  acts_add place None event route there = same_adds m.outside.outer m.outside.outer refl
  acts_add place (Some device) event route there =
      let within : device.node < 233 = all-get (λ (d : State). d.node < 233) m.outside.devices place device is.nodes there in
      homes_add is.log flights (acts_at m.outside.outer (Some device) event route).outer.air.frames
      (answered_if_homes airs.goes is.log flights (is_joined m.outside.outer.air device.node) m.outside.outer.air device.node (option_map backwards route) (device_replies device event) within fly)

  hand_adds : (place : Option ℕ) (event : DeviceEvent) (route : Option Route) → Adds m.outside.outer (acts_by_hand m.outside.outer m.outside.devices place event route).outer
  hand_adds None event route = same_adds m.outside.outer m.outside.outer refl
  hand_adds (Some place) event route = acts_add place (slice_get m.outside.devices place) event route refl

  pub device_adds : (place : ℕ) (drawn : List ℕ) (route : Option Route) → Adds m.outside.outer (happens m (Outside_does (Device_ticks place drawn route))).outside.outer
  unfolding outcome happens
  device_adds place drawn route =
      then_entered m.outside.outer (outcome m.outside (Device_ticks place drawn route)) (outcome m.outside (Device_ticks place drawn route)).entries (acts_add place (slice_get m.outside.devices place) (Ticks drawn) route refl)

  pub wakes_add : (node : ℕ) (route : Option Route) → Adds m.outside.outer (happens m (Outside_does (Wakes_device node route))).outside.outer
  unfolding outcome happens
  wakes_add node route =
      then_entered m.outside.outer (outcome m.outside (Wakes_device node route)) (outcome m.outside (Wakes_device node route)).entries (hand_adds (place_of node m.outside.devices) Wakes route)

  -- what the chip puts there is of the host, for these
  pub takes_sent : (these : List Bool) → length these ≡ 233 → (count : ℕ) (rest : Rest) (ways : List (Item × Option Route)) → IsSentTo these m (Outside_does (Chip_takes count rest ways))
      → Sends these (on_air m.outside.outer.air.frames) (on_air (happens m (Outside_does (Chip_takes count rest ways))).outside.outer.air.frames)
  unfolding outcome happens
  takes_sent these many count rest ways sent =
      let p : OuterState = (each chip_does (fed_chip m.outside.outer count rest) (judged_all ways)).outer in
      let x : Outcome = outcome m.outside (Chip_takes count rest ways) in
      let adds = judges_add airs these many is.log flights (fed_chip m.outside.outer count rest) ways sent fly in
      record {
        more = adds.added;
        are = ap (λ (a : AirState). on_air a.frames) (entered_leaves x.outer x.entries).air ∙ sym (flights_are (is.log ++ adds.more) (flights ++ adds.added) p.air.frames adds.fly);
        sent = adds.are_so;
      }

  pub takes_add : (these : List Bool) → length these ≡ 233 → (count : ℕ) (rest : Rest) (ways : List (Item × Option Route)) → IsSentTo these m (Outside_does (Chip_takes count rest ways))
      → Adds m.outside.outer (happens m (Outside_does (Chip_takes count rest ways))).outside.outer
  takes_add these many count rest ways sent = let sends = takes_sent these many count rest ways sent in record { more = sends.more; are = sends.are }

  -- a frame arrives, the first of them
  pub record Arrived (drawn : List ℕ) (route : Option Route) : Type 0 where
    pub frame : Flown
    pub rest : List Flown
    pub next : next_of m.outside.outer.air.frames ≡ Some frame
    pub were : on_air m.outside.outer.air.frames ≡ frame ∷ rest
    pub fly_there : Fly is.log (frame ∷ rest) m.outside.outer.air.frames
    pub grows : Grows rest (on_air (happens m (Outside_does (Arrives drawn route))).outside.outer.air.frames)

  arrives_so : (drawn : List ℕ) (route : Option Route) (frame : Flown) → next_of m.outside.outer.air.frames ≡ Some frame → Arrived drawn route
  unfolding happens
  arrives_so drawn route frame next =
      let first = next_flight airs is.log flights m.outside.outer.air.frames frame fly next in
      let there : Fly is.log (frame ∷ first.0) m.outside.outer.air.frames = subst (λ (fs : List Flown). Fly is.log fs m.outside.outer.air.frames) first.1 fly in
      let homes = arrives_home airs is.log frame first.0 m.outside drawn route there in
      record { frame = frame; rest = first.0; next = next; were = first.1; fly_there = there; grows = arrived_adds is.log first.0 (happens_outside m.outside (Arrives drawn route)).outer.air.frames homes }

  pub arrives_there : (drawn : List ℕ) (route : Option Route) → May m (Outside_does (Arrives drawn route)) → Arrived drawn route
  unfolding May MayOutside MayHappen
  arrives_there drawn route may = by (next_of m.outside.outer.air.frames) refl may.1.0
    where
      by : (frame : Option Flown) → next_of m.outside.outer.air.frames ≡ frame → MayArriveIf (mesh_of m.outside) frame route → Arrived drawn route
      by None next may_arrive = absurd may_arrive
      by (Some frame) next may_arrive = arrives_so drawn route frame next
