-- A frame of the host for a node that listens, or sleeps and is where that may be, is heard by its device.
use Rattle.std.proofs.Common.{◌≡◌, ℕ, ◌+◌, Bool, true, if◌then◌else◌, List, ◌∷◌, sym, ap, ◌∙◌, subst, arith}
use Rattle.std.specs.Prelude.{Option, Some, None, slice_get}
use Rattle.std.specs.List.{AllByRecursion}
use Rattle.route_table.specs.Network.{Network}
use Rattle.air_frames.specs.Flown.{Flown}
use Rattle.air_frames.specs.Frames.{next_of}
use Rattle.air_frames.specs.declared.frame.Heading.{Heading}
use Rattle.air_frames.specs.declared.frame.Heading.TheVariants.{Outward}
use Rattle.chip_sim.specs.Nodes.{is_marked}
use Rattle.device_sim.specs.State.{State}
use Rattle.mesh_sim.specs.Fates.{awake_at, dead_hop_of, fate_of, is_awake, listener_of, place_of}
use Rattle.mesh_sim.specs.declared.fate.Fate.TheVariants.{AtDevice}
use Rattle.outside_model.specs.Events.{Arrives}
use Rattle.world_model.specs.Events.{Event, Outside_does}
use Rattle.world_model.specs.State.{Machine}
use Rattle.zw_text.specs.declared.entry.Entry.{Entry}
use Rattle.proof_calm.specs.proof_work.proof_walk.Phases.{Phase}
use Rattle.proof_calm.specs.Awaited.{Awaits}
use Rattle.proof_calm.specs.Live.{HasLive, IsLive}
use Rattle.proof_calm.specs.proof_traffic.OnAir.{hosts_on_air, on_air}
use Rattle.proof_calm.specs.proof_traffic.OutsideTraffic.{one_outward, outward}
use Rattle.proof_calm.proofs.proof_traffic_Parts.{Airs}
use Rattle.proof_answered.specs.Heard.{IsHeardThen}
use Rattle.proof_answered.specs.Outward.{AllFor, IsFor}
use Rattle.proof_answered.specs.Sleepers.{AllHear, All_listen, Back_asleep, Before, One_sleeps, SleeperAt, Up, Was_told, Woken}
use Rattle.proof_answered.proofs.Listeners.{fate_so, listener_hears}
use Rattle.proof_answered.proofs.Outwards.{next_flight, next_is_live}

-- an awake device hears it
awake_hears : (net : Network) (devices : List State) (frame : Flown) (place : ℕ) (device : State) → place_of frame.node devices ≡ Some place → slice_get devices place ≡ Some device → device.awake ≡ true → frame.heading ≡ Outward
    → IsLive net frame → fate_of net devices frame ≡ AtDevice place
awake_hears net devices frame place device first stands up out live = fate_so frame.lost (dead_hop_of net frame) frame.heading (listener_of frame.node devices) place live.0 live.1 out there
  where
    there : listener_of frame.node devices ≡ Some place
    there = ap (λ (found : Option ℕ). awake_at devices found) first ∙ ap (λ (b : Bool). if b then Some place else None) (ap is_awake stands ∙ up)

-- while no frame of the host is on the air, none is the first
none_first : (flights rest : List Flown) (frame : Flown) → flights ≡ frame ∷ rest → frame.heading ≡ Outward → outward flights ≡ 0 → ⊥
none_first flights rest frame are out none =
    let some : outward flights ≡ 1 + outward rest = ap outward are ∙ ap (λ (h : Heading). one_outward h + outward rest) out in
    absurd (let no : 1 + outward rest ≡ 0 = sym some ∙ none in omega (arith, no))

-- so while one is, the device of a node that sleeps is awake
sleeper_up : (n : ℕ) (device : State) (here : Phase) (past : List Entry) (m : Machine) → (hosts_on_air m.outside.outer ≡ 0 → ⊥) → SleeperAt n device here past m → device.awake ≡ true
sleeper_up n device here past m flies (Before before down hosts none) = absurd (flies hosts)
sleeper_up n device here past m flies (Woken is down hosts one awake) = awake
sleeper_up n device here past m flies (Up is up none awake) = awake
sleeper_up n device here past m flies (Was_told is up told idle hosts none) = absurd (flies hosts)
sleeper_up n device here past m flies (Back_asleep is down nothing hosts none) = absurd (flies hosts)

-- the frame that arrives is the first on the air
module _ (airs : Airs) (these : List Bool) (m : Machine) (is : Awaits m) (live : HasLive these m.outside.outer) (frames : AllFor these m) (frame : Flown) (next : next_of m.outside.outer.air.frames ≡ Some frame) (out : frame.heading ≡ Outward) where
  marked : is_marked these frame.node ≡ true
  marked =
      let first = next_flight airs is.log (on_air m.outside.outer.air.frames) m.outside.outer.air.frames frame is.follows.fly next in
      (subst (AllByRecursion (IsFor these)) first.1 frames).0 out

  reaches : IsLive m.outside.outer.air.network frame
  reaches = next_is_live these m.outside.outer live frame next (λ home. marked)

  flies : hosts_on_air m.outside.outer ≡ 0 → ⊥
  flies =
      let first = next_flight airs is.log (on_air m.outside.outer.air.frames) m.outside.outer.air.frames frame is.follows.fly next in
      none_first (on_air m.outside.outer.air.frames) first.0 frame first.1 out

pub all_heard : (airs : Airs) (these : List Bool) (here : Phase) (past : List Entry) (m : Machine) (event : Event) → Awaits m → HasLive these m.outside.outer → AllHear these here past m → IsHeardThen m event
all_heard airs these here past m (Outside_does (Arrives drawn route)) is live (All_listen listen) = λ frame next out.
    let listener = listen.nodes frame.node (marked airs these m is live listen.frames frame next out) in
    (listener.place, listener_hears m.outside.outer.air.network m.outside.devices frame listener out (reaches airs these m is live listen.frames frame next out))
all_heard airs these here past m (Outside_does (Arrives drawn route)) is live (One_sleeps n alone frames sleeper at) = λ frame next out.
    let own : frame.node ≡ n = alone.only frame.node (marked airs these m is live frames frame next out) in
    let first : place_of frame.node m.outside.devices ≡ Some sleeper.place = ap (λ (k : ℕ). place_of k m.outside.devices) own ∙ sleeper.first in
    let up : sleeper.device.awake ≡ true = sleeper_up n sleeper.device here past m (flies airs these m is live frames frame next out) at in (
      sleeper.place,
      awake_hears m.outside.outer.air.network m.outside.devices frame sleeper.place sleeper.device first sleeper.stands up out (reaches airs these m is live frames frame next out),
    )
all_heard airs these here past m (Outside_does event) is live hear = tt
all_heard airs these here past m event is live hear = tt
