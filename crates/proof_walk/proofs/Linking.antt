-- What a law owes that only the link between chip and host concerns: the events of the chip, whatever calls for them. All else leaves what is known as it is.
use Rattle.std.proofs.Common.{◌≡◌, ℕ, Bool, false, List, [], ◌∷◌, refl}
use Rattle.std.specs.List.{AllByRecursion}
use Rattle.std.specs.Prelude.{Option, slice_set}
use Rattle.zw_base.proofs.Each.{all-weaker}
use Rattle.serial_frame.specs.Stream.{after_tick}
use Rattle.route_table.specs.declared.route.Route.{Route}
use Rattle.proof_host.specs.device_kinds.declared.change.Change.{Change}
use Rattle.proof_device.specs.chip_sim.Events.{ChipEvent, Judged, Ticked, Done, Heard as chip_hears, Informed, Forgets, Joined, Linked, Collides, after}
use Rattle.proof_device.specs.device_sim.State.{State}
use Rattle.proof_device.specs.device_sim.Event.{DeviceEvent, device_after}
use Rattle.proof_device.specs.mesh_sim.declared.event.AirEvent.{AirEvent}
use Rattle.proof_device.specs.mesh_sim.declared.event.AirEvent.TheVariants as air_event
use Rattle.proof_device.specs.mesh_sim.Fates.{place_of}
use Rattle.zw_text.specs.declared.entry.Entry.{Entry}
use Rattle.zw_text.specs.declared.entry.Entry.TheVariants as entry
use Rattle.proof_device.specs.outside_model.State.{OuterState, Outside, outside, Outcome, silent, tells, with_chip}
use Rattle.proof_device.specs.outside_model.Chip.{chip_does, chip_ticks}
use Rattle.proof_device.specs.outside_model.Results.{gives, device_at}
use Rattle.proof_device.specs.outside_model.Air.{deals, sent_entries, change_entries, change_at}
use Rattle.proof_device.specs.outside_model.Devices.{acts}
use Rattle.proof_device.specs.outside_model.Events.{OuterEvent}
use Rattle.proof_walk.specs.Outside.{Knowing, Moves, Comes, Outer, Link, IsOfAir, IsSameLink, IsDone, session_begins}
use Rattle.proof_walk.proofs.Moving.{moves_silent, moves_none, moves_both, moves_then}
use Rattle.proof_device.proofs.Entering.{IsOwn, acts_own, change_own}
use Rattle.proof_device.proofs.Results.{IsGiven, Gives, ends_go, gives_go, to_chip_goes}

-- ---- entries of the air and of devices

abbrev AreOfAir : List Entry → Type 0
AreOfAir told = AllByRecursion IsOfAir told

own_of_air : (node : ℕ) (e : Entry) → IsOwn node e → IsOfAir e
own_of_air node (entry.Dev at by setting) own = tt
own_of_air node (entry.Air frame sender receiver repeaters payload) own = tt
own_of_air node e own = absurd own

change_of_air : (node : ℕ) (change : Option Change) → AreOfAir (change_entries node change)
change_of_air node change = all-weaker (IsOwn node) IsOfAir (own_of_air node) (change_entries node change) (change_own node change)

pub acts_of_air : (o : OuterState) (device : State) (event : DeviceEvent) (route : Option Route) → AreOfAir (acts o device event route).entries
acts_of_air o device event route = all-weaker (IsOwn device.node) IsOfAir (own_of_air device.node) (acts o device event route).entries (acts_own o device event route)

-- ---- what the chip is fed, and waits for

-- an event of the chip that needs no item of the host
abbrev pub IsFed : ChipEvent → Type 0
IsFed Ticked = Unit {0}
IsFed (Forgets a b) = Unit {0}
IsFed event = IsGiven event

-- only what the chip waits for, the air and the devices are others
pub record IsSameLine (old new : OuterState) : Type 0 where
  pub chip : new.chip.state ≡ old.chip.state
  pub to_chip : new.to_chip ≡ old.to_chip
  pub to_host : new.to_host ≡ old.to_host
  pub clock : new.clock ≡ old.clock

-- what a law owes of these events, of an entry of the air, and where only those are others
pub record Fed (Asks : List Entry → Entry → Type 0) (Knows : Knowing) : Type 0 where
  pub chip : (w : Outside) (event : ChipEvent) → IsFed event → Comes Asks Knows w (chip_does w.outer event) w.devices Knows
  pub air : (w : Outside) (told : Entry) → IsOfAir told → Moves Asks Knows w (told ∷ []) Knows w
  pub same : (awaits : Bool) (past : List Entry) (w later : Outside) → IsSameLine w.outer later.outer → Knows awaits past w → Knows awaits past later

module _ (Asks : List Entry → Entry → Type 0) (Knows : Knowing) (law : Fed Asks Knows) where
  -- ---- what does not concern the link

  pub same : (w later : Outside) → IsSameLine w.outer later.outer → Moves Asks Knows w [] Knows later
  same w later is = moves_silent Asks Knows Knows w later (λ awaits past knows. law.same awaits past w later is knows)

  all_of_air : (w : Outside) (told : List Entry) → AreOfAir told → Moves Asks Knows w told Knows w
  all_of_air w [] of_air = moves_none Asks Knows w
  all_of_air w (one ∷ told) of_air = moves_both Asks Knows Knows Knows w w w (one ∷ []) told (law.air w one of_air.0) (all_of_air w told of_air.1)

  module _ (devices : List State) where
    -- with these devices, which stay
    abbrev Goes : OuterState → Outcome → Type 0
    Goes o x = Comes Asks Knows (outside o devices) x devices Knows

    still : (o p : OuterState) → IsSameLine o p → Goes o (silent p)
    still o p is = same (outside o devices) (outside p devices) is

    -- something else changes first
    after_still : (o p : OuterState) (x : Outcome) → IsSameLine o p → Goes p x → Goes o x
    after_still o p x is goes = moves_both Asks Knows Knows Knows (outside o devices) (outside p devices) (outside x.outer devices) [] x.entries (same (outside o devices) (outside p devices) is) goes

    does : (o p : OuterState) (event : ChipEvent) → IsFed event → IsSameLine o p → Goes o (chip_does p event)
    does o p event done is = after_still o p (chip_does p event) is (law.chip (outside p devices) event done)

    -- the table of the chip loses a link, and that is told
    forgotten : (o : OuterState) (a b : ℕ) → Goes o (tells (with_chip o (after o.chip.state (Forgets a b))) (entry.Forget a b ∷ []))
    unfolding chip_does
    forgotten o a b =
        moves_both Asks Knows Knows Knows (outside o devices) (outside (with_chip o (after o.chip.state (Forgets a b))) devices) (outside (with_chip o (after o.chip.state (Forgets a b))) devices)
        [] (entry.Forget a b ∷ []) (law.chip (outside o devices) (Forgets a b) tt) (law.air (outside (with_chip o (after o.chip.state (Forgets a b))) devices) (entry.Forget a b) tt)

    given : (o : OuterState) (event : ChipEvent) → IsGiven event → Goes o (chip_does o event)
    given o (chip_hears node payload) is = law.chip (outside o devices) (chip_hears node payload) tt
    given o (Done status) is = law.chip (outside o devices) (Done status) tt
    given o (Informed node profile) is = law.chip (outside o devices) (Informed node profile) tt
    given o event is = absurd is

    results : Gives Goes
    results = record {
      still = λ o p is. still o p (record { chip = is.chip; to_chip = is.to_chip; to_host = is.to_host; clock = is.clock });
      both = λ o first next one later.
          moves_both Asks Knows Knows Knows (outside o devices) (outside first.outer devices) (outside (next first.outer).outer devices) first.entries (next first.outer).entries one (later first.outer);
      later = λ o p x is goes. after_still o p x (record { chip = is.chip; to_chip = is.to_chip; to_host = is.to_host; clock = is.clock }) goes;
      does = given;
      forgotten = forgotten;
    }

    -- ---- what the air tells

    told_of_air : (o : OuterState) (told : List Entry) → AreOfAir told → Goes o (tells o told)
    told_of_air o told of_air = all_of_air (outside o devices) told of_air

    pub deals_go : (o : OuterState) (event : AirEvent) → Goes o (deals devices o event)
    deals_go o (air_event.Heard frame) = told_of_air o (entry.Heard frame ∷ []) (tt, tt)
    deals_go o (air_event.Lost frame) = told_of_air o (entry.Lost frame ∷ []) (tt, tt)
    deals_go o (air_event.Unheard frame) = told_of_air o (entry.Unheard frame ∷ []) (tt, tt)
    deals_go o (air_event.Sent frame from to route payload) = told_of_air o (sent_entries (air_event.Sent frame from to route payload)) (tt, tt)
    deals_go o (air_event.Changed node at) =
        told_of_air o (change_entries node (change_at (device_at devices (place_of node devices)) at)) (change_of_air node (change_at (device_at devices (place_of node devices)) at))
    deals_go o (air_event.ToChip frame from payload) = to_chip_goes Goes results o from payload
    deals_go o (air_event.Done frame status dead) = ends_go Goes results o status dead

  -- ---- ticks, results, and what devices do

  pub ticks_go : (w : Outside) → Comes Asks Knows w (chip_ticks w.outer) w.devices Knows
  ticks_go w =
      does w.devices w.outer (record w.outer { chip = record { decoder = after_tick w.outer.chip.decoder; state = w.outer.chip.state } }) Ticked tt
      (record { chip = refl; to_chip = refl; to_host = refl; clock = refl })

  pub results_go : (w : Outside) (route : Option Route) → Comes Asks Knows w (gives w.outer w.devices w.outer.due route) w.devices Knows
  results_go w route = gives_go (Goes w.devices) (results w.devices) w.outer w.devices w.outer.due route

  pub acts_go : (w : Outside) (place : ℕ) (device : State) (event : DeviceEvent) (route : Option Route)
      → Comes Asks Knows w (acts w.outer device event route) (slice_set w.devices place (device_after device event)) Knows
  acts_go w place device event route =
      let later : Outside = outside (acts w.outer device event route).outer (slice_set w.devices place (device_after device event)) in
      moves_then Asks Knows Knows Knows w w later (acts w.outer device event route).entries (all_of_air w (acts w.outer device event route).entries (acts_of_air w.outer device event route))
      (λ awaits past knows. law.same awaits past w later (record { chip = refl; to_chip = refl; to_host = refl; clock = refl }) knows)

-- ---- all of it

fed_done : (event : ChipEvent) → IsFed event → IsDone event
fed_done (Joined node listening) fed = absurd fed
fed_done (Linked a b live) fed = absurd fed
fed_done Collides fed = absurd fed
fed_done event fed = tt

module _ (Asks : List Entry → Entry → Type 0) (Knows : Knowing) (Covers : OuterEvent → Type 0) (law : Link Asks Knows Covers) where
  fed : Fed Asks Knows
  fed = record {
    chip = λ w event is. law.chip w event (fed_done event is);
    air = law.air;
    same = λ awaits past w later is knows. law.same awaits past w later (record { chip = is.chip; to_host = is.to_host; clock = is.clock }) knows;
  }

  silent_moves : (w later : Outside) → IsSameLink w.outer later.outer → Moves Asks Knows w [] Knows later
  silent_moves w later is = moves_silent Asks Knows Knows w later (λ awaits past knows. law.same awaits past w later is knows)

  pub of_link : Outer Asks (λ pending. Knows) Covers
  of_link = record {
    line = λ covers awaits past w knows. law.same false past w _ (record { chip = refl; to_host = refl; clock = refl }) (law.line covers awaits past w knows);
    tick = λ covers awaits past w knows. law.tick covers awaits past w knows;
    number = law.number;
    stamps = λ awaits stamped past w knows. law.same awaits past w _ (record { chip = refl; to_host = refl; clock = refl }) knows;
    simple = law.simple;
    session = λ w node session command.
        let later : Outside = outside (session_begins w.outer node session command).outer w.devices in
        moves_both Asks Knows Knows Knows w later later [] (entry.Begin node session command ∷ []) (silent_moves w later (record { chip = refl; to_host = refl; clock = refl })) (law.session later node session command);
    takes = λ w count rest ways may. silent_moves w _ (record { chip = refl; to_host = refl; clock = refl });
    judges = λ w way ways may. law.chip w (Judged way.0 way.1) tt;
    judged = λ awaits past w knows. knows;
    ticks = λ w. ticks_go Asks Knows fed w;
    gives = λ w route may. results_go Asks Knows fed w route;
    steps = λ w step hearing may. silent_moves w _ (record { chip = refl; to_host = refl; clock = refl });
    deals = λ w event events. deals_go Asks Knows fed w.devices w.outer event;
    acts = λ w place device event route found may. acts_go Asks Knows fed w place device event route;
  }
