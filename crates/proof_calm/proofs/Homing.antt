-- Frames of devices are of joined nodes, and so are payloads that come to the chip, at each event of quiet lines and ticks.
use Rattle.std.proofs.Common.{◌≡◌, if◌then◌else◌, ℕ, ◌+◌, Bool, true, false, List, [], ◌∷◌, refl, sym, subst}
use Rattle.std.specs.Prelude.{◌||◌, nat_le, nat_lt, Option, Some, None, option_map, slice_get, slice_set}
use Rattle.std.specs.Option.{is_none, unwrap_or}
use Rattle.std.specs.List.{AllByRecursion}
use Rattle.zw_base.proofs.Each.{all-append, all-weaker}
use Rattle.serial_frame.specs.Stream.{after_tick}
use Rattle.route_table.specs.Network.{Network}
use Rattle.route_table.specs.declared.route.Route.{Route}
use Rattle.air_frames.specs.Flown.{Flown}
use Rattle.air_frames.specs.Frames.{FramesState, next_of, peer_of}
use Rattle.air_frames.specs.declared.frame.Departure.{Departure}
use Rattle.air_frames.specs.declared.frame.Heading.{Heading}
use Rattle.air_frames.specs.declared.frame.Heading.TheVariants.{Outward, Homeward}
use Rattle.chip_sim.specs.Events.{ChipEvent, Judged, Ticked, after, outs}
use Rattle.chip_sim.specs.declared.out.ChipOut.{ChipOut}
use Rattle.chip_sim.specs.declared.out.ChipOut.TheVariants.{Write, OnAir, NoRoute, AskInfo, Full}
use Rattle.device_sim.specs.State.{State}
use Rattle.device_sim.specs.Event.{Hears, device_after, device_replies}
use Rattle.mesh_sim.specs.Air.{AirState, beginning, departing, is_joined, no_route}
use Rattle.mesh_sim.specs.Fates.{Mesh, dead_hop_of, fate_by, fate_of, listener_of}
use Rattle.mesh_sim.specs.Routes.{backwards}
use Rattle.mesh_sim.specs.Steps.{acknowledged, arrival_outs, arrival_outs_as, landed, mesh_after, mesh_outs, outs_at}
use Rattle.mesh_sim.specs.Steps as mesh
use Rattle.mesh_sim.specs.declared.event.AirEvent.{AirEvent}
use Rattle.mesh_sim.specs.declared.event.AirEvent.TheVariants as air_event
use Rattle.mesh_sim.specs.declared.fate.Fate.{Fate}
use Rattle.mesh_sim.specs.declared.fate.Fate.TheVariants.{Lost, Dead, Missed, AtChip, AtDevice}
use Rattle.outside_model.specs.State.{OuterState, Outside, Outcome, with_chip, each}
use Rattle.outside_model.specs.Air.{deals}
use Rattle.outside_model.specs.Chip.{put_out, chip_does, chip_ticks}
use Rattle.outside_model.specs.Devices.{acts}
use Rattle.outside_model.specs.Events.{OuterEvent, Begins_line, Begins_tick, Host_writes, Host_takes, Host_notes, Host_begins, Chip_takes, Arrives, Gives, Device_ticks, Chip_ticks, Wakes_device, Shows, Cuts, begins, mesh_of, outcome}
use Rattle.outside_model.specs.Results.{gives}
use Rattle.proof_work.proofs.Results.{IsSameChip, Gives as ResultsGo, ends_go, gives_go, to_chip_goes}
use Rattle.world_model.specs.State.{Machine}
use Rattle.world_model.specs.Events.{Event, happens, May}
use Rattle.proof_work.specs.proof_walk.Outside.{Knowing, Comes, Outer, IsSimple, CoversOuter, session_begins}
use Rattle.proof_work.proofs.proof_walk_Machines.{machine_keeps}
use Rattle.proof_work.specs.Phases.{AsksNothing}
use Rattle.proof_calm.specs.Homeward.{IsOfMember, SpeaksHome}
use Rattle.proof_calm.specs.Known.{IsMember}
use Rattle.proof_calm.specs.Marks.{IsQuietEvent}
use Rattle.proof_waking.specs.proof_traffic.OnAir.{on_air}
use Rattle.proof_calm.proofs.Aloft.{IsSized, land_all, next_all, put_all}
use Rattle.proof_calm.proofs.Counting.{IsAside, done_aside, outs_aside}
use Rattle.proof_calm.proofs.Pending.{IsFromAs, IsFromOf}
use Rattle.proof_calm.proofs.Heard.{Keeps, replied_if, steps_keep}
use Rattle.proof_calm.proofs.Unmarked.{hosts, nothing_asked}

module _ (joined : List Bool) where
  abbrev Home : AirState → Type 0
  Home air = AllByRecursion (IsOfMember joined) (on_air air.frames) × ((n : ℕ) → is_joined air n ≡ true → IsMember joined n)

  -- ---- the air

  departs_home : (air : AirState) (node : ℕ) (heading : Heading) (route : Option Route) (payload : List ℕ) → (heading ≡ Homeward → IsMember joined node) → Home air → Home (departing air node heading route payload)
  departs_home air node heading route payload member home =
      let d : Departure = record { node = node; heading = heading; route = unwrap_or route no_route; lost = nat_lt 0 air.losing || is_none route; payload = payload } in
      (put_all (IsOfMember joined) air.frames d member home.0, home.1)

  lands_home : (air : AirState) → Home air → Home (landed air)
  lands_home air home = (land_all (IsOfMember joined) air.frames home.0, home.1)

  keeps : Keeps Home (IsMember joined)
  keeps = record {
    departs = λ air node way reply member home. departs_home air node Homeward way reply (λ is. member) home;
    joined = λ air node is home. home.1 node is;
    lands = lands_home;
    acknowledges = λ air home. home;
  }

  -- ---- what is outside the host

  abbrev Speaks : OuterState → Type 0
  Speaks o = SpeaksHome joined o

  with_home : (o p : OuterState) → Home p.air → Speaks p
  with_home o p home = record { frames = home.0; nodes = home.1 }

  home_of : (o : OuterState) → Speaks o → Home o.air
  home_of o speaks = (speaks.frames, speaks.nodes)

  puts_home : (o : OuterState) (out : ChipOut) → Speaks o → Speaks (put_out o out).outer
  puts_home o (Write unit) speaks = record { frames = speaks.frames; nodes = speaks.nodes }
  puts_home o (OnAir to route payload) speaks = with_home o (put_out o (OnAir to route payload)).outer (departs_home o.air to Outward (Some route) payload (λ is. absurd cc) (home_of o speaks))
  puts_home o NoRoute speaks = record { frames = speaks.frames; nodes = speaks.nodes }
  puts_home o (AskInfo node) speaks = record { frames = speaks.frames; nodes = speaks.nodes }
  puts_home o Full speaks = speaks

  puts_all_home : (o : OuterState) (outs : List ChipOut) → Speaks o → Speaks (each put_out o outs).outer
  puts_all_home o [] speaks = speaks
  puts_all_home o (out ∷ outs) speaks = puts_all_home (put_out o out).outer outs (puts_home o out speaks)

  does_home : (o : OuterState) (event : ChipEvent) → Speaks o → Speaks (chip_does o event).outer
  unfolding chip_does
  does_home o event speaks = puts_all_home (with_chip o (after o.chip.state event)) (outs o.chip.state event) (record { frames = speaks.frames; nodes = speaks.nodes })

  abbrev Leaves : OuterState → Outcome → Type 0
  Leaves o x = Speaks o → Speaks x.outer

  same_home : (o p : OuterState) → IsSameChip o p → Speaks o → Speaks p
  same_home o p is speaks = with_home o p (subst Home (sym is.air) (home_of o speaks))

  results : ResultsGo Leaves
  results = record {
    still = λ o p is speaks. same_home o p is speaks;
    both = λ o first next one later speaks. later first.outer (one speaks);
    later = λ o p x is goes speaks. goes (same_home o p is speaks);
    does = λ o event given speaks. does_home o event speaks;
    forgotten = λ o a b speaks. record { frames = speaks.frames; nodes = speaks.nodes };
  }

  deals_home : (devices : List State) (o : OuterState) (event : AirEvent) → Leaves o (deals devices o event)
  deals_home devices o (air_event.ToChip frame from payload) speaks = to_chip_goes Leaves results o from payload speaks
  deals_home devices o (air_event.Done frame status dead) speaks = ends_go Leaves results o status dead speaks
  deals_home devices o (air_event.Heard frame) speaks = speaks
  deals_home devices o (air_event.Lost frame) speaks = speaks
  deals_home devices o (air_event.Unheard frame) speaks = speaks
  deals_home devices o (air_event.Sent frame from to route payload) speaks = speaks
  deals_home devices o (air_event.Changed node at) speaks = speaks

  begins_home : (o : OuterState) (node sessions : ℕ) → Speaks o → Speaks (record o { air = begins o.air node sessions })
  unfolding on_air
  begins_home o node sessions speaks = by (nat_le (peer_of o.air.frames node).begun sessions)
    where
      by : (b : Bool) → Speaks (record o { air = if b then beginning o.air node sessions else o.air })
      by true = record { frames = speaks.frames; nodes = speaks.nodes }
      by false = record { frames = speaks.frames; nodes = speaks.nodes }

  abbrev Same : Knowing
  Same awaits past w = Speaks w.outer

  comes : (w : Outside) (x : Outcome) (devices : List State) → Leaves w.outer x → Comes AsksNothing Same w x devices Same
  comes w x devices leaves awaits past told speaks = (nothing_asked past x.entries, leaves speaks)

  simple_home : (w : Outside) (event : OuterEvent) → IsSimple event → IsQuietEvent event → Leaves w.outer (outcome w event)
  unfolding outcome
  simple_home w (Host_writes unit) simple quiet speaks = record { frames = speaks.frames; nodes = speaks.nodes }
  simple_home w (Host_takes count) simple quiet speaks = record { frames = speaks.frames; nodes = speaks.nodes }
  simple_home w (Host_notes entry) simple quiet speaks = speaks
  simple_home w (Shows node) simple quiet speaks = speaks
  simple_home w (Cuts size) simple quiet speaks = record { frames = speaks.frames; nodes = speaks.nodes }
  simple_home w Begins_line simple quiet speaks = absurd simple
  simple_home w Begins_tick simple quiet speaks = absurd simple
  simple_home w (Host_begins node sessions) simple quiet speaks = absurd simple
  simple_home w (Chip_takes count rest ways) simple quiet speaks = absurd simple
  simple_home w (Arrives drawn route) simple quiet speaks = absurd simple
  simple_home w (Gives route) simple quiet speaks = absurd simple
  simple_home w (Device_ticks place drawn route) simple quiet speaks = absurd simple
  simple_home w Chip_ticks simple quiet speaks = absurd simple
  simple_home w (Wakes_device node route) simple quiet speaks = absurd simple
  simple_home w event simple quiet speaks = absurd quiet

  law : Outer AsksNothing (λ pending. Same) IsQuietEvent
  law = record {
    line = λ covers awaits past w speaks. record { frames = speaks.frames; nodes = speaks.nodes };
    tick = λ covers awaits past w speaks. (tt, record { frames = speaks.frames; nodes = speaks.nodes });
    number = λ past w speaks. record { frames = speaks.frames; nodes = speaks.nodes };
    stamps = λ awaits stamped past w speaks. record { frames = speaks.frames; nodes = speaks.nodes };
    simple = λ w event simple covers. comes w (outcome w event) w.devices (simple_home w event simple covers);
    session = λ w node session command. comes w (session_begins w.outer node session command) w.devices (begins_home w.outer node session);
    takes = λ w count rest ways may awaits past told speaks. (tt, record { frames = speaks.frames; nodes = speaks.nodes });
    judges = λ w way ways may. comes w (chip_does w.outer (Judged way.0 way.1)) w.devices (does_home w.outer (Judged way.0 way.1));
    judged = λ awaits past w speaks. record { frames = speaks.frames; nodes = speaks.nodes };
    ticks = λ w. comes w (chip_ticks w.outer) w.devices
        (λ speaks. does_home (record w.outer { chip = record { decoder = after_tick w.outer.chip.decoder; state = w.outer.chip.state } }) Ticked (record { frames = speaks.frames; nodes = speaks.nodes }));
    gives = λ w route may. comes w (gives w.outer w.devices w.outer.due route) w.devices (gives_go Leaves results w.outer w.devices w.outer.due route);
    steps = λ w step hearing may awaits past told speaks. (tt, with_home w.outer (record w.outer { air = (mesh_after (mesh_of w) step).air }) (steps_keep Home (IsMember joined) keeps (mesh_of w) step hearing (home_of w.outer speaks)));
    deals = λ w event events. comes w (deals w.devices w.outer event) w.devices (deals_home w.devices w.outer event);
    acts = λ w place device event route found may. comes w (acts w.outer device event route) (slice_set w.devices place (device_after device event))
        (λ speaks. with_home w.outer (acts w.outer device event route).outer (replied_if Home (IsMember joined) keeps (is_joined w.outer.air device.node) w.outer.air device.node (option_map backwards route) (device_replies device event) refl (home_of w.outer speaks)));
  }

  pub event_speaks : (m : Machine) (event : Event) → CoversOuter IsQuietEvent event → May m event → Speaks m.outside.outer → Speaks (happens m event).outside.outer
  event_speaks m event covers may speaks = (machine_keeps AsksNothing (λ pending. Same) IsQuietEvent law hosts m event covers may [] (speaks, nothing_asked [] _)).1.0

-- ---- what comes to the chip

-- where it is so of each frame of a device that arrives
module _ (Is : ℕ → List ℕ → Type 0) where
  abbrev HomeAs : Flown → Type 0
  HomeAs frame = frame.heading ≡ Homeward → Is frame.node frame.payload

  aside_from : (event : AirEvent) → IsAside event → IsFromAs Is event
  aside_from (air_event.ToChip frame from payload) aside = absurd aside
  aside_from (air_event.Done frame status dead) aside = tt
  aside_from (air_event.Heard frame) aside = tt
  aside_from (air_event.Lost frame) aside = tt
  aside_from (air_event.Unheard frame) aside = tt
  aside_from (air_event.Sent frame from to route payload) aside = tt
  aside_from (air_event.Changed node at) aside = tt

  all_from : (events : List AirEvent) → AllByRecursion IsAside events → AllByRecursion (IsFromAs Is) events
  all_from events aside = all-weaker IsAside (IsFromAs Is) aside_from events aside

  -- the chip hears frames of devices alone
  goes_home : (dead : Option (ℕ × ℕ)) (heading : Heading) (listener : Option ℕ) → fate_by dead heading listener ≡ AtChip → heading ≡ Homeward
  goes_home (Some hop) heading listener is = absurd cc
  goes_home None Homeward listener is = refl
  goes_home None Outward (Some place) is = absurd cc
  goes_home None Outward None is = absurd cc

  fate_home : (net : Network) (devices : List State) (frame : Flown) → fate_of net devices frame ≡ AtChip → frame.heading ≡ Homeward
  fate_home net devices frame is = by frame.lost is
    where
      by : (lost : Bool) → (if lost then Lost else fate_by (dead_hop_of net frame) frame.heading (listener_of frame.node devices)) ≡ AtChip → frame.heading ≡ Homeward
      by true same = absurd cc
      by false same = goes_home (dead_hop_of net frame) frame.heading (listener_of frame.node devices) same

  fate_from : (at : Mesh) (number : ℕ) (frame : Flown) (fate : Fate) (drawn : List ℕ) (route : Option Route) → fate_of at.air.network at.devices frame ≡ fate → HomeAs frame
      → AllByRecursion (IsFromAs Is) (arrival_outs_as at number frame fate drawn route)
  fate_from at number frame Lost drawn route is of = (tt, all_from _ (done_aside frame.heading number 1 None))
  fate_from at number frame (Dead from to) drawn route is of = (tt, all_from _ (done_aside frame.heading number 1 (Some (from, to))))
  fate_from at number frame Missed drawn route is of = (tt, all_from _ (done_aside frame.heading number 1 None))
  fate_from at number frame AtChip drawn route is of = (tt, (of (fate_home at.air.network at.devices frame is), tt))
  fate_from at number frame (AtDevice place) drawn route is of =
      let heard : Mesh = record at { air = landed (acknowledged at.air) } in
      let outs_are : List AirEvent = outs_at heard (slice_get at.devices place) number frame.node route (Hears frame.payload drawn) in
      all-append (IsFromAs Is) outs_are (air_event.Done number _ None ∷ []) (all_from outs_are (outs_aside heard (slice_get at.devices place) number frame.node route (Hears frame.payload drawn))) (tt, tt)

  pub arrival_of : (w : Outside) (drawn : List ℕ) (route : Option Route) → ((frame : Flown) → next_of w.outer.air.frames ≡ Some frame → HomeAs frame)
      → AllByRecursion (IsFromAs Is) (mesh_outs (mesh_of w) (mesh.Arrives drawn route))
  unfolding mesh_outs
  arrival_of w drawn route next_is = by (next_of w.outer.air.frames) refl
    where
      at : Mesh
      at = mesh_of w

      by : (frame : Option Flown) → next_of w.outer.air.frames ≡ frame → AllByRecursion (IsFromAs Is) (arrival_outs at frame drawn route)
      by None is = tt
      by (Some frame) is = fate_from at (at.air.frames.landed + 1) frame (fate_of at.air.network at.devices frame) drawn route refl (next_is frame is)

-- where the frames are of joined nodes
module _ (joined : List Bool) where
  next_of_member : (frames : FramesState) → IsSized frames → AllByRecursion (IsOfMember joined) (on_air frames) → (frame : Flown) → next_of frames ≡ Some frame → IsOfMember joined frame
  next_of_member frames sized all frame is = next_all (IsOfMember joined) frames frame sized is all

  pub arrival_from : (w : Outside) (drawn : List ℕ) (route : Option Route) → IsSized w.outer.air.frames → SpeaksHome joined w.outer → AllByRecursion (IsFromOf joined) (mesh_outs (mesh_of w) (mesh.Arrives drawn route))
  arrival_from w drawn route sized speaks = arrival_of (λ from payload. IsMember joined from) w drawn route (next_of_member w.outer.air.frames sized speaks.frames)
