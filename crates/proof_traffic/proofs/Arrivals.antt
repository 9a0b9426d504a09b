-- The next frame on the air arrives.
use Rattle.std.proofs.Common.{◌≡◌, ℕ, zero, suc, ◌+◌, ◌-◌, ◌<◌, Bool, true, false, if◌then◌else◌, Option, Some, None, List, [], ◌∷◌, ◌++◌, length, refl, ap, sym, subst, ◌∙◌, arith, append-nil, append_assoc}
use Rattle.std.specs.Prelude.{◌&&◌, ◌||◌, nat_lt, nat_le, drop, slice_get, option_map}
use Rattle.std.specs.Option.{is_none, unwrap_or}
use Rattle.std.specs.List.{AllByRecursion}
use Rattle.chip_sim.specs.Events.{Heard as chip_hears}
use Rattle.route_table.specs.declared.route.Route.{Route}
use Rattle.proof_device.specs.device_sim.State.{State}
use Rattle.proof_device.specs.device_sim.Event.{DeviceEvent, Hears, device_after, device_replies}
use Rattle.air_frames.specs.declared.frame.Departure.{Departure}
use Rattle.air_frames.specs.declared.frame.Heading.{Heading}
use Rattle.air_frames.specs.declared.frame.Heading.TheVariants.{Outward, Homeward}
use Rattle.air_frames.specs.Flown.{Flown}
use Rattle.air_frames.specs.Frames.{FramesState, next_of, landing}
use Rattle.air_frames.specs.History.{Mark, Goes as goes_mark, Begins as begins_mark, GoBetweenNodes, stamped}
use Rattle.proof_traffic.specs.Flights.{Fly, flown_in, flown_now}
use Rattle.proof_device.specs.mesh_sim.declared.event.AirEvent.{AirEvent}
use Rattle.proof_device.specs.mesh_sim.declared.event.AirEvent.TheVariants.{Heard, Lost, Unheard, Sent, Changed, ToChip, Done}
use Rattle.proof_device.specs.mesh_sim.declared.fate.Fate.{Fate}
use Rattle.proof_device.specs.mesh_sim.declared.fate.Fate.TheVariants as fate
use Rattle.proof_device.specs.mesh_sim.Routes.{backwards}
use Rattle.proof_device.specs.mesh_sim.Air.{AirState, is_joined, no_route, departing}
use Rattle.proof_device.specs.mesh_sim.Fates.{Mesh, dead_hop_of, listener_of, fate_by, fate_of}
use Rattle.proof_device.specs.mesh_sim.Steps.{Arrives, landed, acknowledged, status_of, done_of, changed, answered, answers, answered_if, answers_if, air_hearing, outs_hearing, heard_at, outs_at, arriving_as, arrival_outs_as, mesh_after, mesh_outs, MayHappen}
use Rattle.proof_device.specs.outside_model.State.{OuterState, outside, each}
use Rattle.proof_device.specs.outside_model.Air.{to_chip, deals}
use Rattle.proof_device.specs.outside_model.Results.{frame_ends}
use Rattle.proof_device.specs.outside_model.Events.{mesh_of, steps}
use Rattle.proof_traffic.specs.Requests.{Word, Traffic}
use Rattle.proof_traffic.specs.Requests as course
use Rattle.proof_traffic.specs.Facts.{flying_in}
use Rattle.proof_traffic.specs.OutsideTraffic.{flags, one_outward, outward, Follows, Goes}
use Rattle.proof_traffic.proofs.Mild.{queued_mild, does_mild}
use Rattle.proof_traffic.proofs.JudgedItems.{Flying}
use Rattle.proof_traffic.proofs.Calls.{Half}
use Rattle.proof_traffic.proofs.Results.{frame_ends_go}

-- ---- what is told and changes nothing

abbrev pub IsTold : AirEvent → Type 0
IsTold (Heard frame) = Unit {0}
IsTold (Lost frame) = Unit {0}
IsTold (Unheard frame) = Unit {0}
IsTold (Sent frame from to route payload) = Unit {0}
IsTold (Changed node at) = Unit {0}
IsTold (ToChip frame from payload) = ⊥
IsTold (Done frame status dead) = ⊥

abbrev pub AreTold : List AirEvent → Type 0
AreTold events = AllByRecursion IsTold events

pub told-append : (a b : List AirEvent) → AreTold a → AreTold b → AreTold (a ++ b)
told-append [] b first later = later
told-append (event ∷ a) b first later = (first.0, told-append a b first.1 later)

pub told_one : (devices : List State) (o : OuterState) (event : AirEvent) → IsTold event → (deals devices o event).outer ≡ o
told_one devices o (Heard frame) told = refl
told_one devices o (Lost frame) told = refl
told_one devices o (Unheard frame) told = refl
told_one devices o (Sent frame from to route payload) told = refl
told_one devices o (Changed node at) told = refl
told_one devices o (ToChip frame from payload) told = absurd told
told_one devices o (Done frame status dead) told = absurd told

-- what is told before the rest leaves the rest as it is
pub told_then : (devices : List State) (o : OuterState) (events rest : List AirEvent) → AreTold events → (each (deals devices) o (events ++ rest)).outer ≡ (each (deals devices) o rest).outer
told_then devices o [] rest told = refl
told_then devices o (event ∷ events) rest told =
    ap (λ (p : OuterState). (each (deals devices) p (events ++ rest)).outer) (told_one devices o event told.0) ∙ told_then devices o events rest told.1

pub changed_told : (node first count : ℕ) → AreTold (changed node first count)
changed_told node first zero = tt
changed_told node first (suc more) = (tt, changed_told node (first + 1) more)

answers_told : (air : AirState) (node : ℕ) (way : Option Route) (replies : List (List ℕ)) → AreTold (answers air node way replies)
answers_told air node way [] = tt
answers_told air node way (reply ∷ replies) = (tt, answers_told (departing air node Homeward way reply) node way replies)

pub answers_if_told : (joined : Bool) (air : AirState) (node : ℕ) (way : Option Route) (replies : List (List ℕ)) → AreTold (answers_if joined air node way replies)
answers_if_told true air node way replies = answers_told air node way replies
answers_if_told false air node way replies = tt

-- ---- frames of devices go on the air

pub outward-append : (a b : List Flown) → outward (a ++ b) ≡ outward a + outward b
outward-append [] b = omega arith
outward-append (flight ∷ a) b = let later : outward (a ++ b) ≡ outward a + outward b = outward-append a b in omega arith

-- after these
pub record Homes (log : List Mark) (flights : List Flown) (frames : FramesState) : Type 0 where
  pub more : List Mark
  pub home : List Flown
  pub fly : Fly (log ++ more) (flights ++ home) frames
  pub none_outward : outward home ≡ 0

pub none_home : (log : List Mark) (flights : List Flown) (frames : FramesState) → Fly log flights frames → Homes log flights frames
none_home log flights frames fly = record {
  more = [];
  home = [];
  fly = subst (λ (l : List Mark). Fly l (flights ++ []) frames) (sym (append-nil log)) (subst (λ (fs : List Flown). Fly log fs frames) (sym (append-nil flights)) fly);
  none_outward = refl;
}

pub answered_homes : (flying : Flying) (log : List Mark) (flights : List Flown) (air : AirState) (node : ℕ) (way : Option Route) (replies : List (List ℕ)) → node < 233 → Fly log flights air.frames
    → Homes log flights (answered air node way replies).frames
answered_homes flying log flights air node way [] within fly = none_home log flights air.frames fly
answered_homes flying log flights air node way (reply ∷ replies) within fly =
    let d : Departure = record { node = node; heading = Homeward; route = unwrap_or way no_route; lost = nat_lt 0 air.losing || is_none way; payload = reply } in
    let next : AirState = departing air node Homeward way reply in
    let flown : Fly (log ++ goes_mark d ∷ []) (flights ++ flown_now log d ∷ []) next.frames = flying log flights air.frames d within fly in
    let later : Homes (log ++ goes_mark d ∷ []) (flights ++ flown_now log d ∷ []) (answered next node way replies).frames =
    answered_homes flying (log ++ goes_mark d ∷ []) (flights ++ flown_now log d ∷ []) next node way replies within flown in
    record {
      more = goes_mark d ∷ later.more;
      home = flown_now log d ∷ later.home;
      fly = subst (λ (l : List Mark). Fly l (flights ++ (flown_now log d ∷ later.home)) (answered next node way replies).frames) (append_assoc log (goes_mark d ∷ []) later.more)
          (subst (λ (fs : List Flown). Fly ((log ++ goes_mark d ∷ []) ++ later.more) fs (answered next node way replies).frames) (append_assoc flights (flown_now log d ∷ []) later.home) later.fly);
      none_outward = none_more (outward later.home) later.none_outward;
    }
  where
    none_more : (n : ℕ) → n ≡ 0 → 0 + n ≡ 0
    none_more n e = omega arith

pub answered_if_homes : (flying : Flying) (log : List Mark) (flights : List Flown) (joined : Bool) (air : AirState) (node : ℕ) (way : Option Route) (replies : List (List ℕ)) → node < 233
    → Fly log flights air.frames → Homes log flights (answered_if joined air node way replies).frames
answered_if_homes flying log flights true air node way replies within fly = answered_homes flying log flights air node way replies within fly
answered_if_homes flying log flights false air node way replies within fly = none_home log flights air.frames fly

-- ---- each frame is of a node that has a place

pub within_all : (before log : List Mark) → GoBetweenNodes log → AllByRecursion (λ (f : Flown). f.node < 233) (stamped before log)
within_all before [] nodes = tt
within_all before (goes_mark d ∷ log) nodes = (nodes.0, within_all (before ++ goes_mark d ∷ []) log nodes.1)
within_all before (begins_mark node ∷ log) nodes = within_all (before ++ begins_mark node ∷ []) log nodes

pub all_dropped : (n : ℕ) (fs : List Flown) → AllByRecursion (λ (f : Flown). f.node < 233) fs → AllByRecursion (λ (f : Flown). f.node < 233) (drop n fs)
all_dropped zero fs all = all
all_dropped (suc n) [] all = tt
all_dropped (suc n) (f ∷ fs) all = all_dropped n fs all.1

pub flight_within : (log : List Mark) (flight : Flown) (later : List Flown) (frames : FramesState) → Fly log (flight ∷ later) frames → flight.node < 233
flight_within log flight later frames fly =
    (subst (λ (fs : List Flown). AllByRecursion (λ (f : Flown). f.node < 233) fs) (sym fly.are) (all_dropped frames.landed (flown_in log) (within_all [] log fly.history.nodes))).0

-- ---- one arrival

-- a history that goes on in two parts
pub goes_later : (t : Traffic) (log more : List Mark) (flights later : List Flown) (p : OuterState) (up : List Word) → Goes t (log ++ more) later p up → Goes t log flights p up
goes_later t log more flights later p up g = record {
  steps = g.steps;
  may = g.may;
  more = more ++ g.more;
  now = g.now;
  follows = subst (λ (l : List Mark). Follows (course.after_all t g.steps) l g.now p) (append_assoc log more g.more) g.follows;
  up_is = g.up_is;
  host = g.host;
}

-- the course is where it was
pub goes_nowhere : (t : Traffic) (log : List Mark) (flights : List Flown) (p : OuterState) → Follows t log flights p → Goes t log flights p t.up
goes_nowhere t log flights p f = record {
  steps = [];
  may = tt;
  more = [];
  now = flights;
  follows = subst (λ (l : List Mark). Follows t l flights p) (sym (append-nil log)) f;
  up_is = refl;
  host = record { link = refl; pending = refl; owes = refl };
}

-- a payload comes to the chip
pub heard_by_chip : (t : Traffic) (log : List Mark) (later : List Flown) (p : OuterState) (from : ℕ) (payload : List ℕ) → Follows t log later p → Follows t log later (to_chip p from payload).outer
heard_by_chip t log later p from payload g = by (nat_le 1 (length payload) && nat_le (length payload) 46) refl
  where
    by : (b : Bool) → (nat_le 1 (length payload) && nat_le (length payload) 46) ≡ b → Follows t log later (to_chip p from payload).outer
    by true e = rw e (does_mild t log later p (chip_hears from payload) (record { aborted = refl; sending = refl; joined = refl }) (queued_mild p.chip.state.port _) g)
    by false e = rw e g

-- how a frame lands
abbrev pub Landing : Type 0
Landing = (log : List Mark) (flight : Flown) (later : List Flown) (frames : FramesState) → Fly log (flight ∷ later) frames → Fly log later (landing frames)

abbrev pub Nexting : Type 0
Nexting = (log : List Mark) (flight : Flown) (later : List Flown) (frames : FramesState) → Fly log (flight ∷ later) frames → next_of frames ≡ Some flight

abbrev pub NoNexting : Type 0
NoNexting = (log : List Mark) (frames : FramesState) → Fly log [] frames → next_of frames ≡ None

module _ (flying : Flying) (lands : Landing) (t : Traffic) (log : List Mark) (flight : Flown) (later : List Flown) (o : OuterState) (devices : List State) (f : Follows t log (flight ∷ later) o) where
  -- with another air
  abbrev airing : AirState → OuterState
  airing air = record o { air = air }

  half_airing : (u : List Mark) (fs : List Flown) (air : AirState) → Fly u fs air.frames → Half t u fs (airing air)
  half_airing u fs air fly = record { knows = record { aborted = f.knows.aborted; sending = f.knows.sending; calls = f.knows.calls }; fly = fly; joined = f.joined }

  landed_fly : Fly log later (landing o.air.frames)
  landed_fly = lands log flight later o.air.frames f.fly

  -- a frame of the host came to its end, and these of devices went on the air meanwhile
  outward_ends : (dv : List State) (air : AirState) (number status : ℕ) (dead : Option (ℕ × ℕ)) (h : Homes log later air.frames) → flight.heading ≡ Outward
      → Goes t log (flight ∷ later) (each (deals dv) (airing air) (Done number status dead ∷ [])).outer t.up
  outward_ends dv air number status dead h out =
      let count : 1 + outward (later ++ h.home) ≡ flying_in (flags o.calls) =
      all_out (outward (later ++ h.home)) (outward later) (outward h.home) (flying_in (flags o.calls)) (outward-append later h.home) h.none_outward (ap (λ (x : Heading). one_outward x + outward later) (sym out) ∙ f.await.frames) in
      goes_later t log h.more (flight ∷ later) (later ++ h.home) (frame_ends (airing air) status dead).outer t.up
      (frame_ends_go t (log ++ h.more) (later ++ h.home) (airing air) status dead (half_airing (log ++ h.more) (later ++ h.home) air h.fly) count f.await.results)
    where
      all_out : (all a b c : ℕ) → all ≡ a + b → b ≡ 0 → 1 + a ≡ c → 1 + all ≡ c
      all_out all a b c x y z = omega arith

  -- a frame of a device is on the air no longer
  homeward_follows : (air : AirState) → air.frames ≡ landing o.air.frames → flight.heading ≡ Homeward → Follows t log later (airing air)
  homeward_follows air is home = record {
    knows = record { aborted = f.knows.aborted; sending = f.knows.sending; calls = f.knows.calls };
    await = record { frames = none_less (outward later) (flying_in (flags o.calls)) (ap (λ (x : Heading). one_outward x + outward later) (sym home) ∙ f.await.frames); results = f.await.results };
    fly = subst (λ (fs : FramesState). Fly log later fs) (sym is) landed_fly;
    joined = f.joined;
  }
    where
      none_less : (a c : ℕ) → 0 + a ≡ c → a ≡ c
      none_less a c e = omega arith

  landed_homes : (air : AirState) → air.frames ≡ landing o.air.frames → Homes log later air.frames
  landed_homes air is = none_home log later air.frames (subst (λ (fs : FramesState). Fly log later fs) (sym is) landed_fly)

  -- a frame came to its end, of whichever end it is
  ends_by : (dv : List State) (air : AirState) (told : AirEvent) (number status : ℕ) (dead : Option (ℕ × ℕ)) (heading : Heading) → flight.heading ≡ heading → air.frames ≡ landing o.air.frames → IsTold told
      → Goes t log (flight ∷ later) (each (deals dv) (airing air) (told ∷ done_of heading number status dead)).outer t.up
  ends_by dv air told number status dead Outward out is said =
      subst (λ (p : OuterState). Goes t log (flight ∷ later) p t.up) (sym (told_then dv (airing air) (told ∷ []) (Done number status dead ∷ []) (said, tt)))
      (outward_ends dv air number status dead (landed_homes air is) out)
  ends_by dv air told number status dead Homeward home is said =
      subst (λ (p : OuterState). Goes t log (flight ∷ later) p t.up) (sym (told_one dv (airing air) told said))
      (goes_later t log [] (flight ∷ later) later (airing air) t.up
      (subst (λ (l : List Mark). Goes t l later (airing air) t.up) (sym (append-nil log)) (goes_nowhere t log later (airing air) (homeward_follows air is home))))

  -- what a frame becomes tells whose it is
  at_chip_home : (lost : Bool) (dead : Option (ℕ × ℕ)) (heading : Heading) (listener : Option ℕ) → (if lost then fate.Lost else fate_by dead heading listener) ≡ fate.AtChip → heading ≡ Homeward
  at_chip_home true dead heading listener e = absurd (grind (arith, e))
  at_chip_home false (Some hop) heading listener e = absurd (grind (arith, e))
  at_chip_home false None Homeward listener e = refl
  at_chip_home false None Outward (Some place) e = absurd (grind (arith, e))
  at_chip_home false None Outward None e = absurd (grind (arith, e))

  at_device_out : (lost : Bool) (dead : Option (ℕ × ℕ)) (heading : Heading) (listener : Option ℕ) (place : ℕ) → (if lost then fate.Lost else fate_by dead heading listener) ≡ fate.AtDevice place → heading ≡ Outward
  at_device_out true dead heading listener place e = absurd (grind (arith, e))
  at_device_out false (Some hop) heading listener place e = absurd (grind (arith, e))
  at_device_out false None Homeward listener place e = absurd (grind (arith, e))
  at_device_out false None Outward listener place e = refl

  -- the air and the devices before
  abbrev mesh : Mesh
  mesh = record { air = o.air; devices = devices }

  -- a device hears it
  device_hears : (number place : ℕ) (device : Option State) (drawn : List ℕ) (route : Option Route) → flight.heading ≡ Outward
      → let before : Mesh = record { air = landed (acknowledged o.air); devices = devices } in
      Goes t log (flight ∷ later)
      (each (deals (heard_at before place device flight.node route (Hears flight.payload drawn)).devices) (airing (heard_at before place device flight.node route (Hears flight.payload drawn)).air)
      (outs_at before device number flight.node route (Hears flight.payload drawn) ++ Done number (status_of o.air) None ∷ [])).outer t.up
  device_hears number place None drawn route out = outward_ends devices (landed (acknowledged o.air)) number (status_of o.air) None (landed_homes (landed (acknowledged o.air)) refl) out
  device_hears number place (Some device) drawn route out =
      let before : Mesh = record { air = landed (acknowledged o.air); devices = devices } in
      let event : DeviceEvent = Hears flight.payload drawn in
      let replies : List (List ℕ) = device_replies device event in
      let air : AirState = air_hearing before.air flight.node route device event in
      let dv : List State = (heard_at before place (Some device) flight.node route event).devices in
      let homes : Homes log later air.frames =
      answered_if_homes flying log later (is_joined before.air flight.node) before.air flight.node (option_map backwards route) replies (flight_within log flight later o.air.frames f.fly) landed_fly in
      let told : AreTold (outs_hearing before.air number flight.node route device event) = (
        tt,
        told-append (changed flight.node (length device.journal) (length (device_after device event).journal - length device.journal))
            (answers_if (is_joined before.air flight.node) before.air flight.node (option_map backwards route) replies)
            (changed_told flight.node (length device.journal) (length (device_after device event).journal - length device.journal))
            (answers_if_told (is_joined before.air flight.node) before.air flight.node (option_map backwards route) replies),
      ) in
      subst (λ (p : OuterState). Goes t log (flight ∷ later) p t.up)
      (sym (told_then dv (airing air) (outs_hearing before.air number flight.node route device event) (Done number (status_of o.air) None ∷ []) told))
      (outward_ends dv air number (status_of o.air) None homes out)

  -- by what becomes of the frame
  by_fate : (number : ℕ) (x : Fate) (drawn : List ℕ) (route : Option Route) → fate_of o.air.network devices flight ≡ x
      → Goes t log (flight ∷ later) (each (deals (arriving_as mesh flight x drawn route).devices) (airing (arriving_as mesh flight x drawn route).air) (arrival_outs_as mesh number flight x drawn route)).outer t.up
  by_fate number fate.Lost drawn route is = ends_by devices (landed o.air) (Lost number) number 1 None flight.heading refl refl tt
  by_fate number (fate.Dead from to) drawn route is = ends_by devices (landed o.air) (Unheard number) number 1 (Some (from, to)) flight.heading refl refl tt
  by_fate number fate.Missed drawn route is = ends_by devices (landed o.air) (Unheard number) number 1 None flight.heading refl refl tt
  by_fate number fate.AtChip drawn route is =
      let home : flight.heading ≡ Homeward = at_chip_home flight.lost (dead_hop_of o.air.network flight) flight.heading (listener_of flight.node devices) is in
      let g : Follows t log later (to_chip (airing (landed o.air)) flight.node flight.payload).outer = heard_by_chip t log later (airing (landed o.air)) flight.node flight.payload (homeward_follows (landed o.air) refl home) in
      goes_later t log [] (flight ∷ later) later (to_chip (airing (landed o.air)) flight.node flight.payload).outer t.up
      (subst (λ (l : List Mark). Goes t l later (to_chip (airing (landed o.air)) flight.node flight.payload).outer t.up) (sym (append-nil log))
      (goes_nowhere t log later (to_chip (airing (landed o.air)) flight.node flight.payload).outer g))
  by_fate number (fate.AtDevice place) drawn route is =
      device_hears number place (slice_get devices place) drawn route (at_device_out flight.lost (dead_hop_of o.air.network flight) flight.heading (listener_of flight.node devices) place is)

-- the next frame arrives
pub arrives_go : Flying → Landing → Nexting → NoNexting → (t : Traffic) (log : List Mark) (flights : List Flown) (o : OuterState) (devices : List State) (drawn : List ℕ) (route : Option Route)
    → Follows t log flights o → MayHappen (mesh_of (outside o devices)) (Arrives drawn route) → Goes t log flights (steps (outside o devices) (Arrives drawn route)).outer t.up
unfolding MayHappen mesh_after mesh_outs
arrives_go flying lands next none t log [] o devices drawn route f may = absurd (rw (none log o.air.frames f.fly) at may.0)
arrives_go flying lands next none t log (flight ∷ later) o devices drawn route f may =
    rw (next log flight later o.air.frames f.fly) (by_fate flying lands t log flight later o devices f (o.air.frames.landed + 1) (fate_of o.air.network devices flight) drawn route refl)
