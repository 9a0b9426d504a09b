-- What a frame that arrives brings: a report to the chip, and a message to a device, whose answer goes on the air.
use Rattle.std.proofs.Common.{◌≡◌, ◌≤◌, ◌<◌, ℕ, nat_lt, inl, inr, Bool, true, false, if◌then◌else◌, List, [], ◌∷◌, ◌++◌, length, refl, sym, ap, ◌∙◌, subst}
use Rattle.std.specs.Prelude.{◌⊎◌, ◌||◌, Option, Some, None, option_map, slice_get}
use Rattle.std.specs.Option.{is_none, unwrap_or}
use Rattle.serial_frame.specs.Frame.{FrameParts}
use Rattle.route_table.specs.declared.route.Route.{Route}
use Rattle.air_frames.specs.Flown.{Flown}
use Rattle.air_frames.specs.Frames.{next_of}
use Rattle.air_frames.specs.History.{Mark, Goes as goes_mark}
use Rattle.air_frames.specs.declared.frame.Departure.{Departure}
use Rattle.air_frames.specs.declared.frame.Heading.{Heading}
use Rattle.air_frames.specs.declared.frame.Heading.TheVariants.{Homeward}
use Rattle.device_sim.specs.Event.{Hears, Ticks, device_replies}
use Rattle.device_sim.specs.State.{State}
use Rattle.mesh_sim.specs.Air.{AirState, departing, is_joined, no_route}
use Rattle.mesh_sim.specs.Fates.{Mesh, fate_by, fate_of}
use Rattle.mesh_sim.specs.Routes.{backwards}
use Rattle.mesh_sim.specs.Steps.{acknowledged, answered, answered_if, arriving, arriving_as, heard_at, landed, mesh_after}
use Rattle.mesh_sim.specs.declared.fate.Fate.{Fate}
use Rattle.mesh_sim.specs.declared.fate.Fate.TheVariants.{AtChip, AtDevice, Lost}
use Rattle.outside_model.specs.State.{Outside}
use Rattle.outside_model.specs.Devices.{acts_at}
use Rattle.outside_model.specs.Events.{Arrives, Device_ticks, mesh_of, outcome, happens as happens_outside}
use Rattle.world_model.specs.Events.{Outside_does, happens}
use Rattle.world_model.specs.State.{Machine}
use Rattle.proof_answered.specs.proof_calm.proof_traffic.Flights.{Fly, flown_now}
use Rattle.proof_answered.specs.proof_calm.proof_traffic.OnAir.{on_air}
use Rattle.proof_answered.specs.proof_calm.Awaited.{Awaits}
use Rattle.proof_answered.specs.proof_calm.Live.{IsLive}
use Rattle.proof_answered.specs.proof_calm.Resting.{IsGiven}
use Rattle.proof_answered.specs.proof_calm.Tied.{unheard}
use Rattle.proof_answered.proofs.ChipNotices.{arrived_air, entered_leaves}
use Rattle.proof_answered.proofs.Brought.{home_comes}
use Rattle.proof_answered.proofs.Flights.{flights_are}
use Rattle.proof_answered.proofs.Judging.{AnyFrame}
use Rattle.proof_answered.proofs.proof_traffic_Parts.{Airs}
use Rattle.proof_answered.proofs.Unheard.{IsPiled, arrives_says}
use Rattle.proof_in_time.specs.Coming.{Has, IsReport, Stands, TellsEnd, brings}
use Rattle.proof_in_time.proofs.Grown.{Arrived}

-- ---- one of the frames that the chip has for the host

pub has_before : (x : FrameParts) (a b : List FrameParts) → Has x a → Has x (a ++ b)
has_before x [] b has = absurd has
has_before x (frame ∷ a) b (inl is) = inl is
has_before x (frame ∷ a) b (inr has) = inr (has_before x a b has)

pub has_last : (x : FrameParts) (a : List FrameParts) → Has x (a ++ x ∷ [])
has_last x [] = inl refl
has_last x (frame ∷ a) = inr (has_last x a)

pub has_either : (x : FrameParts) (a b : List FrameParts) → Has x (a ++ b) → Has x a ⊎ Has x b
has_either x [] b has = inr has
has_either x (frame ∷ a) b (inl is) = inl (inl is)
has_either x (frame ∷ a) b (inr has) = by (has_either x a b has)
  where
    by : Has x a ⊎ Has x b → Has x (frame ∷ a) ⊎ Has x b
    by (inl there) = inl (inr there)
    by (inr there) = inr there

pub has_piled : (x : FrameParts) → IsPiled AnyFrame (Has x)
has_piled x = record { first = λ frame frames is has. inr has; last = λ frames frame has is. has_before x frames (frame ∷ []) has }

-- ---- the chip is given something

module _ (x : FrameParts) where
  -- what it has stays there as a frame arrives
  pub arrives_has : (m : Machine) (drawn : List ℕ) (route : Option Route) → IsGiven 0 m → IsGiven 0 (happens m (Outside_does (Arrives drawn route))) → Has x (unheard m.outside.outer)
      → Has x (unheard (happens m (Outside_does (Arrives drawn route))).outside.outer)
  arrives_has m drawn route given later has = arrives_says AnyFrame (Has x) (has_piled x) (λ told. tt) (λ sent status. tt) m drawn route given later (λ frame next home. tt) has

-- ---- a report arrives

pub home_so : (lost : Bool) (dead : Option (ℕ × ℕ)) (heading : Heading) (listener : Option ℕ) → lost ≡ false → dead ≡ None → heading ≡ Homeward → (if lost then Lost else fate_by dead heading listener) ≡ AtChip
home_so lost dead heading listener kept live home = rw kept (rw live (rw home refl))

pub report_comes : (m : Machine) (drawn : List ℕ) (route : Option Route) (frame : Flown) → next_of m.outside.outer.air.frames ≡ Some frame → frame.heading ≡ Homeward → IsLive m.outside.outer.air.network frame → 1 ≤ length frame.payload
    → length frame.payload ≤ 46 → IsGiven 0 m → IsGiven 0 (happens m (Outside_does (Arrives drawn route))) → length m.outside.outer.chip.state.port.waiting ≤ 31
    → Has (brings frame.node frame.payload) (unheard (happens m (Outside_does (Arrives drawn route))).outside.outer)
report_comes m drawn route frame next home live some few given later room =
    let x : FrameParts = brings frame.node frame.payload in
    subst (Has x) (sym (home_comes m drawn route frame next home live some few given later room)) (has_last x (unheard m.outside.outer))

-- ---- a message arrives

pub replies_air : (w : Outside) (drawn : List ℕ) (route : Option Route) (frame : Flown) (place : ℕ) (device : State) → next_of w.outer.air.frames ≡ Some frame → fate_of w.outer.air.network w.devices frame ≡ AtDevice place
    → slice_get w.devices place ≡ Some device → is_joined w.outer.air frame.node ≡ true
    → (happens_outside w (Arrives drawn route)).outer.air ≡ answered (landed (acknowledged w.outer.air)) frame.node (option_map backwards route) (device_replies device (Hears frame.payload drawn))
unfolding mesh_after
replies_air w drawn route frame place device next fate there joined =
    let at : Mesh = mesh_of w in
    let a : AirState = landed (acknowledged w.outer.air) in
    arrived_air w drawn route ∙ (ap (λ (f : Option Flown). (arriving at f drawn route).air) next ∙ (ap (λ (x : Fate). (arriving_as at frame x drawn route).air) fate
    ∙ (ap (λ (d : Option State). (heard_at (record at { air = a }) place d frame.node route (Hears frame.payload drawn)).air) there
    ∙ ap (λ (b : Bool). answered_if b a frame.node (option_map backwards route) (device_replies device (Hears frame.payload drawn))) joined)))

reply_air : (w : Outside) (drawn : List ℕ) (route : Option Route) (frame : Flown) (place : ℕ) (device : State) (reply : List ℕ) → next_of w.outer.air.frames ≡ Some frame → fate_of w.outer.air.network w.devices frame ≡ AtDevice place
    → slice_get w.devices place ≡ Some device → is_joined w.outer.air frame.node ≡ true → device_replies device (Hears frame.payload drawn) ≡ reply ∷ []
    → (happens_outside w (Arrives drawn route)).outer.air ≡ departing (landed (acknowledged w.outer.air)) frame.node Homeward (option_map backwards route) reply
reply_air w drawn route frame place device reply next fate there joined replies =
    replies_air w drawn route frame place device next fate there joined ∙ ap (λ (rs : List (List ℕ)). answered (landed (acknowledged w.outer.air)) frame.node (option_map backwards route) rs) replies

-- a payload that a device sends is the last of the frames on the air
sent_stands : (airs : Airs) (log : List Mark) (flights : List Flown) (a later : AirState) (n : ℕ) (Is : Flown → Type 0) (way : Option Route) (reply : List ℕ) → n < 233 → Fly log flights a.frames → later ≡ departing a n Homeward way reply
    → ((frame : Flown) → frame.node ≡ n → frame.heading ≡ Homeward → frame.payload ≡ reply → Is frame) → Stands Is (on_air later.frames)
sent_stands airs log flights a later n Is way reply within fly air_is so =
    let d : Departure = record { node = n; heading = Homeward; route = unwrap_or way no_route; lost = nat_lt 0 a.losing || is_none way; payload = reply } in
    let flown : Fly (log ++ goes_mark d ∷ []) (flights ++ flown_now log d ∷ []) (departing a n Homeward way reply).frames = airs.goes log flights a.frames d within fly in
    record {
      before = flights;
      frame = flown_now log d;
      behind = [];
      are = ap (λ (air : AirState). on_air air.frames) air_is ∙ sym (flights_are (log ++ goes_mark d ∷ []) (flights ++ flown_now log d ∷ []) (departing a n Homeward way reply).frames flown);
      is = so (flown_now log d) refl refl refl;
    }

report_of_end : (n session : ℕ) (reply : List ℕ) → TellsEnd session reply → (frame : Flown) → frame.node ≡ n → frame.heading ≡ Homeward → frame.payload ≡ reply → IsReport n session frame
report_of_end n session reply tells frame node home same = record { node = node; home = home; tells = subst (TellsEnd session) (sym same) tells }

-- its answer to what it hears
pub reply_flies : (airs : Airs) (m : Machine) (is : Awaits m) (drawn : List ℕ) (route : Option Route) (at : Arrived airs m is drawn route) (Is : Flown → Type 0) (place : ℕ) (device : State) (reply : List ℕ)
    → fate_of m.outside.outer.air.network m.outside.devices at.frame ≡ AtDevice place → slice_get m.outside.devices place ≡ Some device → is_joined m.outside.outer.air at.frame.node ≡ true → at.frame.node < 233
    → device_replies device (Hears at.frame.payload drawn) ≡ reply ∷ [] → ((frame : Flown) → frame.node ≡ at.frame.node → frame.heading ≡ Homeward → frame.payload ≡ reply → Is frame)
    → Stands Is (on_air (happens m (Outside_does (Arrives drawn route))).outside.outer.air.frames)
unfolding happens
reply_flies airs m is drawn route at Is place device reply fate there joined within replies so =
    let a : AirState = landed (acknowledged m.outside.outer.air) in
    sent_stands airs is.log at.rest a (happens_outside m.outside (Arrives drawn route)).outer.air at.frame.node Is (option_map backwards route) reply within (airs.lands is.log at.frame at.rest m.outside.outer.air.frames at.fly_there)
    (reply_air m.outside drawn route at.frame place device reply at.next fate there joined replies) so

-- its answer to a message
pub answer_flies : (airs : Airs) (m : Machine) (is : Awaits m) (drawn : List ℕ) (route : Option Route) (at : Arrived airs m is drawn route) (session place : ℕ) (device : State) (reply : List ℕ)
    → fate_of m.outside.outer.air.network m.outside.devices at.frame ≡ AtDevice place → slice_get m.outside.devices place ≡ Some device → is_joined m.outside.outer.air at.frame.node ≡ true → at.frame.node < 233
    → device_replies device (Hears at.frame.payload drawn) ≡ reply ∷ [] → TellsEnd session reply
    → Stands (IsReport at.frame.node session) (on_air (happens m (Outside_does (Arrives drawn route))).outside.outer.air.frames)
answer_flies airs m is drawn route at session place device reply fate there joined within replies tells =
    reply_flies airs m is drawn route at (IsReport at.frame.node session) place device reply fate there joined within replies (report_of_end at.frame.node session reply tells)

-- the end of its work, as it ticks
tick_air : (w : Outside) (place : ℕ) (device : State) (drawn : List ℕ) (route : Option Route) (reply : List ℕ) → slice_get w.devices place ≡ Some device → is_joined w.outer.air device.node ≡ true → device_replies device (Ticks drawn) ≡ reply ∷ []
    → (happens_outside w (Device_ticks place drawn route)).outer.air ≡ departing w.outer.air device.node Homeward (option_map backwards route) reply
unfolding outcome
tick_air w place device drawn route reply there joined replies =
    (entered_leaves (outcome w (Device_ticks place drawn route)).outer (outcome w (Device_ticks place drawn route)).entries).air
    ∙ (ap (λ (found : Option State). (acts_at w.outer found (Ticks drawn) route).outer.air) there
    ∙ (ap (λ (b : Bool). answered_if b w.outer.air device.node (option_map backwards route) (device_replies device (Ticks drawn))) joined
    ∙ ap (λ (rs : List (List ℕ)). answered w.outer.air device.node (option_map backwards route) rs) replies))

pub tick_flies : (airs : Airs) (m : Machine) (is : Awaits m) (place : ℕ) (device : State) (drawn : List ℕ) (route : Option Route) (session : ℕ) (reply : List ℕ) → slice_get m.outside.devices place ≡ Some device
    → is_joined m.outside.outer.air device.node ≡ true → device.node < 233 → device_replies device (Ticks drawn) ≡ reply ∷ [] → TellsEnd session reply
    → Stands (IsReport device.node session) (on_air (happens m (Outside_does (Device_ticks place drawn route))).outside.outer.air.frames)
unfolding happens
tick_flies airs m is place device drawn route session reply there joined within replies tells =
    sent_stands airs is.log (on_air m.outside.outer.air.frames) m.outside.outer.air (happens_outside m.outside (Device_ticks place drawn route)).outer.air device.node (IsReport device.node session) (option_map backwards route) reply within is.follows.fly
    (tick_air m.outside place device drawn route reply there joined replies) (report_of_end device.node session reply tells)
