-- What a device says as it hears a frame goes on the air in its order, behind what is there; what comes from a device only leaves it; and what the chip is told then is behind what it has for the host.
use Rattle.std.proofs.Common.{◌≡◌, ◌<◌, ℕ, ◌+◌, ◌-◌, ◌==◌, ◌&&◌, nat_le, nat_lt, Bool, true, false, if◌then◌else◌, List, [], ◌∷◌, ◌++◌, length, refl, sym, ap, ◌∙◌, subst, append_assoc}
use Rattle.std.proofs.lemmas.List.{append-nil}
use Rattle.std.specs.Prelude.{◌||◌, Option, Some, None, option_map, slice_get}
use Rattle.std.specs.Option.{is_none, unwrap_or}
use Rattle.std.specs.List.{AllByRecursion}
use Rattle.zw_base.proofs.Each.{all-append}
use Rattle.serial_frame.specs.Frame.{FrameParts}
use Rattle.serial_link.specs.declared.turn.Turn.{Turn}
use Rattle.serial_link.specs.declared.turn.Turn.TheVariants.{Copied, Idle, Paused}
use Rattle.route_table.specs.declared.route.Route.{Route}
use Rattle.chip_functions.specs.declared.notice.Notice.TheVariants.{ApplicationUpdate}
use Rattle.chip_functions.specs.declared.notice.TransmitStatus.{TransmitStatus}
use Rattle.chip_functions.specs.declared.notice.Update.{Update}
use Rattle.chip_sim.specs.Answers.{notice_frame}
use Rattle.chip_sim.specs.Events.{ChipEvent, Done, Heard as chip_hears, Informed, after as after_chip, ended, update_of}
use Rattle.chip_sim.specs.Requests.{callback_frame}
use Rattle.chip_sim.specs.State.{ChipState}
use Rattle.chip_sim.specs.Waiting.{PortState, is_full, queued, queued_at}
use Rattle.chip_sim.specs.declared.out.Sending.{Sending}
use Rattle.air_frames.specs.Flown.{Flown}
use Rattle.air_frames.specs.Frames.{next_of}
use Rattle.air_frames.specs.History.{Mark, Goes as goes_mark}
use Rattle.air_frames.specs.declared.frame.Departure.{Departure}
use Rattle.air_frames.specs.declared.frame.Heading.TheVariants.{Homeward}
use Rattle.device_sim.specs.Event.{DeviceEvent, Hears, device_after, device_replies}
use Rattle.device_sim.specs.State.{State}
use Rattle.mesh_sim.specs.Air.{AirState, departing, is_joined, no_route}
use Rattle.mesh_sim.specs.Fates.{Mesh, dead_hop_of, fate_of, listener_of}
use Rattle.mesh_sim.specs.Routes.{backwards}
use Rattle.mesh_sim.specs.Steps.{acknowledged, answered, answers_if, arrival_outs, arrival_outs_as, arriving, arriving_as, changed, landed, mesh_after, mesh_outs, outs_at, outs_hearing, status_of}
use Rattle.mesh_sim.specs.Steps as mesh
use Rattle.mesh_sim.specs.declared.event.AirEvent.TheVariants as air_event
use Rattle.mesh_sim.specs.declared.fate.Fate.{Fate}
use Rattle.mesh_sim.specs.declared.fate.Fate.TheVariants.{AtDevice}
use Rattle.outside_model.specs.Air.{deals, to_chip}
use Rattle.outside_model.specs.Chip.{chip_does}
use Rattle.outside_model.specs.Results.{frame_ends}
use Rattle.outside_model.specs.State.{OuterState, Outcome, Outside, each, silent}
use Rattle.outside_model.specs.Events.{Arrives, mesh_of, outcome, happens as happens_outside}
use Rattle.world_model.specs.Events.{Outside_does, happens}
use Rattle.world_model.specs.State.{Machine}
use Rattle.proof_answered.specs.proof_calm.proof_traffic.Flights.{Fly, flown_now}
use Rattle.proof_answered.specs.proof_calm.proof_traffic.OnAir.{on_air}
use Rattle.proof_answered.specs.proof_calm.Awaited.{Awaits}
use Rattle.proof_answered.specs.proof_calm.Live.{IsLive}
use Rattle.proof_answered.specs.proof_calm.Resting.{IsGiven}
use Rattle.proof_answered.specs.proof_calm.Tied.{unheard}
use Rattle.proof_answered.proofs.Arrivals.{AreTold, answers_if_told, changed_told, told-append, told_then}
use Rattle.proof_answered.proofs.ChipNotices.{arrived_air}
use Rattle.proof_answered.proofs.Flights.{flights_are}
use Rattle.proof_answered.proofs.Pending.{IsServed, has_served, has_unheard, line_more, line_of, queued_served}
use Rattle.proof_answered.proofs.Results.{Calls, IsResult, end_goes}
use Rattle.proof_answered.proofs.Times.{does_chip}
use Rattle.proof_answered.proofs.proof_traffic_Parts.{Airs}
use Rattle.proof_answered.proofs.Unheard.{chip_is}
use Rattle.proof_in_time.specs.Coming.{brings}
use Rattle.proof_in_time.proofs.Grown.{Arrived}
use Rattle.proof_in_time.proofs.Landed.{replies_air}
use Rattle.proof_in_time.proofs.Landed.{home_so}

-- ---- what a device says

-- these frames of it say these payloads, one each
abbrev pub SaidBy : ℕ → List (List ℕ) → List Flown → Type 0
SaidBy n [] [] = Unit {0}
SaidBy n [] (frame ∷ frames) = ⊥
SaidBy n (reply ∷ replies) [] = ⊥
SaidBy n (reply ∷ replies) (frame ∷ frames) = ((frame.node ≡ n) × ((frame.heading ≡ Homeward) × (frame.payload ≡ reply))) × SaidBy n replies frames

-- so the frames on the air are these, and behind them what it says
pub record Says (n : ℕ) (replies : List (List ℕ)) (flights later : List Flown) : Type 0 where
  pub news : List Flown
  pub are : later ≡ flights ++ news
  pub said : SaidBy n replies news

pub answers_stand : (airs : Airs) (log : List Mark) (flights : List Flown) (a : AirState) (n : ℕ) (way : Option Route) (replies : List (List ℕ)) → n < 233 → Fly log flights a.frames → Says n replies flights (on_air (answered a n way replies).frames)
answers_stand airs log flights a n way [] within fly = record { news = []; are = sym (flights_are log flights a.frames fly) ∙ sym (append-nil flights); said = tt }
answers_stand airs log flights a n way (reply ∷ replies) within fly =
    let d : Departure = record { node = n; heading = Homeward; route = unwrap_or way no_route; lost = nat_lt 0 a.losing || is_none way; payload = reply } in
    let flown : Fly (log ++ goes_mark d ∷ []) (flights ++ flown_now log d ∷ []) (departing a n Homeward way reply).frames = airs.goes log flights a.frames d within fly in
    let rest = answers_stand airs (log ++ goes_mark d ∷ []) (flights ++ flown_now log d ∷ []) (departing a n Homeward way reply) n way replies within flown in
    record { news = flown_now log d ∷ rest.news; are = rest.are ∙ append_assoc flights (flown_now log d ∷ []) rest.news; said = ((refl, (refl, refl)), rest.said) }

module _ (airs : Airs) (m : Machine) (is : Awaits m) (drawn : List ℕ) (route : Option Route) (at : Arrived airs m is drawn route) where
  abbrev then_there : Machine
  then_there = happens m (Outside_does (Arrives drawn route))

  pub part_flies : (place : ℕ) (device : State) → fate_of m.outside.outer.air.network m.outside.devices at.frame ≡ AtDevice place → slice_get m.outside.devices place ≡ Some device → is_joined m.outside.outer.air at.frame.node ≡ true
      → at.frame.node < 233 → Says at.frame.node (device_replies device (Hears at.frame.payload drawn)) at.rest (on_air then_there.outside.outer.air.frames)
  unfolding happens
  part_flies place device fate there joined within =
      let a : AirState = landed (acknowledged m.outside.outer.air) in
      subst (λ (air : AirState). Says at.frame.node (device_replies device (Hears at.frame.payload drawn)) at.rest (on_air air.frames)) (sym (replies_air m.outside drawn route at.frame place device at.next fate there joined))
      (answers_stand airs is.log at.rest a at.frame.node (option_map backwards route) (device_replies device (Hears at.frame.payload drawn)) within
      (airs.lands is.log at.frame at.rest m.outside.outer.air.frames at.fly_there))

  -- a frame of a device leaves the air, and no other comes
  home_air : at.frame.heading ≡ Homeward → IsLive m.outside.outer.air.network at.frame → (happens_outside m.outside (Arrives drawn route)).outer.air ≡ landed m.outside.outer.air
  unfolding mesh_after
  home_air home live =
      arrived_air m.outside drawn route ∙ (ap (λ (f : Option Flown). (arriving (mesh_of m.outside) f drawn route).air) at.next
      ∙ ap (λ (x : Fate). (arriving_as (mesh_of m.outside) at.frame x drawn route).air)
      (home_so at.frame.lost (dead_hop_of m.outside.outer.air.network at.frame) at.frame.heading (listener_of at.frame.node m.outside.devices) live.0 live.1 home))

  pub home_leaves : at.frame.heading ≡ Homeward → IsLive m.outside.outer.air.network at.frame → on_air then_there.outside.outer.air.frames ≡ at.rest
  unfolding happens
  home_leaves home live =
      ap (λ (air : AirState). on_air air.frames) (home_air home live)
      ∙ sym (flights_are is.log at.rest (landed m.outside.outer.air).frames (airs.lands is.log at.frame at.rest m.outside.outer.air.frames at.fly_there))

-- ---- what the chip is given behind what it has for the host

-- frames of which something is so
pub record More (Is : FrameParts → Type 0) (old new : List FrameParts) : Type 0 where
  pub more : List FrameParts
  pub are : new ≡ old ++ more
  pub each : AllByRecursion Is more

none_more : (Is : FrameParts → Type 0) (old new : List FrameParts) → new ≡ old → More Is old new
none_more Is old new same = record { more = []; are = same ∙ sym (append-nil old); each = tt }

both_more : (Is : FrameParts → Type 0) (a b c : List FrameParts) → More Is a b → More Is b c → More Is a c
both_more Is a b c first later = record {
  more = first.more ++ later.more;
  are = later.are ∙ (ap (λ (frames : List FrameParts). frames ++ later.more) first.are ∙ append_assoc a first.more later.more);
  each = all-append Is first.more later.more first.each later.each;
}

module _ (Is : FrameParts → Type 0) where
  queued_more : (port : PortState) (frame : FrameParts) → IsServed port → Is frame → More Is (line_of port) (line_of (queued_at port.side.turn port frame))
  queued_more port frame served is = by (is_full port.waiting) refl
    where
      dropped : (u : Turn) → port.side.turn ≡ u → is_full port.waiting ≡ true → line_of (queued_at u port frame) ≡ line_of port
      dropped Idle idle full = absurd (let wrong : true ≡ false = sym full ∙ ap is_full (served idle) in cc)
      dropped (Copied g copies ticks) on full = ap (λ (b : Bool). line_of (if b then port else record { side = port.side; waiting = port.waiting ++ frame ∷ [] })) full
      dropped (Paused g copies ticks) on full = ap (λ (b : Bool). line_of (if b then port else record { side = port.side; waiting = port.waiting ++ frame ∷ [] })) full

      by : (b : Bool) → is_full port.waiting ≡ b → More Is (line_of port) (line_of (queued_at port.side.turn port frame))
      by true full = none_more Is (line_of port) (line_of (queued_at port.side.turn port frame)) (dropped port.side.turn refl full)
      by false room = record { more = frame ∷ []; are = line_more port frame served room; each = (is, tt) }

  -- from a port that is served to one that is
  pub record Piles (old new : PortState) : Type 0 where
    pub more : More Is (line_of old) (line_of new)
    pub served : IsServed new

  same_piles : (old new : PortState) → new ≡ old → IsServed old → Piles old new
  same_piles old new same served = record { more = none_more Is (line_of old) (line_of new) (ap line_of same); served = subst IsServed (sym same) served }

  given_piles : (port : PortState) (frame : FrameParts) → IsServed port → Is frame → Piles port (queued port frame)
  given_piles port frame served is = record { more = queued_more port frame served is; served = queued_served port frame }

  both_pile : (a b c : PortState) → Piles a b → Piles b c → Piles a c
  both_pile a b c first later = record { more = both_more Is (line_of a) (line_of b) (line_of c) first.more later.more; served = later.served }

  -- the chip is given updates, calls, and what the frame brings
  module _ (update : (told : Update) → Is (notice_frame (ApplicationUpdate told))) (call : (sent : Sending) (status : TransmitStatus) → Is (callback_frame sent status)) where
    ended_piles : (s : ChipState) (sending : Option Sending) (status : TransmitStatus) → IsServed s.port → Piles s.port (ended sending s status).port
    ended_piles s None status served = same_piles s.port s.port refl served
    ended_piles s (Some sent) status served = given_piles s.port (callback_frame sent status) served (call sent status)

    result_piles : (s : ChipState) (event : ChipEvent) → IsResult event → IsServed s.port → Piles s.port (after_chip s event).port
    result_piles s (Informed n profile) result served = given_piles s.port _ served (update (update_of n profile))
    result_piles s (Done status) result served = by (s.aborted == 0)
      where
        by : (b : Bool) → Piles s.port (if b then ended s.sending s status else record s { aborted = s.aborted - 1 }).port
        by true = ended_piles s s.sending status served
        by false = same_piles s.port s.port refl served
    result_piles s event result served = absurd result

    abbrev Leaves : OuterState → Outcome → Type 0
    Leaves o x = IsServed o.chip.state.port → Piles o.chip.state.port x.outer.chip.state.port

    calls : Calls Leaves
    calls = record {
      still = λ o p is served. same_piles o.chip.state.port p.chip.state.port (ap (λ (s : ChipState). s.port) is.chip) served;
      both = λ o first next one later served. let before = one served in both_pile o.chip.state.port first.outer.chip.state.port (next first.outer).outer.chip.state.port before (later first.outer before.served);
      later = λ o p x is goes served.
          let same : p.chip.state.port ≡ o.chip.state.port = ap (λ (s : ChipState). s.port) is.chip in
          subst (λ (port : PortState). Piles port x.outer.chip.state.port) same (goes (subst IsServed (sym same) served));
      result = λ o event is served. subst (λ (s : ChipState). Piles o.chip.state.port s.port) (sym (does_chip o event)) (result_piles o.chip.state event is served);
    }

    comes_pile : (o : OuterState) (from : ℕ) (payload : List ℕ) → Is (brings from payload) → Leaves o (to_chip o from payload)
    comes_pile o from payload is served = by (nat_le 1 (length payload) && nat_le (length payload) 46)
      where
        by : (b : Bool) → Piles o.chip.state.port (if b then chip_does o (chip_hears from payload) else silent o).outer.chip.state.port
        by true = subst (λ (s : ChipState). Piles o.chip.state.port s.port) (sym (does_chip o (chip_hears from payload))) (given_piles o.chip.state.port (brings from payload) served is)
        by false = same_piles o.chip.state.port o.chip.state.port refl served

    -- a frame of a device is heard by the chip
    home_piles : (w : Outside) (drawn : List ℕ) (route : Option Route) (frame : Flown) → next_of w.outer.air.frames ≡ Some frame → frame.heading ≡ Homeward → IsLive w.outer.air.network frame → Is (brings frame.node frame.payload)
        → IsServed w.outer.chip.state.port → Piles w.outer.chip.state.port (outcome w (Arrives drawn route)).outer.chip.state.port
    unfolding outcome mesh_outs
    home_piles w drawn route frame next home live is served =
        subst (λ (f : Option Flown). Piles w.outer.chip.state.port (each (deals later.devices) o (arrival_outs (mesh_of w) f drawn route)).outer.chip.state.port) (sym next)
        (subst (λ (x : Fate). Piles w.outer.chip.state.port (each (deals later.devices) o (arrival_outs_as (mesh_of w) (w.outer.air.frames.landed + 1) frame x drawn route)).outer.chip.state.port)
        (sym (home_so frame.lost (dead_hop_of w.outer.air.network frame) frame.heading (listener_of frame.node w.devices) live.0 live.1 home)) (comes_pile o frame.node frame.payload is served))
      where
        later : Mesh
        later = mesh_after (mesh_of w) (mesh.Arrives drawn route)

        o : OuterState
        o = record w.outer { air = later.air }

    ends_pile : (o : OuterState) (status : ℕ) (dead : Option (ℕ × ℕ)) → Leaves o (frame_ends o status dead)
    ends_pile = end_goes Leaves calls (λ o a b served. same_piles o.chip.state.port o.chip.state.port refl served)

    -- a frame of the host is heard by a device
    heard_told : (at : Mesh) (number node : ℕ) (route : Option Route) (device : State) (event : DeviceEvent) → AreTold (outs_hearing at.air number node route device event)
    heard_told at number node route device event = (
      tt,
      told-append (changed node (length device.journal) (length (device_after device event).journal - length device.journal)) (answers_if (is_joined at.air node) at.air node (option_map backwards route) (device_replies device event))
          (changed_told node (length device.journal) (length (device_after device event).journal - length device.journal)) (answers_if_told (is_joined at.air node) at.air node (option_map backwards route) (device_replies device event)),
    )

    outward_piles : (w : Outside) (drawn : List ℕ) (route : Option Route) (frame : Flown) (place : ℕ) (device : State) → next_of w.outer.air.frames ≡ Some frame → fate_of w.outer.air.network w.devices frame ≡ AtDevice place
        → slice_get w.devices place ≡ Some device → IsServed w.outer.chip.state.port → Piles w.outer.chip.state.port (outcome w (Arrives drawn route)).outer.chip.state.port
    unfolding outcome mesh_outs
    outward_piles w drawn route frame place device next fate there served =
        subst (λ (f : Option Flown). Piles w.outer.chip.state.port (each (deals later.devices) o (arrival_outs (mesh_of w) f drawn route)).outer.chip.state.port) (sym next)
        (subst (λ (x : Fate). Piles w.outer.chip.state.port (each (deals later.devices) o (arrival_outs_as (mesh_of w) (w.outer.air.frames.landed + 1) frame x drawn route)).outer.chip.state.port) (sym fate)
        (subst (λ (d : Option State). Piles w.outer.chip.state.port (each (deals later.devices) o (outs_at at d number frame.node route (Hears frame.payload drawn) ++ air_event.Done number status None ∷ [])).outer.chip.state.port) (sym there)
        (subst (λ (p : OuterState). Piles w.outer.chip.state.port p.chip.state.port)
        (sym (told_then later.devices o (outs_hearing at.air number frame.node route device (Hears frame.payload drawn)) (air_event.Done number status None ∷ []) (heard_told at number frame.node route device (Hears frame.payload drawn))))
        (ends_pile o status None served))))
      where
        later : Mesh
        later = mesh_after (mesh_of w) (mesh.Arrives drawn route)

        o : OuterState
        o = record w.outer { air = later.air }

        at : Mesh
        at = record (mesh_of w) { air = landed (acknowledged w.outer.air) }

        number : ℕ
        number = w.outer.air.frames.landed + 1

        status : ℕ
        status = status_of w.outer.air

module _ (Is : FrameParts → Type 0) (update : (told : Update) → Is (notice_frame (ApplicationUpdate told))) (call : (sent : Sending) (status : TransmitStatus) → Is (callback_frame sent status)) (m : Machine) (drawn : List ℕ) (route : Option Route)
    (given : IsGiven 0 m) (later : IsGiven 0 (happens m (Outside_does (Arrives drawn route)))) where
  -- what the chip has for the host stays, and what it is told then is behind that
  abbrev pub MoreUnheard : Type 0
  MoreUnheard = More Is (unheard m.outside.outer) (unheard (happens m (Outside_does (Arrives drawn route))).outside.outer)

  piles_unheard : Piles Is m.outside.outer.chip.state.port (outcome m.outside (Arrives drawn route)).outer.chip.state.port → MoreUnheard
  piles_unheard piles =
      subst (λ (frames : List FrameParts). More Is frames (unheard (happens m (Outside_does (Arrives drawn route))).outside.outer)) (sym (has_unheard 0 m.outside.outer given.has))
      (subst (More Is (line_of m.outside.outer.chip.state.port)) (sym (has_unheard 0 (happens m (Outside_does (Arrives drawn route))).outside.outer later.has))
      (subst (λ (s : ChipState). More Is (line_of m.outside.outer.chip.state.port) (line_of s.port)) (sym (chip_is m (Arrives drawn route))) piles.more))

  pub outward_unheard : (frame : Flown) (place : ℕ) (device : State) → next_of m.outside.outer.air.frames ≡ Some frame → fate_of m.outside.outer.air.network m.outside.devices frame ≡ AtDevice place → slice_get m.outside.devices place ≡ Some device → MoreUnheard
  outward_unheard frame place device next fate there = piles_unheard (outward_piles Is update call m.outside drawn route frame place device next fate there (has_served 0 m.outside.outer given.has))

  pub homeward_unheard : (frame : Flown) → next_of m.outside.outer.air.frames ≡ Some frame → frame.heading ≡ Homeward → IsLive m.outside.outer.air.network frame → Is (brings frame.node frame.payload) → MoreUnheard
  homeward_unheard frame next home live is = piles_unheard (home_piles Is update call m.outside drawn route frame next home live is (has_served 0 m.outside.outer given.has))
