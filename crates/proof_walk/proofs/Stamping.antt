-- What a law owes outside the host is enough for each event there, with the number of the tick before its first entry.
use Rattle.std.proofs.Common.{◌≡◌, ℕ, ◌&&◌, ◌||◌, not, Bool, true, false, if◌then◌else◌, List, [], ◌∷◌, ◌++◌, refl, sym, subst, append_assoc, append-nil}
use Rattle.std.specs.Prelude.{Option, Some, None, slice_get}
use Rattle.serial_frame.specs.declared.item.Item.{Item}
use Rattle.route_table.specs.declared.route.Route.{Route}
use Rattle.proof_device.specs.chip_sim.State.{ChipState}
use Rattle.proof_device.specs.chip_sim.Events.{Judged}
use Rattle.proof_device.specs.chip_sim.Did.{MayAll as MayAllOfChip, judged_all}
use Rattle.proof_device.specs.device_sim.State.{State}
use Rattle.proof_device.specs.device_sim.Event.{DeviceEvent, Ticks, Wakes, Sets}
use Rattle.air_frames.specs.Ages.{refusal_of}
use Rattle.air_frames.specs.declared.ages.Refusal.{Refusal as RepeatRefusal}
use Rattle.air_frames.specs.declared.ages.Refusal.TheVariants.{NeverSent, Forgotten, Stale}
use Rattle.proof_device.specs.mesh_sim.declared.event.AirEvent.{AirEvent}
use Rattle.proof_device.specs.mesh_sim.Fates.{place_of}
use Rattle.proof_device.specs.mesh_sim.Steps.{AirStep, mesh_after, mesh_outs, MayHappen}
use Rattle.proof_device.specs.mesh_sim.Steps as mesh
use Rattle.serial_pipes.specs.Events.{Takes}
use Rattle.serial_pipes.specs.Events as way
use Rattle.zw_text.specs.declared.entry.Entry.{Entry}
use Rattle.zw_text.specs.declared.entry.Entry.TheVariants as entry
use Rattle.zw_text.specs.declared.entry.Refusal.{Refusal}
use Rattle.zw_text.specs.declared.entry.Refusal.TheVariants as refusal
use Rattle.proof_host.specs.law_transcript.Lists.{EachAfter}
use Rattle.proof_host.proofs.Lists.{each-append}
use Rattle.proof_device.specs.outside_model.State.{OuterState, Outside, outside, Outcome, each, tells}
use Rattle.proof_device.specs.outside_model.Chip.{chip_does}
use Rattle.proof_device.specs.outside_model.Air.{deals}
use Rattle.proof_device.specs.outside_model.Devices.{acts_at, acts_by_hand, device_set, set_by_hand, MayAct, MayActByHand}
use Rattle.proof_device.specs.outside_model.Events.{OuterEvent, Begins_line, Begins_tick, Host_notes, Host_begins, Chip_takes, Arrives, Gives, Device_ticks, Chip_ticks, Repeats, Wakes_device, Sets_device, mesh_of, outcome, devices_after, May, steps, repeats, devices_repeated, MayRepeat, ticked_entry, stamp, has_entered, happens, entries}
use Rattle.proof_walk.specs.Outside.{Pending, Judging, Dealing, nothing, Knowing, Moves, Comes, Outer, IsSimple, IsHearing, session_begins, Known, awaits_number, CoversRefusal}
use Rattle.proof_walk.proofs.Moving.{moves_none, moves_both, moves_then}
use Rattle.proof_walk.proofs.Times.{time_of, IsSameTime, IsWithin, does_chip, outcome_time}

-- a simple event is to be covered, and that one is refused
abbrev pub Fits : (OuterEvent → Type 0) → OuterEvent → Type 0
Fits Covers Begins_line = Covers Begins_line
Fits Covers Begins_tick = Covers Begins_tick
Fits Covers (Chip_takes count rest ways) = Unit {0}
Fits Covers (Arrives drawn route) = Unit {0}
Fits Covers (Gives route) = Unit {0}
Fits Covers (Device_ticks place drawn route) = Unit {0}
Fits Covers Chip_ticks = Unit {0}
Fits Covers (Repeats number drawn route) = CoversRefusal Covers (Repeats number drawn route)
Fits Covers (Wakes_device node route) = CoversRefusal Covers (Wakes_device node route)
Fits Covers (Sets_device node value route) = CoversRefusal Covers (Sets_device node value route)
Fits Covers event = IsSimple event × Covers event

-- the number, by whether it is still to be entered
abbrev number_if : Bool → ℕ → List Entry
number_if b clock = if b then entry.Time clock ∷ [] else []

abbrev number_at : Bool × Bool × ℕ → List Entry
number_at time = number_if (time.0 && not time.1) time.2

-- once something was entered it no longer is
pub entered : (in_tick stamped : Bool) → in_tick && not (in_tick || stamped) ≡ false
entered true stamped = refl
entered false stamped = refl

-- ---- with the number of the tick

module _ (Asks : List Entry → Entry → Type 0) (Base : Knowing)
    (number_goes : (past : List Entry) (w : Outside) → Base true past w → Base false (past ++ entry.Time w.outer.clock ∷ []) w)
    (stamps : (awaits stamped : Bool) (past : List Entry) (w : Outside) → Base awaits past w → Base awaits past (outside (record w.outer { stamped = stamped }) w.devices)) where
  abbrev Numbered : List Entry → Outside → Type 0
  Numbered past w = Known Asks (λ pending. Base) past w

  numbered : (past : List Entry) (w : Outside) (awaits : Bool) → Base awaits past w → Base false (past ++ number_if awaits w.outer.clock) w
  numbered past w true knows = number_goes past w knows
  numbered past w false knows = subst (λ (l : List Entry). Base false l w) (sym (append-nil past)) knows

  stamped_as : (w : Outside) (p : OuterState) (told : List Entry) (devices : List State) → IsSameTime w.outer p → Moves Asks Base w told Base (outside p devices) → (past : List Entry)
      → Numbered past w → EachAfter Asks past (stamp p told) × Numbered (past ++ stamp p told) (outside (has_entered p told) devices)
  stamped_as w p [] devices time moves past known =
      let got = moves (awaits_number w.outer) past (λ is. refl) known.0 in (
        tt,
        (
          subst (λ (t : Bool × Bool × ℕ). Base (t.0 && not t.1) (past ++ []) (outside p devices)) (sym time) got.1,
          subst (λ (l : List Entry). EachAfter Asks l (ticked_entry p)) (sym (append-nil past)) (subst (λ (t : Bool × Bool × ℕ). EachAfter Asks past (number_at t)) (sym time) known.1),
        ),
      )
  stamped_as w p (first ∷ told) devices time moves past known =
      let number : List Entry = number_at (time_of w.outer) in
      let later : List Entry = past ++ (number ++ first ∷ told) in
      let got = moves false (past ++ number) (λ (is : false ≡ true). absurd cc) (numbered past w (awaits_number w.outer) known.0) in
      let is_entered = entered p.in_tick p.stamped in
      let base : Base false later (outside p devices) = subst (λ (l : List Entry). Base false l (outside p devices)) (append_assoc past number (first ∷ told)) got.1 in
      subst (λ (t : Bool × Bool × ℕ). EachAfter Asks past (number_at t ++ first ∷ told) × Numbered (past ++ (number_at t ++ first ∷ told)) (outside (has_entered p (first ∷ told)) devices)) (sym time) (
        each-append Asks past number (first ∷ told) known.1 got.0,
        (
          subst (λ (b : Bool). Base b later (outside (has_entered p (first ∷ told)) devices)) (sym is_entered) (stamps false (p.in_tick || p.stamped) later (outside p devices) base),
          subst (λ (b : Bool). EachAfter Asks later (number_if b p.clock)) (sym is_entered) tt,
        ),
      )

  pub stamped : (w : Outside) (x : Outcome) (devices : List State) → IsSameTime w.outer x.outer → Comes Asks Base w x devices Base → (past : List Entry)
      → Numbered past w → EachAfter Asks past (stamp x.outer x.entries) × Numbered (past ++ stamp x.outer x.entries) (outside (has_entered x.outer x.entries) devices)
  stamped w x devices time moves past known = stamped_as w x.outer x.entries devices time moves past known

module _ (Asks : List Entry → Entry → Type 0) (Knows : Pending → Knowing) (Covers : OuterEvent → Type 0) (law : Outer Asks Knows Covers) where
  abbrev Base : Knowing
  Base = Knows nothing

  -- ---- events that go on

  judges_all : (devices : List State) (ways : List (Item × Option Route)) (o : OuterState) → MayAllOfChip o.chip.state (judged_all ways)
      → Comes Asks (Knows (Judging ways)) (outside o devices) (each chip_does o (judged_all ways)) devices (Knows (Judging []))
  judges_all devices [] o may = moves_none Asks (Knows (Judging [])) (outside o devices)
  judges_all devices (way ∷ ways) o may =
      let one : Outcome = chip_does o (Judged way.0 way.1) in
      moves_both Asks (Knows (Judging (way ∷ ways))) (Knows (Judging ways)) (Knows (Judging [])) (outside o devices) (outside one.outer devices) (outside (each chip_does one.outer (judged_all ways)).outer devices)
      one.entries (each chip_does one.outer (judged_all ways)).entries (law.judges (outside o devices) way ways may.0)
      (judges_all devices ways one.outer (subst (λ (s : ChipState). MayAllOfChip s (judged_all ways)) (sym (does_chip o (Judged way.0 way.1))) may.1))

  deals_all : (devices : List State) (events : List AirEvent) (o : OuterState) → Comes Asks (Knows (Dealing events)) (outside o devices) (each (deals devices) o events) devices Base
  deals_all devices [] o = moves_none Asks Base (outside o devices)
  deals_all devices (event ∷ events) o =
      let one : Outcome = deals devices o event in
      moves_both Asks (Knows (Dealing (event ∷ events))) (Knows (Dealing events)) Base (outside o devices) (outside one.outer devices) (outside (each (deals devices) one.outer events).outer devices)
      one.entries (each (deals devices) one.outer events).entries (law.deals (outside o devices) event events) (deals_all devices events one.outer)

  pub steps_come : (w : Outside) (step : AirStep) → IsHearing step → MayHappen (mesh_of w) step → Comes Asks Base w (steps w step) (mesh_after (mesh_of w) step).devices Base
  steps_come w step hearing may =
      let o : OuterState = record w.outer { air = (mesh_after (mesh_of w) step).air } in
      let devices : List State = (mesh_after (mesh_of w) step).devices in
      moves_both Asks Base (Knows (Dealing (mesh_outs (mesh_of w) step))) Base w (outside o devices) (outside (steps w step).outer devices) [] (steps w step).entries
      (law.steps w step hearing may) (deals_all devices (mesh_outs (mesh_of w) step) o)

  -- ---- events that may be refused

  abbrev Refusing : Type 0
  Refusing = (refused : Refusal) → Covers (Host_notes (entry.Refused refused))

  refused_comes : Refusing → (w : Outside) (refused : Refusal) → Comes Asks Base w (tells w.outer (entry.Refused refused ∷ [])) w.devices Base
  unfolding outcome
  refused_comes notes w refused = law.simple w (Host_notes (entry.Refused refused)) (tt, refl) (notes refused)

  repeats_come : Refusing → (w : Outside) (refused : Option RepeatRefusal) (step : AirStep) → IsHearing step → MayRepeat w refused step → Comes Asks Base w (repeats w refused step) (devices_repeated w refused step) Base
  repeats_come notes w None step hearing may = steps_come w step hearing may
  repeats_come notes w (Some NeverSent) step hearing may = refused_comes notes w refusal.NeverSent
  repeats_come notes w (Some Forgotten) step hearing may = refused_comes notes w refusal.Forgotten
  repeats_come notes w (Some (Stale later)) step hearing may = refused_comes notes w (refusal.Stale later)

  at_comes : (w : Outside) (place : ℕ) (found : Option State) (event : DeviceEvent) (route : Option Route) → slice_get w.devices place ≡ found → MayAct w.outer found event route
      → Comes Asks Base w (acts_at w.outer found event route) (device_set w.devices place found event) Base
  at_comes w place None event route is may = absurd may
  at_comes w place (Some device) event route is may = law.acts w place device event route is may

  hand_comes : Refusing → (w : Outside) (place : Option ℕ) (event : DeviceEvent) (route : Option Route) → MayActByHand w.outer w.devices place event route
      → Comes Asks Base w (acts_by_hand w.outer w.devices place event route) (set_by_hand w.devices place event) Base
  hand_comes notes w None event route may = refused_comes notes w refusal.NoDevice
  hand_comes notes w (Some place) event route may = at_comes w place (slice_get w.devices place) event route refl may

  -- ---- any event within a line or a tick

  pub outcome_comes : (w : Outside) (event : OuterEvent) → IsWithin event → Fits Covers event → May w event → Comes Asks Base w (outcome w event) (devices_after w event) Base
  unfolding outcome devices_after May
  outcome_comes w Begins_line within fits may = absurd within
  outcome_comes w Begins_tick within fits may = absurd within
  outcome_comes w (Chip_takes count rest ways) within fits may =
      let o : OuterState = record w.outer { to_chip = way.after w.outer.to_chip (Takes count); chip = record { decoder = rest; state = w.outer.chip.state } } in
      let x : Outcome = each chip_does o (judged_all ways) in
      moves_then Asks Base (Knows (Judging [])) Base w (outside x.outer w.devices) (outside x.outer w.devices) x.entries
      (moves_both Asks Base (Knows (Judging ways)) (Knows (Judging [])) w (outside o w.devices) (outside x.outer w.devices) [] x.entries (law.takes w count rest ways may) (judges_all w.devices ways o may.judges))
      (λ awaits past knows. law.judged awaits past (outside x.outer w.devices) knows)
  outcome_comes w (Arrives drawn route) within fits may = steps_come w (mesh.Arrives drawn route) tt may
  outcome_comes w (Gives route) within fits may = law.gives w route may
  outcome_comes w (Device_ticks place drawn route) within fits may = at_comes w place (slice_get w.devices place) (Ticks drawn) route refl may
  outcome_comes w Chip_ticks within fits may = law.ticks w
  outcome_comes w (Repeats number drawn route) within fits may = repeats_come fits w (refusal_of w.outer.air.frames number) (mesh.Repeats number drawn route) tt may
  outcome_comes w (Wakes_device node route) within fits may = hand_comes fits w (place_of node w.devices) Wakes route may
  outcome_comes w (Sets_device node value route) within fits may = hand_comes fits w (place_of node w.devices) (Sets value) route may
  outcome_comes w (Host_begins node sessions) within fits may = absurd fits.0
  outcome_comes w event within fits may = law.simple w event fits.0 fits.1

  -- ---- any event

  -- what is known before the event is enough for its entries, and is known after it
  abbrev pub Keeps : Outside → List Entry → Outside → Type 0
  Keeps w told later = (past : List Entry) → Known Asks Knows past w → EachAfter Asks past told × Known Asks Knows (past ++ told) later

  within_keeps : (w : Outside) (event : OuterEvent) → IsWithin event → Fits Covers event → May w event → Keeps w (entries w event) (happens w event)
  within_keeps w event within fits may past known =
      stamped Asks Base law.number law.stamps w (outcome w event) (devices_after w event) (outcome_time w event within) (outcome_comes w event within fits may) past known

  pub outer_keeps : (w : Outside) (event : OuterEvent) → Fits Covers event → May w event → Keeps w (entries w event) (happens w event)
  unfolding outcome devices_after
  outer_keeps w Begins_line fits may past known =
      (tt, subst (λ (l : List Entry). Known Asks Knows l (happens w Begins_line)) (sym (append-nil past)) (law.line fits (awaits_number w.outer) past w known.0, tt))
  outer_keeps w Begins_tick fits may past known =
      let got = law.tick fits (awaits_number w.outer) past w known.0 in
      (tt, subst (λ (l : List Entry). Known Asks Knows l (happens w Begins_tick)) (sym (append-nil past)) (got.1, (got.0, tt)))
  outer_keeps w event fits may past known = within_keeps w event tt fits may past known

  -- ---- a session begins

  -- the air learns of it, and then it is noted
  pub session_keeps : (w : Outside) (node session command : ℕ) → Keeps w (entries w (Host_begins node session) ++ entries (happens w (Host_begins node session)) (Host_notes (entry.Begin node session command)))
      (happens (happens w (Host_begins node session)) (Host_notes (entry.Begin node session command)))
  unfolding outcome devices_after
  session_keeps w node session command past known =
      let x : Outcome = session_begins w.outer node session command in
      stamped Asks Base law.number law.stamps w x w.devices refl (law.session w node session command) past known
