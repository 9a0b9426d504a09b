-- What is known of the law of what goes on the air goes on with each event of the machine but one at which the chip takes bytes, with the number of the tick that may stand before its entries.
use Rattle.std.proofs.Common.{◌≡◌, ℕ, ◌&&◌, not, Bool, true, false, if◌then◌else◌, List, [], ◌∷◌, ◌++◌, refl, sym, subst, append_assoc, append-nil}
use Rattle.std.specs.Prelude.{Option, Some, None, slice_get}
use Rattle.serial_link.specs.Rules.{Step}
use Rattle.route_table.specs.declared.route.Route.{Route}
use Rattle.serial_frame.specs.declared.unit.Unit.{Unit as LineUnit}
use Rattle.device_sim.specs.State.{State}
use Rattle.device_sim.specs.Event.{DeviceEvent, Ticks, Wakes, Sets}
use Rattle.air_frames.specs.Ages.{refusal_of}
use Rattle.air_frames.specs.declared.ages.Refusal.{Refusal as RepeatRefusal}
use Rattle.air_frames.specs.declared.ages.Refusal.TheVariants.{NeverSent, Forgotten, Stale}
use Rattle.mesh_sim.specs.Fates.{place_of}
use Rattle.mesh_sim.specs.Steps.{AirStep, mesh_outs}
use Rattle.mesh_sim.specs.Steps as mesh
use Rattle.zw_text.specs.declared.entry.Entry.{Entry}
use Rattle.zw_text.specs.declared.entry.Entry.TheVariants as entry
use Rattle.zw_text.specs.declared.entry.Refusal.{Refusal}
use Rattle.law_wire.specs.Asked.{Sending}
use Rattle.host_model.specs.State.{HostState}
use Rattle.host_model.specs.Events.{HostEvent}
use Rattle.host_model.specs.Did.{outs_all}
use Rattle.host_model.specs.Outs.{answers}
use Rattle.outside_model.specs.State.{OuterState, Outcome, Outside, outside, tells}
use Rattle.outside_model.specs.Devices.{MayAct, MayActByHand, acts_at, acts_by_hand, device_set, set_by_hand}
use Rattle.outside_model.specs.Events.{OuterEvent, Begins_line, Begins_tick, Host_writes, Host_takes as host_takes, Host_notes, Host_begins, Chip_takes, Arrives, Gives, Device_ticks, Chip_ticks, Repeats, Wakes_device, Sets_device, Shows, Joins, Discovers, Links, Loses, Loses_acks, Marks_loss, Marks_change, Clears_pipe, Collides_next, Stalls, Cuts, devices_after, has_entered, is_own, mesh_of, outcome, repeats, stamp, steps, ticked_entry, May as MayOutside, entries as entries_outside, happens as happens_outside}
use Rattle.outside_model.specs.Did.{happens_all as happens_all_outside, entries_all as entries_all_outside}
use Rattle.world_model.specs.State.{Machine, begun_in, host_does, routed}
use Rattle.world_model.specs.Events.{Event, Outside_does, Host_does, Host_takes, Decoder_ticks, Refuses, Shows_values, Restarts, May, entries, happens, notes}
use Rattle.proof_air.specs.proof_walk.Outside.{Comes, IsHearing, IsNote, IsSimple, Moves, nothing}
use Rattle.proof_air.proofs.Machines.{UnitsAre, answers_keep, any_told, outs_keep}
use Rattle.proof_air.specs.Logs.{Tie}
use Rattle.proof_chip.specs.Knowing.{AnyEntry}
use Rattle.proof_chip.specs.Sending.{AirSo, KnowsAir}
use Rattle.proof_chip.proofs.Acting.{acts_go, steps_go}
use Rattle.proof_chip.proofs.Asides.{NotHome}
use Rattle.proof_chip.proofs.Homing.{IsBrought, brought_on, step_so}
use Rattle.proof_line.proofs.ChipAccounts.{event_steps, outer_steps, repeat_steps, steps_account, steps_by}
use Rattle.proof_chip.proofs.Going.{AreApart, apart_goes, collides_goes, results_go, simple_goes, tick_goes}
use Rattle.proof_air.proofs.Machines.{any_units}

abbrev pub TakesNone : Event → Type 0
TakesNone (Outside_does (Chip_takes count rest ways)) = ⊥
TakesNone event = Unit {0}

pub number_apart : (b : Bool) (clock : ℕ) → AreApart (if b then entry.Time clock ∷ [] else [])
number_apart true clock = ((tt, tt), tt)
number_apart false clock = tt

not_own : false ≡ true → ⊥
not_own is = cc

module _ (devices : List State) (Are : List Sending → Type 0) (did : List Step) where
  abbrev Grows : List Step → Outside → List Entry → Outside → Type 0
  Grows now w told later = (past : List Entry) → AirSo devices Are did past w.outer.chip.state.port → AirSo devices Are now (past ++ told) later.outer.chip.state.port

  abbrev pub Keeps : Outside → List Entry → Outside → Type 0
  Keeps w told later = Grows did w told later

  keeps_none : (w : Outside) → Keeps w [] w
  keeps_none w past knows = subst (λ (l : List Entry). AirSo devices Are did l w.outer.chip.state.port) (sym (append-nil past)) knows

  grows_both : (now : List Step) (w u v : Outside) (xs ys : List Entry) → Keeps w xs u → Grows now u ys v → Grows now w (xs ++ ys) v
  grows_both now w u v xs ys first later past knows =
      subst (λ (l : List Entry). AirSo devices Are now l v.outer.chip.state.port) (append_assoc past xs ys) (later (past ++ xs) (first past knows))

  keeps_both : (w u v : Outside) (xs ys : List Entry) → Keeps w xs u → Keeps u ys v → Keeps w (xs ++ ys) v
  keeps_both w u v xs ys first later = grows_both did w u v xs ys first later

  -- ---- the number of the tick

  abbrev Makes : List Step → Outside → Outcome → List State → Type 0
  Makes now w x there = Comes AnyEntry (KnowsAir devices Are did) w x there (KnowsAir devices Are now)

  moved : (now : List Step) (w later : Outside) (told : List Entry) → Moves AnyEntry (KnowsAir devices Are did) w told (KnowsAir devices Are now) later → Grows now w told later
  moved now w later told moves past knows = (moves false past (λ (is : false ≡ true). absurd (not_own is)) knows).1

  -- at these entries, or with the number of the tick
  abbrev MakesAt : List Step → Outside → Outcome → List Entry → Type 0
  MakesAt now w x past =
      (here more : List Entry) → here ≡ past ++ more → AirSo devices Are did here w.outer.chip.state.port → AirSo devices Are now (here ++ x.entries) x.outer.chip.state.port

  made : (now : List Step) (w : Outside) (x : Outcome) (there : List State) (past : List Entry) → Makes now w x there → MakesAt now w x past
  made now w x there past makes here more is knows = moved now w (outside x.outer there) x.entries makes here knows

  numbered_as : (now : List Step) (w : Outside) (p : OuterState) (told past : List Entry)
      → ((here more : List Entry) → here ≡ past ++ more → AirSo devices Are did here w.outer.chip.state.port → AirSo devices Are now (here ++ told) p.chip.state.port)
      → AirSo devices Are did past w.outer.chip.state.port → AirSo devices Are now (past ++ stamp p told) (has_entered p told).chip.state.port
  numbered_as now w p [] past makes knows = makes past [] (sym (append-nil past)) knows
  numbered_as now w p (first ∷ told) past makes knows =
      let here : List Entry = past ++ ticked_entry p in
      let numbered : AirSo devices Are did here w.outer.chip.state.port =
      moved did w w (ticked_entry p) (apart_goes devices Are did w w (ticked_entry p) (number_apart (p.in_tick && not p.stamped) p.clock) refl) past knows in
      subst (λ (l : List Entry). AirSo devices Are now l p.chip.state.port) (append_assoc past (ticked_entry p) (first ∷ told)) (makes here (ticked_entry p) refl numbered)

  stamped : (now : List Step) (w : Outside) (x : Outcome) (there : List State) → Makes now w x there → Grows now w (stamp x.outer x.entries) (outside (has_entered x.outer x.entries) there)
  stamped now w x there comes past knows = numbered_as now w x.outer x.entries past (made now w x there past comes) knows

  -- ---- events outside the host

  refused_goes : (w : Outside) (refused : Refusal) → Makes did w (tells w.outer (entry.Refused refused ∷ [])) w.devices
  refused_goes w refused = apart_goes devices Are did w w (entry.Refused refused ∷ []) ((tt, tt), tt) refl

  -- where the link does nothing
  no_more : (w : Outside) (x : Outcome) (there : List State) → Makes did w x there → Makes (did ++ []) w x there
  no_more w x there makes = subst (λ (l : List Step). Makes l w x there) (sym (append-nil did)) makes

  -- a frame is heard
  hears_go : (w : Outside) (step : AirStep) → IsHearing step → NotHome w.outer.air → (past : List Entry) → IsBrought past (mesh_outs (mesh_of w) step)
      → MakesAt (did ++ steps_by (steps_account w step)) w (steps w step) past
  hears_go w step hearing home past brought here more is knows =
      steps_go devices Are did w step hearing home here
      (subst (λ (l : List Entry). IsBrought l (mesh_outs (mesh_of w) step)) (sym is) (brought_on past more (mesh_outs (mesh_of w) step) brought)) knows

  repeats_go : (w : Outside) (refused : Option RepeatRefusal) (number : ℕ) (drawn : List ℕ) (route : Option Route) → NotHome w.outer.air → (past : List Entry)
      → IsBrought past (mesh_outs (mesh_of w) (mesh.Repeats number drawn route))
      → MakesAt (did ++ repeat_steps w refused (mesh.Repeats number drawn route)) w (repeats w refused (mesh.Repeats number drawn route)) past
  repeats_go w None number drawn route home past brought = hears_go w (mesh.Repeats number drawn route) tt home past brought
  repeats_go w (Some refused) number drawn route home past brought =
      made (did ++ []) w (repeats w (Some refused) (mesh.Repeats number drawn route)) w.devices past
      (no_more w (repeats w (Some refused) (mesh.Repeats number drawn route)) w.devices (apart_goes devices Are did w w _ (refusal_apart refused) refl))
    where
      refusal_apart : (refused : RepeatRefusal) → AreApart (repeats w (Some refused) (mesh.Repeats number drawn route)).entries
      refusal_apart NeverSent = ((tt, tt), tt)
      refusal_apart Forgotten = ((tt, tt), tt)
      refusal_apart (Stale later) = ((tt, tt), tt)

  at_goes : (w : Outside) (place : ℕ) (found : Option State) (event : DeviceEvent) (route : Option Route) → NotHome w.outer.air → MayAct w.outer found event route
      → Makes did w (acts_at w.outer found event route) (device_set w.devices place found event)
  at_goes w place None event route home may = absurd may
  at_goes w place (Some device) event route home may = acts_go devices Are did w place device event route home

  hand_goes : (w : Outside) (place : Option ℕ) (event : DeviceEvent) (route : Option Route) → NotHome w.outer.air → MayActByHand w.outer w.devices place event route
      → Makes did w (acts_by_hand w.outer w.devices place event route) (set_by_hand w.devices place event)
  hand_goes w None event route home may = refused_goes w _
  hand_goes w (Some place) event route home may = at_goes w place (slice_get w.devices place) event route home may

  simple : (w : Outside) (event : OuterEvent) → IsSimple event → (event ≡ Collides_next → ⊥) → Makes (did ++ []) w (outcome w event) w.devices
  simple w event is other = no_more w (outcome w event) w.devices (simple_goes devices Are did w event is other)

  abbrev MakesEvent : Outside → OuterEvent → List Entry → Type 0
  MakesEvent w event past = MakesAt (did ++ outer_steps w event) w (outcome w event) past

  at_once : (w : Outside) (event : OuterEvent) (past : List Entry) → Makes (did ++ outer_steps w event) w (outcome w event) (devices_after w event) → MakesEvent w event past
  at_once w event past makes = made (did ++ outer_steps w event) w (outcome w event) (devices_after w event) past makes

  outer_goes : (w : Outside) (event : OuterEvent) → TakesNone (Outside_does event) → is_own event ≡ true → MayOutside w event → (past : List Entry) → Tie nothing past w → MakesEvent w event past
  unfolding outcome devices_after MayOutside outer_steps
  outer_goes w (Host_writes unit) none own may past tie = absurd (not_own own)
  outer_goes w (host_takes count) none own may past tie = absurd (not_own own)
  outer_goes w (Host_notes note) none own may past tie = absurd (not_own own)
  outer_goes w (Host_begins node sessions) none own may past tie = absurd (not_own own)
  outer_goes w (Chip_takes count rest ways) none own may past tie = absurd none
  outer_goes w Begins_line none own may past tie =
      at_once w Begins_line past
      (no_more w (outcome w Begins_line) w.devices (apart_goes devices Are did w (outside (outcome w Begins_line).outer w.devices) [] tt refl))
  outer_goes w Begins_tick none own may past tie =
      at_once w Begins_tick past
      (no_more w (outcome w Begins_tick) w.devices (apart_goes devices Are did w (outside (outcome w Begins_tick).outer w.devices) [] tt refl))
  outer_goes w (Arrives drawn route) none own may past tie = hears_go w (mesh.Arrives drawn route) tt tie.home past (step_so past w tie (mesh.Arrives drawn route) tt)
  outer_goes w (Gives route) none own may past tie = at_once w (Gives route) past (results_go devices Are did w route)
  outer_goes w (Device_ticks place drawn route) none own may past tie =
      at_once w (Device_ticks place drawn route) past
      (no_more w (acts_at w.outer (slice_get w.devices place) (Ticks drawn) route) (device_set w.devices place (slice_get w.devices place) (Ticks drawn))
      (at_goes w place (slice_get w.devices place) (Ticks drawn) route tie.home may))
  outer_goes w Chip_ticks none own may past tie = at_once w Chip_ticks past (tick_goes devices Are did w)
  outer_goes w (Repeats number drawn route) none own may past tie =
      repeats_go w (refusal_of w.outer.air.frames number) number drawn route tie.home past (step_so past w tie (mesh.Repeats number drawn route) tt)
  outer_goes w (Wakes_device node route) none own may past tie =
      at_once w (Wakes_device node route) past
      (no_more w (acts_by_hand w.outer w.devices (place_of node w.devices) Wakes route) (set_by_hand w.devices (place_of node w.devices) Wakes) (hand_goes w (place_of node w.devices) Wakes route tie.home may))
  outer_goes w (Sets_device node value route) none own may past tie =
      at_once w (Sets_device node value route) past
      (no_more w (acts_by_hand w.outer w.devices (place_of node w.devices) (Sets value) route) (set_by_hand w.devices (place_of node w.devices) (Sets value))
      (hand_goes w (place_of node w.devices) (Sets value) route tie.home may))
  outer_goes w (Shows node) none own may past tie = at_once w (Shows node) past (simple w (Shows node) tt (λ is. cc))
  outer_goes w (Joins node) none own may past tie = at_once w (Joins node) past (simple w (Joins node) tt (λ is. cc))
  outer_goes w Discovers none own may past tie = at_once w Discovers past (simple w Discovers tt (λ is. cc))
  outer_goes w (Links a b live) none own may past tie = at_once w (Links a b live) past (simple w (Links a b live) tt (λ is. cc))
  outer_goes w (Loses count) none own may past tie = at_once w (Loses count) past (simple w (Loses count) tt (λ is. cc))
  outer_goes w (Loses_acks count) none own may past tie = at_once w (Loses_acks count) past (simple w (Loses_acks count) tt (λ is. cc))
  outer_goes w (Marks_loss side) none own may past tie = at_once w (Marks_loss side) past (simple w (Marks_loss side) tt (λ is. cc))
  outer_goes w (Marks_change side garble) none own may past tie = at_once w (Marks_change side garble) past (simple w (Marks_change side garble) tt (λ is. cc))
  outer_goes w (Clears_pipe side) none own may past tie = at_once w (Clears_pipe side) past (simple w (Clears_pipe side) tt (λ is. cc))
  outer_goes w Collides_next none own may past tie = at_once w Collides_next past (collides_goes devices Are did w)
  outer_goes w (Stalls ticks) none own may past tie = at_once w (Stalls ticks) past (simple w (Stalls ticks) tt (λ is. cc))
  outer_goes w (Cuts size) none own may past tie = at_once w (Cuts size) past (simple w (Cuts size) tt (λ is. cc))

  -- ---- events of the host

  writes_keep : (w : Outside) (unit : LineUnit) → Unit {0} → Keeps w (entries_outside w (Host_writes unit)) (happens_outside w (Host_writes unit))
  unfolding devices_after
  writes_keep w unit any = stamped did w (outcome w (Host_writes unit)) w.devices (simple_goes devices Are did w (Host_writes unit) tt (λ is. cc))

  takes_keep : (w : Outside) (count : ℕ) → Keeps w [] (happens_outside w (host_takes count))
  unfolding outcome devices_after
  takes_keep w count = stamped did w (outcome w (host_takes count)) w.devices (simple_goes devices Are did w (host_takes count) tt (λ is. cc))

  note_keeps : (w : Outside) (note : Entry) → IsNote note → begun_in note ≡ None → Unit {0} → Keeps w (entries_outside w (Host_notes note)) (happens_outside w (Host_notes note))
  unfolding devices_after
  note_keeps w note is unbegun any = stamped did w (outcome w (Host_notes note)) w.devices (simple_goes devices Are did w (Host_notes note) (is, unbegun) (λ same. cc))

  session_keeps : (w : Outside) (node session command : ℕ)
      → Keeps w (entries_outside w (Host_begins node session) ++ entries_outside (happens_outside w (Host_begins node session)) (Host_notes (entry.Begin node session command)))
      (happens_outside (happens_outside w (Host_begins node session)) (Host_notes (entry.Begin node session command)))
  unfolding outcome devices_after
  session_keeps w node session command =
      let told : Entry = entry.Begin node session command in
      let later : Outside = happens_outside w (Host_begins node session) in
      let first : Outside = outside (outcome w (Host_begins node session)).outer w.devices in
      keeps_both w later (happens_outside later (Host_notes told)) (entries_outside w (Host_begins node session)) (entries_outside later (Host_notes told))
      (stamped did w (outcome w (Host_begins node session)) w.devices (apart_goes devices Are did w first [] tt refl))
      (stamped did later (outcome later (Host_notes told)) later.devices (apart_goes devices Are did later later (told ∷ []) ((tt, tt), tt) refl))

  abbrev Any : LineUnit → Type 0
  Any unit = Unit {0}

  abbrev AnyNote : Entry → Type 0
  AnyNote note = Unit {0}

  host_keeps : (w : Outside) (h : HostState) (events : List HostEvent) → UnitsAre Any (outs_all h events) → Keeps w (entries_all_outside w (routed (outs_all h events))) (happens_all_outside w (routed (outs_all h events)))
  host_keeps w h events units = outs_keep Any AnyNote Keeps keeps_none keeps_both writes_keep note_keeps session_keeps (λ note is. tt) w h events units

  -- ---- any event

  still : (w : Outside) (told : List Entry) (later : Outside) → Keeps w told later → Grows (did ++ []) w told later
  still w told later keeps = subst (λ (l : List Step). Grows l w told later) (sym (append-nil did)) keeps

  pub event_keeps : (m : Machine) (event : Event) → TakesNone event → May m event → (past : List Entry) → Tie nothing past m.outside
      → AirSo devices Are did past m.outside.outer.chip.state.port
      → AirSo devices Are (did ++ event_steps m event) (past ++ entries m event) (happens m event).outside.outer.chip.state.port
  unfolding happens entries May event_steps
  event_keeps m (Outside_does event) none may past tie =
      numbered_as (did ++ outer_steps m.outside event) m.outside (outcome m.outside event).outer (outcome m.outside event).entries past (outer_goes m.outside event none may.0 may.1 past tie)
  event_keeps m (Host_does event) none may past tie =
      let later : Outside = (host_does m (event ∷ [])).outside in
      still m.outside (entries m (Host_does event)) (happens m (Host_does event)).outside
      (keeps_both m.outside later (happens_all_outside later (notes (answers m.host.state event))) (entries_all_outside m.outside (routed (outs_all m.host.state (event ∷ []))))
      (entries_all_outside later (notes (answers m.host.state event))) (host_keeps m.outside m.host.state (event ∷ []) (any_units (outs_all m.host.state (event ∷ []))))
      (answers_keep Any AnyNote Keeps keeps_none keeps_both writes_keep note_keeps session_keeps later m.host.state event (any_told (answers m.host.state event)))) past
  event_keeps m (Host_takes count rest items events) none may past tie =
      let later : Outside = happens_outside m.outside (host_takes count) in
      still m.outside (entries m (Host_takes count rest items events)) (happens m (Host_takes count rest items events)).outside
      (keeps_both m.outside later (happens_all_outside later (routed (outs_all m.host.state events))) [] (entries_all_outside later (routed (outs_all m.host.state events))) (takes_keep m.outside count)
      (host_keeps later m.host.state events (any_units (outs_all m.host.state events)))) past
  event_keeps m Decoder_ticks none may past tie = still m.outside [] m.outside (keeps_none m.outside) past
  event_keeps m (Refuses line refusal) none may past tie =
      still m.outside (entries m (Refuses line refusal)) (happens m (Refuses line refusal)).outside (note_keeps m.outside (entry.Refused refusal) tt refl tt) past
  event_keeps m (Shows_values node) none may past tie =
      still m.outside (entries m (Shows_values node)) (happens m (Shows_values node)).outside (note_keeps m.outside _ tt refl tt) past
  event_keeps m (Restarts state) none may past tie = still m.outside [] m.outside (keeps_none m.outside) past
