-- What is known of the results that the chip waits for goes on with each event of the machine.
use Rattle.std.proofs.Common.{◌≡◌, ◌≢◌, ◌≤◌, ◌<◌, ◌⊎◌, ℕ, ◌+◌, ◌-◌, ◌&&◌, nat_le, Bool, true, false, if◌then◌else◌, inl, inr, List, [], ◌∷◌, ◌++◌, length, map, refl, sym, ap, ap₂, subst, ◌∙◌, append-nil, length-append, length-drop, arith}
use Rattle.std.proofs.lemmas.Bool.{cases_lt}
use Rattle.std.proofs.lemmas.List.{get_or_past, length-map}
use Rattle.std.specs.Prelude.{◌==◌, Option, Some, None, drop, slice_get, option_map}
use Rattle.std.specs.Option.{is_some}
use Rattle.serial_frame.specs.Stream.{Rest, after_tick}
use Rattle.serial_frame.specs.declared.item.Item.{Item}
use Rattle.serial_link.specs.State.{copy_due}
use Rattle.route_table.specs.declared.route.Route.{Route}
use Rattle.device_sim.specs.State.{State}
use Rattle.device_sim.specs.Event.{DeviceEvent, Hears, Ticks, Wakes, Sets, device_after, device_replies}
use Rattle.air_frames.specs.declared.ages.Refusal.{Refusal as RepeatRefusal}
use Rattle.air_frames.specs.declared.frame.Heading.{Heading}
use Rattle.air_frames.specs.declared.frame.Heading.TheVariants.{Outward, Homeward}
use Rattle.air_frames.specs.Ages.{refusal_of}
use Rattle.air_frames.specs.Flown.{Flown}
use Rattle.air_frames.specs.Frames.{FramesState, remembered}
use Rattle.air_frames.specs.History.{Mark, IsOf}
use Rattle.chip_sim.specs.State.{ChipState}
use Rattle.chip_sim.specs.Waiting.{PortState, served_outs, ticked, ticked_outs, written}
use Rattle.chip_sim.specs.Events.{ChipEvent, Heard as chip_hears, Informed, Ticked, after, outs}
use Rattle.mesh_sim.specs.Air.{AirState, is_joined}
use Rattle.mesh_sim.specs.Fates.{Mesh, listener_of, place_of}
use Rattle.mesh_sim.specs.Routes.{backwards}
use Rattle.mesh_sim.specs.Steps.{answered_if, answers_if, changed, heard_again, heard_at, mesh_after, mesh_outs, outs_again, outs_at, outs_hearing, repeat_outs, repeat_outs_by, repeating, repeating_by}
use Rattle.mesh_sim.specs.Steps as mesh
use Rattle.mesh_sim.specs.declared.event.AirEvent.{AirEvent}
use Rattle.zw_words.specs.declared.side.Side.TheVariants.{Host as by_host, Chip as by_chip}
use Rattle.zw_text.specs.declared.entry.Entry.{Entry}
use Rattle.zw_text.specs.declared.entry.Entry.TheVariants.{Refused}
use Rattle.outside_model.specs.declared.waits.Call.{Call}
use Rattle.outside_model.specs.declared.waits.Due.{Due}
use Rattle.outside_model.specs.declared.waits.Due.TheVariants.{Info, NoRoute as no_route_due}
use Rattle.outside_model.specs.State.{OuterState, Outside, outside, each, silent, with_chip}
use Rattle.outside_model.specs.Chip.{chip_does, chip_takes, put_out}
use Rattle.outside_model.specs.Results.{device_at, gives, informs, profile_for}
use Rattle.outside_model.specs.Air.{deals, to_chip}
use Rattle.outside_model.specs.Devices.{acts_at, acts_by_hand}
use Rattle.outside_model.specs.Nodes.{all_pairs, listens_at}
use Rattle.outside_model.specs.Events.{OuterEvent, Host_begins, Chip_takes, Arrives, Gives, Device_ticks, Chip_ticks, Repeats, Wakes_device, Sets_device, Joins, Discovers, Marks_loss, Marks_change, Clears_pipe, has_entered, outcome, repeats, steps, happens as happens_outside, May as MayOutside}
use Rattle.world_model.specs.State.{Machine}
use Rattle.world_model.specs.Events.{Event, Outside_does, Host_does, Host_takes, Decoder_ticks, Refuses, Shows_values, Restarts, happens, shown_values}
use Rattle.proof_line.specs.proof_traffic.Flights.{Fly, flown_in}
use Rattle.proof_line.specs.proof_traffic.Requests.{Word, Traffic, Step, Takes, Stops, Calls, called}
use Rattle.proof_line.specs.proof_traffic.Requests as course
use Rattle.proof_line.specs.proof_traffic.Facts.{flying_in, one_if}
use Rattle.proof_line.specs.proof_traffic.OnAir.{hosts_on_air, on_air}
use Rattle.proof_line.specs.proof_traffic.OutsideTraffic.{Await, Follows, Goes, flags, no_routes_due, of_frame, outward, without_frame, words_all}
use Rattle.proof_line.proofs.Arrivals.{AreTold, Homes, NoNexting, answered_homes, answers_if_told, arrives_go, changed_told, none_home, outward-append, told-append, told_then}
use Rattle.proof_line.proofs.Calm.{Calm, calm_entered, does_calm, enters_calm, takes_calm}
use Rattle.proof_line.proofs.proof_traffic_FactsKept.{one_is}
use Rattle.proof_line.proofs.Flights.{flights_are}
use Rattle.proof_line.proofs.Mild.{AreMild, SameChip, Untouched, each_mild, mild-append, queued_mild, served_mild, written_mild}
use Rattle.proof_line.proofs.Parts.{Laws}
use Rattle.proof_air.specs.proof_walk.Outside.{CoversOuter, nothing}
use Rattle.proof_air.specs.Logs.{Tie}
use Rattle.proof_chip.specs.Calling.{LeavesCalls, Waits}
use Rattle.proof_chip.proofs.Learning.{discovers_keep, joins_keep}

-- ---- each call, through steps of the course of requests

abbrev HasEach : Traffic → Type 0
HasEach t = length t.calls ≡ t.aborted + one_if t.sending

called_each : (t : Traffic) → HasEach t → HasEach (called t)
called_each t known = by (t.aborted == 0) refl
  where
    by : (none : Bool) → (t.aborted == 0) ≡ none → HasEach (if none then record t { sending = false; calls = drop 1 t.calls } else record t { aborted = t.aborted - 1; calls = drop 1 t.calls })
    by true e =
        let none : t.aborted ≡ 0 = grind (arith, e) in
        let one : one_if t.sending ≤ 1 = one_is t.sending in
        let less : length (drop 1 t.calls) ≡ length t.calls - 1 = length-drop 1 t.calls in
        omega (arith, known, none, one, less)
    by false e =
        let some : t.aborted ≢ 0 = grind (arith, e) in
        let less : length (drop 1 t.calls) ≡ length t.calls - 1 = length-drop 1 t.calls in
        omega (arith, known, some, less)

step_each : (t : Traffic) (step : Step) → course.May t step → HasEach t → HasEach (course.after t step)
step_each t (Takes flies) may known =
    length-append t.calls (flies ∷ []) ∙ (ap (λ (n : ℕ). n + 1) (known ∙ ap (λ (b : Bool). t.aborted + one_if b) may.1) ∙ plus_one t.aborted)
  where
    plus_one : (n : ℕ) → n + 0 + 1 ≡ n + 1
    plus_one n = omega arith
step_each t Stops may known = known ∙ (ap (λ (b : Bool). t.aborted + one_if b) may.1 ∙ plus_none t.aborted)
  where
    plus_none : (n : ℕ) → n + 1 ≡ n + 1 + 0
    plus_none n = omega arith
step_each t Calls may known = called_each t known
step_each t step may known = known

steps_each : (t : Traffic) (steps : List Step) → course.MayAll t steps → HasEach t → HasEach (course.after_all t steps)
steps_each t [] may known = known
steps_each t (step ∷ steps) may known = steps_each (course.after t step) steps may.1 (step_each t step may.0 known)

-- ---- a course, and what the chip waits for

-- with these words on their way
abbrev traffic_of : List Word → OuterState → Traffic
traffic_of up o = record { up = up; link = None; pending = None; owes = false; aborted = o.chip.state.aborted; sending = is_some o.chip.state.sending; calls = flags o.calls }

pub flying : (log : List Mark) (frames : FramesState) → IsOf log frames → Fly log (on_air frames) frames
flying log frames kept =
    let all : List Flown = drop frames.landed (flown_in log) in
    let fly : Fly log all frames = record { history = kept; are = refl } in
    subst (λ (flights : List Flown). Fly log flights frames) (flights_are log all frames fly) fly

follows_now : (up : List Word) (past : List Entry) (w : Outside) (tie : Tie nothing past w) → Waits w.outer → Follows (traffic_of up w.outer) tie.log (on_air w.outer.air.frames) w.outer
follows_now up past w tie known = record {
  knows = record { aborted = refl; sending = refl; calls = refl };
  await = known.await;
  fly = flying tie.log w.outer.air.frames tie.kept;
  joined = tie.chip;
}

each_now : (up : List Word) (o : OuterState) → Waits o → HasEach (traffic_of up o)
each_now up o known = length-map o.calls of_frame ∙ known.each

pub follows_waits : (t : Traffic) (log : List Mark) (flights : List Flown) (o : OuterState) → HasEach t → Follows t log flights o → Waits o
follows_waits t log flights o known f = record {
  each = sym (length-map o.calls of_frame) ∙ (ap length (sym f.knows.calls) ∙ (known ∙ ap₂ (λ (n : ℕ) (b : Bool). n + one_if b) f.knows.aborted f.knows.sending));
  await = subst (λ (fs : List Flown). Await fs o) (flights_are log flights o.air.frames f.fly) f.await;
}

goes_waits : (t : Traffic) (log : List Mark) (flights : List Flown) (o : OuterState) (up : List Word) → HasEach t → Goes t log flights o up → Waits o
goes_waits t log flights o up known g = follows_waits (course.after_all t g.steps) (log ++ g.more) g.now o (steps_each t g.steps g.may known) g.follows

-- ---- where nothing of it changes

record Alike (o p : OuterState) : Type 0 where
  aborted : p.chip.state.aborted ≡ o.chip.state.aborted
  sending : is_some p.chip.state.sending ≡ is_some o.chip.state.sending
  calls : p.calls ≡ o.calls
  due : no_routes_due p.due ≡ no_routes_due o.due
  on : hosts_on_air p ≡ hosts_on_air o

alike_then : (o p q : OuterState) → Alike o p → Alike p q → Alike o q
alike_then o p q first later = record {
  aborted = later.aborted ∙ first.aborted;
  sending = later.sending ∙ first.sending;
  calls = later.calls ∙ first.calls;
  due = later.due ∙ first.due;
  on = later.on ∙ first.on;
}

waits_alike : (o p : OuterState) → Alike o p → Waits o → Waits p
waits_alike o p alike known = record {
  each = ap length alike.calls ∙ (known.each ∙ ap₂ (λ (n : ℕ) (b : Bool). n + one_if b) (sym alike.aborted) (sym alike.sending));
  await = record {
    frames = alike.on ∙ (known.await.frames ∙ ap (λ (calls : List Call). flying_in (flags calls)) (sym alike.calls));
    results = alike.due ∙ (known.await.results ∙ ap (λ (calls : List Call). without_frame (flags calls)) (sym alike.calls));
  };
}

same : (o : OuterState) → Alike o o
same o = record { aborted = refl; sending = refl; calls = refl; due = refl; on = refl }

calm_alike : (o p : OuterState) → Calm o p → Alike o p
calm_alike o p calm = record {
  aborted = ap (λ (s : ChipState). s.aborted) calm.chip;
  sending = ap (λ (s : ChipState). is_some s.sending) calm.chip;
  calls = calm.calls;
  due = ap no_routes_due calm.due;
  on = ap outward calm.on;
}

-- what is entered changes nothing of it
unentered : (o : OuterState) (told : List Entry) → Alike (has_entered o told) o
unentered o [] = same o
unentered o (first ∷ told) = record { aborted = refl; sending = refl; calls = refl; due = refl; on = refl }

entered_waits : (o : OuterState) (told : List Entry) → Waits o → Waits (has_entered o told)
entered_waits o told known = waits_alike o (has_entered o told) (calm_alike o (has_entered o told) (calm_entered o told)) known

-- ---- the chip

does_alike : (o : OuterState) (event : ChipEvent) → SameChip o.chip.state (after o.chip.state event) → AreMild (outs o.chip.state event) → Alike o (chip_does o event).outer
unfolding chip_does
does_alike o event chip mild =
    let p : OuterState = with_chip o (after o.chip.state event) in
    let untouched : Untouched p (each put_out p (outs o.chip.state event)).outer = each_mild p (outs o.chip.state event) mild in
    record {
      aborted = ap (λ (s : ChipState). s.aborted) untouched.chip ∙ chip.aborted;
      sending = ap (λ (s : ChipState). is_some s.sending) untouched.chip ∙ chip.sending;
      calls = untouched.calls;
      due = untouched.due;
      on = ap (λ (a : AirState). outward (on_air a.frames)) untouched.air;
    }

heard_alike : (o : OuterState) (from : ℕ) (payload : List ℕ) → Alike o (to_chip o from payload).outer
heard_alike o from payload = by (nat_le 1 (length payload) && nat_le (length payload) 46)
  where
    by : (b : Bool) → Alike o (if b then chip_does o (chip_hears from payload) else silent o).outer
    by true = does_alike o (chip_hears from payload) (record { aborted = refl; sending = refl; joined = refl }) (queued_mild o.chip.state.port _)
    by false = same o

ticks_mild : (port : PortState) → AreMild (ticked_outs port)
ticks_mild port = mild-append (written (copy_due port.side.turn)) (served_outs (ticked port)) (written_mild (copy_due port.side.turn)) (served_mild (ticked port))

-- ---- what happens outside the host

abbrev under_way : ChipState → ℕ × Bool
under_way s = (s.aborted, is_some s.sending)

module _ (laws : Laws) (none : NoNexting) (past : List Entry) (w : Outside) (tie : Tie nothing past w) where
  abbrev o : OuterState
  o = w.outer

  abbrev flights : List Flown
  flights = on_air w.outer.air.frames

  fly : Fly tie.log flights w.outer.air.frames
  fly = flying tie.log w.outer.air.frames tie.kept

  -- ---- devices put frames on the air

  placed : (node : ℕ) → (node < length w.outer.air.joined) ⊎ (length w.outer.air.joined ≤ node) → is_joined w.outer.air node ≡ true → node < 233
  placed node (inl below) joins = subst (λ (n : ℕ). node < n) tie.air below
  placed node (inr far) joins = let out : false ≡ true = sym (get_or_past w.outer.air.joined node false far) ∙ joins in absurd cc

  pub homes : (node : ℕ) (way : Option Route) (replies : List (List ℕ)) → Homes tie.log flights (answered_if (is_joined w.outer.air node) w.outer.air node way replies).frames
  homes node way replies = by (is_joined w.outer.air node) (placed node (cases_lt node (length w.outer.air.joined)))
    where
      by : (b : Bool) → (b ≡ true → node < 233) → Homes tie.log flights (answered_if b w.outer.air node way replies).frames
      by true within = answered_homes laws.air.goes tie.log flights w.outer.air node way replies (within refl) fly
      by false within = none_home tie.log flights w.outer.air.frames fly

  homes_alike : (air : AirState) → Homes tie.log flights air.frames → Alike o (record w.outer { air = air })
  homes_alike air home = record {
    aborted = refl;
    sending = refl;
    calls = refl;
    due = refl;
    on =
        let all : outward (flights ++ home.home) ≡ outward flights + outward home.home = outward-append flights home.home in
        let none_out : outward home.home ≡ 0 = home.none_outward in
        let still : outward (flights ++ home.home) ≡ outward flights = omega (arith, all, none_out) in
        sym (ap outward (flights_are (tie.log ++ home.more) (flights ++ home.home) air.frames home.fly)) ∙ still;
  }

  at_alike : (found : Option State) (event : DeviceEvent) (route : Option Route) → Alike o (acts_at o found event route).outer
  at_alike None event route = same o
  at_alike (Some device) event route = homes_alike _ (homes device.node (option_map backwards route) (device_replies device event))

  hand_alike : (place : Option ℕ) (event : DeviceEvent) (route : Option Route) → Alike o (acts_by_hand o w.devices place event route).outer
  hand_alike None event route = same o
  hand_alike (Some place) event route = at_alike (slice_get w.devices place) event route

  -- ---- a frame is heard again

  abbrev there : Mesh
  there = record { air = w.outer.air; devices = w.devices }

  hears_alike : (number place node : ℕ) (payload : List ℕ) (found : Option State) (drawn : List ℕ) (route : Option Route)
      → Alike o (each (deals (heard_at there place found node route (Hears payload drawn)).devices) (record w.outer { air = (heard_at there place found node route (Hears payload drawn)).air })
      (outs_at there found number node route (Hears payload drawn))).outer
  hears_alike number place node payload None drawn route = same o
  hears_alike number place node payload (Some device) drawn route =
      let event : DeviceEvent = Hears payload drawn in
      let way : Option Route = option_map backwards route in
      let replies : List (List ℕ) = device_replies device event in
      let air : AirState = answered_if (is_joined w.outer.air node) w.outer.air node way replies in
      let devices : List State = (heard_at there place (Some device) node route event).devices in
      let events : List AirEvent = outs_hearing w.outer.air number node route device event in
      let many : ℕ = length (device_after device event).journal - length device.journal in
      let told : AreTold events = (
        tt,
        told-append (changed node (length device.journal) many) (answers_if (is_joined w.outer.air node) w.outer.air node way replies) (changed_told node (length device.journal) many)
            (answers_if_told (is_joined w.outer.air node) w.outer.air node way replies),
      ) in
      subst (λ (p : OuterState). Alike o p) (sym (ap (λ (es : List AirEvent). (each (deals devices) (record w.outer { air = air }) es).outer) (sym (append-nil events)) ∙ told_then devices (record w.outer { air = air }) events [] told))
      (homes_alike air (homes node way replies))

  again_alike : (number : ℕ) (frame : Flown) (drawn : List ℕ) (route : Option Route) (heading : Heading)
      → Alike o (each (deals (repeating_by heading there frame drawn route).devices) (record w.outer { air = (repeating_by heading there frame drawn route).air }) (repeat_outs_by heading there number frame drawn route)).outer
  again_alike number frame drawn route Homeward = heard_alike o frame.node frame.payload
  again_alike number frame drawn route Outward = by (listener_of frame.node w.devices)
    where
      by : (listener : Option ℕ) → Alike o (each (deals (heard_again there listener frame.node route (Hears frame.payload drawn)).devices)
          (record w.outer { air = (heard_again there listener frame.node route (Hears frame.payload drawn)).air }) (outs_again there listener number frame.node route (Hears frame.payload drawn))).outer
      by None = same o
      by (Some place) = hears_alike number place frame.node frame.payload (slice_get w.devices place) drawn route

  repeats_alike : (number : ℕ) (refused : Option RepeatRefusal) (drawn : List ℕ) (route : Option Route) → Alike o (repeats w refused (mesh.Repeats number drawn route)).outer
  unfolding mesh_after mesh_outs
  repeats_alike number (Some refused) drawn route = same o
  repeats_alike number None drawn route = by (remembered w.outer.air.frames number)
    where
      by : (found : Option Flown) → Alike o (each (deals (repeating there found drawn route).devices) (record w.outer { air = (repeating there found drawn route).air }) (repeat_outs there number found drawn route)).outer
      by None = same o
      by (Some frame) = again_alike number frame drawn route frame.heading

  -- ---- an event at which the chip takes nothing and no result comes

  outcome_alike : (event : OuterEvent) → LeavesCalls event → Alike o (outcome w event).outer
  unfolding outcome all_pairs
  outcome_alike (Host_begins node sessions) leaves = absurd leaves
  outcome_alike (Chip_takes count rest ways) leaves = absurd leaves
  outcome_alike (Arrives drawn route) leaves = absurd leaves
  outcome_alike (Gives route) leaves = absurd leaves
  outcome_alike (Device_ticks place drawn route) leaves = at_alike (slice_get w.devices place) (Ticks drawn) route
  outcome_alike Chip_ticks leaves =
      let q : OuterState = record w.outer { chip = record { decoder = after_tick o.chip.decoder; state = o.chip.state } } in
      alike_then o q (chip_does q Ticked).outer (record { aborted = refl; sending = refl; calls = refl; due = refl; on = refl })
      (does_alike q Ticked (record { aborted = refl; sending = refl; joined = refl }) (ticks_mild q.chip.state.port))
  outcome_alike (Repeats number drawn route) leaves = repeats_alike number (refusal_of w.outer.air.frames number) drawn route
  outcome_alike (Wakes_device node route) leaves = hand_alike (place_of node w.devices) Wakes route
  outcome_alike (Sets_device node value route) leaves = hand_alike (place_of node w.devices) (Sets value) route
  outcome_alike (Joins node) leaves =
      let listening : Bool = listens_at (device_at w.devices (place_of node w.devices)) in
      let chip = joins_keep under_way (λ s a b live. refl) w.outer node listening in
      record { aborted = ap (λ (u : ℕ × Bool). u.0) chip; sending = ap (λ (u : ℕ × Bool). u.1) chip; calls = refl; due = refl; on = refl }
  outcome_alike Discovers leaves =
      let chip = discovers_keep under_way (λ s a b live. refl) w.outer in
      record { aborted = ap (λ (u : ℕ × Bool). u.0) chip; sending = ap (λ (u : ℕ × Bool). u.1) chip; calls = refl; due = refl; on = refl }
  outcome_alike (Marks_loss by_host) leaves = record { aborted = refl; sending = refl; calls = refl; due = refl; on = refl }
  outcome_alike (Marks_loss by_chip) leaves = record { aborted = refl; sending = refl; calls = refl; due = refl; on = refl }
  outcome_alike (Marks_change by_host garble) leaves = record { aborted = refl; sending = refl; calls = refl; due = refl; on = refl }
  outcome_alike (Marks_change by_chip garble) leaves = record { aborted = refl; sending = refl; calls = refl; due = refl; on = refl }
  outcome_alike (Clears_pipe by_host) leaves = record { aborted = refl; sending = refl; calls = refl; due = refl; on = refl }
  outcome_alike (Clears_pipe by_chip) leaves = record { aborted = refl; sending = refl; calls = refl; due = refl; on = refl }
  outcome_alike event leaves = record { aborted = refl; sending = refl; calls = refl; due = refl; on = refl }

  pub leaves_waits : (event : OuterEvent) → LeavesCalls event → Waits w.outer → Waits (happens_outside w event).outer
  leaves_waits event leaves known =
      entered_waits (outcome w event).outer (outcome w event).entries (waits_alike o (outcome w event).outer (outcome_alike event leaves) known)

  -- ---- the next frame arrives

  pub arrives_waits : (drawn : List ℕ) (route : Option Route) → MayOutside w (Arrives drawn route) → Waits w.outer → Waits (happens_outside w (Arrives drawn route)).outer
  unfolding outcome MayOutside
  arrives_waits drawn route may known =
      let t : Traffic = traffic_of [] o in
      entered_waits (outcome w (Arrives drawn route)).outer (outcome w (Arrives drawn route)).entries
      (goes_waits t tie.log flights (steps w (mesh.Arrives drawn route)).outer [] (each_now [] o known)
      (arrives_go laws.air.goes laws.air.lands laws.air.next none t tie.log flights o w.devices drawn route (follows_now [] past w tie known) may))

  -- ---- the first of what is due is given, while no frame of the chip is on the air

  given_waits : (route : Option Route) (due : List Due) → w.outer.due ≡ due → MayOutside w (Gives route) → hosts_on_air w.outer ≡ 0 → Waits w.outer → Waits (gives o w.devices due route).outer
  unfolding outcome MayOutside
  given_waits route [] is may clear known = known
  given_waits route (Info node ∷ due) is may clear known =
      let q : OuterState = record w.outer { due = due } in
      let less : no_routes_due due ≡ no_routes_due o.due = same_count (no_routes_due due) (no_routes_due o.due) (ap no_routes_due is) in
      waits_alike o (informs q w.devices node route).outer
      (alike_then o q (informs q w.devices node route).outer (record { aborted = refl; sending = refl; calls = refl; due = less; on = refl })
      (does_alike q (Informed node (profile_for q.air w.devices node route)) (record { aborted = refl; sending = refl; joined = refl }) (queued_mild q.chip.state.port _)))
      known
    where
      same_count : (a b : ℕ) → b ≡ 0 + a → a ≡ b
      same_count a b is = omega (arith, is)
  given_waits route (no_route_due ∷ due) is may clear known =
      let t : Traffic = traffic_of [] o in
      let alone : Outside = outside o [] in
      let there = outcome alone (Gives route) in
      subst (λ (d : List Due). Waits (gives o [] d route).outer) is
      (waits_alike (has_entered there.outer there.entries) there.outer (unentered there.outer there.entries)
      (goes_waits t tie.log flights (happens_outside alone (Gives route)).outer [] (each_now [] o known)
      (laws.outer t tie.log flights alone (Gives route) (follows_now [] past w tie known) tt may clear)))

  pub gives_waits : (route : Option Route) → MayOutside w (Gives route) → hosts_on_air w.outer ≡ 0 → Waits w.outer → Waits (happens_outside w (Gives route)).outer
  unfolding outcome
  gives_waits route may clear known = entered_waits (outcome w (Gives route)).outer (outcome w (Gives route)).entries (given_waits route w.outer.due refl may clear known)

  -- ---- the chip takes bytes

  pub takes_waits : (count : ℕ) (rest : Rest) (ways : List (Item × Option Route)) → Waits w.outer → Waits (happens_outside w (Chip_takes count rest ways)).outer
  unfolding outcome
  takes_waits count rest ways known =
      let words : List Word = words_all (map (λ (way : Item × Option Route). way.0) ways) ++ [] in
      let t : Traffic = traffic_of words o in
      entered_waits (outcome w (Chip_takes count rest ways)).outer (outcome w (Chip_takes count rest ways)).entries
      (goes_waits t tie.log flights (chip_takes o count rest ways).outer [] (each_now words o known)
      (laws.takes t tie.log flights o count rest ways [] (follows_now words past w tie known) refl))

-- ---- an event of the machine

module _ (laws : Laws) (none : NoNexting) where
  pub event_waits : (past : List Entry) (m : Machine) (event : Event) → CoversOuter LeavesCalls event → Tie nothing past m.outside → Waits m.outside.outer → Waits (happens m event).outside.outer
  unfolding happens
  event_waits past m (Outside_does event) leaves tie known = leaves_waits laws none past m.outside tie event leaves known
  event_waits past m (Host_does event) leaves tie known =
      waits_alike m.outside.outer (happens m (Host_does event)).outside.outer (calm_alike m.outside.outer (happens m (Host_does event)).outside.outer (does_calm laws.air m event)) known
  event_waits past m (Host_takes count rest items events) leaves tie known =
      let n : Machine = happens m (Host_takes count rest items events) in
      waits_alike m.outside.outer n.outside.outer (calm_alike m.outside.outer n.outside.outer (takes_calm laws.air m count rest items events)) known
  event_waits past m Decoder_ticks leaves tie known = known
  event_waits past m (Refuses line refusal) leaves tie known =
      let n : Machine = happens m (Refuses line refusal) in
      waits_alike m.outside.outer n.outside.outer (calm_alike m.outside.outer n.outside.outer (enters_calm laws.air m (Refused refusal))) known
  event_waits past m (Shows_values node) leaves tie known =
      let n : Machine = happens m (Shows_values node) in
      waits_alike m.outside.outer n.outside.outer (calm_alike m.outside.outer n.outside.outer (enters_calm laws.air m (shown_values m.host.state node))) known
  event_waits past m (Restarts state) leaves tie known = known
