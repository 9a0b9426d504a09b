-- Each payload that the chip brings was heard: what happens outside the host goes on so, beside the history of the air.
use Rattle.std.proofs.Common.{◌≡◌, ℕ, ◌+◌, ◌&&◌, Bool, true, false, if◌then◌else◌, List, [], ◌∷◌, ◌++◌, length, map, filter, refl, sym, ap, subst, append-nil, nat_le, inl}
use Rattle.std.proofs.lemmas.Bool.{leb-true}
use Rattle.std.specs.Prelude.{Option, Some, None, slice_get, slice_set}
use Rattle.std.specs.List.{flat_map, range_with_len, AllByRecursion}
use Rattle.zw_base.proofs.Each.{all-append, all-weaker}
use Rattle.serial_frame.specs.Stream.{after_tick}
use Rattle.serial_frame.specs.declared.item.Item.{Item}
use Rattle.serial_pipes.specs.Events.{told}
use Rattle.route_table.specs.declared.route.Route.{Route}
use Rattle.air_frames.specs.declared.frame.Heading.{Heading}
use Rattle.air_frames.specs.declared.frame.Heading.TheVariants.{Outward, Homeward}
use Rattle.air_frames.specs.Flown.{Flown}
use Rattle.air_frames.specs.Frames.{next_of, remembered}
use Rattle.chip_sim.specs.State.{ChipState, ChipParts}
use Rattle.chip_sim.specs.Events.{ChipEvent, Judged, Ticked, Heard as chip_hears, Joined, after}
use Rattle.chip_sim.specs.Did.{after_all}
use Rattle.law_wire.specs.device_sim.State.{State}
use Rattle.law_wire.specs.device_sim.Event.{DeviceEvent, Hears, device_after}
use Rattle.proof_walk.specs.mesh_sim.declared.event.AirEvent.{AirEvent}
use Rattle.proof_walk.specs.mesh_sim.declared.event.AirEvent.TheVariants as air_event
use Rattle.proof_walk.specs.mesh_sim.declared.fate.Fate.{Fate}
use Rattle.proof_walk.specs.mesh_sim.declared.fate.Fate.TheVariants as fate
use Rattle.proof_walk.specs.mesh_sim.Air.{AirState, joining}
use Rattle.proof_walk.specs.mesh_sim.Fates.{Mesh, dead_hop_of, fate_of, listener_of, place_of}
use Rattle.proof_walk.specs.mesh_sim.Steps.{AirStep, landed, acknowledged, status_of as status_at, done_of, outs_at, arrival_outs_as, arrival_outs, outs_again, repeat_outs_by, repeat_outs, mesh_after, mesh_outs}
use Rattle.proof_walk.specs.mesh_sim.Steps as mesh
use Rattle.zw_text.specs.declared.entry.Entry.{Entry}
use Rattle.zw_text.specs.declared.entry.Entry.TheVariants as entry
use Rattle.zw_text.specs.Transcript.{heard, heard_at}
use Rattle.zw_text.proofs.Views.{shown-append}
use Rattle.law_wire.specs.law_transcript.Lists.{EachAfter, Has}
use Rattle.law_wire.specs.law_transcript.Carrying.{MayBring}
use Rattle.law_wire.proofs.Having.{has_right}
use Rattle.proof_walk.specs.outside_model.State.{OuterState, Outside, outside, silent as silently, each}
use Rattle.proof_walk.specs.outside_model.Chip.{chip_does, chip_ticks}
use Rattle.proof_walk.specs.outside_model.Results.{frame_ends, device_at}
use Rattle.proof_walk.specs.outside_model.Air.{deals, change_entries, change_at}
use Rattle.proof_walk.specs.outside_model.Devices.{acts}
use Rattle.proof_walk.specs.outside_model.Nodes.{joins, listens_at, links_of, pairs_of, is_known, discovers, all_pairs}
use Rattle.proof_walk.specs.outside_model.Events.{OuterEvent, Host_notes, Joins, Discovers, Links, Loses, Loses_acks, Collides_next, outcome, mesh_of}
use Rattle.proof_walk.specs.Outside.{Pending, Judging, Dealing, nothing, Moves, Outer, IsSimple, IsHearing, IsOfAir, session_begins}
use Rattle.proof_walk.proofs.Linking.{acts_of_air}
use Rattle.proof_walk.proofs.ChangesOutside.{fate_home}
use Rattle.proof_walk.proofs.Entered.{IsChange, change_entered}
use Rattle.proof_walk.proofs.Entering.{outs_again_are, outs_at_are, pipes_leave}
use Rattle.proof_walk.proofs.Results.{gives_go}
use Rattle.proof_air.specs.Logs.{Tie}
use Rattle.proof_air.specs.Hearing.{JoinsNode}
use Rattle.proof_air.specs.Carrying.{Brings, PortHas, Come, Holds, KnowsBeside}
use Rattle.proof_air.proofs.Airing.{Goes_on, session_goes}
use Rattle.proof_air.proofs.Judging.{StartsSo, both_true}
use Rattle.proof_air.proofs.Outer.{same, same_tie, number_goes, takes_goes, ticks_goes, judging, from_judging, Puts, results, deals_go, step_goes, acts_goes, simple_goes}
use Rattle.proof_air.proofs.Homes.{port_stays, come_on, come_after, heard_picked, next_home, again_home}
use Rattle.proof_air.proofs.Brought.{handler_brings}
use Rattle.proof_air.proofs.Ports.{HearsSo, after_has}
use Rattle.proof_air.proofs.Putting.{BringsNone, BringNone, pipes_none, change_none, note_none, air_none, Kept, quiet, Puts_on, chip_kept, still_on, posted, does_on, ends_on, gives_on}

-- ---- beside the history of the air

beside : (before after : Pending) (w later : Outside) (told : List Entry) → Goes_on before w told after later → Kept before w told after later
    → Moves MayBring (KnowsBeside before) w told (KnowsBeside after) later
beside before after w later told goes kept awaits past silent knows = let got = kept past knows.1 in (got.0, (goes.ties past knows.0, got.1))

-- nothing is entered, and the port stays
holds_still : (w later : Outside) (past : List Entry) → later.outer.chip.state.port ≡ w.outer.chip.state.port → Holds nothing past w → Holds nothing past later
holds_still w later past is holds = record { port = subst (PortHas (Brings past)) (sym is) holds.port; come = tt }

-- ---- what the air tells

module _ (devices : List State) (o : OuterState) where
  -- only entries, and none that is heard
  told_kept : (events : List AirEvent) (told : List Entry) (past : List Entry) → BringNone told → PortHas (Brings past) o.chip.state.port → Come past (heard past) events
      → EachAfter MayBring past told × Holds (Dealing events) (past ++ told) (outside o devices)
  told_kept events told past none port come = quiet (Dealing events) (outside o devices) (outside o devices) told none refl past (record { port = port; come = come })

  deals_kept : (event : AirEvent) (events : List AirEvent)
      → Kept (Dealing (event ∷ events)) (outside o devices) (deals devices o event).entries (Dealing events) (outside (deals devices o event).outer devices)
  deals_kept (air_event.Heard frame) events past holds =
      let told : List Entry = entry.Heard frame ∷ [] in (
        (tt, tt),
        record {
          port = port_stays past told o.chip.state.port holds.port;
          come = come_on past told (heard past ++ frame ∷ []) (λ number has. subst (λ (l : List ℕ). Has l number) (sym (shown-append heard_at past told)) has) events holds.come;
        },
      )
  deals_kept (air_event.Lost frame) events past holds = told_kept events (entry.Lost frame ∷ []) past (tt, tt) holds.port holds.come
  deals_kept (air_event.Unheard frame) events past holds = told_kept events (entry.Unheard frame ∷ []) past (tt, tt) holds.port holds.come
  deals_kept (air_event.Sent frame from to route payload) events past holds = told_kept events _ past (tt, tt) holds.port holds.come
  deals_kept (air_event.Changed node at) events past holds =
      told_kept events (change_entries node (change_at (device_at devices (place_of node devices)) at)) past
      (all-weaker IsChange BringsNone change_none _ (change_entered node (change_at (device_at devices (place_of node devices)) at))) holds.port holds.come
  deals_kept (air_event.ToChip frame from payload) events past holds = by (nat_le 1 (length payload) && nat_le (length payload) 46) refl
    where
      by : (b : Bool) → nat_le 1 (length payload) && nat_le (length payload) 46 ≡ b
          → EachAfter MayBring past (if b then chip_does o (chip_hears from payload) else silently o).entries
          × Holds (Dealing events) (past ++ (if b then chip_does o (chip_hears from payload) else silently o).entries) (outside (if b then chip_does o (chip_hears from payload) else silently o).outer devices)
      by true is =
          let some = leb-true 1 (length payload) (both_true (nat_le 1 (length payload)) (nat_le (length payload) 46) is).0 in
          let brings = handler_brings past from payload some (heard_picked past frame from payload holds.come.0.0 holds.come.0.1) in
          let got = does_on o (chip_hears from payload) past brings holds.port in
          (got.0, record { port = got.1; come = come_after past (chip_does o (chip_hears from payload)).entries events holds.come.1 })
      by false is = chip_kept (Dealing events) o (silently o) devices devices (still_on o o refl) past (record { port = holds.port; come = holds.come.1 })
  deals_kept (air_event.Done frame status dead) events past holds =
      chip_kept (Dealing events) o (frame_ends o status dead) devices devices (ends_on o status dead) past (record { port = holds.port; come = holds.come })

-- ---- a frame is heard

-- nothing comes to the chip
abbrev NoneComes : AirEvent → Type 0
NoneComes (air_event.ToChip frame from payload) = ⊥
NoneComes event = Unit {0}

abbrev NoneCome : List AirEvent → Type 0
NoneCome events = AllByRecursion NoneComes events

none_come : (past : List Entry) (numbers : List ℕ) (events : List AirEvent) → NoneCome events → Come past numbers events
none_come past numbers [] none = tt
none_come past numbers (air_event.Heard frame ∷ events) none = none_come past (numbers ++ frame ∷ []) events none.1
none_come past numbers (air_event.Lost frame ∷ events) none = none_come past numbers events none.1
none_come past numbers (air_event.Unheard frame ∷ events) none = none_come past numbers events none.1
none_come past numbers (air_event.Sent frame from to route payload ∷ events) none = none_come past numbers events none.1
none_come past numbers (air_event.Changed node at ∷ events) none = none_come past numbers events none.1
none_come past numbers (air_event.ToChip frame from payload ∷ events) none = absurd none.0
none_come past numbers (air_event.Done frame status dead ∷ events) none = none_come past numbers events none.1

done_none : (heading : Heading) (number status : ℕ) (dead : Option (ℕ × ℕ)) → NoneCome (done_of heading number status dead)
done_none Outward number status dead = (tt, tt)
done_none Homeward number status dead = tt

device_none : (base : Mesh) (found : Option State) (number node : ℕ) (route : Option Route) (event : DeviceEvent) → NoneCome (outs_at base found number node route event)
device_none base found number node route event = outs_at_are NoneComes node (λ at. tt) (λ frame over payload. tt) number tt base found route event

module _ (past : List Entry) (w : Outside) (tie : Tie nothing past w) where
  arrives_so : (frame : Flown) (x : Fate) (drawn : List ℕ) (route : Option Route) → next_of w.outer.air.frames ≡ Some frame → fate_of w.outer.air.network w.devices frame ≡ x
      → Come past (heard past) (arrival_outs_as (mesh_of w) (w.outer.air.frames.landed + 1) frame x drawn route)
  arrives_so frame fate.Lost drawn route next is =
      let number : ℕ = w.outer.air.frames.landed + 1 in
      none_come past (heard past) (air_event.Lost number ∷ done_of frame.heading number 1 None) (tt, done_none frame.heading number 1 None)
  arrives_so frame (fate.Dead from to) drawn route next is =
      let number : ℕ = w.outer.air.frames.landed + 1 in
      none_come past (heard past) (air_event.Unheard number ∷ done_of frame.heading number 1 (Some (from, to))) (tt, done_none frame.heading number 1 (Some (from, to)))
  arrives_so frame fate.Missed drawn route next is =
      let number : ℕ = w.outer.air.frames.landed + 1 in
      none_come past (heard past) (air_event.Unheard number ∷ done_of frame.heading number 1 None) (tt, done_none frame.heading number 1 None)
  arrives_so frame fate.AtChip drawn route next is =
      let number : ℕ = w.outer.air.frames.landed + 1 in
      let heads = fate_home frame.lost (dead_hop_of w.outer.air.network frame) frame.heading (listener_of frame.node w.devices) is in
      ((has_right (heard past) (number ∷ []) number (inl refl), next_home past w tie frame next heads), tt)
  arrives_so frame (fate.AtDevice place) drawn route next is =
      let number : ℕ = w.outer.air.frames.landed + 1 in
      let base : Mesh = record { air = landed (acknowledged w.outer.air); devices = w.devices } in
      let told : List AirEvent = outs_at base (slice_get w.devices place) number frame.node route (Hears frame.payload drawn) in
      let end : List AirEvent = air_event.Done number (status_at w.outer.air) None ∷ [] in
      none_come past (heard past) (told ++ end)
      (all-append NoneComes told end (device_none base (slice_get w.devices place) number frame.node route (Hears frame.payload drawn)) (tt, tt))

  arrives_if : (found : Option Flown) (drawn : List ℕ) (route : Option Route) → next_of w.outer.air.frames ≡ found → Come past (heard past) (arrival_outs (mesh_of w) found drawn route)
  arrives_if None drawn route next = tt
  arrives_if (Some frame) drawn route next = arrives_so frame (fate_of w.outer.air.network w.devices frame) drawn route next refl

  again_so : (heading : Heading) (number : ℕ) (frame : Flown) (drawn : List ℕ) (route : Option Route) → remembered w.outer.air.frames number ≡ Some frame → frame.heading ≡ heading
      → Come past (heard past) (repeat_outs_by heading (mesh_of w) number frame drawn route)
  again_so Homeward number frame drawn route found heads = ((has_right (heard past) (number ∷ []) number (inl refl), again_home past w tie number frame found heads), tt)
  again_so Outward number frame drawn route found heads =
      none_come past (heard past) (outs_again (mesh_of w) (listener_of frame.node w.devices) number frame.node route (Hears frame.payload drawn))
      (outs_again_are NoneComes frame.node (λ at. tt) (λ frame over payload. tt) number tt (mesh_of w) (listener_of frame.node w.devices) route (Hears frame.payload drawn))

  again_if : (number : ℕ) (found : Option Flown) (drawn : List ℕ) (route : Option Route) → remembered w.outer.air.frames number ≡ found
      → Come past (heard past) (repeat_outs (mesh_of w) number found drawn route)
  again_if number None drawn route is = tt
  again_if number (Some frame) drawn route is = again_so frame.heading number frame drawn route is refl

  step_so : (step : AirStep) → IsHearing step → Come past (heard past) (mesh_outs (mesh_of w) step)
  unfolding mesh_outs
  step_so (mesh.Arrives drawn route) hearing = arrives_if (next_of w.outer.air.frames) drawn route refl
  step_so (mesh.Repeats number drawn route) hearing = again_if number (remembered w.outer.air.frames number) drawn route refl
  step_so step hearing = absurd hearing

steps_beside : (w : Outside) (step : AirStep) → IsHearing step
    → Moves MayBring (KnowsBeside nothing) w [] (KnowsBeside (Dealing (mesh_outs (mesh_of w) step)))
    (outside (record w.outer { air = (mesh_after (mesh_of w) step).air }) (mesh_after (mesh_of w) step).devices)
steps_beside w step hearing awaits past silent knows = (
  tt,
  (
    (step_goes w step hearing).ties past knows.0,
    record {
      port = subst (λ (l : List Entry). PortHas (Brings l) w.outer.chip.state.port) (sym (append-nil past)) knows.1.port;
      come = subst (λ (l : List Entry). Come l (heard l) (mesh_outs (mesh_of w) step)) (sym (append-nil past)) (step_so past w knows.0 step hearing);
    },
  ),
)

-- ---- what lines set

-- events that only set what the chip knows
sets_on : (past : List Entry) (events : List ChipEvent) (s : ChipState) → AllByRecursion (HearsSo (Brings past)) events → PortHas (Brings past) s.port → PortHas (Brings past) (after_all s events).port
sets_on past [] s hear has = has
sets_on past (event ∷ events) s hear has = sets_on past events (after s event) hear.1 (after_has (Brings past) (posted past) s event hear.0 has)

all_link : (past : List Entry) (link : ℕ → ChipEvent) → ((other : ℕ) → HearsSo (Brings past) (link other)) → (l : List ℕ) → AllByRecursion (HearsSo (Brings past)) (map link l)
all_link past link each [] = tt
all_link past link each (other ∷ l) = (each other, all_link past link each l)

pairs_link : (past : List Entry) (air : AirState) (l : List ℕ) → AllByRecursion (HearsSo (Brings past)) (flat_map (λ (node : ℕ). pairs_of air node) l)
pairs_link past air [] = tt
pairs_link past air (node ∷ l) =
    all-append (HearsSo (Brings past)) (pairs_of air node) (flat_map (λ (n : ℕ). pairs_of air n) l) (all_link past _ (λ other. tt) _) (pairs_link past air l)

joins_on : (o : OuterState) (node : ℕ) (listening : Bool) → Puts_on o (silently (joins o node listening))
joins_on o node listening past has = (
  tt,
  subst (λ (l : List Entry). PortHas (Brings l) (joins o node listening).chip.state.port) (sym (append-nil past))
      (sets_on past (Joined node listening ∷ links_of (joining o.air node listening) node) o.chip.state (tt, all_link past _ (λ other. tt) _) has),
)

discovers_on : (o : OuterState) → Puts_on o (silently (discovers o))
unfolding all_pairs
discovers_on o past has = (
  tt,
  subst (λ (l : List Entry). PortHas (Brings l) (discovers o).chip.state.port) (sym (append-nil past)) (sets_on past (all_pairs o.air) o.chip.state (pairs_link past o.air (filter (λ (node : ℕ). is_known o.air node) (range_with_len 1 232))) has),
)

collides_on : (o : OuterState) → Puts_on o (outcome (outside o []) Collides_next)
unfolding outcome
collides_on o past has = (
  tt,
  subst (λ (l : List Entry). PortHas (Brings l) (outcome (outside o []) Collides_next).outer.chip.state.port) (sym (append-nil past)) (record { turn = has.turn; waiting = has.waiting }),
)

-- ---- simple events

module _ (w : Outside) where
  abbrev Keeps : OuterEvent → Type 0
  Keeps event = Kept nothing w (outcome w event).entries nothing (outside (outcome w event).outer w.devices)

  simple_kept : (event : OuterEvent) → IsSimple event → Keeps event
  unfolding outcome
  simple_kept (Host_notes note) simple = quiet nothing w w (note ∷ []) (note_none note simple.0, tt) refl
  simple_kept (Joins node) simple =
      chip_kept nothing w.outer _ w.devices w.devices (joins_on w.outer node (listens_at (device_at w.devices (place_of node w.devices))))
  simple_kept Discovers simple = chip_kept nothing w.outer _ w.devices w.devices (discovers_on w.outer)
  simple_kept (Links a b live) simple = quiet nothing w _ [] tt refl
  simple_kept (Loses count) simple = quiet nothing w _ [] tt refl
  simple_kept (Loses_acks count) simple = quiet nothing w _ [] tt refl
  simple_kept Collides_next simple = chip_kept nothing w.outer _ w.devices w.devices (collides_on w.outer)
  simple_kept event simple =
      quiet nothing w (outside (outcome w event).outer w.devices) (outcome w event).entries (pipes_none w event simple) (ap (λ (c : ChipParts). c.state.port) (pipes_leave w event simple).0)

-- ---- all of it

judges_kept : (w : Outside) (way : Item × Option Route) (ways : List (Item × Option Route))
    → Kept (Judging (way ∷ ways)) w (chip_does w.outer (Judged way.0 way.1)).entries (Judging ways) (outside (chip_does w.outer (Judged way.0 way.1)).outer w.devices)
judges_kept w way ways past holds = let got = does_on w.outer (Judged way.0 way.1) past tt holds.port in (got.0, record { port = got.1; come = tt })

takes_kept : (w later : Outside) (ways : List (Item × Option Route)) → later.outer.chip.state.port ≡ w.outer.chip.state.port → Kept nothing w [] (Judging ways) later
takes_kept w later ways is past holds = let got = quiet nothing w later [] tt is past holds in (tt, record { port = got.1.port; come = tt })

ticks_on : (o : OuterState) → Puts_on o (chip_ticks o)
ticks_on o past has = does_on (record o { chip = record { decoder = after_tick o.chip.decoder; state = o.chip.state } }) Ticked past tt has

module _ (rules : StartsSo) where
  pub bring_law : Outer MayBring KnowsBeside JoinsNode
  bring_law = record {
    line = λ covers awaits past w knows. (same_tie w _ (same w.outer _ refl refl refl) past knows.0, holds_still w _ past refl knows.1);
    tick = λ covers awaits past w knows. (tt, (same_tie w _ (same w.outer _ refl refl refl) past knows.0, holds_still w _ past refl knows.1));
    number = λ past w knows. ((number_goes w).ties past knows.0, (quiet nothing w w (entry.Time w.outer.clock ∷ []) (tt, tt) refl past knows.1).1);
    stamps = λ awaits stamped past w knows. (same_tie w _ (same w.outer _ refl refl refl) past knows.0, holds_still w _ past refl knows.1);
    simple = λ w event simple joins. beside nothing nothing w _ _ (simple_goes w event simple joins) (simple_kept w event simple);
    session = λ w node session command.
        beside nothing nothing w _ _ (session_goes w node session command)
        (quiet nothing w (outside (session_begins w.outer node session command).outer w.devices) (entry.Begin node session command ∷ []) (tt, tt) refl);
    takes = λ w count rest ways may. beside nothing (Judging ways) w _ [] (takes_goes w _ ways (same w.outer _ refl refl refl)) (takes_kept w _ ways refl);
    judges = λ w way ways may. beside (Judging (way ∷ ways)) (Judging ways) w _ _ (judging rules w way ways may) (judges_kept w way ways);
    judged = λ awaits past w knows. (from_judging [] past w knows.0, record { port = knows.1.port; come = tt });
    ticks = λ w. beside nothing nothing w _ _ (ticks_goes rules w) (chip_kept nothing w.outer _ w.devices w.devices (ticks_on w.outer));
    gives = λ w route may.
        beside nothing nothing w _ _ (gives_go (Puts w.devices nothing) (results w.devices rules nothing) w.outer w.devices w.outer.due route)
        (chip_kept nothing w.outer _ w.devices w.devices (gives_on w.outer w.devices w.outer.due route));
    steps = λ w step hearing may. steps_beside w step hearing;
    deals = λ w event events. beside (Dealing (event ∷ events)) (Dealing events) w _ _ (deals_go w.devices rules w.outer event events) (deals_kept w.devices w.outer event events);
    acts = λ w place device event route found may.
        beside nothing nothing w _ _ (acts_goes w device event route (slice_set w.devices place (device_after device event)))
        (quiet nothing w (outside (acts w.outer device event route).outer (slice_set w.devices place (device_after device event))) (acts w.outer device event route).entries
        (all-weaker IsOfAir BringsNone air_none _ (acts_of_air w.outer device event route)) refl);
  }
