-- Each thing that happens outside the host keeps the tie, with what it enters: units and results, frames that are heard, what devices do, and what lines set besides networks.
use Rattle.std.proofs.Common.{ℕ, Bool, true, false, if◌then◌else◌, nat_le, List, [], ◌∷◌, refl, sym, subst, ◌∙◌, append-nil, arith, ap}
use Rattle.std.specs.Prelude.{Option, Some, slice_set}
use Rattle.std.specs.Option.{option_map}
use Rattle.std.specs.List.{flat_map}
use Rattle.std.proofs.lemmas.Bool.{false_from_ne_true as not_joined}
use Rattle.zw_base.proofs.Each.{all-weaker}
use Rattle.serial_frame.specs.Stream.{after_tick}
use Rattle.serial_frame.specs.declared.item.Item.{Item}
use Rattle.route_table.specs.Network.{Network}
use Rattle.route_table.specs.declared.route.Route.{Route}
use Rattle.device_kinds.specs.declared.change.Change.{Change}
use Rattle.chip_sim.specs.Events.{Judged, Ticked, May as MayOfChip}
use Rattle.chip_sim.specs.State.{ChipParts}
use Rattle.device_sim.specs.State.{State}
use Rattle.device_sim.specs.Event.{DeviceEvent, device_after, device_replies}
use Rattle.mesh_sim.specs.declared.event.AirEvent.{AirEvent}
use Rattle.mesh_sim.specs.declared.event.AirEvent.TheVariants as air_event
use Rattle.mesh_sim.specs.Air.{AirState, is_joined, beginning}
use Rattle.mesh_sim.specs.Fates.{place_of}
use Rattle.mesh_sim.specs.Routes.{backwards}
use Rattle.mesh_sim.specs.Steps.{AirStep, MayHappen, mesh_after, mesh_outs, answers_if}
use Rattle.air_frames.specs.Frames.{peer_of}
use Rattle.serial_pipes.specs.Events.{told}
use Rattle.zw_text.specs.declared.entry.Entry.{Entry}
use Rattle.zw_text.specs.declared.entry.Entry.TheVariants as entry
use Rattle.law_wire.specs.law_transcript.Nodes.{is_joined as joined_in}
use Rattle.law_wire.specs.Routes.{MayGo}
use Rattle.outside_model.specs.State.{Outside, outside}
use Rattle.outside_model.specs.Chip.{shown_via, chip_does}
use Rattle.outside_model.specs.Air.{sent_entries, change_entries, deals, change_at}
use Rattle.outside_model.specs.Results.{device_at}
use Rattle.outside_model.specs.Devices.{acts, changes_entries, new_changes, MayAct}
use Rattle.outside_model.specs.Events.{OuterEvent, Host_notes, Joins, Discovers, Links, Loses, Loses_acks, Collides_next, begins, mesh_of, outcome}
use Rattle.proof_walk.proofs.Entered.{IsChange, change_entered, changes_entered}
use Rattle.proof_walk.proofs.Results.{gives_go, ends_go, to_chip_goes}
use Rattle.proof_walk.proofs.Entering.{pipes_leave}
use Rattle.proof_walk.specs.Outside.{Judging, Dealing, nothing, IsNote, IsSimple, IsHearing, Moves, session_begins, Outer}
use Rattle.proof_routes.specs.Networks.{Tie}
use Rattle.proof_routes.specs.Knowing.{Asks, Knows, SetsNone}
use Rattle.proof_routes.proofs.Ties.{IsSameNets, same_nets, Known_of, Goes_on, known, both, still_one, still_none, IsQuiet, quiet_one, quiet_goes, pipes_quiet}
use Rattle.proof_routes.proofs.Leaving.{StartsSo, Puts, judges, does_quietly, results}
use Rattle.proof_routes.proofs.Coming.{IsSameAir, AllHome, NotHome, answered_if_air, answers_if_home, step_hears}
use Rattle.proof_routes.proofs.Walks.{may_come}

-- ---- which entries show nothing

pub note_quiet : (e : Entry) → IsNote e → IsQuiet e
note_quiet (entry.Said words) note = absurd note
note_quiet (entry.Forget a b) note = absurd note
note_quiet (entry.Air frame sender receiver repeaters payload) note = absurd note
note_quiet e note = tt

pub change_quiet : (e : Entry) → IsChange e → IsQuiet e
change_quiet (entry.Dev node by setting) change = tt
change_quiet e change = absurd change

-- ---- the controller is never joined

module _ (devices : List State) where
  pub home_of : (past : List Entry) (w : Outside) → Tie devices past w → NotHome w.outer.air.joined
  home_of past w tie = tie.joined 1 ∙ not_joined (joined_in past 1) (λ is. let low = (tie.within 1 is).0 in absurd (omega (arith, low)))

  -- ---- what chip and line do

  goes_known : (w later : Outside) (told : List Entry) → Goes_on devices nothing w told nothing later → Moves (Asks devices) (Knows devices nothing) w told (Knows devices nothing) later
  goes_known w later told goes = known devices nothing nothing w later told goes

  -- ---- frames that are told

  sent_goes : (w : Outside) (frame from to : ℕ) (route : Route) (payload : List ℕ) (events : List AirEvent)
      → Goes_on devices (Dealing (air_event.Sent frame from to route payload ∷ events)) w (entry.Air frame from to (shown_via route) payload ∷ []) (Dealing events) w
  sent_goes w frame from to route payload events past knows =
      let way = knows.2.0 in
      let may : MayGo devices past (entry.Air frame from to (shown_via route) payload)
      = may_come devices past w knows.0 frame from to (shown_via route) payload (sym (knows.0.joined from) ∙ way.0) way.1 in
      still_one devices (Dealing events) w (entry.Air frame from to (shown_via route) payload) tt (λ before later. may_come devices before w later.0 frame from to (shown_via route) payload (sym (later.0.joined from) ∙ way.0) way.1)
      past (knows.0, knows.1, knows.2.1)

  -- all of them, at once
  sents_go : (w : Outside) (events : List AirEvent) → AllHome w.outer.air.network w.outer.air.joined events → Goes_on devices nothing w (flat_map sent_entries events) nothing w
  sents_go w [] homes = still_none devices nothing w w (same_nets w.outer w.outer refl refl refl refl)
  sents_go w (air_event.Heard frame ∷ events) homes = sents_go w events homes.1
  sents_go w (air_event.Lost frame ∷ events) homes = sents_go w events homes.1
  sents_go w (air_event.Unheard frame ∷ events) homes = sents_go w events homes.1
  sents_go w (air_event.Sent frame from to route payload ∷ events) homes =
      both devices nothing nothing nothing w w w (entry.Air frame from to (shown_via route) payload ∷ []) (flat_map sent_entries events)
      (still_one devices nothing w (entry.Air frame from to (shown_via route) payload) tt
      (λ past knows. may_come devices past w knows.0 frame from to (shown_via route) payload (sym (knows.0.joined from) ∙ homes.0.0) homes.0.1))
      (sents_go w events homes.1)
  sents_go w (air_event.Changed node at ∷ events) homes = sents_go w events homes.1
  sents_go w (air_event.ToChip frame from payload ∷ events) homes = sents_go w events homes.1
  sents_go w (air_event.Done frame status dead ∷ events) homes = sents_go w events homes.1

  -- a device does something of itself
  acts_goes : (w : Outside) (device : State) (event : DeviceEvent) (route : Option Route) (later : List State) → MayAct w.outer (Some device) event route
      → Goes_on devices nothing w (acts w.outer device event route).entries nothing (outside (acts w.outer device event route).outer later)
  acts_goes w device event route later may past knows =
      let way : Option Route = option_map backwards route in
      let replies : List (List ℕ) = device_replies device event in
      let events : List AirEvent = answers_if (is_joined w.outer.air device.node) w.outer.air device.node way replies in
      let changes : List Entry = changes_entries device.node (new_changes device event) in
      let after : Outside = outside (acts w.outer device event route).outer later in
      let air = answered_if_air (is_joined w.outer.air device.node) w.outer.air device.node way replies in
      let homes = answers_if_home w.outer.air.network w.outer.air.joined (is_joined w.outer.air device.node) w.outer.air device.node route replies refl (home_of past w knows.0) may in
      both devices nothing nothing nothing w w after changes (flat_map sent_entries events)
      (quiet_goes devices nothing w w changes (all-weaker IsChange IsQuiet change_quiet changes (changes_entered device.node (new_changes device event))) (same_nets w.outer w.outer refl refl refl refl))
      (subst (λ (l : List Entry). Goes_on devices nothing w l nothing after) (append-nil (flat_map sent_entries events))
      (both devices nothing nothing nothing w w after (flat_map sent_entries events) [] (sents_go w events homes)
      (still_none devices nothing w after (same_nets w.outer after.outer air.network air.joined refl refl))))
      past knows

  -- ---- what lines set, and what the host does at the line

  simple_goes : (w : Outside) (event : OuterEvent) → IsSimple event → SetsNone event → Goes_on devices nothing w (outcome w event).entries nothing (outside (outcome w event).outer w.devices)
  unfolding outcome
  simple_goes w (Host_notes note) simple sets = quiet_one devices nothing w note (note_quiet note simple.0)
  simple_goes w (Loses count) simple sets = still_none devices nothing w _ (same_nets w.outer (outcome w (Loses count)).outer refl refl refl refl)
  simple_goes w (Loses_acks count) simple sets = still_none devices nothing w _ (same_nets w.outer (outcome w (Loses_acks count)).outer refl refl refl refl)
  simple_goes w Collides_next simple sets = still_none devices nothing w _ (same_nets w.outer (outcome w Collides_next).outer refl refl refl refl)
  simple_goes w (Joins node) simple sets = absurd sets
  simple_goes w Discovers simple sets = absurd sets
  simple_goes w (Links a b live) simple sets = absurd sets
  simple_goes w event simple sets =
      let left = pipes_leave w event simple in
      quiet_goes devices nothing w (outside (outcome w event).outer w.devices) (outcome w event).entries (pipes_quiet w event simple)
      (same_nets w.outer (outcome w event).outer (ap (λ (a : AirState). a.network) left.1) (ap (λ (a : AirState). a.joined) left.1)
      (ap (λ (c : ChipParts). c.state.table) left.0) (ap (λ (c : ChipParts). c.state.listening) left.0))

  -- a session begins
  begins_air : (air : AirState) (node sessions : ℕ) → IsSameAir air (begins air node sessions)
  begins_air air node sessions = by (nat_le (peer_of air.frames node).begun sessions)
    where
      by : (b : Bool) → IsSameAir air (if b then beginning air node sessions else air)
      by true = record { network = refl; joined = refl }
      by false = record { network = refl; joined = refl }

  session_goes : (w : Outside) (node session command : ℕ)
      → Goes_on devices nothing w (session_begins w.outer node session command).entries nothing (outside (session_begins w.outer node session command).outer w.devices)
  session_goes w node session command =
      let air = begins_air w.outer.air node session in
      quiet_goes devices nothing w _ (entry.Begin node session command ∷ []) (tt, tt) (same_nets w.outer (session_begins w.outer node session command).outer air.network air.joined refl refl)

  module _ (rules : StartsSo) where
    -- ---- what is told of the air

    deals_go : (w : Outside) (event : AirEvent) (events : List AirEvent)
        → Goes_on devices (Dealing (event ∷ events)) w (deals w.devices w.outer event).entries (Dealing events) (outside (deals w.devices w.outer event).outer w.devices)
    deals_go w (air_event.Heard frame) events past knows = quiet_one devices (Dealing events) w (entry.Heard frame) tt past (knows.0, knows.1, knows.2.1)
    deals_go w (air_event.Lost frame) events past knows = quiet_one devices (Dealing events) w (entry.Lost frame) tt past (knows.0, knows.1, knows.2.1)
    deals_go w (air_event.Unheard frame) events past knows = quiet_one devices (Dealing events) w (entry.Unheard frame) tt past (knows.0, knows.1, knows.2.1)
    deals_go w (air_event.Sent frame from to route payload) events past knows = sent_goes w frame from to route payload events past knows
    deals_go w (air_event.Changed node at) events past knows =
        let change : Option Change = change_at (device_at w.devices (place_of node w.devices)) at in
        quiet_goes devices (Dealing events) w w (change_entries node change) (all-weaker IsChange IsQuiet change_quiet (change_entries node change) (change_entered node change)) (same_nets w.outer w.outer refl refl refl refl)
        past (knows.0, knows.1, knows.2.1)
    deals_go w (air_event.ToChip frame from payload) events past knows =
        to_chip_goes (Puts devices (Dealing events) w.devices) (results devices (Dealing events) w.devices rules) w.outer from payload past (knows.0, knows.1, knows.2.1)
    deals_go w (air_event.Done frame status dead) events past knows =
        ends_go (Puts devices (Dealing events) w.devices) (results devices (Dealing events) w.devices rules) w.outer status dead past (knows.0, knows.1, knows.2.1)

    -- a frame is heard
    steps_go : (w : Outside) (step : AirStep) → IsHearing step → MayHappen (mesh_of w) step
        → Goes_on devices nothing w [] (Dealing (mesh_outs (mesh_of w) step)) (outside (record w.outer { air = (mesh_after (mesh_of w) step).air }) (mesh_after (mesh_of w) step).devices)
    steps_go w step hearing may past knows =
        let hears = step_hears (mesh_of w) step hearing may in
        let later : Outside = outside (record w.outer { air = (mesh_after (mesh_of w) step).air }) (mesh_after (mesh_of w) step).devices in
        let goes = still_none devices nothing w later (same_nets w.outer later.outer hears.air.network hears.air.joined refl refl) past knows in
        let homes = hears.homes (home_of past w knows.0) in
        (goes.0, (goes.1.0, goes.1.1, homes_then w.outer.air (mesh_after (mesh_of w) step).air hears.air (mesh_outs (mesh_of w) step) homes))
      where
        homes_then : (old new : AirState) → IsSameAir old new → (events : List AirEvent) → AllHome old.network old.joined events → AllHome new.network new.joined events
        homes_then old new same events homes =
            subst (λ (n : Network). AllHome n new.joined events) (sym same.network) (subst (λ (l : List Bool). AllHome old.network l events) (sym same.joined) homes)

    -- ---- all of it

    judging : (w : Outside) (way : Item × Option Route) (ways : List (Item × Option Route)) → MayOfChip w.outer.chip.state (Judged way.0 way.1)
        → Goes_on devices (Judging (way ∷ ways)) w (chip_does w.outer (Judged way.0 way.1)).entries (Judging ways) (outside (chip_does w.outer (Judged way.0 way.1)).outer w.devices)
    judging w way ways may past knows =
        let got = judges devices nothing w.devices rules w.outer way.0 way.1 may past (knows.0, knows.1, tt) in
        (got.0, (got.1.0, got.1.1, tt))

    same_knows : (w later : Outside) → IsSameNets w.outer later.outer → (awaits other : Bool) (past : List Entry) → Knows devices nothing awaits past w → Knows devices nothing other past later
    same_knows w later same awaits other past knows =
        let goes = still_none devices nothing w later same past knows in
        subst (λ (l : List Entry). Known_of devices nothing l later) (append-nil past) goes.1

    pub routes_law : Outer (Asks devices) (Knows devices) SetsNone
    routes_law = record {
      line = λ covers awaits past w knows. same_knows w _ (same_nets w.outer _ refl refl refl refl) awaits false past knows;
      tick = λ covers awaits past w knows. ((tt, tt), same_knows w _ (same_nets w.outer _ refl refl refl refl) awaits true past knows);
      number = λ past w knows. (quiet_one devices nothing w (entry.Time w.outer.clock) tt past knows).1;
      stamps = λ awaits stamped past w knows. same_knows w _ (same_nets w.outer _ refl refl refl refl) awaits awaits past knows;
      simple = λ w event simple sets. goes_known w _ _ (simple_goes w event simple sets);
      session = λ w node session command. goes_known w _ _ (session_goes w node session command);
      takes = λ w count rest ways may. known devices nothing (Judging ways) w _ [] (λ past knows.
          let goes = still_none devices nothing w _ (same_nets w.outer _ refl refl refl refl) past knows in (goes.0, (goes.1.0, goes.1.1, tt)));
      judges = λ w way ways may. known devices (Judging (way ∷ ways)) (Judging ways) w _ _ (judging w way ways may);
      judged = λ awaits past w knows. (knows.0, knows.1, tt);
      ticks = λ w. goes_known w _ _
          (both devices nothing nothing nothing w (outside (record w.outer { chip = record { decoder = after_tick w.outer.chip.decoder; state = w.outer.chip.state } }) w.devices) _ [] _
          (still_none devices nothing w _ (same_nets w.outer _ refl refl refl refl))
          (does_quietly devices nothing w.devices rules _ Ticked refl (record { table = refl; listening = refl })));
      gives = λ w route may. goes_known w _ _ (gives_go (Puts devices nothing w.devices) (results devices nothing w.devices rules) w.outer w.devices w.outer.due route);
      steps = λ w step hearing may. known devices nothing (Dealing (mesh_outs (mesh_of w) step)) w _ [] (steps_go w step hearing may);
      deals = λ w event events. known devices (Dealing (event ∷ events)) (Dealing events) w _ _ (deals_go w event events);
      acts = λ w place device event route found may. goes_known w _ _ (acts_goes w device event route (slice_set w.devices place (device_after device event)) may);
    }
