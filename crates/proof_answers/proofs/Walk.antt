-- That the chip was given just what it has for its host goes on with each event where it may come, and with each part of a line that begins.
use Rattle.std.proofs.Common.{◌≡◌, ℕ, zero, suc, ◌+◌, ◌-◌, ◌&&◌, not, Bool, true, false, if◌then◌else◌, inl, inr, List, [], ◌∷◌, ◌++◌, length, refl, sym, ap, ◌∙◌, subst, append-nil, append_assoc, arith}
use Rattle.std.specs.Prelude.{Option}
use Rattle.zw_base.proofs.Each.{all-weaker}
use Rattle.serial_frame.specs.Stream.{Rest, after_tick}
use Rattle.serial_frame.specs.Items.{unit_text}
use Rattle.serial_frame.specs.declared.item.Item.{Item}
use Rattle.serial_frame.specs.declared.unit.Unit.TheVariants.{Framed}
use Rattle.serial_link.specs.Rules.{Step}
use Rattle.route_table.specs.declared.route.Route.{Route}
use Rattle.chip_sim.specs.Waiting.{PortState}
use Rattle.chip_sim.specs.State.{ChipState}
use Rattle.chip_sim.specs.Events.{Collides, Ticked as ticked_event, collides, update_of}
use Rattle.chip_sim.specs.Link.{link_steps}
use Rattle.chip_sim.specs.Answers.{notice_frame}
use Rattle.chip_functions.specs.declared.notice.Notice.TheVariants.{ApplicationUpdate}
use Rattle.mesh_sim.specs.Steps as mesh
use Rattle.air_frames.specs.Flown.{Flown}
use Rattle.zw_text.specs.declared.line.Line.{Line}
use Rattle.zw_text.specs.declared.entry.Entry.{Entry}
use Rattle.zw_text.specs.declared.entry.Entry.TheVariants as entry
use Rattle.law_transcript.specs.Fates.{first_fates}
use Rattle.law_transcript.specs.Restarts.{repeats as answers_repeat}
use Rattle.law_wire.specs.Results.{ack_mark_step, ack_marks, ack_marks_after, settled_clock}
use Rattle.law_wire.specs.Given.{IsInformation}
use Rattle.host_model.specs.Ticking.{tick_events}
use Rattle.outside_model.specs.declared.waits.Due.{Due}
use Rattle.outside_model.specs.declared.waits.Due.TheVariants.{Info}
use Rattle.outside_model.specs.Devices.{State}
use Rattle.outside_model.specs.State.{OuterState, Outcome, Outside}
use Rattle.outside_model.specs.Chip.{chip_does}
use Rattle.outside_model.specs.Results.{gives, profile_for}
use Rattle.outside_model.specs.Events.{OuterEvent, Begins_line, Begins_tick, Chip_takes, Arrives, Gives, Chip_ticks, Repeats, Collides_next, Host_begins, Host_notes, Device_ticks, has_entered, outcome, stamp, steps, ticked_entry, May as MayOutside, entries as entries_outside, happens as happens_outside}
use Rattle.world_model.specs.State.{Machine}
use Rattle.world_model.specs.Events.{Event, Outside_does, Host_does, Host_takes, Decoder_ticks, Refuses, Shows_values, Restarts, May, entries, happens}
use Rattle.proof_devices.specs.proof_air.proof_walk.Outside.{CoversOuter, awaits_number, nothing}
use Rattle.proof_devices.specs.proof_air.proof_walk.Phases.{Phase, Between, Said_line, Begun, Doing, To_tick, Ticked, Arriving, Giving, Ticking_devices, Ticking_chip, Ticking_decoder, Ticking_host, Sleeping, Submitting, Moving, Moved, Goes, Turns}
use Rattle.proof_devices.specs.proof_air.Landing.{KnowLanding}
use Rattle.proof_devices.specs.proof_air.Logs.{Tie}
use Rattle.proof_devices.proofs.Fated.{arrival_fates}
use Rattle.proof_devices.proofs.Machines.{machine_goes}
use Rattle.proof_devices.proofs.Times.{outcome_time, same_number}
use Rattle.proof_chip.proofs.Arrivals.{NoNexting}
use Rattle.proof_devices.specs.Acks.{KnowAcks}
use Rattle.proof_chip.specs.proof_line.proof_traffic.Facts.{flying_in}
use Rattle.proof_chip.specs.proof_line.proof_traffic.OnAir.{on_air}
use Rattle.proof_chip.specs.proof_line.proof_traffic.OutsideTraffic.{flags, outward}
use Rattle.proof_chip.proofs.ChipAccounts.{due_account, event_steps, gives_account, outer_steps, steps_account, steps_by}
use Rattle.proof_chip.proofs.Parts.{Laws}
use Rattle.proof_chip.specs.Calling.{AreLanding, KnowCalls, Waits}
use Rattle.proof_chip.specs.Sending.{Agrees, AirSo, AreNow, GroundAir, KnowAir}
use Rattle.proof_chip.proofs.Calling.{flying}
use Rattle.proof_chip.proofs.Passing.{shown_all}
use Rattle.proof_devices.specs.proof_routes.Networks.{Tie as Networks}
use Rattle.proof_devices.proofs.Books.{SameShown, same_joined}
use Rattle.route_table.specs.Network.{Link}
use Rattle.law_wire.specs.Networks.{are_linked, listens_at}
use Rattle.proof_chip.specs.Tally.{IsOfLine, KnowTally, TallyBefore, TallyNow, TallySo, outlook}
use Rattle.proof_chip.proofs.Asides.{AreUnrelated, IsHosts, IsSteady, IsStill, IsUnrelated, hosts_apart, still_apart, still_port}
use Rattle.proof_chip.proofs.Growing.{serves_aside}
use Rattle.proof_chip.proofs.Settling.{AreIdle, IsIdle}
use Rattle.proof_chip.proofs.Steady.{hosts_chip, hosts_within, steady_within}
use Rattle.proof_chip.proofs.Tallied.{before_number_t, chip_idle}
use Rattle.proof_chip.proofs.Reckoning.{settled_now}
use Rattle.proof_chip.proofs.Hosted.{BeforeSo, IsOfHost, NowSo, covers_answer, covers_host, hosts_keep as hosts_count, host_covers, no_steps}
use Rattle.proof_chip.proofs.Outsides.{Collides_it, Kind, Repeats_one, Stays_still, Ticks_chip, apart_here, kind_of, still_steps}
use Rattle.proof_chip.proofs.Tallies.{again_of}
use Rattle.proof_chip.proofs.LandingWalk.{sent_frames}
use Rattle.proof_chip.proofs.Telling.{AreAside, IsAside}
use Rattle.proof_chip.proofs.Quieting.{unanswered}
use Rattle.proof_chip.proofs.Finishing.{no_length}
use Rattle.proof_chip.proofs.Outside.{may_outside}
use Rattle.proof_chip.proofs.Items.{number_frames}
use Rattle.proof_answers.specs.Telling.{KnowTells, TellSo, TellsBefore, TellsNow}
use Rattle.proof_answers.proofs.Accounts.{aside_grows, event_grows}
use Rattle.proof_answers.proofs.Moving.{before_numbered, event_now, map_so, now_settled, timed_before}
use Rattle.proof_answers.proofs.Giving.{gives_silently, gives_tell}
use Rattle.proof_answers.proofs.Informing.{informs_back}
use Rattle.proof_answers.proofs.Itemwise.{takes_told}
use Rattle.proof_answers.proofs.Judging.{KnowsChip}
use Rattle.proof_answers.proofs.Landed.{arrives_tells}
use Rattle.proof_answers.proofs.Repeating.{repeats_tell}
use Rattle.proof_answers.proofs.Standing.{before_arrived, before_as, before_over, now_as, now_said, now_ticks}
use Rattle.proof_answers.proofs.Waiting.{hosts_owing, steady_owing}

-- between events where no results are to come
abbrev NowTold : List State → List Step → List Entry → OuterState → Type 0
NowTold devices did past o = TellSo (TellsNow devices o) did past o.chip.state.port

abbrev BeforeTold : List State → Bool → List Step → List Entry → OuterState → Type 0
BeforeTold devices arriving did past o = TellSo (TellsBefore devices arriving o) did past o.chip.state.port

idle_of : (told : List Entry) → AreUnrelated told → AreIdle told
idle_of told apart = all-weaker IsUnrelated IsIdle (λ e is. is.1) told apart

aside_of : (told : List Entry) → AreUnrelated told → AreAside told
aside_of told apart = all-weaker IsUnrelated IsAside (λ e is. is.0) told apart

-- ---- events of the host

module _ (devices : List State) (did : List Step) where
  abbrev Both : List Entry → Outside → Type 0
  Both past w = NowSo devices did past w.outer × NowTold devices did past w.outer

  abbrev Keeps : Outside → List Entry → Outside → Type 0
  Keeps w told later = (past : List Entry) → Both past w → Both (past ++ told) later

  keeps_none : (w : Outside) → Keeps w [] w
  keeps_none w past so = subst (λ (l : List Entry). Both l w) (sym (append-nil past)) so

  keeps_both : (w u v : Outside) (xs ys : List Entry) → Keeps w xs u → Keeps u ys v → Keeps w (xs ++ ys) v
  keeps_both w u v xs ys first later past so = subst (λ (l : List Entry). Both l v) (append_assoc past xs ys) (later (past ++ xs) (first past so))

  hosts_keep : (w : Outside) (event : OuterEvent) → IsHosts event → Keeps w (entries_outside w event) (happens_outside w event)
  hosts_keep w event is past (tally, so) =
      let x : Outcome = outcome w event in
      let apart = hosts_apart w event is in (
        hosts_count devices did w event is past tally,
        subst (λ (l : List Step). TellSo (TellsNow devices (has_entered x.outer x.entries)) l (past ++ stamp x.outer x.entries) (has_entered x.outer x.entries).chip.state.port) (append-nil did)
            (event_now devices w.outer x.outer did [] past (hosts_owing w event is) (same_number w.outer x.outer (outcome_time w event (hosts_within event is))) tally so x.entries (idle_of x.entries apart)
            (λ here frames serves.
            aside_grows devices did frames here x.entries w.outer.chip.state.port x.outer.chip.state.port (aside_of x.entries apart) (ap (λ (s : ChipState). s.port) (hosts_chip w event is)) serves)),
      )

  session_keeps : (w : Outside) (node session command : ℕ)
      → Keeps w (entries_outside w (Host_begins node session) ++ entries_outside (happens_outside w (Host_begins node session)) (Host_notes (entry.Begin node session command)))
      (happens_outside (happens_outside w (Host_begins node session)) (Host_notes (entry.Begin node session command)))
  session_keeps w node session command =
      let later : Outside = happens_outside w (Host_begins node session) in
      let told : OuterEvent = Host_notes (entry.Begin node session command) in
      keeps_both w later (happens_outside later told) (entries_outside w (Host_begins node session)) (entries_outside later told) (hosts_keep w (Host_begins node session) tt) (hosts_keep later told tt)

  host_tells : (m : Machine) (event : Event) → IsOfHost event → May m event → (past : List Entry) → NowSo devices did past m.outside.outer → NowTold devices did past m.outside.outer
      → NowTold devices (did ++ event_steps m event) (past ++ entries m event) (happens m event).outside.outer
  host_tells m event is may past tally so =
      subst (λ (l : List Step). NowTold devices l (past ++ entries m event) (happens m event).outside.outer) (sym (ap (λ (l : List Step). did ++ l) (no_steps m event is) ∙ append-nil did))
      (machine_goes IsHosts host_covers Keeps keeps_none keeps_both (λ w of_host covers fits may_happen. hosts_keep w of_host covers) session_keeps m event (covers_host event is) (covers_answer event is) may past (tally, so)).1

-- ---- other events outside the host

module _ (devices : List State) (laws : Laws) (none : NoNexting) (did : List Step) (past : List Entry) (w : Outside) (tie : Tie nothing past w) (tally : NowSo devices did past w.outer) (so : NowTold devices did past w.outer) where
  abbrev After : OuterEvent → Type 0
  After event = NowTold devices (did ++ outer_steps w event) (past ++ entries_outside w event) (happens_outside w event).outer

  number_stays : (event : OuterEvent) → IsSteady event → ticked_entry (outcome w event).outer ≡ ticked_entry w.outer
  number_stays event steady = same_number w.outer (outcome w event).outer (outcome_time w event (steady_within laws none past w tie event steady))

  still_tells : (event : OuterEvent) → IsStill event → IsSteady event → After event
  still_tells event still steady =
      let x : Outcome = outcome w event in
      let apart = still_apart w event still tie.home in
      subst (λ (l : List Step). NowTold devices (did ++ l) (past ++ entries_outside w event) (happens_outside w event).outer) (sym (still_steps w event still))
      (event_now devices w.outer x.outer did [] past (steady_owing laws none past w tie event steady) (number_stays event steady) tally so x.entries (idle_of x.entries apart)
      (λ here frames serves. aside_grows devices did frames here x.entries w.outer.chip.state.port x.outer.chip.state.port (aside_of x.entries apart) (still_port w event still) serves))

  ticks_tell : After Chip_ticks
  unfolding outcome outer_steps chip_does
  ticks_tell =
      let fed : OuterState = record w.outer { chip = record { decoder = after_tick w.outer.chip.decoder; state = w.outer.chip.state } } in
      let x : Outcome = chip_does fed ticked_event in
      let idle = chip_idle fed ticked_event (unanswered (collides w.outer.chip.state) ticked_event tt) in
      event_now devices w.outer x.outer did (link_steps w.outer.chip.state ticked_event) past (steady_owing laws none past w tie Chip_ticks tt) (number_stays Chip_ticks tt) tally so x.entries idle
      (λ here frames serves. event_grows devices did frames here fed ticked_event idle serves)

  collides_tells : After Collides_next
  unfolding outcome outer_steps chip_does
  collides_tells =
      let x : Outcome = chip_does w.outer Collides in
      event_now devices w.outer x.outer did (link_steps w.outer.chip.state Collides) past (steady_owing laws none past w tie Collides_next tt) (number_stays Collides_next tt) tally so [] tt
      (λ here frames serves. event_grows devices did frames here w.outer Collides tt serves)

  tick_tells : BeforeTold devices true (did ++ outer_steps w Begins_tick) (past ++ entries_outside w Begins_tick) (happens_outside w Begins_tick).outer
  unfolding outcome outer_steps
  tick_tells =
      let later : OuterState = (happens_outside w Begins_tick).outer in
      let (counted, count_serves, counts) = tally in
      let (frames, serves, are) = so in
      subst (λ (l : List Step). TellSo (TellsBefore devices true later) l (past ++ []) w.outer.chip.state.port) (sym (append-nil did))
      (subst (λ (l : List Entry). TellSo (TellsBefore devices true later) did l w.outer.chip.state.port) (sym (append-nil past)) (
        frames,
        serves,
        λ course goes. now_ticks devices w.outer frames course past (outlook w.outer) (awaits_number w.outer) 0 (length counted) refl (counts course goes) (are course goes),
      ))

-- ---- in a tick, until its results have come

-- with what is entered, and the number of the tick
before_entered : (devices : List State) (arriving : Bool) (p : OuterState) (told : List Entry) (now : List Step) (past : List Entry) → TellSo (TellsBefore devices arriving p) now ((past ++ ticked_entry p) ++ told) p.chip.state.port
    → (told ≡ [] → ⊥) → BeforeTold devices arriving now (past ++ stamp p told) (has_entered p told)
before_entered devices arriving p [] now past so some = absurd (some refl)
before_entered devices arriving p (first ∷ told) now past so some =
    map_so devices (TellsBefore devices arriving p) (TellsBefore devices arriving (has_entered p (first ∷ told)))
    (λ frames course all was. before_as devices p (has_entered p (first ∷ told)) (record { clock = refl; sending = refl; failing = refl; calls = refl; due = refl }) frames course all arriving was) now (past ++ (ticked_entry p ++ first ∷ told)) p.chip.state.port
    (subst (λ (l : List Entry). TellSo (TellsBefore devices arriving p) now l p.chip.state.port) (append_assoc past (ticked_entry p) (first ∷ told)) so)

-- the number of a tick leaves the marks that lose acknowledgements
marks_both : (told rest past : List Entry) (marks : ℕ) → ack_marks_after marks past (told ++ rest) ≡ ack_marks_after (ack_marks_after marks past told) (past ++ told) rest
marks_both [] rest past marks = ap (λ (l : List Entry). ack_marks_after marks l rest) (sym (append-nil past))
marks_both (e ∷ told) rest past marks =
    marks_both told rest (past ++ e ∷ []) (ack_mark_step past marks e) ∙ ap (λ (l : List Entry). ack_marks_after (ack_marks_after (ack_mark_step past marks e) (past ++ e ∷ []) told) l rest) (append_assoc past (e ∷ []) told)

number_marks : (past : List Entry) (b : Bool) (clock : ℕ) → ack_marks (past ++ (if b then entry.Time clock ∷ [] else [])) ≡ ack_marks past
number_marks past true clock = marks_both past (entry.Time clock ∷ []) [] 0
number_marks past false clock = ap ack_marks (append-nil past)

module _ (devices : List State) (laws : Laws) (none : NoNexting) (did : List Step) (past : List Entry) (w : Outside) (tie : Tie nothing past w) where
  arrives_told : (left : ℕ) (drawn : List ℕ) (route : Option Route) → MayOutside w (Arrives drawn route) → Waits w.outer → (flight : Flown) (flights : List Flown) → on_air w.outer.air.frames ≡ flight ∷ flights
      → (awaits_number w.outer ≡ false → answers_repeat past ≡ false) → ack_marks past ≡ w.outer.air.ack_losing → BeforeSo devices true (suc left) did past w.outer → BeforeTold devices true did past w.outer
      → BeforeTold devices true (did ++ outer_steps w (Arrives drawn route)) (past ++ entries_outside w (Arrives drawn route)) (happens_outside w (Arrives drawn route)).outer
  unfolding outcome outer_steps
  arrives_told left drawn route may waits flight flights on apart acks tally so =
      let x : Outcome = steps w (mesh.Arrives drawn route) in
      let here : List Entry = past ++ ticked_entry w.outer in
      let calm = apart_here devices laws none did past w tie (awaits_number w.outer) w.outer.clock apart in
      let fates = arrival_fates past w drawn route may calm in
      let not_false : true ≡ false → suc left ≡ 0 = λ is. absurd (let no : true ≡ false = is in cc) in
      let numbered = before_number_t devices (outlook w.outer) true (suc left) (awaits_number w.outer) not_false did past w.outer.chip.state.port tally in
      let got =
      arrives_tells devices laws past w tie waits flight flights left did here on (number_frames (awaits_number w.outer) w.outer.clock past) calm (number_marks past (awaits_number w.outer) w.outer.clock ∙ acks) numbered
      (before_numbered devices w.outer did past w.outer.chip.state.port true (suc left) not_false tally so) drawn route fates.1 in
      let number : ticked_entry x.outer ≡ ticked_entry w.outer = same_number w.outer x.outer (outcome_time w (Arrives drawn route) tt) in
      before_entered devices true x.outer x.entries (did ++ steps_by (steps_account w (mesh.Arrives drawn route))) past
      (subst (λ (l : List Entry). TellSo (TellsBefore devices true x.outer) (did ++ steps_by (steps_account w (mesh.Arrives drawn route))) ((past ++ l) ++ x.entries) x.outer.chip.state.port) (sym number) got)
      (λ is. let none_more = ap (λ (l : List Entry). length (first_fates (past ++ stamp x.outer l))) is ∙ ap (λ (l : List Entry). length (first_fates l)) (append-nil past) in let one = fates.0 in omega (arith, none_more, one))

  -- the information of a node that is given first is what the transcript says, with the number of the tick
  abbrev InformsSo : Option Route → Type 0
  InformsSo route =
      (node : ℕ) (due : List Due) → w.outer.due ≡ Info node ∷ due
      → IsInformation devices node (w.outer.clock - 1) (past ++ ticked_entry w.outer) (unit_text (Framed (notice_frame (ApplicationUpdate (update_of node (profile_for w.outer.air w.devices node route))))))

  gives_told : (route : Option Route) → Waits w.outer → outward (on_air w.outer.air.frames) ≡ 0 → InformsSo route → BeforeSo devices false 0 did past w.outer → BeforeTold devices false did past w.outer
      → BeforeTold devices false (did ++ outer_steps w (Gives route)) (past ++ entries_outside w (Gives route)) (happens_outside w (Gives route)).outer
  unfolding outcome outer_steps gives_account
  gives_told route waits clear informs tally so = by x.entries refl
    where
      x : Outcome
      x = gives w.outer w.devices w.outer.due route

      now : List Step
      now = did ++ steps_by (due_account w.outer w.devices w.outer.due route)

      calm : flying_in (flags w.outer.calls) ≡ 0
      calm = sym waits.await.frames ∙ clear

      number : ticked_entry (gives w.outer w.devices w.outer.due route).outer ≡ ticked_entry w.outer
      number = same_number w.outer (gives w.outer w.devices w.outer.due route).outer (outcome_time w (Gives route) tt)

      by : (told : List Entry) → (gives w.outer w.devices w.outer.due route).entries ≡ told
          → BeforeTold devices false (did ++ steps_by (due_account w.outer w.devices w.outer.due route)) (past ++ stamp (gives w.outer w.devices w.outer.due route).outer (gives w.outer w.devices w.outer.due route).entries)
          (has_entered (gives w.outer w.devices w.outer.due route).outer (gives w.outer w.devices w.outer.due route).entries)
      by [] none_told =
          subst (λ (l : List Entry). BeforeTold devices false now (past ++ stamp x.outer l) (has_entered x.outer l)) (sym none_told)
          (gives_silently devices w.devices w.outer route calm waits.each waits.await.results did past (λ node due is. informs_back devices node (w.outer.clock - 1) past (awaits_number w.outer) w.outer.clock _ (informs node due is)) none_told so)
      by (first ∷ told) some =
          let here : List Entry = past ++ ticked_entry w.outer in
          let numbered = before_number_t devices (outlook w.outer) false 0 (awaits_number w.outer) (λ is. refl) did past w.outer.chip.state.port tally in
          let settled : settled_clock here ≡ w.outer.clock = settled_now w.outer.clock here (timed_before devices w.outer false 0 false did here w.outer.chip.state.port numbered) in
          before_entered devices false x.outer x.entries now past
          (subst (λ (l : List Entry). TellSo (TellsBefore devices false x.outer) now ((past ++ l) ++ x.entries) x.outer.chip.state.port) (sym number)
          (gives_tell devices w.devices w.outer route calm waits.each waits.await.results did here informs settled (before_numbered devices w.outer did past w.outer.chip.state.port false 0 (λ is. refl) tally so)))
          (λ none_told. absurd (let no : [] ≡ first ∷ told = sym none_told ∙ some in cc))

-- ---- each phase

-- What is asked besides: that air and chip have the networks of the transcript where the chip takes bytes; and that the information of a node which is given is what the transcript says.
pub record Giving_events (devices : List State) (Ground : Phase → List Entry → Machine → Type 0) : Type 0 where
  pub networks : (passes ticks : ℕ) (past : List Entry) (m : Machine) → Ground (Moving passes ticks) past m → Networks devices past m.outside
  pub informs : (left ticks : ℕ) (past : List Entry) (m : Machine) (route : Option Route) → May m (Outside_does (Gives route)) → Ground (Giving (suc left) ticks) past m → (node : ℕ) (due : List Due) → m.outside.outer.due ≡ Info node ∷ due
      → IsInformation devices node (m.outside.outer.clock - 1) (past ++ ticked_entry m.outside.outer)
      (unit_text (Framed (notice_frame (ApplicationUpdate (update_of node (profile_for m.outside.outer.air m.outside.devices node route))))))

module _ (devices : List State) (laws : Laws) (none : NoNexting) (Ground : Phase → List Entry → Machine → Type 0) (law : GroundAir devices Ground)
    (lands : (here : Phase) (past : List Entry) (m : Machine) → Ground here past m → KnowLanding here past m) (calls : (here : Phase) (past : List Entry) (m : Machine) → Ground here past m → KnowCalls here past m)
    (acks : (here : Phase) (past : List Entry) (m : Machine) → Ground here past m → KnowAcks here past m) (given : Giving_events devices Ground) (did : List Step) where
  abbrev Steps : Phase → List Entry → Machine → Event → Type 0
  Steps next past m event = KnowTells devices (did ++ event_steps m event) next (past ++ entries m event) (happens m event)

  goes_to : (next to : Phase) (event is : Event) (past : List Entry) (m : Machine) → event ≡ is → next ≡ to → Steps to past m is → Steps next past m event
  goes_to next to event is past m event_is next_is known =
      subst (λ (e : Event). Steps next past m e) (sym event_is) (subst (λ (q : Phase). Steps q past m is) (sym next_is) known)

  abbrev NowAfter : List Entry → Machine → Event → Type 0
  NowAfter past m event = NowTold devices (did ++ event_steps m event) (past ++ entries m event) (happens m event).outside.outer

  -- an event outside the host, as one of the machine
  outside_now : (past : List Entry) (m : Machine) (event : OuterEvent)
      → NowTold devices (did ++ outer_steps m.outside event) (past ++ entries_outside m.outside event) (happens_outside m.outside event).outer → NowAfter past m (Outside_does event)
  unfolding happens entries event_steps
  outside_now past m event so = so

  -- a frame is heard again
  repeat_now : (line : Line) (left : List Event) (past : List Entry) (m : Machine) (number : ℕ) (drawn : List ℕ) (route : Option Route) → Tie nothing past m.outside → (answers_repeat past ≡ true) × (m.outside.outer.in_tick ≡ false)
      → KnowTally devices did (Doing line (Outside_does (Repeats number drawn route) ∷ left)) past m → NowTold devices did past m.outside.outer
      → NowTold devices (did ++ outer_steps m.outside (Repeats number drawn route)) (past ++ entries_outside m.outside (Repeats number drawn route)) (happens_outside m.outside (Repeats number drawn route)).outer
  repeat_now line left past m number drawn route tie again tally so =
      let o : OuterState = m.outside.outer in
      let settled : settled_clock past ≡ o.clock =
      now_settled devices o did past o.chip.state.port (subst (λ (b : Bool). TallySo (TallyNow devices (outlook o) (b && not o.stamped) 0) did past o.chip.state.port) again.1 tally.0) in
      repeats_tell devices past m.outside tie did again.0 settled so number drawn route again.1

  outer_now : (line : Line) (left : List Event) (past : List Entry) (m : Machine) (event : OuterEvent) → Kind event → Ground (Doing line (Outside_does event ∷ left)) past m
      → KnowTally devices did (Doing line (Outside_does event ∷ left)) past m → NowTold devices did past m.outside.outer → NowAfter past m (Outside_does event)
  outer_now line left past m event (Stays_still still steady) ground tally so =
      outside_now past m event (still_tells devices laws none did past m.outside (law.history (Doing line (Outside_does event ∷ left)) past m ground) tally.0 so event still steady)
  outer_now line left past m event (Ticks_chip is) ground tally so =
      let tie = law.history (Doing line (Outside_does event ∷ left)) past m ground in
      subst (λ (e : OuterEvent). NowAfter past m (Outside_does e)) (sym is) (outside_now past m Chip_ticks (ticks_tell devices laws none did past m.outside tie tally.0 so))
  outer_now line left past m event (Collides_it is) ground tally so =
      let tie = law.history (Doing line (Outside_does event ∷ left)) past m ground in
      subst (λ (e : OuterEvent). NowAfter past m (Outside_does e)) (sym is) (outside_now past m Collides_next (collides_tells devices laws none did past m.outside tie tally.0 so))
  outer_now line left past m event (Repeats_one number drawn route is) ground tally so =
      subst (λ (e : OuterEvent). NowAfter past m (Outside_does e)) (sym is)
      (outside_now past m (Repeats number drawn route) (repeat_now line left past m number drawn route tie again (subst (λ (e : OuterEvent). KnowTally devices did (Doing line (Outside_does e ∷ left)) past m) is tally) so))
    where
      tie : Tie nothing past m.outside
      tie = law.history (Doing line (Outside_does event ∷ left)) past m ground

      again : (answers_repeat past ≡ true) × (m.outside.outer.in_tick ≡ false)
      again = again_of devices laws none Ground law lands calls did line left past m number drawn route (subst (λ (e : OuterEvent). KnowLanding (Doing line (Outside_does e ∷ left)) past m) is (lands (Doing line (Outside_does event ∷ left)) past m ground))

  doing_now : (line : Line) (first : Event) (left : List Event) (past : List Entry) (m : Machine) → CoversOuter IsOfLine first → May m first → Ground (Doing line (first ∷ left)) past m
      → KnowTally devices did (Doing line (first ∷ left)) past m → NowTold devices did past m.outside.outer → NowAfter past m first
  doing_now line (Outside_does event) left past m covers may ground tally so = outer_now line left past m event (kind_of event covers) ground tally so
  doing_now line (Host_does event) left past m covers may ground tally so = host_tells devices did m (Host_does event) tt may past tally.0 so
  doing_now line (Host_takes count rest items events) left past m covers may ground tally so = host_tells devices did m (Host_takes count rest items events) tt may past tally.0 so
  doing_now line Decoder_ticks left past m covers may ground tally so = host_tells devices did m Decoder_ticks tt may past tally.0 so
  doing_now line (Refuses refused refusal) left past m covers may ground tally so = host_tells devices did m (Refuses refused refusal) tt may past tally.0 so
  doing_now line (Shows_values node) left past m covers may ground tally so = host_tells devices did m (Shows_values node) tt may past tally.0 so
  doing_now line (Restarts state) left past m covers may ground tally so = host_tells devices did m (Restarts state) tt may past tally.0 so

  -- a line and a tick begin
  line_begins : (line : Line) (past : List Entry) (m : Machine) → Ground (Said_line line) past m → NowTold devices did past m.outside.outer → NowAfter past m (Outside_does Begins_line)
  unfolding happens entries event_steps outcome outer_steps
  line_begins line past m ground (frames, serves, are) =
      let later : OuterState = record m.outside.outer { in_tick = false } in
      subst (λ (l : List Step). TellSo (TellsNow devices later) l (past ++ []) m.outside.outer.chip.state.port) (sym (append-nil did))
      (subst (λ (l : List Entry). TellSo (TellsNow devices later) did l m.outside.outer.chip.state.port) (sym (append-nil past)) (
        frames,
        serves,
        λ course goes. now_as devices m.outside.outer later (record { clock = refl; sending = refl; failing = refl; calls = refl; due = refl }) frames course past (are course goes),
      ))

  tick_begins : (ticks : ℕ) (past : List Entry) (m : Machine) → Ground (To_tick (suc ticks)) past m → KnowTally devices did (To_tick (suc ticks)) past m → NowTold devices did past m.outside.outer
      → Steps (Ticked ticks) past m (Outside_does Begins_tick)
  unfolding happens entries event_steps
  tick_begins ticks past m ground tally so = tick_tells devices laws none did past m.outside (law.history (To_tick (suc ticks)) past m ground) tally.0 so

  -- the next frame arrives, and what is due is given
  outside_before : (past : List Entry) (m : Machine) (event : OuterEvent) (arriving : Bool) → BeforeTold devices arriving (did ++ outer_steps m.outside event) (past ++ entries_outside m.outside event) (happens_outside m.outside event).outer
      → BeforeTold devices arriving (did ++ event_steps m (Outside_does event)) (past ++ entries m (Outside_does event)) (happens m (Outside_does event)).outside.outer
  unfolding happens entries event_steps
  outside_before past m event arriving so = so

  arrives : (left ticks : ℕ) (past : List Entry) (m : Machine) (drawn : List ℕ) (route : Option Route) → May m (Outside_does (Arrives drawn route)) → Ground (Arriving (suc left) ticks) past m
      → KnowTally devices did (Arriving (suc left) ticks) past m → BeforeTold devices true did past m.outside.outer
      → BeforeTold devices true (did ++ event_steps m (Outside_does (Arrives drawn route))) (past ++ entries m (Outside_does (Arrives drawn route))) (happens m (Outside_does (Arrives drawn route))).outside.outer
  arrives left ticks past m drawn route may ground tally so = by landing.before landing.are landing.many
    where
      known : KnowCalls (Arriving (suc left) ticks) past m
      known = calls (Arriving (suc left) ticks) past m ground

      landing : AreLanding (suc left) m.outside.outer
      landing = known.1

      lands_here : KnowLanding (Arriving (suc left) ticks) past m
      lands_here = lands (Arriving (suc left) ticks) past m ground

      by : (before : List Flown) → on_air m.outside.outer.air.frames ≡ before ++ landing.since → length before ≡ suc left
          → BeforeTold devices true (did ++ event_steps m (Outside_does (Arrives drawn route))) (past ++ entries m (Outside_does (Arrives drawn route))) (happens m (Outside_does (Arrives drawn route))).outside.outer
      by [] are many = absurd (omega (arith, many))
      by (flight ∷ before) are many =
          outside_before past m (Arrives drawn route) true
          (arrives_told devices laws none did past m.outside (law.history (Arriving (suc left) ticks) past m ground) left drawn route (may_outside m (Arrives drawn route) may) known.0 flight (before ++ landing.since) are
          (λ awaits. lands_here.sent.0.apart refl awaits) (acks (Arriving (suc left) ticks) past m ground) tally.0 so)

  gives_here : (left ticks : ℕ) (past : List Entry) (m : Machine) (route : Option Route) → May m (Outside_does (Gives route)) → Ground (Giving (suc left) ticks) past m → KnowTally devices did (Giving (suc left) ticks) past m
      → BeforeTold devices false did past m.outside.outer
      → BeforeTold devices false (did ++ event_steps m (Outside_does (Gives route))) (past ++ entries m (Outside_does (Gives route))) (happens m (Outside_does (Gives route))).outside.outer
  gives_here left ticks past m route may ground tally so =
      let known = calls (Giving (suc left) ticks) past m ground in
      outside_before past m (Gives route) false
      (gives_told devices laws none did past m.outside (law.history (Giving (suc left) ticks) past m ground) route known.0 known.1.none (given.informs left ticks past m route may ground) tally.0 so)

  -- the chip takes bytes
  number_none : (past : List Entry) (b : Bool) (clock : ℕ) → SameShown (past ++ (if b then entry.Time clock ∷ [] else [])) past
  number_none past true clock = shown_all (entry.Time clock ∷ []) past ((tt, refl), tt)
  number_none past false clock = shown_all [] past tt

  chip_knows : (past : List Entry) (w : Outside) → Networks devices past w → KnowsChip devices (past ++ ticked_entry w.outer) w.outer.chip.state
  chip_knows past w networks =
      let same = number_none past (awaits_number w.outer) w.outer.clock in
      record {
        listening = λ node. networks.listening node ∙ sym (ap (λ (b : Bool). listens_at devices node && b) (same_joined (past ++ ticked_entry w.outer) past same node));
        hears = λ a b. networks.chip_hears a b ∙ sym (ap (λ (l : List Link). are_linked l a b) same.chip);
      }

  takes_go : (past : List Entry) (w : Outside) (count : ℕ) (rest : Rest) (ways : List (Item × Option Route)) → MayOutside w (Chip_takes count rest ways) → Tie nothing past w → Networks devices past w
      → Agrees devices (past ++ ticked_entry w.outer) w.outer → AirSo devices (AreNow w.outer) did past w.outer.chip.state.port → NowSo devices did past w.outer → NowTold devices did past w.outer
      → NowTold devices (did ++ outer_steps w (Chip_takes count rest ways)) (past ++ entries_outside w (Chip_takes count rest ways)) (happens_outside w (Chip_takes count rest ways)).outer
  unfolding MayOutside outer_steps
  takes_go past w count rest ways may tie networks agrees airs tally so =
      takes_told devices laws did w count rest ways may past agrees airs
      (record { log = tie.log; fly = flying tie.log w.outer.air.frames tie.kept; sent = sent_frames past w tie; joined = tie.chip }) (chip_knows past w networks) tally so

  takes : (passes ticks : ℕ) (past : List Entry) (m : Machine) (rest : Rest) (ways : List (Item × Option Route)) → May m (Outside_does (Chip_takes (length m.outside.outer.to_chip.bytes) rest ways))
      → Ground (Moving passes ticks) past m → KnowAir devices did (Moving passes ticks) past m → KnowTally devices did (Moving passes ticks) past m → NowTold devices did past m.outside.outer
      → NowAfter past m (Outside_does (Chip_takes (length m.outside.outer.to_chip.bytes) rest ways))
  takes passes ticks past m rest ways may ground airs tally so =
      let count : ℕ = length m.outside.outer.to_chip.bytes in
      outside_now past m (Chip_takes count rest ways)
      (takes_go past m.outside count rest ways (may_outside m (Chip_takes count rest ways) may) (law.history (Moving passes ticks) past m ground) (given.networks passes ticks past m ground)
      (law.agrees passes ticks past m ground) airs.0 tally.0 so)

  pub tells_event : (here next : Phase) (past : List Entry) (m : Machine) (event : Event) → Goes here m event next → May m event → Ground here past m → KnowAir devices did here past m → KnowTally devices did here past m
      → KnowTells devices did here past m → Steps next past m event
  tells_event (Said_line line) next past m event (event_is, next_is) may ground airs tally known =
      goes_to next (Begun line) event (Outside_does Begins_line) past m event_is next_is (line_begins line past m ground known)
  tells_event (Doing line (first ∷ left)) next past m event (event_is, next_is) may ground airs tally known =
      goes_to next (Doing line left) event first past m event_is next_is (doing_now line first left past m tally.1.0 (subst (May m) event_is may) ground tally known)
  tells_event (To_tick (suc ticks)) next past m event (event_is, next_is) may ground airs tally known =
      goes_to next (Ticked ticks) event (Outside_does Begins_tick) past m event_is next_is (tick_begins ticks past m ground tally known)
  tells_event (Arriving (suc left) ticks) next past m event (drawn, route, event_is, next_is) may ground airs tally known =
      goes_to next (Arriving left ticks) event (Outside_does (Arrives drawn route)) past m event_is next_is (arrives left ticks past m drawn route (subst (May m) event_is may) ground tally known)
  tells_event (Giving (suc left) ticks) next past m event (route, event_is, next_is) may ground airs tally known =
      goes_to next (Giving left ticks) event (Outside_does (Gives route)) past m event_is next_is (gives_here left ticks past m route (subst (May m) event_is may) ground tally known)
  tells_event (Ticking_devices place (suc count) ticks) next past m event (drawn, route, event_is, next_is) may ground airs tally known =
      goes_to next (Ticking_devices (place + 1) count ticks) event (Outside_does (Device_ticks place drawn route)) past m event_is next_is
      (outside_now past m (Device_ticks place drawn route)
      (still_tells devices laws none did past m.outside (law.history (Ticking_devices place (suc count) ticks) past m ground) tally.0 known (Device_ticks place drawn route) tt tt))
  tells_event (Ticking_chip ticks) next past m event (event_is, next_is) may ground airs tally known =
      goes_to next (Ticking_decoder ticks) event (Outside_does Chip_ticks) past m event_is next_is
      (outside_now past m Chip_ticks (ticks_tell devices laws none did past m.outside (law.history (Ticking_chip ticks) past m ground) tally.0 known))
  tells_event (Ticking_decoder ticks) next past m event (event_is, next_is) may ground airs tally known =
      goes_to next (Ticking_host (tick_events m.host.state) ticks) event Decoder_ticks past m event_is next_is (host_tells devices did m Decoder_ticks tt (subst (May m) event_is may) past tally.0 known)
  tells_event (Ticking_host (first ∷ events) ticks) next past m event (event_is, next_is) may ground airs tally known =
      goes_to next (Ticking_host events ticks) event (Host_does first) past m event_is next_is (host_tells devices did m (Host_does first) tt (subst (May m) event_is may) past tally.0 known)
  tells_event (Sleeping passes ticks) next past m event (node, wants, event_is, next_is) may ground airs tally known =
      goes_to next (Sleeping passes ticks) event (Host_does _) past m event_is next_is (host_tells devices did m (Host_does _) tt (subst (May m) event_is may) past tally.0 known)
  tells_event (Submitting passes ticks) next past m event (asked, is, event_is, next_is) may ground airs tally known =
      goes_to next (Submitting passes ticks) event (Host_does asked) past m event_is next_is (host_tells devices did m (Host_does asked) tt (subst (May m) event_is may) past tally.0 known)
  tells_event (Moving passes ticks) next past m event (rest, ways, event_is, next_is) may ground airs tally known =
      goes_to next (Moved true passes ticks) event (Outside_does (Chip_takes (length m.outside.outer.to_chip.bytes) rest ways)) past m event_is next_is
      (takes passes ticks past m rest ways (subst (May m) event_is may) ground airs tally known)
  tells_event (Moved has_moved passes ticks) next past m event (rest, items, done, event_is, next_is) may ground airs tally known =
      goes_to next (Sleeping passes ticks) event (Host_takes _ rest items done) past m event_is next_is (host_tells devices did m (Host_takes _ rest items done) tt (subst (May m) event_is may) past tally.0 known)
  tells_event here next past m event goes may ground airs tally known = absurd goes

  -- ---- a part begins

  to : (next phase : Phase) (past : List Entry) (m : Machine) → next ≡ phase → KnowTells devices did phase past m → KnowTells devices did next past m
  to next phase past m is known = subst (λ (q : Phase). KnowTells devices did q past m) (sym is) known

  given_all : (o : OuterState) (past : List Entry) → o.due ≡ [] → TallySo (TallyBefore devices (outlook o) false 0 (awaits_number o) 0) did past o.chip.state.port → BeforeTold devices false did past o → NowTold devices did past o
  given_all o past due (counted, count_serves, counts) (frames, serves, are) =
      (frames, serves, λ course goes. before_over devices o frames course past (outlook o) false 0 (awaits_number o) 0 (length counted) refl due (counts course goes) (are course goes))

  pub tells_turn : (here next : Phase) (past : List Entry) (m : Machine) → Turns here m next → Ground here past m → KnowTally devices did here past m → KnowTells devices did here past m → KnowTells devices did next past m
  tells_turn (Begun line) next past m (inl (events, is, next_is)) ground tally known = to next (Doing line events) past m next_is known
  tells_turn (Begun line) next past m (inr (ticks, line_is, next_is)) ground tally known = to next (To_tick ticks) past m next_is known
  tells_turn (Doing line []) next past m next_is ground tally known = to next (Sleeping 64 0) past m next_is known
  tells_turn (To_tick zero) next past m next_is ground tally known = to next Between past m next_is known
  tells_turn (Ticked ticks) next past m next_is ground tally known = to next (Arriving _ ticks) past m next_is known
  tells_turn (Arriving zero ticks) next past m next_is ground tally known =
      to next (Giving _ ticks) past m next_is
      (map_so devices (TellsBefore devices true m.outside.outer) (TellsBefore devices false m.outside.outer) (λ frames course all was. before_arrived devices m.outside.outer frames course all was) did past m.outside.outer.chip.state.port known)
  tells_turn (Giving zero ticks) next past m next_is ground tally known =
      to next (Ticking_devices 0 _ ticks) past m next_is (given_all m.outside.outer past (no_length m.outside.outer.due (calls (Giving 0 ticks) past m ground).1.many) tally.0 known)
  tells_turn (Ticking_devices place zero ticks) next past m next_is ground tally known = to next (Ticking_chip ticks) past m next_is known
  tells_turn (Ticking_host [] ticks) next past m next_is ground tally known = to next (Sleeping 64 ticks) past m next_is known
  tells_turn (Sleeping passes ticks) next past m (wants, next_is) ground tally known = to next (Submitting passes ticks) past m next_is known
  tells_turn (Submitting zero ticks) next past m (pumped, next_is) ground tally known = to next (To_tick ticks) past m next_is known
  tells_turn (Submitting (suc passes) ticks) next past m (pumped, next_is) ground tally known = to next (Moving passes ticks) past m next_is known
  tells_turn (Moving passes ticks) next past m (still, next_is) ground tally known = to next (Moved false passes ticks) past m next_is known
  tells_turn (Moved has_moved passes ticks) next past m (still, next_is) ground tally known = to next (Sleeping _ ticks) past m next_is known
  tells_turn here next past m turns ground tally known = absurd turns

  -- ---- the words of a line

  pub tells_said : (past : List Entry) (m : Machine) (words : List ℕ) (line : Line) → KnowTally devices did (Said_line line) (past ++ entry.Said words ∷ []) m → KnowTells devices did Between past m
      → KnowTells devices did (Said_line line) (past ++ entry.Said words ∷ []) m
  tells_said past m words line tally (frames, serves, are) =
      let port : PortState = m.outside.outer.chip.state.port in
      let settled = now_settled devices m.outside.outer did (past ++ entry.Said words ∷ []) port tally.0 in (
        frames,
        serves_aside did frames past (entry.Said words ∷ []) port port (tt, tt) refl refl serves,
        λ course goes. now_said devices m.outside.outer frames course past words settled (are course goes),
      )
