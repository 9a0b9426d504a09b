-- What an event outside the host makes of the air, with the number of the tick before its first entry; and what an event of the machine does.
use Rattle.std.proofs.Common.{◌≡◌, ℕ, ◌+◌, ◌||◌, Bool, true, false, if◌then◌else◌, Option, List, [], ◌∷◌, ◌++◌, refl, sym, subst, append_assoc, append-nil}
use Rattle.std.specs.Prelude.{slice_get, nat_le, Some, None}
use Rattle.std.specs.List.{AllByRecursion}
use Rattle.zw_base.proofs.Each.{all-append}
use Rattle.zw_words.specs.declared.side.Side.TheVariants.{Host as by_host, Chip as by_chip}
use Rattle.zw_text.specs.declared.entry.Entry.{Entry}
use Rattle.zw_text.specs.declared.entry.Entry.TheVariants.{Refused}
use Rattle.serial_pipes.specs.Events.{told}
use Rattle.chip_sim.specs.Did.{judged_all}
use Rattle.chip_sim.specs.Events.{Ticked}
use Rattle.device_sim.specs.Event.{Ticks, Wakes, Sets}
use Rattle.air_frames.specs.Flown.{Flown}
use Rattle.air_frames.specs.Frames.{peer_of, next_of}
use Rattle.proof_air.specs.mesh_sim.Air.{AirState, beginning}
use Rattle.proof_air.specs.mesh_sim.Fates.{place_of}
use Rattle.proof_air.specs.mesh_sim.Steps.{landed}
use Rattle.proof_air.specs.host_model.State.{HostState}
use Rattle.proof_air.specs.host_model.Events.{HostEvent}
use Rattle.proof_air.specs.host_model.Did.{outs_all}
use Rattle.proof_air.specs.host_model.declared.out.HostOut.{HostOut}
use Rattle.proof_air.specs.host_model.declared.out.HostOut.TheVariants.{Write, Note}
use Rattle.proof_air.specs.host_model.Outs.{answers}
use Rattle.proof_air.specs.outside_model.State.{OuterState, Outside, Outcome}
use Rattle.proof_air.specs.outside_model.Chip.{chip_does}
use Rattle.proof_air.specs.outside_model.Results.{device_at}
use Rattle.proof_air.specs.outside_model.Events.{OuterEvent, Begins_line, Begins_tick, Host_writes, Host_takes as host_takes, Host_notes, Host_begins, Chip_takes, Arrives, Gives, Device_ticks, Chip_ticks, Repeats, Wakes_device, Sets_device, Shows, Joins, Discovers, Links, Loses, Loses_acks, Marks_loss, Marks_change, Clears_pipe, Collides_next, Stalls, Cuts, begins, outcome, ticked_entry, stamp, has_entered, happens as happens_outside, entries as entries_outside}
use Rattle.proof_air.specs.outside_model.Did.{happens_all as happens_all_outside, entries_all as entries_all_outside}
use Rattle.proof_air.specs.world_model.State.{Machine, begun_in, noted_by, routed, host_does}
use Rattle.proof_air.specs.world_model.Events.{Event, Outside_does, Host_does, Host_takes, Decoder_ticks, Refuses, Shows_values, Restarts, notes, shown_values, happens, entries}
use Rattle.law_host.specs.law_transcript.Lists.{EachAfter}
use Rattle.proof_air.proofs.Lists.{each-append}
use Rattle.proof_transcript.proofs.Plain.{IsPlain, Plains, told_plain, shown_plain, cleared_plain}
use Rattle.proof_transcript.proofs.HostOuts.{PlainOuts, all_outs_plain, answers_plain}
use Rattle.proof_transcript.proofs.KeptOverLists.{Keeps, Airs, Goes, IsSameTime, keeps_none, keeps_both}
use Rattle.proof_transcript.proofs.Arrivals.{IsFate, Lands}
use Rattle.proof_transcript.proofs.Outcomes.{goes_still, each_goes, does_goes, gives_goes, at_goes, hand_goes}

-- an event that lets no frame arrive, begins no line or tick, and marks no frames; what the host notes speaks of none of these
abbrev pub IsQuiet : OuterEvent → Type 0
IsQuiet Begins_line = ⊥
IsQuiet Begins_tick = ⊥
IsQuiet (Host_notes entry) = IsPlain entry
IsQuiet (Arrives drawn route) = ⊥
IsQuiet (Repeats number drawn route) = ⊥
IsQuiet (Loses count) = ⊥
IsQuiet _ = Unit {0}

-- so of an event of the machine, with all that it does outside the host
abbrev pub IsCalm : Event → Type 0
IsCalm (Outside_does event) = IsQuiet event
IsCalm _ = Unit {0}

module _ (Asks : List Entry → Entry → Type 0) (Knows : List Entry → AirState → Type 0) (airs : Airs Asks Knows) where
  -- the air alone becomes another
  aired : (o p : OuterState) → Keeps Asks Knows o.air [] p.air → IsSameTime o p → Goes Asks Knows o (record { outer = p; entries = [] })
  aired o p keeps time = record { keeps = keeps; time = time }

  begins_keep : (air : AirState) (node sessions : ℕ) → Keeps Asks Knows air [] (begins air node sessions)
  begins_keep air node sessions = by (nat_le (peer_of air.frames node).begun sessions)
    where
      by : (b : Bool) → Keeps Asks Knows air [] (if b then beginning air node sessions else air)
      by true = airs.same air (beginning air node sessions) (record { sent = refl; landed = refl; frames = refl; losing = refl })
      by false = keeps_none Asks Knows air

  still : (o p : OuterState) → p.air ≡ o.air → IsSameTime o p → Goes Asks Knows o (record { outer = p; entries = [] })
  still o p air time = goes_still Asks Knows airs o p [] tt air time

  pub quiet_goes : (w : Outside) (event : OuterEvent) → IsQuiet event → Goes Asks Knows w.outer (outcome w event)
  unfolding outcome
  quiet_goes w Begins_line quiet = absurd quiet
  quiet_goes w Begins_tick quiet = absurd quiet
  quiet_goes w (Host_writes unit) quiet = goes_still Asks Knows airs w.outer (outcome w (Host_writes unit)).outer (told by_host w.outer.to_chip unit) (told_plain by_host w.outer.to_chip unit) refl (record { in_tick = refl; stamped = refl })
  quiet_goes w (host_takes count) quiet = still w.outer (outcome w (host_takes count)).outer refl (record { in_tick = refl; stamped = refl })
  quiet_goes w (Host_notes entry) quiet = goes_still Asks Knows airs w.outer w.outer (entry ∷ []) (quiet, tt) refl (record { in_tick = refl; stamped = refl })
  quiet_goes w (Host_begins node sessions) quiet = aired w.outer (outcome w (Host_begins node sessions)).outer (begins_keep w.outer.air node sessions) (record { in_tick = refl; stamped = refl })
  quiet_goes w (Chip_takes count rest ways) quiet =
      let goes = each_goes Asks Knows airs chip_does (does_goes Asks Knows airs) _ (judged_all ways) in
      record { keeps = goes.keeps; time = record { in_tick = goes.time.in_tick; stamped = goes.time.stamped } }
  quiet_goes w (Arrives drawn route) quiet = absurd quiet
  quiet_goes w (Gives route) quiet = gives_goes Asks Knows airs w.outer w.devices w.outer.due route
  quiet_goes w (Device_ticks place drawn route) quiet = at_goes Asks Knows airs w.outer (slice_get w.devices place) (Ticks drawn) route
  quiet_goes w Chip_ticks quiet =
      let goes = does_goes Asks Knows airs _ Ticked in
      record { keeps = goes.keeps; time = record { in_tick = goes.time.in_tick; stamped = goes.time.stamped } }
  quiet_goes w (Repeats number drawn route) quiet = absurd quiet
  quiet_goes w (Wakes_device node route) quiet = hand_goes Asks Knows airs w.outer w.devices (place_of node w.devices) Wakes route
  quiet_goes w (Sets_device node value route) quiet = hand_goes Asks Knows airs w.outer w.devices (place_of node w.devices) (Sets value) route
  quiet_goes w (Shows node) quiet = goes_still Asks Knows airs w.outer w.outer (outcome w (Shows node)).entries (shown_plain node (device_at w.devices (place_of node w.devices))) refl (record { in_tick = refl; stamped = refl })
  quiet_goes w (Joins node) quiet =
      aired w.outer (outcome w (Joins node)).outer (airs.same w.outer.air (outcome w (Joins node)).outer.air (record { sent = refl; landed = refl; frames = refl; losing = refl })) (record { in_tick = refl; stamped = refl })
  quiet_goes w Discovers quiet = still w.outer (outcome w Discovers).outer refl (record { in_tick = refl; stamped = refl })
  quiet_goes w (Links a b live) quiet =
      aired w.outer (outcome w (Links a b live)).outer (airs.same w.outer.air (outcome w (Links a b live)).outer.air (record { sent = refl; landed = refl; frames = refl; losing = refl })) (record { in_tick = refl; stamped = refl })
  quiet_goes w (Loses count) quiet = absurd quiet
  quiet_goes w (Loses_acks count) quiet =
      aired w.outer (outcome w (Loses_acks count)).outer (airs.same w.outer.air (outcome w (Loses_acks count)).outer.air (record { sent = refl; landed = refl; frames = refl; losing = refl })) (record { in_tick = refl; stamped = refl })
  quiet_goes w (Marks_loss by_host) quiet = still w.outer (outcome w (Marks_loss by_host)).outer refl (record { in_tick = refl; stamped = refl })
  quiet_goes w (Marks_loss by_chip) quiet = still w.outer (outcome w (Marks_loss by_chip)).outer refl (record { in_tick = refl; stamped = refl })
  quiet_goes w (Marks_change by_host garble) quiet = still w.outer (outcome w (Marks_change by_host garble)).outer refl (record { in_tick = refl; stamped = refl })
  quiet_goes w (Marks_change by_chip garble) quiet = still w.outer (outcome w (Marks_change by_chip garble)).outer refl (record { in_tick = refl; stamped = refl })
  quiet_goes w (Clears_pipe by_host) quiet =
      goes_still Asks Knows airs w.outer (outcome w (Clears_pipe by_host)).outer (outcome w (Clears_pipe by_host)).entries (cleared_plain by_host _) refl (record { in_tick = refl; stamped = refl })
  quiet_goes w (Clears_pipe by_chip) quiet =
      goes_still Asks Knows airs w.outer (outcome w (Clears_pipe by_chip)).outer (outcome w (Clears_pipe by_chip)).entries (cleared_plain by_chip _) refl (record { in_tick = refl; stamped = refl })
  quiet_goes w Collides_next quiet = still w.outer (outcome w Collides_next).outer refl (record { in_tick = refl; stamped = refl })
  quiet_goes w (Stalls ticks) quiet = still w.outer (outcome w (Stalls ticks)).outer refl (record { in_tick = refl; stamped = refl })
  quiet_goes w (Cuts size) quiet = still w.outer (outcome w (Cuts size)).outer refl (record { in_tick = refl; stamped = refl })

-- ---- the number of the tick

-- What is known of the air goes on with its number before the first entry, and so what is known of all outside the host.
pub record Stamps (Asks : List Entry → Entry → Type 0) (Knows : List Entry → AirState → Type 0) (Known : List Entry → OuterState → Type 0) : Type 0 where
  pub first : (past : List Entry) (o p : OuterState) → IsSameTime o p → Known past o → EachAfter Asks past (ticked_entry p) × Knows (past ++ ticked_entry p) o.air
  pub entered : (past : List Entry) (p : OuterState) → Knows past p.air → Known past (record p { stamped = p.in_tick || p.stamped })
  pub silent : (past : List Entry) (o p : OuterState) → IsSameTime o p → (Knows past o.air → Knows past p.air) → Known past o → Known past p

module _ (Asks : List Entry → Entry → Type 0) (Knows : List Entry → AirState → Type 0) (Known : List Entry → OuterState → Type 0) (stamps : Stamps Asks Knows Known) where
  pub stamped_keeps : (o p : OuterState) (told : List Entry) → Keeps Asks Knows o.air told p.air → IsSameTime o p → Keeps Asks Known o (stamp p told) (has_entered p told)
  stamped_keeps o p [] keeps time past known = (
    tt,
    subst (λ (l : List Entry). Known l p) (sym (append-nil past))
        (stamps.silent past o p time (λ knows. subst (λ (l : List Entry). Knows l p.air) (append-nil past) (keeps past knows).1) known),
  )
  stamped_keeps o p (entry ∷ told) keeps time past known =
      let first = stamps.first past o p time known in
      let rest = keeps (past ++ ticked_entry p) first.1 in (
        each-append Asks past (ticked_entry p) (entry ∷ told) first.0 rest.0,
        stamps.entered (past ++ (ticked_entry p ++ entry ∷ told)) p (subst (λ (l : List Entry). Knows l p.air) (append_assoc past (ticked_entry p) (entry ∷ told)) rest.1),
      )

  -- the next frame arrives
  pub lands_keep : (o : OuterState) (x : Outcome) → Lands Asks Knows o x
      → ((frame : Flown) (e : Entry) → next_of o.air.frames ≡ Some frame → IsFate frame (o.air.frames.landed + 1) e → Keeps Asks Knows o.air (e ∷ []) (landed o.air))
      → Keeps Asks Known o (stamp x.outer x.entries) (has_entered x.outer x.entries)
  lands_keep o x lands fares =
      stamped_keeps o x.outer x.entries
      (subst (λ (l : List Entry). Keeps Asks Knows o.air l x.outer.air) (sym lands.told)
      (keeps_both Asks Knows o.air (landed o.air) x.outer.air (lands.fate ∷ []) lands.rest (fares lands.frame lands.fate lands.next lands.is) lands.keeps))
      lands.time

  module _ (airs : Airs Asks Knows) where
    -- ---- an event outside the host

    pub event_keeps : (w : Outside) (event : OuterEvent) → IsQuiet event → Keeps Asks Known w.outer (entries_outside w event) (happens_outside w event).outer
    event_keeps w event quiet =
        let goes : Goes Asks Knows w.outer (outcome w event) = quiet_goes Asks Knows airs w event quiet in
        stamped_keeps w.outer (outcome w event).outer (outcome w event).entries goes.keeps goes.time

    all_keep : (w : Outside) (events : List OuterEvent) → AllByRecursion IsQuiet events → Keeps Asks Known w.outer (entries_all_outside w events) (happens_all_outside w events).outer
    all_keep w [] quiet = keeps_none Asks Known w.outer
    all_keep w (event ∷ events) quiet =
        keeps_both Asks Known w.outer (happens_outside w event).outer (happens_all_outside (happens_outside w event) events).outer
        (entries_outside w event) (entries_all_outside (happens_outside w event) events) (event_keeps w event quiet.0) (all_keep (happens_outside w event) events quiet.1)

    -- ---- what the host puts out

    noted_quiet : (begun : Option (ℕ × ℕ)) (entry : Entry) → IsPlain entry → AllByRecursion IsQuiet (noted_by begun entry)
    noted_quiet None entry plain = (plain, tt)
    noted_quiet (Some begun) entry plain = (tt, (plain, tt))

    routed_quiet : (outs : List HostOut) → PlainOuts outs → AllByRecursion IsQuiet (routed outs)
    routed_quiet [] plain = tt
    routed_quiet (Write unit ∷ outs) plain = (tt, routed_quiet outs plain.1)
    routed_quiet (Note entry ∷ outs) plain = all-append IsQuiet (noted_by (begun_in entry) entry) (routed outs) (noted_quiet (begun_in entry) entry plain.0) (routed_quiet outs plain.1)

    notes_quiet : (told : List Entry) → Plains told → AllByRecursion IsQuiet (notes told)
    notes_quiet [] plain = tt
    notes_quiet (entry ∷ told) plain = (plain.0, notes_quiet told plain.1)

    outs_keep : (w : Outside) (h : HostState) (events : List HostEvent) → Keeps Asks Known w.outer (entries_all_outside w (routed (outs_all h events))) (happens_all_outside w (routed (outs_all h events))).outer
    outs_keep w h events = all_keep w (routed (outs_all h events)) (routed_quiet (outs_all h events) (all_outs_plain h events))

    answers_keep : (w : Outside) (h : HostState) (event : HostEvent) → Keeps Asks Known w.outer (entries_all_outside w (notes (answers h event))) (happens_all_outside w (notes (answers h event))).outer
    answers_keep w h event = all_keep w (notes (answers h event)) (notes_quiet (answers h event) (answers_plain h event))

    -- the host takes bytes
    takes_keep : (w : Outside) (count : ℕ) → Keeps Asks Known w.outer [] (happens_outside w (host_takes count)).outer
    unfolding outcome
    takes_keep w count = event_keeps w (host_takes count) tt

    -- ---- an event of the machine

    pub calm_keeps : (m : Machine) (event : Event) → IsCalm event → Keeps Asks Known m.outside.outer (entries m event) (happens m event).outside.outer
    unfolding happens entries
    calm_keeps m (Outside_does event) calm = event_keeps m.outside event calm
    calm_keeps m (Host_does event) calm =
        let later : Outside = (host_does m (event ∷ [])).outside in
        keeps_both Asks Known m.outside.outer later.outer (happens_all_outside later (notes (answers m.host.state event))).outer
        (entries_all_outside m.outside (routed (outs_all m.host.state (event ∷ [])))) (entries_all_outside later (notes (answers m.host.state event)))
        (outs_keep m.outside m.host.state (event ∷ [])) (answers_keep later m.host.state event)
    calm_keeps m (Host_takes count rest items events) calm =
        keeps_both Asks Known m.outside.outer (happens_outside m.outside (host_takes count)).outer
        (happens_all_outside (happens_outside m.outside (host_takes count)) (routed (outs_all m.host.state events))).outer []
        (entries_all_outside (happens_outside m.outside (host_takes count)) (routed (outs_all m.host.state events)))
        (takes_keep m.outside count) (outs_keep (happens_outside m.outside (host_takes count)) m.host.state events)
    calm_keeps m Decoder_ticks calm = keeps_none Asks Known m.outside.outer
    calm_keeps m (Refuses line refusal) calm = event_keeps m.outside (Host_notes (Refused refusal)) tt
    calm_keeps m (Shows_values node) calm = event_keeps m.outside (Host_notes (shown_values m.host.state node)) tt
    calm_keeps m (Restarts state) calm = keeps_none Asks Known m.outside.outer
