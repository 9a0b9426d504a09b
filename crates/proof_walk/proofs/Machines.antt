-- What goes on through each event outside the host goes on through each event of the machine: so what a law owes there, and of a host's units and notes, is enough.
use Rattle.std.proofs.Common.{◌≡◌, ℕ, ◌+◌, true, false, List, [], ◌∷◌, ◌++◌, length, refl, sym, subst, append_assoc, append-nil}
use Rattle.std.specs.Prelude.{Some, None}
use Rattle.std.specs.List.{AllByRecursion}
use Rattle.serial_frame.specs.declared.unit.Unit.{Unit as LineUnit}
use Rattle.zw_text.specs.declared.entry.Entry.{Entry}
use Rattle.zw_text.specs.declared.entry.Entry.TheVariants as entry
use Rattle.proof_host.specs.law_transcript.Lists.{EachAfter}
use Rattle.proof_host.proofs.Lists.{each-append}
use Rattle.proof_host.specs.host_model.State.{HostState}
use Rattle.proof_host.specs.host_model.Events.{HostEvent, Accepts, Cancels}
use Rattle.proof_host.specs.host_model.Did.{outs_all}
use Rattle.proof_host.specs.host_model.declared.out.HostOut.{HostOut}
use Rattle.proof_host.specs.host_model.declared.out.HostOut.TheVariants.{Write, Note}
use Rattle.proof_host.specs.host_model.Outs.{answers}
use Rattle.proof_device.specs.outside_model.State.{Outside, is_stalled}
use Rattle.proof_device.specs.outside_model.Events.{OuterEvent, Begins_line, Begins_tick, Host_writes, Host_takes as host_takes, Host_notes, Host_begins, Chip_takes, Arrives, Gives, Device_ticks, Chip_ticks, Repeats, Wakes_device, Sets_device, outcome, May as MayOutside, happens as happens_outside, entries as entries_outside, is_own}
use Rattle.zw_text.specs.declared.entry.Ended.TheVariants.{Cancelled}
use Rattle.proof_device.specs.outside_model.Did.{happens_all as happens_all_outside, entries_all as entries_all_outside}
use Rattle.proof_device.proofs.outside_model_EventLists.{happens_all-append, entries_all-append}
use Rattle.proof_device.specs.world_model.State.{Machine, begun_in, noted_by, routed, host_does}
use Rattle.proof_device.specs.world_model.Events.{Event, Outside_does, Host_does, Host_takes, Decoder_ticks, Refuses, Shows_values, Restarts, notes, shown_values, happens, entries, May}
use Rattle.proof_walk.specs.Outside.{Pending, Knowing, Outer, Known, CoversOuter, CoversHost, CoversRefusal, CoversAnswer, IsNote, IsHostNote}
use Rattle.proof_walk.proofs.HostNotes.{NoteOuts, is_note, all_outs_note}
use Rattle.proof_walk.proofs.Stamping.{Fits, outer_keeps, session_keeps}
use Rattle.proof_host.proofs.Deciding.{not_true as not_own}

own_fits : (Covers : OuterEvent → Type 0) (event : OuterEvent) → is_own event ≡ true → Covers event → CoversRefusal Covers event → Fits Covers event
own_fits Covers (Host_writes unit) own covers refuses = absurd (not_own own)
own_fits Covers (host_takes count) own covers refuses = absurd (not_own own)
own_fits Covers (Host_notes note) own covers refuses = absurd (not_own own)
own_fits Covers (Host_begins node sessions) own covers refuses = absurd (not_own own)
own_fits Covers Begins_line own covers refuses = covers
own_fits Covers Begins_tick own covers refuses = covers
own_fits Covers (Chip_takes count rest ways) own covers refuses = tt
own_fits Covers (Arrives drawn route) own covers refuses = tt
own_fits Covers (Gives route) own covers refuses = tt
own_fits Covers (Device_ticks place drawn route) own covers refuses = tt
own_fits Covers Chip_ticks own covers refuses = tt
own_fits Covers (Repeats number drawn route) own covers refuses = refuses
own_fits Covers (Wakes_device node route) own covers refuses = refuses
own_fits Covers (Sets_device node value route) own covers refuses = refuses
own_fits Covers event own covers refuses = (tt, covers)

-- ---- what covers each event of the host covers these

pub covers_host : (Covers : OuterEvent → Type 0) → ((event : OuterEvent) → is_own event ≡ false → Covers event) → CoversHost Covers
covers_host Covers hosts = record { writes = λ unit. hosts (Host_writes unit) refl; takes = λ count. hosts (host_takes count) refl; notes = λ note is. hosts (Host_notes note) refl }

covers_refusal : (Covers : OuterEvent → Type 0) → ((note : Entry) → IsNote note → Covers (Host_notes note)) → (event : OuterEvent) → CoversRefusal Covers event
covers_refusal Covers notes (Repeats number drawn route) = λ refused. notes (entry.Refused refused) tt
covers_refusal Covers notes (Wakes_device node route) = λ refused. notes (entry.Refused refused) tt
covers_refusal Covers notes (Sets_device node value route) = λ refused. notes (entry.Refused refused) tt
covers_refusal Covers notes event = tt

covers_told : (Covers : OuterEvent → Type 0) → ((note : Entry) → IsNote note → Covers (Host_notes note)) → (h : HostState) (event : HostEvent)
    → AllByRecursion (λ note. Covers (Host_notes note)) (answers h event)
covers_told Covers notes h (Accepts order carriage) = (notes (entry.Accepted (length h.commands + 1) order.node) tt, tt)
covers_told Covers notes h (Cancels command) = (notes (entry.Out command Cancelled) tt, tt)
covers_told Covers notes h event = tt

-- where each note is covered, so is what answers a line
pub covers_answer : (Covers : OuterEvent → Type 0) → ((note : Entry) → IsNote note → Covers (Host_notes note)) → (event : Event) → CoversAnswer Covers event
covers_answer Covers notes (Outside_does event) = covers_refusal Covers notes event
covers_answer Covers notes (Host_does event) = λ h. covers_told Covers notes h event
covers_answer Covers notes (Refuses line refused) = notes (entry.Refused refused) tt
covers_answer Covers notes (Shows_values node) = λ text. notes (entry.Json text) tt
covers_answer Covers notes event = tt

-- ---- what the host puts out

-- each unit that is written is so
abbrev pub UnitsAre : (LineUnit → Type 0) → List HostOut → Type 0
UnitsAre Is [] = Unit {0}
UnitsAre Is (Write unit ∷ outs) = Is unit × UnitsAre Is outs
UnitsAre Is (Note note ∷ outs) = UnitsAre Is outs

pub any_units : (outs : List HostOut) → UnitsAre (λ unit. Unit {0}) outs
any_units [] = tt
any_units (Write unit ∷ outs) = (tt, any_units outs)
any_units (Note note ∷ outs) = any_units outs

pub any_told : (told : List Entry) → AllByRecursion (λ note. Unit {0}) told
any_told [] = tt
any_told (note ∷ told) = (tt, any_told told)

-- What goes on where nothing happens, through one list of entries and then the next, through a unit and a note that are so, and where a session begins goes on through all
-- that a host puts out.
module _ (IsUnit : LineUnit → Type 0) (IsTold : Entry → Type 0) (Keeps : Outside → List Entry → Outside → Type 0)
    (keeps_none : (w : Outside) → Keeps w [] w)
    (keeps_both : (w u v : Outside) (xs ys : List Entry) → Keeps w xs u → Keeps u ys v → Keeps w (xs ++ ys) v)
    (writes_keep : (w : Outside) (unit : LineUnit) → IsUnit unit → Keeps w (entries_outside w (Host_writes unit)) (happens_outside w (Host_writes unit)))
    (note_keeps : (w : Outside) (note : Entry) → IsNote note → begun_in note ≡ None → IsTold note → Keeps w (entries_outside w (Host_notes note)) (happens_outside w (Host_notes note)))
    (session : (w : Outside) (node session command : ℕ)
    → Keeps w (entries_outside w (Host_begins node session) ++ entries_outside (happens_outside w (Host_begins node session)) (Host_notes (entry.Begin node session command)))
    (happens_outside (happens_outside w (Host_begins node session)) (Host_notes (entry.Begin node session command)))) where
  -- what becomes of one event, and then of others
  then_keep : (w : Outside) (first later : List OuterEvent) → Keeps w (entries_all_outside w first) (happens_all_outside w first)
      → Keeps (happens_all_outside w first) (entries_all_outside (happens_all_outside w first) later) (happens_all_outside (happens_all_outside w first) later)
      → Keeps w (entries_all_outside w (first ++ later)) (happens_all_outside w (first ++ later))
  then_keep w first later one two =
      subst (λ (l : List Entry). Keeps w l (happens_all_outside w (first ++ later))) (sym (entries_all-append w first later))
      (subst (λ (u : Outside). Keeps w (entries_all_outside w first ++ entries_all_outside (happens_all_outside w first) later) u) (sym (happens_all-append w first later))
      (keeps_both w (happens_all_outside w first) (happens_all_outside (happens_all_outside w first) later) (entries_all_outside w first)
      (entries_all_outside (happens_all_outside w first) later) one two))

  -- a single event
  one_keeps : (w : Outside) (event : OuterEvent) → Keeps w (entries_outside w event) (happens_outside w event) → Keeps w (entries_all_outside w (event ∷ [])) (happens_all_outside w (event ∷ []))
  one_keeps w event keeps = subst (λ (l : List Entry). Keeps w l (happens_outside w event)) (sym (append-nil (entries_outside w event))) keeps

  -- a session that begins is noted as the air learns of it
  begun_keeps : (w : Outside) (node number command : ℕ)
      → Keeps w (entries_all_outside w (noted_by (Some (node, number)) (entry.Begin node number command))) (happens_all_outside w (noted_by (Some (node, number)) (entry.Begin node number command)))
  begun_keeps w node number command =
      let later : Outside = happens_outside w (Host_begins node number) in
      subst (λ (l : List Entry). Keeps w (entries_outside w (Host_begins node number) ++ l) (happens_outside later (Host_notes (entry.Begin node number command))))
      (sym (append-nil (entries_outside later (Host_notes (entry.Begin node number command)))))
      (session w node number command)

  noted_keeps : (w : Outside) (note : Entry) → IsNote note → IsTold note
      → Keeps w (entries_all_outside w (noted_by (begun_in note) note)) (happens_all_outside w (noted_by (begun_in note) note))
  noted_keeps w (entry.Begin node number command) is told = begun_keeps w node number command
  noted_keeps w note is told = one_keeps w (Host_notes note) (note_keeps w note is refl told)

  pub answers_keep : (w : Outside) (h : HostState) (event : HostEvent) → AllByRecursion IsTold (answers h event)
      → Keeps w (entries_all_outside w (notes (answers h event))) (happens_all_outside w (notes (answers h event)))
  answers_keep w h (Accepts order carriage) told =
      one_keeps w (Host_notes (entry.Accepted (length h.commands + 1) order.node)) (note_keeps w (entry.Accepted (length h.commands + 1) order.node) tt refl told.0)
  answers_keep w h (Cancels command) told = one_keeps w (Host_notes (entry.Out command Cancelled)) (note_keeps w (entry.Out command Cancelled) tt refl told.0)
  answers_keep w h event told = keeps_none w

  module _ (notes_told : (note : Entry) → IsHostNote note → IsTold note) where
    puts_keep : (w : Outside) (outs : List HostOut) → NoteOuts outs → UnitsAre IsUnit outs → Keeps w (entries_all_outside w (routed outs)) (happens_all_outside w (routed outs))
    puts_keep w [] are units = keeps_none w
    puts_keep w (Write unit ∷ outs) are units =
        then_keep w (Host_writes unit ∷ []) (routed outs) (one_keeps w (Host_writes unit) (writes_keep w unit units.0)) (puts_keep (happens_outside w (Host_writes unit)) outs are.1 units.1)
    puts_keep w (Note note ∷ outs) are units =
        then_keep w (noted_by (begun_in note) note) (routed outs) (noted_keeps w note (is_note note are.0) (notes_told note are.0))
        (puts_keep (happens_all_outside w (noted_by (begun_in note) note)) outs are.1 units)

    pub outs_keep : (w : Outside) (h : HostState) (events : List HostEvent) → UnitsAre IsUnit (outs_all h events)
        → Keeps w (entries_all_outside w (routed (outs_all h events))) (happens_all_outside w (routed (outs_all h events)))
    outs_keep w h events units = puts_keep w (outs_all h events) (all_outs_note h events) units

-- ---- an event of the machine

-- What goes on through each event outside the host, and so where a session begins, goes on through those of the machine.
module _ (Covers : OuterEvent → Type 0) (host : CoversHost Covers) (Keeps : Outside → List Entry → Outside → Type 0)
    (none : (w : Outside) → Keeps w [] w)
    (both : (w u v : Outside) (xs ys : List Entry) → Keeps w xs u → Keeps u ys v → Keeps w (xs ++ ys) v)
    (outer : (w : Outside) (event : OuterEvent) → Covers event → Fits Covers event → MayOutside w event → Keeps w (entries_outside w event) (happens_outside w event))
    (session : (w : Outside) (node session command : ℕ)
    → Keeps w (entries_outside w (Host_begins node session) ++ entries_outside (happens_outside w (Host_begins node session)) (Host_notes (entry.Begin node session command)))
    (happens_outside (happens_outside w (Host_begins node session)) (Host_notes (entry.Begin node session command)))) where
  abbrev Any : LineUnit → Type 0
  Any unit = Unit {0}

  abbrev Told_of : Entry → Type 0
  Told_of note = Covers (Host_notes note)

  -- it writes
  writes_keep : (w : Outside) (unit : LineUnit) → Any unit → Keeps w (entries_outside w (Host_writes unit)) (happens_outside w (Host_writes unit))
  unfolding MayOutside
  writes_keep w unit any = outer w (Host_writes unit) (host.writes unit) (tt, host.writes unit) tt

  -- it notes that no session has begun
  note_keeps : (w : Outside) (note : Entry) → IsNote note → begun_in note ≡ None → Told_of note → Keeps w (entries_outside w (Host_notes note)) (happens_outside w (Host_notes note))
  unfolding MayOutside
  note_keeps w note is unbegun covers = outer w (Host_notes note) covers ((is, unbegun), covers) tt

  -- the host takes bytes
  takes_keep : (w : Outside) (count : ℕ) → is_stalled w.outer ≡ false → Keeps w [] (happens_outside w (host_takes count))
  unfolding outcome MayOutside
  takes_keep w count moves = outer w (host_takes count) (host.takes count) (tt, host.takes count) moves

  of_host : (w : Outside) (h : HostState) (events : List HostEvent) → Keeps w (entries_all_outside w (routed (outs_all h events))) (happens_all_outside w (routed (outs_all h events)))
  of_host w h events = outs_keep Any Told_of Keeps none both writes_keep note_keeps session host.notes w h events (any_units (outs_all h events))

  -- the values of a node are shown
  shows_keep : (w : Outside) (h : HostState) (node : ℕ) → ((text : List ℕ) → Covers (Host_notes (entry.Json text)))
      → Keeps w (entries_outside w (Host_notes (shown_values h node))) (happens_outside w (Host_notes (shown_values h node)))
  shows_keep w h node covers = note_keeps w (shown_values h node) tt refl (covers _)

  pub machine_goes : (m : Machine) (event : Event) → CoversOuter Covers event → CoversAnswer Covers event → May m event → Keeps m.outside (entries m event) (happens m event).outside
  unfolding happens entries May
  machine_goes m (Outside_does event) covers answers_it may = outer m.outside event covers (own_fits Covers event may.0 covers answers_it) may.1
  machine_goes m (Host_does event) covers answers_it may =
      let later : Outside = (host_does m (event ∷ [])).outside in
      both m.outside later (happens_all_outside later (notes (answers m.host.state event)))
      (entries_all_outside m.outside (routed (outs_all m.host.state (event ∷ [])))) (entries_all_outside later (notes (answers m.host.state event)))
      (of_host m.outside m.host.state (event ∷ [])) (answers_keep Any Told_of Keeps none both writes_keep note_keeps session later m.host.state event (answers_it m.host.state))
  machine_goes m (Host_takes count rest items events) covers answers_it may =
      let later : Outside = happens_outside m.outside (host_takes count) in
      both m.outside later (happens_all_outside later (routed (outs_all m.host.state events))) [] (entries_all_outside later (routed (outs_all m.host.state events)))
      (takes_keep m.outside count may.moves) (of_host later m.host.state events)
  machine_goes m Decoder_ticks covers answers_it may = none m.outside
  machine_goes m (Refuses line refusal) covers answers_it may = note_keeps m.outside (entry.Refused refusal) tt refl answers_it
  machine_goes m (Shows_values node) covers answers_it may = shows_keep m.outside m.host.state node answers_it
  machine_goes m (Restarts state) covers answers_it may = none m.outside

-- The same where a session that begins is an event like the others.
module _ (Covers : OuterEvent → Type 0) (host : CoversHost Covers) (begins : (node sessions : ℕ) → Covers (Host_begins node sessions)) (Keeps : Outside → List Entry → Outside → Type 0)
    (none : (w : Outside) → Keeps w [] w)
    (both : (w u v : Outside) (xs ys : List Entry) → Keeps w xs u → Keeps u ys v → Keeps w (xs ++ ys) v)
    (outer : (w : Outside) (event : OuterEvent) → Covers event → Keeps w (entries_outside w event) (happens_outside w event)) where
  begun_noted : (w : Outside) (node session command : ℕ)
      → Keeps w (entries_outside w (Host_begins node session) ++ entries_outside (happens_outside w (Host_begins node session)) (Host_notes (entry.Begin node session command)))
      (happens_outside (happens_outside w (Host_begins node session)) (Host_notes (entry.Begin node session command)))
  begun_noted w node session command =
      let later : Outside = happens_outside w (Host_begins node session) in
      let note : Entry = entry.Begin node session command in
      both w later (happens_outside later (Host_notes note)) (entries_outside w (Host_begins node session)) (entries_outside later (Host_notes note))
      (outer w (Host_begins node session) (begins node session)) (outer later (Host_notes note) (host.notes note tt))

  pub machine_goes_on : (m : Machine) (event : Event) → CoversOuter Covers event → CoversAnswer Covers event → May m event → Keeps m.outside (entries m event) (happens m event).outside
  machine_goes_on m event covers answers_it may =
      machine_goes Covers host Keeps none both (λ w event covered fits may. outer w event covered) begun_noted m event covers answers_it may

-- What a law owes outside the host, and of the units and notes of the host, is enough.
module _ (Asks : List Entry → Entry → Type 0) (Knows : Pending → Knowing) (Covers : OuterEvent → Type 0) (law : Outer Asks Knows Covers) where
  abbrev pub Keeps_known : Outside → List Entry → Outside → Type 0
  Keeps_known w told later = (past : List Entry) → Known Asks Knows past w → EachAfter Asks past told × Known Asks Knows (past ++ told) later

  known_none : (w : Outside) → Keeps_known w [] w
  known_none w past known = (tt, subst (λ (l : List Entry). Known Asks Knows l w) (sym (append-nil past)) known)

  known_both : (w u v : Outside) (xs ys : List Entry) → Keeps_known w xs u → Keeps_known u ys v → Keeps_known w (xs ++ ys) v
  known_both w u v xs ys first later past known =
      let one = first past known in
      let two = later (past ++ xs) one.1 in
      (each-append Asks past xs ys one.0 two.0, subst (λ (l : List Entry). Known Asks Knows l v) (append_assoc past xs ys) two.1)

  pub event_keeps : CoversHost Covers → (m : Machine) (event : Event) → CoversOuter Covers event → CoversAnswer Covers event → May m event
      → Keeps_known m.outside (entries m event) (happens m event).outside
  event_keeps host m event covers answers_it may =
      machine_goes Covers host Keeps_known known_none known_both (λ w event covers fits may. outer_keeps Asks Knows Covers law w event fits may)
      (λ w node session command. session_keeps Asks Knows Covers law w node session command) m event covers answers_it may

  -- the same where each event of the host is covered
  pub machine_keeps : ((event : OuterEvent) → is_own event ≡ false → Covers event) → (m : Machine) (event : Event) → CoversOuter Covers event → May m event
      → Keeps_known m.outside (entries m event) (happens m event).outside
  machine_keeps hosts m event covers may = event_keeps (covers_host Covers hosts) m event covers (covers_answer Covers (λ note is. hosts (Host_notes note) refl) event) may
