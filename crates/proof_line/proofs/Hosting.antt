-- What is known of the pipes goes on through what the host writes and notes: of itself it writes data frames alone, and answers only where it takes bytes.
use Rattle.std.proofs.Common.{◌≡◌, ◌≤◌, ℕ, Bool, true, false, if◌then◌else◌, List, [], ◌∷◌, ◌++◌, length, map, refl, sym, subst, append-nil, append_assoc}
use Rattle.std.specs.Prelude.{Option, Some, None}
use Rattle.std.specs.List.{AllByRecursion}
use Rattle.zw_base.proofs.Each.{all-append}
use Rattle.serial_frame.specs.Frame.{FrameParts}
use Rattle.serial_frame.specs.Items.{unit_text}
use Rattle.serial_frame.specs.declared.unit.Unit.{Unit as LineUnit}
use Rattle.serial_frame.specs.declared.unit.Unit.TheVariants.{Ack, Nak, Can, Framed}
use Rattle.serial_frame.specs.declared.item.Item.{Item}
use Rattle.serial_frame.specs.declared.item.Item.TheVariants.{Good, Refused}
use Rattle.serial_frame.specs.declared.item.Refusal.TheVariants.{Stray, BadLength, BadSum, BadKind, Aborted}
use Rattle.serial_link.specs.State.{tick_side, copy_due}
use Rattle.serial_pipes.specs.Events.{told}
use Rattle.zw_words.specs.declared.side.Side.TheVariants.{Host as by_host, Chip as by_chip}
use Rattle.zw_text.specs.declared.entry.Entry.{Entry}
use Rattle.zw_text.specs.declared.entry.Entry.TheVariants as entry
use Rattle.law_wire.specs.law_transcript.Lists.{EachAfter}
use Rattle.law_wire.specs.Pipes.{Pipe, with_answer, gone_on, with_turn}
use Rattle.proof_walk.proofs.Lists.{each-append}
use Rattle.host_node.specs.Steps.{tick_end}
use Rattle.proof_world.specs.host_model.State.{HostState, node_of, command_at}
use Rattle.proof_world.specs.host_model.Sessions.{open_command, settings_with}
use Rattle.proof_world.specs.host_model.Ends.{attempt_entries}
use Rattle.proof_world.specs.host_model.After.{is_full, is_held, gives_up, line_ticked}
use Rattle.proof_world.specs.host_model.Events.{HostEvent, Accepts, Cancels, Joins, Queues, Queues_interview, Queues_probe, Hears, Requests_do, Finishes, Offers, Gives, Resends, Line_ticks, Node_ticks, Submits_abort, Submits_front, Starts, Gives_text, Gives_segment, Drops_no_more, Queues_no_more}
use Rattle.proof_world.specs.host_model.Outs.{answer_to, copy_out, noted, request_entries, failing_entries, dropped_if, stored_entries, held_entries, ended_of, outs, answers}
use Rattle.proof_world.specs.host_model.Did.{outs_all}
use Rattle.proof_world.specs.host_model.Pumping.{no_more_event, IsNext}
use Rattle.proof_world.proofs.Submitted.{SubmittedAre, next_is}
use Rattle.proof_world.specs.host_model.Ticking.{first_ticks, tick_events, ticking_nodes}
use Rattle.proof_world.specs.host_model.Did.{after_all}
use Rattle.proof_world.specs.host_model.declared.out.HostOut.{HostOut}
use Rattle.proof_world.specs.host_model.declared.out.HostOut.TheVariants.{Write, Note}
use Rattle.proof_walk.specs.outside_model.State.{Outside, outside}
use Rattle.proof_walk.specs.outside_model.Events.{Host_writes, Host_notes, Host_begins, outcome, devices_after, happens as happens_outside, entries as entries_outside}
use Rattle.proof_walk.specs.outside_model.Did.{happens_all as happens_all_outside, entries_all as entries_all_outside}
use Rattle.proof_walk.specs.world_model.State.{begun_in, routed}
use Rattle.proof_walk.specs.world_model.Events.{notes}
use Rattle.proof_walk.specs.Outside.{Moves, IsNote, session_begins}
use Rattle.proof_walk.specs.ByLine.{IsAsked}
use Rattle.proof_walk.proofs.Stamping.{stamped}
use Rattle.proof_walk.proofs.HostOuts.{OutsAre}
use Rattle.proof_walk.proofs.Machines.{any_told, outs_keep, answers_keep}
pub use Rattle.proof_walk.proofs.Machines.{UnitsAre}
use Rattle.proof_line.specs.Links.{TicksNot}
use Rattle.proof_line.specs.Pipes.{MayTell, Mode, most, Held}
pub use Rattle.proof_line.specs.Pipes.{HearsNothing}
use Rattle.proof_line.proofs.Holding.{TellsNothing, Grown}
use Rattle.proof_line.proofs.Filling.{Up, Down, HoldsEmpty, held_same, held_turn, host_writes}
use Rattle.proof_line.proofs.Chipping.{IsFrame, KnowsAs, apart_moves, number_stands}

-- ---- which units it writes

module _ (Is : LineUnit → Type 0) where
  pub noted_units : (entries : List Entry) → UnitsAre Is (noted entries)
  noted_units [] = tt
  noted_units (e ∷ entries) = noted_units entries

  pub units-append : (xs ys : List HostOut) → UnitsAre Is xs → UnitsAre Is ys → UnitsAre Is (xs ++ ys)
  units-append [] ys first later = later
  units-append (Write unit ∷ xs) ys first later = (first.0, units-append xs ys first.1 later)
  units-append (Note note ∷ xs) ys first later = units-append xs ys first later

-- Where an item may be answered so, and each frame is so, an event writes nothing else.
abbrev pub MayWrite : (LineUnit → Type 0) → HostEvent → Type 0
MayWrite Is (Hears item) = Is Ack × Is Nak
MayWrite Is Line_ticks = (f : FrameParts) → Is (Framed f)
MayWrite Is Submits_abort = (f : FrameParts) → Is (Framed f)
MayWrite Is Submits_front = (f : FrameParts) → Is (Framed f)
MayWrite Is (Starts n plan more payload) = (f : FrameParts) → Is (Framed f)
MayWrite Is (Gives_text n payload) = (f : FrameParts) → Is (Framed f)
MayWrite Is (Gives_segment n more payload) = (f : FrameParts) → Is (Framed f)
MayWrite Is event = Unit {0}

module _ (Is : LineUnit → Type 0) where
  answer_units : (item : Item) → Is Ack × Is Nak → UnitsAre Is (answer_to item)
  answer_units (Good Ack) may = tt
  answer_units (Good Nak) may = tt
  answer_units (Good Can) may = tt
  answer_units (Good (Framed f)) may = (may.0, tt)
  answer_units (Refused (Stray x)) may = tt
  answer_units (Refused (BadLength n)) may = tt
  answer_units (Refused (BadSum want got)) may = (may.1, tt)
  answer_units (Refused (BadKind x)) may = (may.1, tt)
  answer_units (Refused Aborted) may = tt

  copy_units : (copy : Option FrameParts) → ((f : FrameParts) → Is (Framed f)) → UnitsAre Is (copy_out copy)
  copy_units None may = tt
  copy_units (Some f) may = (may f, tt)

  pub outs_write : (h : HostState) (event : HostEvent) → MayWrite Is event → UnitsAre Is (outs h event)
  outs_write h (Hears item) may = answer_units item may
  outs_write h (Requests_do event moment) may = noted_units Is (request_entries h event)
  outs_write h (Finishes n number id command status wake_request) may =
      noted_units Is (entry.Out command (ended_of status) ∷ (stored_entries n (settings_with status (command_at h.commands command)) ++ held_entries n (is_held h n wake_request)))
  outs_write h (Offers n) may = noted_units Is (dropped_if (is_full h) n)
  outs_write h (Gives n drawn) may = noted_units Is (dropped_if (is_full h) n)
  outs_write h (Resends n payload) may = noted_units Is (dropped_if (is_full h) n)
  outs_write h Line_ticks may =
      let failing : List Entry = failing_entries (gives_up h.side.turn (tick_side h.side).turn) (line_ticked h) in
      units-append Is (copy_out (copy_due h.side.turn)) (noted failing) (copy_units (copy_due h.side.turn) may) (noted_units Is failing)
  outs_write h (Node_ticks n) may = noted_units Is (attempt_entries n (tick_end (node_of h n)) (open_command (node_of h n)))
  outs_write h Submits_abort may = (may _, tt)
  outs_write h Submits_front may = (may _, tt)
  outs_write h (Starts n plan more payload) may = (may _, tt)
  outs_write h (Gives_text n payload) may = (may _, tt)
  outs_write h (Gives_segment n more payload) may = (may _, tt)
  outs_write h event may = tt

may_frames : (event : HostEvent) → HearsNothing event → MayWrite IsFrame event
may_frames (Hears item) nothing = absurd nothing
may_frames Line_ticks nothing = λ f. tt
may_frames Submits_abort nothing = λ f. tt
may_frames Submits_front nothing = λ f. tt
may_frames (Starts n plan more payload) nothing = λ f. tt
may_frames (Gives_text n payload) nothing = λ f. tt
may_frames (Gives_segment n more payload) nothing = λ f. tt
may_frames event nothing = tt

one_frames : (h : HostState) (event : HostEvent) → HearsNothing event → UnitsAre IsFrame (outs h event)
one_frames h event nothing = outs_write IsFrame h event (may_frames event nothing)

pub frames_alone : (h : HostState) (event : HostEvent) → HearsNothing event → UnitsAre IsFrame (outs_all h (event ∷ []))
frames_alone h event nothing = subst (UnitsAre IsFrame) (sym (append-nil (outs h event))) (one_frames h event nothing)

-- a frame, or an entry that is so
abbrev pub IsFrameOr : (Entry → Type 0) → HostOut → Type 0
IsFrameOr Is (Write (Framed f)) = Unit {0}
IsFrameOr Is (Write unit) = ⊥
IsFrameOr Is (Note e) = Is e

frames_or : (Is : Entry → Type 0) (puts : List HostOut) → UnitsAre IsFrame puts → OutsAre Is puts → AllByRecursion (IsFrameOr Is) puts
frames_or Is [] frames are = tt
frames_or Is (Write (Framed f) ∷ puts) frames are = (tt, frames_or Is puts frames.1 are.1)
frames_or Is (Write unit ∷ puts) frames are = absurd frames.0
frames_or Is (Note e ∷ puts) frames are = (are.0, frames_or Is puts frames are.1)

pub puts_frames_or : (Is : Entry → Type 0) (h : HostState) (event : HostEvent) → HearsNothing event → OutsAre Is (outs h event) → AllByRecursion (IsFrameOr Is) (outs h event)
puts_frames_or Is h event nothing are = frames_or Is (outs h event) (one_frames h event nothing) are

-- none where a line asks for something
abbrev pub NoUnit : LineUnit → Type 0
NoUnit unit = ⊥

pub asked_none : (h : HostState) (event : HostEvent) → IsAsked event → UnitsAre NoUnit (outs_all h (event ∷ []))
asked_none h (Accepts order carriage) asked = tt
asked_none h (Cancels command) asked = tt
asked_none h (Joins node) asked = tt
asked_none h (Queues task) asked = tt
asked_none h (Queues_interview node) asked = tt
asked_none h Queues_probe asked = tt
asked_none h event asked = absurd asked

-- ---- which events hear an item

pub no_more_nothing : (h : HostState) (node : ℕ) → HearsNothing (no_more_event h node)
no_more_nothing h node = by (is_full h)
  where
    by : (b : Bool) → HearsNothing (if b then Drops_no_more node else Queues_no_more node)
    by true = tt
    by false = tt

ticks_nothing : (nodes : List ℕ) → AllByRecursion HearsNothing (map Node_ticks nodes)
ticks_nothing [] = tt
ticks_nothing (node ∷ nodes) = (tt, ticks_nothing nodes)

pub tick_nothing : (h : HostState) → AllByRecursion HearsNothing (tick_events h)
tick_nothing h = all-append HearsNothing first_ticks (map Node_ticks (ticking_nodes (after_all h first_ticks))) (tt, (tt, tt)) (ticks_nothing (ticking_nodes (after_all h first_ticks)))

-- what is submitted neither hears nor ticks
abbrev IsAlone : HostEvent → Type 0
IsAlone event = HearsNothing event × TicksNot event

next_alone : (h : HostState) (event : HostEvent) → IsNext h event → IsAlone event
next_alone h event next = next_is IsAlone each h event next
  where
    each : SubmittedAre IsAlone
    each = record {
      abort = (tt, tt);
      front = (tt, tt);
      starts = λ n plan more payload. (tt, tt);
      text = λ n payload. (tt, tt);
      segment = λ n more payload. (tt, tt);
      begins = λ n session command. (tt, tt);
      unkept = λ n. (tt, tt);
    }

pub next_nothing : (h : HostState) (event : HostEvent) → IsNext h event → HearsNothing event
next_nothing h event is = (next_alone h event is).0

pub next_apart : (h : HostState) (event : HostEvent) → IsNext h event → TicksNot event
next_apart h event is = (next_alone h event is).1

-- ---- what the host puts out

pub note_apart : (e : Entry) → IsNote e → TellsNothing e
note_apart (entry.Said words) note = absurd note
note_apart (entry.Written side unit) note = absurd note
note_apart (entry.Dropped side) note = absurd note
note_apart (entry.Garbled side unit) note = absurd note
note_apart (entry.Overrun side) note = absurd note
note_apart (entry.Cleared side count) note = absurd note
note_apart (entry.Time tick) note = absurd note
note_apart e note = tt

-- of a note, nothing is asked
abbrev AnyNote : Entry → Type 0
AnyNote note = Unit {0}

module _ (mode : Mode) (empty : HoldsEmpty mode) (turns : (up down : Pipe) (a b : List ℕ) → mode up down a b → mode (with_turn by_host up) (with_turn by_chip down) a b) where
  abbrev pub KeepsHeld : Outside → List Entry → Outside → Type 0
  KeepsHeld w told later = (past : List Entry) → Held mode past w.outer → EachAfter MayTell past told × Held mode (past ++ told) later.outer

  pub keeps_none : (w : Outside) → KeepsHeld w [] w
  keeps_none w past held = (tt, subst (λ (l : List Entry). Held mode l w.outer) (sym (append-nil past)) held)

  pub keeps_both : (w u v : Outside) (xs ys : List Entry) → KeepsHeld w xs u → KeepsHeld u ys v → KeepsHeld w (xs ++ ys) v
  keeps_both w u v xs ys first later past held =
      let one = first past held in
      let two = later (past ++ xs) one.1 in
      (each-append MayTell past xs ys one.0 two.0, subst (λ (l : List Entry). Held mode l v.outer) (append_assoc past xs ys) two.1)

  abbrev always : Bool → Mode
  always awaits = mode

  number_goes : (past : List Entry) (w : Outside) → KnowsAs always true past w → KnowsAs always false (past ++ entry.Time w.outer.clock ∷ []) w
  number_goes past w held = held_turn mode mode past w.outer.clock w.outer turns held

  stamps : (awaits is : Bool) (past : List Entry) (w : Outside) → KnowsAs always awaits past w → KnowsAs always awaits past (outside (record w.outer { stamped = is }) w.devices)
  stamps awaits is past w held = held_same mode past w.outer (record w.outer { stamped = is }) refl refl held

  pub note_keeps : (w : Outside) (note : Entry) → IsNote note → begun_in note ≡ None → KeepsHeld w (entries_outside w (Host_notes note)) (happens_outside w (Host_notes note))
  unfolding outcome devices_after
  note_keeps w note is none past held =
      let got =
      stamped MayTell (KnowsAs always) number_goes stamps w (outcome w (Host_notes note)) w.devices refl (apart_moves always (λ awaits. empty) w w (note ∷ []) (note_apart note is, tt) refl refl) past
      (held, number_stands past w.outer) in
      (got.0, got.1.0)

  pub session_keeps : (w : Outside) (node session command : ℕ)
      → KeepsHeld w (entries_outside w (Host_begins node session) ++ entries_outside (happens_outside w (Host_begins node session)) (Host_notes (entry.Begin node session command)))
      (happens_outside (happens_outside w (Host_begins node session)) (Host_notes (entry.Begin node session command)))
  unfolding outcome devices_after
  session_keeps w node session command past held =
      let later : Outside = outside (session_begins w.outer node session command).outer w.devices in
      let got =
      stamped MayTell (KnowsAs always) number_goes stamps w (session_begins w.outer node session command) w.devices refl
      (apart_moves always (λ awaits. empty) w later (entry.Begin node session command ∷ []) (tt, tt) refl refl) past (held, number_stands past w.outer) in
      (got.0, got.1.0)

  module _ (IsUnit : LineUnit → Type 0)
      (room : (up down : Pipe) (a b : List ℕ) → mode up down a b → length a ≤ most up)
      (writes : (unit : LineUnit) → IsUnit unit → (up later down : Pipe) (a after b : List ℕ) → Grown (length (unit_text unit)) up later a after → mode up down a b
      → mode later (with_answer (length (unit_text unit)) (gone_on down)) after b) where
    write_moves : (w : Outside) (unit : LineUnit) → IsUnit unit → Moves MayTell (KnowsAs always) w (told by_host w.outer.to_chip unit) (KnowsAs always) (outside (outcome w (Host_writes unit)).outer w.devices)
    unfolding outcome
    write_moves w unit is awaits past silent held =
        host_writes mode past w.outer unit (room (Up past) (Down past) w.outer.to_chip.bytes w.outer.to_host.bytes held.holds)
        (λ up bytes grown. writes unit is (Up past) up (Down past) w.outer.to_chip.bytes bytes w.outer.to_host.bytes grown held.holds)

    writes_keep : (w : Outside) (unit : LineUnit) → IsUnit unit → KeepsHeld w (entries_outside w (Host_writes unit)) (happens_outside w (Host_writes unit))
    unfolding outcome devices_after
    writes_keep w unit is past held =
        let got =
        stamped MayTell (KnowsAs always) number_goes stamps w (outcome w (Host_writes unit)) w.devices refl (write_moves w unit is) past (held, number_stands past w.outer) in
        (got.0, got.1.0)

    pub host_keeps : (w : Outside) (h : HostState) (events : List HostEvent) → UnitsAre IsUnit (outs_all h events)
        → KeepsHeld w (entries_all_outside w (routed (outs_all h events))) (happens_all_outside w (routed (outs_all h events)))
    host_keeps w h events units = outs_keep IsUnit AnyNote KeepsHeld keeps_none keeps_both writes_keep (λ w note is unbegun told. note_keeps w note is unbegun) session_keeps (λ note is. tt) w h events units

    pub answer_keeps : (w : Outside) (h : HostState) (event : HostEvent) → KeepsHeld w (entries_all_outside w (notes (answers h event))) (happens_all_outside w (notes (answers h event)))
    answer_keeps w h event = answers_keep IsUnit AnyNote KeepsHeld keeps_none keeps_both writes_keep (λ w note is unbegun told. note_keeps w note is unbegun) session_keeps w h event (any_told (answers h event))
