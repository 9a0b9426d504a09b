-- What the host enters at an event may stand: its first unit asks for what is due, and the others for nothing.
use Rattle.std.proofs.Common.{ℕ, List, [], ◌∷◌, ◌++◌, sym, subst, append-nil}
use Rattle.std.specs.Prelude.{Option, Some, None}
use Rattle.std.specs.List.{AllByRecursion}
use Rattle.zw_base.proofs.Each.{all-append, all-weaker}
use Rattle.serial_frame.specs.Frame.{FrameParts}
use Rattle.serial_frame.specs.Items.{unit_text}
use Rattle.serial_frame.specs.declared.unit.Unit.{Unit as LineUnit}
use Rattle.serial_frame.specs.declared.unit.Unit.TheVariants.{Ack, Nak, Can, Framed}
use Rattle.serial_frame.specs.declared.item.Item.{Item}
use Rattle.serial_frame.specs.declared.item.Item.TheVariants.{Good, Refused}
use Rattle.serial_frame.specs.declared.item.Refusal.TheVariants.{Stray, BadLength, BadSum, BadKind, Aborted}
use Rattle.serial_link.specs.State.{copy_due}
use Rattle.serial_pipes.specs.Events.{told, told_by}
use Rattle.serial_pipes.specs.State.{mark_for}
use Rattle.zw_words.specs.declared.side.Side.TheVariants.{Host as by_host, Chip as by_chip}
use Rattle.zw_text.specs.declared.entry.Entry.{Entry}
use Rattle.zw_text.specs.declared.entry.Entry.TheVariants as entry
use Rattle.proof_air.specs.law_transcript.Lists.{EachAfter}
use Rattle.proof_air.specs.law_transcript.Payloads.{IsDue, MayRequest}
use Rattle.proof_air.specs.law_transcript.Units.{sending_in}
use Rattle.proof_line.proofs.Lists.{each-anywhere, each-append}
use Rattle.proof_line.proofs.Hosting.{noted_units}
pub use Rattle.proof_line.proofs.Hosting.{NoUnit}
use Rattle.host_model.specs.State.{HostState, command_at, node_of}
use Rattle.host_model.specs.Sessions.{open_command, settings_with}
use Rattle.host_model.specs.Ends.{attempt_entries}
use Rattle.host_node.specs.Steps.{tick_end}
use Rattle.serial_link.specs.State.{tick_side}
use Rattle.host_model.specs.After.{gives_up, is_full, is_held, line_ticked}
use Rattle.host_model.specs.Did.{outs_all}
use Rattle.host_model.specs.Events.{HostEvent, Hears, Requests_do, Finishes, Offers, Gives, Resends, Line_ticks, Node_ticks}
use Rattle.host_model.specs.Outs.{answer_to, answers, copy_out, dropped_if, failing_entries, held_entries, noted, outs, request_entries, stored_entries}
use Rattle.host_model.specs.declared.out.HostOut.{HostOut}
use Rattle.host_model.specs.declared.out.HostOut.TheVariants.{Write, Note}
use Rattle.outside_model.specs.State.{Outside, OuterState}
use Rattle.outside_model.specs.Events.{OuterEvent, Host_writes, Host_notes, Host_begins, outcome, ticked_entry, stamp, happens as happens_outside, entries as entries_outside}
use Rattle.outside_model.specs.Did.{happens_all as happens_all_outside, entries_all as entries_all_outside}
use Rattle.outside_model.proofs.EventLists.{entries_all-append}
use Rattle.proof_air.specs.world_model.State.{begun_in, noted_by, routed}
use Rattle.proof_air.specs.world_model.Events.{notes}
use Rattle.proof_air.specs.proof_walk.Outside.{IsNote}
use Rattle.proof_air.proofs.HostNotes.{NoteOuts, is_note, all_outs_note}
use Rattle.proof_air.proofs.Machines.{UnitsAre, answers_keep, outs_keep}
use Rattle.proof_spoken.proofs.Entered.{IsMark, told_by_marks}
use Rattle.proof_sending.proofs.OutsideUnits.{AreNotWritten, IsNotWritten, note_not, number_not, mark_not}

-- no data frame
abbrev pub IsShort : LineUnit → Type 0
IsShort (Framed f) = ⊥
IsShort unit = Unit {0}

-- only the first of these may be a unit
abbrev pub FirstAlone : List HostOut → Type 0
FirstAlone [] = Unit {0}
FirstAlone (Write unit ∷ puts) = UnitsAre NoUnit puts
FirstAlone (Note note ∷ puts) = UnitsAre NoUnit puts

noted_first : (es : List Entry) → FirstAlone (noted es)
noted_first [] = tt
noted_first (e ∷ es) = noted_units NoUnit es

answer_first : (item : Item) → FirstAlone (answer_to item)
answer_first (Good Ack) = tt
answer_first (Good Nak) = tt
answer_first (Good Can) = tt
answer_first (Good (Framed f)) = tt
answer_first (Refused (Stray x)) = tt
answer_first (Refused (BadLength n)) = tt
answer_first (Refused (BadSum want got)) = tt
answer_first (Refused (BadKind x)) = tt
answer_first (Refused Aborted) = tt

copy_first : (copy : Option FrameParts) (es : List Entry) → FirstAlone (copy_out copy ++ noted es)
copy_first None es = noted_first es
copy_first (Some f) es = noted_units NoUnit es

pub event_first : (h : HostState) (event : HostEvent) → FirstAlone (outs h event)
event_first h (Hears item) = answer_first item
event_first h (Requests_do event moment) = noted_first (request_entries h event)
event_first h (Finishes n session id command status wake_request) =
    noted_units NoUnit (stored_entries n (settings_with status (command_at h.commands command)) ++ held_entries n (is_held h n wake_request))
event_first h (Offers n) = noted_first (dropped_if (is_full h) n)
event_first h (Gives n drawn) = noted_first (dropped_if (is_full h) n)
event_first h (Resends n payload) = noted_first (dropped_if (is_full h) n)
event_first h Line_ticks = copy_first (copy_due h.side.turn) (failing_entries (gives_up h.side.turn (tick_side h.side).turn) (line_ticked h))
event_first h (Node_ticks n) = noted_first (attempt_entries n (tick_end (node_of h n)) (open_command (node_of h n)))
event_first h event = tt

module _ (listing : List Entry → ℕ → List ℕ) (key : List ℕ) where
  abbrev Asks : List Entry → Entry → Type 0
  Asks past e = MayRequest listing key past e

  abbrev DueAt : List Entry → LineUnit → Type 0
  DueAt past unit = AllByRecursion (IsDue listing key past) (sending_in (unit_text unit))

  may_stand : (past : List Entry) (e : Entry) → IsNotWritten e → Asks past e
  may_stand past (entry.Written by_host unit) none = absurd none
  may_stand past (entry.Written by_chip unit) none = tt
  may_stand past e none = tt

  pub none_stand : (past told : List Entry) → AreNotWritten told → EachAfter Asks past told
  none_stand past told none = each-anywhere Asks IsNotWritten may_stand past told none

  -- ---- a unit

  pub unit_stands : (past : List Entry) (w : Outside) (unit : LineUnit) → DueAt (past ++ ticked_entry w.outer) unit → EachAfter Asks past (entries_outside w (Host_writes unit))
  unfolding outcome
  unit_stands past w unit due =
      let prefix : List Entry = ticked_entry w.outer in
      let text : List ℕ = unit_text unit in
      let marks : List Entry = told_by by_host w.outer.to_chip.bytes (mark_for w.outer.to_chip.marks unit) text in
      each-append Asks past prefix (entry.Written by_host text ∷ marks) (none_stand past prefix (number_not w.outer)) (
        due,
        none_stand ((past ++ prefix) ++ entry.Written by_host text ∷ []) marks
            (all-weaker IsMark IsNotWritten mark_not marks (told_by_marks by_host w.outer.to_chip.bytes (mark_for w.outer.to_chip.marks unit) text)),
      )

  -- ---- notes

  stamped_not : (o : OuterState) (told : List Entry) → AreNotWritten told → AreNotWritten (stamp o told)
  stamped_not o [] none = tt
  stamped_not o (e ∷ told) none = all-append IsNotWritten (ticked_entry o) (e ∷ told) (number_not o) none

  pub entry_not : (w : Outside) (one : Entry) → IsNotWritten one → AreNotWritten (entries_outside w (Host_notes one))
  unfolding outcome
  entry_not w one none = stamped_not w.outer (one ∷ []) (none, tt)

  note_stands : (w : Outside) (note : Entry) → IsNote note → AreNotWritten (entries_outside w (Host_notes note))
  note_stands w note is = entry_not w note (note_not note is)

  begin_stands : (w : Outside) (node session : ℕ) → AreNotWritten (entries_outside w (Host_begins node session))
  unfolding outcome
  begin_stands w node session = tt

  noted_not : (w : Outside) (begun : Option (ℕ × ℕ)) (note : Entry) → IsNote note → AreNotWritten (entries_all_outside w (noted_by begun note))
  noted_not w None note is = all-append IsNotWritten (entries_outside w (Host_notes note)) [] (note_stands w note is) tt
  noted_not w (Some begun) note is =
      let later : Outside = happens_outside w (Host_begins begun.0 begun.1) in
      all-append IsNotWritten (entries_outside w (Host_begins begun.0 begun.1)) (entries_outside later (Host_notes note) ++ []) (begin_stands w begun.0 begun.1)
      (all-append IsNotWritten (entries_outside later (Host_notes note)) [] (note_stands later note is) tt)

  rest_not : (w : Outside) (puts : List HostOut) → UnitsAre NoUnit puts → NoteOuts puts → AreNotWritten (entries_all_outside w (routed puts))
  rest_not w [] units are = tt
  rest_not w (Write unit ∷ puts) units are = absurd units.0
  rest_not w (Note note ∷ puts) units are =
      let first : List OuterEvent = noted_by (begun_in note) note in
      subst AreNotWritten (sym (entries_all-append w first (routed puts)))
      (all-append IsNotWritten (entries_all_outside w first) (entries_all_outside (happens_all_outside w first) (routed puts)) (noted_not w (begun_in note) note (is_note note are.0))
      (rest_not (happens_all_outside w first) puts units are.1))

  -- ---- what the host puts out

  -- the unit that comes first is due, once the number of the tick stands
  abbrev pub FirstDue : List Entry → List HostOut → Type 0
  FirstDue past [] = Unit {0}
  FirstDue past (Write unit ∷ puts) = DueAt past unit
  FirstDue past (Note note ∷ puts) = Unit {0}

  pub puts_stand : (past : List Entry) (w : Outside) (puts : List HostOut) → FirstAlone puts → NoteOuts puts → FirstDue (past ++ ticked_entry w.outer) puts
      → EachAfter Asks past (entries_all_outside w (routed puts))
  puts_stand past w [] alone are due = tt
  puts_stand past w (Write unit ∷ puts) alone are due =
      let later : Outside = happens_outside w (Host_writes unit) in
      each-append Asks past (entries_outside w (Host_writes unit)) (entries_all_outside later (routed puts)) (unit_stands past w unit due)
      (none_stand (past ++ entries_outside w (Host_writes unit)) (entries_all_outside later (routed puts)) (rest_not later puts alone are.1))
  puts_stand past w (Note note ∷ puts) alone are due =
      none_stand past (entries_all_outside w (routed (Note note ∷ puts))) (rest_not w (Note note ∷ puts) alone are)

  first_nil : (puts : List HostOut) → FirstAlone puts → FirstAlone (puts ++ [])
  first_nil puts alone = subst (λ (l : List HostOut). FirstAlone l) (sym (append-nil puts)) alone

  pub event_stands : (past : List Entry) (w : Outside) (h : HostState) (event : HostEvent) → FirstDue (past ++ ticked_entry w.outer) (outs h event)
      → EachAfter Asks past (entries_all_outside w (routed (outs_all h (event ∷ []))))
  event_stands past w h event due =
      puts_stand past w (outs h event ++ []) (first_nil (outs h event) (event_first h event)) (all_outs_note h (event ∷ []))
      (subst (λ (l : List HostOut). FirstDue (past ++ ticked_entry w.outer) l) (sym (append-nil (outs h event))) due)

  -- ---- units that ask for nothing

  abbrev Keeps : Outside → List Entry → Outside → Type 0
  Keeps w told later = (past : List Entry) → EachAfter Asks past told

  short_due : (past : List Entry) (unit : LineUnit) → IsShort unit → DueAt past unit
  short_due past Ack short = tt
  short_due past Nak short = tt
  short_due past Can short = tt
  short_due past (Framed f) short = absurd short

  session_keeps : (w : Outside) (node session command : ℕ)
      → Keeps w (entries_outside w (Host_begins node session) ++ entries_outside (happens_outside w (Host_begins node session)) (Host_notes (entry.Begin node session command)))
      (happens_outside (happens_outside w (Host_begins node session)) (Host_notes (entry.Begin node session command)))
  session_keeps w node session command past =
      let later : Outside = happens_outside w (Host_begins node session) in
      none_stand past (entries_outside w (Host_begins node session) ++ entries_outside later (Host_notes (entry.Begin node session command)))
      (all-append IsNotWritten (entries_outside w (Host_begins node session)) (entries_outside later (Host_notes (entry.Begin node session command))) (begin_stands w node session)
      (note_stands later (entry.Begin node session command) tt))

  abbrev AnyNote : Entry → Type 0
  AnyNote note = Unit {0}

  pub short_stand : (past : List Entry) (w : Outside) (h : HostState) (events : List HostEvent) → UnitsAre IsShort (outs_all h events) → EachAfter Asks past (entries_all_outside w (routed (outs_all h events)))
  short_stand past w h events short =
      outs_keep IsShort AnyNote Keeps (λ v p. tt) (λ a b c xs ys first later p. each-append Asks p xs ys (first p) (later (p ++ xs)))
      (λ v unit is p. unit_stands p v unit (short_due (p ++ ticked_entry v.outer) unit is)) (λ v note is unbegun told p. none_stand p (entries_outside v (Host_notes note)) (note_stands v note is))
      session_keeps (λ note is. tt) w h events short past

  any_notes : (told : List Entry) → AllByRecursion AnyNote told
  any_notes [] = tt
  any_notes (note ∷ told) = (tt, any_notes told)

  pub answers_stand : (past : List Entry) (w : Outside) (h : HostState) (event : HostEvent) → EachAfter Asks past (entries_all_outside w (notes (answers h event)))
  answers_stand past w h event =
      answers_keep IsShort AnyNote Keeps (λ v p. tt) (λ a b c xs ys first later p. each-append Asks p xs ys (first p) (later (p ++ xs)))
      (λ v unit is p. unit_stands p v unit (short_due (p ++ ticked_entry v.outer) unit is)) (λ v note is unbegun told p. none_stand p (entries_outside v (Host_notes note)) (note_stands v note is))
      session_keeps w h event (any_notes (answers h event)) past
