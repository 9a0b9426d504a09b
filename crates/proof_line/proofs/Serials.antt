-- How the events of the serial line grow with entries.
use Rattle.std.proofs.Common.{◌≡◌, ℕ, ◌+◌, Bool, false, if◌then◌else◌, List, [], ◌∷◌, ◌++◌, refl, sym, ap, ap₂, ◌∙◌, append-nil, append_assoc}
use Rattle.std.specs.List.{AllByRecursion}
use Rattle.serial_frame.specs.Items.{unit_text}
use Rattle.serial_frame.specs.declared.unit.Unit.{Unit as LineUnit}
use Rattle.serial_pipes.specs.State.{WayState, mark_for}
use Rattle.serial_pipes.specs.Events.{told}
use Rattle.zw_words.specs.declared.side.Side.{Side}
use Rattle.zw_text.specs.declared.line.Line.{Line}
use Rattle.zw_text.specs.declared.entry.Entry.{Entry}
use Rattle.zw_text.specs.declared.entry.Entry.TheVariants as entry
use Rattle.zw_text.specs.Transcript.{line_of}
use Rattle.law_wire.specs.law_transcript.Restarts.{begins_refused, ticks_asked}
use Rattle.law_wire.specs.Serial.{SerialEvent, arriving_of, beginning_of, lacking_of, serial_events, serial_events_from, ticks_up_to}
use Rattle.law_wire.specs.Serial.SerialEvent.{Writes}
use Rattle.proof_walk.proofs.Entered.{IsMark, told_by_marks}
use Rattle.proof_line.specs.Links.{told_from, due_from, tick_told}
use Rattle.proof_line.proofs.Holding.{NoMark, TellsNothing, apart_mark, refused_then}
use Rattle.proof_line.proofs.Arriving.{arriving_same, lacking_same, marks_of}
use Rattle.proof_line.proofs.Tellings.{IsBeside}

-- ---- what stands next says neither what became of the last unit nor that the last line was refused

pub refused_same : (past told : List Entry) → begins_refused told ≡ false → begins_refused (past ++ told) ≡ begins_refused past
refused_same [] told plain = plain
refused_same (e ∷ past) told plain = refused_then e (past ++ told) past

pub serials_grow : (now due : ℕ) (past told : List Entry) → NoMark told → begins_refused told ≡ false
    → serial_events_from now due (past ++ told) ≡ serial_events_from now due past ++ serial_events_from (told_from now due past) (due_from due past) told
serials_grow now due [] told none plain = refl
serials_grow now due (entry.Said words ∷ past) told none plain =
    let line : List Line = line_of (entry.Said words) in
    let later : ℕ = due + ticks_asked line in
    let more : List SerialEvent = serial_events_from (told_from due later past) (due_from later past) told in
    ap (λ (b : Bool). (ticks_up_to now due ++ beginning_of (if b then [] else line)) ++ serial_events_from due later (past ++ told)) (refused_same past told plain)
    ∙ ap (λ (l : List SerialEvent). (ticks_up_to now due ++ beginning_of (if begins_refused past then [] else line)) ++ l) (serials_grow due later past told none plain)
    ∙ sym (append_assoc (ticks_up_to now due ++ beginning_of (if begins_refused past then [] else line)) (serial_events_from due later past) more)
serials_grow now due (entry.Time tick ∷ past) told none plain =
    ap (λ (l : List SerialEvent). ticks_up_to now tick ++ l) (serials_grow tick due past told none plain)
    ∙ sym (append_assoc (ticks_up_to now tick) (serial_events_from tick due past) (serial_events_from (told_from tick due past) (due_from due past) told))
serials_grow now due (entry.Written side unit ∷ past) told none plain =
    ap₂ (λ (l k : List (List ℕ)). Writes side unit l k ∷ serial_events_from now due (past ++ told)) (arriving_same side unit past told none) (lacking_same side unit past told none)
    ∙ ap (λ (l : List SerialEvent). Writes side unit (arriving_of side unit past) (lacking_of side unit past) ∷ l) (serials_grow now due past told none plain)
serials_grow now due (e ∷ past) told none plain = serials_grow now due past told none plain

pub told_grows : (now due : ℕ) (past told : List Entry) → told_from now due (past ++ told) ≡ told_from (told_from now due past) (due_from due past) told
told_grows now due [] told = refl
told_grows now due (entry.Said words ∷ past) told = told_grows due (due + ticks_asked (line_of (entry.Said words))) past told
told_grows now due (entry.Time tick ∷ past) told = told_grows tick due past told
told_grows now due (e ∷ past) told = told_grows now due past told

pub due_grows : (due : ℕ) (past told : List Entry) → due_from due (past ++ told) ≡ due_from (due_from due past) told
due_grows due [] told = refl
due_grows due (entry.Said words ∷ past) told = due_grows (due + ticks_asked (line_of (entry.Said words))) past told
due_grows due (e ∷ past) told = due_grows due past told

-- ---- entries of no event

pub marks_none : (now due : ℕ) (marks : List Entry) → AllByRecursion IsMark marks → (serial_events_from now due marks ≡ []) × (told_from now due marks ≡ now)
marks_none now due [] all = (refl, refl)
marks_none now due (entry.Dropped side ∷ marks) all = marks_none now due marks all.1
marks_none now due (entry.Garbled side unit ∷ marks) all = marks_none now due marks all.1
marks_none now due (entry.Overrun side ∷ marks) all = marks_none now due marks all.1
marks_none now due (e ∷ marks) all = absurd all.0

apart_none : (now due : ℕ) (e : Entry) → TellsNothing e → (serial_events_from now due (e ∷ []) ≡ []) × (told_from now due (e ∷ []) ≡ now)
apart_none now due (entry.Said words) apart = absurd apart
apart_none now due (entry.Written side unit) apart = absurd apart
apart_none now due (entry.Time tick) apart = absurd apart
apart_none now due e apart = (refl, refl)

-- ---- what entries add

-- one that is beside the line adds nothing
pub beside_serials : (past : List Entry) (e : Entry) → IsBeside e → (serial_events (past ++ e ∷ []) ≡ serial_events past) × (tick_told (past ++ e ∷ []) ≡ tick_told past)
beside_serials past e is =
    let none = apart_none (told_from 0 0 past) (due_from 0 past) e is.0 in (
      serials_grow 0 0 past (e ∷ []) (apart_mark e is.0) is.1 ∙ ap (λ (l : List SerialEvent). serial_events past ++ l) none.0 ∙ append-nil (serial_events past),
      told_grows 0 0 past (e ∷ []) ∙ none.1,
    )

-- a unit, with what became of it, adds that it is written
pub written_serials : (side : Side) (unit : List ℕ) (marks past : List Entry) → AllByRecursion IsMark marks
    → (serial_events (past ++ entry.Written side unit ∷ marks) ≡ serial_events past ++ Writes side unit (arriving_of side unit marks) (lacking_of side unit marks) ∷ [])
    × (tick_told (past ++ entry.Written side unit ∷ marks) ≡ tick_told past)
written_serials side unit marks past are =
    let none = marks_none (told_from 0 0 past) (due_from 0 past) marks are in (
      serials_grow 0 0 past (entry.Written side unit ∷ marks) tt refl
          ∙ ap (λ (l : List SerialEvent). serial_events past ++ Writes side unit (arriving_of side unit marks) (lacking_of side unit marks) ∷ l) none.0,
      told_grows 0 0 past (entry.Written side unit ∷ marks) ∙ none.1,
    )

pub unit_serials : (side : Side) (way : WayState) (unit : LineUnit) (past : List Entry)
    → (serial_events (past ++ told side way unit)
    ≡ serial_events past ++ Writes side (unit_text unit) (arriving_of side (unit_text unit) (marks_of side way unit)) (lacking_of side (unit_text unit) (marks_of side way unit)) ∷ [])
    × (tick_told (past ++ told side way unit) ≡ tick_told past)
unit_serials side way unit past =
    written_serials side (unit_text unit) (marks_of side way unit) past (told_by_marks side way.bytes (mark_for way.marks unit) (unit_text unit))

-- the number of a tick adds the ticks that were not told
pub time_serials : (past : List Entry) (tick : ℕ)
    → (serial_events (past ++ entry.Time tick ∷ []) ≡ serial_events past ++ ticks_up_to (tick_told past) tick) × (tick_told (past ++ entry.Time tick ∷ []) ≡ tick)
time_serials past tick = (
  serials_grow 0 0 past (entry.Time tick ∷ []) tt refl ∙ ap (λ (l : List SerialEvent). serial_events past ++ l) (append-nil (ticks_up_to (tick_told past) tick)),
  told_grows 0 0 past (entry.Time tick ∷ []),
)
