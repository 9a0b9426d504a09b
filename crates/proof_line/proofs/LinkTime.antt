-- The entries of an event tell of no tick and of nothing that a restart lost; and how far the entries lead that stand once the number of the running tick is entered.
use Rattle.std.proofs.Common.{◌≡◌, ◌≤◌, ℕ, zero, suc, ◌+◌, ◌-◌, ◌&&◌, not, Bool, true, false, if◌then◌else◌, List, [], ◌∷◌, ◌++◌, map, replicate, refl, sym, ap, ap₂, ◌∙◌, subst, append-nil, append_assoc, arith}
use Rattle.std.specs.List.{AllByRecursion}
use Rattle.serial_frame.specs.Items.{unit_text}
use Rattle.serial_frame.specs.declared.unit.Unit.{Unit as LineUnit}
use Rattle.serial_pipes.specs.State.{WayState, mark_for}
use Rattle.serial_pipes.specs.Events.{told, told_by, after, Writes}
use Rattle.zw_words.specs.declared.side.Side.{Side}
use Rattle.zw_text.specs.declared.line.Line.{Line}
use Rattle.zw_text.specs.declared.entry.Entry.{Entry}
use Rattle.zw_text.specs.declared.entry.Entry.TheVariants as entry
use Rattle.zw_text.specs.Transcript.{line_of}
use Rattle.law_wire.specs.law_transcript.Restarts.{is_restart, begins_refused}
use Rattle.law_wire.specs.Clearing.{Cleared_there, clears, clears_first, goes_on_after}
use Rattle.law_wire.specs.Serial.{SerialEvent, serial_events, ticks_up_to}
use Rattle.law_wire.specs.Serial.SerialEvent.{Tick_begins}
use Rattle.proof_walk.specs.outside_model.State.{OuterState}
use Rattle.proof_walk.specs.outside_model.Events.{ticked_entry}
use Rattle.proof_walk.proofs.Entered.{IsMark, told_by_marks}
use Rattle.proof_walk.specs.Outside.{awaits_number}
use Rattle.proof_line.specs.Links.{cleared_in, tick_told}
use Rattle.proof_line.proofs.Holding.{TellsNothing, apart_line}
use Rattle.proof_line.proofs.Serials.{beside_serials, refused_same, time_serials, unit_serials}
use Rattle.proof_line.proofs.Tellings.{IsBeside, Tells}

-- ---- what restarts lost

pub first_same : (past told : List Entry) → clears_first told ≡ [] → clears_first (past ++ told) ≡ clears_first past
first_same [] told none = none
first_same (entry.Cleared side count ∷ past) told none = ap (λ (l : List Entry). entry.Cleared side count ∷ l) (first_same past told none)
first_same (e ∷ past) told none = refl

-- where what follows begins neither with bytes that were lost nor with a refusal
pub cleared_grow : (past told : List Entry) → clears_first told ≡ [] → begins_refused told ≡ false → cleared_in (past ++ told) ≡ cleared_in past ++ cleared_in told
cleared_grow [] told none plain = refl
cleared_grow (e ∷ past) told none plain =
    by (is_restart (line_of e)) (begins_refused (past ++ told)) (begins_refused past) (refused_same past told plain) (cleared_grow past told none plain)
  where
    by : (restarts also refused : Bool) → also ≡ refused → cleared_in (past ++ told) ≡ cleared_in past ++ cleared_in told
        → map (λ (one : Cleared_there). one.entries) (if restarts && not also then record { entries = clears_first (past ++ told); is_over = goes_on_after (past ++ told) } ∷ clears (past ++ told) else clears (past ++ told))
        ≡ map (λ (one : Cleared_there). one.entries) (if restarts && not refused then record { entries = clears_first past; is_over = goes_on_after past } ∷ clears past else clears past) ++ cleared_in told
    by true true true same later = later
    by true false false same later = ap₂ (λ (first : List Entry) (rest : List (List Entry)). first ∷ rest) (first_same past told none) later
    by true true false same later = absurd (let none_so : true ≡ false = same in cc)
    by true false true same later = absurd (let none_so : false ≡ true = same in cc)
    by false also refused same later = later

apart_first : (e : Entry) → TellsNothing e → clears_first (e ∷ []) ≡ []
apart_first (entry.Cleared side count) apart = absurd apart
apart_first e apart = refl

apart_none : (e : Entry) → line_of e ≡ [] → cleared_in (e ∷ []) ≡ []
apart_none e none = ap (λ (l : List Line). map (λ (one : Cleared_there). one.entries) (if is_restart l && true then record { entries = []; is_over = false } ∷ [] else [])) none

marks_clear : (marks : List Entry) → AllByRecursion IsMark marks → cleared_in marks ≡ []
marks_clear [] all = refl
marks_clear (entry.Dropped side ∷ marks) all = marks_clear marks all.1
marks_clear (entry.Garbled side unit ∷ marks) all = marks_clear marks all.1
marks_clear (entry.Overrun side ∷ marks) all = marks_clear marks all.1
marks_clear (e ∷ marks) all = absurd all.0

-- ---- entries that tell of no tick and of nothing lost

pub record Apart (past later : List Entry) : Type 0 where
  pub time : tick_told later ≡ tick_told past
  pub clears : cleared_in later ≡ cleared_in past

both_apart : (a b c : List Entry) → Apart a b → Apart b c → Apart a c
both_apart a b c one two = record { time = two.time ∙ one.time; clears = two.clears ∙ one.clears }

grown : (past told : List Entry) → clears_first told ≡ [] → begins_refused told ≡ false → cleared_in told ≡ [] → cleared_in (past ++ told) ≡ cleared_in past
grown past told none plain nothing = cleared_grow past told none plain ∙ ap (λ (l : List (List Entry)). cleared_in past ++ l) nothing ∙ append-nil (cleared_in past)

pub beside_apart : (past : List Entry) (e : Entry) → IsBeside e → Apart past (past ++ e ∷ [])
beside_apart past e beside =
    record { time = (beside_serials past e beside).1; clears = grown past (e ∷ []) (apart_first e beside.0) beside.1 (apart_none e (apart_line e beside.0)) }

besides_apart : (past told : List Entry) → AllByRecursion IsBeside told → Apart past (past ++ told)
besides_apart past [] all = subst (λ (l : List Entry). Apart past l) (sym (append-nil past)) (record { time = refl; clears = refl })
besides_apart past (e ∷ told) all =
    both_apart past (past ++ e ∷ []) (past ++ e ∷ told) (beside_apart past e all.0)
    (subst (λ (l : List Entry). Apart (past ++ e ∷ []) l) (append_assoc past (e ∷ []) told) (besides_apart (past ++ e ∷ []) told all.1))

unit_apart : (side : Side) (way : WayState) (unit : LineUnit) (past : List Entry) → Apart past (past ++ told side way unit)
unit_apart side way unit past = record {
  time = (unit_serials side way unit past).1;
  clears = grown past (told side way unit) refl refl (marks_clear (told_by side way.bytes (mark_for way.marks unit) (unit_text unit)) (told_by_marks side way.bytes (mark_for way.marks unit) (unit_text unit)));
}

pub tells_apart : (units : List LineUnit) (side : Side) (way : WayState) (past entries : List Entry) → Tells IsBeside side way units entries → Apart past (past ++ entries)
tells_apart [] side way past entries tells = besides_apart past entries tells
tells_apart (unit ∷ units) side way past entries (before, rest, are, beside, others) =
    let one : List Entry = told side way unit in
    let here : List Entry = past ++ before in
    let later : List Entry = here ++ one in
    subst (λ (l : List Entry). Apart past l)
    (append_assoc here one rest ∙ append_assoc past before (one ++ rest) ∙ ap (λ (l : List Entry). past ++ l) (sym are))
    (both_apart past here (later ++ rest) (besides_apart past before beside)
    (both_apart here later (later ++ rest) (unit_apart side way unit here) (tells_apart units side (after way (Writes unit)) later rest others)))

-- ---- once the number of the running tick is entered

pub time_clears : (past : List Entry) (tick : ℕ) → cleared_in (past ++ entry.Time tick ∷ []) ≡ cleared_in past
time_clears past tick = grown past (entry.Time tick ∷ []) refl refl refl

pub timed_clears : (past : List Entry) (o : OuterState) → cleared_in (past ++ ticked_entry o) ≡ cleared_in past
timed_clears past o = by (awaits_number o)
  where
    by : (b : Bool) → cleared_in (past ++ (if b then entry.Time o.clock ∷ [] else [])) ≡ cleared_in past
    by true = time_clears past o.clock
    by false = ap (λ (l : List Entry). cleared_in l) (append-nil past)

-- the ticks that have begun are told
pub timed_serials : (past : List Entry) (o : OuterState) → tick_told (past ++ ticked_entry o) ≡ o.clock → serial_events (past ++ ticked_entry o) ≡ serial_events past ++ ticks_up_to (tick_told past) o.clock
timed_serials past o on_time = by (awaits_number o) on_time
  where
    by : (b : Bool) → tick_told (past ++ (if b then entry.Time o.clock ∷ [] else [])) ≡ o.clock
        → serial_events (past ++ (if b then entry.Time o.clock ∷ [] else [])) ≡ serial_events past ++ ticks_up_to (tick_told past) o.clock
    by true is = (time_serials past o.clock).0
    by false is =
        let same : tick_told past ≡ o.clock = ap (λ (l : List Entry). tick_told l) (sym (append-nil past)) ∙ is in
        let none : o.clock - tick_told past ≡ 0 = omega (arith, same) in
        ap (λ (l : List Entry). serial_events l) (append-nil past)
        ∙ sym (ap (λ (n : ℕ). serial_events past ++ replicate n Tick_begins) none ∙ append-nil (serial_events past))

replicate_more : (n : ℕ) → replicate (suc n) Tick_begins ≡ replicate n Tick_begins ++ Tick_begins ∷ []
replicate_more zero = refl
replicate_more (suc n) = ap (λ (l : List SerialEvent). Tick_begins ∷ l) (replicate_more n)

-- and where a tick begins, that one too
pub tick_serials : (past : List Entry) (o : OuterState) → tick_told (past ++ ticked_entry o) ≡ o.clock → tick_told past ≤ o.clock
    → serial_events (past ++ ticked_entry o) ++ Tick_begins ∷ [] ≡ serial_events (past ++ entry.Time (o.clock + 1) ∷ [])
tick_serials past o on_time behind =
    let now : ℕ = tick_told past in
    let more : (o.clock + 1) - now ≡ suc (o.clock - now) = omega (arith, behind) in
    ap (λ (l : List SerialEvent). l ++ Tick_begins ∷ []) (timed_serials past o on_time)
    ∙ append_assoc (serial_events past) (ticks_up_to now o.clock) (Tick_begins ∷ [])
    ∙ ap (λ (l : List SerialEvent). serial_events past ++ l) (sym (ap (λ (n : ℕ). replicate n Tick_begins) more ∙ replicate_more (o.clock - now)))
    ∙ sym (time_serials past (o.clock + 1)).0
