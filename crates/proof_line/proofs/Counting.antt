-- How the CAN of the chip and the collisions that lines ask for count on with entries.
use Rattle.std.proofs.Common.{◌≡◌, ℕ, ◌+◌, Bool, true, false, if◌then◌else◌, List, [], ◌∷◌, ◌++◌, length, filter, refl, ap, ◌∙◌}
use Rattle.std.specs.Prelude.{Option}
use Rattle.std.specs.List.{flat_map, AllByRecursion}
use Rattle.std.proofs.lemmas.List.{length-append}
use Rattle.std.proofs.lemmas.List.Elements.{filter-append}
use Rattle.std.proofs.lemmas.Grind.{flat_map-append}
use Rattle.zw_base.proofs.Each.{all-weaker}
use Rattle.serial_frame.specs.declared.unit.Unit.{Unit as LineUnit}
use Rattle.serial_frame.specs.Items.{unit_text}
use Rattle.serial_pipes.specs.State.{WayState, mark_for}
use Rattle.serial_pipes.specs.Events.{told, told_by}
use Rattle.serial_pipes.specs.declared.marks.Mark.{Mark}
use Rattle.zw_words.specs.declared.side.Side.{Side}
use Rattle.zw_words.specs.declared.side.Side.TheVariants.{Host as by_host, Chip as by_chip}
use Rattle.zw_text.specs.declared.line.Line.{Line}
use Rattle.zw_text.specs.declared.entry.Entry.{Entry}
use Rattle.zw_text.specs.declared.entry.Entry.TheVariants as entry
use Rattle.zw_text.specs.Transcript.{lines_run, line_of, unit_at, written}
use Rattle.zw_text.proofs.Views.{shown-append}
use Rattle.law_wire.specs.Asked.{is_ack}
use Rattle.law_wire.specs.Marks.{collision_of, collisions, is_can, cans, AnswersBy, MayCollide}
use Rattle.proof_world.specs.device_sim.State.{State}
use Rattle.proof_walk.specs.outside_model.Devices.{shown_entries}
use Rattle.proof_walk.specs.outside_model.Events.{cleared_entries, IsCleared}
use Rattle.proof_walk.specs.Outside.{IsNote, IsOfAir}
use Rattle.proof_walk.proofs.Entered.{IsMark, told_by_marks, all_cleared, IsShown, all_shown}

-- ---- more entries

pub cans_grow : (past added : List Entry) → cans (past ++ added) ≡ cans past + cans added
cans_grow past added =
    ap (λ (l : List (List ℕ)). length (filter is_can l)) (shown-append (unit_at by_chip) past added)
    ∙ (ap (λ (l : List (List ℕ)). length l) (filter-append is_can (written by_chip past) (written by_chip added))
    ∙ length-append (filter is_can (written by_chip past)) (filter is_can (written by_chip added)))

pub collisions_grow : (past added : List Entry) → collisions (past ++ added) ≡ collisions past + collisions added
collisions_grow past added =
    ap (λ (l : List Line). length (flat_map collision_of l)) (shown-append line_of past added)
    ∙ (ap (λ (l : List Line). length l) (flat_map-append collision_of (lines_run past) (lines_run added))
    ∙ length-append (flat_map collision_of (lines_run past)) (flat_map collision_of (lines_run added)))

-- ---- entries that count nothing

-- no line, and of the chip's units neither ACK nor CAN
abbrev pub IsUncounted : Entry → Type 0
IsUncounted (entry.Said words) = ⊥
IsUncounted (entry.Written by_host unit) = Unit {0}
IsUncounted (entry.Written by_chip unit) = (is_ack unit ≡ false) × (is_can unit ≡ false)
IsUncounted _ = Unit {0}

abbrev pub AreUncounted : List Entry → Type 0
AreUncounted entries = AllByRecursion IsUncounted entries

answers_none : (ack can : Bool) (past : List Entry) → ack ≡ false → can ≡ false → AnswersBy ack can past
answers_none true can past no_ack no_can = absurd (let is : true ≡ false = no_ack in cc)
answers_none false true past no_ack no_can = absurd (let is : true ≡ false = no_can in cc)
answers_none false false past no_ack no_can = tt

pub uncounted_stands : (past : List Entry) (e : Entry) → IsUncounted e → MayCollide past e
uncounted_stands past (entry.Written by_host unit) uncounted = tt
uncounted_stands past (entry.Written by_chip unit) uncounted = answers_none (is_ack unit) (is_can unit) past uncounted.0 uncounted.1
uncounted_stands past (entry.Said words) uncounted = tt
uncounted_stands past e uncounted = tt

passed_over : (b : Bool) (unit : List ℕ) (rest : List (List ℕ)) → b ≡ false → length (if b then unit ∷ rest else rest) ≡ length rest
passed_over true unit rest is = absurd (let none : true ≡ false = is in cc)
passed_over false unit rest is = refl

one_uncounted : (e : Entry) (told : List Entry) → IsUncounted e → (cans (e ∷ told) ≡ cans told) × (collisions (e ∷ told) ≡ collisions told)
one_uncounted (entry.Said words) told uncounted = absurd uncounted
one_uncounted (entry.Written by_host unit) told uncounted = (refl, refl)
one_uncounted (entry.Written by_chip unit) told uncounted = (passed_over (is_can unit) unit (filter is_can (written by_chip told)) uncounted.1, refl)
one_uncounted e told uncounted = (refl, refl)

pub uncounted : (told : List Entry) → AreUncounted told → (cans told ≡ 0) × (collisions told ≡ 0)
uncounted [] none = (refl, refl)
uncounted (e ∷ told) none =
    let one = one_uncounted e told none.0 in
    let rest = uncounted told none.1 in
    (one.0 ∙ rest.0, one.1 ∙ rest.1)

-- ---- which they are

pub note_uncounted : (e : Entry) → IsNote e → IsUncounted e
note_uncounted (entry.Said words) note = absurd note
note_uncounted (entry.Written side unit) note = absurd note
note_uncounted e note = tt

pub air_uncounted : (e : Entry) → IsOfAir e → IsUncounted e
air_uncounted (entry.Said words) of_air = absurd of_air
air_uncounted (entry.Written side unit) of_air = absurd of_air
air_uncounted e of_air = tt

mark_uncounted : (e : Entry) → IsMark e → IsUncounted e
mark_uncounted (entry.Dropped side) mark = tt
mark_uncounted (entry.Garbled side unit) mark = tt
mark_uncounted (entry.Overrun side) mark = tt
mark_uncounted e mark = absurd mark

pub told_by_uncounted : (side : Side) (bytes : List ℕ) (mark : Mark) (text : List ℕ) → AreUncounted (told_by side bytes mark text)
told_by_uncounted side bytes mark text = all-weaker IsMark IsUncounted mark_uncounted (told_by side bytes mark text) (told_by_marks side bytes mark text)

pub host_uncounted : (way : WayState) (unit : LineUnit) → AreUncounted (told by_host way unit)
host_uncounted way unit = (tt, told_by_uncounted by_host way.bytes (mark_for way.marks unit) (unit_text unit))

pub cleared_uncounted : (side : Side) (count : ℕ) → AreUncounted (cleared_entries side count)
cleared_uncounted side count = all-weaker IsCleared IsUncounted one (cleared_entries side count) (all_cleared side count)
  where
    one : (e : Entry) → IsCleared e → IsUncounted e
    one (entry.Cleared side count) cleared = tt
    one e cleared = absurd cleared

pub shown_uncounted : (node : ℕ) (device : Option State) → AreUncounted (shown_entries node device)
shown_uncounted node device = all-weaker IsShown IsUncounted one (shown_entries node device) (all_shown node device)
  where
    one : (e : Entry) → IsShown e → IsUncounted e
    one (entry.Device node setting) shown = tt
    one (entry.Refused refusal) shown = tt
    one e shown = absurd shown
