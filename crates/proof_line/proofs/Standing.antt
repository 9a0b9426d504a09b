-- What stands after a unit, by the marks that wait; and entries that are neither units nor of marks leave all as it is.
use Rattle.std.proofs.Common.{◌≡◌, ℕ, suc, ◌+◌, ◌-◌, ◌==◌, Bool, true, false, if◌then◌else◌, List, [], ◌∷◌, ◌++◌, length, map, take, drop, min, refl, sym, ap, ap₂, subst, ◌∙◌, append_assoc, append-nil, nat_lt, arith}
use Rattle.std.specs.Prelude.{slice_index, slice_set, bit_xor}
use Rattle.std.specs.List.{flat_map, AllByRecursion}
use Rattle.std.proofs.lemmas.Bool.{ne_eqb}
use Rattle.std.proofs.lemmas.List.{length-append, take_at}
use Rattle.serial_frame.specs.Frame.{FrameParts}
use Rattle.serial_frame.specs.Items.{unit_text}
use Rattle.serial_frame.specs.declared.unit.Unit.{Unit as LineUnit}
use Rattle.serial_frame.specs.declared.unit.Unit.TheVariants.{Ack, Nak, Can, Framed}
use Rattle.serial_pipes.specs.State.{WayState, fits, mark_for, change_for, garbled}
use Rattle.serial_pipes.specs.Events.{told, told_by, Writes, passing, after}
use Rattle.serial_pipes.specs.declared.marks.Garble.{Garble}
use Rattle.serial_pipes.specs.declared.marks.Mark.{Mark}
use Rattle.serial_pipes.specs.declared.marks.Mark.TheVariants.{Free, Lost, Changed}
use Rattle.zw_words.specs.declared.side.Side.{Side}
use Rattle.zw_words.specs.declared.side.Side.TheVariants.{Host as by_host, Chip as by_chip}
use Rattle.zw_text.specs.declared.entry.Entry.{Entry}
use Rattle.zw_text.specs.declared.entry.Entry.TheVariants as entry
use Rattle.zw_text.specs.Transcript.{folded, same_side}
use Rattle.zw_text.proofs.Views.{folded-append}
use Rattle.law_wire.specs.law_transcript.Lists.{EachAfter}
use Rattle.law_wire.specs.Marks.{Changing, Marks, marks_step, marks_of, changed_by, becomes, becomes_by, to_stand, IsMarked}
use Rattle.proof_line.specs.Marks.{changing_of, marks_at, MayMark, IsQuiet}

-- ---- what is to stand next

pub last_only : {A : Type 0} (past : List A) (x : A) → drop (length (past ++ x ∷ []) - 1) (past ++ x ∷ []) ≡ x ∷ []
last_only [] x = refl
last_only (first ∷ past) x = ap (λ (n : ℕ). drop n (first ∷ (past ++ x ∷ []))) (more (length-append past (x ∷ []))) ∙ last_only past x
  where
    more : length (past ++ x ∷ []) ≡ length past + 1 → length (first ∷ (past ++ x ∷ [])) - 1 ≡ suc (length (past ++ x ∷ []) - 1)
    more is = omega (arith, is)

-- all but the last
pub but_last : {A : Type 0} (past : List A) (x : A) → take (length (past ++ x ∷ []) - 1) (past ++ x ∷ []) ≡ past
but_last past x = take_at past (x ∷ []) (length (past ++ x ∷ []) - 1) (one_less (length-append past (x ∷ [])))
  where
    one_less : length (past ++ x ∷ []) ≡ length past + 1 → length past ≡ length (past ++ x ∷ []) - 1
    one_less is = omega (arith, is)

stands_next : (past : List Entry) (e : Entry) → to_stand (past ++ e ∷ []) ≡ becomes_by (past ++ e ∷ []) e
stands_next past e = ap (flat_map (becomes_by (past ++ e ∷ []))) (last_only past e) ∙ append-nil (becomes_by (past ++ e ∷ []) e)

pub marks_grow : (side : Side) (past told : List Entry) → marks_of side (past ++ told) ≡ folded (marks_step side) (marks_of side past) told
marks_grow side past told = folded-append (marks_step side) (record { drops = 0; changes = [] }) past told

-- ---- entries that are neither units nor of marks

abbrev pub IsApart : Entry → Type 0
IsApart (entry.Said words) = ⊥
IsApart (entry.Written side unit) = ⊥
IsApart (entry.Dropped side) = ⊥
IsApart (entry.Garbled side unit) = ⊥
IsApart _ = Unit {0}

abbrev pub AreApart : List Entry → Type 0
AreApart told = AllByRecursion IsApart told

apart_step : (side : Side) (marks : Marks) (e : Entry) → IsApart e → marks_step side marks e ≡ marks
apart_step side marks (entry.Said words) apart = absurd apart
apart_step side marks (entry.Dropped on) apart = absurd apart
apart_step side marks (entry.Garbled on unit) apart = absurd apart
apart_step side marks e apart = refl

apart_steps : (side : Side) (marks : Marks) (told : List Entry) → AreApart told → folded (marks_step side) marks told ≡ marks
apart_steps side marks [] apart = refl
apart_steps side marks (e ∷ told) apart = ap (λ (m : Marks). folded (marks_step side) m told) (apart_step side marks e apart.0) ∙ apart_steps side marks told apart.1

pub apart_marks : (side : Side) (past told : List Entry) → AreApart told → marks_of side (past ++ told) ≡ marks_of side past
apart_marks side past told apart = marks_grow side past told ∙ apart_steps side (marks_of side past) told apart

apart_next : (past : List Entry) (e : Entry) → IsApart e → becomes_by past e ≡ []
apart_next past (entry.Written side unit) apart = absurd apart
apart_next past e apart = refl

apart_stands : (e : Entry) → IsApart e → IsMarked [] e
apart_stands (entry.Dropped side) apart = absurd apart
apart_stands (entry.Garbled side unit) apart = absurd apart
apart_stands e apart = tt

quiet_stands : (past : List Entry) (e : Entry) → IsMarked [] e → IsQuiet past → MayMark past e
quiet_stands past e stands quiet = subst (λ (due : List Entry). IsMarked due e) (sym quiet) stands

apart_quiet : (past : List Entry) (e : Entry) → IsApart e → IsQuiet (past ++ e ∷ [])
apart_quiet past e apart = stands_next past e ∙ apart_next (past ++ e ∷ []) e apart

-- they may stand, and nothing is to stand after them
pub all_apart : (past told : List Entry) → AreApart told → IsQuiet past → EachAfter MayMark past told × IsQuiet (past ++ told)
all_apart past [] apart quiet = (tt, subst IsQuiet (sym (append-nil past)) quiet)
all_apart past (e ∷ told) apart quiet =
    let rest = all_apart (past ++ e ∷ []) told apart.1 (apart_quiet past e apart.0) in
    ((quiet_stands past e (apart_stands e apart.0) quiet, rest.0), subst IsQuiet (append_assoc past (e ∷ []) told) rest.1)

-- the words of a line
pub said_stands : (past : List Entry) (words : List ℕ) → IsQuiet past → MayMark past (entry.Said words) × IsQuiet (past ++ entry.Said words ∷ [])
said_stands past words quiet = (quiet_stands past (entry.Said words) tt quiet, stands_next past (entry.Said words))

-- ---- a unit

-- so it stands, and the marks of its side are these
pub record Stands (side : Side) (past told : List Entry) (new : Marks) : Type 0 where
  pub each : EachAfter MayMark past told
  pub quiet : IsQuiet (past ++ told)
  pub own : marks_of side (past ++ told) ≡ new
  pub other : (on : Side) → same_side on side ≡ false → marks_of on (past ++ told) ≡ marks_of on past

pub same_itself : (side : Side) → same_side side side ≡ true
same_itself by_host = refl
same_itself by_chip = refl

module _ (side : Side) (past : List Entry) (unit : LineUnit) (quiet : IsQuiet past) where
  abbrev text : List ℕ
  text = unit_text unit

  abbrev first : Entry
  first = entry.Written side text

  -- after it the same marks wait
  same_marks : (on : Side) → marks_of on (past ++ first ∷ []) ≡ marks_of on past
  same_marks on = marks_grow on past (first ∷ [])

  next : to_stand (past ++ first ∷ []) ≡ becomes side (marks_of side past) text
  next = stands_next past first ∙ ap (λ (m : Marks). becomes side m text) (same_marks side)

  first_stands : MayMark past first
  first_stands = quiet_stands past first tt quiet

  -- it has no mark, and perhaps no room
  free : (room : Bool) → becomes side (marks_of side past) text ≡ [] → Stands side past (first ∷ (if room then [] else entry.Overrun side ∷ [])) (marks_of side past)
  free true none = record { each = (first_stands, tt); quiet = next ∙ none; own = same_marks side; other = λ on apart. same_marks on }
  free false none =
      let past_unit : List Entry = past ++ first ∷ [] in
      let rest = all_apart past_unit (entry.Overrun side ∷ []) (tt, tt) (next ∙ none) in
      record {
        each = (first_stands, rest.0);
        quiet = subst IsQuiet (append_assoc past (first ∷ []) (entry.Overrun side ∷ [])) rest.1;
        own = marks_grow side past (first ∷ entry.Overrun side ∷ []);
        other = λ on apart. marks_grow on past (first ∷ entry.Overrun side ∷ []);
      }

  due_stands : (e : Entry) → becomes side (marks_of side past) text ≡ e ∷ [] → MayMark (past ++ first ∷ []) e
  due_stands e due = subst (λ (l : List Entry). IsMarked l e) (sym (next ∙ due)) refl

  -- it is lost
  dropped : becomes side (marks_of side past) text ≡ entry.Dropped side ∷ []
      → Stands side past (first ∷ entry.Dropped side ∷ []) (record (marks_of side past) { drops = (marks_of side past).drops - 1 })
  dropped due = record {
    each = (first_stands, (due_stands (entry.Dropped side) due, tt));
    quiet = subst IsQuiet (append_assoc past (first ∷ []) (entry.Dropped side ∷ [])) (stands_next (past ++ first ∷ []) (entry.Dropped side));
    own = marks_grow side past (first ∷ entry.Dropped side ∷ [])
        ∙ ap (λ (b : Bool). if b then record (marks_of side past) { drops = (marks_of side past).drops - 1 } else marks_of side past) (same_itself side);
    other = λ on apart. marks_grow on past (first ∷ entry.Dropped side ∷ [])
        ∙ ap (λ (b : Bool). if b then record (marks_of on past) { drops = (marks_of on past).drops - 1 } else marks_of on past) apart;
  }

  -- it is changed, and perhaps has no room
  changed : (room : Bool) (bytes : List ℕ) → becomes side (marks_of side past) text ≡ entry.Garbled side bytes ∷ []
      → Stands side past (first ∷ entry.Garbled side bytes ∷ (if room then [] else entry.Overrun side ∷ [])) (record (marks_of side past) { changes = drop 1 (marks_of side past).changes })
  changed room bytes due =
      let two : List Entry = first ∷ entry.Garbled side bytes ∷ [] in
      let rest : List Entry = if room then [] else entry.Overrun side ∷ [] in
      let quiet_two : IsQuiet (past ++ two) = subst IsQuiet (append_assoc past (first ∷ []) (entry.Garbled side bytes ∷ [])) (stands_next (past ++ first ∷ []) (entry.Garbled side bytes)) in
      let apart : AreApart rest = over room in
      let later = all_apart ((past ++ first ∷ []) ++ entry.Garbled side bytes ∷ []) rest apart (subst IsQuiet (sym (append_assoc past (first ∷ []) (entry.Garbled side bytes ∷ []))) quiet_two) in
      record {
        each = (first_stands, (due_stands (entry.Garbled side bytes) due, later.0));
        quiet = subst IsQuiet (append_assoc (past ++ first ∷ []) (entry.Garbled side bytes ∷ []) rest ∙ append_assoc past (first ∷ []) (entry.Garbled side bytes ∷ rest)) later.1;
        own = marks_grow side past (first ∷ entry.Garbled side bytes ∷ rest)
            ∙ (apart_steps side (if same_side side side then record (marks_of side past) { changes = drop 1 (marks_of side past).changes } else marks_of side past) rest apart
            ∙ ap (λ (b : Bool). if b then record (marks_of side past) { changes = drop 1 (marks_of side past).changes } else marks_of side past) (same_itself side));
        other = λ on is. marks_grow on past (first ∷ entry.Garbled side bytes ∷ rest)
            ∙ (apart_steps on (if same_side on side then record (marks_of on past) { changes = drop 1 (marks_of on past).changes } else marks_of on past) rest apart
            ∙ ap (λ (b : Bool). if b then record (marks_of on past) { changes = drop 1 (marks_of on past).changes } else marks_of on past) is);
      }
    where
      over : (room : Bool) → AreApart (if room then [] else entry.Overrun side ∷ [])
      over true = tt
      over false = (tt, tt)

-- ---- a unit with the marks of its pipe

-- a frame has more than one byte
pub frame_long : (f : FrameParts) → (length (unit_text (Framed f)) == 1) ≡ false
frame_long f = ne_eqb (length (unit_text (Framed f))) 1 (λ is. absurd (omega (arith, is)))

same_change : (garble : Garble) (text : List ℕ) → changed_by (changing_of garble) text ≡ garbled garble text
same_change garble text =
    let place : garble.place + 2 ≡ 2 + garble.place = omega arith in
    ap (λ (n : ℕ). slice_set text (min n (length text - 1)) (bit_xor (slice_index text (min n (length text - 1))) garble.xor)) place

module _ (side : Side) (way : WayState) (past : List Entry) (quiet : IsQuiet past) (tie : marks_of side past ≡ marks_at way) where
  -- what it becomes, by the marks of the pipe
  abbrev Becomes : LineUnit → List Entry → Type 0
  Becomes unit due = becomes side (marks_at way) (unit_text unit) ≡ due

  due_by : (unit : LineUnit) (due : List Entry) → Becomes unit due → becomes side (marks_of side past) (unit_text unit) ≡ due
  due_by unit due is = ap (λ (m : Marks). becomes side m (unit_text unit)) tie ∙ is

  with_new : (told : List Entry) (new later : Marks) → new ≡ later → Stands side past told new → Stands side past told later
  with_new told new later is stands = record { each = stands.each; quiet = stands.quiet; own = stands.own ∙ is; other = stands.other }

  unmarked : (unit : LineUnit) → mark_for way.marks unit ≡ Free → Becomes unit [] → Stands side past (told side way unit) (marks_at (after way (Writes unit)))
  unmarked unit none due =
      subst (λ (m : Mark). Stands side past (entry.Written side (unit_text unit) ∷ told_by side way.bytes m (unit_text unit)) (marks_at (passing way m (unit_text unit)))) (sym none)
      (with_new _ (marks_of side past) (marks_at way) tie (free side past unit quiet (fits way.bytes (unit_text unit)) (due_by unit [] due)))

  lost : (unit : LineUnit) → mark_for way.marks unit ≡ Lost → Becomes unit (entry.Dropped side ∷ []) → Stands side past (told side way unit) (marks_at (after way (Writes unit)))
  lost unit is due =
      subst (λ (m : Mark). Stands side past (entry.Written side (unit_text unit) ∷ told_by side way.bytes m (unit_text unit)) (marks_at (passing way m (unit_text unit)))) (sym is)
      (with_new _ (record (marks_of side past) { drops = (marks_of side past).drops - 1 }) (marks_at (passing way Lost (unit_text unit)))
      (ap (λ (m : Marks). record m { drops = m.drops - 1 }) tie) (dropped side past unit quiet (due_by unit (entry.Dropped side ∷ []) due)))

  changes : (unit : LineUnit) (garble : Garble) (more : List Garble) → way.marks.garbles ≡ garble ∷ more → mark_for way.marks unit ≡ Changed garble
      → Becomes unit (entry.Garbled side (garbled garble (unit_text unit)) ∷ []) → Stands side past (told side way unit) (marks_at (after way (Writes unit)))
  changes unit garble more garbles is due =
      let bytes : List ℕ = garbled garble (unit_text unit) in
      subst (λ (m : Mark). Stands side past (entry.Written side (unit_text unit) ∷ told_by side way.bytes m (unit_text unit)) (marks_at (passing way m (unit_text unit)))) (sym is)
      (with_new _ (record (marks_of side past) { changes = drop 1 (marks_of side past).changes }) (marks_at (passing way (Changed garble) (unit_text unit)))
      (ap (λ (m : Marks). record m { changes = drop 1 m.changes }) tie
      ∙ ap (λ (l : List Changing). record (marks_at way) { changes = l }) (later_changes way.marks.garbles))
      (changed side past unit quiet (fits way.bytes bytes) bytes (due_by unit (entry.Garbled side bytes ∷ []) due)))
    where
      later_changes : (l : List Garble) → drop 1 (map changing_of l) ≡ map changing_of (drop 1 l)
      later_changes [] = refl
      later_changes (one ∷ l) = refl

  -- by the marks
  framed : (f : FrameParts) (garbles : List Garble) → way.marks.garbles ≡ garbles → nat_lt 0 way.marks.drops ≡ false → Stands side past (told side way (Framed f)) (marks_at (after way (Writes (Framed f))))
  framed f [] is none =
      unmarked (Framed f) (ap₂ (λ (b : Bool) (l : List Garble). if b then Lost else change_for l (Framed f)) none is)
      (ap₂ (λ (b : Bool) (l : List Garble). if b then entry.Dropped side ∷ [] else (if length (unit_text (Framed f)) == 1 then [] else map (λ (c : Changing). entry.Garbled side (changed_by c (unit_text (Framed f)))) (take 1 (map changing_of l)))) none is
      ∙ either (length (unit_text (Framed f)) == 1))
    where
      none_left : List Entry
      none_left = []

      either : (b : Bool) → (if b then none_left else none_left) ≡ none_left
      either true = refl
      either false = refl
  framed f (garble ∷ more) is none =
      changes (Framed f) garble more is (ap₂ (λ (b : Bool) (l : List Garble). if b then Lost else change_for l (Framed f)) none is)
      (ap₂ (λ (b : Bool) (l : List Garble). if b then entry.Dropped side ∷ [] else (if length (unit_text (Framed f)) == 1 then [] else map (λ (c : Changing). entry.Garbled side (changed_by c (unit_text (Framed f)))) (take 1 (map changing_of l)))) none is
      ∙ (ap (λ (b : Bool). if b then [] else entry.Garbled side (changed_by (changing_of garble) (unit_text (Framed f))) ∷ []) (frame_long f)
      ∙ ap (λ (l : List ℕ). entry.Garbled side l ∷ []) (same_change garble (unit_text (Framed f)))))

  undropped : (unit : LineUnit) → nat_lt 0 way.marks.drops ≡ false → Stands side past (told side way unit) (marks_at (after way (Writes unit)))
  undropped Ack none = unmarked Ack (ap (λ (b : Bool). if b then Lost else Free) none) (ap (λ (b : Bool). if b then entry.Dropped side ∷ [] else []) none)
  undropped Nak none = unmarked Nak (ap (λ (b : Bool). if b then Lost else Free) none) (ap (λ (b : Bool). if b then entry.Dropped side ∷ [] else []) none)
  undropped Can none = unmarked Can (ap (λ (b : Bool). if b then Lost else Free) none) (ap (λ (b : Bool). if b then entry.Dropped side ∷ [] else []) none)
  undropped (Framed f) none = framed f way.marks.garbles refl none

  pub unit_stands : (unit : LineUnit) → Stands side past (told side way unit) (marks_at (after way (Writes unit)))
  unit_stands unit = by (nat_lt 0 way.marks.drops) refl
    where
      by : (b : Bool) → nat_lt 0 way.marks.drops ≡ b → Stands side past (told side way unit) (marks_at (after way (Writes unit)))
      by true some =
          lost unit (ap (λ (b : Bool). if b then Lost else change_for way.marks.garbles unit) some)
          (ap (λ (b : Bool). if b then entry.Dropped side ∷ [] else (if length (unit_text unit) == 1 then [] else map (λ (c : Changing). entry.Garbled side (changed_by c (unit_text unit))) (take 1 (map changing_of way.marks.garbles)))) some)
      by false none = undropped unit none
