-- How the pipes that a transcript shows go on with entries: with those that tell nothing of them, with the number of a tick, and with a unit, which is in its pipe or lost.
use Rattle.std.proofs.Common.{◌≡◌, ◌≤◌, ◌<◌, ◌⊎◌, ℕ, ◌+◌, ◌-◌, ◌==◌, ◌&&◌, ◌||◌, not, Bool, true, false, if◌then◌else◌, List, [], ◌∷◌, ◌++◌, length, take, drop, inl, inr, refl, sym, ap, ap₂, subst, ◌∙◌, append_assoc, arith}
use Rattle.std.specs.List.{flat_map, list_any, AllByRecursion}
use Rattle.std.proofs.lemmas.Bool.{eqb-true, leb-false, lt-leb}
use Rattle.std.proofs.lemmas.List.{length-append, length-set, take_at}
use Rattle.serial_frame.specs.declared.unit.Unit.{Unit as LineUnit}
use Rattle.serial_frame.specs.Items.{unit_text}
use Rattle.serial_pipes.specs.State.{WayState, fits, mark_for, garbled}
use Rattle.serial_pipes.specs.Events.{told, told_by, passing, Writes, after}
use Rattle.serial_pipes.specs.declared.marks.Mark.{Mark}
use Rattle.serial_pipes.specs.declared.marks.Mark.TheVariants.{Free, Lost, Changed}
use Rattle.zw_words.specs.declared.side.Side.{Side}
use Rattle.zw_text.specs.declared.entry.Entry.{Entry}
use Rattle.zw_text.specs.declared.entry.Entry.TheVariants as entry
use Rattle.zw_text.specs.Transcript.{line_of, line_last, same_side}
use Rattle.law_wire.specs.law_transcript.Lists.{EachAfter}
use Rattle.law_wire.specs.law_transcript.Restarts.{is_restart, begins_refused}
use Rattle.law_wire.specs.Pipes.{Pipe, empty_pipe, with_unit, with_answer, gone_on, with_turn, is_lost, pipe_by_unit, pipe_step, pipe_from, sum_of, bytes_perhaps, unit_by, may_lack}
use Rattle.proof_walk.proofs.Entered.{IsMark, told_by_marks}
use Rattle.proof_line.specs.Pipes.{MayTell, most}
use Rattle.proof_line.proofs.Standing.{last_only, but_last, same_itself}

-- ---- what stands next may say what became of the last

-- it says nothing of a unit
abbrev pub NoMark : List Entry → Type 0
NoMark (entry.Dropped side ∷ told) = ⊥
NoMark (entry.Garbled side unit ∷ told) = ⊥
NoMark (entry.Overrun side ∷ told) = ⊥
NoMark told = Unit {0}

lost_none : (side : Side) (told : List Entry) → NoMark told → is_lost side told ≡ false
lost_none side [] none = refl
lost_none side (entry.Dropped on ∷ told) none = absurd none
lost_none side (entry.Garbled on unit ∷ told) none = absurd none
lost_none side (entry.Overrun on ∷ told) none = absurd none
lost_none side (e ∷ told) none = refl

changed_none : (side on : Side) (unit : List ℕ) (told : List Entry) → NoMark told → is_lost side (entry.Garbled on unit ∷ told) ≡ false
changed_none side on unit [] none = refl
changed_none side on unit (entry.Overrun of ∷ told) none = absurd none
changed_none side on unit (e ∷ told) none = refl

changed_then : (side on : Side) (unit : List ℕ) (e : Entry) (xs ys : List Entry) → is_lost side (entry.Garbled on unit ∷ (e ∷ xs)) ≡ is_lost side (entry.Garbled on unit ∷ (e ∷ ys))
changed_then side on unit (entry.Overrun of) xs ys = refl
changed_then side on unit e xs ys = refl

pub lost_same : (side : Side) (past told : List Entry) → NoMark told → is_lost side (past ++ told) ≡ is_lost side past
lost_same side [] told none = lost_none side told none
lost_same side (entry.Dropped on ∷ past) told none = refl
lost_same side (entry.Overrun on ∷ past) told none = refl
lost_same side (entry.Garbled on unit ∷ []) told none = changed_none side on unit told none
lost_same side (entry.Garbled on unit ∷ (e ∷ past)) told none = changed_then side on unit e (past ++ told) past
lost_same side (e ∷ past) told none = refl

pub refused_then : (e : Entry) (xs ys : List Entry) → begins_refused (e ∷ xs) ≡ begins_refused (e ∷ ys)
refused_then (entry.Refused r) xs ys = refl
refused_then e xs ys = refl

-- a restart is refused where that stands next, and nowhere else
abbrev pub Joins : List Entry → List Entry → Type 0
Joins past told = begins_refused told ≡ true → is_restart (line_last past) ≡ false

step_more : (side : Side) (pipe : Pipe) (e next : Entry) (past told : List Entry) → NoMark told → pipe_step side pipe e (next ∷ (past ++ told)) ≡ pipe_step side pipe e (next ∷ past)
step_more side pipe (entry.Written on unit) next past told none = ap (λ (b : Bool). pipe_by_unit side on (length unit) b pipe) (lost_same side (next ∷ past) told none)
step_more side pipe (entry.Said words) next past told none =
    ap (λ (b : Bool). if is_restart (line_of (entry.Said words)) && not b then empty_pipe else with_turn side pipe) (refused_then next (past ++ told) past)
step_more side pipe e next past told none = refl

step_last : (side : Side) (pipe : Pipe) (e : Entry) (told : List Entry) → NoMark told → Joins (e ∷ []) told → pipe_step side pipe e told ≡ pipe_step side pipe e []
step_last side pipe (entry.Written on unit) told none joins = ap (λ (b : Bool). pipe_by_unit side on (length unit) b pipe) (lost_none side told none)
step_last side pipe (entry.Said words) told none joins = by (begins_refused told) refl
  where
    by : (b : Bool) → begins_refused told ≡ b → pipe_step side pipe (entry.Said words) told ≡ pipe_step side pipe (entry.Said words) []
    by true is =
        ap (λ (r : Bool). if r && not (begins_refused told) then empty_pipe else with_turn side pipe) (joins is)
        ∙ sym (ap (λ (r : Bool). if r && not false then empty_pipe else with_turn side pipe) (joins is))
    by false is = ap (λ (b : Bool). if is_restart (line_of (entry.Said words)) && not b then empty_pipe else with_turn side pipe) is
step_last side pipe e told none joins = refl

pub pipe_grows : (side : Side) (pipe : Pipe) (past told : List Entry) → NoMark told → Joins past told → pipe_from side pipe (past ++ told) ≡ pipe_from side (pipe_from side pipe past) told
pipe_grows side pipe [] told none joins = refl
pipe_grows side pipe (e ∷ []) told none joins = ap (λ (p : Pipe). pipe_from side p told) (step_last side pipe e told none joins)
pipe_grows side pipe (e ∷ (next ∷ past)) told none joins =
    ap (λ (p : Pipe). pipe_from side p (next ∷ (past ++ told))) (step_more side pipe e next past told none)
    ∙ pipe_grows side (pipe_step side pipe e (next ∷ past)) (next ∷ past) told none joins

-- ---- entries that tell nothing of the pipes

-- no line, no unit and nothing of one, no bytes that a restart lost, and no number of a tick
abbrev pub TellsNothing : Entry → Type 0
TellsNothing (entry.Said words) = ⊥
TellsNothing (entry.Written side unit) = ⊥
TellsNothing (entry.Dropped side) = ⊥
TellsNothing (entry.Garbled side unit) = ⊥
TellsNothing (entry.Overrun side) = ⊥
TellsNothing (entry.Cleared side count) = ⊥
TellsNothing (entry.Time tick) = ⊥
TellsNothing _ = Unit {0}

pub apart_mark : (e : Entry) → TellsNothing e → NoMark (e ∷ [])
apart_mark (entry.Dropped side) apart = absurd apart
apart_mark (entry.Garbled side unit) apart = absurd apart
apart_mark (entry.Overrun side) apart = absurd apart
apart_mark e apart = tt

pub apart_step : (side : Side) (pipe : Pipe) (e : Entry) → TellsNothing e → pipe_from side pipe (e ∷ []) ≡ pipe
apart_step side pipe (entry.Said words) apart = absurd apart
apart_step side pipe (entry.Written on unit) apart = absurd apart
apart_step side pipe (entry.Time tick) apart = absurd apart
apart_step side pipe e apart = refl

pub apart_line : (e : Entry) → TellsNothing e → line_of e ≡ []
apart_line (entry.Said words) apart = absurd apart
apart_line e apart = refl

pub apart_stands : (past : List Entry) (e : Entry) → TellsNothing e → MayTell past e
apart_stands past (entry.Overrun side) apart = absurd apart
apart_stands past (entry.Cleared side count) apart = absurd apart
apart_stands past e apart = tt

-- ---- a unit

-- the pipe has it, or it was lost
abbrev pub Grown : ℕ → Pipe → Pipe → List ℕ → List ℕ → Type 0
Grown n pipe pipe' bytes bytes' = ((pipe' ≡ pipe) × (length bytes' ≡ length bytes)) ⊎ ((pipe' ≡ with_unit n pipe) × (length bytes' ≡ length bytes + n))

marks_pass : (side : Side) (pipe : Pipe) (marks : List Entry) → AllByRecursion IsMark marks → pipe_from side pipe marks ≡ pipe
marks_pass side pipe [] all = refl
marks_pass side pipe (entry.Dropped on ∷ marks) all = marks_pass side pipe marks all.1
marks_pass side pipe (entry.Garbled on unit ∷ marks) all = marks_pass side pipe marks all.1
marks_pass side pipe (entry.Overrun on ∷ marks) all = marks_pass side pipe marks all.1
marks_pass side pipe (e ∷ marks) all = absurd all.0

module _ (side : Side) (way : WayState) (unit : LineUnit) where
  abbrev text : List ℕ
  text = unit_text unit

  abbrev mark : Mark
  mark = mark_for way.marks unit

  abbrev marks : List Entry
  marks = told_by side way.bytes mark text

  -- what it makes of the pipe of its side
  pub own_pipe : (pipe : Pipe) → pipe_from side pipe (told side way unit) ≡ (if is_lost side marks then pipe else with_unit (length text) pipe)
  own_pipe pipe =
      marks_pass side (pipe_step side pipe (entry.Written side text) marks) marks (told_by_marks side way.bytes mark text)
      ∙ ap (λ (b : Bool). if b then (if is_lost side marks then pipe else with_unit (length text) pipe) else with_answer (length text) (gone_on pipe)) (same_itself side)

  -- and of the other
  pub other_pipe : (on : Side) (pipe : Pipe) → same_side on side ≡ false → pipe_from on pipe (told side way unit) ≡ with_answer (length text) (gone_on pipe)
  other_pipe on pipe other =
      marks_pass on (pipe_step on pipe (entry.Written side text) marks) marks (told_by_marks side way.bytes mark text)
      ∙ ap (λ (b : Bool). if b then (if is_lost on marks then pipe else with_unit (length text) pipe) else with_answer (length text) (gone_on pipe)) other

  -- whether it was lost is whether it is on its way
  abbrev Fills : Bool → Mark → Type 0
  Fills lost mark = ((lost ≡ true) × (length (passing way mark text).bytes ≡ length way.bytes)) ⊎ ((lost ≡ false) × (length (passing way mark text).bytes ≡ length way.bytes + length text))

  fills : (mark : Mark) → Fills (is_lost side (told_by side way.bytes mark text)) mark
  fills Free = by (fits way.bytes text)
    where
      by : (b : Bool) → ((is_lost side (if b then [] else entry.Overrun side ∷ []) ≡ true) × (length (if b then way.bytes ++ text else way.bytes) ≡ length way.bytes))
          ⊎ ((is_lost side (if b then [] else entry.Overrun side ∷ []) ≡ false) × (length (if b then way.bytes ++ text else way.bytes) ≡ length way.bytes + length text))
      by true = inr (refl, length-append way.bytes text)
      by false = inl (same_itself side, refl)
  fills Lost = inl (same_itself side, refl)
  fills (Changed garble) = by (fits way.bytes (garbled garble text))
    where
      by : (b : Bool)
          → ((is_lost side (entry.Garbled side (garbled garble text) ∷ (if b then [] else entry.Overrun side ∷ [])) ≡ true)
          × (length (if b then way.bytes ++ garbled garble text else way.bytes) ≡ length way.bytes))
          ⊎ ((is_lost side (entry.Garbled side (garbled garble text) ∷ (if b then [] else entry.Overrun side ∷ [])) ≡ false)
          × (length (if b then way.bytes ++ garbled garble text else way.bytes) ≡ length way.bytes + length text))
      by true = inr (refl, length-append way.bytes (garbled garble text) ∙ ap (λ (n : ℕ). length way.bytes + n) (length-set text _ _))
      by false = inl (same_itself side, refl)

  pub unit_grows : (pipe : Pipe) → Grown (length text) pipe (pipe_from side pipe (told side way unit)) way.bytes (after way (Writes unit)).bytes
  unit_grows pipe = by (is_lost side marks) refl (fills mark)
    where
      by : (lost : Bool) → is_lost side marks ≡ lost → Fills (is_lost side marks) mark → Grown (length text) pipe (pipe_from side pipe (told side way unit)) way.bytes (after way (Writes unit)).bytes
      by lost is (inl (gone, bytes)) = inl (own_pipe pipe ∙ ap (λ (b : Bool). if b then pipe else with_unit (length text) pipe) gone, bytes)
      by lost is (inr (there, bytes)) = inr (own_pipe pipe ∙ ap (λ (b : Bool). if b then pipe else with_unit (length text) pipe) there, bytes)

  -- ---- it is overrun only where it may have no room

  module _ (past : List Entry) (room : length way.bytes ≤ bytes_perhaps side past) where
    abbrev written : List Entry
    written = past ++ entry.Written side text ∷ []

    -- a unit of so many bytes does not fit
    lacks : (bytes : List ℕ) (before : List Entry) → length bytes ≡ length text → before ≡ past → fits way.bytes bytes ≡ false
        → may_lack side (record { side = side; count = length bytes; before = before }) || false ≡ true
    lacks bytes before same is none =
        let full = leb-false (length way.bytes + length bytes) 4096 none in
        let more : 4096 < bytes_perhaps side before + length bytes = subst (λ (l : List Entry). 4096 < bytes_perhaps side l + length bytes) (sym is) (over (length way.bytes) (bytes_perhaps side past) (length bytes) room full) in
        ap₂ (λ (a b : Bool). (a && not b) || false) (same_itself side) (lt-leb (bytes_perhaps side before + length bytes) 4096 more)
      where
        over : (a b n : ℕ) → a ≤ b → 4096 < a + n → 4096 < b + n
        over a b n few full = omega (arith, few, full)

    last_lacks : (later : List Entry) (e : Entry) → list_any (may_lack side) (unit_by (later ++ e ∷ []) e ++ []) ≡ true → MayTell (later ++ e ∷ []) (entry.Overrun side)
    last_lacks later e lacking = ap (λ (l : List Entry). list_any (may_lack side) (flat_map (unit_by (later ++ e ∷ [])) l)) (last_only later e) ∙ lacking

    written_lacks : fits way.bytes text ≡ false → MayTell written (entry.Overrun side)
    written_lacks none = last_lacks past (entry.Written side text) (lacks text (take (length written - 1) written) refl (but_last past (entry.Written side text)) none)

    changed_lacks : (bytes : List ℕ) → length bytes ≡ length text → fits way.bytes bytes ≡ false → MayTell (written ++ entry.Garbled side bytes ∷ []) (entry.Overrun side)
    changed_lacks bytes same none =
        last_lacks written (entry.Garbled side bytes)
        (lacks bytes (take (length (written ++ entry.Garbled side bytes ∷ []) - 2) (written ++ entry.Garbled side bytes ∷ [])) same before none)
      where
        two : List Entry
        two = entry.Written side text ∷ entry.Garbled side bytes ∷ []

        two_less : length (past ++ two) ≡ length past + 2 → length past ≡ length (past ++ two) - 2
        two_less is = omega (arith, is)

        before : take (length (written ++ entry.Garbled side bytes ∷ []) - 2) (written ++ entry.Garbled side bytes ∷ []) ≡ past
        before =
            ap (λ (l : List Entry). take (length l - 2) l) (append_assoc past (entry.Written side text ∷ []) (entry.Garbled side bytes ∷ []))
            ∙ take_at past two (length (past ++ two) - 2) (two_less (length-append past two))

    marks_stand : (mark : Mark) → EachAfter MayTell written (told_by side way.bytes mark text)
    marks_stand Free = by (fits way.bytes text) refl
      where
        by : (b : Bool) → fits way.bytes text ≡ b → EachAfter MayTell written (if b then [] else entry.Overrun side ∷ [])
        by true is = tt
        by false is = (written_lacks is, tt)
    marks_stand Lost = (tt, tt)
    marks_stand (Changed garble) = (tt, by (fits way.bytes (garbled garble text)) refl)
      where
        by : (b : Bool) → fits way.bytes (garbled garble text) ≡ b → EachAfter MayTell (written ++ entry.Garbled side (garbled garble text) ∷ []) (if b then [] else entry.Overrun side ∷ [])
        by true is = tt
        by false is = (changed_lacks (garbled garble text) (length-set text _ _) is, tt)

    pub unit_stands : EachAfter MayTell past (told side way unit)
    unit_stands = (tt, marks_stand mark)

-- ---- what pipes hold

pub sum_more : (counts : List ℕ) (n : ℕ) → sum_of (counts ++ n ∷ []) ≡ sum_of counts + n
sum_more [] n = plus_none n
  where
    plus_none : (n : ℕ) → n + 0 ≡ 0 + n
    plus_none n = omega arith
sum_more (count ∷ counts) n = let more = sum_more counts n in omega (arith, more)

most_unit : (n : ℕ) (pipe : Pipe) → most (with_unit n pipe) ≡ most pipe + n
most_unit n pipe = by (n == 1) refl
  where
    by : (b : Bool) → (n == 1) ≡ b
        → most (if b then record pipe { answers = pipe.answers + 1; has_written = true } else record pipe { frames = pipe.frames ++ n ∷ []; has_written = true }) ≡ most pipe + n
    by true is = let one = eqb-true n 1 is in omega (arith, one)
    by false is = let more = sum_more pipe.frames n in omega (arith, more)

pub grown_most : (n : ℕ) (pipe pipe' : Pipe) (bytes bytes' : List ℕ) → Grown n pipe pipe' bytes bytes' → length bytes ≤ most pipe → length bytes' ≤ most pipe'
grown_most n pipe pipe' bytes bytes' (inl (is, same)) few = subst (λ (p : Pipe). length bytes' ≤ most p) (sym is) (omega (arith, same, few))
grown_most n pipe pipe' bytes bytes' (inr (is, more)) few =
    let held = most_unit n pipe in subst (λ (p : Pipe). length bytes' ≤ most p) (sym is) (omega (arith, more, few, held))

frame_unit : (n : ℕ) (pipe : Pipe) → (n == 1) ≡ false → sum_of (with_unit n pipe).frames ≡ sum_of pipe.frames + n
frame_unit n pipe long =
    ap (λ (b : Bool). sum_of (if b then record pipe { answers = pipe.answers + 1; has_written = true } else record pipe { frames = pipe.frames ++ n ∷ []; has_written = true }).frames) long
    ∙ sum_more pipe.frames n

pub grown_frames : (n : ℕ) (pipe pipe' : Pipe) (bytes bytes' : List ℕ) → (n == 1) ≡ false → Grown n pipe pipe' bytes bytes' → length bytes ≤ sum_of pipe.frames → length bytes' ≤ sum_of pipe'.frames
grown_frames n pipe pipe' bytes bytes' long (inl (is, same)) few = subst (λ (p : Pipe). length bytes' ≤ sum_of p.frames) (sym is) (omega (arith, same, few))
grown_frames n pipe pipe' bytes bytes' long (inr (is, more)) few =
    let held = frame_unit n pipe long in subst (λ (p : Pipe). length bytes' ≤ sum_of p.frames) (sym is) (omega (arith, more, few, held))

-- a data frame of the other side: what it has gone on after is gone, and all frames stay
pub long_answer : (n : ℕ) (pipe : Pipe) → (n == 1) ≡ false → with_answer n pipe ≡ pipe
long_answer n pipe long = ap (λ (b : Bool). if b then record pipe { frames = drop 1 pipe.frames } else pipe) long

pub gone_frames : (pipe : Pipe) → (gone_on pipe).frames ≡ pipe.frames
gone_frames pipe = by pipe.has_written
  where
    by : (b : Bool) → (if b then record pipe { answers = 0; older = 0 } else pipe).frames ≡ pipe.frames
    by true = refl
    by false = refl

pub gone_written : (pipe : Pipe) → (gone_on pipe).has_written ≡ pipe.has_written
gone_written pipe = by pipe.has_written
  where
    by : (b : Bool) → (if b then record pipe { answers = 0; older = 0 } else pipe).has_written ≡ pipe.has_written
    by true = refl
    by false = refl

pub gone_none : (pipe : Pipe) → pipe.has_written ≡ false → gone_on pipe ≡ pipe
gone_none pipe none = ap (λ (b : Bool). if b then record pipe { answers = 0; older = 0 } else pipe) none
