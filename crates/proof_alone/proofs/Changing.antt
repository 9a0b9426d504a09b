-- Each change that waits for a frame changes it, since lines ask for no other.
use Rattle.std.proofs.Common.{◌≡◌, ◌≤◌, ℕ, ◌+◌, ◌-◌, ◌==◌, Bool, true, false, if◌then◌else◌, List, [], ◌∷◌, ◌++◌, map, drop, refl, subst, arith}
use Rattle.std.specs.Prelude.{Option, Some, None, Result, Ok, Err}
use Rattle.std.specs.List.{AllByRecursion}
use Rattle.std.proofs.lemmas.Bool.{eqb-true}
use Rattle.zw_base.proofs.Each.{all-append}
use Rattle.serial_pipes.specs.State.{WayState}
use Rattle.serial_pipes.specs.declared.marks.Garble.{Garble}
use Rattle.zw_words.specs.declared.fault.LineFault.{LineFault}
use Rattle.zw_words.specs.declared.side.Side.{Side}
use Rattle.zw_words.specs.declared.side.Side.TheVariants.{Chip}
use Rattle.zw_text.specs.Line.{LineText, line_at}
use Rattle.zw_text.specs.declared.line.Line.{Line}
use Rattle.zw_text.specs.declared.line.Line.TheVariants as lines
use Rattle.zw_text.specs.declared.entry.Entry.{Entry}
use Rattle.zw_text.specs.declared.entry.Entry.TheVariants as entry
use Rattle.zw_text.specs.Transcript.{folded, line_of, read_as, same_side}
use Rattle.zw_text.proofs.TextLaws.{line_takes}
use Rattle.law_host.specs.law_wire.Marks.{Changing, Marks, marks_by, marks_of, marks_step}
use Rattle.proof_line.specs.Marks.{changing_of, marks_at}
use Rattle.proof_alone.proofs.Coming.{AllChange}

abbrev Changes : List Changing → Type 0
Changes changes = AllByRecursion (λ change. (change.xor == 0) ≡ false) changes

-- ---- a line

not_none : (xor : ℕ) → 1 ≤ xor → (xor == 0) ≡ false
not_none xor some = by (xor == 0) refl
  where
    by : (b : Bool) → (xor == 0) ≡ b → b ≡ false
    by true is = absurd (let none = eqb-true xor 0 is in omega (arith, none, some))
    by false is = refl

by_text : (words : List ℕ) (on : Side) (place xor : ℕ) (more : List Line) (read : Result (Option Line) LineFault) → line_at words ≡ read → read_as read ≡ lines.Garble on place xor ∷ more
    → (xor == 0) ≡ false
by_text words on place xor more (Ok (Some line)) is are =
    let same : line ≡ lines.Garble on place xor = cc in
    let text : LineText words (lines.Garble on place xor) = line_takes words (Some (lines.Garble on place xor)) (subst (λ (l : Line). line_at words ≡ Ok (Some l)) same is) in
    not_none xor text.stands.1.0
by_text words on place xor more (Ok None) is are = absurd (let bad : [] ≡ lines.Garble on place xor ∷ more = are in cc)
by_text words on place xor more (Err fault) is are = absurd (let bad : [] ≡ lines.Garble on place xor ∷ more = are in cc)

one_more : (b : Bool) (marks : Marks) (change : Changing) → (change.xor == 0) ≡ false → Changes marks.changes
    → Changes (if b then record marks { changes = marks.changes ++ change ∷ [] } else marks).changes
one_more true marks change other all = all-append (λ one. (one.xor == 0) ≡ false) marks.changes (change ∷ []) all (other, tt)
one_more false marks change other all = all

same_drops : (b : Bool) (marks : Marks) (drops : ℕ) → Changes marks.changes → Changes (if b then record marks { drops = drops } else marks).changes
same_drops true marks drops all = all
same_drops false marks drops all = all

by_lines : (words : List ℕ) (marks : Marks) (ls : List Line) → line_of (entry.Said words) ≡ ls → Changes marks.changes → Changes (marks_by Chip marks ls).changes
by_lines words marks (lines.Drop on ∷ more) is all = same_drops (same_side Chip on) marks (marks.drops + 1) all
by_lines words marks (lines.Garble on place xor ∷ more) is all =
    one_more (same_side Chip on) marks (record { place = place; xor = xor }) (by_text words on place xor more (line_at words) refl is) all
by_lines words marks ls is all = all

-- ---- all entries

but_first : (changes : List Changing) → Changes changes → Changes (drop 1 changes)
but_first [] all = tt
but_first (change ∷ changes) all = all.1

used_up : (b : Bool) (marks : Marks) → Changes marks.changes → Changes (if b then record marks { changes = drop 1 marks.changes } else marks).changes
used_up true marks all = but_first marks.changes all
used_up false marks all = all

step_keeps : (marks : Marks) (e : Entry) → Changes marks.changes → Changes (marks_step Chip marks e).changes
step_keeps marks (entry.Said words) all = by_lines words marks (line_of (entry.Said words)) refl all
step_keeps marks (entry.Dropped on) all = same_drops (same_side Chip on) marks (marks.drops - 1) all
step_keeps marks (entry.Garbled on unit) all = used_up (same_side Chip on) marks all
step_keeps marks e all = all

all_keep : (past : List Entry) (marks : Marks) → Changes marks.changes → Changes (folded (marks_step Chip) marks past).changes
all_keep [] marks all = all
all_keep (e ∷ past) marks all = all_keep past (marks_step Chip marks e) (step_keeps marks e all)

-- ---- those of the pipe

of_pipe : (garbles : List Garble) → Changes (map changing_of garbles) → AllChange garbles
of_pipe [] all = tt
of_pipe (garble ∷ garbles) all = (all.0, of_pipe garbles all.1)

-- where they are those of the transcript
pub all_change : (past : List Entry) (w : WayState) → marks_of Chip past ≡ marks_at w → AllChange w.marks.garbles
all_change past w is =
    of_pipe w.marks.garbles (subst (λ (marks : Marks). Changes marks.changes) is (all_keep past (record { drops = 0; changes = [] }) tt))
