-- The marks of the transcript are those of the pipes over all lines; in the end, after whole lines, none is to stand next.
use Rattle.std.proofs.Common.{◌≡◌, Bool, true, false, List, [], ◌∷◌, refl, sym, subst}
use Rattle.zw_text.specs.declared.entry.Entry.{Entry}
use Rattle.zw_text.specs.declared.entry.Entry.TheVariants.{Said}
use Rattle.law_wire.specs.Marks.{IsMarked, MarksUnits, to_stand}
use Rattle.law_wire.specs.Serial.{ended}
use Rattle.proof_walk.proofs.Lists.{each-append}
use Rattle.proof_walk.specs.world_model.State.{Machine, first_machine}
use Rattle.proof_walk.specs.world_lines.Spoken.{Spoken, transcript_of}
use Rattle.proof_walk.specs.world_lines.Done.{AreDone}
use Rattle.proof_walk.specs.world_lines.Whole.{AreWhole}
use Rattle.proof_walk.specs.Phases.{Between}
use Rattle.proof_walk.specs.Walk.{Walk}
use Rattle.proof_walk.proofs.Lines.{lines_lead, lines_stand}
use Rattle.proof_line.specs.Marks.{KnowMarks, MayMark}
use Rattle.proof_line.proofs.marks.lines_mark_units.Goals as goal

in_end : (due : List Entry) → due ≡ [] → IsMarked due (Said [])
in_end due none = subst (λ (l : List Entry). IsMarked l (Said [])) (sym none) tt

marks : (walk : Walk MayMark KnowMarks) (m : Machine) (lines : List Spoken) (whole : Bool) → AreDone m lines → (whole ≡ true → AreWhole m lines) → KnowMarks Between [] m
    → MarksUnits (ended whole (transcript_of m lines))
marks walk m lines true are whole known =
    let got = lines_lead MayMark KnowMarks walk [] m lines are (whole refl) known in
    each-append MayMark [] (transcript_of m lines) (Said [] ∷ []) got.0 (in_end (to_stand (transcript_of m lines)) got.1.0.1, tt)
marks walk m lines false are whole known = lines_stand MayMark KnowMarks walk [] m lines are known

pub returns : goal.returns
returns c = λ keys records devices lines whole are all.
    marks c.marks_go_on.ensures.walk (first_machine keys records devices) lines whole are all (c.marks_go_on.ensures.first keys records devices)
