-- Numbers of ticks stand as they may over all lines, on the ground of what is known of time; in the end, after whole lines, none stands last.
use Rattle.std.proofs.Common.{◌≡◌, Bool, true, false, List, [], ◌∷◌, refl}
use Rattle.zw_text.specs.declared.entry.Entry.{Entry}
use Rattle.zw_text.specs.declared.entry.Entry.TheVariants.{Said}
use Rattle.law_wire.specs.Serial.{ended}
use Rattle.law_wire.specs.Times.{MayBeTold, TellsTime}
use Rattle.proof_walk.proofs.Lists.{each-append}
use Rattle.proof_walk.specs.world_model.State.{Machine, first_machine}
use Rattle.proof_walk.specs.world_lines.Spoken.{Spoken, transcript_of}
use Rattle.proof_walk.specs.world_lines.Done.{AreDone}
use Rattle.proof_walk.specs.world_lines.Whole.{AreWhole}
use Rattle.proof_walk.specs.Phases.{Phase, Between}
use Rattle.proof_walk.specs.Time.{MayCount, KnowTime}
use Rattle.proof_walk.specs.Walk.{Walk, both_know}
use Rattle.proof_walk.proofs.Lines.{lines_lead, lines_stand}
use Rattle.proof_walk.proofs.Over.{over}
use Rattle.proof_line.specs.Times.{KnowNumbers}
use Rattle.proof_line.proofs.times.ticks_are_told.Goals as goal

abbrev Know : Phase → List Entry → Machine → Type 0
Know = both_know KnowTime KnowNumbers

told : (walk : Walk MayBeTold Know) (m : Machine) (lines : List Spoken) (whole : Bool) → AreDone m lines → (whole ≡ true → AreWhole m lines) → Know Between [] m
    → TellsTime (ended whole (transcript_of m lines))
told walk m lines true are whole known =
    let got = lines_lead MayBeTold Know walk [] m lines are (whole refl) known in
    each-append MayBeTold [] (transcript_of m lines) (Said [] ∷ []) got.0 (got.1.1.1, tt)
told walk m lines false are whole known = lines_stand MayBeTold Know walk [] m lines are known

pub returns : goal.returns
returns c = λ keys records devices lines whole are all.
    told (over MayCount MayBeTold KnowTime KnowNumbers c.time_goes_on.ensures.walk c.numbers_go_on.ensures.walk) (first_machine keys records devices) lines whole are all
    (c.time_goes_on.ensures.first keys records devices, c.numbers_go_on.ensures.first keys records devices)
