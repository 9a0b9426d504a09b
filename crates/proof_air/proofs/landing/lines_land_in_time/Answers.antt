-- The walk of landings over the history of the air and over time; in the end, after whole lines, as before one more.
use Rattle.std.proofs.Common.{◌≡◌, Bool, true, false, List, [], ◌∷◌, refl}
use Rattle.zw_text.specs.declared.entry.Entry.{Entry}
use Rattle.zw_text.specs.declared.entry.Entry.TheVariants as entry
use Rattle.law_wire.specs.Arriving.{LandsInTime, MayLand}
use Rattle.law_wire.specs.Serial.{ended}
use Rattle.proof_walk.proofs.Lists.{each-append}
use Rattle.proof_walk.specs.world_model.State.{Machine, first_machine}
use Rattle.proof_walk.specs.world_lines.Spoken.{Spoken, after_all, transcript_of}
use Rattle.proof_walk.specs.world_lines.Done.{AreDone}
use Rattle.proof_walk.specs.world_lines.Whole.{AreWhole}
use Rattle.proof_walk.specs.Phases.{Phase, Between}
use Rattle.proof_walk.specs.Time.{MayCount, KnowTime}
use Rattle.proof_walk.specs.Walk.{Walk, both_know}
use Rattle.proof_walk.proofs.Lines.{lines_lead, lines_stand}
use Rattle.proof_walk.proofs.Over.{over, beside}
use Rattle.proof_air.specs.Hearing.{MayHear, KnowAir}
use Rattle.proof_air.specs.Landing.{KnowLanding}
use Rattle.proof_air.proofs.LandingWalk.{landed_asked}
use Rattle.proof_air.proofs.landing.lines_land_in_time.Goals as goal

abbrev Know : Phase → List Entry → Machine → Type 0
Know = both_know (both_know KnowAir KnowTime) KnowLanding

lands : (walk : Walk MayLand Know) (m : Machine) (lines : List Spoken) (whole : Bool) → AreDone m lines → (whole ≡ true → AreWhole m lines) → Know Between [] m → LandsInTime (ended whole (transcript_of m lines))
lands walk m lines true are whole known =
    let got = lines_lead MayLand Know walk [] m lines are (whole refl) known in
    each-append MayLand [] (transcript_of m lines) (entry.Said [] ∷ []) got.0 (landed_asked (transcript_of m lines) (after_all m lines) got.1.0.1 got.1.1, tt)
lands walk m lines false are whole known = lines_stand MayLand Know walk [] m lines are known

pub returns : goal.returns
returns c = λ keys records devices lines whole are all.
    let ground : Walk MayCount (both_know KnowAir KnowTime)
    = over MayHear MayCount KnowAir KnowTime c.history_goes_on.ensures.walk (beside MayCount KnowAir KnowTime c.time_goes_on.ensures.walk) in
    lands (over MayCount MayLand (both_know KnowAir KnowTime) KnowLanding ground c.landings_go_on.ensures.walk) (first_machine keys records devices) lines whole are all
    ((c.history_goes_on.ensures.first keys records devices, c.time_goes_on.ensures.first keys records devices), c.landings_go_on.ensures.first keys records devices)
