use Rattle.std.proofs.Common.{◌≡◌, Bool, List, [], ◌∷◌, refl, subst, arith}
use Rattle.std.specs.Prelude.{codes}
use Rattle.serial_link.specs.Rules.{Step}
use Rattle.zw_words.specs.declared.side.Side.TheVariants.{Chip}
use Rattle.law_transcript.specs.Worked.{bytes, the_switch}
use Rattle.law_wire.specs.Asked.{course_of}
use Rattle.law_wire.specs.Answering.{IsNext, MayAnswer}
use Rattle.law_wire.specs.Links.{Moment, moments_of, joined, steps_in}
use Rattle.law_wire.specs.Serial.{serial_events}
use Rattle.law_wire.specs.WorkedMarks.{a_call}
use Rattle.law_wire.proofs.Computing.{reckoning}
use Rattle.law_wire.proofs.Beginnings.{first_is}
use Rattle.law_wire.proofs.NothingHeard.{answers_nothing}
use Rattle.law_wire.proofs.Parts.{fill, filled_same, all_texts, nothing_heard}
use Rattle.law_wire.proofs.links.rejected_service.Goals as goal

pub returns-clause-link : goal.returns-clause-link
unfolding reckoning
returns-clause-link c = λ law. answers_nothing law.link

pub returns-clause-collides : goal.returns-clause-collides
unfolding reckoning
returns-clause-collides c = λ law. omega (arith, law.collides.1.0)

pub returns-clause-airs : goal.returns-clause-airs
unfolding reckoning
returns-clause-airs c = λ law. law.airs.0.taken

pub returns-clause-drops : goal.returns-clause-drops
unfolding reckoning
returns-clause-drops c = λ law. omega (arith, law.drops.0)

pub returns-clause-answers : goal.returns-clause-answers
unfolding reckoning fill
returns-clause-answers c = λ law.
    let link = fill Chip (a_call ∷ []) law.link in
    let moments : List Moment = moments_of (serial_events (a_call ∷ [])) link.parts in
    let same : law.link.parts ≡ link.parts = filled_same 1 law.link.parts law.link.each in
    let unheard = nothing_heard Chip [] moments refl link.hears in
    let first = first_is (steps_in moments) link.obeys.0.0.turn _ link.obeys.0.1.answers link.obeys.0.1.turns unheard (all_texts Chip moments link.writes) in
    subst (λ (begins : Bool). IsNext begins (the_switch ∷ []) (course_of (joined link.parts)) [] (bytes (codes "010500130100E8"))) first
    (subst (λ (parts : List (List Step)). MayAnswer (the_switch ∷ []) (course_of (joined parts)) [] a_call) same law.answers.0)
