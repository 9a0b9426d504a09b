-- Steps with which a link that obeyed wrote nothing have passed nothing up: by its course they might as well not be.
use Rattle.std.proofs.Common.{◌≡◌, Bool, true, false, List, [], ◌∷◌, ◌++◌, map, refl, sym, ap, ap₂, ◌∙◌, subst, append-nil, append_assoc}
use Rattle.std.specs.List.{AllByRecursion, flat_map}
use Rattle.std.proofs.lemmas.Grind.{flat_map-append}
use Rattle.serial_frame.specs.Frame.{FrameParts}
use Rattle.serial_frame.specs.Items.{unit_text}
use Rattle.serial_frame.specs.declared.unit.Unit.{Unit as LineUnit}
use Rattle.serial_frame.specs.declared.unit.Unit.TheVariants.{Ack, Nak, Can, Framed}
use Rattle.serial_frame.specs.declared.item.Item.{Item}
use Rattle.serial_frame.specs.declared.item.Item.TheVariants.{Good, Refused}
use Rattle.serial_frame.specs.declared.item.Refusal.TheVariants.{Stray, BadLength, BadSum, BadKind, Aborted}
use Rattle.serial_link.specs.State.{Side as LinkSide, answer}
use Rattle.serial_link.specs.Rules.{Answers, Event, SideObeys, Step, answer_due, answers_of, asked, collides, heard, outs_of, submitted, ticked}
use Rattle.serial_link.specs.declared.out.LinkOut.{LinkOut}
use Rattle.serial_link.specs.declared.out.LinkOut.TheVariants.{Write, Got, Sent, Failed, Bad}
use Rattle.serial_link.proofs.Counting.{outs_of-append}
use Rattle.chip_sim.specs.Link.{link_unit, link_units}
use Rattle.law_wire.specs.Asked.{Course, course_of, is_first, passed_by}
use Rattle.law_wire.specs.Links.{text_of}
use Rattle.proof_line.specs.Links.{IsMute}
use Rattle.proof_line.proofs.LinkTold.{text_is}
use Rattle.proof_walk.proofs.Moving.{both_none as none_first}

-- ---- one step

-- what is passed up is part of an answer
passed_answers : (outs : List LinkOut) → flat_map passed_by outs ≡ flat_map passed_by (answers_of outs)
passed_answers [] = refl
passed_answers (Write Ack ∷ outs) = passed_answers outs
passed_answers (Write Nak ∷ outs) = passed_answers outs
passed_answers (Write Can ∷ outs) = passed_answers outs
passed_answers (Write (Framed f) ∷ outs) = passed_answers outs
passed_answers (Got f ∷ outs) = ap (λ (l : List FrameParts). f ∷ l) (passed_answers outs)
passed_answers (Sent ∷ outs) = passed_answers outs
passed_answers (Failed copies ∷ outs) = passed_answers outs
passed_answers (Bad refusal ∷ outs) = passed_answers outs

mute_answers : (outs : List LinkOut) → flat_map text_of outs ≡ [] → flat_map text_of (answers_of outs) ≡ []
mute_answers [] none = refl
mute_answers (Write unit ∷ outs) none = absurd cc
mute_answers (Got f ∷ outs) none = mute_answers outs none
mute_answers (Sent ∷ outs) none = mute_answers outs none
mute_answers (Failed copies ∷ outs) none = mute_answers outs none
mute_answers (Bad refusal ∷ outs) none = mute_answers outs none

-- an answer that writes nothing passes nothing up
answer_passes : (collision : Bool) (item : Item) → flat_map text_of (answer collision item) ≡ [] → flat_map passed_by (answer collision item) ≡ []
answer_passes collision (Good Ack) none = refl
answer_passes collision (Good Nak) none = refl
answer_passes collision (Good Can) none = refl
answer_passes true (Good (Framed f)) none = refl
answer_passes false (Good (Framed f)) none = absurd cc
answer_passes collision (Refused (Stray x)) none = refl
answer_passes collision (Refused (BadLength n)) none = refl
answer_passes collision (Refused (BadSum want got)) none = refl
answer_passes collision (Refused (BadKind x)) none = refl
answer_passes collision (Refused Aborted) none = refl

due_passes : (event : Event) (collision : Bool) → flat_map text_of (answer_due collision event) ≡ [] → flat_map passed_by (answer_due collision event) ≡ []
due_passes (heard item) collision none = answer_passes collision item none
due_passes ticked collision none = refl
due_passes (submitted f) collision none = refl
due_passes asked collision none = refl

-- and none of its units is a first copy
no_first : (event : Event) (out : LinkOut) → text_of out ≡ [] → is_first event out ≡ []
no_first (heard item) (Write unit) none = absurd cc
no_first (heard item) out none = refl
no_first ticked (Write unit) none = absurd cc
no_first ticked out none = refl
no_first (submitted f) (Write unit) none = absurd cc
no_first (submitted f) out none = refl
no_first asked (Write unit) none = absurd cc
no_first asked out none = refl

no_firsts : (event : Event) (outs : List LinkOut) → flat_map text_of outs ≡ [] → flat_map (is_first event) outs ≡ []
no_firsts event [] none = refl
no_firsts event (out ∷ outs) none =
    let both = none_first (text_of out) (flat_map text_of outs) none in
    ap₂ (λ (a b : List Bool). a ++ b) (no_first event out both.0) (no_firsts event outs both.1)

-- ---- all of them

answers_later : (past front later : List Step) → Answers past (front ++ later) → Answers (past ++ front) later
answers_later past [] later answers = subst (λ (l : List Step). Answers l later) (sym (append-nil past)) answers
answers_later past (step ∷ front) later answers =
    subst (λ (l : List Step). Answers l later) (append_assoc past (step ∷ []) front) (answers_later (past ++ step ∷ []) front later answers.1)

pass_none : (past steps : List Step) → Answers past steps → AllByRecursion IsMute steps → flat_map passed_by (outs_of steps) ≡ []
pass_none past [] answers mute = refl
pass_none past (step ∷ steps) answers mute =
    flat_map-append passed_by step.outs (outs_of steps) ∙ ap₂ (λ (a b : List FrameParts). a ++ b) one (pass_none (past ++ step ∷ []) steps answers.1 mute.1)
  where
    one : flat_map passed_by step.outs ≡ []
    one =
        passed_answers step.outs
        ∙ ap (λ (l : List LinkOut). flat_map passed_by l) answers.0
        ∙ due_passes step.event (collides past) (ap (λ (l : List LinkOut). flat_map text_of l) (sym answers.0) ∙ mute_answers step.outs mute.0)

first_none : (steps : List Step) → AllByRecursion IsMute steps → flat_map (λ (step : Step). flat_map (is_first step.event) step.outs) steps ≡ []
first_none [] mute = refl
first_none (step ∷ steps) mute = ap₂ (λ (a b : List Bool). a ++ b) (no_firsts step.event step.outs mute.0) (first_none steps mute.1)

pub course_mute : (front mute : List Step) (side : LinkSide) → SideObeys (front ++ mute) side → AllByRecursion IsMute mute → course_of (front ++ mute) ≡ course_of front
course_mute front mute side obeys quiet =
    ap₂ course
    (ap (λ (l : List LinkOut). flat_map passed_by l) (outs_of-append front mute)
    ∙ flat_map-append passed_by (outs_of front) (outs_of mute)
    ∙ ap (λ (l : List FrameParts). flat_map passed_by (outs_of front) ++ l) (pass_none front mute (answers_later [] front mute obeys.answers) quiet)
    ∙ append-nil (flat_map passed_by (outs_of front)))
    (flat_map-append (λ (step : Step). flat_map (is_first step.event) step.outs) front mute
    ∙ ap (λ (l : List Bool). flat_map (λ (step : Step). flat_map (is_first step.event) step.outs) front ++ l) (first_none mute quiet)
    ∙ append-nil (flat_map (λ (step : Step). flat_map (is_first step.event) step.outs) front))
  where
    course : List FrameParts → List Bool → Course
    course passed firsts = record { passed = passed; firsts = firsts }

-- steps by which no unit is written
pub mute_of : (steps : List Step) → link_units steps ≡ [] → AllByRecursion IsMute steps
mute_of [] none = tt
mute_of (step ∷ steps) none =
    let both = none_first (flat_map link_unit step.outs) (link_units steps) (sym (flat_map-append link_unit step.outs (outs_of steps)) ∙ none) in
    (text_is step.outs ∙ ap (λ (l : List LineUnit). map (λ (unit : LineUnit). unit_text unit) l) both.0, mute_of steps both.1)
