-- A frame that the chip answers, as a whole: where it was given just what the transcript says, the laws of what it writes are kept, and it has been given just that again.
use Rattle.std.proofs.Common.{◌≡◌, ◌<◌, ◌≤◌, ◌⊎◌, ℕ, ◌+◌, Bool, true, false, List, [], ◌∷◌, ◌++◌, length, inl, inr, refl, sym, ap, ap₂, ◌∙◌, subst, append-nil, append_assoc, length-append, arith}
use Rattle.std.specs.Prelude.{Option, slice_index_or}
use Rattle.std.specs.List.{flat_map, AllByRecursion}
use Rattle.std.proofs.lemmas.List.{get_or-append-add}
use Rattle.zw_base.proofs.Each.{all-left, all-right}
use Rattle.serial_frame.specs.Frame.{FrameParts}
use Rattle.serial_frame.specs.declared.unit.Unit.TheVariants.{Framed}
use Rattle.serial_frame.specs.declared.item.Item.TheVariants.{Good}
use Rattle.serial_link.specs.State.{answer as answer_of}
use Rattle.serial_link.specs.Rules.{Step, heard as hears}
use Rattle.route_table.specs.declared.route.Route.{Route}
use Rattle.chip_sim.specs.State.{ChipState}
use Rattle.chip_sim.specs.Requests.{asked as asked_of, heard}
use Rattle.chip_sim.specs.Events.{ChipEvent, Judged, collides}
use Rattle.chip_sim.specs.Link.{link_steps}
use Rattle.chip_sim.specs.Rules.{begun_at, posts}
use Rattle.chip_sim.specs.declared.out.ChipOut.{ChipOut}
use Rattle.zw_words.specs.declared.side.Side.TheVariants.{Chip as by_chip}
use Rattle.zw_text.specs.declared.entry.Entry.{Entry}
use Rattle.zw_text.specs.declared.entry.Entry.TheVariants as entry
use Rattle.law_transcript.specs.Lists.{EachAfter}
use Rattle.law_wire.specs.Asked.{Course, course_of, is_ack, is_first}
use Rattle.law_wire.specs.Given.{Given, given, given_at}
use Rattle.law_wire.specs.Answering.{AreOf, MayAnswer, MayWait, begins_next, drops}
use Rattle.outside_model.specs.Devices.{State}
use Rattle.outside_model.specs.State.{OuterState, each}
use Rattle.outside_model.specs.Chip.{put_out}
use Rattle.proof_chip.specs.Serving.{GoesOn, HasGiven, Serves, as_given, frame_texts}
use Rattle.proof_chip.proofs.Airing.{answer}
use Rattle.proof_chip.proofs.Answered.{GivesNone, IsAnswered, answered_outs, answered_told, given_answered, has_more}
use Rattle.proof_chip.proofs.Growing.{start, told, told_drops}
use Rattle.proof_chip.proofs.Ordering.{event_answers, event_waits}
use Rattle.proof_chip.proofs.Posting.{Fate, Falls, Stays, fate_of}
use Rattle.proof_chip.proofs.Submitting.{as_many, firsts_both, firsts_of, submits}
use Rattle.proof_chip.proofs.Telling.{drops_later}

-- ---- where an entry of it stands

-- it is the answer, or stands behind it
abbrev StandsSo : List Entry → List Entry → Entry → List Entry → Type 0
StandsSo rest front one more =
    ((front ≡ []) × (one ≡ answer)) ⊎ ((before : List Entry) × (front ≡ answer ∷ before) × (rest ≡ before ++ one ∷ more))

stands : (rest front : List Entry) (one : Entry) (more : List Entry) → answer ∷ rest ≡ front ++ one ∷ more → StandsSo rest front one more
stands rest [] one more is = inl (refl, cc)
stands rest (first ∷ before) one more is = inr (before, ap (λ (e : Entry). e ∷ before) cc, cc)

module _ (devices : List State) (steps : List Step) (frames : List FrameParts) (past : List Entry) (o : OuterState) (f : FrameParts) (way : Option Route)
    (serves : Serves steps frames past o.chip.state.port) (later : Course) (goes : GoesOn (course_of (steps ++ link_steps o.chip.state (Judged (Good (Framed f)) way))) later)
    (free : collides o.chip.state ≡ false) where
  abbrev e : ChipEvent
  e = Judged (Good (Framed f)) way

  abbrev s : ChipState
  s = o.chip.state

  abbrev entered : List Entry
  entered = told steps frames past o e serves

  abbrev grown : List FrameParts
  grown = frames ++ posts s e

  pub is_answered : IsAnswered past entered
  is_answered =
      subst (λ (puts : List ChipOut). IsAnswered past (each put_out (start steps frames past o e serves) puts).entries) (sym (answered_outs s f way free))
      (answered_told past (start steps frames past o e serves) (asked_of f) (heard s (Good (Framed f))) way)

  -- ---- how many wait, where as many were given as the transcript says

  module _ (many : length (given devices later past) ≡ length frames) (reply : length (given_at devices later past answer) ≡ length (posts o.chip.state (Judged (Good (Framed f)) way))) where
    -- so many are given, by the transcript, once the answer stands
    many_front : (before rest : List Entry) → is_answered.rest ≡ before ++ rest → length (given devices later (past ++ answer ∷ before)) ≡ length frames + length (posts s e)
    many_front before rest is =
        ap (λ (l : List Given). length l) (given_answered devices later past before (all-left GivesNone before rest (subst (λ (l : List Entry). AllByRecursion GivesNone l) is is_answered.none)))
        ∙ (length-append (given devices later past) (given_at devices later past answer) ∙ ap₂ (λ (m n : ℕ). m + n) many reply)

    few : (front rest : List Entry) (unit : List ℕ) → entered ≡ front ++ entry.Written by_chip unit ∷ rest → is_ack unit ≡ true → length (given devices later (past ++ front)) ≤ length frames
    few front rest unit is ack = by (stands is_answered.rest front (entry.Written by_chip unit) rest (sym is_answered.is ∙ is))
      where
        by : StandsSo is_answered.rest front (entry.Written by_chip unit) rest → length (given devices later (past ++ front)) ≤ length frames
        by (inl (none, one)) =
            let same = ap (λ (l : List Entry). length (given devices later (past ++ l))) none ∙ ap (λ (l : List Entry). length (given devices later l)) (append-nil past) in
            omega (arith, same, many)
        by (inr (before, first, parts)) =
            let none = (all-right GivesNone before (entry.Written by_chip unit ∷ rest) (subst (λ (l : List Entry). AllByRecursion GivesNone l) parts is_answered.none)).0 in
            absurd (let no : true ≡ false = sym ack ∙ none in cc)

    more : (front rest : List Entry) → entered ≡ front ++ entry.ChipFull ∷ rest → length frames < length (given devices later (past ++ front))
    more front rest is = by (stands is_answered.rest front entry.ChipFull rest (sym is_answered.is ∙ is)) (fate_of s e)
      where
        by : StandsSo is_answered.rest front entry.ChipFull rest → Fate s e → length frames < length (given devices later (past ++ front))
        by (inl (none, one)) fate = absurd cc
        by (inr (before, first, parts)) (Stays keeps none) =
            absurd (let all = told_drops steps frames past o e serves ∙ ap (λ (l : List ChipOut). length l) none in
            let split = ap (λ (l : List Entry). drops l) is ∙ drops_later front (entry.ChipFull ∷ rest) in
            omega (arith, all, split))
        by (inr (before, first, parts)) (Falls g one full keeps falls) =
            let there = many_front before (entry.ChipFull ∷ rest) parts in
            let same = ap (λ (l : List Entry). length (given devices later (past ++ l))) first in
            let one_more = ap (λ (l : List FrameParts). length l) one in
            omega (arith, there, same, one_more)

    pub answered_waits : EachAfter (MayWait devices later) past entered
    answered_waits = event_waits devices steps frames past o e serves later goes few more

  -- ---- where just what the transcript says was given

  module _ (has : HasGiven devices later frames past) (reply : given_at devices later past answer ≡ as_given (posts o.chip.state (Judged (Good (Framed f)) way))) where
    -- what is given so far, by the transcript, once the answer stands
    given_front : (before rest : List Entry) → is_answered.rest ≡ before ++ rest → given devices later (past ++ answer ∷ before) ≡ given devices later past ++ as_given (posts s e)
    given_front before rest is =
        given_answered devices later past before (all-left GivesNone before rest (subst (λ (l : List Entry). AllByRecursion GivesNone l) is is_answered.none))
        ∙ ap (λ (l : List Given). given devices later past ++ l) reply

    has_front : (before rest : List Entry) → is_answered.rest ≡ before ++ rest → HasGiven devices later grown (past ++ answer ∷ before)
    has_front before rest is = has_more devices later frames (posts s e) past (past ++ answer ∷ before) (given_front before rest is) has

    -- the answer is no first copy
    steps_first : firsts_of (link_steps s e) ≡ false ∷ firsts_of (submits (begun_at s e))
    steps_first =
        firsts_both (hear_step ∷ []) (submits (begun_at s e))
        ∙ ap (λ (b : Bool). (flat_map (is_first (hears (Good (Framed f)))) (answer_of b (Good (Framed f)) ++ []) ++ []) ++ firsts_of (submits (begun_at s e))) free
      where
        hear_step : Step
        hear_step = record { event = hears (Good (Framed f)); outs = answer_of (collides s) (Good (Framed f)) ++ [] }

    not_first : begins_next later past ≡ false
    not_first =
        ap₂ (λ (l : List Bool) (at : ℕ). slice_index_or l at false) firsts_are (ap (λ (l : List (List ℕ)). length l) serves.units ∙ sym (as_many steps) ∙ plus_none (length (firsts_of steps)))
        ∙ get_or-append-add (firsts_of steps) ((false ∷ firsts_of (submits (begun_at s e))) ++ goes.flags) 0 false
      where
        plus_none : (n : ℕ) → n ≡ n + 0
        plus_none n = omega arith

        firsts_are : later.firsts ≡ firsts_of steps ++ ((false ∷ firsts_of (submits (begun_at s e))) ++ goes.flags)
        firsts_are =
            goes.firsts
            ∙ ap (λ (l : List Bool). l ++ goes.flags) (firsts_both steps (link_steps s e) ∙ ap (λ (l : List Bool). firsts_of steps ++ l) steps_first)
            ∙ append_assoc (firsts_of steps) (false ∷ firsts_of (submits (begun_at s e))) goes.flags

    -- what it writes is in order

    covers : (front rest : List Entry) → entered ≡ front ++ rest → begins_next later (past ++ front) ≡ true → AreOf devices (frame_texts grown) (given devices later (past ++ front))
    covers [] rest is begins = absurd (let none : true ≡ false = sym begins ∙ ap (λ (l : List Entry). begins_next later l) (append-nil past) ∙ not_first in cc)
    covers (first ∷ before) rest is begins =
        let whole : answer ∷ is_answered.rest ≡ first ∷ (before ++ rest) = sym is_answered.is ∙ is in
        let same : first ≡ answer = cc in
        let parts : is_answered.rest ≡ before ++ rest = cc in
        subst (λ (one : Entry). AreOf devices (frame_texts grown) (given devices later (past ++ one ∷ before))) (sym same) (has_front before rest parts).are

    pub answered_answers : EachAfter (MayAnswer devices later) past entered
    answered_answers = event_answers devices steps frames past o e serves later goes covers
