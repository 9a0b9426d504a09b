-- What is so where a host rests is so before each line and each tick before which its last request is over.
use Rattle.std.proofs.Common.{◌≡◌, ℕ, ◌+◌, ◌-◌, ◌||◌, not, Bool, true, false, List, [], ◌∷◌, ◌++◌, refl, ap, ◌∙◌, subst, append-nil, arith}
use Rattle.std.specs.List.{AllByRecursion}
use Rattle.std.proofs.lemmas.Bool.{both_ways}
use Rattle.zw_base.proofs.Each.{all-weaker}
use Rattle.zw_text.specs.declared.entry.Entry.{Entry}
use Rattle.zw_text.specs.declared.entry.Entry.TheVariants as entry
use Rattle.zw_text.specs.Transcript.{lines_run}
use Rattle.host_model.specs.Outs.{answers, outs}
use Rattle.proof_nonces.specs.proof_work.law_transcript.Lists.{EachAfter}
use Rattle.proof_nonces.specs.proof_work.law_transcript.Restarts.{ticks_asked}
use Rattle.proof_nonces.specs.proof_work.law_time.Moments.{Allows}
use Rattle.proof_nonces.specs.proof_work.law_time.Rests.{is_rest}
use Rattle.proof_nonces.specs.proof_work.world_model.Events.{shown_values}
use Rattle.proof_nonces.specs.proof_attempts.proof_requests.proof_alone.State.{HostMachine}
use Rattle.proof_nonces.specs.proof_attempts.proof_requests.proof_alone.Steps.{Step, Tells, Comes, Misses, Says, Says_nothing, Asks, Refuses, Shows, Restarts, Begins_tick, Numbers, Judges, Does, entries, happens}
use Rattle.proof_nonces.specs.proof_attempts.proof_requests.proof_alone.Phases.{Phase, Resting, May}
use Rattle.proof_nonces.specs.proof_attempts.proof_requests.proof_alone.Runs.{Knowledge, WalkOver}
use Rattle.proof_nonces.specs.proof_attempts.proof_requests.proof_alone.Time.{TieClock}
use Rattle.proof_nonces.proofs.Events.{answers_are, event_notes}
use Rattle.proof_nonces.proofs.proof_alone_Apart.{missed_are, told_are}
use Rattle.proof_nonces.proofs.Late.{less}
use Rattle.proof_rests.specs.Undone.{may_begin, rests_so}
use Rattle.proof_rests.specs.Known.{WasSo}
use Rattle.proof_rests.proofs.Entries.{IsAside, IsLater, aside_later, answers_aside, item_aside, line_aside, line_later, note_later, others_aside}

module _ (so : List Entry → ℕ → Bool) where
  abbrev AllMay : List Entry → List Entry → Type 0
  AllMay past told = EachAfter (Allows (may_begin so)) past told

  may_later : (past : List Entry) (e : Entry) → IsLater e → may_begin so past e ≡ true
  may_later past (entry.Said words) later = absurd later
  may_later past (entry.Time tick) later = absurd later
  may_later past e later = refl

  all_later : (past told : List Entry) → AllByRecursion IsLater told → AllMay past told
  all_later past [] all = tt
  all_later past (e ∷ told) all = (may_later past e all.0, all_later (past ++ e ∷ []) told all.1)

  all_aside : (past told : List Entry) → AllByRecursion IsAside told → AllMay past told
  all_aside past told all = all_later past told (all-weaker IsAside IsLater aside_later told all)

  -- where no number is to be entered there is nothing to know of one, and while it is nothing else is
  numbered : (past : List Entry) (m : HostMachine) → m.awaits ≡ false → (m.awaits ≡ true → rests_so so past (entry.Time m.clock) ≡ true)
  numbered past m none awaits = absurd (both_ways m.awaits none awaits)

  still_so : (past told : List Entry) (clock : ℕ) → told ≡ [] → rests_so so past (entry.Time clock) ≡ true → rests_so so (past ++ told) (entry.Time clock) ≡ true
  still_so past told clock is known = ap (λ (l : List Entry). rests_so so l (entry.Time clock)) (ap (λ (l : List Entry). past ++ l) is ∙ append-nil past) ∙ known

  module _ (Ground : Knowledge) (clocks : (past : List Entry) (m : HostMachine) → Ground Resting past m → TieClock past m)
      (holds : (past : List Entry) (m : HostMachine) → Ground Resting past m → is_rest past m.clock ≡ true → so past m.clock ≡ true) where
    at_rest : (past : List Entry) (m : HostMachine) → Ground Resting past m → (not (is_rest past m.clock) || so past m.clock) ≡ true
    at_rest past m ground = by (is_rest past m.clock) refl
      where
        by : (b : Bool) → is_rest past m.clock ≡ b → (not b || so past m.clock) ≡ true
        by true is = holds past m ground is
        by false is = refl

    -- before a line, and before the next tick
    pub before_line : (past : List Entry) (words : List ℕ) (m : HostMachine) → m.left ≡ 0 → Ground Resting past m → rests_so so past (entry.Said words) ≡ true
    before_line past words m none ground =
        let now : ticks_asked (lines_run past) ≡ m.clock = let all = (clocks past m ground).asked in omega (arith, all, none) in
        ap (λ (t : ℕ). not (is_rest past t) || so past t) now ∙ at_rest past m ground

    before_tick : (past : List Entry) (m : HostMachine) → Ground Resting past m → rests_so so past (entry.Time (m.clock + 1)) ≡ true
    before_tick past m ground = ap (λ (t : ℕ). not (is_rest past t) || so past t) (less m.clock) ∙ at_rest past m ground

    abbrev Leads : Phase → List Entry → HostMachine → Step → Type 0
    Leads next past m one = AllMay past (entries m one) × WasSo so next (past ++ entries m one) (happens m one)

    step_goes : (here next : Phase) (past : List Entry) (m : HostMachine) (one : Step) → May here m one next → Ground here past m → WasSo so here past m → Leads next past m one
    step_goes here next past m (Tells e) may ground known = (all_aside past (e ∷ []) (others_aside e may.1, tt), numbered (past ++ e ∷ []) m may.2)
    step_goes here next past m (Comes unit) may ground known = ((refl, tt), numbered (past ++ entries m (Comes unit)) (happens m (Comes unit)) may.1)
    step_goes here next past m (Misses text marks) may ground known =
        (all_aside past (entries m (Misses text marks)) (tt, missed_are IsAside line_aside marks may.1), numbered (past ++ entries m (Misses text marks)) m may.2)
    step_goes here next past m (Says words line) may ground known =
        ((before_line past words m may.1 (subst (λ (p : Phase). Ground p past m) may.0 ground), tt), numbered (past ++ entry.Said words ∷ []) (happens m (Says words line)) refl)
    step_goes here next past m (Says_nothing words) may ground known =
        ((before_line past words m may.1 (subst (λ (p : Phase). Ground p past m) may.0 ground), tt), numbered (past ++ entry.Said words ∷ []) (happens m (Says_nothing words)) refl)
    step_goes here next past m (Asks event) (line, here_is, asked, may, told_numbered, to_is) ground known =
        (all_aside past (answers m.state event) (answers_are IsAside answers_aside m.state event), λ awaits. still_so past (answers m.state event) m.clock (told_numbered awaits) (known awaits))
    step_goes here next past m (Refuses refusal) (line, here_is, why, unnumbered, to_is) ground known = ((refl, tt), numbered (past ++ entry.Refused refusal ∷ []) m unnumbered)
    step_goes here next past m (Shows node) may ground known = ((refl, tt), numbered (past ++ shown_values m.state node ∷ []) m may.1)
    step_goes here next past m (Restarts state) may ground known = (tt, λ awaits. still_so past [] m.clock refl (known awaits))
    step_goes here next past m (Begins_tick left) may ground known =
        (tt, λ awaits. still_so past [] (m.clock + 1) refl (before_tick past m (subst (λ (p : Phase). Ground p past m) may.0 ground)))
    step_goes here next past m Numbers may ground known = ((known may.0, tt), numbered (past ++ entry.Time m.clock ∷ []) (happens m Numbers) refl)
    step_goes here next past m (Judges item rest behind told) may ground known =
        (all_aside past told (item_aside item told may.1.told_so), λ awaits. still_so past told m.clock (may.1.numbered awaits) (known awaits))
    step_goes here next past m (Does event told) may ground known = (
      all_later past told (told_are IsLater line_later note_later (outs m.state event) told (event_notes m.state event) may.2),
      λ awaits. still_so past told m.clock (may.3 awaits) (known awaits),
    )

    pub rests_walk : WalkOver Ground (λ past e. Unit {0}) (Allows (may_begin so)) (WasSo so)
    rests_walk = record {
      step = λ here next past m one may ground stand known. step_goes here next past m one may ground known;
      turn = λ here next past m turns ground known. known;
    }
