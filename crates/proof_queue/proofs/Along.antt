-- Along each careful run that goes by what is heeded what waits is known, and each entry may stand; and so it is of all of a transcript.
use Rattle.std.proofs.Common.{◌≡◌, ◌⊎◌, ◌≤◌, ℕ, true, false, inl, inr, List, [], ◌∷◌, ◌++◌, refl, sym, subst}
use Rattle.std.specs.Prelude.{Some}
use Rattle.std.proofs.lemmas.Bool.{both_ways}
use Rattle.s0_crypto.specs.declared.key_pair.Keys.{Keys}
use Rattle.zw_text.specs.declared.entry.Entry.{Entry}
use Rattle.zw_text.specs.Transcript.{line_last}
use Rattle.host_heard.specs.declared.told.Told.{Told}
use Rattle.law_transcript.specs.Lists.{EachAfter}
use Rattle.law_transcript.specs.Units.{Carried}
use Rattle.law_time.specs.Moments.{KeepsAfter}
use Rattle.law_time.specs.Queue.{may_queue}
use Rattle.proof_attempts.proofs.Lists.{each-append}
use Rattle.host_node.specs.State.{NodeState}
use Rattle.host_model.specs.State.{first_host, node_of}
use Rattle.proof_attempts.specs.proof_requests.law_host.Heard.{heeds_alone, is_refusal_of_others}
use Rattle.proof_attempts.specs.proof_requests.proof_alone.State.{HostMachine, first_alone}
use Rattle.proof_attempts.specs.proof_requests.proof_alone.Steps.{entries, happens}
use Rattle.proof_attempts.specs.proof_requests.proof_alone.Phases.{Phase, Resting}
use Rattle.proof_attempts.specs.proof_requests.proof_alone.Runs.{Run, both_know}
use Rattle.proof_attempts.specs.proof_requests.proof_alone.Runs.Run.{Begins, Turned, Stepped}
use Rattle.proof_attempts.specs.proof_requests.proof_alone.Careful.{Careful, Looked, stage_after, stage_of}
use Rattle.proof_attempts.specs.proof_requests.Walking.{Ground, KnowsAsked}
use Rattle.proof_attempts.proofs.Queued.{PayloadsBring}
use Rattle.proof_known.specs.Known.{IsForHost}
use Rattle.proof_queue.specs.Waiting.{Fits}
use Rattle.proof_queue.specs.Heeding.{AllSteps, HeedsSo}
use Rattle.proof_queue.specs.Turn.{may_go}
use Rattle.proof_queue.specs.Sleeping.{is_dropped}
use Rattle.proof_queue.proofs.Dropping.{dropped_awake}
use Rattle.proof_queue.proofs.Knowing.{Grounds, Know}
use Rattle.proof_queue.proofs.Pace.{Paced, pace_step, pace_turn}
use Rattle.proof_queue.proofs.Seeing.{Sights, View, view}
use Rattle.proof_queue.proofs.Ties.{Stand}
use Rattle.proof_queue.proofs.Walking.{step_goes, turn_goes}

-- at which stage it is
pub first_pace : (keys : Keys) → Paced Resting Looked [] (first_alone keys (Some []))
first_pace keys = record { at_once = refl; left = λ reads. refl; first = inl refl; at = tt }

module _ (start : HostMachine) (asks : (here : Phase) (told : List Entry) (m : HostMachine) → Run start here told m → both_know Ground KnowsAsked here told m) (first : Paced Resting Looked [] start) where
  pub paced : {here : Phase} {told : List Entry} {m : HostMachine} → (run : Run start here told m) → Careful run → Paced here (stage_of run) told m
  paced Begins careful = first
  paced {here = next} {told = told} {m = m} (Turned {here = here} turns run) careful = pace_turn here next (stage_of run) told m turns careful.1 (paced run careful.0)
  paced {here = next} {m = later} (Stepped {here = here} {told = told} {m = m} step may all_is later_is run) careful =
      subst (λ (l : List Entry). Paced next (stage_after (stage_of run) step) l later) (sym all_is)
      (subst (λ (n : HostMachine). Paced next (stage_after (stage_of run) step) (told ++ entries m step) n) (sym later_is)
      (pace_step here next (stage_of run) told m step may careful.1.0 (asks here told m run) (paced run careful.0)))

pub first_waiting : (taken : List Entry → Carried → List Told) (keys : Keys) → Sights Resting [] (first_alone keys (Some [])) → Know taken Resting Looked [] (first_alone keys (Some []))
first_waiting taken keys sights = record { stands = record { wants_are = refl; owed_are = refl; dropped = λ n from to. sym (undropped n from to) }; answered = refl }
  where
    sees : View [] 0 (first_host keys) false
    sees = view Resting [] (first_alone keys (Some [])) tt sights

    undropped : (n : ℕ) → 1 ≤ n → n ≤ 232 → is_dropped (node_of (first_host keys) n).no_more ≡ false
    undropped n from to =
        let s : NodeState = node_of (first_host keys) n in dropped_awake s.no_more s.awake s.classes (sees.work.host.nodes.facts n).no_more (sym (sees.may.each n from to).awake)

module _ (taken : List Entry → Carried → List Told) (brings : PayloadsBring) (start : HostMachine)
    (asks : (here : Phase) (told : List Entry) (m : HostMachine) → Run start here told m → both_know Ground KnowsAsked here told m)
    (sights : (here : Phase) (told : List Entry) (m : HostMachine) → Run start here told m → Sights here told m) (pace : Paced Resting Looked [] start) (first : Know taken Resting Looked [] start) where
  pub along : {here : Phase} {told : List Entry} {m : HostMachine} → (run : Run start here told m) → Careful run → AllSteps (HeedsSo (heeds_alone taken)) run
      → Stand taken [] told × Know taken here (stage_of run) told m
  along Begins careful sure = (tt, first)
  along {here = next} {told = told} {m = m} (Turned {here = here} turns run) careful sure =
      let got = along run careful.0 sure in (got.0, turn_goes taken here next (stage_of run) told m turns (sights here told m run) got.1)
  along {here = next} {m = later} (Stepped {here = here} {told = told} {m = m} step may all_is later_is run) careful sure =
      let got = along run careful.0 sure.0 in
      let grounds : Grounds here (stage_of run) told m = record { asks = asks here told m run; sights = sights here told m run; pace = paced start asks pace run careful.0 } in
      let one = step_goes taken brings here next (stage_of run) told m step may careful.1.0 grounds
      (sights next (told ++ entries m step) (happens m step) (Stepped step may refl refl run)) sure.1 got.1 in
      subst (λ (l : List Entry). Stand taken [] l × Know taken next (stage_after (stage_of run) step) l later) (sym all_is) (
        each-append (Fits (heeds_alone taken)) [] told (entries m step) got.0 one.0,
        subst (λ (n : HostMachine). Know taken next (stage_after (stage_of run) step) (told ++ entries m step) n) (sym later_is) one.1,
      )

-- where no line is refused that is for others, all may stand
pub all_fit : (taken : List Entry → Carried → List Told) (past told : List Entry) → Stand taken past told → EachAfter IsForHost past told → KeepsAfter past (may_queue (heeds_alone taken)) told
all_fit taken past [] each for_host = tt
all_fit taken past (e ∷ told) each for_host = (by each.0.queues, all_fit taken (past ++ e ∷ []) told each.1 for_host.1)
  where
    by : (is_refusal_of_others (line_last past) e ≡ true) ⊎ (may_queue (heeds_alone taken) past e ≡ true) → may_queue (heeds_alone taken) past e ≡ true
    by (inl others) = absurd (both_ways (is_refusal_of_others (line_last past) e) for_host.0 others)
    by (inr fits) = fits

-- and all go by the queue
pub all_go : (taken : List Entry → Carried → List Told) (past told : List Entry) → Stand taken past told → KeepsAfter past (may_go (heeds_alone taken)) told
all_go taken past [] each = tt
all_go taken past (e ∷ told) each = (each.0.goes, all_go taken (past ++ e ∷ []) told each.1)
