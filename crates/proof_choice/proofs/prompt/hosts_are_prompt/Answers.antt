-- All of it by the same messages.
use Rattle.std.proofs.Common.{◌≡◌, Bool, true, false, List, [], refl}
use Rattle.std.specs.Prelude.{Some}
use Rattle.s0_crypto.specs.declared.key_pair.Keys.{Keys}
use Rattle.zw_text.specs.declared.entry.Entry.{Entry}
use Rattle.host_heard.specs.declared.told.Told.{Told}
use Rattle.law_transcript.specs.Units.{Carried}
use Rattle.law_time.specs.Rests.{RestsWell}
use Rattle.law_time.specs.Unanswered.{GivesUpAfterThree}
use Rattle.proof_giving.specs.proof_queue.proof_attempts.proof_requests.law_host.Heard.{heeds_alone}
use Rattle.proof_giving.specs.proof_queue.proof_attempts.proof_requests.proof_alone.State.{HostMachine, first_alone}
use Rattle.proof_giving.specs.proof_queue.proof_attempts.proof_requests.proof_alone.Phases.{Phase, Resting}
use Rattle.proof_giving.specs.proof_queue.proof_attempts.proof_requests.proof_alone.Careful.{Careful}
use Rattle.proof_giving.specs.proof_queue.proof_attempts.proof_requests.proof_alone.Runs.{Run}
use Rattle.proof_giving.specs.proof_queue.Heeding.{AllSteps, HeedsAs, HeedsSo}
use Rattle.proof_choice.proofs.prompt.hosts_are_prompt.Goals as goal

module _ (c : goal.After-hosts_rest_well) (keys : Keys) (taken : List Entry → Carried → List Told) where
  abbrev start : HostMachine
  start = first_alone keys (Some [])

  record Ends (whole : Bool) (told : List Entry) : Type 0 where
    gives_up : GivesUpAfterThree whole (heeds_alone taken) told
    rests : RestsWell whole (heeds_alone taken) told

  ends_at : (here : Phase) → here ≡ Resting → (told : List Entry) (m : HostMachine) → m.left ≡ 0 → (run : Run start here told m) → Careful run → AllSteps (HeedsSo (heeds_alone taken)) run
      → AllSteps (HeedsAs (heeds_alone taken)) run → Ends true told
  ends_at Resting is told m left run careful sure as_told = record {
    gives_up = c.hosts_give_up_after_three.ensures.whole keys taken told m run careful sure as_told left;
    rests = c.hosts_rest_well.ensures.whole keys taken told m run left careful sure as_told;
  }
  ends_at here is told m left run careful sure as_told = absurd (let bad : here ≡ Resting = is in cc)

  ends : (whole : Bool) (here : Phase) (told : List Entry) (m : HostMachine) → (whole ≡ true → (here ≡ Resting) × (m.left ≡ 0)) → (run : Run start here told m) → Careful run
      → AllSteps (HeedsSo (heeds_alone taken)) run → AllSteps (HeedsAs (heeds_alone taken)) run → Ends whole told
  ends true here told m at run careful sure as_told = let there = at refl in ends_at here there.0 told m there.1 run careful sure as_told
  ends false here told m at run careful sure as_told = record {
    gives_up = c.hosts_give_up_after_three.ensures.told keys taken here told m run careful sure as_told;
    rests = c.hosts_rest_well.ensures.told keys taken here told m run careful sure as_told;
  }

pub returns : goal.returns
returns c = λ keys taken whole here told m run careful sure as_told at for_host one_by_one numbers begins.
    let all = ends c keys taken whole here told m at run careful sure as_told in
    record {
      fits = c.hosts_queue_as_told.ensures.fits keys taken here told m run careful sure for_host;
      turn = c.hosts_send_in_turn.ensures keys taken here told m run careful sure as_told;
      one_by_one = one_by_one;
      numbers = numbers;
      begins = begins;
      gives_up = all.gives_up;
      rests = all.rests;
    }
