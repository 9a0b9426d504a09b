-- Each step gives up as it is told.
use Rattle.std.proofs.Common.{◌≡◌, true, List, [], sym, subst}
use Rattle.std.specs.Prelude.{Some}
use Rattle.s0_crypto.specs.declared.key_pair.Keys.{Keys}
use Rattle.zw_text.specs.declared.entry.Entry.{Entry}
use Rattle.host_heard.specs.declared.told.Told.{Told}
use Rattle.law_transcript.specs.Units.{Carried}
use Rattle.law_time.specs.Unanswered.{none_to_give_up}
use Rattle.proof_queue.specs.Heeding.{AllSteps, HeedsAs, HeedsSo}
use Rattle.proof_queue.specs.proof_attempts.proof_requests.law_host.Heard.{heeds_alone}
use Rattle.proof_queue.specs.proof_attempts.proof_requests.proof_alone.Careful.{Careful}
use Rattle.proof_queue.specs.proof_attempts.proof_requests.proof_alone.Phases.{Phase, Resting}
use Rattle.proof_queue.specs.proof_attempts.proof_requests.proof_alone.Runs.{Run}
use Rattle.proof_queue.specs.proof_attempts.proof_requests.proof_alone.State.{HostMachine, first_alone}
use Rattle.proof_giving.proofs.Given.{all_given}
use Rattle.proof_giving.proofs.Rested.{IsRest}
use Rattle.proof_giving.proofs.runs.hosts_give_up_as_told.Goals as goal

module _ (c : goal.After-hosts_rest_with_none_to_give_up) (keys : Keys) (taken : List Entry → Carried → List Told) where
  rests : (here : Phase) (told : List Entry) (m : HostMachine) → (run : Run (first_alone keys (Some [])) here told m) → Careful run → AllSteps (HeedsSo (heeds_alone taken)) run
      → AllSteps (HeedsAs (heeds_alone taken)) run → here ≡ Resting → none_to_give_up (heeds_alone taken) told m.clock ≡ true
  rests Resting told m run careful sure heeded is = c.hosts_rest_with_none_to_give_up.ensures.rests keys taken told m run careful sure heeded
  rests here told m run careful sure heeded is = absurd (subst IsRest (sym is) tt)

pub returns : goal.returns
returns c = λ keys taken here told m run careful sure heeded.
    all_given taken (first_alone keys (Some [])) (c.hosts_count_attempts.ensures.grounds keys taken) (c.hosts_count_attempts.ensures.known keys taken) (rests c keys taken)
    (c.hosts_rest_with_none_to_give_up.ensures.ticks keys taken) run careful sure heeded
