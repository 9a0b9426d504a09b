-- Each step gives up as it is told, and directly.
use Rattle.std.proofs.Common.{◌≡◌, ℕ, false, true, List, [], sym, ap, ◌∙◌, subst, arith}
use Rattle.std.specs.Prelude.{Some}
use Rattle.s0_crypto.specs.declared.key_pair.Keys.{Keys}
use Rattle.zw_text.specs.declared.entry.Entry.{Entry}
use Rattle.zw_text.specs.Transcript.{lines_run}
use Rattle.host_heard.specs.declared.told.Told.{Told}
use Rattle.law_transcript.specs.Restarts.{ticks_asked}
use Rattle.law_transcript.specs.Units.{Carried}
use Rattle.law_time.specs.Moments.{KeepsAfter}
use Rattle.law_time.specs.Unanswered.{may_give_up, none_to_give_up}
use Rattle.proof_queue.specs.Heeding.{AllSteps, HeedsAs, HeedsSo}
use Rattle.proof_queue.specs.proof_attempts.proof_requests.law_host.Heard.{heeds_alone}
use Rattle.proof_queue.specs.proof_attempts.proof_requests.proof_alone.Careful.{Careful}
use Rattle.proof_queue.specs.proof_attempts.proof_requests.proof_alone.Phases.{Phase, Resting}
use Rattle.proof_queue.specs.proof_attempts.proof_requests.proof_alone.Runs.{Run}
use Rattle.proof_queue.specs.proof_attempts.proof_requests.proof_alone.State.{HostMachine, first_alone}
use Rattle.proof_giving.proofs.Given.{step_given}
use Rattle.proof_giving.proofs.Promptly.{all_prompt}
use Rattle.proof_giving.proofs.Rested.{IsRest}
use Rattle.proof_giving.proofs.runs.hosts_give_up_after_three.Goals as goal

module _ (c : goal.After-hosts_rest_with_none_to_give_up) (keys : Keys) (taken : List Entry → Carried → List Told) where
  rests : (here : Phase) (told : List Entry) (m : HostMachine) → (run : Run (first_alone keys (Some [])) here told m) → Careful run → AllSteps (HeedsSo (heeds_alone taken)) run
      → AllSteps (HeedsAs (heeds_alone taken)) run → here ≡ Resting → none_to_give_up (heeds_alone taken) told m.clock ≡ true
  rests Resting told m run careful sure heeded is = c.hosts_rest_with_none_to_give_up.ensures.rests keys taken told m run careful sure heeded
  rests here told m run careful sure heeded is = absurd (subst IsRest (sym is) tt)

  between : (here : Phase) (told : List Entry) (m : HostMachine) → (run : Run (first_alone keys (Some [])) here told m) → Careful run → AllSteps (HeedsSo (heeds_alone taken)) run
      → AllSteps (HeedsAs (heeds_alone taken)) run → KeepsAfter [] (may_give_up (heeds_alone taken)) told
  between here told m run careful sure heeded =
      (all_prompt taken (first_alone keys (Some [])) (c.hosts_count_attempts.ensures.grounds keys taken) (c.hosts_count_attempts.ensures.known keys taken)
      (step_given taken (first_alone keys (Some [])) (c.hosts_count_attempts.ensures.grounds keys taken) (c.hosts_count_attempts.ensures.known keys taken) rests
      (c.hosts_rest_with_none_to_give_up.ensures.ticks keys taken)) run careful sure heeded).0

pub returns-clause-told : goal.returns-clause-told
returns-clause-told c = λ keys taken here told m run careful sure heeded. record {
  between = between c keys taken here told m run careful sure heeded;
  in_the_end = λ whole. absurd (let bad : false ≡ true = whole in cc);
}

pub returns-clause-whole : goal.returns-clause-whole
returns-clause-whole c = λ keys taken told m run careful sure heeded none. record {
  between = between c keys taken Resting told m run careful sure heeded;
  in_the_end = λ whole.
      let asked = (c.hosts_count_attempts.ensures.grounds keys taken Resting told m run).sleep.0.0.0.1.0.0.0.0.1.asked in
      let same : ticks_asked (lines_run told) ≡ m.clock = omega (arith, asked, none) in
      ap (λ (t : ℕ). none_to_give_up (heeds_alone taken) told t) same ∙ c.hosts_rest_with_none_to_give_up.ensures.rests keys taken told m run careful sure heeded;
}
