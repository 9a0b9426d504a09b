-- What lines asked for is counted along each run, and where it rests nothing is left.
use Rattle.std.proofs.Common.{◌≡◌, [], List, false, true, inl, refl}
use Rattle.std.specs.Prelude.{Some}
use Rattle.s0_crypto.specs.declared.key_pair.Keys.{Keys}
use Rattle.zw_text.specs.declared.entry.Entry.{Entry}
use Rattle.host_model.specs.State.{first_host}
use Rattle.proof_nonces.specs.proof_work.law_transcript.Lists.{EachAfter}
use Rattle.proof_nonces.specs.proof_work.law_time.Moments.{Allows}
use Rattle.proof_nonces.specs.proof_work.law_time.Rests.{is_unkept}
use Rattle.proof_nonces.specs.proof_attempts.Since.{AlongRuns}
use Rattle.proof_nonces.specs.proof_attempts.proof_requests.Ends.{KnowsEnds, TellsEnd}
use Rattle.proof_nonces.specs.proof_attempts.proof_requests.Walking.{Ground as RequestsGround, KnowsAsked}
use Rattle.proof_nonces.specs.proof_attempts.proof_requests.proof_alone.Phases.{Phase, Resting}
use Rattle.proof_nonces.specs.proof_attempts.proof_requests.proof_alone.Runs.{Run, both_know}
use Rattle.proof_nonces.specs.proof_attempts.proof_requests.proof_alone.Time.{TieClock}
use Rattle.proof_nonces.specs.proof_attempts.proof_requests.proof_alone.State.{HostMachine, first_alone}
use Rattle.proof_nonces.proofs.Lasting.{along, law_along}
use Rattle.proof_nonces.proofs.Running.{run_keeps}
use Rattle.proof_rests.specs.Undone.{is_done, may_begin}
use Rattle.proof_rests.specs.Known.{KnowsAll, KnowsDoing, KnowsErrands, KnowsInterviews, WasSo, an_errand, an_interview, no_excuse}
use Rattle.proof_rests.proofs.AtRests.{before_line, rests_walk}
use Rattle.proof_rests.proofs.Done.{done_at_rest}
use Rattle.proof_rests.proofs.Interviewing.{interviews_told, still_unkept}
use Rattle.proof_rests.proofs.Walking.{counts_walk, first_counted}
use Rattle.proof_rests.proofs.Wanted.{errands_wanted, interviews_wanted}
use Rattle.proof_rests.proofs.rests.hosts_leave_nothing.Goals as goal

module _ (c : goal.After-ends_of_tasks_are_told) (keys : Keys) where
  doing : AlongRuns keys KnowsDoing
  doing here told m run =
      let ends = (run_keeps TellsEnd (both_know (both_know RequestsGround KnowsAsked) KnowsEnds) c.hosts_tell_of_ends.ensures.walk [] run (c.hosts_tell_of_ends.ensures.first keys)).1 in
      (c.hosts_know_their_work.ensures keys here told m run, (c.hosts_ask_as_told.ensures.run keys here told m run, ends.1))

  errands_along : AlongRuns keys KnowsErrands
  errands_along here told m run n =
      along keys KnowsDoing _ doing
      (counts_walk (an_errand n) (errands_wanted n) no_excuse (λ since told none. none) c.tasks_end_in_order.ensures.each
      (λ here next past told m event may ground. inl (c.ends_of_tasks_are_told.ensures.errands n m.state event)))
      (first_counted (an_errand n) (errands_wanted n) no_excuse (λ since told none. none) c.tasks_end_in_order.ensures.each
      (λ here next past told m event may ground. inl (c.ends_of_tasks_are_told.ensures.errands n m.state event)) (first_host keys) refl) here told m run

  interviews_along : AlongRuns keys KnowsInterviews
  interviews_along here told m run n =
      along keys KnowsDoing _ doing
      (counts_walk (an_interview n) (interviews_wanted n) (is_unkept n) (still_unkept n) c.tasks_end_in_order.ensures.each (interviews_told c.ends_of_tasks_are_told.ensures.interviews n))
      (first_counted (an_interview n) (interviews_wanted n) (is_unkept n) (still_unkept n) c.tasks_end_in_order.ensures.each
      (interviews_told c.ends_of_tasks_are_told.ensures.interviews n) (first_host keys) refl) here told m run

  all_along : AlongRuns keys KnowsAll
  all_along here told m run = (doing here told m run, (errands_along here told m run, interviews_along here told m run))

  clocks : (past : List Entry) (m : HostMachine) → KnowsAll Resting past m → TieClock past m
  clocks past m ground = ground.0.0.0.0.1

  rests_along : (here : Phase) (told : List Entry) (m : HostMachine) → Run (first_alone keys (Some [])) here told m → EachAfter (Allows (may_begin is_done)) [] told × WasSo is_done here told m
  rests_along =
      law_along keys KnowsAll (WasSo is_done) all_along (Allows (may_begin is_done)) (rests_walk is_done KnowsAll clocks (done_at_rest c.tasks_end_in_order.ensures.none))
      (λ awaits. absurd (let bad : false ≡ true = awaits in cc))

pub returns-clause-known : goal.returns-clause-known
returns-clause-known c = λ keys. all_along c keys

pub returns-clause-told : goal.returns-clause-told
returns-clause-told c = λ keys told run.
    record { between = (rests_along c keys run.0 told run.1 run.2).0; in_the_end = λ whole. absurd (let bad : false ≡ true = whole in cc) }

pub returns-clause-whole : goal.returns-clause-whole
returns-clause-whole c = λ keys told m run left. record {
  between = (rests_along c keys Resting told m run).0;
  in_the_end = λ whole. before_line is_done KnowsAll (clocks c keys) (done_at_rest c.tasks_end_in_order.ensures.none) told [] m left (all_along c keys Resting told m run);
}
