-- What is so where the host rests, before each line and tick, and in the end.
use Rattle.std.proofs.Common.{◌≡◌, false, true, List, []}
use Rattle.std.specs.Prelude.{Some}
use Rattle.s0_crypto.specs.declared.key_pair.Keys.{Keys}
use Rattle.zw_text.specs.declared.entry.Entry.{Entry}
use Rattle.host_heard.specs.declared.told.Told.{Told}
use Rattle.law_transcript.specs.Lists.{EachAfter}
use Rattle.law_transcript.specs.Units.{Carried}
use Rattle.law_time.specs.Heeds.{Heeds}
use Rattle.law_time.specs.Moments.{Allows}
use Rattle.law_time.specs.Rests.{is_rest, may_rest}
use Rattle.proof_giving.specs.proof_queue.proof_attempts.proof_requests.law_host.Heard.{heeds_alone}
use Rattle.proof_giving.specs.proof_queue.proof_attempts.proof_requests.proof_alone.State.{HostMachine, first_alone}
use Rattle.proof_giving.specs.proof_queue.proof_attempts.proof_requests.proof_alone.Phases.{Phase, Resting}
use Rattle.proof_giving.specs.proof_queue.proof_attempts.proof_requests.proof_alone.Careful.{Careful}
use Rattle.proof_giving.specs.proof_queue.proof_attempts.proof_requests.proof_alone.Runs.{Knowledge, Run, both_know}
use Rattle.proof_giving.specs.proof_queue.proof_attempts.proof_requests.proof_alone.Time.{TieClock}
use Rattle.proof_giving.specs.proof_queue.Heeding.{AllSteps, HeedsAs, HeedsSo}
use Rattle.proof_following.specs.proof_ends.proof_rests.Known.{KnowsAll as KnowsDone, WasSo}
use Rattle.proof_following.specs.proof_ends.proof_rests.Undone.{may_begin}
use Rattle.proof_following.proofs.AtRests.{before_line, rests_walk}
use Rattle.proof_choice.specs.Resting.{RestingGround, rests_with_none}
use Rattle.proof_choice.specs.Turning.{AllAlong, KnowsAll}
use Rattle.proof_choice.specs.Waits.{AskingGround}
use Rattle.proof_choice.proofs.Along.{both_along, every_along, known_last, so_along, told_along}
use Rattle.proof_choice.proofs.Resting.{clocks, holds, rests_may}
use Rattle.proof_choice.proofs.laws.hosts_rest_well.Goals as goal

module _ (c : goal.After-hosts_leave_nothing) (keys : Keys) (taken : List Entry → Carried → List Told) where
  abbrev heeds : Heeds
  heeds = heeds_alone taken

  abbrev start : HostMachine
  start = first_alone keys (Some [])

  abbrev Known : Knowledge
  Known = both_know (AskingGround heeds) (KnowsAll heeds)

  module _ (here : Phase) (told : List Entry) (m : HostMachine) (run : Run start here told m) (careful : Careful run) (sure : AllSteps (HeedsSo heeds) run) (as_told : AllSteps (HeedsAs heeds) run) where
    ground : AllAlong (RestingGround heeds) run
    ground =
        so_along start (both_know KnowsDone Known) (RestingGround heeds) (λ here told m all. (all.0, (all.1.0.1, all.1.1))) run
        (both_along start KnowsDone Known run (every_along start KnowsDone (c.hosts_leave_nothing.ensures.known keys) run) (c.hosts_know_what_they_choose.ensures keys taken here told m run careful sure as_told))

    holds_so : (past : List Entry) (m : HostMachine) → RestingGround heeds Resting past m → is_rest past m.clock ≡ true → rests_with_none heeds past m.clock ≡ true
    holds_so = let laws = c.attempts_grow_by_entries.ensures in holds laws.node laws.each laws.requests taken c.tasks_end_in_order.ensures.none

    clocks_so : (past : List Entry) (m : HostMachine) → RestingGround heeds Resting past m → TieClock past m
    clocks_so = let laws = c.attempts_grow_by_entries.ensures in clocks laws.node laws.each laws.requests taken c.tasks_end_in_order.ensures.none

    between : EachAfter (Allows (may_rest heeds)) [] told
    between =
        rests_may heeds [] told
        (told_along start (RestingGround heeds) (WasSo (rests_with_none heeds)) (Allows (may_begin (rests_with_none heeds))) (rests_walk (rests_with_none heeds) (RestingGround heeds) clocks_so holds_so)
        (λ awaits. absurd (let bad : false ≡ true = awaits in cc)) run ground).0

pub returns-clause-told : goal.returns-clause-told
returns-clause-told c = λ keys taken here told m run careful sure as_told.
    record { between = between c keys taken here told m run careful sure as_told; in_the_end = λ whole. absurd (let bad : false ≡ true = whole in cc) }

pub returns-clause-whole : goal.returns-clause-whole
returns-clause-whole c = λ keys taken told m run left careful sure as_told. record {
  between = between c keys taken Resting told m run careful sure as_told;
  in_the_end = λ whole.
      before_line (rests_with_none (heeds_alone taken)) (RestingGround (heeds_alone taken)) (clocks_so c keys taken Resting told m run careful sure as_told)
      (holds_so c keys taken Resting told m run careful sure as_told) told [] m left
      (known_last (first_alone keys (Some [])) (RestingGround (heeds_alone taken)) run (ground c keys taken Resting told m run careful sure as_told));
}
