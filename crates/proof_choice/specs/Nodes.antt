-- What is known of a node of a host alone at a time (this project's own rule): its attempts, whether its series runs, its sessions, what it has still to give, and whether the keeper has failed for it.
use Rattle.std.specs.Prelude.{◌≡◌, ℕ, not, List}
use Rattle.zw_text.specs.declared.entry.Entry.{Entry}
use Rattle.law_transcript.specs.Commands.{waiting}
use Rattle.law_time.specs.Attempts.{attempt_is_over}
use Rattle.law_time.specs.Heeds.{Heeds}
use Rattle.law_time.specs.Requests.{asked}
use Rattle.law_time.specs.Sessions.{runs}
use Rattle.host_node.specs.State.{is_idle}
use Rattle.host_model.specs.State.{HostState, node_of}
use Rattle.proof_giving.specs.proof_queue.proof_attempts.Attempts.{is_over_by}
use Rattle.proof_giving.specs.proof_queue.proof_attempts.Series.{NodeAsTold}
use Rattle.proof_giving.specs.Stays.{ShowsSessions}
use Rattle.proof_giving.specs.Tie.{AttemptsSo, is_badly_over}
use Rattle.proof_giving.specs.Told.{attempts_so_far}
use Rattle.proof_choice.specs.Blocked.{BlockedSo}
use Rattle.proof_choice.specs.Plans.{PlanSo}
use Rattle.proof_choice.specs.Ready.{ReadySo}

pub record NodeKnown (heeds : Heeds) (past : List Entry) (h : HostState) (now n : ℕ) : Type 0 where
  pub attempts : AttemptsSo heeds n past h now now
  pub over : attempt_is_over heeds past (asked past) now (attempts_so_far heeds n past) ≡ is_over_by now (is_badly_over heeds n past h now) (attempts_so_far heeds n past)
  pub runs_so : runs n past now ≡ not (is_idle (node_of h n).series)
  pub told : NodeAsTold n past (node_of h n)
  pub waits : waiting n past ≡ (node_of h n).waiting
  pub shows : ShowsSessions heeds past h n
  pub plan : PlanSo h n
  pub ready : ReadySo (attempts_so_far heeds n past) (node_of h n)
  pub blocked : BlockedSo n past (node_of h n) now
