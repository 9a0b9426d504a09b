-- For which nodes the keeper has failed in a tick, by the transcript of a host alone and in the host (this project's own rule): where it has failed to keep that a session of a node begins, the host
-- does not try again before the node's next tick.
use Rattle.std.specs.Prelude.{◌≡◌, ◌≤◌, ℕ, true, false, List, []}
use Rattle.std.specs.List.{AllByRecursion}
use Rattle.zw_text.specs.declared.entry.Entry.{Entry}
use Rattle.law_transcript.specs.Lists.{shown_after}
use Rattle.law_transcript.specs.Restarts.{since_restart}
use Rattle.law_time.specs.Choice.{is_in_tick, unbegun_when, unkept_when}
use Rattle.law_time.specs.Judged.{last_of}
use Rattle.law_time.specs.Requests.{are_none}
use Rattle.host_node.specs.State.{NodeState}
use Rattle.host_model.specs.State.{node_of}
use Rattle.proof_giving.specs.proof_queue.proof_attempts.proof_requests.Walking.{Ground as RequestsGround}
use Rattle.proof_giving.specs.proof_queue.proof_attempts.proof_requests.proof_alone.Runs.{Knowledge, both_know}
use Rattle.proof_giving.specs.proof_queue.proof_attempts.Since.{TieOf, node_clock}
use Rattle.proof_giving.specs.proof_queue.proof_attempts.Waking.{KnowsWork}

-- of a node at its own time: where it is blocked the keeper has failed for it since its last tick, and where it is not no session of it was not kept
pub record BlockedSo (n : ℕ) (past : List Entry) (node : NodeState) (time : ℕ) : Type 0 where
  pub early : are_none (shown_after (unbegun_when n) [] (since_restart past)) ≡ false → AllByRecursion (λ tick. tick ≤ time) (last_of (shown_after (unbegun_when n) [] past))
  pub kept : node.blocked ≡ true → is_in_tick (unkept_when n) past time ≡ true
  pub free : node.blocked ≡ false → is_in_tick (unbegun_when n) past time ≡ false

abbrev pub BlocksAsTold : TieOf
BlocksAsTold here past h clock = (n : ℕ) → 1 ≤ n → n ≤ 232 → BlockedSo n past (node_of h n) (node_clock here clock n)

-- on what ground
abbrev pub BlockingGround : Knowledge
BlockingGround = both_know KnowsWork RequestsGround
