-- The end of a request touches neither requests nor line.
use Rattle.std.proofs.Common.{ℕ, Option, Some, None}
use Rattle.serial_link.specs.declared.turn.Turn.{Turn}
use Rattle.host_requests.specs.State.{RequestsState}
use Rattle.host_requests.specs.declared.end.End.{End}
use Rattle.host_requests.specs.declared.end.How.{How}
use Rattle.host_requests.specs.declared.task.Task.{Task}
use Rattle.host_requests.specs.declared.task.Task.TheVariants.{NoMore}
use Rattle.host_requests.specs.declared.task.Purpose.{Purpose}
use Rattle.host_requests.specs.declared.task.Purpose.TheVariants.{Housekeeping, Attempt, Abort}
use Rattle.host_node.specs.Steps.{attempt_end}
use Rattle.host_node.specs.Events.NodeEvent.{Ends_attempt as node_ends_attempt}
use Rattle.host_node.specs.declared.attempt.AttemptEnd.{AttemptEnd}
use Rattle.host_node.specs.declared.attempt.AttemptEnd.TheVariants.{NoneRan, Again, Unanswered}
use Rattle.host_node.specs.declared.attempt.Moment.{Moment}
use Rattle.proof_walk.specs.host_model.State.{HostState, node_of}
use Rattle.proof_walk.specs.host_model.Sessions.{open_command}
use Rattle.proof_walk.specs.host_model.Ends.{PartEnd, Good, Passed_over, Bad, part_end, after_part, after_task, after_end, after_end_if, attempt_ended, unanswered}
use Rattle.proof_walk.specs.host_model.After.{node_does}

module _ (P : RequestsState → Turn → Type 0) where
  abbrev Has : HostState → Type 0
  Has h = P h.requests h.side.turn

  unanswered_same : (h : HostState) (command : Option ℕ) → Has h → Has (unanswered h command)
  unanswered_same h None w = w
  unanswered_same h (Some command) w = w

  pub attempt_same : (h : HostState) (end : AttemptEnd) (command : Option ℕ) → Has h → Has (attempt_ended h end command)
  attempt_same h NoneRan command w = w
  attempt_same h Again command w = w
  attempt_same h (Unanswered fell) command w = unanswered_same h command w

  part_same : (h : HostState) (n : ℕ) (end : PartEnd) (moment : Moment) → Has h → Has (after_part h n end moment)
  part_same h n Good moment w = w
  part_same h n Passed_over moment w = w
  part_same h n Bad moment w = attempt_same (node_does h n (node_ends_attempt moment)) (attempt_end (node_of h n)) (open_command (node_of h n)) w

  task_same : (h : HostState) (task : Task) → Has h → Has (after_task h task)
  task_same h (NoMore n) w = w
  task_same h task w = w

  end_same : (h : HostState) (purpose : Purpose) (how : How) (moment : Moment) → Has h → Has (after_end h (record { purpose = purpose; how = how }) moment)
  end_same h (Attempt n more payload) how moment w = part_same h n (part_end more how) moment w
  end_same h (Housekeeping task) how moment w = task_same h task w
  end_same h Abort how moment w = w

  pub end_if_same : (h : HostState) (end : Option End) (moment : Moment) → Has h → Has (after_end_if h end moment)
  end_if_same h None moment w = w
  end_if_same h (Some end) moment w = end_same h end.purpose end.how moment w
