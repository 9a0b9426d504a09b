-- What is known of a host alone where it may submit a request, and where it rests (this project's own rule): of each node, which node it served last, what waits, and that each node for which it has
-- work joined.
use Rattle.std.specs.Prelude.{◌≡◌, ◌≤◌, ◌==◌, ℕ, true, List, []}
use Rattle.std.specs.List.{AllByRecursion, list_any}
use Rattle.zw_text.specs.declared.entry.Entry.{Entry}
use Rattle.zw_text.specs.Transcript.{joined}
use Rattle.law_time.specs.Heeds.{Heeds}
use Rattle.host_node.specs.State.{has_work}
use Rattle.host_model.specs.State.{node_of}
use Rattle.proof_giving.specs.proof_queue.proof_attempts.proof_requests.proof_alone.State.{HostMachine}
use Rattle.proof_giving.specs.proof_queue.proof_attempts.proof_requests.proof_alone.Phases.{Phase, Resting, Submitting}
use Rattle.proof_giving.specs.proof_queue.proof_attempts.proof_requests.proof_alone.Runs.{Knowledge, Run, both_know}
use Rattle.proof_giving.specs.proof_queue.proof_attempts.proof_requests.proof_alone.Runs.Run.{Begins, Turned, Stepped}
use Rattle.proof_giving.specs.proof_queue.proof_attempts.Waking.{KnowsWork}
use Rattle.proof_choice.specs.Nodes.{NodeKnown}
use Rattle.proof_choice.specs.Served.{served_so_far}
use Rattle.proof_choice.specs.Waits.{AskingGround}
use Rattle.chip_functions.specs.Field.{IsNode}

pub record AllKnown (heeds : Heeds) (past : List Entry) (m : HostMachine) : Type 0 where
  pub nodes : (n : ℕ) → 1 ≤ n → n ≤ 232 → NodeKnown heeds past m.state m.clock n
  pub served : served_so_far heeds past ≡ m.state.served
  pub range : AllByRecursion IsNode (joined past)
  pub owners : (n : ℕ) → has_work (node_of m.state n) ≡ true → list_any (λ one. one == n) (joined past) ≡ true

abbrev pub KnowsAll : Heeds → Knowledge
KnowsAll heeds Submitting past m = AllKnown heeds past m
KnowsAll heeds Resting past m = AllKnown heeds past m
KnowsAll heeds here past m = Unit {0}

-- on what ground
abbrev pub ChoosingGround : Heeds → Knowledge
ChoosingGround heeds = both_know (both_know KnowsWork (AskingGround heeds)) (KnowsAll heeds)

-- at each step of a run this is known
abbrev pub AllAlong : Knowledge → {start : HostMachine} {here : Phase} {told : List Entry} {m : HostMachine} → Run start here told m → Type 0
AllAlong Know {start = start} Begins = Know Resting [] start
AllAlong Know {here = next} {told = told} {m = m} (Turned turns run) = AllAlong Know run × Know next told m
AllAlong Know {here = next} {told = all} {m = later} (Stepped step may all_is later_is run) = AllAlong Know run × Know next all later
