-- What the host keeps of its requests (this project's own rules on the Serial API).
use Rattle.std.specs.Prelude.{ℕ, ◌+◌, ◌%◌, ◌==◌, if◌then◌else◌, Bool, false, Option, Some, None, List, []}
use Rattle.chip_functions.specs.declared.function.TheConstants.{SEND_DATA}
use Rattle.host_requests.specs.Frames.{function_of}
use Rattle.host_requests.specs.declared.task.Task.{Task}
use Rattle.host_requests.specs.declared.task.Purpose.{Purpose}
use Rattle.host_requests.specs.declared.under_way.UnderWay.{UnderWay}
use Rattle.host_requests.specs.declared.under_way.Progress.TheVariants.{Submitted}

-- the request under way, whether an abort is owed, the tasks that wait, the callback id given last (0 where none was),
-- and the capability byte that the first request of an interview has brought
pub record RequestsState : Type 0 where
  pub under_way : Option UnderWay
  pub owes : Bool
  pub queue : List Task
  pub last_id : ℕ
  pub first : Option ℕ

-- at the beginning
abbrev pub no_requests : RequestsState
no_requests = record { under_way = None; owes = false; queue = []; last_id = 0; first = None }

-- callback ids are 1 to 255, and then 1 again
abbrev pub next_id : ℕ → ℕ
next_id last = last % 255 + 1

-- the callback id given last, once a request began: a SendData takes the next one
abbrev pub id_after : ℕ → Purpose → ℕ
id_after last purpose = if function_of purpose == SEND_DATA then next_id last else last

-- a request was submitted to the link
abbrev pub begun : RequestsState → Purpose → RequestsState
begun s purpose = record s { under_way = Some (record { purpose = purpose; progress = Submitted }); last_id = id_after s.last_id purpose }
