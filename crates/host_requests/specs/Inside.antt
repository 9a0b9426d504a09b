-- What the fields say, and what is true of them.
use Rattle.std.specs.Prelude.{◌≤◌, All}
use Rattle.std.specs.VecDeque.{deque_len, deque_capacity}
use Rattle.host_requests.specs.Frames.{HasPayload}
use Rattle.host_requests.specs.State.{RequestsState}
use Rattle.host_requests.specs.declared.requests.Requests.TheInside.{Inside}

abbrev pub state_of : Inside → RequestsState
state_of r = record { under_way = r.under_way; owes = r.owes; queue = r.queue.items; last_id = r.last_id; first = r.first }

-- there is room for 64 tasks, no more wait, and none that waits has an empty payload
pub record IsInside (r : Inside) : Type 0 where
  pub room : 64 ≤ deque_capacity r.queue
  pub few : deque_len r.queue ≤ 64
  pub payloads : All HasPayload r.queue.items
