-- Which events a host does (this project's own rule): what lines ask for, what items of the chip and ticks tell, and what a pump chooses. `May` of `host_model` would also
-- let a line ask that a node be told that there is no more for it, and the requests begin, push or forget something without the rest of the host.
use Rattle.host_requests.specs.declared.task.Task.{Task}
use Rattle.host_requests.specs.declared.task.Task.TheVariants.{NoMore}
use Rattle.host_requests.specs.Events.{RequestsEvent}
use Rattle.host_requests.specs.Events.RequestsEvent.{IsSent, Fails, Responds, CallsBack, Updates, Ticks}
use Rattle.proof_walk.specs.host_model.Events.{HostEvent, Queues, Requests_do}

-- a task that a line may ask for: that there is no more for a node is told by the host of itself
abbrev pub IsAskedFor : Task → Type 0
IsAskedFor (NoMore n) = ⊥
IsAskedFor task = Unit {0}

-- what the line, the chip and the clock tell the requests
abbrev pub IsTold : RequestsEvent → Type 0
IsTold IsSent = Unit {0}
IsTold Fails = Unit {0}
IsTold (Responds response) = Unit {0}
IsTold (CallsBack id status) = Unit {0}
IsTold (Updates update) = Unit {0}
IsTold Ticks = Unit {0}
IsTold event = ⊥

abbrev pub IsDone : HostEvent → Type 0
IsDone (Queues task) = IsAskedFor task
IsDone (Requests_do event moment) = IsTold event
IsDone event = Unit {0}
