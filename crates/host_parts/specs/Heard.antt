-- What the request under way hears, as an event of the requests.
use Rattle.std.specs.Prelude.{ℕ, List}
use Rattle.host_requests.specs.Events.{RequestsEvent}
use Rattle.host_requests.specs.Events.RequestsEvent.{IsSent, Fails, Responds, CallsBack, Updates, Ticks}
use Rattle.host_parts.specs.Ending.{Lists}
use Rattle.host_parts.specs.declared.hearing.Heard.{Heard}
use Rattle.host_parts.specs.declared.hearing.Heard.TheVariants.{Sent, Failed, Responded, CalledBack, Updated, Ticked}

abbrev pub heard_as : Heard → RequestsEvent
heard_as Sent = IsSent
heard_as Failed = Fails
heard_as (Responded response) = Responds response
heard_as (CalledBack id status) = CallsBack id status
heard_as (Updated update) = Updates update
heard_as Ticked = Ticks

-- the nodes of a response that is heard are listed
abbrev pub ListsHeard : Heard → List ℕ → Type 0
ListsHeard (Responded response) list = Lists response list
ListsHeard heard list = Unit {0}
