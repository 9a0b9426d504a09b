-- Where the frame of the request under way is (Serial API; this project's own rule): on the line, in one of its copies or a pause between two, exactly until it is acknowledged.
-- A frame may be on the line without a request: one whose callback came before its acknowledgement.
use Rattle.std.specs.Prelude.{◌≡◌, Option, Some, None}
use Rattle.serial_link.specs.declared.turn.Turn.{Turn}
use Rattle.host_requests.specs.Events.{RequestsEvent}
use Rattle.host_requests.specs.Events.RequestsEvent.{IsSent}
use Rattle.host_requests.specs.Next.{is_sent}
use Rattle.host_requests.specs.declared.under_way.UnderWay.{UnderWay}
use Rattle.host_node.specs.State.{is_false}
use Rattle.proof_walk.specs.host_model.State.{HostState}
use Rattle.proof_walk.specs.host_model.After.{is_busy}
use Rattle.proof_walk.specs.host_model.Events.{HostEvent, Hears, Requests_do}

abbrev pub IsOnLine : Option UnderWay → Turn → Type 0
IsOnLine None turn = Unit {0}
IsOnLine (Some u) turn = is_busy turn ≡ is_false (is_sent u.progress)

abbrev pub HasOnLine : HostState → Type 0
HasOnLine h = IsOnLine h.requests.under_way h.side.turn

-- an event that is no item, nor what an acknowledgement tells: an item is judged as a whole
abbrev pub AcksNothing : RequestsEvent → Type 0
AcksNothing IsSent = ⊥
AcksNothing event = Unit {0}

abbrev pub IsNoItem : HostEvent → Type 0
IsNoItem (Hears item) = ⊥
IsNoItem (Requests_do event moment) = AcksNothing event
IsNoItem event = Unit {0}
