-- What an event makes of the request under way (this project's own rules on the Serial API; the waits are its own).
use Rattle.std.specs.Prelude.{ℕ, ◌-◌, ◌==◌, ◌&&◌, ◌||◌, nat_lt, not, if◌then◌else◌, Bool, true, false, Option, Some, None}
use Rattle.chip_functions.specs.declared.function.TheConstants.{SEND_DATA}
use Rattle.chip_functions.specs.declared.notice.TransmitStatus.{TransmitStatus}
use Rattle.chip_functions.specs.declared.notice.Update.{Update}
use Rattle.chip_functions.specs.declared.notice.Update.TheVariants.{Received, RequestFailed}
use Rattle.chip_functions.specs.declared.response.Response.{Response}
use Rattle.chip_functions.specs.declared.response.Response.TheVariants.{SendData, GetNodeProtocolInfo, RequestNodeInfo}
use Rattle.chip_functions.specs.declared.response.TheConstants.{REFUSED}
use Rattle.chip_functions.specs.Response.{response_function}
use Rattle.host_requests.specs.Frames.{function_of}
use Rattle.host_requests.specs.State.{RequestsState}
use Rattle.host_requests.specs.declared.end.End.{End}
use Rattle.host_requests.specs.declared.end.How.{How}
use Rattle.host_requests.specs.declared.end.How.TheVariants.{AtCallback, AtResponse, AtUpdate, Refused, Silent, AbortSent}
use Rattle.host_requests.specs.declared.next.Next.{Next}
use Rattle.host_requests.specs.declared.next.Next.TheVariants.{GoesOn, Ends}
use Rattle.host_requests.specs.declared.task.Task.TheVariants.{Second}
use Rattle.host_requests.specs.declared.task.Purpose.{Purpose}
use Rattle.host_requests.specs.declared.task.Purpose.TheVariants.{Housekeeping, Abort}
use Rattle.host_requests.specs.declared.under_way.Progress.{Progress}
use Rattle.host_requests.specs.declared.under_way.Progress.TheVariants.{Submitted, Sent, Answered}
use Rattle.host_requests.specs.declared.under_way.UnderWay.{UnderWay}

-- the ticks in which a response comes after the frame was acknowledged
abbrev pub response_ticks : ℕ
response_ticks = 15

-- the ticks in which a callback or an ApplicationUpdate comes after the response
abbrev pub notice_ticks : ℕ
notice_ticks = 65

-- a response came
abbrev pub is_answered : Progress → Bool
is_answered (Answered sent left) = true
is_answered progress = false

-- the frame was acknowledged
abbrev pub is_sent : Progress → Bool
is_sent Submitted = false
is_sent (Sent left) = true
is_sent (Answered sent left) = sent

-- the frame is acknowledged: a request that is not answered waits for its response from now on; an abort has no response
abbrev pub acknowledged : Purpose → Next
acknowledged Abort = Ends AbortSent
acknowledged purpose = GoesOn (Sent response_ticks)

abbrev pub sent_from : Purpose → Progress → Next
sent_from purpose Submitted = acknowledged purpose
sent_from purpose (Sent left) = GoesOn (Sent left)
sent_from purpose (Answered sent left) = GoesOn (Answered true left)

abbrev pub at_sent : UnderWay → Next
at_sent u = sent_from u.purpose u.progress

-- 0 says that the request was not taken; else it waits for its callback or ApplicationUpdate from now on
abbrev pub taken : ℕ → UnderWay → Next
taken answer u = if answer == REFUSED then Ends Refused else GoesOn (Answered (is_sent u.progress) notice_ticks)

-- the response to this request: all but a SendData and a RequestNodeInfo end with it
abbrev pub judged : Response → UnderWay → Next
judged (SendData answer) u = taken answer u
judged (RequestNodeInfo answer) u = taken answer u
judged response u = Ends (AtResponse response)

-- a response is taken once, where its function is that of the request; an abort's function has none
abbrev pub at_response : Response → UnderWay → Next
at_response response u =
    if is_answered u.progress || not (response_function response == function_of u.purpose) then GoesOn u.progress else judged response u

-- a callback ends the SendData that has its id, answered and acknowledged or not
abbrev pub at_callback : ℕ → ℕ → TransmitStatus → UnderWay → Next
at_callback last id status u = if (function_of u.purpose == SEND_DATA) && (id == last) then Ends (AtCallback status) else GoesOn u.progress

-- the information is that of the node that was asked; that none came is said of no node
abbrev pub is_update_of : ℕ → Update → Bool
is_update_of node (Received n b g s classes) = n == node
is_update_of node RequestFailed = true

-- an ApplicationUpdate ends a RequestNodeInfo, answered and acknowledged or not
abbrev pub purpose_ends_at_update : Update → Purpose → Bool
purpose_ends_at_update update (Housekeeping (Second n)) = is_update_of n update
purpose_ends_at_update update purpose = false

abbrev pub ends_at_update : Update → UnderWay → Bool
ends_at_update update u = purpose_ends_at_update update u.purpose

abbrev pub at_update : Option ℕ → Update → UnderWay → Next
at_update first update u = if ends_at_update update u then Ends (AtUpdate update first) else GoesOn u.progress

-- a tick later; none where the wait has ended
abbrev pub counted_down : Progress → Option Progress
counted_down Submitted = Some Submitted
counted_down (Sent left) = if nat_lt 1 left then Some (Sent (left - 1)) else None
counted_down (Answered sent left) = if nat_lt 1 left then Some (Answered sent (left - 1)) else None

-- a wait that ends brought nothing
abbrev pub on_with : Option Progress → Next
on_with (Some progress) = GoesOn progress
on_with None = Ends Silent

abbrev pub at_tick : UnderWay → Next
at_tick u = on_with (counted_down u.progress)

-- a SendData that was taken, and whose callback did not come: the chip is to give it up
abbrev pub is_silent : How → Bool
is_silent Silent = true
is_silent how = false

abbrev pub owes_abort : UnderWay → How → Bool
owes_abort u how = is_silent how && (is_answered u.progress && (function_of u.purpose == SEND_DATA))

-- the capability byte of a response
abbrev pub capability_in : Response → Option ℕ
capability_in (GetNodeProtocolInfo c s r b g t) = Some c
capability_in response = None

-- the first request of an interview brings it where it ends at its response; no other request brings one
abbrev pub capability_at : How → Option ℕ
capability_at (AtResponse response) = capability_in response
capability_at how = None

-- a request ended
abbrev pub finished : RequestsState → UnderWay → How → RequestsState
finished s u how = record s { under_way = None; owes = owes_abort u how; first = capability_at how }

abbrev pub went_on : RequestsState → UnderWay → Next → RequestsState
went_on s u (GoesOn progress) = record s { under_way = Some (record { purpose = u.purpose; progress = progress }) }
went_on s u (Ends how) = finished s u how

abbrev pub end_of : UnderWay → Next → Option End
end_of u (GoesOn progress) = None
end_of u (Ends how) = Some (record { purpose = u.purpose; how = how })

-- what an event makes of the state, and what ends at it: nothing where no request is under way
abbrev pub next_from : RequestsState → (UnderWay → Next) → Option UnderWay → RequestsState
next_from s next None = s
next_from s next (Some u) = went_on s u (next u)

abbrev pub after_next : RequestsState → (UnderWay → Next) → RequestsState
after_next s next = next_from s next s.under_way

abbrev pub end_from : (UnderWay → Next) → Option UnderWay → Option End
end_from next None = None
end_from next (Some u) = end_of u (next u)

abbrev pub end_of_next : RequestsState → (UnderWay → Next) → Option End
end_of_next s next = end_from next s.under_way
