-- How a request ends by the transcript where it ends in the host (this project's own rule): at each phase of a host alone either nothing is to be told, or the event that tells is next; and
-- each entry that tells of an end stands where the transcript has that end.
use Rattle.std.specs.Prelude.{◌≡◌, ◌⊎◌, ℕ, ◌==◌, ◌||◌, Bool, true, false, Option, Some, None, List, [], ◌∷◌}
use Rattle.std.specs.List.{AllByRecursion}
use Rattle.chip_functions.specs.Response.{response_function}
use Rattle.chip_functions.specs.declared.function.TheConstants.{SEND_DATA, REQUEST_NODE_INFO}
use Rattle.chip_functions.specs.declared.notice.Notice.TheVariants.{SendData as CalledBack, ApplicationUpdate}
use Rattle.chip_functions.specs.declared.notice.Update.TheVariants.{Received}
use Rattle.chip_functions.specs.declared.response.Response.{Response}
use Rattle.chip_functions.specs.declared.response.Response.TheVariants as responses
use Rattle.zw_words.specs.declared.side.Side.TheVariants.{Host}
use Rattle.zw_text.specs.declared.entry.Entry.{Entry}
use Rattle.zw_text.specs.declared.entry.Entry.TheVariants as entry
use Rattle.proof_waking.specs.law_time.Judged.{is_data, is_directly_after, notices_here, responses_here}
use Rattle.proof_waking.specs.law_time.Requests.{asked, request_last}
use Rattle.proof_waking.specs.law_time.Ends.{giving_up, is_abort_frame, is_answered_here, is_ending_here, is_given_up, is_refused_here, is_silent}
use Rattle.host_requests.specs.Events.{RequestsEvent, interviewed_by}
use Rattle.host_requests.specs.Events.RequestsEvent.{IsSent, Fails, Responds, CallsBack, Updates, Ticks}
use Rattle.host_requests.specs.Frames.{function_of, request_of}
use Rattle.host_requests.specs.Next.{at_callback, at_response, at_sent, at_tick, at_update, purpose_ends_at_update}
use Rattle.host_requests.specs.State.{RequestsState}
use Rattle.host_requests.specs.declared.end.How.{How}
use Rattle.host_requests.specs.declared.end.How.TheVariants.{AtCallback, AtResponse, AtUpdate, Refused, Silent, LinkFailed, AbortSent}
use Rattle.host_requests.specs.declared.next.Next.{Next}
use Rattle.host_requests.specs.declared.next.Next.TheVariants.{Ends, GoesOn}
use Rattle.host_requests.specs.declared.task.Task.TheVariants.{Plain, Segment, Second, Neighbours, IsFailed}
use Rattle.host_requests.specs.declared.task.Purpose.{Purpose}
use Rattle.host_requests.specs.declared.task.Purpose.TheVariants.{Housekeeping, Attempt, Abort}
use Rattle.host_requests.specs.declared.under_way.UnderWay.{UnderWay}
use Rattle.proof_messages.specs.host_model.State.{HostState}
use Rattle.proof_messages.specs.host_model.Ends.{done_of}
use Rattle.proof_messages.specs.host_model.Events.{HostEvent, Hears, Requests_do, Interviews, Interview_unkept, Line_ticks}
use Rattle.proof_messages.specs.host_model.Taking.{InterviewEvents, told_requests}
use Rattle.proof_waking.specs.proof_alone.Phases.{Behind}
use Rattle.proof_waking.specs.proof_alone.Runs.{Knowledge}
use Rattle.proof_requests.specs.Carrying.{CarriesSo, is_errand}
use Rattle.proof_requests.specs.Standing.{brought_before, prior_of}
use Rattle.proof_requests.specs.Asking.{FollowsFirst}

-- ---- an end

-- a wait ended, or the line gave it up
abbrev pub IsLate : How → Type 0
IsLate Silent = Unit {0}
IsLate LinkFailed = Unit {0}
IsLate how = ⊥

-- a request that its response may refuse; and a response that ends the request that it answers
abbrev pub IsTaken : Purpose → Type 0
IsTaken purpose = (function_of purpose == SEND_DATA) || (function_of purpose == REQUEST_NODE_INFO) ≡ true

abbrev pub IsLast : Response → Type 0
IsLast (responses.SendData answer) = ⊥
IsLast (responses.RequestNodeInfo answer) = ⊥
IsLast response = Unit {0}

-- a request for this purpose, with this callback id, ends so where the next entry stands
abbrev pub EndsHow : List Entry → ℕ → Purpose → How → Type 0
EndsHow past id purpose (AtCallback status) =
    ((function_of purpose == SEND_DATA) ≡ true) × (notices_here past ≡ CalledBack id status ∷ []) × (is_ending_here past ≡ true)
EndsHow past id purpose (AtResponse response) =
    ((response_function response == function_of purpose) ≡ true) × IsLast response × (responses_here past ≡ response ∷ []) × (is_answered_here past ≡ true)
EndsHow past id purpose (AtUpdate update first) =
    (purpose_ends_at_update update purpose ≡ true) × (notices_here past ≡ ApplicationUpdate update ∷ []) × (is_ending_here past ≡ true)
    × (first ≡ brought_before (prior_of (asked past).before))
EndsHow past id purpose Refused = IsTaken purpose × (is_refused_here past ≡ true)
EndsHow past id purpose Silent = is_silent past ≡ true
EndsHow past id purpose LinkFailed = is_given_up past ≡ true
EndsHow past id purpose AbortSent = purpose ≡ Abort

-- the last request is that one, and carries what it is for; and if it is the second of an interview the first of that was before it
pub record EndsHere (past : List Entry) (id : ℕ) (purpose : Purpose) (how : How) : Type 0 where
  pub request : request_last past ≡ request_of purpose id ∷ []
  pub follows : FollowsFirst (prior_of (asked past).before) purpose
  pub carries : CarriesSo purpose
  pub so : EndsHow past id purpose how

abbrev pub EndsAs : List Entry → Purpose → How → Type 0
EndsAs past purpose how = (id : ℕ) × EndsHere past id purpose how

-- the line gives it up at this time
pub record GivenUp (past : List Entry) (now id : ℕ) (purpose : Purpose) : Type 0 where
  pub framed : is_data (asked past).frame ≡ true
  pub request : request_last past ≡ request_of purpose id ∷ []
  pub follows : FollowsFirst (prior_of (asked past).before) purpose
  pub carries : CarriesSo purpose
  pub gives_up : giving_up (asked past) ≡ now ∷ []

-- ---- by a frame that was judged

-- no frame that was judged here ends the last request, or that is an abort
abbrev pub EndsNone : List Entry → Type 0
EndsNone past = (is_ending_here past ≡ false) ⊎ (is_abort_frame (asked past).frame ≡ true)

-- it does just where the host ends the request under way
abbrev pub EndsBy : List Entry → ℕ → UnderWay → Next → Type 0
EndsBy past id u (GoesOn progress) = is_ending_here past ≡ false
EndsBy past id u (Ends how) = EndsHere past id u.purpose how

abbrev pub EndsFrom : List Entry → ℕ → (UnderWay → Next) → Option UnderWay → Type 0
EndsFrom past id next None = EndsNone past
EndsFrom past id next (Some u) = EndsBy past id u (next u)

-- ---- what an end leaves to be told

-- the end of a request for this purpose has no entry that says so, and it carries no Set or Get that a line asks for
abbrev pub IsUntold : Purpose → Type 0
IsUntold (Housekeeping (Plain n payload)) = ⊥
IsUntold (Housekeeping (Second n)) = ⊥
IsUntold (Housekeeping (Neighbours n)) = ⊥
IsUntold (Housekeeping (IsFailed n)) = ⊥
IsUntold (Housekeeping (Segment n payload)) = is_errand payload ≡ false
IsUntold (Attempt n more payload) = is_errand payload ≡ false
IsUntold purpose = Unit {0}

-- no end is to be told: nothing was judged directly before, or what was ends no request, or one whose end is not told
pub data OwesNoEnd (past : List Entry) : Type 0 where
  Apart : is_directly_after past ≡ false → OwesNoEnd past
  Unended : is_ending_here past ≡ false → OwesNoEnd past
  Aborted : is_abort_frame (asked past).frame ≡ true → OwesNoEnd past
  Untold : (purpose : Purpose) (id : ℕ) → request_last past ≡ request_of purpose id ∷ [] → IsUntold purpose → OwesNoEnd past

-- an interview ends by a node's information only where its first request brought nothing
abbrev pub BringsNone : How → Type 0
BringsNone (AtUpdate (Received n basic generic specific classes) first) = first ≡ None
BringsNone how = Unit {0}

-- ---- entries

-- an entry that tells of an end stands where that is, what became of the host's unit anywhere, and any other where no end is to be told
abbrev pub TellsEnd : List Entry → Entry → Type 0
TellsEnd past (entry.Neighbours node nodes) = EndsAs past (Housekeeping (Neighbours node)) (AtResponse (responses.GetRoutingInfo nodes))
TellsEnd past (entry.Failed node failed) = EndsAs past (Housekeeping (IsFailed node)) (AtResponse (responses.IsFailedNode failed))
TellsEnd past (entry.Done node how) = (payload : List ℕ) × (ended : How) × (how ≡ done_of ended) × EndsAs past (Housekeeping (Plain node payload)) ended
TellsEnd past (entry.InterviewFailed node) = (how : How) × BringsNone how × EndsAs past (Housekeeping (Second node)) how
TellsEnd past (entry.Interviewed node) =
    (types : ℕ × ℕ × ℕ) × (classes : List ℕ) × (capability : ℕ)
    × EndsAs past (Housekeeping (Second node)) (AtUpdate (Received node types.0 types.1 types.2 classes) (Some capability))
TellsEnd past (entry.Unkept node) = OwesNoEnd past ⊎ ((how : How) × EndsAs past (Housekeeping (Second node)) how)
TellsEnd past (entry.Dropped Host) = Unit {0}
TellsEnd past (entry.Garbled Host unit) = Unit {0}
TellsEnd past (entry.Overrun Host) = Unit {0}
TellsEnd past e = OwesNoEnd past

-- ---- phases

-- what an event makes of the request under way
abbrev pub next_at : RequestsState → RequestsEvent → (UnderWay → Next)
next_at s IsSent = at_sent
next_at s Fails = λ u. Ends LinkFailed
next_at s (Responds response) = at_response response
next_at s (CallsBack id status) = at_callback s.last_id id status
next_at s (Updates update) = at_update s.first update
next_at s Ticks = at_tick
next_at s event = λ u. GoesOn u.progress

-- an event at which no end is told
abbrev pub TellsNoEnd : HostEvent → Type 0
TellsNoEnd (Hears item) = ⊥
TellsNoEnd (Requests_do event moment) = ⊥
TellsNoEnd (Interviews n listens classes update) = ⊥
TellsNoEnd (Interview_unkept n update) = ⊥
TellsNoEnd Line_ticks = ⊥
TellsNoEnd event = Unit {0}

-- behind a frame of the chip the request hears of this
abbrev pub AreToldOf : HostState → RequestsEvent → List HostEvent → Type 0
AreToldOf h (Responds response) left = left ≡ told_requests (Responds response)
AreToldOf h (CallsBack id status) left = left ≡ told_requests (CallsBack id status)
AreToldOf h (Updates update) left = InterviewEvents update (interviewed_by h.requests update) left
AreToldOf h event left = ⊥

pub record ByFrame (past : List Entry) (h : HostState) (awaits : Bool) (left : List HostEvent) : Type 0 where
  pub unnumbered : awaits ≡ false
  pub event : RequestsEvent
  pub told : AreToldOf h event left
  pub ends : EndsFrom past h.requests.last_id (next_at h.requests event) h.requests.under_way

-- behind an answer of the chip the request hears that its frame was acknowledged, or is given up
abbrev pub LineEnds : List Entry → ℕ → ℕ → RequestsEvent → Option UnderWay → Type 0
LineEnds past now id IsSent o = Unit {0}
LineEnds past now id Fails None = Unit {0}
LineEnds past now id Fails (Some u) = GivenUp past now id u.purpose
LineEnds past now id event o = ⊥

pub record ByLine (past : List Entry) (now : ℕ) (h : HostState) (left : List HostEvent) : Type 0 where
  pub event : RequestsEvent
  pub told : left ≡ told_requests event
  pub none : OwesNoEnd past
  pub ends : LineEnds past now h.requests.last_id event h.requests.under_way

-- no end is to be told, but by what is to come behind the item that was judged
abbrev pub KnowsEnds : Knowledge
KnowsEnds (Behind left) past m = (AllByRecursion TellsNoEnd left × OwesNoEnd past) ⊎ (ByFrame past m.state m.awaits left ⊎ ByLine past m.clock m.state left)
KnowsEnds here past m = OwesNoEnd past
