-- What the end of a request has the host note (Serial API: a request, its response and its callback; Wake Up Command Class; which notes come of
-- which end is this project's own rule).
use Rattle.std.specs.Prelude.{ℕ, ◌&&◌, ◌||◌, not, Bool, true, if◌then◌else◌, List, [], ◌∷◌, ◌++◌, filter, map}
use Rattle.std.specs.List.{flat_map, list_any}
use Rattle.chip_functions.specs.declared.request.Request.{Request}
use Rattle.chip_functions.specs.declared.request.Request.TheVariants as requests
use Rattle.chip_functions.specs.declared.response.Response.{Response}
use Rattle.chip_functions.specs.declared.response.Response.TheVariants as responses
use Rattle.encap.specs.Opening.{begins_with}
use Rattle.zw_text.specs.declared.entry.Done.{Done as HowDone}
use Rattle.zw_text.specs.declared.entry.Done.TheVariants as done
use Rattle.zw_text.specs.declared.entry.Ended.TheVariants.{Unanswered}
use Rattle.zw_text.specs.declared.entry.Entry.{Entry}
use Rattle.zw_text.specs.declared.entry.Entry.TheVariants.{Done, Neighbours, Failed, Asleep, Interviewed, InterviewFailed, Out}
use Rattle.law_time.specs.law_transcript.Units.{Carried, sending_in}
use Rattle.law_time.specs.Heeds.{Heeds}
use Rattle.law_time.specs.Moments.{clock}
use Rattle.law_time.specs.Judged.{responses_here}
use Rattle.law_time.specs.Requests.{asked, request_last}
use Rattle.law_time.specs.Ends.{ends_here, is_called_back, is_ending_here}
use Rattle.law_time.specs.Attempts.{serving}
use Rattle.law_time.specs.Errands.{errand}
use Rattle.law_time.specs.Interviews.{fails, node_interviewed, succeeds}
use Rattle.law_time.specs.Unanswered.{to_give_up}
use Rattle.law_time.specs.Waking.{is_awake_sleeper, nodes_told}
use Rattle.law_host.specs.Course.{Course, each_in_turn, if_kept, with_note, with_notes, without_texts}

-- ---- by what was asked for

-- a Set or Get of a line is done
abbrev pub done_notes : Heeds → List Entry → HowDone → List Entry
done_notes heeds past how = map (λ node. Done node how) (errand heeds.listing past)

-- a node that was told that there is no more counts as asleep
abbrev pub sleep_note : List Entry → ℕ → List Entry
sleep_note past node = if is_awake_sleeper node past then Asleep node ∷ [] else []

abbrev pub sleep_notes : List Entry → List Entry
sleep_notes past = flat_map (sleep_note past) (nodes_told (asked past).frame)

-- an interview whose second request it is fails
abbrev pub failed_notes : List Entry → List Entry
failed_notes past = map InterviewFailed (node_interviewed (request_last past))

-- or ends by a frame: it succeeds, where that is kept, or fails
abbrev pub ends_interview : List Entry → ℕ → Course → Course
ends_interview past node course =
    if succeeds node past then if_kept node (with_note (Interviewed node)) course
    else (if fails node past then with_note (InterviewFailed node) course else course)

-- a question is answered
abbrev pub answer_to : List Request → List Response → List Entry
answer_to (requests.GetRoutingInfo node bad others id ∷ more) (responses.GetRoutingInfo nodes ∷ rest) = Neighbours node nodes ∷ []
answer_to (requests.IsFailedNode node ∷ more) (responses.IsFailedNode has_failed ∷ rest) = Failed node has_failed ∷ []
answer_to _ _ = []

-- ---- attempts

-- the command of a node is given up where its third attempt is over by a time, and then the node counts as asleep
abbrev pub given_up_notes : List Entry → ℕ → ℕ → List Entry
given_up_notes past node command = Out command Unanswered ∷ sleep_note past node

abbrev pub gives_up : List Entry → ℕ → ℕ → Course → Course
gives_up past node command course = without_texts node (with_notes (given_up_notes (past ++ course.due) node command) course)

abbrev pub gives_up_late : Heeds → List Entry → ℕ → ℕ → Course → Course
gives_up_late heeds past now node course =
    each_in_turn (gives_up past node) (to_give_up heeds (past ++ course.due) now node) course

-- an attempt of a lock has ended: no text of it waits for a nonce or has one
abbrev pub is_of_sealed : Carried → Bool
is_of_sealed carried = begins_with carried.payload 0x98 0x40 || begins_with carried.payload 0x98 0x81

abbrev pub ends_sealing : Carried → Course → Course
ends_sealing carried course = if is_of_sealed carried then without_texts carried.node course else course

-- the command that the end of the last request gives up for a node: where the request is of its attempt
abbrev pub to_give_up_by_end : Heeds → List Entry → ℕ → ℕ → List ℕ
to_give_up_by_end heeds past now node =
    if list_any (λ attempts. attempts.own) (serving heeds (node ∷ []) past).each then to_give_up heeds past now node else []

-- what was sent to a node has ended badly, by a time
abbrev pub ends_badly : Heeds → List Entry → ℕ → Carried → Course → Course
ends_badly heeds past now carried course =
    let ended : Course = ends_sealing carried course in
    each_in_turn (gives_up past carried.node) (to_give_up_by_end heeds (past ++ ended.due) now carried.node) ended

-- ---- the end

-- the request ends without a frame, in this way, by a time
abbrev pub ends_without : Heeds → List Entry → ℕ → HowDone → Course → Course
ends_without heeds past now how course =
    each_in_turn (ends_badly heeds past now) (sending_in (asked past).frame)
    (with_notes (done_notes heeds past how ++ sleep_notes past ++ failed_notes past) (record course { over = true }))

-- in which ways a frame may end it
abbrev pub ways : List HowDone
ways = done.Delivered ∷ done.NoAck ∷ done.Fail ∷ done.NotIdle ∷ done.NoRoute ∷ done.Refused ∷ []

-- what the end by a frame has noted, but for interviews and attempts
abbrev pub frame_notes : Heeds → List Entry → List Entry
frame_notes heeds past =
    flat_map (done_notes heeds past) (filter (ends_here past) ways) ++ sleep_notes past ++ answer_to (request_last past) (responses_here past)

abbrev pub ends_with : Heeds → List Entry → ℕ → Course → Course
ends_with heeds past now course =
    let ended : Course = with_notes (frame_notes heeds past) (record course { over = true }) in
    let noted : Course = each_in_turn (ends_interview past) (node_interviewed (request_last past)) ended in
    if is_called_back 0 past then noted else each_in_turn (ends_badly heeds past now) (sending_in (asked past).frame) noted

-- a frame that is judged here ends the request under way, where it does
abbrev pub ends_by_frame : Heeds → List Entry → Course → Course
ends_by_frame heeds past course = if not course.over && is_ending_here past then ends_with heeds past (clock past) course else course
