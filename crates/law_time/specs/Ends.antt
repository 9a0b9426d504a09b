-- How the last request of the host ends (Serial API: a request, its response and its callback; the waits of 15 and 65 ticks are this
-- project's own rule).
use Rattle.std.specs.Prelude.{ℕ, ◌+◌, ◌==◌, ◌&&◌, ◌||◌, not, nat_le, nat_lt, Bool, true, false, if◌then◌else◌, List, [], ◌∷◌, filter, slice_index}
use Rattle.std.specs.List.{flat_map, list_any, list_all}
use Rattle.chip_functions.specs.declared.request.Request.{Request}
use Rattle.chip_functions.specs.declared.request.Request.TheVariants.{SendData, SendDataAbort, RequestNodeInfo}
use Rattle.chip_functions.specs.declared.notice.Notice.{Notice}
use Rattle.chip_functions.specs.declared.notice.Notice.TheVariants.{SendData as CalledBack, ApplicationUpdate}
use Rattle.chip_functions.specs.declared.notice.Update.TheVariants.{Received, RequestFailed}
use Rattle.chip_functions.specs.Notice.{status_code}
use Rattle.zw_text.specs.declared.entry.Done.{Done as HowDone}
use Rattle.zw_text.specs.declared.entry.Done.TheVariants as done
use Rattle.zw_text.specs.declared.entry.Entry.{Entry}
use Rattle.law_wire.specs.law_transcript.Units.{body_in, request_in, notice_in}
use Rattle.law_time.specs.Moments.{clock}
use Rattle.law_time.specs.Judged.{acknowledged, is_following, judged_here, notices_here}
use Rattle.law_time.specs.Requests.{Asked, Failing, Judging, asked, are_none, failing, is_response_to, judged_since, request_last, responses, sent_at}

-- ---- by a frame of the chip

-- whether a response refuses
abbrev pub refuses : List ℕ → Bool
refuses unit = slice_index (body_in unit) 0 == 0

-- whether a notice is the callback with that id, or the end of a question for a node's information
abbrev pub is_callback : ℕ → Notice → Bool
is_callback id (CalledBack callback status) = callback == id
is_callback id _ = false

abbrev pub is_information : ℕ → Notice → Bool
is_information node (ApplicationUpdate (Received from basic generic specific classes)) = from == node
is_information node (ApplicationUpdate RequestFailed) = true
is_information node _ = false

-- a SendDataAbort has no response
abbrev pub is_abort : Request → Bool
is_abort SendDataAbort = true
is_abort _ = false

abbrev pub is_abort_frame : List ℕ → Bool
is_abort_frame unit = list_any is_abort (request_in unit)

-- whether a frame ends a request: its callback, its node's information, a refusal, or the response of a function that has nothing
-- else; a response counts where it is the first
abbrev pub ends_by : Bool → List ℕ → Request → Bool
ends_by is_first unit (SendData node payload options id) = list_any (is_callback id) (notice_in unit) || (is_first && refuses unit)
ends_by is_first unit (RequestNodeInfo node) = list_any (is_information node) (notice_in unit) || (is_first && refuses unit)
ends_by is_first unit request = is_first

-- the first of these frames that ends it, where the first response is still to come, or is not
abbrev pub ending_among : List ℕ → Bool → List Judging → List Judging
ending_among frame to_come [] = []
ending_among frame to_come (one ∷ more) =
    let is_first : Bool = to_come && is_response_to frame one.unit in
    if list_any (ends_by is_first one.unit) (request_in frame) then one ∷ [] else ending_among frame (to_come && not is_first) more

-- ---- by a wait

-- when its wait ends, where nothing ends it before: 65 ticks after its first response, or 15 after it was acknowledged without one
abbrev pub wait_by : List ℕ → List Judging → List ℕ
wait_by [] [] = []
wait_by [] (response ∷ more) = (response.tick + 65) ∷ []
wait_by (sent ∷ rest) [] = (sent + 15) ∷ []
wait_by (sent ∷ rest) (response ∷ more) = if nat_lt response.tick (sent + 15) then (response.tick + 65) ∷ [] else (sent + 15) ∷ []

abbrev pub wait_of : Asked → List ℕ
wait_of asked = if is_abort_frame asked.frame then [] else wait_by (sent_at asked) (responses asked)

-- ---- which of them comes first

-- a frame is judged before the line gives a request up: in an earlier tick, or it had come before the answer that ends the fourth copy
abbrev pub is_before_failing : Judging → Failing → Bool
is_before_failing one fails = nat_lt one.tick fails.tick || (fails.at_answer && nat_le one.place fails.frames)

-- a wait ends before: in a tick the line is looked at first
abbrev pub waits_before_failing : ℕ → Failing → Bool
waits_before_failing wait fails = nat_lt wait fails.tick || (fails.at_answer && (wait == fails.tick))

-- the frame that ends it, where none of the others has
abbrev pub ending : Asked → List Judging
ending asked =
    filter (λ one. list_all (nat_lt one.tick) (wait_of asked) && list_all (is_before_failing one) (failing asked))
    (ending_among asked.frame true (judged_since asked))

-- when it ends in silence, and when the line has given it up
abbrev pub silence : Asked → List ℕ
silence asked = if are_none (ending asked) then filter (λ wait. list_all (waits_before_failing wait) (failing asked)) (wait_of asked) else []

abbrev pub giving_up : Asked → List ℕ
giving_up asked =
    if are_none (ending asked) && are_none (silence asked) then flat_map (λ fails. fails.tick ∷ []) (failing asked) else []

-- it has ended by a time; an abort ends where it is acknowledged
abbrev pub has_ended : Asked → ℕ → Bool
has_ended asked now =
    not (are_none (ending asked)) || list_any (λ tick. nat_le tick now) (silence asked) || list_any (λ tick. nat_le tick now) (giving_up asked)
    || (is_abort_frame asked.frame && not (are_none (sent_at asked)))

-- the line is free: the frame was acknowledged, or is given up by then
abbrev pub is_line_free : Asked → ℕ → Bool
is_line_free asked now = not (are_none (sent_at asked)) || list_any (λ fails. nat_le fails.tick now) (failing asked)

-- it is over by a time: its frame was acknowledged or given up, and it has ended
abbrev pub is_over : Asked → ℕ → Bool
is_over asked now = are_none asked.frame || (is_line_free asked now && has_ended asked now)

-- a SendData that was taken and ends in silence is aborted
abbrev pub is_sending : Request → Bool
is_sending (SendData node payload options id) = true
is_sending _ = false

abbrev pub owes_abort : Asked → ℕ → Bool
owes_abort asked now =
    list_any is_sending (request_in asked.frame) && list_any (λ tick. nat_le tick now && list_any (λ one. one.tick + 65 == tick) (responses asked)) (silence asked)

-- ---- here

-- the callback with the request's id and this status
abbrev pub calls_back : ℕ → List Request → List Notice → Bool
calls_back status (SendData node payload options id ∷ more) (CalledBack callback result ∷ others) = (callback == id) && (status_code result == status)
calls_back status _ _ = false

-- the frame that is judged here ends it
abbrev pub is_ending_here : List Entry → Bool
is_ending_here past = is_following past && list_any (λ one. one.place == acknowledged past) (ending (asked past))

abbrev pub is_called_back : ℕ → List Entry → Bool
is_called_back status past = calls_back status (request_last past) (notices_here past) && is_ending_here past

-- a response that is judged here ends it, and may refuse it
abbrev pub is_answered_here : List Entry → Bool
is_answered_here past = list_any (is_response_to (asked past).frame) (judged_here past) && is_ending_here past

abbrev pub is_refused_here : List Entry → Bool
is_refused_here past = list_any refuses (judged_here past) && is_answered_here past

-- it ends in silence here, or is given up
abbrev pub is_silent : List Entry → Bool
is_silent past = list_any (λ tick. tick == clock past) (silence (asked past))

abbrev pub is_given_up : List Entry → Bool
is_given_up past = list_any (λ tick. tick == clock past) (giving_up (asked past))

-- it ends here in this way
abbrev pub ends_here : List Entry → HowDone → Bool
ends_here past done.Delivered = is_called_back 0 past
ends_here past done.NoAck = is_called_back 1 past
ends_here past done.Fail = is_called_back 2 past
ends_here past done.NotIdle = is_called_back 3 past
ends_here past done.NoRoute = is_called_back 4 past
ends_here past done.Refused = is_refused_here past
ends_here past done.Silent = is_silent past
ends_here past done.LinkFailed = is_given_up past

-- a callback other than OK ends it here, or some frame of the chip does
abbrev pub is_called_back_badly : List Entry → Bool
is_called_back_badly past = is_called_back 1 past || is_called_back 2 past || is_called_back 3 past || is_called_back 4 past

abbrev pub is_ended_by_frame : List Entry → Bool
is_ended_by_frame past = is_called_back 0 past || is_called_back_badly past || is_refused_here past

-- it ends here in some way
abbrev pub is_ended_here : List Entry → Bool
is_ended_here past = is_ended_by_frame past || is_silent past || is_given_up past
