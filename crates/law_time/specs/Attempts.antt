-- The attempts of a series: how many have begun, what the last one has sent and been given, and when it is over (Supervision, Transport Service
-- and Security 0 Command Classes; that an attempt is over when 100 ticks have passed without a sign is this project's own rule).
use Rattle.std.specs.Prelude.{ℕ, ◌+◌, ◌%◌, ◌==◌, ◌&&◌, ◌||◌, not, bytes_eq, nat_le, nat_lt, Bool, true, false, if◌then◌else◌, List, [], ◌∷◌, ◌++◌, length, map, slice_index}
use Rattle.std.specs.List.{flat_map, list_any}
use Rattle.chip_functions.specs.declared.notice.Notice.{Notice}
use Rattle.chip_functions.specs.declared.notice.Notice.TheVariants.{SendData as CalledBack}
use Rattle.chip_functions.specs.Notice.{status_code}
use Rattle.class_info.specs.declared.report_status.ReportStatus.TheVariants.{Working}
use Rattle.encap.specs.Opening.{begins_with}
use Rattle.host_heard.specs.declared.told.Told.{Told}
use Rattle.host_heard.specs.declared.told.Told.TheVariants.{Report as Reports, NonceReport}
use Rattle.host_orders.specs.declared.carriage.Form.{Form}
use Rattle.host_orders.specs.declared.carriage.Form.TheVariants.{Cut, Sealed}
use Rattle.zw_words.specs.declared.side.Side.TheVariants.{Host}
use Rattle.zw_text.specs.declared.entry.Entry.{Entry}
use Rattle.zw_text.specs.declared.entry.Entry.TheVariants.{Said, Written, Begin, Out}
use Rattle.zw_text.specs.Transcript.{sessions}
use Rattle.law_wire.specs.law_transcript.Lists.{last_or}
use Rattle.law_wire.specs.law_transcript.Nodes.{controller}
use Rattle.law_wire.specs.law_transcript.Units.{is_frame, notice_in, sending_in}
use Rattle.law_time.specs.Heeds.{Heeds, taken_here}
use Rattle.law_time.specs.Moments.{clock}
use Rattle.law_time.specs.Judged.{acknowledged, is_acknowledgement}
use Rattle.law_time.specs.Requests.{Asked, are_none, failing, is_new, starts_anew}
use Rattle.law_time.specs.Ends.{ending, giving_up, is_called_back, silence}
use Rattle.law_time.specs.Sessions.{Session, is_last_command, last_command, last_place, segment_at, session_of}
use Rattle.law_time.specs.Queue.{Requests, no_requests, requests_after, waits_before}

-- the attempts of a series of a node: how many have begun, how many requests the last one has sent, whether the last request is of it, when the
-- node last gave a sign since it began, whether it was over when the host went on, and the first byte of the nonce for which its message is ready
-- to be sealed; and how many nonces of the node the host has counted, in all series
pub record Attempts : Type 0 where
  pub node : ℕ
  pub begun : ℕ
  pub sent : ℕ
  pub own : Bool
  pub sign : List ℕ
  pub over : Bool
  pub ready : List ℕ
  pub seen : ℕ

-- none has begun, and so many nonces of the node were counted
abbrev pub no_attempts : ℕ → ℕ → Attempts
no_attempts counted node = record { node = node; begun = 0; sent = 0; own = false; sign = []; over = false; ready = []; seen = counted }

-- a series begins: the count of nonces stays
abbrev pub anew : Attempts → Attempts
anew attempts = no_attempts attempts.seen attempts.node

-- ---- how an attempt ends

-- whether a request carries a segment that others follow
abbrev pub is_inner : Session → Form → List ℕ → Bool
is_inner session Cut unit = not (list_any (λ carried. bytes_eq carried.payload (segment_at session (last_place session))) (sending_in unit))
is_inner session _ unit = false

abbrev pub is_of_inner : Heeds → List Entry → ℕ → List ℕ → ℕ → Bool
is_of_inner heeds past node unit command =
    let session : Session = session_of heeds.listing past node command in is_inner session session.form unit

-- whether a callback is bad: not OK, nor NO_ACK of such a segment
abbrev pub is_bad : Bool → Notice → Bool
is_bad inner (CalledBack id status) = not (status_code status == 0) && not (inner && (status_code status == 1))
is_bad inner _ = false

-- a request ends badly by a time: by such a callback, a refusal, in silence, or since the line gives it up
abbrev pub ends_badly : Asked → Bool → ℕ → Bool
ends_badly asked inner now =
    list_any (λ one. is_frame one.unit 1 || list_any (is_bad inner) (notice_in one.unit)) (ending asked)
    || list_any (λ tick. nat_le tick now) (silence asked) || list_any (λ tick. nat_le tick now) (giving_up asked)

-- the last sign is 100 ticks ago
abbrev pub is_late : ℕ → Attempts → Bool
is_late now attempts = attempts.over || list_any (λ tick. nat_le (tick + 100) now) attempts.sign

-- the last attempt is over by a time: it was before, or its request, the last one, has ended badly, or the last sign is 100 ticks ago
abbrev pub attempt_is_over : Heeds → List Entry → Asked → ℕ → Attempts → Bool
attempt_is_over heeds past last now attempts =
    is_late now attempts
    || (attempts.own
    && ends_badly last (list_any (is_of_inner heeds past attempts.node last.frame) (last_command attempts.node past)) now)

-- ---- what it sends

-- whether a request sends something to a node
abbrev pub goes_to : ℕ → List ℕ → Bool
goes_to node unit = list_any (λ carried. carried.node == node) (sending_in unit)

-- whether a payload goes on with an attempt: a Security message, or a segment after the first
abbrev pub goes_on : List ℕ → Bool
goes_on payload =
    begins_with payload 0x98 0x81
    || ((slice_index payload 0 == 0x55) && nat_le 0xE0 (slice_index payload 1) && nat_lt (slice_index payload 1) 0xE8)

-- a request to the node for which none waits is of an attempt, and begins one where it does not go on with it; another one leaves the attempt, over
-- or not
abbrev pub attempts_by_request : Bool → Bool → List ℕ → Attempts → Attempts
attempts_by_request own over unit attempts =
    if not own then record attempts { own = false; over = over }
    else (if list_any (λ carried. goes_on carried.payload) (sending_in unit) then record attempts { sent = attempts.sent + 1; own = true; ready = [] }
    else record (anew attempts) { begun = attempts.begun + 1; sent = 1; own = true })

-- whether a new request is of an attempt: it goes to the node, and none waits
abbrev pub is_of_attempt : Heeds → ℕ → List Entry → Requests → List ℕ → Bool
is_of_attempt heeds node past requests unit =
    goes_to node unit && are_none (waits_before heeds past requests (Written Host unit)).wants

-- ---- what it is given

-- whether a report says that the session is at work
abbrev pub is_at_work : ℕ → Told → Bool
is_at_work id (Reports session Working wake_request) = session == id
is_at_work id _ = false

-- the node gives a sign here: a callback OK of a request of the attempt, or a report that it is at work
abbrev pub is_sign : Heeds → ℕ → Bool → List Entry → List Entry → Bool
is_sign heeds node own past rest =
    (own && is_called_back 0 past) || list_any (is_at_work (length (sessions node past) % 64)) (taken_here heeds node past rest)

-- up to an acknowledgement, after which these entries stand
abbrev pub with_sign : Heeds → List Entry → List Entry → Attempts → Attempts
with_sign heeds past rest attempts =
    if is_late (clock past) attempts then record attempts { over = true }
    else (if is_sign heeds attempts.node attempts.own past rest then record attempts { sign = clock past ∷ [] } else attempts)

-- the nonce that a message gives
abbrev pub nonce_told : Told → List (List ℕ)
nonce_told (NonceReport nonce) = nonce ∷ []
nonce_told _ = []

-- by its first byte a nonce is the last of those that were counted, or the next one
abbrev pub is_last_nonce : ℕ → List ℕ → Bool
is_last_nonce seen nonce = not (seen == 0) && (slice_index nonce 0 == seen % 256)

abbrev pub is_next_nonce : ℕ → List ℕ → Bool
is_next_nonce seen nonce = slice_index nonce 0 == (seen + 1) % 256

-- the last one is taken again, or the next one, which is counted then
abbrev pub with_nonce : Attempts → List ℕ → Attempts
with_nonce attempts nonce =
    if is_last_nonce attempts.seen nonce then record attempts { ready = slice_index nonce 0 ∷ [] }
    else (if is_next_nonce attempts.seen nonce
    then record attempts { ready = slice_index nonce 0 ∷ []; seen = attempts.seen + 1 } else attempts)

-- the first of several that is taken
abbrev pub with_nonces : Attempts → List (List ℕ) → Attempts
with_nonces attempts [] = attempts
with_nonces attempts (nonce ∷ more) = if are_none attempts.ready then with_nonces (with_nonce attempts nonce) more else attempts

-- whether an attempt waits for a nonce: it has sent its Nonce Get alone, was given none and is not over
abbrev pub is_sealed : Form → Bool
is_sealed Sealed = true
is_sealed _ = false

-- the line gives the last request up only at an answer that came after the frame that is judged here
abbrev pub is_given_up_later : List Entry → Asked → Bool
is_given_up_later past last =
    not (are_none (giving_up last)) && list_any (λ fails. fails.at_answer && nat_le (acknowledged past) fails.frames) (failing last)

abbrev pub waits_for_nonce : Heeds → List Entry → Asked → Attempts → Bool
waits_for_nonce heeds past last attempts =
    (attempts.sent == 1) && are_none attempts.ready
    && list_any (λ command. is_sealed (session_of heeds.listing past attempts.node command).form) (last_command attempts.node past)
    && (not (attempt_is_over heeds past last (clock past) attempts)
    || (is_given_up_later past last && not (is_late (clock past) attempts)))

-- up to an acknowledgement, after which these entries stand
abbrev pub with_nonces_here : Heeds → List Entry → Asked → List Entry → Attempts → Attempts
with_nonces_here heeds past last rest attempts =
    if waits_for_nonce heeds past last attempts
    then with_nonces attempts (flat_map nonce_told (taken_here heeds attempts.node past rest)) else attempts

-- ---- one entry after another

abbrev pub attempts_by_unit : Heeds → List Entry → Requests → List ℕ → List Entry → Attempts → Attempts
attempts_by_unit heeds past requests unit rest attempts =
    if is_acknowledgement unit
    then with_nonces_here heeds (past ++ Written Host unit ∷ []) requests.last rest
    (with_sign heeds (past ++ Written Host unit ∷ []) rest attempts)
    else (if is_new requests.last unit
    then attempts_by_request (is_of_attempt heeds attempts.node past requests unit)
    (attempt_is_over heeds past requests.last (clock past) attempts) unit attempts
    else attempts)

-- a series begins anew with a session, after its outcome, and where the host starts
abbrev pub begins_anew : ℕ → List Entry → Entry → List Entry → Bool
begins_anew node past (Begin of number command) rest = of == node
begins_anew node past (Out command ended) rest = is_last_command node past command
begins_anew node past (Said words) rest = starts_anew (Said words) rest
begins_anew node past entry rest = false

abbrev pub attempts_step : Heeds → List Entry → Requests → Entry → List Entry → Attempts → Attempts
attempts_step heeds past requests (Written Host unit) rest attempts = attempts_by_unit heeds past requests unit rest attempts
attempts_step heeds past requests entry rest attempts = if begins_anew attempts.node past entry rest then anew attempts else attempts

-- the last request of the host and what waits, the node to which its last attempt went since it started, and the attempts of some nodes
pub record Serving : Type 0 where
  pub requests : Requests
  pub served : ℕ
  pub each : List Attempts

-- the node of a new request that is of an attempt takes the place of the one served before; a host that starts has served none
abbrev pub served_step : Heeds → List Entry → Requests → ℕ → Entry → List Entry → ℕ
served_step heeds past requests served (Written Host unit) rest =
    if is_new requests.last unit && are_none (waits_before heeds past requests (Written Host unit)).wants
    then last_or served (map (λ carried. carried.node) (sending_in unit)) else served
served_step heeds past requests served (Said words) rest = if starts_anew (Said words) rest then controller else served
served_step heeds past requests served entry rest = served

abbrev pub serving_after : Heeds → List Entry → Serving → Entry → List Entry → Serving
serving_after heeds past serving entry rest = record {
  requests = requests_after heeds past serving.requests entry rest;
  served = served_step heeds past serving.requests serving.served entry rest;
  each = map (attempts_step heeds past serving.requests entry rest) serving.each;
}

abbrev pub serving_from : Heeds → List Entry → Serving → List Entry → Serving
serving_from heeds past serving [] = serving
serving_from heeds past serving (entry ∷ rest) = serving_from heeds (past ++ entry ∷ []) (serving_after heeds past serving entry rest) rest

-- those of these nodes after a past, from the nonces that were counted before it
abbrev pub serving : Heeds → List ℕ → List Entry → Serving
serving heeds nodes past =
    serving_from heeds [] (record { requests = no_requests; served = controller; each = map (λ node. no_attempts (heeds.counted node) node) nodes }) past
