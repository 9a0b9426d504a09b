-- No frame of the chip ends an abort: no response has its function.
use Rattle.std.proofs.Common.{◌≡◌, ℕ, ◌==◌, ◌&&◌, ◌||◌, not, Bool, true, false, if◌then◌else◌, List, [], ◌∷◌, refl, ap, ap₂, ◌∙◌}
use Rattle.std.specs.Prelude.{Result, Ok, Err, filter, nat_lt}
use Rattle.std.specs.List.{list_all, list_any}
use Rattle.std.proofs.lemmas.Bool.{and_left, and_right, eqb-true}
use Rattle.chip_functions.specs.declared.fault.BodyFault.{BodyFault}
use Rattle.chip_functions.specs.declared.fault.BodyFault.TheVariants.{UnknownFunction}
use Rattle.chip_functions.specs.declared.function.TheConstants.{GET_INIT_DATA, GET_CAPABILITIES, SEND_DATA, GET_VERSION, SEND_DATA_ABORT, MEMORY_GET_ID, GET_NODE_PROTOCOL_INFO, ADD_NODE, REQUEST_NODE_INFO, IS_FAILED_NODE, GET_ROUTING_INFO}
use Rattle.chip_functions.specs.declared.request.Request.{Request}
use Rattle.chip_functions.specs.declared.request.Request.TheVariants.{GetInitData, GetCapabilities, GetVersion, SendDataAbort, MemoryGetId}
use Rattle.chip_functions.specs.declared.response.Response.{Response}
use Rattle.chip_functions.specs.AddNode.{add_request}
use Rattle.chip_functions.specs.Place.{Place, Reading, start_of, ended_from}
use Rattle.chip_functions.specs.Field.{node, read_as}
use Rattle.chip_functions.specs.Request.{add_request_at, get_routing_info, get_routing_info_at, request_at, request_of as read_request, send_data, send_data_at}
use Rattle.chip_functions.specs.Response.{response_at, response_of}
use Rattle.chip_functions.proofs.FieldLaws.{bind_ok, ok_is}
use Rattle.chip_functions.proofs.RowLaws.{ended_ok, no_row, reads_to, row_cases}
use Rattle.zw_text.specs.declared.entry.Entry.{Entry}
use Rattle.law_transcript.specs.Units.{body_in, function_in, is_frame, read_well, request_in}
use Rattle.law_time.specs.Ends.{ending, ending_among, ends_by, is_before_failing, is_ending_here, wait_of}
use Rattle.law_time.specs.Judged.{acknowledged, is_following, response_in}
use Rattle.law_time.specs.Requests.{Asked, Judging, are_none, asked, failing, is_response_to, judged_since, request_last}
use Rattle.host_requests.specs.Frames.{request_of}
use Rattle.host_requests.specs.declared.task.Purpose.TheVariants.{Abort}

-- ---- the function of an abort

other_made : {A : Type 0} (make : A → Request) (r : Reading A) (q : Place) → ((x : A) → make x ≡ SendDataAbort → ⊥) → read_as make r ≡ reads_to SendDataAbort q → ⊥
other_made make (Ok x) q other e = other x.0 (ap (λ (y : Request × Place). y.0) (ok_is (make x.0, x.1) (SendDataAbort, q) e))
other_made make (Err fault) q other e = no_row fault SendDataAbort q e

other_read : (w : Request) (p q : Place) → (w ≡ SendDataAbort → ⊥) → reads_to w p ≡ reads_to SendDataAbort q → ⊥
other_read w p q other e = other (ap (λ (y : Request × Place). y.0) (ok_is (w, p) (SendDataAbort, q) e))

row_abort : (func : ℕ) (p q : Place) → request_at func p ≡ Ok (SendDataAbort, q) → func ≡ SEND_DATA_ABORT
unfolding request_at send_data_at add_request_at get_routing_info_at
row_abort func p q e =
    row_cases func GET_INIT_DATA _ _ _ e (λ f h. absurd (other_read GetInitData p q (λ same. cc) h)) (λ e.
    row_cases func GET_CAPABILITIES _ _ _ e (λ f h. absurd (other_read GetCapabilities p q (λ same. cc) h)) (λ e.
    row_cases func SEND_DATA _ _ _ e (λ f h. absurd (other_made _ (send_data.read p) q (λ x same. cc) h)) (λ e.
    row_cases func GET_VERSION _ _ _ e (λ f h. absurd (other_read GetVersion p q (λ same. cc) h)) (λ e.
    row_cases func SEND_DATA_ABORT _ _ _ e (λ f h. f) (λ e.
    row_cases func MEMORY_GET_ID _ _ _ e (λ f h. absurd (other_read MemoryGetId p q (λ same. cc) h)) (λ e.
    row_cases func GET_NODE_PROTOCOL_INFO _ _ _ e (λ f h. absurd (other_made _ (node.read p) q (λ x same. cc) h)) (λ e.
    row_cases func ADD_NODE _ _ _ e (λ f h. absurd (other_made _ (add_request.read p) q (λ x same. cc) h)) (λ e.
    row_cases func REQUEST_NODE_INFO _ _ _ e (λ f h. absurd (other_made _ (node.read p) q (λ x same. cc) h)) (λ e.
    row_cases func IS_FAILED_NODE _ _ _ e (λ f h. absurd (other_made _ (node.read p) q (λ x same. cc) h)) (λ e.
    row_cases func GET_ROUTING_INFO _ _ _ e (λ f h. absurd (other_made _ (get_routing_info.read p) q (λ x same. cc) h)) (λ e.
    absurd (no_row (UnknownFunction func) SendDataAbort q e))))))))))))

abort_function : (func : ℕ) (body : List ℕ) → read_request func body ≡ Ok SendDataAbort → func ≡ SEND_DATA_ABORT
unfolding read_request
abort_function func body e =
    let a = bind_ok (request_at func (start_of body)) (λ x. ended_from x.0 x.1.before x.1.rest) SendDataAbort e in
    let g = ended_ok a.0.0 SendDataAbort a.0.1.before a.0.1.rest a.2 in
    row_abort func (start_of body) a.0.1 (a.1 ∙ ap (λ (v : Request). Ok (v, a.0.1)) g.1)

same_one : (v w : Request) → v ∷ [] ≡ w ∷ [] → v ≡ w
same_one v w e = cc

frame_function : (frame : List ℕ) → request_in frame ≡ SendDataAbort ∷ [] → function_in frame ≡ SEND_DATA_ABORT
frame_function frame is = by (is_frame frame 0) (read_request (function_in frame) (body_in frame)) refl is
  where
    by : (b : Bool) (read : Result Request BodyFault) → read_request (function_in frame) (body_in frame) ≡ read → (if b then read_well read else []) ≡ SendDataAbort ∷ []
        → function_in frame ≡ SEND_DATA_ABORT
    by true (Ok v) reads e = abort_function (function_in frame) (body_in frame) (reads ∙ ap (λ (w : Request). Ok w) (same_one v SendDataAbort e))
    by true (Err fault) reads e = absurd (let bad : [] ≡ SendDataAbort ∷ [] = e in cc)
    by false read reads e = absurd (let bad : [] ≡ SendDataAbort ∷ [] = e in cc)

-- ---- no response has it

response_none : (body : List ℕ) → response_of SEND_DATA_ABORT body ≡ Err (UnknownFunction SEND_DATA_ABORT)
unfolding response_of response_at
response_none body = refl

unanswered : (frame unit : List ℕ) → function_in frame ≡ SEND_DATA_ABORT → is_response_to frame unit ≡ false
unanswered frame unit is = ap (λ (n : ℕ). (function_in unit == n) && not (are_none (response_in unit))) is ∙ by (function_in unit == SEND_DATA_ABORT) refl
  where
    either : (b : Bool) → (if b then read_well {A = Response} (Err (UnknownFunction SEND_DATA_ABORT)) else []) ≡ []
    either true = refl
    either false = refl

    by : (b : Bool) → (function_in unit == SEND_DATA_ABORT) ≡ b → ((function_in unit == SEND_DATA_ABORT) && not (are_none (response_in unit))) ≡ false
    by false other = and_left (function_in unit == SEND_DATA_ABORT) (not (are_none (response_in unit))) other
    by true same =
        and_right (function_in unit == SEND_DATA_ABORT) (not (are_none (response_in unit)))
        (ap (λ (l : List Response). not (are_none l))
        (ap (λ (r : Result Response BodyFault). if is_frame unit 1 then read_well r else [])
        (ap (λ (n : ℕ). response_of n (body_in unit)) (eqb-true (function_in unit) SEND_DATA_ABORT same) ∙ response_none (body_in unit)) ∙ either (is_frame unit 1)))

-- ---- so none ends it

among_none : (frame : List ℕ) → request_in frame ≡ SendDataAbort ∷ [] → (to_come : Bool) (judged : List Judging) → ending_among frame to_come judged ≡ []
among_none frame is to_come [] = refl
among_none frame is to_come (one ∷ more) =
    ap (λ (b : Bool). if b then one ∷ [] else ending_among frame (to_come && not (to_come && is_response_to frame one.unit)) more) unended
    ∙ among_none frame is (to_come && not (to_come && is_response_to frame one.unit)) more
  where
    unended : list_any (ends_by (to_come && is_response_to frame one.unit) one.unit) (request_in frame) ≡ false
    unended =
        ap₂ (λ (b : Bool) (l : List Request). list_any (ends_by (to_come && b) one.unit) l) (unanswered frame one.unit (frame_function frame is)) is ∙ none to_come
      where
        none : (b : Bool) → ((b && false) || false) ≡ false
        none true = refl
        none false = refl

pub abort_unended : (past : List Entry) (id : ℕ) → request_last past ≡ request_of Abort id ∷ [] → (to_come : Bool) (judged : List Judging) → ending_among (asked past).frame to_come judged ≡ []
abort_unended past id is to_come judged = among_none (asked past).frame is to_come judged

pub abort_unending : (past : List Entry) (id : ℕ) → request_last past ≡ request_of Abort id ∷ [] → is_ending_here past ≡ false
abort_unending past id is =
    let a : Asked = asked past in
    and_right (is_following past) (list_any (λ one. one.place == acknowledged past) (ending a))
    (ap (λ (l : List Judging). list_any (λ one. one.place == acknowledged past) (filter (λ one. list_all (nat_lt one.tick) (wait_of a) && list_all (is_before_failing one) (failing a)) l))
    (abort_unended past id is true (judged_since a)))
