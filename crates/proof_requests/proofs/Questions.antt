-- Where each end of a request is told as the transcript has it, questions are answered.
use Rattle.std.proofs.Common.{◌≡◌, ℕ, ◌&&◌, ◌||◌, not, Bool, true, false, if◌then◌else◌, inl, inr, List, [], ◌∷◌, refl, ap, ap₂, ◌∙◌}
use Rattle.std.specs.Prelude.{Result, Ok, Err}
use Rattle.std.specs.List.{list_any}
use Rattle.std.specs.Str.{bytes_eq}
use Rattle.std.proofs.lemmas.Bool.{and_left, and_right, eq-eqb, or_right}
use Rattle.std.proofs.lemmas.Slice.Eq.{bytes_eq-Decides}
use Rattle.chip_functions.specs.declared.fault.BodyFault.{BodyFault}
use Rattle.chip_functions.specs.declared.request.Request.{Request}
use Rattle.chip_functions.specs.declared.request.Request.TheVariants as requests
use Rattle.chip_functions.specs.declared.response.Response.{Response}
use Rattle.chip_functions.specs.Request.{request_of as read_request}
use Rattle.zw_words.specs.declared.side.Side.TheVariants.{Host, Chip}
use Rattle.zw_text.specs.declared.entry.Entry.{Entry}
use Rattle.zw_text.specs.declared.entry.Entry.TheVariants as entry
use Rattle.proof_waking.specs.law_transcript.Units.{body_in, function_in, is_frame, read_well}
use Rattle.proof_waking.specs.law_time.Moments.{Allows}
use Rattle.proof_waking.specs.law_time.Judged.{is_directly_after, is_mark, judged_here}
use Rattle.proof_waking.specs.law_time.Requests.{asked, is_response_to, request_last}
use Rattle.proof_waking.specs.law_time.Ends.{is_abort, is_answered_here, is_ending_here}
use Rattle.proof_waking.specs.law_time.Questions.{gives, is_question, may_answer, owes_answer, same_bool}
use Rattle.host_requests.specs.Frames.{request_of}
use Rattle.host_requests.specs.declared.task.Task.TheVariants.{Neighbours, IsFailed}
use Rattle.host_requests.specs.declared.task.Purpose.{Purpose}
use Rattle.host_requests.specs.declared.task.Purpose.TheVariants.{Housekeeping, Attempt, Abort}
use Rattle.proof_requests.specs.Ends.{IsUntold, OwesNoEnd, TellsEnd}
use Rattle.proof_requests.specs.Ends.OwesNoEnd.{Aborted, Apart, Unended, Untold}

-- ---- requests that are no question

-- an abort
aborts_ask : (b : Bool) (read : Result Request BodyFault) → list_any is_abort (if b then read_well read else []) ≡ true → is_question (if b then read_well read else []) ≡ false
aborts_ask true (Ok (requests.GetRoutingInfo node bad others id)) is = absurd (let bad : false ≡ true = is in cc)
aborts_ask true (Ok (requests.IsFailedNode node)) is = absurd (let bad : false ≡ true = is in cc)
aborts_ask true (Ok request) is = refl
aborts_ask true (Err fault) is = refl
aborts_ask false read is = refl

not_asking : (p : Purpose) (id : ℕ) → IsUntold p → is_question (request_of p id ∷ []) ≡ false
not_asking (Housekeeping (Neighbours n)) id untold = absurd untold
not_asking (Housekeeping (IsFailed n)) id untold = absurd untold
not_asking (Housekeeping task) id untold = refl
not_asking (Attempt n more payload) id untold = refl
not_asking Abort id untold = refl

no_question : (past : List Entry) → is_question (request_last past) ≡ false → owes_answer past ≡ false
no_question past none =
    and_left (is_directly_after past && is_question (request_last past)) (is_answered_here past) (and_right (is_directly_after past) (is_question (request_last past)) none)

owes_none : (past : List Entry) → OwesNoEnd past → owes_answer past ≡ false
owes_none past (Apart none) =
    and_left (is_directly_after past && is_question (request_last past)) (is_answered_here past) (and_left (is_directly_after past) (is_question (request_last past)) none)
owes_none past (Unended none) =
    and_right (is_directly_after past && is_question (request_last past)) (is_answered_here past)
    (and_right (list_any (is_response_to (asked past).frame) (judged_here past)) (is_ending_here past) none)
owes_none past (Aborted aborts) = no_question past (aborts_ask (is_frame (asked past).frame 0) (read_request (function_in (asked past).frame) (body_in (asked past).frame)) aborts)
owes_none past (Untold purpose id request untold) = no_question past (ap is_question request ∙ not_asking purpose id untold)

-- ---- each entry

same_list : (l : List ℕ) → bytes_eq l l ≡ true
same_list l = (bytes_eq-Decides l l).1 refl

same_truth : (b : Bool) → same_bool b b ≡ true
same_truth true = refl
same_truth false = refl

other_may : (past : List Entry) (e : Entry) → owes_answer past ≡ false → (is_mark e || not (owes_answer past)) ≡ true
other_may past e none = or_right (is_mark e) (not (owes_answer past)) (ap not none)

pub answers_may : (past : List Entry) (e : Entry) → TellsEnd past e → Allows may_answer past e
answers_may past (entry.Neighbours node nodes) (id, e) =
    ap₂ (λ (a b : Bool). a && b) e.so.3
    (ap₂ (λ (q : List Request) (l : List Response). gives q l (entry.Neighbours node nodes)) e.request e.so.2
    ∙ ap₂ (λ (a b : Bool). a && b) (eq-eqb node node refl) (same_list nodes))
answers_may past (entry.Failed node failed) (id, e) =
    ap₂ (λ (a b : Bool). a && b) e.so.3
    (ap₂ (λ (q : List Request) (l : List Response). gives q l (entry.Failed node failed)) e.request e.so.2
    ∙ ap₂ (λ (a b : Bool). a && b) (eq-eqb node node refl) (same_truth failed))
answers_may past (entry.Done node how) (payload, ended, is, (id, e)) = other_may past (entry.Done node how) (no_question past (ap is_question e.request))
answers_may past (entry.InterviewFailed node) (how, brings, (id, e)) = other_may past (entry.InterviewFailed node) (no_question past (ap is_question e.request))
answers_may past (entry.Interviewed node) (types, classes, capability, (id, e)) = other_may past (entry.Interviewed node) (no_question past (ap is_question e.request))
answers_may past (entry.Unkept node) (inl owes) = other_may past (entry.Unkept node) (owes_none past owes)
answers_may past (entry.Unkept node) (inr (how, (id, e))) = other_may past (entry.Unkept node) (no_question past (ap is_question e.request))
answers_may past (entry.Dropped Host) tells = refl
answers_may past (entry.Dropped Chip) tells = other_may past (entry.Dropped Chip) (owes_none past tells)
answers_may past (entry.Garbled Host unit) tells = refl
answers_may past (entry.Garbled Chip unit) tells = other_may past (entry.Garbled Chip unit) (owes_none past tells)
answers_may past (entry.Overrun Host) tells = refl
answers_may past (entry.Overrun Chip) tells = other_may past (entry.Overrun Chip) (owes_none past tells)
answers_may past e tells = other_may past e (owes_none past tells)
