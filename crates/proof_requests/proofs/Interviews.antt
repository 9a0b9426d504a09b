-- Where each end of a request is told as the transcript has it, interviews end as the transcript tells.
use Rattle.std.proofs.Common.{◌≡◌, ℕ, ◌&&◌, ◌||◌, not, Bool, true, false, if◌then◌else◌, List, [], ◌∷◌, refl, sym, ap, ◌∙◌}
use Rattle.std.specs.Prelude.{Option, Some, None, Result, Ok, Err}
use Rattle.std.specs.List.{list_any}
use Rattle.std.proofs.lemmas.Bool.{and_from, and_left, and_right, eq-eqb, or_left, or_right}
use Rattle.chip_functions.specs.declared.fault.BodyFault.{BodyFault}
use Rattle.chip_functions.specs.declared.notice.Update.{Update}
use Rattle.chip_functions.specs.declared.notice.Update.TheVariants.{Received, RequestFailed}
use Rattle.chip_functions.specs.declared.request.Request.{Request}
use Rattle.chip_functions.specs.declared.request.Request.TheVariants as requests
use Rattle.chip_functions.specs.declared.response.Response.TheVariants as responses
use Rattle.chip_functions.specs.Request.{request_of as read_request}
use Rattle.zw_words.specs.declared.side.Side.TheVariants.{Host, Chip}
use Rattle.zw_text.specs.declared.entry.Entry.{Entry}
use Rattle.zw_text.specs.declared.entry.Entry.TheVariants as entry
use Rattle.proof_waking.specs.law_transcript.Units.{body_in, function_in, is_frame, read_well}
use Rattle.proof_waking.specs.law_time.Moments.{Allows}
use Rattle.proof_waking.specs.law_time.Judged.{is_directly_after, is_mark, notices_here}
use Rattle.proof_waking.specs.law_time.Requests.{Judging, are_none, asked, asked_before, request_last}
use Rattle.proof_waking.specs.law_time.Ends.{ending, is_abort, is_ending_here, is_given_up, is_refused_here, is_silent}
use Rattle.proof_waking.specs.law_time.Interviews.{asks_information, asks_protocol, ends_unknown, ends_uninformed, fails, informs, is_known, may_end, node_interviewed, owes_end, says_none}
use Rattle.host_requests.specs.Frames.{request_of}
use Rattle.host_requests.specs.declared.end.How.{How}
use Rattle.host_requests.specs.declared.end.How.TheVariants.{AtCallback, AtResponse, AtUpdate, Refused, Silent, LinkFailed, AbortSent}
use Rattle.host_requests.specs.declared.task.Task.TheVariants.{Second}
use Rattle.host_requests.specs.declared.task.Purpose.{Purpose}
use Rattle.host_requests.specs.declared.task.Purpose.TheVariants.{Housekeeping, Attempt, Abort}
use Rattle.proof_requests.specs.Standing.{brought_of}
use Rattle.proof_requests.specs.Ends.{BringsNone, EndsHere, IsUntold, OwesNoEnd, TellsEnd}
use Rattle.proof_requests.specs.Ends.OwesNoEnd.{Aborted, Apart, Unended, Untold}
use Rattle.proof_requests.proofs.Ending.{first_of_four, last_of_four, second_of, third_of}

-- ---- requests that ask for no node's information

aborts_ask : (b : Bool) (read : Result Request BodyFault) → list_any is_abort (if b then read_well read else []) ≡ true → node_interviewed (if b then read_well read else []) ≡ []
aborts_ask true (Ok (requests.RequestNodeInfo node)) is = absurd (let bad : false ≡ true = is in cc)
aborts_ask true (Ok request) is = refl
aborts_ask true (Err fault) is = refl
aborts_ask false read is = refl

not_asking : (p : Purpose) (id : ℕ) → IsUntold p → node_interviewed (request_of p id ∷ []) ≡ []
not_asking (Housekeeping (Second n)) id untold = absurd untold
not_asking (Housekeeping task) id untold = refl
not_asking (Attempt n more payload) id untold = refl
not_asking Abort id untold = refl

abbrev ends_told : List Entry → ℕ → Bool
ends_told past node = informs node (notices_here past) || says_none (notices_here past)

none_interviewed : (past : List Entry) → node_interviewed (request_last past) ≡ [] → owes_end past ≡ false
none_interviewed past none =
    and_right (is_directly_after past && is_ending_here past) (list_any (ends_told past) (node_interviewed (request_last past))) (ap (λ (l : List ℕ). list_any (ends_told past) l) none)

owes_none : (past : List Entry) → OwesNoEnd past → owes_end past ≡ false
owes_none past (Apart none) =
    and_left (is_directly_after past && is_ending_here past) (list_any (ends_told past) (node_interviewed (request_last past))) (and_left (is_directly_after past) (is_ending_here past) none)
owes_none past (Unended none) =
    and_left (is_directly_after past && is_ending_here past) (list_any (ends_told past) (node_interviewed (request_last past))) (and_right (is_directly_after past) (is_ending_here past) none)
owes_none past (Aborted aborts) = none_interviewed past (aborts_ask (is_frame (asked past).frame 0) (read_request (function_in (asked past).frame) (body_in (asked past).frame)) aborts)
owes_none past (Untold purpose id request untold) = none_interviewed past (ap node_interviewed request ∙ not_asking purpose id untold)

-- ---- what the first request of an interview brought

-- a byte: a frame ended it
brought_some : (requests : List Request) (ends : List Judging) (capability : ℕ) → Some capability ≡ brought_of requests ends → are_none ends ≡ false
brought_some requests [] capability is = absurd (let bad : Some capability ≡ None = is in cc)
brought_some requests (one ∷ more) capability is = refl

-- nothing: none did
brought_none : (n : ℕ) (ends : List Judging) → None ≡ brought_of (requests.GetNodeProtocolInfo n ∷ []) ends → are_none ends ≡ true
brought_none n [] is = refl
brought_none n (one ∷ more) is = absurd (let bad = is in cc)

known_so : (past : List Entry) (id n capability : ℕ) (update : Update) → EndsHere past id (Housekeeping (Second n)) (AtUpdate update (Some capability)) → is_known n past ≡ true
known_so past id n capability update e =
    and_from (asks_protocol n _) (not (are_none (ending (asked_before past)))) (ap (asks_protocol n) e.follows ∙ eq-eqb n n refl)
    (ap not (brought_some _ (ending (asked_before past)) capability e.so.3))

unknown_so : (past : List Entry) (id n : ℕ) (update : Update) (first : Option ℕ) → first ≡ None → EndsHere past id (Housekeeping (Second n)) (AtUpdate update first) → is_known n past ≡ false
unknown_so past id n update first none e =
    and_right (asks_protocol n _) (not (are_none (ending (asked_before past))))
    (ap not (brought_none n (ending (asked_before past)) (sym none ∙ e.so.3 ∙ ap (λ (l : List Request). brought_of l (ending (asked_before past))) e.follows)))

-- ---- each entry

wrong : false ≡ true → ⊥
wrong is = cc

no_abort : (n : ℕ) → Housekeeping (Second n) ≡ Abort → ⊥
no_abort n is = cc

asks_it : (past : List Entry) (id n : ℕ) (how : How) → EndsHere past id (Housekeeping (Second n)) how → asks_information n (request_last past) ≡ true
asks_it past id n how e = ap (asks_information n) e.request ∙ eq-eqb n n refl

-- it fails in this way
uninformed : (past : List Entry) (n : ℕ) → asks_information n (request_last past) ≡ true → ends_uninformed past ≡ true → fails n past ≡ true
uninformed past n asks ends = and_from (asks_information n (request_last past)) (ends_uninformed past || ends_unknown n past) asks (or_left (ends_uninformed past) (ends_unknown n past) ends)

fails_so : (past : List Entry) (id n : ℕ) (how : How) → BringsNone how → EndsHere past id (Housekeeping (Second n)) how → fails n past ≡ true
fails_so past id n (AtCallback status) brings e = absurd (wrong e.so.0)
fails_so past id n (AtResponse (responses.RequestNodeInfo answer)) brings e = absurd e.so.1
fails_so past id n (AtResponse response) brings e = absurd (wrong e.so.0)
fails_so past id n (AtUpdate RequestFailed first) brings e =
    uninformed past n (asks_it past id n (AtUpdate RequestFailed first) e)
    (first_of_four (says_none (notices_here past) && is_ending_here past) (is_refused_here past) (is_silent past) (is_given_up past)
    (and_from (says_none (notices_here past)) (is_ending_here past) (ap says_none e.so.1) e.so.2))
fails_so past id n (AtUpdate (Received from basic generic specific classes) first) brings e =
    and_from (asks_information n (request_last past)) (ends_uninformed past || ends_unknown n past) (asks_it past id n (AtUpdate (Received from basic generic specific classes) first) e)
    (or_right (ends_uninformed past) (ends_unknown n past)
    (and_from (informs n (notices_here past) && is_ending_here past) (not (is_known n past))
    (and_from (informs n (notices_here past)) (is_ending_here past) (ap (informs n) e.so.1 ∙ e.so.0) e.so.2)
    (ap not (unknown_so past id n (Received from basic generic specific classes) first brings e))))
fails_so past id n Refused brings e =
    uninformed past n (asks_it past id n Refused e) (second_of (says_none (notices_here past) && is_ending_here past) (is_refused_here past) (is_silent past) (is_given_up past) e.so.1)
fails_so past id n Silent brings e =
    uninformed past n (asks_it past id n Silent e) (third_of (says_none (notices_here past) && is_ending_here past) (is_refused_here past) (is_silent past) (is_given_up past) e.so)
fails_so past id n LinkFailed brings e =
    uninformed past n (asks_it past id n LinkFailed e) (last_of_four (says_none (notices_here past) && is_ending_here past) (is_refused_here past) (is_silent past) (is_given_up past) e.so)
fails_so past id n AbortSent brings e = absurd (no_abort n e.so)

other_may : (past : List Entry) (e : Entry) → owes_end past ≡ false → (is_mark e || not (owes_end past)) ≡ true
other_may past e none = or_right (is_mark e) (not (owes_end past)) (ap not none)

pub interviews_may : (past : List Entry) (e : Entry) → TellsEnd past e → Allows may_end past e
interviews_may past (entry.Interviewed node) (types, classes, capability, (id, e)) =
    and_from (asks_information node (request_last past) && informs node (notices_here past) && is_ending_here past) (is_known node past)
    (and_from (asks_information node (request_last past) && informs node (notices_here past)) (is_ending_here past)
    (and_from (asks_information node (request_last past)) (informs node (notices_here past)) (ap (asks_information node) e.request ∙ eq-eqb node node refl) (ap (informs node) e.so.1 ∙ eq-eqb node node refl))
    e.so.2)
    (known_so past id node capability (Received node types.0 types.1 types.2 classes) e)
interviews_may past (entry.InterviewFailed node) (how, brings, (id, e)) = fails_so past id node how brings e
interviews_may past (entry.Unkept node) tells = refl
interviews_may past (entry.Neighbours node nodes) (id, e) = other_may past (entry.Neighbours node nodes) (none_interviewed past (ap node_interviewed e.request))
interviews_may past (entry.Failed node failed) (id, e) = other_may past (entry.Failed node failed) (none_interviewed past (ap node_interviewed e.request))
interviews_may past (entry.Done node how) (payload, ended, is, (id, e)) = other_may past (entry.Done node how) (none_interviewed past (ap node_interviewed e.request))
interviews_may past (entry.Dropped Host) tells = refl
interviews_may past (entry.Dropped Chip) tells = other_may past (entry.Dropped Chip) (owes_none past tells)
interviews_may past (entry.Garbled Host unit) tells = refl
interviews_may past (entry.Garbled Chip unit) tells = other_may past (entry.Garbled Chip unit) (owes_none past tells)
interviews_may past (entry.Overrun Host) tells = refl
interviews_may past (entry.Overrun Chip) tells = other_may past (entry.Overrun Chip) (owes_none past tells)
interviews_may past e tells = other_may past e (owes_none past tells)
