-- What a host notes where its request ends, and where a node has had its third attempt, is what the transcript has for that end.
use Rattle.std.proofs.Common.{◌≡◌, ◌⊎◌, ℕ, ◌&&◌, ◌||◌, not, Bool, true, false, if◌then◌else◌, inl, inr, List, [], ◌∷◌, ◌++◌, Option, Some, None, refl, sym, ap, ap₂, ◌∙◌, subst}
use Rattle.std.specs.Prelude.{◌==◌, IsSome, Result, Ok, Err, filter, slice_index}
use Rattle.std.specs.List.{flat_map, list_all, list_any}
use Rattle.std.proofs.lemmas.Bool.{and_left, and_right, eqb-true, or_left, or_right}
use Rattle.supervision.specs.Host.{open_session}
use Rattle.chip_functions.specs.Field.{IsNode}
use Rattle.chip_functions.specs.Notice.{notice_of, status_code}
use Rattle.chip_functions.specs.Response.{response_of}
use Rattle.chip_functions.specs.declared.notice.Notice.{Notice}
use Rattle.chip_functions.specs.declared.notice.TransmitStatus.{TransmitStatus}
use Rattle.chip_functions.specs.declared.notice.TransmitStatus.TheVariants.{CompleteOk, NoAck, Fail, NotIdle, NoRoute}
use Rattle.chip_functions.specs.declared.notice.Update.TheVariants.{Received}
use Rattle.chip_functions.specs.declared.fault.BodyFault.{BodyFault}
use Rattle.chip_functions.specs.declared.request.Request.{Request}
use Rattle.chip_functions.specs.declared.request.Request.TheVariants as requests
use Rattle.chip_functions.specs.Request.{request_of as read_request}
use Rattle.chip_functions.specs.declared.response.Response.{Response}
use Rattle.chip_functions.specs.declared.response.Response.TheVariants as responses
use Rattle.zw_text.specs.declared.entry.Ended.TheVariants as ended
use Rattle.zw_text.specs.declared.entry.Entry.{Entry}
use Rattle.zw_text.specs.declared.entry.Entry.TheVariants as entry
use Rattle.zw_text.specs.Transcript.{sessions}
use Rattle.law_transcript.specs.Lists.{EachAfter}
use Rattle.law_transcript.specs.Units.{Carried, body_in, function_in, is_frame, notice_in, read_well, sending_of}
use Rattle.law_time.specs.Ends.{calls_back, ending, is_abort, is_answered_here, is_called_back, is_ending_here, is_given_up, is_silent, silence, wait_of, waits_before_failing}
use Rattle.law_time.specs.Interviews.{node_interviewed}
use Rattle.law_time.specs.Judged.{acknowledged, is_data, is_directly_after, is_following, judged, judged_here, last_of, notices_here, response_in, responses_here}
use Rattle.law_time.specs.Moments.{clock}
use Rattle.law_time.specs.Questions.{is_question}
use Rattle.law_time.specs.Requests.{Judging, are_none, asked, failing, is_response_to, request_last}
use Rattle.law_time.specs.Sessions.{is_open}
use Rattle.law_time.specs.Waking.{is_awake_sleeper, nodes_told}
use Rattle.host_requests.specs.Frames.{request_of}
use Rattle.host_requests.specs.declared.end.How.{How}
use Rattle.host_requests.specs.declared.end.How.TheVariants.{AtCallback, AtResponse, AtUpdate, Refused, Silent, LinkFailed, AbortSent}
use Rattle.host_requests.specs.declared.task.Task.TheVariants.{Plain, Offer, Segment, NoMore, Second, Neighbours, IsFailed}
use Rattle.host_requests.specs.declared.task.Purpose.{Purpose}
use Rattle.host_requests.specs.declared.task.Purpose.TheVariants.{Housekeeping, Attempt, Abort}
use Rattle.host_node.specs.Facts.{NodeFacts}
use Rattle.host_node.specs.State.{is_open as has_open}
use Rattle.host_node.specs.Steps.{attempt_end, falls_asleep, tick_end}
use Rattle.host_node.specs.declared.attempt.AttemptEnd.{AttemptEnd}
use Rattle.host_node.specs.declared.attempt.AttemptEnd.TheVariants.{NoneRan, Again, Unanswered}
use Rattle.host_model.specs.State.{HostState, node_of}
use Rattle.host_model.specs.Sessions.{open_command}
use Rattle.host_model.specs.Ends.{PartEnd, Good, Passed_over, Bad, asleep_entry, attempt_entries, done_of, end_entries, failed_entry, neighbours_entry, out_entry, part_end, part_entries}
use Rattle.proof_rests.specs.proof_requests.law_host.Ends.{answer_to, sleep_note, sleep_notes}
use Rattle.proof_rests.specs.proof_requests.Carrying.{CarriesSo}
pub use Rattle.proof_rests.specs.proof_requests.Ends.{IsLate}
use Rattle.proof_rests.specs.proof_requests.Ends.{EndsHere, IsUntold as Untold_purpose, OwesNoEnd, TellsEnd}
use Rattle.proof_rests.specs.proof_requests.Ends.OwesNoEnd.{Aborted, Apart, Unended, Untold}
use Rattle.proof_rests.proofs.EndsDone.{ends_as_done}
use Rattle.proof_rests.proofs.Interviews.{interviews_may}
use Rattle.proof_rests.specs.proof_attempts.Carried.{CarriesWell, nodes_of}
use Rattle.proof_rests.proofs.Opening.{OpenLast, last_is, open_last}
use Rattle.proof_rests.proofs.Releasing.{opens}
use Rattle.proof_rests.proofs.Sleeping.{EndSo, attempt_so, tick_so}
use Rattle.proof_ends.specs.Ends.{AnswerNotes, DoneNotes, EndNotes, GivesUp, NotesNothing, errands_of, node_asked, nodes_asked, owes_end, seconds_of, tells_end}

-- ---- what a request is, by its purpose

abbrev pub asked_by : List Request → List ℕ
asked_by requests = flat_map node_asked (flat_map sending_of requests)

pub purpose_asks : (p : Purpose) (id : ℕ) → CarriesSo p → asked_by (request_of p id ∷ []) ≡ errands_of p
purpose_asks (Housekeeping (Plain n payload)) id carries = ap (λ (b : Bool). (if b then n ∷ [] else []) ++ []) carries
purpose_asks (Housekeeping (Segment n payload)) id carries = ap (λ (b : Bool). (if b then n ∷ [] else []) ++ []) carries
purpose_asks (Attempt n more payload) id carries = ap (λ (b : Bool). (if b then n ∷ [] else []) ++ []) carries
purpose_asks (Housekeeping (Offer n nonce)) id carries = refl
purpose_asks (Housekeeping (NoMore n)) id carries = refl
purpose_asks (Housekeeping task) id carries = refl
purpose_asks Abort id carries = refl

pub purpose_interviews : (p : Purpose) (id : ℕ) → node_interviewed (request_of p id ∷ []) ≡ seconds_of p
purpose_interviews (Housekeeping (Second n)) id = refl
purpose_interviews (Housekeeping task) id = refl
purpose_interviews (Attempt n more payload) id = refl
purpose_interviews Abort id = refl

-- ---- nothing is to be noted

untold_asks : (p : Purpose) (id : ℕ) → Untold_purpose p → asked_by (request_of p id ∷ []) ≡ []
untold_asks (Housekeeping (Segment n payload)) id untold = ap (λ (b : Bool). (if b then n ∷ [] else []) ++ []) untold
untold_asks (Attempt n more payload) id untold = ap (λ (b : Bool). (if b then n ∷ [] else []) ++ []) untold
untold_asks (Housekeeping (Plain n payload)) id untold = absurd untold
untold_asks (Housekeeping (Offer n nonce)) id untold = refl
untold_asks (Housekeeping (NoMore n)) id untold = refl
untold_asks (Housekeeping task) id untold = refl
untold_asks Abort id untold = refl

untold_none : (p : Purpose) (id : ℕ) → Untold_purpose p → (is_question (request_of p id ∷ []) ≡ false) × (node_interviewed (request_of p id ∷ []) ≡ [])
untold_none (Housekeeping (Plain n payload)) id untold = absurd untold
untold_none (Housekeeping (Second n)) id untold = absurd untold
untold_none (Housekeeping (Neighbours n)) id untold = absurd untold
untold_none (Housekeeping (IsFailed n)) id untold = absurd untold
untold_none (Housekeeping task) id untold = (refl, refl)
untold_none (Attempt n more payload) id untold = (refl, refl)
untold_none Abort id untold = (refl, refl)

untold_tells : (p : Purpose) (id : ℕ) → Untold_purpose p → tells_end (request_of p id ∷ []) ≡ false
untold_tells p id untold =
    let none = untold_none p id untold in
    ap₂ (λ (a b : Bool). a || b)
    (ap₂ (λ (a b : Bool). a || b) (ap (λ (l : List ℕ). not (are_none l)) (untold_asks p id untold)) none.0) (ap (λ (l : List ℕ). not (are_none l)) none.1)

abort_tells_none : (b : Bool) (read : Result Request BodyFault) → list_any is_abort (if b then read_well read else []) ≡ true → tells_end (if b then read_well read else []) ≡ false
abort_tells_none true (Ok requests.SendDataAbort) is = refl
abort_tells_none true (Ok request) is = absurd (let bad : false ≡ true = is in cc)
abort_tells_none true (Err fault) is = refl
abort_tells_none false read is = refl

pub owes_by : (past : List Entry) → OwesNoEnd past → owes_end past ≡ false
owes_by past (Apart none) = and_left (is_directly_after past && is_ending_here past) (tells_end (request_last past)) (and_left (is_directly_after past) (is_ending_here past) none)
owes_by past (Unended none) = and_left (is_directly_after past && is_ending_here past) (tells_end (request_last past)) (and_right (is_directly_after past) (is_ending_here past) none)
owes_by past (Aborted aborts) =
    and_right (is_directly_after past && is_ending_here past) (tells_end (request_last past))
    (abort_tells_none (is_frame (asked past).frame 0) (read_request (function_in (asked past).frame) (body_in (asked past).frame)) aborts)
owes_by past (Untold purpose id request untold) =
    and_right (is_directly_after past && is_ending_here past) (tells_end (request_last past)) (ap tells_end request ∙ untold_tells purpose id untold)

-- ---- it ends here

pub second_of : (a b : Bool) → (a && b) ≡ true → b ≡ true
second_of true b is = is
second_of false b is = absurd (let bad : false ≡ true = is in cc)

pub answered_ends : (past : List Entry) → is_answered_here past ≡ true → is_ending_here past ≡ true
answered_ends past is = second_of _ (is_ending_here past) is

-- in which ways it ends outside of a tick
abbrev pub IsLoud : How → Type 0
IsLoud Silent = ⊥
IsLoud how = Unit {0}

abbrev ends_now : List Entry → Bool
ends_now past = is_ending_here past || is_given_up past

by_frame : (past : List Entry) → is_ending_here past ≡ true → ends_now past ≡ true
by_frame past is = or_left (is_ending_here past) (is_given_up past) is

pub loud_so : (past : List Entry) (id : ℕ) (p : Purpose) (how : How) → (p ≡ Abort → ⊥) → IsLoud how → EndsHere past id p how → (is_ending_here past || is_given_up past) ≡ true
loud_so past id p (AtCallback status) other loud e = by_frame past e.so.2
loud_so past id p (AtResponse response) other loud e = by_frame past (answered_ends past e.so.3)
loud_so past id p (AtUpdate update first) other loud e = by_frame past e.so.2
loud_so past id p Refused other loud e = by_frame past (answered_ends past (second_of _ (is_answered_here past) e.so.1))
loud_so past id p Silent other loud e = absurd loud
loud_so past id p LinkFailed other loud e = or_right (is_ending_here past) (is_given_up past) e.so
loud_so past id p AbortSent other loud e = absurd (other e.so)

pub late_so : (past : List Entry) (id : ℕ) (p : Purpose) (how : How) → IsLate how → EndsHere past id p how → (is_silent past || is_given_up past) ≡ true
late_so past id p Silent late e = or_left (is_silent past) (is_given_up past) e.so
late_so past id p LinkFailed late e = or_right (is_silent past) (is_given_up past) e.so
late_so past id p how late e = absurd late

-- ---- it has not ended well

none_list : {A : Type 0} (l : List A) → are_none l ≡ true → l ≡ []
none_list [] is = refl
none_list (x ∷ l) is = absurd (let bad : false ≡ true = is in cc)

none_any : (past : List Entry) → ending (asked past) ≡ [] → is_called_back 0 past ≡ false
none_any past none =
    and_right (calls_back 0 (request_last past) (notices_here past)) (is_ending_here past)
    (and_right (is_following past) (list_any (λ one. one.place == acknowledged past) (ending (asked past))) (ap (λ (l : List Judging). list_any (λ one. one.place == acknowledged past) l) none))

pub silent_none : (past : List Entry) → is_silent past ≡ true → ending (asked past) ≡ []
silent_none past is = by (are_none (ending (asked past))) refl is
  where
    waits : List ℕ
    waits = filter (λ wait. list_all (waits_before_failing wait) (failing (asked past))) (wait_of (asked past))

    by : (b : Bool) → are_none (ending (asked past)) ≡ b → list_any (λ tick. tick == clock past) (if b then waits else []) ≡ true → ending (asked past) ≡ []
    by true none is = none_list (ending (asked past)) none
    by false none is = absurd (let bad : false ≡ true = is in cc)

pub given_none : (past : List Entry) → is_given_up past ≡ true → ending (asked past) ≡ []
given_none past is = by (are_none (ending (asked past))) refl is
  where
    by : (b : Bool) → are_none (ending (asked past)) ≡ b
        → list_any (λ tick. tick == clock past) (if b && are_none (silence (asked past)) then flat_map (λ fails. fails.tick ∷ []) (failing (asked past)) else []) ≡ true → ending (asked past) ≡ []
    by true none is = none_list (ending (asked past)) none
    by false none is = absurd (let bad : false ≡ true = is in cc)

-- what is a response is no notice
response_none : (unit : List ℕ) → is_frame unit 1 ≡ true → notice_in unit ≡ []
response_none unit is =
    let kind : slice_index unit 2 ≡ 1 = eqb-true (slice_index unit 2) 1 (second_of (is_data unit) (slice_index unit 2 == 1) is) in
    let other : is_frame unit 0 ≡ false = and_right (is_data unit) (slice_index unit 2 == 0) (ap (λ (k : ℕ). k == 0) kind) in
    ap (λ (b : Bool). if b then read_well (notice_of (function_in unit) (body_in unit)) else []) other

is_response : (frame unit : List ℕ) → is_response_to frame unit ≡ true → is_frame unit 1 ≡ true
is_response frame unit is = by (is_frame unit 1) refl (second_of (function_in unit == function_in frame) (not (are_none (response_in unit))) is)
  where
    by : (b : Bool) → is_frame unit 1 ≡ b → not (are_none (if b then read_well (response_of (function_in unit) (body_in unit)) else [])) ≡ true → is_frame unit 1 ≡ true
    by true same some = same
    by false same some = absurd (let bad : false ≡ true = some in cc)

-- of one unit at most
abbrev AtMostOne : List (List ℕ) → Type 0
AtMostOne l = (l ≡ []) ⊎ ((unit : List ℕ) × (l ≡ unit ∷ []))

abbrev pub View : {A : Type 0} → List A → Type 0
View {A = A} l = (l ≡ []) ⊎ ((front : List A) × (last : A) × (l ≡ front ++ last ∷ []))

pub view : {A : Type 0} (l : List A) → View l
view [] = inl refl
view {A = A} (x ∷ l) = by (view l)
  where
    by : View l → View (x ∷ l)
    by (inl none) = inr ([], x, ap (λ (m : List A). x ∷ m) none)
    by (inr (front, last, is)) = inr (x ∷ front, last, ap (λ (m : List A). x ∷ m) is)

last_short : (l : List (List ℕ)) → AtMostOne (last_of l)
last_short l = by (view l)
  where
    by : View l → AtMostOne (last_of l)
    by (inl none) = inl (ap (λ (k : List (List ℕ)). last_of k) none)
    by (inr (front, last, is)) = inr (last, ap (λ (k : List (List ℕ)). last_of k) is ∙ last_is front last)

here_short : (past : List Entry) → AtMostOne (judged_here past)
here_short past = by (is_following past)
  where
    by : (b : Bool) → AtMostOne (if b then last_of (judged past) else [])
    by true = last_short (judged past)
    by false = inl refl

pub answered_none : (past : List Entry) → is_answered_here past ≡ true → notices_here past ≡ []
answered_none past is = by (judged_here past) (here_short past) (first_of (list_any (is_response_to (asked past).frame) (judged_here past)) (is_ending_here past) is)
  where
    first_of : (a b : Bool) → (a && b) ≡ true → a ≡ true
    first_of true b is = refl
    first_of false b is = is

    either_none : (b : Bool) → (b || false) ≡ true → b ≡ true
    either_none true is = refl
    either_none false is = is

    by : (l : List (List ℕ)) → AtMostOne l → list_any (is_response_to (asked past).frame) l ≡ true → flat_map notice_in l ≡ []
    by l (inl none) is = absurd (let bad : false ≡ true = sym (ap (λ (k : List (List ℕ)). list_any (is_response_to (asked past).frame) k) none) ∙ is in cc)
    by l (inr (unit, one)) is =
        let responds : is_response_to (asked past).frame unit ≡ true =
        either_none (is_response_to (asked past).frame unit) (sym (ap (λ (k : List (List ℕ)). list_any (is_response_to (asked past).frame) k) one) ∙ is) in
        ap (λ (k : List (List ℕ)). flat_map notice_in k) one ∙ ap (λ (k : List Notice). k ++ []) (response_none unit (is_response (asked past).frame unit responds))

no_notice : (past : List Entry) (request : Request) → request_last past ≡ request ∷ [] → notices_here past ≡ [] → is_called_back 0 past ≡ false
no_notice past request is none =
    and_left (calls_back 0 (request_last past) (notices_here past)) (is_ending_here past)
    (ap₂ (λ (q : List Request) (l : List Notice). calls_back 0 q l) is none ∙ by request)
  where
    by : (request : Request) → calls_back 0 (request ∷ []) [] ≡ false
    by (requests.SendData node payload options id) = refl
    by request = refl

pub badly : (past : List Entry) (id n : ℕ) (more : Bool) (payload : List ℕ) (how : How) → part_end more how ≡ Bad → EndsHere past id (Attempt n more payload) how → is_called_back 0 past ≡ false
badly past id n more payload (AtCallback status) bad e =
    and_left (calls_back 0 (request_last past) (notices_here past)) (is_ending_here past)
    (ap₂ (λ (q : List Request) (l : List Notice). calls_back 0 q l) e.request e.so.1 ∙ and_right (id == id) (status_code status == 0) (by status bad))
  where
    by : (s : TransmitStatus) → part_end more (AtCallback s) ≡ Bad → (status_code s == 0) ≡ false
    by CompleteOk bad = absurd (let wrong = bad in cc)
    by NoAck bad = refl
    by Fail bad = refl
    by NotIdle bad = refl
    by NoRoute bad = refl
badly past id n more payload (AtResponse response) bad e = no_notice past _ e.request (answered_none past e.so.3)
badly past id n more payload (AtUpdate update first) bad e = absurd (let wrong : false ≡ true = e.so.0 in cc)
badly past id n more payload Refused bad e = no_notice past _ e.request (answered_none past (second_of _ (is_answered_here past) e.so.1))
badly past id n more payload Silent bad e = none_any past (silent_none past e.so)
badly past id n more payload LinkFailed bad e = none_any past (given_none past e.so)
badly past id n more payload AbortSent bad e = absurd (let wrong = e.so in cc)

-- ---- the nodes of a host and its transcript

pub record NodesSo (past : List Entry) (g : HostState) : Type 0 where
  pub begun : (n : ℕ) → sessions n past ≡ (node_of g n).book.commands
  pub facts : (n : ℕ) → NodeFacts (node_of g n)
  pub sleeper : (n : ℕ) → IsNode n → is_awake_sleeper n past ≡ falls_asleep (node_of g n)
  pub opened : (n : ℕ) → is_open n past ≡ has_open (node_of g n)

pub asleep_is : (b : Bool) (n : ℕ) → asleep_entry b n ≡ (if b then entry.Asleep n ∷ [] else [])
asleep_is true n = refl
asleep_is false n = refl

-- all notes of the end of a request, which is no abort then; or it has none
abbrev pub Noted : List Entry → List Entry → ℕ → Purpose → How → Type 0
Noted past told id p how = (EndNotes past told × (told ≡ [] → ⊥) × (p ≡ Abort → ⊥) × EndsHere past id p how) ⊎ ((told ≡ []) × NotesNothing past)

not_none : (told more : List Entry) (e : Entry) → told ≡ e ∷ more → told ≡ [] → ⊥
not_none told more e are none = let bad : e ∷ more ≡ [] = sym are ∙ none in cc

-- what is known of a request that ends: it was asked, carries what it is for, and ends here where something is noted
pub record EndOf (past told : List Entry) (id : ℕ) (p : Purpose) (how : How) : Type 0 where
  pub request : request_last past ≡ request_of p id ∷ []
  pub carries : CarriesSo p
  pub well : CarriesWell p
  pub tells_so : nodes_told (asked past).frame ≡ nodes_of p
  pub ends : (e : Entry) (more : List Entry) → told ≡ e ∷ more → EndsHere past id p how

module _ (past : List Entry) (g : HostState) (nodes : NodesSo past g) where
  sleep_is : (n : ℕ) → IsNode n → sleep_note past n ≡ asleep_entry (falls_asleep (node_of g n)) n
  sleep_is n is = ap (λ (b : Bool). if b then entry.Asleep n ∷ [] else []) (nodes.sleeper n is) ∙ sym (asleep_is (falls_asleep (node_of g n)) n)

  -- ---- a command is given up

  opened_up : (told : List Entry) (n : ℕ) (fell : Bool) → IsNode n → fell ≡ falls_asleep (node_of g n) → IsSome (open_session (node_of g n).book)
      → ((open_session (node_of g n).book ≡ None) × (open_command (node_of g n) ≡ None)) ⊎ OpenLast (node_of g n) → told ≡ out_entry (open_command (node_of g n)) ++ asleep_entry fell n → GivesUp past n told
  opened_up told n fell is so opened (inl none) are = absurd (let bad : false ≡ true = subst IsSome none.0 opened in cc)
  opened_up told n fell is so opened (inr at) are = (
    nodes.opened n ∙ opened,
    at.command,
    ap (λ (l : List ℕ). last_of l) (nodes.begun n) ∙ at.last,
    are ∙ ap (λ (o : Option ℕ). out_entry o ++ asleep_entry fell n) at.opened
        ∙ ap (λ (l : List Entry). entry.Out at.command ended.Unanswered ∷ l) (ap (λ (b : Bool). asleep_entry b n) so ∙ sym (sleep_is n is)),
  )

  pub gives_up_so : (told : List Entry) (n : ℕ) (fell : Bool) → IsNode n → EndSo (node_of g n) (Unanswered fell) → told ≡ attempt_entries n (Unanswered fell) (open_command (node_of g n)) → GivesUp past n told
  gives_up_so told n fell is so are = opened_up told n fell is so.0 (opens (node_of g n).series (node_of g n) (nodes.facts n).series so.1) (open_last (node_of g n)) are

  -- in its tick
  ticked_by : (told : List Entry) (n : ℕ) (end : AttemptEnd) → IsNode n → EndSo (node_of g n) end → told ≡ attempt_entries n end (open_command (node_of g n)) → (told ≡ []) ⊎ GivesUp past n told
  ticked_by told n NoneRan is so are = inl are
  ticked_by told n Again is so are = inl are
  ticked_by told n (Unanswered fell) is so are = inr (gives_up_so told n fell is so are)

  pub node_noted : (told : List Entry) (n : ℕ) → IsNode n → told ≡ attempt_entries n (tick_end (node_of g n)) (open_command (node_of g n)) → (told ≡ []) ⊎ GivesUp past n told
  node_noted told n is are = ticked_by told n (tick_end (node_of g n)) is (tick_so (node_of g n)) are

  -- ---- the request ends

  module _ (told : List Entry) (id : ℕ) (tells : EachAfter TellsEnd past told) where
    module _ (p : Purpose) (how : How) (end : EndOf past told id p how) where
      asks_so : nodes_asked past ≡ errands_of p
      asks_so = ap asked_by end.request ∙ purpose_asks p id end.carries

      interviews_so : node_interviewed (request_last past) ≡ seconds_of p
      interviews_so = ap node_interviewed end.request ∙ purpose_interviews p id

      no_sleep : nodes_of p ≡ [] → sleep_notes past ≡ []
      no_sleep none = ap (λ (l : List ℕ). flat_map (sleep_note past) l) (end.tells_so ∙ none)

      -- of which nothing is noted
      quiet_by : errands_of p ≡ [] → seconds_of p ≡ [] → sleep_notes past ≡ [] → told ≡ [] → Noted past told id p how
      quiet_by errands seconds sleeps none = inr (none, (asks_so ∙ errands, sleeps, interviews_so ∙ seconds))

      quiet_end : errands_of p ≡ [] → seconds_of p ≡ [] → nodes_of p ≡ [] → told ≡ [] → Noted past told id p how
      quiet_end errands seconds untold none = quiet_by errands seconds (no_sleep untold) none

      none_asked : errands_of p ≡ [] → DoneNotes past []
      none_asked errands = inl (asks_so ∙ errands, refl)

      -- no question, and no interview
      no_answer : seconds_of p ≡ [] → answer_to (request_of p id ∷ []) (responses_here past) ≡ [] → AnswerNotes past []
      no_answer seconds none = inl (interviews_so ∙ seconds, sym (ap (λ (q : List Request). answer_to q (responses_here past)) end.request ∙ none))

      -- of which one entry answers
      answered_end : (e : Entry) → told ≡ e ∷ [] → errands_of p ≡ [] → nodes_of p ≡ [] → (p ≡ Abort → ⊥) → AnswerNotes past (e ∷ []) → Noted past told id p how
      answered_end e are errands untold other answer =
          inl (
            record {
              done = [];
              answer = e ∷ [];
              outcome = [];
              are = are ∙ ap (λ (l : List Entry). l ++ e ∷ []) (sym (no_sleep untold));
              done_so = none_asked errands;
              answer_so = answer;
              outcome_so = inl refl;
            },
            not_none told [] e are,
            other,
            end.ends e [] are,
          )

    -- a Set or Get by itself
    plain_end : (n : ℕ) (payload : List ℕ) (how : How) → EndOf past told id (Housekeeping (Plain n payload)) how → told ≡ entry.Done n (done_of how) ∷ [] → Noted past told id (Housekeeping (Plain n payload)) how
    plain_end n payload how end are =
        let p : Purpose = Housekeeping (Plain n payload) in
        let e = end.ends (entry.Done n (done_of how)) [] are in
        inl (
          record {
            done = entry.Done n (done_of how) ∷ [];
            answer = [];
            outcome = [];
            are = are ∙ ap (λ (l : List Entry). entry.Done n (done_of how) ∷ (l ++ [])) (sym (no_sleep p how end refl));
            done_so = inr (n, done_of how, asks_so p how end, ends_as_done past id p how refl e, refl);
            answer_so = no_answer p how end refl refl;
            outcome_so = inl refl;
          },
          not_none told [] (entry.Done n (done_of how)) are,
          (λ (is : p ≡ Abort). let bad = is in cc),
          e,
        )

    -- a node is told that there is no more for it
    told_by : (n : ℕ) (how : How) (fell : Bool) → EndOf past told id (Housekeeping (NoMore n)) how → falls_asleep (node_of g n) ≡ fell → told ≡ asleep_entry fell n → Noted past told id (Housekeeping (NoMore n)) how
    told_by n how false end is are =
        let sleeps : sleep_notes past ≡ [] =
        ap (λ (l : List ℕ). flat_map (sleep_note past) l) end.tells_so ∙ ap (λ (l : List Entry). l ++ []) (sleep_is n end.well ∙ ap (λ (b : Bool). asleep_entry b n) is) in
        quiet_by (Housekeeping (NoMore n)) how end refl refl sleeps are
    told_by n how true end is are =
        let p : Purpose = Housekeeping (NoMore n) in
        let sleeps : sleep_notes past ≡ entry.Asleep n ∷ [] =
        ap (λ (l : List ℕ). flat_map (sleep_note past) l) end.tells_so ∙ ap (λ (l : List Entry). l ++ []) (sleep_is n end.well ∙ ap (λ (b : Bool). asleep_entry b n) is) in
        inl (
          record {
            done = [];
            answer = [];
            outcome = [];
            are = are ∙ ap (λ (l : List Entry). l ++ []) (sym sleeps);
            done_so = none_asked p how end refl;
            answer_so = no_answer p how end refl refl;
            outcome_so = inl refl;
          },
          not_none told [] (entry.Asleep n) are,
          (λ (is : p ≡ Abort). let bad = is in cc),
          end.ends (entry.Asleep n) [] are,
        )

    -- an interview fails
    second_end : (n : ℕ) (how : How) → EndOf past told id (Housekeeping (Second n)) how → told ≡ entry.InterviewFailed n ∷ [] → Noted past told id (Housekeeping (Second n)) how
    second_end n how end are =
        let p : Purpose = Housekeeping (Second n) in
        let one : TellsEnd past (entry.InterviewFailed n) = (subst (EachAfter TellsEnd past) are tells).0 in
        answered_end p how end (entry.InterviewFailed n) are refl refl (λ (is : p ≡ Abort). let bad = is in cc)
        (inr (n, interviews_so p how end, inr (interviews_may past (entry.InterviewFailed n) one, refl)))

    -- a question
    neighbours_end : (n : ℕ) (how : How) → EndOf past told id (Housekeeping (Neighbours n)) how → told ≡ neighbours_entry n how → Noted past told id (Housekeeping (Neighbours n)) how
    neighbours_end n (AtResponse (responses.GetRoutingInfo list)) end are =
        let p : Purpose = Housekeeping (Neighbours n) in
        let how : How = AtResponse (responses.GetRoutingInfo list) in
        let e = end.ends (entry.Neighbours n list) [] are in
        answered_end p how end (entry.Neighbours n list) are refl refl (λ (is : p ≡ Abort). let bad = is in cc)
        (inl (interviews_so p how end, sym (ap₂ (λ (q : List Request) (l : List Response). answer_to q l) end.request e.so.2)))
    neighbours_end n how end are = quiet_end (Housekeeping (Neighbours n)) how end refl refl refl are

    failed_end : (n : ℕ) (how : How) → EndOf past told id (Housekeeping (IsFailed n)) how → told ≡ failed_entry n how → Noted past told id (Housekeeping (IsFailed n)) how
    failed_end n (AtResponse (responses.IsFailedNode has_failed)) end are =
        let p : Purpose = Housekeeping (IsFailed n) in
        let how : How = AtResponse (responses.IsFailedNode has_failed) in
        let e = end.ends (entry.Failed n has_failed) [] are in
        answered_end p how end (entry.Failed n has_failed) are refl refl (λ (is : p ≡ Abort). let bad = is in cc)
        (inl (interviews_so p how end, sym (ap₂ (λ (q : List Request) (l : List Response). answer_to q l) end.request e.so.2)))
    failed_end n how end are = quiet_end (Housekeeping (IsFailed n)) how end refl refl refl are

    -- a part of an attempt
    attempt_by : (n : ℕ) (more : Bool) (payload : List ℕ) (how : How) (over : AttemptEnd) → part_end more how ≡ Bad → EndOf past told id (Attempt n more payload) how → EndSo (node_of g n) over
        → told ≡ attempt_entries n over (open_command (node_of g n)) → Noted past told id (Attempt n more payload) how
    attempt_by n more payload how NoneRan bad end so are = quiet_end (Attempt n more payload) how end refl refl refl are
    attempt_by n more payload how Again bad end so are = quiet_end (Attempt n more payload) how end refl refl refl are
    attempt_by n more payload how (Unanswered fell) bad end so are =
        let p : Purpose = Attempt n more payload in
        let gives : GivesUp past n told = gives_up_so told n fell end.well.0 so are in
        let carried : Carried = record { node = n; payload = payload } in
        let e : EndsHere past id p how = end.ends (entry.Out gives.1 ended.Unanswered) (sleep_note past n) gives.3 in
        inl (
          record {
            done = [];
            answer = [];
            outcome = told;
            are = ap (λ (l : List Entry). l ++ told) (sym (no_sleep p how end refl));
            done_so = none_asked p how end refl;
            answer_so = no_answer p how end refl refl;
            outcome_so = inr (carried, ap (λ (q : List Request). flat_map sending_of q) end.request, badly past id n more payload how bad e, gives);
          },
          not_none told (sleep_note past n) (entry.Out gives.1 ended.Unanswered) gives.3,
          (λ (is : p ≡ Abort). let bad = is in cc),
          end.ends (entry.Out gives.1 ended.Unanswered) (sleep_note past n) gives.3,
        )

    part_by : (n : ℕ) (more : Bool) (payload : List ℕ) (how : How) (part : PartEnd) → part_end more how ≡ part → EndOf past told id (Attempt n more payload) how → told ≡ part_entries g n part → Noted past told id (Attempt n more payload) how
    part_by n more payload how Good is end are = quiet_end (Attempt n more payload) how end refl refl refl are
    part_by n more payload how Passed_over is end are = quiet_end (Attempt n more payload) how end refl refl refl are
    part_by n more payload how Bad is end are = attempt_by n more payload how (attempt_end (node_of g n)) is end (attempt_so (node_of g n)) are

    pub end_noted : (p : Purpose) (how : How) → EndOf past told id p how → told ≡ end_entries g (record { purpose = p; how = how }) → Noted past told id p how
    end_noted (Attempt n more payload) how end are = part_by n more payload how (part_end more how) refl end are
    end_noted (Housekeeping (Plain n payload)) how end are = plain_end n payload how end are
    end_noted (Housekeeping (NoMore n)) how end are = told_by n how (falls_asleep (node_of g n)) end refl are
    end_noted (Housekeeping (Second n)) how end are = second_end n how end are
    end_noted (Housekeeping (Neighbours n)) how end are = neighbours_end n how end are
    end_noted (Housekeeping (IsFailed n)) how end are = failed_end n how end are
    end_noted (Housekeeping task) how end are = quiet_end (Housekeeping task) how end refl refl refl are
    end_noted Abort how end are = quiet_end Abort how end refl refl refl are

    -- an interview whose information came, whether that is kept or not
    pub interview_noted : (n basic generic specific : ℕ) (classes : List ℕ) (capability : ℕ) → EndOf past told id (Housekeeping (Second n)) (AtUpdate (Received n basic generic specific classes) (Some capability))
        → (told ≡ entry.Interviewed n ∷ []) ⊎ (told ≡ entry.Unkept n ∷ []) → Noted past told id (Housekeeping (Second n)) (AtUpdate (Received n basic generic specific classes) (Some capability))
    interview_noted n basic generic specific classes capability end are = by are
      where
        how : How
        how = AtUpdate (Received n basic generic specific classes) (Some capability)

        p : Purpose
        p = Housekeeping (Second n)

        well : (e : Entry) → told ≡ e ∷ [] → AnswerNotes past (e ∷ []) → Noted past told id p how
        well e is answer = answered_end p how end e is refl refl (λ (same : p ≡ Abort). let bad = same in cc) answer

        by : (told ≡ entry.Interviewed n ∷ []) ⊎ (told ≡ entry.Unkept n ∷ []) → Noted past told id p how
        by (inl is) =
            let e = end.ends (entry.Interviewed n) [] is in
            well (entry.Interviewed n) is
            (inr (n, interviews_so p how end, inl (interviews_may past (entry.Interviewed n) ((basic, generic, specific), classes, capability, (id, e)), inl refl)))
        by (inr is) =
            let e = end.ends (entry.Unkept n) [] is in
            well (entry.Unkept n) is
            (inr (n, interviews_so p how end, inl (interviews_may past (entry.Interviewed n) ((basic, generic, specific), classes, capability, (id, e)), inr refl)))
