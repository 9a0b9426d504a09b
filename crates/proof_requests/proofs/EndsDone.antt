-- A SendData that ends in the host ends by the transcript in the way that is said of it.
use Rattle.std.proofs.Common.{◌≡◌, ℕ, ◌==◌, ◌&&◌, Bool, true, false, List, [], ◌∷◌, refl, sym, ap, ap₂, ◌∙◌}
use Rattle.std.proofs.lemmas.Bool.{eq-eqb, eqb-true}
use Rattle.chip_functions.specs.Notice.{status_code}
use Rattle.chip_functions.specs.Response.{response_function}
use Rattle.chip_functions.specs.declared.function.TheConstants.{SEND_DATA}
use Rattle.chip_functions.specs.declared.notice.Notice.{Notice}
use Rattle.chip_functions.specs.declared.notice.TransmitStatus.{TransmitStatus}
use Rattle.chip_functions.specs.declared.notice.TransmitStatus.TheVariants.{CompleteOk, NoAck, Fail, NotIdle, NoRoute}
use Rattle.chip_functions.specs.declared.notice.Update.{Update}
use Rattle.chip_functions.specs.declared.request.Request.{Request}
use Rattle.chip_functions.specs.declared.response.Response.{Response}
use Rattle.chip_functions.specs.declared.response.Response.TheVariants as responses
use Rattle.zw_text.specs.declared.entry.Entry.{Entry}
use Rattle.proof_waking.specs.law_time.Ends.{calls_back, ends_here, is_called_back}
use Rattle.host_requests.specs.Frames.{function_of, request_of, send}
use Rattle.host_requests.specs.Next.{purpose_ends_at_update}
use Rattle.host_requests.specs.declared.end.How.{How}
use Rattle.host_requests.specs.declared.end.How.TheVariants.{AtCallback, AtResponse, AtUpdate, Refused, Silent, LinkFailed, AbortSent}
use Rattle.host_requests.specs.declared.task.Task.TheVariants.{Plain, Offer, Segment, NoMore, First, Second, Members, Neighbours, IsFailed, Version, MemoryId, Capabilities}
use Rattle.host_requests.specs.declared.task.Purpose.{Purpose}
use Rattle.host_requests.specs.declared.task.Purpose.TheVariants.{Housekeeping, Attempt, Abort}
use Rattle.proof_messages.specs.host_model.Ends.{done_of}
use Rattle.proof_requests.specs.Ends.{EndsHere, IsLast}

abbrev pub IsSending : Purpose → Type 0
IsSending purpose = (function_of purpose == SEND_DATA) ≡ true

record IsSendOf (purpose : Purpose) (id : ℕ) : Type 0 where
  node : ℕ
  payload : List ℕ
  is : request_of purpose id ≡ send node payload id

no_send : {A : Type 0} → false ≡ true → A
no_send bad = absurd (let b : false ≡ true = bad in cc)

send_is : (purpose : Purpose) (id : ℕ) → IsSending purpose → IsSendOf purpose id
send_is (Housekeeping (Plain n payload)) id sends = record { node = n; payload = payload; is = refl }
send_is (Housekeeping (Offer n nonce)) id sends = record { node = n; payload = 152 ∷ 128 ∷ nonce; is = refl }
send_is (Housekeeping (Segment n payload)) id sends = record { node = n; payload = payload; is = refl }
send_is (Housekeeping (NoMore n)) id sends = record { node = n; payload = 132 ∷ 8 ∷ []; is = refl }
send_is (Housekeeping (First n)) id sends = no_send sends
send_is (Housekeeping (Second n)) id sends = no_send sends
send_is (Housekeeping Members) id sends = no_send sends
send_is (Housekeeping (Neighbours n)) id sends = no_send sends
send_is (Housekeeping (IsFailed n)) id sends = no_send sends
send_is (Housekeeping Version) id sends = no_send sends
send_is (Housekeeping MemoryId) id sends = no_send sends
send_is (Housekeeping Capabilities) id sends = no_send sends
send_is (Attempt n more payload) id sends = record { node = n; payload = payload; is = refl }
send_is Abort id sends = no_send sends

-- the response to it does not end it
never_last : (response : Response) → IsLast response → (response_function response == SEND_DATA) ≡ true → ⊥
never_last (responses.SendData answer) last same = last
never_last (responses.RequestNodeInfo answer) last same = last
never_last (responses.GetInitData v c nodes t u) last same = no_send same
never_last (responses.GetCapabilities v r m t p functions) last same = no_send same
never_last (responses.GetVersion text t) last same = no_send same
never_last (responses.MemoryGetId home n) last same = no_send same
never_last (responses.GetNodeProtocolInfo c s r b g t) last same = no_send same
never_last (responses.IsFailedNode failed) last same = no_send same
never_last (responses.GetRoutingInfo nodes) last same = no_send same

-- nor does a node's information
never_informs : (update : Update) (purpose : Purpose) → IsSending purpose → purpose_ends_at_update update purpose ≡ true → ⊥
never_informs update (Housekeeping (Second n)) sends ends = no_send sends
never_informs update (Housekeeping (Plain n payload)) sends ends = no_send ends
never_informs update (Housekeeping (Offer n nonce)) sends ends = no_send ends
never_informs update (Housekeeping (Segment n payload)) sends ends = no_send ends
never_informs update (Housekeeping (NoMore n)) sends ends = no_send ends
never_informs update (Housekeeping (First n)) sends ends = no_send ends
never_informs update (Housekeeping Members) sends ends = no_send ends
never_informs update (Housekeeping (Neighbours n)) sends ends = no_send ends
never_informs update (Housekeeping (IsFailed n)) sends ends = no_send ends
never_informs update (Housekeeping Version) sends ends = no_send ends
never_informs update (Housekeeping MemoryId) sends ends = no_send ends
never_informs update (Housekeeping Capabilities) sends ends = no_send ends
never_informs update (Attempt n more payload) sends ends = no_send ends
never_informs update Abort sends ends = no_send ends

called_back : (past : List Entry) (id : ℕ) (purpose : Purpose) (status : TransmitStatus) → IsSending purpose → EndsHere past id purpose (AtCallback status)
    → is_called_back (status_code status) past ≡ true
called_back past id purpose status sends e =
    let sent = send_is purpose id sends in
    ap₂ (λ (a b : Bool). a && b)
    (ap₂ (λ (q : List Request) (l : List Notice). calls_back (status_code status) q l) (e.request ∙ ap (λ (r : Request). r ∷ []) sent.is) e.so.1
    ∙ ap₂ (λ (a b : Bool). a && b) (eq-eqb id id refl) (eq-eqb (status_code status) (status_code status) refl))
    e.so.2

pub ends_as_done : (past : List Entry) (id : ℕ) (purpose : Purpose) (how : How) → IsSending purpose → EndsHere past id purpose how → ends_here past (done_of how) ≡ true
ends_as_done past id purpose (AtCallback CompleteOk) sends e = called_back past id purpose CompleteOk sends e
ends_as_done past id purpose (AtCallback NoAck) sends e = called_back past id purpose NoAck sends e
ends_as_done past id purpose (AtCallback Fail) sends e = called_back past id purpose Fail sends e
ends_as_done past id purpose (AtCallback NotIdle) sends e = called_back past id purpose NotIdle sends e
ends_as_done past id purpose (AtCallback NoRoute) sends e = called_back past id purpose NoRoute sends e
ends_as_done past id purpose (AtResponse response) sends e =
    let same : response_function response ≡ function_of purpose = eqb-true (response_function response) (function_of purpose) e.so.0 in
    absurd (never_last response e.so.1 (ap (λ (f : ℕ). f == SEND_DATA) same ∙ sends))
ends_as_done past id purpose (AtUpdate update first) sends e = absurd (never_informs update purpose sends e.so.0)
ends_as_done past id purpose Refused sends e = e.so.1
ends_as_done past id purpose Silent sends e = e.so
ends_as_done past id purpose LinkFailed sends e = e.so
ends_as_done past id purpose AbortSent sends e = no_send (sym (ap (λ (p : Purpose). function_of p == SEND_DATA) e.so) ∙ sends)
