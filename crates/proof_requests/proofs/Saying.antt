-- What a frame of the chip makes of the request under way is what the transcript says of it.
use Rattle.std.proofs.Common.{◌≡◌, ◌⊎◌, ℕ, ◌==◌, ◌&&◌, ◌||◌, not, Bool, true, false, if◌then◌else◌, inl, inr, List, [], ◌∷◌, refl, sym, ap, ap₂, ◌∙◌}
use Rattle.std.specs.Prelude.{Option, Some, None, Result, Ok, Err, slice_index}
use Rattle.std.specs.List.{list_any}
use Rattle.std.proofs.lemmas.Bool.{and_right, both_ways, eq-eqb, eqb-true}
use Rattle.serial_frame.specs.Frame.{FrameParts, checksum, framed, kind_code}
use Rattle.serial_frame.specs.Items.{unit_text}
use Rattle.serial_frame.specs.declared.frame.Kind.{Kind}
use Rattle.serial_frame.specs.declared.frame.Kind.TheVariants as kind
use Rattle.serial_frame.specs.declared.unit.Unit.TheVariants.{Framed}
use Rattle.serial_link.specs.declared.turn.Turn.{Turn}
use Rattle.chip_functions.specs.Field.{Field, byte, coded, mask, read_as, ◌then◌}
use Rattle.chip_functions.specs.Notice.{notice_of}
use Rattle.chip_functions.specs.Place.{Place, Reading, ◌>>=◌, byte_from, start_of}
use Rattle.chip_functions.proofs.FieldLaws.{as_takes, bind_ok, ok_is}
use Rattle.chip_functions.specs.declared.fault.BodyFault.TheVariants.{Short}
use Rattle.chip_functions.specs.Request.{request_function}
use Rattle.chip_functions.specs.Response.{capabilities, capabilities_at, failed_code, failed_of, init_data, init_data_at, memory_id, memory_id_at, protocol_info, protocol_info_at, response_at, response_function, response_of, version, version_at}
use Rattle.chip_functions.specs.declared.fault.BodyFault.{BodyFault}
use Rattle.chip_functions.specs.declared.function.TheConstants.{GET_INIT_DATA, GET_CAPABILITIES, SEND_DATA, GET_VERSION, MEMORY_GET_ID, GET_NODE_PROTOCOL_INFO, REQUEST_NODE_INFO, IS_FAILED_NODE, GET_ROUTING_INFO}
use Rattle.chip_functions.specs.declared.notice.Notice.{Notice}
use Rattle.chip_functions.specs.declared.notice.Notice.TheVariants.{AddNode, ApplicationCommandHandler, ApplicationUpdate, SendData as CalledBack}
use Rattle.chip_functions.specs.declared.notice.TransmitStatus.{TransmitStatus}
use Rattle.chip_functions.specs.declared.notice.Update.{Update}
use Rattle.chip_functions.specs.declared.notice.Update.TheVariants.{Received, RequestFailed}
use Rattle.chip_functions.specs.declared.request.Request.{Request}
use Rattle.chip_functions.specs.declared.request.Request.TheVariants.{RequestNodeInfo}
use Rattle.chip_functions.specs.declared.response.Response.{Response}
use Rattle.chip_functions.specs.declared.response.Response.TheVariants as response
use Rattle.proof_waking.specs.law_transcript.Units.{body_in, function_in, notice_in, read_well, request_in}
use Rattle.proof_waking.specs.law_time.Judged.{response_in}
use Rattle.proof_waking.specs.law_time.Requests.{Judging, are_none, is_response_to}
use Rattle.proof_waking.specs.law_time.Ends.{ends_by, is_abort, is_abort_frame, is_callback, is_information, refuses}
use Rattle.host_requests.specs.Frames.{function_of, no_more_information, nonce_report, request_of, send}
use Rattle.host_requests.specs.Next.{at_response, capability_at, is_answered, is_sent, is_silent, is_update_of, judged, purpose_ends_at_update, taken}
use Rattle.host_requests.specs.declared.end.How.{How}
use Rattle.host_requests.specs.declared.end.How.TheVariants.{AtCallback, AtResponse, AtUpdate, Refused}
use Rattle.host_requests.specs.declared.next.Next.{Next}
use Rattle.host_requests.specs.declared.next.Next.TheVariants.{Ends, GoesOn}
use Rattle.host_requests.specs.declared.task.Task.TheVariants.{Plain, Offer, Segment, NoMore, First, Second, Members, Neighbours, IsFailed, Version, MemoryId, Capabilities}
use Rattle.host_requests.specs.declared.task.Purpose.{Purpose}
use Rattle.host_requests.specs.declared.task.Purpose.TheVariants.{Housekeeping, Attempt, Abort}
use Rattle.host_requests.specs.declared.under_way.Progress.{Progress}
use Rattle.host_requests.specs.declared.under_way.Progress.TheVariants.{Submitted, Sent, Answered}
use Rattle.host_requests.specs.declared.under_way.UnderWay.{UnderWay}
use Rattle.proof_waking.proofs.Bodies.{body_is}
use Rattle.proof_requests.specs.Standing.{Standing, brought_by, ends_now, responses_in}
use Rattle.proof_requests.proofs.Judging.{and_true, or_false}
use Rattle.proof_requests.specs.Asking.{AsProgress, IsUnderWay}
use Rattle.proof_requests.specs.Saying.{FrameSays, frame_next, kind_next, notice_next, response_next}
use Rattle.proof_requests.specs.Saying.FrameSays.{Leaves, Again, Takes, Finishes}

-- ---- the function of a response

read_says : {A : Type 0} (make : A → Response) (func : ℕ) → ((x : A) → response_function (make x) ≡ func) → (reading : Reading A) (r : Response) → (read_as make reading >>= λ x. Ok x.0) ≡ Ok r
    → response_function r ≡ func
read_says {A} make func is (Ok x) r so = let same : make x.0 ≡ r = cc in sym (ap response_function same) ∙ is x.0
read_says {A} make func is (Err fault) r so = absurd (let bad : Err fault ≡ Ok r = so in cc)

-- of a choice by the function, where one of the two is so
chosen : (func code : ℕ) (b : Bool) (first rest : Reading Response) (r : Response) → func == code ≡ b → ((first >>= λ x. Ok x.0) ≡ Ok r → response_function r ≡ code)
    → ((rest >>= λ x. Ok x.0) ≡ Ok r → response_function r ≡ func) → ((if b then first else rest) >>= λ x. Ok x.0) ≡ Ok r → response_function r ≡ func
chosen func code true first rest r is here there so = here so ∙ sym (eqb-true func code is)
chosen func code false first rest r is here there so = there so

pub response_is : (func : ℕ) (body : List ℕ) (r : Response) → response_of func body ≡ Ok r → response_function r ≡ func
unfolding response_of response_at init_data_at capabilities_at version_at memory_id_at protocol_info_at
response_is func body r so =
    chosen func GET_INIT_DATA (func == GET_INIT_DATA) _ _ r refl (read_says (λ x. response.GetInitData x.0 x.1.0 x.1.1.1.0 x.1.1.1.1.0 x.1.1.1.1.1) GET_INIT_DATA (λ x. refl) (init_data.read (start_of body)) r)
    (chosen func GET_CAPABILITIES (func == GET_CAPABILITIES) _ _ r refl (read_says (λ x. response.GetCapabilities x.0 x.1.0 x.1.1.0 x.1.1.1.0 x.1.1.1.1.0 x.1.1.1.1.1) GET_CAPABILITIES (λ x. refl) (capabilities.read (start_of body)) r)
    (chosen func SEND_DATA (func == SEND_DATA) _ _ r refl (read_says (λ answer. response.SendData answer) SEND_DATA (λ x. refl) (byte.read (start_of body)) r)
    (chosen func GET_VERSION (func == GET_VERSION) _ _ r refl (read_says (λ x. response.GetVersion x.0 x.1) GET_VERSION (λ x. refl) (version.read (start_of body)) r)
    (chosen func MEMORY_GET_ID (func == MEMORY_GET_ID) _ _ r refl (read_says (λ x. response.MemoryGetId x.0 x.1) MEMORY_GET_ID (λ x. refl) (memory_id.read (start_of body)) r)
    (chosen func GET_NODE_PROTOCOL_INFO (func == GET_NODE_PROTOCOL_INFO) _ _ r refl (read_says (λ x. response.GetNodeProtocolInfo x.0 x.1.0 x.1.1.0 x.1.1.1.0 x.1.1.1.1.0 x.1.1.1.1.1) GET_NODE_PROTOCOL_INFO (λ x. refl) (protocol_info.read (start_of body)) r)
    (chosen func REQUEST_NODE_INFO (func == REQUEST_NODE_INFO) _ _ r refl (read_says (λ answer. response.RequestNodeInfo answer) REQUEST_NODE_INFO (λ x. refl) (byte.read (start_of body)) r)
    (chosen func IS_FAILED_NODE (func == IS_FAILED_NODE) _ _ r refl (read_says (λ failed. response.IsFailedNode failed) IS_FAILED_NODE (λ x. refl) ((coded failed_code failed_of).read (start_of body)) r)
    (chosen func GET_ROUTING_INFO (func == GET_ROUTING_INFO) _ _ r refl (read_says (λ nodes. response.GetRoutingInfo nodes) GET_ROUTING_INFO (λ x. refl) (mask.read (start_of body)) r)
    (λ so. absurd (let bad = so in cc)))))))))) so

-- the answer of one that says whether a request was taken is the first byte of its body
byte_says : (make : ℕ → Response) (body : List ℕ) (r : Response) → (read_as make (byte.read (start_of body)) >>= λ x. Ok x.0) ≡ Ok r → make (slice_index body 0) ≡ r
byte_says make [] r so = absurd (let bad = so in cc)
byte_says make (answer ∷ rest) r so = let same : make answer ≡ r = cc in same

send_answers : (body : List ℕ) (answer : ℕ) → response_of SEND_DATA body ≡ Ok (response.SendData answer) → slice_index body 0 ≡ answer
unfolding response_of response_at
send_answers body answer so = let same : response.SendData (slice_index body 0) ≡ response.SendData answer = byte_says (λ n. response.SendData n) body (response.SendData answer) so in cc

information_answers : (body : List ℕ) (answer : ℕ) → response_of REQUEST_NODE_INFO body ≡ Ok (response.RequestNodeInfo answer) → slice_index body 0 ≡ answer
unfolding response_of response_at
information_answers body answer so =
    let same : response.RequestNodeInfo (slice_index body 0) ≡ response.RequestNodeInfo answer = byte_says (λ n. response.RequestNodeInfo n) body (response.RequestNodeInfo answer) so in cc

-- and that of a node's capability is its first byte
protocol_byte : (a b c d e f x y z u v w : ℕ) → response.GetNodeProtocolInfo a b c d e f ≡ response.GetNodeProtocolInfo x y z u v w → a ≡ x
protocol_byte a b c d e f x y z u v w same = cc

byte_is : (body : List ℕ) (x : ℕ × Place) → byte_from 0 body ≡ Ok x → slice_index body 0 ≡ x.0
byte_is [] x so = absurd (let bad : Err (Short 1 0) ≡ Ok x = so in cc)
byte_is (b ∷ rest) x so = ap (λ (y : ℕ × Place). y.0) (ok_is (b, record { before = 1; rest = rest }) x so)

then_first : {B : Type 0} (second : Field B) (body : List ℕ) (x : ℕ × B) (q : Place) → (byte then second).read (start_of body) ≡ Ok (x, q) → slice_index body 0 ≡ x.0
then_first {B} second body x q so =
    let a = bind_ok (byte_from 0 body) (λ y. second.read y.1 >>= λ z. Ok ((y.0, z.0), z.1)) (x, q) so in
    let b = bind_ok (second.read a.0.1) (λ z. Ok ((a.0.0, z.0), z.1)) (x, q) a.2 in
    let made : (ℕ × B) × Place = ((a.0.0, b.0.0), b.0.1) in
    byte_is body a.0 a.1 ∙ ap (λ (y : (ℕ × B) × Place). y.0.0) (ok_is made (x, q) b.2)

protocol_answers : (body : List ℕ) (a b c d e f : ℕ) → response_of GET_NODE_PROTOCOL_INFO body ≡ Ok (response.GetNodeProtocolInfo a b c d e f) → slice_index body 0 ≡ a
unfolding response_of response_at protocol_info_at
protocol_answers body a b c d e f so =
    let r : Response = response.GetNodeProtocolInfo a b c d e f in
    let got = bind_ok (protocol_info_at (start_of body)) (λ x. Ok x.0) r so in
    let made = as_takes (λ x. response.GetNodeProtocolInfo x.0 x.1.0 x.1.1.0 x.1.1.1.0 x.1.1.1.1.0 x.1.1.1.1.1) (protocol_info.read (start_of body)) got.0.0 got.0.1 got.1 in
    let same : response.GetNodeProtocolInfo made.0.0 made.0.1.0 made.0.1.1.0 made.0.1.1.1.0 made.0.1.1.1.1.0 made.0.1.1.1.1.1 ≡ r = made.2 ∙ ok_is got.0.0 r got.2 in
    then_first (byte then byte then byte then byte then byte) body made.0 got.0.1 made.1 ∙ protocol_byte _ _ _ _ _ _ a b c d e f same

-- ---- frames as text

pub response_text : (func : ℕ) (body : List ℕ) (sum : ℕ) → response_in (framed (1 ∷ func ∷ body) sum) ≡ read_well (response_of func body)
response_text func body sum = ap (λ (b : List ℕ). read_well (response_of func b)) (body_is body func sum)

pub notice_text : (func : ℕ) (body : List ℕ) (sum : ℕ) → notice_in (framed (0 ∷ func ∷ body) sum) ≡ read_well (notice_of func body)
notice_text func body sum = ap (λ (b : List ℕ). read_well (notice_of func b)) (body_is body func sum)

byte_text : (func : ℕ) (body : List ℕ) (sum : ℕ) → slice_index (body_in (framed (1 ∷ func ∷ body) sum)) 0 ≡ slice_index body 0
byte_text func body sum = ap (λ (b : List ℕ). slice_index b 0) (body_is body func sum)

-- ---- what a request brings

other_request : (p : Purpose) (id : ℕ) (unit : List ℕ) → (function_of p == GET_NODE_PROTOCOL_INFO) ≡ false → brought_by (request_of p id ∷ []) unit ≡ None
other_request (Housekeeping (First n)) id unit other = absurd (let bad : true ≡ false = other in cc)
other_request (Housekeeping task) id unit other = refl
other_request (Attempt n more payload) id unit other = refl
other_request Abort id unit other = refl

protocol_request : (p : Purpose) (id : ℕ) (unit : List ℕ) → (function_of p == GET_NODE_PROTOCOL_INFO) ≡ true → brought_by (request_of p id ∷ []) unit ≡ Some (slice_index (body_in unit) 0)
protocol_request (Housekeeping (First n)) id unit same = refl
protocol_request (Housekeeping task) id unit same = absurd (let bad : false ≡ true = same in cc)
protocol_request (Attempt n more payload) id unit same = absurd (let bad : false ≡ true = same in cc)
protocol_request Abort id unit same = absurd (let bad : false ≡ true = same in cc)

-- ---- kinds of requests

pub same_function : (p : Purpose) (id : ℕ) → request_function (request_of p id) ≡ function_of p
same_function (Housekeeping (Plain n payload)) id = refl
same_function (Housekeeping (Offer n nonce)) id = refl
same_function (Housekeeping (Segment n payload)) id = refl
same_function (Housekeeping (NoMore n)) id = refl
same_function (Housekeeping (First n)) id = refl
same_function (Housekeeping (Second n)) id = refl
same_function (Housekeeping Members) id = refl
same_function (Housekeeping (Neighbours n)) id = refl
same_function (Housekeeping (IsFailed n)) id = refl
same_function (Housekeeping Version) id = refl
same_function (Housekeeping MemoryId) id = refl
same_function (Housekeeping Capabilities) id = refl
same_function (Attempt n more payload) id = refl
same_function Abort id = refl

pub record Sends (p : Purpose) (id : ℕ) : Type 0 where
  pub node : ℕ
  pub payload : List ℕ
  pub request : request_of p id ≡ send node payload id
  pub function : function_of p ≡ SEND_DATA
  pub no_update : (update : Update) → purpose_ends_at_update update p ≡ false

pub record Informs (p : Purpose) (id : ℕ) : Type 0 where
  pub node : ℕ
  pub request : request_of p id ≡ RequestNodeInfo node
  pub function : function_of p ≡ REQUEST_NODE_INFO
  pub update : (update : Update) → purpose_ends_at_update update p ≡ is_update_of node update

pub record Answers (p : Purpose) (id : ℕ) : Type 0 where
  pub ends : (first : Bool) (unit : List ℕ) → ends_by first unit (request_of p id) ≡ first
  pub no_sending : (function_of p == SEND_DATA) ≡ false
  pub no_information : (function_of p == REQUEST_NODE_INFO) ≡ false
  pub no_update : (update : Update) → purpose_ends_at_update update p ≡ false

abbrev pub Kinds : Purpose → ℕ → Type 0
Kinds p id = Sends p id ⊎ (Informs p id ⊎ Answers p id)

pub kinds : (p : Purpose) (id : ℕ) → Kinds p id
kinds (Housekeeping (Plain n payload)) id = inl (record { node = n; payload = payload; request = refl; function = refl; no_update = λ update. refl })
kinds (Housekeeping (Offer n nonce)) id = inl (record { node = n; payload = nonce_report nonce; request = refl; function = refl; no_update = λ update. refl })
kinds (Housekeeping (Segment n payload)) id = inl (record { node = n; payload = payload; request = refl; function = refl; no_update = λ update. refl })
kinds (Housekeeping (NoMore n)) id = inl (record { node = n; payload = no_more_information; request = refl; function = refl; no_update = λ update. refl })
kinds (Housekeeping (First n)) id = inr (inr (record { ends = λ first unit. refl; no_sending = refl; no_information = refl; no_update = λ update. refl }))
kinds (Housekeeping (Second n)) id = inr (inl (record { node = n; request = refl; function = refl; update = λ update. refl }))
kinds (Housekeeping Members) id = inr (inr (record { ends = λ first unit. refl; no_sending = refl; no_information = refl; no_update = λ update. refl }))
kinds (Housekeeping (Neighbours n)) id = inr (inr (record { ends = λ first unit. refl; no_sending = refl; no_information = refl; no_update = λ update. refl }))
kinds (Housekeeping (IsFailed n)) id = inr (inr (record { ends = λ first unit. refl; no_sending = refl; no_information = refl; no_update = λ update. refl }))
kinds (Housekeeping Version) id = inr (inr (record { ends = λ first unit. refl; no_sending = refl; no_information = refl; no_update = λ update. refl }))
kinds (Housekeeping MemoryId) id = inr (inr (record { ends = λ first unit. refl; no_sending = refl; no_information = refl; no_update = λ update. refl }))
kinds (Housekeeping Capabilities) id = inr (inr (record { ends = λ first unit. refl; no_sending = refl; no_information = refl; no_update = λ update. refl }))
kinds (Attempt n more payload) id = inl (record { node = n; payload = payload; request = refl; function = refl; no_update = λ update. refl })
kinds Abort id = inr (inr (record { ends = λ first unit. refl; no_sending = refl; no_information = refl; no_update = λ update. refl }))

unanswered_is : (s : Standing) (now : ℕ) (turn : Turn) (progress : Progress) → AsProgress s now turn progress → are_none (responses_in s) ≡ not (is_answered progress)
unanswered_is s now turn Submitted (busy, none) = ap (λ (l : List Judging). are_none l) none
unanswered_is s now turn (Sent left) (idle, none, other, sent, sent_is, since, some) = ap (λ (l : List Judging). are_none l) none
unanswered_is s now turn (Answered true left) (other, one, more, are, since, some, few, by) = ap (λ (l : List Judging). are_none l) are
unanswered_is s now turn (Answered false left) (other, one, more, are, since, some, few, by) = ap (λ (l : List Judging). are_none l) are

-- ---- what one says

module _ (s : Standing) (one : Judging) (now : ℕ) (turn : Turn) (id : ℕ) (u : UnderWay) (is : IsUnderWay s now turn id u) where
  -- whether it ends the request, by whether it is the first response
  ends_so : (first : Bool) → are_none (responses_in s) && is_response_to s.frame one.unit ≡ first → ends_now s one ≡ ends_by first one.unit (request_of u.purpose id) || false
  ends_so first is_first =
      ap (λ (l : List Request). list_any (ends_by (are_none (responses_in s) && is_response_to s.frame one.unit) one.unit) l) is.request
      ∙ ap (λ (b : Bool). ends_by b one.unit (request_of u.purpose id) || false) is_first

  ends_or_leaves : (b : Bool) (how : How) (next : Next) → is_silent how ≡ false → next ≡ (if b then Ends how else GoesOn u.progress) → is_response_to s.frame one.unit ≡ false → ends_now s one ≡ b
      → capability_at how ≡ brought_by (request_in s.frame) one.unit → FrameSays s one u next
  ends_or_leaves true how next loud next_is none ends brings = Finishes how next_is loud ends brings
  ends_or_leaves false how next loud next_is none ends brings = Leaves next_is none ends

  -- what it brings where it ends it
  brings_as : (request : Request) → request_of u.purpose id ≡ request → brought_by (request_in s.frame) one.unit ≡ brought_by (request ∷ []) one.unit
  brings_as request same = ap (λ (l : List Request). brought_by l one.unit) is.request ∙ ap (λ (q : Request). brought_by (q ∷ []) one.unit) same

  -- ---- a notice

  module _ (read : Result Notice BodyFault) (notices : notice_in one.unit ≡ read_well read) (none : is_response_to s.frame one.unit ≡ false) (first : Option ℕ) where
    not_first : are_none (responses_in s) && is_response_to s.frame one.unit ≡ false
    not_first = and_right (are_none (responses_in s)) (is_response_to s.frame one.unit) none

    sends_so : Sends u.purpose id → ends_now s one ≡ (list_any (is_callback id) (read_well read) || false) || false
    sends_so sends =
        ends_so false not_first ∙ ap (λ (r : Request). ends_by false one.unit r || false) sends.request
        ∙ ap (λ (l : List Notice). (list_any (is_callback id) l || false) || false) notices

    informs_so : (informs : Informs u.purpose id) → ends_now s one ≡ (list_any (is_information informs.node) (read_well read) || false) || false
    informs_so informs =
        ends_so false not_first ∙ ap (λ (r : Request). ends_by false one.unit r || false) informs.request
        ∙ ap (λ (l : List Notice). (list_any (is_information informs.node) l || false) || false) notices

    answers_so : Answers u.purpose id → ends_now s one ≡ false
    answers_so answers = ends_so false not_first ∙ ap (λ (b : Bool). b || false) (answers.ends false one.unit)

    leaves_none : (next : Next) → next ≡ GoesOn u.progress → ends_now s one ≡ false → FrameSays s one u next
    leaves_none next next_is ends = Leaves next_is none ends

-- the information that ends the question for it
information_is : (node : ℕ) (update : Update) → is_information node (ApplicationUpdate update) ≡ is_update_of node update
information_is node (Received n basic generic specific classes) = refl
information_is node RequestFailed = refl

or_none : (b : Bool) → (((b || false) || false) || false) ≡ b
or_none true = refl
or_none false = refl

module _ (s : Standing) (one : Judging) (now : ℕ) (turn : Turn) (id : ℕ) (u : UnderWay) (is : IsUnderWay s now turn id u) (none : is_response_to s.frame one.unit ≡ false) (first : Option ℕ) where
  called_back : (callback : ℕ) (status : TransmitStatus) → notice_in one.unit ≡ CalledBack callback status ∷ [] → Kinds u.purpose id → FrameSays s one u (notice_next id first (Ok (CalledBack callback status)) u)
  called_back callback status notices (inl sends) =
      ends_or_leaves s one now turn id u is (callback == id) (AtCallback status) (notice_next id first (Ok (CalledBack callback status)) u) refl
      (ap (λ (n : ℕ). if (n == SEND_DATA) && (callback == id) then Ends (AtCallback status) else GoesOn u.progress) sends.function) none
      (sends_so s one now turn id u is (Ok (CalledBack callback status)) notices none first sends ∙ or_none (callback == id))
      (sym (brings_as s one now turn id u is (send sends.node sends.payload id) sends.request))
  called_back callback status notices (inr (inl informs)) =
      leaves_none s one now turn id u is (Ok (CalledBack callback status)) notices none first _
      (ap (λ (n : ℕ). if (n == SEND_DATA) && (callback == id) then Ends (AtCallback status) else GoesOn u.progress) informs.function)
      (informs_so s one now turn id u is (Ok (CalledBack callback status)) notices none first informs)
  called_back callback status notices (inr (inr answers)) =
      leaves_none s one now turn id u is (Ok (CalledBack callback status)) notices none first _
      (ap (λ (b : Bool). if b && (callback == id) then Ends (AtCallback status) else GoesOn u.progress) answers.no_sending)
      (answers_so s one now turn id u is (Ok (CalledBack callback status)) notices none first answers)

  updated : (update : Update) → notice_in one.unit ≡ ApplicationUpdate update ∷ [] → Kinds u.purpose id → FrameSays s one u (notice_next id first (Ok (ApplicationUpdate update)) u)
  updated update notices (inl sends) =
      leaves_none s one now turn id u is (Ok (ApplicationUpdate update)) notices none first _
      (ap (λ (b : Bool). if b then Ends (AtUpdate update first) else GoesOn u.progress) (sends.no_update update))
      (sends_so s one now turn id u is (Ok (ApplicationUpdate update)) notices none first sends)
  updated update notices (inr (inl informs)) =
      ends_or_leaves s one now turn id u is (is_update_of informs.node update) (AtUpdate update first) (notice_next id first (Ok (ApplicationUpdate update)) u) refl
      (ap (λ (b : Bool). if b then Ends (AtUpdate update first) else GoesOn u.progress) (informs.update update)) none
      (informs_so s one now turn id u is (Ok (ApplicationUpdate update)) notices none first informs ∙ or_none (is_information informs.node (ApplicationUpdate update))
      ∙ information_is informs.node update)
      (sym (brings_as s one now turn id u is (RequestNodeInfo informs.node) informs.request))
  updated update notices (inr (inr answers)) =
      leaves_none s one now turn id u is (Ok (ApplicationUpdate update)) notices none first _
      (ap (λ (b : Bool). if b then Ends (AtUpdate update first) else GoesOn u.progress) (answers.no_update update))
      (answers_so s one now turn id u is (Ok (ApplicationUpdate update)) notices none first answers)

  -- any other notice, or none
  nothing_noticed : (read : Result Notice BodyFault) → notice_in one.unit ≡ read_well read → ((callback : ℕ) → list_any (is_callback callback) (read_well read) ≡ false)
      → ((node : ℕ) → list_any (is_information node) (read_well read) ≡ false) → (next : Next) → next ≡ GoesOn u.progress → Kinds u.purpose id → FrameSays s one u next
  nothing_noticed read notices no_callback no_information next next_is (inl sends) =
      Leaves next_is none (sends_so s one now turn id u is read notices none first sends ∙ ap (λ (b : Bool). (b || false) || false) (no_callback id))
  nothing_noticed read notices no_callback no_information next next_is (inr (inl informs)) =
      Leaves next_is none (informs_so s one now turn id u is read notices none first informs ∙ ap (λ (b : Bool). (b || false) || false) (no_information informs.node))
  nothing_noticed read notices no_callback no_information next next_is (inr (inr answers)) =
      Leaves next_is none (answers_so s one now turn id u is read notices none first answers)

  noticed : (read : Result Notice BodyFault) → notice_in one.unit ≡ read_well read → FrameSays s one u (notice_next id first read u)
  noticed (Ok (CalledBack callback status)) notices = called_back callback status notices (kinds u.purpose id)
  noticed (Ok (ApplicationUpdate update)) notices = updated update notices (kinds u.purpose id)
  noticed (Ok (ApplicationCommandHandler status source payload)) notices =
      nothing_noticed (Ok (ApplicationCommandHandler status source payload)) notices (λ callback. refl) (λ node. refl) _ refl (kinds u.purpose id)
  noticed (Ok (AddNode callback status said)) notices = nothing_noticed (Ok (AddNode callback status said)) notices (λ callback. refl) (λ node. refl) _ refl (kinds u.purpose id)
  noticed (Err fault) notices = nothing_noticed (Err fault) notices (λ callback. refl) (λ node. refl) _ refl (kinds u.purpose id)

-- ---- a response

module _ (s : Standing) (one : Judging) (now : ℕ) (turn : Turn) (id : ℕ) (u : UnderWay) (is : IsUnderWay s now turn id u) (quiet : notice_in one.unit ≡ []) where
  -- whether it ends the request, by whether it is the first response, and refuses
  refused_so : (first : Bool) → are_none (responses_in s) && is_response_to s.frame one.unit ≡ first → (sends : Sends u.purpose id) → ends_now s one ≡ (first && refuses one.unit) || false
  refused_so first is_first sends =
      ends_so s one now turn id u is first is_first ∙ ap (λ (r : Request). ends_by first one.unit r || false) sends.request
      ∙ ap (λ (l : List Notice). (list_any (is_callback id) l || (first && refuses one.unit)) || false) quiet

  uninformed_so : (first : Bool) → are_none (responses_in s) && is_response_to s.frame one.unit ≡ first → (informs : Informs u.purpose id) → ends_now s one ≡ (first && refuses one.unit) || false
  uninformed_so first is_first informs =
      ends_so s one now turn id u is first is_first ∙ ap (λ (r : Request). ends_by first one.unit r || false) informs.request
      ∙ ap (λ (l : List Notice). (list_any (is_information informs.node) l || (first && refuses one.unit)) || false) quiet

  answered_so : (first : Bool) → are_none (responses_in s) && is_response_to s.frame one.unit ≡ first → Answers u.purpose id → ends_now s one ≡ first || false
  answered_so first is_first answers = ends_so s one now turn id u is first is_first ∙ ap (λ (b : Bool). b || false) (answers.ends first one.unit)

  -- one that is not the first ends none
  not_first_ends : are_none (responses_in s) && is_response_to s.frame one.unit ≡ false → Kinds u.purpose id → ends_now s one ≡ false
  not_first_ends is_first (inl sends) = refused_so false is_first sends
  not_first_ends is_first (inr (inl informs)) = uninformed_so false is_first informs
  not_first_ends is_first (inr (inr answers)) = answered_so false is_first answers

  -- the first to a SendData or a RequestNodeInfo says whether it was taken
  taken_so : (answer : ℕ) (b : Bool) → (answer == 0) ≡ b → (next : Next) → next ≡ taken answer u → is_answered u.progress ≡ false → is_abort_frame s.frame ≡ false
      → is_response_to s.frame one.unit ≡ true → ends_now s one ≡ b → None ≡ brought_by (request_in s.frame) one.unit → FrameSays s one u next
  taken_so answer true refused next next_is fresh other responds ends brings =
      Finishes Refused (next_is ∙ ap (λ (b : Bool). if b then Ends Refused else GoesOn (Answered (is_sent u.progress) 65)) refused) refl ends brings
  taken_so answer false refused next next_is fresh other responds ends brings =
      Takes (next_is ∙ ap (λ (b : Bool). if b then Ends Refused else GoesOn (Answered (is_sent u.progress) 65)) refused) fresh other responds ends

  -- what the first response makes of it, by kind
  abbrev IsFirst : Type 0
  IsFirst = (are_none (responses_in s) && is_response_to s.frame one.unit) ≡ true

  first_says : (func : ℕ) (body : List ℕ) (r : Response) → response_of func body ≡ Ok r → func ≡ function_of u.purpose → slice_index (body_in one.unit) 0 ≡ slice_index body 0 → is_answered u.progress ≡ false
      → is_response_to s.frame one.unit ≡ true → IsFirst → Kinds u.purpose id → (next : Next) → next ≡ judged r u → FrameSays s one u next
  first_says func body r read func_is byte fresh responds is_first (inl sends) next next_is = by r read next_is
    where
      send_is : func ≡ SEND_DATA
      send_is = func_is ∙ sends.function

      no_abort : is_abort_frame s.frame ≡ false
      no_abort = ap (λ (l : List Request). list_any is_abort l) is.request ∙ ap (λ (q : Request). is_abort q || false) sends.request

      ends : (answer : ℕ) → response_of func body ≡ Ok (response.SendData answer) → ends_now s one ≡ (answer == 0)
      ends answer so =
          refused_so true is_first sends ∙ ap (λ (n : ℕ). (n == 0) || false) byte ∙ or_false (slice_index body 0 == 0)
          ∙ ap (λ (n : ℕ). n == 0) (send_answers body answer (ap (λ (n : ℕ). response_of n body) (sym send_is) ∙ so))

      wrong : (code : ℕ) → code ≡ func → (code == SEND_DATA) ≡ false → ⊥
      wrong code same other = both_ways (code == SEND_DATA) other (ap (λ (n : ℕ). n == SEND_DATA) (same ∙ send_is))

      by : (q : Response) → response_of func body ≡ Ok q → next ≡ judged q u → FrameSays s one u next
      by (response.SendData answer) so goes =
          taken_so answer (answer == 0) refl next goes fresh no_abort responds (ends answer so) (sym (brings_as s one now turn id u is (send sends.node sends.payload id) sends.request))
      by (response.GetInitData a b c d e) so goes = absurd (wrong GET_INIT_DATA (response_is func body (response.GetInitData a b c d e) so) refl)
      by (response.GetCapabilities a b c d e f) so goes = absurd (wrong GET_CAPABILITIES (response_is func body (response.GetCapabilities a b c d e f) so) refl)
      by (response.GetVersion a b) so goes = absurd (wrong GET_VERSION (response_is func body (response.GetVersion a b) so) refl)
      by (response.MemoryGetId a b) so goes = absurd (wrong MEMORY_GET_ID (response_is func body (response.MemoryGetId a b) so) refl)
      by (response.GetNodeProtocolInfo a b c d e f) so goes = absurd (wrong GET_NODE_PROTOCOL_INFO (response_is func body (response.GetNodeProtocolInfo a b c d e f) so) refl)
      by (response.RequestNodeInfo a) so goes = absurd (wrong REQUEST_NODE_INFO (response_is func body (response.RequestNodeInfo a) so) refl)
      by (response.IsFailedNode a) so goes = absurd (wrong IS_FAILED_NODE (response_is func body (response.IsFailedNode a) so) refl)
      by (response.GetRoutingInfo a) so goes = absurd (wrong GET_ROUTING_INFO (response_is func body (response.GetRoutingInfo a) so) refl)
  first_says func body r read func_is byte fresh responds is_first (inr (inl informs)) next next_is = by r read next_is
    where
      ask_is : func ≡ REQUEST_NODE_INFO
      ask_is = func_is ∙ informs.function

      no_abort : is_abort_frame s.frame ≡ false
      no_abort = ap (λ (l : List Request). list_any is_abort l) is.request ∙ ap (λ (q : Request). is_abort q || false) informs.request

      ends : (answer : ℕ) → response_of func body ≡ Ok (response.RequestNodeInfo answer) → ends_now s one ≡ (answer == 0)
      ends answer so =
          uninformed_so true is_first informs ∙ ap (λ (n : ℕ). (n == 0) || false) byte ∙ or_false (slice_index body 0 == 0)
          ∙ ap (λ (n : ℕ). n == 0) (information_answers body answer (ap (λ (n : ℕ). response_of n body) (sym ask_is) ∙ so))

      wrong : (code : ℕ) → code ≡ func → (code == REQUEST_NODE_INFO) ≡ false → ⊥
      wrong code same other = both_ways (code == REQUEST_NODE_INFO) other (ap (λ (n : ℕ). n == REQUEST_NODE_INFO) (same ∙ ask_is))

      by : (q : Response) → response_of func body ≡ Ok q → next ≡ judged q u → FrameSays s one u next
      by (response.RequestNodeInfo answer) so goes =
          taken_so answer (answer == 0) refl next goes fresh no_abort responds (ends answer so) (sym (brings_as s one now turn id u is (RequestNodeInfo informs.node) informs.request))
      by (response.GetInitData a b c d e) so goes = absurd (wrong GET_INIT_DATA (response_is func body (response.GetInitData a b c d e) so) refl)
      by (response.GetCapabilities a b c d e f) so goes = absurd (wrong GET_CAPABILITIES (response_is func body (response.GetCapabilities a b c d e f) so) refl)
      by (response.GetVersion a b) so goes = absurd (wrong GET_VERSION (response_is func body (response.GetVersion a b) so) refl)
      by (response.MemoryGetId a b) so goes = absurd (wrong MEMORY_GET_ID (response_is func body (response.MemoryGetId a b) so) refl)
      by (response.GetNodeProtocolInfo a b c d e f) so goes = absurd (wrong GET_NODE_PROTOCOL_INFO (response_is func body (response.GetNodeProtocolInfo a b c d e f) so) refl)
      by (response.SendData a) so goes = absurd (wrong SEND_DATA (response_is func body (response.SendData a) so) refl)
      by (response.IsFailedNode a) so goes = absurd (wrong IS_FAILED_NODE (response_is func body (response.IsFailedNode a) so) refl)
      by (response.GetRoutingInfo a) so goes = absurd (wrong GET_ROUTING_INFO (response_is func body (response.GetRoutingInfo a) so) refl)
  first_says func body r read func_is byte fresh responds is_first (inr (inr answers)) next next_is = by r read next_is
    where
      ends : ends_now s one ≡ true
      ends = answered_so true is_first answers

      asks : (q : Response) → response_of func body ≡ Ok q → function_of u.purpose ≡ response_function q
      asks q so = sym (response_is func body q so ∙ func_is)

      brings_none : (q : Response) → response_of func body ≡ Ok q → (response_function q == GET_NODE_PROTOCOL_INFO) ≡ false → None ≡ brought_by (request_in s.frame) one.unit
      brings_none q so other =
          sym (brings_as s one now turn id u is (request_of u.purpose id) refl ∙ other_request u.purpose id one.unit (ap (λ (n : ℕ). n == GET_NODE_PROTOCOL_INFO) (asks q so) ∙ other))

      brings_byte : (a b c d e f : ℕ) → response_of func body ≡ Ok (response.GetNodeProtocolInfo a b c d e f) → Some a ≡ brought_by (request_in s.frame) one.unit
      brings_byte a b c d e f so =
          let code : func ≡ GET_NODE_PROTOCOL_INFO = sym (response_is func body (response.GetNodeProtocolInfo a b c d e f) so) in
          sym (brings_as s one now turn id u is (request_of u.purpose id) refl
          ∙ protocol_request u.purpose id one.unit (ap (λ (n : ℕ). n == GET_NODE_PROTOCOL_INFO) (asks (response.GetNodeProtocolInfo a b c d e f) so))
          ∙ ap (λ (n : ℕ). Some n) (byte ∙ protocol_answers body a b c d e f (ap (λ (n : ℕ). response_of n body) (sym code) ∙ so)))

      wrong : (code : ℕ) → code ≡ func → (function_of u.purpose == code) ≡ false → ⊥
      wrong code same other = both_ways (function_of u.purpose == code) other (eq-eqb (function_of u.purpose) code (sym (same ∙ func_is)))

      by : (q : Response) → response_of func body ≡ Ok q → next ≡ judged q u → FrameSays s one u next
      by (response.SendData a) so goes = absurd (wrong SEND_DATA (response_is func body (response.SendData a) so) answers.no_sending)
      by (response.RequestNodeInfo a) so goes = absurd (wrong REQUEST_NODE_INFO (response_is func body (response.RequestNodeInfo a) so) answers.no_information)
      by (response.GetInitData a b c d e) so goes = Finishes (AtResponse (response.GetInitData a b c d e)) goes refl ends (brings_none (response.GetInitData a b c d e) so refl)
      by (response.GetCapabilities a b c d e f) so goes = Finishes (AtResponse (response.GetCapabilities a b c d e f)) goes refl ends (brings_none (response.GetCapabilities a b c d e f) so refl)
      by (response.GetVersion a b) so goes = Finishes (AtResponse (response.GetVersion a b)) goes refl ends (brings_none (response.GetVersion a b) so refl)
      by (response.MemoryGetId a b) so goes = Finishes (AtResponse (response.MemoryGetId a b)) goes refl ends (brings_none (response.MemoryGetId a b) so refl)
      by (response.GetNodeProtocolInfo a b c d e f) so goes = Finishes (AtResponse (response.GetNodeProtocolInfo a b c d e f)) goes refl ends (brings_byte a b c d e f so)
      by (response.IsFailedNode a) so goes = Finishes (AtResponse (response.IsFailedNode a)) goes refl ends (brings_none (response.IsFailedNode a) so refl)
      by (response.GetRoutingInfo a) so goes = Finishes (AtResponse (response.GetRoutingInfo a)) goes refl ends (brings_none (response.GetRoutingInfo a) so refl)

  -- a response, by whether its function is that of the request
  responded : (func : ℕ) (body : List ℕ) (r : Response) → response_of func body ≡ Ok r → is_response_to s.frame one.unit ≡ (func == function_of u.purpose)
      → slice_index (body_in one.unit) 0 ≡ slice_index body 0
      → FrameSays s one u (at_response r u)
  responded func body r read responds byte = by (is_answered u.progress) (func == function_of u.purpose) refl refl
    where
      unanswered : are_none (responses_in s) ≡ not (is_answered u.progress)
      unanswered = unanswered_is s now turn u.progress is.progress

      next_so : (answered same : Bool) → is_answered u.progress ≡ answered → (func == function_of u.purpose) ≡ same → at_response r u ≡ (if answered || not same then GoesOn u.progress else judged r u)
      next_so answered same answered_is same_is =
          ap (λ (b : Bool). if b || not (response_function r == function_of u.purpose) then GoesOn u.progress else judged r u) answered_is
          ∙ ap (λ (n : ℕ). if answered || not (n == function_of u.purpose) then GoesOn u.progress else judged r u) (response_is func body r read)
          ∙ ap (λ (b : Bool). if answered || not b then GoesOn u.progress else judged r u) same_is

      first_so : (answered same : Bool) → is_answered u.progress ≡ answered → (func == function_of u.purpose) ≡ same → are_none (responses_in s) && is_response_to s.frame one.unit ≡ not answered && same
      first_so answered same answered_is same_is =
          ap₂ (λ (a b : Bool). a && b) (unanswered ∙ ap not answered_is) (responds ∙ same_is)

      by : (answered same : Bool) → is_answered u.progress ≡ answered → (func == function_of u.purpose) ≡ same → FrameSays s one u (at_response r u)
      by true true answered_is same_is =
          Again (next_so true true answered_is same_is) answered_is (responds ∙ same_is) (not_first_ends (first_so true true answered_is same_is) (kinds u.purpose id))
      by true false answered_is same_is =
          Leaves (next_so true false answered_is same_is) (responds ∙ same_is) (not_first_ends (first_so true false answered_is same_is) (kinds u.purpose id))
      by false false answered_is same_is =
          Leaves (next_so false false answered_is same_is) (responds ∙ same_is) (not_first_ends (first_so false false answered_is same_is) (kinds u.purpose id))
      by false true answered_is same_is =
          first_says func body r read (eqb-true func (function_of u.purpose) same_is) byte answered_is (responds ∙ same_is) (first_so false true answered_is same_is) (kinds u.purpose id)
          (at_response r u) (next_so false true answered_is same_is)

  unread : is_response_to s.frame one.unit ≡ false → FrameSays s one u (GoesOn u.progress)
  unread none = Leaves refl none (not_first_ends (and_right (are_none (responses_in s)) (is_response_to s.frame one.unit) none) (kinds u.purpose id))

-- ---- a frame

module _ (s : Standing) (one : Judging) (now : ℕ) (turn : Turn) (id : ℕ) (u : UnderWay) (is : IsUnderWay s now turn id u) where
  frame_function : function_in s.frame ≡ function_of u.purpose
  frame_function = ap function_in is.frame ∙ same_function u.purpose id

  response_says : (func : ℕ) (body : List ℕ) (sum : ℕ) → one.unit ≡ framed (1 ∷ func ∷ body) sum → FrameSays s one u (response_next (response_of func body) u)
  response_says func body sum unit_is = by (response_of func body) refl
    where
      responds : (read : Result Response BodyFault) → response_of func body ≡ read → is_response_to s.frame one.unit ≡ (func == function_of u.purpose) && not (are_none (read_well read))
      responds read so =
          ap (λ (l : List ℕ). is_response_to s.frame l) unit_is
          ∙ ap (λ (n : ℕ). (func == n) && not (are_none (response_in (framed (1 ∷ func ∷ body) sum)))) frame_function
          ∙ ap (λ (l : List Response). (func == function_of u.purpose) && not (are_none l)) (response_text func body sum ∙ ap read_well so)

      byte : slice_index (body_in one.unit) 0 ≡ slice_index body 0
      byte = ap (λ (l : List ℕ). slice_index (body_in l) 0) unit_is ∙ byte_text func body sum

      by : (read : Result Response BodyFault) → response_of func body ≡ read → FrameSays s one u (response_next read u)
      by (Ok r) so = responded s one now turn id u is (ap notice_in unit_is) func body r so (responds (Ok r) so ∙ and_true (func == function_of u.purpose)) byte
      by (Err fault) so = unread s one now turn id u is (ap notice_in unit_is) (responds (Err fault) so ∙ and_right (func == function_of u.purpose) false refl)

  notice_says : (first : Option ℕ) (func : ℕ) (body : List ℕ) (sum : ℕ) → one.unit ≡ framed (0 ∷ func ∷ body) sum → FrameSays s one u (notice_next id first (notice_of func body) u)
  notice_says first func body sum unit_is =
      noticed s one now turn id u is (ap (λ (l : List ℕ). is_response_to s.frame l) unit_is ∙ and_right (func == function_in s.frame) false refl) first (notice_of func body)
      (ap notice_in unit_is ∙ notice_text func body sum)

  kind_says : (first : Option ℕ) (k : Kind) (f : FrameParts) (sum : ℕ) → one.unit ≡ framed (kind_code k ∷ f.func ∷ f.body) sum → FrameSays s one u (kind_next id first k f u)
  kind_says first kind.Response f sum unit_is = response_says f.func f.body sum unit_is
  kind_says first kind.Request f sum unit_is = notice_says first f.func f.body sum unit_is

  pub frame_says : (first : Option ℕ) (f : FrameParts) → one.unit ≡ unit_text (Framed f) → FrameSays s one u (frame_next id first f u)
  frame_says first f unit_is = kind_says first f.kind f (checksum (kind_code f.kind ∷ f.func ∷ f.body)) unit_is
