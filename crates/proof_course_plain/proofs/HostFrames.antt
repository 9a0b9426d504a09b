-- Which frames of the host ask to send the node a payload, and which.
use Rattle.std.proofs.Common.{◌≡◌, ℕ, ◌+◌, ◌&&◌, Bool, true, false, nat_lt, nat_le, if◌then◌else◌, Option, Some, None, List, [], ◌∷◌, ◌++◌, length, take, drop, refl, ap, sym, ◌∙◌, subst, arith}
use Rattle.std.proofs.Math.Seq.{take-append_seam}
use Rattle.std.specs.Prelude.{Result, Ok, Err}
use Rattle.serial_frame.specs.Frame.{FrameParts}
use Rattle.serial_frame.specs.declared.frame.Kind.{Kind}
use Rattle.serial_frame.specs.declared.frame.Kind.TheVariants as kind
use Rattle.proof_course.specs.Sessions.{Message}
use Rattle.chip_functions.specs.AddNode.{add_request}
use Rattle.chip_functions.specs.Place.{Place, Reading, start_of, piece_from, ended_from, ◌>>=◌}
use Rattle.chip_functions.specs.Field.{node as node_field, byte, byte_within, counted, ◌then◌, read_as}
use Rattle.chip_functions.specs.Request.{send_data, get_routing_info, request_of, request_at, send_data_at, add_request_at, get_routing_info_at}
use Rattle.chip_functions.specs.declared.fault.BodyFault.{BodyFault}
use Rattle.chip_functions.specs.declared.fault.BodyFault.TheVariants.{UnknownFunction, BadField, Short}
use Rattle.chip_functions.specs.declared.function.TheConstants.{GET_INIT_DATA, GET_CAPABILITIES, SEND_DATA, GET_VERSION, SEND_DATA_ABORT, MEMORY_GET_ID, GET_NODE_PROTOCOL_INFO, ADD_NODE, REQUEST_NODE_INFO, IS_FAILED_NODE, GET_ROUTING_INFO}
use Rattle.chip_functions.specs.declared.request.Request.{Request}
use Rattle.chip_functions.specs.declared.request.Request.TheVariants.{GetInitData, GetCapabilities, SendData, GetVersion, SendDataAbort, MemoryGetId, GetNodeProtocolInfo, AddNode, RequestNodeInfo, IsFailedNode, GetRoutingInfo}
use Rattle.chip_functions.proofs.FieldLaws.{bind_ok, ok_is, found_ok, guard_ok}
use Rattle.chip_functions.proofs.RowLaws.{reads_to, no_row, row_cases, ended_ok}
use Rattle.chip_sim.specs.Requests.{asked, asked_by, read_of}
use Rattle.host_requests.specs.Frames.{nonce_report, no_more_information, send, request_frame, frame_of}
use Rattle.host_requests.specs.declared.task.Task.{Task}
use Rattle.host_requests.specs.declared.task.Task.TheVariants as task
use Rattle.host_requests.specs.declared.task.Purpose.TheVariants.{Housekeeping, Attempt, Abort}
use Rattle.proof_once.specs.proof_messages.Others.{IsOther}
use Rattle.proof_course_plain.specs.Meaning.{Asked, HostMeans}
use Rattle.proof_course_plain.specs.Lines.{Asks, asked_as}
use Rattle.proof_course_plain.specs.Host.{IsOtherTask}

-- ---- a body that reads as a payload to be sent

-- such a body, by its function and where it begins
abbrev DataAt : ℕ → Place → Request → Type 0
DataAt func p (SendData n payload options id) = (func ≡ SEND_DATA) × ((after : Place) × (send_data.read p ≡ Ok ((n, (payload, (options, id))), after)))
DataAt func p request = Unit {0}

as_data : {A : Type 0} (func : ℕ) (p : Place) (make : A → Request) (r : Reading A) (v : Request) (q : Place) → ((x : A) (after : Place) → r ≡ Ok (x, after) → DataAt func p (make x)) → read_as make r ≡ reads_to v q → DataAt func p v
as_data func p make (Ok x) v q got e = let same : make x.0 ≡ v = ap (λ (y : Request × Place). y.0) (ok_is (make x.0, x.1) (v, q) e) in subst (λ (w : Request). DataAt func p w) same (got x.0 x.1 refl)
as_data func p make (Err fault) v q got e = absurd (no_row fault v q e)

plain_data : (func : ℕ) (start : Place) (w v : Request) (p q : Place) → DataAt func start w → reads_to w p ≡ reads_to v q → DataAt func start v
plain_data func start w v p q got e = subst (λ (x : Request). DataAt func start x) (ap (λ (y : Request × Place). y.0) (ok_is (w, p) (v, q) e)) got

row_data : (func : ℕ) (p q : Place) (v : Request) → request_at func p ≡ Ok (v, q) → DataAt func p v
unfolding request_at send_data_at add_request_at get_routing_info_at
row_data func p q v e =
    row_cases func GET_INIT_DATA _ _ _ e (λ f h. plain_data func p GetInitData v p q tt h) (λ e.
    row_cases func GET_CAPABILITIES _ _ _ e (λ f h. plain_data func p GetCapabilities v p q tt h) (λ e.
    row_cases func SEND_DATA _ _ _ e (λ f h. as_data func p _ (send_data.read p) v q (λ x after r. (f, (after, r))) h) (λ e.
    row_cases func GET_VERSION _ _ _ e (λ f h. plain_data func p GetVersion v p q tt h) (λ e.
    row_cases func SEND_DATA_ABORT _ _ _ e (λ f h. plain_data func p SendDataAbort v p q tt h) (λ e.
    row_cases func MEMORY_GET_ID _ _ _ e (λ f h. plain_data func p MemoryGetId v p q tt h) (λ e.
    row_cases func GET_NODE_PROTOCOL_INFO _ _ _ e (λ f h. as_data func p _ (node_field.read p) v q (λ x after r. tt) h) (λ e.
    row_cases func ADD_NODE _ _ _ e (λ f h. as_data func p _ (add_request.read p) v q (λ x after r. tt) h) (λ e.
    row_cases func REQUEST_NODE_INFO _ _ _ e (λ f h. as_data func p _ (node_field.read p) v q (λ x after r. tt) h) (λ e.
    row_cases func IS_FAILED_NODE _ _ _ e (λ f h. as_data func p _ (node_field.read p) v q (λ x after r. tt) h) (λ e.
    row_cases func GET_ROUTING_INFO _ _ _ e (λ f h. as_data func p _ (get_routing_info.read p) v q (λ x after r. tt) h) (λ e.
    absurd (no_row (UnknownFunction func) v q e))))))))))))

read_data : (func : ℕ) (body : List ℕ) (v : Request) → request_of func body ≡ Ok v → DataAt func (start_of body) v
unfolding request_of
read_data func body v e =
    let a = bind_ok (request_at func (start_of body)) (λ x. ended_from x.0 x.1.before x.1.rest) v e in
    let g = ended_ok a.0.0 v a.0.1.before a.0.1.rest a.2 in
    subst (λ (w : Request). DataAt func (start_of body) w) g.1 (row_data func (start_of body) a.0.1 a.0.0 a.1)

pub asked_data : (f : FrameParts) (n : ℕ) (payload : List ℕ) (options id : ℕ) → asked f ≡ Some (SendData n payload options id)
    → (f.func ≡ SEND_DATA) × ((after : Place) × (send_data.read (start_of f.body) ≡ Ok ((n, (payload, (options, id))), after)))
asked_data f n payload options id e = by f.kind e
  where
    read : (r : Result Request BodyFault) → request_of f.func f.body ≡ r → read_of r ≡ Some (SendData n payload options id)
        → (f.func ≡ SEND_DATA) × ((after : Place) × (send_data.read (start_of f.body) ≡ Ok ((n, (payload, (options, id))), after)))
    read (Ok found) is same = read_data f.func f.body (SendData n payload options id) (is ∙ ap (λ (x : Request). Ok x) (grind (arith, same)))
    read (Err fault) is same = absurd (grind (arith, same))

    by : (kind : Kind) → asked_by kind f.func f.body ≡ Some (SendData n payload options id) → (f.func ≡ SEND_DATA) × ((after : Place) × (send_data.read (start_of f.body) ≡ Ok ((n, (payload, (options, id))), after)))
    by kind.Request same = read (request_of f.func f.body) refl same
    by kind.Response same = absurd (grind (arith, same))

-- ---- what is read of a body that was written so

some_same : (a b : ℕ) (t : Bool) → (if t then Some a else None) ≡ Some b → a ≡ b
some_same a b true e = cc
some_same a b false e = absurd (grind (arith, e))

-- the node and the payload of a body
body_read : (to : ℕ) (text tail : List ℕ) (x : ℕ × (List ℕ × (ℕ × ℕ))) (after : Place) → send_data.read (start_of (to ∷ length text ∷ text ++ tail)) ≡ Ok (x, after) → (x.0 ≡ to) × (x.1.0 ≡ text)
body_read to text tail x after e =
    let first = bind_ok (node_field.read (start_of (to ∷ length text ∷ text ++ tail))) (λ y. (counted 1 then byte then byte_within 1 255).read y.1 >>= λ z. Ok ((y.0, z.0), z.1)) (x, after) e in
    let found = found_ok 0 (if nat_le 1 to && nat_le to 232 then Some to else None) (record { before = 1; rest = length text ∷ text ++ tail }) first.0.0 first.0.1 first.1 in
    let second = bind_ok ((counted 1 then byte then byte_within 1 255).read first.0.1) (λ z. Ok ((first.0.0, z.0), z.1)) (x, after) first.2 in
    let whole : ((first.0.0, second.0.0), second.0.1) ≡ (x, after) = ok_is ((first.0.0, second.0.0), second.0.1) (x, after) second.2 in
    let node_is : x.0 ≡ to = sym (ap (λ (y : (ℕ × (List ℕ × (ℕ × ℕ))) × Place). y.0.0) whole) ∙ sym (some_same to first.0.0 (nat_le 1 to && nat_le to 232) found.0) in
    let from : (counted 1 then byte then byte_within 1 255).read (record { before = 1; rest = length text ∷ text ++ tail }) ≡ Ok second.0 = ap (λ (p : Place). (counted 1 then byte then byte_within 1 255).read p) found.1 ∙ second.1 in
    let third = bind_ok ((counted 1).read (record { before = 1; rest = length text ∷ text ++ tail })) (λ y. (byte then byte_within 1 255).read y.1 >>= λ z. Ok ((y.0, z.0), z.1)) second.0 from in
    let fourth = bind_ok ((byte then byte_within 1 255).read third.0.1) (λ z. Ok ((third.0.0, z.0), z.1)) second.0 third.2 in
    let piece : third.0.0 ≡ second.0.0.0 = ap (λ (y : (List ℕ × (ℕ × ℕ)) × Place). y.0.0) (ok_is ((third.0.0, fourth.0.0), fourth.0.1) second.0 fourth.2) in
    let guarded = guard_ok (nat_lt (length text) 1) (BadField 1) (piece_from (length text) 2 (text ++ tail)) third.0 third.1 in
    let taken = guard_ok (nat_lt (length (text ++ tail)) (length text)) (Short (2 + length text) (2 + length (text ++ tail))) (Ok (take (length text) (text ++ tail), record { before = 2 + length text; rest = drop (length text) (text ++ tail) })) third.0 guarded.1 in
    let text_is : take (length text) (text ++ tail) ≡ third.0.0 = ap (λ (y : List ℕ × Place). y.0) (ok_is _ third.0 taken.1) in
    (node_is, sym (ap (λ (y : (ℕ × (List ℕ × (ℕ × ℕ))) × Place). y.0.1.0) whole) ∙ (sym piece ∙ (sym text_is ∙ take-append_seam text tail)))

-- ---- frames of the host

-- a frame of a request asks to send what the request sends
abbrev SendsTo : Request → ℕ → List ℕ → Type 0
SendsTo (SendData to text options id) n payload = (to ≡ n) × (text ≡ payload)
SendsTo request n payload = ⊥

pub frame_sends : (request : Request) (n : ℕ) (payload : List ℕ) (options id : ℕ) → asked (request_frame request) ≡ Some (SendData n payload options id) → SendsTo request n payload
frame_sends GetInitData n payload options id e = absurd (let bad = (asked_data (request_frame GetInitData) n payload options id e).0 in grind (arith, bad))
frame_sends GetCapabilities n payload options id e = absurd (let bad = (asked_data (request_frame GetCapabilities) n payload options id e).0 in grind (arith, bad))
frame_sends (SendData to text more other) n payload options id e =
    let got = (asked_data (request_frame (SendData to text more other)) n payload options id e).1 in
    let is = body_read to text (more ∷ other ∷ []) (n, (payload, (options, id))) got.0 got.1 in (sym is.0, sym is.1)
frame_sends GetVersion n payload options id e = absurd (let bad = (asked_data (request_frame GetVersion) n payload options id e).0 in grind (arith, bad))
frame_sends SendDataAbort n payload options id e = absurd (let bad = (asked_data (request_frame SendDataAbort) n payload options id e).0 in grind (arith, bad))
frame_sends MemoryGetId n payload options id e = absurd (let bad = (asked_data (request_frame MemoryGetId) n payload options id e).0 in grind (arith, bad))
frame_sends (GetNodeProtocolInfo to) n payload options id e = absurd (let bad = (asked_data (request_frame (GetNodeProtocolInfo to)) n payload options id e).0 in grind (arith, bad))
frame_sends (AddNode mode other) n payload options id e = absurd (let bad = (asked_data (request_frame (AddNode mode other)) n payload options id e).0 in grind (arith, bad))
frame_sends (RequestNodeInfo to) n payload options id e = absurd (let bad = (asked_data (request_frame (RequestNodeInfo to)) n payload options id e).0 in grind (arith, bad))
frame_sends (IsFailedNode to) n payload options id e = absurd (let bad = (asked_data (request_frame (IsFailedNode to)) n payload options id e).0 in grind (arith, bad))
frame_sends (GetRoutingInfo to x y z) n payload options id e = absurd (let bad = (asked_data (request_frame (GetRoutingInfo to x y z)) n payload options id e).0 in grind (arith, bad))

-- ---- what they hold for the node

module _ (nonces : (nonce : List ℕ) → IsOther (nonce_report nonce)) (no_more : IsOther no_more_information) (node : ℕ) (orders : List Asked) (commands : List ℕ) where
  sends_asks : (to : ℕ) (text : List ℕ) (id : ℕ) (mark : Option Message) → (to ≡ node → HostMeans orders commands text (asked_as mark)) → Asks node orders commands (request_frame (send to text id)) mark
  sends_asks to text id mark means payload options other e =
      let is = frame_sends (send to text id) node payload options other e in subst (λ (p : List ℕ). HostMeans orders commands p (asked_as mark)) is.1 (means is.0)

  pub attempt_asks : (to : ℕ) (more : Bool) (text : List ℕ) (id : ℕ) (mark : Option Message) → (to ≡ node → HostMeans orders commands text (asked_as mark)) → Asks node orders commands (frame_of (Attempt to more text) id) mark
  attempt_asks to more text id mark means = sends_asks to text id mark means

  pub abort_asks : (id : ℕ) → Asks node orders commands (frame_of Abort id) None
  abort_asks id payload options other e = absurd (frame_sends SendDataAbort node payload options other e)

  pub segment_asks : (to : ℕ) (text : List ℕ) (id : ℕ) (mark : Option Message) → (to ≡ node → HostMeans orders commands text (asked_as mark)) → Asks node orders commands (frame_of (Housekeeping (task.Segment to text)) id) mark
  segment_asks to text id mark means = sends_asks to text id mark means

  pub task_asks : (queued : Task) (id : ℕ) → IsOtherTask node queued → Asks node orders commands (frame_of (Housekeeping queued) id) None
  task_asks (task.Plain n payload) id other = sends_asks n payload id None other
  task_asks (task.Offer n nonce) id other = sends_asks n (nonce_report nonce) id None (λ own. nonces nonce)
  task_asks (task.Segment n payload) id apart = sends_asks n payload id None (λ own. absurd (apart own))
  task_asks (task.NoMore n) id other = sends_asks n no_more_information id None (λ own. no_more)
  task_asks (task.First n) id other = λ payload options o e. absurd (frame_sends (GetNodeProtocolInfo n) node payload options o e)
  task_asks (task.Second n) id other = λ payload options o e. absurd (frame_sends (RequestNodeInfo n) node payload options o e)
  task_asks task.Members id other = λ payload options o e. absurd (frame_sends GetInitData node payload options o e)
  task_asks (task.Neighbours n) id other = λ payload options o e. absurd (frame_sends (GetRoutingInfo n 0 0 0) node payload options o e)
  task_asks (task.IsFailed n) id other = λ payload options o e. absurd (frame_sends (IsFailedNode n) node payload options o e)
  task_asks task.Version id other = λ payload options o e. absurd (frame_sends GetVersion node payload options o e)
  task_asks task.MemoryId id other = λ payload options o e. absurd (frame_sends MemoryGetId node payload options o e)
  task_asks task.Capabilities id other = λ payload options o e. absurd (frame_sends GetCapabilities node payload options o e)
