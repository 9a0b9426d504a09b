-- A request that is read is spelled so, and one that is spelled so is read.
use Rattle.std.proofs.Common.{zero-add, arith, ◌≡◌, ℕ, ◌≤◌, List, [], ◌++◌, length, Ok, Err, refl, sym, ap, subst, ◌∙◌}
use Rattle.std.proofs.lemmas.List.{append-nil}
use Rattle.chip_functions.specs.declared.fault.BodyFault.{BodyFault}
use Rattle.chip_functions.specs.declared.fault.BodyFault.TheVariants.{UnknownFunction}
use Rattle.chip_functions.specs.declared.function.TheConstants.{GET_INIT_DATA, GET_CAPABILITIES, SEND_DATA, GET_VERSION, SEND_DATA_ABORT, MEMORY_GET_ID, GET_NODE_PROTOCOL_INFO, ADD_NODE, REQUEST_NODE_INFO, IS_FAILED_NODE, GET_ROUTING_INFO}
use Rattle.chip_functions.specs.declared.request.Request.{Request}
use Rattle.chip_functions.specs.declared.request.Request.TheVariants.{GetInitData, GetCapabilities, SendData, GetVersion, SendDataAbort, MemoryGetId, GetNodeProtocolInfo, AddNode, RequestNodeInfo, IsFailedNode, GetRoutingInfo}
use Rattle.chip_functions.specs.Mask.{IsBytes}
use Rattle.chip_functions.specs.Place.{Place, IsBodyFault, start_of, ended_from}
use Rattle.chip_functions.specs.Field.{IsNode}
use Rattle.chip_functions.specs.Request.{send_data, get_routing_info, request_function, request_body, HasRequestRow, IsRequest, IsRequestBody, send_data_at, add_request_at, get_routing_info_at, request_at, request_of}
use Rattle.chip_functions.proofs.FieldLaws.{Takes, Lawful, bind_ok, bind_err, no_fault, ok_is, byte_lawful, triple_lawful, then_lawful, within_lawful, node_lawful, counted_lawful}
use Rattle.chip_functions.proofs.RowLaws.{reads_to, no_row, row_cases, row_takes, ReadsOn, row_again, ended_ok, IsFaultOf, row_faults, unknown, body_fault, ended_err}
use Rattle.chip_functions.proofs.AddNodeLaws.{add_request_lawful}

send_data_lawful : Lawful send_data (λ x. IsNode x.0 × ((1 ≤ length x.1.0) × (Unit {0} × ((1 ≤ x.1.1.1) × (x.1.1.1 ≤ 255)))))
send_data_lawful = then_lawful node_lawful (then_lawful (counted_lawful 1) (then_lawful byte_lawful (within_lawful 1 255)))

get_routing_info_lawful : Lawful get_routing_info (λ x. IsNode x.0 × Unit {0})
get_routing_info_lawful = then_lawful node_lawful triple_lawful

-- the function, the text and the row of what was read from p on, up to q
record IsRow (func : ℕ) (p q : Place) (v : Request) : Type 0 where
  function : func ≡ request_function v
  takes : Takes p q (request_body v)
  row : IsRequest v

-- a row with no field
empty_row : (func : ℕ) (p q : Place) (v w : Request) → IsBytes p.rest → func ≡ request_function w → request_body w ≡ [] → IsRequest w → reads_to w p ≡ reads_to v q → IsRow func p q v
empty_row func p q v w fits f none row e =
    let here : Takes p p (request_body w) = rw none (record { parts = refl; fits = fits; moves = omega arith; sum = refl }) in
    subst (λ (y : Request × Place). IsRow func p y.1 y.0) (ok_is (w, p) (v, q) e) (record { function = f; takes = here; row = row })

request_takes : (func : ℕ) (p q : Place) (v : Request) → IsBytes p.rest → request_at func p ≡ Ok (v, q) → IsRow func p q v
unfolding request_at send_data_at add_request_at get_routing_info_at
request_takes func p q v fits e =
    row_cases func GET_INIT_DATA _ _ _ e (λ f h. empty_row func p q v GetInitData fits f refl tt h) (λ e.
    row_cases func GET_CAPABILITIES _ _ _ e (λ f h. empty_row func p q v GetCapabilities fits f refl tt h) (λ e.
    row_cases func SEND_DATA _ _ _ e (λ f h. row_takes send_data_lawful _ p q v (IsRow func p q) fits (λ x t g. record { function = f; takes = t; row = (g.0, g.1.0, g.1.1.1.0, g.1.1.1.1) }) h) (λ e.
    row_cases func GET_VERSION _ _ _ e (λ f h. empty_row func p q v GetVersion fits f refl tt h) (λ e.
    row_cases func SEND_DATA_ABORT _ _ _ e (λ f h. empty_row func p q v SendDataAbort fits f refl tt h) (λ e.
    row_cases func MEMORY_GET_ID _ _ _ e (λ f h. empty_row func p q v MemoryGetId fits f refl tt h) (λ e.
    row_cases func GET_NODE_PROTOCOL_INFO _ _ _ e (λ f h. row_takes node_lawful _ p q v (IsRow func p q) fits (λ x t g. record { function = f; takes = t; row = g }) h) (λ e.
    row_cases func ADD_NODE _ _ _ e (λ f h. row_takes add_request_lawful _ p q v (IsRow func p q) fits (λ x t g. record { function = f; takes = t; row = g.1 }) h) (λ e.
    row_cases func REQUEST_NODE_INFO _ _ _ e (λ f h. row_takes node_lawful _ p q v (IsRow func p q) fits (λ x t g. record { function = f; takes = t; row = g }) h) (λ e.
    row_cases func IS_FAILED_NODE _ _ _ e (λ f h. row_takes node_lawful _ p q v (IsRow func p q) fits (λ x t g. record { function = f; takes = t; row = g }) h) (λ e.
    row_cases func GET_ROUTING_INFO _ _ _ e (λ f h. row_takes get_routing_info_lawful _ p q v (IsRow func p q) fits (λ x t g. record { function = f; takes = t; row = g.0 }) h) (λ e.
    absurd (no_row (UnknownFunction func) v q e))))))))))))

request_reads : (v : Request) (p : Place) (rest : List ℕ) → IsRequest v → p.rest ≡ request_body v ++ rest → ReadsOn (request_at (request_function v) p) v rest
unfolding request_at send_data_at add_request_at get_routing_info_at
request_reads GetInitData p rest row e = record { place = p; is = refl; after = e }
request_reads GetCapabilities p rest row e = record { place = p; is = refl; after = e }
request_reads (SendData n payload options id) p rest row e = row_again send_data_lawful _ (n, (payload, (options, id))) p rest (row.0, (row.1, (tt, (row.2, row.3)))) e
request_reads GetVersion p rest row e = record { place = p; is = refl; after = e }
request_reads SendDataAbort p rest row e = record { place = p; is = refl; after = e }
request_reads MemoryGetId p rest row e = record { place = p; is = refl; after = e }
request_reads (GetNodeProtocolInfo n) p rest row e = row_again node_lawful _ n p rest row e
request_reads (AddNode mode id) p rest row e = row_again add_request_lawful _ (mode, id) p rest (tt, (row.0, row.1)) e
request_reads (RequestNodeInfo n) p rest row e = row_again node_lawful _ n p rest row e
request_reads (IsFailedNode n) p rest row e = row_again node_lawful _ n p rest row e
request_reads (GetRoutingInfo n x y z) p rest row e = row_again get_routing_info_lawful _ (n, (x, (y, z))) p rest (row, tt) e

-- what is read is spelled so
pub request_found : (func : ℕ) (body : List ℕ) (v : Request) → IsBytes body → request_of func body ≡ Ok v → IsRequestBody func body v
unfolding request_of
request_found func body v fits e =
    let a = bind_ok (request_at func (start_of body)) (λ x. ended_from x.0 x.1.before x.1.rest) v e in
    let t = request_takes func (start_of body) a.0.1 a.0.0 fits a.1 in
    let g = ended_ok a.0.0 v a.0.1.before a.0.1.rest a.2 in
    let text : body ≡ request_body a.0.0 = t.takes.parts ∙ ap (λ (r : List ℕ). request_body a.0.0 ++ r) g.0 ∙ append-nil (request_body a.0.0) in
    subst (IsRequestBody func body) g.1 (record { row = t.row; function = t.function; text = text })

-- what is spelled so is read
pub request_only : (func : ℕ) (body : List ℕ) (v : Request) → IsRequestBody func body v → request_of func body ≡ Ok v
unfolding request_of
request_only func body v h =
    let r = request_reads v (start_of body) [] h.row (h.text ∙ sym (append-nil (request_body v))) in
    rw h.function (rw (r.is, r.after) refl)

request_faults : (func : ℕ) (p : Place) (fault : BodyFault) → IsBytes p.rest → request_at func p ≡ Err fault → IsFaultOf func p fault
unfolding request_at send_data_at add_request_at get_routing_info_at
request_faults func p fault fits e =
    row_cases func GET_INIT_DATA _ _ _ e (λ f h. no_fault {A = Request × Place} (GetInitData, p) fault h) (λ e.
    row_cases func GET_CAPABILITIES _ _ _ e (λ f h. no_fault {A = Request × Place} (GetCapabilities, p) fault h) (λ e.
    row_cases func SEND_DATA _ _ _ e (λ f h. row_faults send_data_lawful _ func p fault fits h) (λ e.
    row_cases func GET_VERSION _ _ _ e (λ f h. no_fault {A = Request × Place} (GetVersion, p) fault h) (λ e.
    row_cases func SEND_DATA_ABORT _ _ _ e (λ f h. no_fault {A = Request × Place} (SendDataAbort, p) fault h) (λ e.
    row_cases func MEMORY_GET_ID _ _ _ e (λ f h. no_fault {A = Request × Place} (MemoryGetId, p) fault h) (λ e.
    row_cases func GET_NODE_PROTOCOL_INFO _ _ _ e (λ f h. row_faults node_lawful _ func p fault fits h) (λ e.
    row_cases func ADD_NODE _ _ _ e (λ f h. row_faults add_request_lawful _ func p fault fits h) (λ e.
    row_cases func REQUEST_NODE_INFO _ _ _ e (λ f h. row_faults node_lawful _ func p fault fits h) (λ e.
    row_cases func IS_FAILED_NODE _ _ _ e (λ f h. row_faults node_lawful _ func p fault fits h) (λ e.
    row_cases func GET_ROUTING_INFO _ _ _ e (λ f h. row_faults get_routing_info_lawful _ func p fault fits h) (λ e.
    unknown {V = Request} func p fault e)))))))))))

-- a fault tells the bytes that there are, or names one of them
pub request_fault : (func : ℕ) (body : List ℕ) (fault : BodyFault) → IsBytes body → request_of func body ≡ Err fault → IsBodyFault func body fault
unfolding request_of
request_fault func body fault fits e =
    bind_err (request_at func (start_of body)) (λ x. ended_from x.0 x.1.before x.1.rest) fault e
    (λ h. body_fault func body fault (request_faults func (start_of body) fault fits h))
    (λ x h f.
    let t = request_takes func (start_of body) x.1 x.0 fits h in
    ended_err func body x.0 x.1 fault (t.takes.sum ∙ zero-add (length body)) f)

-- a request of a row can be written
pub row_of_request : (v : Request) → IsRequest v → HasRequestRow v
row_of_request GetInitData h = tt
row_of_request GetCapabilities h = tt
row_of_request (SendData n payload options id) h = (h.1, h.2)
row_of_request GetVersion h = tt
row_of_request SendDataAbort h = tt
row_of_request MemoryGetId h = tt
row_of_request (GetNodeProtocolInfo n) h = tt
row_of_request (AddNode mode id) h = h.0
row_of_request (RequestNodeInfo n) h = tt
row_of_request (IsFailedNode n) h = tt
row_of_request (GetRoutingInfo n x y z) h = tt
