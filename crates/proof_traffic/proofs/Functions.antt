-- A frame that reads as a request has that request's function.
use Rattle.std.proofs.Common.{◌≡◌, ℕ, List, Ok, Err, refl, sym, ap, ◌∙◌}
use Rattle.chip_functions.specs.declared.fault.BodyFault.TheVariants.{UnknownFunction}
use Rattle.chip_functions.specs.declared.function.TheConstants.{GET_INIT_DATA, GET_CAPABILITIES, SEND_DATA, GET_VERSION, SEND_DATA_ABORT, MEMORY_GET_ID, GET_NODE_PROTOCOL_INFO, ADD_NODE, REQUEST_NODE_INFO, IS_FAILED_NODE, GET_ROUTING_INFO}
use Rattle.chip_functions.specs.declared.request.Request.{Request}
use Rattle.chip_functions.specs.declared.request.Request.TheVariants.{GetInitData, GetCapabilities, GetVersion, SendDataAbort, MemoryGetId}
use Rattle.chip_functions.specs.AddNode.{add_request}
use Rattle.chip_functions.specs.Place.{Place, Reading, start_of, ended_from}
use Rattle.chip_functions.specs.Field.{node, read_as}
use Rattle.chip_functions.specs.Request.{send_data, get_routing_info, request_function, send_data_at, add_request_at, get_routing_info_at, request_at, request_of}
use Rattle.chip_functions.proofs.FieldLaws.{bind_ok, ok_is}
use Rattle.chip_functions.proofs.RowLaws.{reads_to, no_row, row_cases, ended_ok}

-- what is read is made of its fields
made : {A : Type 0} (make : A → Request) (func code : ℕ) (r : Reading A) (v : Request) (q : Place) → func ≡ code → ((x : A) → request_function (make x) ≡ code) → read_as make r ≡ reads_to v q
    → func ≡ request_function v
made make func code (Ok x) v q f codes e =
    let same : make x.0 ≡ v = ap (λ (y : Request × Place). y.0) (ok_is (make x.0, x.1) (v, q) e) in f ∙ sym (codes x.0) ∙ ap request_function same
made make func code (Err fault) v q f codes e = absurd (no_row fault v q e)

plain : (func : ℕ) (w v : Request) (p q : Place) → func ≡ request_function w → reads_to w p ≡ reads_to v q → func ≡ request_function v
plain func w v p q f e = f ∙ ap (λ (y : Request × Place). request_function y.0) (ok_is (w, p) (v, q) e)

row_function : (func : ℕ) (p q : Place) (v : Request) → request_at func p ≡ Ok (v, q) → func ≡ request_function v
unfolding request_at send_data_at add_request_at get_routing_info_at
row_function func p q v e =
    row_cases func GET_INIT_DATA _ _ _ e (λ f h. plain func GetInitData v p q f h) (λ e.
    row_cases func GET_CAPABILITIES _ _ _ e (λ f h. plain func GetCapabilities v p q f h) (λ e.
    row_cases func SEND_DATA _ _ _ e (λ f h. made _ func SEND_DATA (send_data.read p) v q f (λ x. refl) h) (λ e.
    row_cases func GET_VERSION _ _ _ e (λ f h. plain func GetVersion v p q f h) (λ e.
    row_cases func SEND_DATA_ABORT _ _ _ e (λ f h. plain func SendDataAbort v p q f h) (λ e.
    row_cases func MEMORY_GET_ID _ _ _ e (λ f h. plain func MemoryGetId v p q f h) (λ e.
    row_cases func GET_NODE_PROTOCOL_INFO _ _ _ e (λ f h. made _ func GET_NODE_PROTOCOL_INFO (node.read p) v q f (λ x. refl) h) (λ e.
    row_cases func ADD_NODE _ _ _ e (λ f h. made _ func ADD_NODE (add_request.read p) v q f (λ x. refl) h) (λ e.
    row_cases func REQUEST_NODE_INFO _ _ _ e (λ f h. made _ func REQUEST_NODE_INFO (node.read p) v q f (λ x. refl) h) (λ e.
    row_cases func IS_FAILED_NODE _ _ _ e (λ f h. made _ func IS_FAILED_NODE (node.read p) v q f (λ x. refl) h) (λ e.
    row_cases func GET_ROUTING_INFO _ _ _ e (λ f h. made _ func GET_ROUTING_INFO (get_routing_info.read p) v q f (λ x. refl) h) (λ e.
    absurd (no_row (UnknownFunction func) v q e))))))))))))

pub function_of_read : (func : ℕ) (body : List ℕ) (v : Request) → request_of func body ≡ Ok v → func ≡ request_function v
unfolding request_of
function_of_read func body v e =
    let a = bind_ok (request_at func (start_of body)) (λ x. ended_from x.0 x.1.before x.1.rest) v e in
    let g = ended_ok a.0.0 v a.0.1.before a.0.1.rest a.2 in
    row_function func (start_of body) a.0.1 a.0.0 a.1 ∙ ap request_function g.1
