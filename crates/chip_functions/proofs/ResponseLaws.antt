-- A response that is read is spelled so, and one that is spelled so is read.
use Rattle.std.proofs.Common.{◌≡◌, ℕ, ◌<◌, ◌^◌, Bool, true, false, List, ◌++◌, length, Some, Ok, Err, refl, sym, subst}
use Rattle.std.specs.Int.{w16, w32}
use Rattle.std.proofs.lemmas.Option.{none-some as none_is, same_Some as some_is}
use Rattle.chip_functions.specs.declared.fault.BodyFault.{BodyFault}
use Rattle.chip_functions.specs.declared.fault.BodyFault.TheVariants.{UnknownFunction}
use Rattle.chip_functions.specs.declared.function.TheConstants.{GET_INIT_DATA, GET_CAPABILITIES, SEND_DATA, GET_VERSION, MEMORY_GET_ID, GET_NODE_PROTOCOL_INFO, REQUEST_NODE_INFO, IS_FAILED_NODE, GET_ROUTING_INFO}
use Rattle.chip_functions.specs.declared.mask.TheConstants.{MASK_BYTES}
use Rattle.chip_functions.specs.declared.response.Response.{Response}
use Rattle.chip_functions.specs.declared.response.Response.TheVariants.{GetInitData, GetCapabilities, SendData, GetVersion, MemoryGetId, GetNodeProtocolInfo, RequestNodeInfo, IsFailedNode, GetRoutingInfo}
use Rattle.chip_functions.specs.Mask.{IsBytes, AreNodes}
use Rattle.chip_functions.specs.Place.{Place, IsBodyFault, start_of}
use Rattle.chip_functions.specs.Field.{IsNode, coded}
use Rattle.chip_functions.specs.Response.{init_data, capabilities, version, memory_id, protocol_info, failed_code, failed_of, response_function, response_body, IsResponse, IsResponseBody, init_data_at, capabilities_at, version_at, memory_id_at, protocol_info_at, response_at, response_of}
use Rattle.chip_functions.proofs.FieldLaws.{Takes, Lawful, bind_ok, bind_err, no_fault, ok_is, byte_lawful, piece_lawful, then_lawful, node_lawful, mark_lawful, wide16, wide32, number_lawful, mask_lawful, coded_lawful}
use Rattle.chip_functions.proofs.RowLaws.{no_row, row_cases, row_takes, ReadsOn, row_again, IsFaultOf, row_faults, unknown, body_fault}

init_data_lawful : Lawful init_data (λ x. Unit {0} × (Unit {0} × (Unit {0} × (AreNodes x.1.1.1.0 × (Unit {0} × Unit {0})))))
init_data_lawful = then_lawful byte_lawful (then_lawful byte_lawful (then_lawful (mark_lawful MASK_BYTES) (then_lawful mask_lawful (then_lawful byte_lawful byte_lawful))))

capabilities_lawful : Lawful capabilities (λ x. Unit {0} × (Unit {0} × ((x.1.1.0 < 2 ^ 16) × ((x.1.1.1.0 < 2 ^ 16) × ((x.1.1.1.1.0 < 2 ^ 16) × (length x.1.1.1.1.1 ≡ 32))))))
capabilities_lawful =
    let word = number_lawful w16 (2 ^ 16) wide16 in
    then_lawful byte_lawful (then_lawful byte_lawful (then_lawful word (then_lawful word (then_lawful word (piece_lawful 32)))))

version_lawful : Lawful version (λ x. (length x.0 ≡ 12) × Unit {0})
version_lawful = then_lawful (piece_lawful 12) byte_lawful

memory_id_lawful : Lawful memory_id (λ x. (x.0 < 2 ^ 32) × IsNode x.1)
memory_id_lawful = then_lawful (number_lawful w32 (2 ^ 32) wide32) node_lawful

protocol_info_lawful : Lawful protocol_info (λ x. Unit {0} × (Unit {0} × (Unit {0} × (Unit {0} × (Unit {0} × Unit {0})))))
protocol_info_lawful = then_lawful byte_lawful (then_lawful byte_lawful (then_lawful byte_lawful (then_lawful byte_lawful (then_lawful byte_lawful byte_lawful))))

failed_back : (x : Bool) → Unit {0} → failed_of (failed_code x) ≡ Some x
failed_back true h = refl
failed_back false h = refl

failed_there : (b : ℕ) (x : Bool) → failed_of b ≡ Some x → (failed_code x ≡ b) × Unit {0}
failed_there b x e =
    row_cases b 0 _ _ _ e (λ f h. (subst (λ (y : Bool). failed_code y ≡ b) (some_is false x h) (sym f), tt)) (λ e.
    row_cases b 1 _ _ _ e (λ f h. (subst (λ (y : Bool). failed_code y ≡ b) (some_is true x h) (sym f), tt)) (λ e.
    absurd (none_is x e)))

failed_lawful : Lawful (coded failed_code failed_of) (λ _. Unit {0})
failed_lawful = coded_lawful failed_code failed_of (λ _. Unit {0}) failed_back failed_there

-- the function, the text and the row of what was read from p on, up to q
record IsRow (func : ℕ) (p q : Place) (v : Response) : Type 0 where
  function : func ≡ response_function v
  takes : Takes p q (response_body v)
  row : IsResponse v

response_takes : (func : ℕ) (p q : Place) (v : Response) → IsBytes p.rest → response_at func p ≡ Ok (v, q) → IsRow func p q v
unfolding response_at init_data_at capabilities_at version_at memory_id_at protocol_info_at
response_takes func p q v fits e =
    row_cases func GET_INIT_DATA _ _ _ e (λ f h. row_takes init_data_lawful _ p q v (IsRow func p q) fits (λ x t g. record { function = f; takes = t; row = g.1.1.1.0 }) h) (λ e.
    row_cases func GET_CAPABILITIES _ _ _ e (λ f h. row_takes capabilities_lawful _ p q v (IsRow func p q) fits (λ x t g. record { function = f; takes = t; row = (g.1.1.0, g.1.1.1.0, g.1.1.1.1.0, g.1.1.1.1.1) }) h) (λ e.
    row_cases func SEND_DATA _ _ _ e (λ f h. row_takes byte_lawful _ p q v (IsRow func p q) fits (λ x t g. record { function = f; takes = t; row = tt }) h) (λ e.
    row_cases func GET_VERSION _ _ _ e (λ f h. row_takes version_lawful _ p q v (IsRow func p q) fits (λ x t g. record { function = f; takes = t; row = g.0 }) h) (λ e.
    row_cases func MEMORY_GET_ID _ _ _ e (λ f h. row_takes memory_id_lawful _ p q v (IsRow func p q) fits (λ x t g. record { function = f; takes = t; row = g }) h) (λ e.
    row_cases func GET_NODE_PROTOCOL_INFO _ _ _ e (λ f h. row_takes protocol_info_lawful _ p q v (IsRow func p q) fits (λ x t g. record { function = f; takes = t; row = tt }) h) (λ e.
    row_cases func REQUEST_NODE_INFO _ _ _ e (λ f h. row_takes byte_lawful _ p q v (IsRow func p q) fits (λ x t g. record { function = f; takes = t; row = tt }) h) (λ e.
    row_cases func IS_FAILED_NODE _ _ _ e (λ f h. row_takes failed_lawful _ p q v (IsRow func p q) fits (λ x t g. record { function = f; takes = t; row = tt }) h) (λ e.
    row_cases func GET_ROUTING_INFO _ _ _ e (λ f h. row_takes mask_lawful _ p q v (IsRow func p q) fits (λ x t g. record { function = f; takes = t; row = g }) h) (λ e.
    absurd (no_row (UnknownFunction func) v q e))))))))))

response_reads : (v : Response) (p : Place) (rest : List ℕ) → IsResponse v → p.rest ≡ response_body v ++ rest → ReadsOn (response_at (response_function v) p) v rest
unfolding response_at init_data_at capabilities_at version_at memory_id_at protocol_info_at
response_reads (GetInitData v c nodes t u) p rest row e = row_again init_data_lawful _ (v, (c, (tt, (nodes, (t, u))))) p rest (tt, (tt, (tt, (row, (tt, tt))))) e
response_reads (GetCapabilities v r m t k functions) p rest row e = row_again capabilities_lawful _ (v, (r, (m, (t, (k, functions))))) p rest (tt, (tt, (row.0, (row.1, (row.2, row.3))))) e
response_reads (SendData answer) p rest row e = row_again byte_lawful _ answer p rest tt e
response_reads (GetVersion text t) p rest row e = row_again version_lawful _ (text, t) p rest (row, tt) e
response_reads (MemoryGetId home n) p rest row e = row_again memory_id_lawful _ (home, n) p rest row e
response_reads (GetNodeProtocolInfo c s r b g t) p rest row e = row_again protocol_info_lawful _ (c, (s, (r, (b, (g, t))))) p rest (tt, (tt, (tt, (tt, (tt, tt))))) e
response_reads (RequestNodeInfo answer) p rest row e = row_again byte_lawful _ answer p rest tt e
response_reads (IsFailedNode failed) p rest row e = row_again failed_lawful _ failed p rest tt e
response_reads (GetRoutingInfo nodes) p rest row e = row_again mask_lawful _ nodes p rest row e

-- what is read is spelled so, and a tail may follow
pub response_found : (func : ℕ) (body : List ℕ) (v : Response) → IsBytes body → response_of func body ≡ Ok v → IsResponseBody func body v
unfolding response_of
response_found func body v fits e =
    let a = bind_ok (response_at func (start_of body)) (λ x. Ok x.0) v e in
    let t = response_takes func (start_of body) a.0.1 a.0.0 fits a.1 in
    subst (IsResponseBody func body) (ok_is a.0.0 v a.2) (record { row = t.row; function = t.function; tail = a.0.1.rest; text = t.takes.parts })

-- what is spelled so is read, whatever follows it
pub response_only : (func : ℕ) (body : List ℕ) (v : Response) → IsResponseBody func body v → response_of func body ≡ Ok v
unfolding response_of
response_only func body v h =
    let r = response_reads v (start_of body) h.tail h.row h.text in
    rw h.function (rw r.is refl)

response_faults : (func : ℕ) (p : Place) (fault : BodyFault) → IsBytes p.rest → response_at func p ≡ Err fault → IsFaultOf func p fault
unfolding response_at init_data_at capabilities_at version_at memory_id_at protocol_info_at
response_faults func p fault fits e =
    row_cases func GET_INIT_DATA _ _ _ e (λ f h. row_faults init_data_lawful _ func p fault fits h) (λ e.
    row_cases func GET_CAPABILITIES _ _ _ e (λ f h. row_faults capabilities_lawful _ func p fault fits h) (λ e.
    row_cases func SEND_DATA _ _ _ e (λ f h. row_faults byte_lawful _ func p fault fits h) (λ e.
    row_cases func GET_VERSION _ _ _ e (λ f h. row_faults version_lawful _ func p fault fits h) (λ e.
    row_cases func MEMORY_GET_ID _ _ _ e (λ f h. row_faults memory_id_lawful _ func p fault fits h) (λ e.
    row_cases func GET_NODE_PROTOCOL_INFO _ _ _ e (λ f h. row_faults protocol_info_lawful _ func p fault fits h) (λ e.
    row_cases func REQUEST_NODE_INFO _ _ _ e (λ f h. row_faults byte_lawful _ func p fault fits h) (λ e.
    row_cases func IS_FAILED_NODE _ _ _ e (λ f h. row_faults failed_lawful _ func p fault fits h) (λ e.
    row_cases func GET_ROUTING_INFO _ _ _ e (λ f h. row_faults mask_lawful _ func p fault fits h) (λ e.
    unknown {V = Response} func p fault e)))))))))

-- a fault tells the bytes that there are, or names one of them
pub response_fault : (func : ℕ) (body : List ℕ) (fault : BodyFault) → IsBytes body → response_of func body ≡ Err fault → IsBodyFault func body fault
unfolding response_of
response_fault func body fault fits e =
    bind_err (response_at func (start_of body)) (λ x. Ok x.0) fault e
    (λ h. body_fault func body fault (response_faults func (start_of body) fault fits h))
    (λ x h f. no_fault {A = Response} x.0 fault f)
