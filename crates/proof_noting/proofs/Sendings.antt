-- What a frame of the host sends goes to a node: a byte that is no node is not read as one.
use Rattle.std.proofs.Common.{◌≡◌, ℕ, Bool, true, false, if◌then◌else◌, List, [], ◌++◌, refl, subst}
use Rattle.std.specs.Prelude.{◌&&◌, nat_le, Some, None, Result, Ok, Err}
use Rattle.std.specs.List.{AllByRecursion, flat_map}
use Rattle.std.proofs.lemmas.Bool.{and_parts, leb-true}
use Rattle.std.proofs.lemmas.Option.{none-some as none_is, same_Some as some_is}
use Rattle.chip_functions.specs.declared.fault.BodyFault.{BodyFault}
use Rattle.chip_functions.specs.declared.fault.BodyFault.TheVariants.{UnknownFunction}
use Rattle.chip_functions.specs.declared.function.TheConstants.{GET_INIT_DATA, GET_CAPABILITIES, SEND_DATA, GET_VERSION, SEND_DATA_ABORT, MEMORY_GET_ID, GET_NODE_PROTOCOL_INFO, ADD_NODE, REQUEST_NODE_INFO, IS_FAILED_NODE, GET_ROUTING_INFO}
use Rattle.chip_functions.specs.declared.request.Request.{Request}
use Rattle.chip_functions.specs.declared.request.Request.TheVariants.{GetInitData, GetCapabilities, SendData, GetVersion, SendDataAbort, MemoryGetId, GetNodeProtocolInfo, RequestNodeInfo, IsFailedNode, GetRoutingInfo}
use Rattle.chip_functions.specs.AddNode.{add_request}
use Rattle.chip_functions.specs.Field.{IsNode, byte, byte_within, counted, node, ◌then◌}
use Rattle.chip_functions.specs.Place.{Place, ◌>>=◌, byte_from, ended_from, found_at, start_of}
use Rattle.chip_functions.specs.Request.{add_request_at, get_routing_info, get_routing_info_at, request_at, request_of, send_data, send_data_at}
use Rattle.chip_functions.proofs.FieldLaws.{as_takes, bind_ok, found_ok, ok_is}
use Rattle.chip_functions.proofs.RowLaws.{ended_ok, no_row, reads_to, row_cases}
use Rattle.law_transcript.specs.Units.{Carried, body_in, function_in, is_frame, read_well, sending_in, sending_of}

in_range : (b n : ℕ) (t : Bool) → (nat_le 1 b && nat_le b 232) ≡ t → (if t then Some b else None) ≡ Some n → IsNode n
in_range b n true is e = let both = and_parts (nat_le 1 b) (nat_le b 232) is in subst IsNode (some_is b n e) (leb-true 1 b both.0, leb-true b 232 both.1)
in_range b n false is e = absurd (none_is n e)

node_read : (p : Place) (n : ℕ) (q : Place) → node.read p ≡ Ok (n, q) → IsNode n
node_read p n q e =
    let a = bind_ok (byte_from p.before p.rest) (λ b. found_at p.before (if nat_le 1 b.0 && nat_le b.0 232 then Some b.0 else None) b.1) (n, q) e in
    let f = found_ok p.before (if nat_le 1 a.0.0 && nat_le a.0.0 232 then Some a.0.0 else None) a.0.1 n q a.2 in
    in_range a.0.0 n (nat_le 1 a.0.0 && nat_le a.0.0 232) refl f.0

abbrev Fields : Type 0
Fields = ℕ × (List ℕ × (ℕ × ℕ))

-- its first field
sent_read : (p : Place) (x : Fields) (q : Place) → send_data.read p ≡ Ok (x, q) → IsNode x.0
sent_read p x q e =
    let a = bind_ok (node.read p) (λ y. (counted 1 then byte then byte_within 1 255).read y.1 >>= λ z. Ok ((y.0, z.0), z.1)) (x, q) e in
    let b = bind_ok ((counted 1 then byte then byte_within 1 255).read a.0.1) (λ z. Ok ((a.0.0, z.0), z.1)) (x, q) a.2 in
    let made : Fields × Place = ((a.0.0, b.0.0), b.0.1) in
    subst (λ (y : Fields × Place). IsNode y.0.0) (ok_is made (x, q) b.2) (node_read p a.0.0 a.0.1 a.1)

-- of a request that sends something, that it is to a node
abbrev IsToNode : Request → Type 0
IsToNode (SendData n payload options id) = IsNode n
IsToNode request = Unit {0}

plainly : (p q : Place) (v w : Request) → reads_to w p ≡ reads_to v q → IsToNode w → IsToNode v
plainly p q v w e to = subst (λ (y : Request × Place). IsToNode y.0) (ok_is (w, p) (v, q) e) to

request_read : (func : ℕ) (p q : Place) (v : Request) → request_at func p ≡ Ok (v, q) → IsToNode v
unfolding request_at send_data_at add_request_at get_routing_info_at
request_read func p q v e =
    row_cases func GET_INIT_DATA _ _ _ e (λ f h. plainly p q v GetInitData h tt) (λ e.
    row_cases func GET_CAPABILITIES _ _ _ e (λ f h. plainly p q v GetCapabilities h tt) (λ e.
    row_cases func SEND_DATA _ _ _ e (λ f h. let a = as_takes (λ (x : Fields). SendData x.0 x.1.0 x.1.1.0 x.1.1.1) (send_data.read p) v q h in subst IsToNode a.2 (sent_read p a.0 q a.1)) (λ e.
    row_cases func GET_VERSION _ _ _ e (λ f h. plainly p q v GetVersion h tt) (λ e.
    row_cases func SEND_DATA_ABORT _ _ _ e (λ f h. plainly p q v SendDataAbort h tt) (λ e.
    row_cases func MEMORY_GET_ID _ _ _ e (λ f h. plainly p q v MemoryGetId h tt) (λ e.
    row_cases func GET_NODE_PROTOCOL_INFO _ _ _ e (λ f h. let a = as_takes (λ (n : ℕ). GetNodeProtocolInfo n) (node.read p) v q h in subst IsToNode a.2 tt) (λ e.
    row_cases func ADD_NODE _ _ _ e (λ f h. let a = as_takes _ (add_request.read p) v q h in subst IsToNode a.2 tt) (λ e.
    row_cases func REQUEST_NODE_INFO _ _ _ e (λ f h. let a = as_takes (λ (n : ℕ). RequestNodeInfo n) (node.read p) v q h in subst IsToNode a.2 tt) (λ e.
    row_cases func IS_FAILED_NODE _ _ _ e (λ f h. let a = as_takes (λ (n : ℕ). IsFailedNode n) (node.read p) v q h in subst IsToNode a.2 tt) (λ e.
    row_cases func GET_ROUTING_INFO _ _ _ e (λ f h. let a = as_takes (λ (x : ℕ × (ℕ × (ℕ × ℕ))). GetRoutingInfo x.0 x.1.0 x.1.1.0 x.1.1.1) (get_routing_info.read p) v q h in subst IsToNode a.2 tt) (λ e.
    absurd (no_row (UnknownFunction func) v q e))))))))))))

request_to_node : (func : ℕ) (body : List ℕ) (v : Request) → request_of func body ≡ Ok v → IsToNode v
unfolding request_of
request_to_node func body v e =
    let a = bind_ok (request_at func (start_of body)) (λ x. ended_from x.0 x.1.before x.1.rest) v e in
    let g = ended_ok a.0.0 v a.0.1.before a.0.1.rest a.2 in
    subst IsToNode g.1 (request_read func (start_of body) a.0.1 a.0.0 a.1)

abbrev pub ToNodes : List Carried → Type 0
ToNodes sent = AllByRecursion (λ (one : Carried). IsNode one.node) sent

one_sent : (v : Request) → IsToNode v → ToNodes (sending_of v ++ [])
one_sent (SendData n payload options id) to = (to, tt)
one_sent v to = tt

read_sent : (read : Result Request BodyFault) → ((v : Request) → read ≡ Ok v → IsToNode v) → ToNodes (flat_map sending_of (read_well read))
read_sent (Ok v) to = one_sent v (to v refl)
read_sent (Err fault) to = tt

pub sending_nodes : (unit : List ℕ) → ToNodes (sending_in unit)
sending_nodes unit = by (is_frame unit 0)
  where
    by : (b : Bool) → ToNodes (flat_map sending_of (if b then read_well (request_of (function_in unit) (body_in unit)) else []))
    by true = read_sent (request_of (function_in unit) (body_in unit)) (λ v is. request_to_node (function_in unit) (body_in unit) v is)
    by false = tt
