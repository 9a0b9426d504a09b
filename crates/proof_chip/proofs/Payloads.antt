-- A frame that reads as a SendData has a payload of at least one byte.
use Rattle.std.proofs.Common.{◌≡◌, ◌≤◌, ℕ, ◌+◌, cond, ltb, ltb-false, List, length, length-take-le, take, Ok, Err, refl, ap, ◌∙◌, subst, arith}
use Rattle.std.specs.Prelude.{Some, Result, drop}
use Rattle.serial_frame.specs.Frame.{FrameParts}
use Rattle.serial_frame.specs.declared.frame.Kind.{Kind}
use Rattle.serial_frame.specs.declared.frame.Kind.TheVariants.{Request as of_request, Response as of_response}
use Rattle.chip_functions.specs.declared.fault.BodyFault.{BodyFault}
use Rattle.chip_functions.specs.declared.fault.BodyFault.TheVariants.{BadField, Short, UnknownFunction}
use Rattle.chip_functions.specs.declared.function.TheConstants.{GET_INIT_DATA, GET_CAPABILITIES, SEND_DATA, GET_VERSION, SEND_DATA_ABORT, MEMORY_GET_ID, GET_NODE_PROTOCOL_INFO, ADD_NODE, REQUEST_NODE_INFO, IS_FAILED_NODE, GET_ROUTING_INFO}
use Rattle.chip_functions.specs.declared.request.Request.{Request}
use Rattle.chip_functions.specs.declared.request.Request.TheVariants.{GetInitData, GetCapabilities, SendData, GetVersion, SendDataAbort, MemoryGetId}
use Rattle.chip_functions.specs.Place.{Place, ◌>>=◌, byte_from, ended_from, piece_from, start_of}
use Rattle.chip_functions.specs.Field.{Field, byte, byte_within, counted, node, ◌then◌}
use Rattle.chip_functions.specs.Request.{add_request_at, get_routing_info_at, request_at, request_of, send_data, send_data_at}
use Rattle.chip_functions.proofs.FieldLaws.{as_takes, bind_ok, guard_ok, ok_is}
use Rattle.chip_functions.proofs.RowLaws.{ended_ok, no_row, reads_to, row_cases}
use Rattle.chip_sim.specs.Requests.{asked as asked_of, asked_by, read_of}

-- what is read after a length of at least one
counted_some : (p q : Place) (payload : List ℕ) → (counted 1).read p ≡ Ok (payload, q) → 1 ≤ length payload
counted_some p q payload e =
    let a = bind_ok (byte_from p.before p.rest) (λ n. cond (ltb n.0 1) (Err (BadField p.before)) (piece_from n.0 n.1.before n.1.rest)) (payload, q) e in
    let count : ℕ = a.0.0 in
    let rest : List ℕ = a.0.1.rest in
    let before : ℕ = a.0.1.before in
    let some = guard_ok (ltb count 1) (BadField p.before) (piece_from count before rest) (payload, q) a.2 in
    let place : Place = record { before = before + count; rest = drop count rest } in
    let all = guard_ok (ltb (length rest) count) (Short (before + count) (before + length rest)) (Ok (take count rest, place)) (payload, q) some.1 in
    let same : take count rest ≡ payload = ap (λ (y : List ℕ × Place). y.0) (ok_is (take count rest, place) (payload, q) all.1) in
    let long = ap (λ (l : List ℕ). length l) same in
    omega (arith, ltb-false _ _ some.0, long, length-take-le count rest (omega (arith, ltb-false _ _ all.0)))

-- what each of two fields was read as
then_parts : {A B : Type 0} (first : Field A) (second : Field B) (p : Place) (x : A × B) (q : Place) → (first then second).read p ≡ Ok (x, q)
    → (y : A × Place) × (z : B × Place) × (first.read p ≡ Ok y) × (second.read y.1 ≡ Ok z) × (y.0 ≡ x.0) × (z.0 ≡ x.1)
then_parts {A} {B} first second p x q e =
    let a = bind_ok (first.read p) (λ y. second.read y.1 >>= λ z. Ok ((y.0, z.0), z.1)) (x, q) e in
    let b = bind_ok (second.read a.0.1) (λ z. Ok ((a.0.0, z.0), z.1)) (x, q) a.2 in
    let made : (A × B) × Place = ((a.0.0, b.0.0), b.0.1) in
    let same : made ≡ (x, q) = ok_is made (x, q) b.2 in
    (a.0, b.0, a.1, b.1, ap (λ (y : (A × B) × Place). y.0.0) same, ap (λ (y : (A × B) × Place). y.0.1) same)

module _ (node_number : ℕ) (payload : List ℕ) (options id : ℕ) where
  abbrev sends : Request
  sends = SendData node_number payload options id

  send_some : (p q : Place) (v : Request) → send_data_at p ≡ Ok (v, q) → v ≡ sends → 1 ≤ length payload
  unfolding send_data_at
  send_some p q v e is =
      let whole = as_takes (λ x. SendData x.0 x.1.0 x.1.1.0 x.1.1.1) (send_data.read p) v q e in
      let x : ℕ × (List ℕ × (ℕ × ℕ)) = whole.0 in
      let one = then_parts node (counted 1 then byte then byte_within 1 255) p x q whole.1 in
      let two = then_parts (counted 1) (byte then byte_within 1 255) one.0.1 one.1.0 one.1.1 one.3 in
      let request : SendData x.0 x.1.0 x.1.1.0 x.1.1.1 ≡ sends = whole.2 ∙ is in
      let three : x.1.0 ≡ payload = cc in
      subst (λ (l : List ℕ). 1 ≤ length l) (two.4 ∙ ap (λ (y : List ℕ × (ℕ × ℕ)). y.0) one.5 ∙ three) (counted_some one.0.1 two.0.1 two.0.0 two.2)

  -- a request of another row is none
  other : (p q : Place) (v w : Request) → (w ≡ sends → ⊥) → reads_to w p ≡ reads_to v q → v ≡ sends → 1 ≤ length payload
  other p q v w apart e is = absurd (apart (ap (λ (y : Request × Place). y.0) (ok_is (w, p) (v, q) e) ∙ is))

  request_some : (func : ℕ) (p q : Place) (v : Request) → request_at func p ≡ Ok (v, q) → v ≡ sends → 1 ≤ length payload
  unfolding request_at add_request_at get_routing_info_at
  request_some func p q v e is =
      row_cases func GET_INIT_DATA _ _ _ e (λ f h. other p q v GetInitData (λ same. cc) h is) (λ e.
      row_cases func GET_CAPABILITIES _ _ _ e (λ f h. other p q v GetCapabilities (λ same. cc) h is) (λ e.
      row_cases func SEND_DATA _ _ _ e (λ f h. send_some p q v h is) (λ e.
      row_cases func GET_VERSION _ _ _ e (λ f h. other p q v GetVersion (λ same. cc) h is) (λ e.
      row_cases func SEND_DATA_ABORT _ _ _ e (λ f h. other p q v SendDataAbort (λ same. cc) h is) (λ e.
      row_cases func MEMORY_GET_ID _ _ _ e (λ f h. other p q v MemoryGetId (λ same. cc) h is) (λ e.
      row_cases func GET_NODE_PROTOCOL_INFO _ _ _ e (λ f h. let made = as_takes _ _ v q h in let same = made.2 ∙ is in absurd cc) (λ e.
      row_cases func ADD_NODE _ _ _ e (λ f h. let made = as_takes _ _ v q h in let same = made.2 ∙ is in absurd cc) (λ e.
      row_cases func REQUEST_NODE_INFO _ _ _ e (λ f h. let made = as_takes _ _ v q h in let same = made.2 ∙ is in absurd cc) (λ e.
      row_cases func IS_FAILED_NODE _ _ _ e (λ f h. let made = as_takes _ _ v q h in let same = made.2 ∙ is in absurd cc) (λ e.
      row_cases func GET_ROUTING_INFO _ _ _ e (λ f h. let made = as_takes _ _ v q h in let same = made.2 ∙ is in absurd cc) (λ e.
      absurd (no_row (UnknownFunction func) v q e))))))))))))

  pub has_payload : (f : FrameParts) → asked_of f ≡ Some sends → 1 ≤ length payload
  unfolding request_of
  has_payload f is = by f.kind is
    where
      read : (r : Result Request BodyFault) → request_of f.func f.body ≡ r → read_of r ≡ Some sends → 1 ≤ length payload
      read (Ok request) found same =
          let one : request ≡ sends = cc in
          let a = bind_ok (request_at f.func (start_of f.body)) (λ x. ended_from x.0 x.1.before x.1.rest) request found in
          request_some f.func (start_of f.body) a.0.1 a.0.0 a.1 ((ended_ok a.0.0 request a.0.1.before a.0.1.rest a.2).1 ∙ one)
      read (Err fault) found same = absurd cc

      by : (kind : Kind) → asked_by kind f.func f.body ≡ Some sends → 1 ≤ length payload
      by of_request same = read (request_of f.func f.body) refl same
      by of_response same = absurd cc
