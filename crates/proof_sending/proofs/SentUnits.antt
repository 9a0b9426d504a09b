-- A frame of the host asks to be sent what its purpose is for, or nothing.
use Rattle.std.proofs.Common.{◌≡◌, ◌≤◌, ℕ, ◌&&◌, Bool, true, false, List, [], ◌∷◌, ◌++◌, length, nat_le, refl, sym, ap, subst, ◌∙◌, arith}
use Rattle.std.specs.Prelude.{Result, Ok, Err}
use Rattle.std.specs.List.{flat_map, AllByRecursion}
use Rattle.std.proofs.lemmas.Bool.{leb-true}
use Rattle.serial_frame.specs.Frame.{checksum}
use Rattle.serial_frame.specs.Items.{counted_of, unit_text}
use Rattle.serial_frame.specs.declared.unit.Unit.TheVariants.{Framed}
use Rattle.chip_functions.specs.declared.fault.BodyFault.{BodyFault}
use Rattle.chip_functions.specs.declared.fault.BodyFault.TheVariants.{BadField}
use Rattle.chip_functions.specs.declared.function.TheConstants.{SEND_DATA}
use Rattle.chip_functions.specs.declared.request.Request.{Request}
use Rattle.chip_functions.specs.declared.request.Request.TheVariants.{GetInitData, GetCapabilities, SendData, GetVersion, SendDataAbort, MemoryGetId, GetNodeProtocolInfo, RequestNodeInfo, IsFailedNode, GetRoutingInfo}
use Rattle.chip_functions.specs.declared.request.TheConstants.{TRANSMIT_OPTIONS}
use Rattle.chip_functions.specs.Field.{IsNode, node, read_as}
use Rattle.chip_functions.specs.Place.{Reading, ◌>>=◌, ended_from, start_of}
use Rattle.chip_functions.specs.Request.{get_routing_info, get_routing_info_at, request_at, request_body, request_function, request_of, send_data_at}
use Rattle.chip_functions.proofs.RequestLaws.{request_only}
use Rattle.host_requests.specs.Frames.{frame_of, request_frame, send, nonce_report, no_more_information}
use Rattle.host_requests.specs.State.{next_id}
use Rattle.host_requests.specs.declared.task.Task.TheVariants.{Plain, Offer, Segment, NoMore, First, Second, Members, Neighbours, IsFailed, Version, MemoryId, Capabilities}
use Rattle.host_requests.specs.declared.task.Purpose.{Purpose}
use Rattle.host_requests.specs.declared.task.Purpose.TheVariants.{Housekeeping, Attempt, Abort}
use Rattle.proof_air.specs.law_transcript.Units.{Carried, read_well, sending_in, sending_of}
use Rattle.proof_air.proofs.Bodies.{body_is}
use Rattle.proof_air.proofs.Judging.{both_true}
use Rattle.proof_sending.specs.Due.{sends}

-- what is asked by what is read
abbrev sent_by : Result Request BodyFault → List Carried
sent_by read = flat_map sending_of (read_well read)

request_sends : (r : Request) → sending_in (unit_text (Framed (request_frame r))) ≡ sent_by (request_of (request_function r) (request_body r))
request_sends r = ap (λ (b : List ℕ). sent_by (request_of (request_function r) b)) (body_is (request_body r) (request_function r) (checksum (counted_of (request_frame r))))

-- ---- requests that send nothing

ended_none : (v : Request) → sending_of v ≡ [] → (before : ℕ) (rest : List ℕ) → sent_by (ended_from v before rest) ≡ []
ended_none v none before [] = ap (λ (l : List Carried). l ++ []) none
ended_none v none before (byte ∷ rest) = refl

read_none : {A : Type 0} (make : A → Request) → ((x : A) → sending_of (make x) ≡ []) → (r : Reading A) → sent_by (read_as make r >>= λ x. ended_from x.0 x.1.before x.1.rest) ≡ []
read_none make none (Ok x) = ended_none (make x.0) (none x.0) x.1.before x.1.rest
read_none make none (Err fault) = refl

init_none : sent_by (request_of (request_function GetInitData) (request_body GetInitData)) ≡ []
unfolding request_of request_at
init_none = refl

capabilities_none : sent_by (request_of (request_function GetCapabilities) (request_body GetCapabilities)) ≡ []
unfolding request_of request_at
capabilities_none = refl

version_none : sent_by (request_of (request_function GetVersion) (request_body GetVersion)) ≡ []
unfolding request_of request_at
version_none = refl

abort_none : sent_by (request_of (request_function SendDataAbort) (request_body SendDataAbort)) ≡ []
unfolding request_of request_at
abort_none = refl

memory_none : sent_by (request_of (request_function MemoryGetId) (request_body MemoryGetId)) ≡ []
unfolding request_of request_at
memory_none = refl

protocol_none : (n : ℕ) → sent_by (request_of (request_function (GetNodeProtocolInfo n)) (request_body (GetNodeProtocolInfo n))) ≡ []
unfolding request_of request_at
protocol_none n = read_none (λ (k : ℕ). GetNodeProtocolInfo k) (λ k. refl) (node.read (start_of (request_body (GetNodeProtocolInfo n))))

information_none : (n : ℕ) → sent_by (request_of (request_function (RequestNodeInfo n)) (request_body (RequestNodeInfo n))) ≡ []
unfolding request_of request_at
information_none n = read_none (λ (k : ℕ). RequestNodeInfo k) (λ k. refl) (node.read (start_of (request_body (RequestNodeInfo n))))

failed_none : (n : ℕ) → sent_by (request_of (request_function (IsFailedNode n)) (request_body (IsFailedNode n))) ≡ []
unfolding request_of request_at
failed_none n = read_none (λ (k : ℕ). IsFailedNode k) (λ k. refl) (node.read (start_of (request_body (IsFailedNode n))))

routing_none : (n a b c : ℕ) → sent_by (request_of (request_function (GetRoutingInfo n a b c)) (request_body (GetRoutingInfo n a b c))) ≡ []
unfolding request_of request_at get_routing_info_at
routing_none n a b c =
    read_none (λ (x : ℕ × (ℕ × (ℕ × ℕ))). GetRoutingInfo x.0 x.1.0 x.1.1.0 x.1.1.1) (λ x. refl) (get_routing_info.read (start_of (request_body (GetRoutingInfo n a b c))))

-- ---- a SendData

-- to no node it is not read, nor with an empty payload
no_node : (n : ℕ) (payload : List ℕ) (id : ℕ) → nat_le 1 n && nat_le n 232 ≡ false → request_of SEND_DATA (request_body (send n payload id)) ≡ Err (BadField 0)
unfolding request_of request_at send_data_at
no_node n payload id none = rw none refl

no_bytes : (n id : ℕ) → nat_le 1 n && nat_le n 232 ≡ true → request_of SEND_DATA (request_body (send n [] id)) ≡ Err (BadField 1)
unfolding request_of request_at send_data_at
no_bytes n id some = rw some refl

module _ (from : (last : ℕ) → 1 ≤ next_id last) (to : (last : ℕ) → next_id last ≤ 255) where
  -- the payload is sent, or nothing
  send_sends : (n : ℕ) (payload : List ℕ) (last : ℕ) (P : Carried → Type 0) → P (record { node = n; payload = payload })
      → AllByRecursion P (sending_in (unit_text (Framed (request_frame (send n payload (next_id last))))))
  send_sends n payload last P holds = subst (λ (l : List Carried). AllByRecursion P l) (sym (request_sends (send n payload id))) (by (nat_le 1 n && nat_le n 232) refl payload holds)
    where
      id : ℕ
      id = next_id last

      none : (p : List ℕ) (fault : BodyFault) → request_of SEND_DATA (request_body (send n p id)) ≡ Err fault → AllByRecursion P (sent_by (request_of SEND_DATA (request_body (send n p id))))
      none p fault is = subst (λ (r : Result Request BodyFault). AllByRecursion P (sent_by r)) (sym is) tt

      by : (b : Bool) → nat_le 1 n && nat_le n 232 ≡ b → (p : List ℕ) → P (record { node = n; payload = p }) → AllByRecursion P (sent_by (request_of SEND_DATA (request_body (send n p id))))
      by false is p it = none p (BadField 0) (no_node n p id is)
      by true is [] it = none [] (BadField 1) (no_bytes n id is)
      by true is (byte ∷ more) it =
          let parts = both_true (nat_le 1 n) (nat_le n 232) is in
          let here : IsNode n = (leb-true 1 n parts.0, leb-true n 232 parts.1) in
          let some : 1 ≤ length (byte ∷ more) = omega arith in
          let read : request_of SEND_DATA (request_body (send n (byte ∷ more) id)) ≡ Ok (SendData n (byte ∷ more) TRANSMIT_OPTIONS id)
          = request_only SEND_DATA (request_body (send n (byte ∷ more) id)) (SendData n (byte ∷ more) TRANSMIT_OPTIONS id)
          (record { row = (here, some, from last, to last); function = refl; text = refl }) in
          subst (λ (r : Result Request BodyFault). AllByRecursion P (sent_by r)) (sym read) (it, tt)

  nothing_sent : (r : Request) (P : Carried → Type 0) → sent_by (request_of (request_function r) (request_body r)) ≡ [] → AllByRecursion P (sending_in (unit_text (Framed (request_frame r))))
  nothing_sent r P none = subst (λ (l : List Carried). AllByRecursion P l) (sym (request_sends r ∙ none)) tt

  pub purpose_sends : (purpose : Purpose) (last : ℕ) (P : Carried → Type 0) → AllByRecursion P (sends purpose) → AllByRecursion P (sending_in (unit_text (Framed (frame_of purpose (next_id last)))))
  purpose_sends (Housekeeping (Plain n payload)) last P all = send_sends n payload last P all.0
  purpose_sends (Housekeeping (Offer n nonce)) last P all = send_sends n (nonce_report nonce) last P all.0
  purpose_sends (Housekeeping (Segment n payload)) last P all = send_sends n payload last P all.0
  purpose_sends (Housekeeping (NoMore n)) last P all = send_sends n no_more_information last P all.0
  purpose_sends (Housekeeping (First n)) last P all = nothing_sent (GetNodeProtocolInfo n) P (protocol_none n)
  purpose_sends (Housekeeping (Second n)) last P all = nothing_sent (RequestNodeInfo n) P (information_none n)
  purpose_sends (Housekeeping Members) last P all = nothing_sent GetInitData P init_none
  purpose_sends (Housekeeping (Neighbours n)) last P all = nothing_sent (GetRoutingInfo n 0 0 0) P (routing_none n 0 0 0)
  purpose_sends (Housekeeping (IsFailed n)) last P all = nothing_sent (IsFailedNode n) P (failed_none n)
  purpose_sends (Housekeeping Version) last P all = nothing_sent GetVersion P version_none
  purpose_sends (Housekeeping MemoryId) last P all = nothing_sent MemoryGetId P memory_none
  purpose_sends (Housekeeping Capabilities) last P all = nothing_sent GetCapabilities P capabilities_none
  purpose_sends (Attempt n more payload) last P all = send_sends n payload last P all.0
  purpose_sends Abort last P all = nothing_sent SendDataAbort P abort_none
