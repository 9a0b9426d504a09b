-- The unit of an attempt asks to send to its node: it is read as it was written.
use Rattle.std.proofs.Common.{◌≡◌, ℕ, ◌≤◌, Bool, List, length, Ok, refl, sym, ap, subst, ◌∙◌}
use Rattle.std.specs.Prelude.{Result}
use Rattle.std.specs.List.{flat_map}
use Rattle.serial_frame.specs.Frame.{checksum}
use Rattle.serial_frame.specs.Items.{counted_of, unit_text}
use Rattle.serial_frame.specs.declared.unit.Unit.TheVariants.{Framed}
use Rattle.chip_functions.specs.declared.fault.BodyFault.{BodyFault}
use Rattle.chip_functions.specs.declared.function.TheConstants.{SEND_DATA}
use Rattle.chip_functions.specs.declared.request.Request.{Request}
use Rattle.chip_functions.specs.declared.request.Request.TheVariants.{SendData}
use Rattle.chip_functions.specs.declared.request.TheConstants.{TRANSMIT_OPTIONS}
use Rattle.chip_functions.specs.Field.{IsNode}
use Rattle.chip_functions.specs.Request.{request_body, request_of}
use Rattle.chip_functions.proofs.RequestLaws.{request_only}
use Rattle.host_requests.specs.declared.task.Purpose.TheVariants.{Attempt}
use Rattle.host_requests.specs.Frames.{frame_of}
use Rattle.law_host.specs.law_transcript.Payloads.{GoesTo}
use Rattle.law_host.specs.law_transcript.Units.{body_in, read_well, sending_in, sending_of}
use Rattle.proof_air.proofs.Bodies.{body_is}

goes : (n : ℕ) (payload : List ℕ) (id : ℕ) (r : Result Request BodyFault) → r ≡ Ok (SendData n payload TRANSMIT_OPTIONS id) → GoesTo n (flat_map sending_of (read_well r))
goes n payload id r is = subst (λ (x : Result Request BodyFault). GoesTo n (flat_map sending_of (read_well x))) (sym is) refl

pub attempt_goes : (n : ℕ) (more : Bool) (payload : List ℕ) (id : ℕ) → IsNode n → 1 ≤ length payload → 1 ≤ id → id ≤ 255
    → GoesTo n (sending_in (unit_text (Framed (frame_of (Attempt n more payload) id))))
attempt_goes n more payload id node some from to =
    let body = request_body (SendData n payload TRANSMIT_OPTIONS id) in
    let sum = checksum (counted_of (frame_of (Attempt n more payload) id)) in
    let read : request_of SEND_DATA body ≡ Ok (SendData n payload TRANSMIT_OPTIONS id)
    = request_only SEND_DATA body (SendData n payload TRANSMIT_OPTIONS id) (record { row = (node, some, from, to); function = refl; text = refl }) in
    goes n payload id (request_of SEND_DATA (body_in (unit_text (Framed (frame_of (Attempt n more payload) id)))))
    (ap (λ (b : List ℕ). request_of SEND_DATA b) (body_is body SEND_DATA sum) ∙ read)
