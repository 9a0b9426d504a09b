-- When the chip takes the payload of a request of the host.
use Rattle.std.proofs.Common.{◌≡◌, ◌≤◌, ℕ, ◌&&◌, Bool, true, nat_le, List, length, refl, sym, ap, subst}
use Rattle.std.proofs.lemmas.Bool.{le-leb}
use Rattle.std.specs.Prelude.{None, Some}
use Rattle.chip_functions.specs.Field.{IsNode}
use Rattle.chip_functions.specs.Request.{request_function, request_body}
use Rattle.chip_functions.specs.declared.request.Request.{Request}
use Rattle.chip_functions.specs.declared.request.TheConstants.{TRANSMIT_OPTIONS}
use Rattle.chip_functions.proofs.RequestLaws.{request_only}
use Rattle.chip_sim.specs.State.{ChipState}
use Rattle.chip_sim.specs.Nodes.{is_marked}
use Rattle.chip_sim.specs.Answers.{is_idle, takes}
use Rattle.chip_sim.specs.Requests.{asked, read_of}
use Rattle.host_requests.specs.Frames.{request_of, request_frame, frame_of, send}
use Rattle.host_requests.specs.declared.task.Purpose.{Purpose}
use Rattle.proof_calm.specs.Passes.{IsTakenBy}

all_true : (a b c d : Bool) → a ≡ true → b ≡ true → c ≡ true → d ≡ true → (a && (b && (c && d))) ≡ true
all_true a b c d one two three four = rw one (rw two (rw three four))

-- it is read as that
pub asked_send : (n : ℕ) (payload : List ℕ) (id : ℕ) → IsNode n → 1 ≤ length payload → 1 ≤ id → id ≤ 255 → asked (request_frame (send n payload id)) ≡ Some (send n payload id)
asked_send n payload id node some from to =
    ap read_of (request_only (request_function (send n payload id)) (request_body (send n payload id)) (send n payload id) (record { row = (node, some, from, to); function = refl; text = refl }))

pub takes_payload : (s : ChipState) (n : ℕ) (payload : List ℕ) → 1 ≤ length payload → length payload ≤ 46 → s.sending ≡ None → is_marked s.joined n ≡ true → takes s n payload ≡ true
takes_payload s n payload some few idle joined =
    all_true (is_idle s.sending) (is_marked s.joined n) (nat_le 1 (length payload)) (nat_le (length payload) 46) (ap is_idle idle) joined (le-leb 1 (length payload) some)
    (le-leb (length payload) 46 few)

takes_send : (s : ChipState) (n : ℕ) (payload : List ℕ) (id : ℕ) → IsNode n → 1 ≤ length payload → length payload ≤ 46 → 1 ≤ id → id ≤ 255 → s.sending ≡ None → is_marked s.joined n ≡ true
    → IsTakenBy s (request_frame (send n payload id))
takes_send s n payload id node some few from to idle joined = record {
  node = n;
  payload = payload;
  options = TRANSMIT_OPTIONS;
  id = id;
  is = asked_send n payload id node some from to;
  taken = takes_payload s n payload some few idle joined;
}

pub takes_request : (s : ChipState) (purpose : Purpose) (n : ℕ) (payload : List ℕ) (id : ℕ) → request_of purpose id ≡ send n payload id → IsNode n → 1 ≤ length payload → length payload ≤ 46 → 1 ≤ id → id ≤ 255
    → s.sending ≡ None → is_marked s.joined n ≡ true → IsTakenBy s (frame_of purpose id)
takes_request s purpose n payload id is node some few from to idle joined =
    subst (λ (request : Request). IsTakenBy s (request_frame request)) (sym is) (takes_send s n payload id node some few from to idle joined)
