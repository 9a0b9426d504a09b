-- A request that can be read is read of its frame; and a payload that is read of a frame of the chip is of a node.
use Rattle.std.proofs.Common.{◌≡◌, ℕ, ◌≤◌, Bool, true, false, if◌then◌else◌, List, [], ◌∷◌, refl, ap, ◌∙◌, subst, arith}
use Rattle.std.specs.Prelude.{◌&&◌, nat_le, Some, None, Result, Ok}
use Rattle.std.proofs.lemmas.Bool.{and_parts, leb-true}
use Rattle.std.proofs.lemmas.Nat.{mod_below}
use Rattle.std.proofs.lemmas.Option.{none-some as none_is, same_Some as some_is}
use Rattle.serial_frame.specs.Frame.{checksum, framed}
use Rattle.serial_frame.specs.Items.{unit_text}
use Rattle.serial_frame.specs.declared.unit.Unit.TheVariants.{Framed}
use Rattle.chip_functions.specs.declared.fault.BodyFault.{BodyFault}
use Rattle.chip_functions.specs.declared.fault.BodyFault.TheVariants.{UnknownFunction}
use Rattle.chip_functions.specs.declared.function.TheConstants.{APPLICATION_COMMAND_HANDLER, SEND_DATA, ADD_NODE, APPLICATION_UPDATE}
use Rattle.chip_functions.specs.declared.notice.Notice.{Notice}
use Rattle.chip_functions.specs.declared.notice.Notice.TheVariants.{ApplicationCommandHandler, SendData, AddNode, ApplicationUpdate}
use Rattle.chip_functions.specs.declared.notice.TransmitStatus.{TransmitStatus}
use Rattle.chip_functions.specs.declared.notice.Update.{Update}
use Rattle.chip_functions.specs.declared.request.Request.{Request}
use Rattle.chip_functions.specs.Field.{Field, IsNode, byte, counted, node, ◌then◌}
use Rattle.chip_functions.specs.Notice.{add_notice_at, callback, callback_at, handler, handler_at, notice_at, notice_of, update, update_at}
use Rattle.chip_functions.specs.AddNode.{add_notice}
use Rattle.chip_functions.specs.Place.{Place, ◌>>=◌, byte_from, found_at, start_of}
use Rattle.chip_functions.specs.Request.{IsRequest, request_body, request_function, request_of as read_request}
use Rattle.chip_functions.proofs.FieldLaws.{as_takes, bind_ok, found_ok, ok_is}
use Rattle.chip_functions.proofs.RequestLaws.{request_only}
use Rattle.chip_functions.proofs.RowLaws.{no_row, row_cases}
use Rattle.proof_waking.specs.law_transcript.Units.{read_well, request_in}
use Rattle.host_requests.specs.Frames.{frame_of, request_of}
use Rattle.host_requests.specs.State.{next_id}
use Rattle.host_requests.specs.declared.task.Purpose.{Purpose}
use Rattle.proof_waking.proofs.Bodies.{body_is}

-- ---- requests

text_asks : (func : ℕ) (body : List ℕ) (sum : ℕ) → request_in (framed (0 ∷ func ∷ body) sum) ≡ read_well (read_request func body)
text_asks func body sum = ap (λ (b : List ℕ). read_well (read_request func b)) (body_is body func sum)

pub read_again : (purpose : Purpose) (id : ℕ) → IsRequest (request_of purpose id) → request_in (unit_text (Framed (frame_of purpose id))) ≡ request_of purpose id ∷ []
read_again purpose id is =
    let q : Request = request_of purpose id in
    text_asks (request_function q) (request_body q) (checksum (0 ∷ request_function q ∷ request_body q))
    ∙ ap (λ (r : Result Request BodyFault). read_well r) (request_only (request_function q) (request_body q) q (record { row = is; function = refl; text = refl }))

-- callback ids are 1 to 255
pub id_from : (last : ℕ) → 1 ≤ next_id last
id_from last = omega arith

pub id_to : (last : ℕ) → next_id last ≤ 255
id_to last = let below = mod_below last 255 (omega arith) in omega (arith, below)

-- ---- the source of a payload

-- what is read as a field is so
abbrev Gives : {A : Type 0} → Field A → (A → Type 0) → Type 0
Gives {A} field F = (p : Place) (x : A) (q : Place) → field.read p ≡ Ok (x, q) → F x

in_range : (b n : ℕ) (t : Bool) → (nat_le 1 b && nat_le b 232) ≡ t → (if t then Some b else None) ≡ Some n → IsNode n
in_range b n true is e =
    let both = and_parts (nat_le 1 b) (nat_le b 232) is in subst IsNode (some_is b n e) (leb-true 1 b both.0, leb-true b 232 both.1)
in_range b n false is e = absurd (none_is n e)

node_read : Gives node IsNode
node_read p n q e =
    let a = bind_ok (byte_from p.before p.rest) (λ b. found_at p.before (if nat_le 1 b.0 && nat_le b.0 232 then Some b.0 else None) b.1) (n, q) e in
    let f = found_ok p.before (if nat_le 1 a.0.0 && nat_le a.0.0 232 then Some a.0.0 else None) a.0.1 n q a.2 in
    in_range a.0.0 n (nat_le 1 a.0.0 && nat_le a.0.0 232) refl f.0

then_read : {A B : Type 0} (first : Field A) (second : Field B) (F : A → Type 0) (G : B → Type 0) → Gives first F → Gives second G → Gives (first then second) (λ x. F x.0 × G x.1)
then_read {A} {B} first second F G one two p x q e =
    let a = bind_ok (first.read p) (λ y. second.read y.1 >>= λ z. Ok ((y.0, z.0), z.1)) (x, q) e in
    let b = bind_ok (second.read a.0.1) (λ z. Ok ((a.0.0, z.0), z.1)) (x, q) a.2 in
    let made : (A × B) × Place = ((a.0.0, b.0.0), b.0.1) in
    subst (λ (y : (A × B) × Place). F y.0.0 × G y.0.1) (ok_is made (x, q) b.2) (one p a.0.0 a.0.1 a.1, two a.0.1 b.0.0 b.0.1 b.1)

handler_read : Gives handler (λ x. Unit {0} × (IsNode x.1.0 × Unit {0}))
handler_read =
    then_read byte (node then counted 1) (λ b. Unit {0}) (λ x. IsNode x.0 × Unit {0}) (λ p x q e. tt) (then_read node (counted 1) IsNode (λ l. Unit {0}) node_read (λ p x q e. tt))

-- of a notice that brings a payload, that it is of a node
abbrev IsOfNode : Notice → Type 0
IsOfNode (ApplicationCommandHandler status source payload) = IsNode source
IsOfNode (SendData id status) = Unit {0}
IsOfNode (AddNode id status said) = Unit {0}
IsOfNode (ApplicationUpdate said) = Unit {0}

notice_read : (func : ℕ) (p q : Place) (v : Notice) → notice_at func p ≡ Ok (v, q) → IsOfNode v
unfolding notice_at handler_at callback_at add_notice_at update_at
notice_read func p q v e =
    row_cases func APPLICATION_COMMAND_HANDLER _ _ _ e (λ f h. let a = as_takes (λ (x : ℕ × (ℕ × List ℕ)). ApplicationCommandHandler x.0 x.1.0 x.1.1) (handler.read p) v q h in subst IsOfNode a.2 (handler_read p a.0 q a.1).1.0) (λ e.
    row_cases func SEND_DATA _ _ _ e (λ f h. let a = as_takes (λ (x : ℕ × TransmitStatus). SendData x.0 x.1) (callback.read p) v q h in subst IsOfNode a.2 tt) (λ e.
    row_cases func ADD_NODE _ _ _ e (λ f h. let a = as_takes _ (add_notice.read p) v q h in subst IsOfNode a.2 tt) (λ e.
    row_cases func APPLICATION_UPDATE _ _ _ e (λ f h. let a = as_takes (λ (u : Update). ApplicationUpdate u) (update.read p) v q h in subst IsOfNode a.2 tt) (λ e.
    absurd (no_row (UnknownFunction func) v q e)))))

pub source_is : (func : ℕ) (body : List ℕ) (status source : ℕ) (payload : List ℕ) → notice_of func body ≡ Ok (ApplicationCommandHandler status source payload) → IsNode source
unfolding notice_of
source_is func body status source payload e =
    let v : Notice = ApplicationCommandHandler status source payload in
    let a = bind_ok (notice_at func (start_of body)) (λ x. Ok x.0) v e in
    subst IsOfNode (ok_is a.0.0 v a.2) (notice_read func (start_of body) a.0.1 a.0.0 a.1)
