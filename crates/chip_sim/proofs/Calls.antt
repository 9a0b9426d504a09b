-- SendData, their callbacks and the calls of `done`, event by event.
use Rattle.std.proofs.Common.{◌≡◌, ℕ, zero, suc, ◌+◌, ◌-◌, ◌≤◌, ◌<◌, Bool, true, false, cond, eqb, eq-eqb, ◌≢◌, length, List, [], ◌∷◌, ◌++◌, refl, ap, sym, ◌∙◌, subst, arith, inl, inr}
use Rattle.std.specs.Prelude.{Option, Some, None, IsSome, map, replicate, ◌⊎◌, ◌&&◌, nat_le}
use Rattle.std.proofs.lemmas.Bool.{eqb-true}
use Rattle.std.proofs.lemmas.List.{append-nil, replicate-append-replicate}
use Rattle.serial_frame.specs.Frame.{FrameParts}
use Rattle.serial_frame.specs.declared.item.Item.{Item}
use Rattle.serial_frame.specs.declared.item.Item.TheVariants.{Good, Refused}
use Rattle.serial_frame.specs.declared.unit.Unit.TheVariants.{Ack, Nak, Can, Framed}
use Rattle.chip_functions.specs.declared.request.Request.{Request}
use Rattle.chip_functions.specs.declared.request.Request.TheVariants.{GetInitData, GetCapabilities, SendData, GetVersion, SendDataAbort, MemoryGetId, GetNodeProtocolInfo, AddNode, RequestNodeInfo, IsFailedNode, GetRoutingInfo}
use Rattle.chip_functions.specs.declared.notice.TransmitStatus.{TransmitStatus}
use Rattle.chip_sim.specs.Nodes.{is_marked}
use Rattle.chip_sim.specs.State.{ChipState}
use Rattle.chip_sim.specs.Answers.{takes, is_idle}
use Rattle.chip_sim.specs.Requests.{passed, asked, given_if, stopped, reply_to, performed, requested, heard, judged_frame}
use Rattle.chip_sim.specs.Events.{ChipEvent, Judged, Ticked, Heard, Done, Informed, Joined, Linked, Forgets, Collides, after, collides, ended, OwesCall, May}
use Rattle.chip_sim.specs.Rules.{listed, taken, judged_taken, requested_taken, called, Call, calls_of, judged_calls, requested_calls, done}
use Rattle.chip_sim.specs.declared.out.Sending.{Sending}

abbrev pub sending_of : Call → Sending
sending_of c = c.sending

abbrev pub mark_of : Call → Bool
mark_of c = c.aborted

-- giving a frame leaves what is under way
sending_given : (o : Option FrameParts) (s : ChipState) → (given_if s o).sending ≡ s.sending
sending_given None s = refl
sending_given (Some f) s = refl

aborted_given : (o : Option FrameParts) (s : ChipState) → (given_if s o).aborted ≡ s.aborted
aborted_given None s = refl
aborted_given (Some f) s = refl

abbrev taken_if : Bool → ChipState → Sending → ChipState
taken_if b s sending = cond b (record s { sending = Some sending }) s

sending_taken : (b : Bool) (s : ChipState) (sending : Sending) → (taken_if b s sending).sending ≡ cond b (Some sending) s.sending
sending_taken true s sending = refl
sending_taken false s sending = refl

aborted_taken : (b : Bool) (s : ChipState) (sending : Sending) → (taken_if b s sending).aborted ≡ s.aborted
aborted_taken true s sending = refl
aborted_taken false s sending = refl

sending_stopped : (o : Option Sending) (s : ChipState) → s.sending ≡ o → (stopped o s).sending ≡ None
sending_stopped None s e = e
sending_stopped (Some sending) s e = refl

-- each SendData that is taken is under way until its callback

callbacks_send : (o : Option Sending) (rest : Bool) (x : Sending) → listed o ++ cond (is_idle o && rest) (x ∷ []) [] ≡ listed (cond (is_idle o && rest) (Some x) o)
callbacks_send None true x = refl
callbacks_send None false x = refl
callbacks_send (Some y) rest x = refl

callbacks_abort : (o : Option Sending) → listed o ++ [] ≡ map sending_of (calls_of true o) ++ []
callbacks_abort None = refl
callbacks_abort (Some x) = refl

callbacks_request : (r : Request) (s : ChipState)
    → listed s.sending ++ requested_taken (Some r) s ≡ map sending_of (requested_calls (Some r) s) ++ listed (requested (Some r) s).sending
callbacks_request GetInitData s = append-nil (listed s.sending)
callbacks_request GetCapabilities s = append-nil (listed s.sending)
callbacks_request (SendData n payload options id) s =
    callbacks_send s.sending (is_marked s.joined n && (nat_le 1 (length payload) && nat_le (length payload) 46)) (record { node = n; callback_id = id })
    ∙ ap (λ (o : Option Sending). listed o) (sym (sending_taken (takes s n payload) (given_if s (reply_to s (SendData n payload options id))) (record { node = n; callback_id = id })))
callbacks_request GetVersion s = append-nil (listed s.sending)
callbacks_request SendDataAbort s =
    callbacks_abort s.sending
    ∙ ap (λ (o : Option Sending). map sending_of (calls_of true s.sending) ++ listed o) (sym (sending_stopped (given_if s (reply_to s SendDataAbort)).sending (given_if s (reply_to s SendDataAbort)) refl))
callbacks_request MemoryGetId s = append-nil (listed s.sending)
callbacks_request (GetNodeProtocolInfo n) s = append-nil (listed s.sending)
callbacks_request (AddNode mode id) s = append-nil (listed s.sending)
callbacks_request (RequestNodeInfo n) s = append-nil (listed s.sending)
callbacks_request (IsFailedNode n) s = append-nil (listed s.sending)
callbacks_request (GetRoutingInfo n x y z) s = append-nil (listed s.sending)

callbacks_requested : (r : Option Request) (s : ChipState) → listed s.sending ++ requested_taken r s ≡ map sending_of (requested_calls r s) ++ listed (requested r s).sending
callbacks_requested None s = append-nil (listed s.sending)
callbacks_requested (Some r) s = callbacks_request r s

callbacks_judged : (b : Bool) (item : Item) (s : ChipState)
    → listed s.sending ++ judged_taken (passed b item) (heard s item) ≡ map sending_of (judged_calls (passed b item) (heard s item)) ++ listed (judged_frame (passed b item) (heard s item)).sending
callbacks_judged true item s = append-nil (listed s.sending)
callbacks_judged false (Good Ack) s = append-nil (listed s.sending)
callbacks_judged false (Good Nak) s = append-nil (listed s.sending)
callbacks_judged false (Good Can) s = append-nil (listed s.sending)
callbacks_judged false (Good (Framed f)) s = callbacks_requested (asked f) (heard s (Good (Framed f)))
callbacks_judged false (Refused r) s = append-nil (listed s.sending)

callbacks_ended : (o : Option Sending) (s : ChipState) (status : TransmitStatus) → s.sending ≡ o → listed o ++ [] ≡ map sending_of (calls_of false o) ++ listed (ended o s status).sending
callbacks_ended None s status e = ap (λ (o : Option Sending). listed o) (sym e)
callbacks_ended (Some x) s status e = refl

abbrev done_if : Bool → ChipState → TransmitStatus → ChipState
done_if b s status = cond b (ended s.sending s status) (record s { aborted = s.aborted - 1 })

callbacks_done : (b : Bool) (s : ChipState) (status : TransmitStatus) → listed s.sending ++ [] ≡ map sending_of (cond b (calls_of false s.sending) []) ++ listed (done_if b s status).sending
callbacks_done true s status = callbacks_ended s.sending s status refl
callbacks_done false s status = append-nil (listed s.sending)

pub callbacks_event : (s : ChipState) (e : ChipEvent) → listed s.sending ++ taken s e ≡ map sending_of (called s e) ++ listed (after s e).sending
callbacks_event s (Judged item way) = callbacks_judged (collides s) item s
callbacks_event s Ticked = append-nil (listed s.sending)
callbacks_event s (Heard n payload) = append-nil (listed s.sending)
callbacks_event s (Done status) = callbacks_done (eqb s.aborted 0) s status
callbacks_event s (Informed n profile) = append-nil (listed s.sending)
callbacks_event s (Joined n listening) = append-nil (listed s.sending)
callbacks_event s (Linked a b live) = append-nil (listed s.sending)
callbacks_event s (Forgets a b) = append-nil (listed s.sending)
callbacks_event s Collides = append-nil (listed s.sending)

-- the calls of those that were aborted come before that of the one under way

calls_stopped : (o : Option Sending) (s : ChipState) → replicate s.aborted true ++ map mark_of (calls_of true o) ≡ replicate (stopped o s).aborted true
calls_stopped None s = append-nil (replicate s.aborted true)
calls_stopped (Some x) s = replicate-append-replicate s.aborted 1 true

calls_abort : (s : ChipState) (o : Option FrameParts) → replicate s.aborted true ++ map mark_of (calls_of true s.sending) ≡ replicate (stopped (given_if s o).sending (given_if s o)).aborted true
calls_abort s o =
    sym (ap (λ (n : ℕ). replicate n true ++ map mark_of (calls_of true s.sending)) (aborted_given o s))
    ∙ sym (ap (λ (x : Option Sending). replicate (given_if s o).aborted true ++ map mark_of (calls_of true x)) (sending_given o s))
    ∙ calls_stopped (given_if s o).sending (given_if s o)

calls_request : (r : Request) (s : ChipState) → replicate s.aborted true ++ map mark_of (requested_calls (Some r) s) ≡ replicate (requested (Some r) s).aborted true
calls_request GetInitData s = append-nil (replicate s.aborted true)
calls_request GetCapabilities s = append-nil (replicate s.aborted true)
calls_request (SendData n payload options id) s =
    append-nil (replicate s.aborted true)
    ∙ ap (λ (k : ℕ). replicate k true) (sym (aborted_taken (takes s n payload) (given_if s (reply_to s (SendData n payload options id))) (record { node = n; callback_id = id })))
calls_request GetVersion s = append-nil (replicate s.aborted true)
calls_request SendDataAbort s = calls_abort s (reply_to s SendDataAbort)
calls_request MemoryGetId s = append-nil (replicate s.aborted true)
calls_request (GetNodeProtocolInfo n) s = append-nil (replicate s.aborted true)
calls_request (AddNode mode id) s = append-nil (replicate s.aborted true)
calls_request (RequestNodeInfo n) s = append-nil (replicate s.aborted true)
calls_request (IsFailedNode n) s = append-nil (replicate s.aborted true)
calls_request (GetRoutingInfo n x y z) s = append-nil (replicate s.aborted true)

calls_requested : (r : Option Request) (s : ChipState) → replicate s.aborted true ++ map mark_of (requested_calls r s) ≡ replicate (requested r s).aborted true
calls_requested None s = append-nil (replicate s.aborted true)
calls_requested (Some r) s = calls_request r s

calls_judged : (b : Bool) (item : Item) (s : ChipState)
    → replicate s.aborted true ++ map mark_of (judged_calls (passed b item) (heard s item)) ≡ replicate (judged_frame (passed b item) (heard s item)).aborted true
calls_judged true item s = append-nil (replicate s.aborted true)
calls_judged false (Good Ack) s = append-nil (replicate s.aborted true)
calls_judged false (Good Nak) s = append-nil (replicate s.aborted true)
calls_judged false (Good Can) s = append-nil (replicate s.aborted true)
calls_judged false (Good (Framed f)) s = calls_requested (asked f) (heard s (Good (Framed f)))
calls_judged false (Refused r) s = append-nil (replicate s.aborted true)

never : IsSome {T = Sending} None → ⊥
never some = let e : false ≡ true = some in cc

-- the call of the one under way
calls_last : (o : Option Sending) (s : ChipState) (status : TransmitStatus) → s.aborted ≡ 0 → IsSome o
    → replicate s.aborted true ++ map mark_of (calls_of false o) ≡ false ∷ replicate (ended o s status).aborted true
calls_last None s status none some = absurd (never some)
calls_last (Some x) s status none some =
    ap (λ (n : ℕ). replicate n true ++ false ∷ []) none ∙ sym (ap (λ (n : ℕ). false ∷ replicate n true) none)

-- a call that is passed over
calls_over : (n : ℕ) → n ≢ 0 → replicate n true ++ [] ≡ true ∷ replicate (n - 1) true
calls_over zero some = absurd (some refl)
calls_over (suc n) some =
    let less : n ≡ suc n - 1 = omega arith in
    append-nil (replicate (suc n) true) ∙ ap (λ (k : ℕ). true ∷ replicate k true) less

owed_now : (s : ChipState) → s.aborted ≡ 0 → OwesCall s → IsSome s.sending
owed_now s none (inl some) = absurd (omega (arith, none, some))
owed_now s none (inr some) = some

calls_done : (b : Bool) (s : ChipState) (status : TransmitStatus) → eqb s.aborted 0 ≡ b → OwesCall s
    → replicate s.aborted true ++ map mark_of (cond b (calls_of false s.sending) []) ≡ (cond b false true ∷ []) ++ replicate (done_if b s status).aborted true
calls_done true s status e owes = calls_last s.sending s status (eqb-true s.aborted 0 e) (owed_now s (eqb-true s.aborted 0 e) owes)
calls_done false s status e owes = calls_over s.aborted (λ (z : s.aborted ≡ 0). let t : true ≡ false = sym (eq-eqb s.aborted 0 z) ∙ e in absurd (cc))

pub calls_event : (s : ChipState) (e : ChipEvent) → May s e → replicate s.aborted true ++ map mark_of (called s e) ≡ done s e ++ replicate (after s e).aborted true
calls_event s (Judged item way) may = calls_judged (collides s) item s
calls_event s Ticked may = append-nil (replicate s.aborted true)
calls_event s (Heard n payload) may = append-nil (replicate s.aborted true)
calls_event s (Done status) may = calls_done (eqb s.aborted 0) s status refl may
calls_event s (Informed n profile) may = append-nil (replicate s.aborted true)
calls_event s (Joined n listening) may = append-nil (replicate s.aborted true)
calls_event s (Linked a b live) may = append-nil (replicate s.aborted true)
calls_event s (Forgets a b) may = append-nil (replicate s.aborted true)
calls_event s Collides may = append-nil (replicate s.aborted true)
