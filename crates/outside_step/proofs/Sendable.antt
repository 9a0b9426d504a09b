-- What the chip puts out may be sent.
use Rattle.std.proofs.Common.{◌≡◌, ℕ, ◌≤◌, ◌&&◌, Bool, true, false, All, List, [], ◌∷◌, ◌++◌, length, if◌then◌else◌, ◌==◌, refl}
use Rattle.std.specs.Prelude.{Option, Some, None, nat_le}
use Rattle.std.proofs.lemmas.Bool.{leb-true, and_parts as both_true}
use Rattle.std.proofs.lemmas.List.Elements.{All-append, All-nil, All-cons}
use Rattle.serial_frame.specs.Frame.{FrameParts}
use Rattle.serial_frame.specs.declared.item.Item.{Item}
use Rattle.serial_frame.specs.declared.item.Item.TheVariants.{Good, Refused}
use Rattle.serial_frame.specs.declared.item.Refusal.TheVariants.{Stray, BadLength, BadSum, BadKind, Aborted}
use Rattle.serial_frame.specs.declared.unit.Unit.TheVariants.{Ack, Nak, Can, Framed}
use Rattle.serial_link.specs.State.{copy_due}
use Rattle.serial_link.specs.declared.turn.Turn.{Turn}
use Rattle.serial_link.specs.declared.turn.Turn.TheVariants.{Idle, Copied, Paused}
use Rattle.route_table.specs.declared.route.Route.{Route}
use Rattle.chip_functions.specs.declared.request.Request.{Request}
use Rattle.chip_functions.specs.declared.request.Request.TheVariants.{GetInitData, GetCapabilities, SendData, GetVersion, SendDataAbort, MemoryGetId, GetNodeProtocolInfo, AddNode, RequestNodeInfo, IsFailedNode, GetRoutingInfo}
use Rattle.chip_functions.specs.declared.notice.TransmitStatus.{TransmitStatus}
use Rattle.chip_sim.specs.Waiting.{PortState, is_full, queued_outs, queued_outs_at, next_at, served_outs, written, ticked}
use Rattle.chip_sim.specs.State.{ChipState}
use Rattle.chip_sim.specs.Answers.{takes, is_idle}
use Rattle.chip_sim.specs.Nodes.{is_marked}
use Rattle.chip_sim.specs.Requests.{IsWay, IsWayIf, HasWay, JudgedWay, passed, asked, answer_outs, given_outs, reply_to, performed_outs, sent, requested_outs, heard, judged_outs, callback_frame}
use Rattle.chip_sim.specs.Events.{ChipEvent, Judged, Ticked, Heard, Done, Informed, Joined, Linked, Forgets, Collides, after, outs, collides, ended_outs, May}
use Rattle.chip_sim.specs.Did.{MayAll, outs_all}
use Rattle.chip_sim.specs.declared.out.Sending.{Sending}
use Rattle.chip_sim.specs.declared.out.ChipOut.{ChipOut}
use Rattle.chip_sim.specs.declared.out.ChipOut.TheVariants.{Write, OnAir, NoRoute, AskInfo, Full}
use Rattle.outside_model.specs.Chip.{IsSendable}

abbrev Good_outs : List ChipOut → Type 0
Good_outs outputs = All IsSendable outputs

none : Good_outs []
none = All-nil IsSendable

one : (x : ChipOut) → IsSendable x → Good_outs (x ∷ [])
one x good = All-cons IsSendable x [] good none

both : (xs ys : List ChipOut) → Good_outs xs → Good_outs ys → Good_outs (xs ++ ys)
both xs ys first later = All-append IsSendable xs ys first later

if_full : (b : Bool) → Good_outs (if b then Full ∷ [] else [])
if_full true = one Full tt
if_full false = none

queue_good : (turn : Turn) (p : PortState) (f : FrameParts) → Good_outs (queued_outs_at turn p f)
queue_good Idle p f = one (Write (Framed f)) tt
queue_good (Copied g copies ticks) p f = if_full (is_full p.waiting)
queue_good (Paused g copies ticks) p f = if_full (is_full p.waiting)

pub queued_good : (p : PortState) (f : FrameParts) → Good_outs (queued_outs p f)
queued_good p f = queue_good p.side.turn p f

written_good : (o : Option FrameParts) → Good_outs (written o)
written_good None = none
written_good (Some f) = one (Write (Framed f)) tt

answer_good : (b : Bool) (item : Item) → Good_outs (answer_outs b item)
answer_good true (Good Ack) = none
answer_good false (Good Ack) = none
answer_good true (Good Nak) = none
answer_good false (Good Nak) = none
answer_good true (Good Can) = none
answer_good false (Good Can) = none
answer_good true (Good (Framed f)) = one (Write Can) tt
answer_good false (Good (Framed f)) = one (Write Ack) tt
answer_good true (Refused (Stray x)) = none
answer_good false (Refused (Stray x)) = none
answer_good true (Refused (BadLength n)) = none
answer_good false (Refused (BadLength n)) = none
answer_good true (Refused (BadSum want got)) = one (Write Nak) tt
answer_good false (Refused (BadSum want got)) = one (Write Nak) tt
answer_good true (Refused (BadKind x)) = one (Write Nak) tt
answer_good false (Refused (BadKind x)) = one (Write Nak) tt
answer_good true (Refused Aborted) = none
answer_good false (Refused Aborted) = none

given_good : (s : ChipState) (o : Option FrameParts) → Good_outs (given_outs s o)
given_good s None = none
given_good s (Some f) = queued_good s.port f

sizes : (s : ChipState) (n : ℕ) (payload : List ℕ) → takes s n payload ≡ true → (1 ≤ length payload) × (length payload ≤ 46)
sizes s n payload e =
    let a = both_true (is_idle s.sending) (is_marked s.joined n && (nat_le 1 (length payload) && nat_le (length payload) 46)) e in
    let b = both_true (is_marked s.joined n) (nat_le 1 (length payload) && nat_le (length payload) 46) a.1 in
    let c = both_true (nat_le 1 (length payload)) (nat_le (length payload) 46) b.1 in
    (leb-true 1 (length payload) c.0, leb-true (length payload) 46 c.1)

way_good : (s : ChipState) (n : ℕ) (payload : List ℕ) (way : Option Route) → (1 ≤ length payload) × (length payload ≤ 46) → IsWay s.table n way → Good_outs (sent n payload way)
way_good s n payload None sizes is_way = one NoRoute tt
way_good s n payload (Some route) sizes is_way =
    one (OnAir n route payload) (is_way.not_home, (record { few = is_way.count; nodes = is_way.nodes }), sizes.0, sizes.1)

send_good : (b : Bool) (s : ChipState) (n : ℕ) (payload : List ℕ) (way : Option Route) → (b ≡ true → (1 ≤ length payload) × (length payload ≤ 46)) → IsWayIf b s.table n way
    → Good_outs (if b then sent n payload way else [])
send_good true s n payload way sizes is_way = way_good s n payload way (sizes refl) is_way
send_good false s n payload way sizes is_way = none

performed_good : (request : Request) (s : ChipState) (way : Option Route) → HasWay (Some request) s way → Good_outs (performed_outs request s way)
performed_good GetInitData s way has = none
performed_good GetCapabilities s way has = none
performed_good (SendData n payload options id) s way has = send_good (takes s n payload) s n payload way (sizes s n payload) has
performed_good GetVersion s way has = none
performed_good SendDataAbort s way has = none
performed_good MemoryGetId s way has = none
performed_good (GetNodeProtocolInfo n) s way has = none
performed_good (AddNode mode id) s way has = none
performed_good (RequestNodeInfo n) s way has = one (AskInfo n) tt
performed_good (IsFailedNode n) s way has = none
performed_good (GetRoutingInfo n x y z) s way has = none

requested_good : (request : Option Request) (s : ChipState) (way : Option Route) → HasWay request s way → Good_outs (requested_outs request s way)
requested_good None s way has = none
requested_good (Some request) s way has = both (given_outs s (reply_to s request)) (performed_outs request s way) (given_good s (reply_to s request)) (performed_good request s way has)

judged_good : (frame : Option FrameParts) (s : ChipState) (way : Option Route) → JudgedWay frame s way → Good_outs (judged_outs frame s way)
judged_good None s way has = written_good (next_at s.port.side.turn s.port.waiting)
judged_good (Some f) s way has = requested_good (asked f) s way has

ended_good : (sending : Option Sending) (s : ChipState) (status : TransmitStatus) → Good_outs (ended_outs sending s status)
ended_good None s status = none
ended_good (Some sending) s status = queued_good s.port (callback_frame sending status)

if_good : (b : Bool) (xs : List ChipOut) → Good_outs xs → Good_outs (if b then xs else [])
if_good true xs good = good
if_good false xs good = none

-- what the chip puts out at an event
pub sendable : (s : ChipState) (e : ChipEvent) → May s e → All IsSendable (outs s e)
sendable s (Judged item way) may =
    both (answer_outs (collides s) item) (judged_outs (passed (collides s) item) (heard s item) way) (answer_good (collides s) item) (judged_good (passed (collides s) item) (heard s item) way may)
sendable s Ticked may = both (written (copy_due s.port.side.turn)) (served_outs (ticked s.port)) (written_good (copy_due s.port.side.turn)) (written_good (next_at (ticked s.port).side.turn (ticked s.port).waiting))
sendable s (Heard n payload) may = queued_good s.port _
sendable s (Done status) may = if_good (s.aborted == 0) (ended_outs s.sending s status) (ended_good s.sending s status)
sendable s (Informed n profile) may = queued_good s.port _
sendable s (Joined n listening) may = none
sendable s (Linked a b live) may = none
sendable s (Forgets a b) may = none
sendable s Collides may = none

pub sendable_all : (events : List ChipEvent) (s : ChipState) → MayAll s events → All IsSendable (outs_all s events)
sendable_all [] s may = none
sendable_all (e ∷ events) s may = both (outs s e) (outs_all (after s e) events) (sendable s e may.0) (sendable_all events (after s e) may.1)
